-- What a file without flow is.
use Rattle.std.specs.Prelude.{◌≡◌, ℕ, List, map, None}
use Rattle.scheme.specs.Scheme.{flowing}
use Rattle.scheme_file.specs.Asked.{file_fault}
use Rattle.scheme_file.specs.Layout.{Contents, FileOf, with_reaches}

-- the same head, notes, ends and limits, and no flow
abbrev pub without_flow : Contents → Contents
without_flow c = with_reaches c (map (flowing 0) c.reaches)

-- the bytes were a file, whatever contents they were a file of they are one of now, without flow, and they are accepted
pub record Cleared (before after : List ℕ) : Type 0 where
  pub contents : Contents
  pub was : FileOf before contents
  pub is : (c : Contents) → FileOf before c → FileOf after (without_flow c)
  pub accepted : file_fault after ≡ None
