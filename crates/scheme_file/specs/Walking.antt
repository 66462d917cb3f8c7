-- A step from one record of a file to the next.
use Rattle.std.specs.Prelude.{◌≡◌, ◌<◌, ◌≤◌, ◌==◌, ◌||◌, length, Option, Result, MatchOption, MatchResult}
use Rattle.scheme.specs.declared.faults.FileFault.{FileFault}
use Rattle.scheme.specs.Refusals.{file_refusal, refusal_of}
use Rattle.scheme_file.specs.declared.parts.Part.{Part}
use Rattle.scheme_file.specs.declared.walking.Parts.{Parts}
use Rattle.scheme_file.specs.Asked.{ask_record, end_at, kind_at}
use Rattle.scheme_file.specs.Parts.{PartAt}

-- The record where the walk stands is given, and the walk goes on behind it; or the fault that its questions have, and
-- the walk is at its end.
pub record Step (s : Parts) (item : Result Part FileFault) (t : Parts) : Type 0 where
  pub within : s.at < length s.bytes.now
  pub same : t.bytes.now ≡ s.bytes.now
  pub fault : refusal_of file_refusal item ≡ ask_record s.bytes.now s.at s.rows_seen
  pub on :
      MatchResult item
      (λ part. PartAt s.bytes.now s.at part × (t.at ≡ end_at s.bytes.now s.at) × (t.rows_seen ≡ (s.rows_seen || kind_at s.bytes.now s.at == 2)))
      (λ _. length s.bytes.now ≤ t.at)

-- there is a step, or nothing at the file's end, where the walk stays
abbrev pub Steps : Parts → Option (Result Part FileFault) → Parts → Type 0
Steps s r t = MatchOption r ((length s.bytes.now ≤ s.at) × (t ≡ s)) (λ item. Step s item t)
