-- The number that stands for each kind of record.
use Rattle.std.specs.Prelude.{◌≡◌, ℕ, false, Result, MatchResult}
use Rattle.scheme_file.specs.declared.kinds.Kind.{Kind}
use Rattle.scheme_file.specs.declared.kinds.Kind.TheVariants.{Head, Rows, Note}
use Rattle.scheme_file.specs.declared.kinds.UnknownKind.{UnknownKind}
use Rattle.scheme_file.specs.Asked.{known}

abbrev pub kind_number : Kind → ℕ
kind_number Head = 1
kind_number Rows = 2
kind_number Note = 3

-- the kind of this number, or else the number, which no kind has
abbrev pub decodes : ℕ → Result Kind UnknownKind → Type 0
decodes number r =
    MatchResult r (λ kind. kind_number kind ≡ number) (λ other. (other.0 ≡ number) × (known number ≡ false))
