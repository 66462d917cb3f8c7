-- The words of a printed refusal, and of a printed side.
use Rattle.std.specs.Prelude.{ℕ, ◌+◌, cond, List, [], ◌∷◌, ◌++◌, codes, decimal, ◌==◌}
use Rattle.scheme.specs.declared.faults.Layer.{Layer}
use Rattle.scheme.specs.declared.faults.Layer.TheVariants.{File, Book, Call, Pick}
use Rattle.scheme.specs.declared.faults.Refusal.{Refusal}

abbrev pub layer_word : Layer → List ℕ
layer_word File = codes "file"
layer_word Book = codes "book"
layer_word Call = codes "call"
layer_word Pick = codes "pick"

-- `refused`, the layer, the number and the place, with a space between two
abbrev pub refusal_line : Refusal → List ℕ
refusal_line r =
    codes "refused " ++ (layer_word r.layer ++ (codes " " ++ (decimal r.number ++ (codes " " ++ decimal r.place))))

-- a point that is marked, after a space; nothing for one that is not
abbrev pub side_point : ℕ → ℕ → List ℕ
side_point v m = cond (m == 1) (codes " " ++ decimal v) []

-- the points that are marked, in number order; the first mark is that of the point v
abbrev pub side_from : ℕ → List ℕ → List ℕ
side_from v [] = []
side_from v (m ∷ ms) = side_point v m ++ side_from (v + 1) ms
