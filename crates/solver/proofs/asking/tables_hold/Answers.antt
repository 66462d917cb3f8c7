use Rattle.std.proofs.Common.{◌≡◌, ℕ, ◌&&◌, leb, List, [], ◌∷◌, refl, ap, ◌∙◌, rules, tests}
use Rattle.std.specs.List.{list_all}
use Rattle.std.proofs.lemmas.Iterator.{YieldsList-from_slice}
use Rattle.std.proofs.lemmas.Iterator.Search.{all_from_yields_List}
use Rattle.solver.specs.Calls.{hold_all}
use Rattle.solver.proofs.asking.tables_hold.Goals as goal

all_at_least : (n : ℕ) (ls : List ℕ) → list_all (leb n) ls ≡ hold_all n ls
all_at_least n [] = refl
all_at_least n (l ∷ ls) = ap (λ b. leb n l && b) (all_at_least n ls)

pub returns : goal.returns
returns c =
    all_from_yields_List (leb c.args.points) _ _ c.all.result c.all.ensures.ran
    (YieldsList-from_slice c.args.lengths.now cc) (λ x b q k. search (rules, tests))
    ∙ all_at_least c.args.points c.args.lengths.now
