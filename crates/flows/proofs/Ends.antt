-- Where an ordering gains nothing.
use Rattle.std.proofs.Common.{◌≡◌, ℕ, ◌<◌, true, false, List, [], pos, sym, refl, ap, ◌∙◌, ⊎_elim, arith}
use Rattle.std.proofs.lemmas.Bool.{cases_Bool, both_ways}
use Rattle.std.proofs.lemmas.Int.{ints}
use Rattle.scheme.specs.Scheme.{Scheme}
use Rattle.scheme.specs.Flow.{Points, Side, Lawful, value, capacity, among}
use Rattle.scheme.specs.Questions.{WellFormed}
use Rattle.scheme.specs.Crossings.{left_out}
use Rattle.flows.specs.Ordering.{left_into, Next, Taken, Made}
use Rattle.flows.specs.Ordering.Taken.{first, next}
use Rattle.flows.specs.Ordering.Made.{arrives, stops}
use Rattle.flows.specs.OrderingLaws.{LeastSide, NoGainFindsTheLeastSide}
use Rattle.scheme.proofs.SumLaws.{below_same, below_none}
use Rattle.scheme.proofs.Signs.{value_is}
use Rattle.scheme.proofs.Cuts.{left_completes, meet_best}
use Rattle.flows.proofs.Borders.{outside_of, left_by_points, left_within}
use Rattle.flows.proofs.Keys.{key_at_most_left, no_key_nothing_left}
use Rattle.flows.proofs.Orders.{among_push_cases, taken_side, least_above}

-- where no outside point has a key, nothing is left out of the taken points
nothing_left : (s : Scheme) (x : Points) (v : ℕ) → WellFormed s → Next s x v 0 → left_out s x ≡ 0
nothing_left s x v formed last =
    sym (left_by_points s x formed) ∙ below_same (outside_of x (left_into s x)) (λ w. 0) s.points none ∙ below_none s.points
  where
    none : (w : ℕ) → w < s.points → outside_of x (left_into s x) w ≡ 0
    none w l =
        ⊎_elim (λ (yes : x w ≡ true). rw yes refl)
        (λ (no : x w ≡ false). let zero = last.greatest w (l, no) in rw no (no_key_nothing_left s x w (omega arith)))
        (cases_Bool (x w))

module _ (s : Scheme) (x : Points) (formed : WellFormed s) (lawful : Lawful s) (side : Side s x) where
  -- a side meets the value exactly if nothing is left out of it
  pub meets_if_nothing_left : left_out s x ≡ 0 → value s ≡ pos (capacity s x)
  meets_if_nothing_left none =
      let full = left_completes s x formed lawful side in
      omega (arith, ints, value_is s)

  pub nothing_left_if_meets : value s ≡ pos (capacity s x) → left_out s x ≡ 0
  nothing_left_if_meets meets =
      let full = left_completes s x formed lawful side in
      omega (arith, ints, value_is s, meets)

-- a set with the inlet, of which nothing is left out, holds every point that is taken
taken_inside :
    (s : Scheme) (y : Points) {ws ks : List ℕ} → y s.inlet ≡ true → left_out s y ≡ 0 → Taken s ws ks → (u : ℕ)
    → among ws u ≡ true → y u ≡ true
taken_inside s y holds none first u h = among_push_cases (λ w. y w ≡ true) [] s.inlet u h (λ e. absurd (both_ways false refl e)) holds
taken_inside s y holds none (next {ws = ws} {v = v} {k = k} taken n above inner) u h =
    let before = taken_inside s y holds none taken in
    among_push_cases (λ w. y w ≡ true) ws v u h (before u)
    (⊎_elim (λ (yes : y v ≡ true). yes)
    (λ (no : y v ≡ false). absurd (let left = left_within s (among ws) y v before no in let most = key_at_most_left s (among ws) v in omega (arith, n.is)))
    (cases_Bool (y v)))

no_gain :
    (s : Scheme) {order keys : List ℕ} (gain : ℕ) → gain ≡ 0 → WellFormed s → Lawful s → Made s order keys gain
    → LeastSide s order
no_gain s gain e formed lawful (arrives {ks = ks} {k = k} taken n above) = absurd (let some = least_above s k taken above in omega arith)
no_gain s gain e formed lawful (stops {ws = ws} {v = v} taken n) =
    record {
      side = side;
      meets = meets;
      greatest = (meet_best s (among ws) formed lawful side meets).greatest;
      least = λ y other same. taken_inside s y other.holds (nothing_left_if_meets s y formed lawful other (meets ∙ ap pos (sym same))) taken;
    }
  where
    side : Side s (among ws)
    side = taken_side s formed.apart taken

    meets : value s ≡ pos (capacity s (among ws))
    meets = meets_if_nothing_left s (among ws) formed lawful side (nothing_left s (among ws) v formed n)

pub no_gain_least_side : NoGainFindsTheLeastSide
no_gain_least_side s order keys formed lawful made = no_gain s 0 refl formed lawful made
