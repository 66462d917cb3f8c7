-- What a pick that holds the keys says of its points, before and after a call.
use Rattle.std.proofs.Common.{◌≡◌, ℕ, ◌+◌, ◌≤◌, Bool, true, false, cond, not, ◌&&◌, ◌||◌, eqb, ltb, List, [], ◌∷◌, ◌++◌, take, set, Some, None, sym, refl, ap, ◌∙◌, subst, ⊎_elim, arith}
use Rattle.std.specs.Option.{option_map}
use Rattle.std.proofs.lemmas.List.{get_or-set_same, get_or-set_other}
use Rattle.std.proofs.lemmas.Bool.{cases_eq, eq-eqb, ne_eqb, lt-ltb, ltb-true, and_parts, not-true}
use Rattle.std.proofs.lemmas.Bool.Decides.{nat_tests}
use Rattle.scheme.specs.declared.rows.Reach.{Reach}
use Rattle.pick.specs.Calls.{greatest_key}
use Rattle.scheme.specs.Scheme.{Scheme}
use Rattle.scheme.specs.Flow.{Points, among}
use Rattle.scheme.specs.Questions.{WellFormed}
use Rattle.scheme.proofs.SumLaws.{all_of, sum_by_same, sum_by_none}
use Rattle.pick.specs.Keys.{Keys, size, key_of, Outside, NoneOutside}
use Rattle.pick.specs.Calls.{started, after_raise, Taken}
use Rattle.pick.proofs.Keys.{outside_below, key_of_started}
use Rattle.flows.specs.Ordering.{left_to, key, grown_from, Outside as Untaken, Next}
use Rattle.flows.specs.OrderingLaws.{KeysWithin}
use Rattle.flows.proofs.Keys.{keys_grow}
use Rattle.flows.proofs.Orders.{among_push, among_last, among_with}
use Rattle.solver.specs.Raises.{GrownFrom, RoomToGrow, HoldsKeys}
use Rattle.solver.proofs.Raised.{raise_each}

-- ---- an entry that is there under a test

from_some : (b : Bool) (j k : ℕ) → cond b (Some j) None ≡ Some k → (b ≡ true) × (j ≡ k)
from_some true j k e = (refl, (cc))
from_some false j k e = absurd (let z : ◌≡◌ {A = ℕ} 0 1 = cc in omega arith)

absent : (b : Bool) (k : ℕ) → cond (b && false) (Some k) None ≡ None
absent true k = refl
absent false k = refl

present : (b : Bool) (j k : ℕ) → j ≡ k → cond b (Some j) None ≡ cond (b && true) (Some k) None
present true j k e = ap Some e
present false j k e = refl

mapped_cond : (f : ℕ → ℕ) (b : Bool) (k : ℕ) → option_map f (cond b (Some k) None) ≡ cond b (Some (f k)) None
mapped_cond f true k = refl
mapped_cond f false k = refl

-- ---- a point of a pick that holds the keys

module _ (s : Scheme) (x taken : Points) (ks : Keys) (held : HoldsKeys s x taken ks) where
  pub outside_untaken : (v k : ℕ) → Outside ks v k → Untaken s taken v
  outside_untaken v k out =
      let both = and_parts (ltb v s.points) (not (taken v)) (from_some _ (key s x v) k (sym (held v) ∙ out)).0 in
      (ltb-true v s.points both.0, not-true (taken v) both.1)

  pub outside_key : (v k : ℕ) → Outside ks v k → k ≡ key s x v
  outside_key v k out = sym (from_some _ (key s x v) k (sym (held v) ∙ out)).1

  pub untaken_outside : (v : ℕ) → Untaken s taken v → Outside ks v (key s x v)
  untaken_outside v out = held v ∙ rw (lt-ltb v s.points out.0, out.1) refl

  pub taken_inside : (v : ℕ) → taken v ≡ true → key_of ks v ≡ None
  taken_inside v is = held v ∙ rw is (absent (ltb v s.points) (key s x v))

-- ---- keys that grow, and a point that is taken

-- where the keys are from all taken points, the one that is taken may come next
pub next_taken :
    (s : Scheme) (x : Points) (ks after : Keys) (v k : ℕ) → HoldsKeys s x x ks → Taken ks v k after → Next s x v k
next_taken s x ks after v k held takes =
    record {
      outside = outside_untaken s x x ks held v k takes.outside;
      is = outside_key s x x ks held v k takes.outside;
      greatest = λ w out. takes.greatest w (key s x w) (untaken_outside s x x ks held w out);
    }

-- it is among the taken ones then
pub held_taken :
    (s : Scheme) (x : Points) (ws : List ℕ) (ks after : Keys) (v k : ℕ) → HoldsKeys s x (among ws) ks
    → Taken ks v k after → HoldsKeys s x (among (ws ++ v ∷ [])) after
held_taken s x ws ks after v k held takes w =
    ap (λ ks. key_of ks w) takes.leaves
    ∙ ⊎_elim
    (λ (e : w ≡ v).
    rw (e, among_last ws v)
    (get_or-set_same ks v None None (outside_below ks v k takes.outside) ∙ sym (absent (ltb v s.points) (key s x v))))
    (λ (ne : w ≡ v → ⊥).
    rw (among_push ws v w, ne_eqb v w (λ e. ne (sym e)), or_none (among ws w)) (get_or-set_other ks v w None None ne ∙ held w))
    (cases_eq w v)
  where
    or_none : (b : Bool) → (b || false) ≡ b
    or_none true = refl
    or_none false = refl

-- the keys from one point more
module _ (s : Scheme) (ws : List ℕ) (last : ℕ) (taken : Points) (ks : Keys) (new : among ws last ≡ false)
    (held : HoldsKeys s (among ws) taken ks) where
  key_grown : (v : ℕ) → key s (among (ws ++ last ∷ [])) v ≡ grown_from last v s.reaches (key s (among ws) v)
  key_grown v = ap (λ x. key s x v) (among_with ws last) ∙ keys_grow s (among ws) last v new

  pub held_grown :
      (after : Keys) → GrownFrom last s.reaches ks after → HoldsKeys s (among (ws ++ last ∷ [])) taken after
  held_grown after grown v =
      grown v ∙ ap (option_map (grown_from last v s.reaches)) (held v)
      ∙ mapped_cond (grown_from last v s.reaches) (ltb v s.points && not (taken v)) (key s (among ws) v)
      ∙ ap (λ k. cond (ltb v s.points && not (taken v)) (Some k) None) (sym (key_grown v))

  pub room_held : KeysWithin greatest_key s → RoomToGrow last s.reaches ks
  room_held within w k count out =
      let P : ℕ → Type 0 = λ k. grown_from last w (take count s.reaches) k ≤ greatest_key in
      subst P (sym (outside_key s (among ws) taken ks held w k out)) (within.on_the_way (among ws) last w count new)

-- ---- the inlet, which is taken first

no_points_no_key : (s : Scheme) (v : ℕ) → key s (among []) v ≡ 0
no_points_no_key s v =
    sum_by_same (left_to (among []) v) (λ r. 0) s.reaches (all_of _ none s.reaches) ∙ sum_by_none s.reaches
  where
    none : (r : Reach) → left_to (among []) v r ≡ 0
    none r = grind (arith, nat_tests)

module _ (s : Scheme) (ks raised : Keys) (formed : WellFormed s) (begun : ks ≡ started (size ks) s.points)
    (room : s.points ≤ size ks) (raises : raised ≡ after_raise ks s.inlet greatest_key) where
  at_start : (w : ℕ) → key_of ks w ≡ cond (ltb w s.points) (Some 0) None
  at_start w = ap (λ ks. key_of ks w) begun ∙ key_of_started (size ks) s.points w room

  at_raised : (w : ℕ) → key_of raised w ≡ cond (ltb w s.points) (Some (0 + cond (eqb s.inlet w) greatest_key 0)) None
  at_raised w =
      ap (λ ks. key_of ks w) raises ∙ raise_each ks s.inlet greatest_key fits w
      ∙ ap (option_map (λ l. l + cond (eqb s.inlet w) greatest_key 0)) (at_start w)
      ∙ mapped_cond (λ l. l + cond (eqb s.inlet w) greatest_key 0) (ltb w s.points) 0
    where
      fits : (k : ℕ) → Outside ks s.inlet k → k + greatest_key ≤ greatest_key
      fits k out = omega (arith, (from_some _ 0 k (sym (at_start s.inlet) ∙ out)).1)

  inlet_outside : Outside raised s.inlet greatest_key
  inlet_outside =
      at_raised s.inlet ∙ rw (lt-ltb s.inlet s.points formed.inlet_point, eq-eqb s.inlet s.inlet refl) refl

  pub inlet_can_be_taken : NoneOutside raised → ⊥
  inlet_can_be_taken none = none s.inlet greatest_key inlet_outside

  module _ (after : Keys) (v k : ℕ) (takes : Taken raised v k after) where
    pub inlet_taken : v ≡ s.inlet
    inlet_taken =
        ⊎_elim (λ (e : s.inlet ≡ v). sym e)
        (λ (ne : s.inlet ≡ v → ⊥).
        let none = (from_some _ _ k (sym (at_raised v) ∙ takes.outside)).1 in
        let zero : k ≡ 0 = sym none ∙ rw (ne_eqb s.inlet v ne) refl in
        absurd (omega (arith, takes.greatest s.inlet greatest_key inlet_outside)))
        (cases_eq s.inlet v)

    pub inlet_held : HoldsKeys s (among []) (among (s.inlet ∷ [])) after
    inlet_held w =
        ap (λ ks. key_of ks w) takes.leaves
        ∙ ⊎_elim
        (λ (e : w ≡ v).
        rw (eq-eqb s.inlet w (sym inlet_taken ∙ sym e))
        (ap (key_of (set raised v None)) e ∙ get_or-set_same raised v None None (outside_below raised v k takes.outside)
        ∙ sym (absent (ltb w s.points) (key s (among []) w))))
        (λ (ne : w ≡ v → ⊥).
        let other = ne_eqb s.inlet w (λ e. ne (sym e ∙ sym inlet_taken)) in
        let zero = ap (λ b. 0 + cond b greatest_key 0) other ∙ sym (no_points_no_key s w) in
        rw other (get_or-set_other raised v w None None ne ∙ at_raised w ∙ present (ltb w s.points) _ _ zero))
        (cases_eq w v)
