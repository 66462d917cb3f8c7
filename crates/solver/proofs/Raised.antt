-- How the keys grow from a point that was taken, reach by reach.
use Rattle.std.proofs.Common.{◌≡◌, ℕ, zero, suc, ◌+◌, ◌-◌, ◌<◌, ◌≤◌, true, false, cond, eqb, ◌≢◌, List, length, get_or, take, Some, None, Option, sym, refl, ap, ◌∙◌, ⊎_elim, arith}
use Rattle.std.specs.Option.{option_map}
use Rattle.std.proofs.lemmas.List.{get_or-set_same, get_or-set_other, take_all}
use Rattle.std.proofs.lemmas.List.Sums.{fold_more}
use Rattle.std.proofs.lemmas.Bool.{cases_eq, eq-eqb, ne_eqb}
use Rattle.std.proofs.lemmas.Bool.Decides.{nat_tests}
use Rattle.scheme.specs.declared.rows.Reach.{Reach}
use Rattle.pick.specs.Calls.{greatest_key}
use Rattle.scheme.specs.Scheme.{no_reach}
use Rattle.pick.specs.Keys.{Keys, key_of, Outside}
use Rattle.pick.specs.Calls.{after_raise}
use Rattle.pick.proofs.Calls.{raise_done}
use Rattle.pick.proofs.Keys.{outside_below}
use Rattle.flows.specs.Ordering.{left_to, grown, grown_from}
use Rattle.solver.specs.Joins.{touches, next_that_touches}
use Rattle.solver.specs.Raises.{other_end, left_from_point, GrownFrom, RoomToGrow}
use Rattle.solver.proofs.Touching.{Untouched, next_is, next_none}

-- ---- one reach

module _ (u : ℕ) (r : Reach) where
  -- a reach that touches the point leads from it to the other end, and to no further point
  left_touched : (w : ℕ) → w ≢ u → touches u r ≡ true → left_to (eqb u) w r ≡ cond (eqb (other_end u r) w) (left_from_point u r) 0
  left_touched w ne touch = grind (arith, nat_tests)

  left_untouched : (w : ℕ) → touches u r ≡ false → left_to (eqb u) w r ≡ 0
  left_untouched w miss = grind (arith, nat_tests)

-- ---- one raise

mapped_same : (f : ℕ → ℕ) (o : Option ℕ) → ((k : ℕ) → f k ≡ k) → option_map f o ≡ o
mapped_same f None same = refl
mapped_same f (Some k) same = ap Some (same k)

mapped_twice : (f g h : ℕ → ℕ) (o : Option ℕ) → ((k : ℕ) → g (f k) ≡ h k) → option_map g (option_map f o) ≡ option_map h o
mapped_twice f g h None same = refl
mapped_twice f g h (Some k) same = ap Some (same k)

mapped_alike : (f g : ℕ → ℕ) (o : Option ℕ) → ((k : ℕ) → f k ≡ g k) → option_map f o ≡ option_map g o
mapped_alike f g None same = refl
mapped_alike f g (Some k) same = ap Some (same k)

no_key : {k : ℕ} → ◌≡◌ {A = Option ℕ} (Some k) None → ⊥
no_key e = let z : ◌≡◌ {A = ℕ} 0 1 = cc in omega arith

-- what was mapped to some number
mapped_from : (f : ℕ → ℕ) (o : Option ℕ) (k : ℕ) → option_map f o ≡ Some k → (j : ℕ) × (o ≡ Some j) × (f j ≡ k)
mapped_from f None k e = absurd (let z : ◌≡◌ {A = ℕ} 0 1 = cc in omega arith)
mapped_from f (Some j) k e = (j, refl, (cc))

-- a raise adds to the key of the one point if that is outside, and changes nothing else
module _ (ks : Keys) (v by : ℕ) where
  raised_elsewhere : (w : ℕ) → (w ≡ v → ⊥) → key_of ks w ≡ option_map (λ l. l + cond (eqb v w) by 0) (key_of ks w)
  raised_elsewhere w ne =
      let other = ne_eqb v w (λ e. ne (sym e)) in
      sym (mapped_same (λ l. l + cond (eqb v w) by 0) (key_of ks w) (λ k. rw other (omega arith)))

  raise_outside :
      (k : ℕ) → Outside ks v k → k + by ≤ greatest_key → (w : ℕ)
      → key_of (after_raise ks v by) w ≡ option_map (λ l. l + cond (eqb v w) by 0) (key_of ks w)
  raise_outside k out room w =
      let done = ap (λ after. key_of after w) (raise_done ks v k by out room) in
      ⊎_elim
      (λ (e : w ≡ v).
      let same = get_or-set_same ks v (Some (k + by)) None (outside_below ks v k out) in
      rw (e, eq-eqb v v refl) (rw e at done ∙ same ∙ sym (ap (option_map (λ l. l + by)) out)))
      (λ (ne : w ≡ v → ⊥). done ∙ get_or-set_other ks v w (Some (k + by)) None ne ∙ raised_elsewhere w ne)
      (cases_eq w v)

  raise_inside : key_of ks v ≡ None → (w : ℕ) → key_of (after_raise ks v by) w ≡ option_map (λ l. l + cond (eqb v w) by 0) (key_of ks w)
  raise_inside inside w =
      let refused : after_raise ks v by ≡ ks = rw (inside, after_raise) refl in
      ap (λ after. key_of after w) refused
      ∙ ⊎_elim
      (λ (e : w ≡ v). rw (e, inside) refl)
      (λ (ne : w ≡ v → ⊥). raised_elsewhere w ne)
      (cases_eq w v)

  pub raise_each :
      ((k : ℕ) → Outside ks v k → k + by ≤ greatest_key) → (w : ℕ)
      → key_of (after_raise ks v by) w ≡ option_map (λ l. l + cond (eqb v w) by 0) (key_of ks w)
  raise_each room w =
      elim (key_of ks v) as (λ o. key_of ks v ≡ o → key_of (after_raise ks v by) w ≡ option_map (λ l. l + cond (eqb v w) by 0) (key_of ks w)) [
        | None ↦ λ inside. raise_inside inside w
        | Some k ↦ λ out. raise_outside k out (room k out) w
      ] refl

-- ---- reach by reach

module _ (rs : List Reach) (u : ℕ) where
  grown_more :
      (w k j : ℕ) → j < length rs
      → grown_from u w (take (j + 1) rs) k ≡ grown_from u w (take j rs) k + left_to (eqb u) w (get_or rs j no_reach)
  grown_more w k j within = fold_more (λ k r. grown k (left_to (eqb u) w r)) k rs j no_reach within

  -- a reach that touches the point raises its other end
  pub grown_here :
      (ks before after : Keys) (j : ℕ) → key_of ks u ≡ None → RoomToGrow u rs ks → j < length rs
      → touches u (get_or rs j no_reach) ≡ true → GrownFrom u (take j rs) ks before
      → after ≡ after_raise before (other_end u (get_or rs j no_reach)) (left_from_point u (get_or rs j no_reach))
      → GrownFrom u (take (j + 1) rs) ks after
  grown_here ks before after j inside room within touch so_far raised w =
      ap (λ ks. key_of ks w) raised ∙ raise_each before other left fits w ∙ ap (option_map (λ l. l + cond (eqb other w) left 0)) (so_far w)
      ∙ ⊎_elim
      (λ (e : w ≡ u). rw (e, inside) refl)
      (λ (ne : w ≡ u → ⊥).
      let led = sym (left_touched u r w ne touch) in
      mapped_twice _ _ _ (key_of ks w)
      (λ k. ap (λ n. grown_from u w (take j rs) k + n) led ∙ sym (grown_more w k j within)))
      (cases_eq w u)
    where
      r : Reach
      r = get_or rs j no_reach

      other : ℕ
      other = other_end u r

      left : ℕ
      left = left_from_point u r

      fits : (k : ℕ) → Outside before other k → k + left ≤ greatest_key
      fits k out =
          let from = mapped_from (grown_from u other (take j rs)) (key_of ks other) k (sym (so_far other) ∙ out) in
          let ne : other ≡ u → ⊥ = λ e. no_key (sym from.1 ∙ ap (key_of ks) e ∙ inside) in
          let led = left_touched u r other ne touch ∙ ap (λ b. cond b left 0) (eq-eqb other other refl) in
          omega (arith, from.2, grown_more other from.0 j within, room other from.0 (j + 1) from.1)

  -- one that does not raises nothing
  grown_past :
      (d j i : ℕ) → i ≡ j + d → i ≤ length rs → Untouched rs u j i → (w k : ℕ)
      → grown_from u w (take i rs) k ≡ grown_from u w (take j rs) k
  grown_past zero j i e within none w k = let same : i ≡ j = omega arith in ap (λ n. grown_from u w (take n rs) k) same
  grown_past (suc d) j i e within none w k =
      let last : i ≡ j + d + 1 = omega arith in
      let more = grown_more w k (j + d) (omega arith) in
      let nothing = left_untouched u (get_or rs (j + d) no_reach) w (none (j + d) (omega arith) (omega arith)) in
      let before = grown_past d j (j + d) refl (omega arith) (λ n low high. none n low (omega arith)) w k in
      ap (λ n. grown_from u w (take n rs) k) last ∙ omega arith

  grown_to :
      (ks now : Keys) (j i : ℕ) → j ≤ i → i ≤ length rs → Untouched rs u j i → GrownFrom u (take j rs) ks now
      → GrownFrom u (take i rs) ks now
  grown_to ks now j i le within none so_far w =
      so_far w ∙ mapped_alike _ _ (key_of ks w) (λ k. sym (grown_past (i - j) j i (omega arith) within none w k))

-- ---- the loop

module _ (rs : List Reach) (u : ℕ) where
  pub grown_none : (ks : Keys) → GrownFrom u (take 0 rs) ks ks
  grown_none ks w = sym (mapped_same _ (key_of ks w) (λ k. refl))

  -- a turn at reach j, the next one from k on that touches the point
  pub grown_again :
      (ks before after : Keys) (k j other left : ℕ) → key_of ks u ≡ None → RoomToGrow u rs ks
      → next_that_touches rs u k ≡ Some j → GrownFrom u (take k rs) ks before
      → other ≡ other_end u (get_or rs j no_reach) → left ≡ left_from_point u (get_or rs j no_reach)
      → after ≡ after_raise before other left → GrownFrom u (take (j + 1) rs) ks after
  grown_again ks before after k j other left inside room found so_far end amount raised =
      let next = next_is rs u k j found in
      let here = grown_to rs u ks before k j next.from (omega (arith, next.within)) next.before so_far in
      let done = raised ∙ ap (λ v. after_raise before v left) end ∙ ap (after_raise before (other_end u (get_or rs j no_reach))) amount in
      grown_here rs u ks before after j inside room next.within next.here here done

  pub grown_all :
      (ks now : Keys) (k : ℕ) → k ≤ length rs → next_that_touches rs u k ≡ None → GrownFrom u (take k rs) ks now
      → GrownFrom u rs ks now
  grown_all ks now k within found so_far =
      let all = grown_to rs u ks now k (length rs) within (omega arith) (next_none rs u k found) so_far in
      rw (take_all (length rs) rs (omega arith)) at all
