-- Signed amounts, one for each reach, as a loop adds them up.
use Rattle.std.proofs.Common.{◌≡◌, ◌⊎◌, ◌^◌, Bool, cond, eqb, ℕ, List, length, get_or, take, sum_by, zero, suc, ◌+◌, ◌*◌, ◌<◌, ◌≤◌, Some, None, Option, unwrap_or, IfSome, pos, neg_ℤ, ℤ, ◌+ℤ◌, ◌-ℤ◌, ◌≤ℤ◌, sym, ap, subst, ◌∙◌, add-one, arith, to_z, of_z, w64, SFits}
use lib.IntN.{sub_ℕ}
use Rattle.std.specs.Prelude.{Decides}
use Rattle.std.specs.List.{slice_get}
use Rattle.std.specs.Option.{option_map}
use Rattle.std.proofs.lemmas.Int.{ints, to_z-of_z}
use Rattle.std.proofs.lemmas.List.{take_all}
use Rattle.std.proofs.lemmas.List.Sums.{sum_by_more}
use Rattle.std.proofs.lemmas.Option.{slice_get-get_or}
use Rattle.scheme.specs.declared.rows.Reach.{Reach}
use Rattle.std.proofs.lemmas.Bool.Decides.{nat_tests}
use Rattle.scheme.specs.Bounds.{most_reaches}
use Rattle.scheme.specs.Scheme.{Scheme, no_reach}
use Rattle.scheme.specs.Flow.{Points, inflow, outflow, leaves, capacity}
use Rattle.scheme.specs.Questions.{steady}
use Rattle.scheme.specs.Sums.{Adds, IsSmall, IsWithin, gain, leaving, most_amount, short}
use Rattle.scheme.proofs.Signs.{sub_is}
use Rattle.scheme.proofs.SumLaws.{sum_by_none, sum_by_plus}

pub small_or_none : (o : Option ℤ) (x : ℤ) → x ≡ unwrap_or o (pos 0) → IfSome o IsSmall → IsSmall x
small_or_none None x e h = subst IsSmall (sym e) (record { above = omega (arith, ints); below = omega (arith, ints) })
small_or_none (Some y) x e h = subst IsSmall (sym e) h

-- the sum of the first k amounts, and that it fits
pub record Summed (P : ℕ → Option ℤ → Type 0) (k : ℕ) (sum : ℤ) : Type 0 where
  pub adds : Adds P k sum
  pub above : neg_ℤ (pos (most_amount * k)) ≤ℤ sum
  pub below : sum ≤ℤ pos (most_amount * k)

fits : (k : ℕ) (sum x : ℤ) → k < most_reaches → neg_ℤ (pos (most_amount * k)) ≤ℤ sum → sum ≤ℤ pos (most_amount * k) → IsSmall x → to_z w64 (of_z w64 (sum +ℤ to_z w64 (of_z w64 x))) ≡ sum +ℤ x
fits k sum x few low high small = grind (arith, ints, to_z-of_z)

-- one more amount
pub summed_next :
    (P : ℕ → Option ℤ → Type 0) (k : ℕ) (sum x : ℤ) (o : Option ℤ) → k < most_reaches → Summed P k sum → P k o → x ≡ unwrap_or o (pos 0) → IfSome o IsSmall
    → Summed P (k + 1) (to_z w64 (of_z w64 (sum +ℤ to_z w64 (of_z w64 x))))
summed_next P k sum x o few sofar p e small =
    let bound : IsSmall x = small_or_none o x e small in
    let more : to_z w64 (of_z w64 (sum +ℤ to_z w64 (of_z w64 x))) ≡ sum +ℤ x = fits k sum x few sofar.above sofar.below bound in
    record {
      adds = rw add-one (sum, o, sofar.adds, p, more ∙ ap (λ z. sum +ℤ z) e);
      above = rw more (omega (arith, ints, sofar.above, bound.above));
      below = rw more (omega (arith, ints, sofar.below, bound.below));
    }

plus :
    (a b c d more less : ℕ) (x y z : ℤ) → z ≡ y +ℤ x → y ≡ sub_ℕ a b → x ≡ sub_ℕ c d → more ≡ a + c → less ≡ b + d → z ≡ sub_ℕ more less
plus a b c d more less x y z whole before last out into = omega (arith, ints, sub_is a b, sub_is c d, sub_is more less)

sum_next : (f : Reach → ℕ) (rs : List Reach) (n : ℕ) → n < length rs → sum_by f (take (suc n) rs) ≡ sum_by f (take n rs) + f (get_or rs n no_reach)
sum_next f rs n within = subst (λ m. sum_by f (take m rs) ≡ sum_by f (take n rs) + f (get_or rs n no_reach)) (add-one n) (sum_by_more f rs n no_reach within)

-- amounts that are each a difference come to the difference of the sums
module _ (P : ℕ → Option ℤ → Type 0) (out into : Reach → ℕ) (rs : List Reach) (each : (k : ℕ) (x : Option ℤ) → P k x → x ≡ option_map (λ r. sub_ℕ (out r) (into r)) (slice_get rs k)) where
  here : (k : ℕ) (x : Option ℤ) → k < length rs → P k x → unwrap_or x (pos 0) ≡ sub_ℕ (out (get_or rs k no_reach)) (into (get_or rs k no_reach))
  here k x within p = ap (λ o. unwrap_or o (pos 0)) (each k x p ∙ ap (option_map (λ r. sub_ℕ (out r) (into r))) (slice_get-get_or rs k no_reach within))

  so_far : (n : ℕ) (z : ℤ) → n ≤ length rs → Adds P n z → z ≡ sub_ℕ (sum_by out (take n rs)) (sum_by into (take n rs))
  so_far zero z within h = h
  so_far (suc n) z within (y, x, before, p, e) =
      let l : n < length rs = omega arith in
      plus _ _ _ _ _ _ (unwrap_or x (pos 0)) y z e (so_far n y (omega arith) before) (here n x l p) (sum_next out rs n l) (sum_next into rs n l)

  pub all_amounts : (n : ℕ) (z : ℤ) → n ≡ length rs → Adds P n z → z ≡ sub_ℕ (sum_by out rs) (sum_by into rs)
  all_amounts n z e h =
      so_far n z (omega arith) h
      ∙ ap (λ xs. sub_ℕ (sum_by out xs) (sum_by into xs)) (take_all n rs (omega arith))

-- a difference that is zero, as a test of its bits
pub no_difference : (a b bits : ℕ) → bits < 2 ^ 64 → to_z w64 bits ≡ sub_ℕ a b → (bits ≡ 0 → b ≡ a) × (b ≡ a → bits ≡ 0)
no_difference a b bits small e = (λ zero. grind (arith, ints, sub_is a b), λ same. grind (arith, ints, sub_is a b))

-- a test of the point and of its gain tells whether the point balances
pub steady_told :
    (s : Scheme) (v inlet outlet : ℕ) (gain : ℤ) (told : Bool) → inlet ≡ s.inlet → outlet ≡ s.outlet → gain ≡ sub_ℕ (outflow s v) (inflow s v)
    → Decides told ((v ≡ inlet) ⊎ ((v ≡ outlet) ⊎ (gain ≡ pos 0))) → steady s v ≡ told
steady_told s v inlet outlet gain told at-inlet at-outlet e h =
    grind (arith, ints, nat_tests, sub_is (outflow s v) (inflow s v))

-- what the sums over a register's reaches are
module _ (P : ℕ → Option ℤ → Type 0) (s : Scheme) (n : ℕ) (z : ℤ) (all : n ≡ length s.reaches) (adds : Adds P n z) where
  pub gains_come_to : (v : ℕ) → ((k : ℕ) (x : Option ℤ) → P k x → x ≡ option_map (gain v) (slice_get s.reaches k)) → z ≡ sub_ℕ (outflow s v) (inflow s v)
  gains_come_to v each = all_amounts P (λ r. cond (eqb r.tail v) r.flow 0) (λ r. cond (eqb r.head v) r.flow 0) s.reaches each n z all adds

  pub limits_come_to : (x : Points) → ((k : ℕ) (y : Option ℤ) → P k y → y ≡ option_map (leaving x) (slice_get s.reaches k)) → z ≡ pos (capacity s x)
  limits_come_to x each =
      let limit : Reach → ℕ = λ r. cond (leaves x r) r.limit 0 in
      let sum : z ≡ sub_ℕ (sum_by limit s.reaches) (sum_by (λ (r : Reach). 0) s.reaches) = all_amounts P limit (λ r. 0) s.reaches each n z all adds in
      omega (arith, ints, sub_is (sum_by limit s.reaches) (sum_by (λ (r : Reach). 0) s.reaches), sum_by_none s.reaches)

  pub shortage_comes_to :
      (v : ℕ) (x : Points) → ((k : ℕ) (y : Option ℤ) → P k y → y ≡ option_map (short v x) (slice_get s.reaches k))
      → z ≡ sub_ℕ (outflow s v) (inflow s v + capacity s x)
  shortage_comes_to v x each =
      let into : Reach → ℕ = λ r. cond (eqb r.head v) r.flow 0 in
      let limit : Reach → ℕ = λ r. cond (leaves x r) r.limit 0 in
      all_amounts P (λ r. cond (eqb r.tail v) r.flow 0) (λ r. into r + limit r) s.reaches each n z all adds
      ∙ ap (sub_ℕ (outflow s v)) (sum_by_plus into limit s.reaches)

-- the test of a difference that is zero
pub zero_tells : (a b : ℕ) (z : ℤ) → SFits w64 z → z ≡ sub_ℕ a b → eqb (of_z w64 z) 0 ≡ eqb a b
zero_tells a b z small e =
    let d = no_difference a b (of_z w64 z) (omega (arith, ints)) (to_z-of_z w64 z small ∙ e) in
    grind (arith, nat_tests)

subtracted : (g l : ℤ) → IsWithin 0xffff_ffff g → IsWithin 0xffff_ffff l → to_z w64 (of_z w64 (to_z w64 (of_z w64 g) -ℤ to_z w64 (of_z w64 l))) ≡ g -ℤ l
subtracted g l small_g small_l = grind (arith, ints, to_z-of_z)

-- the amount of a reach in the shortage, made of the other two
pub short_read :
    (v : ℕ) (x : Points) (r : Reach) (g l : ℤ) → g ≡ gain v r → l ≡ leaving x r → IsWithin 0xffff_ffff g → IsWithin 0xffff_ffff l
    → let d = to_z w64 (of_z w64 (to_z w64 (of_z w64 g) -ℤ to_z w64 (of_z w64 l))) in (d ≡ short v x r) × IsSmall d
short_read v x r g l is_gain is_leaving small_g small_l =
    let d = to_z w64 (of_z w64 (to_z w64 (of_z w64 g) -ℤ to_z w64 (of_z w64 l))) in
    let plain : d ≡ g -ℤ l = subtracted g l small_g small_l in
    let out = cond (eqb r.tail v) r.flow 0 in
    let into = cond (eqb r.head v) r.flow 0 in
    let limit = cond (leaves x r) r.limit 0 in (
      omega (arith, ints, plain, is_gain, is_leaving, sub_is out into, sub_is limit 0, sub_is out (into + limit)),
      record { above = omega (arith, ints, plain); below = omega (arith, ints, plain) },
    )

-- a difference of two numbers that fit
pub difference_read : (a b : ℕ) → a < 2 ^ 62 → b < 2 ^ 62 → to_z w64 (of_z w64 (to_z w64 a -ℤ to_z w64 b)) ≡ sub_ℕ a b
difference_read a b small_a small_b = grind (arith, ints)
