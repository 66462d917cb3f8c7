-- Signed differences of naturals: the terms are moved across, and the naturals do the rest.
use Rattle.std.proofs.Common.{◌≡◌, ℕ, suc, ◌+◌, ◌-◌, ◌≤◌, ltb, pos, negsuc, ◌≤ℤ◌, arith}
use borrow.Author.Differences.{up, down}
use lib.IntN.{sub_ℕ}
use Rattle.std.proofs.lemmas.Int.{ints}
use Rattle.std.proofs.lemmas.Bool.{cond_both, ltb-true, ltb-false}
use Rattle.scheme.specs.Scheme.{Scheme}
use Rattle.scheme.specs.Flow.{value, inflow, outflow}

-- for `omega`: a difference of two naturals, read as `up - down`
pub sub_is : (a b : ℕ) → up (sub_ℕ a b) + b ≡ down (sub_ℕ a b) + a
sub_is a b =
    cond_both (ltb a b) (negsuc (b - suc a)) (pos (a - b)) (λ z. up z + b ≡ down z + a)
    (λ e. omega (arith, ltb-true a b e)) (λ e. omega (arith, ltb-false a b e))

-- and so the value of a flow
pub value_is : (s : Scheme) → up (value s) + inflow s s.inlet ≡ down (value s) + outflow s s.inlet
value_is s = sub_is (outflow s s.inlet) (inflow s s.inlet)

pub same_differences : (a b c d : ℕ) → a + d ≡ b + c → sub_ℕ a b ≡ sub_ℕ c d
same_differences a b c d h = omega (arith, ints, sub_is a b, sub_is c d)

pub difference_at_most : (a b c : ℕ) → a ≤ b + c → sub_ℕ a b ≤ℤ pos c
difference_at_most a b c h = omega (arith, ints, sub_is a b)
