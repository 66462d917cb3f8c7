-- A push along one reach, as the code reads and writes it.
use Rattle.std.proofs.Common.{◌≡◌, ℕ, ◌+◌, ◌-◌, ◌^◌, ◌<◌, ◌≤◌, min, Bool, true, false, ◌&&◌, eqb, ◌≢◌, List, get_or, set, sym, ap, ◌∙◌, subst, arith}
use Rattle.std.proofs.lemmas.List.{get_or_default}
use Rattle.std.proofs.lemmas.Bool.{cond-true, cond-false, and_parts, eqb-true}
use Rattle.scheme.specs.declared.rows.Reach.{Reach}
use Rattle.scheme.specs.Flow.{Points}
use Rattle.scheme.specs.Questions.{Joined}
use Rattle.scheme.specs.Scheme.{Scheme, no_reach, over, flowing, with_flow}
use Rattle.scheme.proofs.Writes.{changed_at}
use Rattle.flows.specs.Push.{Needs, moved, pushed}
use Rattle.solver.specs.PushSteps.{needs_of, earlier, pushed_at, ReachAsks}
use Rattle.solver.proofs.NeedTables.{moved_to}

pub pushed_none :
    (x : Points) (v : ℕ) (r : Reach) (needs : Needs) → (eqb r.head v && x r.tail) ≡ false
    → (eqb r.tail v && x r.head) ≡ false → pushed x v r needs ≡ (r, needs)
pushed_none x v r needs not_on not_back =
    cond-false (eqb r.head v && x r.tail) _ _ not_on ∙ cond-false (eqb r.tail v && x r.head) _ _ not_back

-- the point v gets the amount a from the other end u, and the flow is then f
pub record Gets (x : Points) (v : ℕ) (r : Reach) (needs : Needs) (u a f : ℕ) : Type 0 where
  pub is : pushed x v r needs ≡ (flowing f r, moved a v u needs)
  pub apart : v ≢ u
  pub enough : a ≤ needs v

-- the two ends of a reach are two points
ends_apart : (x : Points) (v end other : ℕ) → end ≢ other → (eqb end v && x other) ≡ true → v ≢ other
ends_apart x v end other apart test same = apart (eqb-true end v (and_parts (eqb end v) (x other) test).0 ∙ same)

-- The row that is read of reach k: what is asked of it, and what is written.
module _ {s : Scheme} {place need : List ℕ} {v k : ℕ} {row : Reach} (asks : ReachAsks s place need v k) (read : row ≡ get_or s.reaches k no_reach) where
  pub row_joined : Joined s row
  row_joined = subst (Joined s) (sym read) asks.joined

  -- the reach ends at v
  pub gets_on :
      {on : Bool} {i a : ℕ} → on ≡ (eqb row.head v && earlier place v row.tail) → on ≡ true → i ≡ v
      → a ≡ min (get_or need i 0) (row.limit - row.flow)
      → Gets (earlier place v) v row (needs_of need) row.tail a (row.flow + a)
  gets_on is-on goes at takes =
      let on = sym is-on ∙ goes in
      record {
        is = rw (takes, at) (cond-true (eqb row.head v && earlier place v row.tail) _ _ on);
        apart = ends_apart (earlier place v) v row.head row.tail (λ e. row_joined.apart (sym e)) on;
        enough = rw (takes, at) (omega arith);
      }

  -- the reach starts at v
  pub gets_back :
      {on back : Bool} {i a : ℕ} → on ≡ (eqb row.head v && earlier place v row.tail) → on ≡ false
      → back ≡ (eqb row.tail v && earlier place v row.head) → back ≡ true → i ≡ v → a ≡ min (get_or need i 0) row.flow
      → Gets (earlier place v) v row (needs_of need) row.head a (row.flow - a)
  gets_back is-on stays is-back goes at takes =
      let back = sym is-back ∙ goes in
      record {
        is =
            cond-false (eqb row.head v && earlier place v row.tail) _ _ (sym is-on ∙ stays)
            ∙ rw (takes, at) (cond-true (eqb row.tail v && earlier place v row.head) _ _ back);
        apart = ends_apart (earlier place v) v row.tail row.head row_joined.apart back;
        enough = rw (takes, at) (omega arith);
      }

  at_row : pushed_at s place need v k ≡ pushed (earlier place v) v row (needs_of need)
  at_row = ap (λ (r : Reach). pushed (earlier place v) v r (needs_of need)) (sym read)

  module _ {u a f : ℕ} (gets : Gets (earlier place v) v row (needs_of need) u a f) where
    pub gets_fits : u < s.points → needs_of need u + a < 2 ^ 64
    gets_fits inside =
        let asked = ap (λ (p : Reach × Needs). p.1 u) (at_row ∙ gets.is) ∙ moved_to a v u (needs_of need) gets.apart in
        omega (arith, asked, asks.fits u inside)

    pub gets_flows : with_flow s k f ≡ over s (set s.reaches k (pushed_at s place need v k).0)
    gets_flows =
        ap (over s)
        (changed_at (flowing f) s.reaches k row asks.listed (read ∙ get_or_default s.reaches k no_reach row asks.listed)
        ∙ sym (ap (λ (p : Reach × Needs). set s.reaches k p.0) (at_row ∙ gets.is)))
