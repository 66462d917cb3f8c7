-- All reaches at a point, as a loop over those that touch it goes through them.
use Rattle.std.proofs.Common.{◌≡◌, ℕ, zero, suc, ◌+◌, ◌-◌, ◌<◌, ◌≤◌, false, not, eqb, List, [], ◌∷◌, ◌++◌, length, get_or, take, drop, set, Some, None, sym, refl, ap, ◌∙◌, ap₂, arith}
use Rattle.std.proofs.ByRecursion.{All-get_or}
use Rattle.std.proofs.lemmas.List.{append_assoc, append-nil, length-append, length-drop, length-take-le, drop_at, drop_all, drop_more, get_or_at, set_at, set-get_or, take_all}
use Rattle.std.proofs.lemmas.Bool.{or_parts, and_left}
use Rattle.scheme.specs.declared.rows.Reach.{Reach}
use Rattle.scheme.specs.Flow.{Points}
use Rattle.scheme.specs.Questions.{first_fail, Joined}
use Rattle.scheme.specs.Scheme.{Scheme, no_reach, over}
use Rattle.flows.specs.Push.{Needs, pushed, pushed_all}
use Rattle.flows.proofs.Steps.{pushed_more}
use Rattle.solver.specs.Joins.{touches, next_that_touches}
use Rattle.solver.specs.PushSteps.{needs_of, earlier, pushed_at, ReachAsks, pushed_point, PointAsks}
use Rattle.solver.proofs.OneReach.{pushed_none}
use Rattle.solver.proofs.Touching.{Untouched, NextIs, next_is, next_none}

pub length_pushed : (x : Points) (v : ℕ) (rs : List Reach) (needs : Needs) → length (pushed_all x v rs needs).0 ≡ length rs
length_pushed x v [] needs = refl
length_pushed x v (r ∷ rs) needs = ap suc (length_pushed x v rs (pushed x v r needs).1)

-- a reach that does not touch the point is left alone
untouched_same : (x : Points) (v : ℕ) (r : Reach) (needs : Needs) → touches v r ≡ false → pushed x v r needs ≡ (r, needs)
untouched_same x v r needs miss =
    let ends = or_parts (eqb r.tail v) (eqb r.head v) miss in
    pushed_none x v r needs
    (and_left (eqb r.head v) (x r.tail) ends.1) (and_left (eqb r.tail v) (x r.head) ends.0)

module _ (x : Points) (v : ℕ) (rs : List Reach) (needs : Needs) where
  -- the reaches and the needs once the first k reaches are done
  abbrev pub reaches_up_to : ℕ → List Reach
  reaches_up_to k = (pushed_all x v (take k rs) needs).0 ++ drop k rs

  abbrev pub needs_up_to : ℕ → Needs
  needs_up_to k = (pushed_all x v (take k rs) needs).1

  front : (k : ℕ) → k ≤ length rs → length (pushed_all x v (take k rs) needs).0 ≡ k
  front k within = length_pushed x v (take k rs) needs ∙ length-take-le k rs within

  pub next_same : (k : ℕ) → k ≤ length rs → next_that_touches (reaches_up_to k) v k ≡ next_that_touches rs v k
  next_same k within = ap (first_fail (λ r. not (touches v r)) k) (drop_at _ (drop k rs) k (front k within))

  split : (k : ℕ) → k < length rs → reaches_up_to k ≡ (pushed_all x v (take k rs) needs).0 ++ get_or rs k no_reach ∷ drop (k + 1) rs
  split k within = ap (λ ts. (pushed_all x v (take k rs) needs).0 ++ ts) (drop_more rs k no_reach within)

  pub here_same : (k : ℕ) → k < length rs → get_or (reaches_up_to k) k no_reach ≡ get_or rs k no_reach
  here_same k within =
      ap (λ ts. get_or ts k no_reach) (split k within) ∙ get_or_at _ (get_or rs k no_reach) (drop (k + 1) rs) no_reach k (front k (omega arith))

  pub reaches_more :
      (k : ℕ) → k < length rs
      → reaches_up_to (k + 1) ≡ set (reaches_up_to k) k (pushed x v (get_or rs k no_reach) (needs_up_to k)).0
  reaches_more k within =
      let one = pushed x v (get_or rs k no_reach) (needs_up_to k) in
      ap (λ (p : List Reach × Needs). p.0 ++ drop (k + 1) rs) (pushed_more x v rs needs k no_reach within)
      ∙ append_assoc _ (one.0 ∷ []) (drop (k + 1) rs)
      ∙ sym (ap (λ ts. set ts k one.0) (split k within)
      ∙ set_at _ (get_or rs k no_reach) (drop (k + 1) rs) one.0 k (front k (omega arith)))

  pub needs_more : (k : ℕ) → k < length rs → needs_up_to (k + 1) ≡ (pushed x v (get_or rs k no_reach) (needs_up_to k)).1
  needs_more k within = ap (λ (p : List Reach × Needs). p.1) (pushed_more x v rs needs k no_reach within)

  skip_one :
      (k : ℕ) → k < length rs → touches v (get_or rs k no_reach) ≡ false
      → (reaches_up_to (k + 1) ≡ reaches_up_to k) × (needs_up_to (k + 1) ≡ needs_up_to k)
  skip_one k within miss =
      let same = untouched_same x v (get_or rs k no_reach) (needs_up_to k) miss in (
        reaches_more k within
            ∙ ap (λ (p : Reach × Needs). set (reaches_up_to k) k p.0) same
            ∙ ap (set (reaches_up_to k) k) (sym (here_same k within))
            ∙ set-get_or (reaches_up_to k) k no_reach,
        needs_more k within ∙ ap (λ (p : Reach × Needs). p.1) same,
      )

  skips :
      (left k j : ℕ) → j ≡ k + left → j ≤ length rs → Untouched rs v k j
      → (reaches_up_to j ≡ reaches_up_to k) × (needs_up_to j ≡ needs_up_to k)
  skips zero k j far within miss = let e : j ≡ k = omega arith in (ap reaches_up_to e, ap needs_up_to e)
  skips (suc left) k j far within miss =
      let one = skip_one k (omega arith) (miss k (omega arith) (omega arith)) in
      let rest = skips left (k + 1) j (omega arith) within (λ i low high. miss i (omega arith) high) in
      (rest.0 ∙ one.0, rest.1 ∙ one.1)

  -- the reaches from k up to j do not touch the point
  pub skip :
      (k j : ℕ) → k ≤ j → j ≤ length rs → Untouched rs v k j
      → (reaches_up_to j ≡ reaches_up_to k) × (needs_up_to j ≡ needs_up_to k)
  skip k j far within miss = skips (j - k) k j (omega arith) within miss

  pub all_done :
      (reaches_up_to (length rs) ≡ (pushed_all x v rs needs).0) × (needs_up_to (length rs) ≡ (pushed_all x v rs needs).1)
  all_done =
      let whole = take_all (length rs) rs (omega arith) in (
        ap (λ ts. (pushed_all x v ts needs).0 ++ drop (length rs) rs) whole
            ∙ ap (λ ts. (pushed_all x v rs needs).0 ++ ts) (drop_all (length rs) rs (omega arith))
            ∙ append-nil (pushed_all x v rs needs).0,
        ap (λ ts. (pushed_all x v ts needs).1) whole,
      )

  length_after : (k : ℕ) → k ≤ length rs → length (reaches_up_to k) ≡ length rs
  length_after k within =
      length-append (pushed_all x v (take k rs) needs).0 (drop k rs)
      ∙ omega (arith, front k within, length-drop k rs)

-- ---- the loop's turns

-- where the loop stands once the first k reaches are done: t is the scheme and after the table of needs
pub record Reached (s : Scheme) (place need : List ℕ) (v k : ℕ) (t : Scheme) (after : List ℕ) : Type 0 where
  pub upto : k ≤ length s.reaches
  pub flows : t ≡ over s (reaches_up_to (earlier place v) v s.reaches (needs_of need) k)
  pub needs : needs_of after ≡ needs_up_to (earlier place v) v s.reaches (needs_of need) k

pub reached_none : (s : Scheme) (place need : List ℕ) (v : ℕ) → Reached s place need v 0 s need
reached_none s place need v = record { upto = omega arith; flows = refl; needs = refl }

module _ {s : Scheme} {place need : List ℕ} {v k : ℕ} {t : Scheme} {after : List ℕ} (now : Reached s place need v k t after) where
  same_next : next_that_touches t.reaches v k ≡ next_that_touches s.reaches v k
  same_next =
      ap (λ (u : Scheme). next_that_touches u.reaches v k) now.flows
      ∙ next_same (earlier place v) v s.reaches (needs_of need) k now.upto

  -- the loop goes on at j
  pub found : (j : ℕ) → next_that_touches t.reaches v k ≡ Some j → NextIs s.reaches v k j
  found j e = next_is s.reaches v k j (sym same_next ∙ e)

  pub jump : (j : ℕ) → next_that_touches t.reaches v k ≡ Some j → Reached s place need v j t after
  jump j e =
      let is = found j e in
      let same = skip (earlier place v) v s.reaches (needs_of need) k j is.from (omega (arith, is.within)) is.before in
      record {
        upto = omega (arith, is.within);
        flows = now.flows ∙ ap (over s) (sym same.0);
        needs = now.needs ∙ sym same.1;
      }

  -- or ends
  pub ended :
      next_that_touches t.reaches v k ≡ None
      → (t ≡ over s (pushed_point s place need v).0) × (needs_of after ≡ (pushed_point s place need v).1)
  ended e =
      let rs = s.reaches in
      let miss = next_none rs v k (sym same_next ∙ e) in
      let same = skip (earlier place v) v rs (needs_of need) k (length rs) now.upto (omega arith) miss in
      let done = all_done (earlier place v) v rs (needs_of need) in
      (now.flows ∙ ap (over s) (sym same.0 ∙ done.0), now.needs ∙ sym same.1 ∙ done.1)

-- one reach at j
module _ {s : Scheme} {place need : List ℕ} {v j : ℕ} {t : Scheme} {after : List ℕ} (here : Reached s place need v j t after) (within : j < length s.reaches) where
  same_reach : get_or t.reaches j no_reach ≡ get_or s.reaches j no_reach
  same_reach =
      ap (λ (u : Scheme). get_or u.reaches j no_reach) here.flows
      ∙ here_same (earlier place v) v s.reaches (needs_of need) j within

  same_points : t.points ≡ s.points
  same_points = ap (λ (u : Scheme). u.points) here.flows

  one :
      pushed_at t place after v j
      ≡ pushed (earlier place v) v (get_or s.reaches j no_reach) (needs_up_to (earlier place v) v s.reaches (needs_of need) j)
  one = ap₂ (λ r needs. pushed (earlier place v) v r needs) same_reach here.needs

  pub reach_asks : PointAsks s place need v → length after ≡ length need → ReachAsks t place after v j
  reach_asks asks long =
      let joined = All-get_or (Joined s) s.reaches j no_reach within asks.formed.joined in
      let limit = All-get_or (λ r. r.flow ≤ r.limit) s.reaches j no_reach within asks.within in
      let size = length_after (earlier place v) v s.reaches (needs_of need) j here.upto in
      record {
        listed = omega (arith, ap (λ (u : Scheme). length u.reaches) here.flows, size);
        joined = rw same_reach (record {
          tail_point = rw same_points joined.tail_point;
          head_point = rw same_points joined.head_point;
          apart = joined.apart;
          bounded = joined.bounded;
        });
        within = rw same_reach limit;
        inside = rw same_points asks.inside;
        placed = rw same_points asks.placed;
        asked = rw (same_points, long) asks.asked;
        fits = λ w inside.
            let next = needs_more (earlier place v) v s.reaches (needs_of need) j within in
            let same = ap (λ (p : Reach × Needs). p.1 w) one ∙ sym (ap (λ (f : Needs). f w) next) in
            omega (arith, same, asks.fits (j + 1) w (omega (arith, same_points)));
      }

  pub reached_more :
      (u : Scheme) (later : List ℕ) → u ≡ over t (set t.reaches j (pushed_at t place after v j).0)
      → needs_of later ≡ (pushed_at t place after v j).1 → Reached s place need v (j + 1) u later
  reached_more u later flows needs =
      let x = earlier place v in
      let rs = s.reaches in
      let next = pushed x v (get_or rs j no_reach) (needs_up_to x v rs (needs_of need) j) in
      record {
        upto = omega arith;
        flows =
            flows ∙ ap (λ (p : Reach × Needs). over t (set t.reaches j p.0)) one
            ∙ ap (λ (w : Scheme). over w (set w.reaches j next.0)) here.flows
            ∙ ap (over s) (sym (reaches_more x v rs (needs_of need) j within));
        needs = needs ∙ ap (λ (p : Reach × Needs). p.1) one ∙ sym (needs_more x v rs (needs_of need) j within);
      }
