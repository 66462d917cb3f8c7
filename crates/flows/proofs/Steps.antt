-- What a push does at one point: first along one reach, then along all.
use Rattle.std.proofs.Common.{◌≡◌, ℕ, ◌+◌, ◌-◌, ◌<◌, ◌≤◌, min, Bool, true, false, cond, ◌&&◌, eqb, ◌≢◌, List, [], ◌∷◌, ◌++◌, length, get_or, take, sum_by, sym, refl, ap, ◌∙◌, arith}
use Rattle.std.specs.List.{AllZip, AllByRecursion}
use Rattle.std.proofs.lemmas.List.{take_more}
use Rattle.std.proofs.lemmas.List.Sums.{sum_by-cons}
use Rattle.std.proofs.lemmas.Bool.{cond_both, and_parts, both_ways, eqb-true, eq-eqb, ne_eqb}
use Rattle.scheme.specs.declared.rows.Reach.{Reach}
use Rattle.scheme.specs.Scheme.{flowing}
use Rattle.scheme.specs.Flow.{Points, left_on, left_back}
use Rattle.flows.specs.Ordering.{left_to}
use Rattle.flows.specs.Push.{Needs, moved, pushed, pushed_all}
use Rattle.scheme.proofs.SumLaws.{sum_below, below_balance, below_one}
use Rattle.scheme.proofs.Relaid.{Alike, alike_same, alike_flowing}

-- what a reach sends out of a point, and into it
abbrev pub sends : ℕ → Reach → ℕ
sends w r = cond (eqb r.tail w) r.flow 0

abbrev pub brings : ℕ → Reach → ℕ
brings w r = cond (eqb r.head w) r.flow 0

-- the same reach, with the same flow if both ends lie in x
pub record Touched (x : Points) (r t : Reach) : Type 0 where
  pub alike : Alike r t
  pub flow : x r.tail ≡ true → x r.head ≡ true → t.flow ≡ r.flow

pub untouched : (x : Points) (r : Reach) → Touched x r r
untouched x r = record { alike = alike_same r; flow = λ t h. refl }

-- one reach: every point's net outflow rises by as much as its need
pub record Step (x : Points) (n v : ℕ) (r t : Reach) (needs after : Needs) : Type 0 where
  pub touched : Touched x r t
  pub within : r.flow ≤ r.limit → t.flow ≤ t.limit
  pub conserved : (w : ℕ) → sends w t + brings w r + needs w ≡ sends w r + brings w t + after w
  pub drained : after v ≡ needs v - left_to x v r
  pub others : (w : ℕ) → x w ≡ false → v ≢ w → after w ≡ needs w
  pub total : v < n → r.tail < n → r.head < n → sum_below n after ≡ sum_below n needs

-- an amount of what v needs moves to a point u of x, where v is outside
record Moves (x : Points) (n a v u : ℕ) (needs : Needs) : Type 0 where
  elsewhere : (w : ℕ) → x w ≡ false → eqb u w ≡ false
  asked : (w : ℕ) → eqb v w ≡ true → a ≤ needs w
  drained : moved a v u needs v ≡ needs v - a
  others : (w : ℕ) → x w ≡ false → v ≢ w → moved a v u needs w ≡ needs w
  total : v < n → u < n → sum_below n (moved a v u needs) ≡ sum_below n needs

moves :
    (x : Points) (n a v u : ℕ) (needs : Needs) → a ≤ needs v → x u ≡ true → x v ≡ false → Moves x n a v u needs
moves x n a v u needs enough here out =
    record {
      elsewhere = elsewhere;
      asked = asked;
      drained = rw (elsewhere v out, eq-eqb v v refl) (omega arith);
      others = λ w far ne. rw (elsewhere w far, ne_eqb v w ne) (omega arith);
      total = λ vn un.
          let both = below_balance (moved a v u needs) (λ w. cond (eqb v w) a 0) needs (λ w. cond (eqb u w) a 0) n shift in
          omega (arith, below_one v (λ w. a) n vn, below_one u (λ w. a) n un);
    }
  where
    elsewhere : (w : ℕ) → x w ≡ false → eqb u w ≡ false
    elsewhere w far = ne_eqb u w (λ e. both_ways (x w) far (sym (ap x e) ∙ here))

    asked : (w : ℕ) → eqb v w ≡ true → a ≤ needs w
    asked w e = rw (← eqb-true v w e) enough

    at_one : (t h : Bool) (n : ℕ) → (h ≡ true → a ≤ n) → (n + cond t a 0 - cond h a 0) + cond h a 0 ≡ n + cond t a 0
    at_one true true n e = omega (arith, e refl)
    at_one false true n e = omega (arith, e refl)
    at_one true false n e = omega arith
    at_one false false n e = omega arith

    shift : (w : ℕ) → w < n → moved a v u needs w + cond (eqb v w) a 0 ≡ needs w + cond (eqb u w) a 0
    shift w l = at_one (eqb u w) (eqb v w) (needs w) (asked w)

module _ (x : Points) (n v : ℕ) (r : Reach) (needs : Needs) (out : x v ≡ false) where
  -- with the stream: the reach ends at v
  step_on :
      r.head ≡ v → x r.tail ≡ true
      → let a = min (needs v) (left_on r) in Step x n v r (flowing (r.flow + a) r) needs (moved a v r.tail needs)
  step_on e here =
      let a = min (needs v) (left_on r) in
      let move = moves x n a v r.tail needs (omega arith) here out in
      record {
        touched = record { alike = alike_flowing _ r; flow = λ t h. absurd (both_ways (x r.head) (ap x e ∙ out) h) };
        within = λ h. omega arith;
        conserved = λ w. rw e (kept (eqb r.tail w) (eqb v w) r.flow a (needs w) (move.asked w));
        drained = move.drained ∙ rw (eq-eqb r.head v e, here, move.elsewhere v out) (omega arith);
        others = move.others;
        total = λ vn tn hn. move.total vn tn;
      }
    where
      kept :
          (t h : Bool) (f a n : ℕ) → (h ≡ true → a ≤ n)
          → cond t (f + a) 0 + cond h f 0 + n ≡ cond t f 0 + cond h (f + a) 0 + (n + cond t a 0 - cond h a 0)
      kept true true f a n e = omega (arith, e refl)
      kept false true f a n e = omega (arith, e refl)
      kept true false f a n e = omega arith
      kept false false f a n e = omega arith

  -- against it: the reach starts at v, and flow is taken back
  step_back :
      (eqb r.head v && x r.tail) ≡ false → r.tail ≡ v → x r.head ≡ true
      → let a = min (needs v) (left_back r) in Step x n v r (flowing (r.flow - a) r) needs (moved a v r.head needs)
  step_back not_on e here =
      let a = min (needs v) (left_back r) in
      let move = moves x n a v r.head needs (omega arith) here out in
      record {
        touched = record { alike = alike_flowing _ r; flow = λ t h. absurd (both_ways (x r.tail) (ap x e ∙ out) t) };
        within = λ h. omega arith;
        conserved = λ w. rw e (kept (eqb v w) (eqb r.head w) r.flow a (needs w) (omega arith) (move.asked w));
        drained = move.drained ∙ rw (not_on, eq-eqb r.tail v e, here) (omega arith);
        others = move.others;
        total = λ vn tn hn. move.total vn hn;
      }
    where
      kept :
          (t h : Bool) (f a n : ℕ) → a ≤ f → (t ≡ true → a ≤ n)
          → cond t (f - a) 0 + cond h f 0 + n ≡ cond t f 0 + cond h (f - a) 0 + (n + cond h a 0 - cond t a 0)
      kept true true f a n s e = omega (arith, e refl)
      kept false true f a n s e = omega arith
      kept true false f a n s e = omega (arith, e refl)
      kept false false f a n s e = omega arith

  step_none :
      (eqb r.head v && x r.tail) ≡ false → (eqb r.tail v && x r.head) ≡ false → Step x n v r r needs needs
  step_none not_on not_back =
      record {
        touched = untouched x r;
        within = λ h. h;
        conserved = λ w. omega arith;
        drained = rw (not_on, not_back) (omega arith);
        others = λ w far ne. refl;
        total = λ vn tn hn. refl;
      }

  pub step : Step x n v r (pushed x v r needs).0 needs (pushed x v r needs).1
  step =
      cond_both (eqb r.head v && x r.tail) _ _ (λ (p : Reach × Needs). Step x n v r p.0 needs p.1)
      (λ on. let parts = and_parts (eqb r.head v) (x r.tail) on in step_on (eqb-true r.head v parts.0) parts.1)
      (λ not_on.
      cond_both (eqb r.tail v && x r.head) _ _ (λ (p : Reach × Needs). Step x n v r p.0 needs p.1)
      (λ back. let parts = and_parts (eqb r.tail v) (x r.head) back in step_back not_on (eqb-true r.tail v parts.0) parts.1)
      (λ not_back. step_none not_on not_back))

-- ---- all reaches at one point

pub record Steps (x : Points) (n v : ℕ) (rs ts : List Reach) (needs after : Needs) : Type 0 where
  pub touched : AllZip (Touched x) rs ts
  pub within : AllByRecursion (λ r. r.flow ≤ r.limit) rs → AllByRecursion (λ t. t.flow ≤ t.limit) ts
  pub conserved :
      (w : ℕ) → sum_by (sends w) ts + sum_by (brings w) rs + needs w ≡ sum_by (sends w) rs + sum_by (brings w) ts + after w
  pub drained : after v ≡ needs v - sum_by (left_to x v) rs
  pub others : (w : ℕ) → x w ≡ false → v ≢ w → after w ≡ needs w
  pub total : v < n → AllByRecursion (λ r. (r.tail < n) × (r.head < n)) rs → sum_below n after ≡ sum_below n needs

pub steps :
    (x : Points) (n v : ℕ) (rs : List Reach) (needs : Needs) → x v ≡ false
    → Steps x n v rs (pushed_all x v rs needs).0 needs (pushed_all x v rs needs).1
steps x n v [] needs out =
    record {
      touched = tt;
      within = λ h. tt;
      conserved = λ w. omega arith;
      drained = omega arith;
      others = λ w far ne. refl;
      total = λ vn ends. refl;
    }
steps x n v (r ∷ rs) needs out =
    let one = pushed x v r needs in
    let all = pushed_all x v rs one.1 in
    let here : Step x n v r one.0 needs one.1 = step x n v r needs out in
    let rest : Steps x n v rs all.0 one.1 all.1 = steps x n v rs one.1 out in
    record {
      touched = (here.touched, rest.touched);
      within = λ h. (here.within h.0, rest.within h.1);
      conserved = λ w.
          let sent = sum_by-cons (sends w) r rs in
          let sent' = sum_by-cons (sends w) one.0 all.0 in
          let brought = sum_by-cons (brings w) r rs in
          let brought' = sum_by-cons (brings w) one.0 all.0 in
          omega (arith, here.conserved w, rest.conserved w);
      drained = omega (arith, here.drained, rest.drained, sum_by-cons (left_to x v) r rs);
      others = λ w far ne. rest.others w far ne ∙ here.others w far ne;
      total = λ vn ends. rest.total vn ends.1 ∙ here.total vn ends.0.0 ends.0.1;
    }

-- ---- reach by reach, as a loop goes through them

pub pushed_append :
    (x : Points) (v : ℕ) (rs ts : List Reach) (needs : Needs)
    → let front = pushed_all x v rs needs in
    let back = pushed_all x v ts front.1 in
    pushed_all x v (rs ++ ts) needs ≡ (front.0 ++ back.0, back.1)
pushed_append x v [] ts needs = refl
pushed_append x v (r ∷ rs) ts needs =
    let one = pushed x v r needs in
    ap (λ (p : List Reach × Needs). (one.0 ∷ p.0, p.1)) (pushed_append x v rs ts one.1)

pub pushed_more :
    (x : Points) (v : ℕ) (rs : List Reach) (needs : Needs) (i : ℕ) (d : Reach) → i < length rs
    → let front = pushed_all x v (take i rs) needs in
    let one = pushed x v (get_or rs i d) front.1 in
    pushed_all x v (take (i + 1) rs) needs ≡ (front.0 ++ one.0 ∷ [], one.1)
pushed_more x v rs needs i d l = rw (take_more rs i d l) (pushed_append x v (take i rs) (get_or rs i d ∷ []) needs)
