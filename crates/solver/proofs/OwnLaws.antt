-- What one use of a call says in the subject's words: each call's own part of the law.
use Rattle.std.proofs.Common.{◌≡◌, ℕ, ◌<◌, ◌≤◌, Bool, true, false, cond, eqb, ltb, leb, List, [], ◌∷◌, ◌++◌, length, get_or, drop, ℤ, pos, Some, None, Ok, Err, sym, refl, ap, ◌∙◌, subst, arith}
use Rattle.std.specs.List.{AllByRecursion}
use Rattle.std.proofs.lemmas.List.FromFn.{get_or-map-range_with_len, length-map-range_with_len}
use Rattle.std.proofs.ByRecursion.{All-weaker}
use Rattle.std.proofs.lemmas.List.{get_or_append_left}
use Rattle.std.proofs.lemmas.Bool.{leb-true, ltb-true}
use Rattle.scheme.specs.declared.faults.CallFault.{CallFault}
use Rattle.scheme.specs.declared.faults.CallFault.TheVariants.{Gains}
use Rattle.scheme.specs.declared.faults.Layer.TheVariants.{Call}
use Rattle.scheme.specs.Bounds.{greatest_limit}
use Rattle.scheme.specs.Refusals.{refused}
use Rattle.scheme.specs.Scheme.{Scheme, no_reach, with_limit, emptied}
use Rattle.scheme.specs.Flow.{Points, Lawful, Greatest, Gap, capacity, leaves, among}
use Rattle.scheme.specs.Marks.{marked}
use Rattle.scheme.specs.Questions.{Question, first_no, book_questions, Joined, WellFormed}
use Rattle.pick.specs.Keys.{Keys}
use Rattle.pick.specs.Calls.{ask_start}
use Rattle.flows.specs.OrderingLaws.{LeastSide}
use Rattle.flows.specs.RoundsTold.{Gainful, gainful, RoundsTold}
use Rattle.flows.specs.RoundsTold.RoundsTold.{none, more}
use Rattle.flows.specs.RoundLaws.{RoundLeaves, GainsWithTheGap, Chain}
use Rattle.scheme.proofs.Asked.{form_means, book_means}
use Rattle.scheme.proofs.SumLaws.{sum_by_same}
use Rattle.flows.proofs.Told.{counted}
use Rattle.flows.proofs.Chains.{chains_bounded, one_gap}
use Rattle.flows.proofs.Ends.{no_gain_least_side}
use Rattle.flows.proofs.Gaps.{gains_while_gap, round_raises, rounds_close}
use Rattle.flows.proofs.Limits.{limits_formed, same_limits_self}
use Rattle.solver.specs.declared.answers.Opened.{Opened}
use Rattle.solver.specs.Calls.{AllYes, ask_tables, hold_all, lengths_of, ordering_questions, round_questions, cut_questions, ask_reach, limit_asked, ask_flow, limit_questions}
use Rattle.solver.specs.Calls.{OpenDoes, LimitDoes, RoundMade, SettleMade, CutOrders, CutMade, CutGains, CutRefused, CutDoes}
use Rattle.solver.specs.Laws.{LawfulWith, Closes, RoundKeeps, SettledAt, SettleKeeps, LeastCut, StillAGap}
use Rattle.solver.specs.Work.{Work, marks_of}
use Rattle.solver.proofs.Yes.{yes_front, yes_back, yes_one}
use Rattle.solver.proofs.Telling.{ordering_refused}
use Rattle.solver.proofs.Standing.{Stands, stands_law, stands_limited, emptied_limits, emptied_lawful}

-- ---- questions that were answered yes

-- the book's questions come first
asked_book : (s : Scheme) (later : List Question) → AllYes (book_questions s ++ later) → WellFormed s × Lawful s
asked_book s later asked = (book_means s).0 (yes_front (book_questions s) later asked)

pub asked_ordering : (s : Scheme) (hold : Bool) (ks : Keys) → AllYes (ordering_questions s hold ks) → WellFormed s × Lawful s
asked_ordering s hold ks = asked_book s (ask_tables hold ∷ ask_start ks s.points ∷ [])

pub asked_round : (s : Scheme) (w : Work) (ks : Keys) → AllYes (round_questions s w ks) → WellFormed s × Lawful s
asked_round s w ks = asked_ordering s (hold_all s.points (lengths_of w)) ks

pub asked_cut :
    (s : Scheme) (w : Work) (marks : List ℕ) (ks : Keys) → AllYes (cut_questions s w marks ks) → WellFormed s × Lawful s
asked_cut s w marks ks = asked_ordering s (hold_all s.points (length marks ∷ lengths_of w)) ks

pub record Limitable (s : Scheme) (k x : ℕ) : Type 0 where
  pub formed : WellFormed s
  pub lawful : Lawful s
  pub within : k < length s.reaches
  pub small : x ≤ greatest_limit
  pub room : (get_or s.reaches k no_reach).flow ≤ x

pub asked_limit : (s : Scheme) (k x : ℕ) → AllYes (limit_questions s k x) → Limitable s k x
asked_limit s k x asked =
    let book = asked_book s (ask_reach s k ∷ limit_asked x ∷ ask_flow s k x ∷ []) asked in
    let reach = yes_back (book_questions s) (ask_reach s k ∷ limit_asked x ∷ ask_flow s k x ∷ []) asked in
    let limit = yes_back (ask_reach s k ∷ []) (limit_asked x ∷ ask_flow s k x ∷ []) reach in
    let flow = yes_back (limit_asked x ∷ []) (ask_flow s k x ∷ []) limit in
    let old = (get_or s.reaches k no_reach).flow in
    record {
      formed = book.0;
      lawful = book.1;
      within =
          ltb-true k (length s.reaches)
          (yes_one (ltb k (length s.reaches)) (refused Call 11 0)
          (yes_front (ask_reach s k ∷ []) (limit_asked x ∷ ask_flow s k x ∷ []) reach));
      small =
          leb-true x greatest_limit
          (yes_one (leb x greatest_limit) (refused Call 12 0) (yes_front (limit_asked x ∷ []) (ask_flow s k x ∷ []) limit));
      room = leb-true old x (yes_one (leb old x) (refused Call 13 0) flow);
    }

-- ---- open and limit

pub open_lawful : (s t : Scheme) (told : Opened) → OpenDoes s (Ok told) t → LawfulWith s t
open_lawful s t told does =
    let formed = limits_formed s (emptied s) (emptied_limits s) ((form_means s).0 does.0) in
    subst (LawfulWith s) (sym does.2)
    (stands_law (record { formed = formed; lawful = emptied_lawful s; under = emptied_limits s }))

pub limit_lawful : (s t : Scheme) (k x old : ℕ) → LimitDoes s k x (Ok old) t → LawfulWith (with_limit s k x) t
limit_lawful s t k x old does =
    let fits = asked_limit s k x does.0 in
    let here : Stands s s = record { formed = fits.formed; lawful = fits.lawful; under = same_limits_self s } in
    subst (LawfulWith (with_limit s k x)) (sym does.2)
    (stands_law (stands_limited s s k x fits.within fits.small fits.room here))

-- ---- round

module _ {s t : Scheme} {w v : Work} {ks ls : Keys} {gain count : ℕ} (made : RoundMade s w ks gain count t v ls) where
  pub round_leaves : RoundLeaves s t gain
  round_leaves =
      let book = asked_round s w ks made.asked in
      round_raises s t made.works.order made.works.keys gain book.0 book.1 made.works.round

  pub round_lawful : LawfulWith s t
  round_lawful =
      let leaves = round_leaves in
      stands_law (record { formed = leaves.formed; lawful = leaves.lawful; under = leaves.limits })

  pub round_closes : 0 < gain → Closes (gainful s made.works.order gain t)
  round_closes some old new gap gap' =
      let book = asked_round s w ks made.asked in
      (rounds_close s t made.works.order made.works.keys gain old new book.0 book.1 made.works.round some gap gap').by_part

  -- it gains exactly while there is a gap
  pub round_gains : GainsWithTheGap s gain
  round_gains =
      let book = asked_round s w ks made.asked in
      gains_while_gap s made.works.order made.works.keys gain book.0 book.1 made.works.round.made

  pub round_keeps : RoundKeeps s t gain
  round_keeps =
      record { lawful = round_lawful; raised = round_leaves.raised; gains = round_gains; closes = round_closes }

-- ---- settle

-- every round of a chain closes its part
pub chain_closes :
    {s t : Scheme} {rounds : List Gainful} → WellFormed s → Lawful s → RoundsTold s rounds t → AllByRecursion Closes rounds
chain_closes formed lawful none = tt
chain_closes {s} formed lawful (more {t = t} {order = order} {keys = keys} {gain = gain} round some rest) =
    let leaves = round_raises s t order keys gain formed lawful round in (
      λ old new gap gap'. (rounds_close s t order keys gain old new formed lawful round some gap gap').by_part,
      chain_closes leaves.formed leaves.lawful rest,
    )

module _
    {s t : Scheme} {w v : Work} {ks ls : Keys} {rounds : List Gainful} {z : ℤ} {count : ℕ}
    (made : SettleMade s w ks rounds z count t v ls)
  where
    pub settle_chain : Chain s t (length rounds)
    settle_chain =
        let book = asked_round s w ks made.asked in chains_bounded s t (length rounds) book.0 book.1 (counted made.works.run.chain)

    pub settle_lawful : LawfulWith s t
    settle_lawful =
        let chain = settle_chain in
        stands_law (record { formed = chain.formed; lawful = chain.lawful; under = chain.limits })

    pub settle_greatest : SettledAt t z
    settle_greatest =
        let chain = settle_chain in
        let side = no_gain_least_side t made.works.order made.works.run.keys chain.formed chain.lawful made.works.run.ended in
        record { told = made.valued; greatest = subst (Greatest t) (sym made.valued) side.greatest }

    pub settle_closes : AllByRecursion Closes rounds
    settle_closes = let book = asked_round s w ks made.asked in chain_closes book.0 book.1 made.works.run.chain

    pub settle_keeps : SettleKeeps s t z
    settle_keeps = record { lawful = settle_lawful; settled = settle_greatest }

-- ---- cut

-- the marks that are written tell which points the order has
pub marks_tell :
    (s : Scheme) (order rest : List ℕ) (v : ℕ) → v < s.points → marked (marks_of s order ++ rest) v ≡ among order v
marks_tell s order rest v point =
    let mark : ℕ → ℕ = λ u. cond (among order u) 1 0 in
    let long : length (marks_of s order) ≡ s.points = length-map-range_with_len mark 0 s.points in
    let front = get_or_append_left (marks_of s order) rest 0 v (omega arith) in
    let here = get_or-map-range_with_len mark 0 s.points v v 0 point (omega arith) in
    ap (λ m. eqb m 1) (front ∙ here) ∙ bit (among order v)
  where
    bit : (b : Bool) → eqb (cond b 1 0) 1 ≡ b
    bit true = refl
    bit false = refl

-- sets that agree on the points have one capacity
pub capacity_same :
    (s : Scheme) (x y : Points) → WellFormed s → ((v : ℕ) → v < s.points → x v ≡ y v) → capacity s x ≡ capacity s y
capacity_same s x y formed same =
    sum_by_same _ _ s.reaches
    (All-weaker (Joined s) (λ r. cond (leaves x r) r.limit 0 ≡ cond (leaves y r) r.limit 0)
    (λ r j. rw (same r.tail j.tail_point, same r.head j.head_point) refl) s.reaches formed.joined)

-- the least cut is that of any marks that agree with the order
least_cut :
    (s : Scheme) (order : List ℕ) (x : Points) (c : ℕ) → WellFormed s → Lawful s → LeastSide s order
    → ((v : ℕ) → v < s.points → x v ≡ among order v) → c ≡ capacity s (among order) → LeastCut s x c
least_cut s order x c formed lawful least same told =
    record {
      lawful = lawful;
      side =
          record {
            holds = same s.inlet formed.inlet_point ∙ least.side.holds;
            lacks = same s.outlet formed.outlet_point ∙ least.side.lacks;
          };
      told = told ∙ sym (capacity_same s x (among order) formed same);
      meets = least.meets ∙ ap pos (sym told);
      greatest = subst (Greatest s) (least.meets ∙ ap pos (sym told)) least.greatest;
      least = λ y side equal v point inside. least.least y side (equal ∙ told) v (sym (same v point) ∙ inside);
    }

module _
    {s : Scheme} {w v : Work} {marks order : List ℕ} {ks ls : Keys} {gain : ℕ}
    (ordered : CutOrders s w marks ks order gain v ls)
  where
    cut_book : WellFormed s × Lawful s
    cut_book = asked_cut s w marks ks ordered.asked

    cut_side : gain ≡ 0 → LeastSide s order
    cut_side zero =
        no_gain_least_side s order ordered.keys cut_book.0 cut_book.1 (rw zero at ordered.made)

    cut_gains : 0 < gain → StillAGap s
    cut_gains some =
        let one = one_gap s cut_book.0 cut_book.1 in
        let with-gap = gains_while_gap s order ordered.keys gain cut_book.0 cut_book.1 ordered.made in
        let above : one.gap ≡ 0 → ⊥ = λ zero. let ended = with-gap.ended (subst (Gap s) zero one.is) in omega arith in
        record { gap = one.gap; is = one.is; above = omega arith }

pub cut_least :
    {s : Scheme} {w v : Work} {ks ls : Keys} {marks after : List ℕ} {c : ℕ} → CutMade s w ks marks c v ls after
    → LeastCut s (marked after) c
cut_least {s} {marks = marks} {c = c} made =
    let ordered = made.ordered in
    let order = made.order in
    let rest = drop (length (marks_of s order)) marks in
    subst (λ (after : List ℕ). LeastCut s (marked after) c) (sym made.marks_are)
    (least_cut s order (marked (marks_of s order ++ rest)) c (cut_book ordered).0 (cut_book ordered).1 (cut_side ordered refl)
    (marks_tell s order rest) made.capacity_is)

pub cut_gap :
    {s : Scheme} {w v : Work} {ks ls : Keys} {marks after : List ℕ} {fault : CallFault}
    → CutGains s w ks marks fault v ls after → StillAGap s
cut_gap made = cut_gains made.ordered made.gains

-- before its ordering cut refuses as the others do, and so never with 14
pub cut_refused :
    (s : Scheme) (w : Work) (ks : Keys) (marks : List ℕ) (fault : CallFault) (v : Work) (ls : Keys) (after : List ℕ)
    → CutDoes s w ks marks (Err fault) v ls after → fault ≡ Gains → StillAGap s
cut_refused s w ks marks fault v ls after = by (first_no (cut_questions s w marks ks)) refl
  where
    by :
        (q : Question) → first_no (cut_questions s w marks ks) ≡ q → CutRefused q s w ks marks fault v ls after
        → fault ≡ Gains → StillAGap s
    by None first gained e = cut_gap gained
    by (Some refusal) first refused e =
        let hold = hold_all s.points (length marks ∷ lengths_of w) in
        absurd (ordering_refused s hold ks fault (first ∙ ap Some (sym refused.0)) e)
