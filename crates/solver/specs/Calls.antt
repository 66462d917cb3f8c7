-- What each call asks, answers and leaves: one definition for each call says everything about one use of it.
--
--   OpenDoes s r t                    open, on the scheme s, answered r and left t
--   LimitDoes s k x r t               limit, of reach k to x
--   ValueDoes s r                     value
--   RoundDoes s w ks r t v ls         round, with the tables w and the pick's keys ks before, v and ls after
--   SettleDoes s w ks rounds r t v ls settle, and the rounds that gained within it
--   CutDoes s w ks m r v ls m'        cut, with the marks m before and m' after
--
-- Only two choices are free, and each is marked where it is made: the order among equal keys, and what the pick holds
-- afterwards. Everything else is an equation.
use Rattle.std.specs.Prelude.{◌≡◌, ℕ, ◌<◌, Bool, true, cond, ◌&&◌, List, [], ◌∷◌, ◌++◌, length, ℤ, Some, None, Ok, Err, Result, nat_le, nat_lt, slice_index_or}
use Rattle.scheme.specs.declared.faults.Layer.TheVariants.{Call}
use Rattle.scheme.specs.declared.faults.CallFault.{CallFault}
use Rattle.scheme.specs.Bounds.{greatest_limit}
use Rattle.scheme.specs.Refusals.{refused, call_refusal}
use Rattle.scheme.specs.Scheme.{Scheme, no_reach, with_limit, emptied}
use Rattle.scheme.specs.Flow.{value, capacity, among}
use Rattle.scheme.specs.Questions.{Question, first_no, form_questions, book_questions}
use Rattle.pick.specs.Keys.{Keys, size}
use Rattle.pick.specs.Calls.{ask_start}
use Rattle.flows.specs.Ordering.{Made}
use Rattle.flows.specs.Round.{Round}
use Rattle.flows.specs.RoundsTold.{Gainful, SettledRun}
use Rattle.solver.specs.declared.answers.Opened.{Opened}
use Rattle.solver.specs.declared.answers.Rounded.{Rounded}
use Rattle.solver.specs.declared.answers.Settled.{Settled}
use Rattle.solver.specs.Work.{Work, work_of, written, worked, marks_of}

-- ---- questions

-- no question was answered no; and this is the first that was
abbrev pub AllYes : List Question → Type 0
AllYes qs = first_no qs ≡ None

abbrev pub FirstNo : List Question → CallFault → Type 0
FirstNo qs fault = first_no qs ≡ Some (call_refusal fault)

-- Does every table hold n entries?
abbrev pub hold_all : ℕ → List ℕ → Bool
hold_all n [] = true
hold_all n (l ∷ ls) = nat_le n l && hold_all n ls

abbrev pub lengths_of : Work → List ℕ
lengths_of w = length w.order ∷ length w.place ∷ length w.need ∷ []

abbrev pub ask_tables : Bool → Question
ask_tables hold = cond hold None (Some (refused Call 10 0))

-- what is asked before an ordering, where `hold` tells whether all tables hold n entries: of the book, of the tables,
-- and of the pick
abbrev pub ordering_questions : Scheme → Bool → Keys → List Question
ordering_questions s hold ks = book_questions s ++ (ask_tables hold ∷ ask_start ks s.points ∷ [])

-- what round and settle ask
abbrev pub round_questions : Scheme → Work → Keys → List Question
round_questions s w ks = ordering_questions s (hold_all s.points (lengths_of w)) ks

-- what cut asks before its ordering: the same, with the marks among the tables
abbrev pub cut_questions : Scheme → Work → List ℕ → Keys → List Question
cut_questions s w marks ks = ordering_questions s (hold_all s.points (length marks ∷ lengths_of w)) ks

-- Is the reach there? Is the new limit allowed? Is it at least the flow?
abbrev pub ask_reach : Scheme → ℕ → Question
ask_reach s k = cond (nat_lt k (length s.reaches)) None (Some (refused Call 11 0))

abbrev pub limit_asked : ℕ → Question
limit_asked x = cond (nat_le x greatest_limit) None (Some (refused Call 12 0))

abbrev pub ask_flow : Scheme → ℕ → ℕ → Question
ask_flow s k x = cond (nat_le (slice_index_or s.reaches k no_reach).flow x) None (Some (refused Call 13 0))

abbrev pub limit_questions : Scheme → ℕ → ℕ → List Question
limit_questions s k x = book_questions s ++ (ask_reach s k ∷ limit_asked x ∷ ask_flow s k x ∷ [])

-- ---- open, limit, value

abbrev pub OpenDoes : Scheme → Result Opened CallFault → Scheme → Type 0
OpenDoes s (Ok told) t =
    AllYes (form_questions s) × (told ≡ record { points = s.points; reaches = length s.reaches }) × (t ≡ emptied s)
OpenDoes s (Err fault) t = FirstNo (form_questions s) fault × (t ≡ s)

abbrev pub LimitDoes : Scheme → ℕ → ℕ → Result ℕ CallFault → Scheme → Type 0
LimitDoes s k x (Ok old) t =
    AllYes (limit_questions s k x) × (old ≡ (slice_index_or s.reaches k no_reach).limit) × (t ≡ with_limit s k x)
LimitDoes s k x (Err fault) t = FirstNo (limit_questions s k x) fault × (t ≡ s)

abbrev pub ValueDoes : Scheme → Result ℤ CallFault → Type 0
ValueDoes s (Ok z) = AllYes (book_questions s) × (z ≡ value s)
ValueDoes s (Err fault) = FirstNo (book_questions s) fault

-- ---- round

-- an ordering was made, its gain pushed, and the tables written
pub record RoundWorks (s : Scheme) (w : Work) (gain count : ℕ) (t : Scheme) (v : Work) : Type 0 where
  -- FREE: the order among equal keys; `round` fences it in, since each point of it has the greatest key
  pub order : List ℕ
  pub keys : List ℕ
  pub round : Round s order keys gain t
  pub told : count ≡ length order
  pub tables : v ≡ worked s order gain w

pub record RoundMade (s : Scheme) (w : Work) (ks : Keys) (gain count : ℕ) (t : Scheme) (v : Work) (ls : Keys) : Type 0 where
  pub asked : AllYes (round_questions s w ks)
  pub works : RoundWorks s w gain count t v
  -- FREE: what the pick holds then, but for its size
  pub size_stays : size ls ≡ size ks

abbrev pub RoundDoes : Scheme → Work → Keys → Result Rounded CallFault → Scheme → Work → Keys → Type 0
RoundDoes s w ks (Ok told) t v ls = RoundMade s w ks told.gain told.length t v ls
RoundDoes s w ks (Err fault) t v ls = FirstNo (round_questions s w ks) fault × (t ≡ s) × (v ≡ w) × (ls ≡ ks)

-- ---- settle

-- The order table after rounds that each wrote its order at its beginning: past a shorter order there stands what an
-- earlier, longer one left.
abbrev pub after_orders : List Gainful → List ℕ → List ℕ
after_orders [] table = table
after_orders (g ∷ later) table = after_orders later (written g.order table)

-- rounds that gained, and then one that gains 0, whose tables are left
pub record SettleWorks (s : Scheme) (w : Work) (rounds : List Gainful) (t : Scheme) (v : Work) : Type 0 where
  -- FREE: the orders among equal keys, those of the rounds and this one, which ends them
  pub order : List ℕ
  pub run : SettledRun s rounds order t
  pub tables : v ≡ worked t order 0 (work_of (after_orders rounds w.order) w.place w.need)

pub record SettleMade (s : Scheme) (w : Work) (ks : Keys) (rounds : List Gainful) (z : ℤ) (count : ℕ) (t : Scheme) (v : Work) (ls : Keys) : Type 0 where
  pub asked : AllYes (round_questions s w ks)
  pub works : SettleWorks s w rounds t v
  pub valued : z ≡ value t
  pub counted : count ≡ length rounds
  -- FREE: what the pick holds then, but for its size
  pub size_stays : size ls ≡ size ks

abbrev pub SettleDoes : Scheme → Work → Keys → List Gainful → Result Settled CallFault → Scheme → Work → Keys → Type 0
SettleDoes s w ks rounds (Ok told) t v ls = SettleMade s w ks rounds told.value told.rounds t v ls
SettleDoes s w ks rounds (Err fault) t v ls =
    FirstNo (round_questions s w ks) fault × (rounds ≡ []) × (t ≡ s) × (v ≡ w) × (ls ≡ ks)

-- ---- cut

-- an ordering as cut makes it: no water is pushed, so nobody needs anything
pub record CutOrders (s : Scheme) (w : Work) (marks : List ℕ) (ks : Keys) (order : List ℕ) (gain : ℕ) (v : Work) (ls : Keys) : Type 0 where
  pub asked : AllYes (cut_questions s w marks ks)
  pub keys : List ℕ
  pub made : Made s order keys gain
  pub tables : v ≡ worked s order 0 w
  -- FREE: what the pick holds then, but for its size
  pub size_stays : size ls ≡ size ks

-- with gain 0 the points of the order are marked, and their side's capacity is told
pub record CutMade (s : Scheme) (w : Work) (ks : Keys) (marks : List ℕ) (c : ℕ) (v : Work) (ls : Keys) (after : List ℕ) : Type 0 where
  -- FREE: the order among equal keys (its points are not: see the law)
  pub order : List ℕ
  pub ordered : CutOrders s w marks ks order 0 v ls
  pub marks_are : after ≡ written (marks_of s order) marks
  pub capacity_is : c ≡ capacity s (among order)

-- with a gain it refuses, and marks nothing
pub record CutGains (s : Scheme) (w : Work) (ks : Keys) (marks : List ℕ) (fault : CallFault) (v : Work) (ls : Keys) (after : List ℕ) : Type 0 where
  -- FREE: the order among equal keys
  pub order : List ℕ
  pub gain : ℕ
  pub ordered : CutOrders s w marks ks order gain v ls
  pub gains : 0 < gain
  pub told : call_refusal fault ≡ refused Call 14 0
  pub marks_stay : after ≡ marks

-- a refusal before the ordering leaves all as it was; the one after it leaves the ordering
abbrev pub CutRefused : Question → Scheme → Work → Keys → List ℕ → CallFault → Work → Keys → List ℕ → Type 0
CutRefused (Some refusal) s w ks marks fault v ls after =
    (call_refusal fault ≡ refusal) × (v ≡ w) × (ls ≡ ks) × (after ≡ marks)
CutRefused None s w ks marks fault v ls after = CutGains s w ks marks fault v ls after

abbrev pub CutDoes : Scheme → Work → Keys → List ℕ → Result ℕ CallFault → Work → Keys → List ℕ → Type 0
CutDoes s w ks marks (Ok c) v ls after = CutMade s w ks marks c v ls after
CutDoes s w ks marks (Err fault) v ls after =
    CutRefused (first_no (cut_questions s w marks ks)) s w ks marks fault v ls after
