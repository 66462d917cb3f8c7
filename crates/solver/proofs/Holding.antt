-- What it comes to that all questions before an ordering were answered yes: the book is in order, and the tables and the
-- pick hold its points.
use Rattle.std.proofs.Common.{◌≡◌, ℕ, ◌≤◌, true, leb, List, [], ◌∷◌, length, arith}
use Rattle.std.specs.List.{AllByRecursion}
use Rattle.std.proofs.lemmas.Bool.{leb-true, and_parts}
use Rattle.scheme.specs.Flow.{Lawful}
use Rattle.scheme.specs.Questions.{WellFormed, book_questions}
use Rattle.scheme.specs.Scheme.{Scheme}
use Rattle.pick.specs.Keys.{Keys, size}
use Rattle.pick.specs.Calls.{ask_start}
use Rattle.solver.specs.Calls.{AllYes, hold_all, lengths_of, ask_tables, ordering_questions, round_questions, cut_questions}
use Rattle.solver.specs.Ready.{Ready}
use Rattle.solver.specs.Work.{Work}
use Rattle.solver.proofs.OwnLaws.{asked_ordering}
use Rattle.solver.proofs.Yes.{yes_back, yes_first, yes_then, yes_test}

-- every length is at least n
all_hold : (n : ℕ) (lengths : List ℕ) → hold_all n lengths ≡ true → AllByRecursion (λ l. n ≤ l) lengths
all_hold n [] hold = tt
all_hold n (l ∷ ls) hold =
    let parts = and_parts (leb n l) (hold_all n ls) hold in (leb-true n l parts.0, all_hold n ls parts.1)

record Held (s : Scheme) (lengths : List ℕ) (ks : Keys) : Type 0 where
  formed : WellFormed s
  lawful : Lawful s
  tables : AllByRecursion (λ l. s.points ≤ l) lengths
  room : s.points ≤ size ks

holds :
    (s : Scheme) (lengths : List ℕ) (ks : Keys) → AllYes (ordering_questions s (hold_all s.points lengths) ks)
    → Held s lengths ks
holds s lengths ks asked =
    let hold = hold_all s.points lengths in
    let book = asked_ordering s hold ks asked in
    let later = yes_back (book_questions s) (ask_tables hold ∷ ask_start ks s.points ∷ []) asked in
    let pick = yes_first (ask_start ks s.points) _ (yes_then (ask_tables hold) _ later) in
    record {
      formed = book.0;
      lawful = book.1;
      tables = all_hold s.points lengths (yes_test hold _ (yes_first (ask_tables hold) _ later));
      room = leb-true s.points (size ks) (yes_test (leb s.points (size ks)) _ pick);
    }

pub ready : (s : Scheme) (w : Work) (ks ls : Keys) → AllYes (round_questions s w ks) → size ls ≡ size ks → Ready s w ls
ready s w ks ls asked stays =
    let h = holds s (lengths_of w) ks asked in
    record {
      to_order =
          record {
            formed = h.formed;
            lawful = h.lawful;
            listed = h.tables.0;
            placed = h.tables.1.0;
            room = omega (arith, stays, h.room);
          };
      needed = h.tables.1.1.0;
    }

pub ready_to_cut :
    (s : Scheme) (w : Work) (marks : List ℕ) (ks ls : Keys) → AllYes (cut_questions s w marks ks) → size ls ≡ size ks
    → (s.points ≤ length marks) × Ready s w ls
ready_to_cut s w marks ks ls asked stays =
    let h = holds s (length marks ∷ lengths_of w) ks asked in (
      h.tables.0,
      record {
        to_order =
            record {
              formed = h.formed;
              lawful = h.lawful;
              listed = h.tables.1.0;
              placed = h.tables.1.1.0;
              room = omega (arith, stays, h.room);
            };
        needed = h.tables.1.1.1.0;
      },
    )
