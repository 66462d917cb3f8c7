-- What a call may count on once all that is asked before an ordering was answered yes.
use Rattle.std.specs.Prelude.{◌≤◌, ℕ, List, length}
use Rattle.scheme.specs.Flow.{Lawful}
use Rattle.scheme.specs.Questions.{WellFormed}
use Rattle.scheme.specs.Scheme.{Scheme}
use Rattle.pick.specs.Keys.{Keys, size}
use Rattle.solver.specs.Work.{Work}

-- To make an ordering: a lawful flow, and tables o and p and a pick that hold the points.
pub record ReadyToOrder (s : Scheme) (o p : List ℕ) (ks : Keys) : Type 0 where
  pub formed : WellFormed s
  pub lawful : Lawful s
  pub listed : s.points ≤ length o
  pub placed : s.points ≤ length p
  pub room : s.points ≤ size ks

-- To make a round: the third table holds them too.
pub record Ready (s : Scheme) (w : Work) (ks : Keys) : Type 0 where
  pub to_order : ReadyToOrder s w.order w.place ks
  pub needed : s.points ≤ length w.need
