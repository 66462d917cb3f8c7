-- What turning a register round does to its flows and its sides.
use Rattle.std.specs.Prelude.{◌≡◌, not, ℤ}
use Rattle.scheme.specs.Scheme.{Scheme}
use Rattle.scheme.specs.Flow.{Lawful, value, Points, Side, capacity, Greatest}
use Rattle.scheme.specs.Questions.{WellFormed}
use Rattle.layers.specs.Turns.{turned}

-- turning twice gives the register itself
abbrev pub TurnedTwiceIsItself : Type 0
TurnedTwiceIsItself = (s : Scheme) → turned (turned s) ≡ s

-- a flow is lawful above exactly if it is below
abbrev pub LawfulAboveAsBelow : Type 0
LawfulAboveAsBelow = (s : Scheme) → (Lawful (turned s) → Lawful s) × (Lawful s → Lawful (turned s))

-- What leaves the inlet, net, is what enters the outlet, net: the value is the same from either end.
abbrev pub ValueAsBelow : Type 0
ValueAsBelow = (s : Scheme) → WellFormed s → Lawful s → value (turned s) ≡ value s

-- so the greatest value is the same too
abbrev pub GreatestAsBelow : Type 0
GreatestAsBelow = (s : Scheme) (z : ℤ) → WellFormed s → (Greatest (turned s) z → Greatest s z) × (Greatest s z → Greatest (turned s) z)

-- the points that a set leaves out
abbrev pub rest : Points → Points
rest x v = not (x v)

-- a set is a side above exactly if the rest is a side below
abbrev pub SideIfRestIs : Type 0
SideIfRestIs = (s : Scheme) (x : Points) → (Side (turned s) x → Side s (rest x)) × (Side s (rest x) → Side (turned s) x)

-- and as much may leave it above as may leave the rest below
abbrev pub CapacityOfRest : Type 0
CapacityOfRest = (s : Scheme) (x : Points) → capacity (turned s) x ≡ capacity s (rest x)

-- the turned register keeps the form of the register below
abbrev pub WellFormedAsBelow : Type 0
WellFormedAsBelow = (s : Scheme) → WellFormed s → WellFormed (turned s)
