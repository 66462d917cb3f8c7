-- A register whose points are limited too.
use Rattle.std.specs.Prelude.{ℕ, ◌+◌, ◌-◌, ◌*◌, Bool, cond, ◌&&◌, List, [], ◌++◌, map, length, Some, None, Option, nat_le, nat_lt, slice_index_or, slice_set}
use Rattle.std.specs.List.{range_with_len}
use Rattle.scheme.specs.declared.rows.Reach.{Reach}
use Rattle.scheme.specs.Scheme.{Scheme}
use Rattle.layers.specs.declared.junctions.Junction.{Junction}
use Rattle.layers.specs.declared.gates.Gate.{Gate}
use Rattle.layers.specs.declared.gates.Site.{Site}
use Rattle.layers.specs.declared.gates.Site.TheVariants.{Below, At}

-- A junction takes each point apart (in the field: node splitting): on n points below, what comes to v
-- arrives at v, passes v's gate, and leaves from v + n. Where v is no point below, both are 65,535,
-- which is never a point.
abbrev pub arrival : ℕ → ℕ → ℕ
arrival n v = cond (nat_lt v n) v 65535

abbrev pub departure : ℕ → ℕ → ℕ
departure n v = cond (nat_lt v n) (v + n) 65535

-- a reach below leaves from behind its tail's gate, and ends before its head's
abbrev pub between : ℕ → Reach → Reach
between n r =
    record { tail = departure n r.tail; head = arrival n r.head; limit = r.limit; flow = r.flow }

-- a gate, as the reach through its point
abbrev pub gate_reach : ℕ → ℕ → Gate → Reach
gate_reach n v gate = record { tail = v; head = v + n; limit = gate.limit; flow = gate.flow }

-- what a list of gates has past its end, where no point is
abbrev pub shut : Gate
shut = record { limit = 0; flow = 0 }

abbrev pub through : ℕ → List Gate → ℕ → Reach
through n gates v = gate_reach n v (slice_index_or gates v shut)

-- the reaches below, in their order, and the gates of n points, in theirs
abbrev pub carried_reaches : Scheme → List Reach
carried_reaches s = map (between s.points) s.reaches

abbrev pub gate_reaches : ℕ → List Gate → List Reach
gate_reaches n gates = map (through n gates) (range_with_len 0 n)

abbrev pub gated : Scheme → List Gate → List Reach
gated s gates = carried_reaches s ++ gate_reaches s.points gates

-- What a junction can stand on: at most 256 points and 8,192 reaches.
abbrev pub carriable : Scheme → Bool
carriable s = nat_le s.points 256 && nat_le (length s.reaches) 8192

-- what it stands for on anything larger
abbrev pub nothing : Scheme
nothing = record { points = 0; inlet = 65535; outlet = 65535; reaches = [] }

-- every point taken apart at its gate
abbrev pub split : Scheme → List Gate → Scheme
split s gates =
    record {
      points = 2 * s.points;
      inlet = arrival s.points s.inlet;
      outlet = departure s.points s.outlet;
      reaches = gated s gates;
    }

-- The meaning of a junction over a register, from what that means and the gates.
abbrev pub junction : Scheme → List Gate → Scheme
junction s gates = cond (carriable s) (split s gates) nothing

-- where a junction's reach is kept, if it has the reach
abbrev pub site_of : Scheme → ℕ → Option Site
site_of s k =
    cond (carriable s)
    (cond (nat_lt k (length s.reaches)) (Some Below)
    (cond (nat_lt (k - length s.reaches) s.points) (Some (At (k - length s.reaches))) None))
    None

-- A gate that nothing passes yet. A point past the end of the list may pass 1,000,000.
abbrev pub fresh_gate : List ℕ → ℕ → Gate
fresh_gate limits v = record { limit = slice_index_or limits v 1000000; flow = 0 }

abbrev pub fresh_gate_list : List ℕ → List Gate
fresh_gate_list limits = map (fresh_gate limits) (range_with_len 0 256)

-- the same of a junction, where what the register below means is given
abbrev pub junction_over : {R : Type 0} → (R → Scheme) → Junction R → Scheme
junction_over scheme j = junction (scheme j.below) j.gates

-- what is chosen by a site, or by its absence
abbrev pub by_site : {X : Type 0} → X → (ℕ → X) → X → Option Site → X
by_site below gate nowhere (Some Below) = below
by_site below gate nowhere (Some (At v)) = gate v
by_site below gate nowhere None = nowhere

-- A write goes where the read of the same field comes from: to the register below if the reach is kept there,
abbrev pub below_written : (Scheme → Scheme) → Scheme → ℕ → Scheme
below_written write s k = by_site (write s) (λ v. s) s (site_of s k)

-- and to the gate that the reach is, if it is one.
abbrev pub gates_written : (Gate → Gate) → Scheme → List Gate → ℕ → List Gate
gates_written write s gates k = by_site gates (λ v. slice_set gates v (write (slice_index_or gates v shut))) gates (site_of s k)

abbrev pub gate_limited : ℕ → Gate → Gate
gate_limited x gate = record { limit = x; flow = gate.flow }

abbrev pub gate_flowing : ℕ → Gate → Gate
gate_flowing x gate = record { limit = gate.limit; flow = x }
