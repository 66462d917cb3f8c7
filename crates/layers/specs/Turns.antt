-- A register turned round.
use Rattle.std.specs.Prelude.{map}
use Rattle.scheme.specs.declared.rows.Reach.{Reach}
use Rattle.scheme.specs.Scheme.{Scheme}

-- a reach that runs the other way (in the field: the reversed arc)
abbrev pub turned_reach : Reach → Reach
turned_reach r = record { tail = r.head; head = r.tail; limit = r.limit; flow = r.flow }

-- every reach runs the other way, and inlet and outlet change places (the reversed network)
abbrev pub turned : Scheme → Scheme
turned s =
    record { points = s.points; inlet = s.outlet; outlet = s.inlet; reaches = map turned_reach s.reaches }
