-- What a table of rows means.
use Rattle.std.specs.Prelude.{vec_items}
use Rattle.scheme.specs.Scheme.{Scheme}
use Rattle.scheme.specs.declared.tables.Table.{Table}

abbrev pub table_scheme : Table → Scheme
table_scheme t = record { points = t.points; inlet = t.inlet; outlet = t.outlet; reaches = vec_items t.rows }
