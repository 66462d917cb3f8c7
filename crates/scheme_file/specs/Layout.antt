-- What a scheme file is: its records, laid one after another.
use Rattle.std.specs.Prelude.{◌≡◌, ℕ, ◌+◌, ◌^◌, ◌<◌, ◌≤◌, List, ◌∷◌, ◌++◌, map, length, drop}
use Rattle.std.specs.List.{flat_map, AllByRecursion}
use Rattle.scheme.specs.declared.rows.Reach.{Reach}
use Rattle.scheme.specs.Scheme.{Scheme}
use Rattle.scheme_file.specs.Numbers.{two, four}

pub data FileRecord : Type 0 where
  head : ℕ → ℕ → ℕ → FileRecord
  rows : List Reach → FileRecord
  note : List ℕ → FileRecord

abbrev pub kind_of : FileRecord → ℕ
kind_of (head points inlet outlet) = 1
kind_of (rows reaches) = 2
kind_of (note bytes) = 3

-- a row: tail, head, limit and flow
abbrev pub row_bytes : Reach → List ℕ
row_bytes r = two r.tail ++ (two r.head ++ (four r.limit ++ four r.flow))

abbrev pub body_of : FileRecord → List ℕ
body_of (head points inlet outlet) = two points ++ (two inlet ++ two outlet)
body_of (rows reaches) = flat_map row_bytes reaches
body_of (note bytes) = bytes

-- a record: the body's length, the kind and the body
abbrev pub record_bytes : FileRecord → List ℕ
record_bytes r = four (length (body_of r)) ++ (two (kind_of r) ++ body_of r)

-- a record is laid at a place of a byte string
abbrev pub LaidAt : List ℕ → ℕ → FileRecord → Type 0
LaidAt bs at r = drop at bs ≡ record_bytes r ++ drop (at + length (record_bytes r)) bs

-- what a scheme file holds: a head, one block of rows, and notes before and after the rows
pub record Contents : Type 0 where
  pub points : ℕ
  pub inlet : ℕ
  pub outlet : ℕ
  pub before : List (List ℕ)
  pub reaches : List Reach
  pub after : List (List ℕ)

abbrev pub records : Contents → List FileRecord
records c =
    head c.points c.inlet c.outlet ∷ (map note c.before ++ rows c.reaches ∷ map note c.after)

-- the bytes before the block of rows, and the place of the first row, behind the block's length and kind
abbrev pub front_bytes : Contents → List ℕ
front_bytes c = flat_map record_bytes (head c.points c.inlet c.outlet ∷ map note c.before)

abbrev pub rows_begin : Contents → ℕ
rows_begin c = length (front_bytes c) + 6

-- the same head and notes about other reaches
abbrev pub with_reaches : Contents → List Reach → Contents
with_reaches c reaches =
    record {
      points = c.points;
      inlet = c.inlet;
      outlet = c.outlet;
      before = c.before;
      reaches = reaches;
      after = c.after;
    }

-- the numbers of a row fit their bytes
pub record RowFits (r : Reach) : Type 0 where
  pub tail : r.tail < 2 ^ 16
  pub head : r.head < 2 ^ 16
  pub limit : r.limit < 2 ^ 32
  pub flow : r.flow < 2 ^ 32

-- A byte string that is a scheme file of such contents: just its records, one after another.
pub record FileOf (bs : List ℕ) (c : Contents) : Type 0 where
  pub laid : bs ≡ flat_map record_bytes (records c)
  pub short : length bs ≤ 65536
  pub few : length c.reaches ≤ 4096
  pub points_fit : c.points < 2 ^ 16
  pub inlet_fits : c.inlet < 2 ^ 16
  pub outlet_fits : c.outlet < 2 ^ 16
  pub rows_fit : AllByRecursion RowFits c.reaches

-- the register that contents stand for
abbrev pub contents_scheme : Contents → Scheme
contents_scheme c = record { points = c.points; inlet = c.inlet; outlet = c.outlet; reaches = c.reaches }

-- A byte string that is a scheme file, and means one register: the one that its contents stand for.
pub record Means (bs : List ℕ) (s : Scheme) : Type 0 where
  pub contents : Contents
  pub file : FileOf bs contents
  pub only : (c : Contents) → FileOf bs c → contents_scheme c ≡ s

-- a byte string that is no scheme file
abbrev pub NoFile : List ℕ → Type 0
NoFile bs = (c : Contents) → FileOf bs c → ⊥
