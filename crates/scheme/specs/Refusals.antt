-- How each fault is told: layer, number and place.
use Rattle.std.specs.Prelude.{ℕ, cond, length, Some, None, Ok, Err, Option, Result, nat_lt}
use Rattle.scheme.specs.declared.faults.Layer.{Layer}
use Rattle.scheme.specs.declared.faults.Layer.TheVariants.{File, Book, Call, Pick}
use Rattle.scheme.specs.declared.faults.Refusal.{Refusal}
use Rattle.scheme.specs.declared.faults.FileFault.{FileFault}
use Rattle.scheme.specs.declared.faults.FileFault.TheVariants.{TooLong, CutShort, UnknownKind, BadHead, BadRows}
use Rattle.scheme.specs.declared.faults.BookFault.{BookFault}
use Rattle.scheme.specs.declared.faults.BookFault.TheVariants.{InFile, Shape, Ends, Over, Unbalanced, NoReach}
use Rattle.scheme.specs.declared.faults.PickFault.{PickFault}
use Rattle.scheme.specs.declared.faults.PickFault.TheVariants.{TooSmall, Inside, KeyTooGreat}
use Rattle.scheme.specs.declared.faults.CallFault.{CallFault}
use Rattle.scheme.specs.declared.faults.CallFault.TheVariants.{InBook, InPick, ShortTable, NoSuchReach, LimitTooGreat, LimitUnderFlow, Gains, NoSide, NotTight}
use Rattle.scheme.specs.Scheme.{Scheme}

abbrev pub refused : Layer → ℕ → ℕ → Refusal
refused l n p = record { layer = l; number = n; place = p }

abbrev pub file_refusal : FileFault → Refusal
file_refusal TooLong = refused File 1 0
file_refusal (CutShort at) = refused File 2 at
file_refusal (UnknownKind at) = refused File 3 at
file_refusal (BadHead at) = refused File 4 at
file_refusal (BadRows at) = refused File 5 at

-- a fault found below is told as it was below
abbrev pub book_refusal : BookFault → Refusal
book_refusal (InFile fault) = file_refusal fault
book_refusal Shape = refused Book 6 0
book_refusal (Ends reach) = refused Book 7 reach
book_refusal (Over reach) = refused Book 8 reach
book_refusal (Unbalanced point) = refused Book 9 point
book_refusal (NoReach reach) = refused Book 11 reach

abbrev pub pick_refusal : PickFault → Refusal
pick_refusal TooSmall = refused Pick 10 0
pick_refusal (Inside point) = refused Pick 17 point
pick_refusal (KeyTooGreat point) = refused Pick 18 point

abbrev pub call_refusal : CallFault → Refusal
call_refusal (InBook fault) = book_refusal fault
call_refusal (InPick fault) = pick_refusal fault
call_refusal ShortTable = refused Call 10 0
call_refusal NoSuchReach = refused Call 11 0
call_refusal LimitTooGreat = refused Call 12 0
call_refusal LimitUnderFlow = refused Call 13 0
call_refusal Gains = refused Call 14 0
call_refusal NoSide = refused Call 15 0
call_refusal NotTight = refused Call 16 0

-- the refusal that an answer tells, if it is one
abbrev pub refusal_of : {X F : Type 0} → (F → Refusal) → Result X F → Option Refusal
refusal_of tells (Ok x) = None
refusal_of tells (Err fault) = Some (tells fault)

-- a write to a reach that is not in the list
abbrev pub unlisted : Scheme → ℕ → Option Refusal
unlisted s k = cond (nat_lt k (length s.reaches)) None (Some (refused Book 11 k))
