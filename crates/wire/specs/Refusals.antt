-- RULES 8.2: the code's refusals, and what a call answers of each.
use Rattle.std.specs.Prelude.{ℕ, Result, Ok, Err, Some, None}
use Rattle.std.specs.Prelude.{Option as Place}
use Rattle.std.proofs.Math.Option.{Option, none, some}
use Rattle.wire.specs.declared.Fault.{Fault}
use Rattle.wire.specs.declared.refusals.Refusal.{Refusal}
use Rattle.wire.specs.declared.refusals.Refusal.TheVariants.{NotWellFormed, NotInUse, TimeBefore, ShortOutput, WrongSize, WrongVersion, RaggedEntries, WrongMask, NeighboursFull, OriginatorsFull, LinksFull, NotAllowed, TtlTooLow, WrongBurst, EntriesFull, HostBitsSet}
use Rattle.wire.specs.Check.{numbered, placed}

-- the number of each, and the place that 8 and 16 carry
abbrev pub fault_by : Refusal → Fault
fault_by NotWellFormed = numbered 1
fault_by NotInUse = numbered 2
fault_by TimeBefore = numbered 3
fault_by ShortOutput = numbered 4
fault_by WrongSize = numbered 5
fault_by WrongVersion = numbered 6
fault_by RaggedEntries = numbered 7
fault_by (WrongMask k) = placed 8 k
fault_by NeighboursFull = numbered 9
fault_by OriginatorsFull = numbered 10
fault_by LinksFull = numbered 11
fault_by NotAllowed = numbered 12
fault_by TtlTooLow = numbered 13
fault_by WrongBurst = numbered 14
fault_by EntriesFull = numbered 15
fault_by (HostBitsSet k) = placed 16 k

-- what is refused where a call answers so
abbrev pub refusal_of : {A : Type 0} → Result A Refusal → Option Fault
refusal_of (Ok a) = none
refusal_of (Err r) = some (fault_by r)

-- a place that may be missing, as the code has it
abbrev pub place_of : Option ℕ → Place ℕ
place_of none = None
place_of (some k) = Some k
