-- The faults of the entries so far are joined.
use Rattle.std.proofs.Common.{◌≡◌, take, bit_or}
use Rattle.std.specs.Prelude.{fold}
use Rattle.table_record_check.specs.Limits.{entry_fault}
use Rattle.table_record_check.proofs.entries_ok.Given as goal

abbrev pub invariant-loop-entry : goal.invariant-loop-entry
invariant-loop-entry l = l.faults ≡ fold (λ b x. bit_or b (entry_fault x)) 0 (take l.entry-index (take l.n l.part))
