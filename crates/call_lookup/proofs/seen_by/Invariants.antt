use Rattle.std.proofs.Common.{◌≡◌, drop}
use Rattle.call_lookup.specs.Scan.{seen_by}
use Rattle.call_lookup.proofs.seen_by.Given as goal

abbrev pub invariant-loop-entry : goal.invariant-loop-entry
invariant-loop-entry l =
    seen_by l.address l.originator (drop l.entry-index l.entries) l.best ≡ seen_by l.address l.originator l.entries l.initial.best
