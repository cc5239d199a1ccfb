-- The first k entries are written.
use Rattle.std.proofs.Common.{◌≡◌}
use lib.Seq.{paste}
use Rattle.wire.specs.Entries.{entries_of}
use Rattle.count_entries.proofs.write_entries.Given as goal

abbrev pub invariant-loop-k : goal.invariant-loop-k
invariant-loop-k l = l.part ≡ paste l.initial.part 0 (entries_of l.hna) l.k
