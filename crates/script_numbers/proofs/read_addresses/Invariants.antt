-- `read_addresses`: after i turns the first i lent addresses are the members that were read.
use Rattle.std.proofs.Common.{◌≡◌, length, take}
use Rattle.script_numbers.proofs.read_addresses.Given as goal

abbrev pub invariant-loop-i : goal.invariant-loop-i
invariant-loop-i l =
    record {
      sized : length l.lent ≡ length l.fn.lent;
      same : take l.i l.lent ≡ take l.i l.members;
    }
