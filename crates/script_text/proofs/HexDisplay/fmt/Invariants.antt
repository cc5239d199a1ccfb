-- `Hex::fmt`: the chunks have at most CHUNK octets.
use Rattle.std.proofs.Common.{◌≡◌}
use Rattle.script_text.proofs.HexDisplay.fmt.Given as goal

abbrev pub invariant-loop-octets : goal.invariant-loop-octets
invariant-loop-octets g l =
    record {
      can : (goal.iterator-loop-octets g).can_next l.octets-iterator;
      finite : (goal.iterator-loop-octets g).is_finite l.octets-iterator;
      size : l.octets-iterator.size ≡ 32;
    }
