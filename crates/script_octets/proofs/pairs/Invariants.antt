-- `pairs`: after i turns the first i lent octets are those that the word says.
use Rattle.std.proofs.Common.{◌≡◌, ℕ, ◌<◌, length, get_or, Some}
use Rattle.script_octets.specs.Octets.{octet_at}
use Rattle.script_octets.proofs.pairs.Given as goal

abbrev pub invariant-loop-i : goal.invariant-loop-i
invariant-loop-i l =
    record {
      same : length l.lent ≡ length l.fn.lent;
      read : (k : ℕ) → k < l.i → octet_at l.fn.word k ≡ Some (get_or l.lent k 0);
    }
