-- `read_each`: after i words the first i of the lent numbers are those of the text.
use Rattle.std.proofs.Common.{◌≡◌, ℕ, ◌<◌, length, get_or, Some}
use Rattle.script_words.specs.Words.{after_words}
use Rattle.script_numbers.specs.Numbers.{number_at}
use Rattle.script_numbers.proofs.read_each.Given as goal

abbrev pub invariant-loop-i : goal.invariant-loop-i
invariant-loop-i l =
    record {
      sized : length l.lent ≡ length l.fn.lent;
      behind : l.rest ≡ after_words l.i l.text;
      read : (k : ℕ) → k < l.i → number_at l.text l.limits k ≡ Some (get_or l.lent k 0);
    }
