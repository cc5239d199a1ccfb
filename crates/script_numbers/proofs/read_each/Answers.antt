-- `read_each`: after i words the first i of the lent numbers are those of the text.
use Rattle.std.proofs.Common.{◌≡◌, ◌<◌, length, arith, refl, length-set}
use Rattle.script_words.specs.Words.{after_words}
use Rattle.script_numbers.specs.Numbers.{number_at}
use Rattle.script_numbers.proofs.Laws.{one_word_more, word_read, each_set, numbers_read}
use Rattle.script_numbers.proofs.read_each.Goals as goal

pub loop-i-init : goal.loop-i-init
unfolding after_words
loop-i-init c = record { sized = refl; behind = refl; read = λ k h. absurd (omega arith) }

pub loop-i-preserved : goal.loop-i-preserved
loop-i-preserved c =
    let xs = c.args.text.now in
    let i = c.loop-i in
    let n = c.in_ok-number.ensures in
    let l : i.i < length i.lent = omega (arith, i.invariant.sized) in
    record {
      sized = simp length-set i.invariant.sized;
      behind = one_word_more xs _ i.i i.invariant.behind _ n.1;
      read = each_set (number_at xs c.args.limits.now) i.lent i.i c.in_ok-number.number i.invariant.read (word_read xs i.rest.now i.i i.invariant.behind _ _ n.0) l;
    }

pub returns : goal.returns
returns c =
    let i = c.loop-i.invariant in
    let n : c.loop-i.i ≡ length c.args.limits.now = omega arith in
    numbers_read c.args.text.now c.args.limits.now c.loop-i.lent c.loop-i.rest.now c.loop-i.i n (omega (arith, i.sized)) i.behind i.read
