-- `mark` sets the bit that `1 << k` has.
use Rattle.window.proofs.Bits.{mark_code}
use Rattle.window.specs.Marks.{word_bits, word_of}
use Rattle.window.proofs.mark.Goals as goal

pub returns : goal.returns
unfolding word_of
returns c = mark_code word_bits c.args.m.word c.args.k c.requires
