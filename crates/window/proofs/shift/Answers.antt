-- `shift` leaves no mark where the whole window is passed, and else shifts left and back.
use mathlib.Core.Path.{sym}
use Rattle.window.proofs.Bits.{shift_past, shift_spare}
use Rattle.window.specs.Marks.{word_bits, word_of}
use Rattle.window.proofs.shift.Goals as goal

pub returns-then-w-d : goal.returns-then-w-d
unfolding word_of
returns-then-w-d c = sym (shift_past c.args.w c.args.d c.args.m.word c.if-w-d.true)

pub returns : goal.returns
unfolding word_of
returns c = shift_spare word_bits c.args.w c.args.d c.args.m.word c.requires.1
