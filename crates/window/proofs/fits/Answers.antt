-- `fits` compares with the largest word of w bits.
use Rattle.window.proofs.Bits.{fits_code}
use Rattle.window.specs.Marks.{word_bits, word_of}
use Rattle.window.proofs.fits.Goals as goal

pub returns : goal.returns
unfolding word_of
returns c = fits_code word_bits c.args.w c.args.m.word c.requires.1
