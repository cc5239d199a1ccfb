-- `sequence_test` compares one distance, that below current, with the window and with half way.
use mathlib.Core.Path.{sym}
use native.Mathlib.Omega.{arith}
use Rattle.window.proofs.Positions.{position-inside, position-new, position-stale}
use Rattle.window.proofs.sequence_test.Goals as goal

pub returns-then-below-w : goal.returns-then-below-w
returns-then-below-w c = let a = c.args in sym (position-inside a.w a.current a.n (omega arith))

pub returns-then-below-le-HALF_WAY : goal.returns-then-below-le-HALF_WAY
returns-then-below-le-HALF_WAY c = let a = c.args in sym (position-stale a.w a.current a.n (omega arith) (omega arith) (omega arith) (omega arith))

pub returns : goal.returns
returns c = let a = c.args in sym (position-new a.w a.current a.n (omega arith) (omega arith) (omega arith) (omega arith))
