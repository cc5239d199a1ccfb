-- `call_burst::receive_each` meets its contract. The invariant: the packets before the i-th are received, and with what the others leave that makes the whole. Assumes nothing.
use mathlib.Core.Path.{◌∙◌}
use Rattle.call_burst.proofs.Each.{turn, ended}
use borrow.Author.Rules.{rules}
use Rattle.call_burst.proofs.receive_each.Goals as goal

pub loop-i-preserved : goal.loop-i-preserved
loop-i-preserved c =
    (c.loop-i.invariant.0, turn _ _ _ _ _ _ _ c.loop-i.invariant.0 _ _ _ _ _ _ c.loop-i.invariant.1 c.loop-i-test.true _ _ _ c.receive_one-r.ensures _ c.taken-from.ensures, c.receive_one-r.auto.cells ∙ c.loop-i.invariant.2)

pub returns : goal.returns
returns c = ended _ _ _ _ _ _ _ c.loop-i.invariant.0 _ _ _ _ _ _ c.loop-i.invariant.1 (search rules)
