-- The bits of the cells so far are joined.
use Rattle.std.proofs.Common.{◌≡◌, take, bit_or}
use Rattle.std.specs.Prelude.{fold}
use Rattle.cells.proofs.all_zero.Given as goal

abbrev pub invariant-loop-cell : goal.invariant-loop-cell
invariant-loop-cell l = l.bits ≡ fold (λ b x. bit_or b x) 0 (take l.cell-index l.cells)
