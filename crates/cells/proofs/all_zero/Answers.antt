-- The joined bits are 0 exactly where every cell is.
use Rattle.std.proofs.Common.{ℕ, refl, ap, ◌∙◌, bit_or, arith}
use Rattle.std.specs.Prelude.{fold}
use lib.Dec.{eqb}
use lib.Seq.{take_all}
use Rattle.cells.proofs.Keys.{joined}
use Rattle.cells.proofs.all_zero.Goals as goal

pub returns : goal.returns
returns c =
    let cells = c.args.cells.now in
    let l = c.loop-cell in
    ap (λ (n : ℕ). eqb n 0) (l.invariant ∙ ap (fold (λ b x. bit_or b x) 0) (take_all l.cell-index cells (omega arith)))
    ∙ joined (λ x. x) (λ x. eqb x 0) (λ x. refl) cells
