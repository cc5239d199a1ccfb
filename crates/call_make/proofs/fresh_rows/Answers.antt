-- `fresh_rows`: after i turns the first i rows are written.
use Rattle.std.proofs.Common.{◌∙◌, ◌*◌, sym, ap, arith, add-one, rules}
use Rattle.cells.specs.Area.{written}
use Rattle.rules.specs.Settings.{interface_cells}
use Rattle.call_make.specs.Make.{fresh_rows}
use Rattle.call_make.proofs.Making.{next_row}
use Rattle.call_make.proofs.fresh_rows.Goals as goal

pub loop-i-preserved : goal.loop-i-preserved
loop-i-preserved c =
    let r = c.loop-i.i in
    c.write.ensures ∙ (λ j. written (c.loop-i.invariant j) (r * interface_cells) (c.fresh_row.ensures j)) ∙ next_row c.args.rows _ (search rules) r (omega arith) ∙ ap (fresh_rows c.args.rows) (sym (add-one r))
