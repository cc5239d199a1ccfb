-- Nothing changes where every row stays, and else the rows that stay are kept.
use mathlib.Core.Path.{sym, ◌∙◌}
use Rattle.table_neighbours.proofs.Rows.{all-kept}
use Rattle.table_neighbours.proofs.drop_old.Goals as goal

pub returns-then-all_stay : goal.returns-then-all_stay
returns-then-all_stay c =
    let a = c.args in
    all-kept a.n a.interface a.last a.timeout a.rows.now c.requires (sym c.all_stay.ensures ∙ c.if-all_stay.true)
