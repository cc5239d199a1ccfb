-- The rows in use are the chunks, and what is behind them is zero.
use Rattle.std.proofs.Common.{rules, ◌≡◌, ◌&&◌, ◌*◌, List, ℕ, length, take, ◌∙◌, ap, arith}
use Rattle.std.specs.Slice.Iter.{chunks_exact_rest}
use Rattle.lists.specs.Lists.{all}
use Rattle.cells.specs.Area.{all_zero, rows_of}
use Rattle.cells.proofs.Chunks.{all_rows}
use Rattle.cells.proofs.Trips.{rows_take}
use Rattle.rules.specs.Settings.{interface_cells}
use Rattle.table_settings.specs.Check.{interface_row_ok}
use Rattle.table_settings.proofs.interface_rows_ok.Goals as goal

pub returns : goal.returns
returns c =
    let part = c.args.part.now in
    let n = c.args.used in
    let chunks = c.chunks_exact.result in
    let rows : chunks_exact_rest chunks ≡ take (n * interface_cells) part = c.chunks_exact.ensures.rest ∙ c.split_at.ensures.front in
    let h = c.all.ensures.ran in
    let t : c.all.result ≡ all interface_row_ok (rows_of interface_cells n (chunks_exact_rest chunks)) =
    all_rows _ _ interface_row_ok interface_cells (omega arith) (λ x b q k. search rules) h.0 n chunks h.3.0 _ h.1 h.2 c.all.result c.chunks_exact.ensures.size
    (ap length c.chunks_exact.ensures.rest ∙ c.split_at.ensures.front_len) h.3.1 h.3.2 h.4 h.5 in
    let r = t ∙ ap (λ (l : List ℕ). all interface_row_ok (rows_of interface_cells n l)) rows ∙ ap (all interface_row_ok) (rows_take interface_cells n (n * interface_cells) part (omega arith)) in
    let z = c.all_zero.ensures ∙ ap all_zero c.split_at.ensures.back in
    λ i. r i && z i
