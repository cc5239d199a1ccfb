-- A link has a row exactly where the search finds its key.
use mathlib.Core.Path.{◌≡◌, sym, ◌∙◌}
use mathlib.Core.List.{List}
use Prim.Native.Nat.{ℕ}
use Rattle.std.specs.Prelude.{Result, Ok, Err, is_ok}
use Rattle.lists.specs.Keyed.{has_key}
use Rattle.cells.specs.Area.{column}
use Rattle.cells.specs.Pairs.{pair_cells, pairs_of}
use Rattle.cells.specs.Find.{FoundIn}
use Rattle.table_neighbours.specs.Neighbours.{RowsHeld}
use Rattle.table_neighbours.proofs.Rows.{meets, present, missing}
use Rattle.table_neighbours.proofs.has_row.Goals as goal

pub find-requires : goal.find-requires
find-requires c = meets _ _ c.requires

held : (n : ℕ) (rows : List ℕ) (link : ℕ) → RowsHeld n rows → (f : Result ℕ ℕ) → FoundIn (column pair_cells n rows) link f → is_ok f ≡ has_key link (pairs_of n rows)
held n rows link r (Ok i) f = sym (present n rows r link i f)
held n rows link r (Err i) f = sym (missing n rows r link i f)

pub returns : goal.returns
returns c =
    let a = c.args in
    c.is_ok.ensures.value ∙ held a.n a.rows.now a.link c.requires c.find.result.found c.find.ensures.found
