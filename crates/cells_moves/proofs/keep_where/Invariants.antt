use Rattle.std.proofs.Common.{◌≡◌, Bool, List, ℕ, Bor}
use Rattle.cells_moves.specs.Keeping.{IsRow}
use Rattle.cells_moves.proofs.Keeping.{Reading, Keeping}
use Rattle.cells_moves.proofs.keep_where.Given as goal

abbrev pub invariant-loop-i : goal.invariant-loop-i
invariant-loop-i g l =
    Reading l.w l.n l.initial.cells l.cells l.kept l.i
    × ((p : List ℕ → Bool) → ((row : Bor (List ℕ)) (r : Bool) → IsRow l.w l.n l.initial.cells row.now → goal.F-post g l.passes row r → r ≡ p row.now) → Keeping l.w l.n l.initial.cells p l.cells l.kept l.i)
