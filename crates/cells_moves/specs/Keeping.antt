-- Rows kept by a test.
use Rattle.std.specs.Prelude.{ℕ, ◌*◌, ◌-◌, ◌<◌, ◌≡◌, Bool, List, ◌++◌, length, take, drop}
use Rattle.lists.specs.Lists.{keep}
use Rattle.cells.specs.Area.{rows_of, flat, zeros}

-- one of the first n rows of w cells
abbrev pub IsRow : (w n : ℕ) → List ℕ → List ℕ → Type 0
IsRow w n c r = (i : ℕ) × (i < n) × (r ≡ take w (drop (i * w) c))

-- those of the first n rows of w cells that pass p, and zeros in the place of the others; what follows is as it was
abbrev pub kept_rows : (List ℕ → Bool) → (w n : ℕ) → List ℕ → List ℕ
kept_rows p w n c = flat (keep p (rows_of w n c)) ++ (zeros (n * w - length (keep p (rows_of w n c)) * w) ++ drop (n * w) c)
