-- Maps of numbers in cells: a row of two cells for each pair, the key and what stands under it. Neighbour rows lie so.
use Rattle.std.specs.Prelude.{List, [], ◌∷◌, map, ℕ, get_or}
use Rattle.cells.specs.Area.{area, rows_of}

-- how many cells a pair takes
abbrev pub pair_cells : ℕ
pair_cells = 2

abbrev pub pair_row : ℕ × ℕ → List ℕ
pair_row e = e.0 ∷ e.1 ∷ []

abbrev pub pair_of : List ℕ → ℕ × ℕ
pair_of row = (get_or row 0 0, get_or row 1 0)

-- pairs in an area with room for n
abbrev pub pair_area : (n : ℕ) → List (ℕ × ℕ) → List ℕ
pair_area n es = area pair_row pair_cells n es

-- the first n pairs of an area
abbrev pub pairs_of : (n : ℕ) → List ℕ → List (ℕ × ℕ)
pairs_of n c = map pair_of (rows_of pair_cells n c)
