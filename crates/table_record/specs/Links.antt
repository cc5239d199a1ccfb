-- A record's links in cells. A link is given as its pair, the key, and its word of marks.
use Rattle.std.specs.Prelude.{List, [], ◌∷◌, map, ℕ, ◌*◌, take, drop, get_or}
use Rattle.cells.specs.Area.{area, rows_of}
use Rattle.rules.specs.Settings.{link_cells}

-- from a link to its cells, the key first
unfoldable pub link_row : ℕ × ℕ → List ℕ
link_row l = l.0 ∷ l.1 ∷ []

-- and back
unfoldable pub link_in : List ℕ → ℕ × ℕ
link_in row = (get_or row 0 0, get_or row 1 0)

-- links in an area with room for n
abbrev pub link_area : (n : ℕ) → List (ℕ × ℕ) → List ℕ
link_area n ls = area link_row link_cells n ls

-- the first n links of an area
abbrev pub links_from : (n : ℕ) → List ℕ → List (ℕ × ℕ)
links_from n part = map link_in (rows_of link_cells n part)

-- the link at place i of an area
abbrev pub link_at : List ℕ → (i : ℕ) → ℕ × ℕ
link_at part i = link_in (take link_cells (drop (i * link_cells) part))
