-- A record's row that keeps a message's entries. Assumes nothing.
use mathlib.Core.Path.{◌≡◌, sym, ap, ◌∙◌, subst}
use mathlib.Core.List.{List, ◌∷◌, ◌++◌}
use Prim.Native.Nat.{ℕ, ◌+◌, ◌-◌, ◌≤◌}
use native.Mathlib.Omega.{arith}
use lib.ListN.{length, take, drop, set, get_or, length-set, length-append}
use lib.Seq.{length-take-le}
use borrow.Rule.Slice.PartMut.{put_mid}
use Rattle.wire.specs.Check.{entries}
use Rattle.wire.specs.Entries.{entries_of}
use Rattle.wire.proofs.Entries.{length-entries}
use Rattle.cells.specs.Area.{fit, zeros, written}
use Rattle.cells.proofs.Areas.{length-fit}
use Rattle.cells.proofs.Lent.{tail_length, tail_back, cells_from_lem}
use Rattle.cells_moves.proofs.Moves.{filled}
use Rattle.rules.specs.Settings.{record_head_cells, link_area_cells, entry_area_cells, record_cells}
use Rattle.table_record.specs.Record.{entries_at, links_part}
use Rattle.table_record.proofs.Rows.{part_size}
use Rattle.count_entries.specs.Entries.{kept_in}

-- the entries e written over the first cells, and zeros over what follows them
pub filled_entries : (c e x ys : List ℕ) (n : ℕ) → n ≡ entries e → n ≤ length c → x ≡ written c 0 (entries_of e) → length x ≡ length c
    → ys ≡ zeros (length (take (length x - n) (drop n x))) → put_mid n (length x - n) x ys ≡ fit (length c) (entries_of e)
filled_entries c e x ys n en h ex l =
    let k : length (entries_of e) ≡ n = length-entries e ∙ sym en in
    subst (λ (m : ℕ). ys ≡ zeros (length (take (length x - m) (drop m x))) → put_mid m (length x - m) x ys ≡ fit (length c) (entries_of e)) k (filled c (entries_of e) x ys (omega arith) ex l)

-- where the entries begin
abbrev from : ℕ
from = record_head_cells + link_area_cells

-- how many there are is set, and the cells from the first entry's on are lent
module _ (row : List ℕ) (n : ℕ) (h : length row ≡ record_cells) where
  abbrev now : List ℕ
  now = set row entries_at n

  pub lent-size : length (take (length now - from) (drop from now)) ≡ entry_area_cells
  lent-size =
      let size : length now ≡ record_cells = simp length-set h in
      tail_length now from ∙ ap (λ (k : ℕ). k - from) size

  -- they come back with the entries and zeros
  pub kept-cells : (e ys : List ℕ) → n ≡ entries e → ys ≡ fit (length (take (length now - from) (drop from now))) (entries_of e)
      → put_mid from (length now - from) now ys ≡ kept_in row e
  kept-cells e ys en ey =
      let cells = cells_from_lem 0 record_head_cells row (omega arith) in
      tail_back now from ys (simp length-set (omega arith))
      ∙ ap (λ (l : List ℕ). take from (set l entries_at n) ++ ys) cells
      ∙ (λ i. get_or row 0 0 ∷ get_or row 1 0 ∷ get_or row 2 0 ∷ get_or row 3 0 ∷ get_or row 4 0 ∷ get_or row 5 0 ∷ en i ∷ (links_part row ++ (ey ∙ ap (λ (k : ℕ). fit k (entries_of e)) lent-size) i))
      ∙ sym (ap (λ (l : List ℕ). take entries_at l ++ (entries e ∷ (links_part row ++ fit entry_area_cells (entries_of e)))) cells)

-- as many cells as before
pub length-kept : (row e : List ℕ) → length row ≡ record_cells → length (kept_in row e) ≡ record_cells
length-kept row e h =
    let f = take entries_at row in
    let l = links_part row in
    let es = fit entry_area_cells (entries_of e) in
    omega (arith, length-append f (entries e ∷ (l ++ es)), length-append l es, length-take-le entries_at row (omega arith), part_size row h, length-fit entry_area_cells (entries_of e))
