-- The neighbour rows of a well-formed table's cells, as they are lent. Assumes nothing.
use mathlib.Core.Path.{◌≡◌, refl, sym, ap, ◌∙◌}
use mathlib.Core.List.{List}
use Prim.Native.Nat.{ℕ}
use lib.ListN.{get_or}
use Rattle.lists.specs.Lists.{and}
use Rattle.lists.proofs.Lists.{all_weaken}
use Rattle.lists.proofs.Rising.{rising_out}
use Rattle.cells.specs.Pairs.{pairs_of}
use Rattle.rules.specs.Settings.{is_number}
use Rattle.rules.specs.WellFormed.{row_tests}
use Rattle.rules.proofs.Parts.{row_parts}
use Rattle.rules.proofs.WellFormed.{Wf, parts}
use Rattle.table_layout.specs.Layout.{rows_at, neighbour_part}
use Rattle.table_layout.specs.Cells.{decode}
use Rattle.table_layout.specs.Facts.{Knows}
use Rattle.table_layout.proofs.Parts.{rows-lent}
use Rattle.table_neighbours.specs.Neighbours.{RowsHeld}

pub rows-held : (c : List ℕ) → Knows c → RowsHeld (get_or c rows_at 0) (neighbour_part c)
unfolding decode
rows-held c k =
    let s = decode c in
    let w : Wf s = parts s k.valid in
    record {
      most = k.sized.rows;
      cells = ap neighbour_part (sym k.cells) ∙ rows-lent s;
      rises = rising_out s.rows w.rows.rise;
      numbers = all_weaken (λ x. and (row_tests s.config s.sends x)) (λ x. is_number x.1) (λ x h. (row_parts s.config s.sends x h).number) s.rows w.rows.each;
    }

-- what they hold are the table's rows
pub rows_are : (c : List ℕ) → pairs_of (get_or c rows_at 0) (neighbour_part c) ≡ (decode c).rows
unfolding decode
rows_are c = refl
