-- The rows of a record's links. Assumes nothing.
use Prim.Native.Nat.{ℕ, ◌+◌, ◌≤◌, ◌<◌}
use native.Mathlib.Numerals.{add-one}
use native.Mathlib.Omega.{arith}
use mathlib.Core.Path.{◌≡◌, refl, sym, ap, ◌∙◌}
use mathlib.Core.List.{List, [], map}
use mathlib.Core.Option.{some}
use lib.ListN.{length, get_or, set, take, drop, replicate, length-map, get_or-map}
use lib.Seq.{take_at, take_all}
use Rattle.lists.specs.Lists.{written_to}
use Rattle.lists.proofs.Lists.{map-map}
use Rattle.lists.proofs.Written.{written-more}
use Rattle.window.specs.Window.{count}
use Rattle.rules.specs.declared.LinkRow.{LinkRow}
use Rattle.rules.specs.Settings.{Config, link_most}
use Rattle.rules.specs.Rules.{link_rows}
use Rattle.rules.specs.Table.{table}
use Rattle.table_record.specs.Links.{link_in, link_at}
use Rattle.table_record.specs.Record.{links_at, best_at, links_part, links_of, decode_record}
use Rattle.table_record.proofs.Links.{length-links, link_of_lem}
use Rattle.call_list.specs.Listing.{zero_row, row_of, Listable, Finds}

-- ---- the rows of a record's links

abbrev pub rows_in : (W : ℕ) → List ℕ → List LinkRow
rows_in W row = map (row_of W (get_or row best_at 0)) (links_of row)

-- an array with no row written
abbrev pub blank : List LinkRow
blank = replicate link_most zero_row

by_rules : (κ : Config) (row : List ℕ) → link_rows table κ (some (decode_record row).1) ≡ rows_in κ.settings.window row
unfolding decode_record
by_rules κ row = map-map (λ (e : ℕ × ℕ). (e.0, count e.1)) _ (links_of row)

module _ (W : ℕ) (row : List ℕ) where
  length-rows : length (rows_in W row) ≡ get_or row links_at 0
  length-rows = length-map (links_of row) (row_of W (get_or row best_at 0)) ∙ length-links (get_or row links_at 0) (links_part row)

  row_at : (i : ℕ) → i < get_or row links_at 0 → get_or (rows_in W row) i (row_of W (get_or row best_at 0) (link_in [])) ≡ row_of W (get_or row best_at 0) (link_at (links_part row) i)
  row_at i h = get_or-map (row_of W (get_or row best_at 0)) (links_of row) i (link_in []) ∙ ap (row_of W (get_or row best_at 0)) (link_of_lem (get_or row links_at 0) (links_part row) i [] h)

  module _ (h : Listable row) (rows : List LinkRow) where
    pub row_written : (i : ℕ) (r : LinkRow) → i < get_or row links_at 0 → rows ≡ written_to (take i (rows_in W row)) blank → r ≡ row_of W (get_or row best_at 0) (link_at (links_part row) i)
        → set rows i r ≡ written_to (take (i + 1) (rows_in W row)) blank
    row_written i r l e q =
        let n = length-rows in
        let f = h.few in
        (λ j. set (e j) i ((q ∙ sym (row_at i l)) j)) ∙ written-more (rows_in W row) blank i (row_of W (get_or row best_at 0) (link_in [])) (omega arith) (omega arith)
        ∙ ap (λ (k : ℕ). written_to (take k (rows_in W row)) blank) (sym (add-one i))

    -- all of them are written
    pub rows-found : (i : ℕ) → get_or row links_at 0 ≤ i → rows ≡ written_to (take i (rows_in W row)) blank → (κ : Config) → W ≡ κ.settings.window
        → Finds (link_rows table κ (some (decode_record row).1)) (record { rows = rows; n = get_or row links_at 0 })
    unfolding written_to
    rows-found i l e κ w =
        let same : rows_in W row ≡ link_rows table κ (some (decode_record row).1) = ap (λ (k : ℕ). rows_in k row) w ∙ sym (by_rules κ row) in
        let whole : take i (rows_in W row) ≡ rows_in W row = take_all i (rows_in W row) (omega (arith, length-rows)) in
        record {
          few = h.few;
          size = sym length-rows ∙ ap length same;
          rows = ap (take (get_or row links_at 0)) (e ∙ (rw whole)) ∙ take_at (rows_in W row) (drop (length (rows_in W row)) blank) (get_or row links_at 0) length-rows ∙ same;
        }
