-- From a record to its cells and back, and what the check of the cells tells. Assumes nothing.
use mathlib.Core.Path.{◌≡◌, refl, sym, ap, ◌∙◌, subst}
use mathlib.Core.List.{List, ◌∷◌, ◌++◌}
use mathlib.Core.Option.{Option, none, some}
use mathlib.Core.Bool.{Bool, true, false, false≢true}
use Prim.Native.Nat.{ℕ, ◌+◌, ◌*◌, ◌-◌, ◌/◌, ◌≤◌, ◌<◌}
use native.Mathlib.Omega.{arith}
use lib.Dec.{ltb}
use lib.ListN.{length, take, drop, get_or, length-append, length-drop, take-append-drop}
use lib.Seq.{take_all, take_at, drop_at, drop-drop, take-length, drop-length, length-take-le}
use borrow.Author.Tests.{lt-ltb, le-ltb, ltb-true, ltb-false, leb-true}
use Rattle.lists.specs.Lists.{maybe, and, all}
use Rattle.lists.specs.Keyed.{lookup}
use Rattle.cells.specs.Area.{fit, all_zero}
use Rattle.lists.proofs.Keyed.{lookup-all}
use Rattle.lists.proofs.Tests.{and_left, and_right, both, and_at}
use Rattle.cells.proofs.Areas.{length-fit, fit-take, take-fit, drop-fit, length-area}
use Rattle.cells.proofs.Trips.{fit-rest, zeros_zero}
use Rattle.cells.proofs.Lent.{cells_from_lem}
use Rattle.rules.specs.Settings.{Config, link_most, entry_most, link_cells, record_head_cells, link_area_cells, entry_area_cells, record_cells, octets, addresses, is_address}
use Rattle.rules.specs.Calls.{neighbour_of, pairs}
use Rattle.rules.specs.Table.{TableRecord}
use Rattle.rules.proofs.Parts.{Entry, record_parts, few-links}
use Rattle.window.specs.Window.{numbers}
use Rattle.rules.specs.WellFormed.{link_tests, record_tests}
use Rattle.table_record.specs.Links.{link_row, link_area, links_from}
use Rattle.table_record.specs.Record.{address_at, current_at, time_at, last_ttl_at, links_at, best_at, entries_at, fields_of, encode_record, links_part, links_of, entries_part, entries_in, decode_record, unused_links, unused_entries, unused_zero, record_ok, Held}
use Rattle.table_record.proofs.Links.{link-wide, links_trip, links-area, links-rest, length-links}

-- a pair whose address is in its range
pub small-pair : (k : ℕ) → ltb k pairs ≡ is_address (neighbour_of k)
unfolding neighbour_of
small-pair k = go (ltb k pairs) refl
  where
    go : (b : Bool) → ltb k pairs ≡ b → b ≡ ltb (k / 4) addresses
    go true e = let h = ltb-true k pairs e in sym (lt-ltb (k / 4) addresses (omega arith))
    go false e = let h = ltb-false k pairs e in sym (le-ltb (k / 4) addresses (omega arith))

pub length_record : (e : ℕ × TableRecord) → length (encode_record e) ≡ record_cells
unfolding encode_record
length_record e =
    let ls = link_area link_most e.1.links in
    let es = fit entry_area_cells e.1.entries in
    length-append (fields_of e) (ls ++ es) ∙ ap (λ (k : ℕ). record_head_cells + k) (length-append ls es ∙ (λ i. length-area link_row link_cells link-wide link_most e.1.links i + length-fit entry_area_cells e.1.entries i))

-- a record's key is its originator's address
pub record_key : (row : List ℕ) → (decode_record row).0 ≡ get_or row address_at 0
unfolding decode_record
record_key row = refl

-- ---- the cells of its links and entries

pub part_size : (row : List ℕ) → length row ≡ record_cells → length (links_part row) ≡ link_area_cells
part_size row h = length-take-le link_area_cells (drop record_head_cells row) (rw (length-drop record_head_cells row) (omega arith))

pub part_encoded : (e : ℕ × TableRecord) → links_part (encode_record e) ≡ link_area link_most e.1.links
unfolding encode_record
part_encoded e = take_at (link_area link_most e.1.links) (fit entry_area_cells e.1.entries) link_area_cells (length-area link_row link_cells link-wide link_most e.1.links)

pub entries-size : (row : List ℕ) → length row ≡ record_cells → length (entries_part row) ≡ entry_area_cells
entries-size row h = length-take-le entry_area_cells (drop (record_head_cells + link_area_cells) row) (rw (length-drop (record_head_cells + link_area_cells) row) (omega arith))

-- they are the last of the row
pub entries-last : (row : List ℕ) → length row ≡ record_cells → entries_part row ≡ drop link_area_cells (drop record_head_cells row)
entries-last row h =
    take_all entry_area_cells (drop (record_head_cells + link_area_cells) row) (rw (length-drop (record_head_cells + link_area_cells) row) (omega arith)) ∙ sym (drop-drop link_area_cells record_head_cells row)

entries-encoded : (e : ℕ × TableRecord) → entries_part (encode_record e) ≡ fit entry_area_cells e.1.entries
unfolding encode_record
entries-encoded e =
    ap (take entry_area_cells) (drop_at (link_area link_most e.1.links) (fit entry_area_cells e.1.entries) link_area_cells (length-area link_row link_cells link-wide link_most e.1.links))
    ∙ take_all entry_area_cells (fit entry_area_cells e.1.entries) (omega (arith, length-fit entry_area_cells e.1.entries))

-- entries filled up with zeros, and taken back
pub entries_fit : (es : List ℕ) → length es ≤ entry_most → fit (length es) (fit entry_area_cells es) ≡ es
entries_fit es h =
    fit-take (length es) (fit entry_area_cells es) (omega (arith, length-fit entry_area_cells es)) ∙ take-fit (length es) entry_area_cells es h (omega arith) ∙ take-length es

-- ---- from a record to its cells and back

pub record_back : (e : ℕ × TableRecord) → length e.1.links ≤ link_most → length e.1.entries ≤ entry_most → decode_record (encode_record e) ≡ e
unfolding decode_record encode_record
record_back e h k =
    let ls : links_from (length e.1.links) (links_part (encode_record e)) ≡ e.1.links = ap (links_from (length e.1.links)) (part_encoded e) ∙ links-area link_most e.1.links h in
    let es : fit (length e.1.entries) (entries_part (encode_record e)) ≡ e.1.entries = ap (fit (length e.1.entries)) (entries-encoded e) ∙ entries_fit e.1.entries k in
    λ i. (e.0, record { current = e.1.current; time = e.1.time; last_ttl = e.1.last_ttl; best = e.1.best; links = ls i; entries = es i })

-- a record that passes is decoded again
pub valid_back : (κ : Config) (now : ℕ) (e : ℕ × TableRecord) → and (record_tests κ now e) ≡ true → decode_record (encode_record e) ≡ e
valid_back κ now e h = let p = record_parts κ now e h in record_back e (few-links κ now e p) (leb-true (length e.1.entries) entry_most p.few_entries)

pub unused_zero_lem : (e : ℕ × TableRecord) → unused_zero (encode_record e) ≡ true
unfolding encode_record
unused_zero_lem e =
    both (ap (λ (l : List ℕ). all_zero (drop (length e.1.links * link_cells) l)) (part_encoded e) ∙ links-rest link_most e.1.links)
    (ap (λ (l : List ℕ). all_zero (drop (length e.1.entries) l)) (entries-encoded e)
    ∙ rw (drop-fit (length e.1.entries) entry_area_cells e.1.entries, drop-length e.1.entries) (zeros_zero (entry_area_cells - length e.1.entries)))

-- its cells pass
pub record_passes : (κ : Config) (now : ℕ) (e : ℕ × TableRecord) → and (record_tests κ now e) ≡ true → record_ok κ now (encode_record e) ≡ true
unfolding record_ok
record_passes κ now e h = both (ap (λ (x : ℕ × TableRecord). and (record_tests κ now x)) (valid_back κ now e h) ∙ h) (unused_zero_lem e)

-- cells of entries, zeros behind those in use, are the entries that they hold with zeros behind them
pub entries_trip : (row : List ℕ) → length row ≡ record_cells → get_or row entries_at 0 ≤ entry_most → all_zero (unused_entries row) ≡ true → fit entry_area_cells (entries_in row) ≡ entries_part row
entries_trip row size few z =
    let n = get_or row entries_at 0 in
    let k : length (entries_part row) ≡ entry_area_cells = entries-size row size in
    (λ i. fit (sym k i) (fit-take n (entries_part row) (omega (arith, k, few)) i)) ∙ fit-rest n (entries_part row) z

-- ---- what cells that pass tell

module _ (κ : Config) (now : ℕ) (row : List ℕ) (ok : record_ok κ now row ≡ true) where
  pub record_valid : and (record_tests κ now (decode_record row)) ≡ true
  unfolding record_ok
  record_valid = and_left (and (record_tests κ now (decode_record row))) (unused_zero row) ok

  entry : Entry κ now (decode_record row)
  entry = record_parts κ now (decode_record row) record_valid

  pub record_unused : unused_zero row ≡ true
  unfolding record_ok
  record_unused = and_right (and (record_tests κ now (decode_record row))) (unused_zero row) ok

  few : get_or row links_at 0 ≤ link_most
  unfolding decode_record
  few = subst (λ (k : ℕ). k ≤ link_most) (length-links (get_or row links_at 0) (links_part row)) (few-links κ now (decode_record row) entry)

  few-entries : get_or row entries_at 0 ≤ entry_most
  unfolding decode_record
  few-entries = subst (λ (k : ℕ). k ≤ entry_most) (length-fit (get_or row entries_at 0) (entries_part row)) (leb-true (length (entries_in row)) entry_most entry.few_entries)

  -- best is a held link's pair
  best-small : get_or row best_at 0 < pairs
  unfolding decode_record
  best-small =
      go (lookup (get_or row best_at 0) (links_of row)) refl entry.each entry.best
    where
      go : (o : Option ℕ) → lookup (get_or row best_at 0) (links_of row) ≡ o → all (λ l. and (link_tests κ (get_or row best_at 0) l)) (links_of row) ≡ true → maybe o false (λ v. true) ≡ true → get_or row best_at 0 < pairs
      go none e a h = absurd (false≢true h)
      go (some v) e a h =
          let b = get_or row best_at 0 in
          ltb-true b pairs (small-pair b ∙ and_at (link_tests κ b (b, v)) (lookup-all (λ l. and (link_tests κ b l)) b v (links_of row) a e) 0)

  module _ (size : length row ≡ record_cells) where
    pub record_held : Held row
    unfolding decode_record
    record_held =
        record {
          size = size;
          current = ltb-true (get_or row current_at 0) numbers entry.current;
          ttl = ltb-true (get_or row last_ttl_at 0) octets entry.ttl;
          few = few;
          best = best-small;
          rises = entry.rise;
          entries = few-entries;
          unused = and_right (all_zero (unused_links row)) (all_zero (unused_entries row)) record_unused;
        }

    pub record_trip : encode_record (decode_record row) ≡ row
    unfolding encode_record decode_record
    record_trip =
        let n = get_or row links_at 0 in
        let part = links_part row in
        let m = get_or row entries_at 0 in
        let ls : link_area link_most (links_from n part) ≡ part = links_trip link_most n part (part_size row size) few (and_left (all_zero (unused_links row)) (all_zero (unused_entries row)) record_unused) in
        let es = entries_trip row size few-entries (and_right (all_zero (unused_links row)) (all_zero (unused_entries row)) record_unused) in
        let rest : part ++ entries_part row ≡ drop record_head_cells row = ap (λ (l : List ℕ). part ++ l) (entries-last row size) ∙ take-append-drop link_area_cells (drop record_head_cells row) in
        (λ i. get_or row address_at 0 ∷ get_or row current_at 0 ∷ get_or row time_at 0 ∷ get_or row last_ttl_at 0 ∷ length-links n part i ∷ get_or row best_at 0 ∷ length-fit m (entries_part row) i ∷ (ls i ++ es i))
        ∙ ap (λ (l : List ℕ). get_or row address_at 0 ∷ get_or row current_at 0 ∷ get_or row time_at 0 ∷ get_or row last_ttl_at 0 ∷ n ∷ get_or row best_at 0 ∷ m ∷ l) rest
        ∙ sym (cells_from_lem 0 record_head_cells row (omega arith))
