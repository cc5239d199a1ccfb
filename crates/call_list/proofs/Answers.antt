-- The list call by the rules, from what is found. Assumes nothing.
use Prim.Native.Nat.{ℕ, ◌≤◌, ◌<◌}
use native.Mathlib.Omega.{arith}
use mathlib.Core.Path.{◌≡◌, refl, sym, ap, ◌∙◌}
use mathlib.Core.List.{List, []}
use mathlib.Core.Bool.{Bool, true, false}
use lib.Dec.{ltb}
use lib.ListN.{length, take, get_or}
use borrow.Author.Tests.{ltb-true, lt-ltb, le-ltb}
use Rattle.lists.specs.Lists.{and, all, written_to}
use Rattle.lists.specs.Keyed.{lookup}
use Rattle.lists.proofs.Tests.{and_at}
use Rattle.lists.proofs.Keyed.{lookup-all}
use Rattle.cells.proofs.Bools.{all-place}
use Rattle.wire.specs.Check.{numbered, given}
use Rattle.rules.specs.declared.LinkRow.{LinkRow}
use Rattle.rules.specs.Calls.{pairs, list, listed, answered_filling, refusal}
use Rattle.rules.specs.Rules.{link_rows, unless, refuse, fill_rows, step}
use Rattle.rules.specs.Table.{TableRecord, table}
use Rattle.rules.specs.WellFormed as R
use Rattle.table_record.specs.Links.{link_in, link_at}
use Rattle.table_record.specs.Record.{links_at, links_part, links_of, decode_record}
use Rattle.table_record.proofs.Links.{length-links, link_of_lem}
use Rattle.table_record.proofs.Rows.{small-pair}
use Rattle.rules.proofs.Parts.{record_parts}
use Rattle.rules.proofs.WellFormed.{parts}
use Rattle.table_layout.specs.Cells.{decode, well_formed}
use Rattle.table_layout.specs.Facts.{record_at}
use Rattle.table_layout.specs.Calls.{Performed, Promised}
use Rattle.table_layout.proofs.Encoding.{encode-decode}
use Rattle.table_changes.proofs.Performing.{not-asked, does, refuses}
use Rattle.table_originators.specs.Originators.{Stands}
use Rattle.std.specs.Prelude.{Result, Ok, Err}
use Rattle.wire.specs.declared.refusals.Refusal.{Refusal}
use Rattle.wire.specs.declared.refusals.Refusal.TheVariants.{NotWellFormed, ShortOutput}
use Rattle.wire.specs.Refusals.{fault_by}
use Rattle.call_list.specs.declared.Links.{Links}
use Rattle.call_list.specs.Listing.{Listable, Finds, answer_of, rows_found, reply_of, Settles}

-- ---- a record that stands in a well-formed table: the address of each link is in its range

module _ (c : List ℕ) (o i : ℕ) (s : Stands c o i) where
  pub listable : Listable (record_at c i)
  unfolding decode_record R.well_formed
  listable = record { size = s.holds.row.size; few = s.holds.row.few; addresses = small }
    where
      row : List ℕ
      row = record_at c i

      tests : ℕ × ℕ → Bool
      tests l = and (R.link_tests (decode c).config (decode_record row).1.best l)

      passes : all tests (links_of row) ≡ true
      passes =
          let p : ℕ × TableRecord → Bool = λ e. and (R.record_tests (decode c).config (decode c).time e) in
          (record_parts (decode c).config (decode c).time (o, (decode_record row).1)
          (lookup-all p o (decode_record row).1 (decode c).records (parts (decode c) s.holds.knows.valid).records.each s.found)
          ).each

      small : (j : ℕ) → j < get_or row links_at 0 → (link_at (links_part row) j).0 < pairs
      small j h =
          let e = link_at (links_part row) j in
          let at : get_or (links_of row) j (link_in []) ≡ e = link_of_lem (get_or row links_at 0) (links_part row) j [] h in
          let t : tests e ≡ true =
          ap tests (sym at) ∙ all-place tests (links_of row) j (link_in []) passes (omega (arith, length-links (get_or row links_at 0) (links_part row))) in
          ltb-true e.0 pairs (small-pair e.0 ∙ and_at (R.link_tests (decode c).config (decode_record row).1.best e) t 0)

-- ---- the call

module _ (c : List ℕ) (o room : ℕ) where
  -- refused: no row is written
  refused : (r : Refusal) → ((lent : List LinkRow) → length lent ≡ room → Performed c (list o lent) (refusal (list o lent) (fault_by r)) c) → Settles c o room (Err r)
  unfolding refusal written_to
  refused r p = record { fits = tt; call = p }

  -- refusal 1
  pub not_well_formed : well_formed c ≡ false → Settles c o room (Err NotWellFormed)
  not_well_formed h = refused NotWellFormed (λ lent e. not-asked c (list o lent) h)

  module _ (h : well_formed c ≡ true) where
    abbrev rows : List LinkRow
    rows = link_rows table (decode c).config (lookup o (decode c).records)

    -- the call by the rules, where the test of the room comes out as t
    goes : (lent : List LinkRow) (t : Bool) → ltb (length lent) (length rows) ≡ t
        → step table (length c) (decode c) (list o lent) ≡ unless (given t 4) (refuse table (list o lent) (decode c)) (fill_rows table (decode c) lent rows)
    unfolding step
    goes lent t e = ap (λ (b : Bool). unless (given b 4) (refuse table (list o lent) (decode c)) (fill_rows table (decode c) lent rows)) e

    module _ (got : Links) (g : Finds rows got) where
      -- refusal 4
      pub no_room : room < got.n → Settles c o room (Err ShortOutput)
      unfolding unless
      no_room l =
          let z = g.size in
          refused ShortOutput (λ lent e. refuses c (list o lent) h h (numbered 4) (goes lent true (lt-ltb (length lent) (length rows) (omega arith))))

      -- not refused: the rows found are written
      pub found_settles : got.n ≤ room → Settles c o room (Ok got)
      unfolding unless fill_rows
      found_settles l =
          let z = g.size in
          record {
            fits = (g.few, l);
            call = λ lent e. does c (list o lent) h (fill_rows table (decode c) lent rows) (goes lent false (le-ltb (length lent) (length rows) (omega arith))) (reply_of (Ok got) lent) c
                (λ j. answered_filling (listed (record { number = 0; filled = z j })) (written_to (g.rows j) lent)) (sym (encode-decode c h));
          }

-- what a refused call promises: the lent rows stay as they are
pub refused_promised : (c : List ℕ) (o : ℕ) (r : Refusal) (lent : List LinkRow) → Settles c o (length lent) (Err r)
    → Promised c (list o lent) (answered_filling (listed (record { number = (fault_by r).number; filled = 0 })) lent) c
unfolding written_to
refused_promised c o r lent s = record { performed = s.call lent refl; typed = refl }
