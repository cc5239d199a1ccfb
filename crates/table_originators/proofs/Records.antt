-- Where the records of a well-formed table stand in its cells, and what a search finds. Assumes nothing.
use mathlib.Core.Path.{◌≡◌, sym, ap, ◌∙◌, subst}
use mathlib.Core.List.{List}
use Prim.Native.Nat.{ℕ, ◌-◌, ◌*◌, ◌^◌, ◌<◌}
use native.Mathlib.Omega.{arith}
use lib.ListN.{length, take, drop, get_or}
use lib.Seq.{get_or-drop}
use Rattle.cells.specs.Area.{column, rows_of}
use Rattle.cells.specs.Find.{Sorted, IsAt, IsPlace, FoundIn, Searched}
use Rattle.std.specs.Prelude.{Result, Ok, Err}
use Rattle.cells.specs.declared.SearchResult.{SearchResult}
use Rattle.cells.proofs.Keys.{keys_decoded, row-key, length-column, get_or_column}
use Rattle.cells.proofs.Lent.{tail_is}
use Rattle.cells.proofs.Search.{at-below}
use Rattle.rules.specs.Settings.{record_cells}
use Rattle.table_record.specs.Record.{decode_record}
use Rattle.table_record.proofs.Rows.{record_key}
use Rattle.table_layout.specs.Layout.{records_at, records_from, record_part}
use Rattle.table_layout.specs.Cells.{decode}
use Rattle.table_layout.specs.Facts.{Knows, record_at}
use Rattle.table_check.proofs.Knowing.{records_sorted, record_within, record_held-at, record_found, record_missing}
use Rattle.table_originators.specs.Originators.{held_by, record_place, Stands, Missing, RecordFound, rounds_most, RecordSought}

-- the keys of the rows are the originators held
abbrev keys : List ℕ → List ℕ
keys c = column record_cells (get_or c records_at 0) (record_part c)

keys_held : (c : List ℕ) → keys c ≡ held_by (decode c)
unfolding decode
keys_held c = sym (keys_decoded decode_record record_key (rows_of record_cells (get_or c records_at 0) (record_part c)))

-- the records as they are lent
abbrev lent : List ℕ → List ℕ
lent c = take (length c - records_from) (drop records_from c)

module _ (c : List ℕ) (k : Knows c) where
  pub lent_sorted : Sorted record_cells (get_or c records_at 0) (lent c)
  lent_sorted = subst (Sorted record_cells (get_or c records_at 0)) (sym (tail_is c records_from)) (records_sorted c k)

  module _ (o i : ℕ) where
    pub stands : IsAt (held_by (decode c)) o i → Stands c o i
    unfolding decode
    stands p =
        let q : IsAt (keys c) o i = subst (λ (ks : List ℕ). IsAt ks o i) (sym (keys_held c)) p in
        let h : i < get_or c records_at 0 = at-below record_cells (get_or c records_at 0) (record_part c) o i q in
        record {
          holds = record { knows = k; fits = record_within c k i h; row = record_held-at c k i h };
          at = p;
          key = record_key (record_at c i) ∙ row-key record_cells c (record_place i) (omega arith) ∙ sym (get_or-drop records_from c (i * record_cells) 0) ∙ sym (get_or_column record_cells (get_or c records_at 0) (record_part c) i (omega arith) h) ∙ q.same;
          found = record_found c k o i q;
        }

    missing : IsPlace (held_by (decode c)) o i → Missing c o i
    unfolding decode
    missing p = record { knows = k; place = p; none = record_missing c k o i (subst (λ (ks : List ℕ). IsPlace ks o i) (sym (keys_held c)) p) }

  found_record : (o : ℕ) (f : Result ℕ ℕ) → FoundIn (held_by (decode c)) o f → RecordFound c o f
  found_record o (Ok i) q = stands o i q
  found_record o (Err i) q = missing o i q

  -- there are fewer than 2^9 records
  held-few : length (held_by (decode c)) < 2 ^ rounds_most
  held-few = omega (arith, sym (ap length (keys_held c)) ∙ length-column record_cells (get_or c records_at 0) (record_part c), k.sized.records, k.sized.capacity)

  -- what a search among the lent records answers
  pub sought : (o : ℕ) (s : SearchResult) → Searched (column record_cells (get_or c records_at 0) (lent c)) o s → RecordSought c o s
  sought o s p =
      let q = subst (λ (ks : List ℕ). Searched ks o s) (ap (column record_cells (get_or c records_at 0)) (tail_is c records_from) ∙ keys_held c) p in
      record { found = found_record o s.found q.found; rounds = q.rounds; few = q.few rounds_most held-few }
