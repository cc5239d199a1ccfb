-- A record written over its cells, or put in at its place: the cells are those of the table that holds it. Assumes nothing.
use mathlib.Core.Path.{◌≡◌, refl, sym, ap, ◌∙◌, subst}
use mathlib.Core.Bool.{Bool, true, false, cond}
use mathlib.Core.List.{List, [], ◌∷◌, ◌++◌, append_assoc, append-nil}
use Prim.Native.Nat.{ℕ, ◌+◌, ◌-◌, ◌*◌, ◌≤◌, ◌<◌}
use native.Mathlib.Omega.{arith}
use lib.ListN.{length, take, drop, set, get_or, length-append, length-drop, length-set, length-map}
use lib.Seq.{length-take-le}
use borrow.Rule.Slice.PartMut.{put_mid, put_same}
use Rattle.lists.specs.Keyed.{put}
use Rattle.cells.specs.Area.{written, moved_up, put_in, insert_at}
use Rattle.cells.specs.Pairs.{pair_area}
use Rattle.cells.proofs.Areas.{length-fit, length-area, length_insert, take_more, more_back, write-row, put-row}
use Rattle.cells.proofs.Lent.{part_is, part_length, tail_back}
use Rattle.cells.proofs.Trips.{length-decoded}
use Rattle.cells_moves.proofs.Moves.{put-done}
use Rattle.cells.proofs.Search.{Among, among, apart, put-among, put_apart}
use Rattle.window.specs.declared.Position.{Position}
use Rattle.window.specs.Window.{position}
use Rattle.rules.specs.declared.Policy.{Policy}
use Rattle.rules.specs.Settings.{Follows, neighbour_most, record_cells}
use Rattle.rules.specs.Messages.{Message}
use Rattle.rules.specs.Table.{TableRecord, TableState, next_record}
use Rattle.table_record.specs.Record.{current_at, encode_record, decode_record}
use Rattle.table_record.proofs.Rows.{length_record}
use Rattle.table_layout.specs.Layout.{capacity_at, records_at, records_from, record_part}
use Rattle.table_layout.specs.Cells.{head_of, interface_area, record_area, encode, decode}
use Rattle.table_layout.specs.Facts.{record_at}
use Rattle.lists.proofs.Rising.{rising_out}
use Rattle.table_changes.specs.Changes.{with_records}
use Rattle.table_layout.proofs.Parts.{wide-interfaces, wide_rows, encoded-size, records-lent}
use Rattle.table_changes.proofs.Parts.{records_back}
use Rattle.table_changes.proofs.Sent.{run_back}
use Rattle.rules.proofs.WellFormed.{Wf, parts}
use Rattle.std.specs.Prelude.{Result}
use Rattle.wire.specs.declared.refusals.Refusal.{Refusal}
use Rattle.hear_message.specs.declared.Heard.{Heard}
use Rattle.hear_message.specs.Hearing.{is_taken, Answers, HeardIn}
use Rattle.table_originators.specs.Originators.{record_place, Stands, Missing, standing_at, counted_at, LiesAt, HeardAt}

abbrev Entry : Type 0
Entry = ℕ × TableRecord

pub records-count : (c : List ℕ) → length (decode c).records ≡ get_or c records_at 0
unfolding decode
records-count c = length-decoded decode_record record_cells (get_or c records_at 0) (record_part c)

capacity_is : (c : List ℕ) → (decode c).config.settings.capacity ≡ get_or c capacity_at 0
unfolding decode
capacity_is c = refl

-- ---- one record of a table

module _ (s : TableState) (few : length s.records ≤ s.config.settings.capacity) (i : ℕ) (e : Entry) where
  abbrev area : List Entry → List ℕ
  area es = record_area s.config.settings.capacity es

  -- the cells before n records
  abbrev front : (n : ℕ) → List ℕ
  front n = take records_at (head_of s) ++ (n ∷ []) ++ (interface_area s ++ pair_area neighbour_most s.rows)

  length_front : (n : ℕ) → length (front n) ≡ records_from
  length_front n =
      omega
      (arith, wide-interfaces s, wide_rows s, length-append (take records_at (head_of s) ++ (n ∷ [])) (interface_area s ++ pair_area neighbour_most s.rows), length-append (interface_area s) (pair_area neighbour_most s.rows))

  fronted : (es : List Entry) → encode (with_records es s) ≡ front (length es) ++ (area es ++ [])
  unfolding encode
  fronted es = simp (append_assoc, append-nil)

  -- written over
  row_over : i < length s.records → put_mid (record_place i) record_cells (encode s) (encode_record e) ≡ encode (with_records (set s.records i e) s)
  row_over h =
      let n = length s.records in
      let y = encode_record e in
      let w : i * record_cells + record_cells ≤ length (area s.records) = omega (arith, length-area encode_record record_cells length_record s.config.settings.capacity s.records) in
      ap (λ (c : List ℕ). put_mid (record_place i) record_cells c y) (fronted s.records)
      ∙ ap (λ (k : ℕ). put_mid (k + i * record_cells) record_cells (front n ++ (area s.records ++ [])) y) (sym (length_front n))
      ∙ run_back (front n) (area s.records) [] (i * record_cells) record_cells w y (length_record e)
      ∙ ap (λ (l : List ℕ). front n ++ (l ++ [])) (write-row encode_record record_cells length_record s.config.settings.capacity s.records few i e h)
      ∙ ap (λ (k : ℕ). front k ++ (area (set s.records i e) ++ [])) (sym (length-set s.records i e))
      ∙ sym (fronted (set s.records i e))

  -- put in, where the cells of n records are lent, room for one more among them
  row_in : i ≤ length s.records → (n : ℕ) → n ≡ length s.records + 1 → n ≤ s.config.settings.capacity
      → set (put_mid records_from (n * record_cells) (encode s) (put_in (take (n * record_cells) (drop records_from (encode s))) (i * record_cells) (encode_record e))) records_at n
      ≡ encode (with_records (insert_at i e s.records) s)
  row_in h n en room =
      let es = insert_at i e s.records in
      let ln : length es ≡ n = length_insert i e s.records h ∙ sym en in
      let lent : take (n * record_cells) (drop records_from (encode s)) ≡ record_area n s.records =
      ap (take (n * record_cells)) (records-lent s) ∙ take_more encode_record record_cells length_record n s.config.settings.capacity s.records (omega arith) room in
      let y : put_in (take (n * record_cells) (drop records_from (encode s))) (i * record_cells) (encode_record e) ≡ record_area n es =
      ap (λ (l : List ℕ). put_in l (i * record_cells) (encode_record e)) lent ∙ put-row encode_record record_cells length_record n s.records (omega arith) i e h in
      let back : put_mid records_from (n * record_cells) (encode s) (record_area n es) ≡ put_mid records_from (length (encode s) - records_from) (encode s) (area es) =
      ap (λ (l : List ℕ). take records_from (encode s) ++ (record_area n es ++ drop (n * record_cells) l)) (records-lent s)
      ∙ ap (λ (l : List ℕ). take records_from (encode s) ++ l) (more_back encode_record record_cells length_record n s.config.settings.capacity s.records es (omega arith) (omega arith) room)
      ∙ sym (tail_back (encode s) records_from (area es) (encoded-size s)) in
      ap (λ (l : List ℕ). set (put_mid records_from (n * record_cells) (encode s) l) records_at n) y
      ∙ ap (λ (l : List ℕ). set l records_at n) back
      ∙ ap (set (put_mid records_from (length (encode s) - records_from) (encode s) (area es)) records_at) (sym ln)
      ∙ records_back s es (length (encode s) - records_from) refl

-- ---- the record of an originator, in a well-formed table's cells

-- where a number lies beside the window of the record at place i, by its row as it is lent
pub timely_in : (c : List ℕ) (i : ℕ) → record_place i + record_cells ≤ length c → {p : Policy} → Follows (decode c).config p → (n : ℕ) {q : Position} → LiesAt c i n q
    → q ≡ position p.window (get_or (take (record_place i + record_cells - record_place i) (drop (record_place i) c)) current_at 0) n
unfolding decode_record
timely_in c i h f n e = e ∙ (λ j. position (sym f.window j) (get_or (sym (part_is c (record_place i) record_cells h) j) current_at 0) n)

module _ (c : List ℕ) (o i : ℕ) where
  abbrev records : List Entry
  records = (decode c).records

  -- the table with the record x of o
  abbrev with : TableRecord → TableState
  with x = with_records (put o x records) (decode c)

  -- over the record that it has
  module _ (s : Stands c o i) where
    within : i < length records
    within = omega (arith, s.at.within, length-map records (λ (e : Entry). e.0))

    well : Wf (decode c)
    well = parts (decode c) s.holds.knows.valid

    about : Among o i records
    about = among o i records (rising_out records well.records.rise) s.at

    written_record : (x : TableRecord) → put_mid (record_place i) record_cells c (encode_record (o, x)) ≡ encode (with x)
    written_record x =
        ap (λ (l : List ℕ). put_mid (record_place i) record_cells l (encode_record (o, x))) (sym s.holds.knows.cells)
        ∙ row_over (decode c) well.records.most i (o, x) within
        ∙ ap (λ (es : List Entry). encode (with_records es (decode c))) (sym (put-among o i x records within about))

    -- the row as it is lent
    lent_is : take (record_place i + record_cells - record_place i) (drop (record_place i) c) ≡ record_at c i
    lent_is = part_is c (record_place i) record_cells s.holds.fits

    -- what a message leaves of it
    pub heard_in : (m : Message) (b : Bool) (y : List ℕ) (r : Result Heard Refusal) → HeardIn (decode c).config m b (take (record_place i + record_cells - record_place i) (drop (record_place i) c)) y r
        → HeardAt c (put_mid (record_place i) (record_place i + record_cells - record_place i) c y) o i m b r
    heard_in m b y r w =
        let κ = (decode c).config in
        let n : record_place i + record_cells - record_place i ≡ record_cells = omega arith in
        let taken : Bool = is_taken κ m b (standing_at c i) in
        let e : y ≡ cond taken (encode_record (o, counted_at c i m)) (record_at c i) =
        w.cells ∙ ap (λ (l : List ℕ). cond (is_taken κ m b (decode_record l).1) (encode_record ((decode_record l).0, next_record κ m (decode_record l).1)) l) lent_is
        ∙ ap (λ (k : ℕ). cond taken (encode_record (k, counted_at c i m)) (record_at c i)) s.key in
        record {
          answers = subst (λ (l : List ℕ). Answers κ m b (decode_record l).1 r) lent_is w.answers;
          cells = ap (λ (k : ℕ). put_mid (record_place i) k c y) n ∙ ap (put_mid (record_place i) record_cells c) e ∙ go taken;
        }
      where
        go : (t : Bool) → put_mid (record_place i) record_cells c (cond t (encode_record (o, counted_at c i m)) (record_at c i)) ≡ cond t (encode (with (counted_at c i m))) c
        go true = written_record (counted_at c i m)
        go false = put_same (record_place i) record_cells c

  -- at the place of one that it lacks
  module _ (s : Missing c o i) where
    place-within : i ≤ length records
    place-within = omega (arith, s.place.within, length-map records (λ (e : Entry). e.0))

    -- the cells of the records with room for one more
    abbrev more : ℕ
    more = (get_or c records_at 0 + 1) * record_cells

    module _ (h : get_or c records_at 0 < get_or c capacity_at 0) where
      pub more-fits : records_from + more ≤ length c
      more-fits = omega (arith, s.knows.sized.size)

      -- there is room for its cells
      pub place-fits : i * record_cells + record_cells ≤ length (take (records_from + more - records_from) (drop records_from c))
      place-fits = omega (arith, place-within, records-count c, part_length c records_from more more-fits)

      -- the cells of the records with those from place i on moved up, z, and what is left of all cells
      abbrev pub opened : List ℕ → List ℕ
      opened z = put_mid records_from (records_from + more - records_from) c z

      opened_length : (z : List ℕ) → length z ≡ more → length (opened z) ≡ length c
      opened_length z e =
          let rest = drop (records_from + more - records_from) (drop records_from c) in
          omega (
            arith,
            length-append (take records_from c) (z ++ rest),
            length-append z rest,
            length-take-le records_from c (omega (arith, more-fits)),
            e,
            length-drop (records_from + more - records_from) (drop records_from c),
            length-drop records_from c,
            more-fits,
          )

      module _ (z : List ℕ) (ez : z ≡ moved_up (take (records_from + more - records_from) (drop records_from c)) (i * record_cells) record_cells) where
        opened_size : length z ≡ more
        opened_size = ap length ez ∙ length-fit (length (take (records_from + more - records_from) (drop records_from c))) _ ∙ part_length c records_from more more-fits

        -- the row at place i is lent whole
        pub opened_fits : record_place i + record_cells ≤ length (opened z)
        opened_fits = omega (arith, opened_length z opened_size, more-fits, place-fits, part_length c records_from more more-fits)

        pub opened_row : (y : List ℕ) → length y ≡ record_cells
            → put_mid (record_place i) (record_place i + record_cells - record_place i) (opened z) y ≡ opened (put_in (take (records_from + more - records_from) (drop records_from c)) (i * record_cells) y)
        opened_row y ey =
            let rest = drop (records_from + more - records_from) (drop records_from c) in
            let lent = take (records_from + more - records_from) (drop records_from c) in
            let n : record_place i + record_cells - record_place i ≡ record_cells = omega arith in
            let lh : length (take records_from c) ≡ records_from = length-take-le records_from c (omega (arith, more-fits)) in
            (λ j. put_mid (sym lh j + i * record_cells) (n j) (opened z) y)
            ∙ run_back (take records_from c) z rest (i * record_cells) record_cells (omega (arith, opened_size, place-fits, part_length c records_from more more-fits)) y ey
            ∙ ap (λ (l : List ℕ). take records_from c ++ (l ++ rest)) (put-done lent y z (written z (i * record_cells) y) (i * record_cells) (omega (arith, place-fits, ey)) (ez ∙ ap (moved_up lent (i * record_cells)) (sym ey)) refl)

        -- so there are as many cells as before
        pub opened_same : (y : List ℕ) → length y ≡ record_cells → length (put_mid (record_place i) (record_place i + record_cells - record_place i) (opened z) y) ≡ length c
        opened_same y ey =
            let lent = take (records_from + more - records_from) (drop records_from c) in
            ap length (opened_row y ey) ∙ opened_length (put_in lent (i * record_cells) y) (length-fit (length lent) _ ∙ part_length c records_from more more-fits)

      pub record_in : (x : TableRecord) (y z : List ℕ) → y ≡ encode_record (o, x) → z ≡ put_in (take (records_from + more - records_from) (drop records_from c)) (i * record_cells) y
          → set (put_mid records_from (records_from + more - records_from) c z) records_at (get_or c records_at 0 + 1) ≡ encode (with x)
      record_in x y z ey ez =
          let n = get_or c records_at 0 + 1 in
          let k : records_from + more - records_from ≡ n * record_cells = omega arith in
          let room : n ≤ (decode c).config.settings.capacity = omega (arith, capacity_is c) in
          ap (λ (l : List ℕ). set (put_mid records_from (records_from + more - records_from) c l) records_at n) (ez ∙ ap (put_in (take (records_from + more - records_from) (drop records_from c)) (i * record_cells)) ey)
          ∙ (λ j. set (put_mid records_from (k j) (sym s.knows.cells j) (put_in (take (k j) (drop records_from (sym s.knows.cells j))) (i * record_cells) (encode_record (o, x)))) records_at n)
          ∙ row_in (decode c) (parts (decode c) s.knows.valid).records.most i (o, x) place-within n (ap (λ (m : ℕ). m + 1) (sym (records-count c))) room
          ∙ ap (λ (es : List Entry). encode (with_records es (decode c))) (sym (put_apart o i x records (apart o i records s.place)))
