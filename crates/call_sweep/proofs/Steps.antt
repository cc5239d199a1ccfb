-- A sweep's steps, as the rules say them. Assumes nothing.
use mathlib.Core.Path.{◌≡◌, refl, sym, ap, ap₂, ◌∙◌, subst}
use mathlib.Core.Bool.{Bool, true, false, cond, not}
use mathlib.Core.List.{List, [], ◌∷◌}
use Prim.Native.Nat.{ℕ, suc, ◌+◌, ◌-◌, ◌≤◌}
use native.Mathlib.Omega.{arith}
use borrow.Author.Tests.{leb-true, le-leb}
use borrow.Rule.Slice.PartMut.{put_mid}
use lib.Dec.{leb}
use lib.ListN.{length, take, drop, set, get_or}
use Rattle.lists.specs.Lists.{and, keep, all}
use Rattle.lists.proofs.Lists.{all_weaken}
use Rattle.cells.proofs.Lent.{tail_is}
use Rattle.rules.specs.declared.Swept.{Swept}
use Rattle.rules.specs.Calls.{swept, answered}
use Rattle.rules.specs.Rules.{is_expired, purge}
use Rattle.rules.specs.Table.{TableRecord, table}
use Rattle.rules.specs.WellFormed.{record_tests}
use Rattle.rules.proofs.WellFormed.{Wf, parts}
use Rattle.rules.proofs.Parts.{record_parts}
use Rattle.table_layout.specs.Layout.{purge_at, capacity_at, time_at, records_at, records_from}
use Rattle.table_layout.specs.Cells.{record_area, encode, decode}
use Rattle.table_layout.specs.Facts.{Knows}
use Rattle.table_changes.specs.Changes.{with_time, with_records}
use Rattle.table_changes.specs.Left.{Left}
use Rattle.table_changes.proofs.Values.{time-read}
use Rattle.table_layout.proofs.Parts.{records-lent}
use Rattle.table_changes.proofs.Parts.{time_set, records_back}
use Rattle.call_sweep.specs.Sweeping.{records_of, RecordsHeld, is_recent, Kept, purged, swept_as}
use Rattle.call_sweep.proofs.Records.{length-records}

-- those that pass a test and those that don't are all
split_length : {A : Type 0} (p : A → Bool) (xs : List A) → length (keep p xs) + length (keep (λ x. not (p x)) xs) ≡ length xs
split_length p [] = refl
split_length p (x ∷ xs) = go (p x) (split_length p xs)
  where
    go : (t : Bool) → length (keep p xs) + length (keep (λ y. not (p y)) xs) ≡ length xs
        → length (cond t (x ∷ keep p xs) (keep p xs)) + length (cond (not t) (x ∷ keep (λ y. not (p y)) xs) (keep (λ y. not (p y)) xs)) ≡ suc (length xs)
    go true e = omega arith
    go false e = omega arith

-- cells of the head, and the records
records_are : (c : List ℕ) → records_of (get_or c records_at 0) (drop records_from c) ≡ (decode c).records
unfolding decode
records_are c = refl

capacity_is : (c : List ℕ) → get_or c capacity_at 0 ≡ (decode c).config.settings.capacity
unfolding decode
capacity_is c = refl

purge_is : (c : List ℕ) → get_or c purge_at 0 ≡ (decode c).config.settings.purge
unfolding decode
purge_is c = refl

module _ (c : List ℕ) (k : Knows c) (t : ℕ) (late : get_or c time_at 0 ≤ t) where
  part : List ℕ
  part = take (length c - records_from) (drop records_from c)

  part_is : part ≡ drop records_from c
  unfolding part
  part_is = tail_is c records_from

  area_is : drop records_from c ≡ record_area (get_or c capacity_at 0) (decode c).records
  area_is = ap (drop records_from) (sym k.cells) ∙ records-lent (decode c) ∙ ap (λ (m : ℕ). record_area m (decode c).records) (sym (capacity_is c))

  past : all (λ e. leb e.1.time t) (decode c).records ≡ true
  past =
      let w : Wf (decode c) = parts (decode c) k.valid in
      all_weaken (λ e. and (record_tests (decode c).config (decode c).time e)) (λ e. leb e.1.time t)
      (λ e h. le-leb e.1.time t (omega (arith, time-read c, leb-true e.1.time (decode c).time (record_parts (decode c).config (decode c).time e h).time)))
      (decode c).records w.records.each

  held : RecordsHeld (get_or c records_at 0) t (drop records_from c)
  held = record {
    capacity = get_or c capacity_at 0;
    most = k.sized.capacity;
    room = k.sized.records;
    cells = area_is ∙ ap (record_area (get_or c capacity_at 0)) (sym (records_are c));
    past = ap (all (λ e. leb e.1.time t)) (records_are c) ∙ past;
  }

  pub meets : RecordsHeld (get_or c records_at 0) t (take (length c - records_from) (drop records_from c))
  unfolding part
  meets = subst (RecordsHeld (get_or c records_at 0) t) (sym part_is) held

  -- what the pass leaves makes the table that the rules' purge leaves
  module _ (d : List ℕ) (kept : ℕ) (h : Kept (get_or c records_at 0) t (get_or c purge_at 0) (take (length c - records_from) (drop records_from c)) d kept) where
    recent : List (ℕ × TableRecord)
    recent = keep (is_recent t (decode c).config.settings.purge) (decode c).records

    -- the records of the part are the table's
    same : keep (is_recent t (get_or c purge_at 0)) (records_of (get_or c records_at 0) (take (length c - records_from) (drop records_from c))) ≡ recent
    unfolding recent part
    same = ap₂ (λ (p : ℕ) (l : List (ℕ × TableRecord)). keep (is_recent t p) l) (purge_is c) (ap (records_of (get_or c records_at 0)) part_is ∙ records_are c)

    left : d ≡ record_area (decode c).config.settings.capacity recent
    unfolding part held
    left =
        h.cells (get_or c capacity_at 0) (part_is ∙ held.cells ∙ ap (λ (l : List ℕ). record_area (get_or c capacity_at 0) (records_of (get_or c records_at 0) l)) (sym part_is)) held.room
        ∙ ap₂ record_area (capacity_is c) same

    removed : get_or c records_at 0 - kept ≡ length (keep (λ e. is_expired table (decode c).config t e.1) (decode c).records)
    unfolding recent
    removed =
        omega (
          arith,
          h.held ∙ ap length same,
          sym (length-records (get_or c records_at 0) (drop records_from c)) ∙ ap length (records_are c),
          split_length (λ e. is_expired table (decode c).config t e.1) (decode c).records,
        )

    table_is : set (set (put_mid records_from (length c - records_from) c d) records_at kept) time_at t ≡ encode (with_time t (with_records recent (decode c)))
    table_is =
        let e : c ≡ encode (decode c) = sym k.cells in
        (λ i. set (set (put_mid records_from (length (e i) - records_from) (e i) (left i)) records_at ((h.held ∙ ap length same) i)) time_at t)
        ∙ ap (λ (x : List ℕ). set x time_at t) (records_back (decode c) recent (length (encode (decode c)) - records_from) refl) ∙ time_set (with_records recent (decode c)) t

    pub swept_all : (r : Swept) → r ≡ swept_as 0 (get_or c records_at 0 - kept) → Left (purged c t) (answered (swept r)) (set (set (put_mid records_from (length c - records_from) c d) records_at kept) time_at t)
    unfolding purge recent
    swept_all r e = record { replies = ap (λ (x : Swept). answered (swept x)) (e ∙ ap (swept_as 0) removed); leaves = table_is }
