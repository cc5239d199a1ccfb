-- The row that an echo's link takes. Assumes nothing.
use mathlib.Core.Path.{◌≡◌, sym, ap, ◌∙◌}
use mathlib.Core.Logic.{inl, inr, ⊎_elim}
use mathlib.Core.Bool.{true}
use mathlib.Core.List.{List}
use Prim.Native.Nat.{ℕ, ◌<◌}
use native.Mathlib.Omega.{arith}
use borrow.Author.Tests.{eqb-true}
use borrow.Rule.Slice.PartMut.{put_mid, put_same}
use lib.ListN.{length, set, get_or}
use Rattle.lists.specs.Keyed.{has_key, put}
use Rattle.lists.proofs.Tests.{and_at}
use Rattle.cells.specs.Pairs.{pair_area, pairs_of}
use Rattle.cells.proofs.Pairs.{length_pairs}
use Rattle.wire.specs.Packet.{header}
use Rattle.wire.specs.Check.{numbered}
use Rattle.rules.specs.Settings.{interface_most, neighbour_most, neighbour_area_cells}
use Rattle.rules.specs.Calls.{interface_of, receive}
use Rattle.rules.specs.Rules.{last_sent, link_by, echo_tests, is_echo, with_time, refuse, verdict, take_echo}
use Rattle.rules.specs.Table.{TableRows, TableState, record_echo, table}
use Rattle.rules.specs.WellFormed.{well_formed}
use Rattle.rules.proofs.Links.{interface_of_lem}
use Rattle.table_layout.specs.Layout.{rows_at, neighbours_from, neighbour_part}
use Rattle.table_layout.specs.Cells.{encode, decode}
use Rattle.table_changes.specs.Changes as changed
use Rattle.table_changes.proofs.Parts.{rows_back}
use Rattle.table_neighbours.specs.Neighbours.{Recorded, NoRoom}
use Rattle.call_receive_arrival.specs.declared.Arrival.{Arrival}
use Rattle.call_receive_arrival.specs.Receiving.{call_of, after, Ends, Fits, Taken, Echoes}
use Rattle.call_receive_arrival.proofs.Ways.{way_9, way_22}
use Rattle.call_receive_arrival.proofs.Endings.{link_is, sequence_is, kept_by}
use Rattle.table_neighbours.proofs.Lent.{rows_are}

rows-count : (c : List ℕ) → length (decode c).rows ≡ get_or c rows_at 0
rows-count c = ap length (sym (rows_are c)) ∙ length_pairs (get_or c rows_at 0) (neighbour_part c)

-- the number of an echo is the last that its interface has sent
pub echo-number : (c : List ℕ) {p o : List ℕ} {m : Arrival} → Fits p o m → is_echo (decode c).config (decode c).sends (call_of p o m) (header p) ≡ true → Echoes c m
echo-number c {p} {o} {m} f h =
    sequence_is f ∙ eqb-true (header p).sequence (last_sent (decode c).config (decode c).sends m.interface) (and_at (echo_tests (decode c).config (decode c).sends (call_of p o m) (header p)) h 3)

module _ {c p o : List ℕ} {m : Arrival} (t : Taken c p o m) where
  -- its link, as the rules name it
  link-key : has_key (link_by (call_of p o m)) (decode c).rows ≡ has_key m.ogm.link (pairs_of (get_or c rows_at 0) (neighbour_part c))
  link-key = (λ j. has_key (sym (link_is t.fits) j) (sym (rows_are c) j))

  -- there is no room for its row
  pub full-cells : {y : List ℕ} → NoRoom (get_or c rows_at 0) (neighbour_part c) y m.ogm.link → put_mid neighbours_from neighbour_area_cells c y ≡ c
  full-cells n = ap (put_mid neighbours_from neighbour_area_cells c) n.same ∙ put_same neighbours_from neighbour_area_cells c

  pub full_way : {y : List ℕ} → NoRoom (get_or c rows_at 0) (neighbour_part c) y m.ogm.link → take_echo table (decode c) (call_of p o m) (header p) ≡ refuse table (receive (call_of p o m)) (decode c) (numbered 9)
  full_way n = way_9 (decode c) (call_of p o m) (header p) (link-key ∙ n.absent) (omega (arith, rows-count c, n.full))

  -- or its row takes the number
  module _ (e : Echoes c m) {y : List ℕ} {n : ℕ} (r : Recorded (get_or c rows_at 0) (neighbour_part c) y m.ogm.link m.ogm.sequence n) where
    abbrev recorded : TableRows
    recorded = record_echo (decode c).config (decode c).sends (link_by (call_of p o m)) (decode c).rows

    abbrev pub left : TableState
    left = changed.with_rows recorded (decode c)

    recorded_is : put m.ogm.link m.ogm.sequence (pairs_of (get_or c rows_at 0) (neighbour_part c)) ≡ recorded
    unfolding record_echo
    recorded_is =
        let i : m.interface < interface_most = omega (arith, t.interface, t.knows.sized.used-most) in
        let number : m.ogm.sequence ≡ last_sent (decode c).config (decode c).sends (interface_of (link_by (call_of p o m))) =
        e ∙ ap (last_sent (decode c).config (decode c).sends) (sym (interface_of_lem m.sender m.interface i)) in
        λ j. put (link_is t.fits j) (number j) (rows_are c j)

    pub echo-cells : set (put_mid neighbours_from neighbour_area_cells c y) rows_at n ≡ encode left
    echo-cells =
        (λ j. set (put_mid neighbours_from neighbour_area_cells (sym t.knows.cells j) ((r.cells ∙ ap (pair_area neighbour_most) recorded_is) j)) rows_at ((r.held ∙ ap length recorded_is) j)) ∙ rows_back (decode c) recorded

    pub echo_way : take_echo table (decode c) (call_of p o m) (header p) ≡ verdict table (call_of p o m) (header p) 22 (with_time table left m.ogm.time)
    echo_way =
        way_22 (decode c) (call_of p o m) (header p)
        (⊎_elim (λ h. inl (link-key ∙ h)) (λ h. inr (omega (arith, rows-count c))) r.room)

    pub echo-kept : after c p o m ≡ take_echo table (decode c) (call_of p o m) (header p) → well_formed (with_time table left m.ogm.time) ≡ true
    unfolding verdict
    echo-kept w = kept_by t (w ∙ echo_way)

    -- the table is well-formed once its time is set
    abbrev pub echo-ends : after c p o m ≡ take_echo table (decode c) (call_of p o m) (header p) → Ends (set (put_mid neighbours_from neighbour_area_cells c y) rows_at n) m.ogm.time
    echo-ends w = record { state = left; cells = echo-cells; valid = echo-kept w }
