-- The steps of sending, as the rules say them. Assumes nothing.
use mathlib.Core.Path.{◌≡◌, refl, sym, ap, ap₂, ◌∙◌, subst}
use mathlib.Core.Bool.{Bool, true, false, not, ◌||◌}
use mathlib.Core.List.{List}
use Prim.Native.Nat.{ℕ, ◌+◌, ◌≤◌, ◌<◌}
use native.Mathlib.Omega.{arith}
use lib.Dec.{ltb, eqb}
use lib.ListN.{length, take, drop, set, get_or}
use borrow.Rule.Slice.PartMut.{put_mid}
use borrow.Author.Tests.{eqb-true}
use Rattle.lists.specs.Lists.{and, keep, all, written_to}
use Rattle.lists.proofs.Tests.{and_at}
use Rattle.lists.proofs.Lists.{keep_same, all_weaken}
use Rattle.lists.proofs.Rising.{rising_out}
use Rattle.wire.specs.declared.Header.{Header}
use Rattle.wire.specs.Layout.{header_size}
use Rattle.wire.specs.Packet.{packet_of}
use Rattle.wire.proofs.Laws.{reads_back}
use Rattle.window.specs.Window.{distance}
use Rattle.lists.specs.Keyed.{put, rising}
use Rattle.cells.specs.Pairs.{pair_area, pairs_of}
use Rattle.cells.proofs.Pairs.{pairs-area}
use Rattle.rules.specs.declared.Written.{Written}
use Rattle.rules.specs.Settings.{Config, neighbour_area_cells, neighbour_most, interface_cells, is_number}
use Rattle.rules.specs.Calls.{interface_of, written, written_as, answered_writing}
use Rattle.rules.specs.Rules.{Sends, last_sent, next_number, send_on, own_header, send}
use Rattle.rules.specs.WellFormed.{row_tests}
use Rattle.rules.proofs.Sends.{last-own}
use Rattle.rules.specs.Table.{TableRows, TableState, row_distance, drop_old}
use Rattle.rules.proofs.WellFormed.{Wf, parts}
use Rattle.table_layout.specs.Layout.{timeout_at, used_at, time_at, rows_at, neighbours_from, neighbour_part, sent_at, last_at, own_place}
use Rattle.table_layout.specs.Cells.{encode, decode}
use Rattle.table_layout.specs.Facts.{Knows}
use Rattle.table_changes.specs.Changes.{with_time, with_sends, with_rows}
use Rattle.table_changes.specs.Left.{Left}
use Rattle.table_layout.proofs.Parts.{encoded-size, rows-lent}
use Rattle.table_changes.proofs.Parts.{time_set, rows_back}
use Rattle.table_changes.proofs.Sent.{interface_back}
use Rattle.table_neighbours.specs.Neighbours.{RowsHeld, stays_after}
use Rattle.call_own_packet_checks.specs.OwnPacket.{args, header_from}
use Rattle.call_own_packet_checks.proofs.Message.{in_use, few}
use Rattle.call_own_packet.specs.Sending.{RowsPart, sent_from}

-- ---- the number in the interface's row

module _ (c : List ℕ) (k : Knows c) (i : ℕ) (used : i < get_or c used_at 0) where
  is : c ≡ encode (decode c)
  is = sym k.cells

  -- the row with its number
  pub sent_is : (n : ℕ) (y : List ℕ) → y ≡ set (set (take interface_cells (drop (own_place i) c)) sent_at 1) last_at n → put_mid (own_place i) interface_cells c y ≡ encode (with_sends (put i n (decode c).sends) (decode c))
  sent_is n y e =
      ap (λ (l : List ℕ). put_mid (own_place i) interface_cells l y) is
      ∙ interface_back (decode c) i n (in_use c i used) (few c k) y (e ∙ ap (λ (l : List ℕ). set (set (take interface_cells (drop (own_place i) l)) sent_at 1) last_at n) is)

head_timeout : (s : TableState) → get_or (encode s) timeout_at 0 ≡ s.config.settings.timeout
unfolding encode
head_timeout s = refl

head_rows : (s : TableState) → get_or (encode s) rows_at 0 ≡ length s.rows
unfolding encode
head_rows s = refl

-- ---- the rows that are too far behind

-- the part of the neighbour rows, by the rows of the table
pub rows_part : (s : TableState) → rising s.rows ≡ true → length s.rows ≤ neighbour_most → all (λ e. is_number e.1) s.rows ≡ true → RowsPart (encode s)
rows_part s r m a =
    let e : pairs_of (length s.rows) (pair_area neighbour_most s.rows) ≡ s.rows = pairs-area neighbour_most s.rows m in
    let h : RowsHeld (length s.rows) (pair_area neighbour_most s.rows) =
    record { most = m; cells = ap (pair_area neighbour_most) (sym e); rises = ap rising e ∙ r; numbers = ap (all (λ x. is_number x.1)) e ∙ a } in
    record { size = encoded-size s; held = subst (RowsHeld (get_or (encode s) rows_at 0)) (sym (rows-lent s)) (subst (λ (n : ℕ). RowsHeld n (pair_area neighbour_most s.rows)) (sym (head_rows s)) h) }

pub rows_dropped : (s : TableState) (c d : List ℕ) (n kept i last t : ℕ) → c ≡ encode s → n ≡ get_or c rows_at 0
    → d ≡ pair_area neighbour_most (keep (stays_after i last (get_or c timeout_at 0)) (pairs_of n (neighbour_part c)))
    → kept ≡ length (keep (stays_after i last (get_or c timeout_at 0)) (pairs_of n (neighbour_part c)))
    → length s.rows ≤ neighbour_most
    → set (set (put_mid neighbours_from neighbour_area_cells c d) rows_at kept) time_at t ≡ encode (with_time t (with_rows (keep (stays_after i last s.config.settings.timeout) s.rows) s))
rows_dropped s c d n kept i last t e en ed ek m =
    let left : List (ℕ × ℕ) = keep (stays_after i last s.config.settings.timeout) s.rows in
    let b : get_or c timeout_at 0 ≡ s.config.settings.timeout = ap (λ (l : List ℕ). get_or l timeout_at 0) e ∙ head_timeout s in
    let n' : n ≡ length s.rows = en ∙ ap (λ (l : List ℕ). get_or l rows_at 0) e ∙ head_rows s in
    let part : neighbour_part c ≡ pair_area neighbour_most s.rows = ap neighbour_part e ∙ rows-lent s in
    let rs : pairs_of n (neighbour_part c) ≡ s.rows = ap₂ pairs_of n' part ∙ pairs-area neighbour_most s.rows m in
    let kp : keep (stays_after i last (get_or c timeout_at 0)) (pairs_of n (neighbour_part c)) ≡ left =
    ap₂ (λ (x : ℕ) (l : List (ℕ × ℕ)). keep (stays_after i last x) l) b rs in
    ap₂ (λ (x : List ℕ) (k : ℕ). set (set x rows_at k) time_at t) (ap₂ (λ (x y : List ℕ). put_mid neighbours_from neighbour_area_cells x y) e (ed ∙ ap (pair_area neighbour_most) kp)) (ek ∙ ap length kp)
    ∙ ap (λ (x : List ℕ). set x time_at t) (rows_back s left) ∙ time_set (with_rows left s) t

pub rows_few : (s : TableState) (c : List ℕ) → RowsPart c → c ≡ encode s → length s.rows ≤ neighbour_most
rows_few s c r e = omega (arith, r.held.most, ap (λ (l : List ℕ). get_or l rows_at 0) e, head_rows s)

-- the rules drop the rows that don't stay
same_rows : (κ : Config) (ns : Sends) (i : ℕ) (e : ℕ × ℕ)
    → (not (eqb (interface_of e.0) i) || ltb (row_distance κ ns e) κ.settings.timeout) ≡ stays_after i (last_sent κ ns i) κ.settings.timeout e
same_rows κ ns i e = go (eqb (interface_of e.0) i) refl
  where
    go : (t : Bool) → eqb (interface_of e.0) i ≡ t → (not t || ltb (row_distance κ ns e) κ.settings.timeout) ≡ (not t || ltb (distance (last_sent κ ns i) e.1) κ.settings.timeout)
    go true h = ap (λ (j : ℕ). ltb (distance (last_sent κ ns j) e.1) κ.settings.timeout) (eqb-true (interface_of e.0) i h)
    go false h = refl

drop_old_lem : (κ : Config) (ns : Sends) (i : ℕ) (rs : TableRows) → drop_old κ (send_on κ ns i) i rs ≡ keep (stays_after i (next_number κ ns i) κ.settings.timeout) rs
unfolding drop_old
drop_old_lem κ ns i rs =
    keep_same _ (stays_after i (last_sent κ (send_on κ ns i) i) κ.settings.timeout) (same_rows κ (send_on κ ns i) i) rs
    ∙ ap (λ (n : ℕ). keep (stays_after i n κ.settings.timeout) rs) (last-own κ ns i)

-- ---- all of it

module _ (c : List ℕ) (k : Knows c) where
  -- other last numbers leave the rows as they are
  pub rows-kept : (ns : Sends) (d : List ℕ) → d ≡ encode (with_sends ns (decode c)) → RowsPart d
  rows-kept ns d e =
      let w : Wf (decode c) = parts (decode c) k.valid in
      subst RowsPart (sym e)
      (rows_part (with_sends ns (decode c)) (rising_out (decode c).rows w.rows.rise) w.rows.most
      (all_weaken (λ x. and (row_tests (decode c).config (decode c).sends x)) (λ x. is_number x.1) (λ x h. and_at (row_tests (decode c).config (decode c).sends x) h 3) (decode c).rows w.rows.each))

  module _ (i t ttl g p : ℕ) (e o : List ℕ) (n : ℕ) (en : n ≡ next_number (decode c).config (decode c).sends i) where
    pub sent-all : (h : Header) (len : ℕ) (o' d final : List ℕ) → h ≡ header_from (decode c).config i n ttl g p → len ≡ header_size + length e → o' ≡ written_to (packet_of h e) o
        → d ≡ encode (with_sends (put i n (decode c).sends) (decode c))
        → ((s : TableState) → d ≡ encode s → final ≡ encode (with_time t (with_rows (keep (stays_after i n s.config.settings.timeout) s.rows) s)))
        → (r : Written) → r ≡ written_as 0 0 len n → Left (sent_from c (args i t ttl g p e o)) (answered_writing (written r) o') final
    unfolding send
    sent-all h len o' d final eh el eo ed ef r er =
        let κ : Config = (decode c).config in
        let ns : Sends = (decode c).sends in
        let hd : h ≡ own_header κ ns (args i t ttl g p e o) = eh ∙ ap (λ (m : ℕ). header_from κ i m ttl g p) en in
        let answer : r ≡ written_as 0 0 (length (packet_of (own_header κ ns (args i t ttl g p e o)) e)) (next_number κ ns i) =
        er ∙ ap₂ (written_as 0 0) (el ∙ sym (reads_back (own_header κ ns (args i t ttl g p e o)) e).size) en in
        record {
          replies = ap₂ (λ (x : Written) (l : List ℕ). answered_writing (written x) l) answer (eo ∙ ap (λ (x : Header). written_to (packet_of x e) o) hd);
          leaves =
              ef (with_sends (put i n ns) (decode c)) ed
              ∙ ap₂ (λ (m : ℕ) (rs : TableRows). encode (with_time t (with_rows rs (with_sends (put i m ns) (decode c))))) en
              (ap (λ (m : ℕ). keep (stays_after i m κ.settings.timeout) (decode c).rows) en ∙ sym (drop_old_lem κ ns i (decode c).rows));
        }
