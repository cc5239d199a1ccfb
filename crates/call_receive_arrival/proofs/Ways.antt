-- The ways through the rules of receiving: one law each, from what the tests said to the outcome. Assumes nothing.
use mathlib.Core.Path.{◌≡◌, refl}
use mathlib.Core.Bool.{Bool, true, false, ◌&&◌, ◌||◌, not, false≢true}
use mathlib.Core.Logic.{◌⊎◌, inl, inr}
use mathlib.Core.Option.{Option, none, some}
use mathlib.Core.List.{[], ◌∷◌}
use Prim.Native.Nat.{ℕ, ◌≤◌, ◌<◌}
use lib.Dec.{eqb}
use lib.ListN.{length}
use native.Mathlib.Omega.{arith}
use borrow.Author.Tests.{lt-ltb, le-ltb, le-leb, lt-leb}
use Rattle.lists.specs.Keyed.{lookup, has_key, put}
use Rattle.lists.proofs.Keyed.{length-map_values}
use Rattle.lists.proofs.Lists.{keep-length}
use Rattle.window.specs.Window.{distance, mark, count, has_mark}
use Rattle.wire.specs.declared.Header.{Header}
use Rattle.wire.specs.declared.Fault.{Fault}
use Rattle.wire.specs.Packet.{header, is_u}
use Rattle.wire.specs.Check.{numbered, first_of}
use Rattle.rules.specs.Settings.{Config, neighbour_most, link_most, entry_most, is_own, is_broadcast}
use Rattle.rules.specs.Calls.{ReceiveArgs, receive}
use Rattle.rules.specs.Messages.{Message}
use Rattle.rules.specs.Rules.{sequence_of, OutcomeOf, branch, unless, receive_fault, link_by, message, is_echo, is_stale, is_duplicate, is_fresh, is_passed_on, route_of, with_time, with_rows, refuse, verdict, conclude, counted_faults, store_counted, counted, uncounted, decide, take_echo, judge, step}
use Rattle.rules.specs.Table.{TableRecord, TableState, settle, with_links, begun, first_record, next_record, record_echo, table}
use Rattle.table_changes.specs.Changes.{with_records}
use Rattle.call_receive_arrival.specs.Receiving.{own_message, timely, foreign}

-- the table with the originator's record x
abbrev pub holding : TableState → Header → TableRecord → TableState
holding s h x = with_records (put h.originator x s.records) s

-- 25 or 26, with the originator's record x, if one is held, as the call leaves it; the table s has then the packet's time
abbrev pub concludes : TableState → ReceiveArgs → Header → (bidirectional fresh : Bool) → Option TableRecord → OutcomeOf table
concludes s a h b f x = record { reply = conclude a h b (is_passed_on table s.config a h b f x) (route_of table s.config x); state = with_time table s a.time }

settle-few : (κ : Config) (m : Message) (v : ℕ) (x : TableRecord) → length (settle κ m v x).links ≤ length x.links
settle-few κ m v x = keep-length (λ (e : ℕ × ℕ). has_mark e.1 || eqb e.0 (settle κ m v x).best) x.links

and_false : (t : Bool) → (t && false) ≡ false
and_false true = refl
and_false false = refl

module _ (s : TableState) (a : ReceiveArgs) where
  -- ---- the refusals 2 to 8

  module _ (n : ℕ) where
    pub way_refused : {f : Fault} → receive_fault s.config s.time a ≡ some f → step table n s (receive a) ≡ refuse table (receive a) s f
    unfolding step unless
    way_refused e = rw e

    pub way_judge : receive_fault s.config s.time a ≡ none → step table n s (receive a) ≡ judge table s a (header a.packet)
    unfolding step unless
    way_judge e = rw e

  module _ (h : Header) where
    -- ---- the verdicts in their order

    module _ (own : is_own s.config a.sender ≡ true) where
      pub way_20 : judge table s a h ≡ verdict table a h 20 (with_time table s a.time)
      unfolding judge branch
      way_20 = rw own

    module _ (own : is_own s.config a.sender ≡ false) where
      pub way_21 : is_broadcast s.config a.sender ≡ true → judge table s a h ≡ verdict table a h 21 (with_time table s a.time)
      unfolding judge branch
      way_21 e = rw (own, e)

      module _ (broadcast : is_broadcast s.config a.sender ≡ false) where
        pub way_own : is_own s.config h.originator ≡ true → judge table s a h ≡ own_message s a h
        unfolding judge branch
        way_own e = rw (own, broadcast, e)

        module _ (other : is_own s.config h.originator ≡ false) where
          pub way_24 : is_u h.flags ≡ true → judge table s a h ≡ verdict table a h 24 (with_time table s a.time)
          unfolding judge branch
          way_24 e = rw (own, broadcast, other, e)

          pub way_foreign : is_u h.flags ≡ false → judge table s a h ≡ foreign s a h
          unfolding judge branch
          way_foreign e = rw (own, broadcast, other, e)

    -- ---- a message of this node

    pub way_23 : is_echo s.config s.sends a h ≡ false → own_message s a h ≡ verdict table a h 23 (with_time table s a.time)
    unfolding branch
    way_23 e = rw e

    pub way_echo : is_echo s.config s.sends a h ≡ true → own_message s a h ≡ take_echo table s a h
    unfolding branch
    way_echo e = rw e

    pub way_9 : has_key (link_by a) s.rows ≡ false → neighbour_most ≤ length s.rows → take_echo table s a h ≡ refuse table (receive a) s (numbered 9)
    unfolding take_echo unless
    way_9 e l = rw (e, le-leb neighbour_most (length s.rows) l)

    pub way_22 : (has_key (link_by a) s.rows ≡ true) ⊎ (length s.rows < neighbour_most)
        → take_echo table s a h ≡ verdict table a h 22 (with_rows table s a.time s.sends (record_echo s.config s.sends (link_by a) s.rows))
    unfolding take_echo unless
    way_22 (inl e) = rw e
    way_22 (inr l) = rw (lt-leb neighbour_most (length s.rows) l, and_false (not (has_key (link_by a) s.rows)))

    -- ---- a message of another node

    -- stale to its originator's record, or not
    pub way_27 : is_stale table s.config a h (lookup h.originator s.records) ≡ true → foreign s a h ≡ verdict table a h 27 (with_time table s a.time)
    unfolding branch
    way_27 e = rw e

    pub way_timely : is_stale table s.config a h (lookup h.originator s.records) ≡ false → foreign s a h ≡ timely s a h
    unfolding branch
    way_timely e = rw e

    abbrev is_counted : (bidirectional : Bool) → Option TableRecord → Bool
    is_counted b x = b && not (is_duplicate table s.config a h x)

    abbrev fresh : Option TableRecord → Bool
    fresh = is_fresh table s.config a h

    -- not counted
    pub way_kept : (b : Bool) (x : Option TableRecord) → is_counted b x ≡ false → decide table s a h b x ≡ concludes s a h b (fresh x) x
    unfolding decide branch uncounted
    way_kept b x e = rw e

    -- counted in the record x
    module _ (x : TableRecord) where
      abbrev next : TableRecord
      next = next_record s.config (message a h) x

      -- 11 or 15
      pub way_full : (b : Bool) → is_counted b (some x) ≡ true → {f : Fault} → first_of (counted_faults table s.config next) ≡ some f → decide table s a h b (some x) ≡ refuse table (receive a) s f
      unfolding decide branch counted store_counted unless
      way_full b e l = rw (e, l)

      -- best is judged after counting
      pub way_next : (b : Bool) → is_counted b (some x) ≡ true → first_of (counted_faults table s.config next) ≡ none → decide table s a h b (some x) ≡ concludes (holding s h next) a h b (fresh (some x)) (some next)
      unfolding decide branch counted store_counted unless
      way_next true e l = rw (e, l)
      way_next false e l = absurd (false≢true e)

    -- the first counted makes the record
    abbrev first : TableRecord
    first = first_record s.config (message a h)

    -- one link is not too many
    first-few : length first.links ≤ link_most
    unfolding first_record
    first-few =
        let m = message a h in
        let v = mark 0 (distance (sequence_of m) (sequence_of m)) in
        omega (arith, settle-few s.config m v (with_links ((m.link, v) ∷ []) (begun m)))

    pub way_10 : s.config.settings.capacity ≤ length s.records → decide table s a h true none ≡ refuse table (receive a) s (numbered 10)
    unfolding decide branch counted unless
    way_10 l = rw (le-leb s.config.settings.capacity (length s.records) l)

    module _ (l : length s.records < s.config.settings.capacity) where
      -- its entries are the message's
      pub way_15 : entry_most < length (message a h).entries → decide table s a h true none ≡ refuse table (receive a) s (numbered 15)
      unfolding decide branch counted store_counted unless first_record
      way_15 k = rw (lt-leb s.config.settings.capacity (length s.records) l, length-map_values count first.links, le-ltb link_most (length first.links) first-few, lt-ltb entry_most (length (message a h).entries) k)

      pub way_first : length (message a h).entries ≤ entry_most → decide table s a h true none ≡ concludes (holding s h first) a h true true (some first)
      unfolding decide branch counted store_counted unless first_record
      way_first k = rw (lt-leb s.config.settings.capacity (length s.records) l, length-map_values count first.links, le-ltb link_most (length first.links) first-few, le-ltb entry_most (length (message a h).entries) k)
