-- Messages of other nodes: what each end leaves. Assumes nothing.
use mathlib.Core.Path.{◌≡◌, refl, sym, ap, ap₂, ◌∙◌, subst}
use mathlib.Core.Bool.{Bool, true, false, cond, ◌&&◌, not, false≢true}
use mathlib.Core.Option.{Option, none, some}
use mathlib.Core.List.{List}
use Prim.Native.Nat.{ℕ, ◌%◌, ◌≤◌, ◌<◌}
use native.Mathlib.Nat.{mod-eq_of_lt}
use native.Mathlib.Omega.{arith}
use lib.ListN.{set, get_or}
use Rattle.lists.specs.Lists.{maybe}
use Rattle.lists.specs.Keyed.{lookup, has_key, put}
use Rattle.lists.proofs.Tests.{and_left, and_right}
use Rattle.window.specs.declared.Position.{Position}
use Rattle.window.specs.Window.{numbers, stale}
use Rattle.window.specs.Window as N
use Rattle.wire.specs.declared.Fault.{Fault}
use Rattle.wire.specs.Packet.{header, hna}
use Rattle.wire.specs.Check.{numbered, entries}
use Rattle.wire.proofs.Entries.{length-entries}
use Rattle.rules.specs.Messages.{Message, message_of}
use Rattle.rules.specs.declared.Received.{Received}
use Rattle.rules.specs.declared.Route.{Route}
use Rattle.rules.specs.Settings.{entry_most}
use Rattle.rules.specs.Calls.{ReceiveArgs, receive, received_as, no_route}
use Rattle.rules.specs.Rules.{message, is_stale, is_best_by, is_duplicate, is_fresh, with_time, route_of, refuse, decide}
use Rattle.rules.specs.Table.{TableRecord, TableState, first_record, next_record, is_stale_in, table}
use Rattle.table_layout.specs.Layout.{time_at, capacity_at, records_at}
use Rattle.table_layout.specs.Cells.{encode, decode}
use Rattle.hear_message.specs.declared.Answer.{Answer}
use Rattle.std.specs.Prelude.{Result, Ok, Err}
use Rattle.wire.specs.declared.refusals.Refusal.{Refusal}
use Rattle.wire.specs.Refusals.{fault_by}
use Rattle.hear_message.specs.declared.Heard.{Heard}
use Rattle.hear_message.specs.declared.Heard.TheVariants as H
use Rattle.count_in_record.specs.Counting.{counted_fault}
use Rattle.hear_message.specs.Hearing.{is_repeated, is_fresh_in, is_counted, is_taken, Answers}
use Rattle.table_changes.specs.Changes.{with_records}
use Rattle.table_changes.proofs.Parts.{time_set}
use Rattle.table_originators.specs.Originators.{Stands, Missing, standing_at, LiesAt, HeardAt, Made}
use Rattle.table_originators.proofs.Changed.{records-count}
use Rattle.call_receive_arrival.specs.declared.Arrival.{Arrival}
use Rattle.call_receive_arrival.specs.Receiving.{call_of, after, Leaves, EndsStale, Concluded, Fits, Taken, Ruled, timely, foreign, Decides}
use Rattle.call_receive_arrival.proofs.Ways.{holding, concludes, way_27, way_timely, way_kept, way_full, way_next, way_10, way_15, way_first}
use Rattle.call_receive_arrival.proofs.Endings.{message_is, link_is, originator_is, sequence_is, leaves_by, verdict-leaves, concludes_left}

-- ---- stale, or not

module _ {c p o : List ℕ} {m : Arrival} (t : Taken c p o m) (ruled : Ruled c p o m foreign) where
  -- what is held of the originator, by the packet's header
  held_is : {x : Option TableRecord} → lookup m.originator (decode c).records ≡ x → lookup (header p).originator (decode c).records ≡ x
  held_is e = ap (λ (k : ℕ). lookup k (decode c).records) (sym (originator_is t.fits)) ∙ e

  -- without a record nothing is stale
  pub missing_timely : {i : ℕ} → Missing c m.originator i → Ruled c p o m timely
  missing_timely at = ruled ∙ way_timely (decode c) (call_of p o m) (header p) (ap (is_stale table (decode c).config (call_of p o m) (header p)) (held_is at.none))

  -- to the record at place i the number lies so
  module _ {i : ℕ} (at : Stands c m.originator i) (small : m.ogm.sequence < numbers) {q : Position} (lies : LiesAt c i m.ogm.sequence q) where
    same_number : (header p).sequence % numbers ≡ m.ogm.sequence
    same_number = ap (λ (n : ℕ). n % numbers) (sym (sequence_is t.fits)) ∙ mod-eq_of_lt small

    stale_is : is_stale table (decode c).config (call_of p o m) (header p) (lookup (header p).originator (decode c).records) ≡ N.is_stale q
    unfolding is_stale_in stale
    stale_is =
        ap (is_stale table (decode c).config (call_of p o m) (header p)) (held_is at.found)
        ∙ ap (λ (n : ℕ). stale (decode c).config.settings.window (standing_at c i).current n) same_number ∙ ap N.is_stale (sym lies)

    pub standing_timely : N.is_stale q ≡ false → Ruled c p o m timely
    standing_timely e = ruled ∙ way_timely (decode c) (call_of p o m) (header p) (stale_is ∙ e)

    -- the record stays, and the route with it
    pub standing_stale : N.is_stale q ≡ true → {route : Route} → route ≡ route_of table (decode c).config (some (standing_at c i)) → {e : List ℕ} {r : Received} → EndsStale c m.ogm.time route e r
        → Leaves e o r (after c p o m)
    standing_stale e er k =
        let s = decode c in
        leaves_by (ruled ∙ way_27 s (call_of p o m) (header p) (stale_is ∙ e))
        (verdict-leaves (with_time table s m.ogm.time) (call_of p o m) (header p) 27 m.originator _ (originator_is t.fits)
        (k.replies ∙ ap (received_as 27 0 0) (er ∙ ap (route_of table s.config) (sym at.found)))
        (k.cells ∙ ap (λ (l : List ℕ). set l time_at m.ogm.time) (sym t.knows.cells) ∙ time_set s m.ogm.time))

not-refused : (x : Option Fault) → maybe x true (λ v. false) ≡ true → x ≡ none
not-refused none h = refl
not-refused (some v) h = absurd (false≢true h)

module _ {c p o : List ℕ} {m : Arrival} {b : Bool} (w : Decides c p o m b) where
  abbrev s : TableState
  s = decode c

  abbrev a : ReceiveArgs
  a = call_of p o m

  f : Fits p o m
  f = w.taken.fits

  -- the message, as the code carries it
  abbrev said : Message
  said = message_of m.ogm (hna p)

  -- the cells are those of the table that they hold
  same : c ≡ encode s
  same = sym w.taken.knows.cells

  -- by whether its link has a neighbour row, and by the originator's record
  by_record : (x : Option TableRecord) → lookup m.originator s.records ≡ x → after c p o m ≡ decide table s a (header p) b x
  by_record x e =
      w.ruled
      ∙ ap₂ (decide table s a (header p)) (sym (w.link ∙ ap (λ (l : ℕ). has_key l s.rows) (link_is f))) (ap (λ (k : ℕ). lookup k s.records) (sym (originator_is f)) ∙ e)

  -- the cells of the table with a record x that a message makes, by the message as it came
  held : (x : Message → TableRecord) {d : List ℕ} → d ≡ encode (with_records (put m.originator (x said) s.records) s) → d ≡ encode (holding s (header p) (x (message a (header p))))
  held x e = e ∙ ap₂ (λ (k : ℕ) (n : Message). encode (with_records (put k (x n) s.records) s)) (originator_is f) (message_is f)

  -- its link is best, and the route, by such a record
  best_by : (x : Message → TableRecord) {best : Bool} → best ≡ table.is_best s.config (x said) said.link → best ≡ is_best_by table s.config a (some (x (message a (header p))))
  best_by x e = e ∙ ap (λ (n : Message). table.is_best s.config (x n) n.link) (message_is f)

  route_by_lem : (x : Message → TableRecord) {route : Route} → route ≡ route_of table s.config (some (x said)) → route ≡ route_of table s.config (some (x (message a (header p))))
  route_by_lem x e = e ∙ ap (λ (n : Message). route_of table s.config (some (x n))) (message_is f)

  -- ---- of an originator that has no record, and would have it at place i

  module _ {i : ℕ} (at : Missing c m.originator i) where
    -- its link has no neighbour row
    pub first-kept : b ≡ false → {route : Route} → route ≡ no_route → {e q : List ℕ} {r : Received} → Concluded c p o m false false route e q r → Leaves e q r (after c p o m)
    first-kept t er k =
        concludes_left f s false true none (by_record none at.none ∙ ap (λ (x : Bool). decide table s a (header p) x none) t ∙ way_kept s a (header p) false none refl) same refl er k

    -- it is counted
    counted-first : b ≡ true → after c p o m ≡ decide table s a (header p) true none
    counted-first t = by_record none at.none ∙ ap (λ (x : Bool). decide table s a (header p) x none) t

    pub first-full : b ≡ true → get_or c capacity_at 0 ≤ get_or c records_at 0 → after c p o m ≡ refuse table (receive a) s (numbered 10)
    unfolding decode
    first-full t h = counted-first t ∙ way_10 s a (header p) (omega (arith, records-count c))

    -- 15: it has too many entries
    pub first_many : b ≡ true → get_or c records_at 0 < get_or c capacity_at 0 → entry_most < entries (hna p) → after c p o m ≡ refuse table (receive a) s (numbered 15)
    unfolding decode
    first_many t h k = counted-first t ∙ way_15 s a (header p) (omega (arith, records-count c)) (omega (arith, length-entries (hna p)))

    pub first_made : b ≡ true → get_or c records_at 0 < get_or c capacity_at 0 → entries (hna p) ≤ entry_most → {d : List ℕ} {route : Route} → Made c d m.originator said route
        → {e q : List ℕ} {r : Received} → Concluded d p o m true true route e q r → Leaves e q r (after c p o m)
    unfolding decode
    first_made t h few g k =
        let x = first_record s.config in
        concludes_left f (holding s (header p) (x (message a (header p)))) true true (some (x (message a (header p)))) (counted-first t ∙ way_first s a (header p) (omega (arith, records-count c)) (omega (arith, length-entries (hna p)))) (held x g.cells)
        (ap (λ (y : Bool). y && true) (best_by x (sym g.best))) (route_by_lem x g.route) k

  -- ---- of an originator whose record stands at place i, which is told of it

  module _ {i : ℕ} (at : Stands c m.originator i) {d : List ℕ} {g : Result Heard Refusal} (h : HeardAt c d m.originator i said b g) where
    abbrev x : TableRecord
    x = standing_at c i

    abbrev next : Message → TableRecord
    next n = next_record s.config n x

    -- whether it is counted, as the rules say it
    counted_is : is_counted s.config said b x ≡ (b && not (is_duplicate table s.config a (header p) (some x)))
    counted_is = ap (λ (n : Message). is_counted s.config n b x) (message_is f)

    fresh : Bool
    fresh = is_fresh table s.config a (header p) (some x)

    fresh_is : is_fresh_in s.config said x ≡ fresh
    unfolding fresh
    fresh_is = ap (λ (n : Message). is_fresh_in s.config n x) (message_is f)

    -- the rules come to the record's answers
    by_standing : after c p o m ≡ decide table s a (header p) b (some x)
    by_standing = by_record (some x) at.found

    -- what becomes of it, and the cells, by whether the next record takes its place
    answers : {v : Result Heard Refusal} → g ≡ v → Answers s.config said b x v
    answers e = subst (Answers s.config said b x) e h.answers

    left : {t : Bool} → is_taken s.config said b x ≡ t → d ≡ cond t (encode (with_records (put m.originator (next said) s.records) s)) c
    left e = h.cells ∙ ap (λ (t : Bool). cond t (encode (with_records (put m.originator (next said) s.records) s)) c) e

    pub again-full : {v : Refusal} → g ≡ Err v → after c p o m ≡ refuse table (receive a) s (fault_by v)
    again-full e =
        let l = answers e in
        by_standing ∙ way_full s a (header p) x b (sym counted_is ∙ l.0) (ap (λ (n : Message). counted_fault s.config (next n)) (sym (message_is f)) ∙ l.1)

    pub again-same : {v : Refusal} → g ≡ Err v → d ≡ c
    again-same e = let l = answers e in left (λ j. l.0 j && maybe (l.1 j) true (λ v. false))

    pub again-counted : {v : Answer} → g ≡ Ok (H.Counted v) → {e q : List ℕ} {r : Received} → Concluded d p o m true (v.best && v.fresh) v.route e q r → Leaves e q r (after c p o m)
    unfolding fresh
    again-counted {v} eg k =
        let l = answers eg in
        let y = next (message a (header p)) in
        let taken = maybe (counted_fault s.config (next said)) true (λ v. false) in
        let counted = and_left (is_counted s.config said b x) taken l.0 in
        let room = not-refused (counted_fault s.config (next said)) (and_right (is_counted s.config said b x) taken l.0) in
        let by : b ≡ true = and_left b (not (is_repeated s.config said x)) counted in
        concludes_left f (holding s (header p) y) true fresh (some y)
        (by_standing ∙ way_next s a (header p) x b (sym counted_is ∙ counted) (ap (λ (n : Message). counted_fault s.config (next n)) (sym (message_is f)) ∙ room)
        ∙ ap (λ (t : Bool). concludes (holding s (header p) y) a (header p) t fresh (some y)) by)
        (held next (left l.0)) (λ j. best_by next l.1.best j && (l.1.fresh ∙ fresh_is) j) (route_by_lem next l.1.route) k

    pub again_kept : {v : Answer} → g ≡ Ok (H.Uncounted v) → {e q : List ℕ} {r : Received} → Concluded d p o m b (b && (v.best && v.fresh)) v.route e q r → Leaves e q r (after c p o m)
    unfolding fresh
    again_kept {v} eg k =
        let l = answers eg in
        concludes_left f s b fresh (some x) (by_standing ∙ way_kept s a (header p) b (some x) (sym counted_is ∙ l.0)) (left (λ j. l.0 j && maybe (counted_fault s.config (next said)) true (λ v. false)) ∙ same)
        (λ j. b && (best_by (λ n. x) l.1.best j && (l.1.fresh ∙ fresh_is) j)) l.1.route k
