-- A fresh table is well-formed, and every call leaves a well-formed table so.
use Prim.Native.Nat.{ℕ, ◌+◌, ◌*◌, ◌≤◌, ◌<◌}
use mathlib.Core.Path.{◌≡◌, refl, ap, ◌∙◌}
use mathlib.Core.Logic.{◌⊎◌, inl, inr, ⊎_elim}
use mathlib.Core.Bool.{Bool, true, false, ◌&&◌, ◌||◌, not}
use mathlib.Core.Option.{Option, none, some}
use mathlib.Core.List.{List, []}
use lib.Dec.{ltb, leb, eqb}
use lib.ListN.{length}
use lib.Seq.{get_or-drop}
use native.Mathlib.Omega.{arith}
use borrow.Author.Tests.{ltb-true, ltb-false, eqb-true, lt-ltb, leb-true, leb-false, le-leb, not-false}
use Rattle.lists.specs.Lists.{maybe, and, keep, all}
use Rattle.lists.specs.Keyed.{has_key, put, map_values}
use Rattle.lists.proofs.Tests.{by_test, both, and_left, and_right, and_open, and_at, all-at, end, also, and-each}
use Rattle.lists.proofs.Lists.{keep-length, all_weaken}
use Rattle.lists.proofs.Keyed.{length-map_values, lookup-put-other, has_key-put, has_key-length, lookup-all, all-put}
use Rattle.lists.proofs.Rising.{Rising, rising_in, rising_out, rising-put, Held, held_weaken, held-keep, held-put}
use Rattle.window.specs.Window.{numbers, distance, new, count}
use Rattle.window.proofs.Numbers.{distance_self}
use Rattle.wire.specs.declared.Header.{Header}
use Rattle.wire.specs.Layout.{header_size, entry_size, mask_most, ttl_at, originator_at, mask_at}
use Rattle.wire.specs.Packet.{octet, read4, header, hna}
use Rattle.wire.specs.Check.{first_of, entries, network, mask}
use Rattle.wire.specs.Entries.{entry_at}
use Rattle.wire.proofs.Entries.{network_of_lem, mask_of_lem, all-entries, masks-low}
use Rattle.rules.specs.Settings.{Config, config_of, allowed, make_allowed, neighbour_most, link_most, entry_most, interface_most, octets, addresses, is_octet, is_address, is_number, is_time, is_in_use}
use Rattle.rules.specs.Calls.{neighbour_of, interface_of, ReceiveArgs, OwnArgs, packets_of, single_call, Call, make, receive, burst, own, sweep, question, list, locate}
use Rattle.rules.specs.Messages.{Message}
use Rattle.rules.specs.Rules.{sequence_of, Sends, has_sent, last_sent, next_number, send_on, link_by, message, is_stale, echo_tests, own_packet, fresh, is_expired, answer_best, fill_rows, answer_locate, receive_on, take_burst, send, purge, step}
use Rattle.rules.specs.Table.{TableRecord, TableState, first_record, next_record, record_echo, row_distance, drop_old, table}
use Rattle.rules.specs.Refusals.{Questions, found, questions, counted_record, foreign, would_echo, would_count, facts, outcome}
use Rattle.rules.specs.WellFormed.{send_tests, row_tests, entry_tests, entries_ok, record_tests, table_tests, well_formed, receive_types, typed}
use Rattle.rules.proofs.Faults.{none-at, not-given, hna-none}
use Rattle.rules.proofs.Config.{make-allowed, timeout-low, interfaces-high}
use Rattle.rules.proofs.Links.{neighbour_of_lem, interface_of_lem}
use Rattle.rules.proofs.Sends.{Fit, next-lt, last-lt, last-other}
use Rattle.rules.proofs.Counting.{sequence-lt, advance-lt, Links, first-links, next-links}
use Rattle.rules.proofs.Parts.{row_parts, row-whole, record_parts, record_whole, record_later}
use Rattle.rules.proofs.Exactly.{step_keeps, counts}
use Rattle.rules.proofs.Bursts.{each_keeps, packets_typed}

-- ---- a well-formed table, part by part

pub record Wf (s : TableState) : Type 0 where
  pub allowed : allowed s.config ≡ true
  pub time : is_time s.time ≡ true
  pub sends_rise : Rising s.sends
  pub sends : all (λ e. and (send_tests s.config e)) s.sends ≡ true
  pub rows : Held (λ e. and (row_tests s.config s.sends e)) neighbour_most s.rows
  pub records : Held (λ e. and (record_tests s.config s.time e)) s.config.settings.capacity s.records

pub parts : (s : TableState) → well_formed s ≡ true → Wf s
unfolding well_formed
parts s h =
    let at = and_at (table_tests s) h in
    record {
      allowed = at 0;
      time = at 1;
      sends_rise = rising_in s.sends (at 2);
      sends = at 3;
      rows = record { rise = rising_in s.rows (at 4); most = leb-true (length s.rows) neighbour_most (at 5); each = at 6 };
      records = record { rise = rising_in s.records (at 7); most = leb-true (length s.records) s.config.settings.capacity (at 8); each = at 9 };
    }

pub whole : (s : TableState) → Wf s → well_formed s ≡ true
unfolding well_formed
whole s w =
    and-each {ts = table_tests s}
    (also w.allowed
    (also w.time
    (also (rising_out s.sends w.sends_rise)
    (also w.sends
    (also (rising_out s.rows w.rows.rise)
    (also (le-leb (length s.rows) neighbour_most w.rows.most)
    (also w.rows.each
    (also (rising_out s.records w.records.rise)
    (also (le-leb (length s.records) s.config.settings.capacity w.records.most)
    (also w.records.each end))))))))))

pub fresh_wf : (κ : Config) → allowed κ ≡ true → Wf (fresh table κ)
fresh_wf κ h =
    record {
      allowed = h;
      time = refl;
      sends_rise = tt;
      sends = refl;
      rows = record { rise = tt; most = omega arith; each = refl };
      records = record { rise = tt; most = omega arith; each = refl };
    }

-- ---- what calls leave

-- a record's tests at a later time
module _ (s : TableState) (w : Wf s) where
  records_later : (t : ℕ) → s.time ≤ t → Held (λ e. and (record_tests s.config t e)) s.config.settings.capacity s.records
  records_later t l = held_weaken (λ e. and (record_tests s.config s.time e)) (λ e. and (record_tests s.config t e)) s.config.settings.capacity s.records later w.records
    where
      later : (e : ℕ × TableRecord) → and (record_tests s.config s.time e) ≡ true → and (record_tests s.config t e) ≡ true
      later e h = record_whole s.config t e (record_later s.config s.time e t l (record_parts s.config s.time e h))

  -- a sweep
  purged : (t : ℕ) → is_time t ≡ true → s.time ≤ t → Wf (purge table s t).state
  unfolding purge
  purged t h l =
      let κ = s.config in
      let p : ℕ × TableRecord → Bool = λ e. and (record_tests κ t e) in
      let q : ℕ × TableRecord → Bool = λ e. not (is_expired table κ t e.1) in
      record {
        allowed = w.allowed;
        time = h;
        sends_rise = w.sends_rise;
        sends = w.sends;
        rows = w.rows;
        records = held_weaken (λ e. p e && q e) p κ.settings.capacity (keep q s.records) (λ e g. and_left (p e) (q e) g) (held-keep p q κ.settings.capacity s.records (records_later t l));
      }

  -- an interface in use sends
  module _ (a : OwnArgs) (u : is_in_use s.config a.interface ≡ true) where
    abbrev ns : Sends
    ns = send_on s.config s.sends a.interface

    -- a row of this interface is kept where its distance is still below B, and one of another has the distance that it had
    row-after : (e : ℕ × ℕ) → and (row_tests s.config s.sends e) ≡ true
        → (not (eqb (interface_of e.0) a.interface) || ltb (row_distance s.config ns e) s.config.settings.timeout) ≡ true
        → and (row_tests s.config ns e) ≡ true
    row-after e h q = go (eqb (interface_of e.0) a.interface) refl q
      where
        with_distance : has_sent ns (interface_of e.0) ≡ true → ltb (row_distance s.config ns e) s.config.settings.timeout ≡ true
            → and (row_tests s.config ns e) ≡ true
        with_distance g d =
            let p = row_parts s.config s.sends e h in
            row-whole s.config ns e (record { neighbour = p.neighbour; used = p.used; sent = g; number = p.number; near = d })

        go : (t : Bool) → eqb (interface_of e.0) a.interface ≡ t
            → (not t || ltb (row_distance s.config ns e) s.config.settings.timeout) ≡ true → and (row_tests s.config ns e) ≡ true
        go true d g = with_distance (ap (has_sent ns) (eqb-true (interface_of e.0) a.interface d) ∙ has_key-put a.interface (next_number s.config s.sends a.interface) s.sends) g
        go false d g =
            let p = row_parts s.config s.sends e h in
            with_distance (ap (λ (x : Option ℕ). maybe x false (λ n. true)) (lookup-put-other (interface_of e.0) a.interface (next_number s.config s.sends a.interface) s.sends d) ∙ p.sent)
            (ap (λ n. ltb (distance n e.1) s.config.settings.timeout) (last-other s.config s.sends a.interface (interface_of e.0) d) ∙ p.near)

    sent : (p : List ℕ) → is_time a.time ≡ true → s.time ≤ a.time → Wf (send table s a p).state
    unfolding send drop_old
    sent p h l =
        let κ = s.config in
        let n = next_number κ s.sends a.interface in
        let old : ℕ × ℕ → Bool = λ e. and (row_tests κ s.sends e) in
        let q : ℕ × ℕ → Bool = λ e. not (eqb (interface_of e.0) a.interface) || ltb (row_distance κ ns e) κ.settings.timeout in
        record {
          allowed = w.allowed;
          time = h;
          sends_rise = rising-put a.interface n s.sends w.sends_rise;
          sends = all-put (λ e. and (send_tests κ e)) a.interface n s.sends (and-each {ts = send_tests κ (a.interface, n)} (also u (also (lt-ltb n numbers (next-lt κ w.allowed s.sends a.interface)) end))) w.sends;
          rows = held_weaken (λ e. old e && q e) (λ e. and (row_tests κ ns e)) neighbour_most (keep q s.rows) (λ e g. row-after e (and_left (old e) (q e) g) (and_right (old e) (q e) g)) (held-keep old q neighbour_most s.rows w.rows);
          records = records_later a.time l;
        }

-- ---- a received packet that is not refused

either : (a b : Bool) → (not a && b) ≡ false → (a ≡ true) ⊎ (b ≡ false)
either true b h = inl refl
either false b h = inr h

module _ (cells : ℕ) (s : TableState) (w : Wf s) (r : ReceiveArgs) (t : typed (receive r) ≡ true) (n : first_of (facts table cells s (receive r)) ≡ none) where
  abbrev κ : Config
  κ = s.config

  abbrev h : Header
  h = header r.packet

  abbrev q : Questions
  q = questions table s r h

  abbrev m : Message
  m = message r h

  -- none of its facts holds
  in_use : is_in_use κ r.interface ≡ true
  unfolding facts
  in_use = not-false (is_in_use κ r.interface) (not-given (not (is_in_use κ r.interface)) 2 (none-at (facts table cells s (receive r)) n 0))

  not-before : s.time ≤ r.time
  unfolding facts
  not-before = ltb-false r.time s.time (not-given (ltb r.time s.time) 3 (none-at (facts table cells s (receive r)) n 1))

  row_room : would_echo table s r h q ≡ true → (has_key (link_by r) s.rows ≡ true) ⊎ (length s.rows < neighbour_most)
  unfolding facts
  row_room e =
      let full = leb neighbour_most (length s.rows) in
      let x = not-given (would_echo table s r h q && (not q.bidirectional && full)) 9 (none-at (facts table cells s (receive r)) n 4) in
      ⊎_elim inl (λ y. inr (leb-false neighbour_most (length s.rows) y)) (either q.bidirectional full (and_open (would_echo table s r h q) (not q.bidirectional && full) x e))

  record_room : would_count table s r h q ≡ true → (has_key h.originator s.records ≡ true) ⊎ (length s.records < κ.settings.capacity)
  unfolding facts
  record_room e = go (found table s r h) refl (not-given (would_count table s r h q && (maybe (found table s r h) true (λ a. false) && leb κ.settings.capacity (length s.records))) 10 (none-at (facts table cells s (receive r)) n 5))
    where
      go : (x : Option TableRecord) → found table s r h ≡ x
          → (would_count table s r h q && (maybe x true (λ a. false) && leb κ.settings.capacity (length s.records))) ≡ false
          → (has_key h.originator s.records ≡ true) ⊎ (length s.records < κ.settings.capacity)
      go none d x = inr (leb-false κ.settings.capacity (length s.records) (and_open (would_count table s r h q) (leb κ.settings.capacity (length s.records)) x e))
      go (some a) d x = inl (ap (λ (o : Option TableRecord). maybe o false (λ v. true)) d)

  links-most : would_count table s r h q ≡ true → length (counted_record table s r h).links ≤ link_most
  unfolding facts
  links-most e =
      let ls = (counted_record table s r h).links in
      let x = not-given (would_count table s r h q && ltb link_most (length (map_values count ls))) 11 (none-at (facts table cells s (receive r)) n 6) in
      omega (arith, ltb-false link_most (length (map_values count ls)) (and_open (would_count table s r h q) (ltb link_most (length (map_values count ls))) x e), length-map_values count ls)

  entries-most : would_count table s r h q ≡ true → length (counted_record table s r h).entries ≤ entry_most
  unfolding facts
  entries-most e =
      let n₀ = length (counted_record table s r h).entries in
      let x = not-given (would_count table s r h q && ltb entry_most n₀) 15 (none-at (facts table cells s (receive r)) n 7) in
      ltb-false entry_most n₀ (and_open (would_count table s r h q) (ltb entry_most n₀) x e)

  -- its type and refusal 2 give the ranges of its fields
  interface-lt : r.interface < interface_most
  interface-lt = let x = ltb-true r.interface (length κ.interfaces) in_use in let y = interfaces-high κ w.allowed in omega arith

  sender : is_address (neighbour_of (link_by r)) ≡ true
  sender = ap is_address (neighbour_of_lem r.sender r.interface interface-lt) ∙ and_at (receive_types r) t 0

  same-interface : interface_of (link_by r) ≡ r.interface
  same-interface = interface_of_lem r.sender r.interface interface-lt

  interface : is_in_use κ (interface_of (link_by r)) ≡ true
  interface = ap (is_in_use κ) same-interface ∙ in_use

  octet-lt : (k : ℕ) → octet r.packet k < octets
  octet-lt k =
      ltb-true (octet r.packet k) octets (all-at is_octet 0 refl r.packet (and_at (receive_types r) t 1) k)

  originator : is_address h.originator ≡ true
  unfolding header
  originator = lt-ltb (read4 r.packet originator_at) addresses (omega (arith, octet-lt 8, octet-lt 9, octet-lt 10, octet-lt 11))

  ttl : is_octet h.ttl ≡ true
  unfolding header
  ttl = lt-ltb (octet r.packet ttl_at) octets (octet-lt ttl_at)

  -- no mask is above 32, by refusal 8
  masks : (k : ℕ) → k < entries (hna r.packet) → mask (hna r.packet) k ≤ mask_most
  unfolding facts
  masks = masks-low (hna r.packet) (hna-none s.config.settings.version r.packet (none-at (facts table cells s (receive r)) n 3) 1)

  message-entries : entries_ok m.entries ≡ true
  unfolding entry_at
  message-entries = all-entries (λ e. and (entry_tests e)) e each
    where
      e : List ℕ
      e = hna r.packet

      entry-octet : (k : ℕ) → octet e k < octets
      entry-octet k = rw (get_or-drop header_size r.packet k 0) (octet-lt (header_size + k))

      each : (k : ℕ) → k < entries e → and (entry_tests (entry_at e k)) ≡ true
      each k l =
          let a = entry_size * k in
          let n₀ = network e k in
          let small : mask e k < 256 = entry-octet (entry_size * k + mask_at) in
          let address : n₀ < addresses = omega (arith, entry-octet a, entry-octet (a + 1), entry-octet (a + 2), entry-octet (a + 2 + 1)) in
          and-each {ts = entry_tests (entry_at e k)}
          (also (ap is_address (network_of_lem n₀ (mask e k) small) ∙ lt-ltb n₀ addresses address)
          (also (ap (λ x. leb x mask_most) (mask_of_lem n₀ (mask e k) small) ∙ le-leb (mask e k) mask_most (masks k l)) end))

  -- an echo's row
  echoed : would_echo table s r h q ≡ true → Held (λ e. and (row_tests κ s.sends e)) neighbour_most (record_echo κ s.sends (link_by r) s.rows)
  unfolding record_echo
  echoed e =
      let l = link_by r in
      let k = last_sent κ s.sends (interface_of l) in
      let fit : Fit s.sends = all_weaken (λ x. and (send_tests κ x)) (λ x. is_number x.1) (λ x y. and_at (send_tests κ x) y 1) s.sends w.sends in
      let z : distance k k < κ.settings.timeout = (let x = timeout-low κ w.allowed in omega (arith, distance_self k)) in
      held-put (λ x. and (row_tests κ s.sends x)) neighbour_most l k s.rows w.rows
      (row-whole κ s.sends (l, k)
      (record {
        neighbour = sender;
        used = interface;
        sent = ap (has_sent s.sends) same-interface ∙ has_sent_lem;
        number = lt-ltb k numbers (last-lt κ s.sends fit (interface_of l));
        near = lt-ltb (distance k k) κ.settings.timeout z;
      }))
      (row_room e)
    where
      has_sent_lem : has_sent s.sends r.interface ≡ true
      has_sent_lem = and_at (echo_tests κ s.sends r h) (and_right q.own_originator q.echo (and_right (foreign table s r h q) (q.own_originator && q.echo) e)) 2

  -- the counted record: its current number and links, and the rest of its tests
  counted_parts : (x : Option TableRecord) → found table s r h ≡ x → is_stale table κ r h x ≡ false
      → ((maybe x (first_record κ m) (next_record κ m)).current < numbers) × Links κ (maybe x (first_record κ m) (next_record κ m)).best (maybe x (first_record κ m) (next_record κ m)).links
  unfolding first_record next_record
  counted_parts none e timely = (sequence-lt m, first-links κ w.allowed m sender interface)
  counted_parts (some a) e timely =
      let p = record_parts κ s.time (h.originator, a) (lookup-all (λ x. and (record_tests κ s.time x)) h.originator a s.records w.records.each e) in (
        advance-lt κ.settings.window a.current (sequence_of m) (ltb-true a.current numbers p.current) (sequence-lt m),
        next-links κ w.allowed m sender interface a timely (record { rise = rising_in a.links p.rise; best = p.best; each = p.each }),
      )

  counted-entries : (x : Option TableRecord) → found table s r h ≡ x → entries_ok (maybe x (first_record κ m) (next_record κ m)).entries ≡ true
  unfolding first_record next_record
  counted-entries none e = message-entries
  counted-entries (some a) e =
      let p = record_parts κ s.time (h.originator, a) (lookup-all (λ x. and (record_tests κ s.time x)) h.originator a s.records w.records.each e) in
      by_test (λ es. entries_ok es ≡ true) (new κ.settings.window a.current (sequence_of m)) (λ _. message-entries) (λ _. p.entries)

  stamped : (x : Option TableRecord) → ((maybe x (first_record κ m) (next_record κ m)).time ≡ r.time) × ((maybe x (first_record κ m) (next_record κ m)).last_ttl ≡ h.ttl)
  unfolding first_record next_record
  stamped none = (refl, refl)
  stamped (some a) = (refl, refl)

  counted : would_count table s r h q ≡ true
      → Held (λ e. and (record_tests κ r.time e)) κ.settings.capacity (put h.originator (counted_record table s r h) s.records)
  counted e =
      let a = counted_record table s r h in
      let by = counts table s r h q e in
      let x = counted_parts (found table s r h) refl by.timely in
      let y = stamped (found table s r h) in
      let b = keep (λ (l : ℕ × ℕ). eqb a.best l.0) a.links in
      let some-link : 1 ≤ length a.links = omega (arith, has_key-length a.best a.links x.1.best, keep-length (λ (l : ℕ × ℕ). eqb a.best l.0) a.links) in
      held-put (λ z. and (record_tests κ r.time z)) κ.settings.capacity h.originator a s.records (records_later s w r.time not-before)
      (record_whole κ r.time (h.originator, a)
      (record {
        address = originator;
        foreign = ap not by.other;
        current = lt-ltb a.current numbers x.0;
        time = le-leb a.time r.time (omega (arith, y.0));
        ttl = ap is_octet y.1 ∙ ttl;
        rise = rising_out a.links x.1.rise;
        few = both (le-leb 1 (length a.links) some-link) (le-leb (length a.links) link_most (links-most e));
        best = x.1.best;
        each = x.1.each;
        few_entries = le-leb (length a.entries) entry_most (entries-most e);
        entries = counted-entries (found table s r h) refl;
      }))
      (record_room e)

  received_wf : Wf (outcome table cells s (receive r)).state
  unfolding outcome
  received_wf =
      record {
        allowed = w.allowed;
        time = and_at (receive_types r) t 2;
        sends_rise = w.sends_rise;
        sends = w.sends;
        rows = by_test (Held (λ e. and (row_tests κ s.sends e)) neighbour_most) (would_echo table s r h q) echoed (λ _. w.rows);
        records = by_test (Held (λ e. and (record_tests κ r.time e)) κ.settings.capacity) (would_count table s r h q) counted (λ _. records_later s w r.time not-before);
      }

-- ---- every call

one_wf : (cells : ℕ) (s : TableState) (r : ReceiveArgs) → typed (receive r) ≡ true → Wf s → Wf (receive_on table s r).state
unfolding step
one_wf cells s r t w = step_keeps table cells Wf s (receive r) w (received_wf cells s w r t)

module _ (cells : ℕ) (s : TableState) (w : Wf s) where
  taken_wf : (c : Call) → typed c ≡ true → first_of (facts table cells s c) ≡ none → Wf (outcome table cells s c).state
  unfolding facts outcome take_burst answer_best fill_rows answer_locate
  taken_wf (make a) t n = fresh_wf (config_of a) (make-allowed cells a (not-false (make_allowed cells a) (not-given (not (make_allowed cells a)) 12 (none-at (facts table cells s (make a)) n 0))))
  taken_wf (receive r) t n = received_wf cells s w r t n
  taken_wf (burst a) t n = each_keeps _ Wf a.time (λ p. typed (receive (single_call a.time [] p))) (λ x o p h. one_wf cells x (single_call a.time o p) h) (packets_of a) (packets_typed a t) s a.output w
  taken_wf (own a) t n =
      let at = none-at (facts table cells s (own a)) n in
      sent s w a (not-false (is_in_use s.config a.interface) (not-given (not (is_in_use s.config a.interface)) 2 (at 0))) (own_packet s.config s.sends a) t
      (ltb-false a.time s.time (not-given (ltb a.time s.time) 3 (at 1)))
  taken_wf (sweep u) t n = purged s w u t (ltb-false u s.time (not-given (ltb u s.time) 3 (none-at (facts table cells s (sweep u)) n 0)))
  taken_wf (question o) t n = w
  taken_wf (locate a) t n = w
  taken_wf (list o lent) t n = w

  pub step_wf : (c : Call) → typed c ≡ true → Wf (step table cells s c).state
  step_wf c t = step_keeps table cells Wf s c w (taken_wf c t)

-- every call leaves a well-formed table well-formed
pub well_formed-step : (cells : ℕ) (s : TableState) → well_formed s ≡ true → (c : Call) → typed c ≡ true → well_formed (step table cells s c).state ≡ true
well_formed-step cells s h c t = whole (step table cells s c).state (step_wf cells s (parts s h) c t)

-- and make gives a well-formed one
pub well_formed-fresh : (κ : Config) → allowed κ ≡ true → well_formed (fresh table κ) ≡ true
well_formed-fresh κ h = whole (fresh table κ) (fresh_wf κ h)
