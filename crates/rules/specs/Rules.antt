-- RULES 6, "Receiving", 7, "The other calls", and 8, "Refusals", said once.
-- What the rules ask of a state (duplicate, best, count, neighbour row ..) is a reading, a record of questions. The table and the book each read them their way.
use Rattle.std.specs.Prelude.{ℕ, ◌+◌, ◌-◌, ◌%◌, Bool, true, false, cond, ◌&&◌, ◌||◌, not, List, [], ◌∷◌, ◌++◌, map, ltb, leb, eqb, length, take, drop}
use Rattle.std.proofs.Math.Option.{Option, none, some}
use Rattle.lists.specs.Lists.{maybe, and, keep, sum, written_to}
use Rattle.lists.specs.Keyed.{lookup, has_key, put, map_values}
use Rattle.window.specs.Window.{numbers, distance}
use Rattle.wire.specs.declared.Header.{Header}
use Rattle.wire.specs.declared.Fault.{Fault}
use Rattle.wire.specs.Packet.{header, hna, packet_of, is_u, is_d}
use Rattle.wire.specs.Check.{given, first_of, packet_fault, written_fault}
use Rattle.wire.specs.Entries.{network_of, mask_of, entries_of}
use Rattle.wire.specs.PassOn.{flags_here, flags_elsewhere, passed_on}
use Rattle.rules.specs.declared.Route.{Route}
use Rattle.rules.specs.declared.LinkRow.{LinkRow}
use Rattle.rules.specs.declared.Received.{Received}
use Rattle.rules.specs.Settings.{newest_wins, neighbour_most, link_most, entry_most, packets_most, ttl_least, MakeArgs, Config, config_of, make_allowed, interface_at, is_in_use, is_own, is_broadcast}
use Rattle.rules.specs.Calls.{link_of, neighbour_of, interface_of, no_route, route_by, Answer, made, received, burst_received, written, swept, asked, listed, located, number_of, received_as, burst_as, written_as, located_as, ReceiveArgs, BurstArgs, Packet, packets_of, single_call, OwnArgs, Call, make, receive, burst, own, sweep, question, list, locate, Reply, answered, answered_writing, answered_filling, answered_each, refusal}
use Rattle.rules.specs.Messages.{Message}
use Rattle.rules.specs.Lookup.{Announced, serving}

-- ---- readings

-- the number of a counted OGM, as two octets have it
abbrev pub sequence_of : Message → ℕ
sequence_of m = m.sequence % numbers

-- a link with count x stands below the receiving link, whose count is y: under newest wins if it isn't higher, under present link stays
-- if it isn't as high (RULES 6.5)
unfoldable pub stands_below : Config → (x y : ℕ) → Bool
stands_below κ x y = cond (eqb κ.settings.tie newest_wins) (leb x y) (ltb x y)

-- send states: the last sent number under each interface that has sent
abbrev pub Sends : Type 0
Sends = List (ℕ × ℕ)

abbrev pub has_sent : Sends → ℕ → Bool
has_sent ns i = has_key i ns

-- an interface's last sent number; before its first packet, the one below its first number
unfoldable pub last_sent : Config → Sends → ℕ → ℕ
last_sent κ ns i = maybe (lookup i ns) (distance (interface_at κ i).first 1) (λ n. n)

-- an own packet takes the first number, then one more each time modulo 65,536 (RULES 7.2)
unfoldable pub next_number : Config → Sends → ℕ → ℕ
next_number κ ns i = maybe (lookup i ns) (interface_at κ i).first (λ n. (n + 1) % numbers)

-- the send states once an interface has sent
abbrev pub send_on : Config → Sends → ℕ → Sends
send_on κ ns i = put i (next_number κ ns i) ns

-- what the rules ask of a table or a book (RULES 1.4)
pub record Reading : Type 1 where
  -- an originator's record
  pub Record : Type 0
  -- the first counted OGM makes it
  pub first : Config → Message → Record
  -- a further one is counted
  pub next : Config → Message → Record → Record
  pub time : Record → ℕ
  pub last_ttl : Record → ℕ
  -- the number is stale: neither new nor inside the window
  pub stale : Config → Record → (number : ℕ) → Bool
  -- it is inside the window and already marked on this link
  pub duplicate : Config → Record → (link number : ℕ) → Bool
  -- the link that the best question answers
  pub best : Config → Record → ℕ
  -- a link is best
  pub is_best : Config → Record → (link : ℕ) → Bool
  -- the held links, which have marks or are best, with their counts, rising by pair
  pub links : Config → Record → List (ℕ × ℕ)
  -- the entries that are kept: those of the latest counted OGM that made the record or had a new number
  pub entries : Config → Record → List ℕ
  -- the neighbour rows
  pub Rows : Type 0
  pub no_rows : Rows
  -- the link has one: it is bidirectional
  pub has_row : Config → Rows → (link : ℕ) → Bool
  pub rows_held : Config → Rows → ℕ
  -- the row of a link takes its interface's last sent number, made if absent
  pub echo : Config → Sends → (link : ℕ) → Rows → Rows
  -- an interface has sent: its rows whose distance is now B or more are dropped
  pub sent : Config → Sends → (interface : ℕ) → Rows → Rows

-- ---- states and outcomes

pub record State (Rows Record : Type 0) : Type 0 where
  pub config : Config
  pub time : ℕ
  pub sends : Sends
  pub rows : Rows
  -- under each originator held
  pub records : List (ℕ × Record)

pub record Outcome (Rows Record : Type 0) : Type 0 where
  pub reply : Reply
  pub state : State Rows Record

-- the way that a test takes; shut, so that a proof goes into it only where it says so
unfoldable pub branch : {A : Type 0} → Bool → A → A → A
branch true x y = x
branch false x y = y

-- a fault is refused, and without one the call goes on
unfoldable pub unless : {A : Type 0} → Option Fault → (Fault → A) → A → A
unless none refuse x = x
unless (some f) refuse x = refuse f

-- ---- the refusals that rest on arguments, settings and time alone, in their order (RULES 8.2, 8.3)

-- 2, 3, 4 and, of the packet, 5, 6, 7, 8, 16
abbrev pub receive_faults : Config → (now : ℕ) → ReceiveArgs → List (Option Fault)
receive_faults κ now r =
    given (not (is_in_use κ r.interface)) 2
    ∷ given (ltb r.time now) 3
    ∷ given (ltb (length r.output) (length r.packet)) 4
    ∷ packet_fault κ.settings.version r.packet
    ∷ []

unfoldable pub receive_fault : Config → (now : ℕ) → ReceiveArgs → Option Fault
receive_fault κ now r = first_of (receive_faults κ now r)

-- 14, unless all of these hold: the lists are of one length, the packets are no more than may be and than the answer rows, and their lengths add up to the buffer
abbrev pub burst_tests : BurstArgs → List Bool
burst_tests a =
    eqb (length a.senders) (length a.lengths)
    ∷ eqb (length a.interfaces) (length a.lengths)
    ∷ leb (length a.lengths) packets_most
    ∷ leb (length a.lengths) (length a.answers)
    ∷ eqb (sum a.lengths) (length a.octets)
    ∷ []

unfoldable pub burst_fits : BurstArgs → Bool
burst_fits a = and (burst_tests a)

-- 2, 3, 4, of the packet p that would be written 5, 7, 8, 16, and 13
abbrev pub own_faults : Config → (now : ℕ) → OwnArgs → (p : List ℕ) → List (Option Fault)
own_faults κ now a p =
    given (not (is_in_use κ a.interface)) 2
    ∷ given (ltb a.time now) 3
    ∷ given (ltb (length a.output) (length p)) 4
    ∷ written_fault a.hna
    ∷ given (ltb a.ttl ttl_least) 13
    ∷ []

unfoldable pub own_fault : Config → (now : ℕ) → OwnArgs → (p : List ℕ) → Option Fault
own_fault κ now a p = first_of (own_faults κ now a p)

-- ---- what a received packet says, h being its header

-- the link that it came by
abbrev pub link_by : ReceiveArgs → ℕ
link_by r = link_of r.sender r.interface

-- sender equals originator
abbrev pub single_hop : ReceiveArgs → Header → Bool
single_hop r h = eqb r.sender h.originator

-- the OGM, as it is counted
abbrev pub message : ReceiveArgs → Header → Message
message r h = record { link = link_by r; sequence = h.sequence; ttl = h.ttl; time = r.time; entries = entries_of (hna r.packet) }

-- D is set, the originator is the receiving interface's address, that interface has sent, and the number equals its last sent number (RULES 6.2)
abbrev pub echo_tests : Config → Sends → ReceiveArgs → Header → List Bool
echo_tests κ ns r h =
    is_d h.flags
    ∷ eqb h.originator (interface_at κ r.interface).own
    ∷ has_sent ns r.interface
    ∷ eqb h.sequence (last_sent κ ns r.interface)
    ∷ []

abbrev pub is_echo : Config → Sends → ReceiveArgs → Header → Bool
is_echo κ ns r h = and (echo_tests κ ns r h)

-- verdicts 25 and 26: only 26 writes, and only the packet's length; its answer carries the flags octet for the other interfaces (RULES 6.7, 6.8)
unfoldable pub conclude : ReceiveArgs → Header → (bidirectional passed : Bool) → Route → Reply
conclude r h bidirectional true route =
    answered_writing (received (received_as 26 0 (flags_elsewhere h.flags) route)) (written_to (passed_on (flags_here (single_hop r h) bidirectional h.flags) r.packet) r.output)
conclude r h bidirectional false route = answered_writing (received (received_as 25 0 0 route)) r.output

-- ---- the packets of a burst (RULES 6.9)

-- how much of the output a received packet's reply has written: only 26 writes, and only the packet's length (RULES 6.8)
abbrev pub written_by : ReceiveArgs → Reply → ℕ
written_by r x = cond (eqb (number_of x.answer) 26) (length r.packet) 0

-- a received packet's answer as a row; no other answer stands there
abbrev pub answer_row : Answer → Received
answer_row (received a) = a
answer_row (made n) = received_as 0 0 0 no_route
answer_row (burst_received a) = received_as 0 0 0 no_route
answer_row (written a) = received_as 0 0 0 no_route
answer_row (swept a) = received_as 0 0 0 no_route
answer_row (asked a) = received_as 0 0 0 no_route
answer_row (listed a) = received_as 0 0 0 no_route
answer_row (located a) = received_as 0 0 0 no_route

-- what they leave: an answer each, the output, how many octets of it are written, and the state S
pub record Each (S : Type 0) : Type 0 where
  pub answers : List Received
  pub output : List ℕ
  pub written : ℕ
  pub state : S

-- a packet's reply, which has written n octets, and then what the packets after it leave
abbrev pub and_then : {S : Type 0} → Reply → (n : ℕ) → Each S → Each S
and_then x n rest =
    record { answers = answer_row x.answer ∷ rest.answers; output = take n x.output ++ rest.output; written = n + rest.written; state = rest.state }

-- each is a single call, in that order, given the rest of the output from where the copy before it ended; `call` is what a single call replies and leaves
unfoldable pub receive_each : {S : Type 0} → (call : S → ReceiveArgs → Reply × S) → (time : ℕ) → S → (output : List ℕ) → List Packet → Each S
receive_each call t s o [] = record { answers = []; output = o; written = 0; state = s }
receive_each call t s o (p ∷ ps) =
    let r = single_call t o p in
    let x = call s r in
    let n = written_by r x.0 in
    and_then x.0 n (receive_each call t x.1 (drop n x.0.output) ps)

-- the burst's reply: its answers stand at the start of the caller's rows
abbrev pub burst_reply : {S : Type 0} → (lent : List Received) → Each S → Reply
burst_reply lent x = answered_each (burst_received (burst_as 0 x.written)) x.output (written_to x.answers lent)

-- ---- the packet that own writes (RULES 7.2)

-- the table's version, a flags octet of 0, the interface's own address as originator, and the given TTL and gateway fields
abbrev pub own_header : Config → Sends → OwnArgs → Header
own_header κ ns a =
    record {
      version = κ.settings.version;
      flags = 0;
      ttl = a.ttl;
      gateway = a.gateway;
      sequence = next_number κ ns a.interface;
      port = a.port;
      originator = (interface_at κ a.interface).own;
    }

-- with the given HNA octets
abbrev pub own_packet : Config → Sends → OwnArgs → List ℕ
own_packet κ ns a = packet_of (own_header κ ns a) a.hna

-- the lookup's answer, x being the entry that was found, if any (RULES 7.6)
abbrev pub located_by : (x : Option Announced) → Reply
located_by x = answered (located (maybe x (located_as 0 0 0 0 0) (λ a. located_as 0 1 a.originator (network_of a.entry) (mask_of a.entry))))

-- ---- the calls, of any reading

module _ (W : Reading) where
  abbrev pub StateOf : Type 0
  StateOf = State W.Rows W.Record

  abbrev pub OutcomeOf : Type 0
  OutcomeOf = Outcome W.Rows W.Record

  -- a fresh table has time 0, nothing sent, no neighbours and no originators (RULES 5.4)
  abbrev pub fresh : Config → StateOf
  fresh κ = record { config = κ; time = 0; sends = []; rows = W.no_rows; records = [] }

  -- a refused call changes nothing (RULES 8.1)
  abbrev pub refuse : Call → StateOf → Fault → OutcomeOf
  refuse c s f = record { reply = refusal c f; state = s }

  -- a state with another time, and other records, or other numbers and rows
  abbrev pub with_records : StateOf → ℕ → List (ℕ × W.Record) → StateOf
  with_records s t es = record { config = s.config; time = t; sends = s.sends; rows = s.rows; records = es }

  abbrev pub with_rows : StateOf → ℕ → Sends → W.Rows → StateOf
  with_rows s t ns rs = record { config = s.config; time = t; sends = ns; rows = rs; records = s.records }

  abbrev pub with_time : StateOf → ℕ → StateOf
  with_time s t = with_records s t s.records

  -- ---- the best question and the list call, x being the originator's record, if one is held (RULES 7.4, 7.5)

  abbrev pub count_of : Config → W.Record → (link : ℕ) → ℕ
  count_of κ a l = maybe (lookup l (W.links κ a)) 0 (λ n. n)

  -- the route by the best link, or "no route"
  abbrev pub route_of : Config → Option W.Record → Route
  route_of κ x = maybe x no_route (λ a. route_by (W.best κ a) (count_of κ a (W.best κ a)) κ.settings.window)

  -- one row per held link, in table order; an unknown originator has zero links
  abbrev pub link_rows : Config → Option W.Record → List LinkRow
  link_rows κ x =
      maybe x [] (λ a. map (λ (e : ℕ × ℕ). record {
        neighbour = neighbour_of e.0;
        interface = interface_of e.0;
        count = e.1;
        window = κ.settings.window;
        best = cond (W.is_best κ a e.0) 1 0;
      }) (W.links κ a))

  unfoldable pub answer_best : StateOf → Option W.Record → OutcomeOf
  answer_best s x = record { reply = answered (asked (record { number = 0; route = route_of s.config x })); state = s }

  -- the rows rs at the start of the caller's
  unfoldable pub fill_rows : StateOf → List LinkRow → (rs : List LinkRow) → OutcomeOf
  fill_rows s lent rs =
      record { reply = answered_filling (listed (record { number = 0; filled = length rs })) (written_to rs lent); state = s }

  -- ---- the lookup

  -- the entries of each originator held
  abbrev pub entries_held : StateOf → List (ℕ × List ℕ)
  entries_held s = map_values (W.entries s.config) s.records

  unfoldable pub answer_locate : StateOf → (x : Option Announced) → OutcomeOf
  answer_locate s x = record { reply = located_by x; state = s }

  -- ---- receiving (RULES 6)

  -- verdicts 20 to 24 and 27: nothing is written; the route is what the best question would then answer for the packet's originator (RULES 6.8)
  unfoldable pub verdict : ReceiveArgs → Header → ℕ → StateOf → OutcomeOf
  verdict r h v s = record { reply = answered_writing (received (received_as v 0 0 (route_of s.config (lookup h.originator s.records)))) r.output; state = s }

  -- the link that the packet came by is best, x being the originator's record once the packet is counted or not counted
  abbrev pub is_best_by : Config → ReceiveArgs → Option W.Record → Bool
  is_best_by κ r x = maybe x false (λ a. W.is_best κ a (link_by r))

  -- *passed on*; fresh is judged before counting, best after it (RULES 6.6)
  abbrev pub is_passed_on : Config → ReceiveArgs → Header → (bidirectional fresh : Bool) → Option W.Record → Bool
  is_passed_on κ r h bidirectional fresh x = leb ttl_least h.ttl && (single_hop r h || (bidirectional && (is_best_by κ r x && fresh)))

  -- the record a, after counting: 11: more than 8 links would have marks or be best; 15: more than 16 entries would be kept (RULES 8.4)
  abbrev pub counted_faults : Config → W.Record → List (Option Fault)
  counted_faults κ a = given (ltb link_most (length (W.links κ a))) 11 ∷ given (ltb entry_most (length (W.entries κ a))) 15 ∷ []

  -- it takes its place (RULES 6.4)
  unfoldable pub store_counted : StateOf → ReceiveArgs → Header → (fresh : Bool) → W.Record → OutcomeOf
  store_counted s r h fresh a =
      unless (first_of (counted_faults s.config a))
      (refuse (receive r) s)
      (record {
        reply = conclude r h true (is_passed_on s.config r h true fresh (some a)) (route_of s.config (some a));
        state = with_records s r.time (put h.originator a s.records);
      })

  -- the first counted OGM makes the record; 10: capacity is reached (RULES 6.4, 8.4)
  unfoldable pub counted : StateOf → ReceiveArgs → Header → (fresh : Bool) → Option W.Record → OutcomeOf
  counted s r h fresh none =
      unless (given (leb s.config.settings.capacity (length s.records)) 10)
      (refuse (receive r) s)
      (store_counted s r h fresh (W.first s.config (message r h)))
  counted s r h fresh (some a) = store_counted s r h fresh (W.next s.config (message r h) a)

  unfoldable pub uncounted : StateOf → ReceiveArgs → Header → (bidirectional fresh : Bool) → Option W.Record → OutcomeOf
  uncounted s r h bidirectional fresh x =
      record {
        reply = conclude r h bidirectional (is_passed_on s.config r h bidirectional fresh x) (route_of s.config x);
        state = with_time s r.time;
      }

  -- the OGM is stale, x being the originator's record: without one it is not (RULES 6.3)
  abbrev pub is_stale : Config → ReceiveArgs → Header → Option W.Record → Bool
  is_stale κ r h x = maybe x false (λ a. W.stale κ a (sequence_of (message r h)))

  abbrev pub is_duplicate : Config → ReceiveArgs → Header → Option W.Record → Bool
  is_duplicate κ r h x = maybe x false (λ a. W.duplicate κ a (link_by r) (sequence_of (message r h)))

  -- the OGM is no duplicate or has the record's last TTL (RULES 6.6)
  abbrev pub is_fresh : Config → ReceiveArgs → Header → Option W.Record → Bool
  is_fresh κ r h x = not (is_duplicate κ r h x) || maybe x false (λ a. eqb h.ttl (W.last_ttl a))

  -- *counted*: the link has a neighbour row and the OGM is no duplicate (RULES 6.3)
  unfoldable pub decide : StateOf → ReceiveArgs → Header → (bidirectional : Bool) → Option W.Record → OutcomeOf
  decide s r h bidirectional x =
      let fresh = is_fresh s.config r h x in
      branch (bidirectional && not (is_duplicate s.config r h x)) (counted s r h fresh x) (uncounted s r h bidirectional fresh x)

  -- the neighbour row for sender and interface takes this number, made if absent: 22; 9: it needs a row and 32 are held (RULES 6.2, 8.4)
  unfoldable pub take_echo : StateOf → ReceiveArgs → Header → OutcomeOf
  take_echo s r h =
      unless (given (not (W.has_row s.config s.rows (link_by r)) && leb neighbour_most (W.rows_held s.config s.rows)) 9)
      (refuse (receive r) s)
      (verdict r h 22 (with_rows s r.time s.sends (W.echo s.config s.sends (link_by r) s.rows)))

  -- RULES 6.1: the first that applies
  unfoldable pub judge : StateOf → ReceiveArgs → Header → OutcomeOf
  judge s r h =
      branch (is_own s.config r.sender) (verdict r h 20 (with_time s r.time))
      (branch (is_broadcast s.config r.sender) (verdict r h 21 (with_time s r.time))
      (branch (is_own s.config h.originator)
      (branch (is_echo s.config s.sends r h) (take_echo s r h) (verdict r h 23 (with_time s r.time)))
      (branch (is_u h.flags) (verdict r h 24 (with_time s r.time))
      (branch (is_stale s.config r h (lookup h.originator s.records)) (verdict r h 27 (with_time s r.time))
      (decide s r h (W.has_row s.config s.rows (link_by r)) (lookup h.originator s.records))))))

  -- a received packet: refused by its arguments, or judged
  abbrev pub receive_on : StateOf → ReceiveArgs → OutcomeOf
  receive_on s r = unless (receive_fault s.config s.time r) (refuse (receive r) s) (judge s r (header r.packet))

  -- a burst is its packets' single calls (RULES 6.9)
  abbrev pub burst_on : StateOf → BurstArgs → Each StateOf
  burst_on s a = receive_each (λ x r. ((receive_on x r).reply, (receive_on x r).state)) a.time s a.output (packets_of a)

  unfoldable pub take_burst : StateOf → BurstArgs → OutcomeOf
  take_burst s a = record { reply = burst_reply a.answers (burst_on s a); state = (burst_on s a).state }

  -- ---- own packet and sweep

  -- the packet p at the start of the output; its length and number; rows that are too far back are dropped (RULES 7.2)
  unfoldable pub send : StateOf → OwnArgs → (p : List ℕ) → OutcomeOf
  send s a p =
      let i = a.interface in
      let ns = send_on s.config s.sends i in
      record {
        reply = answered_writing (written (written_as 0 0 (length p) (next_number s.config s.sends i))) (written_to p a.output);
        state = with_rows s a.time ns (W.sent s.config ns i s.rows);
      }

  -- its time is more than the purge timeout ago (RULES 7.3)
  abbrev pub is_expired : Config → (now : ℕ) → W.Record → Bool
  is_expired κ now a = ltb κ.settings.purge (now - W.time a)

  -- a sweep removes exactly these records and answers how many (RULES 7.3)
  unfoldable pub purge : StateOf → ℕ → OutcomeOf
  purge s t =
      record {
        reply = answered (swept (record { number = 0; removed = length (keep (λ e. is_expired s.config t e.1) s.records) }));
        state = with_records s t (keep (λ e. not (is_expired s.config t e.1)) s.records);
      }

  -- ---- a call, on a table of so many cells

  -- make answers 0 and leaves the fresh table (RULES 7.1)
  abbrev pub begin : MakeArgs → OutcomeOf
  begin a = record { reply = answered (made 0); state = fresh (config_of a) }

  unfoldable pub step : (cells : ℕ) → StateOf → Call → OutcomeOf
  step cells s (make a) = unless (given (not (make_allowed cells a)) 12) (refuse (make a) s) (begin a)
  step cells s (receive r) = receive_on s r
  step cells s (burst a) = unless (given (not (burst_fits a)) 14) (refuse (burst a) s) (take_burst s a)
  step cells s (own a) =
      let p = own_packet s.config s.sends a in
      unless (own_fault s.config s.time a p) (refuse (own a) s) (send s a p)
  step cells s (sweep t) = unless (given (ltb t s.time) 3) (refuse (sweep t) s) (purge s t)
  step cells s (question o) = answer_best s (lookup o s.records)
  step cells s (locate a) = answer_locate s (serving a (entries_held s))
  step cells s (list o lent) =
      let rs = link_rows s.config (lookup o s.records) in
      -- fewer rows than links
      unless (given (ltb (length lent) (length rs)) 4) (refuse (list o lent) s) (fill_rows s lent rs)
