-- Names for what the steps of receiving are asked and leave.
use Rattle.std.specs.Prelude.{ℕ, ◌≤◌, ◌<◌, ◌≡◌, Bool, true, ◌&&◌, ◌||◌, leb, eqb, List, [], length, set, get_or}
use Rattle.lists.specs.Keyed.{lookup, has_key}
use Rattle.wire.specs.declared.Header.{Header}
use Rattle.wire.specs.declared.Fault.{Fault}
use Rattle.wire.specs.Layout.{header_size}
use Rattle.wire.specs.Packet.{header}
use Rattle.rules.specs.declared.Received.{Received}
use Rattle.rules.specs.declared.Route.{Route}
use Rattle.rules.specs.declared.Interface.{Interface}
use Rattle.rules.specs.Settings.{ttl_least, is_address}
use Rattle.rules.specs.Calls.{neighbour_of, received, receive, ReceiveArgs, received_as, answered_writing, no_route}
use Rattle.rules.specs.Messages.{ogm_of}
use Rattle.rules.specs.Rules.{OutcomeOf, branch, last_sent, is_echo, take_echo, verdict, link_by, message, is_stale, with_time, route_of, conclude, decide, step}
use Rattle.rules.specs.Table.{TableState, table}
use Rattle.rules.specs.WellFormed.{well_formed}
use Rattle.table_layout.specs.Layout.{used_at, time_at}
use Rattle.table_layout.specs.Interfaces.{InterfaceRow, encode_interface}
use Rattle.table_layout.specs.Cells.{encode, decode}
use Rattle.table_layout.specs.Facts.{Knows}
use Rattle.table_changes.specs.Left.{Left}
use Rattle.call_receive_arrival.specs.declared.Arrival.{Arrival}

-- the arguments of a call
abbrev pub args_of : (packet : List ℕ) (sender interface time : ℕ) (output : List ℕ) → ReceiveArgs
args_of p a i t o = record { packet = p; sender = a; interface = i; time = t; output = o }

-- the message that a packet begins with, as it came from a sender
abbrev pub arrival_of : (packet : List ℕ) (sender interface time : ℕ) → Arrival
arrival_of p a i t =
    record {
      sender = a;
      interface = i;
      flags = (header p).flags;
      originator = (header p).originator;
      ogm = ogm_of (message (args_of p a i t []) (header p));
    }

-- a message's call, with its packet and the lent output
abbrev pub call_of : (p o : List ℕ) → Arrival → ReceiveArgs
call_of p o m = args_of p m.sender m.interface m.ogm.time o

-- what the rules make of it on a table's cells
abbrev pub after : (c p o : List ℕ) → Arrival → OutcomeOf table
after c p o m = step table (length c) (decode c) (receive (call_of p o m))

-- ---- what is left

-- the answer r, the output q and the cells d are those of an outcome
abbrev pub Leaves : (d q : List ℕ) → Received → OutcomeOf table → Type 0
Leaves d q r x = Left x (answered_writing (received r) q) d

-- the answer to a refused packet
abbrev pub refused_by : Fault → Received
refused_by f = received_as f.number f.place 0 no_route

-- the answer of a verdict that writes nothing, with the route of the originator in a table
abbrev pub verdict_of : TableState → (number originator : ℕ) → Received
verdict_of s v o = received_as v 0 0 (route_of table s.config (lookup o s.records))

-- 25 or 26, by whether the link is bidirectional and best and the message fresh, with a route; the time is set
pub record Concluded (c p o : List ℕ) (m : Arrival) (bidirectional best : Bool) (route : Route) (d q : List ℕ) (r : Received) : Type 0 where
  pub replies : answered_writing (received r) q ≡ conclude (call_of p o m) (header p) bidirectional (leb ttl_least m.ogm.ttl && (eqb m.sender m.originator || best)) route
  pub cells : d ≡ set c time_at m.ogm.time

-- 27, with a route; the time is set
pub record EndsStale (c : List ℕ) (time : ℕ) (route : Route) (d : List ℕ) (r : Received) : Type 0 where
  pub replies : r ≡ received_as 27 0 0 route
  pub cells : d ≡ set c time_at time

-- ---- what is asked

-- the cells are a table's that is well-formed once the call sets its time
pub record Ends (c : List ℕ) (time : ℕ) : Type 0 where
  pub state : TableState
  pub cells : c ≡ encode state
  pub valid : well_formed (with_time table state time) ≡ true

-- the packet p has room in the output o, and m is the message that it begins with
pub record Fits (p o : List ℕ) (m : Arrival) : Type 0 where
  pub reads : m ≡ arrival_of p m.sender m.interface m.ogm.time
  pub size : header_size ≤ length p
  pub room : length p ≤ length o

-- on a well-formed table's cells c a packet that none of the refusals 2 to 8 turns away; the table is well-formed after it too
pub record Taken (c p o : List ℕ) (m : Arrival) : Type 0 where
  pub knows : Knows c
  pub kept : well_formed (after c p o m).state ≡ true
  pub fits : Fits p o m
  pub interface : m.interface < get_or c used_at 0
  pub link : is_address (neighbour_of m.ogm.link) ≡ true

-- a rule on a table, for a call and its header
abbrev pub Rule : Type 0
Rule = TableState → ReceiveArgs → Header → OutcomeOf table

-- the packet comes down to this rule
abbrev pub Ruled : (c p o : List ℕ) → Arrival → Rule → Type 0
Ruled c p o m rule = after c p o m ≡ rule (decode c) (call_of p o m) (header p)

-- m is the message of a packet, whichever it is, that comes down to this rule
pub record ComesTo (c : List ℕ) (m : Arrival) (rule : Rule) : Type 0 where
  pub packet : List ℕ
  pub output : List ℕ
  pub taken : Taken c packet output m
  pub ruled : Ruled c packet output m rule

-- the message's number is the last that its interface has sent
abbrev pub Echoes : List ℕ → Arrival → Type 0
Echoes c m = m.ogm.sequence ≡ last_sent (decode c).config (decode c).sends m.interface

-- ---- names for parts of the rules

-- a message whose originator is an own address
abbrev pub own_message : Rule
own_message s a h = branch (is_echo s.config s.sends a h) (take_echo table s a h) (verdict table a h 23 (with_time table s a.time))

-- one that is neither from nor of this node, and not stale
abbrev pub timely : Rule
timely s a h = decide table s a h (has_key (link_by a) s.rows) (lookup h.originator s.records)

-- stale or not
abbrev pub foreign : Rule
foreign s a h = branch (is_stale table s.config a h (lookup h.originator s.records)) (verdict table a h 27 (with_time table s a.time)) (timely s a h)

-- the field f of an interface stands at a place of its row
abbrev pub IsFieldAt : (f : Interface → ℕ) (place : ℕ) → Type 0
IsFieldAt f k = (x : InterfaceRow) → get_or (encode_interface x) k 0 ≡ f x.0

-- ---- what is asked where the originator's record was looked for

-- the packet is neither from nor of this node, and not stale, and its link has a neighbour row or not
pub record Decides (c p o : List ℕ) (m : Arrival) (bidirectional : Bool) : Type 0 where
  pub taken : Taken c p o m
  pub link : bidirectional ≡ has_key m.ogm.link (decode c).rows
  pub ruled : Ruled c p o m timely
