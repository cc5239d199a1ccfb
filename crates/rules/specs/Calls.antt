-- The calls with all their arguments, what they lend among them, and the answers with all their fields. (RULES 1.2)
use Rattle.std.specs.Prelude.{ℕ, ◌+◌, ◌*◌, ◌/◌, ◌%◌, Bool, List, [], ◌∷◌, take, drop}
use Rattle.wire.specs.declared.Fault.{Fault}
use Rattle.rules.specs.declared.Route.{Route}
use Rattle.rules.specs.declared.LinkRow.{LinkRow}
use Rattle.rules.specs.declared.Received.{Received}
use Rattle.rules.specs.declared.Burst.{Burst}
use Rattle.rules.specs.declared.Written.{Written}
use Rattle.rules.specs.declared.Swept.{Swept}
use Rattle.rules.specs.declared.Asked.{Asked}
use Rattle.rules.specs.declared.Listed.{Listed}
use Rattle.rules.specs.declared.Located.{Located}
use Rattle.rules.specs.Settings.{MakeArgs, interface_most, addresses, within}

-- ---- links

-- a link is a pair of neighbour address and interface: one number, so that links rise by address, then interface (RULES 4.3)
unfoldable pub link_of : (neighbour interface : ℕ) → ℕ
link_of neighbour interface = neighbour * interface_most + interface

unfoldable pub neighbour_of : (link : ℕ) → ℕ
neighbour_of link = link / interface_most

unfoldable pub interface_of : (link : ℕ) → ℕ
interface_of link = link % interface_most

-- how many pairs there are: a link of an address in its range is below it
abbrev pub pairs : ℕ
pairs = addresses * interface_most

-- ---- calls

pub record ReceiveArgs : Type 0 where
  pub packet : List ℕ
  pub sender : ℕ
  pub interface : ℕ
  pub time : ℕ
  -- the lent output as it stands
  pub output : List ℕ

pub record OwnArgs : Type 0 where
  pub interface : ℕ
  pub time : ℕ
  pub ttl : ℕ
  pub gateway : ℕ
  pub port : ℕ
  -- HNA octets
  pub hna : List ℕ
  pub output : List ℕ

-- the packets of a burst stand one after another in one buffer; of their lengths, senders and interfaces each has a list of its own
pub record BurstArgs : Type 0 where
  pub octets : List ℕ
  pub lengths : List ℕ
  pub senders : List ℕ
  pub interfaces : List ℕ
  pub time : ℕ
  -- the lent output and answer rows as they stand
  pub output : List ℕ
  pub answers : List Received

-- one of them
pub record Packet : Type 0 where
  pub octets : List ℕ
  pub sender : ℕ
  pub interface : ℕ

-- the packets in a buffer, in order: each takes as many of its octets as its length says
abbrev pub packets_in : (buffer lengths senders interfaces : List ℕ) → List Packet
packets_in b (n ∷ ns) (s ∷ ss) (i ∷ is) = record { octets = take n b; sender = s; interface = i } ∷ packets_in (drop n b) ns ss is
packets_in b [] ss is = []
packets_in b (n ∷ ns) [] is = []
packets_in b (n ∷ ns) (s ∷ ss) [] = []

abbrev pub packets_of : BurstArgs → List Packet
packets_of a = packets_in a.octets a.lengths a.senders a.interfaces

-- a packet of a burst as a received one, given this output
abbrev pub single_call : (time : ℕ) → (output : List ℕ) → Packet → ReceiveArgs
single_call t o p = record { packet = p.octets; sender = p.sender; interface = p.interface; time = t; output = o }

pub data Call : Type 0 where
  make : MakeArgs → Call
  receive : ReceiveArgs → Call
  burst : BurstArgs → Call
  own : OwnArgs → Call
  sweep : (time : ℕ) → Call
  -- the best question
  question : (originator : ℕ) → Call
  -- with the lent rows as they stand
  list : (originator : ℕ) → List LinkRow → Call
  -- the lookup
  locate : (address : ℕ) → Call

-- ---- answers

-- each begins with the number of its refusal, or 0; receive's with a refusal or a verdict
pub data Answer : Type 0 where
  made : (number : ℕ) → Answer
  received : Received → Answer
  burst_received : Burst → Answer
  written : Written → Answer
  swept : Swept → Answer
  asked : Asked → Answer
  listed : Listed → Answer
  located : Located → Answer

abbrev pub number_of : Answer → ℕ
number_of (made n) = n
number_of (received a) = a.number
number_of (burst_received a) = a.number
number_of (written a) = a.number
number_of (swept a) = a.number
number_of (asked a) = a.number
number_of (listed a) = a.number
number_of (located a) = a.number

-- a number that refuses; 1 is asked of the cells, so the rules give the others
abbrev pub refusal_most : ℕ
refusal_most = 16

abbrev pub is_refusal : ℕ → Bool
is_refusal n = within 1 refusal_most n

abbrev pub is_rule_refusal : ℕ → Bool
is_rule_refusal n = within 2 refusal_most n

-- "no route" (RULES 7.4)
abbrev pub no_route : Route
no_route = record { neighbour = 0; interface = 0; count = 0; window = 0 }

-- ---- an answer with several fields is put together here alone, so that one field more is one line

-- the route by a link, with its count and the window size W (RULES 7.4)
abbrev pub route_by : (link count W : ℕ) → Route
route_by l n w = record { neighbour = neighbour_of l; interface = interface_of l; count = n; window = w }

-- a received packet's: a refusal or verdict, the place that 8 and 16 carry, the flags octet for the other interfaces, the route
abbrev pub received_as : (number place flags : ℕ) → Route → Received
received_as n p f x = record { number = n; place = p; flags = f; route = x }

-- a burst's: 0 or a refusal, and how many octets are written
abbrev pub burst_as : (number written : ℕ) → Burst
burst_as n w = record { number = n; written = w }

-- an own packet's: 0 or a refusal, the place that 8 and 16 carry, the packet's length and number
abbrev pub written_as : (number place length sequence : ℕ) → Written
written_as n p l m = record { number = n; place = p; length = l; sequence = m }

-- the lookup's: 0 or a refusal, whether an entry was found, and the originator and the entry, its network as announced and its mask
abbrev pub located_as : (number found originator network mask : ℕ) → Located
located_as n f o a m = record { number = n; found = f; originator = o; network = a; mask = m }

-- ---- replies

-- what a call gives back: its answer, and what it was lent as it leaves it ([] where it is lent none)
pub record Reply : Type 0 where
  pub answer : Answer
  pub output : List ℕ
  pub rows : List LinkRow
  -- the answer rows of a burst
  pub answers : List Received

-- of a call that is lent neither output nor rows
abbrev pub answered : Answer → Reply
answered a = record { answer = a; output = []; rows = []; answers = [] }

-- of a call that is lent an output, with the output as it leaves it
abbrev pub answered_writing : Answer → (output : List ℕ) → Reply
answered_writing a o = record { answer = a; output = o; rows = []; answers = [] }

-- of a call that is lent rows, with the rows as it leaves them
abbrev pub answered_filling : Answer → (rows : List LinkRow) → Reply
answered_filling a rs = record { answer = a; output = []; rows = rs; answers = [] }

-- of a burst, with the output and the answer rows as it leaves them
abbrev pub answered_each : Answer → (output : List ℕ) → (answers : List Received) → Reply
answered_each a o rs = record { answer = a; output = o; rows = []; answers = rs }

-- a refused call returns its number, every other answer field 0 but the place for 8 and 16, and writes nothing (RULES 8.1)
unfoldable pub refusal : Call → Fault → Reply
refusal (make a) f = answered (made f.number)
refusal (receive a) f = answered_writing (received (received_as f.number f.place 0 no_route)) a.output
refusal (burst a) f = answered_each (burst_received (burst_as f.number 0)) a.output a.answers
refusal (own a) f = answered_writing (written (written_as f.number f.place 0 0)) a.output
refusal (sweep t) f = answered (swept (record { number = f.number; removed = 0 }))
refusal (question o) f = answered (asked (record { number = f.number; route = no_route }))
refusal (list o rs) f = answered_filling (listed (record { number = f.number; filled = 0 })) rs
refusal (locate a) f = answered (located (located_as f.number 0 0 0 0))
