-- Names for what the steps of a burst are asked and leave. (RULES 6.9)
use Rattle.std.specs.Prelude.{◌≡◌, List, [], Result, Ok, Err, IfOk, ℕ, ◌+◌, ◌≤◌, length, take, drop}
use Rattle.lists.specs.Lists.{sum, written_to}
use Rattle.wire.specs.declared.refusals.Refusal.{Refusal}
use Rattle.wire.specs.Refusals.{fault_by}
use Rattle.rules.specs.declared.Received.{Received}
use Rattle.rules.specs.declared.Burst.{Burst}
use Rattle.rules.specs.Settings.{packets_most}
use Rattle.rules.specs.Calls.{BurstArgs, Packet, single_call, burst, received, burst_received, burst_as, Reply, answered_writing, answered_each}
use Rattle.table_layout.specs.Calls.{Promised, receive_in, burst_in}
use Rattle.table_layout.specs.Facts.{Knows}
use Rattle.call_burst_rows.specs.declared.Answers.{Answers}

-- the arguments of a call
abbrev pub burst_args : (octets lengths senders interfaces : List ℕ) (time : ℕ) (output : List ℕ) (answers : List Received) → BurstArgs
burst_args b ns ss is t o rs = record { octets = b; lengths = ns; senders = ss; interfaces = is; time = t; output = o; answers = rs }

-- ---- one packet

-- the packet of n octets from `at` on, as it came from a sender by an interface
abbrev pub packet_at : (buffer : List ℕ) (at n sender interface : ℕ) → Packet
packet_at b at n s i = record { octets = take n (drop at b); sender = s; interface = i }

-- the cells are a well-formed table's, the packet stands in the buffer, and the output has a rest
pub record Spaces (c buffer : List ℕ) (at n : ℕ) (output : List ℕ) (from : ℕ) : Type 0 where
  pub knows : Knows c
  pub packet : at + n ≤ length buffer
  pub rest : from ≤ length output

-- a single call, given the rest of the output, answers r and leaves the cells d; of the output o it leaves q
pub record One (c buffer : List ℕ) (at n sender interface time : ℕ) (o : List ℕ) (from : ℕ) (d q : List ℕ) (r : Received) : Type 0 where
  pub call : receive_in c (single_call time (drop from o) (packet_at buffer at n sender interface)) ≡ (answered_writing (received r) (drop from q), d)
  pub before : take from q ≡ take from o
  pub size : length q ≡ length o
  pub knows : Knows d
  -- a copy that is written fits
  pub fits : r.number ≡ 26 → from + n ≤ length o

-- ---- each packet

-- the cells are a well-formed table's, there are as many senders and interfaces as lengths, and these add up to the buffer
pub record Enough (c buffer lengths senders interfaces : List ℕ) : Type 0 where
  pub knows : Knows c
  pub few : length lengths ≤ packets_most
  pub as_many_senders : length senders ≡ length lengths
  pub as_many_interfaces : length interfaces ≡ length lengths
  pub adds : sum lengths ≡ length buffer

-- the packets' single calls give these answers and leave the cells d and the output q
pub record Receives (c buffer lengths senders interfaces : List ℕ) (time : ℕ) (o d q : List ℕ) (got : Answers) : Type 0 where
  pub few : got.n ≤ packets_most
  pub size : got.n ≡ length lengths
  pub each : burst_in c (burst_args buffer lengths senders interfaces time o []) ≡ record { answers = take got.n got.rows; output = q; written = got.written; state = d }

-- ---- the call

-- a refusal or 0, and how many octets are written
abbrev pub answer_of : Result Answers Refusal → Burst
answer_of (Ok got) = burst_as 0 got.written
answer_of (Err r) = burst_as (fault_by r).number 0

-- the packets' answers; a refused call has none
abbrev pub answers_of : Result Answers Refusal → List Received
answers_of (Ok got) = take got.n got.rows
answers_of (Err r) = []

-- the answer, the output as it is left, and the answers at the start of the lent rows
abbrev pub reply_of : Result Answers Refusal → (output : List ℕ) → (lent : List Received) → Reply
reply_of r q lent = answered_each (burst_received (answer_of r)) q (written_to (answers_of r) lent)

-- what is answered decides the call: it fits, and this is the reply for whichever `room` rows are lent
pub record Settles (c buffer lengths senders interfaces : List ℕ) (time : ℕ) (o : List ℕ) (room : ℕ) (d q : List ℕ) (r : Result Answers Refusal) : Type 0 where
  pub fits : IfOk r (λ got. (got.n ≤ packets_most) × (got.n ≤ room))
  pub call : (lent : List Received) → length lent ≡ room → Promised c (burst (burst_args buffer lengths senders interfaces time o lent)) (reply_of r q lent) d
