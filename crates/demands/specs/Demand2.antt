-- Demand 2, right by the draft: what a received packet, a burst of them and an own packet that are not refused leave, in reply and cells. (RULES 6, 7.2, 13.1)
-- Demand 1 says which are refused. `call_on` is what each public call's contract cites.
use Rattle.std.specs.Prelude.{ℕ, ◌≡◌, Bool, true, false, ◌||◌, not, List, ltb, eqb, length}
use Rattle.std.proofs.Math.Option.{some}
use Rattle.lists.specs.Lists.{keep, written_to}
use Rattle.lists.specs.Keyed.{lookup, has_key}
use Rattle.window.specs.Window.{distance}
use Rattle.wire.specs.declared.Header.{Header}
use Rattle.wire.specs.Packet.{header}
use Rattle.wire.specs.PassOn.{flags_here, passed_on}
use Rattle.rules.specs.declared.Route.{Route}
use Rattle.rules.specs.Calls.{interface_of, ReceiveArgs, BurstArgs, OwnArgs, Call, receive, burst, own, question, received, asked, received_as, number_of, is_refusal, answered}
use Rattle.rules.specs.Rules.{OutcomeOf, burst_reply, link_by, single_hop, next_number, own_packet, send}
use Rattle.rules.specs.Table.{TableState, table}
use Rattle.rules.specs.Refusals.{Questions, questions, counted_record, would_count, verdict_then, taken}
use Rattle.rules.specs.WellFormed.{typed}
use Rattle.rules.specs.Promises.{PassedOn, OwnWritten}
use Rattle.table_layout.specs.Cells.{decode, well_formed}
use Rattle.table_layout.specs.Calls.{call_on, burst_in}

-- ---- a received packet: s is the table in the cells as they were lent, o the reply and the table in the cells as they are left

module _ (s : TableState) (r : ReceiveArgs) (o : OutcomeOf table) where
  -- what the packet says, and what the rules ask of it
  abbrev pub said : Header
  said = header r.packet

  abbrev pub questions_of : Questions
  questions_of = questions table s r said

  abbrev pub is_counted_now : Bool
  is_counted_now = would_count table s r said questions_of

  -- the copy's flags octet: D if sender equals originator, U if the link has no neighbour row, and the packet's unnamed bits
  abbrev pub flags_now : ℕ
  flags_now = flags_here (single_hop r said) (has_key (link_by r) s.rows) said.flags

  abbrev pub verdict_given : ℕ
  verdict_given = number_of o.reply.answer

  pub record AfterReceive : Type 0 where
    -- reply and table are in whole those of the rules' flat lists; the rest says it part by part
    pub whole : o ≡ taken table s r said questions_of
    -- the verdict is the first that applies
    pub verdict : verdict_given ≡ verdict_then table s r said questions_of
    -- 26: at the output's start is the copy, which has its own flags octet and TTL one less, and the rest of the output is untouched
    pub copied : verdict_given ≡ 26 → o.reply.output ≡ written_to (passed_on flags_now r.packet) r.output
    -- in other words: every other octet is the packet's, and the flags octet has just the bits that the rules say
    pub passed : verdict_given ≡ 26 → PassedOn table s r o
    -- every other verdict: the output is as it was
    pub other : (verdict_given ≡ 26 → ⊥) → o.reply.output ≡ r.output
    -- settings, interface rows and sent numbers stay; the time is the packet's
    pub config : o.state.config ≡ s.config
    pub sends : o.state.sends ≡ s.sends
    pub time : o.state.time ≡ r.time
    -- 22: the neighbour row of sender and interface has the packet's number, and every other row stays
    pub echoed : verdict_given ≡ 22 → lookup (link_by r) o.state.rows ≡ some said.sequence
    pub other_rows : (l : ℕ) → (l ≡ link_by r → ⊥) → lookup l o.state.rows ≡ lookup l s.rows
    -- every other verdict: all neighbour rows stay
    pub rows : (verdict_given ≡ 22 → ⊥) → o.state.rows ≡ s.rows
    -- counted: the originator's record is the one that counting gives, and every other originator's stays
    pub counted : is_counted_now ≡ true → lookup said.originator o.state.records ≡ some (counted_record table s r said)
    pub others : (k : ℕ) → (k ≡ said.originator → ⊥) → lookup k o.state.records ≡ lookup k s.records
    -- not counted: all records stay
    pub records : is_counted_now ≡ false → o.state.records ≡ s.records

-- ---- an own packet, s and o as before

module _ (s : TableState) (a : OwnArgs) where
  -- the number that it takes: the interface's first, then one more each time modulo 65,536
  abbrev pub number_now : ℕ
  number_now = next_number s.config s.sends a.interface

  -- a neighbour row stays if it is another interface's, or its number is fewer than B before this one
  abbrev pub row_stays : ℕ × ℕ → Bool
  row_stays e = not (eqb (interface_of e.0) a.interface) || ltb (distance number_now e.1) s.config.settings.timeout

  pub record AfterOwn (o : OutcomeOf table) : Type 0 where
    pub whole : o ≡ send table s a (own_packet s.config s.sends a)
    -- just the packet's length is written, at the output's start; the packet reads back and passes the packet check; its length and number are answered
    pub written : OwnWritten table s a o
    -- settings, interface rows and all records stay; the time is the one given
    pub config : o.state.config ≡ s.config
    pub records : o.state.records ≡ s.records
    pub time : o.state.time ≡ a.time
    -- the interface's last sent number is the packet's, and every other interface's stays
    pub last : lookup a.interface o.state.sends ≡ some number_now
    pub other_sends : (i : ℕ) → (i ≡ a.interface → ⊥) → lookup i o.state.sends ≡ lookup i s.sends
    -- this interface's neighbour rows whose distance is now B or more are dropped, and every other stays
    pub rows : o.state.rows ≡ keep row_stays s.rows

-- ---- the cells c, whatever they hold

-- what a call replies, and the table in the cells as it leaves them
abbrev pub seen : List ℕ → Call → OutcomeOf table
seen c call = record { reply = (call_on c call).reply; state = decode (call_on c call).cells }

abbrev pub number_on : List ℕ → Call → ℕ
number_on c call = number_of (call_on c call).reply.answer

-- not refused (so c is a well-formed table's, by demand 1), and with arguments in the ranges of their types, as each public call's contract promises
pub record NotRefused (c : List ℕ) (call : Call) : Type 0 where
  pub typed : typed call ≡ true
  pub number : is_refusal (number_on c call) ≡ false

-- the cells are again a well-formed table's, as many as they were
pub record StillTable (c : List ℕ) (call : Call) : Type 0 where
  pub well_formed : well_formed (call_on c call).cells ≡ true
  pub size : length (call_on c call).cells ≡ length c

pub record OnReceive (c : List ℕ) (r : ReceiveArgs) : Type 0 where
  pub kept : StillTable c (receive r)
  pub after : AfterReceive (decode c) r (seen c (receive r))
  -- the answer has the verdict, a flags octet (0 unless it is 26), and the route that the best question answers on the cells as they are left
  pub flags : ℕ
  pub route : Route
  pub says : (call_on c (receive r)).reply.answer ≡ received (received_as (number_on c (receive r)) 0 flags route)
  pub no_flags : (number_on c (receive r) ≡ 26 → ⊥) → flags ≡ 0
  pub best : (call_on (call_on c (receive r)).cells (question (header r.packet).originator)).reply ≡ answered (asked (record { number = 0; route = route }))

pub record OnBurst (c : List ℕ) (a : BurstArgs) : Type 0 where
  pub kept : StillTable c (burst a)
  -- answers, octets and table are those of single calls in that order, each given the rest of the output
  pub reply : (call_on c (burst a)).reply ≡ burst_reply a.answers (burst_in c a)
  pub cells : (call_on c (burst a)).cells ≡ (burst_in c a).state

pub record OnOwn (c : List ℕ) (a : OwnArgs) : Type 0 where
  pub kept : StillTable c (own a)
  pub after : AfterOwn (decode c) a (seen c (own a))

pub record Demand2 (c : List ℕ) : Type 0 where
  pub receives : (r : ReceiveArgs) → NotRefused c (receive r) → OnReceive c r
  pub bursts : (a : BurstArgs) → NotRefused c (burst a) → OnBurst c a
  pub sends : (a : OwnArgs) → NotRefused c (own a) → OnOwn c a
