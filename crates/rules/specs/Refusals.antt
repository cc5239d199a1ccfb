-- RULES 8, "Refusals", and 6, "Receiving", a second time, as their tables have them: for each call the facts
-- that concern it in their order, the verdicts in theirs, and flatly what a received packet leaves. The rules come to the same step by step.
use Rattle.std.specs.Prelude.{ℕ, ◌+◌, ◌≡◌, Bool, true, false, cond, ◌&&◌, ◌||◌, not, List, [], ◌∷◌, ltb, leb, eqb, length}
use Rattle.std.proofs.Math.Option.{Option, none, some}
use Rattle.lists.specs.Lists.{maybe, written_to}
use Rattle.lists.specs.Keyed.{lookup, put}
use Rattle.wire.specs.declared.Header.{Header}
use Rattle.wire.specs.declared.Fault.{Fault}
use Rattle.wire.specs.Layout.{header_size}
use Rattle.wire.specs.Packet.{header, is_u}
use Rattle.wire.specs.Check.{given, first_of, packet_fault, written_fault}
use Rattle.wire.specs.PassOn.{flags_here, flags_elsewhere, passed_on}
use Rattle.rules.specs.Settings.{neighbour_most, link_most, entry_most, ttl_least, make_allowed, is_in_use, is_own, is_broadcast}
use Rattle.rules.specs.Calls.{received, ReceiveArgs, Call, make, receive, burst, own, sweep, question, list, locate, number_of, is_refusal, is_rule_refusal, received_as, answered_writing}
use Rattle.rules.specs.Rules.{Reading, StateOf, OutcomeOf, link_by, single_hop, message, is_echo, is_stale, is_duplicate, is_fresh, is_best_by, own_packet, route_of, link_rows, refuse, begin, burst_fits, take_burst, send, purge, answer_best, fill_rows, entries_held, answer_locate, step}
use Rattle.rules.specs.Lookup.{serving}

-- the first of a list whose fact holds, or another
abbrev pub first_that : List (Bool × ℕ) → (other : ℕ) → ℕ
first_that [] n = n
first_that (e ∷ es) n = cond e.0 e.1 (first_that es n)

-- ---- a received packet with header h

-- what is asked of it
pub record Questions : Type 0 where
  pub own_sender : Bool
  pub broadcast_sender : Bool
  pub own_originator : Bool
  pub echo : Bool
  -- U is set
  pub unidirectional : Bool
  -- the number is stale to the originator's record
  pub stale : Bool
  pub bidirectional : Bool
  pub duplicate : Bool
  -- no duplicate, or with the record's last TTL
  pub fresh : Bool

module _ (W : Reading) (s : StateOf W) (r : ReceiveArgs) (h : Header) where
  -- the originator's record, if one is held
  abbrev pub found : Option W.Record
  found = lookup h.originator s.records

  abbrev pub questions : Questions
  questions =
      record {
        own_sender = is_own s.config r.sender;
        broadcast_sender = is_broadcast s.config r.sender;
        own_originator = is_own s.config h.originator;
        echo = is_echo s.config s.sends r h;
        unidirectional = is_u h.flags;
        stale = is_stale W s.config r h found;
        bidirectional = W.has_row s.config s.rows (link_by r);
        duplicate = is_duplicate W s.config r h found;
        fresh = is_fresh W s.config r h found;
      }

  -- the record that counting would leave
  abbrev pub counted_record : W.Record
  counted_record = maybe found (W.first s.config (message r h)) (λ a. W.next s.config (message r h) a)

  module _ (q : Questions) where
    abbrev pub foreign : Bool
    foreign = not q.own_sender && not q.broadcast_sender

    -- the packet's verdict would be 22
    abbrev pub would_echo : Bool
    would_echo = foreign && (q.own_originator && q.echo)

    -- the packet would be counted
    abbrev pub would_count : Bool
    would_count = foreign && (not q.own_originator && (not q.unidirectional && (not q.stale && (q.bidirectional && not q.duplicate))))

    -- 9 arises only for a packet whose verdict would be 22; 10, 11 and 15 only for one that would be counted
    abbrev pub room_facts : List (Option Fault)
    room_facts =
        given (would_echo && (not q.bidirectional && leb neighbour_most (W.rows_held s.config s.rows))) 9
        ∷ given (would_count && (maybe found true (λ a. false) && leb s.config.settings.capacity (length s.records))) 10
        ∷ given (would_count && ltb link_most (length (W.links s.config counted_record))) 11
        ∷ given (would_count && ltb entry_most (length (W.entries s.config counted_record))) 15
        ∷ []

    -- what the packet leaves: its time, the echo's row, the counted record; other originators' records do not change
    abbrev pub state_then : StateOf W
    state_then =
        record {
          config = s.config;
          time = r.time;
          sends = s.sends;
          rows = cond would_echo (W.echo s.config s.sends (link_by r) s.rows) s.rows;
          records = cond would_count (put h.originator counted_record s.records) s.records;
        }

    abbrev pub record_then : Option W.Record
    record_then = lookup h.originator state_then.records

    -- best is judged after counting, duplicate and last TTL before it
    abbrev pub would_pass : Bool
    would_pass = leb ttl_least h.ttl && (single_hop r h || (q.bidirectional && (is_best_by W s.config r record_then && q.fresh)))

    abbrev pub verdicts : List (Bool × ℕ)
    verdicts =
        (q.own_sender, 20)
        ∷ (q.broadcast_sender, 21)
        ∷ (q.own_originator && q.echo, 22)
        ∷ (q.own_originator, 23)
        ∷ (q.unidirectional, 24)
        ∷ (q.stale, 27)
        ∷ (would_pass, 26)
        ∷ []

    -- the first that applies
    abbrev pub verdict_then : ℕ
    verdict_then = first_that verdicts 25

    -- the copy for the receiving interface
    abbrev pub copy : List ℕ
    copy = passed_on (flags_here (single_hop r h) q.bidirectional h.flags) r.packet

    -- only verdict 26 writes and carries flags; every verdict carries the route
    abbrev pub taken : OutcomeOf W
    taken =
        record {
          reply =
              answered_writing (received (received_as verdict_then 0 (cond (eqb verdict_then 26) (flags_elsewhere h.flags) 0) (route_of W s.config record_then)))
              (cond (eqb verdict_then 26) (written_to copy r.output) r.output);
          state = state_then;
        }

-- ---- every call

module _ (W : Reading) (cells : ℕ) (s : StateOf W) where
  unfoldable pub facts : Call → List (Option Fault)
  facts (make a) = given (not (make_allowed cells a)) 12 ∷ []
  facts (receive r) =
      given (not (is_in_use s.config r.interface)) 2
      ∷ given (ltb r.time s.time) 3
      ∷ given (ltb (length r.output) (length r.packet)) 4
      -- 5, 6, 7, 8, 16
      ∷ packet_fault s.config.settings.version r.packet
      -- 9, 10, 11, 15
      ∷ room_facts W s r (header r.packet) (questions W s r (header r.packet))
  facts (burst a) = given (not (burst_fits a)) 14 ∷ []
  facts (own a) =
      given (not (is_in_use s.config a.interface)) 2
      ∷ given (ltb a.time s.time) 3
      ∷ given (ltb (length a.output) (header_size + length a.hna)) 4
      -- 5, 7, 8, 16
      ∷ written_fault a.hna
      ∷ given (ltb a.ttl ttl_least) 13
      ∷ []
  facts (sweep t) = given (ltb t s.time) 3 ∷ []
  facts (question o) = []
  facts (locate a) = []
  facts (list o lent) = given (ltb (length lent) (length (link_rows W s.config (lookup o s.records)))) 4 ∷ []

  -- the outcome of a call that is not refused
  unfoldable pub outcome : Call → OutcomeOf W
  outcome (make a) = begin W a
  outcome (receive r) = taken W s r (header r.packet) (questions W s r (header r.packet))
  outcome (burst a) = take_burst W s a
  outcome (own a) = send W s a (own_packet s.config s.sends a)
  outcome (sweep t) = purge W s t
  outcome (question o) = answer_best W s (lookup o s.records)
  outcome (locate a) = answer_locate W s (serving a (entries_held W s))
  outcome (list o lent) = fill_rows W s lent (link_rows W s.config (lookup o s.records))

  -- a call is refused by the first of its facts that holds, and then changes and writes nothing; its number is one of 2 to 16
  -- otherwise it has its outcome, and answers none of 1 to 16
  pub record Exactly (c : Call) : Type 0 where
    pub refused : (f : Fault) → first_of (facts c) ≡ some f → step W cells s c ≡ refuse W c s f
    pub numbers : (f : Fault) → first_of (facts c) ≡ some f → is_rule_refusal f.number ≡ true
    pub accepted : first_of (facts c) ≡ none → step W cells s c ≡ outcome c
    pub no_refusal : is_refusal (number_of (outcome c).reply.answer) ≡ false
