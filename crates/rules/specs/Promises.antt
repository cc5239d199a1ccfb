-- What RULES 6 and 7 say of the calls in other words than their definitions: an own packet reads back, a copy keeps every octet except two,
-- other originators' records do not change, and a network has one name. `proofs/Promises.antt` proves each of every call that is not refused.
use Rattle.std.specs.Prelude.{ℕ, ◌+◌, ◌≡◌, true, false, not, List, ◌++◌, length, drop}
use Rattle.std.proofs.Math.Option.{none}
use Rattle.lists.specs.Keyed.{lookup}
use Rattle.wire.specs.Layout.{header_size}
use Rattle.wire.specs.Packet.{header, hna, is_u, is_d, unnamed}
use Rattle.wire.specs.Check.{packet_fault}
use Rattle.wire.specs.Entries.{mask_of, is_clean}
use Rattle.wire.specs.PassOn.{passed_on}
use Rattle.wire.specs.Laws.{Copy}
use Rattle.rules.specs.declared.Route.{Route}
use Rattle.rules.specs.Calls.{received, written, received_as, written_as, ReceiveArgs, OwnArgs, number_of}
use Rattle.rules.specs.Lookup.{covers}
use Rattle.rules.specs.Rules.{Reading, StateOf, OutcomeOf, link_by, single_hop, own_header}

-- without host bits a network has one name: of equal masks, two such entries that cover one address are the same entry (RULES 3.5, 7.6)
abbrev pub OneName : Type 0
OneName = (a x y : ℕ) → is_clean x ≡ true → is_clean y ≡ true → mask_of x ≡ mask_of y → covers a x ≡ true → covers a y ≡ true → x ≡ y

module _ (W : Reading) (s : StateOf W) where
  -- an own packet: just its length is written at the start of the output
  pub record OwnWritten (a : OwnArgs) (o : OutcomeOf W) : Type 0 where
    pub packet : List ℕ
    pub size : length packet ≡ header_size + length a.hna
    pub starts : o.reply.output ≡ packet ++ drop (length packet) a.output
    pub says : o.reply.answer ≡ written (written_as 0 0 (length packet) (header packet).sequence)
    -- read by the layout it gives back the fields given, and it passes the packet check
    pub fields : header packet ≡ own_header s.config s.sends a
    pub octets : hna packet ≡ a.hna
    pub check : packet_fault s.config.settings.version packet ≡ none

  -- verdict 26: just the packet's length is written, the copy for the receiving interface
  pub record PassedOn (r : ReceiveArgs) (o : OutcomeOf W) : Type 0 where
    pub flags : ℕ
    pub starts : o.reply.output ≡ passed_on flags r.packet ++ drop (length r.packet) r.output
    pub copy : Copy flags r.packet
    pub d : is_d flags ≡ single_hop r (header r.packet)
    pub u : is_u flags ≡ not (W.has_row s.config s.rows (link_by r))
    pub rest : unnamed flags ≡ unnamed (header r.packet).flags
    -- the answer carries the flags octet for the other interfaces
    pub elsewhere : ℕ
    pub route : Route
    pub says : o.reply.answer ≡ received (received_as 26 0 elsewhere route)
    pub elsewhere-d : is_d elsewhere ≡ false
    pub elsewhere-u : is_u elsewhere ≡ false
    pub elsewhere-rest : unnamed elsewhere ≡ unnamed (header r.packet).flags

  pub record ReceiveWritten (r : ReceiveArgs) (o : OutcomeOf W) : Type 0 where
    pub passed : number_of o.reply.answer ≡ 26 → PassedOn r o
    pub other : (number_of o.reply.answer ≡ 26 → ⊥) → o.reply.output ≡ r.output
    -- every other originator's record, settings and sent numbers stay
    pub config : o.state.config ≡ s.config
    pub sends : o.state.sends ≡ s.sends
    pub others : (k : ℕ) → (k ≡ (header r.packet).originator → ⊥) → lookup k o.state.records ≡ lookup k s.records
