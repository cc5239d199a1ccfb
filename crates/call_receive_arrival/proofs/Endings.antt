-- What a received packet leaves, by how it ends. Assumes nothing.
use mathlib.Core.Path.{◌≡◌, sym, ap, ap₂, ◌∙◌, subst}
use mathlib.Core.Bool.{Bool, true, false, ◌&&◌, ◌||◌}
use mathlib.Core.Option.{Option}
use mathlib.Core.List.{List}
use Prim.Native.Nat.{ℕ, ◌<◌}
use native.Mathlib.Omega.{arith}
use borrow.Author.Tests.{leb-true}
use lib.Dec.{leb, eqb}
use lib.ListN.{set}
use Rattle.lists.specs.Lists.{written_to}
use Rattle.lists.proofs.Tests.{and_left}
use Rattle.wire.specs.declared.Header.{Header}
use Rattle.wire.specs.declared.Fault.{Fault}
use Rattle.wire.specs.Layout.{ttl_at}
use Rattle.wire.specs.Packet.{octet, header, hna}
use Rattle.wire.specs.PassOn.{flags_here, flags_elsewhere, passed_on}
use Rattle.rules.specs.declared.Ogm.{Ogm}
use Rattle.rules.specs.Messages.{message_of, ogm_of}
use Rattle.rules.specs.declared.Received.{Received}
use Rattle.rules.specs.declared.Route.{Route}
use Rattle.rules.specs.Settings.{ttl_least}
use Rattle.rules.specs.Calls.{link_of, ReceiveArgs, Reply, receive, received, received_as, answered_writing, refusal}
use Rattle.rules.specs.Rules.{OutcomeOf, message, is_best_by, with_time, refuse, verdict, conclude, route_of}
use Rattle.rules.specs.Table.{TableRecord, TableState, table}
use Rattle.rules.specs.WellFormed.{well_formed}
use Rattle.table_layout.specs.Layout.{time_at}
use Rattle.table_layout.specs.Cells.{encode, decode}
use Rattle.table_layout.specs.Facts.{Knows}
use Rattle.table_changes.specs.Left.{Left}
use Rattle.table_changes.proofs.Parts.{time_set}
use Rattle.call_receive_arrival.specs.declared.Arrival.{Arrival}
use Rattle.call_receive_arrival.specs.Receiving.{call_of, after, Leaves, refused_by, verdict_of, Concluded, Ends, Fits, Taken}
use Rattle.call_receive_arrival.proofs.Ways.{concludes}

-- what the message says is what the packet says
module _ {p o : List ℕ} {m : Arrival} (f : Fits p o m) where
  pub flags_is : m.flags ≡ (header p).flags
  flags_is = ap (λ (x : Arrival). x.flags) f.reads

  pub originator_is : m.originator ≡ (header p).originator
  originator_is = ap (λ (x : Arrival). x.originator) f.reads

  ogm_is : m.ogm ≡ ogm_of (message (call_of p o m) (header p))
  ogm_is = ap (λ (x : Arrival). x.ogm) f.reads

  -- with its HNA octets it is the message
  pub message_is : message_of m.ogm (hna p) ≡ message (call_of p o m) (header p)
  message_is = ap (λ (x : Ogm). message_of x (hna p)) ogm_is

  pub link_is : m.ogm.link ≡ link_of m.sender m.interface
  link_is = ap (λ (x : Ogm). x.link) ogm_is

  pub ttl_is : m.ogm.ttl ≡ (header p).ttl
  ttl_is = ap (λ (x : Ogm). x.ttl) ogm_is

  pub sequence_is : m.ogm.sequence ≡ (header p).sequence
  sequence_is = ap (λ (x : Ogm). x.sequence) ogm_is

pub leaves_by : {reply : Reply} {d : List ℕ} {x y : OutcomeOf table} → x ≡ y → Left y reply d → Left x reply d
leaves_by {reply} {d} e l = subst (λ (z : OutcomeOf table). Left z reply d) (sym e) l

-- a refusal: nothing is written and nothing changed
pub refused-left : {c d : List ℕ} → Knows c → (a : ReceiveArgs) {f g : Fault} {r : Received} {x : OutcomeOf table} → x ≡ refuse table (receive a) (decode c) f → d ≡ c → g ≡ f → r ≡ refused_by g
    → Leaves d a.output r x
unfolding refusal
refused-left k a e ed eg er = leaves_by e (record { replies = ap (λ (y : Received). answered_writing (received y) a.output) (er ∙ ap refused_by eg); leaves = ed ∙ sym k.cells })

-- a verdict that writes nothing, on the table s as the call leaves it
pub verdict-leaves : {d : List ℕ} (s : TableState) (a : ReceiveArgs) (h : Header) (v o : ℕ) (r : Received) → o ≡ h.originator → r ≡ verdict_of s v o → d ≡ encode s → Leaves d a.output r (verdict table a h v s)
unfolding verdict
verdict-leaves s a h v o r eo er ed = record { replies = ap (λ (y : Received). answered_writing (received y) a.output) (er ∙ ap (verdict_of s v) eo); leaves = ed }

-- what a packet that comes down to x leaves is well-formed
pub kept_by : {c p o : List ℕ} {m : Arrival} → Taken c p o m → {x : OutcomeOf table} → after c p o m ≡ x → well_formed x.state ≡ true
kept_by t e = ap (λ (y : OutcomeOf table). well_formed y.state) (sym e) ∙ t.kept

-- ---- a verdict that changes only the time

abbrev pub timed : (c p o : List ℕ) → Arrival → (number : ℕ) → OutcomeOf table
timed c p o m v = verdict table (call_of p o m) (header p) v (with_time table (decode c) m.ogm.time)

module _ {c p o : List ℕ} {m : Arrival} (v : ℕ) (t : Taken c p o m) where
  -- what it asks for, where the packet comes down to it
  pub verdict-kept : after c p o m ≡ timed c p o m v → well_formed (with_time table (decode c) m.ogm.time) ≡ true
  unfolding verdict
  verdict-kept e = kept_by t e

  module _ (w : well_formed (with_time table (decode c) m.ogm.time) ≡ true) where
    abbrev pub ends : Ends c m.ogm.time
    ends = record { state = decode c; cells = sym t.knows.cells; valid = w }

    -- and what it leaves
    pub verdict-left : {x : OutcomeOf table} → x ≡ timed c p o m v → {d : List ℕ} {r : Received}
        → ((e : Ends c m.ogm.time) → (r ≡ verdict_of e.state v m.originator) × (d ≡ encode (with_time table e.state m.ogm.time))) → Leaves d o r x
    verdict-left e {d} {r} f =
        leaves_by e (verdict-leaves (with_time table (decode c) m.ogm.time) (call_of p o m) (header p) v m.originator r (originator_is t.fits) (f ends).0 (f ends).1)

-- ---- 25 or 26: the copy

module _ {p o : List ℕ} {m : Arrival} (f : Fits p o m) (b best : Bool) (route : Route) where
  abbrev passes : Bool
  passes = leb ttl_least m.ogm.ttl && (eqb m.sender m.originator || best)

  pub kept-replies : passes ≡ false → (r : Received) → r ≡ received_as 25 0 0 route → answered_writing (received r) o ≡ conclude (call_of p o m) (header p) b passes route
  unfolding conclude
  kept-replies e r er = rw e (ap (λ (y : Received). answered_writing (received y) o) er)

  -- TTL is not 0
  pub ttl_positive : passes ≡ true → 0 < octet p ttl_at
  unfolding header
  ttl_positive e = omega (arith, leb-true ttl_least m.ogm.ttl (and_left (leb ttl_least m.ogm.ttl) (eqb m.sender m.originator || best) e), ttl_is f)

  pub passed-replies : passes ≡ true → (q : List ℕ) (here elsewhere : ℕ) → here ≡ flags_here (eqb m.sender m.originator) b m.flags → elsewhere ≡ flags_elsewhere m.flags → q ≡ written_to (passed_on here p) o
      → (r : Received) → r ≡ received_as 26 0 elsewhere route → answered_writing (received r) q ≡ conclude (call_of p o m) (header p) b passes route
  unfolding conclude
  passed-replies e q here elsewhere eh ee eq r er =
      rw e
      (ap₂ (λ (y : Received) (l : List ℕ). answered_writing (received y) l) (er ∙ ap (λ (x : ℕ). received_as 26 0 x route) (ee ∙ ap flags_elsewhere (flags_is f)))
      (eq ∙ ap (λ (x : ℕ). written_to (passed_on x p) o) (eh ∙ (λ j. flags_here (eqb m.sender (originator_is f j)) b (flags_is f j)))))

-- ---- 25 or 26: the originator's record as the call leaves it is x, and the cells d are those of the table s with it, before the time is set

pub concludes_left : {p o : List ℕ} {m : Arrival} → Fits p o m → (s : TableState) (b fresh : Bool) (x : Option TableRecord) {y : OutcomeOf table} → y ≡ concludes s (call_of p o m) (header p) b fresh x
    → {d : List ℕ} → d ≡ encode s → {best : Bool} {route : Route} → best ≡ (b && (is_best_by table s.config (call_of p o m) x && fresh)) → route ≡ route_of table s.config x
    → {e q : List ℕ} {r : Received} → Concluded d p o m b best route e q r → Leaves e q r y
concludes_left {p} {o} {m} f s b fresh x w ed eb er k =
    leaves_by w (record {
      replies = k.replies ∙ (λ j. conclude (call_of p o m) (header p) b (leb ttl_least (ttl_is f j) && (eqb m.sender (originator_is f j) || eb j)) (er j));
      leaves = k.cells ∙ ap (λ (l : List ℕ). set l time_at m.ogm.time) ed ∙ time_set s m.ogm.time;
    })
