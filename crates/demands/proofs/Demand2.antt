-- What a receive, a burst and an own packet that are not refused leave: shown of the rules' outcome, and carried to the cells, which hold the table that it has.
-- Assumes nothing.
use Prim.Native.Nat.{ℕ, ◌+◌, ◌*◌, ◌<◌}
use mathlib.Core.Path.{◌≡◌, refl, sym, ap, ◌∙◌, subst}
use mathlib.Core.Bool.{Bool, true, false, cond, ◌&&◌, ◌||◌, not, true≢false}
use mathlib.Core.Option.{Option, none, some}
use mathlib.Core.List.{List}
use lib.Dec.{ltb, eqb}
use lib.ListN.{length}
use native.Mathlib.Omega.{arith}
use borrow.Author.Tests.{ltb-true, eqb-true, eq-eqb, ne_eqb, not-false}
use Rattle.lists.specs.Lists.{maybe, written_to}
use Rattle.lists.specs.Keyed.{lookup, put}
use Rattle.lists.proofs.Tests.{by_test, and_right, and_at}
use Rattle.lists.proofs.Lists.{keep_same, all_true}
use Rattle.lists.proofs.Keyed.{lookup-put, lookup-put-other}
use Rattle.window.specs.Window.{distance}
use Rattle.wire.specs.declared.Header.{Header}
use Rattle.wire.specs.declared.Fault.{Fault}
use Rattle.wire.specs.Packet.{header}
use Rattle.wire.specs.Check.{given, first_of}
use Rattle.wire.specs.PassOn.{flags_elsewhere}
use Rattle.rules.specs.declared.Route.{Route}
use Rattle.rules.specs.Settings.{Config, table_head, record_cells, is_in_use}
use Rattle.rules.specs.Calls.{interface_of, ReceiveArgs, BurstArgs, packets_of, single_call, OwnArgs, Call, receive, burst, own, question, received, received_as, number_of, is_refusal}
use Rattle.rules.specs.Rules.{OutcomeOf, burst_fits, receive_on, take_burst, Sends, last_sent, send_on, link_by, echo_tests, own_packet, route_of, answer_best, send, step}
use Rattle.rules.specs.Table.{TableState, TableRows, record_echo, row_distance, drop_old, table}
use Rattle.rules.specs.Refusals.{Questions, questions, counted_record, foreign, would_echo, would_pass, verdict_then, copy, taken, facts, outcome}
use Rattle.rules.specs.WellFormed as R
use Rattle.rules.specs.Promises.{ReceiveWritten, OwnWritten}
use Rattle.rules.proofs.Config.{interfaces-high}
use Rattle.rules.proofs.Links.{interface_of_lem}
use Rattle.rules.proofs.Sends.{last-own}
use Rattle.rules.proofs.Faults.{none-at, not-given}
use Rattle.rules.proofs.Exactly.{exactly, step_keeps}
use Rattle.rules.proofs.Bursts.{each_keeps}
use Rattle.rules.proofs.WellFormed.{parts, well_formed-step}
use Rattle.rules.proofs.Promises.{receive-written, own-written}
use Rattle.table_layout.specs.Cells.{decode, well_formed}
use Rattle.table_layout.specs.Calls.{Done, make_of, call_on}
use Rattle.table_layout.proofs.Parts.{length-encode}
use Rattle.table_layout.proofs.Encoding.{laws, cells-size}
use Rattle.table_layout.proofs.Calls.{goes_on}
use Rattle.table_layout.proofs.Bursts.{as_singles}
use Rattle.demands.specs.Demand1.{facts_on, outcome_on, Accepted}
use Rattle.demands.specs.Demand2.{AfterReceive, number_now, row_stays, AfterOwn, seen, number_on, NotRefused, StillTable, OnReceive, OnBurst, OnOwn, Demand2}
use Rattle.demands.proofs.Demand1.{demand1}

-- ---- the verdict is 22 exactly for an echo: a, b and x say own sender, broadcast sender and echo of an own packet, and n is the verdict after them

abbrev up_to_22 : (a b x : Bool) → ℕ → ℕ
up_to_22 a b x n = cond a 20 (cond b 21 (cond x 22 n))

is_echo_lem : (a b x : Bool) (n : ℕ) → (n ≡ 22 → ⊥) → up_to_22 a b x n ≡ 22 → ((not a && not b) && x) ≡ true
is_echo_lem true b x n h e = let z : ◌≡◌ {A = ℕ} 20 22 = e in absurd (omega arith)
is_echo_lem false true x n h e = let z : ◌≡◌ {A = ℕ} 21 22 = e in absurd (omega arith)
is_echo_lem false false true n h e = refl
is_echo_lem false false false n h e = absurd (h e)

no_echo_lem : (a b x : Bool) (n : ℕ) → (up_to_22 a b x n ≡ 22 → ⊥) → ((not a && not b) && x) ≡ false
no_echo_lem true b x n h = refl
no_echo_lem false true x n h = refl
no_echo_lem false false true n h = absurd (h refl)
no_echo_lem false false false n h = refl

abbrev from23 : (o u t p : Bool) → ℕ
from23 o u t p = cond o 23 (cond u 24 (cond t 27 (cond p 26 25)))

later : (o u t p : Bool) → from23 o u t p ≡ 22 → ⊥
later true u t p e = let z : ◌≡◌ {A = ℕ} 23 22 = e in omega arith
later false true t p e = let z : ◌≡◌ {A = ℕ} 24 22 = e in omega arith
later false false true p e = let z : ◌≡◌ {A = ℕ} 27 22 = e in omega arith
later false false false true e = let z : ◌≡◌ {A = ℕ} 26 22 = e in omega arith
later false false false false e = let z : ◌≡◌ {A = ℕ} 25 22 = e in omega arith

-- ---- a received packet, by the rules

module _ (n : ℕ) (s : TableState) (w : R.well_formed s ≡ true) (r : ReceiveArgs) (f : first_of (facts table n s (receive r)) ≡ none) where
  abbrev h : Header
  h = header r.packet

  abbrev q : Questions
  q = questions table s r h

  abbrev last : ℕ
  last = last_sent s.config s.sends (interface_of (link_by r))

  same-interface : interface_of (link_by r) ≡ r.interface
  unfolding facts
  same-interface =
      let used : r.interface < length s.config.interfaces = ltb-true r.interface (length s.config.interfaces) (not-false (is_in_use s.config r.interface) (not-given (not (is_in_use s.config r.interface)) 2 (none-at (facts table n s (receive r)) f 0))) in
      let most = interfaces-high s.config (parts s w).allowed in
      interface_of_lem r.sender r.interface (omega arith)

  -- an echo has the interface's last sent number
  echo-number : would_echo table s r h q ≡ true → last ≡ h.sequence
  echo-number e =
      let tests = and_right q.own_originator q.echo (and_right (foreign table s r h q) (q.own_originator && q.echo) e) in
      ap (last_sent s.config s.sends) same-interface ∙ sym (eqb-true h.sequence (last_sent s.config s.sends r.interface) (and_at (echo_tests s.config s.sends r h) tests 3))

  at_22 : verdict_then table s r h q ≡ 22 → would_echo table s r h q ≡ true
  at_22 e =
      is_echo_lem q.own_sender q.broadcast_sender (q.own_originator && q.echo) _ (later q.own_originator q.unidirectional q.stale (would_pass table s r h q)) e

  not_22 : (verdict_then table s r h q ≡ 22 → ⊥) → would_echo table s r h q ≡ false
  not_22 e = no_echo_lem q.own_sender q.broadcast_sender (q.own_originator && q.echo) _ e

  written : ReceiveWritten table s r (taken table s r h q)
  unfolding outcome
  written = subst (ReceiveWritten table s r) ((exactly table n s (receive r)).accepted f) (receive-written table n s r f)

  after-receive : AfterReceive s r (taken table s r h q)
  unfolding record_echo
  after-receive =
      let l = link_by r in
      record {
        whole = refl;
        verdict = refl;
        copied = λ e. ap (λ (t : Bool). cond t (written_to (copy table s r h q) r.output) r.output) (eq-eqb (verdict_then table s r h q) 26 e);
        passed = written.passed;
        other = written.other;
        config = refl;
        sends = refl;
        time = refl;
        echoed = λ e. ap (λ (t : Bool). lookup l (cond t (put l last s.rows) s.rows)) (at_22 e) ∙ lookup-put l last s.rows ∙ ap some (echo-number (at_22 e));
        other_rows = λ k e. by_test (λ (rs : TableRows). lookup k rs ≡ lookup k s.rows) (would_echo table s r h q) (λ _. lookup-put-other k l last s.rows (ne_eqb k l e)) (λ _. refl);
        rows = λ e. ap (λ (t : Bool). cond t (put l last s.rows) s.rows) (not_22 e);
        counted = λ e. ap (λ (t : Bool). lookup h.originator (cond t (put h.originator (counted_record table s r h) s.records) s.records)) e ∙ lookup-put h.originator (counted_record table s r h) s.records;
        others = written.others;
        records = λ e. ap (λ (t : Bool). cond t (put h.originator (counted_record table s r h) s.records) s.records) e;
      }

-- ---- an own packet, by the rules

module _ (n : ℕ) (s : TableState) (a : OwnArgs) (f : first_of (facts table n s (own a)) ≡ none) where
  abbrev i : ℕ
  i = a.interface

  abbrev ns : Sends
  ns = send_on s.config s.sends i

  -- a row is kept by the rules where it stays
  same_row : (e : ℕ × ℕ) → (not (eqb (interface_of e.0) i) || ltb (row_distance s.config ns e) s.config.settings.timeout) ≡ row_stays s a e
  same_row e = go (eqb (interface_of e.0) i) refl
    where
      go : (b : Bool) → eqb (interface_of e.0) i ≡ b → (not b || ltb (row_distance s.config ns e) s.config.settings.timeout) ≡ (not b || ltb (distance (number_now s a) e.1) s.config.settings.timeout)
      go true x = ap (λ (m : ℕ). ltb (distance m e.1) s.config.settings.timeout) (ap (last_sent s.config ns) (eqb-true (interface_of e.0) i x) ∙ last-own s.config s.sends i)
      go false x = refl

  after-own : AfterOwn s a (send table s a (own_packet s.config s.sends a))
  unfolding send outcome drop_old
  after-own =
      record {
        whole = refl;
        written = subst (OwnWritten table s a) ((exactly table n s (own a)).accepted f) (own-written table n s a f);
        config = refl;
        records = refl;
        time = refl;
        last = lookup-put i (number_now s a) s.sends;
        other_sends = λ j e. lookup-put-other j i (number_now s a) s.sends (ne_eqb j i e);
        rows = keep_same _ (row_stays s a) same_row s.rows;
      }

-- ---- a call that is not refused, on cells

module _ (c : List ℕ) (call : Call) (o : make_of call ≡ none) (t : NotRefused c call) where
  no_fact : first_of (facts_on c call) ≡ none
  no_fact = go (first_of (facts_on c call)) refl
    where
      go : (x : Option Fault) → first_of (facts_on c call) ≡ x → first_of (facts_on c call) ≡ none
      go none e = e
      go (some f) e = let x = (demand1 c call).refused f e in absurd (true≢false (sym x.among ∙ ap is_refusal (sym x.number) ∙ t.number))

  first : given (not (well_formed c)) 1 ≡ none
  first = ap (λ x. maybe x (given (not (well_formed c)) 1) (λ a. none)) (sym o) ∙ none-at (facts_on c call) no_fact 0

  well : well_formed c ≡ true
  well = not-false (well_formed c) (not-given (not (well_formed c)) 1 first)

  no_rule : first_of (facts table (length c) (decode c) call) ≡ none
  no_rule = ap (λ (x : Option Fault). maybe x (first_of (facts table (length c) (decode c) call)) some) (sym (none-at (facts_on c call) no_fact 0)) ∙ no_fact

  done : Accepted c call
  done = (demand1 c call).accepted no_fact

  valid : R.well_formed (outcome_on c call).state ≡ true
  valid =
      subst (λ (x : OutcomeOf table). R.well_formed x.state ≡ true) ((exactly table (length c) (decode c) call).accepted no_rule)
      (well_formed-step (length c) (decode c) (laws.table c well) call t.typed)

  -- the cells hold the rules' table
  held : seen c call ≡ outcome_on c call
  held = λ i. record { reply = done.reply i; state = (ap decode done.cells ∙ laws.decoded (outcome_on c call).state valid) i }

  keeps : (outcome_on c call).state.config ≡ (decode c).config → StillTable c call
  unfolding decode
  keeps e =
      record {
        well_formed = ap well_formed done.cells ∙ laws.encoded (outcome_on c call).state valid;
        size = ap length done.cells ∙ length-encode (outcome_on c call).state ∙ ap (λ (κ : Config). table_head + κ.settings.capacity * record_cells) e ∙ sym (cells-size c well);
      }

module _ (c : List ℕ) (r : ReceiveArgs) (t : NotRefused c (receive r)) where
  abbrev left : List ℕ
  left = (call_on c (receive r)).cells

  abbrev flags : ℕ → ℕ
  flags v = cond (eqb v 26) (flags_elsewhere (header r.packet).flags) 0

  abbrev route : TableState → Route
  route s = route_of table s.config (lookup (header r.packet).originator s.records)

  on_receive : OnReceive c r
  unfolding outcome step answer_best
  on_receive =
      let k = keeps c (receive r) refl t refl in
      let e = held c (receive r) refl t in
      record {
        kept = k;
        after = subst (AfterReceive (decode c) r) (sym e) (after-receive (length c) (decode c) (laws.table c (well c (receive r) refl t)) r (no_rule c (receive r) refl t));
        flags = flags (number_on c (receive r));
        route = route (decode left);
        says = subst (λ (x : OutcomeOf table). x.reply.answer ≡ received (received_as (number_of x.reply.answer) 0 (flags (number_of x.reply.answer)) (route x.state))) (sym e) refl;
        no_flags = λ x. ap (λ (b : Bool). cond b (flags_elsewhere (header r.packet).flags) 0) (ne_eqb (number_on c (receive r)) 26 x);
        best = ap (λ (d : Done). d.reply) (goes_on left (question (header r.packet).originator) k.well_formed);
      }

-- a received packet leaves the settings and interface rows
one-config : (s : TableState) (κ : Config) → s.config ≡ κ → (r : ReceiveArgs) → (receive_on table s r).state.config ≡ κ
unfolding step outcome
one-config s κ e r = step_keeps table 0 (λ x. x.config ≡ κ) s (receive r) e (λ n. e)

on_burst : (c : List ℕ) (a : BurstArgs) → NotRefused c (burst a) → OnBurst c a
unfolding facts outcome take_burst
on_burst c a t =
    let fits = not-false (burst_fits a) (not-given (not (burst_fits a)) 14 (none-at (facts table (length c) (decode c) (burst a)) (no_rule c (burst a) refl t) 0)) in
    let e = as_singles c a (well c (burst a) refl t) t.typed fits in
    record {
      kept =
          keeps c (burst a) refl t
          (each_keeps _ (λ s. s.config ≡ (decode c).config) a.time (λ _. true) (λ s o p h x. one-config s (decode c).config x (single_call a.time o p)) (packets_of a) (all_true (λ _. true) (λ _. refl) (packets_of a)) (decode c) a.output refl);
      reply = ap (λ (d : Done). d.reply) e;
      cells = ap (λ (d : Done). d.cells) e;
    }

on_own : (c : List ℕ) (a : OwnArgs) → NotRefused c (own a) → OnOwn c a
unfolding outcome send
on_own c a t =
    record {
      kept = keeps c (own a) refl t refl;
      after = subst (AfterOwn (decode c) a) (sym (held c (own a) refl t)) (after-own (length c) (decode c) a (no_rule c (own a) refl t));
    }

pub demand2 : (c : List ℕ) → Demand2 c
demand2 c = record { receives = on_receive c; bursts = on_burst c; sends = on_own c }
