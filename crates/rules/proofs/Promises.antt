-- What calls that are not refused write, and what a received packet leaves alone.
use Prim.Native.Nat.{ℕ}
use mathlib.Core.Path.{◌≡◌, refl, sym, ap, ◌∙◌, subst}
use mathlib.Core.Bool.{true, cond}
use mathlib.Core.Option.{none}
use mathlib.Core.List.{List, ◌++◌}
use lib.Dec.{eqb}
use lib.ListN.{length, drop}
use borrow.Author.Tests.{eq-eqb, ne_eqb}
use Rattle.lists.specs.Lists.{written_to}
use Rattle.lists.specs.Keyed.{lookup}
use Rattle.lists.proofs.Tests.{by_test}
use Rattle.lists.proofs.Keyed.{lookup-put-other}
use Rattle.wire.specs.declared.Header.{Header}
use Rattle.wire.specs.Packet.{header}
use Rattle.wire.specs.Check.{first_of}
use Rattle.wire.specs.PassOn.{flags_here, flags_elsewhere, passed_on}
use Rattle.wire.proofs.Laws.{reads_back, copy, flags-octet}
use Rattle.rules.specs.Calls.{written, received, received_as, written_as, ReceiveArgs, OwnArgs, receive, own}
use Rattle.rules.specs.Rules.{Reading, StateOf, own_header, own_packet, single_hop, route_of, send, step}
use Rattle.rules.specs.Refusals.{Questions, questions, counted_record, would_count, record_then, verdict_then, taken, facts, outcome}
use Rattle.rules.specs.Promises.{OwnWritten, PassedOn, ReceiveWritten}
use Rattle.rules.proofs.Faults.{none-at}
use Rattle.rules.proofs.Exactly.{exactly}

module _ (W : Reading) (cells : ℕ) (s : StateOf W) where
  module _ (a : OwnArgs) (n : first_of (facts W cells s (own a)) ≡ none) where
    sent : OwnWritten W s a (outcome W cells s (own a))
    unfolding outcome send written_to facts
    sent =
        let h = own_header s.config s.sends a in
        let b = reads_back h a.hna in
        record {
          packet = own_packet s.config s.sends a;
          size = b.size;
          starts = refl;
          says = ap (λ (g : Header). written (written_as 0 0 (length (own_packet s.config s.sends a)) g.sequence)) (sym b.fields);
          fields = b.fields;
          octets = b.octets;
          check = b.check ∙ none-at (facts W cells s (own a)) n 3;
        }

    pub own-written : OwnWritten W s a (step W cells s (own a))
    own-written = subst (OwnWritten W s a) (sym ((exactly W cells s (own a)).accepted n)) sent

  module _ (r : ReceiveArgs) where
    abbrev h : Header
    h = header r.packet

    abbrev q : Questions
    q = questions W s r h

    passed : verdict_then W s r h q ≡ 26 → PassedOn W s r (taken W s r h q)
    unfolding written_to
    passed e =
        let f = flags_here (single_hop r h) q.bidirectional h.flags in
        let b = flags-octet (single_hop r h) q.bidirectional h.flags in
        let t : eqb (verdict_then W s r h q) 26 ≡ true = eq-eqb (verdict_then W s r h q) 26 e in
        record {
          flags = f;
          starts = ap (λ x. cond x (passed_on f r.packet ++ drop (length (passed_on f r.packet)) r.output) r.output) t ∙ ap (λ k. passed_on f r.packet ++ drop k r.output) (copy f r.packet).size;
          copy = copy f r.packet;
          d = b.here_d;
          u = b.here_u;
          rest = b.here_rest;
          elsewhere = flags_elsewhere h.flags;
          route = route_of W s.config (record_then W s r h q);
          says = ap (λ v. received (received_as v 0 (cond (eqb v 26) (flags_elsewhere h.flags) 0) (route_of W s.config (record_then W s r h q)))) e;
          elsewhere-d = b.elsewhere-d;
          elsewhere-u = b.elsewhere-u;
          elsewhere-rest = b.elsewhere-rest;
        }

    pub receive-written : first_of (facts W cells s (receive r)) ≡ none → ReceiveWritten W s r (step W cells s (receive r))
    unfolding outcome
    receive-written n =
        subst (ReceiveWritten W s r) (sym ((exactly W cells s (receive r)).accepted n)) (record {
          passed = passed;
          other = λ e. ap (λ x. cond x (written_to (passed_on (flags_here (single_hop r h) q.bidirectional h.flags) r.packet) r.output) r.output) (ne_eqb (verdict_then W s r h q) 26 e);
          config = refl;
          sends = refl;
          others = λ k e. by_test (λ (es : List (ℕ × W.Record)). lookup k es ≡ lookup k s.records) (would_count W s r h q) (λ _. lookup-put-other k h.originator (counted_record W s r h) s.records (ne_eqb k h.originator e)) (λ _. refl);
        })
