-- The packets of a burst, one after the other: what each of them keeps is kept, and what each of them does alike in two states is done alike by all.
use Prim.Native.Nat.{ℕ, ◌≤◌}
use mathlib.Core.Path.{◌≡◌, refl, sym, ap, ◌∙◌}
use mathlib.Core.Bool.{Bool, true, true≢false}
use mathlib.Core.Option.{Option, none, some}
use mathlib.Core.List.{List, [], ◌∷◌}
use lib.ListN.{length, drop}
use borrow.Author.Tests.{ltb-false}
use Rattle.lists.specs.Lists.{all}
use Rattle.lists.proofs.Tests.{both, and_left, and_right, and_at}
use Rattle.lists.proofs.Lists.{all_take, all_drop}
use Rattle.wire.specs.declared.Fault.{Fault}
use Rattle.wire.specs.Check.{first_of}
use Rattle.rules.specs.Settings.{is_octet, is_address}
use Rattle.rules.specs.Calls.{ReceiveArgs, BurstArgs, Packet, packets_in, packets_of, single_call, receive, burst, Reply, number_of, is_rule_refusal}
use Rattle.rules.specs.Rules.{Reading, StateOf, OutcomeOf, Each, written_by, and_then, receive_each, step}
use Rattle.rules.specs.Refusals.{facts}
use Rattle.rules.specs.WellFormed.{burst_types, typed}
use Rattle.rules.proofs.Faults.{none-at, not-given}
use Rattle.rules.proofs.Exactly.{exactly, refusal-number}

-- another state in its place
abbrev pub in_state : {S T : Type 0} → (S → T) → Each S → Each T
in_state f x = record { answers = x.answers; output = x.output; written = x.written; state = f x.state }

module _ {S : Type 0} (call : S → ReceiveArgs → Reply × S) (P : S → Type 0) (t : ℕ) (okay : Packet → Bool) where
  pub each_keeps : ((s : S) (o : List ℕ) (p : Packet) → okay p ≡ true → P s → P (call s (single_call t o p)).1)
      → (ps : List Packet) → all okay ps ≡ true → (s : S) (o : List ℕ) → P s → P (receive_each call t s o ps).state
  unfolding receive_each
  each_keeps k [] h s o x = x
  each_keeps k (p ∷ ps) h s o x = each_keeps k ps (and_right (okay p) (all okay ps) h) _ _ (k s o p (and_left (okay p) (all okay ps) h) x)

  -- a single call on f s replies as one on s, and leaves what f makes of what that leaves
  pub each_alike : {T : Type 0} (f : S → T) (call' : T → ReceiveArgs → Reply × T)
      → ((s : S) (o : List ℕ) (p : Packet) → okay p ≡ true → P s → (call' (f s) (single_call t o p) ≡ ((call s (single_call t o p)).0, f (call s (single_call t o p)).1)) × P (call s (single_call t o p)).1)
      → (ps : List Packet) → all okay ps ≡ true → (s : S) (o : List ℕ) → P s → receive_each call' t (f s) o ps ≡ in_state f (receive_each call t s o ps)
  unfolding receive_each
  each_alike f call' k [] h s o x = refl
  each_alike {T} f call' k (p ∷ ps) h s o x =
      let r = single_call t o p in
      let e = k s o p (and_left (okay p) (all okay ps) h) x in
      let y = call s r in
      let n = written_by r y.0 in
      ap (λ (z : Reply × T). and_then z.0 (written_by r z.0) (receive_each call' t z.1 (drop (written_by r z.0) z.0.output) ps)) e.0
      ∙ ap (and_then y.0 n) (each_alike f call' k ps (and_right (okay p) (all okay ps) h) y.1 (drop n y.0.output) e.1)

-- the packets of a burst whose arguments are in the ranges of their types
pub packets_typed : (a : BurstArgs) → typed (burst a) ≡ true → all (λ p. typed (receive (single_call a.time [] p))) (packets_of a) ≡ true
packets_typed a t = go a.octets a.lengths a.senders a.interfaces (and_at (burst_types a) t 0) (and_at (burst_types a) t 1)
  where
    go : (b ns ss is : List ℕ) → all is_address ss ≡ true → all is_octet b ≡ true → all (λ p. typed (receive (single_call a.time [] p))) (packets_in b ns ss is) ≡ true
    go b [] ss is hs hb = refl
    go b (n ∷ ns) [] is hs hb = refl
    go b (n ∷ ns) (s ∷ ss) [] hs hb = refl
    go b (n ∷ ns) (s ∷ ss) (i ∷ is) hs hb =
        both (both (and_left (is_address s) (all is_address ss) hs) (both (all_take is_octet n b hb) (both (and_at (burst_types a) t 2) refl)))
        (go (drop n b) ns ss is (and_right (is_address s) (all is_address ss) hs) (all_drop is_octet n b hb))

-- a packet that is passed on has room in the output
pub copy-fits : (W : Reading) (cells : ℕ) (s : StateOf W) (r : ReceiveArgs) → number_of (step W cells s (receive r)).reply.answer ≡ 26 → length r.packet ≤ length r.output
unfolding facts
copy-fits W cells s r e = go (first_of (facts W cells s (receive r))) refl
  where
    go : (x : Option Fault) → first_of (facts W cells s (receive r)) ≡ x → length r.packet ≤ length r.output
    go none n = ltb-false (length r.output) (length r.packet) (not-given _ 4 (none-at (facts W cells s (receive r)) n 2))
    go (some f) n =
        let x = exactly W cells s (receive r) in
        let number : f.number ≡ 26 = sym (ap (λ (o : OutcomeOf W). number_of o.reply.answer) (x.refused f n) ∙ refusal-number (receive r) f) ∙ e in
        absurd (true≢false (sym (x.numbers f n) ∙ ap is_rule_refusal number))
