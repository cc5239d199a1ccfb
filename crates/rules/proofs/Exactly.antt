-- The rules, step by step, come to what the tables of RULES 6.1 and 8.2 say: each refusal is given exactly when its fact holds and none earlier does.
use Prim.Native.Nat.{ℕ, ◌+◌}
use mathlib.Core.Path.{◌≡◌, refl, sym, ap, ◌∙◌, subst}
use mathlib.Core.Bool.{Bool, true, false, cond, ◌&&◌, not, true≢false, false≢true}
use mathlib.Core.Option.{Option, none, some}
use mathlib.Core.List.{List, [], ◌∷◌}
use lib.Dec.{ltb, leb, eqb}
use lib.ListN.{length}
use borrow.Author.Tests.{not-true, ne_eqb}
use Rattle.lists.specs.Lists.{maybe, all, written_to}
use Rattle.lists.specs.Keyed.{lookup, put}
use Rattle.lists.proofs.Tests.{by_test, both, and_left, and_right}
use Rattle.lists.proofs.Keyed.{lookup-put}
use Rattle.wire.specs.declared.Header.{Header}
use Rattle.wire.specs.declared.Fault.{Fault}
use Rattle.wire.specs.Layout.{header_size}
use Rattle.wire.specs.Packet.{header}
use Rattle.wire.specs.Check.{given, first_of}
use Rattle.wire.specs.PassOn.{flags_here, flags_elsewhere, passed_on}
use Rattle.wire.proofs.Laws.{reads_back}
use Rattle.rules.specs.declared.Route.{Route}
use Rattle.rules.specs.Settings.{neighbour_most, link_most, entry_most, ttl_least, make_allowed, is_in_use}
use Rattle.rules.specs.Calls.{received, ReceiveArgs, Call, make, receive, burst, own, sweep, question, list, locate, number_of, is_refusal, is_rule_refusal, received_as, Reply, answered_writing, refusal}
use Rattle.rules.specs.Rules.{Reading, StateOf, OutcomeOf, branch, unless, receive_faults, receive_fault, burst_fits, own_fault, link_by, single_hop, message, conclude, own_header, with_time, with_records, route_of, link_rows, is_passed_on, refuse, answer_best, fill_rows, verdict, counted_faults, store_counted, counted, uncounted, decide, take_echo, judge, take_burst, send, purge, located_by, entries_held, answer_locate, step}
use Rattle.rules.specs.Lookup.{Announced, serving}
use Rattle.rules.specs.Refusals.{first_that, Questions, found, questions, counted_record, foreign, would_echo, would_count, room_facts, verdicts, taken, facts, outcome, Exactly}
use Rattle.rules.proofs.Faults.{first-append, first-single, unless_then, numbered, first-numbered, given-numbered, packet-numbered, written-numbered}

-- the way of a test, with what the test says
either : {A : Type 0} (t : Bool) {x y z : A} → (t ≡ true → x ≡ z) → (t ≡ false → y ≡ z) → branch t x y ≡ z
unfolding branch
either true p q = p refl
either false p q = q refl

-- ---- a received packet

-- what is so of one that would be counted
pub record Counts (q : Questions) : Type 0 where
  pub other : q.own_originator ≡ false
  pub timely : q.stale ≡ false
  pub bidirectional : q.bidirectional ≡ true
  pub unrepeated : q.duplicate ≡ false

pub counts : (W : Reading) (s : StateOf W) (r : ReceiveArgs) (h : Header) (q : Questions) → would_count W s r h q ≡ true → Counts q
counts W s r h q e =
    let both-ask = q.bidirectional && not q.duplicate in
    let in-time = not q.stale && both-ask in
    let no-u = not q.unidirectional && in-time in
    let x = and_right (foreign W s r h q) (not q.own_originator && no-u) e in
    let y = and_right (not q.unidirectional) in-time (and_right (not q.own_originator) no-u x) in
    let z = and_right (not q.stale) both-ask y in
    record {
      other = not-true q.own_originator (and_left (not q.own_originator) no-u x);
      timely = not-true q.stale (and_left (not q.stale) both-ask y);
      bidirectional = and_left q.bidirectional (not q.duplicate) z;
      unrepeated = not-true q.duplicate (and_right q.bidirectional (not q.duplicate) z);
    }

module _ (W : Reading) (s : StateOf W) (r : ReceiveArgs) (h : Header) where
  -- what RULES 6 says of it, by the answers to its questions
  abbrev page : (a b o e u t k d f : Bool) → OutcomeOf W
  page a b o e u t k d f =
      let q : Questions = record { own_sender = a; broadcast_sender = b; own_originator = o; echo = e; unidirectional = u; stale = t; bidirectional = k; duplicate = d; fresh = f } in
      unless (first_of (room_facts W s r h q)) (refuse W (receive r) s) (taken W s r h q)

  -- of a packet that comes so far that counting and passing on are asked
  abbrev last : (k d f : Bool) → OutcomeOf W
  last k d f = page false false false false false false k d f

  -- verdicts 25 and 26 by one number
  abbrev replied : (k t : Bool) → Route → Reply
  replied k t x =
      answered_writing (received (received_as (cond t 26 25) 0 (cond (eqb (cond t 26 25) 26) (flags_elsewhere h.flags) 0) x))
      (cond (eqb (cond t 26 25) 26) (written_to (passed_on (flags_here (single_hop r h) k h.flags) r.packet) r.output) r.output)

  concluded : (k t : Bool) (x : Route) → conclude r h k t x ≡ replied k t x
  unfolding conclude
  concluded k true x = refl
  concluded k false x = refl

  -- the record a takes its place, unless it has too many links or entries
  stored : (f : Bool) (a : W.Record)
      → store_counted W s r h f a ≡ unless (first_of (counted_faults W s.config a)) (refuse W (receive r) s) (record { reply = replied true (is_passed_on W s.config r h true f (some a)) (route_of W s.config (some a)); state = with_records W s r.time (put h.originator a s.records) })
  unfolding store_counted
  stored f a = rw concluded

  counted-flat : (f : Bool) (x : Option W.Record) → found W s r h ≡ x → counted W s r h f x ≡ last true false f
  unfolding counted
  counted-flat f none e =
      rw (lookup-put h.originator (counted_record W s r h) s.records, e)
      (ap (unless (given (leb s.config.settings.capacity (length s.records)) 10) (refuse W (receive r) s)) (stored f (W.first s.config (message r h))) ∙ unless_then _ _ _ _)
  counted-flat f (some a) e = rw (lookup-put h.originator (counted_record W s r h) s.records, e) (stored f (W.next s.config (message r h) a))

  uncounted-flat : (k f : Bool)
      → uncounted W s r h k f (found W s r h) ≡ record { reply = replied k (is_passed_on W s.config r h k f (found W s r h)) (route_of W s.config (found W s r h)); state = with_time W s r.time }
  unfolding uncounted
  uncounted-flat k f = rw concluded

  decide-flat : (k d f : Bool) → branch (k && not d) (counted W s r h f (found W s r h)) (uncounted W s r h k f (found W s r h)) ≡ last k d f
  unfolding branch unless
  decide-flat true true f = uncounted-flat true f
  decide-flat true false f = counted-flat f (found W s r h) refl
  decide-flat false d f = uncounted-flat false f

  echo-flat : (u t d f : Bool) → take_echo W s r h ≡ page false false true true u t (W.has_row s.config s.rows (link_by r)) d f
  unfolding take_echo verdict
  echo-flat u t d f =
      rw (first-single (given (not (W.has_row s.config s.rows (link_by r)) && leb neighbour_most (W.rows_held s.config s.rows)) 9))

  judge-flat : judge W s r h ≡ unless (first_of (room_facts W s r h (questions W s r h))) (refuse W (receive r) s) (taken W s r h (questions W s r h))
  unfolding judge verdict decide unless
  judge-flat =
      let q = questions W s r h in
      either q.own_sender (λ a. rw a)
      (λ a. either q.broadcast_sender (λ b. rw (a, b))
      (λ b. either q.own_originator
      (λ o. either q.echo (λ e. rw (a, b, o, e) (echo-flat q.unidirectional q.stale q.duplicate q.fresh)) (λ e. rw (a, b, o, e)))
      (λ o. either q.unidirectional (λ u. rw (a, b, o, u))
      (λ u. either q.stale (λ t. rw (a, b, o, u, t)) (λ t. rw (a, b, o, u, t) (decide-flat q.bidirectional q.duplicate q.fresh))))))

-- ---- every call

-- of a list whose numbers all pass a test, the first whose fact holds passes
first_passes : (p : ℕ → Bool) (es : List (Bool × ℕ)) (n : ℕ) → all (λ e. p e.1) es ≡ true → p n ≡ true → p (first_that es n) ≡ true
first_passes p [] n h g = g
first_passes p (e ∷ es) n h g =
    by_test (λ m. p m ≡ true) e.0 (λ _. and_left (p e.1) (all (λ x. p x.1) es) h) (λ _. first_passes p es n (and_right (p e.1) (all (λ x. p x.1) es) h) g)

module _ (W : Reading) (cells : ℕ) (s : StateOf W) where
  pub flat : (c : Call) → step W cells s c ≡ unless (first_of (facts W cells s c)) (refuse W c s) (outcome W cells s c)
  unfolding step facts outcome receive_fault own_fault unless
  flat (make a) = rw first-single
  flat (receive r) =
      let h = header r.packet in
      rw (judge-flat W s r h, unless_then, first-append (receive_faults s.config s.time r) (room_facts W s r h (questions W s r h)))
  flat (burst a) = rw first-single
  flat (own a) = rw (reads_back (own_header s.config s.sends a) a.hna).size
  flat (sweep t) = rw first-single
  flat (question o) = refl
  flat (locate a) = refl
  flat (list o lent) = rw first-single

module _ (W : Reading) (cells : ℕ) (s : StateOf W) where
  facts-numbered : (c : Call) → all numbered (facts W cells s c) ≡ true
  unfolding facts
  facts-numbered (make a) = both (given-numbered (not (make_allowed cells a)) 12 refl) refl
  facts-numbered (receive r) =
      let h = header r.packet in
      let q = questions W s r h in
      both (given-numbered (not (is_in_use s.config r.interface)) 2 refl)
      (both (given-numbered (ltb r.time s.time) 3 refl)
      (both (given-numbered (ltb (length r.output) (length r.packet)) 4 refl)
      (both (packet-numbered s.config.settings.version r.packet)
      (both (given-numbered (would_echo W s r h q && (not q.bidirectional && leb neighbour_most (W.rows_held s.config s.rows))) 9 refl)
      (both (given-numbered (would_count W s r h q && (maybe (found W s r h) true (λ a. false) && leb s.config.settings.capacity (length s.records))) 10 refl)
      (both (given-numbered (would_count W s r h q && ltb link_most (length (W.links s.config (counted_record W s r h)))) 11 refl)
      (both (given-numbered (would_count W s r h q && ltb entry_most (length (W.entries s.config (counted_record W s r h)))) 15 refl) refl)))))))
  facts-numbered (burst a) = both (given-numbered (not (burst_fits a)) 14 refl) refl
  facts-numbered (own a) =
      both (given-numbered (not (is_in_use s.config a.interface)) 2 refl)
      (both (given-numbered (ltb a.time s.time) 3 refl)
      (both (given-numbered (ltb (length a.output) (header_size + length a.hna)) 4 refl)
      (both (written-numbered a.hna)
      (both (given-numbered (ltb a.ttl ttl_least) 13 refl) refl))))
  facts-numbered (sweep t) = both (given-numbered (ltb t s.time) 3 refl) refl
  facts-numbered (question o) = refl
  facts-numbered (locate a) = refl
  facts-numbered (list o lent) = both (given-numbered (ltb (length lent) (length (link_rows W s.config (lookup o s.records)))) 4 refl) refl

pub exactly : (W : Reading) (cells : ℕ) (s : StateOf W) (c : Call) → Exactly W cells s c
unfolding unless outcome take_burst send purge answer_best fill_rows answer_locate
exactly W cells s c =
    record {
      refused = λ f e. flat W cells s c ∙ ap (λ x. unless x (refuse W c s) (outcome W cells s c)) e;
      numbers = λ f e. sym (ap numbered e) ∙ first-numbered (facts W cells s c) (facts-numbered W cells s c);
      accepted = λ e. flat W cells s c ∙ ap (λ x. unless x (refuse W c s) (outcome W cells s c)) e;
      no_refusal = number c;
    }
  where
    number : (c : Call) → is_refusal (number_of (outcome W cells s c).reply.answer) ≡ false
    number (make a) = refl
    number (receive r) =
        let h = header r.packet in
        let vs = verdicts W s r h (questions W s r h) in
        not-true (is_refusal (first_that vs 25)) (first_passes (λ n. not (is_refusal n)) vs 25 refl refl)
    number (burst a) = refl
    number (own a) = refl
    number (sweep t) = refl
    number (question o) = refl
    number (locate a) = found_number (serving a (entries_held W s))
      where
        found_number : (x : Option Announced) → is_refusal (number_of (located_by x).answer) ≡ false
        found_number none = refl
        found_number (some y) = refl
    number (list o lent) = refl

pub refusal-number : (c : Call) (f : Fault) → number_of (refusal c f).answer ≡ f.number
unfolding refusal
refusal-number (make a) f = refl
refusal-number (receive r) f = refl
refusal-number (burst a) f = refl
refusal-number (own a) f = refl
refusal-number (sweep t) f = refl
refusal-number (question o) f = refl
refusal-number (locate a) f = refl
refusal-number (list o lent) f = refl

-- so no call answers 1 by these rules
pub never_one_lem : (W : Reading) (cells : ℕ) (s : StateOf W) (c : Call) → eqb (number_of (step W cells s c).reply.answer) 1 ≡ false
never_one_lem W cells s c = go (first_of (facts W cells s c)) refl
  where
    x : Exactly W cells s c
    x = exactly W cells s c

    go : (o : Option Fault) → first_of (facts W cells s c) ≡ o → eqb (number_of (step W cells s c).reply.answer) 1 ≡ false
    go none e = ap (λ (o : OutcomeOf W). eqb (number_of o.reply.answer) 1) (x.accepted e) ∙ ne_eqb (number_of (outcome W cells s c).reply.answer) 1 (λ d. false≢true (sym x.no_refusal ∙ ap is_refusal d))
    go (some f) e = ap (λ (o : OutcomeOf W). eqb (number_of o.reply.answer) 1) (x.refused f e) ∙ ap (λ n. eqb n 1) (refusal-number c f) ∙ ne_eqb f.number 1 (λ d. true≢false (sym (x.numbers f e) ∙ ap is_rule_refusal d))

-- so what holds before a call, and of what it leaves where it is not refused, holds after it
pub step_keeps : (W : Reading) (cells : ℕ) (P : StateOf W → Type 0) (s : StateOf W) (c : Call) → P s
    → (first_of (facts W cells s c) ≡ none → P (outcome W cells s c).state) → P (step W cells s c).state
unfolding unless
step_keeps W cells P s c p q = subst (λ (o : OutcomeOf W). P o.state) (sym (flat W cells s c)) (go (first_of (facts W cells s c)) q)
  where
    go : (x : Option Fault) → (x ≡ none → P (outcome W cells s c).state) → P (unless x (refuse W c s) (outcome W cells s c)).state
    go none f = f refl
    go (some e) f = p
