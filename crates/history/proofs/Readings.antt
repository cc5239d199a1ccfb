-- Two readings that agree under a map give the same replies for every history, and the map leads from one end to the other.
-- This file knows the rules, and nothing of windows, marks, distances or octets.
use Prim.Native.Nat.{ℕ, ◌-◌}
use mathlib.Core.Path.{◌≡◌, refl, sym, ap, ◌∙◌, subst}
use mathlib.Core.Bool.{Bool, true, false, cond, ◌&&◌, not}
use mathlib.Core.Option.{Option, none, some, map}
use mathlib.Core.List.{List, [], ◌∷◌, ◌++◌}
use lib.Dec.{ltb, eqb}
use lib.ListN.{length}
use borrow.Author.Tests.{not-false}
use Rattle.lists.specs.Lists.{maybe, keep}
use Rattle.lists.specs.Keyed.{lookup, put, map_values}
use Rattle.lists.proofs.Tests.{cond_ap, maybe-map}
use Rattle.lists.proofs.Lists.{keep-map, keep_same, all_true, map-map, map_same}
use Rattle.lists.proofs.Keyed.{lookup-map_values, length-map_values, put-map_values}
use Rattle.wire.specs.declared.Header.{Header}
use Rattle.wire.specs.declared.Fault.{Fault}
use Rattle.wire.specs.Packet.{header}
use Rattle.wire.specs.Check.{first_of}
use Rattle.rules.specs.Settings.{link_most, entry_most, Config, config_of, allowed, make_allowed}
use Rattle.rules.specs.Calls.{Call, make, receive, burst, own, sweep, question, list, locate, ReceiveArgs, BurstArgs, packets_of, single_call, Reply}
use Rattle.rules.specs.Messages.{Message}
use Rattle.rules.specs.Rules.{sequence_of, Sends, send_on, Reading, StateOf, OutcomeOf, unless, receive_faults, link_by, message, is_stale, is_duplicate, refuse, route_of, link_rows, answer_best, fill_rows, entries_held, answer_locate, Each, burst_reply, receive_on, burst_on, take_burst, send, is_expired, purge, step}
use Rattle.rules.specs.Lookup.{serving}
use Rattle.rules.specs.Refusals.{Questions, found, questions, counted_record, would_count, room_facts, state_then, record_then, would_pass, taken, facts, outcome}
use Rattle.rules.proofs.Faults.{none-at, not-given}
use Rattle.rules.proofs.Config.{make-allowed}
use Rattle.rules.proofs.Sends.{Fit}
use Rattle.rules.proofs.Exactly.{flat, counts}
use Rattle.rules.proofs.Bursts.{in_state, each_alike}
use Rattle.history.specs.History.{after, replies}
use Rattle.history.proofs.Sound.{Keeps, Sound, one_sound, step_sound}

-- f and g take the parts of B to those of T, and each word with them, under κ
pub record Agree (B T : Reading) (f : Config → B.Record → T.Record) (g : Config → Sends → B.Rows → T.Rows) (κ : Config) : Type 0 where
  pub first : (m : Message) → T.first κ m ≡ f κ (B.first κ m)
  -- of a message that is not stale: no other is counted
  pub next : (m : Message) (a : B.Record) → B.stale κ a (sequence_of m) ≡ false → T.next κ m (f κ a) ≡ f κ (B.next κ m a)
  pub time : (a : B.Record) → T.time (f κ a) ≡ B.time a
  pub last_ttl : (a : B.Record) → T.last_ttl (f κ a) ≡ B.last_ttl a
  pub stale : (a : B.Record) (m : Message) → T.stale κ (f κ a) (sequence_of m) ≡ B.stale κ a (sequence_of m)
  pub duplicate : (a : B.Record) (m : Message) → T.duplicate κ (f κ a) m.link (sequence_of m) ≡ B.duplicate κ a m.link (sequence_of m)
  pub best : (a : B.Record) → T.best κ (f κ a) ≡ B.best κ a
  pub is_best : (a : B.Record) (l : ℕ) → T.is_best κ (f κ a) l ≡ B.is_best κ a l
  pub links : (a : B.Record) → T.links κ (f κ a) ≡ B.links κ a
  pub entries : (a : B.Record) → T.entries κ (f κ a) ≡ B.entries κ a
  pub no_rows : (ns : Sends) → T.no_rows ≡ g κ ns B.no_rows
  pub has_row : (ns : Sends) (rs : B.Rows) (l : ℕ) → T.has_row κ (g κ ns rs) l ≡ B.has_row κ rs l
  pub rows_held : (ns : Sends) (rs : B.Rows) → T.rows_held κ (g κ ns rs) ≡ B.rows_held κ rs
  pub echo : (ns : Sends) → Fit ns → (l : ℕ) (rs : B.Rows) → T.echo κ ns l (g κ ns rs) ≡ g κ ns (B.echo κ ns l rs)
  pub sent : (ns : Sends) → Fit ns → (i : ℕ) (rs : B.Rows) → T.sent κ (send_on κ ns i) i (g κ ns rs) ≡ g κ (send_on κ ns i) (B.sent κ (send_on κ ns i) i rs)

module _ (B T : Reading) (f : Config → B.Record → T.Record) (g : Config → Sends → B.Rows → T.Rows) where
  abbrev pub image : StateOf B → StateOf T
  image s =
      record {
        config = s.config;
        time = s.time;
        sends = s.sends;
        rows = g s.config s.sends s.rows;
        records = map_values (f s.config) s.records;
      }

  abbrev pub image_of : OutcomeOf B → OutcomeOf T
  image_of o = record { reply = o.reply; state = image o.state }

-- ---- one call, on a state s of B

module _ (B T : Reading) (f : Config → B.Record → T.Record) (g : Config → Sends → B.Rows → T.Rows) (s : StateOf B) (A : Agree B T f g s.config) (fit : Fit s.sends) where
  abbrev κ : Config
  κ = s.config

  abbrev s' : StateOf T
  s' = image B T f g s

  route-same : (x : Option B.Record) → route_of T κ (map (f κ) x) ≡ route_of B κ x
  route-same none = refl
  route-same (some a) = rw (A.links a, A.best a)

  rows_same : (x : Option B.Record) → link_rows T κ (map (f κ) x) ≡ link_rows B κ x
  rows_same none = refl
  rows_same (some a) = rw (A.links a) (simp A.is_best)

  entries-same : entries_held T s' ≡ entries_held B s
  entries-same =
      map-map (λ (e : ℕ × B.Record). (e.0, f κ e.1)) (λ (e : ℕ × T.Record). (e.0, T.entries κ e.1)) s.records
      ∙ map_same _ _ (λ e. ap (λ (l : List ℕ). (e.0, l)) (A.entries e.1)) s.records

  -- a test of records keeps the same ones
  kept_same : (p : T.Record → Bool) (q : B.Record → Bool) → ((a : B.Record) → p (f κ a) ≡ q a)
      → keep (λ (e : ℕ × T.Record). p e.1) s'.records ≡ map_values (f κ) (keep (λ (e : ℕ × B.Record). q e.1) s.records)
  kept_same p q h =
      keep-map (λ (e : ℕ × B.Record). (e.0, f κ e.1)) (λ (e : ℕ × T.Record). p e.1) s.records
      ∙ ap (map_values (f κ)) (keep_same (λ (e : ℕ × B.Record). p (f κ e.1)) (λ (e : ℕ × B.Record). q e.1) (λ e. h e.1) s.records)

  expired_same : (t : ℕ) (a : B.Record) → is_expired T κ t (f κ a) ≡ is_expired B κ t a
  expired_same t a = ap (λ n. ltb κ.settings.purge (t - n)) (A.time a)

  -- a received packet
  module _ (r : ReceiveArgs) (h : Header) where
    found-same : found T s' r h ≡ map (f κ) (found B s r h)
    found-same = lookup-map_values (f κ) h.originator s.records

    -- a question of the originator's record, if one is held
    asked-same : (p : T.Record → Bool) (q : B.Record → Bool) → ((a : B.Record) → p (f κ a) ≡ q a) → maybe (found T s' r h) false p ≡ maybe (found B s r h) false q
    asked-same p q same = ap (λ (x : Option T.Record). maybe x false p) found-same ∙ go (found B s r h)
      where
        go : (x : Option B.Record) → maybe (map (f κ) x) false p ≡ maybe x false q
        go none = refl
        go (some a) = same a

    stale-same : is_stale T κ r h (found T s' r h) ≡ is_stale B κ r h (found B s r h)
    stale-same = asked-same _ _ (λ a. A.stale a (message r h))

    duplicate-same : is_duplicate T κ r h (found T s' r h) ≡ is_duplicate B κ r h (found B s r h)
    duplicate-same = asked-same _ _ (λ a. A.duplicate a (message r h))

    ttl-same : maybe (found T s' r h) false (λ a. eqb h.ttl (T.last_ttl a)) ≡ maybe (found B s r h) false (λ a. eqb h.ttl (B.last_ttl a))
    ttl-same = asked-same _ _ (λ a. ap (eqb h.ttl) (A.last_ttl a))

    questions-same : questions T s' r h ≡ questions B s r h
    questions-same = rw (stale-same, A.has_row s.sends s.rows (link_by r), duplicate-same, ttl-same)

    counted_same : is_stale B κ r h (found B s r h) ≡ false → counted_record T s' r h ≡ f κ (counted_record B s r h)
    counted_same timely = ap (λ (x : Option T.Record). maybe x (T.first κ (message r h)) (λ a. T.next κ (message r h) a)) found-same ∙ go (found B s r h) timely
      where
        go : (x : Option B.Record) → is_stale B κ r h x ≡ false
            → maybe (map (f κ) x) (T.first κ (message r h)) (λ a. T.next κ (message r h) a) ≡ f κ (maybe x (B.first κ (message r h)) (λ a. B.next κ (message r h) a))
        go none t = A.first (message r h)
        go (some a) t = A.next (message r h) a t

    -- what is asked
    abbrev q : Questions
    q = questions B s r h

    -- what is so where the packet isn't counted, and where it is, by the record that counting leaves, is so
    by_count : (P : Bool → T.Record → Type 0) → ((x : T.Record) → P false x) → P true (f κ (counted_record B s r h)) → P (would_count B s r h q) (counted_record T s' r h)
    by_count P uncounted counted = go (would_count B s r h q) refl
      where
        go : (t : Bool) → would_count B s r h q ≡ t → P t (counted_record T s' r h)
        go true e = subst (P true) (sym (counted_same (counts B s r h q e).timely)) counted
        go false e = uncounted (counted_record T s' r h)

    fact_same : (φ : T.Record → Bool) {t : Bool} → φ (f κ (counted_record B s r h)) ≡ t → (would_count B s r h q && φ (counted_record T s' r h)) ≡ (would_count B s r h q && t)
    fact_same φ {t} e = by_count (λ u x. (u && φ x) ≡ (u && t)) (λ x. refl) e

    room-same : room_facts T s' r h q ≡ room_facts B s r h q
    room-same =
        rw (
          A.rows_held s.sends s.rows,
          fact_same (λ x. ltb link_most (length (T.links κ x))) (ap (λ (ls : List (ℕ × ℕ)). ltb link_most (length ls)) (A.links (counted_record B s r h))),
          fact_same (λ x. ltb entry_most (length (T.entries κ x))) (ap (λ (es : List ℕ). ltb entry_most (length es)) (A.entries (counted_record B s r h))),
          found-same,
          maybe-map,
          length-map_values,
        )

    records-same : (state_then T s' r h q).records ≡ map_values (f κ) (state_then B s r h q).records
    records-same =
        by_count (λ t x. cond t (put h.originator x s'.records) s'.records ≡ map_values (f κ) (cond t (put h.originator (counted_record B s r h) s.records) s.records))
        (λ x. refl)
        (put-map_values (f κ) h.originator (counted_record B s r h) s.records)

    state-same : state_then T s' r h q ≡ image B T f g (state_then B s r h q)
    state-same = rw (A.echo s.sends fit (link_by r) s.rows, records-same, ← cond_ap (g κ s.sends))

    then_same : record_then T s' r h q ≡ map (f κ) (record_then B s r h q)
    then_same = ap (lookup h.originator) records-same ∙ lookup-map_values (f κ) h.originator (state_then B s r h q).records

    pass_same : would_pass T s' r h q ≡ would_pass B s r h q
    pass_same = rw then_same (simp (maybe-map, A.is_best))

    taken-same : taken T s' r h q ≡ image_of B T f g (taken B s r h q)
    taken-same = rw (pass_same, then_same, route-same (record_then B s r h q), state-same)

  facts-same : (cells : ℕ) (c : Call) → facts T cells s' c ≡ facts B cells s c
  unfolding facts
  facts-same cells (make a) = refl
  facts-same cells (receive r) =
      let h = header r.packet in
      ap (λ (fs : List (Option Fault)). receive_faults κ s.time r ++ fs) (ap (room_facts T s' r h) (questions-same r h) ∙ room-same r h)
  facts-same cells (burst a) = refl
  facts-same cells (own a) = refl
  facts-same cells (sweep t) = refl
  facts-same cells (question o) = refl
  facts-same cells (locate a) = refl
  facts-same cells (list o lent) = rw (lookup-map_values (f κ) o s.records, rows_same (lookup o s.records))

-- of states of B whose records all have a property
module _ (B T : Reading) (f : Config → B.Record → T.Record) (g : Config → Sends → B.Rows → T.Rows) (agree : (κ : Config) → allowed κ ≡ true → Agree B T f g κ) (P : Config → B.Record → Bool) (K : Keeps B P) (cells : ℕ) where
  -- a call, by its outcome
  step_by : (s : StateOf B) → Sound B P s → (c : Call) → (first_of (facts B cells s c) ≡ none → outcome T cells (image B T f g s) c ≡ image_of B T f g (outcome B cells s c))
      → step T cells (image B T f g s) c ≡ image_of B T f g (step B cells s c)
  unfolding unless
  step_by s p c same =
      flat T cells (image B T f g s) c
      ∙ ap (λ (fs : List (Option Fault)). unless (first_of fs) (refuse T c (image B T f g s)) (outcome T cells (image B T f g s) c)) (facts-same B T f g s (agree s.config p.allowed) p.fit cells c)
      ∙ go (first_of (facts B cells s c)) same
      ∙ ap (image_of B T f g) (sym (flat B cells s c))
    where
      go : (x : Option Fault) → (x ≡ none → outcome T cells (image B T f g s) c ≡ image_of B T f g (outcome B cells s c))
          → unless x (refuse T c (image B T f g s)) (outcome T cells (image B T f g s) c) ≡ image_of B T f g (unless x (refuse B c s) (outcome B cells s c))
      go none h = h refl
      go (some e) h = refl

  received-same : (s : StateOf B) → Sound B P s → (r : ReceiveArgs) → outcome T cells (image B T f g s) (receive r) ≡ image_of B T f g (outcome B cells s (receive r))
  unfolding outcome
  received-same s p r =
      let A = agree s.config p.allowed in
      let h = header r.packet in
      ap (taken T (image B T f g s) r h) (questions-same B T f g s A p.fit r h) ∙ taken-same B T f g s A p.fit r h

  -- a packet of a burst is a single call
  one_same : (s : StateOf B) → Sound B P s → (r : ReceiveArgs) → receive_on T (image B T f g s) r ≡ image_of B T f g (receive_on B s r)
  unfolding step
  one_same s p r = step_by s p (receive r) (λ n. received-same s p r)

  burst-same : (s : StateOf B) → Sound B P s → (a : BurstArgs) → burst_on T (image B T f g s) a ≡ in_state (image B T f g) (burst_on B s a)
  burst-same s p a =
      each_alike _ (Sound B P) a.time (λ _. true) (image B T f g) _
      (λ x o q h y. let r = single_call a.time o q in (ap (λ (z : OutcomeOf T). (z.reply, z.state)) (one_same x y r), one_sound B P K x y r))
      (packets_of a) (all_true (λ _. true) (λ _. refl) (packets_of a)) s a.output p

  outcome-same : (s : StateOf B) → Sound B P s → (c : Call) → first_of (facts B cells s c) ≡ none
      → outcome T cells (image B T f g s) c ≡ image_of B T f g (outcome B cells s c)
  unfolding facts outcome take_burst send purge answer_best fill_rows answer_locate
  outcome-same s p (make a) n =
      let h = make-allowed cells a (not-false (make_allowed cells a) (not-given (not (make_allowed cells a)) 12 (none-at (facts B cells s (make a)) n 0))) in
      rw ((agree (config_of a) h).no_rows [])
  outcome-same s p (receive r) n = received-same s p r
  outcome-same s p (burst a) n = ap (λ (x : Each (StateOf T)). record { reply = burst_reply a.answers x; state = x.state }) (burst-same s p a)
  outcome-same s p (own a) n = rw ((agree s.config p.allowed).sent s.sends p.fit a.interface s.rows)
  outcome-same s p (sweep t) n =
      let A = agree s.config p.allowed in
      let e = expired_same B T f g s A p.fit t in
      rw (
        kept_same B T f g s A p.fit (is_expired T s.config t) (is_expired B s.config t) e,
        kept_same B T f g s A p.fit (λ a. not (is_expired T s.config t a)) (λ a. not (is_expired B s.config t a)) (λ a. ap not (e a)),
        length-map_values,
      )
  outcome-same s p (question o) n =
      rw (lookup-map_values (f s.config) o s.records, route-same B T f g s (agree s.config p.allowed) p.fit (lookup o s.records))
  outcome-same s p (locate a) n =
      ap (λ (es : List (ℕ × List ℕ)). answer_locate T (image B T f g s) (serving a es)) (entries-same B T f g s (agree s.config p.allowed) p.fit)
  outcome-same s p (list o lent) n =
      rw (lookup-map_values (f s.config) o s.records, rows_same B T f g s (agree s.config p.allowed) p.fit (lookup o s.records))

  step_same : (s : StateOf B) → Sound B P s → (c : Call) → step T cells (image B T f g s) c ≡ image_of B T f g (step B cells s c)
  step_same s p c = step_by s p c (outcome-same s p c)

  -- for every history: equal replies, and the map leads from one end to the other
  pub history-same : (s : StateOf B) → Sound B P s → (cs : List Call)
      → (replies T cells (image B T f g s) cs ≡ replies B cells s cs) × (after T cells (image B T f g s) cs ≡ image B T f g (after B cells s cs))
  unfolding replies after
  history-same s p [] = (refl, refl)
  history-same s p (c ∷ cs) =
      let e = step_same s p c in
      let r = history-same (step B cells s c).state (step_sound B P K cells s p c) cs in (
        ap (λ (o : OutcomeOf T). o.reply ∷ replies T cells o.state cs) e ∙ ap (λ (l : List Reply). (step B cells s c).reply ∷ l) r.0,
        ap (λ (o : OutcomeOf T). after T cells o.state cs) e ∙ r.1,
      )
