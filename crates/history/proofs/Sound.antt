-- What every state of a history has, whatever its reading, and every record of it.
use Prim.Native.Nat.{ℕ}
use mathlib.Core.Path.{◌≡◌, refl}
use mathlib.Core.Bool.{Bool, true, false, not}
use mathlib.Core.Option.{Option, none, some}
use mathlib.Core.List.{List, [], ◌∷◌}
use borrow.Author.Tests.{not-false}
use Rattle.lists.specs.Lists.{maybe, all}
use Rattle.lists.proofs.Tests.{by_test}
use Rattle.lists.proofs.Lists.{all_true, all-kept}
use Rattle.lists.proofs.Keyed.{lookup-all, all-put}
use Rattle.lists.proofs.Rising.{Rising, rising-keep, rising-put}
use Rattle.wire.specs.declared.Header.{Header}
use Rattle.wire.specs.Packet.{header}
use Rattle.wire.specs.Check.{first_of}
use Rattle.rules.specs.Settings.{Config, config_of, allowed, make_allowed}
use Rattle.rules.specs.Calls.{ReceiveArgs, single_call, packets_of, Call, make, receive, burst, own, sweep, question, list, locate}
use Rattle.rules.specs.Messages.{Message}
use Rattle.rules.specs.Rules.{sequence_of, Reading, StateOf, message, is_stale, fresh, receive_on, take_burst, is_expired, send, purge, answer_best, fill_rows, answer_locate, step}
use Rattle.rules.specs.Refusals.{found, questions, counted_record, would_count, facts, outcome}
use Rattle.rules.proofs.Faults.{none-at, not-given}
use Rattle.rules.proofs.Config.{make-allowed}
use Rattle.rules.proofs.Sends.{Fit, fit-send_on}
use Rattle.rules.proofs.Exactly.{step_keeps, counts}
use Rattle.rules.proofs.Bursts.{each_keeps}
use Rattle.history.specs.History.{after}

-- a property that the first counted message gives a record, and a further one that is not stale leaves it
pub record Keeps (W : Reading) (P : Config → W.Record → Bool) : Type 0 where
  pub first : (κ : Config) (m : Message) → P κ (W.first κ m) ≡ true
  pub next : (κ : Config) (m : Message) (a : W.Record) → P κ a ≡ true → W.stale κ a (sequence_of m) ≡ false → P κ (W.next κ m a) ≡ true

-- P is a property that every record has
pub record Sound (W : Reading) (P : Config → W.Record → Bool) (s : StateOf W) : Type 0 where
  pub allowed : allowed s.config ≡ true
  pub fit : Fit s.sends
  pub rise : Rising s.records
  pub each : all (λ e. P s.config e.1) s.records ≡ true

module _ (W : Reading) (P : Config → W.Record → Bool) (K : Keeps W P) where
  pub fresh_sound : (κ : Config) → allowed κ ≡ true → Sound W P (fresh W κ)
  fresh_sound κ h = record { allowed = h; fit = refl; rise = tt; each = refl }

  module _ (s : StateOf W) (p : Sound W P s) (r : ReceiveArgs) where
    abbrev h : Header
    h = header r.packet

    -- the record that counting leaves
    counted-each : would_count W s r h (questions W s r h) ≡ true → P s.config (counted_record W s r h) ≡ true
    counted-each e = go (found W s r h) refl (counts W s r h (questions W s r h) e).timely
      where
        go : (x : Option W.Record) → found W s r h ≡ x → is_stale W s.config r h x ≡ false
            → P s.config (maybe x (W.first s.config (message r h)) (λ a. W.next s.config (message r h) a)) ≡ true
        go none d t = K.first s.config (message r h)
        go (some a) d t = K.next s.config (message r h) a (lookup-all (λ x. P s.config x.1) h.originator a s.records p.each d) t

    received_sound : Sound W P (outcome W 0 s (receive r)).state
    unfolding outcome
    received_sound =
        let o = h.originator in
        let a = counted_record W s r h in
        let counted = would_count W s r h (questions W s r h) in
        record {
          allowed = p.allowed;
          fit = p.fit;
          rise = by_test Rising counted (λ _. rising-put o a s.records p.rise) (λ _. p.rise);
          each = by_test (λ (es : List (ℕ × W.Record)). all (λ e. P s.config e.1) es ≡ true) counted (λ e. all-put (λ x. P s.config x.1) o a s.records (counted-each e) p.each) (λ _. p.each);
        }

  pub one_sound : (s : StateOf W) → Sound W P s → (r : ReceiveArgs) → Sound W P (receive_on W s r).state
  unfolding step
  one_sound s p r = step_keeps W 0 (Sound W P) s (receive r) p (λ n. received_sound s p r)

  module _ (cells : ℕ) where
    taken_sound : (s : StateOf W) → Sound W P s → (c : Call) → first_of (facts W cells s c) ≡ none → Sound W P (outcome W cells s c).state
    unfolding facts outcome take_burst send purge answer_best fill_rows answer_locate
    taken_sound s p (make a) n = fresh_sound (config_of a) (make-allowed cells a (not-false (make_allowed cells a) (not-given (not (make_allowed cells a)) 12 (none-at (facts W cells s (make a)) n 0))))
    taken_sound s p (receive r) n = received_sound s p r
    taken_sound s p (burst a) n = each_keeps _ (Sound W P) a.time (λ _. true) (λ x o q h y. one_sound x y (single_call a.time o q)) (packets_of a) (all_true (λ _. true) (λ _. refl) (packets_of a)) s a.output p
    taken_sound s p (own a) n = record { allowed = p.allowed; fit = fit-send_on s.config p.allowed s.sends a.interface p.fit; rise = p.rise; each = p.each }
    taken_sound s p (sweep t) n =
        let stays : ℕ × W.Record → Bool = λ e. not (is_expired W s.config t e.1) in
        record { allowed = p.allowed; fit = p.fit; rise = rising-keep stays s.records p.rise; each = all-kept (λ e. P s.config e.1) stays s.records p.each }
    taken_sound s p (question o) n = p
    taken_sound s p (list o lent) n = p
    taken_sound s p (locate a) n = p

    pub step_sound : (s : StateOf W) → Sound W P s → (c : Call) → Sound W P (step W cells s c).state
    step_sound s p c = step_keeps W cells (Sound W P) s c p (taken_sound s p c)

    pub after_sound : (s : StateOf W) → Sound W P s → (cs : List Call) → Sound W P (after W cells s cs)
    unfolding after
    after_sound s p [] = p
    after_sound s p (c ∷ cs) = after_sound (step W cells s c).state (step_sound s p c) cs
