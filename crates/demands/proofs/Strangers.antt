-- What any received packet leaves as it was: by the flat reading of the rules for a table, and so for the cells that hold it. Assumes nothing.
use Prim.Native.Nat.{ℕ, ◌+◌, ◌%◌, ◌<◌}
use mathlib.Core.Path.{◌≡◌, refl, sym, ap, ◌∙◌, subst}
use mathlib.Core.Logic.{◌⊎◌, inl, inr, ⊎_elim}
use mathlib.Core.Bool.{Bool, true, false, cond, ◌&&◌, not, true≢false}
use mathlib.Core.Option.{Option, none, some, map}
use mathlib.Core.List.{List}
use lib.Dec.{leb, eqb}
use lib.ListN.{length, set, get_or}
use lib.Seq.{set-get_or}
use native.Mathlib.Omega.{arith}
use native.Mathlib.Nat.{mod-eq_of_lt}
use borrow.Author.Tests.{ltb-true, leb-true, le-leb, eqb-true, eqb-false, ne_eqb, not-true}
use Rattle.lists.specs.Lists.{maybe, and, all}
use Rattle.lists.specs.Keyed.{lookup, put}
use Rattle.lists.proofs.Tests.{by_test, both, and_left, and_right, and_at, all-at}
use Rattle.lists.proofs.Keyed.{lookup-put, lookup-put-other, lookup-all}
use Rattle.lists.proofs.Rising.{rising_in}
use Rattle.window.specs.Window.{numbers, new, inside, stale}
use Rattle.window.proofs.Positions.{inside_old}
use Rattle.wire.specs.declared.Header.{Header}
use Rattle.wire.specs.declared.Fault.{Fault}
use Rattle.wire.specs.Layout.{sequence_at}
use Rattle.wire.specs.Packet.{octet, header, hna}
use Rattle.wire.specs.Check.{first_of}
use Rattle.wire.specs.Entries.{is_clean, entries_of}
use Rattle.wire.proofs.Entries.{all-clean}
use Rattle.rules.specs.Settings.{Config, octets, is_octet}
use Rattle.rules.specs.Messages.{Message}
use Rattle.rules.specs.Calls.{ReceiveArgs, receive, refusal, number_of, refusal_most, is_refusal, is_rule_refusal}
use Rattle.rules.specs.Rules.{OutcomeOf, link_by, message, with_time, step}
use Rattle.rules.specs.Table.{TableRecord, TableState, first_record, next_record, is_stale_in, is_marked, record_echo, table}
use Rattle.rules.specs.Refusals.{Questions, found, questions, counted_record, foreign, would_echo, would_count, state_then, verdict_then, facts, outcome, Exactly}
use Rattle.rules.specs.WellFormed.{record_tests, receive_types, typed}
use Rattle.rules.specs.WellFormed as R
use Rattle.rules.proofs.Faults.{none-at, hna-none}
use Rattle.rules.proofs.Exactly.{exactly, refusal-number, counts}
use Rattle.rules.proofs.Parts.{Entry, record_parts}
use Rattle.rules.proofs.WellFormed.{Wf, parts, well_formed-step}
use Rattle.table_layout.specs.Layout.{time_at}
use Rattle.table_layout.specs.Cells.{encode, decode, well_formed}
use Rattle.table_layout.specs.Calls.{Done, refused}
use Rattle.table_layout.proofs.Encoding.{laws}
use Rattle.table_layout.proofs.Calls.{goes_on, turned_away_lem}
use Rattle.demands.specs.Strangers.{is_marked_in, OnlyTime, said, done, number, left, Strangers}
use Rattle.demands.proofs.Marks.{Own, first_marks, next_marks}

-- ---- of a table

abbrev marked_of : TableState → (o l n : ℕ) → Bool
marked_of s o l n = maybe (lookup o s.records) false (λ x. is_marked s.config x l n)

abbrev inside_of : TableState → (o n : ℕ) → Bool
inside_of s o n = maybe (lookup o s.records) false (λ x. inside s.config.settings.window x.current n)

abbrev stale_of : TableState → (o n : ℕ) → Bool
stale_of s o n = maybe (lookup o s.records) false (λ x. stale s.config.settings.window x.current n)

abbrev entries_of_record : Option TableRecord → Option (List ℕ)
entries_of_record o = map (λ x. x.entries) o

-- a packet that is not refused: it leaves x
module _ (s : TableState) (w : Wf s) (r : ReceiveArgs) (t : typed (receive r) ≡ true) where
  abbrev h : Header
  h = header r.packet

  abbrev κ : Config
  κ = s.config

  abbrev q : Questions
  q = questions table s r h

  abbrev m : Message
  m = message r h

  abbrev x : TableState
  x = state_then table s r h q

  -- the number is of two octets
  same_number : h.sequence % numbers ≡ h.sequence
  unfolding header
  same_number = mod-eq_of_lt (omega (arith, octet-lt sequence_at, octet-lt (sequence_at + 1)))
    where
      octet-lt : (k : ℕ) → octet r.packet k < octets
      octet-lt k = ltb-true (octet r.packet k) octets (all-at is_octet 0 refl r.packet (and_at (receive_types r) t 1) k)

  -- what is held of the originator
  entry : (a : TableRecord) → found table s r h ≡ some a → Entry κ s.time (h.originator, a)
  entry a e = record_parts κ s.time (h.originator, a) (lookup-all (λ y. and (record_tests κ s.time y)) h.originator a s.records w.records.each e)

  -- ---- when a packet is an echo, and when it is counted

  echo-own : would_echo table s r h q ≡ true → q.own_originator ≡ true
  echo-own e = and_left q.own_originator q.echo (and_right (foreign table s r h q) (q.own_originator && q.echo) e)

  echo_is : would_echo table s r h q ≡ true → q.echo ≡ true
  echo_is e = and_right q.own_originator q.echo (and_right (foreign table s r h q) (q.own_originator && q.echo) e)

  echo-verdict : would_echo table s r h q ≡ true → verdict_then table s r h q ≡ 22
  echo-verdict e =
      let f = and_left (foreign table s r h q) (q.own_originator && q.echo) e in
      let a = not-true q.own_sender (and_left (not q.own_sender) (not q.broadcast_sender) f) in
      let b = not-true q.broadcast_sender (and_right (not q.own_sender) (not q.broadcast_sender) f) in
      let o = and_right (foreign table s r h q) (q.own_originator && q.echo) e in
      rw (a, b, o)

  rows_same : (would_echo table s r h q ≡ true → ⊥) → x.rows ≡ s.rows
  rows_same f = by_test (λ y. y ≡ s.rows) (would_echo table s r h q) (λ e. absurd (f e)) (λ _. refl)

  rows-others : (l : ℕ) → (l ≡ link_by r → ⊥) → lookup l x.rows ≡ lookup l s.rows
  unfolding record_echo
  rows-others l f = by_test (λ y. lookup l y ≡ lookup l s.rows) (would_echo table s r h q) (λ _. lookup-put-other l (link_by r) _ s.rows (ne_eqb l (link_by r) f)) (λ _. refl)

  records-same : (would_count table s r h q ≡ true → ⊥) → x.records ≡ s.records
  records-same f = by_test (λ y. y ≡ s.records) (would_count table s r h q) (λ e. absurd (f e)) (λ _. refl)

  only_time : (would_echo table s r h q ≡ true → ⊥) → (would_count table s r h q ≡ true → ⊥) → x ≡ with_time table s r.time
  only_time f g =
      let rs = rows_same f in
      let es = records-same g in
      λ i. record { config = κ; time = r.time; sends = s.sends; rows = rs i; records = es i }

  no_echo_lem : q.echo ≡ false → would_echo table s r h q ≡ true → ⊥
  no_echo_lem e y = true≢false (sym (echo_is y) ∙ e)

  no_count : q.bidirectional ≡ false → would_count table s r h q ≡ true → ⊥
  no_count e y = true≢false (sym (counts table s r h q y).bidirectional ∙ e)

  -- ---- an originator that has a record is no own address, so its packet is no echo

  module _ (P : TableRecord → Bool) (d : maybe (found table s r h) false P ≡ true) where
    not_own : q.own_originator ≡ false
    not_own = go (found table s r h) refl d
      where
        go : (o : Option TableRecord) → found table s r h ≡ o → maybe o false P ≡ true → q.own_originator ≡ false
        go none e g = absurd (true≢false (sym g))
        go (some a) e g = not-true q.own_originator (entry a e).foreign

    own-time : (would_count table s r h q ≡ true → ⊥) → x ≡ with_time table s r.time
    own-time = only_time (λ e. true≢false (sym (echo-own e) ∙ not_own))

  -- a repeated packet is a duplicate, and a late one stale
  repeated-time : marked_of s h.originator (link_by r) h.sequence ≡ true → x ≡ with_time table s r.time
  repeated-time d =
      let duplicate : q.duplicate ≡ true = ap (λ n. marked_of s h.originator (link_by r) n) same_number ∙ d in
      own-time (λ a. is_marked κ a (link_by r) h.sequence) d (λ e. true≢false (sym duplicate ∙ (counts table s r h q e).unrepeated))

  module _ (d : stale_of s h.originator h.sequence ≡ true) where
    is_stale_lem : q.stale ≡ true
    unfolding is_stale_in
    is_stale_lem = ap (stale_of s h.originator) same_number ∙ d

    late-time : x ≡ with_time table s r.time
    late-time = own-time (λ a. stale κ.settings.window a.current h.sequence) d (λ e. true≢false (sym is_stale_lem ∙ (counts table s r h q e).timely))

    -- its verdict is one of those before 25 and 26
    late-verdict : eqb (verdict_then table s r h q) 26 ≡ false
    late-verdict = rw is_stale_lem (go q.own_sender q.broadcast_sender q.own_originator q.echo q.unidirectional)
      where
        go : (a b o e u : Bool) → eqb (cond a 20 (cond b 21 (cond (o && e) 22 (cond o 23 (cond u 24 27))))) 26 ≡ false
        go true b o e u = refl
        go false true o e u = refl
        go false false true true u = refl
        go false false true false u = refl
        go false false false e true = refl
        go false false false e false = refl

  -- ---- records

  others_same : (o : ℕ) → (o ≡ h.originator → ⊥) → lookup o x.records ≡ lookup o s.records
  others_same o f = by_test (λ y. lookup o y ≡ lookup o s.records) (would_count table s r h q) (λ _. lookup-put-other o h.originator (counted_record table s r h) s.records (ne_eqb o h.originator f)) (λ _. refl)

  module _ (l n : ℕ) (hn : n < numbers) (f : (l ≡ link_by r) × (n ≡ h.sequence) → ⊥) where
    not_its : Own κ m l n → ⊥
    not_its y = f (y.0, y.1 ∙ same_number)

    counted-marks : (o : Option TableRecord) → found table s r h ≡ o → is_marked κ (maybe o (first_record κ m) (next_record κ m)) l n ≡ true → maybe o false (λ a. is_marked κ a l n) ≡ true
    counted-marks none e g = absurd (not_its (first_marks κ m l n hn g))
    counted-marks (some a) e g =
        let p = entry a e in
        ⊎_elim (λ (y : Own κ m l n). absurd (not_its y)) (λ (y : is_marked κ a l n ≡ true). y)
        (next_marks κ m l n hn a.best a (ltb-true a.current numbers p.current) (rising_in a.links p.rise) p.each g)

    its_marks : marked_of x h.originator l n ≡ true → marked_of s h.originator l n ≡ true
    its_marks =
        by_test (λ y. maybe (lookup h.originator y) false (λ a. is_marked κ a l n) ≡ true → marked_of s h.originator l n ≡ true) (would_count table s r h q)
        (λ _ g. counted-marks (found table s r h) refl (ap (λ (o : Option TableRecord). maybe o false (λ a. is_marked κ a l n)) (sym (lookup-put h.originator (counted_record table s r h) s.records)) ∙ g))
        (λ _ g. g)

  marks-before : (o l n : ℕ) → n < numbers → ((o ≡ h.originator) × (l ≡ link_by r) × (n ≡ h.sequence) → ⊥) → marked_of x o l n ≡ true → marked_of s o l n ≡ true
  marks-before o l n hn f g = go (eqb o h.originator) refl
    where
      go : (b : Bool) → eqb o h.originator ≡ b → marked_of s o l n ≡ true
      go true e =
          let same = eqb-true o h.originator e in
          ap (λ k. marked_of s k l n) same ∙ its_marks l n hn (λ y. f (same, y.0, y.1)) (ap (λ k. marked_of x k l n) (sym same) ∙ g)
      go false e = ap (λ (y : Option TableRecord). maybe y false (λ a. is_marked κ a l n)) (sym (others_same o (eqb-false o h.originator e))) ∙ g

  -- ---- entries

  -- of a counted message's record, o being the one before
  counted-kept : (o : Option TableRecord) → maybe o false (λ a. inside κ.settings.window a.current h.sequence) ≡ true
      → some (maybe o (first_record κ m) (next_record κ m)).entries ≡ entries_of_record o
  unfolding next_record
  counted-kept none g = absurd (true≢false (sym g))
  counted-kept (some a) g = ap (λ (t : Bool). some (cond t m.entries a.entries)) (ap (new κ.settings.window a.current) same_number ∙ inside_old κ.settings.window a.current h.sequence g)

  counted-entries : (o : Option TableRecord)
      → (some (maybe o (first_record κ m) (next_record κ m)).entries ≡ entries_of_record o) ⊎ (some (maybe o (first_record κ m) (next_record κ m)).entries ≡ some m.entries)
  unfolding first_record next_record
  counted-entries none = inr refl
  counted-entries (some a) = by_test (λ es. (some es ≡ some a.entries) ⊎ (some es ≡ some m.entries)) (new κ.settings.window a.current (h.sequence % numbers)) (λ _. inr refl) (λ _. inl refl)

  -- the originator's, where the message is counted
  put_entries : entries_of_record (lookup h.originator (put h.originator (counted_record table s r h) s.records)) ≡ some (counted_record table s r h).entries
  put_entries = ap entries_of_record (lookup-put h.originator (counted_record table s r h) s.records)

  entries-kept : inside_of s h.originator h.sequence ≡ true → entries_of_record (lookup h.originator x.records) ≡ entries_of_record (lookup h.originator s.records)
  entries-kept g =
      by_test (λ y. entries_of_record (lookup h.originator y) ≡ entries_of_record (lookup h.originator s.records)) (would_count table s r h q)
      (λ _. put_entries ∙ counted-kept (found table s r h) g) (λ _. refl)

  -- what an originator's entries among the records es are: as they were, or the packet's own
  abbrev OwnOrKept : (o : ℕ) → List (ℕ × TableRecord) → Type 0
  OwnOrKept o es = (entries_of_record (lookup o es) ≡ entries_of_record (lookup o s.records)) ⊎ ((o ≡ h.originator) × (entries_of_record (lookup o es) ≡ some m.entries))

  entries_its : OwnOrKept h.originator x.records
  entries_its =
      by_test (OwnOrKept h.originator) (would_count table s r h q)
      (λ _. ⊎_elim (λ (y : some (counted_record table s r h).entries ≡ entries_of_record (found table s r h)). inl (put_entries ∙ y)) (λ (y : some (counted_record table s r h).entries ≡ some m.entries). inr (refl, put_entries ∙ y)) (counted-entries (found table s r h)))
      (λ _. inl refl)

  entries-own : (o : ℕ) → OwnOrKept o x.records
  entries-own o = go (eqb o h.originator) refl
    where
      go : (b : Bool) → eqb o h.originator ≡ b → OwnOrKept o x.records
      go true e = subst (λ k. OwnOrKept k x.records) (sym (eqb-true o h.originator e)) entries_its
      go false e = inl (ap entries_of_record (others_same o (eqb-false o h.originator e)))

-- ---- of cells

rule_refusal : (n : ℕ) → is_rule_refusal n ≡ true → is_refusal n ≡ true
rule_refusal n h = both (le-leb 1 n (omega (arith, leb-true 2 n (and_left (leb 2 n) (leb n refusal_most) h)))) (and_right (leb 2 n) (leb n refusal_most) h)

time_set : (s : TableState) (u : ℕ) → encode (with_time table s u) ≡ set (encode s) time_at u
unfolding encode
time_set s u = refl

module _ (c : List ℕ) (r : ReceiveArgs) where
  -- refused: no cell is changed
  unchanged : is_refusal (number c r) ≡ true → (well_formed c ≡ false → done c r ≡ refused c (receive r) 1) → left c r ≡ c → Strangers c r
  unchanged off one same =
      record {
        unformed = one;
        turned_away = λ _. same;
        config = rw same;
        sends = rw same;
        no_echo = λ _. rw same;
        other_verdict = λ _. rw same;
        other_rows = λ l _. rw same;
        unheard = λ _. rw same;
        silent = λ _ _. untimed;
        repeated = λ _. untimed;
        late = λ _. untimed;
        late_stops = λ _ e. true≢false (sym off ∙ ap is_refusal e);
        others = λ o _. rw same;
        marks = λ o l n _ _ g. ap (λ (d : List ℕ). is_marked_in d o l n) (sym same) ∙ g;
        kept_entries = λ _. rw same;
        entries = λ o. inl (rw same);
        clean = λ o d. absurd (d (rw same));
      }
    where
      untimed : OnlyTime c (left c r)
      untimed = (get_or c time_at 0, same ∙ sym (set-get_or c time_at 0))

  unformed : well_formed c ≡ false → Strangers c r
  unfolding refusal
  unformed e = let off = turned_away_lem c (receive r) e in unchanged (ap (λ (d : Done). is_refusal (number_of d.reply.answer)) off) (λ _. off) (ap (λ (d : Done). d.cells) off)

  module _ (t : typed (receive r) ≡ true) (good : well_formed c ≡ true) where
    abbrev before : TableState
    before = decode c

    abbrev rules : Exactly table (length c) before (receive r)
    rules = exactly table (length c) before (receive r)

    w : Wf before
    w = parts before (laws.table c good)

    not-one : well_formed c ≡ false → done c r ≡ refused c (receive r) 1
    not-one e = absurd (true≢false (sym good ∙ e))

    -- the call goes by the rules to the outcome o
    goes : (o : OutcomeOf table) → step table (length c) before (receive r) ≡ o → done c r ≡ record { reply = o.reply; cells = encode o.state }
    goes o e = goes_on c (receive r) good ∙ ap (λ (y : OutcomeOf table). record { reply = y.reply; cells = encode y.state }) e

    refuses : (f : Fault) → first_of (facts table (length c) before (receive r)) ≡ some f → Strangers c r
    refuses f e =
        let off = goes _ (rules.refused f e) in
        unchanged (ap (λ (d : Done). is_refusal (number_of d.reply.answer)) off ∙ ap is_refusal (refusal-number (receive r) f) ∙ rule_refusal f.number (rules.numbers f e)) not-one
        (ap (λ (d : Done). d.cells) off ∙ laws.cells c good)

    takes : first_of (facts table (length c) before (receive r)) ≡ none → Strangers c r
    unfolding decode outcome facts
    takes n =
        let q = questions table before r (said r) in
        let y = state_then table before r (said r) q in
        let on = goes (outcome table (length c) before (receive r)) (rules.accepted n) in
        let into : left c r ≡ encode y = ap (λ (d : Done). d.cells) on in
        let formed = subst (λ (o : OutcomeOf table). R.well_formed o.state ≡ true) (rules.accepted n) (well_formed-step (length c) before (laws.table c good) (receive r) t) in
        let e : decode (left c r) ≡ y = ap decode into ∙ laws.decoded y formed in
        let v : number c r ≡ verdict_then table before r (said r) q = ap (λ (d : Done). number_of d.reply.answer) on in
        let timed : y ≡ with_time table before r.time → OnlyTime c (left c r) = λ f. (r.time, into ∙ ap encode f ∙ time_set before r.time ∙ ap (λ (d : List ℕ). set d time_at r.time) (laws.cells c good)) in
        let rows : (would_echo table before r (said r) q ≡ true → ⊥) → (decode (left c r)).rows ≡ before.rows = λ f. ap (λ (z : TableState). z.rows) e ∙ rows_same before w r t f in
        let own : (o : ℕ) → OwnOrKept before w r t o (decode (left c r)).records = λ o. subst (λ (z : TableState). OwnOrKept before w r t o z.records) (sym e) (entries-own before w r t o) in
        let none-set = hna-none before.config.settings.version r.packet (none-at (facts table (length c) before (receive r)) n 3) in
        let its : all is_clean (entries_of (hna r.packet)) ≡ true = all-clean (hna r.packet) (none-set 1) (none-set 2) in
        record {
          unformed = not-one;
          turned_away = λ g. absurd (true≢false (sym g ∙ ap is_refusal v ∙ rules.no_refusal));
          config = ap (λ (z : TableState). z.config) e;
          sends = ap (λ (z : TableState). z.sends) e;
          no_echo = λ g. rows (no_echo_lem before w r t g);
          other_verdict = λ f. rows (λ k. f (v ∙ echo-verdict before w r t k));
          other_rows = λ l f. ap (λ (z : TableState). lookup l z.rows) e ∙ rows-others before w r t l f;
          unheard = λ g. ap (λ (z : TableState). z.records) e ∙ records-same before w r t (no_count before w r t g);
          silent = λ f g. timed (only_time before w r t (no_echo_lem before w r t f) (no_count before w r t g));
          repeated = λ g. timed (repeated-time before w r t g);
          late = λ g. timed (late-time before w r t g);
          late_stops = λ g k. eqb-false _ 26 (late-verdict before w r t g) (sym v ∙ k);
          others = λ o f. ap (λ (z : TableState). lookup o z.records) e ∙ others_same before w r t o f;
          marks = λ o l m small f g. marks-before before w r t o l m small f (ap (λ (z : TableState). marked_of z o l m) (sym e) ∙ g);
          kept_entries = λ g. ap (λ (z : TableState). entries_of_record (lookup (said r).originator z.records)) e ∙ entries-kept before w r t g;
          entries = own;
          clean = λ o d. ⊎_elim (λ same. absurd (d same)) (λ mine. ap (λ (es : Option (List ℕ)). maybe es true (all is_clean)) mine.1 ∙ its) (own o);
        }

    formed : Strangers c r
    formed = go (first_of (facts table (length c) before (receive r))) refl
      where
        go : (f : Option Fault) → first_of (facts table (length c) before (receive r)) ≡ f → Strangers c r
        go none e = takes e
        go (some f) e = refuses f e

-- WHAT A STRANGER CAN DO
pub strangers : (c : List ℕ) (r : ReceiveArgs) → typed (receive r) ≡ true → Strangers c r
strangers c r t = go (well_formed c) refl
  where
    go : (b : Bool) → well_formed c ≡ b → Strangers c r
    go true e = formed c r t e
    go false e = unformed c r e
