-- A history on cells is the history of the tables that they hold, so demand 3 of the tables is demand 3 of the cells. Assumes nothing.
use Prim.Native.Nat.{ℕ}
use mathlib.Core.Path.{◌≡◌, refl, sym, ap, ◌∙◌, subst}
use mathlib.Core.Bool.{Bool, true, false, not}
use mathlib.Core.Option.{none}
use mathlib.Core.List.{List, [], ◌∷◌}
use lib.Dec.{eqb}
use lib.ListN.{length}
use borrow.Author.Tests.{eqb-true, not-false}
use Rattle.lists.specs.Lists.{keep, all}
use Rattle.lists.proofs.Tests.{and_at, and_left, and_right}
use Rattle.wire.specs.Check.{numbered, given, first_of}
use Rattle.rules.specs.Settings.{Config, MakeArgs, config_of, cells_needed, make_tests, make_allowed}
use Rattle.rules.specs.Calls.{ReceiveArgs, packets_of, single_call, Call, make, receive, burst, own, sweep, question, list, locate, Reply, number_of, made, answered}
use Rattle.rules.specs.Rules.{OutcomeOf, unless, refuse, begin, fresh, receive_on, take_burst, send, purge, answer_best, fill_rows, answer_locate, step}
use Rattle.rules.specs.Table.{TableState, table}
use Rattle.rules.specs.Refusals.{facts, outcome}
use Rattle.rules.specs.WellFormed.{typed}
use Rattle.rules.specs.WellFormed as R
use Rattle.rules.proofs.Config.{make-allowed}
use Rattle.rules.proofs.Faults.{none-at, not-given}
use Rattle.rules.proofs.Exactly.{step_keeps}
use Rattle.rules.proofs.Bursts.{each_keeps}
use Rattle.lists.proofs.Lists.{all_true}
use Rattle.rules.proofs.WellFormed.{well_formed-step, well_formed-fresh}
use Rattle.table_layout.specs.Cells.{encode, decode, well_formed}
use Rattle.table_layout.specs.Calls.{Done, call_on, stepped}
use Rattle.table_layout.proofs.Parts.{length-encode}
use Rattle.table_layout.proofs.Encoding.{laws}
use Rattle.table_layout.proofs.Calls.{goes_on, turned_away_lem}
use Rattle.history.specs.Book.{book}
use Rattle.history.specs.History.{after, replies}
use Rattle.history.specs.Demand.{Stands, table_then}
use Rattle.history.proofs.History.{history, history_never_one}
use Rattle.history.proofs.Demand as D
use Rattle.demands.specs.Demand3.{cells_after, replies_on, cells_then, replies_then, records_then, Demand3}

-- ---- one call

-- a make that isn't allowed, by the rules
not_made : (c : List ℕ) (a : MakeArgs) (s : TableState) → make_allowed (length c) a ≡ false → step table (length c) s (make a) ≡ refuse table (make a) s (numbered 12)
unfolding step unless
not_made c a s h = ap (λ (b : Bool). unless (given (not b) 12) (refuse table (make a) s) (begin table a)) h

-- on well-formed cells every call goes by the rules, a make that isn't allowed too
by_rules : (c : List ℕ) → well_formed c ≡ true → (call : Call) → call_on c call ≡ stepped c call
by_rules c w (make a) = go (make_allowed (length c) a) refl
  where
    go : (b : Bool) → make_allowed (length c) a ≡ b → call_on c (make a) ≡ stepped c (make a)
    go true h = goes_on c (make a) h
    go false h = turned_away_lem c (make a) h ∙ (λ i. record { reply = (sym (not_made c a (decode c) h) i).reply; cells = sym (ap (λ (o : OutcomeOf table). encode o.state) (not_made c a (decode c) h) ∙ laws.cells c w) i })
by_rules c w (receive r) = goes_on c (receive r) w
by_rules c w (burst a) = goes_on c (burst a) w
by_rules c w (own a) = goes_on c (own a) w
by_rules c w (sweep t) = goes_on c (sweep t) w
by_rules c w (question o) = goes_on c (question o) w
by_rules c w (list o rs) = goes_on c (list o rs) w
by_rules c w (locate a) = goes_on c (locate a) w

-- a call leaves a table for as many cells
abbrev Fills : (cells : ℕ) → TableState → Type 0
Fills cells s = cells ≡ cells_needed s.config.settings.capacity

made_fills : (cells : ℕ) (a : MakeArgs) → make_allowed cells a ≡ true → Fills cells (fresh table (config_of a))
unfolding make_allowed
made_fills cells a h = eqb-true cells (cells_needed a.settings.capacity) (and_at (make_tests cells a) h 2)

one_fills : (cells : ℕ) (s : TableState) → Fills cells s → (r : ReceiveArgs) → Fills cells (receive_on table s r).state
unfolding step outcome
one_fills cells s p r = step_keeps table 0 (Fills cells) s (receive r) p (λ n. p)

taken_fills : (cells : ℕ) (s : TableState) → Fills cells s → (call : Call) → first_of (facts table cells s call) ≡ none → Fills cells (outcome table cells s call).state
unfolding facts outcome take_burst send purge answer_best fill_rows answer_locate
taken_fills cells s p (make a) n = made_fills cells a (not-false (make_allowed cells a) (not-given (not (make_allowed cells a)) 12 (none-at (facts table cells s (make a)) n 0)))
taken_fills cells s p (receive r) n = p
taken_fills cells s p (burst a) n = each_keeps _ (Fills cells) a.time (λ _. true) (λ x o q h y. one_fills cells x y (single_call a.time o q)) (packets_of a) (all_true (λ _. true) (λ _. refl) (packets_of a)) s a.output p
taken_fills cells s p (own a) n = p
taken_fills cells s p (sweep t) n = p
taken_fills cells s p (question o) n = p
taken_fills cells s p (list o rs) n = p
taken_fills cells s p (locate a) n = p

-- ---- cells that hold the table s

record Holds (n : ℕ) (c : List ℕ) (s : TableState) : Type 0 where
  is : encode s ≡ c
  size : Fills n s
  table : R.well_formed s ≡ true

module _ (n : ℕ) (c : List ℕ) (s : TableState) (p : Holds n c s) where
  well : well_formed c ≡ true
  well = subst (λ (x : List ℕ). well_formed x ≡ true) p.is (laws.encoded s p.table)

  back : decode c ≡ s
  back = ap decode (sym p.is) ∙ laws.decoded s p.table

  as_many : length c ≡ n
  unfolding cells_needed
  as_many = ap length (sym p.is) ∙ length-encode s ∙ sym p.size

  module _ (call : Call) where
    abbrev then : OutcomeOf table
    then = step table n s call

    same_step : step table (length c) (decode c) call ≡ then
    same_step = λ i. step table (as_many i) (back i) call

    done : call_on c call ≡ record { reply = then.reply; cells = encode then.state }
    done = by_rules c well call ∙ (λ i. record { reply = (same_step i).reply; cells = encode (same_step i).state })

    next : typed call ≡ true → Holds n (call_on c call).cells then.state
    next t =
        record {
          is = sym (ap (λ (d : Done). d.cells) done);
          size = step_keeps table n (Fills n) s call p.size (taken_fills n s p.size call);
          table = well_formed-step n s p.table call t;
        }

-- ---- a history

history_on : (n : ℕ) (c : List ℕ) (s : TableState) → Holds n c s → (cs : List Call) → all typed cs ≡ true
    → (replies_on c cs ≡ replies table n s cs) × Holds n (cells_after c cs) (after table n s cs)
unfolding replies_on cells_after replies after
history_on n c s p [] t = (refl, p)
history_on n c s p (call ∷ cs) t =
    let rest = history_on n (call_on c call).cells (step table n s call).state (next n c s p call (and_left (typed call) (all typed cs) t)) cs (and_right (typed call) (all typed cs) t) in
    ((λ i. (done n c s p call i).reply ∷ rest.0 i), rest.1)

-- the make, on any cells
module _ (c : List ℕ) (a : MakeArgs) (h : make_allowed (length c) a ≡ true) where
  begun : step table (length c) (decode c) (make a) ≡ begin table a
  unfolding step unless
  begun = ap (λ (b : Bool). unless (given (not b) 12) (refuse table (make a) (decode c)) (begin table a)) h

  makes : call_on c (make a) ≡ record { reply = answered (made 0); cells = encode (fresh table (config_of a)) }
  makes = goes_on c (make a) h ∙ (λ i. record { reply = (begun i).reply; cells = encode (begun i).state })

  made_holds : Holds (length c) (call_on c (make a)).cells (fresh table (config_of a))
  made_holds = record { is = sym (ap (λ (d : Done). d.cells) makes); size = made_fills (length c) a h; table = well_formed-fresh (config_of a) (make-allowed (length c) a h) }

-- DEMAND 3, of the cells
pub demand3 : (c : List ℕ) (a : MakeArgs) (cs : List Call) → make_allowed (length c) a ≡ true → all typed cs ≡ true → Demand3 c a cs
unfolding replies_on cells_after decode
demand3 c a cs h t =
    let n = length c in
    let on = history_on n (call_on c (make a)).cells (fresh table (config_of a)) (made_holds c a h) cs t in
    let stands = D.tables_tell n a cs h in
    let e : decode (cells_then c a cs) ≡ table_then n a cs = back n (cells_then c a cs) (table_then n a cs) on.1 in
    let under : (o : ℕ) → records_then c a cs o ≡ keep (λ x. eqb o x.0) (table_then n a cs).records = λ o. ap (λ (s : TableState). keep (λ x. eqb o x.0) s.records) e in
    let replied : replies_then c a cs ≡ answered (made 0) ∷ replies book n (fresh book (config_of a)) cs = (λ i. (makes c a h i).reply ∷ on.0 i) ∙ ap (λ (rs : List Reply). answered (made 0) ∷ rs) stands.same in
    record {
      same = replied;
      never_one = ap (all (λ x. not (eqb (number_of x.answer) 1))) replied ∙ history_never_one book n (fresh book (config_of a)) cs;
      well_formed = well n (cells_then c a cs) (table_then n a cs) on.1;
      size = as_many n (cells_then c a cs) (table_then n a cs) on.1;
      described = e ∙ (history n (config_of a) (make-allowed n a h) cs).1;
      nothing = λ o m. under o ∙ stands.nothing o m;
      one = λ o s m. let x = stands.one o s m in (x.0, under o ∙ x.1, subst (λ (κ : Config). Stands κ s x.0) (sym (ap (λ (y : TableState). y.config) e)) x.2);
    }
