-- On any cells a call is refused by the first fact that holds, 1 and make's 12 among them, and nothing lent is changed; else it has the rules' outcome.
-- Assumes nothing.
use Prim.Native.Nat.{ℕ}
use mathlib.Core.Path.{◌≡◌, refl, sym, ap, ◌∙◌, subst}
use mathlib.Core.Bool.{Bool, true, false, not, true≢false, false≢true}
use mathlib.Core.Option.{Option, none, some}
use mathlib.Core.List.{List, [], ◌∷◌}
use lib.ListN.{length}
use native.Mathlib.Omega.{arith}
use borrow.Author.Tests.{le-leb}
use Rattle.lists.specs.Lists.{maybe}
use Rattle.lists.proofs.Tests.{both}
use Rattle.wire.specs.declared.Fault.{Fault}
use Rattle.wire.specs.Check.{numbered, given, first_of}
use Rattle.rules.specs.Settings.{MakeArgs, make_allowed}
use Rattle.rules.specs.Calls.{Call, make, receive, burst, own, sweep, question, list, locate, number_of, is_refusal, is_rule_refusal, refusal_most, refusal}
use Rattle.rules.specs.Rules.{OutcomeOf}
use Rattle.rules.specs.Table.{table}
use Rattle.rules.specs.Refusals.{facts, Exactly}
use Rattle.rules.proofs.Config.{within_low, within-high}
use Rattle.rules.proofs.Exactly.{exactly}
use Rattle.table_layout.specs.Cells.{encode, decode, well_formed}
use Rattle.table_layout.specs.Calls.{Done, refused, stepped, make_of, meets, call_on}
use Rattle.table_layout.proofs.Encoding.{laws}
use Rattle.table_layout.proofs.Calls.{goes_on, turned_away_lem}
use Rattle.demands.specs.Demand1.{facts_on, lent_output, lent_rows, lent_answers, Refused, Accepted, Demand1}

-- ---- a refusal answers its number, and leaves what the call is lent

record Leaves (call : Call) (f : Fault) : Type 0 where
  number : number_of (refusal call f).answer ≡ f.number
  output : (refusal call f).output ≡ lent_output call
  rows : (refusal call f).rows ≡ lent_rows call
  answers : (refusal call f).answers ≡ lent_answers call

leaves : (call : Call) (f : Fault) → Leaves call f
unfolding refusal
leaves (make a) f = record { number = refl; output = refl; rows = refl; answers = refl }
leaves (receive r) f = record { number = refl; output = refl; rows = refl; answers = refl }
leaves (burst a) f = record { number = refl; output = refl; rows = refl; answers = refl }
leaves (own a) f = record { number = refl; output = refl; rows = refl; answers = refl }
leaves (sweep t) f = record { number = refl; output = refl; rows = refl; answers = refl }
leaves (question o) f = record { number = refl; output = refl; rows = refl; answers = refl }
leaves (list o rs) f = record { number = refl; output = refl; rows = refl; answers = refl }
leaves (locate a) f = record { number = refl; output = refl; rows = refl; answers = refl }

-- a refusal of the rules is a refusal
rule_refusal : (n : ℕ) → is_rule_refusal n ≡ true → is_refusal n ≡ true
rule_refusal n h = let l = within_low 2 refusal_most n h in both (le-leb 1 n (omega arith)) (le-leb n refusal_most (within-high 2 refusal_most n h))

-- ---- a call, by whether it goes on to the rules

module _ (c : List ℕ) (call : Call) where
  by_rules : Exactly table (length c) (decode c) call
  by_rules = exactly table (length c) (decode c) call

  refused_by_lem : (f : Fault) → is_refusal f.number ≡ true → call_on c call ≡ record { reply = refusal call f; cells = c } → Refused c call f
  refused_by_lem f n e =
      let l = leaves call f in
      record {
        number = ap (λ (d : Done). number_of d.reply.answer) e ∙ l.number;
        among = n;
        reply = ap (λ (d : Done). d.reply) e;
        output = ap (λ (d : Done). d.reply.output) e ∙ l.output;
        rows = ap (λ (d : Done). d.reply.rows) e ∙ l.rows;
        answers = ap (λ (d : Done). d.reply.answers) e ∙ l.answers;
        cells = ap (λ (d : Done). d.cells) e;
      }

  accepted_by : call_on c call ≡ stepped c call → first_of (facts table (length c) (decode c) call) ≡ none → Accepted c call
  accepted_by e n =
      let x = by_rules.accepted n in
      record {
        reply = ap (λ (d : Done). d.reply) e ∙ ap (λ (o : OutcomeOf table). o.reply) x;
        cells = ap (λ (d : Done). d.cells) e ∙ ap (λ (o : OutcomeOf table). encode o.state) x;
        number = ap (λ (d : Done). is_refusal (number_of d.reply.answer)) e ∙ ap (λ (o : OutcomeOf table). is_refusal (number_of o.reply.answer)) x ∙ by_rules.no_refusal;
      }

  -- it goes on, and where the rules refuse it the cells are well-formed, so that the table that they hold is the cells that there were
  on : call_on c call ≡ stepped c call → first_of (facts_on c call) ≡ first_of (facts table (length c) (decode c) call)
      → ((f : Fault) → first_of (facts table (length c) (decode c) call) ≡ some f → well_formed c ≡ true) → Demand1 c call
  on e s w =
      record {
        refused = λ f n. let m = sym s ∙ n in let x = by_rules.refused f m in refused_by_lem f (rule_refusal f.number (by_rules.numbers f m)) (e ∙ (λ i. record { reply = (x i).reply; cells = (ap (λ (o : OutcomeOf table). encode o.state) x ∙ laws.cells c (w f m)) i }));
        accepted = λ n. accepted_by e (sym s ∙ n);
      }

  -- it is refused with number k before that
  away : (k : ℕ) → is_refusal k ≡ true → call_on c call ≡ refused c call k → first_of (facts_on c call) ≡ some (numbered k) → Demand1 c call
  away k n e s =
      record {
        refused = λ f m. subst (Refused c call) (ap (λ (x : Option Fault). maybe x (numbered k) (λ g. g)) (sym s ∙ m)) (refused_by_lem (numbered k) n e);
        accepted = λ m. absurd (true≢false (ap (λ (x : Option Fault). maybe x false (λ g. true)) (sym s ∙ m)));
      }

-- ---- every call

-- make asks what its one fact says
of_make : (c : List ℕ) (a : MakeArgs) (b : Bool) → make_allowed (length c) a ≡ b → Demand1 c (make a)
unfolding facts
of_make c a true h =
    let s : first_of (facts table (length c) (decode c) (make a)) ≡ none = ap (λ (b : Bool). first_of (given (not b) 12 ∷ [])) h in
    on c (make a) (goes_on c (make a) h) refl (λ f m. absurd (false≢true (ap (λ (x : Option Fault). maybe x false (λ g. true)) (sym s ∙ m))))
of_make c a false h = away c (make a) 12 refl (turned_away_lem c (make a) h) (ap (λ (b : Bool). first_of (given (not b) 12 ∷ [])) h)

-- every other call, that the cells are well-formed
module _ (c : List ℕ) (call : Call) (o : make_of call ≡ none) where
  abbrev rest : List (Option Fault)
  rest = facts table (length c) (decode c) call

  asked : (b : Bool) → well_formed c ≡ b → meets c call ≡ b
  asked b w = λ i. maybe (o i) (w i) (λ a. make_allowed (length c) a)

  first : (b : Bool) → well_formed c ≡ b → first_of (facts_on c call) ≡ first_of (given (not b) 1 ∷ rest)
  first b w = λ i. first_of (maybe (o i) (given (not (w i)) 1) (λ a. none) ∷ rest)

  of_other : (b : Bool) → well_formed c ≡ b → Demand1 c call
  of_other true w = on c call (goes_on c call (asked true w)) (first true w) (λ f m. w)
  of_other false w = away c call 1 refl (turned_away_lem c call (asked false w) ∙ (λ i. refused c call (maybe (o i) 1 (λ a. 12)))) (first false w)

pub demand1 : (c : List ℕ) (call : Call) → Demand1 c call
demand1 c (make a) = of_make c a (make_allowed (length c) a) refl
demand1 c (receive r) = of_other c (receive r) refl (well_formed c) refl
demand1 c (burst a) = of_other c (burst a) refl (well_formed c) refl
demand1 c (own a) = of_other c (own a) refl (well_formed c) refl
demand1 c (sweep t) = of_other c (sweep t) refl (well_formed c) refl
demand1 c (question o) = of_other c (question o) refl (well_formed c) refl
demand1 c (list o rs) = of_other c (list o rs) refl (well_formed c) refl
demand1 c (locate a) = of_other c (locate a) refl (well_formed c) refl
