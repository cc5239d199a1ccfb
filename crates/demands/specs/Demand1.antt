-- Demand 1, any input is met: on any cells, each call is refused by the first fact that holds, and then nothing that it was lent is changed;
-- where no fact holds, it does what the rules say. `call_on` is what each public call's contract cites. (RULES 8, 13.1)
use Rattle.std.specs.Prelude.{ℕ, ◌≡◌, true, false, not, List, [], ◌∷◌, length}
use Rattle.std.proofs.Math.Option.{Option, none, some}
use Rattle.lists.specs.Lists.{maybe}
use Rattle.wire.specs.declared.Fault.{Fault}
use Rattle.wire.specs.Check.{given, first_of}
use Rattle.rules.specs.declared.LinkRow.{LinkRow}
use Rattle.rules.specs.declared.Received.{Received}
use Rattle.rules.specs.Calls.{Call, make, receive, burst, own, sweep, question, list, locate, number_of, is_refusal, refusal}
use Rattle.rules.specs.Rules.{OutcomeOf}
use Rattle.rules.specs.Table.{table}
use Rattle.rules.specs.Refusals.{facts, outcome}
use Rattle.table_layout.specs.Cells.{encode, decode, well_formed}
use Rattle.table_layout.specs.Calls.{make_of, call_on}

-- the facts that concern a call, in ascending order: 1, which make does not ask, and then those of the rules on the table that the cells hold (make's is 12)
abbrev pub facts_on : List ℕ → Call → List (Option Fault)
facts_on c call = maybe (make_of call) (given (not (well_formed c)) 1) (λ a. none) ∷ facts table (length c) (decode c) call

-- what the rules give for a call that is not refused
abbrev pub outcome_on : List ℕ → Call → OutcomeOf table
outcome_on c call = outcome table (length c) (decode c) call

-- the output, the rows and the answer rows that a call is lent besides the cells ([] where it is lent none)
abbrev pub lent_output : Call → List ℕ
lent_output (make a) = []
lent_output (receive r) = r.output
lent_output (burst a) = a.output
lent_output (own a) = a.output
lent_output (sweep t) = []
lent_output (question o) = []
lent_output (list o rs) = []
lent_output (locate a) = []

abbrev pub lent_rows : Call → List LinkRow
lent_rows (make a) = []
lent_rows (receive r) = []
lent_rows (burst a) = []
lent_rows (own a) = []
lent_rows (sweep t) = []
lent_rows (question o) = []
lent_rows (list o rs) = rs
lent_rows (locate a) = []

abbrev pub lent_answers : Call → List Received
lent_answers (make a) = []
lent_answers (receive r) = []
lent_answers (burst a) = a.answers
lent_answers (own a) = []
lent_answers (sweep t) = []
lent_answers (question o) = []
lent_answers (list o rs) = []
lent_answers (locate a) = []

-- ---- the cells c, whatever they hold, and any call

module _ (c : List ℕ) (call : Call) where
  -- refused by f
  pub record Refused (f : Fault) : Type 0 where
    -- it answers the number of f, one of 1 to 16; every other field is 0, but the place for 8 and 16
    pub number : number_of (call_on c call).reply.answer ≡ f.number
    pub among : is_refusal f.number ≡ true
    pub reply : (call_on c call).reply ≡ refusal call f
    -- no octet, row or cell is changed
    pub output : (call_on c call).reply.output ≡ lent_output call
    pub rows : (call_on c call).reply.rows ≡ lent_rows call
    pub answers : (call_on c call).reply.answers ≡ lent_answers call
    pub cells : (call_on c call).cells ≡ c

  -- not refused: the rules' reply, and in the cells the table that they leave; the number answered is none of 1 to 16
  pub record Accepted : Type 0 where
    pub reply : (call_on c call).reply ≡ (outcome_on c call).reply
    pub cells : (call_on c call).cells ≡ encode (outcome_on c call).state
    pub number : is_refusal (number_of (call_on c call).reply.answer) ≡ false

  pub record Demand1 : Type 0 where
    pub refused : (f : Fault) → first_of (facts_on c call) ≡ some f → Refused f
    pub accepted : first_of (facts_on c call) ≡ none → Accepted
