-- What a call does to the cells that it is lent: the rules' step on the table that they hold. And what every public call promises.
use Rattle.std.specs.Prelude.{◌≡◌, List, Bool, true, ℕ, length}
use Rattle.std.proofs.Math.Option.{Option, none, some}
use Rattle.lists.specs.Lists.{maybe}
use Rattle.rules.specs.Settings.{MakeArgs, make_allowed}
use Rattle.rules.specs.Calls.{ReceiveArgs, BurstArgs, packets_of, Call, make, receive, burst, own, sweep, question, list, locate, Reply, refusal}
use Rattle.rules.specs.Rules.{Each, receive_each, branch, step}
use Rattle.rules.specs.Table.{table}
use Rattle.rules.specs.WellFormed.{typed}
use Rattle.table_layout.specs.Cells.{encode, decode, well_formed}

-- a call's reply, and the cells as it leaves them
pub record Done : Type 0 where
  pub reply : Reply
  pub cells : List ℕ

-- refused: nothing is changed
abbrev pub refused : List ℕ → Call → (number : ℕ) → Done
refused c call n = record { reply = refusal call (record { number = n; place = 0 }); cells = c }

-- by the rules, which may refuse it too
abbrev pub stepped : List ℕ → Call → Done
stepped c call = record { reply = (step table (length c) (decode c) call).reply; cells = encode (step table (length c) (decode c) call).state }

-- what a make is given; every other call is on a table that was made
abbrev pub make_of : Call → Option MakeArgs
make_of (make a) = some a
make_of (receive r) = none
make_of (burst a) = none
make_of (own a) = none
make_of (sweep t) = none
make_of (question o) = none
make_of (list o rs) = none
make_of (locate a) = none

-- what a call asks of the cells: make, only that they are as many as it needs; every other, that they are a well-formed table's (RULES 8.2)
abbrev pub meets : List ℕ → Call → Bool
meets c call = maybe (make_of call) (well_formed c) (λ a. make_allowed (length c) a)

-- the refusal where they are not
abbrev pub unmet : Call → ℕ
unmet call = maybe (make_of call) 1 (λ a. 12)

unfoldable pub call_on : List ℕ → Call → Done
call_on c call = branch (meets c call) (stepped c call) (refused c call (unmet call))

-- a single received packet: its reply, and the cells as it leaves them
abbrev pub receive_in : List ℕ → ReceiveArgs → Reply × List ℕ
receive_in c r = ((call_on c (receive r)).reply, (call_on c (receive r)).cells)

-- the packets of a burst, each a single call on the cells that the one before left (RULES 6.9)
abbrev pub burst_in : List ℕ → BurstArgs → Each (List ℕ)
burst_in c a = receive_each receive_in a.time c a.output (packets_of a)

-- ---- what a call promises, whatever it is lent (RULES 13.1)

-- lent the cells c, the call gives the rules' reply (its answer, and output and rows as it leaves them), and leaves the cells as they say
pub record Performed (c : List ℕ) (call : Call) (reply : Reply) (cells : List ℕ) : Type 0 where
  pub replies : reply ≡ (call_on c call).reply
  pub leaves : cells ≡ (call_on c call).cells

-- a public call's contract: besides, its arguments are in the ranges of their types, which histories ask for
pub record Promised (c : List ℕ) (call : Call) (reply : Reply) (cells : List ℕ) : Type 0 where
  pub performed : Performed c call reply cells
  pub typed : typed call ≡ true
