-- What becomes of a message that came to the record x, and what is answered of it. The rules are those of `rules`; here are names alone.
use Rattle.std.specs.Prelude.{ℕ, ◌≡◌, Bool, true, false, cond, ◌&&◌, ◌||◌, not, List, Result, Ok, Err, eqb}
use Rattle.std.proofs.Math.Option.{some}
use Rattle.lists.specs.Lists.{maybe}
use Rattle.wire.specs.declared.refusals.Refusal.{Refusal}
use Rattle.wire.specs.Refusals.{fault_by}
use Rattle.rules.specs.Settings.{Config}
use Rattle.rules.specs.Messages.{Message}
use Rattle.rules.specs.Rules.{sequence_of, route_of}
use Rattle.rules.specs.Table.{TableRecord, table, next_record, is_marked}
use Rattle.table_record.specs.Record.{encode_record, decode_record}
use Rattle.count_in_record.specs.Counting.{counted_fault}
use Rattle.hear_message.specs.declared.Answer.{Answer}
use Rattle.hear_message.specs.declared.Heard.{Heard}
use Rattle.hear_message.specs.declared.Heard.TheVariants as H

-- it is a duplicate
abbrev pub is_repeated : Config → Message → (x : TableRecord) → Bool
is_repeated κ m x = is_marked κ x m.link (sequence_of m)

-- it is no duplicate, or has the last TTL
abbrev pub is_fresh_in : Config → Message → (x : TableRecord) → Bool
is_fresh_in κ m x = not (is_repeated κ m x) || eqb m.ttl x.last_ttl

-- it is counted
abbrev pub is_counted : Config → Message → (bidirectional : Bool) → (x : TableRecord) → Bool
is_counted κ m b x = b && not (is_repeated κ m x)

-- the next record takes the place of x, unless it is refused
abbrev pub is_taken : Config → Message → (bidirectional : Bool) → (x : TableRecord) → Bool
is_taken κ m b x = is_counted κ m b x && maybe (counted_fault κ (next_record κ m x)) true (λ f. false)

-- the answer a by the record y that is left, where the message came by link l and is fresh or not
pub record Answered (κ : Config) (l : ℕ) (y : TableRecord) (new : Bool) (a : Answer) : Type 0 where
  pub fresh : a.fresh ≡ new
  pub best : a.best ≡ table.is_best κ y l
  pub route : a.route ≡ route_of table κ (some y)

-- what becomes of it: counted, not counted, or refused. It is fresh by x, best and route are by what is left
abbrev pub Answers : Config → Message → (bidirectional : Bool) → (x : TableRecord) → Result Heard Refusal → Type 0
Answers κ m b x (Ok (H.Counted a)) = (is_taken κ m b x ≡ true) × Answered κ m.link (next_record κ m x) (is_fresh_in κ m x) a
Answers κ m b x (Ok (H.Uncounted a)) = (is_counted κ m b x ≡ false) × Answered κ m.link x (is_fresh_in κ m x) a
Answers κ m b x (Err r) = (is_counted κ m b x ≡ true) × (counted_fault κ (next_record κ m x) ≡ some (fault_by r))

-- and the row of its cells is that of what is left
pub record HeardIn (κ : Config) (m : Message) (bidirectional : Bool) (before after : List ℕ) (r : Result Heard Refusal) : Type 0 where
  pub answers : Answers κ m bidirectional (decode_record before).1 r
  pub cells : after ≡ cond (is_taken κ m bidirectional (decode_record before).1) (encode_record ((decode_record before).0, next_record κ m (decode_record before).1)) before
