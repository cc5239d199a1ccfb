-- `call_receive_relay::decide` meets its contract: by whether the originator has a record. Assumes nothing.
use mathlib.Core.Path.{◌≡◌, subst}
use Rattle.std.specs.Prelude.{ℕ, Result}
use Rattle.table_originators.specs.Originators.{RecordFound}
use Rattle.call_receive_relay.proofs.Messages.{missing_timely}
use Rattle.call_receive_relay.proofs.decide.Goals as goal
use Rattle.call_receive_relay.proofs.decide.Goals.{After-find_record}

-- what the search says of the originator
found : (c : goal.After-find_record) → let a = c.args in (x : Result ℕ ℕ) → c.find_record.result.found ≡ x → RecordFound a.cells.now a.m.originator x
found c x e = let a = c.args in subst (RecordFound a.cells.now a.m.originator) e c.find_record.ensures.found

pub heard_again-requires : goal.heard_again-requires
heard_again-requires c =
    (c.requires.0, c.requires.1, found (goal.at.heard_again-requires c).After-find_record _ c.in-Ok.is)

pub first_heard-requires : goal.first_heard-requires
first_heard-requires c =
    let m = found (goal.at.first_heard-requires c).After-find_record _ c.in-Err.is in (record { taken = c.requires.0; link = c.is_bidirectional-bidirectional.ensures; ruled = missing_timely c.requires.0 c.requires.1 m }, m)
