-- `call_receive_checks::is_listed` meets its contract: one to four cells are compared. Assumes nothing.
use Rattle.call_receive_checks.proofs.Listed.{listed_is}
use Rattle.call_receive_checks.proofs.is_listed.Goals as goal

pub returns : goal.returns
returns c =
    λ f e. listed_is c.args.cells.now c.requires.0 f c.args.place e c.requires.1 c.args.address
