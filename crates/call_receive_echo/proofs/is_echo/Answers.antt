-- `call_receive_echo::is_echo` meets its contract: D, the address, that the interface has sent, and its last number. Assumes nothing.
use Rattle.call_receive_echo.proofs.Interfaces.{echo_is}
use Rattle.call_receive_echo.proofs.is_echo.Goals as goal

pub returns : goal.returns
returns c =
    λ p o f. echo_is c.args.cells.now c.requires.0 f c.requires.1 _ c.is_direct.ensures
