-- The policy is read from the settings' cells, which a well-formed table has in their ranges.
use mathlib.Core.Path.{refl}
use Rattle.table_layout.specs.Cells.{decode}
use Rattle.table_originators.proofs.policy_of.Goals as goal

pub returns : goal.returns
unfolding decode
returns c = let k = c.requires.sized in (record { window = refl; tie = refl }, record { least = k.window-least; most = k.window-most; tie = k.tie })
