-- The code's test is `stays_after`, a recorded number being a sequence number.
use mathlib.Core.Path.{ap, ◌∙◌}
use mathlib.Core.Bool.{not, ◌||◌}
use Prim.Native.Nat.{ℕ, ◌%◌}
use native.Mathlib.Nat.{mod-eq_of_lt}
use lib.Dec.{ltb, eqb}
use Rattle.window.specs.Window.{distance}
use Rattle.rules.specs.Calls.{interface_of}
use Rattle.table_neighbours.proofs.stays.Goals as goal

pub returns : goal.returns
unfolding interface_of
returns c =
    let a = c.args in
    ap (λ (d : ℕ). not (eqb (a.link % 4) a.interface) || ltb d a.timeout) (c.distance.ensures ∙ ap (distance a.last) (mod-eq_of_lt c.requires))
