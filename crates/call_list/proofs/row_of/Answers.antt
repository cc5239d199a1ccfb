-- `row_of` puts together what the row of a link tells.
use Rattle.std.proofs.Common.{◌≡◌, ◌/◌, ◌%◌, Bool, true, false, cond, refl, ◌∙◌}
use Rattle.std.specs.Int.{from_bool}
use lib.Dec.{eqb}
use Rattle.rules.specs.Settings.{interface_most}
use Rattle.rules.specs.Calls.{neighbour_of, interface_of}
use Rattle.call_list.proofs.row_of.Goals as goal

as_number : (t : Bool) → from_bool t ≡ cond t 1 0
as_number true = refl
as_number false = refl

pub returns : goal.returns
unfolding neighbour_of interface_of
returns c =
    let a = c.args in
    λ i. record { neighbour = a.pair / interface_most; interface = a.pair % interface_most; count = c.count.ensures i; window = a.window; best = (c.from.ensures ∙ as_number (eqb a.best a.pair)) i }
