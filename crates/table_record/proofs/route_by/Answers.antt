-- `route_by` takes the pair apart and counts the marks.
use mathlib.Core.Path.{ap}
use Prim.Native.Nat.{ℕ}
use Rattle.rules.specs.Calls.{neighbour_of, interface_of, route_by}
use Rattle.table_record.proofs.route_by.Goals as goal

pub returns : goal.returns
unfolding neighbour_of interface_of
returns c = let a = c.args in ap (λ (n : ℕ). route_by a.link n a.window) c.count.ensures
