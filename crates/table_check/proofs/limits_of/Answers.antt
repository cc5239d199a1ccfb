-- What is read of the cells describes the configuration that they hold.
use mathlib.Core.Path.{refl}
use mathlib.Core.List.{[], ◌∷◌}
use lib.ListN.{get_or}
use Rattle.table_layout.specs.Layout.{own_place}
use Rattle.table_check.proofs.Limits.{describes}
use Rattle.table_check.proofs.limits_of.Goals as goal

pub returns : goal.returns
returns c =
    let xs = c.args.cells.now in
    let k = c.requires in
    describes xs k.used-least k.used-most _ refl refl refl (λ i. get_or xs (own_place 0) 0 ∷ c.own_at.ensures i ∷ c.own_at-2.ensures i ∷ c.own_at-3.ensures i ∷ [])
