-- Refused by 1, refused by 14, or received.
use mathlib.Core.Path.{◌≡◌, sym, ◌∙◌}
use mathlib.Core.Bool.{true}
use mathlib.Core.List.{[]}
use native.Mathlib.Omega.{arith}
use Rattle.rules.specs.Calls.{burst}
use Rattle.rules.specs.WellFormed.{typed}
use Rattle.table_layout.specs.Facts.{Knows}
use Rattle.table_check.proofs.Knowing.{knows}
use Rattle.call_burst.specs.Bursts.{burst_args}
use Rattle.call_burst.proofs.Calls.{typed_of, not_well_formed, unfit, enough, received_settles}
use Rattle.call_burst.proofs.burst.Goals as goal
use Rattle.call_burst.proofs.burst.Goals.{After-well_formed-2, Else-not-well_formed}

-- what is known of the arguments
in_range : (c : goal.After-well_formed-2) → let a = c.args in typed (burst (burst_args a.octets.now a.lengths.now a.senders.now a.interfaces.now a.time a.out.now [])) ≡ true
in_range c =
    let a = c.args in
    typed_of [] a.octets.now a.lengths.now a.senders.now a.interfaces.now a.time a.out.now 0 (λ k. omega (arith, c.type_inv.octets k)) (λ k. omega (arith, c.type_inv.senders k)) (omega (arith, c.ranges.time))

knows-else : (c : goal.Else-not-well_formed) → Knows c.args.cells.now
knows-else c = knows _ (sym c.well_formed-2.ensures ∙ c.if-not-well_formed.false)

-- ---- the three ways

pub returns-then-not-well_formed : goal.returns-then-not-well_formed
returns-then-not-well_formed c =
    not_well_formed _ _ _ _ _ _ _ _ (in_range (goal.at.returns-then-not-well_formed c).After-well_formed-2) (sym c.well_formed-2.ensures ∙ c.if-not-well_formed.true)

pub returns-then-not-fits : goal.returns-then-not-fits
returns-then-not-fits c =
    let at = goal.at.returns-then-not-fits c in
    unfit _ _ _ _ _ _ _ _ (knows-else at.Else-not-well_formed) (in_range at.After-well_formed-2) (λ a z. sym c.if-not-fits.true ∙ c.fits.ensures a z)

pub receive_each-requires : goal.receive_each-requires
receive_each-requires c =
    let a = c.args in
    enough _ _ _ _ _ a.time a.out.now a.room (knows-else (goal.at.receive_each-requires c).Else-not-well_formed) (λ b z. sym c.if-not-fits.false ∙ c.fits.ensures b z)

pub returns : goal.returns
returns c =
    let at = goal.at.returns c in
    received_settles _ _ _ _ _ _ _ _ (knows-else at.Else-not-well_formed) (λ a z. sym c.if-not-fits.false ∙ c.fits.ensures a z) _ _ _ (in_range at.After-well_formed-2) c.receive_each.ensures
