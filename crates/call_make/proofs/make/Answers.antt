-- Make refuses by 12 exactly where it is not allowed, and else leaves the cells of a fresh table: the head, the interface rows written behind it, and zeros.
use borrow.Author.Rules.{rules}
use mathlib.Core.Path.{◌≡◌, sym, ap, ◌∙◌}
use mathlib.Core.Bool.{true}
use native.Mathlib.Omega.{arith}
use lib.ListN.{length}
use Rattle.rules.specs.Settings.{make_allowed, interface_most}
use Rattle.rules.proofs.Config.{within_low, within-high}
use Rattle.call_make.specs.Make.{make_args}
use Rattle.call_make.proofs.Making.{allowed-used, allowed-size, length-fresh, fresh_cells, made_by, not_made}
use Rattle.call_make.proofs.make.Goals as goal
use Rattle.call_make.proofs.make.Goals.{Else-not-make_allowed}

-- ---- what is known there
passed : (c : goal.Else-not-make_allowed) → make_allowed (length c.args.cells.now) (make_args c.args.settings c.args.rows c.args.used) ≡ true
passed c = sym c.make_allowed.ensures ∙ c.if-not-make_allowed.false

pub returns-then-not-make_allowed : goal.returns-then-not-make_allowed
returns-then-not-make_allowed c =
    rw c.number.ensures
    (not_made c.args.cells.now (make_args c.args.settings c.args.rows c.args.used) (sym c.make_allowed.ensures ∙ c.if-not-make_allowed.true))

pub fresh_rows-interfaces-requires : goal.fresh_rows-interfaces-requires
fresh_rows-interfaces-requires c =
    let h = allowed-used (length c.args.cells.now) (make_args c.args.settings c.args.rows c.args.used) (passed (goal.at.fresh_rows-interfaces-requires c).Else-not-make_allowed) in
    (within_low 1 interface_most c.args.used h, within-high 1 interface_most c.args.used h)

pub fill-requires : goal.fill-requires
fill-requires c =
    omega (arith, ap length c.fresh_head-head.ensures, allowed-size (length c.args.cells.now) (make_args c.args.settings c.args.rows c.args.used) (passed (goal.at.fill-requires c).Else-not-make_allowed))

pub write-requires : goal.write-requires
write-requires c =
    omega (arith, ap length c.fresh_rows-interfaces.ensures, length-fresh c.args.rows c.args.used, allowed-size (length c.args.cells.now) (make_args c.args.settings c.args.rows c.args.used) (passed (goal.at.write-requires c).Else-not-make_allowed), c.fill.auto.cells)

pub returns : goal.returns
returns c =
    let xs = c.args.cells.now in
    let p = passed (goal.at.returns c).Else-not-make_allowed in
    made_by xs (make_args c.args.settings c.args.rows c.args.used) p _
    (fresh_cells (length xs) (make_args c.args.settings c.args.rows c.args.used) (search rules) p c.fill.new.cells c.write.new.cells c.fresh_head-head.result c.fresh_rows-interfaces.result
    c.fresh_head-head.ensures c.fresh_rows-interfaces.ensures c.fill.ensures c.write.ensures)
