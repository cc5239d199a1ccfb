-- A table can be made exactly where `make_allowed` says so: each test that fails answers, and with all else allowed the number of cells decides.
use borrow.Author.Rules.{rules}
use mathlib.Core.Path.{◌≡◌, sym, ap, ◌∙◌}
use mathlib.Core.Bool.{true}
use Prim.Native.Nat.{◌≤◌}
use native.Mathlib.Omega.{arith}
use lib.ListN.{get_or}
use Rattle.cells.proofs.Bools.{fails}
use Rattle.rules.specs.Settings.{make_allowed, config_of, settings_ok, capacity_most, interface_most, within, differ, own_addresses}
use Rattle.call_make.specs.Make.{make_args, no_interface}
use Rattle.rules.proofs.Config.{capacity-most}
use Rattle.call_make.proofs.Making.{four, in_range, four_in_range, own_four, allowed-settings, allowed-used, allowed-differ, size_decides}
use Rattle.call_make.proofs.make_allowed.Goals as goal
use Rattle.call_make.proofs.make_allowed.Goals.{After-own_differ, Else-not-settings_ok, Else-not-used}

-- ---- what the tests have shown
settings : (c : goal.Else-not-settings_ok) → settings_ok c.args.settings ≡ true
settings c = sym c.settings_ok.ensures ∙ c.if-not-settings_ok.false

few : (c : goal.Else-not-settings_ok) → c.args.settings.capacity ≤ capacity_most
few c = capacity-most c.args.settings (settings c)

used : (c : goal.Else-not-used) → within 1 interface_most c.args.used ≡ true
used c = c.if-not-used.false

apart : (c : goal.After-own_differ) → c.own_differ.result ≡ differ (own_addresses (config_of (make_args c.args.settings c.args.rows c.args.used)))
apart c =
    c.own_differ.ensures ∙ ap differ (own_four c.args.settings c.args.rows c.args.used _ _ _ _ (four no_interface c.args.rows (search rules)))

pub returns-then-not-settings_ok : goal.returns-then-not-settings_ok
returns-then-not-settings_ok c =
    sym (fails (make_allowed c.args.n (make_args c.args.settings c.args.rows c.args.used)) (settings_ok c.args.settings) (allowed-settings c.args.n (make_args c.args.settings c.args.rows c.args.used)) (sym c.settings_ok.ensures ∙ c.if-not-settings_ok.true))

pub returns-then-not-used : goal.returns-then-not-used
returns-then-not-used c =
    sym (fails (make_allowed c.args.n (make_args c.args.settings c.args.rows c.args.used)) (within 1 interface_most c.args.used) (allowed-used c.args.n (make_args c.args.settings c.args.rows c.args.used)) (c.if-not-used.true))

pub returns-then-not-own_differ : goal.returns-then-not-own_differ
returns-then-not-own_differ c =
    sym (fails (make_allowed c.args.n (make_args c.args.settings c.args.rows c.args.used)) (differ (own_addresses (config_of (make_args c.args.settings c.args.rows c.args.used)))) (allowed-differ c.args.n (make_args c.args.settings c.args.rows c.args.used)) (sym (apart (goal.at.returns-then-not-own_differ c).After-own_differ) ∙ c.if-not-own_differ.true))

pub overflow_mul-result : goal.overflow_mul-result
overflow_mul-result c = omega (arith, few (goal.at.overflow_mul-result c).Else-not-settings_ok)

pub overflow_add-result : goal.overflow_add-result
overflow_add-result c = omega (arith, few (goal.at.overflow_add-result c).Else-not-settings_ok)

pub returns : goal.returns
returns c =
    let a = c.args in
    let rows = a.rows in
    let k1 = c.struct_known-1.given in
    let k2 = c.struct_known-2-1.given in
    let k3 = c.struct_known-3-1.given in
    let k4 = c.struct_known-4-1.given in
    let ranges = four_in_range (four no_interface rows (search rules))
    (in_range (get_or rows 0 no_interface) k1.0.fits k1.1.0.fits k1.1.1.0.fits)
    (in_range (get_or rows 1 no_interface) k2.0.fits k2.1.0.fits k2.1.1.0.fits)
    (in_range (get_or rows 2 no_interface) k3.0.fits k3.1.0.fits k3.1.1.0.fits)
    (in_range (get_or rows 3 no_interface) k4.0.fits k4.1.0.fits k4.1.1.0.fits) in
    size_decides a.n (make_args c.args.settings c.args.rows c.args.used) (search rules) ranges (settings (goal.at.returns c).Else-not-settings_ok) (used (goal.at.returns c).Else-not-used) (sym (apart (goal.at.returns c).After-own_differ) ∙ c.if-not-own_differ.false)
