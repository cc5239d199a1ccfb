-- The head passes exactly where `head_ok` says so: too few cells never do; then the settings decide, then the numbers of rows and of cells.
use mathlib.Core.Path.{◌≡◌, sym, ◌∙◌}
use mathlib.Core.Bool.{true, false}
use Prim.Native.Nat.{◌≤◌}
use native.Mathlib.Omega.{arith}
use Rattle.rules.specs.Settings.{settings_ok, capacity_most}
use Rattle.rules.proofs.Config.{capacity-most}
use Rattle.table_settings.proofs.Checks.{head_by, head_short}
use Rattle.table_settings.proofs.head_ok.Goals as goal
use Rattle.table_settings.proofs.head_ok.Goals.{Else-not-settings_ok}

-- ---- the settings are allowed, so the capacity is small
allows : (c : goal.Else-not-settings_ok) → settings_ok c.settings_in-s.result ≡ true
allows c = sym c.settings_ok.ensures ∙ c.if-not-settings_ok.false

few : (c : goal.Else-not-settings_ok) → c.settings_in-s.result.capacity ≤ capacity_most
few c = capacity-most c.settings_in-s.result (allows c)

pub returns-then-cells-lt-RECORDS_FROM : goal.returns-then-cells-lt-RECORDS_FROM
returns-then-cells-lt-RECORDS_FROM c = sym (head_short c.args.cells.now c.if-cells-lt-RECORDS_FROM.true)

pub returns-then-not-settings_ok : goal.returns-then-not-settings_ok
returns-then-not-settings_ok c =
    sym (head_by c.args.cells.now c.settings_in-s.result c.settings_in-s.ensures false (sym c.settings_ok.ensures ∙ c.if-not-settings_ok.true))

pub overflow_mul-result : goal.overflow_mul-result
overflow_mul-result c = omega (arith, few (goal.at.overflow_mul-result c).Else-not-settings_ok)

pub overflow_add-result : goal.overflow_add-result
overflow_add-result c = omega (arith, few (goal.at.overflow_add-result c).Else-not-settings_ok)

pub returns : goal.returns
returns c =
    sym (head_by c.args.cells.now c.settings_in-s.result c.settings_in-s.ensures true (allows (goal.at.returns c).Else-not-settings_ok))
