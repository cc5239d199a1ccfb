-- Settings pass exactly where every test of `settings_tests` does, however many there are.
use mathlib.Core.Path.{◌≡◌}
use mathlib.Core.Bool.{true, and-true, and_assoc}
use Prim.Native.Nat.{ℕ, zero-le}
use lib.Dec.{leb}
use borrow.Author.Tests.{le-leb}
use Rattle.rules.specs.Settings.{settings_ok}
use Rattle.table_settings.proofs.settings_ok.Goals as goal

from_zero : (n : ℕ) → leb 0 n ≡ true
from_zero n = le-leb 0 n zero-le

pub returns : goal.returns
unfolding settings_ok
returns c = simp (from_zero, and-true, and_assoc)
