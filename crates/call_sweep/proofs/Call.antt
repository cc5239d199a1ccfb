-- The ways through a sweep's call. Assumes nothing.
use mathlib.Core.Path.{◌≡◌}
use mathlib.Core.Bool.{true, false}
use mathlib.Core.List.{List}
use Prim.Native.Nat.{ℕ, ◌≤◌, ◌<◌}
use native.Mathlib.Omega.{arith}
use borrow.Author.Tests.{lt-ltb, le-ltb}
use lib.ListN.{get_or}
use Rattle.wire.specs.Check.{numbered}
use Rattle.rules.specs.Calls.{Reply, sweep, swept, answered, refusal}
use Rattle.rules.specs.Rules.{unless, purge, step}
use Rattle.table_layout.specs.Layout.{time_at}
use Rattle.table_layout.specs.Cells.{decode, well_formed}
use Rattle.table_layout.specs.Calls.{Performed}
use Rattle.table_changes.specs.Left.{Left}
use Rattle.table_changes.proofs.Values.{time-read}
use Rattle.table_changes.proofs.Performing.{not-asked, does, refuses}
use Rattle.call_sweep.specs.Sweeping.{purged, swept_as}

module _ (c : List ℕ) (t : ℕ) where
  pub ill_formed : well_formed c ≡ false → Performed c (sweep t) (answered (swept (swept_as 1 0))) c
  unfolding refusal
  ill_formed e = not-asked c (sweep t) e

  module _ (well : well_formed c ≡ true) where
    pub early : t < get_or c time_at 0 → Performed c (sweep t) (answered (swept (swept_as 3 0))) c
    unfolding step unless refusal
    early h = refuses c (sweep t) well well (numbered 3) (rw (lt-ltb t (decode c).time (omega (arith, time-read c))))

    pub sweeps : get_or c time_at 0 ≤ t → (reply : Reply) (d : List ℕ) → Left (purged c t) reply d → Performed c (sweep t) reply d
    unfolding step unless purge
    sweeps h reply d l = does c (sweep t) well (purged c t) (rw (le-ltb t (decode c).time (omega (arith, time-read c)))) reply d l.replies l.leaves
