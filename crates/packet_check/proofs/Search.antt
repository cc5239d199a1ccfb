-- The search for an entry that breaks a rule. Assumes nothing.
use mathlib.Core.Path.{◌≡◌}
use mathlib.Core.Bool.{false, ◌||◌}
use mathlib.Core.List.{List}
use mathlib.Core.Option.{none}
use Prim.Native.Nat.{ℕ, ◌*◌, ◌<◌}
use native.Mathlib.Omega.{arith}
use lib.ListN.{length}
use Rattle.lists.proofs.Tests.{or_neither}
use Rattle.wire.specs.Layout.{entry_size}
use Rattle.wire.specs.Check.{entries, bad_mask, host_bits_set, first_breaking, hna_fault}
use Rattle.wire.proofs.Search.{nowhere}
use Rattle.wire.proofs.Order.{none_found}

-- none of them is found where all entries are without fault
pub all-passed : (hna : List ℕ) → length hna ≡ entry_size * entries hna → ((k : ℕ) → k < entries hna → bad_mask hna k || host_bits_set hna k ≡ false) → none ≡ hna_fault hna
unfolding first_breaking
all-passed hna l clean =
    none_found
    hna
    (omega arith)
    (nowhere (bad_mask hna) (entries hna) (λ k b. (or_neither (bad_mask hna k) (host_bits_set hna k) (clean k b)).0))
    (nowhere (host_bits_set hna) (entries hna) (λ k b. (or_neither (bad_mask hna k) (host_bits_set hna k) (clean k b)).1))
