-- The tests of a burst, by what the code asks first and last. Assumes nothing.
use Prim.Native.Nat.{ℕ}
use mathlib.Core.Path.{◌≡◌, refl, sym, ap, ◌∙◌}
use mathlib.Core.Bool.{Bool, true, false, ◌&&◌}
use mathlib.Core.List.{List}
use lib.Dec.{leb, eqb}
use lib.ListN.{length}
use Rattle.lists.specs.Lists.{sum}
use Rattle.rules.specs.Settings.{packets_most}
use Rattle.rules.specs.Calls.{BurstArgs}
use Rattle.rules.specs.Rules.{burst_fits}
use Rattle.call_burst_checks.specs.Sizes.{Sizes}

joined : (a b c d e : Bool) → ((a && (b && (c && d))) && e) ≡ (a && (b && (c && (d && (e && true)))))
joined false b c d e = refl
joined true false c d e = refl
joined true true false d e = refl
joined true true true false e = refl
joined true true true true true = refl
joined true true true true false = refl

module _ (a : BurstArgs) (o : ℕ) (ns : List ℕ) (s i r : ℕ) (z : Sizes a o ns s i r) where
  -- what the code asks before the sum
  abbrev even : Bool
  even = eqb s (length ns) && (eqb i (length ns) && (leb (length ns) packets_most && leb (length ns) r))

  by_tests : (even && eqb (sum ns) o) ≡ burst_fits a
  unfolding burst_fits
  by_tests =
      rw (← z.of_octets_lem, ← z.of_lengths, ← z.of_senders, ← z.of_interfaces, ← z.of_rows)
      (joined (eqb (length a.senders) (length a.lengths)) (eqb (length a.interfaces) (length a.lengths)) (leb (length a.lengths) packets_most) (leb (length a.lengths) (length a.answers)) (eqb (sum a.lengths) (length a.octets)))

  pub uneven : even ≡ false → false ≡ burst_fits a
  uneven e = sym (ap (λ (b : Bool). b && eqb (sum ns) o) e) ∙ by_tests

  pub by_sum : even ≡ true → eqb (sum ns) o ≡ burst_fits a
  by_sum e = sym (ap (λ (b : Bool). b && eqb (sum ns) o) e) ∙ by_tests
