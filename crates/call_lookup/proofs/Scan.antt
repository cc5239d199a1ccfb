-- One entry more, and one originator more, in the scan. Assumes nothing.
use mathlib.Core.Path.{◌≡◌, sym, ap, ap₂, ◌∙◌}
use mathlib.Core.List.{List, ◌∷◌}
use mathlib.Core.Bool.{Bool, true, false, cond, ◌&&◌, and-false}
use Prim.Native.Nat.{ℕ, ◌+◌, ◌≤◌, ◌<◌}
use native.Mathlib.Numerals.{add-one}
use native.Mathlib.Omega.{arith}
use lib.Dec.{leb, eqb}
use lib.ListN.{length, drop, get_or, drop_of_length-le}
use lib.Seq.{drop-cons}
use borrow.Author.Tests.{le-leb, lt-leb}
use Rattle.lists.proofs.Tests.{both}
use Rattle.wire.specs.Entries.{network_of, mask_of}
use Rattle.rules.specs.Lookup.{leading, covers}
use Rattle.call_lookup.specs.declared.Best.{Best}
use Rattle.call_lookup.specs.Scan.{seen_one, seen_by, seen_all}

-- ---- one entry

abbrev taken : (originator entry : ℕ) → Best
taken o e = record { least = mask_of e + 1; originator = o; network = network_of e }

-- its mask, then its network as they were read
module _ (a o e : ℕ) (b : Best) {mask : ℕ} (m : mask ≡ mask_of e) where
  -- too short
  pub short : mask < b.least → b ≡ seen_one a o e b
  unfolding seen_one
  short h = sym (ap (λ (t : Bool). cond (t && covers a e) (taken o e) b) (lt-leb b.least (mask_of e) (omega arith)))

  module _ {network : ℕ} (n : network ≡ network_of e) {r : Bool} (agrees : r ≡ eqb (leading mask network) (leading mask a)) where
    covers_is : covers a e ≡ r
    unfolding covers
    covers_is = sym (agrees ∙ ap₂ (λ (x y : ℕ). eqb (leading x y) (leading x a)) m n)

    -- it does not cover the address
    pub missed : r ≡ false → b ≡ seen_one a o e b
    unfolding seen_one
    missed h = sym (ap (λ (t : Bool). cond (leb b.least (mask_of e) && t) (taken o e) b) (covers_is ∙ h) ∙ ap (λ (t : Bool). cond t (taken o e) b) (and-false (leb b.least (mask_of e))))

    pub better : b.least ≤ mask → r ≡ true → record { least = mask + 1; originator = o; network = network } ≡ seen_one a o e b
    unfolding seen_one
    better l h =
        ap₂ (λ (x y : ℕ). record { least = x + 1; originator = o; network = y }) m n
        ∙ sym (ap (λ (t : Bool). cond t (taken o e) b) (both (le-leb b.least (mask_of e) (omega arith)) (covers_is ∙ h)))

-- ---- the originators

module _ (xs : List (ℕ × List ℕ)) (a : ℕ) where
  pub next-originator : (i : ℕ) (d : ℕ × List ℕ) (b : Best) → i < length xs
      → seen_all a (drop i xs) b ≡ seen_all a (drop (i + 1) xs) (seen_by a (get_or xs i d).0 (get_or xs i d).1 b)
  next-originator i d b l = ap (λ (ys : List (ℕ × List ℕ)). seen_all a ys b) (drop-cons xs i d l ∙ ap (λ (j : ℕ). get_or xs i d ∷ drop j xs) (sym (add-one i)))

  pub no_originator : (i : ℕ) (b : Best) → length xs ≤ i → seen_all a (drop i xs) b ≡ b
  no_originator i b l = ap (λ (ys : List (ℕ × List ℕ)). seen_all a ys b) (drop_of_length-le xs l)
