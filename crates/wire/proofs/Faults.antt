-- How large a refusal's numbers are: a number of at most `number_most`, and a place of at most m. Assumes nothing.
use mathlib.Core.Path.{◌≡◌, refl, subst}
use mathlib.Core.Bool.{Bool, true, false, not, ◌||◌, ◌&&◌, or-true}
use mathlib.Core.List.{List, [], ◌∷◌}
use mathlib.Core.Option.{Option, none, some}
use Prim.Native.Nat.{ℕ, ◌/◌, ◌%◌, ◌≤◌, ◌<◌}
use native.Mathlib.Omega.{arith}
use borrow.Author.Tests.{ltb-false, leb-true, le-leb}
use lib.Dec.{ltb, leb, eqb}
use lib.ListN.{length, length-drop}
use Rattle.lists.specs.Lists.{maybe, all}
use Rattle.lists.proofs.Tests.{and_left, and_right}
use Rattle.wire.specs.declared.Fault.{Fault}
use Rattle.wire.specs.Layout.{header_size, entry_size, packet_most, version_at}
use Rattle.wire.specs.Packet.{octet, hna}
use Rattle.wire.specs.Check.{placed, given, first_of, entries, first_breaking, entry_fault, bad_mask, host_bits_set, hna_faults, hna_fault, packet_faults, packet_fault}
use Rattle.wire.proofs.Search.{below}

-- the last of the refusals that rest on a packet's octets
abbrev pub number_most : ℕ
number_most = 16

unfoldable is_small : ℕ → Option Fault → Bool
is_small m x = maybe x true (λ f. leb f.number number_most && leb f.place m)

-- where all of a list are small, the first of them is
first_small : (m : ℕ) (fs : List (Option Fault)) → all (is_small m) fs ≡ true → is_small m (first_of fs) ≡ true
unfolding is_small
first_small m [] h = refl
first_small m (none ∷ fs) h = first_small m fs h
first_small m (some f ∷ fs) h = and_left (leb f.number number_most && leb f.place m) (all (is_small m) fs) h

given-small : (m : ℕ) (t : Bool) (n : ℕ) → n ≤ number_most → is_small m (given t n) ≡ true
unfolding is_small
given-small m true n h = rw (le-leb n number_most h, le-leb 0 m (omega arith))
given-small m false n h = refl

-- of an entry that breaks a rule
entry-small : (n : ℕ) (breaks : List ℕ → ℕ → Bool) (e : List ℕ) → n ≤ number_most → is_small (length e) (entry_fault n breaks e) ≡ true
unfolding is_small first_breaking
entry-small n breaks e l = go (first_breaking breaks e) (below (breaks e) (entries e))
  where
    go : (x : Option ℕ) → ((k : ℕ) → x ≡ some k → k < length e / entry_size) → is_small (length e) (maybe x none (λ k. some (placed n k))) ≡ true
    go none h = refl
    go (some k) h = rw (le-leb n number_most l, le-leb k (length e) (omega (arith, h k refl)))

wider : (m n : ℕ) (x : Option Fault) → m ≤ n → is_small m x ≡ true → is_small n x ≡ true
unfolding is_small
wider m n none l h = refl
wider m n (some f) l h =
    rw (and_left (leb f.number number_most) (leb f.place m) h, le-leb f.place n (omega (arith, leb-true f.place m (and_right (leb f.number number_most) (leb f.place m) h))))

hna-small : (e : List ℕ) → is_small (length e) (hna_fault e) ≡ true
unfolding hna_fault
hna-small e =
    first_small (length e) (hna_faults e) (rw (
      given-small (length e) (not (eqb (length e % entry_size) 0)) 7 (omega arith),
      entry-small 8 bad_mask e (omega arith),
      entry-small 16 host_bits_set e (omega arith),
    ))

too_long : (v : ℕ) (p : List ℕ) → ltb packet_most (length p) ≡ true → is_small packet_most (packet_fault v p) ≡ true
unfolding packet_fault is_small
too_long v p e = rw (e, or-true)

small-packet : (v : ℕ) (p : List ℕ) → is_small packet_most (packet_fault v p) ≡ true
unfolding packet_fault
small-packet v p = go (ltb packet_most (length p)) refl
  where
    low : Bool
    low = ltb (length p) header_size

    go : (t : Bool) → ltb packet_most (length p) ≡ t → is_small packet_most (packet_fault v p) ≡ true
    go true e = too_long v p e
    go false e =
        let l : length (hna p) ≤ packet_most = omega (arith, length-drop header_size p, ltb-false packet_most (length p) e) in
        first_small packet_most (packet_faults v p) (rw (
          given-small packet_most (low || ltb packet_most (length p)) 5 (omega arith),
          given-small packet_most (not (eqb (octet p version_at) v)) 6 (omega arith),
          wider (length (hna p)) packet_most (hna_fault (hna p)) l (hna-small (hna p)),
        ))

pub record Small (m : ℕ) (f : Fault) : Type 0 where
  pub number : f.number ≤ number_most
  pub place : f.place ≤ m

pub packet-small : (v : ℕ) (p : List ℕ) (f : Fault) → packet_fault v p ≡ some f → Small packet_most f
unfolding is_small
packet-small v p f e =
    let h : is_small packet_most (some f) ≡ true = subst (λ (x : Option Fault). is_small packet_most x ≡ true) e (small-packet v p) in
    record {
      number = leb-true f.number number_most (and_left (leb f.number number_most) (leb f.place packet_most) h);
      place = leb-true f.place packet_most (and_right (leb f.number number_most) (leb f.place packet_most) h);
    }
