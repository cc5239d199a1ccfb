-- Laws of HNA entries as numbers. Assumes nothing.
use mathlib.Core.Path.{◌≡◌, refl, sym, ap, ap₂, ◌∙◌}
use mathlib.Core.Bool.{Bool, true, false}
use mathlib.Core.List.{List}
use mathlib.Core.Option.{Option, none, some}
use Prim.Native.Nat.{ℕ, zero, suc, ◌+◌, ◌<◌, ◌≤◌}
use native.Mathlib.Nat.{add-zero, zero-add}
use native.Mathlib.Omega.{arith}
use borrow.Author.Tests.{ltb-false, not-false}
use lib.Dec.{eqb}
use lib.ListN.{length, get_or}
use Rattle.lists.specs.Lists.{all, maybe}
use Rattle.lists.proofs.Tests.{both}
use Rattle.wire.specs.declared.Fault.{Fault}
use Rattle.wire.specs.Layout.{mask_most}
use Rattle.wire.specs.Check.{placed, entries, network, mask, first_breaking, entry_fault, bad_mask, mask_fault, host_bits, host_bits_set, host_bits_fault}
use Rattle.wire.specs.Entries.{entry_of, network_of, mask_of, is_clean, entry_at, entries_from, entries_of}
use Rattle.wire.proofs.Search.{nowhere_false}

-- ---- an entry's parts

pub network_of_lem : (n m : ℕ) → m < 256 → network_of (entry_of n m) ≡ n
unfolding network_of entry_of
network_of_lem n m h = omega arith

pub mask_of_lem : (n m : ℕ) → m < 256 → mask_of (entry_of n m) ≡ m
unfolding mask_of entry_of
mask_of_lem n m h = omega arith

-- ---- the entries of a packet

length_from : (n k : ℕ) (e : List ℕ) → length (entries_from n k e) ≡ n
length_from zero k e = refl
length_from (suc n) k e = ap suc (length_from n (k + 1) e)

pub length-entries : (e : List ℕ) → length (entries_of e) ≡ entries e
unfolding entries_of
length-entries e = length_from (entries e) 0 e

all_from : (p : ℕ → Bool) (n k : ℕ) (e : List ℕ) → ((j : ℕ) → j < k + n → p (entry_at e j) ≡ true) → all p (entries_from n k e) ≡ true
all_from p zero k e h = refl
all_from p (suc n) k e h = both (h k (omega arith)) (all_from p n (k + 1) e (λ j l. h j (omega arith)))

-- a test that each entry passes
pub all-entries : (p : ℕ → Bool) (e : List ℕ) → ((k : ℕ) → k < entries e → p (entry_at e k) ≡ true) → all p (entries_of e) ≡ true
unfolding entries_of
all-entries p e h = all_from p (entries e) 0 e (λ j l. h j (omega arith))

-- the entry at a place of the list
place_from : (n k : ℕ) (e : List ℕ) (i : ℕ) → i < n → get_or (entries_from n k e) i 0 ≡ entry_at e (k + i)
place_from zero k e i h = absurd (omega arith)
place_from (suc n) k e zero h = ap (entry_at e) (sym (add-zero k))
place_from (suc n) k e (suc i) h =
    let s : k + 1 + i ≡ k + suc i = omega arith in
    place_from n (k + 1) e i (omega arith) ∙ ap (entry_at e) s

pub entry_place : (e : List ℕ) (k : ℕ) → k < entries e → get_or (entries_of e) k 0 ≡ entry_at e k
unfolding entries_of
entry_place e k h = place_from (entries e) 0 e k h ∙ ap (entry_at e) (zero-add k)

-- ---- a packet without fault

-- no entry breaks a rule whose refusal isn't given
none-breaks : (n : ℕ) (breaks : List ℕ → ℕ → Bool) (e : List ℕ) → entry_fault n breaks e ≡ none → (k : ℕ) → k < entries e → breaks e k ≡ false
unfolding first_breaking
none-breaks n breaks e h = nowhere_false (breaks e) (entries e) (none_found (first_breaking breaks e) h)
  where
    none_found : (x : Option ℕ) → maybe {X = Option Fault} x none (λ j. some (placed n j)) ≡ none → x ≡ none
    none_found none q = refl
    none_found (some j) q = absurd (let z : ◌≡◌ {A = ℕ} 0 1 = cc in omega arith)

pub masks-low : (e : List ℕ) → mask_fault e ≡ none → (k : ℕ) → k < entries e → mask e k ≤ mask_most
masks-low e h k l = ltb-false mask_most (mask e k) (none-breaks 8 bad_mask e h k l)

-- as numbers, its entries have no host bits
pub all-clean : (e : List ℕ) → mask_fault e ≡ none → host_bits_fault e ≡ none → all is_clean (entries_of e) ≡ true
unfolding is_clean entry_at
all-clean e low h = all-entries is_clean e one
  where
    one : (k : ℕ) → k < entries e → is_clean (entry_at e k) ≡ true
    one k l =
        let n = network e k in
        let m = mask e k in
        let small : m < 256 = omega (arith, masks-low e low k l) in
        ap₂ (λ (x y : ℕ). eqb (host_bits x y) 0) (network_of_lem n m small) (mask_of_lem n m small) ∙ not-false (eqb (host_bits n m) 0) (none-breaks 16 host_bits_set e h k l)
