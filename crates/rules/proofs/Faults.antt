-- Lists of faults, and `unless`.
use Prim.Native.Nat.{ℕ, zero, suc, ◌+◌, ◌%◌}
use mathlib.Core.Path.{◌≡◌, refl}
use mathlib.Core.Bool.{Bool, true, false, ◌||◌, not}
use mathlib.Core.Option.{Option, none, some}
use mathlib.Core.List.{List, [], ◌∷◌, ◌++◌}
use lib.Dec.{ltb, eqb}
use lib.ListN.{length, get_or}
use native.Mathlib.Omega.{arith}
use Rattle.lists.specs.Lists.{maybe, all}
use Rattle.lists.proofs.Tests.{both, and_left}
use Rattle.wire.specs.declared.Fault.{Fault}
use Rattle.wire.specs.Layout.{header_size, entry_size, packet_most, version_at}
use Rattle.wire.specs.Packet.{octet, hna}
use Rattle.wire.specs.Check.{placed, given, first_of, size_fault, first_breaking, bad_mask, host_bits_set, hna_faults, hna_fault, packet_faults, packet_fault, written_fault}
use Rattle.rules.specs.Calls.{is_rule_refusal}
use Rattle.rules.specs.Rules.{unless}

-- no fault in a list: none at each place
pub none-at : (fs : List (Option Fault)) → first_of fs ≡ none → (k : ℕ) → get_or fs k none ≡ none
none-at [] h k = refl
none-at (none ∷ fs) h zero = refl
none-at (none ∷ fs) h (suc k) = none-at fs h k
none-at (some f ∷ fs) h k = absurd (let z : ◌≡◌ {A = ℕ} 0 1 = cc in omega arith)

pub not-given : (t : Bool) (n : ℕ) → given t n ≡ none → t ≡ false
not-given true n h = absurd (let z : ◌≡◌ {A = ℕ} 0 1 = cc in omega arith)
not-given false n h = refl

pub first-append : (xs ys : List (Option Fault)) → first_of (xs ++ ys) ≡ maybe (first_of xs) (first_of ys) some
first-append [] ys = refl
first-append (none ∷ xs) ys = first-append xs ys
first-append (some f ∷ xs) ys = refl

pub first-single : (x : Option Fault) → first_of (x ∷ []) ≡ x
first-single none = refl
first-single (some f) = refl

-- earlier faults, and then later ones
pub unless_then : {A : Type 0} (x y : Option Fault) (refuse : Fault → A) (o : A) → unless x refuse (unless y refuse o) ≡ unless (maybe x y some) refuse o
unfolding unless
unless_then none none refuse o = refl
unless_then none (some f) refuse o = refl
unless_then (some f) y refuse o = refl

-- ---- the numbers of refusals are 2 to 16

abbrev pub numbered : Option Fault → Bool
numbered x = maybe x true (λ f. is_rule_refusal f.number)

pub first-numbered : (fs : List (Option Fault)) → all numbered fs ≡ true → numbered (first_of fs) ≡ true
first-numbered [] h = refl
first-numbered (none ∷ fs) h = first-numbered fs h
first-numbered (some f ∷ fs) h = and_left (is_rule_refusal f.number) (all numbered fs) h

pub given-numbered : (t : Bool) (n : ℕ) → is_rule_refusal n ≡ true → numbered (given t n) ≡ true
given-numbered true n h = h
given-numbered false n h = refl

entry-numbered : (n : ℕ) (x : Option ℕ) → is_rule_refusal n ≡ true → numbered (maybe x none (λ k. some (placed n k))) ≡ true
entry-numbered n none h = refl
entry-numbered n (some k) h = h

hna-numbered : (e : List ℕ) → numbered (hna_fault e) ≡ true
unfolding hna_fault
hna-numbered e =
    first-numbered (hna_faults e)
    (both (given-numbered (not (eqb (length e % entry_size) 0)) 7 refl)
    (both (entry-numbered 8 (first_breaking bad_mask e) refl) (both (entry-numbered 16 (first_breaking host_bits_set e) refl) refl)))

pub packet-numbered : (v : ℕ) (p : List ℕ) → numbered (packet_fault v p) ≡ true
unfolding packet_fault
packet-numbered v p =
    first-numbered (packet_faults v p)
    (both (given-numbered (ltb (length p) header_size || ltb packet_most (length p)) 5 refl) (both (given-numbered (not (eqb (octet p version_at) v)) 6 refl) (both (hna-numbered (hna p)) refl)))

pub written-numbered : (e : List ℕ) → numbered (written_fault e) ≡ true
unfolding written_fault
written-numbered e =
    first-numbered (size_fault (header_size + length e) ∷ hna_fault e ∷ [])
    (both (given-numbered (ltb (header_size + length e) header_size || ltb packet_most (header_size + length e)) 5 refl) (both (hna-numbered e) refl))

-- of a packet without fault, each of the faults of its HNA octets is none
pub hna-none : (v : ℕ) (p : List ℕ) → packet_fault v p ≡ none → (k : ℕ) → get_or (hna_faults (hna p)) k none ≡ none
unfolding packet_fault hna_fault
hna-none v p h = none-at (hna_faults (hna p)) (none-at (packet_faults v p) h 2)
