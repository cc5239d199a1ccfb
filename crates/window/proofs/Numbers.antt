-- Sequence numbers: laws of the distance modulo 65,536. `distance` stays shut outside this file, so that `omega` has no remainder to split.
use Prim.Native.Nat.{ℕ, ◌+◌, ◌-◌, ◌%◌, ◌<◌, ◌≤◌}
use mathlib.Core.Path.{◌≡◌, refl, sym, ap, ◌∙◌}
use mathlib.Core.Bool.{Bool, true, false}
use lib.Dec.{eqb, lit<}
use native.Mathlib.Omega.{arith}
use native.Mathlib.Nat.{mod-lt, add-mod, add-mod_right}
use borrow.Author.Tests.{eqb-true, eqb-false, eq-eqb, ne_eqb}
use Rattle.window.specs.Window.{numbers, distance}

pub distance-lt : (c n : ℕ) → distance c n < numbers
unfolding distance
distance-lt c n = mod-lt (c + numbers - n) (lit< tt)

pub distance_self : (c : ℕ) → distance c c ≡ 0
unfolding distance
distance_self c = omega arith

pub distance_zero : (c : ℕ) → c < numbers → distance c 0 ≡ c
unfolding distance
distance_zero c h = omega arith

-- a number that lies above another lies as much below it as is left of all numbers
pub distance_round : (c n : ℕ) → c < numbers → n < numbers → 1 ≤ distance n c → distance c n + distance n c ≡ numbers
unfolding distance
distance_round c n hc hn h = omega arith

pub distance_none : (c n : ℕ) → c < numbers → n < numbers → distance n c ≡ 0 → distance c n ≡ 0
unfolding distance
distance_none c n hc hn h = omega arith

-- the number that lies as far below c as n does is n
pub distance_back : (c n : ℕ) → c < numbers → n < numbers → distance c (distance c n) ≡ n
unfolding distance
distance_back c n hc hn = omega arith

-- from a down to b, and on down to c
pub distance_on : (a b c : ℕ) → b < numbers → c < numbers → (distance a b + distance b c) % numbers ≡ distance a c
unfolding distance
distance_on a b c hb hc =
    let e : a + numbers - b + (b + numbers - c) ≡ a + numbers - c + numbers = omega arith in
    sym (add-mod (a + numbers - b) (b + numbers - c) numbers) ∙ ap (λ (x : ℕ). x % numbers) e ∙ add-mod_right (a + numbers - c) numbers

-- what lies k below n, at c or lower, lies k less the distance from n to c below c
pub distance_higher : (c n k : ℕ) → c < numbers → n < numbers → k < numbers → distance n c ≤ k → distance n k ≡ distance c (k - distance n c)
distance_higher c n k hc hn hk h =
    let m : ℕ = distance c (k - distance n c) in
    let hm : m < numbers = distance-lt c (k - distance n c) in
    let e : distance n m ≡ k = omega (arith, distance_on n c m hc hm, distance_back c (k - distance n c) hc (omega arith)) in
    ap (distance n) (sym e) ∙ distance_back n m hn hm

-- what lies k below n, still above c, lies as far below c as n does and k more
pub distance-lower : (c n k : ℕ) → c < numbers → n < numbers → k < distance n c → distance c n + k ≡ distance c (distance n k)
distance-lower c n k hc hn h =
    let back : distance n (distance n k) ≡ k = distance_back n k hn (omega (arith, distance-lt n c)) in
    omega (arith, distance_on c n (distance n k) hn (distance-lt n k), distance_on c n c hn hc, distance_self c, distance-lt c n, distance-lt n c)

-- n is the number k below c exactly if k is its distance
pub distance_turn : (c k n : ℕ) → c < numbers → n < numbers → k < numbers → eqb (distance c k) n ≡ eqb k (distance c n)
distance_turn c k n hc hn hk = go (eqb (distance c k) n) refl
  where
    go : (t : Bool) → eqb (distance c k) n ≡ t → t ≡ eqb k (distance c n)
    go true e = sym (eq-eqb k (distance c n) (sym (distance_back c k hc hk) ∙ ap (distance c) (eqb-true (distance c k) n e)))
    go false e = sym (ne_eqb k (distance c n) (λ d. eqb-false (distance c k) n e (ap (distance c) d ∙ distance_back c n hc hn)))
