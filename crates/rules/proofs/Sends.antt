-- The numbers of own packets.
use Prim.Native.Nat.{ℕ, ◌+◌, ◌%◌, ◌<◌}
use mathlib.Core.Path.{◌≡◌, refl, ap}
use mathlib.Core.Bool.{true, false}
use mathlib.Core.Option.{Option, none, some}
use lib.Dec.{eqb}
use native.Mathlib.Omega.{arith}
use borrow.Author.Tests.{ltb-true, lt-ltb}
use Rattle.lists.specs.Lists.{maybe, all}
use Rattle.lists.specs.Keyed.{lookup}
use Rattle.lists.proofs.Keyed.{lookup-put, lookup-put-other, lookup-all, all-put}
use Rattle.window.specs.Window.{numbers, distance}
use Rattle.window.proofs.Numbers.{distance-lt}
use Rattle.rules.specs.Settings.{is_number, Config, allowed, interface_at}
use Rattle.rules.specs.Rules.{Sends, last_sent, next_number, send_on}
use Rattle.rules.proofs.Config.{first-lt}

-- every number sent is one of two octets
abbrev pub Fit : Sends → Type 0
Fit ns = all (λ e. is_number e.1) ns ≡ true

-- one more than the number below n
after-below : (n : ℕ) → n < numbers → n ≡ (distance n 1 + 1) % numbers
unfolding distance
after-below n h = omega arith

module _ (κ : Config) (h : allowed κ ≡ true) (ns : Sends) where
  pub next-lt : (i : ℕ) → next_number κ ns i < numbers
  unfolding next_number
  next-lt i = go (lookup i ns)
    where
      go : (x : Option ℕ) → maybe x (interface_at κ i).first (λ n. (n + 1) % numbers) < numbers
      go none = first-lt κ h i
      go (some n) = omega arith

  -- the next number is one more than the last
  pub next_last : (i : ℕ) → next_number κ ns i ≡ (last_sent κ ns i + 1) % numbers
  unfolding next_number last_sent
  next_last i = go (lookup i ns)
    where
      go : (x : Option ℕ) → maybe x (interface_at κ i).first (λ n. (n + 1) % numbers) ≡ (maybe x (distance (interface_at κ i).first 1) (λ n. n) + 1) % numbers
      go none = after-below (interface_at κ i).first (first-lt κ h i)
      go (some n) = refl

  pub fit-send_on : (i : ℕ) → Fit ns → Fit (send_on κ ns i)
  fit-send_on i f = all-put (λ e. is_number e.1) i (next_number κ ns i) ns (lt-ltb (next_number κ ns i) numbers (next-lt i)) f

pub last-lt : (κ : Config) (ns : Sends) → Fit ns → (i : ℕ) → last_sent κ ns i < numbers
unfolding last_sent
last-lt κ ns f i = go (lookup i ns) refl
  where
    go : (x : Option ℕ) → lookup i ns ≡ x → maybe x (distance (interface_at κ i).first 1) (λ n. n) < numbers
    go none e = distance-lt (interface_at κ i).first 1
    go (some n) e = ltb-true n numbers (lookup-all (λ x. is_number x.1) i n ns f e)

-- what an interface sends is its last number then, and other interfaces keep theirs
pub last-own : (κ : Config) (ns : Sends) (i : ℕ) → last_sent κ (send_on κ ns i) i ≡ next_number κ ns i
unfolding last_sent
last-own κ ns i = ap (λ (x : Option ℕ). maybe x (distance (interface_at κ i).first 1) (λ n. n)) (lookup-put i (next_number κ ns i) ns)

pub last-other : (κ : Config) (ns : Sends) (i j : ℕ) → eqb j i ≡ false → last_sent κ (send_on κ ns i) j ≡ last_sent κ ns j
unfolding last_sent
last-other κ ns i j h = ap (λ (x : Option ℕ). maybe x (distance (interface_at κ j).first 1) (λ n. n)) (lookup-put-other j i (next_number κ ns i) ns h)
