-- Where a number lies beside the window: what `position` answers in terms of distances, and that the three answers are exactly those of their words.
use Prim.Native.Nat.{ℕ, ◌+◌, ◌<◌, ◌≤◌}
use mathlib.Core.Path.{◌≡◌, refl, sym, ap, ◌∙◌}
use mathlib.Core.Bool.{Bool, true, false, cond, ◌&&◌, true≢false}
use lib.Dec.{ltb, leb}
use native.Mathlib.Omega.{arith}
use borrow.Author.Tests.{ltb-true, ltb-false, lt-ltb, le-ltb, leb-true, leb-false, le-leb, lt-leb}
use Rattle.window.specs.declared.Position.{Position}
use Rattle.window.specs.declared.Position.TheVariants.{New, Inside, Stale}
use Rattle.window.specs.Window.{numbers, new_most, distance, is_ahead, position, is_new, is_inside, is_stale, new, inside, stale}
use Rattle.window.specs.Laws.{Positions}
use Rattle.window.proofs.Numbers.{distance_round, distance_none}

module _ (c n : ℕ) (hc : c < numbers) (hn : n < numbers) where
  -- that is more than half way below it
  pub far_ahead : new_most + 1 < distance c n → is_ahead c n ≡ true
  far_ahead h = go (leb 1 (distance n c)) refl
    where
      go : (t : Bool) → leb 1 (distance n c) ≡ t → (t && leb (distance n c) new_most) ≡ true
      go true e = le-leb (distance n c) new_most (let r = distance_round c n hc hn (leb-true 1 (distance n c) e) in omega arith)
      go false e = absurd (let z = distance_none c n hc hn (let y = leb-false 1 (distance n c) e in omega arith) in omega arith)

  -- and any other number isn't
  pub not_ahead : distance c n ≤ new_most + 1 → is_ahead c n ≡ false
  not_ahead h = go (leb 1 (distance n c)) refl
    where
      go : (t : Bool) → leb 1 (distance n c) ≡ t → (t && leb (distance n c) new_most) ≡ false
      go true e = lt-leb (distance n c) new_most (let r = distance_round c n hc hn (leb-true 1 (distance n c) e) in omega arith)
      go false e = refl

-- ---- what the test answers

pub position-inside : (W c n : ℕ) → distance c n < W → position W c n ≡ Inside
unfolding position
position-inside W c n h = ap (λ (t : Bool). cond t Inside (cond (is_ahead c n) New Stale)) (lt-ltb (distance c n) W h)

position-outside : (W c n : ℕ) → W ≤ distance c n → position W c n ≡ cond (is_ahead c n) New Stale
unfolding position
position-outside W c n h = ap (λ (t : Bool). cond t Inside (cond (is_ahead c n) New Stale)) (le-ltb (distance c n) W h)

pub position-new : (W c n : ℕ) → c < numbers → n < numbers → W ≤ distance c n → new_most + 1 < distance c n → position W c n ≡ New
position-new W c n hc hn h l = position-outside W c n h ∙ ap (λ (t : Bool). cond t New Stale) (far_ahead c n hc hn l)

pub position-stale : (W c n : ℕ) → c < numbers → n < numbers → W ≤ distance c n → distance c n ≤ new_most + 1 → position W c n ≡ Stale
position-stale W c n hc hn h l = position-outside W c n h ∙ ap (λ (t : Bool). cond t New Stale) (not_ahead c n hc hn l)

-- ---- what is read from it, of any window

-- inside goes by the distance alone
pub inside_is : (W c n : ℕ) → inside W c n ≡ ltb (distance c n) W
unfolding inside position
inside_is W c n = go (ltb (distance c n) W) (is_ahead c n)
  where
    go : (t u : Bool) → is_inside (cond t Inside (cond u New Stale)) ≡ t
    go true u = refl
    go false true = refl
    go false false = refl

pub inside-lt : (W c n : ℕ) → inside W c n ≡ true → distance c n < W
inside-lt W c n h = ltb-true (distance c n) W (sym (inside_is W c n) ∙ h)

pub lt-inside : (W c n : ℕ) → distance c n < W → inside W c n ≡ true
lt-inside W c n h = inside_is W c n ∙ lt-ltb (distance c n) W h

pub outside-le : (W c n : ℕ) → inside W c n ≡ false → W ≤ distance c n
outside-le W c n h = ltb-false (distance c n) W (sym (inside_is W c n) ∙ h)

pub le-outside : (W c n : ℕ) → W ≤ distance c n → inside W c n ≡ false
le-outside W c n h = inside_is W c n ∙ le-ltb (distance c n) W h

-- a new number is not inside
pub new-outside : (W c n : ℕ) → new W c n ≡ true → inside W c n ≡ false
unfolding new inside
new-outside W c n = go (position W c n)
  where
    go : (p : Position) → is_new p ≡ true → is_inside p ≡ false
    go New h = refl
    go Inside h = absurd (true≢false (sym h))
    go Stale h = refl

pub inside_old : (W c n : ℕ) → inside W c n ≡ true → new W c n ≡ false
unfolding new inside
inside_old W c n = go (position W c n)
  where
    go : (p : Position) → is_inside p ≡ true → is_new p ≡ false
    go New h = absurd (true≢false (sym h))
    go Inside h = refl
    go Stale h = refl

-- and one that is neither new nor stale is
pub not-stale : (W c n : ℕ) → stale W c n ≡ false → new W c n ≡ false → inside W c n ≡ true
unfolding new inside stale
not-stale W c n = go (position W c n)
  where
    go : (p : Position) → is_stale p ≡ false → is_new p ≡ false → is_inside p ≡ true
    go New s h = absurd (true≢false h)
    go Inside s h = refl
    go Stale s h = absurd (true≢false s)

-- ---- the law

module _ (W : ℕ) (low : 1 ≤ W) (high : W ≤ new_most + 1) (c n : ℕ) where
  new_is : c < numbers → n < numbers → new W c n ≡ is_ahead c n
  unfolding new position
  new_is hc hn = go (ltb (distance c n) W) refl
    where
      go : (t : Bool) → ltb (distance c n) W ≡ t → is_new (cond t Inside (cond (is_ahead c n) New Stale)) ≡ is_ahead c n
      go true e = sym (not_ahead c n hc hn (let l = ltb-true (distance c n) W e in omega arith))
      go false e = turn (is_ahead c n)
        where
          turn : (u : Bool) → is_new (cond u New Stale) ≡ u
          turn true = refl
          turn false = refl

  stale_is : c < numbers → n < numbers → stale W c n ≡ (leb W (distance c n) && leb (distance c n) (new_most + 1))
  unfolding stale position
  stale_is hc hn = go (ltb (distance c n) W) refl
    where
      go : (t : Bool) → ltb (distance c n) W ≡ t → is_stale (cond t Inside (cond (is_ahead c n) New Stale)) ≡ (leb W (distance c n) && leb (distance c n) (new_most + 1))
      go true e = sym (ap (λ (u : Bool). u && leb (distance c n) (new_most + 1)) (lt-leb W (distance c n) (ltb-true (distance c n) W e)))
      go false e =
          far (leb (distance c n) (new_most + 1)) refl ∙ ap (λ (u : Bool). u && leb (distance c n) (new_most + 1)) (sym (le-leb W (distance c n) (ltb-false (distance c n) W e)))
        where
          far : (u : Bool) → leb (distance c n) (new_most + 1) ≡ u → is_stale (cond (is_ahead c n) New Stale) ≡ leb (distance c n) (new_most + 1)
          far true g = ap (λ (v : Bool). is_stale (cond v New Stale)) (not_ahead c n hc hn (leb-true (distance c n) (new_most + 1) g)) ∙ sym g
          far false g = ap (λ (v : Bool). is_stale (cond v New Stale)) (far_ahead c n hc hn (leb-false (distance c n) (new_most + 1) g)) ∙ sym g

one : (W c n : ℕ) → cond (new W c n) 1 0 + cond (inside W c n) 1 0 + cond (stale W c n) 1 0 ≡ 1
unfolding new inside stale
one W c n = go (position W c n)
  where
    go : (p : Position) → cond (is_new p) 1 0 + cond (is_inside p) 1 0 + cond (is_stale p) 1 0 ≡ 1
    go New = refl
    go Inside = refl
    go Stale = refl

pub positions : (W : ℕ) → 1 ≤ W → W ≤ new_most + 1 → Positions W
positions W low high = record { new_is = new_is W low high; inside_is = inside_is W; stale_is = stale_is W low high; one = one W }
