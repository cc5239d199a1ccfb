-- A turn of the loops that read cells, as equations of tests, and keys that rise as the rules say it. Assumes nothing.
use mathlib.Core.Path.{◌≡◌, refl, sym, ap, ◌∙◌}
use mathlib.Core.List.{List, [], ◌∷◌, map}
use mathlib.Core.Bool.{Bool, true, false, ◌&&◌, and-true, and_assoc}
use Prim.Native.Nat.{ℕ, zero, suc, ◌+◌, ◌*◌, ◌-◌, ◌≤◌, ◌<◌, zero-le}
use native.Mathlib.Nat.{suc-mul, add-zero, zero-mul, not-suc-le-zero, le_of_suc-le-suc}
use native.Mathlib.Omega.{arith}
use native.Mathlib.Numerals.{add-one}
use lib.Bits.{bit_or, or_zero_l, or_add_and, and_le_r}
use lib.Dec.{leb, ltb, eqb}
use lib.ListN.{length, take, drop, get_or}
use lib.Seq.{get_or-drop, get_or-take, drop-drop}
use borrow.Author.Tests.{le-leb, leb-true, ne_eqb}
use Rattle.std.specs.Prelude.{fold}
use Rattle.lists.specs.Lists.{all}
use Rattle.lists.specs.Keyed.{rising}
use Rattle.cells.specs.Area.{key_of, rows_of, column, rise_from, rise, scan}
use Rattle.cells.proofs.Trips.{length-decoded}

-- ---- zeros

-- two words have no bit together exactly if neither has one
no_bit : (a b : ℕ) → eqb (bit_or a b) 0 ≡ (eqb a 0 && eqb b 0)
no_bit zero b = rw (or_zero_l b)
no_bit (suc a) b =
    ne_eqb (bit_or (suc a) b) 0 (omega (arith, or_add_and (suc a) b, and_le_r (suc a) b)) ∙ sym (ap (λ (t : Bool). t && eqb b 0) (ne_eqb (suc a) 0 (omega arith)))

-- a test of every cell by joined bits: v are those joined before, and f makes of a cell 0 exactly where it passes
module _ (f : ℕ → ℕ) (p : ℕ → Bool) (e : (x : ℕ) → eqb (f x) 0 ≡ p x) where
  joined-from : (v : ℕ) (c : List ℕ) → eqb (fold (λ b x. bit_or b (f x)) v c) 0 ≡ eqb v 0 && all p c
  joined-from v [] = sym (and-true (eqb v 0))
  joined-from v (x ∷ c) =
      joined-from (bit_or v (f x)) c ∙ ap (λ (b : Bool). b && all p c) (no_bit v (f x)) ∙ and_assoc (eqb v 0) (eqb (f x) 0) (all p c)
      ∙ ap (λ (b : Bool). eqb v 0 && (b && all p c)) (e x)

  pub joined : (c : List ℕ) → eqb (fold (λ b x. bit_or b (f x)) 0 c) 0 ≡ all p c
  joined c = joined-from 0 c

-- ---- rows and their keys

pub one-row : (k w : ℕ) → 0 < k → k * w ≡ (k - 1) * w + w
one-row k w h = let e : k ≡ suc (k - 1) = omega arith in ap (λ (n : ℕ). n * w) e ∙ suc-mul (k - 1) w

-- `left` rows from place `at` on
pub rows-one : (w : ℕ) (c : List ℕ) (at left : ℕ) → 0 < left → rows_of w left (drop at c) ≡ take w (drop at c) ∷ rows_of w (left - 1) (drop (at + w) c)
rows-one w c at left h =
    let e : left ≡ suc (left - 1) = omega arith in
    ap (λ (k : ℕ). rows_of w k (drop at c)) e ∙ ap (λ (l : List ℕ). take w (drop at c) ∷ rows_of w (left - 1) l) (drop-drop w at c)

pub rows_none : (w : ℕ) (c : List ℕ) (at left : ℕ) → left ≤ 0 → rows_of w left (drop at c) ≡ []
rows_none w c at left h = let e : left ≡ 0 = omega arith in ap (λ (k : ℕ). rows_of w k (drop at c)) e

-- a cell of the row at place `at`
pub row_cell : (w : ℕ) (c : List ℕ) (at j : ℕ) → j < w → get_or (take w (drop at c)) j 0 ≡ get_or c (at + j) 0
row_cell w c at j h = get_or-take w (drop at c) j 0 h ∙ get_or-drop at c j 0

pub row-key : (w : ℕ) (c : List ℕ) (at : ℕ) → 0 < w → key_of (take w (drop at c)) ≡ get_or c at 0
row-key w c at z = row_cell w c at 0 z ∙ ap (λ (k : ℕ). get_or c k 0) (add-zero at)

pub length-column : (w n : ℕ) (c : List ℕ) → length (column w n c) ≡ n
length-column w n c = length-decoded key_of w n c

pub get_or_column : (w n : ℕ) (c : List ℕ) (j : ℕ) → 0 < w → j < n → get_or (column w n c) j 0 ≡ get_or c (j * w) 0
get_or_column w zero c j z h = absurd (not-suc-le-zero h)
get_or_column w (suc n) c zero z h = get_or-take w c 0 0 z ∙ rw (zero-mul w)
get_or_column w (suc n) c (suc j) z h =
    let e : w + j * w ≡ suc j * w = rw (suc-mul j w) (omega arith) in
    get_or_column w n (drop w c) j z (le_of_suc-le-suc h) ∙ get_or-drop w c (j * w) 0 ∙ ap (λ (n : ℕ). get_or c n 0) e

-- ---- the rules say it of pairs: each key is below all that follow

abbrev pub keys_of : {A : Type 0} → List (ℕ × A) → List ℕ
keys_of es = map (λ e. e.0) es

-- keys all above k are none below a number up to k + 1
module _ {A : Type 0} where
  also_from : (low k : ℕ) (es : List (ℕ × A)) (t : Bool) → low ≤ k → all (λ x. ltb k x.0) es && t ≡ all (λ x. leb low x.0) es && (all (λ x. ltb k x.0) es && t)
  also_from low k [] t h = refl
  also_from low k (e ∷ es) t h = go (ltb k e.0) refl (also_from low k es t h)
    where
      never : (a : Bool) → false ≡ a && false
      never true = refl
      never false = refl

      go : (b : Bool) → ltb k e.0 ≡ b → all (λ x. ltb k x.0) es && t ≡ all (λ x. leb low x.0) es && (all (λ x. ltb k x.0) es && t)
          → b && all (λ x. ltb k x.0) es && t ≡ leb low e.0 && all (λ x. leb low x.0) es && (b && all (λ x. ltb k x.0) es && t)
      go true eb more = let g = leb-true (suc k) e.0 eb in more ∙ rw (le-leb low e.0 (omega arith))
      go false eb more = never (leb low e.0 && all (λ x. leb low x.0) es)

  rises_from : (low : ℕ) (es : List (ℕ × A)) → rise_from low (keys_of es) ≡ all (λ x. leb low x.0) es && rising es
  rises_from low [] = refl
  rises_from low (e ∷ es) = go (leb low e.0) refl (ap (λ (k : ℕ). rise_from k (keys_of es)) (add-one e.0) ∙ rises_from (suc e.0) es)
    where
      go : (b : Bool) → leb low e.0 ≡ b → rise_from (e.0 + 1) (keys_of es) ≡ all (λ x. ltb e.0 x.0) es && rising es
          → b && rise_from (e.0 + 1) (keys_of es) ≡ b && all (λ x. leb low x.0) es && rising (e ∷ es)
      go true eb more = more ∙ also_from low e.0 es (rising es) (leb-true low e.0 eb)
      go false eb more = refl

  none_below : (es : List (ℕ × A)) → all (λ x. leb 0 x.0) es ≡ true
  none_below [] = refl
  none_below (e ∷ es) = rw (le-leb 0 e.0 zero-le) (none_below es)

  pub rising_keys : (es : List (ℕ × A)) → rising es ≡ rise (keys_of es)
  rising_keys es = sym (rises_from 0 es ∙ ap (λ (b : Bool). b && rising es) (none_below es))

pub keys_decoded : {A : Type 0} (dec : List ℕ → ℕ × A) → ((r : List ℕ) → (dec r).0 ≡ key_of r) → (rs : List (List ℕ)) → keys_of (map dec rs) ≡ map key_of rs
keys_decoded dec key [] = refl
keys_decoded dec key (r ∷ rs) = λ i. key r i ∷ keys_decoded dec key rs i

-- ---- one pass over rows

pub scan-one : (p : List ℕ → Bool) (w low : ℕ) (c : List ℕ) (at left : ℕ) → 0 < w → 0 < left
    → scan p low (rows_of w left (drop at c)) ≡ leb low (get_or c at 0) && p (take w (drop at c)) && scan p (get_or c at 0 + 1) (rows_of w (left - 1) (drop (at + w) c))
scan-one p w low c at left z h =
    ap (scan p low) (rows-one w c at left h)
    ∙ ap (λ (k : ℕ). leb low k && p (take w (drop at c)) && scan p (k + 1) (rows_of w (left - 1) (drop (at + w) c))) (row-key w c at z)

-- the pass goes on, stops at a row, or ends
module _ (p : List ℕ → Bool) (w low : ℕ) (c : List ℕ) (at left : ℕ) (z : 0 < w) where
  pub scan-next : 0 < left → leb low (get_or c at 0) && p (take w (drop at c)) ≡ true → scan p low (rows_of w left (drop at c)) ≡ scan p (get_or c at 0 + 1) (rows_of w (left - 1) (drop (at + w) c))
  scan-next h e = scan-one p w low c at left z h ∙ ap (λ (b : Bool). b && scan p (get_or c at 0 + 1) (rows_of w (left - 1) (drop (at + w) c))) e

  pub scan_stop : 0 < left → leb low (get_or c at 0) && p (take w (drop at c)) ≡ false → scan p low (rows_of w left (drop at c)) ≡ false
  scan_stop h e = scan-one p w low c at left z h ∙ ap (λ (b : Bool). b && scan p (get_or c at 0 + 1) (rows_of w (left - 1) (drop (at + w) c))) e

  pub scan_end : left ≤ 0 → scan p low (rows_of w left (drop at c)) ≡ true
  scan_end h = ap (scan p low) (rows_none w c at left h)

exchange : (a b x y : Bool) → a && b && (x && y) ≡ a && x && (b && y)
exchange false b x y = refl
exchange true true x y = refl
exchange true false true y = refl
exchange true false false y = refl

scan_from : (p : List ℕ → Bool) (low : ℕ) (rs : List (List ℕ)) → scan p low rs ≡ rise_from low (map key_of rs) && all p rs
scan_from p low [] = refl
scan_from p low (r ∷ rs) =
    ap (λ (b : Bool). leb low (key_of r) && p r && b) (scan_from p (key_of r + 1) rs)
    ∙ exchange (leb low (key_of r)) (p r) (rise_from (key_of r + 1) (map key_of rs)) (all p rs)

-- a pass is made exactly by rows whose keys rise and that all pass; `dec` makes a pair of each, with the row's key
pub scan_is : {A : Type 0} (dec : List ℕ → ℕ × A) → ((r : List ℕ) → (dec r).0 ≡ key_of r) → (p : List ℕ → Bool) (rs : List (List ℕ)) → scan p 0 rs ≡ rising (map dec rs) && all p rs
scan_is dec key p rs = scan_from p 0 rs ∙ ap (λ (b : Bool). b && all p rs) (ap rise (sym (keys_decoded dec key rs)) ∙ sym (rising_keys (map dec rs)))
