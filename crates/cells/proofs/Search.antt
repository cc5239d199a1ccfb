-- A search by halving, and what its result says of the map that the rows hold. Assumes nothing.
use mathlib.Core.Path.{◌≡◌, refl, sym, ap, ◌∙◌, subst}
use mathlib.Core.List.{List, [], ◌∷◌, ◌++◌, map}
use mathlib.Core.Bool.{Bool, true, false}
use mathlib.Core.Option.{none, some}
use Prim.Native.Nat.{ℕ, zero, suc, ◌+◌, ◌*◌, ◌-◌, ◌/◌, ◌^◌, ◌≤◌, ◌<◌, zero-le}
use native.Mathlib.Nat.{not-suc-le-zero, le_of_suc-le-suc, mul-le-mul_right, suc-mul, zero-add, add-zero, pow-zero, two-pow-succ}
use native.Mathlib.Omega.{arith}
use lib.Dec.{leb, ltb, eqb}
use lib.ListN.{length, take, drop, set, get_or}
use lib.Pow.{pow_pos}
use lib.Seq.{set_split}
use borrow.Author.Tests.{leb-true, ltb-true, lt-ltb, le-ltb, eq-eqb, ne_eqb, eqb-true, eqb-false}
use Rattle.lists.specs.Lists.{all, keep}
use Rattle.lists.specs.Keyed.{lookup, put, rising}
use Rattle.cells.specs.Area.{rise_from, rise, key_of, rows_of, column, insert_at}
use Rattle.cells.specs.Find.{Sorted, IsAt, IsPlace, FoundIn, middle, Halving, none_left, equal, upper_half, lower_half, Searched}
use Rattle.std.specs.Prelude.{Result, Ok, Err}
use Rattle.lists.proofs.Tests.{and_left, and_right}
use Rattle.cells.proofs.Keys.{keys_of, keys_decoded, rising_keys, length-column, get_or_column}

-- ---- keys that rise

-- none is below the bound, and a later key is above an earlier one
from_low : (low : ℕ) (ks : List ℕ) (j : ℕ) → rise_from low ks ≡ true → j < length ks → low ≤ get_or ks j 0
from_low low [] j r h = absurd (not-suc-le-zero h)
from_low low (k ∷ ks) zero r h = leb-true low k (and_left (leb low k) (rise_from (k + 1) ks) r)
from_low low (k ∷ ks) (suc j) r h =
    let a = leb-true low k (and_left (leb low k) (rise_from (k + 1) ks) r) in
    let b = from_low (k + 1) ks j (and_right (leb low k) (rise_from (k + 1) ks) r) (le_of_suc-le-suc h) in
    omega arith

later_above : (low : ℕ) (ks : List ℕ) (i j : ℕ) → rise_from low ks ≡ true → i < j → j < length ks → get_or ks i 0 < get_or ks j 0
later_above low [] i j r h k = absurd (not-suc-le-zero k)
later_above low (x ∷ ks) i zero r h k = absurd (not-suc-le-zero h)
later_above low (x ∷ ks) zero (suc j) r h k =
    let a = from_low (x + 1) ks j (and_right (leb low x) (rise_from (x + 1) ks) r) (le_of_suc-le-suc k) in
    omega arith
later_above low (x ∷ ks) (suc i) (suc j) r h k = later_above (x + 1) ks i j (and_right (leb low x) (rise_from (x + 1) ks) r) (le_of_suc-le-suc h) (le_of_suc-le-suc k)

-- ---- what halving finds: every key before those that are left is below k, and every key behind them above it

record Bracket (ks : List ℕ) (k low left : ℕ) : Type 0 where
  within : low + left ≤ length ks
  below : (j : ℕ) → j < low → get_or ks j 0 < k
  above : (j : ℕ) → low + left ≤ j → j < length ks → k < get_or ks j 0

module _ (ks : List ℕ) (rises : rise ks ≡ true) where
  rises-le : (i j : ℕ) → i ≤ j → j < length ks → get_or ks i 0 ≤ get_or ks j 0
  rises-le i j h l = go (eqb i j) refl
    where
      go : (b : Bool) → eqb i j ≡ b → get_or ks i 0 ≤ get_or ks j 0
      go true e = let g = eqb-true i j e in let a = ap (λ (m : ℕ). get_or ks m 0) g in omega arith
      go false e = let g = eqb-false i j e in let a = later_above 0 ks i j rises (omega arith) l in omega arith

  halving_finds : {k low left rounds : ℕ} {f : Result ℕ ℕ} → Halving ks k low left rounds f → Bracket ks k low left → FoundIn ks k f
  halving_finds none_left b =
      let q = b.within in
      record { within = omega arith; below = b.below; above = λ j h l. b.above j (omega arith) l }
  halving_finds (equal more e) b = let q = b.within in record { within = omega arith; same = e }
  halving_finds (upper_half {low} {left} more t h) b =
      let q = b.within in
      halving_finds h (record {
        within = omega arith;
        below = λ j l. (let m = rises-le j (middle low left) (omega arith) (omega arith) in omega arith);
        above = λ j l u. b.above j (omega arith) u;
      })
  halving_finds (lower_half {low} {left} more t h) b =
      let q = b.within in
      halving_finds h (record { within = omega arith; below = b.below; above = λ j l u. (let m = rises-le (middle low left) j (omega arith) u in omega arith) })

-- ---- how many rounds halving takes: among fewer than 2^e keys at most e

module _ {ks : List ℕ} {k : ℕ} where
  rounds-few : {low left rounds : ℕ} {f : Result ℕ ℕ} → Halving ks k low left rounds f → (e : ℕ) → left < 2 ^ e → rounds ≤ e
  rounds-few none_left e l = zero-le
  rounds-few (equal more t) zero l = absurd (omega (arith, pow-zero 2))
  rounds-few (equal more t) (suc e) l = omega arith
  rounds-few (upper_half more t h) zero l = absurd (omega (arith, pow-zero 2))
  rounds-few (upper_half more t h) (suc e) l = let p = two-pow-succ e in let r = rounds-few h e (omega arith) in omega arith
  rounds-few (lower_half more t h) zero l = absurd (omega (arith, pow-zero 2))
  rounds-few (lower_half more t h) (suc e) l = let p = two-pow-succ e in let r = rounds-few h e (omega arith) in omega arith

  -- and no fewer will do: a key below 2^e others takes more than e
  pub rounds_needed : {low left rounds : ℕ} {f : Result ℕ ℕ} → Halving ks k low left rounds f → ((j : ℕ) → low ≤ j → j < low + left → k < get_or ks j 0) → (e : ℕ) → 2 ^ e ≤ left → e < rounds
  rounds_needed none_left a e l = let p = pow_pos e in absurd (omega arith)
  rounds_needed (equal {low} {left} more t) a e l = let m = a (middle low left) (omega arith) (omega arith) in absurd (omega arith)
  rounds_needed (upper_half {low} {left} more t h) a e l = let m = a (middle low left) (omega arith) (omega arith) in absurd (omega arith)
  rounds_needed (lower_half more t h) a zero l = omega arith
  rounds_needed (lower_half more t h) a (suc e) l = let p = two-pow-succ e in let r = rounds_needed h (λ j u v. a j u (omega arith)) e (omega arith) in omega arith

-- ---- the rounds taken so far, put before those of a search that goes on from here

pub record Going (ks : List ℕ) (k n low left rounds : ℕ) : Type 0 where
  pub within : low + left ≤ n
  pub taken : rounds + left ≤ n
  pub goes : (r : ℕ) (f : Result ℕ ℕ) → Halving ks k low left r f → Halving ks k 0 n (rounds + r) f

pub going_start : (ks : List ℕ) (k n : ℕ) → Going ks k n 0 n 0
going_start ks k n = record { within = omega arith; taken = omega arith; goes = λ r f h. rw zero-add h }

module _ {w n : ℕ} {c : List ℕ} (s : Sorted w n c) where
  -- a row's first cell lies within
  pub row_within : (j : ℕ) → j < n → j * w < length c
  row_within j h =
      let m : suc j * w ≤ n * w = mul-le-mul_right w h in
      let e = suc-mul j w in
      let f = s.fits in
      let z = s.wide in
      omega arith

  -- halving that begins with all keys is what the contract asks for
  searched : {k r : ℕ} {f : Result ℕ ℕ} → Halving (column w n c) k 0 n r f → Searched (column w n c) k (record { found = f; rounds = r })
  searched {k} {r} {f} h =
      let l = length-column w n c in
      let g = subst (λ (m : ℕ). Halving (column w n c) k 0 m r f) (sym l) h in
      record {
        found = halving_finds (column w n c) s.rises g (record { within = omega arith; below = λ j u. absurd (not-suc-le-zero u); above = λ j u v. absurd (omega arith) });
        rounds = g;
        few = rounds-few g;
      }

  -- one round more
  module _ {k low left rounds : ℕ} (g : Going (column w n c) k n low left rounds) (more : 0 < left) where
    key-read : get_or (column w n c) (middle low left) 0 ≡ get_or c (middle low left * w) 0
    key-read = let q = g.within in get_or_column w n c (middle low left) s.wide (omega arith)

    one_more : (r : ℕ) (f : Result ℕ ℕ) → Halving (column w n c) k low left (suc r) f → Halving (column w n c) k 0 n (rounds + 1 + r) f
    one_more r f h =
        let e : rounds + suc r ≡ rounds + 1 + r = omega arith in
        subst (λ (m : ℕ). Halving (column w n c) k 0 n m f) e (g.goes (suc r) f h)

    next_round : {low' left' : ℕ} → low' + left' ≤ low + left → left' < left → ((r : ℕ) (f : Result ℕ ℕ) → Halving (column w n c) k low' left' r f → Halving (column w n c) k low left (suc r) f) → Going (column w n c) k n low' left' (rounds + 1)
    next_round l m h =
        let q = g.within in
        let u = g.taken in
        record { within = omega arith; taken = omega arith; goes = λ r f d. one_more r f (h r f d) }

    pub going_up : get_or c (middle low left * w) 0 < k → Going (column w n c) k n (middle low left + 1) (left - (left / 2 + 1)) (rounds + 1)
    going_up t = next_round (omega arith) (omega arith) (λ r f. upper_half more (omega (arith, key-read)))

    pub going_down : k < get_or c (middle low left * w) 0 → Going (column w n c) k n low (left / 2) (rounds + 1)
    going_down t = next_round (omega arith) (omega arith) (λ r f. lower_half more (omega (arith, key-read)))

    pub ends_at : get_or c (middle low left * w) 0 ≡ k → Searched (column w n c) k (record { found = Ok (middle low left); rounds = rounds + 1 })
    ends_at t = searched (g.goes 1 (Ok (middle low left)) (equal more (key-read ∙ t)))

  pub ends_between : {k low left rounds : ℕ} → Going (column w n c) k n low left rounds → left ≤ 0 → Searched (column w n c) k (record { found = Err low; rounds = rounds })
  ends_between {k} {low} {left} {rounds} g shut =
      let e : 0 ≡ left = omega arith in
      subst (λ (m : ℕ). Searched (column w n c) k (record { found = Err low; rounds = m })) (add-zero rounds)
      (searched (g.goes 0 (Err low) (subst (λ (m : ℕ). Halving (column w n c) k low m 0 (Err low)) e none_left)))

-- ---- what the place of a key says of a map: what stands under it, and the entries below and above it

abbrev pub below_key : {A : Type 0} → ℕ → List (ℕ × A) → List (ℕ × A)
below_key k es = keep (λ e. ltb e.0 k) es

abbrev pub above_key : {A : Type 0} → ℕ → List (ℕ × A) → List (ℕ × A)
above_key k es = keep (λ e. ltb k e.0) es

module _ {A : Type 0} where
  -- the entries of a map about a key that it does not have, with its place
  pub record Apart (k i : ℕ) (es : List (ℕ × A)) : Type 0 where
    pub missing : lookup k es ≡ none
    pub below : below_key k es ≡ take i es
    pub above : above_key k es ≡ drop i es

  pub apart : (k i : ℕ) (es : List (ℕ × A)) → IsPlace (keys_of es) k i → Apart k i es
  apart k zero [] p = record { missing = refl; below = refl; above = refl }
  apart k (suc i) [] p = record { missing = refl; below = refl; above = refl }
  apart k zero (e ∷ es) p =
      let h : k < e.0 = p.above 0 zero-le (omega arith) in
      let r = apart k zero es (record { within = zero-le; below = λ j m. absurd (not-suc-le-zero m); above = λ j m q. p.above (suc j) zero-le (omega arith) }) in
      record {
        missing = rw (ne_eqb k e.0 (omega arith)) r.missing;
        below = rw (le-ltb e.0 k (omega arith)) r.below;
        above = rw (lt-ltb k e.0 h) (ap (λ (l : List (ℕ × A)). e ∷ l) r.above);
      }
  apart k (suc i) (e ∷ es) p =
      let h : e.0 < k = p.below 0 (omega arith) in
      let w = p.within in
      let r = apart k i es (record { within = omega arith; below = λ j m. p.below (suc j) (omega arith); above = λ j m q. p.above (suc j) (omega arith) (omega arith) }) in
      record {
        missing = rw (ne_eqb k e.0 (omega arith)) r.missing;
        below = rw (lt-ltb e.0 k h) (ap (λ (l : List (ℕ × A)). e ∷ l) r.below);
        above = rw (le-ltb k e.0 (omega arith)) r.above;
      }

  -- the entries about a key that a map has
  pub record Among (k i : ℕ) (es : List (ℕ × A)) : Type 0 where
    pub found : (d : ℕ × A) → lookup k es ≡ some (get_or es i d).1
    pub below : below_key k es ≡ take i es
    pub above : above_key k es ≡ drop (suc i) es

  all_above : (k : ℕ) (es : List (ℕ × A)) → all (λ x. ltb k x.0) es ≡ true → IsPlace (keys_of es) k 0
  all_above k es a = record { within = zero-le; below = λ j m. absurd (not-suc-le-zero m); above = λ j m q. go es a j q }
    where
      go : (es : List (ℕ × A)) → all (λ x. ltb k x.0) es ≡ true → (j : ℕ) → j < length (keys_of es) → k < get_or (keys_of es) j 0
      go [] a j q = absurd (not-suc-le-zero q)
      go (e ∷ es) a zero q = ltb-true k e.0 (and_left (ltb k e.0) (all (λ x. ltb k x.0) es) a)
      go (e ∷ es) a (suc j) q = go es (and_right (ltb k e.0) (all (λ x. ltb k x.0) es) a) j (le_of_suc-le-suc q)

  pub among : (k i : ℕ) (es : List (ℕ × A)) → rising es ≡ true → IsAt (keys_of es) k i → Among k i es
  among k i [] r p = absurd (not-suc-le-zero p.within)
  among k zero (e ∷ es) r p =
      let h : e.0 ≡ k = p.same in
      let s = apart e.0 0 es (all_above e.0 es (and_left (all (λ x. ltb e.0 x.0) es) (rising es) r)) in
      record {
        found = λ d. rw (eq-eqb k e.0 (sym h));
        below = rw (le-ltb e.0 k (omega arith)) (ap (λ (x : ℕ). below_key x es) (sym h) ∙ s.below);
        above = rw (le-ltb k e.0 (omega arith)) (ap (λ (x : ℕ). above_key x es) (sym h) ∙ s.above);
      }
  among k (suc i) (e ∷ es) r p =
      let q = all_above e.0 es (and_left (all (λ x. ltb e.0 x.0) es) (rising es) r) in
      let m = p.within in
      let a : e.0 < get_or (keys_of es) i 0 = q.above i zero-le (omega arith) in
      let g : get_or (keys_of es) i 0 ≡ k = p.same in
      let s = among k i es (and_right (all (λ x. ltb e.0 x.0) es) (rising es) r) (record { within = omega arith; same = g }) in
      record {
        found = λ d. rw (ne_eqb k e.0 (omega arith)) (s.found d);
        below = rw (lt-ltb e.0 k (omega arith)) (ap (λ (l : List (ℕ × A)). e ∷ l) s.below);
        above = rw (le-ltb k e.0 (omega arith)) s.above;
      }

  -- so a value put under the key goes in at its place, or takes the place of what stood there
  pub put_apart : (k i : ℕ) (v : A) (es : List (ℕ × A)) → Apart k i es → put k v es ≡ insert_at i (k, v) es
  put_apart k i v es s = λ j. s.below j ++ ((k, v) ∷ s.above j)

  pub put-among : (k i : ℕ) (v : A) (es : List (ℕ × A)) → i < length es → Among k i es → put k v es ≡ set es i (k, v)
  put-among k i v es h s = (λ j. s.below j ++ ((k, v) ∷ s.above j)) ∙ sym (set_split es i (k, v) h)

-- ---- rows that hold a map: `dec` makes an entry of each, under the row's key

module _ {A : Type 0} (dec : List ℕ → ℕ × A) (key : (r : List ℕ) → (dec r).0 ≡ key_of r) (w n : ℕ) (c : List ℕ) where
  keys_are : keys_of (map dec (rows_of w n c)) ≡ column w n c
  keys_are = keys_decoded dec key (rows_of w n c)

  rises_are : rising (map dec (rows_of w n c)) ≡ rise (column w n c)
  rises_are = rising_keys (map dec (rows_of w n c)) ∙ ap rise keys_are

  pub sorted : 0 < w → n * w ≤ length c → rising (map dec (rows_of w n c)) ≡ true → Sorted w n c
  sorted z f r = record { wide = z; fits = f; rises = sym rises_are ∙ r }

  pub found_at : Sorted w n c → (k i : ℕ) → IsAt (column w n c) k i → Among k i (map dec (rows_of w n c))
  found_at s k i p = among k i (map dec (rows_of w n c)) (rises_are ∙ s.rises) (subst (λ (ks : List ℕ). IsAt ks k i) (sym keys_are) p)

  pub found-place : (k i : ℕ) → IsPlace (column w n c) k i → Apart k i (map dec (rows_of w n c))
  found-place k i p = apart k i (map dec (rows_of w n c)) (subst (λ (ks : List ℕ). IsPlace ks k i) (sym keys_are) p)

-- a key that is found lies within the rows
pub at-below : (w n : ℕ) (c : List ℕ) (k i : ℕ) → IsAt (column w n c) k i → i < n
at-below w n c k i p = let e = length-column w n c in let h = p.within in omega arith
