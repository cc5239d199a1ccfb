-- Interface rows in cells and back, and the last sent numbers that they hold. Assumes nothing.
use mathlib.Core.Path.{◌≡◌, refl, sym, ap, ◌∙◌}
use mathlib.Core.List.{List, [], ◌∷◌, ◌++◌, map}
use mathlib.Core.Bool.{Bool, true, false, cond, ◌&&◌, ◌||◌}
use mathlib.Core.Option.{Option, none, some}
use Prim.Native.Nat.{ℕ, zero, suc, ◌+◌, ◌≤◌, ◌<◌}
use native.Mathlib.Nat.{add-zero}
use native.Mathlib.Omega.{arith}
use lib.Dec.{leb, ltb, eqb}
use lib.ListN.{length, get_or, drop_of_length-le}
use borrow.Author.Tests.{lt-ltb, ltb-true, leb-true, le-leb, eq-eqb, ne_eqb, eqb-true, eqb-false}
use Rattle.lists.specs.Lists.{maybe, and, all}
use Rattle.lists.specs.Keyed.{lookup, rising}
use Rattle.cells.specs.Area.{cells_from}
use Rattle.lists.proofs.Tests.{and_left, and_right, both, and_at}
use Rattle.cells.proofs.Lent.{cells_from_lem}
use Rattle.rules.specs.declared.Interface.{Interface}
use Rattle.rules.specs.Settings.{Config, interface_cells, is_number}
use Rattle.rules.specs.Rules.{Sends}
use Rattle.rules.specs.WellFormed.{send_tests}
use Rattle.table_layout.specs.Layout.{own_at, broadcast_at, first_at, sent_at, last_at}
use Rattle.table_layout.specs.Interfaces.{InterfaceRow, rows_with, sends_of, encode_interface, decode_interface, sent_tests}

-- ---- a row in cells

pub interface-wide : (r : InterfaceRow) → length (encode_interface r) ≡ interface_cells
unfolding encode_interface
interface-wide r = refl

pub interface_back : (r : InterfaceRow) → decode_interface (encode_interface r) ≡ r
unfolding decode_interface encode_interface
interface_back r = go r.1
  where
    go : (o : Option ℕ) → decode_interface (encode_interface (r.0, o)) ≡ (r.0, o)
    go none = refl
    go (some n) = refl

pub interface-tests : (r : InterfaceRow) → and (sent_tests (encode_interface r)) ≡ true
unfolding encode_interface
interface-tests r = go r.1
  where
    go : (o : Option ℕ) → and (sent_tests (encode_interface (r.0, o))) ≡ true
    go none = refl
    go (some n) = refl

pub interface_trip : (row : List ℕ) → length row ≡ interface_cells → and (sent_tests row) ≡ true → encode_interface (decode_interface row) ≡ row
unfolding encode_interface decode_interface
interface_trip row e h =
    let s = get_or row sent_at 0 in
    let l = get_or row last_at 0 in
    let each : row ≡ cells_from 0 interface_cells row =
    cells_from_lem 0 interface_cells row (omega arith) ∙ ap (λ (x : List ℕ). cells_from 0 interface_cells row ++ x) (drop_of_length-le row {i = interface_cells} (omega arith)) in
    go (eqb s 1) refl (leb-true s 1 (and_at (sent_tests row) h 0)) (and_at (sent_tests row) h 1) ∙ sym each
  where
    go : (b : Bool) → eqb (get_or row sent_at 0) 1 ≡ b → get_or row sent_at 0 ≤ 1 → b || eqb (get_or row last_at 0) 0 ≡ true
        → get_or row own_at 0 ∷ get_or row broadcast_at 0 ∷ get_or row first_at 0 ∷ maybe (cond b (some (get_or row last_at 0)) none) 0 (λ n. 1) ∷ maybe (cond b (some (get_or row last_at 0)) none) 0 (λ n. n) ∷ [] ≡ cells_from 0 interface_cells row
    go true eb k t = let f = eqb-true (get_or row sent_at 0) 1 eb in λ i. get_or row own_at 0 ∷ get_or row broadcast_at 0 ∷ get_or row first_at 0 ∷ sym f i ∷ get_or row last_at 0 ∷ []
    go false eb k t =
        let f = eqb-false (get_or row sent_at 0) 1 eb in
        let z : 0 ≡ get_or row sent_at 0 = omega arith in
        λ i. get_or row own_at 0 ∷ get_or row broadcast_at 0 ∷ get_or row first_at 0 ∷ z i ∷ sym (eqb-true (get_or row last_at 0) 0 t) i ∷ []

-- the number of one that has sent
abbrev pub number_ok : InterfaceRow → Bool
number_ok r = maybe r.1 true is_number

-- ---- interfaces and last sent numbers, apart and together

pub interfaces_with : (ns : Sends) (i : ℕ) (xs : List Interface) → map (λ r. r.0) (rows_with ns i xs) ≡ xs
interfaces_with ns i [] = refl
interfaces_with ns i (x ∷ xs) = ap (λ (l : List Interface). x ∷ l) (interfaces_with ns (i + 1) xs)

pub length_with : (ns : Sends) (i : ℕ) (xs : List Interface) → length (rows_with ns i xs) ≡ length xs
length_with ns i [] = refl
length_with ns i (x ∷ xs) = ap suc (length_with ns (i + 1) xs)

-- the numbers of interface rows from i on are none below i
sends-above : (k i : ℕ) (rs : List InterfaceRow) → k < i → all (λ x. ltb k x.0) (sends_of i rs) ≡ true
sends-above k i [] h = refl
sends-above k i (r ∷ rs) h = go r.1 (sends-above k (i + 1) rs (omega arith))
  where
    go : (o : Option ℕ) → all (λ x. ltb k x.0) (sends_of (i + 1) rs) ≡ true → all (λ x. ltb k x.0) (maybe o (sends_of (i + 1) rs) (λ n. (i, n) ∷ sends_of (i + 1) rs)) ≡ true
    go none e = e
    go (some n) e = both (lt-ltb k i h) e

pub sends-rise : (i : ℕ) (rs : List InterfaceRow) → rising (sends_of i rs) ≡ true
sends-rise i [] = refl
sends-rise i (r ∷ rs) = go r.1 (sends-rise (i + 1) rs)
  where
    go : (o : Option ℕ) → rising (sends_of (i + 1) rs) ≡ true → rising (maybe o (sends_of (i + 1) rs) (λ n. (i, n) ∷ sends_of (i + 1) rs)) ≡ true
    go none e = e
    go (some n) e = both (sends-above i (i + 1) rs (omega arith)) e

-- nothing stands under a key that is below all
lookup-below : (k : ℕ) (ns : Sends) → all (λ x. ltb k x.0) ns ≡ true → lookup k ns ≡ none
lookup-below k [] h = refl
lookup-below k (e ∷ ns) h =
    let g = ltb-true k e.0 (and_left (ltb k e.0) (all (λ x. ltb k x.0) ns) h) in
    rw (ne_eqb k e.0 (omega arith)) (lookup-below k ns (and_right (ltb k e.0) (all (λ x. ltb k x.0) ns) h))

-- what stands under a number is the row's, or nothing
pub lookup-sends : (i j : ℕ) (rs : List InterfaceRow) → lookup (i + j) (sends_of i rs) ≡ get_or (map (λ r. r.1) rs) j none
lookup-sends i j [] = refl
lookup-sends i zero (r ∷ rs) = go r.1
  where
    go : (o : Option ℕ) → lookup (i + 0) (maybe o (sends_of (i + 1) rs) (λ n. (i, n) ∷ sends_of (i + 1) rs)) ≡ o
    go none = lookup-below (i + 0) (sends_of (i + 1) rs) (sends-above (i + 0) (i + 1) rs (omega arith))
    go (some n) = rw (eq-eqb (i + 0) i (add-zero i))
lookup-sends i (suc j) (r ∷ rs) =
    let e : i + 1 + j ≡ i + suc j = omega arith in
    go r.1 (ap (λ (k : ℕ). lookup k (sends_of (i + 1) rs)) (sym e) ∙ lookup-sends (i + 1) j rs)
  where
    go : (o : Option ℕ) → lookup (i + suc j) (sends_of (i + 1) rs) ≡ get_or (map (λ r. r.1) rs) j none → lookup (i + suc j) (maybe o (sends_of (i + 1) rs) (λ n. (i, n) ∷ sends_of (i + 1) rs)) ≡ get_or (map (λ r. r.1) rs) j none
    go none e = e
    go (some n) e = rw (ne_eqb (i + suc j) i (omega arith)) e

-- an entry below the rows' numbers is not asked for
rows_skip : (k n i : ℕ) (ns : Sends) (xs : List Interface) → k < i → rows_with ((k, n) ∷ ns) i xs ≡ rows_with ns i xs
rows_skip k n i ns [] h = refl
rows_skip k n i ns (x ∷ xs) h =
    let e : lookup i ((k, n) ∷ ns) ≡ lookup i ns = rw (ne_eqb i k (omega arith)) in
    λ j. (x, e j) ∷ rows_skip k n (i + 1) ns xs (omega arith) j

-- together again
pub rows_back : (i : ℕ) (rs : List InterfaceRow) → rows_with (sends_of i rs) i (map (λ r. r.0) rs) ≡ rs
rows_back i [] = refl
rows_back i (r ∷ rs) = go r.1 (rows_back (i + 1) rs)
  where
    go : (o : Option ℕ) → rows_with (sends_of (i + 1) rs) (i + 1) (map (λ r. r.0) rs) ≡ rs
        → rows_with (maybe o (sends_of (i + 1) rs) (λ n. (i, n) ∷ sends_of (i + 1) rs)) i (map (λ r. r.0) ((r.0, o) ∷ rs)) ≡ (r.0, o) ∷ rs
    go none e = λ j. (r.0, lookup-below i (sends_of (i + 1) rs) (sends-above i (i + 1) rs (omega arith)) j) ∷ e j
    go (some n) e =
        let s : lookup i ((i, n) ∷ sends_of (i + 1) rs) ≡ some n = rw (eq-eqb i i refl) in
        λ j. (r.0, s j) ∷ (rows_skip i n (i + 1) (sends_of (i + 1) rs) (map (λ r. r.0) rs) (omega arith) ∙ e) j

-- and apart again: numbers that rise, none below i, and all below that of an interface beyond
pub sends_back : (i : ℕ) (ns : Sends) (xs : List Interface) → rising ns ≡ true → all (λ e. leb i e.0) ns ≡ true → all (λ e. ltb e.0 (i + length xs)) ns ≡ true → sends_of i (rows_with ns i xs) ≡ ns
sends_back i [] [] r l h = refl
sends_back i (e ∷ ns) [] r l h =
    let a = leb-true i e.0 (and_left (leb i e.0) (all (λ e. leb i e.0) ns) l) in
    let b = ltb-true e.0 (i + 0) (and_left (ltb e.0 (i + 0)) (all (λ e. ltb e.0 (i + 0)) ns) h) in
    absurd (omega arith)
sends_back i [] (x ∷ xs) r l h = sends_back (i + 1) [] xs refl refl refl
sends_back i (e ∷ ns) (x ∷ xs) r l h =
    let n : i + suc (length xs) ≡ i + 1 + length xs = omega arith in
    let above = and_left (all (λ x. ltb e.0 x.0) ns) (rising ns) r in
    let low = leb-true i e.0 (and_left (leb i e.0) (all (λ e. leb i e.0) ns) l) in
    let h2 : all (λ e. ltb e.0 (i + 1 + length xs)) (e ∷ ns) ≡ true = ap (λ (k : ℕ). all (λ e. ltb e.0 k) (e ∷ ns)) (sym n) ∙ h in
    go (eqb i e.0) refl low above
    (λ k. sends_back (i + 1) ns xs (and_right (all (λ x. ltb e.0 x.0) ns) (rising ns) r) k (and_right (ltb e.0 (i + 1 + length xs)) (all (λ e. ltb e.0 (i + 1 + length xs)) ns) h2))
    (λ k. sends_back (i + 1) (e ∷ ns) xs r k h2)
  where
    raise : (k m : ℕ) (ns : Sends) → m ≤ k + 1 → all (λ x. ltb k x.0) ns ≡ true → all (λ x. leb m x.0) ns ≡ true
    raise k m [] g a = refl
    raise k m (y ∷ ns) g a =
        let q = ltb-true k y.0 (and_left (ltb k y.0) (all (λ x. ltb k x.0) ns) a) in
        both (le-leb m y.0 (omega arith)) (raise k m ns g (and_right (ltb k y.0) (all (λ x. ltb k x.0) ns) a))

    go : (b : Bool) → eqb i e.0 ≡ b → i ≤ e.0 → all (λ x. ltb e.0 x.0) ns ≡ true
        → (all (λ e. leb (i + 1) e.0) ns ≡ true → sends_of (i + 1) (rows_with ns (i + 1) xs) ≡ ns)
        → (all (λ e. leb (i + 1) e.0) (e ∷ ns) ≡ true → sends_of (i + 1) (rows_with (e ∷ ns) (i + 1) xs) ≡ e ∷ ns)
        → maybe (cond b (some e.1) (lookup i ns)) (sends_of (i + 1) (rows_with (e ∷ ns) (i + 1) xs)) (λ n. (i, n) ∷ sends_of (i + 1) (rows_with (e ∷ ns) (i + 1) xs)) ≡ e ∷ ns
    go true eb low above same more =
        let q = eqb-true i e.0 eb in
        let s = ap (sends_of (i + 1)) (rows_skip e.0 e.1 (i + 1) ns xs (omega arith)) ∙ same (raise e.0 (i + 1) ns (omega arith) above) in
        λ j. (q j, e.1) ∷ s j
    go false eb low above same more =
        let q = eqb-false i e.0 eb in
        let z : lookup i ns ≡ none = lookup-below i ns (lower ns above) in
        ap (λ (o : Option ℕ). maybe o (sends_of (i + 1) (rows_with (e ∷ ns) (i + 1) xs)) (λ n. (i, n) ∷ sends_of (i + 1) (rows_with (e ∷ ns) (i + 1) xs))) z
        ∙ more (both (le-leb (i + 1) e.0 (omega arith)) (raise e.0 (i + 1) ns (omega arith) above))
      where
        lower : (ns : Sends) → all (λ x. ltb e.0 x.0) ns ≡ true → all (λ x. ltb i x.0) ns ≡ true
        lower [] a = refl
        lower (y ∷ ns) a =
            let q = ltb-true e.0 y.0 (and_left (ltb e.0 y.0) (all (λ x. ltb e.0 x.0) ns) a) in
            both (lt-ltb i y.0 (omega arith)) (lower ns (and_right (ltb e.0 y.0) (all (λ x. ltb e.0 x.0) ns) a))

-- ---- the rules' test of last sent numbers

pub sends_pass : (κ : Config) (i : ℕ) (rs : List InterfaceRow) → i + length rs ≤ length κ.interfaces → all number_ok rs ≡ true → all (λ e. and (send_tests κ e)) (sends_of i rs) ≡ true
sends_pass κ i [] h a = refl
sends_pass κ i (r ∷ rs) h a = go r.1 (and_left (number_ok r) (all number_ok rs) a) (sends_pass κ (i + 1) rs (omega arith) (and_right (number_ok r) (all number_ok rs) a))
  where
    go : (o : Option ℕ) → maybe o true is_number ≡ true → all (λ e. and (send_tests κ e)) (sends_of (i + 1) rs) ≡ true → all (λ e. and (send_tests κ e)) (maybe o (sends_of (i + 1) rs) (λ n. (i, n) ∷ sends_of (i + 1) rs)) ≡ true
    go none t e = e
    go (some n) t e = both (both (lt-ltb i (length κ.interfaces) (omega arith)) (both t refl)) e

pub sends-numbers : (κ : Config) (i : ℕ) (rs : List InterfaceRow) → all (λ e. and (send_tests κ e)) (sends_of i rs) ≡ true → all number_ok rs ≡ true
sends-numbers κ i [] a = refl
sends-numbers κ i (r ∷ rs) a = go r.1 a (sends-numbers κ (i + 1) rs)
  where
    go : (o : Option ℕ) → all (λ e. and (send_tests κ e)) (maybe o (sends_of (i + 1) rs) (λ n. (i, n) ∷ sends_of (i + 1) rs)) ≡ true
        → (all (λ e. and (send_tests κ e)) (sends_of (i + 1) rs) ≡ true → all number_ok rs ≡ true) → maybe o true is_number && all number_ok rs ≡ true
    go none h more = more h
    go (some n) h more =
        let t = and (send_tests κ (i, n)) in
        let rest = all (λ e. and (send_tests κ e)) (sends_of (i + 1) rs) in
        both (and_at (send_tests κ (i, n)) (and_left t rest h) 1) (more (and_right t rest h))
