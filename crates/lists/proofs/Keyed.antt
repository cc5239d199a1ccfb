-- Laws of lists of pairs under a key. None asks that a list rises.
use Prim.Native.Nat.{ℕ, suc, ◌+◌, ◌≤◌}
use mathlib.Core.Path.{◌≡◌, refl, sym, ap, ap₂, ◌∙◌}
use mathlib.Core.Bool.{Bool, true, false, cond, ◌&&◌, ◌||◌, true≢false, false≢true}
use mathlib.Core.Option
use mathlib.Core.Option.{Option, none, some}
use mathlib.Core.List.{List, [], ◌∷◌, ◌++◌, map}
use lib.Dec.{ltb, eqb}
use lib.ListN.{length, length-append, length-map}
use native.Mathlib.Omega.{arith}
use borrow.Author.Tests.{ltb-true, ltb-false, eqb-true, eqb-false, le-ltb, eq-eqb}
use Rattle.lists.specs.Lists.{maybe, keep, all, elem}
use Rattle.lists.specs.Keyed.{lookup, has_key, put, put_key, map_values, tabulate}
use Rattle.lists.proofs.Tests.{cond_ap, cond_same, both, and_left, and_right, below_other, above_other}
use Rattle.lists.proofs.Lists.{keep_append, all_append, all-kept, keep_skip, all_skip, keep-map, map-append, map-keep, elem-append, elem-keep}

-- whether a key is held does not turn on the values
pub has_key-map : {A X : Type 0} (φ : ℕ × A → X) (k : ℕ) (es : List (ℕ × A)) → has_key k (map (λ (e : ℕ × A). (e.0, φ e)) es) ≡ has_key k es
has_key-map φ k [] = refl
has_key-map {A} {X} φ k (e ∷ es) = go (eqb k e.0) (has_key-map φ k es)
  where
    go : (t : Bool) → has_key k (map (λ (x : ℕ × A). (x.0, φ x)) es) ≡ has_key k es
        → maybe (cond t (some (φ e)) (lookup k (map (λ (x : ℕ × A). (x.0, φ x)) es))) false (λ v. true) ≡ maybe (cond t (some e.1) (lookup k es)) false (λ v. true)
    go true r = refl
    go false r = r

-- ---- values turned into others

module _ {A X : Type 0} (f : A → X) where
  abbrev turn : ℕ × A → ℕ × X
  turn e = (e.0, f e.1)

  pub lookup-map_values : (k : ℕ) (es : List (ℕ × A)) → lookup k (map_values f es) ≡ Option.map f (lookup k es)
  lookup-map_values k [] = refl
  lookup-map_values k (e ∷ es) =
      ap (λ (o : Option X). cond (eqb k e.0) (some (f e.1)) o) (lookup-map_values k es) ∙ sym (cond_ap (Option.map f) (eqb k e.0) (some e.1) (lookup k es))

  pub has_key-map_values : (k : ℕ) (es : List (ℕ × A)) → has_key k (map_values f es) ≡ has_key k es
  has_key-map_values k es = has_key-map (λ e. f e.1) k es

  pub length-map_values : (es : List (ℕ × A)) → length (map_values f es) ≡ length es
  length-map_values es = length-map es turn

  pub put-map_values : (k : ℕ) (v : A) (es : List (ℕ × A)) → put k (f v) (map_values f es) ≡ map_values f (put k v es)
  put-map_values k v es =
      ap₂ (λ (a b : List (ℕ × X)). a ++ ((k, f v) ∷ b)) (keep-map turn (λ e. ltb e.0 k) es) (keep-map turn (λ e. ltb k e.0) es)
      ∙ sym (map-append turn (keep (λ e. ltb e.0 k) es) ((k, v) ∷ keep (λ e. ltb k e.0) es))

  pub map_values-tabulate : (g : ℕ → A) (ks : List ℕ) → map_values f (tabulate g ks) ≡ tabulate (λ k. f (g k)) ks
  map_values-tabulate g [] = refl
  map_values-tabulate g (k ∷ ks) = ap (λ (l : List (ℕ × X)). (k, f (g k)) ∷ l) (map_values-tabulate g ks)

-- ---- a value for each key

pub lookup-tabulate : {A : Type 0} (g : ℕ → A) (k : ℕ) (ks : List ℕ) → lookup k (tabulate g ks) ≡ cond (elem k ks) (some (g k)) none
lookup-tabulate g k [] = refl
lookup-tabulate {A} g k (x ∷ xs) = go (eqb k x) refl (lookup-tabulate g k xs)
  where
    go : (t : Bool) → eqb k x ≡ t → lookup k (tabulate g xs) ≡ cond (elem k xs) (some (g k)) none
        → cond t (some (g x)) (lookup k (tabulate g xs)) ≡ cond (t || elem k xs) (some (g k)) none
    go true e h = ap (λ n. some (g n)) (sym (eqb-true k x e))
    go false e h = h

-- values that agree away from k: what is put at k hides the rest
pub put-tabulate : {A : Type 0} (f g : ℕ → A) (k : ℕ) → ((x : ℕ) → eqb x k ≡ false → f x ≡ g x) → (ks : List ℕ) → put k (g k) (tabulate f ks) ≡ tabulate g (put_key k ks)
put-tabulate {A} f g k h ks =
    ap₂ (λ (a b : List (ℕ × A)). a ++ ((k, g k) ∷ b)) (side (λ x. ltb x k) (λ x l. below_other x k l)) (side (λ x. ltb k x) (λ x l. above_other x k l))
    ∙ sym (map-append (λ (x : ℕ). (x, g x)) (keep (λ x. ltb x k) ks) (k ∷ keep (λ x. ltb k x) ks))
  where
    side : (p : ℕ → Bool) → ((x : ℕ) → p x ≡ true → eqb x k ≡ false) → keep (λ e. p e.0) (tabulate f ks) ≡ map (λ (x : ℕ). (x, g x)) (keep p ks)
    side p l =
        keep-map (λ (x : ℕ). (x, f x)) (λ e. p e.0) ks
        ∙ map-keep (λ (x : ℕ). (x, f x)) (λ (x : ℕ). (x, g x)) p (λ x e. ap (λ (v : A). (x, v)) (h x (l x e))) ks

-- ---- keys put

pub elem-put_key : (k j : ℕ) (ks : List ℕ) → elem k (put_key j ks) ≡ (eqb k j || elem k ks)
elem-put_key k j ks =
    elem-append k (keep (λ x. ltb x j) ks) (j ∷ keep (λ x. ltb j x) ks)
    ∙ ap₂ (λ (a b : Bool). a || (eqb k j || b)) (elem-keep (λ x. ltb x j) k ks) (elem-keep (λ x. ltb j x) k ks)
    ∙ go (ltb k j) refl (eqb k j) refl (ltb j k) refl (elem k ks)
  where
    go : (a : Bool) → ltb k j ≡ a → (b : Bool) → eqb k j ≡ b → (c : Bool) → ltb j k ≡ c → (e : Bool) → ((e && a) || (b || (e && c))) ≡ (b || e)
    go true p true q c r true = refl
    go true p true q c r false = refl
    go true p false q c r true = refl
    go true p false q c r false = refl
    go false p true q c r true = refl
    go false p true q c r false = refl
    go false p false q true r true = refl
    go false p false q true r false = refl
    go false p false q false r true = absurd (eqb-false k j q (omega (arith, ltb-false k j p, ltb-false j k r)))
    go false p false q false r false = refl

pub keep-put_key : (p q : ℕ → Bool) (k : ℕ) → ((x : ℕ) → eqb x k ≡ false → q x ≡ false → p x ≡ false) → (ks : List ℕ)
    → keep p (put_key k (keep q ks)) ≡ keep p (put_key k ks)
keep-put_key p q k h ks =
    keep_append p (keep (λ x. ltb x k) (keep q ks)) (k ∷ keep (λ x. ltb k x) (keep q ks))
    ∙ ap₂ (λ (a b : List ℕ). a ++ cond (p k) (k ∷ b) b)
    (keep_skip p q (λ x. ltb x k) (λ x l. h x (below_other x k l)) ks)
    (keep_skip p q (λ x. ltb k x) (λ x l. h x (above_other x k l)) ks)
    ∙ sym (keep_append p (keep (λ x. ltb x k) ks) (k ∷ keep (λ x. ltb k x) ks))

pub all-put_key : (p q : ℕ → Bool) (k : ℕ) → ((x : ℕ) → eqb x k ≡ false → q x ≡ false → p x ≡ true) → (ks : List ℕ) → all p (put_key k (keep q ks)) ≡ all p (put_key k ks)
all-put_key p q k h ks =
    all_append p (keep (λ x. ltb x k) (keep q ks)) (k ∷ keep (λ x. ltb k x) (keep q ks))
    ∙ ap₂ (λ (a b : Bool). a && (p k && b))
    (all_skip p q (λ x. ltb x k) (λ x l. h x (below_other x k l)) ks)
    (all_skip p q (λ x. ltb k x) (λ x l. h x (above_other x k l)) ks)
    ∙ sym (all_append p (keep (λ x. ltb x k) ks) (k ∷ keep (λ x. ltb k x) ks))

module _ {A : Type 0} where
  -- ---- what is found

  lookup-append : (k : ℕ) (xs ys : List (ℕ × A)) → lookup k (xs ++ ys) ≡ maybe (lookup k xs) (lookup k ys) some
  lookup-append k [] ys = refl
  lookup-append k (x ∷ xs) ys =
      ap (cond (eqb k x.0) (some x.1)) (lookup-append k xs ys) ∙ sym (cond_ap (λ (o : Option A). maybe o (lookup k ys) some) (eqb k x.0) (some x.1) (lookup k xs))

  lookup-keep : (p : ℕ → Bool) (k : ℕ) (es : List (ℕ × A)) → lookup k (keep (λ e. p e.0) es) ≡ cond (p k) (lookup k es) none
  lookup-keep p k [] = sym (cond_same (p k) none)
  lookup-keep p k (e ∷ es) = go (p e.0) refl (eqb k e.0) refl (p k) refl (lookup-keep p k es)
    where
      go : (t : Bool) → p e.0 ≡ t → (u : Bool) → eqb k e.0 ≡ u → (v : Bool) → p k ≡ v
          → lookup k (keep (λ x. p x.0) es) ≡ cond (p k) (lookup k es) none
          → lookup k (cond t (e ∷ keep (λ x. p x.0) es) (keep (λ x. p x.0) es)) ≡ cond v (cond u (some e.1) (lookup k es)) none
      go true a true b true c r = ap (λ (t : Bool). cond t (some e.1) (lookup k (keep (λ x. p x.0) es))) b
      go true a true b false c r = absurd (true≢false (sym a ∙ sym (ap p (eqb-true k e.0 b)) ∙ c))
      go true a false b v c r = ap (λ (t : Bool). cond t (some e.1) (lookup k (keep (λ x. p x.0) es))) b ∙ r ∙ ap (λ (t : Bool). cond t (lookup k es) none) c
      go false a true b true c r = absurd (false≢true (sym a ∙ sym (ap p (eqb-true k e.0 b)) ∙ c))
      go false a true b false c r = r ∙ ap (λ (t : Bool). cond t (lookup k es) none) c
      go false a false b v c r = r ∙ ap (λ (t : Bool). cond t (lookup k es) none) c

  lookup-at : (j k : ℕ) (v : A) (es : List (ℕ × A))
      → lookup j (put k v es) ≡ maybe (cond (ltb j k) (lookup j es) none) (cond (eqb j k) (some v) (cond (ltb k j) (lookup j es) none)) some
  lookup-at j k v es =
      lookup-append j (keep (λ e. ltb e.0 k) es) ((k, v) ∷ keep (λ e. ltb k e.0) es)
      ∙ ap₂ (λ (x y : Option A). maybe x (cond (eqb j k) (some v) y) some) (lookup-keep (λ x. ltb x k) j es) (lookup-keep (λ x. ltb k x) j es)

  -- what is put is found, and what stands under other keys stays
  pub lookup-put : (k : ℕ) (v : A) (es : List (ℕ × A)) → lookup k (put k v es) ≡ some v
  lookup-put k v es =
      lookup-at k k v es
      ∙ ap₂ (λ (s t : Bool). maybe (cond s (lookup k es) none) (cond t (some v) (cond (ltb k k) (lookup k es) none)) some) (le-ltb k k (omega arith)) (eq-eqb k k refl)

  pub lookup-put-other : (j k : ℕ) (v : A) (es : List (ℕ × A)) → eqb j k ≡ false → lookup j (put k v es) ≡ lookup j es
  lookup-put-other j k v es h =
      lookup-at j k v es ∙ ap (λ (t : Bool). maybe (cond (ltb j k) (lookup j es) none) (cond t (some v) (cond (ltb k j) (lookup j es) none)) some) h
      ∙ go (ltb j k) refl (ltb k j) refl (lookup j es)
    where
      go : (s : Bool) → ltb j k ≡ s → (t : Bool) → ltb k j ≡ t → (f : Option A) → maybe (cond s f none) (cond t f none) some ≡ f
      go true a true b f = absurd (let x = ltb-true j k a in let y = ltb-true k j b in omega arith)
      go true a false b none = refl
      go true a false b (some x) = refl
      go false a true b f = refl
      go false a false b f = absurd (let x = ltb-false j k a in let y = ltb-false k j b in let z = eqb-false j k h in omega arith)

  pub has_key-put : (k : ℕ) (v : A) (es : List (ℕ × A)) → has_key k (put k v es) ≡ true
  has_key-put k v es = ap (λ (o : Option A). maybe o false (λ x. true)) (lookup-put k v es)

  -- a key whose every value passes stays
  pub has_key-keep : (p : ℕ × A → Bool) (k : ℕ) → ((v : A) → p (k, v) ≡ true) → (es : List (ℕ × A)) → has_key k es ≡ true → has_key k (keep p es) ≡ true
  has_key-keep p k f [] h = h
  has_key-keep p k f (e ∷ es) h = go (eqb k e.0) refl (p e) refl h (has_key-keep p k f es)
    where
      go : (t : Bool) → eqb k e.0 ≡ t → (u : Bool) → p e ≡ u → maybe (cond t (some e.1) (lookup k es)) false (λ v. true) ≡ true
          → (has_key k es ≡ true → has_key k (keep p es) ≡ true) → has_key k (cond u (e ∷ keep p es) (keep p es)) ≡ true
      go true d true b g r = ap (λ (t : Bool). maybe (cond t (some e.1) (lookup k (keep p es))) false (λ v. true)) d
      go true d false b g r = absurd (false≢true (sym b ∙ ap (λ (n : ℕ). p (n, e.1)) (sym (eqb-true k e.0 d)) ∙ f e.1))
      go false d true b g r = ap (λ (t : Bool). maybe (cond t (some e.1) (lookup k (keep p es))) false (λ v. true)) d ∙ r g
      go false d false b g r = r g

  -- what is found and passes is found among those that pass
  pub lookup-kept : (p : ℕ × A → Bool) (k : ℕ) (v : A) → p (k, v) ≡ true → (es : List (ℕ × A)) → lookup k es ≡ some v → lookup k (keep p es) ≡ some v
  lookup-kept p k v f [] h = h
  lookup-kept p k v f (e ∷ es) h = go (eqb k e.0) refl (p e) refl h (lookup-kept p k v f es)
    where
      go : (t : Bool) → eqb k e.0 ≡ t → (u : Bool) → p e ≡ u → cond t (some e.1) (lookup k es) ≡ some v → (lookup k es ≡ some v → lookup k (keep p es) ≡ some v)
          → lookup k (cond u (e ∷ keep p es) (keep p es)) ≡ some v
      go true d true b g r = ap (λ (t : Bool). cond t (some e.1) (lookup k (keep p es))) d ∙ g
      go true d false b g r = absurd (false≢true (sym b ∙ ap₂ (λ (n : ℕ) (x : A). p (n, x)) (sym (eqb-true k e.0 d)) (ap (λ (o : Option A). maybe o e.1 (λ x. x)) g) ∙ f))
      go false d true b g r = ap (λ (t : Bool). cond t (some e.1) (lookup k (keep p es))) d ∙ r g
      go false d false b g r = r g

  pub lookup-all : (p : ℕ × A → Bool) (k : ℕ) (v : A) (es : List (ℕ × A)) → all p es ≡ true → lookup k es ≡ some v → p (k, v) ≡ true
  lookup-all p k v [] h e = absurd (let z : ◌≡◌ {A = ℕ} 0 1 = cc in omega arith)
  lookup-all p k v (x ∷ xs) h e = go (eqb k x.0) refl e (lookup-all p k v xs (and_right (p x) (all p xs) h))
    where
      go : (t : Bool) → eqb k x.0 ≡ t → cond t (some x.1) (lookup k xs) ≡ some v → (lookup k xs ≡ some v → p (k, v) ≡ true) → p (k, v) ≡ true
      go true d g r = let y : x.1 ≡ v = cc in ap₂ (λ (a : ℕ) (b : A). p (a, b)) (eqb-true k x.0 d) (sym y) ∙ and_left (p x) (all p xs) h
      go false d g r = r g

  -- ---- tests and lengths

  pub all-put : (p : ℕ × A → Bool) (k : ℕ) (v : A) (es : List (ℕ × A)) → p (k, v) ≡ true → all p es ≡ true → all p (put k v es) ≡ true
  all-put p k v es h g =
      all_append p (keep (λ e. ltb e.0 k) es) ((k, v) ∷ keep (λ e. ltb k e.0) es)
      ∙ both (all-kept p (λ e. ltb e.0 k) es g) (both h (all-kept p (λ e. ltb k e.0) es g))

  -- below, at and above a key is everything
  parts : (k : ℕ) (es : List (ℕ × A)) → length (keep (λ e. ltb e.0 k) es) + length (keep (λ e. eqb k e.0) es) + length (keep (λ e. ltb k e.0) es) ≡ length es
  parts k [] = refl
  parts k (e ∷ es) = go (ltb e.0 k) refl (eqb k e.0) refl (ltb k e.0) refl (parts k es)
    where
      go : (a : Bool) → ltb e.0 k ≡ a → (b : Bool) → eqb k e.0 ≡ b → (c : Bool) → ltb k e.0 ≡ c
          → length (keep (λ x. ltb x.0 k) es) + length (keep (λ x. eqb k x.0) es) + length (keep (λ x. ltb k x.0) es) ≡ length es
          → length (cond a (e ∷ keep (λ x. ltb x.0 k) es) (keep (λ x. ltb x.0 k) es)) + length (cond b (e ∷ keep (λ x. eqb k x.0) es) (keep (λ x. eqb k x.0) es)) + length (cond c (e ∷ keep (λ x. ltb k x.0) es) (keep (λ x. ltb k x.0) es)) ≡ suc (length es)
      go true p true q c r h = absurd (let x = ltb-true e.0 k p in let y = eqb-true k e.0 q in omega arith)
      go true p false q true r h = absurd (let x = ltb-true e.0 k p in let y = ltb-true k e.0 r in omega arith)
      go true p false q false r h = omega arith
      go false p true q true r h = absurd (let x = ltb-true k e.0 r in let y = eqb-true k e.0 q in omega arith)
      go false p true q false r h = omega arith
      go false p false q true r h = omega arith
      go false p false q false r h = absurd (let x = ltb-false e.0 k p in let y = ltb-false k e.0 r in eqb-false k e.0 q (omega arith))

  pub has_key-length : (k : ℕ) (es : List (ℕ × A)) → has_key k es ≡ true → 1 ≤ length (keep (λ e. eqb k e.0) es)
  has_key-length k [] h = absurd (false≢true h)
  has_key-length k (e ∷ es) h = go (eqb k e.0) h (has_key-length k es)
    where
      go : (t : Bool) → maybe (cond t (some e.1) (lookup k es)) false (λ v. true) ≡ true
          → (has_key k es ≡ true → 1 ≤ length (keep (λ x. eqb k x.0) es))
          → 1 ≤ length (cond t (e ∷ keep (λ x. eqb k x.0) es) (keep (λ x. eqb k x.0) es))
      go true g f = omega arith
      go false g f = f g

  put-size : (k : ℕ) (v : A) (es : List (ℕ × A)) → length (put k v es) ≡ length (keep (λ e. ltb e.0 k) es) + suc (length (keep (λ e. ltb k e.0) es))
  put-size k v es = length-append (keep (λ e. ltb e.0 k) es) ((k, v) ∷ keep (λ e. ltb k e.0) es)

  -- one more at most, and none more where the key is held
  pub put-length : (k : ℕ) (v : A) (es : List (ℕ × A)) → length (put k v es) ≤ suc (length es)
  put-length k v es = omega (arith, put-size k v es, parts k es)

  pub put_over : (k : ℕ) (v : A) (es : List (ℕ × A)) → has_key k es ≡ true → length (put k v es) ≤ length es
  put_over k v es h = omega (arith, put-size k v es, parts k es, has_key-length k es h)
