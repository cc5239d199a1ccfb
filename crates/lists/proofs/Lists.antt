-- Laws of `keep`, `all`, `first`, `map`, `elem` and `sum`.
use Prim.Native.Nat.{ℕ, zero, suc, ◌+◌, ◌≤◌, ◌<◌}
use mathlib.Core.Path.{◌≡◌, refl, sym, ap, ap₂, ◌∙◌}
use mathlib.Core.Bool.{Bool, true, false, cond, ◌&&◌, ◌||◌, not, and-false, and_comm, and_assoc, or_assoc}
use mathlib.Core.Option.{Option, some}
use mathlib.Core.List.{List, [], ◌∷◌, ◌++◌, map}
use lib.Dec.{ltb, eqb}
use lib.ListN.{length, get_or, take, drop}
use lib.Seq.{drop-cons}
use native.Mathlib.Numerals.{add-one}
use native.Mathlib.Omega.{arith}
use borrow.Author.Tests.{eqb-true, lt-ltb}
use Rattle.lists.specs.Lists.{keep, all, first, elem, sum}
use Rattle.lists.proofs.Tests.{by_test, cond_ap, both, and_left, and_right}

module _ {A : Type 0} where
  -- ---- keep

  pub keep_same : (p q : A → Bool) → ((x : A) → p x ≡ q x) → (xs : List A) → keep p xs ≡ keep q xs
  keep_same p q h [] = refl
  keep_same p q h (x ∷ xs) = ap₂ (λ (t : Bool) (l : List A). cond t (x ∷ l) l) (h x) (keep_same p q h xs)

  keep-step : (p : A → Bool) (t : Bool) (x : A) (xs : List A) → keep p (cond t (x ∷ xs) xs) ≡ cond (t && p x) (x ∷ keep p xs) (keep p xs)
  keep-step p true x xs = refl
  keep-step p false x xs = refl

  pub keep-keep : (p q : A → Bool) (xs : List A) → keep p (keep q xs) ≡ keep (λ x. q x && p x) xs
  keep-keep p q [] = refl
  keep-keep p q (x ∷ xs) = keep-step p (q x) x (keep q xs) ∙ ap (λ (l : List A). cond (q x && p x) (x ∷ l) l) (keep-keep p q xs)

  pub keep_swap : (p q : A → Bool) (xs : List A) → keep p (keep q xs) ≡ keep q (keep p xs)
  keep_swap p q xs = keep-keep p q xs ∙ keep_same (λ x. q x && p x) (λ x. p x && q x) (λ x. and_comm (q x) (p x)) xs ∙ sym (keep-keep q p xs)

  pub keep_append : (p : A → Bool) (xs ys : List A) → keep p (xs ++ ys) ≡ keep p xs ++ keep p ys
  keep_append p [] ys = refl
  keep_append p (x ∷ xs) ys =
      ap (λ (l : List A). cond (p x) (x ∷ l) l) (keep_append p xs ys) ∙ sym (cond_ap (λ l. l ++ keep p ys) (p x) (x ∷ keep p xs) (keep p xs))

  pub keep-length : (p : A → Bool) (xs : List A) → length (keep p xs) ≤ length xs
  keep-length p [] = omega arith
  keep-length p (x ∷ xs) = let h = keep-length p xs in by_test (λ l. length l ≤ suc (length xs)) (p x) (λ _. omega arith) (λ _. omega arith)

  pub keep_all : (p : A → Bool) (xs : List A) → all p xs ≡ true → keep p xs ≡ xs
  keep_all p [] h = refl
  keep_all p (x ∷ xs) h = ap₂ (λ (t : Bool) (l : List A). cond t (x ∷ l) l) (and_left (p x) (all p xs) h) (keep_all p xs (and_right (p x) (all p xs) h))

  pub keep-none : (p q : A → Bool) → ((x : A) → q x ≡ true → p x ≡ false) → (xs : List A) → all q xs ≡ true → keep p xs ≡ []
  keep-none p q d [] h = refl
  keep-none p q d (x ∷ xs) h = ap₂ (λ (t : Bool) (l : List A). cond t (x ∷ l) l) (d x (and_left (q x) (all q xs) h)) (keep-none p q d xs (and_right (q x) (all q xs) h))

  -- ---- all

  pub all_same : (p q : A → Bool) → ((x : A) → p x ≡ q x) → (xs : List A) → all p xs ≡ all q xs
  all_same p q h [] = refl
  all_same p q h (x ∷ xs) = ap₂ (λ (s t : Bool). s && t) (h x) (all_same p q h xs)

  pub all_take : (p : A → Bool) (n : ℕ) (xs : List A) → all p xs ≡ true → all p (take n xs) ≡ true
  all_take p zero xs h = refl
  all_take p (suc n) [] h = refl
  all_take p (suc n) (x ∷ xs) h = both (and_left (p x) (all p xs) h) (all_take p n xs (and_right (p x) (all p xs) h))

  pub all_drop : (p : A → Bool) (n : ℕ) (xs : List A) → all p xs ≡ true → all p (drop n xs) ≡ true
  all_drop p zero xs h = h
  all_drop p (suc n) [] h = refl
  all_drop p (suc n) (x ∷ xs) h = all_drop p n xs (and_right (p x) (all p xs) h)

  pub all_append : (p : A → Bool) (xs ys : List A) → all p (xs ++ ys) ≡ (all p xs && all p ys)
  all_append p [] ys = refl
  all_append p (x ∷ xs) ys = ap (λ (t : Bool). p x && t) (all_append p xs ys) ∙ sym (and_assoc (p x) (all p xs) (all p ys))

  all-step : (p : A → Bool) (t : Bool) (x : A) (xs : List A) → all p (cond t (x ∷ xs) xs) ≡ ((not t || p x) && all p xs)
  all-step p true x xs = refl
  all-step p false x xs = refl

  pub all_keep : (p q : A → Bool) (xs : List A) → all p (keep q xs) ≡ all (λ x. not (q x) || p x) xs
  all_keep p q [] = refl
  all_keep p q (x ∷ xs) = all-step p (q x) x (keep q xs) ∙ ap (λ (t : Bool). (not (q x) || p x) && t) (all_keep p q xs)

  pub all_meet : (p q r : A → Bool) → ((x : A) → p x ≡ true → q x ≡ true → r x ≡ true) → (xs : List A) → all p xs ≡ true → all q xs ≡ true → all r xs ≡ true
  all_meet p q r f [] h g = refl
  all_meet p q r f (x ∷ xs) h g = both (f x (and_left (p x) (all p xs) h) (and_left (q x) (all q xs) g)) (all_meet p q r f xs (and_right (p x) (all p xs) h) (and_right (q x) (all q xs) g))

  pub all_weaken : (p q : A → Bool) → ((x : A) → p x ≡ true → q x ≡ true) → (xs : List A) → all p xs ≡ true → all q xs ≡ true
  all_weaken p q f xs h = all_meet p p q (λ x a b. f x a) xs h h

  pub all_true : (p : A → Bool) → ((x : A) → p x ≡ true) → (xs : List A) → all p xs ≡ true
  all_true p h [] = refl
  all_true p h (x ∷ xs) = both (h x) (all_true p h xs)

  -- what holds of all holds of those kept, and so does the test that kept them
  pub all-kept : (p q : A → Bool) (xs : List A) → all p xs ≡ true → all p (keep q xs) ≡ true
  all-kept p q xs h = all_keep p q xs ∙ all_weaken p (λ x. not (q x) || p x) (λ x e. or_on (q x) (p x) e) xs h
    where
      or_on : (a b : Bool) → b ≡ true → (not a || b) ≡ true
      or_on true b e = e
      or_on false b e = refl

  pub all_own : (p : A → Bool) (xs : List A) → all p (keep p xs) ≡ true
  all_own p xs = all_keep p p xs ∙ all_true (λ x. not (p x) || p x) (λ x. not-or (p x)) xs
    where
      not-or : (t : Bool) → (not t || t) ≡ true
      not-or true = refl
      not-or false = refl

  -- what a first test drops and a later one would drop anyway
  pub keep_skip : (p q r : A → Bool) → ((x : A) → r x ≡ true → q x ≡ false → p x ≡ false) → (xs : List A) → keep p (keep r (keep q xs)) ≡ keep p (keep r xs)
  keep_skip p q r h xs =
      ap (keep p) (keep-keep r q xs) ∙ keep-keep p (λ x. q x && r x) xs
      ∙ keep_same (λ x. (q x && r x) && p x) (λ x. r x && p x) (λ x. go x (q x) refl (r x) refl) xs
      ∙ sym (keep-keep p r xs)
    where
      go : (x : A) (a : Bool) → q x ≡ a → (b : Bool) → r x ≡ b → ((a && b) && p x) ≡ (b && p x)
      go x true e b d = refl
      go x false e true d = sym (h x d e)
      go x false e false d = refl

  pub all_skip : (p q r : A → Bool) → ((x : A) → r x ≡ true → q x ≡ false → p x ≡ true) → (xs : List A) → all p (keep r (keep q xs)) ≡ all p (keep r xs)
  all_skip p q r h xs =
      ap (all p) (keep-keep r q xs) ∙ all_keep p (λ x. q x && r x) xs
      ∙ all_same (λ x. not (q x && r x) || p x) (λ x. not (r x) || p x) (λ x. go x (q x) refl (r x) refl) xs
      ∙ sym (all_keep p r xs)
    where
      go : (x : A) (a : Bool) → q x ≡ a → (b : Bool) → r x ≡ b → (not (a && b) || p x) ≡ (not b || p x)
      go x true e b d = refl
      go x false e true d = sym (h x d e)
      go x false e false d = refl

  -- ---- first

  -- what is found is found too under a further test that it passes
  pub first_also : (p q : A → Bool) (xs : List A) (y : A) → first p xs ≡ some y → q y ≡ true → first (λ x. q x && p x) xs ≡ some y
  first_also p q [] y h e = absurd (let z : ◌≡◌ {A = ℕ} 0 1 = cc in omega arith)
  first_also p q (x ∷ xs) y h e = go (p x) h (λ g. first_also p q xs y g e)
    where
      rest : Option A
      rest = first (λ z. q z && p z) xs

      go : (t : Bool) → cond t (some x) (first p xs) ≡ some y → (first p xs ≡ some y → rest ≡ some y) → cond (q x && t) (some x) rest ≡ some y
      go true g f = let d : x ≡ y = cc in ap (λ (t : Bool). cond (t && true) (some x) rest) (ap q d ∙ e) ∙ g
      go false g f = ap (λ (t : Bool). cond t (some x) rest) (and-false (q x)) ∙ f g

-- ---- map

module _ {A X : Type 0} (f : A → X) where
  pub keep-map : (p : X → Bool) (xs : List A) → keep p (map f xs) ≡ map f (keep (λ x. p (f x)) xs)
  keep-map p [] = refl
  keep-map p (x ∷ xs) =
      ap (λ (l : List X). cond (p (f x)) (f x ∷ l) l) (keep-map p xs) ∙ sym (cond_ap (map f) (p (f x)) (x ∷ keep (λ y. p (f y)) xs) (keep (λ y. p (f y)) xs))

  pub all_map : (p : X → Bool) (xs : List A) → all p (map f xs) ≡ all (λ x. p (f x)) xs
  all_map p [] = refl
  all_map p (x ∷ xs) = ap (λ (t : Bool). p (f x) && t) (all_map p xs)

  pub map-append : (xs ys : List A) → map f (xs ++ ys) ≡ map f xs ++ map f ys
  map-append [] ys = refl
  map-append (x ∷ xs) ys = ap (λ (l : List X). f x ∷ l) (map-append xs ys)

  pub map_same : (g : A → X) → ((x : A) → f x ≡ g x) → (xs : List A) → map f xs ≡ map g xs
  map_same g h [] = refl
  map_same g h (x ∷ xs) = ap₂ (λ (y : X) (l : List X). y ∷ l) (h x) (map_same g h xs)

  pub map-map : {Y : Type 0} (g : X → Y) (xs : List A) → map g (map f xs) ≡ map (λ x. g (f x)) xs
  map-map g [] = refl
  map-map {Y} g (x ∷ xs) = ap (λ (l : List Y). g (f x) ∷ l) (map-map g xs)

  -- functions that agree on what is kept
  pub map-keep : (g : A → X) (p : A → Bool) → ((x : A) → p x ≡ true → f x ≡ g x) → (xs : List A) → map f (keep p xs) ≡ map g (keep p xs)
  map-keep g p h [] = refl
  map-keep g p h (x ∷ xs) =
      by_test (λ l. map f l ≡ map g l) (p x) (λ e. ap₂ (λ (y : X) (l : List X). y ∷ l) (h x e) (map-keep g p h xs)) (λ _. map-keep g p h xs)

-- ---- elem

pub elem-append : (k : ℕ) (xs ys : List ℕ) → elem k (xs ++ ys) ≡ (elem k xs || elem k ys)
elem-append k [] ys = refl
elem-append k (x ∷ xs) ys = ap (λ (t : Bool). eqb k x || t) (elem-append k xs ys) ∙ sym (or_assoc (eqb k x) (elem k xs) (elem k ys))

pub elem-keep : (p : ℕ → Bool) (k : ℕ) (ks : List ℕ) → elem k (keep p ks) ≡ (elem k ks && p k)
elem-keep p k [] = refl
elem-keep p k (x ∷ xs) = go (eqb k x) refl (p x) refl (elem-keep p k xs)
  where
    go : (t : Bool) → eqb k x ≡ t → (u : Bool) → p x ≡ u → elem k (keep p xs) ≡ (elem k xs && p k)
        → elem k (cond u (x ∷ keep p xs) (keep p xs)) ≡ ((t || elem k xs) && p k)
    go true e true d h = ap (λ (t : Bool). t || elem k (keep p xs)) e ∙ sym (ap p (eqb-true k x e) ∙ d)
    go true e false d h = h ∙ ap (λ (t : Bool). elem k xs && t) (ap p (eqb-true k x e) ∙ d) ∙ and-false (elem k xs) ∙ sym (ap p (eqb-true k x e) ∙ d)
    go false e true d h = ap (λ (t : Bool). t || elem k (keep p xs)) e ∙ h
    go false e false d h = h

pub all-elem : (p : ℕ → Bool) (ks : List ℕ) → all p ks ≡ true → (k : ℕ) → elem k ks ≡ true → p k ≡ true
all-elem p [] h k e = absurd (let z : ◌≡◌ {A = ℕ} 0 1 = cc in omega arith)
all-elem p (x ∷ xs) h k e = go (eqb k x) refl e (all-elem p xs (and_right (p x) (all p xs) h) k)
  where
    go : (t : Bool) → eqb k x ≡ t → (t || elem k xs) ≡ true → (elem k xs ≡ true → p k ≡ true) → p k ≡ true
    go true q r f = ap p (eqb-true k x q) ∙ and_left (p x) (all p xs) h
    go false q r f = f r

-- numbers of which each is below a bound
pub all-below : (n : ℕ) (xs : List ℕ) → ((k : ℕ) → get_or xs k 0 < n) → all (λ x. ltb x n) xs ≡ true
all-below n [] f = refl
all-below n (x ∷ xs) f = both (lt-ltb x n (f 0)) (all-below n xs (λ k. f (suc k)))

-- ---- sum

pub sum_drop : (ns : List ℕ) (i : ℕ) → i < length ns → sum (drop i ns) ≡ get_or ns i 0 + sum (drop (i + 1) ns)
sum_drop ns i h = rw (add-one, drop-cons ns i 0)

pub sum-rest : (ns : List ℕ) (i : ℕ) → sum (drop i ns) ≤ sum ns
sum-rest ns zero = omega arith
sum-rest [] (suc i) = omega arith
sum-rest (n ∷ ns) (suc i) = let h = sum-rest ns i in omega arith
