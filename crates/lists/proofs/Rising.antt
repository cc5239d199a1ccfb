-- Lists that rise by their keys: what is put or kept leaves them so, and a key stands in them once at most.
use Prim.Native.Nat.{ℕ, ◌<◌, ◌≤◌}
use mathlib.Core.Path.{◌≡◌, refl, sym, ap, ap₂, ◌∙◌}
use mathlib.Core.Bool.{Bool, true, false, cond, ◌&&◌}
use mathlib.Core.Logic.{◌⊎◌, inl, inr}
use mathlib.Core.Option.{some}
use mathlib.Core.List.{List, [], ◌∷◌, ◌++◌, append-nil}
use lib.Dec.{ltb, eqb}
use lib.ListN.{length}
use native.Mathlib.Omega.{arith}
use borrow.Author.Tests.{ltb-true, eqb-true, lt-ltb, le-ltb, ne_eqb}
use Rattle.lists.specs.Lists.{maybe, keep, all}
use Rattle.lists.specs.Keyed.{lookup, has_key, put, map_values, rising}
use Rattle.lists.proofs.Tests.{by_test, both, and_left, and_right}
use Rattle.lists.proofs.Lists.{keep_append, keep-length, keep_all, keep-none, all_append, all_meet, all_weaken, all-kept, all_own, all_map}
use Rattle.lists.proofs.Keyed.{all-put, put-length, put_over}

module _ {A : Type 0} where
  abbrev pub Rising : List (ℕ × A) → Type 0
  Rising [] = Unit {0}
  Rising (e ∷ es) = (all (λ x. ltb e.0 x.0) es ≡ true) × Rising es

  pub rising_in : (es : List (ℕ × A)) → rising es ≡ true → Rising es
  rising_in [] h = tt
  rising_in (e ∷ es) h = (and_left (all (λ x. ltb e.0 x.0) es) (rising es) h, rising_in es (and_right (all (λ x. ltb e.0 x.0) es) (rising es) h))

  pub rising_out : (es : List (ℕ × A)) → Rising es → rising es ≡ true
  rising_out [] r = refl
  rising_out (e ∷ es) r = both r.0 (rising_out es r.1)

  pub rising-keep : (q : ℕ × A → Bool) (es : List (ℕ × A)) → Rising es → Rising (keep q es)
  rising-keep q [] r = tt
  rising-keep q (e ∷ es) r =
      by_test Rising (q e) (λ _. (all-kept (λ x. ltb e.0 x.0) q es r.0, rising-keep q es r.1)) (λ _. rising-keep q es r.1)

  -- above a greater number is above
  all_up : (a b : ℕ) → ltb a b ≡ true → (es : List (ℕ × A)) → all (λ x. ltb b x.0) es ≡ true → all (λ x. ltb a x.0) es ≡ true
  all_up a b l es h = all_weaken (λ x. ltb b x.0) (λ x. ltb a x.0) (λ x g. lt-ltb a x.0 (omega (arith, ltb-true a b l, ltb-true b x.0 g))) es h

  rising_between : (k : ℕ) (v : A) (xs ys : List (ℕ × A)) → Rising xs → all (λ x. ltb x.0 k) xs ≡ true → Rising ys
      → all (λ x. ltb k x.0) ys ≡ true → Rising (xs ++ ((k, v) ∷ ys))
  rising_between k v [] ys r p s q = (q, s)
  rising_between k v (x ∷ xs) ys r p s q =
      let l : ltb x.0 k ≡ true = and_left (ltb x.0 k) (all (λ y. ltb y.0 k) xs) p in (
        all_append (λ y. ltb x.0 y.0) xs ((k, v) ∷ ys) ∙ both r.0 (both l (all_up x.0 k l ys q)),
        rising_between k v xs ys r.1 (and_right (ltb x.0 k) (all (λ y. ltb y.0 k) xs) p) s q,
      )

  pub rising-put : (k : ℕ) (v : A) (es : List (ℕ × A)) → Rising es → Rising (put k v es)
  rising-put k v es r =
      rising_between k v (keep (λ e. ltb e.0 k) es) (keep (λ e. ltb k e.0) es)
      (rising-keep (λ e. ltb e.0 k) es r) (all_own (λ e. ltb e.0 k) es) (rising-keep (λ e. ltb k e.0) es r) (all_own (λ e. ltb k e.0) es)

  pub found_once : (k : ℕ) (es : List (ℕ × A)) → Rising es → keep (λ e. eqb k e.0) es ≡ maybe (lookup k es) [] (λ v. (k, v) ∷ [])
  found_once k [] r = refl
  found_once k (e ∷ es) r = go (eqb k e.0) refl (found_once k es r.1)
    where
      go : (t : Bool) → eqb k e.0 ≡ t → keep (λ x. eqb k x.0) es ≡ maybe (lookup k es) [] (λ v. (k, v) ∷ [])
          → cond t (e ∷ keep (λ x. eqb k x.0) es) (keep (λ x. eqb k x.0) es) ≡ maybe (cond t (some e.1) (lookup k es)) [] (λ v. (k, v) ∷ [])
      go true d f =
          ap₂ (λ (n : ℕ) (l : List (ℕ × A)). (n, e.1) ∷ l) (sym (eqb-true k e.0 d))
          (keep-none (λ x. eqb k x.0) (λ x. ltb k x.0) (λ x g. ne_eqb k x.0 (λ y. let l : k < x.0 = ltb-true k x.0 g in omega arith)) es (ap (λ n. all (λ x. ltb n x.0) es) (eqb-true k e.0 d) ∙ r.0))
      go false d f = f

pub rising-map_values : {A X : Type 0} (f : A → X) (es : List (ℕ × A)) → Rising es → Rising (map_values f es)
rising-map_values f [] r = tt
rising-map_values {A} f (e ∷ es) r = (all_map (λ (x : ℕ × A). (x.0, f x.1)) (λ x. ltb e.0 x.0) es ∙ r.0, rising-map_values f es r.1)

-- ---- a list that rises, has at most n elements, and whose every element passes a test

module _ {A : Type 0} where
  pub record Held (p : ℕ × A → Bool) (n : ℕ) (es : List (ℕ × A)) : Type 0 where
    pub rise : Rising es
    pub most : length es ≤ n
    pub each : all p es ≡ true

  pub held_weaken : (p q : ℕ × A → Bool) (n : ℕ) (es : List (ℕ × A)) → ((e : ℕ × A) → p e ≡ true → q e ≡ true) → Held p n es → Held q n es
  held_weaken p q n es f h = record { rise = h.rise; most = h.most; each = all_weaken p q f es h.each }

  pub held-keep : (p q : ℕ × A → Bool) (n : ℕ) (es : List (ℕ × A)) → Held p n es → Held (λ e. p e && q e) n (keep q es)
  held-keep p q n es h =
      record {
        rise = rising-keep q es h.rise;
        most = let x = keep-length q es in let y = h.most in omega arith;
        each = all_meet p q (λ e. p e && q e) (λ e a b. both a b) (keep q es) (all-kept p q es h.each) (all_own q es);
      }

  pub held-put : (p : ℕ × A → Bool) (n k : ℕ) (v : A) (es : List (ℕ × A)) → Held p n es → p (k, v) ≡ true → (has_key k es ≡ true) ⊎ (length es < n) → Held p n (put k v es)
  held-put p n k v es h g c = record { rise = rising-put k v es h.rise; most = room c; each = all-put p k v es g h.each }
    where
      room : (has_key k es ≡ true) ⊎ (length es < n) → length (put k v es) ≤ n
      room (inl x) = let y = put_over k v es x in let z = h.most in omega arith
      room (inr x) = let y = put-length k v es in omega arith

-- ---- where a value lands, between what is below its key and what is above

module _ {A : Type 0} (k : ℕ) (v : A) (xs ys : List (ℕ × A)) (low : all (λ e. ltb e.0 k) xs ≡ true) (top : all (λ e. ltb k e.0) ys ≡ true) where
  below : keep (λ e. ltb e.0 k) (xs ++ ys) ≡ xs
  below =
      keep_append (λ e. ltb e.0 k) xs ys
      ∙ ap₂ (λ (a b : List (ℕ × A)). a ++ b) (keep_all (λ e. ltb e.0 k) xs low)
      (keep-none (λ e. ltb e.0 k) (λ e. ltb k e.0) (λ e h. le-ltb e.0 k (let l = ltb-true k e.0 h in omega arith)) ys top)
      ∙ append-nil xs

  above : keep (λ e. ltb k e.0) (xs ++ ys) ≡ ys
  above =
      keep_append (λ e. ltb k e.0) xs ys
      ∙ ap₂ (λ (a b : List (ℕ × A)). a ++ b)
      (keep-none (λ e. ltb k e.0) (λ e. ltb e.0 k) (λ e h. le-ltb k e.0 (let l = ltb-true e.0 k h in omega arith)) xs low)
      (keep_all (λ e. ltb k e.0) ys top)

  -- a new value
  pub put-new : put k v (xs ++ ys) ≡ xs ++ ((k, v) ∷ ys)
  put-new = ap₂ (λ (a b : List (ℕ × A)). a ++ ((k, v) ∷ b)) below above
