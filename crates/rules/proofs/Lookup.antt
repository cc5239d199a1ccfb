-- The lookup is a scan in table order with a best so far, which gives way only to a longer mask; and a network without host bits has one name.
use Prim.Native.Nat.{ℕ, suc, ◌+◌, ◌-◌, ◌*◌, ◌^◌, ◌<◌}
use mathlib.Core.Path.{◌≡◌, refl, sym, ap, ap₂, ◌∙◌}
use mathlib.Core.Bool.{Bool, true, false, cond, ◌&&◌, ◌||◌, not, and-false, or-false}
use mathlib.Core.Option.{Option, none, some}
use mathlib.Core.List.{List, [], ◌∷◌, ◌++◌}
use lib.Dec.{ltb, leb, eqb}
use native.Mathlib.Nat.{add-zero}
use native.Mathlib.Omega.{arith}
use borrow.Author.Tests.{ltb-true, ltb-false, leb-true, leb-false, eqb-true, lt-ltb, le-ltb, le-leb, lt-leb, eq-eqb, ne_eqb}
use Rattle.lists.specs.Lists.{maybe, keep, all, first}
use Rattle.lists.proofs.Tests.{by_test, both, and_left, and_right, or_right}
use Rattle.lists.proofs.Lists.{all_append, all-kept, first_also}
use Rattle.lists.proofs.Rising.{Rising}
use Rattle.wire.specs.Layout.{mask_most}
use Rattle.wire.specs.Check.{host_bits}
use Rattle.wire.specs.Entries.{network_of, mask_of, is_clean}
use Rattle.wire.proofs.Laws.{host_bits_lem}
use Rattle.rules.specs.Promises.{OneName}
use Rattle.rules.specs.Lookup.{leading, covers, Announced, announced_by, announced, goes_before, covering, serving}

abbrev mask_in : Announced → ℕ
mask_in x = mask_of x.entry

-- ---- the scan

-- how long a mask has to be to be better than the best so far
abbrev pub needed : (best : Option Announced) → ℕ
needed b = maybe b 0 (λ x. suc (mask_of x.entry))

-- the best so far, once an entry more is seen
abbrev pub better : (best : Option Announced) → Announced → Option Announced
better b x = cond (leb (needed b) (mask_of x.entry)) (some x) b

-- and if those that do not cover the address are passed over
abbrev pub seen : (address : ℕ) → (best : Option Announced) → Announced → Option Announced
seen a b x = cond (covers a x.entry) (better b x) b

abbrev pub scan : (address : ℕ) → (best : Option Announced) → List Announced → Option Announced
scan a b [] = b
scan a b (x ∷ xs) = scan a (seen a b x) xs

-- list after list
pub scan-append : (a : ℕ) (b : Option Announced) (xs ys : List Announced) → scan a b (xs ++ ys) ≡ scan a (scan a b xs) ys
scan-append a b [] ys = refl
scan-append a b (x ∷ xs) ys = scan-append a (seen a b x) xs ys

-- ---- the best of a list, from its end: of equal masks the earliest

-- the better of the best so far and the best of what is left
abbrev join : Option Announced → Option Announced → Option Announced
join b none = b
join b (some y) = better b y

abbrev best : List Announced → Option Announced
best [] = none
best (x ∷ xs) = join (some x) (best xs)

join_step : (b : Option Announced) (x : Announced) (c : Option Announced) → join b (join (some x) c) ≡ join (better b x) c
join_step b x none = refl
join_step b x (some z) = go (ltb (mask_in x) (mask_in z)) refl (leb (needed b) (mask_in x)) refl
  where
    go : (t : Bool) → ltb (mask_in x) (mask_in z) ≡ t → (u : Bool) → leb (needed b) (mask_in x) ≡ u
        → join b (cond t (some z) (some x)) ≡ better (cond u (some x) b) z
    go true e true d =
        ap (λ (t : Bool). cond t (some z) b) (le-leb (needed b) (mask_in z) (omega (arith, ltb-true (mask_in x) (mask_in z) e, leb-true (needed b) (mask_in x) d)))
        ∙ sym (ap (λ (t : Bool). cond t (some z) (some x)) e)
    go true e false d = refl
    go false e true d = ap (λ (t : Bool). cond t (some x) b) d ∙ sym (ap (λ (t : Bool). cond t (some z) (some x)) e)
    go false e false d =
        ap (λ (t : Bool). cond t (some x) b) d
        ∙ sym (ap (λ (t : Bool). cond t (some z) b) (lt-leb (needed b) (mask_in z) (omega (arith, ltb-false (mask_in x) (mask_in z) e, leb-false (needed b) (mask_in x) d))))

scan-best : (a : ℕ) (b : Option Announced) (xs : List Announced) → scan a b xs ≡ join b (best (keep (λ x. covers a x.entry) xs))
scan-best a b [] = refl
scan-best a b (x ∷ xs) = go (covers a x.entry) (λ c. scan-best a c xs)
  where
    kept : List Announced
    kept = keep (λ y. covers a y.entry) xs

    go : (t : Bool) → ((c : Option Announced) → scan a c xs ≡ join c (best kept)) → scan a (cond t (better b x) b) xs ≡ join b (best (cond t (x ∷ kept) kept))
    go true f = f (better b x) ∙ sym (join_step b x (best kept))
    go false f = f b

-- no mask is longer than n if that of the best is not
longest : (n : ℕ) (xs : List Announced) → all (λ y. not (ltb n (mask_in y))) xs ≡ maybe (best xs) true (λ y. not (ltb n (mask_in y)))
longest n [] = refl
longest n (x ∷ xs) = ap (λ (t : Bool). not (ltb n (mask_in x)) && t) (longest n xs) ∙ go (best xs)
  where
    tests : (y : Announced) (t u v : Bool) → ltb (mask_in x) (mask_in y) ≡ t → ltb n (mask_in x) ≡ u → ltb n (mask_in y) ≡ v
        → (not u && not v) ≡ maybe (cond t (some y) (some x)) true (λ z. not (ltb n (mask_in z)))
    tests y true true v e d f = sym (ap not (lt-ltb n (mask_in y) (omega (arith, ltb-true (mask_in x) (mask_in y) e, ltb-true n (mask_in x) d))))
    tests y true false v e d f = sym (ap not f)
    tests y false true v e d f = sym (ap not d)
    tests y false false true e d f = absurd (omega (arith, ltb-false (mask_in x) (mask_in y) e, ltb-false n (mask_in x) d, ltb-true n (mask_in y) f))
    tests y false false false e d f = sym (ap not d)

    alone : (t : Bool) → (not t && true) ≡ not t
    alone true = refl
    alone false = refl

    go : (c : Option Announced) → (not (ltb n (mask_in x)) && maybe c true (λ y. not (ltb n (mask_in y)))) ≡ maybe (join (some x) c) true (λ y. not (ltb n (mask_in y)))
    go none = alone (ltb n (mask_in x))
    go (some y) = tests y (ltb (mask_in x) (mask_in y)) (ltb n (mask_in x)) (ltb n (mask_in y)) refl refl refl

-- ---- table order: of equal masks, the earlier entry goes before the later

-- x stands before y, by originator, then place
abbrev ahead : (x y : Announced) → Bool
ahead x y = ltb x.originator y.originator || (eqb x.originator y.originator && ltb x.place y.place)

abbrev Ordered : List Announced → Type 0
Ordered [] = Unit {0}
Ordered (x ∷ xs) = (all (ahead x) xs ≡ true) × Ordered xs

ordered-keep : (p : Announced → Bool) (xs : List Announced) → Ordered xs → Ordered (keep p xs)
ordered-keep p [] r = tt
ordered-keep p (x ∷ xs) r = by_test Ordered (p x) (λ _. (all-kept (ahead x) p xs r.0, ordered-keep p xs r.1)) (λ _. ordered-keep p xs r.1)

-- an originator's entries are behind an earlier one of its own and behind one of a smaller originator, and so are those of all later originators
behind-own : (o i j e : ℕ) → i < j → (es : List ℕ) → all (ahead (record { originator = o; place = i; entry = e })) (announced_by o j es) ≡ true
behind-own o i j e l [] = refl
behind-own o i j e l (f ∷ es) = both (or_right (ltb o o) (eqb o o && ltb i j) (both (eq-eqb o o refl) (lt-ltb i j l))) (behind-own o i (j + 1) e (omega arith) es)

behind_by : (x : Announced) (o i : ℕ) → ltb x.originator o ≡ true → (es : List ℕ) → all (ahead x) (announced_by o i es) ≡ true
behind_by x o i l [] = refl
behind_by x o i l (e ∷ es) = both (ap (λ (t : Bool). t || (eqb x.originator o && ltb x.place i)) l) (behind_by x o (i + 1) l es)

behind : (x : Announced) (xs : List (ℕ × List ℕ)) → all (λ y. ltb x.originator y.0) xs ≡ true → all (ahead x) (announced xs) ≡ true
behind x [] h = refl
behind x (y ∷ ys) h =
    all_append (ahead x) (announced_by y.0 0 y.1) (announced ys)
    ∙ both (behind_by x y.0 0 (and_left (ltb x.originator y.0) (all (λ z. ltb x.originator z.0) ys) h) y.1)
    (behind x ys (and_right (ltb x.originator y.0) (all (λ z. ltb x.originator z.0) ys) h))

ordered_by : (o i : ℕ) (es : List ℕ) (xs : List (ℕ × List ℕ)) → all (λ y. ltb o y.0) xs ≡ true → Ordered (announced xs) → Ordered (announced_by o i es ++ announced xs)
ordered_by o i [] xs h r = r
ordered_by o i (e ∷ es) xs h r =
    let x : Announced = record { originator = o; place = i; entry = e } in
    (all_append (ahead x) (announced_by o (i + 1) es) (announced xs) ∙ both (behind-own o i (i + 1) e (omega arith) es) (behind x xs h), ordered_by o (i + 1) es xs h r)

ordered : (xs : List (ℕ × List ℕ)) → Rising xs → Ordered (announced xs)
ordered [] r = tt
ordered (x ∷ xs) r = ordered_by x.0 0 x.1 xs r.0 (ordered xs r.1)

-- ---- in table order the one that no other goes before is the best from the end

not-both : (x y : Announced) → ahead x y ≡ true → ahead y x ≡ false
not-both x y = go (ltb x.originator y.originator) refl
  where
    go : (t : Bool) → ltb x.originator y.originator ≡ t → (t || (eqb x.originator y.originator && ltb x.place y.place)) ≡ true → ahead y x ≡ false
    go true d h =
        let l : x.originator < y.originator = ltb-true x.originator y.originator d in
        ap₂ (λ (s t : Bool). s || (t && ltb y.place x.place)) (le-ltb y.originator x.originator (omega arith))
        (ne_eqb y.originator x.originator (λ e. omega arith))
    go false d h =
        let e : x.originator ≡ y.originator = eqb-true x.originator y.originator (and_left _ (ltb x.place y.place) h) in
        let l : x.place < y.place = ltb-true x.place y.place (and_right (eqb x.originator y.originator) _ h) in
        ap₂ (λ (s t : Bool). s || (eqb y.originator x.originator && t)) (le-ltb y.originator x.originator (omega arith))
        (le-ltb y.place x.place (omega arith))
        ∙ and-false (eqb y.originator x.originator)

-- what stands behind goes before by a longer mask alone
only_longer : (x y : Announced) → ahead x y ≡ true → not (goes_before y x) ≡ not (ltb (mask_in x) (mask_in y))
only_longer x y h =
    ap (λ (t : Bool). not (ltb (mask_in x) (mask_in y) || (eqb (mask_in y) (mask_in x) && t))) (not-both x y h)
    ∙ ap (λ (t : Bool). not (ltb (mask_in x) (mask_in y) || t)) (and-false (eqb (mask_in y) (mask_in x))) ∙ ap not (or-false (ltb (mask_in x) (mask_in y)))

-- none goes before itself
not_itself : (x : Announced) → not (goes_before x x) ≡ true
not_itself x =
    simp (le-ltb (mask_in x) (mask_in x) (omega arith), le-ltb x.originator x.originator (omega arith), le-ltb x.place x.place (omega arith), and-false)

-- nor before one with a longer mask
not-before_longer : (x y : Announced) → ltb (mask_in x) (mask_in y) ≡ true → not (goes_before x y) ≡ true
not-before_longer x y h =
    let l : mask_in x < mask_in y = ltb-true (mask_in x) (mask_in y) h in
    ap₂ (λ (s t : Bool). not (s || (t && ahead x y))) (le-ltb (mask_in y) (mask_in x) (omega arith)) (ne_eqb (mask_in x) (mask_in y) (λ e. omega arith))

-- none of xs goes before x
abbrev unpreceded : List Announced → Announced → Bool
unpreceded xs x = all (λ y. not (goes_before y x)) xs

unpreceded_longest : (x : Announced) (xs : List Announced) → all (ahead x) xs ≡ true → unpreceded xs x ≡ all (λ y. not (ltb (mask_in x) (mask_in y))) xs
unpreceded_longest x [] h = refl
unpreceded_longest x (y ∷ ys) h =
    ap₂ (λ (s t : Bool). s && t) (only_longer x y (and_left (ahead x y) (all (ahead x) ys) h)) (unpreceded_longest x ys (and_right (ahead x y) (all (ahead x) ys) h))

first-best : (xs : List Announced) → Ordered xs → first (unpreceded xs) xs ≡ best xs
first-best [] r = refl
first-best (x ∷ xs) r =
    ap (λ (t : Bool). cond t (some x) rest) (ap₂ (λ (s t : Bool). s && t) (not_itself x) (unpreceded_longest x xs r.0 ∙ longest (mask_in x) xs))
    ∙ go (best xs) (first-best xs r.1)
  where
    rest : Option Announced
    rest = first (unpreceded (x ∷ xs)) xs

    tests : (y : Announced) → first (unpreceded xs) xs ≡ some y → (t : Bool) → ltb (mask_in x) (mask_in y) ≡ t → cond (not t) (some x) rest ≡ cond t (some y) (some x)
    tests y e true d = first_also (unpreceded xs) (λ z. not (goes_before x z)) xs y e (not-before_longer x y d)
    tests y e false d = refl

    go : (c : Option Announced) → first (unpreceded xs) xs ≡ c → cond (maybe c true (λ y. not (ltb (mask_in x) (mask_in y)))) (some x) rest ≡ join (some x) c
    go none e = refl
    go (some y) e = tests y e (ltb (mask_in x) (mask_in y)) refl

-- the lookup is the scan
pub serving-scan : (a : ℕ) (xs : List (ℕ × List ℕ)) → Rising xs → serving a xs ≡ scan a none (announced xs)
unfolding serving
serving-scan a xs r =
    first-best (covering a xs) (ordered-keep (λ x. covers a x.entry) (announced xs) (ordered xs r)) ∙ from_none (best (covering a xs)) ∙ sym (scan-best a none (announced xs))
  where
    from_none : (c : Option Announced) → c ≡ join none c
    from_none none = refl
    from_none (some y) = sym (ap (λ (t : Bool). cond t (some y) none) (le-leb 0 (mask_in y) (omega arith)))

-- ---- one name

-- an entry is its network and its mask
parts : (x : ℕ) → x ≡ network_of x * 256 + mask_of x
unfolding network_of mask_of
parts x = omega arith

-- without host bits, a network is its leading bits
leads : (x : ℕ) → is_clean x ≡ true → network_of x ≡ leading (mask_of x) (network_of x) * 2 ^ (mask_most - mask_of x)
unfolding is_clean
leads x h =
    let n = network_of x in
    let m = mask_of x in
    let z : host_bits n m ≡ 0 = eqb-true (host_bits n m) 0 h in
    (host_bits_lem n m).joined ∙ ap (λ (b : ℕ). leading m n * 2 ^ (mask_most - m) + b) z ∙ add-zero (leading m n * 2 ^ (mask_most - m))

pub one_name : OneName
unfolding covers
one_name a x y cx cy em ax ay =
    let lead : leading (mask_of x) (network_of x) ≡ leading (mask_of y) (network_of y)
    = eqb-true _ _ ax ∙ ap (λ (m : ℕ). leading m a) em ∙ sym (eqb-true _ _ ay) in
    let same : network_of x ≡ network_of y
    = leads x cx ∙ ap₂ (λ (b m : ℕ). b * 2 ^ (mask_most - m)) lead em ∙ sym (leads y cy) in
    parts x ∙ ap₂ (λ (n m : ℕ). n * 256 + m) same em ∙ sym (parts y)
