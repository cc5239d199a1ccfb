-- Counting a message marks its number on its link, and no other number that was not marked before. Assumes nothing.
use Prim.Native.Nat.{ℕ, ◌<◌, ◌^◌}
use mathlib.Core.Path.{◌≡◌, refl, sym, ap, ◌∙◌}
use mathlib.Core.Logic.{◌⊎◌, inl, inr, ⊎_elim}
use mathlib.Core.Bool.{Bool, true, false, cond, ◌&&◌, ◌||◌, true≢false}
use mathlib.Core.Option.{Option, none, some, map}
use mathlib.Core.List.{List, [], ◌∷◌}
use lib.Dec.{ltb, eqb}
use lib.Pow.{pow_pos}
use native.Mathlib.Omega.{arith}
use borrow.Author.Tests.{ltb-true, eqb-true}
use Rattle.lists.specs.Lists.{maybe, and, keep, all}
use Rattle.lists.specs.Keyed.{lookup, put, map_values}
use Rattle.lists.proofs.Tests.{both, and_left, and_right, and_at}
use Rattle.lists.proofs.Lists.{all-kept}
use Rattle.lists.proofs.Keyed.{lookup-map_values, lookup-put, lookup-put-other, lookup-all}
use Rattle.lists.proofs.Rising.{Rising, rising-put, rising-map_values}
use Rattle.window.specs.Window.{numbers, distance, new, inside, advance, marked, shift, mark, has_mark}
use Rattle.window.proofs.Numbers.{distance_self}
use Rattle.window.proofs.Positions.{new-outside}
use Rattle.window.proofs.Window.{laws}
use Rattle.rules.specs.Settings.{Config}
use Rattle.rules.specs.Messages.{Message}
use Rattle.rules.specs.Rules.{sequence_of}
use Rattle.rules.specs.Table.{TableRecord, marks_at, mark_on, begun, move_to, with_entries, entries_then, first_record, next_record, is_marked}
use Rattle.rules.specs.WellFormed.{link_tests}
use Rattle.rules.proofs.Counting.{sequence-lt, advance-lt}

-- ---- lists

-- what is found among the kept elements of a list that rises was found in it
kept-found : {A : Type 0} (p : ℕ × A → Bool) (k : ℕ) (v : A) (es : List (ℕ × A)) → Rising es → lookup k (keep p es) ≡ some v → lookup k es ≡ some v
kept-found p k v [] r h = h
kept-found p k v (e ∷ es) r h = go (p e) (eqb k e.0) refl h (kept-found p k v es r.1)
  where
    go : (t u : Bool) → eqb k e.0 ≡ u → lookup k (cond t (e ∷ keep p es) (keep p es)) ≡ some v → (lookup k (keep p es) ≡ some v → lookup k es ≡ some v)
        → cond u (some e.1) (lookup k es) ≡ some v
    go true true d g f = ap (λ (t : Bool). cond t (some e.1) (lookup k (keep p es))) (sym d) ∙ g
    go true false d g f = f (ap (λ (t : Bool). cond t (some e.1) (lookup k (keep p es))) (sym d) ∙ g)
    go false true d g f =
        let x = lookup-all (λ y. ltb e.0 y.0) k v (keep p es) (all-kept (λ y. ltb e.0 y.0) p es r.0) g in
        absurd (omega (arith, ltb-true e.0 k x, eqb-true k e.0 d))
    go false false d g f = f g

-- a number marked in a link's word after each word is turned into another is marked in that link's word so turned
turned : (f : ℕ → ℕ) (ls : List (ℕ × ℕ)) (l c n : ℕ) → marked (marks_at (map_values f ls) l) c n ≡ true → marked (f (marks_at ls l)) c n ≡ true
turned f ls l c n h = go (lookup l ls) (ap (λ (o : Option ℕ). marked (maybe o 0 (λ v. v)) c n) (sym (lookup-map_values f l ls)) ∙ h)
  where
    go : (o : Option ℕ) → marked (maybe (map f o) 0 (λ v. v)) c n ≡ true → marked (f (maybe o 0 (λ v. v))) c n ≡ true
    go none g = absurd (true≢false (sym g ∙ (laws 0).none-marked c n))
    go (some v) g = g

-- ---- one message

module _ (κ : Config) (m : Message) where
  abbrev W : ℕ
  W = κ.settings.window

  -- the message's own number on its own link
  abbrev pub Own : (l n : ℕ) → Type 0
  Own l n = (l ≡ m.link) × (n ≡ sequence_of m)

  module _ (x : TableRecord) (l n : ℕ) (hc : x.current < numbers) (hn : n < numbers) where
    -- once its number is marked
    marked_on : Rising x.links → is_marked κ (mark_on κ m x) l n ≡ true → Own l n ⊎ (is_marked κ x l n ≡ true)
    unfolding is_marked
    marked_on r h = go (lookup l (mark_on κ m x).links) refl (and_right (inside W c n) (marked (marks_at (mark_on κ m x).links l) c n) h)
      where
        c : ℕ
        c = x.current

        ls : List (ℕ × ℕ)
        ls = x.links

        old : ℕ
        old = marks_at ls m.link

        v : ℕ
        v = mark old (distance c (sequence_of m))

        within : marked (marks_at ls l) c n ≡ true → Own l n ⊎ (is_marked κ x l n ≡ true)
        within g = inr (both (and_left (inside W c n) (marked (marks_at (mark_on κ m x).links l) c n) h) g)

        -- on the message's link
        here : l ≡ m.link → (t : Bool) → eqb n (sequence_of m) ≡ t → (t || marked old c n) ≡ true → Own l n ⊎ (is_marked κ x l n ≡ true)
        here e true d g = inl (e, eqb-true n (sequence_of m) d)
        here e false d g = within (ap (λ k. marked (marks_at ls k) c n) e ∙ g)

        at : (w : ℕ) → marked w c n ≡ true → lookup l (put m.link v ls) ≡ some w → (t : Bool) → eqb l m.link ≡ t → Own l n ⊎ (is_marked κ x l n ≡ true)
        at w g e true d =
            let same : l ≡ m.link = eqb-true l m.link d in
            let f : lookup l (put m.link v ls) ≡ some v = ap (λ k. lookup k (put m.link v ls)) same ∙ lookup-put m.link v ls in
            let y : w ≡ v = cc in
            here same (eqb n (sequence_of m)) refl (sym ((laws W).marks-one old c (sequence_of m) n hc (sequence-lt m) hn) ∙ ap (λ k. marked k c n) (sym y) ∙ g)
        at w g e false d = within (ap (λ (o : Option ℕ). marked (maybe o 0 (λ k. k)) c n) (sym (lookup-put-other l m.link v ls d) ∙ e) ∙ g)

        go : (o : Option ℕ) → lookup l (mark_on κ m x).links ≡ o → marked (maybe o 0 (λ k. k)) c n ≡ true → Own l n ⊎ (is_marked κ x l n ≡ true)
        go none e g = absurd (true≢false (sym g ∙ (laws W).none-marked c n))
        go (some w) e g =
            at w g (kept-found (λ y. has_mark y.1 || eqb y.0 (mark_on κ m x).best) l w (put m.link v ls) (rising-put m.link v ls r) e) (eqb l m.link) refl

    -- once the window has moved, or not
    moved_up : marks_at x.links l < 2 ^ W → is_marked κ (move_to κ (advance W x.current (sequence_of m)) x) l n ≡ true → is_marked κ x l n ≡ true
    unfolding is_marked advance new
    moved_up small h = go (new W x.current (sequence_of m)) refl h
      where
        c : ℕ
        c = x.current

        v : ℕ
        v = marks_at x.links l

        -- in the record whose current number is k
        word : (k : ℕ) → (inside W k n && marked (marks_at (map_values (shift W (distance k c)) x.links) l) k n) ≡ true → marked (shift W (distance k c) v) k n ≡ true
        word k g = turned (shift W (distance k c)) x.links l k n (and_right (inside W k n) (marked (marks_at (map_values (shift W (distance k c)) x.links) l) k n) g)

        go : (t : Bool) → new W c (sequence_of m) ≡ t
            → (inside W (cond t (sequence_of m) c) n && marked (marks_at (map_values (shift W (distance (cond t (sequence_of m) c) c)) x.links) l) (cond t (sequence_of m) c) n) ≡ true
            → (inside W c n && marked v c n) ≡ true
        go false d g =
            both (and_left (inside W c n) (marked (marks_at (map_values (shift W (distance c c)) x.links) l) c n) g)
            (ap (λ k. marked k c n) (sym (ap (λ k. shift W k v) (distance_self c) ∙ (laws W).stayed v small)) ∙ word c g)
        go true d g =
            let k = sequence_of m in
            and_right (inside W k n) (inside W c n && marked v c n) (sym ((laws W).moved v c k n hc (sequence-lt m) hn (new-outside W c k d)) ∙ word k g)

  module _ (l n : ℕ) (hn : n < numbers) where
    pub first_marks : is_marked κ (first_record κ m) l n ≡ true → Own l n
    unfolding first_record is_marked
    first_marks h =
        ⊎_elim (λ (o : Own l n). o)
        (λ (g : is_marked κ (begun m) l n ≡ true). absurd (true≢false (sym (and_right (inside W (sequence_of m) n) (marked 0 (sequence_of m) n) g) ∙ (laws W).none-marked (sequence_of m) n)))
        (marked_on (begun m) l n (sequence-lt m) hn tt h)

    pub next_marks : (b : ℕ) (x : TableRecord) → x.current < numbers → Rising x.links → all (λ e. and (link_tests κ b e)) x.links ≡ true
        → is_marked κ (next_record κ m x) l n ≡ true → Own l n ⊎ (is_marked κ x l n ≡ true)
    unfolding next_record is_marked
    next_marks b x hc r each h =
        let k = advance W x.current (sequence_of m) in
        ⊎_elim (λ (o : Own l n). inl o)
        (λ (g : is_marked κ (move_to κ k x) l n ≡ true). inr (moved_up x l n hc hn (small (lookup l x.links) refl) g))
        (marked_on (with_entries (entries_then κ m x) (move_to κ k x)) l n (advance-lt W x.current (sequence_of m) hc (sequence-lt m)) hn (rising-map_values (shift W (distance k x.current)) x.links r) h)
      where
        small : (o : Option ℕ) → lookup l x.links ≡ o → maybe o 0 (λ v. v) < 2 ^ W
        small none e = pow_pos W
        small (some v) e = ltb-true v (2 ^ W) (and_at (link_tests κ b (l, v)) (lookup-all (λ y. and (link_tests κ b y)) l v x.links each e) 2)
