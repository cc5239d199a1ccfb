-- This link among the others: where it stands, what it leaves of them, and which is best. Assumes nothing.
use mathlib.Core.Path.{◌≡◌, refl, sym, ap, ◌∙◌, subst}
use mathlib.Core.List.{List, [], ◌∷◌, ◌++◌, map}
use mathlib.Core.Bool.{Bool, true, false, cond, ◌||◌, not}
use mathlib.Core.Option
use mathlib.Core.Option.{Option, none, some}
use Prim.Native.Nat.{ℕ, zero, suc, ◌+◌, ◌*◌, ◌≤◌, ◌<◌}
use native.Mathlib.Nat.{zero-mul, zero-mod}
use native.Mathlib.Omega.{arith}
use native.Mathlib.Numerals.{add-one}
use lib.Dec.{ltb, eqb}
use lib.ListN.{length, take, drop, length-map}
use borrow.Author.Tests.{lt-ltb, ltb-false, eq-eqb}
use Rattle.lists.specs.Lists.{maybe, keep, all}
use Rattle.lists.specs.Keyed.{lookup, put, map_values}
use Rattle.lists.proofs.Tests.{and_left, and_right}
use Rattle.lists.proofs.Lists.{keep_append, keep-map, all_append, all_keep, all_meet}
use Rattle.lists.proofs.Keyed.{lookup-map_values, all-put}
use Rattle.cells.specs.Area.{column}
use Rattle.std.specs.Prelude.{Result, Ok, Err}
use Rattle.cells.specs.Find.{Sorted, IsAt, FoundIn}
use Rattle.cells.proofs.Bools.{same_test}
use Rattle.cells.proofs.Keys.{length-column}
use Rattle.cells.proofs.Trips.{map-take}
use Rattle.cells.proofs.Search.{at-below}
use Rattle.window.specs.Window.{bit, shift, mark, count, has_mark}
use Rattle.window.specs.declared.Marks.{Marks}
use Rattle.window.specs.Marks.{word_of}
use Rattle.window.proofs.Bits.{bit_zero, bit-mark}
use Rattle.rules.specs.Settings.{Config, link_cells}
use Rattle.rules.specs.Rules.{stands_below}
use Rattle.rules.specs.Table.{marks_at, is_below}
use Rattle.table_record.specs.Links.{links_from, link_at}
use Rattle.table_record.proofs.Links.{length-links, link-within, link-among, link_apart, marks-found, marks_missing}
use Rattle.count_best_link.specs.declared.Step.{Step}
use Rattle.count_best_link.specs.BestLink.{Links, moved, chosen}
use Rattle.count_links.specs.declared.Spot.{Spot}
use Rattle.count_links.specs.declared.Left.{Left}
use Rattle.count_links.specs.Links.{stays, Located, SpotOf, Built, Arranged, Recounted}

-- ---- what a search found

module _ (n : ℕ) (c : List ℕ) (s : Sorted link_cells n c) (key : ℕ) {f : Result ℕ ℕ} (found : FoundIn (column link_cells n c) key f) {i : ℕ} where
  module _ (e : f ≡ Ok i) where
    is_at : IsAt (column link_cells n c) key i
    is_at = subst (FoundIn (column link_cells n c) key) e found

    -- its cells are there
    pub found_within : (i + 1) * link_cells ≤ length c
    found_within = link-within n c key i s is_at

    pub located-at : {v : ℕ} → v ≡ (link_at c i).1 → Located (links_from n c) key i (i + 1) v
    located-at ev =
        let h = at-below link_cells n c key i is_at in
        let a = link-among n c key i s is_at in
        record {
          order = omega arith;
          within = omega (arith, length-links n c);
          below = a.below;
          above = a.above ∙ ap (λ (k : ℕ). drop k (links_from n c)) (sym (add-one i));
          marks = ev ∙ marks-found n c key i s is_at;
        }

  pub located-place : {v : ℕ} → v ≡ 0 → f ≡ Err i → Located (links_from n c) key i i v
  located-place ev e =
      let p = subst (FoundIn (column link_cells n c) key) e found in
      let h = p.within in
      let a = link_apart n c key i p in
      record {
        order = omega arith;
        within = omega (arith, length-links n c, length-column link_cells n c);
        below = a.below;
        above = a.above;
        marks = ev ∙ marks_missing n c key i p;
      }

-- ---- links whose words have changed stand where they stood

map-drop : {A X : Type 0} (f : A → X) (n : ℕ) (l : List A) → map f (drop n l) ≡ drop n (map f l)
map-drop f zero l = refl
map-drop f (suc n) [] = refl
map-drop f (suc n) (x ∷ l) = map-drop f n l

module _ (f : ℕ → ℕ) (zero_is : f 0 ≡ 0) (ls : Links) (key low high v : ℕ) (s : Located ls key low high v) where
  word_of_lem : (o : Option ℕ) → f (maybe o 0 (λ x. x)) ≡ maybe (Option.map f o) 0 (λ x. x)
  word_of_lem none = zero_is
  word_of_lem (some x) = refl

  pub located_values : Located (map_values f ls) key low high (f v)
  located_values =
      let turn : ℕ × ℕ → ℕ × ℕ = λ e. (e.0, f e.1) in
      let w = s.within in
      record {
        order = s.order;
        within = omega (arith, length-map ls turn);
        below = keep-map turn (λ e. ltb e.0 key) ls ∙ ap (map turn) s.below ∙ map-take turn low ls;
        above = keep-map turn (λ e. ltb key e.0) ls ∙ ap (map turn) s.above ∙ map-drop turn high ls;
        marks = ap f s.marks ∙ word_of_lem (lookup key ls) ∙ sym (ap (λ (o : Option ℕ). maybe o 0 (λ x. x)) (lookup-map_values f key ls));
      }

shift_none : (w d : ℕ) → shift w d 0 ≡ 0
unfolding shift
shift_none w d = rw (zero-mul, zero-mod)

-- ---- this link has a mark, so it keeps its place

pub mark_has : (v k : ℕ) → has_mark (mark v k) ≡ true
mark_has v k = lt-ltb 0 (mark v k) (go (mark v k) (bit-mark v k k ∙ ap (λ (t : Bool). t || bit v k) (eq-eqb k k refl)))
  where
    go : (x : ℕ) → bit x k ≡ true → 0 < x
    go zero e = let z : ◌≡◌ {A = ℕ} 0 1 = cc (bit_zero k) in absurd (omega arith)
    go (suc x) e = omega arith

-- ---- a test that this link passes is that of the others

module _ (p : ℕ × ℕ → Bool) (k : ℕ) (own : (e : ℕ × ℕ) → e.0 ≡ k → p e ≡ true) (v : ℕ) (es : Links) where
  abbrev under : ℕ × ℕ → Bool
  under e = ltb e.0 k

  abbrev over : ℕ × ℕ → Bool
  over e = ltb k e.0

  each : (e : ℕ × ℕ) (a b : Bool) → under e ≡ a → over e ≡ b → (not a || p e) ≡ true → (not b || p e) ≡ true → p e ≡ true
  each e true b ea eb l h = l
  each e false true ea eb l h = h
  each e false false ea eb l h = own e (omega (arith, ltb-false e.0 k ea, ltb-false k e.0 eb))

  all_others : all p (put k v es) ≡ all p es
  all_others = same_test (all p (put k v es)) (all p es) out (λ h. all-put p k v es (own (k, v) refl) h)
    where
      out : all p (put k v es) ≡ true → all p es ≡ true
      out h =
          let g = sym (all_append p (keep under es) ((k, v) ∷ keep over es)) ∙ h in
          all_meet (λ e. not (under e) || p e) (λ e. not (over e) || p e) p (λ e l u. each e (under e) (over e) refl refl l u) es
          (sym (all_keep p under es) ∙ and_left (all p (keep under es)) (all p ((k, v) ∷ keep over es)) g)
          (sym (all_keep p over es) ∙ and_right (p (k, v)) (all p (keep over es)) (and_right (all p (keep under es)) (all p ((k, v) ∷ keep over es)) g))

chosen-put : (κ : Config) (key v best : ℕ) (ls : Links) → chosen κ key v best ls ≡ chosen κ key v best (put key v ls)
chosen-put κ key v best ls =
    ap (λ (t : Bool). cond t key best)
    (sym (all_others (is_below κ key (count v)) key (λ e h. ap (λ (t : Bool). t || stands_below κ (count e.1) (count v)) (eq-eqb e.0 key h)) v ls))

-- ---- what the code arranged about the place that it found is what the rules leave

module _ {ls : Links} {key low high u : ℕ} (s : Located ls key low high u) (v : ℕ) where
  kept_put : (b : ℕ) → has_mark v ≡ true → keep (stays b) (take low ls) ++ ((key, v) ∷ keep (stays b) (drop high ls)) ≡ keep (stays b) (put key v ls)
  kept_put b h =
      sym ((λ i. keep (stays b) (s.below i ++ ((key, v) ∷ s.above i))) ∙ keep_append (stays b) (take low ls) ((key, v) ∷ drop high ls)
      ∙ ap (λ (t : Bool). keep (stays b) (take low ls) ++ cond (t || eqb key b) ((key, v) ∷ keep (stays b) (drop high ls)) (keep (stays b) (drop high ls))) h)

-- this link stood at `held`, its marks are shifted to s and then marked
pub recount-done : (part : List ℕ) (step : Step) (n : ℕ) (held : Spot) (marks : Marks) {out : List ℕ} {key best s : ℕ} {r : Left} → SpotOf (links_from n part) key held
    → s ≡ shift step.policy.window step.up (word_of held.marks) → word_of marks ≡ mark s step.below
    → Arranged out r (record { low = held.low; high = held.high; marks = marks }) step.policy key best (moved step n part) → Recounted out r step key best (moved step n part)
recount-done part step n held marks {out} {key} {best} {s} {r} l es ev a =
    let ls = moved step n part in
    let at = located_values (shift step.policy.window step.up) (shift_none step.policy.window step.up) (links_from n part) key held.low held.high (word_of held.marks) l in
    let v : ℕ = word_of marks in
    let k : ℕ = step.below in
    let e : v ≡ mark (marks_at ls key) k = ev ∙ ap (λ (x : ℕ). mark x k) (es ∙ at.marks) in
    record {
      chose = λ κ f. a.chose κ f ∙ chosen-put κ key v best ls ∙ ap (λ (x : ℕ). chosen κ key x best (put key x ls)) e;
      marks = a.marks ∙ e;
      links = subst (Built out r.links []) (kept_put at v r.best (ap has_mark ev ∙ mark_has s k) ∙ ap (λ (x : ℕ). keep (stays r.best) (put key x ls)) e) a.links;
    }
