-- A record after counting: its links rise, fit the settings, have marks or are best, and best is among them.
use Prim.Native.Nat.{ℕ, ◌≤◌, ◌<◌, ◌^◌}
use mathlib.Core.Path.{◌≡◌, refl, ap, ◌∙◌}
use mathlib.Core.Logic.{◌⊎◌, inl, inr}
use mathlib.Core.Bool.{Bool, true, false, ◌||◌}
use mathlib.Core.Option.{Option, none, some}
use mathlib.Core.List.{List, [], ◌∷◌}
use lib.Dec.{ltb, eqb}
use lib.Pow.{pow_pos}
use native.Mathlib.Omega.{arith}
use borrow.Author.Tests.{ltb-true, eqb-true, eqb-false, lt-ltb, eq-eqb}
use Rattle.lists.specs.Lists.{maybe, and, keep, all}
use Rattle.lists.specs.Keyed.{lookup, has_key, put}
use Rattle.lists.proofs.Tests.{by_test, or_right, and_at, end, also, and-each}
use Rattle.lists.proofs.Lists.{all_meet, all_weaken, all-kept, all_own, all_map}
use Rattle.lists.proofs.Keyed.{lookup-put-other, has_key-put, has_key-keep, has_key-map_values, lookup-all, all-put}
use Rattle.lists.proofs.Rising.{Rising, rising-keep, rising-put, rising-map_values}
use Rattle.window.specs.Window.{numbers, distance, new, stale, advance, shift, mark, has_mark}
use Rattle.window.proofs.Numbers.{distance_self}
use Rattle.window.proofs.Positions.{inside-lt, not-stale}
use Rattle.window.proofs.Window.{laws}
use Rattle.rules.specs.Settings.{Config, allowed, is_address, is_in_use}
use Rattle.rules.specs.Calls.{neighbour_of, interface_of}
use Rattle.rules.specs.Messages.{Message}
use Rattle.rules.specs.Rules.{sequence_of}
use Rattle.rules.specs.Table.{TableRecord, marks_at, is_highest, settle, with_links, mark_on, begun, move_to, with_entries, entries_then, first_record, next_record, is_stale_in}
use Rattle.rules.specs.WellFormed.{link_tests}
use Rattle.rules.proofs.Config.{window-low}

-- ---- the window once a number is counted

pub sequence-lt : (m : Message) → sequence_of m < numbers
sequence-lt m = omega arith

pub advance-lt : (W c n : ℕ) → c < numbers → n < numbers → advance W c n < numbers
unfolding advance new
advance-lt W c n hc hn = by_test (λ x. x < numbers) (new W c n) (λ _. hn) (λ _. hc)

-- a number that isn't stale lies inside it
pub advance-inside : (W c n : ℕ) → 1 ≤ W → stale W c n ≡ false → distance (advance W c n) n < W
unfolding advance new
advance-inside W c n h s =
    by_test (λ x. distance x n < W) (new W c n) (λ _. omega (arith, distance_self n)) (λ e. inside-lt W c n (not-stale W c n s e))

-- ---- links

module _ (κ : Config) where
  -- what is asked of a link whether it has a mark or not
  abbrev fit_tests : ℕ × ℕ → List Bool
  fit_tests e = is_address (neighbour_of e.0) ∷ is_in_use κ (interface_of e.0) ∷ ltb e.1 (2 ^ κ.settings.window) ∷ []

  abbrev fits : ℕ × ℕ → Bool
  fits e = and (fit_tests e)

  -- a link keeps fitting with another word below 2 ^ W
  refit : (l v w : ℕ) → fits (l, v) ≡ true → w < 2 ^ κ.settings.window → fits (l, w) ≡ true
  refit l v w h g = let at = and_at (fit_tests (l, v)) h in and-each {ts = fit_tests (l, w)} (also (at 0) (also (at 1) (also (lt-ltb w (2 ^ κ.settings.window) g) end)))

  link_fits : (b : ℕ) (e : ℕ × ℕ) → and (link_tests κ b e) ≡ true → fits e ≡ true
  link_fits b e h = let at = and_at (link_tests κ b e) h in and-each {ts = fit_tests e} (also (at 0) (also (at 1) (also (at 2) end)))

  fits-link : (b : ℕ) (e : ℕ × ℕ) → fits e ≡ true → (has_mark e.1 || eqb e.0 b) ≡ true → and (link_tests κ b e) ≡ true
  fits-link b e h g = let at = and_at (fit_tests e) h in and-each {ts = link_tests κ b e} (also (at 0) (also (at 1) (also (at 2) (also g end))))

  -- what is asked of a record's links
  pub record Links (b : ℕ) (ls : List (ℕ × ℕ)) : Type 0 where
    pub rise : Rising ls
    pub best : has_key b ls ≡ true
    pub each : all (λ l. and (link_tests κ b l)) ls ≡ true

  settle-links : (m : Message) (v : ℕ) (x : TableRecord) → Rising x.links → all fits x.links ≡ true → has_key m.link x.links ≡ true → has_key x.best x.links ≡ true
      → Links (settle κ m v x).best (settle κ m v x).links
  settle-links m v x r f k l =
      by_test (λ t. Links t (keep (λ (e : ℕ × ℕ). has_mark e.1 || eqb e.0 t) ls)) (is_highest κ m.link v ls) (λ _. at m.link k) (λ _. at x.best l)
    where
      ls : List (ℕ × ℕ)
      ls = x.links

      at : (t : ℕ) → has_key t ls ≡ true → Links t (keep (λ (e : ℕ × ℕ). has_mark e.1 || eqb e.0 t) ls)
      at t h =
          let p : ℕ × ℕ → Bool = λ e. has_mark e.1 || eqb e.0 t in
          record {
            rise = rising-keep p ls r;
            best = has_key-keep p t (λ n. or_right (has_mark n) (eqb t t) (eq-eqb t t refl)) ls h;
            each = all_meet fits p (λ e. and (link_tests κ t e)) (fits-link t) (keep p ls) (all-kept fits p ls f) (all_own p ls);
          }

  marks-lt : (ls : List (ℕ × ℕ)) (l : ℕ) → all fits ls ≡ true → marks_at ls l < 2 ^ κ.settings.window
  marks-lt ls l h = go (lookup l ls) refl
    where
      go : (x : Option ℕ) → lookup l ls ≡ x → maybe x 0 (λ v. v) < 2 ^ κ.settings.window
      go none e = pow_pos κ.settings.window
      go (some v) e = ltb-true v (2 ^ κ.settings.window) (and_at (fit_tests (l, v)) (lookup-all fits l v ls h e) 2)

  -- the message's link is on an interface in use
  module _ (hκ : allowed κ ≡ true) (m : Message) (ha : is_address (neighbour_of m.link) ≡ true) (hi : is_in_use κ (interface_of m.link) ≡ true) where
    mark-links : (x : TableRecord) → distance x.current (sequence_of m) < κ.settings.window → Rising x.links → all fits x.links ≡ true
        → (has_key x.best x.links ≡ true) ⊎ (x.best ≡ m.link) → Links (mark_on κ m x).best (mark_on κ m x).links
    mark-links x hc r f k =
        let k₀ = distance x.current (sequence_of m) in
        let v = mark (marks_at ls m.link) k₀ in
        settle-links m v (with_links (put m.link v ls) x) (rising-put m.link v ls r)
        (all-put fits m.link v ls (and-each {ts = fit_tests (m.link, v)} (also ha (also hi (also (lt-ltb v (2 ^ κ.settings.window) ((laws κ.settings.window).mark-below (marks_at ls m.link) k₀ (marks-lt ls m.link f) hc)) end)))) f)
        (has_key-put m.link v ls) (among v (eqb b m.link) refl k)
      where
        ls : List (ℕ × ℕ)
        ls = x.links

        b : ℕ
        b = x.best

        among : (v : ℕ) (t : Bool) → eqb b m.link ≡ t → (has_key b ls ≡ true) ⊎ (b ≡ m.link) → has_key b (put m.link v ls) ≡ true
        among v true e x = ap (λ n. has_key n (put m.link v ls)) (eqb-true b m.link e) ∙ has_key-put m.link v ls
        among v false e (inl x) = ap (λ (o : Option ℕ). maybe o false (λ n. true)) (lookup-put-other b m.link v ls e) ∙ x
        among v false e (inr x) = absurd (eqb-false b m.link e x)

    pub first-links : Links (first_record κ m).best (first_record κ m).links
    unfolding first_record
    first-links = mark-links (begun m) (let x = window-low κ hκ in omega (arith, distance_self (sequence_of m))) tt refl (inr refl)

    pub next-links : (r : TableRecord) → is_stale_in κ r (sequence_of m) ≡ false → Links r.best r.links → Links (next_record κ m r).best (next_record κ m r).links
    unfolding next_record is_stale_in
    next-links r timely h =
        let W = κ.settings.window in
        let c = advance W r.current (sequence_of m) in
        let d = shift W (distance c r.current) in
        mark-links (with_entries (entries_then κ m r) (move_to κ c r)) (advance-inside W r.current (sequence_of m) (window-low κ hκ) timely) (rising-map_values d r.links h.rise)
        (all_map (λ (e : ℕ × ℕ). (e.0, d e.1)) fits r.links
        ∙ all_weaken (λ e. and (link_tests κ r.best e)) (λ e. fits (e.0, d e.1)) (λ e g. refit e.0 e.1 (d e.1) (link_fits r.best e g) ((laws W).shift-below (distance c r.current) e.1)) r.links h.each)
        (inl (has_key-map_values d r.best r.links ∙ h.best))
