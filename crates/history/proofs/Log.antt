-- What one more counted OGM does to a log's current number and marks.
use Prim.Native.Nat.{ℕ, ◌+◌, ◌-◌, ◌<◌, ◌≤◌}
use mathlib.Core.Path.{◌≡◌, refl, sym, ap, ap₂, ◌∙◌}
use mathlib.Core.Bool.{Bool, true, false, cond, ◌&&◌, ◌||◌, not, and-false}
use lib.Dec.{eqb, leb, ltb}
use native.Mathlib.Omega.{arith}
use borrow.Author.Tests.{lt-ltb, eq-eqb, leb-true, leb-false, le-leb, not-true}
use Rattle.lists.specs.Lists.{elem}
use Rattle.lists.proofs.Tests.{both, and_left, and_right, or_neither}
use Rattle.lists.proofs.Keyed.{elem-put_key}
use Rattle.window.specs.Window.{numbers, distance, new, inside, advance}
use Rattle.window.proofs.Numbers.{distance_back, distance_self, distance_higher, distance-lower, distance_turn}
use Rattle.window.proofs.Positions.{lt-inside, le-outside, outside-le, new-outside}
use Rattle.window.proofs.Words.{some_tally}
use Rattle.rules.specs.Settings.{newest_wins, Config, allowed}
use Rattle.rules.specs.Messages.{Message}
use Rattle.rules.specs.Rules.{sequence_of, stands_below}
use Rattle.rules.proofs.Config.{window-low, window-high}
use Rattle.rules.proofs.Counting.{sequence-lt, advance-lt, advance-inside}
use Rattle.history.specs.Book.{Log, one, cons, latest, current, is_stale_to, came, stays, log_count, log_links}

module _ (κ : Config) where
  abbrev pub W : ℕ
  W = κ.settings.window

  pub current-lt : (s : Log) → current κ s < numbers
  unfolding current advance new
  current-lt (one m) = sequence-lt m
  current-lt (cons m s) = advance-lt W (current κ s) (sequence_of m) (current-lt s) (sequence-lt m)

  -- the latest OGM was not stale when it was counted
  unfoldable pub is_timely : Log → Bool
  is_timely (one m) = true
  is_timely (cons m s) = not (is_stale_to κ s (sequence_of m))

  -- and so were those before it
  unfoldable pub all_timely : Log → Bool
  all_timely (one m) = true
  all_timely (cons m s) = is_timely (cons m s) && all_timely s

  pub latest-timely : (s : Log) → all_timely s ≡ true → is_timely s ≡ true
  unfolding all_timely is_timely
  latest-timely (one m) p = refl
  latest-timely (cons m s) p = and_left (is_timely (cons m s)) (all_timely s) p

  pub before-timely : (m : Message) (s : Log) → all_timely (cons m s) ≡ true → all_timely s ≡ true
  unfolding all_timely
  before-timely m s p = and_right (is_timely (cons m s)) (all_timely s) p

  -- what stays is inside the window
  stays-inside : (s : Log) (l n : ℕ) → stays κ s l n ≡ true → inside W (current κ s) n ≡ true
  unfolding stays current
  stays-inside (one m) l n h = and_left (inside W (sequence_of m) n) (came m l n) h
  stays-inside (cons m s) l n h = and_left (inside W (current κ (cons m s)) n) (came m l n || stays κ s l n) h

  pub outside_false : (s : Log) (l n : ℕ) → W ≤ distance (current κ s) n → stays κ s l n ≡ false
  outside_false s l n h = go (stays κ s l n) refl
    where
      go : (t : Bool) → stays κ s l n ≡ t → t ≡ false
      go true e = sym (stays-inside s l n e) ∙ le-outside W (current κ s) n h
      go false e = refl

  -- a link that no OGM came by has no marks
  pub absent : (s : Log) (l n : ℕ) → elem l (log_links s) ≡ false → stays κ s l n ≡ false
  unfolding stays log_links
  absent (one m) l n h = ap (λ (t : Bool). inside W (sequence_of m) n && (t && eqb n (sequence_of m))) (or_neither (eqb l m.link) false h).0 ∙ and-false (inside W (sequence_of m) n)
  absent (cons m s) l n h =
      let q : (eqb l m.link ≡ false) × (elem l (log_links s) ≡ false) = or_neither (eqb l m.link) (elem l (log_links s)) (sym (elem-put_key l m.link (log_links s)) ∙ h) in
      ap₂ (λ (a b : Bool). inside W (current κ (cons m s)) n && ((a && eqb n (sequence_of m)) || b)) q.0 (absent s l n q.1) ∙ and-false (inside W (current κ (cons m s)) n)

  module _ (h : allowed κ ≡ true) where
    -- the number k below current lies in the window
    pub inside-below : (c k : ℕ) → c < numbers → k < W → inside W c (distance c k) ≡ true
    inside-below c k hc hk = lt-inside W c (distance c k) (rw (distance_back c k hc (omega (arith, window-high κ h))) hk)

    -- a window that moves leaves all that does not reach up to its new place
    far : (m : Message) (s : Log) (k : ℕ) → k < distance (current κ (cons m s)) (current κ s) → W ≤ distance (current κ s) (distance (current κ (cons m s)) k)
    unfolding current
    far m s k = go (new W (current κ s) (sequence_of m)) refl
      where
        go : (t : Bool) → new W (current κ s) (sequence_of m) ≡ t → k < distance (cond t (sequence_of m) (current κ s)) (current κ s)
            → W ≤ distance (current κ s) (distance (cond t (sequence_of m) (current κ s)) k)
        go true e l =
            let p : distance (current κ s) (sequence_of m) + k ≡ distance (current κ s) (distance (sequence_of m) k) = distance-lower (current κ s) (sequence_of m) k (current-lt s) (sequence-lt m) l in
            let q : W ≤ distance (current κ s) (sequence_of m) = outside-le W (current κ s) (sequence_of m) (new-outside W (current κ s) (sequence_of m) e) in
            omega arith
        go false e l = absurd (let z : distance (current κ s) (current κ s) ≡ 0 = distance_self (current κ s) in omega arith)

    -- what stayed before one more OGM, seen from the current number then
    stays-before : (m : Message) (s : Log) (l k : ℕ) → k < W
        → stays κ s l (distance (current κ (cons m s)) k) ≡ (leb (distance (current κ (cons m s)) (current κ s)) k && stays κ s l (distance (current κ s) (k - distance (current κ (cons m s)) (current κ s))))
    stays-before m s l k hk = go (leb d k) refl
      where
        c : ℕ
        c = current κ (cons m s)

        d : ℕ
        d = distance (current κ (cons m s)) (current κ s)

        go : (t : Bool) → leb (distance (current κ (cons m s)) (current κ s)) k ≡ t
            → stays κ s l (distance (current κ (cons m s)) k) ≡ (t && stays κ s l (distance (current κ s) (k - distance (current κ (cons m s)) (current κ s))))
        go true e = ap (stays κ s l) (distance_higher (current κ s) c k (current-lt s) (current-lt (cons m s)) (omega (arith, window-high κ h)) (leb-true d k e))
        go false e = outside_false s l (distance c k) (far m s k (leb-false d k e))

    -- the marks after one more OGM, by their places below current
    pub stays-next : (m : Message) (s : Log) (l k : ℕ) → k < W
        → stays κ (cons m s) l (distance (current κ (cons m s)) k) ≡ ((eqb l m.link && eqb k (distance (current κ (cons m s)) (sequence_of m))) || (leb (distance (current κ (cons m s)) (current κ s)) k && stays κ s l (distance (current κ s) (k - distance (current κ (cons m s)) (current κ s)))))
    unfolding stays
    stays-next m s l k hk =
        let c = current κ (cons m s) in
        ap (λ (t : Bool). t && (came m l (distance c k) || stays κ s l (distance c k))) (inside-below c k (current-lt (cons m s)) hk)
        ∙ ap₂ (λ (a b : Bool). (eqb l m.link && a) || b)
        (distance_turn c k (sequence_of m) (current-lt (cons m s)) (sequence-lt m) (omega (arith, window-high κ h)))
        (stays-before m s l k hk)

    -- ---- a log whose latest OGM was not stale when it was counted

    -- its number lies in the window, and stays on its link
    pub latest_in : (s : Log) → is_timely s ≡ true → distance (current κ s) (sequence_of (latest s)) < W
    unfolding current advance new is_timely is_stale_to
    latest_in (one m) t = omega (arith, distance_self (sequence_of m), window-low κ h)
    latest_in (cons m s) t = advance-inside W (current κ s) (sequence_of m) (window-low κ h) (not-true (is_stale_to κ s (sequence_of m)) t)

    came-latest : (m : Message) → came m m.link (sequence_of m) ≡ true
    came-latest m = both (eq-eqb m.link m.link refl) (eq-eqb (sequence_of m) (sequence_of m) refl)

    latest-stays : (s : Log) → is_timely s ≡ true → stays κ s (latest s).link (sequence_of (latest s)) ≡ true
    unfolding stays current
    latest-stays (one m) t = both (lt-inside W (sequence_of m) (sequence_of m) (latest_in (one m) t)) (came-latest m)
    latest-stays (cons m s) t = ap₂ (λ (a b : Bool). a && (b || stays κ s m.link (sequence_of m))) (lt-inside W (current κ (cons m s)) (sequence_of m) (latest_in (cons m s) t)) (came-latest m)

    -- so its link has a mark
    latest_some : (s : Log) → is_timely s ≡ true → 0 < log_count κ s (latest s).link
    unfolding log_count
    latest_some s t =
        some_tally W (λ k. stays κ s (latest s).link (distance (current κ s) k)) (distance (current κ s) (sequence_of (latest s))) (latest_in s t)
        (ap (stays κ s (latest s).link) (distance_back (current κ s) (sequence_of (latest s)) (current-lt s) (sequence-lt (latest s))) ∙ latest-stays s t)

    -- and one without a mark stands below it, whatever the tie
    pub zero_below : (s : Log) → is_timely s ≡ true → stands_below κ 0 (log_count κ s (latest s).link) ≡ true
    unfolding stands_below
    zero_below s t = go (eqb κ.settings.tie newest_wins)
      where
        n : ℕ
        n = log_count κ s (latest s).link

        go : (newest : Bool) → cond newest (leb 0 n) (ltb 0 n) ≡ true
        go true = le-leb 0 n (omega (arith, latest_some s t))
        go false = lt-ltb 0 n (latest_some s t)
