-- Counting one OGM on the record of a log gives the record of the longer log.
use Prim.Native.Nat.{ℕ, ◌-◌, ◌<◌}
use mathlib.Core.Path.{◌≡◌, refl, sym, ap, ap₂, ◌∙◌}
use mathlib.Core.Bool.{Bool, true, false, cond, ◌&&◌, ◌||◌, not, and-false, or-false, true≢false}
use mathlib.Core.Option.{Option}
use mathlib.Core.List.{List, [], ◌∷◌}
use lib.Dec.{ltb, eqb, leb}
use native.Mathlib.Omega.{arith}
use borrow.Author.Tests.{ltb-false, eq-eqb}
use Rattle.lists.specs.Lists.{maybe, keep, elem}
use Rattle.lists.specs.Keyed.{put, put_key, map_values, tabulate}
use Rattle.lists.proofs.Tests.{by_test, cond_same, or_right, or_neither}
use Rattle.lists.proofs.Lists.{keep_same, keep-map, all_map, all_same, map_same, elem-keep}
use Rattle.lists.proofs.Keyed.{map_values-tabulate, lookup-tabulate, put-tabulate, keep-put_key, all-put_key}
use Rattle.window.specs.Window.{numbers, distance, new, inside, advance, bit, shift, mark, count, has_mark, word}
use Rattle.window.proofs.Numbers.{distance_back, distance_self, distance_turn}
use Rattle.window.proofs.Positions.{inside-lt, outside-le}
use Rattle.window.proofs.Words.{word_same, word_none, tally-none, none-tally}
use Rattle.window.proofs.Window.{laws, word_laws}
use Rattle.rules.specs.Settings.{Config, allowed}
use Rattle.rules.specs.Messages.{Message}
use Rattle.rules.specs.Rules.{sequence_of, stands_below}
use Rattle.rules.specs.Table.{TableRecord, marks_at, is_highest, settle, with_links, with_entries, move_to, first_record, next_record, is_stale_in, is_marked}
use Rattle.rules.proofs.Config.{window-low, window-high}
use Rattle.rules.proofs.Counting.{sequence-lt}
use Rattle.history.specs.Book.{Log, one, cons, current, log_entries, is_stale_to, stays, log_count, log_links, others_below, log_best, is_held, held_links}
use Rattle.history.specs.TableOfBook.{marks_of, record_of}
use Rattle.history.proofs.Log.{W, is_timely, current-lt, outside_false, absent, inside-below, stays-next, latest_in, zero_below}

-- ---- the words of a log's links

module _ (κ : Config) (s : Log) where
  pub count-marks : (l : ℕ) → count (marks_of κ s l) ≡ log_count κ s l
  unfolding marks_of log_count
  count-marks l = (word_laws (W κ)).count_word (λ k. stays κ s l (distance (current κ s) k))

  marks_some : (l : ℕ) → has_mark (marks_of κ s l) ≡ ltb 0 (log_count κ s l)
  unfolding marks_of
  marks_some l = (laws (W κ)).has_mark_lem (marks_of κ s l) ((word_laws (W κ)).word_below (λ k. stays κ s l (distance (current κ s) k))) ∙ ap (ltb 0) (count-marks l)

  -- nothing stays on a link that is not held, so its word is empty
  none_stays : (l : ℕ) → is_held κ s l ≡ false → (k : ℕ) → k < W κ → stays κ s l (distance (current κ s) k) ≡ false
  unfolding is_held log_count
  none_stays l h = none-tally (W κ) (λ k. stays κ s l (distance (current κ s) k)) (let q = ltb-false 0 (log_count κ s l) (or_neither (ltb 0 (log_count κ s l)) (eqb l (log_best κ s)) h).0 in omega arith)

  marks_off : (l : ℕ) → elem l (held_links κ s) ≡ false → marks_of κ s l ≡ 0
  unfolding marks_of
  marks_off l h = word_none (W κ) (λ k. stays κ s l (distance (current κ s) k)) (go (elem l (log_links s)) refl (is_held κ s l) refl (sym (elem-keep (is_held κ s) l (log_links s)) ∙ h))
    where
      go : (a : Bool) → elem l (log_links s) ≡ a → (b : Bool) → is_held κ s l ≡ b → (a && b) ≡ false → (k : ℕ) → k < W κ → stays κ s l (distance (current κ s) k) ≡ false
      go true p true q r = absurd (true≢false r)
      go true p false q r = none_stays l q
      go false p b q r = λ k _. absent κ s l (distance (current κ s) k) p

  marks_at-tabulate : (g : ℕ → ℕ) (l : ℕ) (ks : List ℕ) → (elem l ks ≡ false → g l ≡ 0) → marks_at (tabulate g ks) l ≡ g l
  marks_at-tabulate g l ks h = ap (λ (o : Option ℕ). maybe o 0 (λ v. v)) (lookup-tabulate g l ks) ∙ by_test (λ (o : Option ℕ). maybe o 0 (λ v. v) ≡ g l) (elem l ks) (λ _. refl) (λ e. sym (h e))

  -- so the record has a log's word at every link, held or not
  pub marks-at : (l : ℕ) → marks_at (record_of κ s).links l ≡ marks_of κ s l
  marks-at l = marks_at-tabulate (marks_of κ s) l (held_links κ s) (marks_off l)

  pub links-same : map_values count (record_of κ s).links ≡ tabulate (log_count κ s) (held_links κ s)
  links-same = map_values-tabulate count (marks_of κ s) (held_links κ s) ∙ map_same _ _ (λ l. ap (λ n. (l, n)) (count-marks l)) (held_links κ s)

-- a number is marked exactly if it stays
pub marked-stays : (κ : Config) (s : Log) (l n : ℕ) → n < numbers → is_marked κ (record_of κ s) l n ≡ stays κ s l n
unfolding is_marked marks_of
marked-stays κ s l n hn = go (inside (W κ) (current κ s) n) refl
  where
    go : (t : Bool) → inside (W κ) (current κ s) n ≡ t → (t && bit (marks_at (record_of κ s).links l) (distance (current κ s) n)) ≡ stays κ s l n
    go true e =
        ap (λ v. bit v (distance (current κ s) n)) (marks-at κ s l)
        ∙ (word_laws (W κ)).bit_word (λ k. stays κ s l (distance (current κ s) k)) (distance (current κ s) n) (inside-lt (W κ) (current κ s) n e)
        ∙ ap (stays κ s l) (distance_back (current κ s) n (current-lt κ s) hn)
    go false e = sym (outside_false κ s l n (outside-le (W κ) (current κ s) n e))

-- and stale to the record exactly if it is to the log
pub stale-same : (κ : Config) (s : Log) (n : ℕ) → is_stale_in κ (record_of κ s) n ≡ is_stale_to κ s n
unfolding is_stale_in is_stale_to
stale-same κ s n = refl

-- ---- one more OGM

module _ (κ : Config) (h : allowed κ ≡ true) (m : Message) (s : Log) (timely : is_stale_to κ s (sequence_of m) ≡ false) where
  abbrev c : ℕ
  c = current κ (cons m s)

  abbrev d : ℕ
  d = distance (current κ (cons m s)) (current κ s)

  counted-timely : is_timely κ (cons m s) ≡ true
  unfolding is_timely
  counted-timely = ap not timely

  -- the words before, moved up to the current number then
  abbrev up : ℕ → ℕ
  up v = shift (W κ) d v

  abbrev moved : ℕ → ℕ → Bool
  moved l k = leb d k && stays κ s l (distance (current κ s) (k - d))

  up_marks : (l : ℕ) → up (marks_of κ s l) ≡ word (W κ) (moved l)
  unfolding marks_of
  up_marks l = (word_laws (W κ)).shift_word (λ k. stays κ s l (distance (current κ s) k)) d

  -- what stays then: the number on its own link, and what is moved
  next-stays : (l k : ℕ) (t : Bool) → eqb l m.link ≡ t → k < W κ → stays κ (cons m s) l (distance c k) ≡ ((t && eqb k (distance c (sequence_of m))) || moved l k)
  next-stays l k t e g = stays-next κ h m s l k g ∙ ap (λ (b : Bool). (b && eqb k (distance c (sequence_of m))) || moved l k) e

  marks-other : (l : ℕ) → eqb l m.link ≡ false → up (marks_of κ s l) ≡ marks_of κ (cons m s) l
  unfolding marks_of
  marks-other l e = up_marks l ∙ word_same (W κ) _ _ (λ k g. sym (next-stays l k false e g))

  marks-own : mark (up (marks_of κ s m.link)) (distance c (sequence_of m)) ≡ marks_of κ (cons m s) m.link
  unfolding marks_of
  marks-own =
      ap (λ v. mark v (distance c (sequence_of m))) (up_marks m.link)
      ∙ (word_laws (W κ)).mark-word (moved m.link) (distance c (sequence_of m)) (latest_in κ h (cons m s) counted-timely)
      ∙ word_same (W κ) _ _ (λ k g. sym (next-stays m.link k true (eq-eqb m.link m.link refl) g))

  -- a link that was not held, and is not the OGM's, has no marks then and is not held
  none-next : (l : ℕ) → eqb l m.link ≡ false → is_held κ s l ≡ false → log_count κ (cons m s) l ≡ 0
  unfolding log_count
  none-next l e q =
      tally-none (W κ) (λ k. stays κ (cons m s) l (distance c k))
      (λ k g. next-stays l k false e g ∙ ap (λ (t : Bool). leb d k && t) (none_stays κ s l q (k - d) (omega arith)) ∙ and-false (leb d k))

  held_next : (l : ℕ) → eqb l m.link ≡ false → is_held κ s l ≡ false → is_held κ (cons m s) l ≡ false
  unfolding is_held log_best
  held_next l e q =
      ap₂ (λ (n : ℕ) (t : Bool). ltb 0 n || t) (none-next l e q)
      (by_test (λ b. eqb l b ≡ false) (others_below κ (cons m s) m.link) (λ _. e) (λ _. (or_neither (ltb 0 (log_count κ s l)) (eqb l (log_best κ s)) q).1))

  -- the record's links with the OGM's link among them, before those without a mark go
  abbrev among : List (ℕ × ℕ)
  among = tabulate (marks_of κ (cons m s)) (put_key m.link (held_links κ s))

  links-next : put m.link (marks_of κ (cons m s) m.link) (map_values up (record_of κ s).links) ≡ among
  links-next =
      ap (put m.link (marks_of κ (cons m s) m.link)) (map_values-tabulate up (marks_of κ s) (held_links κ s))
      ∙ put-tabulate (λ l. up (marks_of κ s l)) (marks_of κ (cons m s)) m.link marks-other (held_links κ s)

  up_zero : up 0 ≡ 0
  up_zero =
      ap up (sym (word_none (W κ) (λ k. false) (λ k _. refl))) ∙ (word_laws (W κ)).shift_word (λ k. false) d
      ∙ word_none (W κ) _ (λ k _. and-false (leb d k))

  word-before : marks_at (map_values up (record_of κ s).links) m.link ≡ up (marks_of κ s m.link)
  word-before =
      ap (λ (ls : List (ℕ × ℕ)). marks_at ls m.link) (map_values-tabulate up (marks_of κ s) (held_links κ s))
      ∙ marks_at-tabulate κ s (λ l. up (marks_of κ s l)) m.link (held_links κ s) (λ e. ap up (marks_off κ s m.link e) ∙ up_zero)

  -- where every other held link stands below, every other link does
  highest-next : is_highest κ m.link (marks_of κ (cons m s) m.link) among ≡ others_below κ (cons m s) m.link
  unfolding others_below log_links
  highest-next =
      let p : ℕ → Bool = λ l. eqb l m.link || stands_below κ (log_count κ (cons m s) l) (log_count κ (cons m s) m.link) in
      all_map (λ l. (l, marks_of κ (cons m s) l)) _ (put_key m.link (held_links κ s))
      ∙ all_same _ p (λ l. ap₂ (λ x y. eqb l m.link || stands_below κ x y) (count-marks κ (cons m s) l) (count-marks κ (cons m s) m.link)) (put_key m.link (held_links κ s))
      ∙ all-put_key p (is_held κ s) m.link
      (λ l e q. ap₂ (λ (t : Bool) (n : ℕ). t || stands_below κ n (log_count κ (cons m s) m.link)) e (none-next l e q) ∙ zero_below κ h (cons m s) counted-timely) (log_links s)

  kept_next : keep (λ (e : ℕ × ℕ). has_mark e.1 || eqb e.0 (log_best κ (cons m s))) among ≡ (record_of κ (cons m s)).links
  unfolding log_links is_held
  kept_next =
      keep-map (λ l. (l, marks_of κ (cons m s) l)) (λ (e : ℕ × ℕ). has_mark e.1 || eqb e.0 (log_best κ (cons m s))) (put_key m.link (held_links κ s))
      ∙ ap (tabulate (marks_of κ (cons m s)))
      (keep_same _ (is_held κ (cons m s)) (λ l. ap (λ (t : Bool). t || eqb l (log_best κ (cons m s))) (marks_some κ (cons m s) l)) (put_key m.link (held_links κ s))
      ∙ keep-put_key (is_held κ (cons m s)) (is_held κ s) m.link held_next (log_links s))

  -- the record before, with the window moved and the entries that are then kept
  abbrev moved_up : TableRecord
  moved_up = with_entries (log_entries κ (cons m s)) (move_to κ c (record_of κ s))

  -- the record after, with best b and links ls
  abbrev with : ℕ → List (ℕ × ℕ) → TableRecord
  with b ls = record { current = c; time = m.time; last_ttl = m.ttl; best = b; links = ls; entries = log_entries κ (cons m s) }

  settle-next : settle κ m (marks_of κ (cons m s) m.link) (with_links among moved_up) ≡ record_of κ (cons m s)
  unfolding log_best
  settle-next =
      ap (λ (t : Bool). with (cond t m.link (log_best κ s)) (keep (λ (e : ℕ × ℕ). has_mark e.1 || eqb e.0 (cond t m.link (log_best κ s))) among)) highest-next
      ∙ ap (with (log_best κ (cons m s))) kept_next

  pub count_next : next_record κ m (record_of κ s) ≡ record_of κ (cons m s)
  unfolding next_record current log_entries advance new
  count_next =
      ap (λ v. settle κ m v (with_links (put m.link v moved_up.links) moved_up)) (ap (λ v. mark v (distance c (sequence_of m))) word-before ∙ marks-own)
      ∙ ap (λ (ls : List (ℕ × ℕ)). settle κ m (marks_of κ (cons m s) m.link) (with_links ls moved_up)) links-next
      ∙ settle-next

-- ---- the first OGM

module _ (κ : Config) (h : allowed κ ≡ true) (m : Message) where
  one-marks : mark 0 (distance (sequence_of m) (sequence_of m)) ≡ marks_of κ (one m) m.link
  unfolding marks_of stays current
  one-marks =
      ap₂ mark (sym (word_none (W κ) (λ k. false) (λ k _. refl))) (distance_self (sequence_of m))
      ∙ (word_laws (W κ)).mark-word (λ k. false) 0 (window-low κ h)
      ∙ word_same (W κ) (λ k. eqb k 0 || false) (λ k. inside (W κ) (sequence_of m) (distance (sequence_of m) k) && (eqb m.link m.link && eqb (distance (sequence_of m) k) (sequence_of m)))
      (λ k g. or-false (eqb k 0) ∙ sym (ap₂ (λ (a b : Bool). a && (b && eqb (distance (sequence_of m) k) (sequence_of m))) (inside-below κ h (sequence_of m) k (sequence-lt m) g) (eq-eqb m.link m.link refl)
      ∙ distance_turn (sequence_of m) k (sequence_of m) (sequence-lt m) (sequence-lt m) (omega (arith, window-high κ h)) ∙ ap (eqb k) (distance_self (sequence_of m))))

  -- with best b and links ls
  abbrev single : ℕ → List (ℕ × ℕ) → TableRecord
  single b ls = record { current = sequence_of m; time = m.time; last_ttl = m.ttl; best = b; links = ls; entries = m.entries }

  pub first_one : first_record κ m ≡ record_of κ (one m)
  unfolding first_record current log_entries log_best log_links is_held
  first_one =
      let v = mark 0 (distance (sequence_of m) (sequence_of m)) in
      let t : eqb m.link m.link ≡ true = eq-eqb m.link m.link refl in
      ap (λ b. single b (cond (has_mark v || eqb m.link b) ((m.link, v) ∷ []) [])) (cond_same ((eqb m.link m.link || stands_below κ (count v) (count v)) && true) m.link)
      ∙ ap (λ (u : Bool). single m.link (cond u ((m.link, v) ∷ []) [])) (or_right (has_mark v) (eqb m.link m.link) t)
      ∙ ap (λ n. single m.link ((m.link, n) ∷ [])) one-marks
      ∙ sym (ap (λ (u : Bool). single m.link (tabulate (marks_of κ (one m)) (cond u (m.link ∷ []) []))) (or_right (ltb 0 (log_count κ (one m) m.link)) (eqb m.link m.link) t))
