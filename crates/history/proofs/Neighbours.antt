-- The neighbour rows of a table agree with the book's echoes.
use Prim.Native.Nat.{ℕ, ◌+◌, ◌%◌, ◌<◌, ◌≤◌}
use mathlib.Core.Path.{◌≡◌, refl, sym, ap, ap₂, ◌∙◌}
use mathlib.Core.Bool.{Bool, true, false, cond, ◌&&◌, ◌||◌, not, and-true}
use mathlib.Core.List.{List, ◌∷◌, ◌++◌, map}
use lib.Dec.{ltb, eqb}
use lib.ListN.{length, length-map}
use native.Mathlib.Omega.{arith}
use native.Mathlib.Nat.{add-zero}
use borrow.Author.Tests.{ltb-true, ltb-false, eqb-true, lt-ltb, le-ltb}
use Rattle.lists.specs.Lists.{keep}
use Rattle.lists.specs.Keyed.{has_key, put}
use Rattle.lists.proofs.Lists.{keep_same, keep-keep, keep_swap, keep_append, keep-map, map-append, map-map, map-keep}
use Rattle.lists.proofs.Keyed.{has_key-map}
use Rattle.window.specs.Window.{numbers, distance}
use Rattle.window.proofs.Numbers.{distance_zero}
use Rattle.rules.specs.Settings.{Config, allowed}
use Rattle.rules.specs.Calls.{interface_of}
use Rattle.rules.specs.Rules.{Sends, last_sent, send_on}
use Rattle.rules.specs.Table.{record_echo, row_distance, drop_old}
use Rattle.rules.proofs.Config.{timeout-low, timeout-high}
use Rattle.rules.proofs.Sends.{Fit, next_last, last-lt, last-own, last-other}
use Rattle.history.specs.Book.{Echoes, recent, one_more}
use Rattle.history.specs.TableOfBook.{row_of, rows_of}

-- one own packet more, one more below
distance-step : (c n : ℕ) → c < numbers → n < 65535 → distance ((c + 1) % numbers) (distance c n) ≡ n + 1
unfolding distance
distance-step c n hc hn = omega arith

distance_next : (c n : ℕ) → c < numbers → n < 65535 → distance ((c + 1) % numbers) (n + 1) ≡ distance c n
unfolding distance
distance_next c n hc hn = omega arith

module _ (κ : Config) (ns : Sends) where
  pub has_row-same : (es : Echoes) (l : ℕ) → has_key l (rows_of κ ns es) ≡ has_key l (recent κ es)
  unfolding rows_of
  has_row-same es l = has_key-map (λ (e : ℕ × ℕ). distance (last_sent κ ns (interface_of e.0)) e.1) l (recent κ es)

  pub rows_held-same : (es : Echoes) → length (rows_of κ ns es) ≡ length (recent κ es)
  unfolding rows_of
  rows_held-same es = length-map (recent κ es) (row_of κ ns)

  module _ (h : allowed κ ≡ true) (fit : Fit ns) where
    -- a test of keys on the rows is the same test on the echoes
    by_key : (p : ℕ → Bool) (es : Echoes) → keep (λ e. p e.0) (rows_of κ ns es) ≡ map (row_of κ ns) (recent κ (keep (λ e. p e.0) es))
    unfolding rows_of
    by_key p es = keep-map (row_of κ ns) (λ e. p e.0) (recent κ es) ∙ ap (map (row_of κ ns)) (keep_swap (λ e. p e.0) (λ e. ltb e.1 κ.settings.timeout) es)

    pub echo-same : (l : ℕ) (es : Echoes) → record_echo κ ns l (rows_of κ ns es) ≡ rows_of κ ns (put l 0 es)
    unfolding record_echo rows_of
    echo-same l es =
        let low = keep (λ (e : ℕ × ℕ). ltb e.0 l) es in
        let top = keep (λ (e : ℕ × ℕ). ltb l e.0) es in
        ap₂ (λ (x y : List (ℕ × ℕ)). x ++ ((l, last_sent κ ns (interface_of l)) ∷ y)) (by_key (λ k. ltb k l) es) (by_key (λ k. ltb l k) es)
        ∙ ap (λ (n : ℕ). map (row_of κ ns) (recent κ low) ++ ((l, n) ∷ map (row_of κ ns) (recent κ top))) (sym (distance_zero (last_sent κ ns (interface_of l)) (last-lt κ ns fit (interface_of l))))
        ∙ sym (map-append (row_of κ ns) (recent κ low) ((l, 0) ∷ recent κ top))
        ∙ ap (λ (t : Bool). map (row_of κ ns) (recent κ low ++ cond t ((l, 0) ∷ recent κ top) (recent κ top))) (sym (lt-ltb 0 κ.settings.timeout (timeout-low κ h)))
        ∙ ap (map (row_of κ ns)) (sym (keep_append (λ (e : ℕ × ℕ). ltb e.1 κ.settings.timeout) low ((l, 0) ∷ top)))

    module _ (i : ℕ) where
      abbrev ns' : Sends
      ns' = send_on κ ns i

      last-next : last_sent κ ns' i ≡ (last_sent κ ns i + 1) % numbers
      last-next = last-own κ ns i ∙ next_last κ h ns i

      -- a row stays exactly if its echo, one own packet later, is recent
      stays-row : (j n : ℕ) (t : Bool) → eqb j i ≡ t
          → ltb (n + cond t 1 0) κ.settings.timeout ≡ (ltb n κ.settings.timeout && (not t || ltb (distance (last_sent κ ns' j) (distance (last_sent κ ns j) n)) κ.settings.timeout))
      stays-row j n true e = go (ltb n κ.settings.timeout) refl
        where
          go : (u : Bool) → ltb n κ.settings.timeout ≡ u
              → ltb (n + 1) κ.settings.timeout ≡ (u && ltb (distance (last_sent κ ns' j) (distance (last_sent κ ns j) n)) κ.settings.timeout)
          go true d =
              let l : n < κ.settings.timeout = ltb-true n κ.settings.timeout d in
              let q : distance (last_sent κ ns' j) (distance (last_sent κ ns j) n) ≡ n + 1 =
              ap (λ k. distance (last_sent κ ns' k) (distance (last_sent κ ns k) n)) (eqb-true j i e)
              ∙ ap (λ k. distance k (distance (last_sent κ ns i) n)) last-next
              ∙ distance-step (last_sent κ ns i) n (last-lt κ ns fit i) (omega (arith, timeout-high κ h)) in
              ap (λ x. ltb x κ.settings.timeout) (sym q)
          go false d = let l : κ.settings.timeout ≤ n = ltb-false n κ.settings.timeout d in le-ltb (n + 1) κ.settings.timeout (omega arith)
      stays-row j n false e = ap (λ x. ltb x κ.settings.timeout) (add-zero n) ∙ sym (and-true (ltb n κ.settings.timeout))

      -- and keeps its number
      same_row : (j n : ℕ) (t : Bool) → eqb j i ≡ t → ltb (n + cond t 1 0) κ.settings.timeout ≡ true
          → distance (last_sent κ ns' j) (n + cond t 1 0) ≡ distance (last_sent κ ns j) n
      same_row j n true e g =
          let l : n + 1 < κ.settings.timeout = ltb-true (n + 1) κ.settings.timeout g in
          ap (λ k. distance (last_sent κ ns' k) (n + 1)) (eqb-true j i e) ∙ ap (λ k. distance k (n + 1)) last-next
          ∙ distance_next (last_sent κ ns i) n (last-lt κ ns fit i) (omega (arith, timeout-high κ h))
          ∙ ap (λ k. distance (last_sent κ ns k) n) (sym (eqb-true j i e))
      same_row j n false e g = ap₂ distance (last-other κ ns i j e) (add-zero n)

      pub sent-same : (es : Echoes) → drop_old κ ns' i (rows_of κ ns es) ≡ rows_of κ ns' (map (one_more i) es)
      unfolding drop_old rows_of
      sent-same es =
          let p : ℕ × ℕ → Bool = λ e. ltb e.1 κ.settings.timeout in
          let q : ℕ × ℕ → Bool = λ e. not (eqb (interface_of e.0) i) || ltb (row_distance κ ns' e) κ.settings.timeout in
          keep-map (row_of κ ns) q (keep p es) ∙ ap (map (row_of κ ns)) (keep-keep (λ e. q (row_of κ ns e)) p es)
          ∙ sym (ap (map (row_of κ ns')) (keep-map (one_more i) p es)
          ∙ map-map (one_more i) (row_of κ ns') (keep (λ e. p (one_more i e)) es)
          ∙ map-keep (λ e. row_of κ ns' (one_more i e)) (row_of κ ns) (λ e. p (one_more i e)) (λ e g. ap (λ n. (e.0, n)) (same_row (interface_of e.0) e.1 (eqb (interface_of e.0) i) refl g)) es
          ∙ ap (map (row_of κ ns)) (keep_same (λ e. p (one_more i e)) (λ e. p e && q (row_of κ ns e)) (λ e. stays-row (interface_of e.0) e.1 (eqb (interface_of e.0) i) refl) es))
