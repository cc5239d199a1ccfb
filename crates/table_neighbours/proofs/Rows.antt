-- Neighbour rows found, recorded and dropped in their area, as the rules' keyed list sees it. Assumes nothing.
use mathlib.Core.Path.{◌≡◌, refl, sym, ap, ◌∙◌, subst}
use mathlib.Core.Logic.{inl, inr}
use mathlib.Core.Bool.{Bool, true, false}
use mathlib.Core.List.{List, [], ◌∷◌}
use mathlib.Core.Option.{Option}
use Rattle.std.specs.Bool.{MatchBool}
use Rattle.std.specs.List.{AllWithin, HoldsAt, range_with_len}
use Rattle.std.proofs.lemmas.List.{get_or_default}
use Rattle.std.proofs.lemmas.List.FromFn.{length-range_with_len, get_or-range_with_len}
use Prim.Native.Nat.{ℕ, suc, ◌+◌, ◌*◌, ◌≤◌, ◌<◌}
use native.Mathlib.Nat.{zero-add}
use native.Mathlib.Omega.{arith}
use borrow.Author.Tests.{ltb-true}
use lib.ListN.{length, get_or, set, length-set, get_or-map}
use Rattle.lists.specs.Lists.{maybe, keep, all}
use Rattle.lists.specs.Keyed.{has_key, put}
use Rattle.cells.proofs.Bools.{all-place}
use Rattle.cells.proofs.Trips.{rows-at}
use Rattle.lists.proofs.Tests.{both}
use Rattle.cells.specs.Area.{rows_of, column, written, put_in, insert_at}
use Rattle.cells.specs.Pairs.{pair_cells, pair_row, pair_of, pair_area, pairs_of}
use Rattle.cells.specs.Find.{Sorted, IsAt, IsPlace}
use Rattle.cells.proofs.Areas.{length_insert, length-area, put-row, write-row}
use Rattle.lists.proofs.Lists.{keep_all}
use Rattle.cells.proofs.Keys.{length-column}
use Rattle.cells.proofs.Pairs.{pair-wide, length_pairs, pair-at}
use Rattle.cells.proofs.Search.{Apart, sorted, found_at, found-place, put-among, put_apart, at-below}
use Rattle.cells_moves.specs.Keeping.{IsRow, kept_rows}
use Rattle.cells_moves.proofs.Keeping.{row_encodes, kept_length, kept_area}
use Rattle.window.specs.Window.{numbers}
use Rattle.rules.specs.Settings.{neighbour_most, neighbour_area_cells, is_number}
use Rattle.table_neighbours.specs.Neighbours.{RowsHeld, Recorded, NoRoom, stays_after}

module _ (n : ℕ) (c : List ℕ) (h : RowsHeld n c) where
  pub size : length c ≡ neighbour_area_cells
  size = ap length h.cells ∙ length-area pair_row pair_cells pair-wide neighbour_most (pairs_of n c)

  pub meets : Sorted pair_cells n c
  meets = sorted pair_of (λ r. refl) pair_cells n c (omega arith) (omega (arith, size, h.most)) h.rises

  module _ (k i : ℕ) where
    pub present : IsAt (column pair_cells n c) k i → has_key k (pairs_of n c) ≡ true
    present p = ap (λ (x : Option ℕ). maybe x false (λ v. true)) ((found_at pair_of (λ r. refl) pair_cells n c meets k i p).found (0, 0))

    pub missing : IsPlace (column pair_cells n c) k i → has_key k (pairs_of n c) ≡ false
    missing p = ap (λ (x : Option ℕ). maybe x false (λ v. true)) (found-place pair_of (λ r. refl) pair_cells n c k i p).missing

    -- a row that is found, or put in, lies within the area
    pub at_room : IsAt (column pair_cells n c) k i → i * pair_cells + pair_cells ≤ neighbour_area_cells
    at_room p = omega (arith, h.most, at-below pair_cells n c k i p)

    pub place-room : IsPlace (column pair_cells n c) k i → n < neighbour_most → i * pair_cells + pair_cells ≤ neighbour_area_cells
    place-room p m = omega (arith, length-column pair_cells n c, p.within)

    module _ (number : ℕ) (d : List ℕ) where
      pub recorded_over : IsAt (column pair_cells n c) k i → d ≡ written c (i * pair_cells) (k ∷ number ∷ []) → Recorded n c d k number n
      recorded_over p e =
          let l : i < length (pairs_of n c) = omega (arith, length_pairs n c, at-below pair_cells n c k i p) in
          let room : length (pairs_of n c) ≤ neighbour_most = omega (arith, length_pairs n c, h.most) in
          let q : put k number (pairs_of n c) ≡ set (pairs_of n c) i (k, number) = put-among k i number (pairs_of n c) l (found_at pair_of (λ r. refl) pair_cells n c meets k i p) in
          record {
            room = inl (present p);
            cells = e ∙ ap (λ (x : List ℕ). written x (i * pair_cells) (k ∷ number ∷ [])) h.cells
                ∙ write-row pair_row pair_cells pair-wide neighbour_most (pairs_of n c) room i (k, number) l ∙ ap (pair_area neighbour_most) (sym q);
            held = sym (ap length q ∙ length-set (pairs_of n c) i (k, number) ∙ length_pairs n c);
          }

      pub recorded_new : IsPlace (column pair_cells n c) k i → n < neighbour_most → d ≡ put_in c (i * pair_cells) (k ∷ number ∷ []) → Recorded n c d k number (n + 1)
      recorded_new p m e =
          let a : Apart k i (pairs_of n c) = found-place pair_of (λ r. refl) pair_cells n c k i p in
          let l : i ≤ length (pairs_of n c) = omega (arith, length_pairs n c, length-column pair_cells n c, p.within) in
          let room : length (pairs_of n c) ≤ neighbour_most = omega (arith, length_pairs n c, h.most) in
          let q : put k number (pairs_of n c) ≡ insert_at i (k, number) (pairs_of n c) = put_apart k i number (pairs_of n c) a in
          record {
            room = inr m;
            cells = e ∙ ap (λ (x : List ℕ). put_in x (i * pair_cells) (k ∷ number ∷ [])) h.cells
                ∙ put-row pair_row pair_cells pair-wide neighbour_most (pairs_of n c) room i (k, number) l ∙ ap (pair_area neighbour_most) (sym q);
            held = sym (ap length q ∙ length_insert i (k, number) (pairs_of n c) l ∙ ap (λ (m : ℕ). m + 1) (length_pairs n c));
          }

      pub no_room : IsPlace (column pair_cells n c) k i → n ≡ neighbour_most → NoRoom n c c k
      no_room p m = record { absent = missing p; full = omega arith; same = refl }

-- ---- rows read in their places

pub row_place : (n : ℕ) (c : List ℕ) (i : ℕ) (d : ℕ × ℕ) → i < n → get_or (pairs_of n c) i d ≡ (get_or c (i * pair_cells) 0, get_or c (i * pair_cells + 1) 0)
row_place n c i d h =
    let l : i < length (pairs_of n c) = omega (arith, length_pairs n c) in
    get_or_default (pairs_of n c) i d (pair_of []) l
    ∙ get_or-map pair_of (rows_of pair_cells n c) i [] ∙ ap pair_of (rows-at pair_cells n c i [] h) ∙ pair-at c (i * pair_cells)

pub row_within : (n : ℕ) (c : List ℕ) → RowsHeld n c → (i : ℕ) → i < n → (i * pair_cells + 1 < length c) × (length c ≡ neighbour_area_cells)
row_within n c h i l = (omega (arith, size n c h, h.most), size n c h)

pub row_number : (n : ℕ) (c : List ℕ) → RowsHeld n c → (i : ℕ) → i < n → get_or c (i * pair_cells + 1) 0 < numbers
row_number n c h i l =
    ltb-true (get_or c (i * pair_cells + 1) 0) numbers
    (ap (λ (e : ℕ × ℕ). is_number e.1) (sym (row_place n c i (0, 0) l)) ∙ all-place (λ e. is_number e.1) (pairs_of n c) i (0, 0) h.numbers (omega (arith, length_pairs n c)))

-- the test of each row is the test of all, and one that fails is enough
all_each : {A : Type 0} (p : A → Bool) (xs : List A) → ((i : ℕ) (d : A) → i < length xs → p (get_or xs i d) ≡ true) → all p xs ≡ true
all_each p [] h = refl
all_each p (x ∷ xs) h = both (h 0 x (omega arith)) (all_each p xs (λ i d l. h (suc i) d (omega arith)))

all_fails : {A : Type 0} (p : A → Bool) (xs : List A) (i : ℕ) (d : A) → i < length xs → p (get_or xs i d) ≡ false → false ≡ all p xs
all_fails p xs i d l e = go (all p xs) refl
  where
    go : (t : Bool) → all p xs ≡ t → false ≡ t
    go false h = refl
    go true h = let y = all-place p xs i d h l in cc

in-range : (n i : ℕ) → i < n → get_or (range_with_len 0 n) i 0 ≡ i
in-range n i l = get_or-range_with_len 0 n i 0 l ∙ zero-add i

pub all_by_place : (n : ℕ) (c : List ℕ) (p : ℕ × ℕ → Bool) (r : Bool)
    → MatchBool r (AllWithin (λ i. p (get_or c (i * pair_cells) 0, get_or c (i * pair_cells + 1) 0) ≡ true) (range_with_len 0 n) 0 (length (range_with_len 0 n)))
    ((k : ℕ) × (k < length (range_with_len 0 n)) × HoldsAt (λ i. p (get_or c (i * pair_cells) 0, get_or c (i * pair_cells + 1) 0) ≡ false) (range_with_len 0 n) k)
    → r ≡ all p (pairs_of n c)
all_by_place n c p true h =
    sym (all_each p (pairs_of n c) (λ i d l. (let k : i < n = omega (arith, length_pairs n c) in
    ap p (row_place n c i d k) ∙ subst (λ j. p (get_or c (j * pair_cells) 0, get_or c (j * pair_cells + 1) 0) ≡ true) (in-range n i k) (h i 0 (omega arith) (omega (arith, length-range_with_len 0 n))))))
all_by_place n c p false h =
    let k : h.0 < n = omega (arith, h.1, length-range_with_len 0 n) in
    all_fails p (pairs_of n c) h.0 (0, 0) (omega (arith, length_pairs n c))
    (ap p (row_place n c h.0 (0, 0) k) ∙ subst (λ j. p (get_or c (j * pair_cells) 0, get_or c (j * pair_cells + 1) 0) ≡ false) (in-range n h.0 k) (h.2 0))

-- where every row stays, nothing changes
pub all-kept : (n i last B : ℕ) (c : List ℕ) → RowsHeld n c → all (stays_after i last B) (pairs_of n c) ≡ true
    → (c ≡ pair_area neighbour_most (keep (stays_after i last B) (pairs_of n c))) × (n ≡ length (keep (stays_after i last B) (pairs_of n c)))
all-kept n i last B c h e =
    let k = keep_all (stays_after i last B) (pairs_of n c) e in
    (h.cells ∙ ap (pair_area neighbour_most) (sym k), sym (ap length k ∙ length_pairs n c))

-- ---- the pass that drops rows

module _ (n : ℕ) (c : List ℕ) (h : RowsHeld n c) where
  few : length (pairs_of n c) ≤ neighbour_most
  few = omega (arith, length_pairs n c, h.most)

  -- what is known of a row that is read
  pub row_read : (row : List ℕ) → IsRow pair_cells n c row → (length row ≡ pair_cells) × (get_or row 1 0 < numbers)
  row_read row (i, l, e) =
      let r = row_encodes pair_row pair_cells pair-wide neighbour_most (pairs_of n c) c h.cells few (λ x. is_number x.1) h.numbers (0, 0) i (omega (arith, length_pairs n c)) row e in
      (ap length r.0, ltb-true (get_or row 1 0) numbers (ap (λ (x : List ℕ). is_number (get_or x 1 0)) r.0 ∙ r.1))

  module _ (i last B : ℕ) where
    abbrev pub row_stays : List ℕ → Bool
    row_stays row = stays_after i last B (get_or row 0 0, get_or row 1 0)

    pub rows_kept : (d : List ℕ) (k : ℕ) → (d ≡ kept_rows row_stays pair_cells n c) × (k ≡ length (keep row_stays (rows_of pair_cells n c)))
        → (d ≡ pair_area neighbour_most (keep (stays_after i last B) (pairs_of n c))) × (k ≡ length (keep (stays_after i last B) (pairs_of n c)))
    rows_kept d k (cells, held) =
        let n' = sym (length_pairs n c) in (
          cells ∙ ap (λ (m : ℕ). kept_rows row_stays pair_cells m c) n' ∙ kept_area pair_row pair_cells pair-wide neighbour_most (pairs_of n c) c h.cells few row_stays,
          held ∙ ap (λ (m : ℕ). length (keep row_stays (rows_of pair_cells m c))) n' ∙ kept_length pair_row pair_cells pair-wide neighbour_most (pairs_of n c) c h.cells few row_stays,
        )
