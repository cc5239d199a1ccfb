-- Laws of links in cells: each is said of areas of any width in `cells`, and here of links. Assumes nothing.
use mathlib.Core.Path.{◌≡◌, refl, sym, ap, ◌∙◌}
use mathlib.Core.List.{List, [], ◌∷◌, ◌++◌, map, append-nil}
use mathlib.Core.Bool.{true}
use mathlib.Core.Option.{Option}
use Prim.Native.Nat.{ℕ, ◌+◌, ◌*◌, ◌-◌, ◌≤◌, ◌<◌}
use native.Mathlib.Nat.{add-zero, sub-zero}
use native.Mathlib.Numerals.{add-one}
use native.Mathlib.Omega.{arith}
use lib.ListN.{length, take, drop, set, get_or, length-append, get_or-map}
use lib.Seq.{sets-eq, take_at, drop_at, drop-drop, drop-length}
use Rattle.lists.specs.Lists.{maybe}
use Rattle.lists.specs.Keyed.{rising}
use Rattle.lists.proofs.Lists.{all_true}
use Rattle.cells.specs.Area.{fit, zeros, flat, key_of, rows_of, column, all_zero, written}
use Rattle.cells.specs.Find.{Sorted, IsAt, IsPlace}
use Rattle.cells.proofs.Areas.{fit-zeros, length-rows, rows_append, drop-zeros}
use Rattle.cells.proofs.Keys.{row_cell, rows-one, rows_none}
use Rattle.cells.proofs.Lent.{cells_from_lem}
use Rattle.cells.proofs.Search.{Among, Apart, sorted, found_at, found-place, at-below}
use Rattle.cells.proofs.Trips.{area_trip, rows-area, rest-area, map_back, rows-at, length-decoded}
use Rattle.rules.specs.Settings.{link_cells}
use Rattle.rules.specs.Table.{marks_at}
use Rattle.table_record.specs.Links.{link_row, link_in, link_area, links_from, link_at}

-- ---- one link

pub link-wide : (l : ℕ × ℕ) → length (link_row l) ≡ link_cells
unfolding link_row
link-wide l = refl

-- its key is the first of its cells
pub link-key : (row : List ℕ) → (link_in row).0 ≡ key_of row
unfolding link_in
link-key row = refl

pub link_back : (l : ℕ × ℕ) → link_in (link_row l) ≡ l
unfolding link_row link_in
link_back l = refl

link_trip : (row : List ℕ) → length row ≡ link_cells → true ≡ true → link_row (link_in row) ≡ row
unfolding link_row link_in
link_trip row e h =
    let none : drop link_cells row ≡ [] = ap (λ (k : ℕ). drop k row) (sym e) ∙ drop-length row in
    sym (cells_from_lem 0 link_cells row (omega arith) ∙ ap (λ (l : List ℕ). get_or row 0 0 ∷ get_or row 1 0 ∷ l) none)

-- its cells, in the area
pub key_cell : (part : List ℕ) (i : ℕ) → (link_at part i).0 ≡ get_or part (i * link_cells) 0
unfolding link_in
key_cell part i = row_cell link_cells part (i * link_cells) 0 (omega arith) ∙ ap (λ (k : ℕ). get_or part k 0) (add-zero (i * link_cells))

pub word_cell : (part : List ℕ) (i : ℕ) → (link_at part i).1 ≡ get_or part (i * link_cells + 1) 0
unfolding link_in
word_cell part i = row_cell link_cells part (i * link_cells) 1 (omega arith)

-- ---- links to cells and back

-- cells with room for n links, k held and zeros after them, are the area of the links that they hold
pub links_trip : (n k : ℕ) (part : List ℕ) → length part ≡ n * link_cells → k ≤ n → all_zero (drop (k * link_cells) part) ≡ true → link_area n (links_from k part) ≡ part
links_trip n k part e h z =
    area_trip link_row link_in link_cells (λ (r : List ℕ). true) link_trip n k part e h (all_true (λ (r : List ℕ). true) (λ r. refl) (rows_of link_cells k part)) z

-- and the other way
pub links-area : (n : ℕ) (ls : List (ℕ × ℕ)) → length ls ≤ n → links_from (length ls) (link_area n ls) ≡ ls
links-area n ls h =
    ap (map link_in) (rows-area link_row link_cells link-wide n ls h)
    ∙ map_back link_row link_in (λ (l : ℕ × ℕ). true) (λ l t. link_back l) ls (all_true (λ (l : ℕ × ℕ). true) (λ l. refl) ls)

pub links-rest : (n : ℕ) (ls : List (ℕ × ℕ)) → all_zero (drop (length ls * link_cells) (link_area n ls)) ≡ true
links-rest n ls = rest-area link_row link_cells link-wide n ls

pub length-links : (n : ℕ) (part : List ℕ) → length (links_from n part) ≡ n
length-links n part = length-decoded link_in link_cells n part

-- ---- links one by one

-- link i
pub link_of_lem : (n : ℕ) (part : List ℕ) (i : ℕ) (d : List ℕ) → i < n → get_or (links_from n part) i (link_in d) ≡ link_at part i
link_of_lem n part i d h = get_or-map link_in (rows_of link_cells n part) i d ∙ ap link_in (rows-at link_cells n part i d h)

-- `left` links from place i on: the first of them, or none
pub links-one : (part : List ℕ) (i left : ℕ) → 0 < left → links_from left (drop (i * link_cells) part) ≡ link_at part i ∷ links_from (left - 1) (drop ((i + 1) * link_cells) part)
links-one part i left h =
    let e : i * link_cells + link_cells ≡ (i + 1) * link_cells = omega arith in
    ap (map link_in) (rows-one link_cells part (i * link_cells) left h) ∙ ap (λ (k : ℕ). link_at part i ∷ links_from (left - 1) (drop k part)) e

pub links-none : (part : List ℕ) (i left : ℕ) → left ≤ 0 → links_from left (drop (i * link_cells) part) ≡ []
links-none part i left h = ap (map link_in) (rows_none link_cells part (i * link_cells) left h)

-- the links from place i on, of n
abbrev pub links_left : (n : ℕ) → List ℕ → (i : ℕ) → List (ℕ × ℕ)
links_left n part i = links_from (n - i) (drop (i * link_cells) part)

pub left-all : (n : ℕ) (part : List ℕ) → links_left n part 0 ≡ links_from n part
left-all n part = rw (sub-zero n)

pub left_one : (n : ℕ) (part : List ℕ) (i : ℕ) → i < n → links_left n part i ≡ link_at part i ∷ links_left n part (i + 1)
left_one n part i h =
    let e : n - i - 1 ≡ n - (i + 1) = omega arith in
    links-one part i (n - i) (omega arith) ∙ ap (λ (k : ℕ). link_at part i ∷ links_from k (drop ((i + 1) * link_cells) part)) e

pub left-none : (n : ℕ) (part : List ℕ) (i : ℕ) → n ≤ i → links_left n part i ≡ []
left-none n part i h = links-none part i (n - i) (omega arith)

-- ---- a link written

pub link-put : (out : List ℕ) (i k v : ℕ) → (i + 1) * link_cells ≤ length out → set (set out (i * link_cells) k) (i * link_cells + 1) v ≡ written out (i * link_cells) (link_row (k, v))
unfolding link_row
link-put out i k v h = ap (λ (at : ℕ). set (set out (i * link_cells) k) at v) (add-one (i * link_cells)) ∙ sets-eq (k ∷ v ∷ []) out (i * link_cells) (omega arith)

-- after others
pub link-written : (ls : List (ℕ × ℕ)) (l : ℕ × ℕ) (m : ℕ) (out : List ℕ) → out ≡ fit (length out) (flat (map link_row ls)) → m ≡ length ls → (m + 1) * link_cells ≤ length out
    → written out (m * link_cells) (link_row l) ≡ fit (length out) (flat (map link_row (ls ++ (l ∷ []))))
link-written ls l m out e em h =
    let F : List ℕ = flat (map link_row ls) in
    let at : ℕ = m * link_cells in
    let r : ℕ = length out - (at + link_cells) in
    let lf : length F ≡ at = length-rows link_row link_cells link-wide ls ∙ ap (λ (x : ℕ). x * link_cells) (sym em) in
    let lr : length (F ++ link_row l) ≡ at + link_cells = length-append F (link_row l) ∙ (λ i. lf i + link-wide l i) in
    let whole : out ≡ F ++ zeros (link_cells + r) = e ∙ fit-zeros (length out) (link_cells + r) F (omega arith) in
    let before : take at out ≡ F = ap (take at) whole ∙ take_at F (zeros (link_cells + r)) at lf in
    let less : link_cells + r - link_cells ≡ r = omega arith in
    let after : drop (at + length (link_row l)) out ≡ zeros r =
    ap (λ (k : ℕ). drop (at + k) out) (link-wide l) ∙ sym (drop-drop link_cells at out) ∙ ap (drop link_cells) (ap (drop at) whole ∙ drop_at F (zeros (link_cells + r)) at lf)
    ∙ drop-zeros link_cells (link_cells + r) ∙ ap zeros less in
    let one : flat (map link_row (ls ++ (l ∷ []))) ≡ F ++ link_row l = rows_append link_row link_cells link-wide ls (l ∷ []) ∙ ap (λ (t : List ℕ). F ++ t) (append-nil (link_row l)) in
    (λ i. (before i ++ link_row l) ++ after i) ∙ sym (fit-zeros (length out) r (F ++ link_row l) (omega arith)) ∙ ap (fit (length out)) (sym one)

-- ---- a link by its key

module _ (n : ℕ) (part : List ℕ) where
  pub links_sorted : n * link_cells ≤ length part → rising (links_from n part) ≡ true → Sorted link_cells n part
  links_sorted f r = sorted link_in link-key link_cells n part (omega arith) f r

  module _ (k i : ℕ) where
    pub link-among : Sorted link_cells n part → IsAt (column link_cells n part) k i → Among k i (links_from n part)
    link-among s p = found_at link_in link-key link_cells n part s k i p

    pub link_apart : IsPlace (column link_cells n part) k i → Apart k i (links_from n part)
    link_apart p = found-place link_in link-key link_cells n part k i p

    -- its cells are there
    pub link-within : Sorted link_cells n part → IsAt (column link_cells n part) k i → (i + 1) * link_cells ≤ length part
    link-within s p = let h = at-below link_cells n part k i p in let f = s.fits in omega arith

    pub marks-found : Sorted link_cells n part → IsAt (column link_cells n part) k i → (link_at part i).1 ≡ marks_at (links_from n part) k
    marks-found s p =
        sym (ap (λ (o : Option ℕ). maybe o 0 (λ v. v)) ((link-among s p).found (link_in [])) ∙ ap (λ (x : ℕ × ℕ). x.1) (link_of_lem n part i [] (at-below link_cells n part k i p)))

    pub marks_missing : IsPlace (column link_cells n part) k i → 0 ≡ marks_at (links_from n part) k
    marks_missing p = sym (ap (λ (o : Option ℕ). maybe o 0 (λ v. v)) (link_apart p).missing)
