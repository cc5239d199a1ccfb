-- Links in cells: written at the end of a scratch, read one by one, and a part of them. Assumes nothing.
use mathlib.Core.Path.{◌≡◌, refl, sym, ap, ◌∙◌}
use mathlib.Core.List.{List, [], ◌∷◌, ◌++◌, map, append-nil}
use mathlib.Core.Bool.{Bool, cond}
use Prim.Native.Nat.{ℕ, zero, suc, ◌+◌, ◌*◌, ◌-◌, ◌≤◌, ◌<◌}
use native.Mathlib.Nat.{suc-sub-suc, sub-zero, not-suc-le-zero, le_of_suc-le-suc}
use native.Mathlib.Omega.{arith}
use lib.ListN.{length, take, drop, length-append}
use lib.Seq.{append_snoc, drop-drop}
use Rattle.lists.specs.Lists.{keep}
use Rattle.cells.specs.Area.{fit, zeros, flat, written}
use Rattle.cells.proofs.Areas.{length-fit}
use Rattle.cells.proofs.Lent.{tail_is}
use Rattle.window.specs.Window.{shift}
use Rattle.table_record.specs.Links.{link_row, link_in, links_from, link_at}
use Rattle.table_record.proofs.Links.{link-written}
use Rattle.count_best_link.specs.declared.Step.{Step}
use Rattle.count_best_link.proofs.Leading.{from, moved-one}
use Rattle.rules.specs.Settings.{link_cells}
use Rattle.count_best_link.specs.BestLink.{Links, moved}
use Rattle.count_links.specs.Links.{stays, scratch_cells, Blank, Built}

-- ---- a link written after others

abbrev pub cells_of : Links → List ℕ
cells_of ls = flat (map link_row ls)

-- cells, number and links to come may be told by equals
pub built_along : {out out2 : List ℕ} {m m2 : ℕ} {rest rest2 goal : Links} → out2 ≡ out → m2 ≡ m → rest ≡ rest2 → Built out m rest goal → Built out2 m2 rest2 goal
built_along eo em er b =
    record {
      links = b.links;
      cells = eo ∙ b.cells ∙ ap (λ (x : List ℕ). fit (length x) (cells_of b.links)) (sym eo);
      size = em ∙ b.size;
      joined = ap (λ (x : Links). b.links ++ x) (sym er) ∙ b.joined;
    }

-- a link written
pub built_put : {out out2 : List ℕ} (m : ℕ) (l : ℕ × ℕ) (rest goal : Links) → (m + 1) * link_cells ≤ length out → out2 ≡ written out (m * link_cells) (link_row l) → length out2 ≡ length out
    → Built out m (l ∷ rest) goal → Built out2 (m + 1) rest goal
built_put {out} m l rest goal h e len b =
    record {
      links = b.links ++ (l ∷ []);
      cells = e ∙ link-written b.links l m out b.cells b.size h ∙ ap (λ (x : ℕ). fit x (cells_of (b.links ++ (l ∷ [])))) (sym len);
      size = ap (λ (x : ℕ). x + 1) b.size ∙ sym (length-append b.links (l ∷ []));
      joined = append_snoc b.links l rest ∙ b.joined;
    }

-- nothing is written yet
pub built_start : (out : List ℕ) (n : ℕ) (goal : Links) → out ≡ zeros n → Built out 0 goal goal
built_start out n goal e =
    let len : length out ≡ n = ap length e ∙ length-fit n [] in
    record { links = []; cells = e ∙ ap zeros (sym len); size = refl; joined = refl }

-- ---- a link read: it keeps its place or not

module _ (c : List ℕ) (step : Step) (n i key v : ℕ) (h : i < n) (ek : key ≡ (link_at c i).0) (ev : v ≡ shift step.policy.window step.up (link_at c i).1) where
  abbrev more : Links
  more = from c step n (i + 1)

  pub keep_one : (b : ℕ) (rest : Links) (t : Bool) → stays b (key, v) ≡ t
      → keep (stays b) (from c step n i) ++ rest ≡ cond t ((key, v) ∷ keep (stays b) more) (keep (stays b) more) ++ rest
  keep_one b rest t et =
      ap (λ (l : Links). keep (stays b) l ++ rest) (moved-one c step n i key v h ek ev) ∙ ap (λ (s : Bool). cond s ((key, v) ∷ keep (stays b) more) (keep (stays b) more) ++ rest) et

-- ---- a part of the links

module _ {A : Type 0} (f : ℕ × ℕ → A) where
  links-take : (low n : ℕ) (c : List ℕ) → low ≤ n → map f (links_from low c) ≡ take low (map f (links_from n c))
  links-take zero n c h = refl
  links-take (suc low) zero c h = absurd (not-suc-le-zero h)
  links-take (suc low) (suc n) c h = ap (λ (l : List A). f (link_in (take link_cells c)) ∷ l) (links-take low n (drop link_cells c) (le_of_suc-le-suc h))

  links-drop : (high n : ℕ) (c : List ℕ) → high ≤ n → map f (links_from (n - high) (drop (high * link_cells) c)) ≡ drop high (map f (links_from n c))
  links-drop zero n c h = rw (sub-zero n)
  links-drop (suc high) zero c h = absurd (not-suc-le-zero h)
  links-drop (suc high) (suc n) c h =
      let e : suc high * link_cells ≡ link_cells + high * link_cells = omega arith in
      (λ i. map f (links_from (suc-sub-suc n high i) ((ap (λ (k : ℕ). drop k c) e ∙ sym (drop-drop (high * link_cells) link_cells c)) i)))
      ∙ links-drop high n (drop link_cells c) (le_of_suc-le-suc h)

-- where this link is to come between the first `low` links and those from `high` on, which are read from the rest of the part
pub arrange_start : (out part : List ℕ) (step : Step) (n low high b key v : ℕ) → Blank out → low ≤ n → high ≤ n
    → Built out 0 (keep (stays b) (moved step low part) ++ ((key, v) ∷ (keep (stays b) (moved step (n - high) (take (length part - high * link_cells) (drop (high * link_cells) part))) ++ [])))
    (keep (stays b) (take low (moved step n part)) ++ ((key, v) ∷ keep (stays b) (drop high (moved step n part))))
arrange_start out part step n low high b key v e hl hh =
    let f : ℕ × ℕ → ℕ × ℕ = λ x. (x.0, shift step.policy.window step.up x.1) in
    let q : moved step (n - high) (take (length part - high * link_cells) (drop (high * link_cells) part)) ≡ drop high (moved step n part) =
    ap (λ (l : List ℕ). moved step (n - high) l) (tail_is part (high * link_cells)) ∙ links-drop f high n part hh in
    built_along refl refl
    (λ i. keep (stays b) (sym (links-take f low n part hl) i) ++ ((key, v) ∷ sym (ap (λ (l : Links). keep (stays b) l ++ []) q ∙ append-nil (keep (stays b) (drop high (moved step n part)))) i))
    (built_start out scratch_cells (keep (stays b) (take low (moved step n part)) ++ ((key, v) ∷ keep (stays b) (drop high (moved step n part)))) e.cells)
