-- What a search among rows finds, and how many rounds it takes.
use Rattle.std.specs.Prelude.{◌≡◌, List, true, ℕ, suc, ◌+◌, ◌*◌, ◌-◌, ◌/◌, ◌^◌, ◌≤◌, ◌<◌, length, get_or}
use Rattle.cells.specs.Area.{column, rise}
use Rattle.std.specs.Prelude.{Result, Ok, Err}
use Rattle.cells.specs.declared.SearchResult.{SearchResult}

-- n rows of w cells whose keys rise: what a search asks for
pub record Sorted (w n : ℕ) (c : List ℕ) : Type 0 where
  pub wide : 0 < w
  pub fits : n * w ≤ length c
  pub rises : rise (column w n c) ≡ true

-- key i is k
pub record IsAt (ks : List ℕ) (k i : ℕ) : Type 0 where
  pub within : i < length ks
  pub same : get_or ks i 0 ≡ k

-- no key is k; the first i keys are below it, the others above
pub record IsPlace (ks : List ℕ) (k i : ℕ) : Type 0 where
  pub within : i ≤ length ks
  pub below : (j : ℕ) → j < i → get_or ks j 0 < k
  pub above : (j : ℕ) → i ≤ j → j < length ks → k < get_or ks j 0

-- what was found of the key k among the keys ks
abbrev pub FoundIn : List ℕ → (k : ℕ) → Result ℕ ℕ → Type 0
FoundIn ks k (Ok i) = IsAt ks k i
FoundIn ks k (Err i) = IsPlace ks k i

-- ---- rounds

-- the middle one of as many keys as are left, from place `low` on
abbrev pub middle : (low left : ℕ) → ℕ
middle low left = low + left / 2

-- A search by halving for k, while these keys are left: how many rounds it takes from here, and what it ends with. Each round compares k with one key,
-- the middle one, and ends there or goes on with those above it or below it.
pub data Halving (ks : List ℕ) (k : ℕ) : (low left rounds : ℕ) → Result ℕ ℕ → Type 0 where
  none_left : {low : ℕ} → Halving ks k low 0 0 (Err low)
  equal : {low left : ℕ} → 0 < left → get_or ks (middle low left) 0 ≡ k → Halving ks k low left 1 (Ok (middle low left))
  upper_half : {low left rounds : ℕ} {f : Result ℕ ℕ} → 0 < left → get_or ks (middle low left) 0 < k → Halving ks k (middle low left + 1) (left - (left / 2 + 1)) rounds f → Halving ks k low left (suc rounds) f
  lower_half : {low left rounds : ℕ} {f : Result ℕ ℕ} → 0 < left → k < get_or ks (middle low left) 0 → Halving ks k low (left / 2) rounds f → Halving ks k low left (suc rounds) f

-- what a search for the key k among the keys ks answers: where k is or belongs, the rounds that halving took from all keys to there, and that among
-- fewer than 2^e keys they are at most e
pub record Searched (ks : List ℕ) (k : ℕ) (s : SearchResult) : Type 0 where
  pub found : FoundIn ks k s.found
  pub rounds : Halving ks k 0 (length ks) s.rounds s.found
  pub few : (e : ℕ) → length ks < 2 ^ e → s.rounds ≤ e
