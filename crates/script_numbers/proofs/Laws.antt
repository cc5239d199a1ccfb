-- A turn of the loop over a word's digits. Assumes nothing.
use Rattle.std.proofs.Common.{◌≡◌, ℕ, suc, ◌+◌, ◌≤◌, ◌<◌, ◌&&◌, leb, leb-true, Bool, true, false, cond, List, [], ◌∷◌, All, length, take, drop, replicate, get_or, set, refl, sym, ap, ◌∙◌, arith, Option, Some, None, inr, drop-cons, add-one, below_more, get_or-set_same, get_or-set_other}
use Rattle.std.proofs.lemmas.Grind.{common_steps}
use lib.Seq.{drop-length, length-take-le}
use Rattle.std.proofs.lemmas.List.{get_or-take, get_or-replicate, length-replicate}
use Rattle.script_words.specs.Words.{next_of, after_next, after_words, word_at}
use Rattle.script_numbers.specs.Numbers.{digit0, digit9, more, is_next, with_digit, decimal_from, decimal, members_most, number_at, member_at, HasUnread, ReadNumbers, IsNoList, ReadList}

module _ (most n d : ℕ) (ds : List ℕ) where
  goes_on : (k : ℕ) → Some k ≡ with_digit most n d → decimal_from most n (d ∷ ds) ≡ decimal_from most k ds
  unfolding with_digit decimal_from
  goes_on k e = go (is_next most n d) e
    where
      go : (b : Bool) → Some k ≡ cond b (Some (more n d)) None → cond b (decimal_from most (more n d) ds) None ≡ decimal_from most k ds
      go true q = let h : more n d ≡ k = cc in ap (λ (m : ℕ). decimal_from most m ds) h
      go false q = cc

  stops : None ≡ with_digit most n d → decimal_from most n (d ∷ ds) ≡ None
  unfolding with_digit decimal_from
  stops e = go (is_next most n d) e
    where
      go : (b : Bool) → None ≡ cond b (Some (more n d)) None → cond b (decimal_from most (more n d) ds) None ≡ None
      go true q = cc
      go false q = refl

pub none_read : (most : ℕ) (w : List ℕ) → length w ≡ 0 → None ≡ decimal most w
unfolding decimal
none_read most [] e = refl
none_read most (x ∷ xs) e = absurd (omega arith)

pub reading : (most : ℕ) (w : List ℕ) → (length w ≡ 0 → ⊥) → decimal_from most 0 (drop 0 w) ≡ decimal most w
unfolding decimal
reading most [] h = absurd (h refl)
reading most (x ∷ xs) h = refl

module _ (most n : ℕ) (w : List ℕ) (i : ℕ) (l : i < length w) where
  pub digit_read : (k : ℕ) → Some k ≡ with_digit most n (get_or w i 0) → decimal_from most n (drop i w) ≡ decimal_from most k (drop (i + 1) w)
  digit_read k e = rw (add-one i, drop-cons w i 0 l) (goes_on most n (get_or w i 0) (drop (suc i) w) k e)

  pub digit_bad : None ≡ with_digit most n (get_or w i 0) → decimal_from most n (drop i w) ≡ None
  digit_bad e = rw (drop-cons w i 0 l) (stops most n (get_or w i 0) (drop (suc i) w) e)

pub all_read : (most n : ℕ) (w : List ℕ) (i : ℕ) → i ≡ length w → decimal_from most n (drop i w) ≡ Some n
unfolding decimal_from
all_read most n w i e = rw (e, drop-length w)

-- ---- one word more of a line

module _ (xs ys : List ℕ) (i : ℕ) (e : ys ≡ after_words i xs) where
  pub one_word_more : (zs : List ℕ) → zs ≡ after_next ys → zs ≡ after_words (i + 1) xs
  unfolding after_words
  one_word_more zs f = f ∙ ap (λ (l : List ℕ). after_next l) e ∙ rw (add-one i)

  pub word_read : (most v : ℕ) → decimal most (next_of ys) ≡ Some v → decimal most (word_at i xs) ≡ Some v
  word_read most v r = ap (λ (l : List ℕ). decimal most (next_of l)) (sym e) ∙ r

module _ (read : ℕ → Option ℕ) (values : List ℕ) (i v : ℕ) (h : (k : ℕ) → k < i → read k ≡ Some (get_or values k 0)) (e : read i ≡ Some v) where
  pub each_set : i < length values → (k : ℕ) → k < i + 1 → read k ≡ Some (get_or (set values i v) k 0)
  each_set l =
      below_more _ _
      (λ k b. h k b ∙ ap Some (sym (get_or-set_other values i k v 0 (λ q. omega arith))))
      (e ∙ ap Some (sym (get_or-set_same values i v 0 l)))

-- ---- a number that is read is at most its limit

from_most : (most n : ℕ) (w : List ℕ) (v : ℕ) → n ≤ most → decimal_from most n w ≡ Some v → v ≤ most
unfolding decimal_from
from_most most n [] v h e = let q : n ≡ v = cc in omega arith
from_most most n (d ∷ ds) v h e =
    go (leb digit0 d) (leb d digit9) (leb (more n d) most) (λ t. from_most most (more n d) ds v (leb-true (more n d) most t)) e
  where
    go : (a b c : Bool) → (c ≡ true → decimal_from most (more n d) ds ≡ Some v → v ≤ most) → cond (a && b && c) (decimal_from most (more n d) ds) None ≡ Some v → v ≤ most
    go true true true f q = f refl q
    go true true false f q = absurd cc
    go true false c f q = absurd cc
    go false b c f q = absurd cc

pub at_most : (most : ℕ) (w : List ℕ) (v : ℕ) → decimal most w ≡ Some v → v ≤ most
unfolding decimal
at_most most [] v e = absurd cc
at_most most (d ∷ ds) v e = from_most most 0 (d ∷ ds) v (omega arith) e

-- the members that were read
pub all_at_most : (members : List ℕ) (most : ℕ) (word : ℕ → List ℕ) → ((k : ℕ) → k < length members → decimal most (word k) ≡ Some (get_or members k 0)) → All (λ (member : ℕ). member ≤ most) members
all_at_most members most word h k d l = let e : get_or members k d ≡ get_or members k 0 = grind (arith, common_steps) in omega (arith, e, at_most most (word k) (get_or members k 0) (h k l))

-- the first numbers of the lent ones, once each limit had its word
pub numbers_read : (xs limits lent rest : List ℕ) (n : ℕ) → n ≡ length limits → n ≤ length lent → rest ≡ after_words n xs → ((k : ℕ) → k < n → number_at xs limits k ≡ Some (get_or lent k 0)) → ReadNumbers xs limits (take (length limits) lent) rest
numbers_read xs limits lent rest n e l b h =
    let first = λ (k : ℕ) (c : k < length limits). get_or-take (length limits) lent k 0 c in
    let read = λ (k : ℕ) (c : k < length limits). h k (omega arith) ∙ ap Some (sym (first k c)) in
    record {
      sized = length-take-le (length limits) lent (omega arith);
      behind = b ∙ ap (λ (k : ℕ). after_words k xs) e;
      read = read;
      bounded = λ k c. at_most _ _ _ (read k c);
    }

-- ---- a list, whose members are read with one limit each

module _ (xs ys : List ℕ) (most n : ℕ) (size : decimal members_most (next_of xs) ≡ Some n) (behind : ys ≡ after_next xs) where
  abbrev pub limits : List ℕ
  limits = replicate members_most most

  pub few : n ≤ members_most
  few = at_most _ _ _ size

  pub sized : length (take n limits) ≡ n
  sized = length-take-le n limits (omega (arith, few, length-replicate members_most most))

  member : (k : ℕ) → k < n → number_at ys (take n limits) k ≡ member_at xs most k
  member k h =
      let e : get_or (take n limits) k 0 ≡ most = get_or-take n limits k 0 h ∙ get_or-replicate members_most k most 0 (omega (arith, few)) in
      ap (λ (j : ℕ). decimal j (word_at k ys)) e ∙ ap (λ (zs : List ℕ). decimal most (word_at k zs)) behind

  pub list_read : (lent rest : List ℕ) → n ≤ length lent → ReadNumbers ys (take n limits) (take (length (take n limits)) lent) rest → ReadList xs most (take n lent) rest
  list_read lent rest l r =
      let m : length (take n lent) ≡ n = length-take-le n lent l in
      let read = λ (k : ℕ) (h : k < length (take n lent)). let b : k < n = omega (arith, m) in sym (member k b) ∙ r.read k (omega (arith, sized)) ∙ ap (λ (j : ℕ). Some (get_or (take j lent) k 0)) sized in
      record {
        size = size ∙ ap Some (sym m);
        behind = r.behind ∙ ap (λ (j : ℕ). after_words j ys) (sized ∙ sym m) ∙ ap (after_words (length (take n lent))) behind;
        read = read;
        bounded = all_at_most _ _ _ read;
      }

  pub no_list : HasUnread ys (take n limits) → IsNoList xs most
  no_list u =
      let b : u.0 < n = omega (arith, u.1.0, sized) in
      inr (n, (size, (u.0, (b, sym (member u.0 b) ∙ u.1.1))))
