-- The packets of a burst, turn by turn: what is done, and with what is left to do it makes the whole. Assumes nothing.
use Prim.Native.Nat.{ℕ, suc, ◌+◌, ◌≤◌, ◌<◌}
use mathlib.Core.Path.{◌≡◌, refl, sym, ap, ◌∙◌, subst}
use mathlib.Core.Bool.{cond}
use mathlib.Core.List.{List, ◌∷◌, ◌++◌, append_assoc, append-nil}
use lib.Dec.{eqb}
use lib.ListN.{length, get_or, set, take, drop, length-set, length-drop, take-append-drop, drop_of_length-le}
use lib.Seq.{drop-cons, drop-drop, take-add, take-suc-set, length-take-le}
use native.Mathlib.Nat.{zero-add, add-zero, add_assoc}
use native.Mathlib.Numerals.{add-one}
use native.Mathlib.Omega.{arith}
use borrow.Author.Tests.{eqb-true}
use Rattle.lists.specs.Lists.{sum}
use Rattle.lists.proofs.Tests.{by_test}
use Rattle.lists.proofs.Lists.{sum_drop}
use Rattle.rules.specs.declared.Received.{Received}
use Rattle.rules.specs.Settings.{packets_most}
use Rattle.rules.specs.Calls.{packets_in, single_call, received, Reply, answered_writing}
use Rattle.rules.specs.Rules.{Each, written_by, and_then, receive_each}
use Rattle.table_layout.specs.Calls.{receive_in}
use Rattle.table_layout.specs.Facts.{Knows}
use Rattle.call_burst.specs.Bursts.{packet_at, Spaces, One, Enough, Receives}

-- answers and octets that are there already, and then what the packets left leave
abbrev joined : (answers : List Received) (output : List ℕ) (written : ℕ) → Each (List ℕ) → Each (List ℕ)
joined rs os w e = record { answers = rs ++ e.answers; output = os ++ e.output; written = w + e.written; state = e.state }

module _ (c₀ buffer ns ss is : List ℕ) (t : ℕ) (o₀ : List ℕ) where
  -- what the packets from the i-th on leave, given the cells c and the output o from f on
  abbrev left : (c o : List ℕ) (at f i : ℕ) → Each (List ℕ)
  left c o at f i = receive_each receive_in t c (drop f o) (packets_in (drop at buffer) (drop i ns) (drop i ss) (drop i is))

  -- i packets, of `at` octets, are received, and have written f octets
  pub record Going (c o : List ℕ) (rows : List Received) (at f i : ℕ) : Type 0 where
    pub some : i ≤ length ns
    pub adds : at + sum (drop i ns) ≡ length buffer
    pub room : f ≤ length o
    pub size : length o ≡ length o₀
    pub array : length rows ≡ packets_most
    pub knows : Knows c
    pub goal : receive_each receive_in t c₀ o₀ (packets_in buffer ns ss is) ≡ joined (take i rows) (take f o) f (left c o at f i)

  pub begun : Enough c₀ buffer ns ss is → (rows : List Received) → length rows ≡ packets_most → Going c₀ o₀ rows 0 0 0
  begun e rows l =
      record {
        some = omega arith;
        adds = zero-add (sum ns) ∙ e.adds;
        room = omega arith;
        size = refl;
        array = l;
        knows = e.knows;
        goal = λ j. record { answers = whole.answers; output = whole.output; written = sym (zero-add whole.written) j; state = whole.state };
      }
    where
      whole : Each (List ℕ)
      whole = receive_each receive_in t c₀ o₀ (packets_in buffer ns ss is)

  module _ (e : Enough c₀ buffer ns ss is) (c o : List ℕ) (rows : List Received) (at f i : ℕ) (g : Going c o rows at f i) where
    module _ (h : i < length ns) where
      abbrev n : ℕ
      n = get_or ns i 0

      -- the packet stands in the buffer
      pub spaces : Spaces c buffer at n o f
      spaces = record { knows = g.knows; packet = omega (arith, g.adds, sum_drop ns i h); rest = g.room }

      module _ (d q : List ℕ) (r : Received) (x : One c buffer at n (get_or ss i 0) (get_or is i 0) t o f d q r) (k : ℕ) (m : k ≡ cond (eqb r.number 26) n 0) where
        step : left c o at f i ≡ and_then (answered_writing (received r) (drop f q)) k (left d q (at + n) (f + k) (i + 1))
        unfolding receive_each
        step =
            let hs : i < length ss = omega (arith, e.as_many_senders) in
            let hi : i < length is = omega (arith, e.as_many_interfaces) in
            let r' = single_call t (drop f o) (packet_at buffer at n (get_or ss i 0) (get_or is i 0)) in
            let long : length (take n (drop at buffer)) ≡ n = length-take-le n (drop at buffer) (omega (arith, length-drop at buffer, spaces.packet)) in
            let ps = packets_in (drop n (drop at buffer)) (drop (suc i) ns) (drop (suc i) ss) (drop (suc i) is) in
            let a = answered_writing (received r) (drop f q) in
            (λ j. receive_each receive_in t c (drop f o) (packets_in (drop at buffer) (drop-cons ns i 0 h j) (drop-cons ss i 0 hs j) (drop-cons is i 0 hi j)))
            ∙ ap (λ (z : Reply × List ℕ). and_then z.0 (written_by r' z.0) (receive_each receive_in t z.1 (drop (written_by r' z.0) z.0.output) ps)) x.call
            ∙ ap (λ (w : ℕ). and_then a w (receive_each receive_in t d (drop w (drop f q)) ps)) (ap (λ (l : ℕ). cond (eqb r.number 26) l 0) long ∙ sym m)
            ∙ (λ j. and_then a k (receive_each receive_in t d (drop-drop k f q j) (packets_in (drop-drop n at buffer j) (drop (sym (add-one i) j) ns) (drop (sym (add-one i) j) ss) (drop (sym (add-one i) j) is))))

        fits : f + k ≤ length q
        fits =
            subst (λ (z : ℕ). f + z ≤ length q) (sym m)
            (by_test (λ (z : ℕ). f + z ≤ length q) (eqb r.number 26) (λ u. omega (arith, x.size, x.fits (eqb-true r.number 26 u))) (λ _. omega (arith, x.size, g.room)))

        -- one answer and k octets more
        more : (l : Each (List ℕ)) → joined (take i rows) (take f o) f (and_then (answered_writing (received r) (drop f q)) k l) ≡ joined (take (i + 1) (set rows i r)) (take (f + k) q) (f + k) l
        more l =
            let hr : i < length rows = omega (arith, g.array, e.few) in
            let rs : take i rows ++ (r ∷ l.answers) ≡ take (i + 1) (set rows i r) ++ l.answers = rw (add-one, take-suc-set rows i r, append_assoc) in
            let os : take f o ++ (take k (drop f q) ++ l.output) ≡ take (f + k) q ++ l.output = rw (take-add f k q, x.before, append_assoc) in
            λ j. record { answers = rs j; output = os j; written = sym (add_assoc f k l.written) j; state = l.state }

        pub turn : Going d q (set rows i r) (at + n) (f + k) (i + 1)
        turn =
            record {
              some = omega arith;
              adds = omega (arith, g.adds, sum_drop ns i h);
              room = fits;
              size = x.size ∙ g.size;
              array = length-set rows i r ∙ g.array;
              knows = x.knows;
              goal = g.goal ∙ ap (joined (take i rows) (take f o) f) step ∙ more (left d q (at + n) (f + k) (i + 1));
            }

    -- none is left
    pub ended : length ns ≤ i → Receives c₀ buffer ns ss is t o₀ c o (record { rows = rows; n = length ns; written = f })
    unfolding receive_each
    ended h =
        let all : i ≡ length ns = omega (arith, g.some) in
        record {
          few = e.few;
          size = refl;
          each =
              g.goal
              ∙ (λ j. joined (take i rows) (take f o) f (receive_each receive_in t c (drop f o) (packets_in (drop at buffer) (drop_of_length-le ns h j) (drop i ss) (drop i is))))
              ∙ (λ j. record { answers = append-nil (take i rows) j; output = take-append-drop f o j; written = add-zero f j; state = c })
              ∙ ap (λ (m : ℕ). record { answers = take m rows; output = o; written = f; state = c }) all;
        }
