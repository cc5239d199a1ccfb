-- The lookup: which originator's entry covers an address. (RULES 7.6)
use Rattle.std.specs.Prelude.{ℕ, ◌+◌, ◌-◌, ◌/◌, ◌^◌, Bool, ◌&&◌, ◌||◌, not, List, [], ◌∷◌, ◌++◌, ltb, eqb}
use Rattle.std.proofs.Math.Option.{Option}
use Rattle.lists.specs.Lists.{keep, all, first}
use Rattle.wire.specs.Layout.{mask_most}
use Rattle.wire.specs.Entries.{network_of, mask_of}

-- the leading bits of an address, as many as a mask says
abbrev pub leading : (mask address : ℕ) → ℕ
leading m a = a / 2 ^ (mask_most - m)

-- an entry covers an address: its network and the address agree in as many leading bits as its mask says
unfoldable pub covers : (address entry : ℕ) → Bool
covers a e = eqb (leading (mask_of e) (network_of e)) (leading (mask_of e) a)

-- an entry of an originator, at its place in the originator's list, from 0
pub record Announced : Type 0 where
  pub originator : ℕ
  pub place : ℕ
  pub entry : ℕ

-- an originator's entries from place i on
abbrev pub announced_by : (originator i : ℕ) → List ℕ → List Announced
announced_by o i [] = []
announced_by o i (e ∷ es) = record { originator = o; place = i; entry = e } ∷ announced_by o (i + 1) es

-- those of all originators, each given with its list
abbrev pub announced : List (ℕ × List ℕ) → List Announced
announced [] = []
announced (x ∷ xs) = announced_by x.0 0 x.1 ++ announced xs

-- x goes before y: it has the longer mask; of equal masks, the smaller originator address; then the earlier entry
abbrev pub goes_before : (x y : Announced) → Bool
goes_before x y =
    ltb (mask_of y.entry) (mask_of x.entry)
    || (eqb (mask_of x.entry) (mask_of y.entry)
    && (ltb x.originator y.originator || (eqb x.originator y.originator && ltb x.place y.place)))

-- those that cover the address
abbrev pub covering : (address : ℕ) → List (ℕ × List ℕ) → List Announced
covering a xs = keep (λ x. covers a x.entry) (announced xs)

-- the one among them that no other goes before, or none
unfoldable pub serving : (address : ℕ) → List (ℕ × List ℕ) → Option Announced
serving a xs = first (λ x. all (λ y. not (goes_before y x)) (covering a xs)) (covering a xs)
