-- What cells and tables have to do with each other. `proofs/Encoding.antt` proves it.
use Rattle.std.specs.Prelude.{◌≡◌, List, true, ℕ}
use Rattle.rules.specs.Table.{TableState}
use Rattle.rules.specs.WellFormed as R
use Rattle.table_layout.specs.Cells.{encode, decode, well_formed}

pub record Laws : Type 0 where
  -- well-formed cells are the encoding of what they decode to, which is a table well-formed by the rules
  pub cells : (c : List ℕ) → well_formed c ≡ true → encode (decode c) ≡ c
  pub table : (c : List ℕ) → well_formed c ≡ true → R.well_formed (decode c) ≡ true
  -- a table well-formed by the rules encodes to well-formed cells, and decodes back
  pub encoded : (s : TableState) → R.well_formed s ≡ true → well_formed (encode s) ≡ true
  pub decoded : (s : TableState) → R.well_formed s ≡ true → decode (encode s) ≡ s
  -- two such tables with equal cells are equal
  pub equal : (s t : TableState) → R.well_formed s ≡ true → R.well_formed t ≡ true → encode s ≡ encode t → s ≡ t
