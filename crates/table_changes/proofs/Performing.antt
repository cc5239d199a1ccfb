-- The ways through a public call: not well-formed, refused by the rules, or done by them. Assumes nothing.
use mathlib.Core.Path.{◌≡◌, refl, sym, ap, ◌∙◌}
use mathlib.Core.Bool.{true, false}
use mathlib.Core.List.{List}
use Prim.Native.Nat.{ℕ}
use lib.ListN.{length}
use Rattle.wire.specs.declared.Fault.{Fault}
use Rattle.wire.specs.Check.{numbered}
use Rattle.rules.specs.Calls.{Call, Reply, refusal}
use Rattle.rules.specs.Rules.{Outcome, branch, refuse, step}
use Rattle.rules.specs.Table.{TableRows, TableRecord, table}
use Rattle.table_layout.specs.Cells.{encode, decode, well_formed}
use Rattle.table_layout.specs.Calls.{Done, stepped, refused, meets, unmet, call_on, Performed}
use Rattle.table_layout.proofs.Encoding.{encode-decode}

module _ (c : List ℕ) (call : Call) where
  by_branch : (d : Done) → call_on c call ≡ d → (reply : Reply) (cells : List ℕ) → reply ≡ d.reply → cells ≡ d.cells → Performed c call reply cells
  by_branch d e reply cells er ec = record { replies = er ∙ ap (λ (x : Done). x.reply) (sym e); leaves = ec ∙ ap (λ (x : Done). x.cells) (sym e) }

  -- the cells are not what the call asks: nothing is changed
  pub not-asked : meets c call ≡ false → Performed c call (refusal call (numbered (unmet call))) c
  unfolding call_on branch
  not-asked e = by_branch (refused c call (unmet call)) (rw e) _ _ refl refl

  module _ (asked : meets c call ≡ true) where
    taken : call_on c call ≡ stepped c call
    unfolding call_on branch
    taken = rw asked

    -- the rules do something
    pub does : (o : Outcome TableRows TableRecord) → step table (length c) (decode c) call ≡ o → (reply : Reply) (cells : List ℕ)
        → reply ≡ o.reply → cells ≡ encode o.state → Performed c call reply cells
    does o e reply cells er ec =
        by_branch (stepped c call) taken reply cells (er ∙ ap (λ (x : Outcome TableRows TableRecord). x.reply) (sym e))
        (ec ∙ ap (λ (x : Outcome TableRows TableRecord). encode x.state) (sym e))

    -- the rules refuse: nothing is changed
    pub refuses : well_formed c ≡ true → (f : Fault) → step table (length c) (decode c) call ≡ refuse table call (decode c) f → Performed c call (refusal call f) c
    refuses well f e = does (refuse table call (decode c) f) e _ _ refl (sym (encode-decode c well))
