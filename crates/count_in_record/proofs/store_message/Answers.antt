-- The row is stored with the entries that it had; where the message's replace them, they are kept for these.
use mathlib.Core.Path.{sym, ap, ◌∙◌}
use mathlib.Core.Bool.{Bool, cond}
use mathlib.Core.List.{List, ◌∷◌, ◌++◌}
use Prim.Native.Nat.{ℕ, ◌*◌}
use lib.ListN.{get_or}
use Rattle.wire.specs.Check.{entries}
use Rattle.wire.specs.Entries.{entries_of}
use Rattle.cells.specs.Area.{fit}
use Rattle.cells.proofs.Areas.{length-fit}
use Rattle.rules.specs.Settings.{link_most, link_cells, entry_area_cells}
use Rattle.table_record.specs.Record.{address_at, entries_at, entries_part}
use Rattle.count_entries.specs.Entries.{kept_in}
use Rattle.count_in_record.proofs.Rows.{kept_stored}
use Rattle.count_in_record.proofs.store_message.Goals as goal
use Rattle.count_in_record.proofs.store_message.Goals.{Start}

-- the row, by whether the message's entries replace those that are kept
abbrev row_if : goal.Start → Bool → List ℕ
row_if s replaced =
    let a = s.args in
    let row = a.row.now in
    get_or row address_at 0 ∷ a.current ∷ a.m.time ∷ a.m.ttl ∷ a.left.links ∷ a.left.best ∷ cond replaced (entries a.hna.now) (get_or row entries_at 0)
    ∷ (fit (link_most * link_cells) a.links.now ++ cond replaced (fit entry_area_cells (entries_of a.hna.now)) (entries_part row))

pub keep_entries-requires : goal.keep_entries-requires
keep_entries-requires c = (c.store.auto.row ∙ c.requires.0, c.requires.2 c.if-replaced.true)

pub returns-then-replaced : goal.returns-then-replaced
returns-then-replaced c =
    let a = c.args in
    c.keep_entries.ensures ∙ ap (λ (l : List ℕ). kept_in l a.hna.now) c.store.ensures
    ∙ kept_stored (get_or a.row.now address_at 0) a.current a.m.time a.m.ttl a.left.links a.left.best (get_or a.row.now entries_at 0) (fit (link_most * link_cells) a.links.now) (entries_part a.row.now) a.hna.now (length-fit (link_most * link_cells) a.links.now) ∙ ap (row_if (goal.at.returns-then-replaced c).Start) (sym c.if-replaced.true)

pub returns-else-replaced : goal.returns-else-replaced
returns-else-replaced c = c.store.ensures ∙ ap (row_if (goal.at.returns-else-replaced c).Start) (sym c.if-replaced.false)
