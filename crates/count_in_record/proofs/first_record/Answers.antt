-- One link with one mark is written, the fields before it, and the entries.
use mathlib.Core.Path.{refl, sym, ap, ◌∙◌}
use mathlib.Core.List.{[], ◌∷◌}
use Prim.Native.Nat.{ℕ}
use native.Mathlib.Omega.{arith}
use lib.ListN.{length-set}
use Rattle.window.specs.Window.{mark}
use Rattle.window.specs.Marks.{word_of}
use Rattle.wire.proofs.Entries.{length-entries}
use Rattle.rules.specs.Settings.{link_cells}
use Rattle.rules.specs.Messages.{message_of}
use Rattle.count_best_link.specs.BestLink.{Links}
use Rattle.count_links.proofs.Cells.{built_start, built_put}
use Rattle.count_in_record.proofs.Rows.{first-cells}
use Rattle.count_in_record.proofs.Left.{link-small, first-route}
use Rattle.count_in_record.proofs.first_record.Goals as goal

pub route_by-requires : goal.route_by-requires
route_by-requires c = link-small c.args.m.link c.requires.2

pub store_message-requires : goal.store_message-requires
store_message-requires c =
    (simp length-set c.requires.0, omega (arith, c.put_link.auto.out), λ _. c.requires.3)

pub shape_of-row : goal.shape_of-row
shape_of-row c = c.store_message.auto.row ∙ simp length-set

pub returns : goal.returns
returns c κ f =
    let a = c.args in
    let l : ℕ × ℕ = (a.m.link, word_of c.mark-marks.result) in
    let due : Links = l ∷ [] in
    let b = built_put 0 l [] due (omega arith) c.put_link.ensures c.put_link.auto.out (built_start _ link_cells due refl) in
    let e = c.mark-marks.ensures ∙ ap (λ (v : ℕ). mark v 0) c.no_marks.ensures in
    record {
      cells = first-cells κ (message_of a.m a.hna.now) (omega arith) a.address a.row.now _ (omega arith) c.put_link.auto.out e b (sym (length-entries a.hna.now)) c.store_message.ensures;
      route = c.route_by.ensures ∙ first-route κ (message_of a.m a.hna.now) (omega arith) _ _ e f.window;
    }
