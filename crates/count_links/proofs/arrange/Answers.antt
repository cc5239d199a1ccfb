-- Three steps build the goal: the links below this one, this one, and those above, each by what it leaves to come.
use mathlib.Core.Path.{refl}
use mathlib.Core.List.{[], ◌∷◌, ◌++◌}
use Prim.Native.Nat.{ℕ, ◌+◌, ◌*◌, ◌-◌, ◌≤◌}
use native.Mathlib.Omega.{arith}
use lib.ListN.{length, take, drop}
use Rattle.lists.specs.Lists.{keep}
use Rattle.window.specs.Marks.{word_of}
use Rattle.rules.specs.Settings.{link_cells}
use Rattle.count_best_link.specs.BestLink.{moved}
use Rattle.count_links.specs.Links.{stays}
use Rattle.count_links.proofs.Cells.{built_put, arrange_start}
use Rattle.count_links.proofs.arrange.Goals as goal
use Rattle.count_links.proofs.arrange.Goals.{After-put_link-arg-1}

-- the place for this link
put-fits : (c : goal.After-put_link-arg-1) → (c.keep_links-m.result + 1) * link_cells ≤ length c.keep_links-m.new.out
put-fits c = omega (arith, c.keep_links-m.auto.out)

pub returns : goal.returns
returns c =
    let b = c.choose-b in
    let a = c.args in
    let this : ℕ × ℕ = (a.key, word_of a.spot.marks) in
    let rest = keep (stays b.result) (moved a.step (a.n - a.spot.high) (take (length a.part.now - a.spot.high * link_cells) (drop (a.spot.high * link_cells) a.part.now))) ++ [] in
    let start = arrange_start a.out.now a.part.now a.step a.n a.spot.low a.spot.high b.result a.key (word_of a.spot.marks) c.requires.blank (omega arith) (omega arith) in
    record {
      chose = b.ensures;
      marks = refl;
      links =
          c.keep_links-links.ensures.1 [] _
          (built_put c.keep_links-m.result this rest _ (put-fits (goal.at.returns c).After-put_link-arg-1) c.put_link.ensures c.put_link.auto.out (c.keep_links-m.ensures.1 (this ∷ rest) _ start));
    }
