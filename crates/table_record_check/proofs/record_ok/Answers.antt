-- `record_ok` makes the tests of the fields, then of the links' part and of the entries'.
use mathlib.Core.Path.{sym, ap, ◌∙◌}
use mathlib.Core.Bool.{Bool, ◌&&◌, false≢true}
use Rattle.table_record_check.specs.Limits.{links_part_ok, entries_part_ok}
use Rattle.table_record_check.proofs.Checks.{record_tests_lem}
use Rattle.table_record_check.proofs.record_ok.Goals as goal

pub returns-then-not-fields_ok : goal.returns-then-not-fields_ok
returns-then-not-fields_ok c =
    let a = c.args in
    let row = a.row.now in
    record {
      small = λ h. absurd (false≢true h);
      tests = λ κ time d.
          sym (record_tests_lem κ time a.low row
          ∙ ap (λ (t : Bool). t && (links_part_ok κ row && entries_part_ok row)) (sym (c.fields_ok.ensures.tests κ time d) ∙ c.if-not-fields_ok.true));
    }

pub links_part_ok-requires : goal.links_part_ok-requires
links_part_ok-requires c = (c.requires, c.fields_ok.ensures.few (c.if-not-fields_ok.false))

pub entries_part_ok-requires : goal.entries_part_ok-requires
entries_part_ok-requires c = (c.requires, c.fields_ok.ensures.few_entries (c.if-not-fields_ok.false))

pub returns : goal.returns
returns c =
    let a = c.args in
    let row = a.row.now in
    let passed = c.if-not-fields_ok.false in
    record {
      small = λ h. c.fields_ok.ensures.small passed;
      tests = λ κ time d.
          let ls = c.links_part_ok.ensures κ time d in
          let es = c.entries_part_ok.ensures in
          (λ i. ls i && es i) ∙ sym (record_tests_lem κ time a.low row ∙ ap (λ (t : Bool). t && (links_part_ok κ row && entries_part_ok row)) (sym (c.fields_ok.ensures.tests κ time d) ∙ passed));
    }
