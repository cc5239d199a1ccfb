-- The interface rows pass exactly where `interfaces_ok` says so: each by itself, and their own addresses differ.
use Rattle.table_settings.proofs.Own.{interfaces_are}
use Rattle.table_settings.proofs.interfaces_ok.Goals as goal

pub returns : goal.returns
returns c =
    let rows = c.interface_rows_ok in
    interfaces_are c.args.cells.now c.requires.used-most rows.result c.own_differ.result rows.ensures c.own_differ.ensures
