use Rattle.std.proofs.Common.{arith, length}
use Rattle.row_merge.proofs.Appending.{appended_given, appended_keeps, appended_made, gave_given, gave_keeps, gave_made}
use Rattle.row_merge.proofs.sink.give.Goals as goal

pub returns-in_err-add_rows-clause-held : goal.returns-in_err-add_rows-clause-held
returns-in_err-add_rows-clause-held g c = gave_keeps (length c.args.rows.now) c.args.held.now c.gave.new.self (omega arith) c.requires.made c.gave.ensures

pub returns-clause-held : goal.returns-clause-held
returns-clause-held g c =
    let n = length c.args.rows.now in
    let held = c.args.held.now in
    appended_keeps n held c.gave.new.self c.appended.new.self (gave_keeps n held c.gave.new.self (omega arith) c.requires.made c.gave.ensures) c.appended.ensures

pub returns-clause-made : goal.returns-clause-made
returns-clause-made g c =
    let n = length c.args.rows.now in
    let few = gave_made n c.args.held.now c.gave.new.self c.requires.made c.gave.ensures in
    omega (arith, appended_made n 0 c.gave.new.self c.appended.new.self (omega (arith, few)) c.appended.ensures)

pub returns-clause-given : goal.returns-clause-given
returns-clause-given g c =
    let n = length c.args.rows.now in
    appended_given n n c.gave.new.self c.appended.new.self (gave_given n c.args.held.now c.gave.new.self c.gave.ensures) c.appended.ensures
