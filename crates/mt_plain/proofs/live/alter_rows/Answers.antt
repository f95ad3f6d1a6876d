use Rattle.mt_plain.proofs.Inserting.{alter_changes}
use Rattle.mt_plain.proofs.live.alter_rows.Goals as goal

pub returns-in_ok-change_rows : goal.returns-in_ok-change_rows
returns-in_ok-change_rows c = λ schema. alter_changes c.args.table.now schema c.args.rows.now.items c.args.alter.now _ c.if-eq.ensures c.in_ok-change_rows.ensures
