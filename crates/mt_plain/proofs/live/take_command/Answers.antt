use Rattle.std.proofs.Common.{rules}
use Rattle.mt_plain.proofs.live.take_command.Goals as goal

pub returns-in-Alter : goal.returns-in-Alter
returns-in-Alter c = let given = c.alter_rows.ensures c.args.schema.now in search (rules, given)
