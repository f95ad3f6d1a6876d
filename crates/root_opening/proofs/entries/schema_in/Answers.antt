use Rattle.root_opening.proofs.EntryScripts.{read_alone}
use Rattle.root_opening.proofs.entries.schema_in.Goals as goal

pub returns-in-Found : goal.returns-in-Found
returns-in-Found c =
    read_alone c.schema_alone.result c.args.table.now c.args.text.now c.args.script.now c.in-Found.used c.in-Found.statement c.in-Found.ensures.found.0 c.schema_alone.ensures
