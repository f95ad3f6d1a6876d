use Rattle.root_opening.proofs.Created.{created_told}
use Rattle.root_opening.proofs.EntryScripts.{told_entry, told_only}
use Rattle.root_store.proofs.EntryReads.{found_as}
use Rattle.root_opening.proofs.entries.read_schema.Goals as goal

pub returns-in-Ok-clause-read : goal.returns-in-Ok-clause-read
returns-in-Ok-clause-read c = told_entry c.schema_of_text.result c.args.table.now c.args.bytes.now c.in-Ok.text.now c.in-Ok.ensures.read c.schema_of_text.ensures

pub returns-in-Ok-clause-only : goal.returns-in-Ok-clause-only
returns-in-Ok-clause-only c = λ schema is. told_only c.schema_of_text.result c.args.table.now c.in-Ok.text.now is.text schema (c.in-Ok.ensures.spelled is.text (record { few = is.few; spelled = is.bytes })) (found_as c.args.table.now is.text schema is.reads) c.schema_of_text.ensures

pub returns-in-Err-clause-only : goal.returns-in-Err-clause-only
returns-in-Err-clause-only c = λ schema is. absurd (c.in-Err.ensures.spelled is.text (record { few = is.few; spelled = is.bytes }))

pub returns-in-Ok-clause-sound : goal.returns-in-Ok-clause-sound
returns-in-Ok-clause-sound c = created_told c.schema_of_text.result c.args.table.now c.in-Ok.text.now c.schema_of_text.ensures
