use Rattle.std.proofs.Common.{◌∙◌, subst, sym}
use Rattle.root_store.specs.Entries.{IsEntryWith}
use Rattle.root_opening.proofs.entries.open_entry.Goals as goal

pub returns-in-Ok-read_schema-clause-only : goal.returns-in-Ok-read_schema-clause-only
returns-in-Ok-read_schema-clause-only g c = λ files schema known holds.
    c.in-Ok-read_schema.ensures.only schema (subst (IsEntryWith c.args.table.now schema) (sym (c.deref.ensures.value ∙ c.in-Ok.ensures.bytes files known)) holds)
