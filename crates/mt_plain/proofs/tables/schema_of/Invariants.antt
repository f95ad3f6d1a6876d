-- what is left of the entries decides
use Rattle.std.proofs.Common.{◌≡◌, drop}
use Rattle.part_history.specs.mt_model.History.{schema_of}
use Rattle.mt_plain.proofs.tables.schema_of.Given as goal

abbrev pub invariant-loop-entry : goal.invariant-loop-entry
invariant-loop-entry l = schema_of l.table (drop l.entry-index l.entries) ≡ schema_of l.table l.entries
