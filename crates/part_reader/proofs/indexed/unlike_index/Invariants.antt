-- the skip indexes gone over are those of the values
use Rattle.std.proofs.Common.{ℕ, ◌<◌, List}
use Rattle.mt_values.specs.declared.value.Value.{Value}
use Rattle.part_damage.specs.column_file.Spellings.{IsSpelling}
use Rattle.part_reader.specs.Compared.{HasIndexOf}
use Rattle.part_reader.proofs.indexed.unlike_index.Given as goal

abbrev pub invariant-loop-place : goal.invariant-loop-place
invariant-loop-place l = (values : List Value) → IsSpelling l.column.col_type l.column.count l.column.bytes.now values → (i : ℕ) → i < l.place → HasIndexOf l.schema l.loaded l.column.number values i
