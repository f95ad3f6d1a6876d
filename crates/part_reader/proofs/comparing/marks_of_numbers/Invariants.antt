-- the granules gone over begin where those of the numbers do, and with their values
use Rattle.std.proofs.Common.{◌≡◌, List}
use Rattle.part_damage.specs.column_file.Spellings.{IsSpelling}
use Rattle.mt_values.specs.declared.value.Value.{Value}
use Rattle.part_reader.proofs.NumberMarks.{AreStarted}
use Rattle.part_reader.proofs.comparing.marks_of_numbers.Given as goal

abbrev pub invariant-loop-granule : goal.invariant-loop-granule
invariant-loop-granule l = record {
  col_type : l.found.firsts.col_type ≡ l.col_type;
  started : (values : List Value) → IsSpelling l.col_type l.count l.bytes values → AreStarted l.granularity values l.granule l.found;
}
