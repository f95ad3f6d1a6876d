use Rattle.mt_values.specs.Schemas.{column_types}
use Rattle.primary_marks.proofs.ColumnStarts.{marks_written}
use Rattle.primary_marks.proofs.laws.places_of_rows_are_read.Goals as goal

pub returns : goal.returns
returns c = λ granularity columns schema rows some typed few small. marks_written granularity columns (column_types schema) rows some typed few small
