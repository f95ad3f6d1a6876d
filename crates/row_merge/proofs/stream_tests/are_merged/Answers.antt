use Rattle.std.proofs.Common.{◌<◌, subst, sym}
use Rattle.row_merge.proofs.TestTables.{has_indexes, has_marks, is_table}
use Rattle.row_merge.proofs.stream_tests.are_merged.Goals as goal

pub is_merged-requires-clause-schema : goal.is_merged-requires-clause-schema
is_merged-requires-clause-schema c = let e = c.in_ok-schema.ensures in is_table c.in_ok-schema.schema e.types e.key e.primary e.indexes c.in-Ok.ensures

pub is_merged-requires-clause-marks : goal.is_merged-requires-clause-marks
is_merged-requires-clause-marks c = let e = c.in_ok-schema.ensures in has_marks c.in_ok-schema.schema e.types e.key e.primary e.indexes (subst (λ n. 0 < n) (sym e.granularity) c.requires)

pub is_merged-requires-clause-indexes : goal.is_merged-requires-clause-indexes
is_merged-requires-clause-indexes c = let e = c.in_ok-schema.ensures in has_indexes c.in_ok-schema.schema e.types e.key e.primary e.indexes
