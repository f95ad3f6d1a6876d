-- the files of the columns gone over have grown, and the others are as they were
use Rattle.std.proofs.Common.{◌≡◌, ℕ, ◌<◌, List, All, is_some}
use Rattle.mt_values.specs.Grid.{column_of, picked}
use Rattle.mt_values.specs.Values.{FitsType, Row}
use Rattle.stage_dir.specs.Stages.{IsIntact}
use Rattle.part_writer.specs.Growing.{HasFiles, grown_bytes}
use Rattle.part_writer.specs.PartFiles.{content_ids}
use Rattle.part_writer.proofs.ColumnFiles.{AreGrown, bytes_below}
use Rattle.part_writer.proofs.column_out.write_columns.Given as goal

abbrev pub invariant-loop-number : goal.invariant-loop-number
invariant-loop-number g l =
    let more = picked l.block.rows l.order in
    record {
      names : l.stage.names ≡ content_ids l.schema;
      intact : IsIntact l.stage;
      files : (rows : List Row) → HasFiles l.schema (grown_bytes rows) l.initial.stage → HasFiles l.schema (bytes_below rows more l.number) l.stage;
      grown : AreGrown l.schema.granularity l.number more l.initial.columns l.columns;
      encodable : (c : ℕ) → c < l.number → All FitsType (column_of c more);
      told : is_some l.stage.files ≡ is_some l.initial.stage.files;
      count : l.stage.failed ≡ l.initial.stage.failed;
    }
