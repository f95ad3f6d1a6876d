use Rattle.std.proofs.Common.{length}
use Rattle.run_memory.proofs.Streamed.{places_within}
use Rattle.run_memory.proofs.streaming.all_columns.Goals as goal

pub returns-in-Ok : goal.returns-in-Ok
returns-in-Ok c = places_within c.len-columns.result (length c.args.loaded.now.schema.columns) c.in-Ok.places.items c.in-Ok.ensures c.len-columns.ensures
