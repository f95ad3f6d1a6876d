use Rattle.std.proofs.Common.{◌<◌, ◌^◌, List, ap, arith, length, subst, sym, ◌∙◌}
use Rattle.mt_values.specs.Grid.{AreRowsOf}
use Rattle.mt_values.specs.Schemas.{column_types}
use Rattle.mt_values.specs.Values.{Row}
use Rattle.mt_values.specs.declared.block.Block.{Block}
use Rattle.run_memory.proofs.streaming.merged_whole.Goals as goal

pub from_rows-requires-clause-typed : goal.from_rows-requires-clause-typed
from_rows-requires-clause-typed c =
    let own = subst (AreRowsOf (column_types c.args.schema.now)) (sym c.deref.ensures.value) (c.in_ok-rows.ensures.typed c.requires.typed) in
    subst (λ types. AreRowsOf types c.deref.result.now) (sym (c.as_slice.ensures ∙ c.in_ok-types.ensures)) own

pub from_rows-requires-clause-few : goal.from_rows-requires-clause-few
from_rows-requires-clause-few c = subst (λ (rows : List Row). length rows < 2 ^ 32) (sym c.deref.ensures.value) (omega (arith, c.len-count.ensures))

pub part_of-requires-clause-types : goal.part_of-requires-clause-types
part_of-requires-clause-types c = ap (λ (b : Block). b.types) c.in_ok-block.ensures ∙ c.as_slice.ensures ∙ c.in_ok-types.ensures
