use Rattle.std.proofs.Common.{◌≡◌, ◌<◌, length, ap, ◌∙◌, arith}
use Rattle.part_history.specs.mt_model.Commands.{rows_in}
use Rattle.mt_plain.proofs.OwnRows.{own_fewer, own_typed}
use Rattle.mt_plain.proofs.commands.insert_command.Goals as goal

pub from_rows-requires-clause-typed : goal.from_rows-requires-clause-typed
from_rows-requires-clause-typed c =
    own_typed c.args.schema.now c.args.partition c.args.rows.now c.deref.result.now c.as_slice.result.now c.requires.typed (c.deref.ensures.value ∙ c.in_ok-own.ensures) (c.as_slice.ensures ∙ c.in_ok-types.ensures)

pub from_rows-requires-clause-few : goal.from_rows-requires-clause-few
from_rows-requires-clause-few c =
    let few : length c.args.rows.now < 4294967296 = c.requires.few in
    let is : c.deref.result.now ≡ rows_in c.args.schema.now c.args.partition c.args.rows.now = c.deref.ensures.value ∙ c.in_ok-own.ensures in
    let long : length c.deref.result.now ≡ length (rows_in c.args.schema.now c.args.partition c.args.rows.now) = ap length is in
    omega (arith, own_fewer c.args.schema.now c.args.partition c.args.rows.now)
