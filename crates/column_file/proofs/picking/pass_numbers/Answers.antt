use Rattle.byte_numbers.proofs.Numbers.{are_bytes}
use Rattle.column_file.proofs.Wanted.{numbers_enough, numbers_fewer}
use Rattle.column_file.proofs.picking.pass_numbers.Goals as goal

pub returns-then-whole-count : goal.returns-then-whole-count
returns-then-whole-count c =
    numbers_fewer c.args.col_type c.args.bytes.now c.args.at c.args.count c.fewest_bytes-size.result c.room_for-whole.result c.fewest_bytes-size.ensures.bytes c.room_for-whole.ensures c.requires.numbers (are_bytes c.args.bytes.now c.type_inv.bytes) c.fewest_bytes-size.ensures.some c.if-whole-count.true

pub returns : goal.returns
returns c =
    numbers_enough c.args.col_type c.args.bytes.now c.args.at c.args.count c.fewest_bytes-size.result c.room_for-whole.result c.fewest_bytes-size.ensures.bytes c.room_for-whole.ensures c.requires.numbers (are_bytes c.args.bytes.now c.type_inv.bytes) c.if-whole-count.false
