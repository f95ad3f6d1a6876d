use Rattle.std.proofs.Common.{arith, ap, length, length-drop, refl}
use Rattle.std.proofs.lemmas.List.{take_rest}
use Rattle.column_file.proofs.TextParts.{too_long, text_begins}
use Rattle.column_file.proofs.cells.first_text.Goals as goal

pub returns-then-count-behind : goal.returns-then-count-behind
returns-then-count-behind c =
    too_long c.in_ok-count.count c.in_ok-count.head c.args.bytes.now c.in_ok-count.ensures
    (omega (arith, length-drop c.in_ok-count.head c.args.bytes.now, ap length (take_rest c.args.bytes.now c.in_ok-count.head)))

pub returns : goal.returns
returns c =
    ((refl, tt), text_begins c.in_ok-count.count c.in_ok-count.head c.args.bytes.now _ c.in_ok-count.ensures (take_rest c.args.bytes.now c.in_ok-count.head) c.if-count-behind.false)
