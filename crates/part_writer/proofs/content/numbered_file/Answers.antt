use Rattle.std.proofs.Common.{◌≡◌, ◌+◌, ◌-◌, length, sym, ◌∙◌, arith}
use Rattle.part_writer.proofs.Contents.{numbered_column, numbered_skip}
use Rattle.part_writer.proofs.content.numbered_file.Goals as goal

pub returns-then-place-indexes : goal.returns-then-place-indexes
returns-then-place-indexes c = sym (numbered_skip c.args.schema.now c.args.place (omega (arith, c.len-indexes.ensures, c.if-place-indexes.true)))

pub returns : goal.returns
returns c =
    let place : c.args.place ≡ length c.args.schema.now.indexes + (c.args.place - c.len-indexes.result) = omega (arith, c.len-indexes.ensures, c.if-place-indexes.false) in
    c.column_file.ensures ∙ sym (numbered_column c.args.schema.now c.args.place (c.args.place - c.len-indexes.result) place)
