use Rattle.std.proofs.Common.{◌∙◌, arith}
use Rattle.std.proofs.lemmas.List.{take_rest}
use Rattle.data_lines.proofs.Sections.{inserted_said, inserted_whole, inserted_part}
use Rattle.data_lines.proofs.section.inserted.Goals as goal
use Rattle.data_lines.proofs.section.inserted.Goals.{then-len-behind, else-len-behind}

pub returns-clause-said : goal.returns-clause-said
returns-clause-said c =
    inserted_said c.args.text.now c.args.behind.now c.line_len-len.result c.min-start.result _ c.data_extent-data.result
    c.line_len-len.ensures.value c.min-start.ensures (rw take_rest at c.data_extent-data.ensures.«data») (omega arith)

pub returns-clause-whole : goal.returns-clause-whole
returns-clause-whole c =
    let closed = rw take_rest at c.data_extent-data.ensures.closed in
    elim c.if-len-behind.branch [
      | then-len-behind w ↦
          w.result-is ∙ inserted_whole c.args.behind.now c.line_len-len.result c.min-start.result c.data_extent-data.result.closed c.line_len-len.ensures.value c.min-start.ensures closed w.if-len-behind.true
      | else-len-behind w ↦
          w.result-is ∙ inserted_part c.args.behind.now c.line_len-len.result c.min-start.result c.data_extent-data.result.closed c.line_len-len.ensures.value c.min-start.ensures closed w.if-len-behind.false
    ]
