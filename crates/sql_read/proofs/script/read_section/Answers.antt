use Rattle.sql_read.proofs.script.read_section.Goals as goal

pub returns : goal.returns
returns c = c.with_line.ensures _ c.statement-found.ensures
