use Rattle.std.proofs.Common.{subst}
use Rattle.part_damage.specs.part_writer.declared.loaded.Loaded.{Loaded}
use Rattle.part_reader.specs.Faults.{ExplainsColumn}
use Rattle.part_reader.proofs.Holding.{column_explained}
use Rattle.part_reader.proofs.reading.read_column.Goals as goal

pub returns-clause-damaged : goal.returns-clause-damaged
returns-clause-damaged g c =
    let told = g.R.Dir.Dir.files c.args.part.now.dir in
    subst (λ (l : Loaded). ExplainsColumn told l c.args.number c.args.column.now.col_type c.misread.result) c.deref-loaded.ensures
    (column_explained told c.deref-loaded.result.now c.args.number c.args.column.now.col_type c.in_ok-bytes.bytes.items c.deref.result.now c.deref-in-Err.result.now c.in-Err.error c.misread.result
    c.in_ok-bytes.ensures.bytes c.deref.ensures.value c.deref-in-Err.ensures.value c.in-Err.ensures.fault c.misread.ensures)
