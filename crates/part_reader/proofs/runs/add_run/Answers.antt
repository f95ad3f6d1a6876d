use Rattle.std.proofs.Common.{◌≡◌, ◌∙◌, IfSome, ap, length, subst, sym}
use Rattle.part_damage.specs.part_writer.declared.loaded.Loaded.{Loaded}
use Rattle.part_reader.specs.Granules.{ExplainsRun, PartColumn, rows_in}
use Rattle.part_reader.proofs.ChosenColumns.{run_explained}
use Rattle.part_reader.proofs.runs.add_run.Goals as goal

pub returns-clause-damaged : goal.returns-clause-damaged
returns-clause-damaged g c =
    let column : Loaded → PartColumn = λ l. record { told = g.R.Dir.Dir.files c.args.part.now.dir; loaded = l; number = c.args.number } in
    subst (λ (l : Loaded). ExplainsRun (column l) c.args.run c.args.column.now.col_type c.misread.result) c.deref-loaded.ensures
    (run_explained (column c.deref-loaded.result.now) c.args.run c.args.column.now.col_type c.in-Some.span c.row_count.result c.in_ok-bytes.bytes.items c.deref.result.now c.deref-in-Err.result.now c.in-Err.error c.misread.result
    c.in-Some.ensures c.in_ok-bytes.ensures.bytes c.row_count.ensures c.deref.ensures.value c.deref-in-Err.ensures.value c.in-Err.ensures.fault c.misread.ensures)

-- a mask has a place for each row
pub decode-requires : goal.decode-requires
decode-requires g c = subst (λ n. IfSome c.args.mask (λ m. length m.now ≡ n)) (sym (c.row_count.ensures ∙ ap (λ (l : Loaded). rows_in l c.args.run) c.deref-loaded.ensures)) c.requires.even
