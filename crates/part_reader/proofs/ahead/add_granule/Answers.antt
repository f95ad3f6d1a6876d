use Rattle.std.proofs.Common.{◌≡◌, ◌∙◌, IfSome, ap, inr, length, refl, subst, sym}
use Rattle.std.specs.Option.{option_copied}
use Rattle.part_damage.specs.part_writer.declared.loaded.Loaded.{Loaded}
use Rattle.part_reader.specs.Granules.{ExplainsRun, Gains, IsRunRead, PartColumn, rows_in}
use Rattle.part_reader.specs.Readings.{lone}
use Rattle.part_reader.proofs.AheadBytes.{covered_read}
use Rattle.part_reader.proofs.ChosenColumns.{run_explained}
use Rattle.part_reader.proofs.ahead.add_granule.Goals as goal

-- the bytes are those of the granule
pub returns-in-Ok-clause-read : goal.returns-in-Ok-clause-read
returns-in-Ok-clause-read g c =
    let source = c.args.source.now in
    let column : Loaded → PartColumn = λ l. record { told = g.R.Dir.Dir.files source.part.now.dir; loaded = l; number = c.args.number } in
    let here = column c.deref-loaded.result.now in
    inr (subst (λ (l : Loaded). IsRunRead (column l) (lone c.args.granule) (option_copied c.args.mask) c.args.column.now c.decode.new.column) c.deref-loaded.ensures (record {
      span = c.in-Some.span;
      span_is = c.in-Some.ensures;
      bytes = c.between-bytes.result.now;
      read = covered_read here source.most c.fetch.new.ahead c.in-Some.span c.between-bytes.result.now c.in_ok-fetch.ensures.ahead c.in_ok-fetch.ensures.covered c.between-bytes.ensures;
      gained = subst (λ n. Gains (option_copied c.args.mask) n c.between-bytes.result.now c.args.column.now c.decode.new.column) c.row_count.ensures c.in-Ok.ensures.read;
    }))

pub returns-in-Err-clause-damaged : goal.returns-in-Err-clause-damaged
returns-in-Err-clause-damaged g c =
    let source = c.args.source.now in
    let column : Loaded → PartColumn = λ l. record { told = g.R.Dir.Dir.files source.part.now.dir; loaded = l; number = c.args.number } in
    let here = column c.deref-loaded.result.now in
    let bytes = c.between-bytes.result.now in
    subst (λ (l : Loaded). ExplainsRun (column l) (lone c.args.granule) c.args.column.now.col_type c.misread.result) c.deref-loaded.ensures
    (run_explained here (lone c.args.granule) c.args.column.now.col_type c.in-Some.span c.row_count.result bytes bytes bytes c.in-Err.error c.misread.result c.in-Some.ensures
    (covered_read here source.most c.fetch.new.ahead c.in-Some.span bytes c.in_ok-fetch.ensures.ahead c.in_ok-fetch.ensures.covered c.between-bytes.ensures)
    c.row_count.ensures refl refl c.in-Err.ensures.fault c.misread.ensures)

-- a mask has a place for each row
pub decode-requires : goal.decode-requires
decode-requires g c = subst (λ n. IfSome c.args.mask (λ m. length m.now ≡ n)) (sym (c.row_count.ensures ∙ ap (λ (l : Loaded). rows_in l (lone c.args.granule)) c.deref-loaded.ensures)) c.requires.even
