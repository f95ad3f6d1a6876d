use Rattle.std.proofs.Common.{Option, subst, sym, arith}
use Rattle.mt_values.specs.declared.manifest.FileMark.{FileMark}
use Rattle.part_reader.specs.declared.reading.PartFault.TheVariants.{Damaged}
use Rattle.part_reader.specs.declared.reading.TheConstants.{NO_MARK}
use Rattle.part_reader.specs.Faults.{ExplainsFile}
use Rattle.part_reader.proofs.LongerFiles.{longer_told}
use Rattle.part_reader.proofs.files.read_marked.Goals as goal

pub returns-then-branch-gt0-clause-damaged : goal.returns-then-branch-gt0-clause-damaged
returns-then-branch-gt0-clause-damaged g c =
    let told = g.R.Dir.Dir.files c.args.dir.now in
    subst (λ (o : Option FileMark). ExplainsFile told o c.args.file (λ bytes place. ⊥) (Damaged c.args.file 0 c.in-Some.wanted NO_MARK)) (sym c.in-Some.is)
    (longer_told told c.args.file c.in-Some.wanted c.in_ok-read.field-0 c.read.new.buf c.in_ok-read.ensures.bytes (omega (arith, c.if-branch-gt0.true)))
