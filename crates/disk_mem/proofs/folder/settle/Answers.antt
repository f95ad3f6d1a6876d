use Rattle.std.proofs.Common.{ap, ◌∙◌, sym, arith}
use Rattle.mt_base.specs.Files.{same_file}
use Rattle.mt_outside.specs.declared.disk.Written.{Written}
use Rattle.mt_outside.specs.Files.{settled_file}
use Rattle.disk_mem.proofs.FirstFile.{settle_at}
use Rattle.disk_mem.proofs.folder.settle.Goals as goal

pub returns-then-is : goal.returns-then-is
returns-then-is c =
    let seen = c.index-files-place in
    let written = c.index-files-place-then-is in
    rw (← written.is) (
    settle_at c.loop-place.files c.loop-place.place c.args.file seen.result written.result (omega arith) seen.is written.is
    (ap (λ (w : Written). same_file w.file c.args.file) seen.is ∙ (sym c.is.ensures ∙ c.if-is.true)) c.loop-place.invariant.passed
    ∙ ap (settled_file c.args.file) c.loop-place.invariant.same
    )
