use Rattle.std.proofs.Common.{ap, ◌∙◌, sym, arith, Vec}
use Rattle.std.specs.declared.alloc.Global.{Global}
use Rattle.mt_outside.specs.declared.disk.Written.{Written}
use Rattle.mt_outside.specs.Files.{appended}
use Rattle.disk_mem.proofs.FirstFile.{append_at}
use Rattle.disk_mem.proofs.folder.append_to.Goals as goal

pub returns-then-is : goal.returns-then-is
returns-then-is c =
    append_at c.loop-place.files.items c.loop-place.place c.args.file c.args.bytes.now c.extend.new.self c.index.result.now c.index_mut-written.result.now (omega arith)
    c.index.ensures c.index_mut-written.ensures.value (sym c.is.ensures ∙ c.if-is.true) c.in_ok-extend.ensures.ok c.loop-place.invariant.passed
    ∙ ap (λ (v : Vec Written Global). appended c.args.file c.args.bytes.now v.items) c.loop-place.invariant.same
