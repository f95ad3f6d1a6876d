use Rattle.std.proofs.Common.{◌∙◌, ap, arith, refl, sym}
use Rattle.disk_real.proofs.Opened.{files-set, files_in, left_more, none_left}
use Rattle.disk_real.proofs.handles.append_among.Goals as goal

pub loop-place-init : goal.loop-place-init
loop-place-init c = record { same = refl; left = c.requires }

pub returns-then-is : goal.returns-then-is
returns-then-is c = files-set c.loop-place.files c.loop-place.place c.index-files-place-then-is.result c.push.new.self (omega arith) ∙ ap files_in c.loop-place.invariant.same

pub loop-place-preserved : goal.loop-place-preserved
loop-place-preserved c = record {
  same = c.loop-place.invariant.same;
  left = left_more c.args.file c.loop-place.files c.loop-place.place c.index-files-place.result (omega arith) (sym c.is.ensures ∙ c.if-is.false) c.loop-place.invariant.left;
}

pub unreachable-requires : goal.unreachable-requires
unreachable-requires c = none_left c.args.file c.loop-place.files c.loop-place.place (omega arith) c.loop-place.invariant.left
