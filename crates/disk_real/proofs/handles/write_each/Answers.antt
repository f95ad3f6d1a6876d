use Rattle.std.proofs.Common.{◌∙◌, arith, get_or, subst}
use Rattle.std.proofs.lemmas.List.{take_all}
use Rattle.disk_real.proofs.Opened.{AreEmpty, empty-set, files-set}
use Rattle.disk_real.proofs.handles.write_each.Goals as goal

pub returns-in_err-write_out-clause-same : goal.returns-in_err-write_out-clause-same
returns-in_err-write_out-clause-same c = files-set c.loop-place.files c.loop-place.place c.index-files-place.result c.write_out.new.self (omega arith) ∙ c.loop-place.invariant.same

pub loop-place-preserved : goal.loop-place-preserved
loop-place-preserved c = record {
  same = files-set c.loop-place.files c.loop-place.place c.index-files-place.result c.write_out.new.self (omega arith) ∙ c.loop-place.invariant.same;
  written = empty-set c.loop-place.files c.loop-place.place (get_or c.loop-place.files c.loop-place.place c.index-files-place.result).0 c.write_out.new.self (omega arith) c.loop-place.invariant.written c.in_ok-write_out.ensures.none;
}

pub returns-clause-written : goal.returns-clause-written
returns-clause-written c = subst AreEmpty (take_all c.loop-place.place c.loop-place.files (omega arith)) c.loop-place.invariant.written
