use Rattle.std.proofs.Common.{◌*◌, take, ap, ◌∙◌}
use Rattle.std.proofs.lemmas.List.{take_rest}
use Rattle.digest_file.proofs.Manifests.{marks_more}
use Rattle.digest_file.proofs.manifest.marks.Goals as goal

pub loop-place-preserved : goal.loop-place-preserved
loop-place-preserved c =
    marks_more c.args.bytes.now c.loop-place.place c.loop-place.files c.push.new.self c.first_mark.result c.loop-place.invariant c.in_ok-push.ensures.ok c.first_mark.ensures.mark
    (c.first_mark.ensures.bytes ∙ ap (take 40) (take_rest c.args.bytes.now (40 * c.loop-place.place)))
