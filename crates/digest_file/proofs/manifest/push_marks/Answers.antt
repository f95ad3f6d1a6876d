use Rattle.std.proofs.Common.{[]}
use Rattle.std.proofs.lemmas.List.Elements.{All-more}
use Rattle.digest_file.specs.Spellings.{IsMark}
use Rattle.digest_file.proofs.Manifests.{marks_written}
use Rattle.digest_file.proofs.manifest.push_marks.Goals as goal

pub loop-file-preserved : goal.loop-file-preserved
loop-file-preserved c = record {
  written = marks_written c.args.bytes.now c.loop-file.bytes c.push_mark.new.bytes c.args.files.now c.loop-file.file-index record { size = 0; digest = [] }
      c.loop-file-test.true c.loop-file.invariant.written c.in_ok-push_mark.ensures.bytes;
  marks = All-more IsMark c.args.files.now c.loop-file.file-index record { size = 0; digest = [] } c.loop-file-test.true c.loop-file.invariant.marks c.in_ok-push_mark.ensures.mark;
}
