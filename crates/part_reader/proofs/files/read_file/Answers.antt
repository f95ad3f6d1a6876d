use Rattle.std.proofs.Common.{◌∙◌, arith}
use Rattle.mt_outside.proofs.LeftArms.{arm_as, arm_same}
use Rattle.part_reader.proofs.ArmReads.{arm_answered, arm_refused, arm_without_room}
use Rattle.part_reader.proofs.FilePieces.{piece_more, piece_last}
use Rattle.part_reader.proofs.files.read_file.Goals as goal

pub loop-read-preserved : goal.loop-read-preserved
loop-read-preserved g c = record {
  read = λ files known.
      piece_more (g.R.Dir.Dir.files c.args.dir.now) files c.args.file _ _ _ _ _ _ _ known c.in_ok-count.ensures.bytes c.in_ok-count.ensures.bound c.len.ensures c.in_ok-extend_from_slice.ensures.len (c.loop-read.invariant.read files known) c.in_ok-extend_from_slice.ensures.items;
  arm = arm_answered c.loop-read.invariant.arm c.in_ok-count.ensures.tells c.in_ok-count.ensures.cause.ok;
  room = c.read.auto.buf ∙ c.loop-read.invariant.room;
}

pub returns-then-count-eq0-clause-bytes : goal.returns-then-count-eq0-clause-bytes
returns-then-count-eq0-clause-bytes g c = λ files known.
    piece_last (g.R.Dir.Dir.files c.args.dir.now) files c.args.file _ _ _ _ _ known c.in_ok-count.ensures.bytes c.if-count-eq0.true (omega (arith, c.read.auto.buf, c.loop-read.invariant.room)) c.len.ensures (c.loop-read.invariant.read files known)

-- what the arm is then
pub returns-in_err-heap-clause-arm : goal.returns-in_err-heap-clause-arm
returns-in_err-heap-clause-arm g c = arm_without_room c.from_residual.result c.from_residual.ensures.1 (arm_same c.args.arm.now)

pub returns-in_err-count-clause-arm : goal.returns-in_err-count-clause-arm
returns-in_err-count-clause-arm g c =
    let call = c.in_err-count.ensures in
    arm_refused _ c.from_residual-in_err-count.result c.from_residual-in_err-count.ensures.1 c.loop-read.invariant.arm call.tells call.cause

pub returns-then-count-eq0-clause-arm : goal.returns-then-count-eq0-clause-arm
returns-then-count-eq0-clause-arm g c =
    arm_as (arm_answered c.loop-read.invariant.arm c.in_ok-count.ensures.tells c.in_ok-count.ensures.cause.ok) (λ f. cc) (λ f. absurd f)

pub returns-in_err-extend_from_slice-clause-arm : goal.returns-in_err-extend_from_slice-clause-arm
returns-in_err-extend_from_slice-clause-arm g c =
    let full = c.from_residual-in_err-extend_from_slice in
    arm_without_room full.result full.ensures.1 (arm_answered c.loop-read.invariant.arm c.in_ok-count.ensures.tells c.in_ok-count.ensures.cause.ok)

pub returns-clause-arm : goal.returns-clause-arm
returns-clause-arm g c = arm_as c.loop-read.invariant.arm (λ f. cc) (λ f. absurd f)
