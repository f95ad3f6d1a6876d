use Rattle.std.proofs.Common.{arith, drop, length-append, length-drop, length-take}
use Rattle.mt_outside.proofs.LeftArms.{arm_as, arm_same}
use Rattle.part_reader.proofs.ArmReads.{arm_answered, arm_refused, arm_without_room}
use Rattle.part_reader.proofs.FilePieces.{span_more, span_within}
use Rattle.part_reader.proofs.files.read_span.Goals as goal

pub loop-read-preserved : goal.loop-read-preserved
loop-read-preserved g c =
    let more = c.in_ok-extend_from_slice.ensures in
    let buf = c.read.new.buf in
    let count = c.in_ok-count.count in
    let rest = drop c.min-most.result c.loop-read.piece in
    let long = c.read.auto.buf in
    record {
      read = λ files known.
          span_more (g.R.Dir.Dir.files c.args.dir.now) files c.args.file c.args.span.start _ _ count _ _ buf rest _ known c.in_ok-count.ensures.bytes c.in_ok-count.ensures.bound (omega (arith, c.len-in-loop-read.ensures)) more.len (c.loop-read.invariant.read files known) more.items;
      within = span_within _ _ _ _ _ count _ buf rest more.len c.in_ok-count.ensures.bound (omega (arith, long, length-take c.min-most.result c.loop-read.piece)) c.min-most.ensures c.len.ensures c.loop-read.invariant.within;
      size = c.loop-read.invariant.size;
      arm = arm_answered c.loop-read.invariant.arm c.in_ok-count.ensures.tells c.in_ok-count.ensures.cause.ok;
      room = omega (arith, long, length-take c.min-most.result c.loop-read.piece, length-drop c.min-most.result c.loop-read.piece, length-append buf rest, c.loop-read.invariant.room);
    }

-- what the arm is then
pub returns-in_err-bytes-clause-arm : goal.returns-in_err-bytes-clause-arm
returns-in_err-bytes-clause-arm g c = arm_without_room c.from_residual.result c.from_residual.ensures.1 (arm_same c.args.arm.now)

pub returns-in_err-heap-clause-arm : goal.returns-in_err-heap-clause-arm
returns-in_err-heap-clause-arm g c = arm_without_room c.from_residual-in_err-heap.result c.from_residual-in_err-heap.ensures.1 (arm_same c.args.arm.now)

pub returns-then-most-eq0-clause-arm : goal.returns-then-most-eq0-clause-arm
returns-then-most-eq0-clause-arm g c = arm_as c.loop-read.invariant.arm (λ f. cc) (λ f. absurd f)

pub returns-in_err-count-clause-arm : goal.returns-in_err-count-clause-arm
returns-in_err-count-clause-arm g c =
    let call = c.in_err-count.ensures in
    arm_refused _ c.from_residual-in_err-count.result c.from_residual-in_err-count.ensures.1 c.loop-read.invariant.arm call.tells call.cause

pub returns-then-count-eq0-clause-arm : goal.returns-then-count-eq0-clause-arm
returns-then-count-eq0-clause-arm g c =
    arm_as (arm_answered c.loop-read.invariant.arm c.in_ok-count.ensures.tells c.in_ok-count.ensures.cause.ok) (λ f. cc) (λ f. absurd f)

pub returns-in_err-extend_from_slice-clause-arm : goal.returns-in_err-extend_from_slice-clause-arm
returns-in_err-extend_from_slice-clause-arm g c =
    let full = c.from_residual-in_err-extend_from_slice in
    arm_without_room full.result full.ensures.1 (arm_answered c.loop-read.invariant.arm c.in_ok-count.ensures.tells c.in_ok-count.ensures.cause.ok)

pub returns-clause-arm : goal.returns-clause-arm
returns-clause-arm g c = arm_as c.loop-read.invariant.arm (λ f. cc) (λ f. absurd f)
