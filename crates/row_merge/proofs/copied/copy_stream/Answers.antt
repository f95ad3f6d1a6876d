use Rattle.std.proofs.Common.{◌≡◌, length, refl, subst, sym}
use Rattle.std.specs.List.{range_with_len}
use Rattle.mt_outside.proofs.LeftArms.{arm_same}
use Rattle.row_merge.proofs.Copies.{copying_begins}
use Rattle.row_merge.proofs.Written.{arm_alone, both_then}
use Rattle.row_merge.proofs.Failing.{handed_fails}
use Rattle.row_merge.proofs.GoingOn.{on_same, on_then}
use Rattle.row_merge.proofs.copied.copy_stream.Goals as goal

pub rows-init : goal.rows-init
rows-init g c =
    let i = c.args.inputs.now in
    record {
      on = on_same c.requires.on;
      order = subst (λ xs. xs ≡ range_with_len 0 (length xs)) (sym c.new-order.ensures.items) refl;
      copying = λ partition rows holds left parts. copying_begins i rows partition c.args.stream.now c.args.out.now c.requires.on.stream.inputs.places_are left parts c.requires.empty;
      leaves = arm_alone c.args.out.now.stage.failed (arm_same c.args.arm.now);
    }

-- a part could not be read or written
pub returns-in_err-copy_next-clause-fails : goal.returns-in_err-copy_next-clause-fails
returns-in_err-copy_next-clause-fails g c =
    handed_fails c.from_residual.result c.in_err-copy_next.field-0.0 c.from_residual.ensures.1
    c.in_err-copy_next.ensures.fails.damaged
    (both_then c.rows.invariant.leaves (λ none. none) c.in_err-copy_next.ensures.fails.leaves)

-- some were copied
pub rows-preserved : goal.rows-preserved
rows-preserved g c =
    let before = c.rows.invariant in
    let now = c.in_ok-copy_next.ensures in
    record {
      on = on_then before.on now.on;
      order = now.order;
      copying = λ partition rows holds left parts. (now.copies rows holds (before.copying partition rows holds left parts)).on c.if-branch.true;
      leaves = both_then before.leaves (λ none. none) now.fails.leaves;
    }

-- all were
pub returns-clause-merged : goal.returns-clause-merged
returns-clause-merged g c = λ partition rows holds left parts.
    (c.in_ok-copy_next.ensures.copies rows holds (c.rows.invariant.copying partition rows holds left parts)).ended c.if-branch.false

pub returns-clause-idle : goal.returns-clause-idle
returns-clause-idle g c = record {
  read = c.in_ok-copy_next.ensures.idle c.if-branch.false;
  made = c.in_ok-copy_next.ensures.on.on.stream.none_made;
}

pub returns-clause-fails : goal.returns-clause-fails
returns-clause-fails g c = record {
  damaged = tt;
  leaves = both_then c.rows.invariant.leaves (λ none. none) c.in_ok-copy_next.ensures.fails.leaves;
}

pub copy_next-requires-clause-on : goal.copy_next-requires-clause-on
copy_next-requires-clause-on g c = λ κs within. c.rows.invariant.on.on

pub returns-clause-on : goal.returns-clause-on
returns-clause-on g c = on_then c.rows.invariant.on c.in_ok-copy_next.ensures.on
