use Rattle.std.proofs.Common.{[], ◌∙◌}
use Rattle.std.proofs.lemmas.Result.{on_ok_weaker}
use Rattle.mt_outside.proofs.LeftArms.{arm_same}
use Rattle.part_history.proofs.MtModelOwnColumns.{sorting_own}
use Rattle.row_merge.proofs.Opening.{own_inputs}
use Rattle.row_merge.proofs.Written.{arm_alone, both_as, first_says, no_fault}
use Rattle.row_merge.proofs.Failing.{handed_fails}
use Rattle.row_merge.proofs.streamed.merge_into.Goals as goal

-- a part has other columns
pub returns-in_err-check_shapes-clause-fails : goal.returns-in_err-check_shapes-clause-fails
returns-in_err-check_shapes-clause-fails g c =
    handed_fails c.from_residual.result c.in_err-check_shapes.field-0.0 c.from_residual.ensures.1
    c.in_err-check_shapes.ensures.damaged
    (both_as (arm_alone c.args.out.now.stage.failed (arm_same c.args.arm.now)) (λ fault. c.in_err-check_shapes.ensures.no_fault fault) (λ none. absurd none))

-- an allocation failed
pub returns-in_default-clause-fails : goal.returns-in_default-clause-fails
returns-in_default-clause-fails g c = record {
  damaged = first_says g.R.Dir.Dir.files c.args.schema.now c.args.parts.now c.index-parts-0.result c.requires.some c.index-parts-0.is _ tt;
  leaves = both_as (arm_alone c.args.out.now.stage.failed (arm_same c.args.arm.now)) no_fault (λ none. absurd none);
}

pub returns-in_default-open_whole-clause-fails : goal.returns-in_default-open_whole-clause-fails
returns-in_default-open_whole-clause-fails g c = record {
  damaged = first_says g.R.Dir.Dir.files c.args.schema.now c.args.parts.now c.index-parts-0-in_default-open_whole.result c.requires.some c.index-parts-0-in_default-open_whole.is _ tt;
  leaves = both_as (arm_alone c.args.out.now.stage.failed (arm_same c.args.arm.now)) no_fault (λ none. absurd none);
}

-- the parts are read by the plan
pub open_whole-requires-clause-inputs : goal.open_whole-requires-clause-inputs
open_whole-requires-clause-inputs g c = λ κs within. own_inputs _ c.requires.schema c.requires.some (c.as_slice.ensures ∙ c.in-Ok.ensures.sorting) (sorting_own c.args.schema.now c.requires.schema)

pub returns-clause-merged : goal.returns-clause-merged
returns-clause-merged g c = λ partition rows holds parts. c.merge_opened-merged.ensures.merged partition rows holds (c.in-Ok-open_whole.ensures.rows rows holds) parts

pub returns-clause-reached : goal.returns-clause-reached
returns-clause-reached g c = λ small. c.merge_opened-merged.ensures.reached small c.in-Ok-open_whole.ensures.unread

pub merge_opened-merged-requires-clause-on : goal.merge_opened-merged-requires-clause-on
merge_opened-merged-requires-clause-on g c = λ κs within. record { stream = c.in-Ok-open_whole.ensures.stream; shaped = c.in_ok-check_shapes.ensures.own; whole = record { rows = []; has = c.requires.empty }; table = c.requires.table }

pub returns-clause-whole : goal.returns-clause-whole
returns-clause-whole g c = on_ok_weaker c.merge_opened-merged.result (λ on. on.whole) c.merge_opened-merged.ensures.on

pub returns-clause-table : goal.returns-clause-table
returns-clause-table g c = on_ok_weaker c.merge_opened-merged.result (λ on. on.table) c.merge_opened-merged.ensures.on
