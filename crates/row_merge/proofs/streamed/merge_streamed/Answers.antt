use Rattle.std.proofs.Common.{◌∙◌, arith, length, rules, subst, sym}
use Rattle.mt_outside.specs.declared.disk.DiskError.TheVariants as disk
use Rattle.part_reader.proofs.PartWriterContents.{content_length}
use Rattle.part_reader.specs.part_writer.Growing.{HasParts}
use Rattle.row_merge.specs.Held.{IsHeldWithin}
use Rattle.row_merge.proofs.SealedMerges.{explains_any}
use Rattle.row_merge.proofs.Totals.{none_within}
use Rattle.row_merge.proofs.Written.{as_fault, as_none, begin_failed, begun_then, finished, first_says, given_up, sealed_merged, sealed_rows}
use Rattle.row_merge.proofs.streamed.merge_streamed.Goals as goal

pub begin-requires : goal.begin-requires
begin-requires g c =
    let parts : HasParts c.args.schema.now = record { marks = c.requires.marks; indexes = c.requires.indexes; few = omega (arith, content_length c.args.schema.now, c.requires.schema.few, c.requires.schema.few_indexes) } in
    search rules

pub merge_into-requires-clause-held : goal.merge_into-requires-clause-held
merge_into-requires-clause-held g c = λ κs within.
    let size = c.args.schema.now.granularity in
    subst (IsHeldWithin (length c.args.parts.now) size) (sym c.new.ensures) (none_within (length c.args.parts.now) size)

-- no part was begun
pub returns-in-Err-clause-fails : goal.returns-in-Err-clause-fails
returns-in-Err-clause-fails g c =
    let k = c.index-parts-0.result in
    record {
      damaged = first_says g.R.Dir.Dir.files c.args.schema.now c.args.parts.now k c.requires.some c.index-parts-0.is c.from.result (explains_any g.R.Dir.Dir.files c.args.schema.now k.part c.in-Err.error c.from.result c.from.ensures);
      leaves = begin_failed c.args.arm.now c.begin.new.arm c.begin.result c.in-Err.error c.from.result c.in-Err.is c.from.ensures c.begin.ensures.tells c.begin.ensures.cause;
    }

pub returns-in-Err-clause-held : goal.returns-in-Err-clause-held
returns-in-Err-clause-held g c =
    let size = c.args.schema.now.granularity in
    subst (IsHeldWithin (length c.args.parts.now) size) (sym c.new.ensures) (none_within (length c.args.parts.now) size)

-- the parts were not merged, and the part is given up
pub returns-in-Err-merge_into-clause-fails : goal.returns-in-Err-merge_into-clause-fails
returns-in-Err-merge_into-clause-fails g c =
    let b = c.in-Ok.ensures in
    let up = c.give_up.ensures in
    record {
      damaged = c.in-Err-merge_into.ensures.fails.damaged;
      leaves = given_up b.none_failed (begun_then b.tells b.cause.ok c.in-Err-merge_into.ensures.fails.leaves) up.tells up.taken up.none_failed up.later;
    }

-- it could not be finished
pub returns-in-Err-finish_part-clause-fails : goal.returns-in-Err-finish_part-clause-fails
returns-in-Err-finish_part-clause-fails g c =
    let k = c.index-parts-0-in-Err-finish_part.result in
    let b = c.in-Ok.ensures in
    let left = begun_then b.tells b.cause.ok c.in-Ok-merge_into.ensures.fails.leaves in
    record {
      damaged = first_says g.R.Dir.Dir.files c.args.schema.now c.args.parts.now k c.requires.some c.index-parts-0-in-Err-finish_part.is c.from-in-Err-finish_part.result (explains_any g.R.Dir.Dir.files c.args.schema.now k.part c.in-Err-finish_part.error c.from-in-Err-finish_part.result c.from-in-Err-finish_part.ensures);
      leaves = as_fault c.finish_part.result c.in-Err-finish_part.error c.from-in-Err-finish_part.result c.in-Err-finish_part.is c.from-in-Err-finish_part.ensures
          (finished c.finish_part.result b.none_failed left (λ none. none) c.finish_part.ensures.tells c.finish_part.ensures.cause);
    }

-- the part was sealed
pub returns-in-Ok-finish_part-clause-holds : goal.returns-in-Ok-finish_part-clause-holds
returns-in-Ok-finish_part-clause-holds g c = λ tells.
    let out = c.merge_into.new.out in
    let w = c.in-Ok-merge_into.ensures in
    let f = c.in-Ok-finish_part.ensures in
    let told = w.told ∙ c.in-Ok.ensures.told ∙ tells in
    sealed_rows c.args.schema.now out w.whole.rows w.table told w.whole.has c.in-Ok-finish_part.part.sealed.files c.in-Ok-finish_part.part.loaded
    (f.files w.whole.rows w.whole.has) (f.loaded w.whole.rows w.whole.has) (f.encodable w.whole.rows w.whole.has) f.readable

pub returns-in-Ok-finish_part-clause-sealed : goal.returns-in-Ok-finish_part-clause-sealed
returns-in-Ok-finish_part-clause-sealed g c = λ tells partition rows holds parts.
    let out = c.merge_into.new.out in
    let w = c.in-Ok-merge_into.ensures in
    let f = c.in-Ok-finish_part.ensures in
    let told = w.told ∙ c.in-Ok.ensures.told ∙ tells in
    let m = w.merged partition rows holds parts in
    sealed_merged c.args.schema.now out m.done w.table told m.has c.in-Ok-finish_part.part.sealed.files c.in-Ok-finish_part.part.loaded
    (f.files m.done m.has) (f.loaded m.done m.has) (f.encodable m.done m.has) f.readable partition rows m.merged

pub returns-in-Ok-finish_part-clause-none_failed : goal.returns-in-Ok-finish_part-clause-none_failed
returns-in-Ok-finish_part-clause-none_failed g c = c.in-Ok-finish_part.ensures.failed ∙ (c.in-Ok-merge_into.ensures.fails.leaves.calm (λ none. none)).1 ∙ c.in-Ok.ensures.none_failed

pub returns-in-Ok-finish_part-clause-fails : goal.returns-in-Ok-finish_part-clause-fails
returns-in-Ok-finish_part-clause-fails g c =
    let b = c.in-Ok.ensures in
    let left = begun_then b.tells b.cause.ok c.in-Ok-merge_into.ensures.fails.leaves in
    record {
      damaged = tt;
      leaves = as_none c.finish_part.result c.in-Ok-finish_part.part disk.Fault c.in-Ok-finish_part.is (finished c.finish_part.result b.none_failed left (λ none. none) c.finish_part.ensures.tells c.finish_part.ensures.cause);
    }

pub returns-in-Ok-finish_part-clause-reached : goal.returns-in-Ok-finish_part-clause-reached
returns-in-Ok-finish_part-clause-reached g c = c.in-Ok-merge_into.ensures.reached
