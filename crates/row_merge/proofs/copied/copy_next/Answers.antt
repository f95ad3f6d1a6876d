use Rattle.std.proofs.Common.{◌≡◌, ◌≤◌, ◌∙◌, ◌++◌, arith, false, length, refl, subst, sym, true}
use Rattle.mt_outside.proofs.LeftArms.{arm_same}
use Rattle.part_reader.specs.part_writer.Growing.{HasRows}
use Rattle.row_merge.specs.declared.heads.Cursor.{Cursor}
use Rattle.row_merge.specs.Copies.{MayTakeSome, TakesSome}
use Rattle.row_merge.specs.Stretches.{rows_between}
use Rattle.row_merge.proofs.Copies.{copied_all, copied_on, read_cursor}
use Rattle.row_merge.proofs.Explaining.{stream_says}
use Rattle.row_merge.proofs.SealedMerges.{explains_any}
use Rattle.row_merge.proofs.Written.{arm_alone, both_as, both_then, first_says, no_fault, stage_alone, stage_failed}
use Rattle.row_merge.proofs.Failing.{handed_fails}
use Rattle.row_merge.proofs.copied.copy_next.Goals as goal

clash : false ≡ true → ⊥
clash e = cc

clash_too : true ≡ false → ⊥
clash_too e = cc

-- an allocation failed
pub returns-in_default-clause-fails : goal.returns-in_default-clause-fails
returns-in_default-clause-fails g c =
    let i = c.args.inputs.now in
    record {
      damaged = first_says g.R.Dir.Dir.files i.schema.now i.parts.now c.index-inputs-0.result c.requires.on.stream.inputs.some c.index-inputs-0.is _ tt;
      leaves = both_as (arm_alone c.args.out.now.stage.failed (arm_same c.args.arm.now)) no_fault (λ none. absurd none);
    }

-- no row is left
pub returns-in_default-found-clause-copies : goal.returns-in_default-found-clause-copies
returns-in_default-found-clause-copies g c = λ rows holds on.
    let i = c.args.inputs.now in
    let old = c.args.stream.now in
    let none = subst (MayTakeSome i old c.take_some.new.stream) c.in_default-found.is c.in-Ok.ensures.takes in
    record { on = λ e. absurd (clash e); ended = λ _. copied_all i.places.now rows old c.args.out.now on none.none }

pub returns-in_default-found-clause-idle : goal.returns-in_default-found-clause-idle
returns-in_default-found-clause-idle g c = λ ended. (subst (MayTakeSome c.args.inputs.now c.args.stream.now c.take_some.new.stream) c.in_default-found.is c.in-Ok.ensures.takes).idle c.requires.on.shaped

pub returns-in_ok-read_on-in-Ok-copy_rows-clause-idle : goal.returns-in_ok-read_on-in-Ok-copy_rows-clause-idle
returns-in_ok-read_on-in-Ok-copy_rows-clause-idle g c = λ e. absurd (clash_too e)

-- rows are copied
pub copy_rows-requires-clause-within : goal.copy_rows-requires-clause-within
copy_rows-requires-clause-within g c κs within =
    let i = c.args.inputs.now in
    let mid = c.take_some.new.stream in
    let own = c.in-Some.own in
    let t : TakesSome i c.args.stream.now mid own = subst (MayTakeSome i c.args.stream.now mid) c.in-Some.is c.in-Ok.ensures.takes in
    let same = read_cursor mid.cursors.items own.input t.cursor c.index.result.now t.there c.index.ensures in
    subst (λ (x : Cursor). own.to ≤ length x.block.rows) (sym same) t.within

-- the part could not be read on
pub returns-in_err-read_on-in-Ok-copy_rows-clause-fails : goal.returns-in_err-read_on-in-Ok-copy_rows-clause-fails
returns-in_err-read_on-in-Ok-copy_rows-clause-fails g c =
    let files = g.R.Dir.Dir.files in
    let i = c.args.inputs.now in
    let e = c.in_err-read_on-in-Ok-copy_rows in
    handed_fails c.from_residual.result e.field-0.0 c.from_residual.ensures.1
    (stream_says files i e.field-0.0 c.take_some.new.stream.readers.items c.in-Ok.ensures.stream.readers e.ensures.fails.damaged)
    (both_then (stage_alone c.args.arm.now c.args.out.now.stage.failed c.copy_rows.new.out.stage.failed ⊥ c.copy_rows.ensures.cause.later (λ f. absurd f) (λ none. c.in-Ok-copy_rows.ensures.cause.ok)) (λ none. none)
    (arm_alone c.copy_rows.new.out.stage.failed e.ensures.fails.leaves))

-- it was
pub returns-in_ok-read_on-in-Ok-copy_rows-clause-copies : goal.returns-in_ok-read_on-in-Ok-copy_rows-clause-copies
returns-in_ok-read_on-in-Ok-copy_rows-clause-copies g c = λ rows holds on.
    let i = c.args.inputs.now in
    let old = c.args.stream.now in
    let mid = c.take_some.new.stream in
    let own = c.in-Some.own in
    let t : TakesSome i old mid own = subst (MayTakeSome i old mid) c.in-Some.is c.in-Ok.ensures.takes in
    let same = read_cursor mid.cursors.items own.input t.cursor c.index.result.now t.there c.index.ensures in
    let has = subst (λ (x : Cursor). HasRows c.copy_rows.new.out (on.done ++ rows_between own.from own.to x.block.rows)) same (c.in-Ok-copy_rows.ensures.rows on.done on.has) in
    record {
      on = λ _. copied_on i rows old mid c.read_on.new.stream own t c.take_some.ensures.readers (c.in_ok-read_on-in-Ok-copy_rows.ensures.rows rows holds) c.args.out.now c.copy_rows.new.out on has;
      ended = λ e. absurd (clash_too e);
    }

pub returns-in_ok-read_on-in-Ok-copy_rows-clause-most : goal.returns-in_ok-read_on-in-Ok-copy_rows-clause-most
returns-in_ok-read_on-in-Ok-copy_rows-clause-most g c = c.in_ok-read_on-in-Ok-copy_rows.ensures.most c.requires.on.shaped

pub returns-in_ok-read_on-in-Ok-copy_rows-clause-fails : goal.returns-in_ok-read_on-in-Ok-copy_rows-clause-fails
returns-in_ok-read_on-in-Ok-copy_rows-clause-fails g c = record {
  damaged = tt;
  leaves = both_then (stage_alone c.args.arm.now c.args.out.now.stage.failed c.copy_rows.new.out.stage.failed ⊥ c.copy_rows.ensures.cause.later (λ f. absurd f) (λ none. c.in-Ok-copy_rows.ensures.cause.ok)) (λ none. none)
      (arm_alone c.copy_rows.new.out.stage.failed c.in_ok-read_on-in-Ok-copy_rows.ensures.fails.leaves);
}

-- the rows could not be written
pub returns-in-Err-clause-fails : goal.returns-in-Err-clause-fails
returns-in-Err-clause-fails g c =
    let files = g.R.Dir.Dir.files in
    let i = c.args.inputs.now in
    let k = c.index-inputs-0-in-Err.result in
    record {
      damaged = first_says files i.schema.now i.parts.now k c.requires.on.stream.inputs.some c.index-inputs-0-in-Err.is c.from.result (explains_any files i.schema.now k.part c.in-Err.error c.from.result c.from.ensures);
      leaves = stage_failed c.args.arm.now c.args.out.now.stage.failed c.copy_rows.new.out.stage.failed c.copy_rows.result c.in-Err.error c.from.result c.in-Err.is c.from.ensures c.copy_rows.ensures.cause;
    }

pub returns-in_default-found-clause-fails : goal.returns-in_default-found-clause-fails
returns-in_default-found-clause-fails g c = record {
  damaged = tt;
  leaves = arm_alone c.args.out.now.stage.failed (arm_same c.args.arm.now);
}

pub take_some-requires-clause-stream : goal.take_some-requires-clause-stream
take_some-requires-clause-stream g c = λ κs within. c.requires.on.stream

pub returns-in_default-found-clause-on : goal.returns-in_default-found-clause-on
returns-in_default-found-clause-on g c =
    let may = c.requires.on in
    record { on = record { stream = c.in-Ok.ensures.stream; shaped = may.shaped; whole = may.whole; table = may.table }; told = refl; rises = c.in-Ok.ensures.rises }

pub copy_rows-requires-clause-whole : goal.copy_rows-requires-clause-whole
copy_rows-requires-clause-whole g c = λ κs within. c.requires.on.whole

pub returns-in_ok-read_on-in-Ok-copy_rows-clause-on : goal.returns-in_ok-read_on-in-Ok-copy_rows-clause-on
returns-in_ok-read_on-in-Ok-copy_rows-clause-on g c =
    let copied = c.in-Ok-copy_rows.ensures.grew in
    let read = c.in_ok-read_on-in-Ok-copy_rows.ensures in
    record {
      on = record { stream = read.stream; shaped = c.requires.on.shaped; whole = copied.whole; table = copied.table ∙ c.requires.on.table };
      told = copied.told;
      rises = omega (arith, c.in-Ok.ensures.rises, read.rises);
    }

pub returns-in_default-clause-most : goal.returns-in_default-clause-most
returns-in_default-clause-most g c = c.take_some.ensures.most c.requires.on.shaped

pub returns-in_default-found-clause-most : goal.returns-in_default-found-clause-most
returns-in_default-found-clause-most g c = c.take_some.ensures.most c.requires.on.shaped

pub returns-in-Err-clause-most : goal.returns-in-Err-clause-most
returns-in-Err-clause-most g c = c.take_some.ensures.most c.requires.on.shaped

pub returns-in_err-read_on-in-Ok-copy_rows-clause-most : goal.returns-in_err-read_on-in-Ok-copy_rows-clause-most
returns-in_err-read_on-in-Ok-copy_rows-clause-most g c = c.read_on.ensures.most c.requires.on.shaped
