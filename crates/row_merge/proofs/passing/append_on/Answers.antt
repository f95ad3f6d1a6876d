use Rattle.std.proofs.Common.{◌∙◌, ◌++◌, arith, length, refl, subst}
use Rattle.std.proofs.lemmas.Result.{on_ok_weaker}
use Rattle.mt_outside.specs.DiskCauses.{HasDiskCause}
use Rattle.row_merge.proofs.Nexts.{counted_stream}
use Rattle.row_merge.proofs.passing.append_on.Goals as goal

pub append-requires-clause-made : goal.append-requires-clause-made
append-requires-clause-made g c = λ κs within. c.requires.on.stream.none_made

-- the rows could not be appended
pub returns-in_err-append-clause-most : goal.returns-in_err-append-clause-most
returns-in_err-append-clause-most g c =
    let i = c.args.inputs.now in
    c.append.ensures.held.within (length i.parts.now) i.schema.now.granularity (c.requires.on.stream.counts c.requires.on.shaped).within

-- they were
pub returns-clause-merges : goal.returns-clause-merges
returns-clause-merges g c = λ rows left done apart has over is_left own.
    c.pass_rows.ensures.merges rows apart (record {
      done = done ++ c.args.kept.now;
      left = left;
      has = c.in_ok-append.ensures.rows done has;
      over = over;
      left_is = record { left_is = is_left.left_is; ready = is_left.ready };
      own = own;
    })

pub returns-clause-cause : goal.returns-clause-cause
returns-clause-cause g c = subst (λ n. HasDiskCause n c.pass_rows.new.out.stage.failed c.pass_rows.result) c.in_ok-append.ensures.cause.ok c.pass_rows.ensures.cause

pub append-requires-clause-whole : goal.append-requires-clause-whole
append-requires-clause-whole g c = λ κs within. c.requires.on.whole

pub pass_rows-requires-clause-on : goal.pass_rows-requires-clause-on
pass_rows-requires-clause-on g c = λ κs within.
    let may = c.requires.on in
    let s = may.stream in
    record {
      stream = counted_stream c.args.inputs.now c.args.stream.now _ s refl s.readers s.ranked c.append.ensures.held c.in_ok-append.ensures.made;
      shaped = may.shaped;
      whole = c.in_ok-append.ensures.grew.whole;
      table = c.in_ok-append.ensures.grew.table ∙ may.table;
    }

pub returns-clause-on : goal.returns-clause-on
returns-clause-on g c =
    on_ok_weaker c.pass_rows.result
    (λ went. let rises = went.rises in record { on = went.on; told = went.told ∙ c.in_ok-append.ensures.grew.told; rises = omega (arith, c.append.ensures.held.most, rises) })
    c.pass_rows.ensures.on
