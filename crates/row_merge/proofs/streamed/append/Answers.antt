use Rattle.std.proofs.Common.{◌≡◌, ◌∙◌, ◌++◌, List, ap, append-nil, arith, length, refl, subst, sym, take}
use Rattle.std.proofs.lemmas.List.{take_all}
use Rattle.mt_values.specs.Schemas.{column_types}
use Rattle.mt_values.specs.Values.{Row, types_of}
use Rattle.mt_values.specs.declared.schema.Schema.{Schema}
use Rattle.part_reader.specs.part_writer.Growing.{HasRows}
use Rattle.row_merge.proofs.Appending.{appended_given, appended_keeps, appended_made, gave_given, gave_keeps, gave_made, holds_at, one_row_more}
use Rattle.row_merge.proofs.streamed.append.Goals as goal

pub loop-row-init : goal.loop-row-init
loop-row-init g c =
    let held = c.args.held.now in record {
      rows = λ done has. subst (HasRows c.args.out.now) (sym (append-nil done)) has;
      table = refl;
      told = refl;
      count = refl;
      made = omega (arith, gave_made (length c.args.rows.now) held c.gave.new.self c.requires.made c.gave.ensures);
      given = gave_given (length c.args.rows.now) held c.gave.new.self c.gave.ensures;
      held = gave_keeps (length c.args.rows.now) held c.gave.new.self (omega arith) c.requires.made c.gave.ensures;
    }

pub push-requires-clause-whole : goal.push-requires-clause-whole
push-requires-clause-whole g c = λ κs within.
    let w = c.requires.whole in
    record { rows = w.rows ++ take c.loop-row.row-index c.args.rows.now; has = c.loop-row.invariant.rows w.rows w.has }

pub push-requires-clause-typed : goal.push-requires-clause-typed
push-requires-clause-typed g c = λ κs within.
    holds_at (λ row. types_of row ≡ column_types c.args.out.now.grown.schema) c.args.rows.now c.loop-row.row-index c.row-item.result (omega arith) c.row-item.is c.requires.typed
    ∙ ap (λ (s : Schema). column_types s) (sym c.loop-row.invariant.table)

pub loop-row-preserved : goal.loop-row-preserved
loop-row-preserved g c =
    let before = c.loop-row.invariant in
    let rows = c.args.rows.now in
    let i = c.loop-row.row-index in record {
      rows = λ done has.
          subst (HasRows c.push.new.self) (one_row_more done rows i c.row-item.result (omega arith) c.row-item.is) (c.in_ok-push.ensures.rows (done ++ take i rows) (before.rows done has));
      table = c.in_ok-push.ensures.schema ∙ before.table;
      told = c.in_ok-push.ensures.told ∙ before.told;
      count = c.in_ok-push.ensures.cause.ok ∙ before.count;
      made = appended_made 1 _ c.loop-row.held c.appended.new.self (omega (arith, before.made)) c.appended.ensures;
      given = appended_given 1 (length rows) c.loop-row.held c.appended.new.self before.given c.appended.ensures;
      held = appended_keeps 1 c.args.held.now c.loop-row.held c.appended.new.self before.held c.appended.ensures;
    }

pub returns-clause-rows : goal.returns-clause-rows
returns-clause-rows g c = λ done has.
    subst (λ (zs : List Row). HasRows c.loop-row.out (done ++ zs)) (take_all c.loop-row.row-index c.args.rows.now (omega arith)) (c.loop-row.invariant.rows done has)

pub returns-clause-grew : goal.returns-clause-grew
returns-clause-grew g c =
    let w = c.requires.whole in
    record {
      whole = record { rows = w.rows ++ take c.loop-row.row-index c.args.rows.now; has = c.loop-row.invariant.rows w.rows w.has };
      table = c.loop-row.invariant.table;
      told = c.loop-row.invariant.told;
    }

pub returns-clause-made : goal.returns-clause-made
returns-clause-made g c = omega (arith, c.loop-row.invariant.made)

pub returns-clause-given : goal.returns-clause-given
returns-clause-given g c = c.loop-row.invariant.given
