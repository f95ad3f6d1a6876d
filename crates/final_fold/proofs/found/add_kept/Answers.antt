use Rattle.std.proofs.Common.{◌≡◌, ◌∙◌, ◌+◌, List, All, ap, arith, filter, length, map, subst, sym, take, true}
use Rattle.std.proofs.lemmas.List.{length_push, take_all}
use Rattle.std.proofs.lemmas.List.Elements.{All-filter, All-take}
use Rattle.mt_values.specs.Grid.{Cells}
use Rattle.mt_values.specs.Schemas.{column_types}
use Rattle.mt_values.specs.Tests.{eval}
use Rattle.mt_values.specs.Values.{Row, types_of}
use Rattle.row_merge.specs.part_reader.Parts.{with_columns}
use Rattle.final_fold.specs.Matches.{matching}
use Rattle.final_fold.proofs.RowValues.{match_added, passed, row_types, row_within, rows_reach, with_even, with_none, with_types}
use Rattle.final_fold.proofs.Scanning.{have_many}
use Rattle.final_fold.proofs.found.add_kept.Goals as goal

pub loop-row-init : goal.loop-row-init
loop-row-init c =
    let w = c.args.wanted.now in
    let wide = have_many w.schema.now w.places.now c.args.columns.now c.requires.wanted.places c.requires.columns in
    record { values = sym (with_none w.places.now c.args.columns.now wide); counted = omega arith; few = omega arith }

pub add_row-requires-clause-within : goal.add_row-requires-clause-within
add_row-requires-clause-within c =
    let w = c.args.wanted.now in
    row_within w.schema.now w.places.now c.requires.wanted.places c.row-item.result (ap types_of c.row-item.is ∙ c.requires.typed c.loop-row.row-index c.row-item.result c.loop-row-test.true)

pub add_row-requires-clause-columns : goal.add_row-requires-clause-columns
add_row-requires-clause-columns c =
    let w = c.args.wanted.now in
    let wide = have_many w.schema.now w.places.now c.args.columns.now c.requires.wanted.places c.requires.columns in
    let found = matching w.condition.now (take c.loop-row.row-index c.args.rows.now) in
    row_types w.schema.now w.places.now c.requires.wanted.places c.row-item.result (ap types_of c.row-item.is ∙ c.requires.typed c.loop-row.row-index c.row-item.result c.loop-row-test.true) c.loop-row.columns
    (ap (map (λ (x : Cells). x.col_type)) c.loop-row.invariant.values ∙ with_types found w.places.now c.args.columns.now wide ∙ c.requires.columns)

pub loop-row-preserved : goal.loop-row-preserved
loop-row-preserved c =
    let w = c.args.wanted.now in
    let f = eval w.condition.now in
    let rows = c.args.rows.now in
    let i = c.loop-row.row-index in
    let row = c.row-item.result in
    let met : f row ≡ true = sym c.eval.ensures ∙ c.if-not-eval.false in
    record {
      values = match_added f rows i row c.loop-row-test.true c.row-item.is w.places.now c.args.columns.now c.loop-row.columns c.add_row.new.columns met c.loop-row.invariant.values c.in_ok-add_row.ensures;
      counted = ap (λ n. n + 1) c.loop-row.invariant.counted ∙ sym (ap length (passed f rows i row c.loop-row-test.true c.row-item.is met) ∙ length_push (filter f (take i rows)) row);
      few = omega (arith, c.loop-row.invariant.few);
    }

pub returns-clause-values : goal.returns-clause-values
returns-clause-values c =
    let w = c.args.wanted.now in
    c.loop-row.invariant.values ∙ ap (λ (rs : List Row). with_columns (matching w.condition.now rs) w.places.now c.args.columns.now) (take_all c.loop-row.row-index c.args.rows.now c.loop-row-test.false)

pub returns-clause-counted : goal.returns-clause-counted
returns-clause-counted c =
    let w = c.args.wanted.now in
    c.loop-row.invariant.counted ∙ ap (λ (rs : List Row). length (matching w.condition.now rs)) (take_all c.loop-row.row-index c.args.rows.now c.loop-row-test.false)

pub returns-clause-even : goal.returns-clause-even
returns-clause-even c = λ n even.
    let w = c.args.wanted.now in
    let types = column_types w.schema.now in
    let i = c.loop-row.row-index in
    let wide = have_many w.schema.now w.places.now c.args.columns.now c.requires.wanted.places c.requires.columns in
    let found = matching w.condition.now (take i c.args.rows.now) in
    let own = All-filter (eval w.condition.now) (λ row. types_of row ≡ types) (take i c.args.rows.now) (All-take (λ row. types_of row ≡ types) i c.args.rows.now c.requires.typed) in
    subst (λ m. All (λ (x : Cells). length x.values ≡ n + m) c.loop-row.columns) (sym c.loop-row.invariant.counted)
    (subst (All (λ (x : Cells). length x.values ≡ n + length found)) (sym c.loop-row.invariant.values)
    (with_even found n w.places.now c.args.columns.now wide (rows_reach w.schema.now w.places.now c.requires.wanted.places found own) even))

pub returns-clause-types : goal.returns-clause-types
returns-clause-types c =
    let w = c.args.wanted.now in
    let wide = have_many w.schema.now w.places.now c.args.columns.now c.requires.wanted.places c.requires.columns in
    ap (map (λ (x : Cells). x.col_type)) c.loop-row.invariant.values ∙ with_types (matching w.condition.now (take c.loop-row.row-index c.args.rows.now)) w.places.now c.args.columns.now wide
