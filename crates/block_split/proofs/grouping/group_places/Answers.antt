use Rattle.std.proofs.Common.{◌≡◌, ◌<◌, ◌≤◌, ◌^◌, ◌+◌, [], All, Some, length, map, take, get_or, slice_get, sym, ap, ◌∙◌, subst, arith}
use Rattle.std.proofs.lemmas.List.{take_all, take_more}
use Rattle.std.proofs.lemmas.List.Elements.{All-nil, All-weaker}
use Rattle.std.proofs.lemmas.Option.{slice_get-get_or}
use Rattle.mt_values.specs.Cells.{value_of}
use Rattle.mt_values.specs.Grid.{column_of}
use Rattle.mt_values.proofs.OrderBy.{length_column}
use Rattle.block_split.specs.declared.grouping.Group.{Group}
use Rattle.block_split.specs.Groups.{group_rows, placed}
use Rattle.block_split.specs.Split.{split_rows}
use Rattle.block_split.proofs.Placing.{AreBelow, AreFew, groups_more, numbers_in, own_number, placed_few, placed_within}
use Rattle.block_split.proofs.grouping.group_places.Goals as goal

pub at-requires : goal.at-requires
at-requires c =
    let block = c.args.block.now in
    let len : length (column_of c.args.column block.rows) ≡ length block.rows = length_column block.types block.rows c.args.column c.len-row-end.ensures.typed c.requires in
    omega (arith, ap length c.column-numbers.ensures.values, len, c.loop-row-test.true, c.len-row-end.ensures.count)

pub loop-row-init : goal.loop-row-init
loop-row-init c =
    let none = c.new-2.ensures.items in
    record {
      numbers = c.new.ensures.empty ∙ ap numbers_in (sym none);
      within = subst (All (AreBelow (length c.args.block.now.rows))) (sym none) (All-nil (AreBelow (length c.args.block.now.rows)));
      few = subst (All (AreFew 0)) (sym none) (All-nil (AreFew 0));
      split = λ schema is. ap (map (group_rows c.args.block.now.rows)) none;
    }

pub loop-row-preserved : goal.loop-row-preserved
loop-row-preserved c =
    let block = c.args.block.now in
    let rows = block.rows in
    let at = c.loop-row.row in
    let gs = c.loop-row.groups.groups.items in
    let number = c.number.result in
    let before = c.loop-row.invariant in
    let v = value_of c.at.result in
    let below : at < length rows = omega (arith, c.loop-row-test.true, c.len-row-end.ensures.count) in
    let found : slice_get (column_of c.args.column rows) at ≡ Some v = ap (λ vs. slice_get vs at) (sym c.column-numbers.ensures.values) ∙ c.at.ensures in
    let new : c.add.new.self.groups.items ≡ placed number at gs = c.in_ok-add.ensures.groups in
    record {
      numbers = c.in_ok-add.ensures.numbers;
      within = subst (All (AreBelow (length rows))) (sym new) (placed_within (length rows) number at gs below before.within);
      few = subst (All (AreFew (at + 1))) (sym new) (placed_few number at at gs before.few);
      split = λ schema is.
          ap (map (group_rows rows)) new
          ∙ groups_more schema rows (take at rows) number at (get_or rows at []) gs
          (slice_get-get_or rows at [] below)
          (own_number schema block.types rows c.args.column at number v is c.len-row-end.ensures.typed c.requires found c.number.ensures)
          (before.split schema is)
          ∙ ap (split_rows schema) (sym (take_more rows at [] below));
    }

pub returns : goal.returns
returns c =
    let rows = c.args.block.now.rows in
    let gs = c.loop-row.groups.groups.items in
    let past : length rows ≤ c.loop-row.row = omega (arith, c.loop-row-test.false, c.len-row-end.ensures.count) in
    let most : c.loop-row.row < 2 ^ 32 = omega (arith, c.loop-row.auto.row-end, c.len-row-end.ensures.count, c.len-row-end.ensures.few) in
    record {
      within = c.loop-row.invariant.within;
      few = All-weaker (AreFew c.loop-row.row) (λ (g : Group). length g.places < 2 ^ 32) (λ g few. omega (arith, few, most)) gs c.loop-row.invariant.few;
      rows = λ schema is. c.loop-row.invariant.split schema is ∙ ap (split_rows schema) (take_all c.loop-row.row rows past);
    }
