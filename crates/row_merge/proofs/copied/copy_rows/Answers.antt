use Rattle.std.proofs.Common.{◌≤◌, ◌<◌, ◌-◌, ◌∙◌, ◌++◌, All, ap, arith, drop, length, subst, sym, take}
use Rattle.std.proofs.lemmas.Result.{on_ok_weaker}
use Rattle.mt_values.specs.Grid.{picked}
use Rattle.part_reader.specs.part_writer.Growing.{HasRows}
use Rattle.row_merge.proofs.Copies.{between_within, picked_between}
use Rattle.row_merge.proofs.GoingOn.{on_ok_three}
use Rattle.row_merge.proofs.copied.copy_rows.Goals as goal

pub push_block-requires-clause-places : goal.push_block-requires-clause-places
push_block-requires-clause-places g c κs within =
    let rows = c.args.block.now.rows in
    let from = c.args.from in
    let to = c.args.to in
    let n = length c.count_to.new.order.items in
    let long : to ≤ n = omega (arith, c.requires.within, c.len.ensures.count, c.in_ok-count_to.ensures.long) in
    subst (λ xs. All (λ place. place < length rows) (take (to - from) (drop from xs))) (sym (c.deref.ensures.value ∙ c.in_ok-count_to.ensures.order)) (between_within rows from to n c.requires.rising c.requires.within long)

pub returns-clause-rows : goal.returns-clause-rows
returns-clause-rows g c = λ done has.
    let rows = c.args.block.now.rows in
    let from = c.args.from in
    let to = c.args.to in
    let n = length c.count_to.new.order.items in
    let long : to ≤ n = omega (arith, c.requires.within, c.len.ensures.count, c.in_ok-count_to.ensures.long) in
    let same = ap (λ xs. picked rows (take (to - from) (drop from xs))) (c.deref.ensures.value ∙ c.in_ok-count_to.ensures.order) ∙ picked_between rows from to n c.requires.rising c.requires.within long in
    on_ok_weaker c.push_block.result (λ h. subst (λ xs. HasRows c.push_block.new.self (done ++ xs)) same h) (c.push_block.ensures.rows done has)

pub returns-clause-grew : goal.returns-clause-grew
returns-clause-grew g c =
    let w = c.requires.whole in
    on_ok_three c.push_block.result
    (λ h table told. record {
      whole = record { rows = w.rows ++ picked c.args.block.now.rows (take (c.args.to - c.args.from) (drop c.args.from c.deref.result.now)); has = h };
      table = table;
      told = told;
    })
    (c.push_block.ensures.rows w.rows w.has) c.push_block.ensures.schema c.push_block.ensures.told
