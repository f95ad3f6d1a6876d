use Rattle.std.proofs.Common.{ap, ◌∙◌}
use Rattle.mt_values.specs.Tables.{sorting_cmp}
use Rattle.part_history.specs.mt_model.Live.{sorted}
use Rattle.mt_plain.proofs.Inserting.{insert_adds}
use Rattle.mt_plain.proofs.live.add_rows.Goals as goal

pub returns-in_ok-append : goal.returns-in_ok-append
returns-in_ok-append c =
    let t = c.args.table.now in
    let k = c.args.schema.now in
    let rows = c.args.rows.now.items in
    let in_order = c.in_ok-added.ensures ∙ ap (sorted (sorting_cmp k)) c.in_ok-rows_of.ensures in
    insert_adds t k rows c.args.insert.now c.append.new.self.items c.in_ok-added.added.items c.if-eq.ensures c.in_ok-append.ensures.items in_order
