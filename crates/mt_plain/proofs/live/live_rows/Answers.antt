use Rattle.std.proofs.Common.{◌+◌, List, drop, sym, ap, ◌∙◌}
use Rattle.std.proofs.lemmas.List.{at_drop_more}
use Rattle.mt_values.specs.declared.command.Entry.{Entry}
use Rattle.mt_values.specs.Values.{Row}
use Rattle.part_history.specs.mt_model.Live.{live_from, rows_after}
use Rattle.mt_plain.proofs.live.live_rows.Goals as goal

pub loop-entry-preserved : goal.loop-entry-preserved
loop-entry-preserved c =
    let t = c.args.table.now in
    let k = c.args.schema.now in
    let es = c.args.entries.now in
    let rows = c.loop-entry.rows.items in
    let rest = drop (c.loop-entry.entry-index + 1) es in
    let step = at_drop_more (live_from t k rows) es c.loop-entry.entry-index c.entry-item.result c.loop-entry-test.true in
    let item = ap (λ (e : Entry). live_from t k (rows_after t k rows e.command) rest) (sym c.entry-item.is) in
    ap (λ (r : List Row). live_from t k r rest) c.in_ok-take_command.ensures ∙ sym (step ∙ item) ∙ c.loop-entry.invariant
