use Rattle.std.proofs.Common.{◌≡◌, List, Ok, ap, length, map, refl, sym, ◌∙◌}
use Rattle.mt_values.specs.declared.schema.Column.{Column}
use Rattle.part_history.specs.mt_model.Queries.{query_of}
use Rattle.mt_plain.specs.Lefts.{reply_of}
use Rattle.mt_plain.proofs.Answering.{answers_exactly}
use Rattle.mt_plain.proofs.selecting.answers.Goals as goal

pub returns-clause-given : goal.returns-clause-given
returns-clause-given c =
    let h = c.args.entries.now in
    let schema = c.args.schema.now in
    let t = c.args.select.now in
    let query = c.in_ok-query.query in
    let asked : query_of schema.columns t ≡ Ok query = ap (λ (columns : List Column). query_of columns t) (sym c.as_slice-columns.ensures) ∙ c.in_ok-query.ensures in
    answers_exactly h schema t query (length h) c.deref.result.now c.in_ok-lefts.lefts.items c.in_ok-replies_of.field-0.items asked refl (c.deref.ensures.value ∙ c.in_ok-rows.ensures) c.in_ok-lefts.ensures
    (c.in_ok-replies_of.ensures ∙ ap (map (reply_of query (length h))) c.deref-2.ensures.value)
