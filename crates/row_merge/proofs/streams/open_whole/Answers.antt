use Rattle.std.proofs.Common.{◌∙◌, List, ap, length, slice_get, subst, sym}
use Rattle.std.specs.List.{AllZip}
use Rattle.std.proofs.lemmas.Result.{IfOk-weaker}
use Rattle.part_reader.specs.Readings.{Reading}
use Rattle.row_merge.specs.Streams.{IsReaderOf, rests_of, share}
use Rattle.row_merge.proofs.FirstGranules.{opened_unread}
use Rattle.row_merge.proofs.Readers.{opened_rests, readers_opened}
use Rattle.row_merge.proofs.SealedMerges.{places_within}
use Rattle.row_merge.proofs.streams.open_whole.Goals as goal

pub open_readers-requires-clause-places : goal.open_readers-requires-clause-places
open_readers-requires-clause-places g c = λ κs within. places_within c.args.inputs.now.schema.now c.args.plan.now.columns.items c.requires.plan.columns

pub open_stream-requires-clause-readers : goal.open_stream-requires-clause-readers
open_stream-requires-clause-readers g c = λ κs within.
    let i = c.args.inputs.now in
    subst (AllZip (IsReaderOf i.schema.now) i.parts.now) (sym c.in_ok-readers.ensures) (readers_opened g.F.Dir.files i.schema.now c.args.plan.now (share (length i.parts.now) (length c.args.plan.now.columns.items)) i.parts.now c.requires.plan.columns)

pub returns-clause-rows : goal.returns-clause-rows
returns-clause-rows g c =
    let plan = c.args.plan.now in
    let i = c.args.inputs.now in
    IfOk-weaker c.open_stream.result _ _
    (λ s readers rows holds. ap (λ (rs : List (Reading _)). rests_of rs rows) (readers ∙ c.in_ok-readers.ensures)
    ∙ opened_rests g.F.Dir.files i.schema.now plan (share (length i.parts.now) (length plan.columns.items)) (length plan.chosen.items) c.requires.plan.columns c.requires.plan.all i.parts.now rows c.requires.plan.enough holds)
    c.open_stream.ensures.readers

pub returns-clause-unread : goal.returns-clause-unread
returns-clause-unread g c =
    let plan = c.args.plan.now in
    let i = c.args.inputs.now in
    IfOk-weaker c.open_stream.result _ _
    (λ s readers j r there. opened_unread i.schema.now plan (share (length i.parts.now) (length plan.columns.items)) (length plan.chosen.items) i.parts.now c.requires.plan.all c.requires.plan.enough j r (ap (λ (rs : List (Reading _)). slice_get rs j) (sym (readers ∙ c.in_ok-readers.ensures)) ∙ there))
    c.open_stream.ensures.readers
