use Rattle.std.proofs.Common.{◌∙◌, length, subst, sym}
use Rattle.std.specs.List.{AllZip}
use Rattle.std.proofs.lemmas.Result.{IfOk-weaker}
use Rattle.row_merge.specs.Streams.{IsReaderOf, share}
use Rattle.row_merge.proofs.ChosenGranules.{chosen_opened}
use Rattle.row_merge.proofs.SealedMerges.{places_within}
use Rattle.row_merge.proofs.chosen.open_chosen.Goals as goal

pub read_chosen-requires-clause-columns : goal.read_chosen-requires-clause-columns
read_chosen-requires-clause-columns g c = λ κs within. places_within c.args.inputs.now.schema.now c.args.columns.now c.requires.columns

pub open_stream-requires-clause-readers : goal.open_stream-requires-clause-readers
open_stream-requires-clause-readers g c = λ κs within.
    let i = c.args.inputs.now in
    subst (AllZip (IsReaderOf i.schema.now) i.parts.now) (sym c.in_ok-readers.ensures) (chosen_opened i.schema.now c.args.columns.now (share (length i.parts.now) (length c.args.columns.now)) i.parts.now c.args.chosen.now c.requires.columns c.requires.chosen)

pub returns-clause-readers : goal.returns-clause-readers
returns-clause-readers g c = IfOk-weaker c.open_stream.result _ _ (λ s readers. readers ∙ c.in_ok-readers.ensures) c.open_stream.ensures.readers
