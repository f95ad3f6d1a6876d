use Rattle.std.proofs.Common.{◌∙◌, [], All, List, ap, arith, get_or, length, refl, subst, sym}
use Rattle.std.proofs.lemmas.Option.{slice_get-get_or}
use Rattle.std.proofs.lemmas.Result.{on_ok_weaker}
use Rattle.mt_outside.proofs.LeftArms.{arm_same}
use Rattle.mt_values.specs.Values.{Row}
use Rattle.part_history.proofs.MtModelOwnColumns.{sorting_own}
use Rattle.part_reader.specs.Readings.{Reading}
use Rattle.row_merge.specs.Merged.{ArePartRows}
use Rattle.row_merge.specs.Sinks.{GetsMerged}
use Rattle.row_merge.specs.Streams.{rests_of, share}
use Rattle.row_merge.proofs.ChosenGranules.{chosen_rests, chosen_told}
use Rattle.row_merge.proofs.Opening.{own_inputs}
use Rattle.row_merge.proofs.Written.{arm_alone, both_as, no_fault}
use Rattle.row_merge.proofs.chosen.merge_chosen.Goals as goal

-- an allocation failed
pub returns-in_default-clause-fails : goal.returns-in_default-clause-fails
returns-in_default-clause-fails g c =
    let parts = c.args.parts.now in
    let chosen = c.args.chosen.now in
    let many = c.requires.chosen in
    let some = c.requires.some in
    record {
      damaged = record {
        at = 0;
        kept = get_or parts 0 c.index-parts-0.result;
        own = get_or chosen 0 [];
        kept_is = slice_get-get_or parts 0 c.index-parts-0.result some;
        own_is = slice_get-get_or chosen 0 [] (omega (arith, many, some));
        name_is = refl;
        explained = tt;
      };
      leaves = both_as (arm_alone (g.T.RowSink.failed c.args.out.now) (arm_same c.args.arm.now)) no_fault (λ none. absurd none);
    }

pub returns-in_default-open_chosen-clause-fails : goal.returns-in_default-open_chosen-clause-fails
returns-in_default-open_chosen-clause-fails g c =
    let parts = c.args.parts.now in
    let chosen = c.args.chosen.now in
    let many = c.requires.chosen in
    let some = c.requires.some in
    record {
      damaged = record {
        at = 0;
        kept = get_or parts 0 c.index-parts-0-in_default-open_chosen.result;
        own = get_or chosen 0 [];
        kept_is = slice_get-get_or parts 0 c.index-parts-0-in_default-open_chosen.result some;
        own_is = slice_get-get_or chosen 0 [] (omega (arith, many, some));
        name_is = refl;
        explained = tt;
      };
      leaves = both_as (arm_alone (g.T.RowSink.failed c.args.out.now) (arm_same c.args.arm.now)) no_fault (λ none. absurd none);
    }

-- all columns of the chosen granules are read
pub open_chosen-requires-clause-inputs : goal.open_chosen-requires-clause-inputs
open_chosen-requires-clause-inputs g c = λ κs within. own_inputs _ c.requires.schema c.requires.some (c.as_slice-places.ensures ∙ c.in-Ok.ensures.sorting) (sorting_own c.args.schema.now c.requires.schema)

pub open_chosen-requires-clause-columns : goal.open_chosen-requires-clause-columns
open_chosen-requires-clause-columns g c = λ κs within. c.as_slice-all.ensures.value ∙ c.in-Ok.ensures.columns

pub returns-clause-merged : goal.returns-clause-merged
returns-clause-merged g c = λ partition rows holds parts.
    let schema = c.args.schema.now in
    let all = c.as_slice-all.result.now in
    let are = c.as_slice-all.ensures.value ∙ c.in-Ok.ensures.columns in
    let rests = ap (λ (rs : List (Reading _)). rests_of rs rows) c.in-Ok-open_chosen.ensures.readers
    ∙ chosen_rests g.R.Dir.Dir.files schema all (share (length c.args.parts.now) (length all)) c.args.parts.now c.args.chosen.now rows are holds c.requires.chosen in
    on_ok_weaker c.fold_opened.result (λ m. subst (λ (rs : List (List Row)). GetsMerged g.T.RowSink.gets schema partition rs c.args.out.now c.fold_opened.new.out) rests m)
    (c.fold_opened.ensures.merged partition rows holds (subst (All (ArePartRows schema partition)) (sym rests) parts))

pub returns-clause-fails : goal.returns-clause-fails
returns-clause-fails g c =
    let all = c.as_slice-all.result.now in
    record {
      damaged = chosen_told g.R.Dir.Dir.files c.fold_opened.result _ c.in-Ok-open_chosen.stream.readers.items c.fold_opened.ensures.fails.damaged all (share (length c.args.parts.now) (length all)) c.args.chosen.now c.in-Ok-open_chosen.ensures.readers
          (c.as_slice-all.ensures.value ∙ c.in-Ok.ensures.columns) c.requires.chosen;
      leaves = c.fold_opened.ensures.fails.leaves;
    }
