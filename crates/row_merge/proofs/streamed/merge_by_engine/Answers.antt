use Rattle.std.proofs.Common.{◌≡◌, ◌∙◌, [], All, None, Some, ap, false, slice_get, subst, sym}
use Rattle.std.proofs.lemmas.Result.{on_ok_weaker}
use Rattle.mt_outside.proofs.LeftArms.{arm_same}
use Rattle.mt_values.specs.declared.engine.Engine.TheVariants as engine
use Rattle.mt_values.specs.Engines.{sign_place}
use Rattle.mt_values.specs.Tables.{sorting_columns}
use Rattle.part_history.specs.mt_model.Rules.{Run, is_one_of}
use Rattle.row_merge.proofs.TableMerges.{merged_table}
use Rattle.row_merge.proofs.TableRules.{functions_fit, functions_kept, run_as, run_of, sign_is, sums_kept}
use Rattle.row_merge.proofs.Written.{arm_alone, both_as, first_says, no_fault}
use Rattle.row_merge.proofs.streamed.merge_by_engine.Goals as goal

pub returns-in-Plain-clause-merged : goal.returns-in-Plain-clause-merged
returns-in-Plain-clause-merged g c = λ partition rows holds left parts.
    let i = c.args.inputs.now in
    let schema = i.schema.now in
    on_ok_weaker c.copy_stream.result
    (λ m. merged_table schema partition c.requires.on.stream.inputs.table i.places.now (Run engine.Plain []) rows c.copy_stream.new.out c.requires.on.stream.inputs.places_are (run_of schema (engine.Plain) c.in-Plain.is (λ other. cc)) parts m)
    (c.copy_stream.ensures.merged partition rows holds left parts)

pub returns-in-Replacing-clause-merged : goal.returns-in-Replacing-clause-merged
returns-in-Replacing-clause-merged g c = λ partition rows holds left parts.
    let i = c.args.inputs.now in
    let schema = i.schema.now in
    let version = c.in-Replacing.version in
    on_ok_weaker c.merge_stream.result
    (λ m. merged_table schema partition c.requires.on.stream.inputs.table i.places.now (Run (engine.Replacing version) []) rows c.merge_stream.new.out c.requires.on.stream.inputs.places_are (run_of schema (engine.Replacing version) c.in-Replacing.is (λ other. cc)) parts m)
    (c.merge_stream.ensures.merged partition rows tt holds left parts)

pub merge_stream-requires-in-Collapsing-clause-takes : goal.merge_stream-requires-in-Collapsing-clause-takes
merge_stream-requires-in-Collapsing-clause-takes g c = λ κs within row typed signed. sign_is c.args.inputs.now.schema.now c.in-Collapsing.sign (ap sign_place c.in-Collapsing.is) row signed

pub returns-in-Collapsing-clause-merged : goal.returns-in-Collapsing-clause-merged
returns-in-Collapsing-clause-merged g c = λ partition rows holds left parts.
    let i = c.args.inputs.now in
    let schema = i.schema.now in
    let sign = c.in-Collapsing.sign in
    on_ok_weaker c.merge_stream-in-Collapsing.result
    (λ m. merged_table schema partition c.requires.on.stream.inputs.table i.places.now (Run (engine.Collapsing sign) []) rows c.merge_stream-in-Collapsing.new.out c.requires.on.stream.inputs.places_are (run_of schema (engine.Collapsing sign) c.in-Collapsing.is (λ other. cc)) parts m)
    (c.merge_stream-in-Collapsing.ensures.merged partition rows tt holds left parts)

pub merge_stream-requires-in-Versioned-clause-takes : goal.merge_stream-requires-in-Versioned-clause-takes
merge_stream-requires-in-Versioned-clause-takes g c = λ κs within row typed signed. sign_is c.args.inputs.now.schema.now c.in-Versioned.sign (ap sign_place c.in-Versioned.is) row signed

pub returns-in-Versioned-clause-merged : goal.returns-in-Versioned-clause-merged
returns-in-Versioned-clause-merged g c = λ partition rows holds left parts.
    let i = c.args.inputs.now in
    let schema = i.schema.now in
    let sign = c.in-Versioned.sign in
    let version = c.in-Versioned.version in
    on_ok_weaker c.merge_stream-in-Versioned.result
    (λ m. merged_table schema partition c.requires.on.stream.inputs.table i.places.now (Run (engine.Versioned sign version) []) rows c.merge_stream-in-Versioned.new.out c.requires.on.stream.inputs.places_are (run_of schema (engine.Versioned sign version) c.in-Versioned.is (λ other. cc)) parts m)
    (c.merge_stream-in-Versioned.ensures.merged partition rows tt holds left parts)

pub merge_stream-requires-in-Summing-clause-takes : goal.merge_stream-requires-in-Summing-clause-takes
merge_stream-requires-in-Summing-clause-takes g c = λ κs within row typed signed. typed ∙ sym c.in-Ok.ensures.types

pub returns-in-Ok-clause-merged : goal.returns-in-Ok-clause-merged
returns-in-Ok-clause-merged g c = λ partition rows holds left parts.
    let i = c.args.inputs.now in
    let schema = i.schema.now in
    let places = c.in-Ok.rule.places in
    let is : schema.engine ≡ engine.Summing places = c.in-Summing.is ∙ ap engine.Summing (sym c.in-Ok.ensures.places) in
    let sorting = c.requires.on.stream.inputs.places_are in
    on_ok_weaker c.merge_stream-in-Summing.result
    (λ m. merged_table schema partition c.requires.on.stream.inputs.table i.places.now (Run (engine.Summing places) []) rows c.merge_stream-in-Summing.new.out sorting (run_of schema (engine.Summing places) is (λ other. cc)) parts m)
    (c.merge_stream-in-Summing.ensures.merged partition rows (subst (All (λ place. is_one_of places place ≡ false)) (sym sorting) (sums_kept schema c.requires.on.stream.inputs.table places is)) holds left parts)

pub merge_stream-requires-in-Aggregating-clause-takes : goal.merge_stream-requires-in-Aggregating-clause-takes
merge_stream-requires-in-Aggregating-clause-takes g c = λ κs within row typed signed.
    let schema = c.args.inputs.now.schema.now in
    let rule = c.in-Ok-aggregating_rule.rule in
    let e = c.in-Ok-aggregating_rule.ensures in
    (typed ∙ sym e.types, functions_fit schema rule.types rule.functions e.types e.functions)

pub returns-in-Ok-aggregating_rule-clause-merged : goal.returns-in-Ok-aggregating_rule-clause-merged
returns-in-Ok-aggregating_rule-clause-merged g c = λ partition rows holds left parts.
    let i = c.args.inputs.now in
    let schema = i.schema.now in
    let functions = c.in-Ok-aggregating_rule.rule.functions in
    let e = c.in-Ok-aggregating_rule.ensures in
    let sorting = c.requires.on.stream.inputs.places_are in
    on_ok_weaker c.merge_stream-in-Aggregating.result
    (λ m. merged_table schema partition c.requires.on.stream.inputs.table i.places.now (Run engine.Aggregating functions) rows c.merge_stream-in-Aggregating.new.out sorting
    (λ some kept h. run_as schema engine.Aggregating c.in-Aggregating.is some kept (subst (λ fs. Run engine.Aggregating fs some kept) e.functions h)) parts m)
    (c.merge_stream-in-Aggregating.ensures.merged partition rows
    (subst (All (λ place. slice_get functions place ≡ Some None)) (sym sorting)
    (subst (λ fs. All (λ place. slice_get fs place ≡ Some None) (sorting_columns schema)) (sym e.functions) (functions_kept schema c.requires.on.stream.inputs.table c.in-Aggregating.is))) holds left parts)

-- an allocation failed
pub returns-in_default-clause-fails : goal.returns-in_default-clause-fails
returns-in_default-clause-fails g c =
    let i = c.args.inputs.now in
    record {
      damaged = first_says g.R.Dir.Dir.files i.schema.now i.parts.now c.index-inputs-0.result c.requires.on.stream.inputs.some c.index-inputs-0.is _ tt;
      leaves = both_as (arm_alone c.args.out.now.stage.failed (arm_same c.args.arm.now)) no_fault (λ none. absurd none);
    }

pub returns-in_default-aggregating_rule-clause-fails : goal.returns-in_default-aggregating_rule-clause-fails
returns-in_default-aggregating_rule-clause-fails g c =
    let i = c.args.inputs.now in
    record {
      damaged = first_says g.R.Dir.Dir.files i.schema.now i.parts.now c.index-inputs-0-in_default-aggregating_rule.result c.requires.on.stream.inputs.some c.index-inputs-0-in_default-aggregating_rule.is _ tt;
      leaves = both_as (arm_alone c.args.out.now.stage.failed (arm_same c.args.arm.now)) no_fault (λ none. absurd none);
    }

pub returns-in_default-clause-most : goal.returns-in_default-clause-most
returns-in_default-clause-most g c = (c.requires.on.stream.counts c.requires.on.shaped).within

pub returns-in_default-aggregating_rule-clause-most : goal.returns-in_default-aggregating_rule-clause-most
returns-in_default-aggregating_rule-clause-most g c = (c.requires.on.stream.counts c.requires.on.shaped).within
