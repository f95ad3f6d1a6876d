use Rattle.std.proofs.Common.{◌≡◌, ◌∙◌, [], All, None, Some, ap, false, length, slice_get, subst, sym, true}
use Rattle.std.proofs.lemmas.Result.{IfOk-weaker}
use Rattle.mt_values.specs.declared.engine.Engine.TheVariants as engine
use Rattle.mt_values.specs.Engines.{sign_place}
use Rattle.mt_values.specs.Schemas.{column_types}
use Rattle.mt_values.specs.Tables.{has_sign, sorting_columns}
use Rattle.mt_values.specs.Values.{types_of}
use Rattle.part_history.specs.mt_model.Rules.{HasSign, Run, is_one_of}
use Rattle.row_merge.specs.Merged.{inputs_of}
use Rattle.row_merge.proofs.TableMerges.{merged_by}
use Rattle.row_merge.proofs.TableRules.{any_row, each_row, functions_fit, functions_kept, parts_signed, run_as, run_of, sign_is, signed_all, sums_kept}
use Rattle.row_merge.proofs.choosing.merge_rows.Goals as goal

pub returns-in-Plain-clause-merged : goal.returns-in-Plain-clause-merged
returns-in-Plain-clause-merged c =
    let schema = c.args.schema.now in
    IfOk-weaker c.merge_sorted-in-Plain.result _ _
    (λ out merge partition table parts.
    merged_by schema partition table (inputs_of c.args.inputs.now) (λ row. Unit {0}) (λ places. Unit {0}) (Run engine.Plain []) out.items (λ row own. tt) tt (run_of schema engine.Plain c.in-Plain.is (λ other. cc)) merge parts)
    c.merge_sorted-in-Plain.ensures.merged

pub returns-in-Plain-clause-typed : goal.returns-in-Plain-clause-typed
returns-in-Plain-clause-typed c =
    let schema = c.args.schema.now in
    let inputs = inputs_of c.args.inputs.now in
    IfOk-weaker c.merge_sorted-in-Plain.result _ _ (λ out stays typed. stays (column_types schema) (any_row inputs) typed) c.merge_sorted-in-Plain.ensures.typed

pub returns-in-Replacing-clause-merged : goal.returns-in-Replacing-clause-merged
returns-in-Replacing-clause-merged c =
    let schema = c.args.schema.now in
    let version = c.in-Replacing.version in
    IfOk-weaker c.merge_sorted-in-Replacing.result _ _
    (λ out merge partition table parts.
    merged_by schema partition table (inputs_of c.args.inputs.now) (λ row. Unit {0}) (λ places. Unit {0}) (Run (engine.Replacing version) []) out.items (λ row own. tt) tt (run_of schema (engine.Replacing version) c.in-Replacing.is (λ other. cc)) merge parts)
    c.merge_sorted-in-Replacing.ensures.merged

pub returns-in-Replacing-clause-typed : goal.returns-in-Replacing-clause-typed
returns-in-Replacing-clause-typed c =
    let schema = c.args.schema.now in
    let inputs = inputs_of c.args.inputs.now in
    let version = c.in-Replacing.version in
    IfOk-weaker c.merge_sorted-in-Replacing.result _ _ (λ out stays typed. stays (column_types schema) (any_row inputs) typed) c.merge_sorted-in-Replacing.ensures.typed

pub returns-in_ok-places-in-Summing-clause-merged : goal.returns-in_ok-places-in-Summing-clause-merged
returns-in_ok-places-in-Summing-clause-merged c =
    let schema = c.args.schema.now in
    let types = c.in_ok-types-in-Summing.types in
    let places = c.in_ok-places-in-Summing.places in
    let is : schema.engine ≡ engine.Summing places = c.in-Summing.is ∙ ap engine.Summing (sym c.in_ok-places-in-Summing.ensures) in
    IfOk-weaker c.merge_sorted-in-Summing.result _ _
    (λ out merge partition table parts.
    merged_by schema partition table (inputs_of c.args.inputs.now) (λ row. types_of row ≡ types) (λ key. All (λ place. is_one_of places place ≡ false) key) (Run (engine.Summing places) []) out.items (λ row own. own.typed ∙ sym c.in_ok-types-in-Summing.ensures) (sums_kept schema table places is) (run_of schema (engine.Summing places) is (λ other. cc)) merge parts)
    c.merge_sorted-in-Summing.ensures.merged

pub returns-in_ok-places-in-Summing-clause-typed : goal.returns-in_ok-places-in-Summing-clause-typed
returns-in_ok-places-in-Summing-clause-typed c =
    let schema = c.args.schema.now in
    let inputs = inputs_of c.args.inputs.now in
    let types = c.in_ok-types-in-Summing.types in
    let places = c.in_ok-places-in-Summing.places in
    let is : schema.engine ≡ engine.Summing places = c.in-Summing.is ∙ ap engine.Summing (sym c.in_ok-places-in-Summing.ensures) in
    IfOk-weaker c.merge_sorted-in-Summing.result _ _ (λ out stays typed. stays (column_types schema) (each_row (λ row. types_of row ≡ column_types schema) (λ row. types_of row ≡ types) (λ row own. own ∙ sym c.in_ok-types-in-Summing.ensures) inputs typed) typed) c.merge_sorted-in-Summing.ensures.typed

pub returns-in-Collapsing-clause-merged : goal.returns-in-Collapsing-clause-merged
returns-in-Collapsing-clause-merged c =
    let schema = c.args.schema.now in
    let sign = c.in-Collapsing.sign in
    let place : sign_place schema.engine ≡ Some sign = ap sign_place c.in-Collapsing.is in
    let signed = signed_all schema c.args.inputs.now (sym c.are_signed.ensures ∙ c.if-not-are_signed.false) in
    IfOk-weaker c.merge_sorted-in-Collapsing.result _ _
    (λ out merge partition table parts.
    merged_by schema partition table (inputs_of c.args.inputs.now) (λ row. HasSign sign row) (λ places. Unit {0}) (Run (engine.Collapsing sign) []) out.items (λ row own. sign_is schema sign place row own.signed) tt (run_of schema (engine.Collapsing sign) c.in-Collapsing.is (λ other. cc)) merge parts)
    c.merge_sorted-in-Collapsing.ensures.merged

pub returns-in-Collapsing-clause-typed : goal.returns-in-Collapsing-clause-typed
returns-in-Collapsing-clause-typed c =
    let schema = c.args.schema.now in
    let inputs = inputs_of c.args.inputs.now in
    let sign = c.in-Collapsing.sign in
    let place : sign_place schema.engine ≡ Some sign = ap sign_place c.in-Collapsing.is in
    let signed = signed_all schema c.args.inputs.now (sym c.are_signed.ensures ∙ c.if-not-are_signed.false) in
    IfOk-weaker c.merge_sorted-in-Collapsing.result _ _ (λ out stays typed. stays (column_types schema) (each_row (λ row. has_sign schema row ≡ true) (λ row. HasSign sign row) (λ row own. sign_is schema sign place row own) inputs signed) typed) c.merge_sorted-in-Collapsing.ensures.typed

pub returns-in-Versioned-clause-merged : goal.returns-in-Versioned-clause-merged
returns-in-Versioned-clause-merged c =
    let schema = c.args.schema.now in
    let sign = c.in-Versioned.sign in
    let version = c.in-Versioned.version in
    let place : sign_place schema.engine ≡ Some sign = ap sign_place c.in-Versioned.is in
    let signed = signed_all schema c.args.inputs.now (sym c.are_signed.ensures ∙ c.if-not-are_signed.false) in
    IfOk-weaker c.merge_sorted-in-Versioned.result _ _
    (λ out merge partition table parts.
    merged_by schema partition table (inputs_of c.args.inputs.now) (λ row. HasSign sign row) (λ places. Unit {0}) (Run (engine.Versioned sign version) []) out.items (λ row own. sign_is schema sign place row own.signed) tt (run_of schema (engine.Versioned sign version) c.in-Versioned.is (λ other. cc)) merge parts)
    c.merge_sorted-in-Versioned.ensures.merged

pub returns-in-Versioned-clause-typed : goal.returns-in-Versioned-clause-typed
returns-in-Versioned-clause-typed c =
    let schema = c.args.schema.now in
    let inputs = inputs_of c.args.inputs.now in
    let sign = c.in-Versioned.sign in
    let version = c.in-Versioned.version in
    let place : sign_place schema.engine ≡ Some sign = ap sign_place c.in-Versioned.is in
    let signed = signed_all schema c.args.inputs.now (sym c.are_signed.ensures ∙ c.if-not-are_signed.false) in
    IfOk-weaker c.merge_sorted-in-Versioned.result _ _ (λ out stays typed. stays (column_types schema) (each_row (λ row. has_sign schema row ≡ true) (λ row. HasSign sign row) (λ row own. sign_is schema sign place row own) inputs signed) typed) c.merge_sorted-in-Versioned.ensures.typed

pub returns-in_ok-functions-in-Aggregating-clause-merged : goal.returns-in_ok-functions-in-Aggregating-clause-merged
returns-in_ok-functions-in-Aggregating-clause-merged c =
    let schema = c.args.schema.now in
    let types = c.in_ok-types-in-Aggregating.types in
    let functions = c.in_ok-functions-in-Aggregating.functions in
    let types_are : types ≡ column_types schema = c.in_ok-types-in-Aggregating.ensures in
    let even = functions_fit schema types functions types_are c.in_ok-functions-in-Aggregating.ensures in
    IfOk-weaker c.merge_sorted-in-Aggregating.result _ _
    (λ out merge partition table parts.
    merged_by schema partition table (inputs_of c.args.inputs.now) (λ row. (types_of row ≡ types) × (length functions ≡ length types)) (λ key. All (λ place. slice_get functions place ≡ Some None) key) (Run engine.Aggregating functions) out.items (λ row own. (own.typed ∙ sym types_are, even)) (subst (λ fs. All (λ place. slice_get fs place ≡ Some None) (sorting_columns schema)) (sym c.in_ok-functions-in-Aggregating.ensures) (functions_kept schema table c.in-Aggregating.is)) (λ rows left h. run_as schema engine.Aggregating c.in-Aggregating.is rows left (subst (λ fs. Run engine.Aggregating fs rows left) c.in_ok-functions-in-Aggregating.ensures h)) merge parts)
    c.merge_sorted-in-Aggregating.ensures.merged

pub returns-in_ok-functions-in-Aggregating-clause-typed : goal.returns-in_ok-functions-in-Aggregating-clause-typed
returns-in_ok-functions-in-Aggregating-clause-typed c =
    let schema = c.args.schema.now in
    let inputs = inputs_of c.args.inputs.now in
    let types = c.in_ok-types-in-Aggregating.types in
    let functions = c.in_ok-functions-in-Aggregating.functions in
    let types_are : types ≡ column_types schema = c.in_ok-types-in-Aggregating.ensures in
    let even = functions_fit schema types functions types_are c.in_ok-functions-in-Aggregating.ensures in
    IfOk-weaker c.merge_sorted-in-Aggregating.result _ _ (λ out stays typed. stays (column_types schema) (each_row (λ row. types_of row ≡ column_types schema) (λ row. (types_of row ≡ types) × (length functions ≡ length types)) (λ row own. (own ∙ sym types_are, even)) inputs typed) typed) c.merge_sorted-in-Aggregating.ensures.typed

-- rows of parts have their signs
pub returns-then-not-are_signed-clause-merged : goal.returns-then-not-are_signed-clause-merged
returns-then-not-are_signed-clause-merged c =
    let schema = c.args.schema.now in
    IfOk-weaker c.merge_sorted.result _ _
    (λ out merge partition table parts. absurd (clash (sym (parts_signed schema partition c.args.inputs.now parts) ∙ sym c.are_signed.ensures ∙ c.if-not-are_signed.true)))
    c.merge_sorted.ensures.merged
  where
    clash : true ≡ false → ⊥
    clash e = cc

pub returns-then-not-are_signed-clause-typed : goal.returns-then-not-are_signed-clause-typed
returns-then-not-are_signed-clause-typed c =
    IfOk-weaker c.merge_sorted.result _ _ (λ out stays typed. stays (column_types c.args.schema.now) (any_row (inputs_of c.args.inputs.now)) typed) c.merge_sorted.ensures.typed
