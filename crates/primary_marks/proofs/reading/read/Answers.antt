use Rattle.std.proofs.Common.{◌≡◌, List, IfErr, IfOk, ap, ◌∙◌, subst, arith, length}
use Rattle.std.proofs.lemmas.List.{length-map}
use Rattle.mt_values.specs.Grid.{Cells}
use Rattle.mt_values.specs.Values.{Row}
use Rattle.mt_values.specs.declared.value.ColType.{ColType}
use Rattle.primary_marks.specs.KeyFaults.{ExplainsPrimary}
use Rattle.primary_marks.specs.Keys.{IsPrimaryOf, key_shape, shape_of}
use Rattle.primary_marks.proofs.KeyRows.{length-primary_types}
use Rattle.primary_marks.proofs.KeysOneWay.{primary_spelled}
use Rattle.primary_marks.proofs.reading.read.Goals as goal

pub read_keys-requires-clause-some : goal.read_keys-requires-clause-some
read_keys-requires-clause-some c =
    let types = c.in_ok-columns.ensures.types ∙ c.as_slice.ensures ∙ c.in_ok-types.ensures in
    omega (arith, c.requires.some, ap length types, length-map c.in_ok-columns.columns.items (λ (x : Cells). x.col_type), length-primary_types c.args.schema.now c.requires.own)

pub returns-clause-spelled : goal.returns-clause-spelled
returns-clause-spelled c = λ keys p.
    let types = c.in_ok-columns.ensures.types ∙ c.as_slice.ensures ∙ c.in_ok-types.ensures in
    let bytes = c.args.bytes.now in
    let g = c.args.schema.now.granularity in
    primary_spelled (λ (m : List Row). m ≡ keys) (shape_of c.args.schema.now c.args.rows) bytes keys c.read_keys.result c.requires.granularity (λ m. m) (λ m e. e)
    (subst (λ (ts : List ColType). IfOk c.read_keys.result (IsPrimaryOf (key_shape ts g c.args.rows) bytes)) types c.read_keys.ensures.read)
    (subst (λ (ts : List ColType). IfErr c.read_keys.result (ExplainsPrimary (key_shape ts g c.args.rows) bytes)) types c.read_keys.ensures.fault) p
