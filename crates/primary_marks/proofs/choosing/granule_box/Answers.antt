use Rattle.std.proofs.Common.{◌∙◌, Bool, List, ap, arith, sym}
use Rattle.std.proofs.lemmas.Result.{IfOk-weaker}
use Rattle.predicate.specs.Granules.{box_where}
use Rattle.predicate.specs.declared.extent.Extent.{Extent}
use Rattle.predicate.specs.declared.extent.Known.{Known}
use Rattle.primary_marks.proofs.GranuleBoxes.{box_at, box_is}
use Rattle.primary_marks.proofs.choosing.granule_box.Goals as goal

pub overflow_add-granule : goal.overflow_add-granule
overflow_add-granule c = record { fits = omega (arith, c.requires, c.len-keys.ensures, c.len-keys.type_inv) }

pub returns-then-is_chosen : goal.returns-then-is_chosen
returns-then-is_chosen c =
    let schema = c.args.part.now.schema.now in
    let partition = c.args.part.now.partition.now in
    let keys = c.args.part.now.marks.now in
    let granule = c.args.granule in
    IfOk-weaker c.box_within.result _ _
    (λ e is. box_is schema partition keys granule c.between-own.result e c.between-own.ensures is ∙ ap (λ (b : Bool). box_where b (box_at schema partition keys granule)) (sym c.if-is_chosen.true)) c.box_within.ensures

pub returns : goal.returns
returns c =
    let schema = c.args.part.now.schema.now in
    let partition = c.args.part.now.partition.now in
    let keys = c.args.part.now.marks.now in
    ap (λ (ks : List Known). let e : Extent = record { columns = ks } in e) c.new-columns.ensures
    ∙ ap (λ (b : Bool). box_where b (box_at schema partition keys c.args.granule)) (sym c.if-is_chosen.false)
