use Rattle.std.proofs.Common.{◌∙◌, sym, ap}
use Rattle.mt_values.specs.Engines.{added_version}
use Rattle.mt_values.specs.Order.{key_cmp}
use Rattle.mt_values.proofs.WholeKeys.{first_decides, nothing_decides, version_decides}
use Rattle.mt_values.proofs.order.cmp_key.Goals as goal

pub returns-then-is_ne : goal.returns-then-is_ne
returns-then-is_ne c =
    let schema = c.args.schema.now in
    first_decides schema.key (added_version schema.engine schema.key) c.args.a.now c.args.b.now c.cmp_by-found.result c.requires.first c.requires.second
    (c.cmp_by-found.ensures ∙ ap (λ places. key_cmp places c.args.a.now c.args.b.now) c.as_slice.ensures) (sym c.is_ne.ensures ∙ c.if-is_ne.true)

pub returns-in-Some : goal.returns-in-Some
returns-in-Some c =
    let schema = c.args.schema.now in
    c.cmp_value.ensures
    ∙ version_decides schema.key (added_version schema.engine schema.key) c.in-Some.version c.args.a.now c.args.b.now c.cmp_by-found.result c.at.result.now c.at-in-Some.result.now
    c.requires.first c.requires.second
    (c.cmp_by-found.ensures ∙ ap (λ places. key_cmp places c.args.a.now c.args.b.now) c.as_slice.ensures) (sym c.is_ne.ensures ∙ c.if-is_ne.false)
    c.in-Some.ensures c.at.ensures c.at-in-Some.ensures

pub returns-in-None : goal.returns-in-None
returns-in-None c =
    let schema = c.args.schema.now in
    nothing_decides schema.key (added_version schema.engine schema.key) c.args.a.now c.args.b.now c.cmp_by-found.result
    c.requires.first c.requires.second
    (c.cmp_by-found.ensures ∙ ap (λ places. key_cmp places c.args.a.now c.args.b.now) c.as_slice.ensures) (sym c.is_ne.ensures ∙ c.if-is_ne.false)
    c.in-None.ensures
