use Rattle.std.proofs.Common.{◌∙◌, subst, sym}
use Rattle.std.proofs.lemmas.Bool.{false≢true}
use Rattle.std.proofs.lemmas.List.Elements.{AllWithin-more, at_read}
use Rattle.std.specs.List.{Contains as HasItem}
use Rattle.part_set.specs.declared.root_name.RootName.{RootName}
use Rattle.part_set.specs.Visible.{Overlapping}
use Rattle.part_set.proofs.Pairs.{first_with, item_at, overlap_told, told_overlap}
use Rattle.part_set.proofs.overlaps.overlapping.Goals as goal

pub returns-then-overlaps-clause-found : goal.returns-then-overlaps-clause-found
returns-then-overlaps-clause-found c =
    let names = c.args.names.now in
    let other = c.index-names-place.result in
    let here = subst (λ (n : RootName). HasItem names n) c.in-Part.is c.requires in
    let told = c.overlaps.ensures.0 c.if-overlaps.true in
    let has = item_at names c.loop-place.place other c.loop-place-test.true c.index-names-place.is in
    let overlap = told_overlap names c.in-Part.part other here (λ hidden. false≢true (sym c.if-is_hidden.false ∙ c.is_hidden.ensures.1 hidden)) has told.0 told.1 in
    first_with (Overlapping names c.args.name.now) names c.loop-place.place other c.loop-place-test.true c.index-names-place.is (subst (λ (n : RootName). Overlapping names n other) (sym c.in-Part.is) overlap) c.loop-place.invariant

pub loop-place-preserved : goal.loop-place-preserved
loop-place-preserved c =
    let names = c.args.names.now in
    let other = c.index-names-place.result in
    AllWithin-more (λ (o : RootName). Overlapping names c.args.name.now o → ⊥) names 0 c.loop-place.place c.loop-place.invariant
    (at_read names (λ (o : RootName). Overlapping names c.args.name.now o → ⊥) c.loop-place.place other c.loop-place-test.true c.index-names-place.is
    (λ overlap. false≢true (sym c.if-overlaps.false ∙ c.overlaps.ensures.1 (overlap_told names c.in-Part.part other (subst (λ (n : RootName). Overlapping names n other) c.in-Part.is overlap)))))
