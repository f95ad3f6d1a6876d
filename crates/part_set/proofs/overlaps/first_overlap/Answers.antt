use Rattle.std.proofs.lemmas.List.Elements.{AllWithin-more, at_read}
use Rattle.part_set.specs.declared.root_name.RootName.{RootName}
use Rattle.part_set.proofs.Pairs.{IsFirstOf, first_pair, no_pair}
use Rattle.part_set.proofs.overlaps.first_overlap.Goals as goal

pub returns-in-Some : goal.returns-in-Some
returns-in-Some c =
    first_pair c.args.names.now c.loop-place.place c.in-Some.other c.index-names-place.result c.loop-place-test.true c.index-names-place.is c.in-Some.ensures.found c.loop-place.invariant

pub loop-place-preserved : goal.loop-place-preserved
loop-place-preserved c =
    let names = c.args.names.now in
    AllWithin-more (λ (a : RootName). IsFirstOf names a → ⊥) names 0 c.loop-place.place c.loop-place.invariant
    (at_read names (λ (a : RootName). IsFirstOf names a → ⊥) c.loop-place.place c.index-names-place.result c.loop-place-test.true c.index-names-place.is (λ some. c.in_default.ensures.none some.0 some.1 some.2))

pub unreachable-requires : goal.unreachable-requires
unreachable-requires c = no_pair c.args.names.now c.loop-place.place c.loop-place-test.false c.loop-place.invariant c.requires
