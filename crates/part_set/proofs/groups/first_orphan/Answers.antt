use Rattle.std.proofs.Common.{◌≡◌, ◌∙◌, [], false, sym}
use Rattle.std.proofs.lemmas.List.Elements.{AllWithin-more, at_read}
use Rattle.part_set.specs.declared.root_name.RootName.{RootName}
use Rattle.part_set.specs.Groups.{has_table, orphan_by}
use Rattle.part_set.proofs.GroupSteps.{orphan_same}
use Rattle.part_set.proofs.Orphans.{orphan_first, orphan_none}
use Rattle.part_set.proofs.groups.first_orphan.Goals as goal

pub loop-place-preserved : goal.loop-place-preserved
loop-place-preserved c =
    let names = c.args.names.now in
    let name = c.index-names-place.result in
    let is_none = sym (orphan_same names [] c.args.groups.now c.requires name) ∙ sym c.if-is_orphan.ensures in
    AllWithin-more (λ (n : RootName). orphan_by (has_table names) n ≡ false) names 0 c.loop-place.place c.loop-place.invariant
    (at_read names (λ (n : RootName). orphan_by (has_table names) n ≡ false) c.loop-place.place name c.loop-place-test.true c.index-names-place.is is_none)

pub returns-then-is_orphan-clause-found : goal.returns-then-is_orphan-clause-found
returns-then-is_orphan-clause-found c =
    let names = c.args.names.now in
    let name = c.index-names-place.result in
    orphan_first names c.loop-place.place name c.loop-place-test.true c.index-names-place.is (sym (orphan_same names [] c.args.groups.now c.requires name) ∙ sym c.if-is_orphan.ensures) c.loop-place.invariant

pub returns : goal.returns
returns c = record { found = tt; none = orphan_none c.args.names.now c.loop-place.place c.loop-place-test.false c.loop-place.invariant }
