use Rattle.std.proofs.Common.{List, ap, subst, sym}
use Rattle.std.proofs.lemmas.Option.{MatchOption-at_none, MatchOption-at_some}
use Rattle.std.specs.List.{All, Contains as HasItem}
use Rattle.part_name.specs.declared.part.PartName.{PartName}
use Rattle.part_set.specs.Passes.{AreShown, Clash, IsPlainName}
use Rattle.part_set.specs.Sets.{parts_on}
use Rattle.part_set.specs.Shelf.{all_parts}
use Rattle.part_set.proofs.Maps.{other_parts}
use Rattle.part_set.proofs.Pairs.{item_at}
use Rattle.part_set.proofs.Showings.{showing_all, showing_put}
use Rattle.part_set.proofs.Visibles.{clash_overlap, group_list, plain_names}
use Rattle.part_set.proofs.roots.shown_set.Goals as goal

pub shown_of-requires : goal.shown_of-requires
shown_of-requires c =
    let names = c.args.names.now in
    let table = c.in-Create.table in
    let has = subst (HasItem names) c.in-Create.is (item_at names c.loop-name.name-index c.name-item.result c.loop-name-test.true c.name-item.is) in
    subst (All IsPlainName) (sym (group_list names c.args.groups.now table c.requires.groups has)) (plain_names names c.requires.named c.requires.no_orphan table)

pub returns-in_default-2-clause-overlap : goal.returns-in_default-2-clause-overlap
returns-in_default-2-clause-overlap c =
    let names = c.args.names.now in
    let table = c.in-Create.table in
    let has = subst (HasItem names) c.in-Create.is (item_at names c.loop-name.name-index c.name-item.result c.loop-name-test.true c.name-item.is) in
    let clash = MatchOption-at_none _ _ c.in_default-2.is c.in_ok-parts.ensures.clash in
    clash_overlap names table (subst Clash (group_list names c.args.groups.now table c.requires.groups has) clash)

pub loop-name-preserved : goal.loop-name-preserved
loop-name-preserved c =
    let names = c.args.names.now in
    let table = c.in-Create.table in
    let has = subst (HasItem names) c.in-Create.is (item_at names c.loop-name.name-index c.name-item.result c.loop-name-test.true c.name-item.is) in
    let shown = MatchOption-at_some _ _ c.in-Some.parts c.in-Some.is c.in_ok-parts.ensures.shown in
    showing_put names c.loop-name.name-index c.name-item.result c.loop-name-test.true c.name-item.is c.loop-name.set c.put.new.self table (all_parts c.in-Some.parts) c.in-Create.is c.loop-name.invariant
    (subst (λ (group : List PartName). AreShown group (all_parts c.in-Some.parts)) (group_list names c.args.groups.now table c.requires.groups has) shown) (ap parts_on c.in_ok-put.ensures.ok.1) (other_parts c.loop-name.set.tables c.put.new.self.tables table _ c.in_ok-put.ensures.ok)

pub returns-clause-shown : goal.returns-clause-shown
returns-clause-shown c = showing_all c.args.names.now c.loop-name.name-index c.loop-name.set c.loop-name.invariant c.loop-name-test.false c.requires.no_orphan
