use Rattle.std.proofs.Common.{◌≡◌, ◌++◌, ◌∙◌, ap, sym, subst, rules, List}
use Rattle.std.proofs.lemmas.Result.{on_ok_weaker}
use Rattle.std.specs.Option.{option_map, option_to_list}
use Rattle.part_name.specs.declared.part.PartName.{PartName}
use Rattle.part_set.specs.declared.root_name.RootName.{RootName}
use Rattle.part_set.specs.Groups.{group_of, name_in}
use Rattle.part_set.proofs.GroupSteps.{GroupMap, noted_absent, noted_there}
use Rattle.part_set.proofs.groups.note.Goals as goal

pub returns-in-Some : goal.returns-in-Some
returns-in-Some c =
    let old = c.args.groups.now in
    let new = c.get_mut.follows.lender c.push.new.self in
    let part = c.in-Part.part in
    let updates = (c.get_mut.follows.holds c.push.new.self).3 (search rules) in
    on_ok_weaker c.push.result (λ after. λ t.
    subst (λ (n : RootName). group_of new t ≡ option_map (λ (ps : List PartName). ps ++ option_to_list (name_in t n)) (group_of old t)) (sym c.in-Part.is)
    (noted_there part t old new c.in-Some.parts.now c.push.new.self after updates (sym c.in-Some.ensures.value))
    ) c.push.ensures.ok

pub returns-in-None : goal.returns-in-None
returns-in-None c = λ t.
    let old = c.args.groups.now in
    ap (λ (m : GroupMap). group_of m t) c.get_mut.follows.holds-at-none
    ∙ subst (λ (n : RootName). group_of old t ≡ option_map (λ (ps : List PartName). ps ++ option_to_list (name_in t n)) (group_of old t)) (sym c.in-Part.is) (noted_absent c.in-Part.part t old (sym c.in-None.ensures.value))
