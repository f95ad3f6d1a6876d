use Rattle.std.proofs.Common.{◌≡◌, ◌∙◌, List, [], Option, ap, subst, sym, unwrap_or}
use Rattle.std.proofs.lemmas.List.Sorted.{All-permutation}
use Rattle.std.proofs.lemmas.Option.{IfSome_then}
use Rattle.std.proofs.lemmas.Result.{IfOk-weaker}
use Rattle.std.specs.List.Sorted.{IsPermutation}
use Rattle.part_name.specs.declared.part.PartName.{PartName}
use Rattle.part_set.specs.Groups.{group_of}
use Rattle.part_set.specs.Passes.{IsPlainName}
use Rattle.part_set.specs.Shelf.{all_parts}
use Rattle.part_set.proofs.Visibles.{are_shown_moved, clash_moved, none_then}
use Rattle.part_set.proofs.roots.shown_of.Goals as goal

pub pass-requires-clause-plain : goal.pass-requires-clause-plain
pass-requires-clause-plain c =
    let group = unwrap_or (group_of c.args.groups.now c.args.table.now) [] in
    let is : c.as_slice.result.now ≡ group = c.as_slice.ensures ∙ ap (λ (o : Option (List PartName)). unwrap_or o []) c.in-Some.ensures.value in
    let moved = subst (λ (xs : List PartName). IsPermutation xs c.deref.result.now) is (subst (IsPermutation c.as_slice.result.now) (sym c.deref.ensures.value) c.in_ok-sorted.ensures.parts) in
    All-permutation IsPlainName group c.deref.result.now moved c.requires

pub returns-clause-shown : goal.returns-clause-shown
returns-clause-shown c =
    let group = unwrap_or (group_of c.args.groups.now c.args.table.now) [] in
    let is : c.as_slice.result.now ≡ group = c.as_slice.ensures ∙ ap (λ (o : Option (List PartName)). unwrap_or o []) c.in-Some.ensures.value in
    let moved = subst (λ (xs : List PartName). IsPermutation xs c.deref.result.now) is (subst (IsPermutation c.as_slice.result.now) (sym c.deref.ensures.value) c.in_ok-sorted.ensures.parts) in
    IfOk-weaker c.pass.result _ _ (λ found shown. IfSome_then found shown (λ kept are. are_shown_moved group c.deref.result.now (all_parts kept) moved are)) c.pass.ensures.shown

pub returns-clause-clash : goal.returns-clause-clash
returns-clause-clash c =
    let group = unwrap_or (group_of c.args.groups.now c.args.table.now) [] in
    let is : c.as_slice.result.now ≡ group = c.as_slice.ensures ∙ ap (λ (o : Option (List PartName)). unwrap_or o []) c.in-Some.ensures.value in
    let moved = subst (λ (xs : List PartName). IsPermutation xs c.deref.result.now) is (subst (IsPermutation c.as_slice.result.now) (sym c.deref.ensures.value) c.in_ok-sorted.ensures.parts) in
    IfOk-weaker c.pass.result _ _ (λ found clash. none_then found (clash_moved group c.deref.result.now moved) clash) c.pass.ensures.clash
