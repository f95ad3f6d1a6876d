use Rattle.std.proofs.Common.{◌≡◌, ◌<◌, ◌≤◌, List, drop, get_or, length, refl, sym, subst, ◌∙◌, rules}
use Rattle.std.proofs.lemmas.Bool.{false≢true}
use Rattle.std.proofs.lemmas.List.{take_rest}
use Rattle.std.proofs.lemmas.List.Elements.{AllWithin-more, at_read}
use Rattle.part_set.specs.declared.kept.Kept.{Kept}
use Rattle.part_set.proofs.Named.{begins_behind, gone_over, name_behind}
use Rattle.part_set.proofs.shelf.has_name.Goals as goal

pub returns-then-eq : goal.returns-then-eq
returns-then-eq g c =
    let named : c.kept-item.result.name ≡ c.args.name.now = search rules in
    (λ yes. name_behind c.args.parts.now _ c.args.name.now c.start_of-start.result (take_rest c.args.parts.now c.start_of-start.result) c.kept-item.result c.loop-kept.kept-index c.loop-kept-test.true c.kept-item.is named, λ has. refl)

pub returns-then-not-in_order : goal.returns-then-not-in_order
returns-then-not-in_order g c =
    let parts = c.args.parts.now in
    let start = c.start_of-start.result in
    let rest = take_rest parts start in
    let inside = subst (λ (xs : List (Kept g.row.P.Denot)). c.loop-kept.kept-index < length xs) rest c.loop-kept-test.true in
    let is = subst (λ (xs : List (Kept g.row.P.Denot)). c.kept-item.result ≡ get_or xs c.loop-kept.kept-index c.kept-item.result) rest c.kept-item.is in
    let behind = begins_behind parts (drop start parts) c.args.name.now start refl c.start_of-start.ensures.front c.loop-kept.kept-index c.kept-item.result inside is c.loop-kept.invariant (sym c.in_order.ensures ∙ c.if-not-in_order.true) c.requires in
    (λ no. absurd (false≢true no), λ has. absurd (behind has))

pub loop-kept-preserved : goal.loop-kept-preserved
loop-kept-preserved g c =
    let parts = c.args.parts.now in
    let start = c.start_of-start.result in
    let rest = take_rest parts start in
    let other : c.kept-item.result.name ≡ c.args.name.now → ⊥ = search rules in
    let inside = subst (λ (xs : List (Kept g.row.P.Denot)). c.loop-kept.kept-index < length xs) rest c.loop-kept-test.true in
    let is = subst (λ (xs : List (Kept g.row.P.Denot)). c.kept-item.result ≡ get_or xs c.loop-kept.kept-index c.kept-item.result) rest c.kept-item.is in
    AllWithin-more (λ (kept : Kept g.row.P.Denot). kept.name ≡ c.args.name.now → ⊥) (drop start parts) 0 c.loop-kept.kept-index c.loop-kept.invariant
    (at_read (drop start parts) (λ (kept : Kept g.row.P.Denot). kept.name ≡ c.args.name.now → ⊥) c.loop-kept.kept-index c.kept-item.result inside is other)

pub returns : goal.returns
returns g c =
    let parts = c.args.parts.now in
    let start = c.start_of-start.result in
    let end = subst (λ (xs : List (Kept g.row.P.Denot)). length xs ≤ c.loop-kept.kept-index) (take_rest parts start) c.loop-kept-test.false in
    (λ no. absurd (false≢true no), λ has. absurd (gone_over parts (drop start parts) c.args.name.now start refl c.start_of-start.ensures.front c.loop-kept.kept-index end c.loop-kept.invariant has))
