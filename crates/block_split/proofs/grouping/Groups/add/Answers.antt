use Rattle.std.proofs.Common.{◌≡◌, ◌<◌, ◌++◌, ◌∷◌, [], true, false, cond, List, ℕ, length, nat_eq, set, refl, sym, ap, ◌∙◌, arith}
use Rattle.std.specs.List.{list_any, position_or_len}
use Rattle.std.proofs.lemmas.List.{length-map}
use Rattle.block_split.specs.declared.grouping.Group.{Group}
use Rattle.block_split.proofs.Placing.{is_there, not_new, numbers_in, numbers_stay, placed_new, placed_there}
use Rattle.block_split.proofs.grouping.Groups.add.Goals as goal

pub returns-then-is_new-clause-groups : goal.returns-then-is_new-clause-groups
returns-then-is_new-clause-groups c =
    let gs = c.args.self.now.groups.items in
    let number = c.args.number in
    let unseen : list_any (nat_eq number) c.args.self.now.numbers.keys ≡ false = not_new _ (sym c.in_ok-at.ensures.added ∙ c.if-is_new.true) in
    let none : list_any (nat_eq number) (numbers_in gs) ≡ false = ap (list_any (nat_eq number)) (sym c.requires) ∙ unseen in
    let places : c.push.new.self ≡ c.args.place ∷ [] = c.in_ok-push.ensures.ok ∙ ap (λ (xs : List ℕ). xs ++ c.args.place ∷ []) c.new-places.ensures in
    c.in_ok-push-2.ensures.items
    ∙ ap (λ (ps : List ℕ). gs ++ record { number = number; places = ps } ∷ []) places
    ∙ sym (placed_new number c.args.place gs none)

pub returns-clause-numbers : goal.returns-clause-numbers
returns-clause-numbers c =
    let gs = c.args.self.now.groups.items in
    let number = c.args.number in
    let keys = c.args.self.now.numbers.keys in
    let group = c.index_mut.result.now in
    let seen : list_any (nat_eq number) keys ≡ true = is_there _ (sym c.in_ok-at.ensures.added ∙ c.if-is_new.false) in
    c.in_ok-at.ensures.keys
    ∙ ap (λ b. cond b keys (keys ++ number ∷ [])) seen
    ∙ c.requires
    ∙ sym (numbers_stay gs c.in_ok-at.at group (record { number = group.number; places = c.push-2.new.self }) c.index_mut.ensures.value refl)

pub returns-clause-groups : goal.returns-clause-groups
returns-clause-groups c =
    let gs = c.args.self.now.groups.items in
    let number = c.args.number in
    let keys = c.args.self.now.numbers.keys in
    let group = c.index_mut.result.now in
    let at = c.in_ok-at.at in
    let seen : list_any (nat_eq number) keys ≡ true = is_there _ (sym c.in_ok-at.ensures.added ∙ c.if-is_new.false) in
    let stay : c.insert_full.new.self.keys ≡ keys = c.in_ok-at.ensures.keys ∙ ap (λ b. cond b keys (keys ++ number ∷ [])) seen in
    let below : at < length gs = omega (arith, c.in_ok-at.ensures.within, ap length stay, ap length c.requires, length-map gs (λ (g : Group). g.number)) in
    let here : at ≡ position_or_len (nat_eq number) (numbers_in gs) = c.in_ok-at.ensures.index ∙ ap (position_or_len (nat_eq number)) c.requires in
    ap (λ (ps : List ℕ). set gs at (record { number = group.number; places = ps })) c.in_ok-push-3.ensures.ok
    ∙ sym (placed_there number c.args.place gs at group here below c.index_mut.ensures.value)
