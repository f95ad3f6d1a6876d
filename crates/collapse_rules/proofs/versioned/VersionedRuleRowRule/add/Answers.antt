use Rattle.std.proofs.Common.{◌≡◌, ◌-◌, ◌++◌, ◌∷◌, [], false, true, sym, take, ap, ◌∙◌}
use Rattle.std.specs.Cmp.{booleans_Decides}
use Rattle.collapse_rules.proofs.Pairs.{first_kept, less_kept, more_kept}
use Rattle.collapse_rules.proofs.versioned.VersionedRuleRowRule.add.Goals as goal

clash : true ≡ false → ⊥
clash e = cc

pub returns-in_default : goal.returns-in_default
returns-in_default c = λ rows all h before.
    let none : c.pop.new.self.items ≡ [] = c.in_default.ensures.rest ∙ ap (λ n. take (n - 1) c.args.kept.now.items) c.in_default.ensures.cases.0 in
    first_kept c.args.self.now.sign rows c.args.kept.now.items c.push.new.self.items c.args.row.now h before
    (c.in_default.ensures.items ∙ ap (λ zs. zs ++ []) none)
    (c.in_ok-push.ensures.items ∙ ap (λ zs. zs ++ c.in_ok-twin.field-0 ∷ []) none ∙ ap (λ r. r ∷ []) c.in_ok-twin.ensures)

pub returns-in_ok-push-3 : goal.returns-in_ok-push-3
returns-in_ok-push-3 c = λ rows all h before.
    more_kept c.args.self.now.sign rows c.pop.new.self.items c.args.kept.now.items c.push-then-is_state-2.new.self.items c.in-Some.last c.args.row.now h before
    c.in-Some.ensures.items
    (sym c.is_state.ensures ∙ (booleans_Decides c.is_state.result c.is_state-2.result).0 c.if-is_state.true ∙ c.is_state-2.ensures)
    (c.in_ok-push-3.ensures.items ∙ ap (λ zs. zs ++ c.in_ok-twin-2.field-0 ∷ []) c.in_ok-push-2.ensures.items
    ∙ ap (λ r. (c.pop.new.self.items ++ c.in-Some.last ∷ []) ++ r ∷ []) c.in_ok-twin-2.ensures)

pub returns-else-is_state : goal.returns-else-is_state
returns-else-is_state c = λ rows all h before.
    less_kept c.args.self.now.sign rows c.args.kept.now.items c.pop.new.self.items c.in-Some.last c.args.row.now h before c.in-Some.ensures.items
    (λ e. clash (sym ((booleans_Decides c.is_state.result c.is_state-2.result).1 (c.is_state.ensures ∙ e ∙ sym c.is_state-2.ensures)) ∙ c.if-is_state.false))
