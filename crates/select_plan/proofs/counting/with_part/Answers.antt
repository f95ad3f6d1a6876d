use Rattle.std.proofs.Common.{◌≡◌, ◌+◌, ◌∙◌, Bool, ap, cond, length, refl, rules}
use Rattle.std.specs.List.{list_any}
use Rattle.select_plan.proofs.Counts.{counts_push, same}
use Rattle.select_plan.proofs.counting.with_part.Goals as goal

pub returns : goal.returns
returns c = λ parts is.
    let n = c.args.counts in
    let part = c.args.chosen.now in
    let byte : c.from.result ≡ cond c.is_some_chosen-is_read.result 1 0 = search rules in
    let any : c.from.result ≡ cond (list_any (λ b. b) part) 1 0 = byte ∙ ap (λ (b : Bool). cond b 1 0) c.is_some_chosen-is_read.ensures in
    let first : c.in_ok-checked_add.field-0 ≡ n.chosen_parts + c.from.result = search rules in
    let second : c.in_ok-checked_add-2.field-0 ≡ n.parts + 1 = search rules in
    let third : c.in_ok-checked_add-3.field-0 ≡ n.chosen_granules + c.count_chosen-read.result = search rules in
    let fourth : c.in_ok-checked_add-4.field-0 ≡ n.granules + length part = search rules in
    same _ _ _ _ _ _ _ _ first second third fourth ∙ counts_push parts part n c.from.result c.count_chosen-read.result (length part) is any c.count_chosen-read.ensures refl
