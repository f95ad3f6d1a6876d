use Rattle.std.proofs.Common.{◌≡◌, ◌∙◌, ◌+◌, ◌++◌, ◌∷◌, [], ap, arith, length, length-append, sym}
use Rattle.std.specs.List.{range_with_len}
use Rattle.mt_values.proofs.Grids.{range_more}
use Rattle.row_merge.proofs.copied.count_to.Goals as goal

pub numbers-preserved : goal.numbers-preserved
numbers-preserved c =
    let before = c.numbers.order.items in
    let next : c.len-next.result ≡ length before = omega (arith, c.len-next.ensures, c.numbers.order.ok.0) in
    let items : c.push.new.self.items ≡ before ++ length before ∷ [] = c.in_ok-push.ensures.items ∙ ap (λ k. before ++ k ∷ []) next in
    let long : length c.push.new.self.items ≡ length before + 1 = omega (arith, ap length items, length-append before (length before ∷ [])) in
    items ∙ ap (λ xs. xs ++ length before ∷ []) c.numbers.invariant ∙ sym (range_more (length before)) ∙ ap (range_with_len 0) (sym long)
