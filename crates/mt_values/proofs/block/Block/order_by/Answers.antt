use Rattle.std.proofs.Common.{◌≡◌, [], List, ℕ, Vec, Global, length, map, sym, ap, ◌∙◌, arith, is_lt, rules, subst}
use Rattle.std.specs.List.{range_with_len}
use Rattle.std.proofs.lemmas.Bool.Decides.{nat_tests}
use Rattle.std.proofs.lemmas.Fn.{always_returns_same}
use Rattle.std.proofs.lemmas.List.{nil_from_length}
use Rattle.std.proofs.lemmas.Result.{IfOk-weaker}
use Rattle.mt_values.specs.Grid.{IsOrderBy}
use Rattle.mt_values.specs.Sorting.{pair_cmp}
use Rattle.mt_values.specs.Values.{Row}
use Rattle.mt_values.proofs.OrderBy.{pair_weak, order_of_pairs, order_of_none}
use Rattle.mt_values.proofs.block.Block.order_by.Goals as goal

-- by no columns the places are in order
by_none : (columns : List ℕ) (rows : List Row) (order : List ℕ) → columns ≡ [] → order ≡ range_with_len 0 (length rows) → IsOrderBy columns rows order
by_none columns rows order e f = rw (e, f) (order_of_none rows)

pub returns-then-is_empty : goal.returns-then-is_empty
returns-then-is_empty c =
    let rows = c.args.self.now.rows in
    let none : c.args.columns.now ≡ [] =
    nil_from_length c.args.columns.now (grind (arith, nat_tests, c.is_empty.ensures, c.if-is_empty.true)) in
    IfOk-weaker c.all_places.result (λ (v : Vec ℕ Global). v.items ≡ range_with_len 0 c.len-rows.result) (λ (v : Vec ℕ Global). IsOrderBy c.args.columns.now rows v.items)
    (λ v e. by_none c.args.columns.now rows v.items none (e ∙ ap (range_with_len 0) c.len-rows.ensures.count)) c.all_places.ensures

pub returns : goal.returns
returns c =
    let block = c.args.self.now in
    let columns = c.args.columns.now in
    let lt = λ (p q : ℕ × ℕ). is_lt (pair_cmp columns block.rows p q) in
    let weak = pair_weak columns block.rows in
    let sorted = c.in_ok-sort_by.ensures.sorted lt weak (always_returns_same _ _ _ (λ a r f h. search rules)) in
    let stable = c.in_ok-sort_by.ensures.stable lt weak (always_returns_same _ _ _ (λ a r f h. search rules)) in
    let order = order_of_pairs columns block.types block.rows c.in_ok-pairs.pairs.items c.sort_by.new.self.items c.len-rows.ensures.typed c.requires c.in_ok-pairs.ensures c.in_ok-sort_by.ensures.permutation sorted stable in
    IfOk-weaker c.places_of.result (λ (v : Vec ℕ Global). v.items ≡ map (λ (p : ℕ × ℕ). p.1) c.deref.result.now) (λ (v : Vec ℕ Global). IsOrderBy columns block.rows v.items)
    (λ v e. subst (IsOrderBy columns block.rows) (sym (e ∙ ap (map (λ (p : ℕ × ℕ). p.1)) c.deref.ensures.value)) order) c.places_of.ensures
