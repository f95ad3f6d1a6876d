use Rattle.std.proofs.Common.{◌≡◌, ◌+◌, ◌-◌, ◌∙◌, [], ap, ap₂, arith, get_or, length, length-drop, nat_cmp, rules, sym}
use Rattle.std.specs.Ordering.{ordering_then}
use Rattle.std.proofs.lemmas.List.{get_or-drop}
use Rattle.mt_values.specs.Order.{key_cmp}
use Rattle.row_merge.specs.Heads.{ahead_of}
use Rattle.row_merge.specs.Merging.{ahead_at, lead_at}
use Rattle.row_merge.proofs.Cursors.{ahead_is, at_within, columns_there, in_range, lead_is}
use Rattle.row_merge.proofs.Leading.{all_after, comes_first, next_some, own_some}
use Rattle.row_merge.proofs.stretches.count_leading.Goals as goal

pub bounds-cursors-input : goal.bounds-cursors-input
bounds-cursors-input c = in_range c.args.cursors.now c.args.input (own_some c.args.places.now c.args.cursors.now c.args.others.now c.args.input c.requires.ranked)

pub offset_bounds-cursors-input : goal.offset_bounds-cursors-input
offset_bounds-cursors-input c =
    let below = in_range c.args.cursors.now c.args.input (own_some c.args.places.now c.args.cursors.now c.args.others.now c.args.input c.requires.ranked) in
    search rules

-- no other input has a row
pub overflow_sub-result : goal.overflow_sub-result
overflow_sub-result c =
    let cursors = c.args.cursors.now in
    let some = own_some c.args.places.now cursors c.args.others.now c.args.input c.requires.ranked in
    omega (arith, at_within cursors c.args.input c.index-cursors-input.result (in_range cursors c.args.input some) c.index-cursors-input.is some, c.len.ensures.count)

pub returns-in_default-clause-some : goal.returns-in_default-clause-some
returns-in_default-clause-some c =
    let cursors = c.args.cursors.now in
    let some = own_some c.args.places.now cursors c.args.others.now c.args.input c.requires.ranked in
    omega (arith, at_within cursors c.args.input c.index-cursors-input.result (in_range cursors c.args.input some) c.index-cursors-input.is some, c.len.ensures.count)

pub returns-in_default-clause-within : goal.returns-in_default-clause-within
returns-in_default-clause-within c =
    let cursors = c.args.cursors.now in
    let own = c.index-cursors-input.result in
    let some = own_some c.args.places.now cursors c.args.others.now c.args.input c.requires.ranked in
    omega (arith, ap length (ahead_is cursors c.args.input own (in_range cursors c.args.input some) c.index-cursors-input.is), length-drop own.at own.block.rows, c.len.ensures.count)

-- the last of the others
pub bounds-cursors-next : goal.bounds-cursors-next
bounds-cursors-next c = in_range c.args.cursors.now c.in-Some.next.now (next_some c.args.places.now c.args.cursors.now c.args.others.now c.args.input c.requires.ranked c.in-Some.next.now (sym c.in-Some.ensures.value))

pub offset_bounds-cursors-next : goal.offset_bounds-cursors-next
offset_bounds-cursors-next c =
    let below = in_range c.args.cursors.now c.in-Some.next.now (next_some c.args.places.now c.args.cursors.now c.args.others.now c.args.input c.requires.ranked c.in-Some.next.now (sym c.in-Some.ensures.value)) in
    search rules

pub count_before-requires-clause-some : goal.count_before-requires-clause-some
count_before-requires-clause-some c =
    let cursors = c.args.cursors.now in
    let some = own_some c.args.places.now cursors c.args.others.now c.args.input c.requires.ranked in
    at_within cursors c.args.input c.index-cursors-input.result (in_range cursors c.args.input some) c.index-cursors-input.is some

pub count_before-requires-clause-next : goal.count_before-requires-clause-next
count_before-requires-clause-next c =
    let cursors = c.args.cursors.now in
    let next = c.in-Some.next.now in
    let some = next_some c.args.places.now cursors c.args.others.now c.args.input c.requires.ranked next (sym c.in-Some.ensures.value) in
    at_within cursors next c.index-cursors-next.result (in_range cursors next some) c.index-cursors-next.is some

pub count_before-requires-clause-own : goal.count_before-requires-clause-own
count_before-requires-clause-own c =
    let cursors = c.args.cursors.now in
    let some = own_some c.args.places.now cursors c.args.others.now c.args.input c.requires.ranked in
    columns_there cursors c.args.input c.index-cursors-input.result (in_range cursors c.args.input some) c.index-cursors-input.is c.args.places.now c.requires.comparable

pub count_before-requires-clause-other : goal.count_before-requires-clause-other
count_before-requires-clause-other c =
    let cursors = c.args.cursors.now in
    let next = c.in-Some.next.now in
    let some = next_some c.args.places.now cursors c.args.others.now c.args.input c.requires.ranked next (sym c.in-Some.ensures.value) in
    columns_there cursors next c.index-cursors-next.result (in_range cursors next some) c.index-cursors-next.is c.args.places.now c.requires.comparable

pub count_before-requires-clause-leads : goal.count_before-requires-clause-leads
count_before-requires-clause-leads c =
    let places = c.args.places.now in
    let cursors = c.args.cursors.now in
    let input = c.args.input in
    let next = c.in-Some.next.now in
    let some = own_some places cursors c.args.others.now input c.requires.ranked in
    let more = next_some places cursors c.args.others.now input c.requires.ranked next (sym c.in-Some.ensures.value) in
    let own = lead_is cursors input c.index-cursors-input.result (in_range cursors input some) c.index-cursors-input.is in
    let other = lead_is cursors next c.index-cursors-next.result (in_range cursors next more) c.index-cursors-next.is in
    ap₂ (λ a b. ordering_then (key_cmp places a b) c.cmp.result) (sym own) (sym other)
    ∙ ap (ordering_then (key_cmp places (lead_at (ahead_of cursors) input) (lead_at (ahead_of cursors) next))) c.cmp.ensures
    ∙ comes_first places cursors c.args.others.now input c.requires.ranked next (sym c.in-Some.ensures.value)

pub returns-clause-within : goal.returns-clause-within
returns-clause-within c =
    let cursors = c.args.cursors.now in
    let own = c.index-cursors-input.result in
    let some = own_some c.args.places.now cursors c.args.others.now c.args.input c.requires.ranked in
    omega (arith, ap length (ahead_is cursors c.args.input own (in_range cursors c.args.input some) c.index-cursors-input.is), length-drop own.at own.block.rows, c.count_before.ensures.within)

pub returns-clause-leads : goal.returns-clause-leads
returns-clause-leads c =
    let places = c.args.places.now in
    let cursors = c.args.cursors.now in
    let input = c.args.input in
    let next = c.in-Some.next.now in
    let n = c.count_before.result in
    let own = c.index-cursors-input.result in
    let some = own_some places cursors c.args.others.now input c.requires.ranked in
    let more = next_some places cursors c.args.others.now input c.requires.ranked next (sym c.in-Some.ensures.value) in
    let other = lead_is cursors next c.index-cursors-next.result (in_range cursors next more) c.index-cursors-next.is in
    let place : own.at + (n - 1) ≡ own.at + n - 1 = omega (arith, c.count_before.ensures.some) in
    let row = ap (λ xs. get_or xs (n - 1) []) (ahead_is cursors input own (in_range cursors input some) c.index-cursors-input.is) ∙ get_or-drop own.at own.block.rows (n - 1) [] ∙ ap (λ k. get_or own.block.rows k []) place in
    all_after places cursors c.args.others.now input c.requires.ranked next (sym c.in-Some.ensures.value) (get_or (ahead_at (ahead_of cursors) input) (n - 1) [])
    (ap₂ (λ a b. ordering_then (key_cmp places a b) (nat_cmp input next)) row other
    ∙ ap (ordering_then (key_cmp places (get_or own.block.rows (own.at + n - 1) []) (get_or c.index-cursors-next.result.block.rows c.index-cursors-next.result.at []))) (sym c.cmp.ensures)
    ∙ c.count_before.ensures.leads)
