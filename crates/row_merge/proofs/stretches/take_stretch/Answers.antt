use Rattle.std.proofs.Common.{◌≡◌, ◌+◌, ◌-◌, ◌∙◌, [], ap, append-nil, arith, get_or, refl, set, subst, sym, take}
use Rattle.row_merge.specs.Heads.{ahead_of}
use Rattle.row_merge.specs.Merging.{AreRanked, RowLeads, ahead_at}
use Rattle.row_merge.specs.Stretches.{TakesStretch}
use Rattle.row_merge.proofs.Leading.{others_still, stretch_taken}
use Rattle.row_merge.proofs.Ranking.{none_ranked}
use Rattle.row_merge.proofs.Refills.{is_there, last_ranked, last_within}
use Rattle.row_merge.proofs.stretches.take_stretch.Goals as goal

pub returns-in_default-clause-takes : goal.returns-in_default-clause-takes
returns-in_default-clause-takes c =
    let ranked = c.args.ranked.now.items in
    let popped : c.pop.new.self.items ≡ [] = c.in_default.ensures.rest ∙ ap (λ n. take (n - 1) ranked) c.in_default.ensures.cases.0 in
    let none : ranked ≡ [] = c.in_default.ensures.items ∙ append-nil c.pop.new.self.items ∙ popped in
    record { none = none_ranked c.args.places.now (ahead_of c.args.cursors.now) (subst (AreRanked c.args.places.now (ahead_of c.args.cursors.now)) none c.requires.ranked); same = refl }

pub rank-requires-clause-others : goal.rank-requires-clause-others
rank-requires-clause-others c =
    others_still c.args.places.now c.args.cursors.now c.pop.new.self.items c.in-Some.input
    (last_ranked c.args.places.now c.args.cursors.now c.args.ranked.now.items c.pop.new.self.items c.in-Some.input c.in-Some.ensures.items c.requires.ranked) c.go_on-from.new.cursor

pub overflow_add-result : goal.overflow_add-result
overflow_add-result c = let few = c.go_on-from.ensures.few in omega (arith, few)

pub returns-clause-takes : goal.returns-clause-takes
returns-clause-takes c =
    let places = c.args.places.now in
    let cursors = c.args.cursors.now in
    let input = c.in-Some.input in
    let others = c.pop.new.self.items in
    let ranked = last_ranked places cursors c.args.ranked.now.items others input c.in-Some.ensures.items c.requires.ranked in
    let below = last_within places cursors c.args.ranked.now.items others input c.in-Some.ensures.items c.requires.ranked in
    let any = c.index-cursors-input.result in
    let own = get_or cursors input any in
    let moved = c.go_on-from.new.cursor in
    let count = c.count_leading-count in
    subst (λ n. TakesStretch places cursors (set cursors input moved) (record { input = input; from = n; to = n + count.result })) (sym c.go_on-from.ensures.from)
    (stretch_taken places cursors others input ranked own moved count.result below (is_there cursors input any below) c.go_on-from.ensures.moved count.ensures.some count.ensures.within
    (subst (λ xs. RowLeads places (ahead_of cursors) input xs (get_or (ahead_at (ahead_of cursors) input) (count.result - 1) [])) c.deref.ensures.value count.ensures.leads))
