use Rattle.std.proofs.Common.{◌≡◌, ◌-◌, ◌+◌, ◌^◌, ◌<◌, ◌∙◌, ◌∷◌, [], ap, append-nil, arith, get_or, length, length-append, rules, set, subst, sym, take}
use Rattle.std.proofs.lemmas.List.{length-set}
use Rattle.row_merge.specs.Heads.{ahead_of}
use Rattle.row_merge.specs.Stretches.{TakesPlace}
use Rattle.row_merge.proofs.Cursors.{at_within, still_comparable, types_stay}
use Rattle.row_merge.proofs.Leading.{others_still}
use Rattle.row_merge.proofs.Passed.{place_taken, two_ahead}
use Rattle.row_merge.proofs.Refills.{is_there, last_ahead, last_ranked, last_within}
use Rattle.row_merge.proofs.stretches.take_place.Goals as goal

pub unreachable-requires : goal.unreachable-requires
unreachable-requires c =
    let ranked = c.args.ranked.now.items in
    let a = c.requires.another in
    let popped : c.pop.new.self.items ≡ [] = c.in_default.ensures.rest ∙ ap (λ n. take (n - 1) ranked) c.in_default.ensures.cases.0 in
    let none : ranked ≡ [] = c.in_default.ensures.items ∙ append-nil c.pop.new.self.items ∙ popped in
    absurd (omega (arith, ap length none, ap length a.ranked_is, length-append a.others (a.input ∷ [])))

pub bounds-cursors-input : goal.bounds-cursors-input
bounds-cursors-input c = last_within c.args.places.now c.args.cursors.now c.args.ranked.now.items c.pop.new.self.items c.in-Some.input c.in-Some.ensures.items c.requires.ranked

pub offset_bounds-cursors-input : goal.offset_bounds-cursors-input
offset_bounds-cursors-input c =
    let below = last_within c.args.places.now c.args.cursors.now c.args.ranked.now.items c.pop.new.self.items c.in-Some.input c.in-Some.ensures.items c.requires.ranked in
    search rules

pub go_on-at-requires : goal.go_on-at-requires
go_on-at-requires c =
    let places = c.args.places.now in
    let cursors = c.args.cursors.now in
    let input = c.in-Some.input in
    let below = last_within places cursors c.args.ranked.now.items c.pop.new.self.items input c.in-Some.ensures.items c.requires.ranked in
    let any = c.index-cursors-input.result in
    let own = get_or cursors input any in
    let some : own.at < length own.block.rows = at_within cursors input own below (is_there cursors input any below) (last_ahead places cursors c.args.ranked.now.items c.pop.new.self.items input c.in-Some.ensures.items c.requires.ranked) in
    omega (arith, some)

pub rank-requires-clause-comparable : goal.rank-requires-clause-comparable
rank-requires-clause-comparable c =
    let places = c.args.places.now in
    let cursors = c.args.cursors.now in
    let input = c.in-Some.input in
    let below = last_within places cursors c.args.ranked.now.items c.pop.new.self.items input c.in-Some.ensures.items c.requires.ranked in
    let any = c.index-cursors-input.result in
    still_comparable cursors input (get_or cursors input any) below (is_there cursors input any below) (set cursors input c.go_on-at.new.cursor) (ap (set cursors input) c.go_on-at.ensures.moved) places c.requires.comparable

pub rank-requires-clause-within : goal.rank-requires-clause-within
rank-requires-clause-within c =
    let cursors = c.args.cursors.now in
    let input = c.in-Some.input in
    let below = last_within c.args.places.now cursors c.args.ranked.now.items c.pop.new.self.items input c.in-Some.ensures.items c.requires.ranked in
    omega (arith, below, length-set cursors input c.go_on-at.new.cursor)

pub rank-requires-clause-others : goal.rank-requires-clause-others
rank-requires-clause-others c =
    others_still c.args.places.now c.args.cursors.now c.pop.new.self.items c.in-Some.input
    (last_ranked c.args.places.now c.args.cursors.now c.args.ranked.now.items c.pop.new.self.items c.in-Some.input c.in-Some.ensures.items c.requires.ranked) c.go_on-at.new.cursor

pub returns-clause-takes : goal.returns-clause-takes
returns-clause-takes c =
    let places = c.args.places.now in
    let cursors = c.args.cursors.now in
    let input = c.in-Some.input in
    let others = c.pop.new.self.items in
    let ranked = last_ranked places cursors c.args.ranked.now.items others input c.in-Some.ensures.items c.requires.ranked in
    let below = last_within places cursors c.args.ranked.now.items others input c.in-Some.ensures.items c.requires.ranked in
    let any = c.index-cursors-input.result in
    let own = get_or cursors input any in
    let moved = c.go_on-at.new.cursor in
    let few : own.at + 1 < 2 ^ 32 = omega (arith, c.go_on-at.ensures.few, c.go_on-at.ensures.from) in
    subst (λ n. TakesPlace places cursors (set cursors input moved) (record { input = input; at = n })) (sym c.go_on-at.ensures.from)
    (place_taken places cursors others input own moved ranked below (is_there cursors input any below) few c.go_on-at.ensures.typed
    (two_ahead (ahead_of cursors) c.args.ranked.now.items others input c.in-Some.ensures.items c.requires.another) c.go_on-at.ensures.moved)

pub returns-clause-types : goal.returns-clause-types
returns-clause-types c =
    let cursors = c.args.cursors.now in
    let input = c.in-Some.input in
    let below = last_within c.args.places.now cursors c.args.ranked.now.items c.pop.new.self.items input c.in-Some.ensures.items c.requires.ranked in
    let any = c.index-cursors-input.result in
    types_stay cursors input (get_or cursors input any) below (is_there cursors input any below) (set cursors input c.go_on-at.new.cursor) (ap (set cursors input) c.go_on-at.ensures.moved)
