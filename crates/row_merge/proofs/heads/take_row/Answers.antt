use Rattle.std.proofs.Common.{◌≡◌, ◌-◌, ◌∙◌, [], ap, append-nil, arith, get_or, refl, rules, set, subst, take}
use Rattle.std.proofs.lemmas.List.{length-set}
use Rattle.row_merge.specs.Heads.{ahead_of}
use Rattle.row_merge.specs.Merging.{AreRanked}
use Rattle.row_merge.proofs.Cursors.{at_within, others_ranked, row_typed, still_comparable, takes_first, types_stay}
use Rattle.row_merge.proofs.Ranking.{none_ranked}
use Rattle.row_merge.proofs.Refills.{is_there, last_ahead, last_ranked, last_within}
use Rattle.row_merge.proofs.heads.take_row.Goals as goal

pub returns-in_default-clause-takes : goal.returns-in_default-clause-takes
returns-in_default-clause-takes c =
    let ranked = c.args.ranked.now.items in
    let popped : c.pop.new.self.items ≡ [] = c.in_default.ensures.rest ∙ ap (λ n. take (n - 1) ranked) c.in_default.ensures.cases.0 in
    let none : ranked ≡ [] = c.in_default.ensures.items ∙ append-nil c.pop.new.self.items ∙ popped in
    record { none = none_ranked c.args.places.now (ahead_of c.args.cursors.now) (subst (AreRanked c.args.places.now (ahead_of c.args.cursors.now)) none c.requires.ranked); same = refl }

pub returns-in_default-clause-types : goal.returns-in_default-clause-types
returns-in_default-clause-types c = λ types all. all

pub bounds-cursors-input : goal.bounds-cursors-input
bounds-cursors-input c = last_within c.args.places.now c.args.cursors.now c.args.ranked.now.items c.pop.new.self.items c.in-Some.input c.in-Some.ensures.items c.requires.ranked

pub offset_bounds-cursors-input : goal.offset_bounds-cursors-input
offset_bounds-cursors-input c =
    let below = last_within c.args.places.now c.args.cursors.now c.args.ranked.now.items c.pop.new.self.items c.in-Some.input c.in-Some.ensures.items c.requires.ranked in
    search rules

pub take_first-requires : goal.take_first-requires
take_first-requires c =
    let places = c.args.places.now in
    let cursors = c.args.cursors.now in
    let input = c.in-Some.input in
    let below = last_within places cursors c.args.ranked.now.items c.pop.new.self.items input c.in-Some.ensures.items c.requires.ranked in
    let any = c.index-cursors-input.result in
    at_within cursors input (get_or cursors input any) below (is_there cursors input any below) (last_ahead places cursors c.args.ranked.now.items c.pop.new.self.items input c.in-Some.ensures.items c.requires.ranked)

pub rank-requires-clause-comparable : goal.rank-requires-clause-comparable
rank-requires-clause-comparable c =
    let places = c.args.places.now in
    let cursors = c.args.cursors.now in
    let input = c.in-Some.input in
    let below = last_within places cursors c.args.ranked.now.items c.pop.new.self.items input c.in-Some.ensures.items c.requires.ranked in
    let any = c.index-cursors-input.result in
    still_comparable cursors input (get_or cursors input any) below (is_there cursors input any below) (set cursors input c.take_first.new.cursor) (ap (set cursors input) c.in_ok-row.ensures.moved) places c.requires.comparable

pub rank-requires-clause-within : goal.rank-requires-clause-within
rank-requires-clause-within c =
    let cursors = c.args.cursors.now in
    let input = c.in-Some.input in
    let below = last_within c.args.places.now cursors c.args.ranked.now.items c.pop.new.self.items input c.in-Some.ensures.items c.requires.ranked in
    omega (arith, below, length-set cursors input c.take_first.new.cursor)

pub rank-requires-clause-others : goal.rank-requires-clause-others
rank-requires-clause-others c =
    let places = c.args.places.now in
    let cursors = c.args.cursors.now in
    let input = c.in-Some.input in
    let others = c.pop.new.self.items in
    let below = last_within places cursors c.args.ranked.now.items others input c.in-Some.ensures.items c.requires.ranked in
    let any = c.index-cursors-input.result in
    others_ranked cursors input (get_or cursors input any) below (is_there cursors input any below) (set cursors input c.take_first.new.cursor) (ap (set cursors input) c.in_ok-row.ensures.moved) places others
    (last_ranked places cursors c.args.ranked.now.items others input c.in-Some.ensures.items c.requires.ranked)

pub returns-clause-takes : goal.returns-clause-takes
returns-clause-takes c =
    let places = c.args.places.now in
    let cursors = c.args.cursors.now in
    let input = c.in-Some.input in
    let others = c.pop.new.self.items in
    let below = last_within places cursors c.args.ranked.now.items others input c.in-Some.ensures.items c.requires.ranked in
    let any = c.index-cursors-input.result in
    takes_first cursors input (get_or cursors input any) below (is_there cursors input any below) (set cursors input c.take_first.new.cursor) (ap (set cursors input) c.in_ok-row.ensures.moved) places others c.in_ok-row.row
    (last_ranked places cursors c.args.ranked.now.items others input c.in-Some.ensures.items c.requires.ranked) c.in_ok-row.ensures.row

pub returns-clause-typed : goal.returns-clause-typed
returns-clause-typed c = λ types all.
    let cursors = c.args.cursors.now in
    let input = c.in-Some.input in
    let below = last_within c.args.places.now cursors c.args.ranked.now.items c.pop.new.self.items input c.in-Some.ensures.items c.requires.ranked in
    let any = c.index-cursors-input.result in
    c.in_ok-row.ensures.typed ∙ row_typed cursors input (get_or cursors input any) below (is_there cursors input any below) types all

pub returns-clause-types : goal.returns-clause-types
returns-clause-types c =
    let cursors = c.args.cursors.now in
    let input = c.in-Some.input in
    let below = last_within c.args.places.now cursors c.args.ranked.now.items c.pop.new.self.items input c.in-Some.ensures.items c.requires.ranked in
    let any = c.index-cursors-input.result in
    types_stay cursors input (get_or cursors input any) below (is_there cursors input any below) (set cursors input c.take_first.new.cursor) (ap (set cursors input) c.in_ok-row.ensures.moved)
