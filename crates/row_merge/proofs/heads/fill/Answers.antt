use Rattle.std.proofs.Common.{refl}
use Rattle.row_merge.proofs.Refills.{ahead_filled, filled_comparable, filled_others, filled_types}
use Rattle.row_merge.proofs.heads.fill.Goals as goal

pub rank-requires-clause-comparable : goal.rank-requires-clause-comparable
rank-requires-clause-comparable c = filled_comparable c.args.cursors.now c.args.input (record { block = c.args.block; at = 0 }) refl c.args.places.now c.requires.comparable c.requires.columns

pub rank-requires-clause-others : goal.rank-requires-clause-others
rank-requires-clause-others c = filled_others c.args.cursors.now c.args.input (record { block = c.args.block; at = 0 }) refl c.args.places.now c.args.ranked.now.items c.requires.none c.requires.ranked

pub returns-clause-rows : goal.returns-clause-rows
returns-clause-rows c = ahead_filled c.args.cursors.now c.args.input (record { block = c.args.block; at = 0 }) refl

pub returns-clause-comparable : goal.returns-clause-comparable
returns-clause-comparable c = filled_comparable c.args.cursors.now c.args.input (record { block = c.args.block; at = 0 }) refl c.args.places.now c.requires.comparable c.requires.columns

pub returns-clause-types : goal.returns-clause-types
returns-clause-types c = λ types all own. filled_types c.args.cursors.now c.args.input (record { block = c.args.block; at = 0 }) refl types all own
