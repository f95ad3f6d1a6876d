use Rattle.merge_select.specs.Wishes.{wished_of}
use Rattle.merge_select.proofs.Places.{takes_not_free, takes_tested}
use Rattle.merge_select.proofs.pairs.takes_at.Goals as goal

pub returns-then-is_free : goal.returns-then-is_free
returns-then-is_free g c =
    takes_tested g.P.Rows.row_count (wished_of c.args.wish.now) c.args.wish.now.policy c.args.parts.now c.args.place c.rows.result c.rows-then-is_free.result c.index-parts-place.result c.index-parts-place-2.result c.suits.result
    c.index-parts-place.is c.index-parts-place-2.is c.requires c.rows.ensures c.rows-then-is_free.ensures (c.is_free.ensures.0 c.if-is_free.true) c.suits.ensures

pub returns-else-is_free : goal.returns-else-is_free
returns-else-is_free g c =
    takes_not_free g.P.Rows.row_count (wished_of c.args.wish.now) c.args.wish.now.policy c.args.parts.now c.args.place c.index-parts-place.result c.index-parts-place-2.result c.is_free.result
    c.index-parts-place.is c.index-parts-place-2.is c.requires c.if-is_free.false c.is_free.ensures
