use Rattle.std.proofs.lemmas.Option.{IfSome_then}
use Rattle.merge_select.specs.Wishes.{wished_of}
use Rattle.merge_select.proofs.Places.{chosen, prefers_first, prefers_last}
use Rattle.merge_select.proofs.pairs.pick_in.Goals as goal

pub returns-in-Near : goal.returns-in-Near
returns-in-Near g c = record {
  none = c.first_pair.ensures.none;
  some = chosen g.P.Rows.row_count (wished_of c.args.wish.now) c.args.wish.now.policy c.args.parts.now c.first_pair.result c.first_pair.ensures.takes
      (IfSome_then c.first_pair.result c.first_pair.ensures.first (λ place none k prefers. none k (prefers_first c.args.wish.now.policy c.in-Near.is k place prefers)));
}

pub returns-in-Tail-clause-some : goal.returns-in-Tail-clause-some
returns-in-Tail-clause-some g c =
    chosen g.P.Rows.row_count (wished_of c.args.wish.now) c.args.wish.now.policy c.args.parts.now c.last_pair.result c.last_pair.ensures.takes
    (IfSome_then c.last_pair.result c.last_pair.ensures.last (λ place none k prefers. none k (prefers_last c.args.wish.now.policy c.in-Tail.is k place prefers)))
