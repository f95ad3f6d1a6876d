use Rattle.std.proofs.Common.{◌∙◌, sym, arith}
use Rattle.std.proofs.lemmas.Bool.{false≢true}
use Rattle.merge_select.specs.Wishes.{wished_of}
use Rattle.merge_select.proofs.Places.{none_less, takes_within}
use Rattle.merge_select.proofs.pairs.last_pair.Goals as goal

pub loop-next-init : goal.loop-next-init
loop-next-init g c = record {
  within = omega arith;
  none = λ k above takes.
      let within = takes_within g.P.Rows.row_count (wished_of c.args.wish.now) c.args.wish.now.policy c.args.parts.now k takes in
      omega arith;
}

pub loop-next-preserved : goal.loop-next-preserved
loop-next-preserved g c = record {
  within = omega arith;
  none = none_less g.P.Rows.row_count (wished_of c.args.wish.now) c.args.wish.now.policy c.args.parts.now c.loop-next.next (omega arith) c.loop-next.invariant.none
      (λ takes. false≢true (sym c.if-takes_at.false ∙ c.takes_at.ensures.1 takes));
}

pub returns-then-takes_at : goal.returns-then-takes_at
returns-then-takes_at g c = record {
  none = tt;
  takes = c.takes_at.ensures.0 c.if-takes_at.true;
  last = λ k above. c.loop-next.invariant.none k (omega arith);
}

pub returns : goal.returns
returns g c = record {
  none = λ k takes. c.loop-next.invariant.none k (omega arith) takes;
  takes = tt;
  last = tt;
}
