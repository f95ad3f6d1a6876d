use Rattle.std.proofs.Common.{◌∙◌, sym, arith}
use Rattle.std.proofs.lemmas.Bool.{false≢true}
use Rattle.merge_select.specs.Wishes.{wished_of}
use Rattle.merge_select.proofs.Places.{none_more, takes_within}
use Rattle.merge_select.proofs.pairs.first_pair.Goals as goal

pub loop-next-preserved : goal.loop-next-preserved
loop-next-preserved g c =
    none_more g.P.Rows.row_count (wished_of c.args.wish.now) c.args.wish.now.policy c.args.parts.now c.loop-next.next (omega arith) c.loop-next.invariant
    (λ takes. false≢true (sym c.if-takes_at.false ∙ c.takes_at.ensures.1 takes))

pub returns-then-takes_at : goal.returns-then-takes_at
returns-then-takes_at g c = record {
  none = tt;
  takes = c.takes_at.ensures.0 c.if-takes_at.true;
  first = λ k below. c.loop-next.invariant k (omega arith);
}

pub returns : goal.returns
returns g c = record {
  none = λ k takes.
      let within = takes_within g.P.Rows.row_count (wished_of c.args.wish.now) c.args.wish.now.policy c.args.parts.now k takes in
      c.loop-next.invariant k (omega arith) takes;
  takes = tt;
  first = tt;
}
