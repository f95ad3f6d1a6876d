use Rattle.std.proofs.Common.{◌∙◌, ◌+◌, ap, arith, length, subst, sym, All, get_or}
use Rattle.std.proofs.lemmas.List.{length_push}
use Rattle.std.proofs.lemmas.List.Elements.{All-push}
use Rattle.part_reader.specs.declared.ahead.Ahead.{Ahead}
use Rattle.part_reader.specs.Ahead.{IsAhead}
use Rattle.part_reader.proofs.part_rows.none_ahead.Goals as goal

pub loop-column-preserved : goal.loop-column-preserved
loop-column-preserved c =
    let items = c.loop-column.aheads.items in
    let new = c.none.result in
    record {
      count = ap length c.in_ok-push.ensures.items ∙ length_push items new ∙ ap (λ n. n + 1) c.loop-column.invariant.count;
      none = λ told most number.
          subst (All (λ (a : Ahead). IsAhead told most number a)) (sym c.in_ok-push.ensures.items)
          (All-push (λ (a : Ahead). IsAhead told most number a) items new (c.loop-column.invariant.none told most number) (c.none.ensures told most number));
    }

pub returns : goal.returns
returns c = λ told most places many.
    record {
      even = omega (arith, c.loop-column.invariant.count, many);
      each = λ k d lt. c.loop-column.invariant.none told most (get_or places k 0) k d (omega (arith, c.loop-column.invariant.count, many));
    }
