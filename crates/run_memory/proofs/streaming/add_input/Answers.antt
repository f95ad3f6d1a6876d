use Rattle.std.proofs.Common.{sym, subst}
use Rattle.mt_values.specs.Grid.{AreRowsOf}
use Rattle.run_memory.proofs.Streamed.{one_more}
use Rattle.run_memory.proofs.streaming.add_input.Goals as goal

pub returns : goal.returns
returns c = λ types is all.
    let own = subst (λ t. AreRowsOf t c.args.block.now.rows) is c.len-count.ensures.typed in
    one_more types c.args.inputs.now.rows.items c.push-2.new.self.items c.in_ok-rows.rows c.in_ok-push-2.ensures.items all (subst (AreRowsOf types) (sym c.in_ok-rows.ensures) own)
