use Rattle.std.proofs.Common.{◌≡◌, Ok, subst}
use Rattle.mt_values.specs.declared.statement.Statement.TheVariants as statement
use Rattle.part_history.specs.mt_model.Commands.{commands_of}
use Rattle.part_history.specs.mt_model.History.{History}
use Rattle.mt_plain.specs.Plain.{TookTurns}
use Rattle.mt_plain.proofs.Steps.{commands_take, when_ok}
use Rattle.mt_plain.proofs.running.step_insert.Goals as goal

pub returns-in-Ok-clause-takes : goal.returns-in-Ok-clause-takes
returns-in-Ok-clause-takes c =
    let h = c.args.history.now.items in
    let new = c.take_turns.new.history.items in
    let cs = c.in-Ok.commands.items in
    let s = statement.Insert c.args.insert.now in
    let given = c.in-Ok.ensures.given in
    let gives : commands_of h s ≡ Ok cs = subst (λ (x : History). commands_of x s ≡ Ok cs) c.deref.ensures.value given in
    when_ok c.take_turns.result (λ reply. TookTurns cs h new reply.items) _ (λ reply took. commands_take h new s cs reply.items gives took) c.take_turns.ensures.took
