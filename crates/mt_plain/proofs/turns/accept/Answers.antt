use Rattle.std.proofs.Common.{◌≡◌, None, ap, length, sym, ◌∙◌, arith}
use Rattle.std.specs.Vec.Iter.{into_iter_items}
use Rattle.part_history.specs.mt_model.History.{History}
use Rattle.mt_plain.specs.Plain.{after_turns, unmerged_turn}
use Rattle.mt_plain.proofs.Turning.{grows_one, turn_taken}
use Rattle.mt_plain.proofs.turns.accept.Goals as goal

pub loop-command-preserved : goal.loop-command-preserved
loop-command-preserved c =
    let h = c.loop-command.history.items in
    let new = c.enter.new.history.items in
    let accepted = c.loop-command.accepted in
    let command = c.in-Some.command in
    let left = into_iter_items c.loop-command.command-iterator in
    let rest = into_iter_items c.next.new.self in
    let turn : unmerged_turn h accepted command ≡ None = ap (λ (x : History). unmerged_turn x accepted command) (sym c.deref.ensures.value) ∙ sym c.in_ok-refusal.ensures ∙ c.in_default.is in
    let long = ap length c.in-Some.ensures.steps.0 in
    record {
      so_far = turn_taken accepted command rest left h new (after_turns 0 c.args.commands.items c.args.history.now.items) c.in-Some.ensures.steps.0 c.loop-command.invariant.so_far turn c.in_ok-enter.ensures.ok;
      grows = grows_one c.args.history.now.items h new command c.loop-command.invariant.grows c.in_ok-enter.ensures.ok;
      few = omega (arith, long, c.loop-command.invariant.few);
    }
