-- what is left to do, and what was accepted so far
use Rattle.std.proofs.Common.{◌≡◌, ◌+◌, length}
use Rattle.std.specs.Vec.Iter.{into_iter_items}
use Rattle.mt_plain.specs.Plain.{Grows, after_turns}
use Rattle.mt_plain.proofs.turns.accept.Given as goal

abbrev pub invariant-loop-command : goal.invariant-loop-command
invariant-loop-command l = record {
  so_far : after_turns l.accepted (into_iter_items l.command-iterator) l.history.items ≡ after_turns 0 l.fn.commands.items l.fn.history.items;
  grows : Grows l.fn.history.items l.history.items;
  few : l.accepted + length (into_iter_items l.command-iterator) ≡ length l.fn.commands.items;
}
