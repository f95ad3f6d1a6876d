-- the statements so far ran to each of the places, and each run of the script goes on from one of them
use Rattle.std.proofs.Common.{drop, take}
use Rattle.part_history.specs.mt_model.History.{History, FewInserts}
use Rattle.part_history.specs.mt_model.Script.{HasNoExplain, ScriptRun}
use Rattle.mt_plain.specs.Plain.{calm}
use Rattle.mt_plain.proofs.Allowing.{GoesOn, RanTo}
use Rattle.mt_plain.proofs.checking.allows.Given as goal

abbrev pub invariant-loop-statement : goal.invariant-loop-statement
invariant-loop-statement l = record {
  ran : RanTo l.history.items (take l.statement-index l.statements) l.printed l.places.items;
  left : (g : History) → FewInserts g → HasNoExplain l.statements → ScriptRun calm l.statements g 0 l.printed → GoesOn g l.history.items (drop l.statement-index l.statements) l.printed l.places.items;
}
