use Rattle.part_history.proofs.Rewriting.{rewritten_order, rewritten_stand}
use Rattle.part_history.proofs.laws.rewritten_parts_stand.Goals as goal

pub returns : goal.returns
returns c = record {
  stand = λ h schema front back source part upto legal there m stands. rewritten_stand h schema front source back upto part legal there m stands;
  order = λ h schema front back source part upto legal there m up. rewritten_order h schema front source back upto part legal there m up;
}
