use Rattle.part_history.proofs.Apart.{ends_below, may_have, stand_apart}
use Rattle.part_history.proofs.laws.parts_stand_apart.Goals as goal

pub returns : goal.returns
returns c = record { may = may_have; below = ends_below; before = λ h table parts i j a b stands. stand_apart h table parts stands i j a b }
