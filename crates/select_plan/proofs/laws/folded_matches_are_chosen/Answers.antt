use Rattle.select_plan.proofs.FoldedMatches.{folded_chosen}
use Rattle.select_plan.proofs.laws.folded_matches_are_chosen.Goals as goal

pub returns : goal.returns
returns c = λ schema partition asked rows has sound part named row typed parted meets granule any.
    folded_chosen schema row partition asked rows has sound part named typed parted meets granule any
