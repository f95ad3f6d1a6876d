-- What replies told.
use Rattle.std.specs.Prelude.{ℕ, ◌||◌, List}
use Rattle.mt_model.specs.Refusals.{is_refusal, is_damage}
use Rattle.replies.specs.declared.tally.Tally.{Tally}

-- what replies said, with one more
abbrev pub tallied : Tally → List ℕ → Tally
tallied t reply = record { refused = t.refused || is_refusal reply; damaged = t.damaged || is_damage reply }
