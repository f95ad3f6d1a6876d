-- What a change makes of rows and of what a merge may leave of them (docs/engines.md, "Mutations").
use Rattle.std.specs.Prelude.{◌≡◌, ◌⊎◌, ◌<◌, List, [], length}
use Rattle.mt_values.specs.declared.change.Change.{Change}
use Rattle.mt_values.specs.Changes.{changed}
use Rattle.mt_values.specs.Values.{Row}

-- after a change the rule may leave of the rows what was left of them, or there are no rows on either side (docs/engines.md, "Mutations")
abbrev pub StaysLeft : (List Row → List Row → Type 0) → Change → List Row → List Row → Type 0
StaysLeft run c rows out =
    ((0 < length (changed c rows)) × run (changed c rows) (changed c out)) ⊎ ((changed c rows ≡ []) × (changed c out ≡ []))
