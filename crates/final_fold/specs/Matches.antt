-- Which rows meet a condition, and what a fault says of the parts in which they are (docs/architecture.md, "The way of a SELECT").
use Rattle.std.specs.Prelude.{◌≡◌, ℕ, Bool, List, length, slice_get, Option, Some}
use Rattle.std.specs.List.{AllZip, filter, zip}
use Rattle.row_merge.specs.column_file.Marks.{granules}
use Rattle.mt_values.specs.declared.expr.Test.{Test}
use Rattle.mt_values.specs.Conditions.{Condition}
use Rattle.mt_values.specs.Schemas.{column_types}
use Rattle.mt_values.specs.Tests.{eval}
use Rattle.mt_values.specs.Values.{Row}
use Rattle.mt_outside.specs.Files.{Files}
use Rattle.row_merge.specs.part_set.part_name.declared.part.PartName.{PartName}
use Rattle.row_merge.specs.part_reader.declared.reading.Part.{Part}
use Rattle.row_merge.specs.part_reader.declared.reading.PartFault.{PartFault}
use Rattle.row_merge.specs.part_reader.Faults.{ExplainsAt}
use Rattle.row_merge.specs.part_reader.Granules.{ExplainsChosen, chosen_of, column_in}
use Rattle.row_merge.specs.part_set.declared.kept.Kept.{Kept}
use Rattle.select_plan.specs.Plans.{asked_each}
use Rattle.final_fold.specs.declared.asking.Wanted.{Wanted}
pub use Rattle.final_fold.specs.Asked.{some_true}
use Rattle.final_fold.specs.Asked.{MeetUnasked, named}

-- the rows that meet a condition, in order (ClickHouse, SELECT: WHERE)
abbrev pub matching : Condition Test → List Row → List Row
matching c rows = filter (eval c) rows

-- it is said of each granule of the parts' rows whether it is chosen
abbrev pub SayOfEach : Wanted → List (List Bool) → List (List Row) → Type 0
SayOfEach w chosen rows =
    AllZip (λ (c : List Bool) (r : List Row). length c ≡ granules w.schema.now.granularity (length r)) chosen rows

-- each row of a part that meets the condition is in a chosen granule
abbrev pub HoldEachMatch : Wanted → List (List Bool) → List (List Row) → Type 0
HoldEachMatch w chosen rows =
    AllZip (λ (c : List Bool) (r : List Row). matching w.condition.now (chosen_of w.schema.now.granularity c r) ≡ matching w.condition.now r) chosen rows

-- where a conjunct is not asked in a chosen granule of a part, each row of the granule meets it
abbrev pub MeetWhereUnasked : Wanted → List (List Bool) → List (List (List Bool)) → List (List Row) → Type 0
MeetWhereUnasked w chosen asked rows =
    AllZip (λ p r. MeetUnasked w.schema.now.granularity p.0 w.conjuncts.now p.1 r) (zip chosen asked) rows

-- in which of the chosen granules of each part each conjunct is asked: by the marks of the part (docs/definitions.md, "Boxes of granules")
abbrev pub asked_of : {F : Type 0} → Wanted → List (Kept (Part F)) → List (List Bool) → List (List (List Bool))
asked_of w parts chosen = asked_each w.schema.now w.conjuncts.now parts chosen

-- ---- damage

-- what a fault says of a part: it is of a column that may be read, read as one of its type in the chosen granules
abbrev pub ExplainsAsked : {F : Type 0} → (F → Option Files) → Part F → List Bool → Wanted → PartFault → Type 0
ExplainsAsked files_of part chosen wanted fault = ExplainsAt (λ number t. ExplainsChosen (column_in files_of part number) chosen t) (column_types wanted.schema.now) (named wanted) fault

-- what a fault says of one of the parts, by its name
pub record ExplainsMatches {F : Type 0} (files_of : F → Option Files) (parts : List (Kept (Part F))) (chosen : List (List Bool)) (wanted : Wanted) (e : PartName × PartFault) : Type 0 where
  pub at : ℕ
  pub kept : Kept (Part F)
  pub own : List Bool
  pub kept_is : slice_get parts at ≡ Some kept
  pub own_is : slice_get chosen at ≡ Some own
  pub name_is : e.0 ≡ kept.name
  pub explained : ExplainsAsked files_of kept.part own wanted e.1
