-- What is asked of the rows of a part (docs/architecture.md, "The way of a SELECT").
use Rattle.std.specs.Prelude.{◌≡◌, ℕ, ◌<◌, Bool, true, not, ◌&&◌, List, [], ◌∷◌, ◌++◌, length, map, All}
use Rattle.std.specs.List.{AllZip, Contains as HasItem, filter, list_any, zip}
use Rattle.mt_values.specs.declared.expr.Test.{Test}
use Rattle.mt_values.specs.Conditions.{Condition, conjuncts_of, tests_of}
use Rattle.mt_values.specs.Order.{key_of}
use Rattle.mt_values.specs.Tests.{eval}
use Rattle.mt_values.specs.Values.{Row}
use Rattle.row_merge.specs.part_reader.declared.sieves.Sieve.{Sieve}
use Rattle.row_merge.specs.part_reader.Granules.{chosen_of}
use Rattle.row_merge.specs.part_reader.Sieves.{Sifting, asking_of}
use Rattle.final_fold.specs.declared.asking.Plan.{Plan}
use Rattle.final_fold.specs.declared.asking.Task.{Task}
use Rattle.final_fold.specs.declared.asking.Wanted.{Wanted}
use Rattle.final_fold.specs.Scans.{ArePlacesOf}

-- the columns that the tests of a condition name, in the order of the text
abbrev pub tested : Condition Test → List ℕ
tested c = map (λ (t : Test). t.column) (tests_of c)

-- the columns that may be read: those of the condition, and the wanted ones
abbrev pub named : Wanted → List ℕ
named w = tested w.condition.now ++ w.places.now

-- the tests and the wanted places are of the table's columns, and the conjuncts are the condition's
pub record IsWanted (w : Wanted) : Type 0 where
  pub tests : ArePlacesOf w.schema.now (tested w.condition.now)
  pub conjuncts : w.conjuncts.now ≡ conjuncts_of w.condition.now
  pub places : ArePlacesOf w.schema.now w.places.now

-- tests, each of the column at its position
abbrev pub moved_to : List ℕ → List Test → List Test
moved_to [] tests = []
moved_to (p ∷ ps) [] = []
moved_to (p ∷ ps) (t ∷ ts) = record t { column = p } ∷ moved_to ps ts

-- whether an answer is true
abbrev pub some_true : List Bool → Bool
some_true mask = list_any (λ b. b) mask

-- the conjuncts that are asked in some granule of a part, each with these granules
abbrev pub asked_somewhere : List (Condition Test) → List (List Bool) → List (Condition Test × List Bool)
asked_somewhere conjuncts asked = filter (λ p. some_true p.1) (zip conjuncts asked)

-- over the values of the columns that are read a condition is what a conjunct is over the whole row, and it is asked in the same granules
pub record IsSieveOf (read : List ℕ) (p : Condition Test × List Bool) (s : Sieve) : Type 0 where
  pub granules : s.granules.now ≡ p.1
  pub same : (row : Row) → All (λ place. place < length row) read → eval s.condition (key_of read row) ≡ eval p.0 row

-- the columns are of the condition, and the sieves are the conjuncts that are asked somewhere
pub record IsPlanOf (w : Wanted) (in_granules : List (List Bool)) (plan : Plan) : Type 0 where
  pub within : ArePlacesOf w.schema.now plan.asked.items
  pub asked : All (HasItem (tested w.condition.now)) plan.asked.items
  pub sieves : AllZip (IsSieveOf plan.asked.items) (asked_somewhere w.conjuncts.now in_granules) plan.sieves.items

-- what is wanted is of the table, and so is how the condition is asked
pub record IsTask {F : Type 0} (task : Task F) : Type 0 where
  pub wanted : IsWanted task.wanted
  pub plan : IsPlanOf task.wanted task.asked.now task.plan.now

-- the chosen granules in which a conjunct is not asked
abbrev pub unasked_of : List Bool → List Bool → List Bool
unasked_of [] asked = []
unasked_of (c ∷ chosen) [] = c ∷ unasked_of chosen []
unasked_of (c ∷ chosen) (a ∷ asked) = (c && not a) ∷ unasked_of chosen asked

-- what is read of a part, and what is asked of its rows
abbrev pub sifting_of_task : {F : Type 0} → Task F → Sifting F
sifting_of_task task = record {
  reading = record { schema = task.wanted.schema.now; part = task.part.now; places = task.wanted.places.now; left = task.chosen.now; most = 65536 };
  asked = task.plan.now.asked.items;
  asking = asking_of task.plan.now.sieves.items;
}

-- where a conjunct is not asked in a chosen granule, each row of the granule meets it
abbrev pub MeetUnasked : ℕ → List Bool → List (Condition Test) → List (List Bool) → List Row → Type 0
MeetUnasked g chosen conjuncts asked rows =
    AllZip (λ d a. All (λ row. eval d row ≡ true) (chosen_of g (unasked_of chosen a) rows)) conjuncts asked

-- the same of the rows of a part
abbrev pub AreSure : {F : Type 0} → Task F → List Row → Type 0
AreSure task rows =
    MeetUnasked task.part.now.loaded.schema.granularity task.chosen.now task.wanted.conjuncts.now task.asked.now rows

-- the rows of the chosen granules
abbrev pub chosen_rows : {F : Type 0} → Task F → List Row → List Row
chosen_rows task rows = chosen_of task.part.now.loaded.schema.granularity task.chosen.now rows

-- those of them that meet the condition
abbrev pub met_rows : {F : Type 0} → Task F → List Row → List Row
met_rows task rows = filter (eval task.wanted.condition.now) (chosen_rows task rows)
