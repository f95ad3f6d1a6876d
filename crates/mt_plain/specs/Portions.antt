-- The portions of a table in the plain program, which merges and rewrites nothing: each INSERT is one, and no mutation was applied to it. The mutations of a table.
use Rattle.std.specs.Prelude.{ℕ, ◌&&◌, ◌+◌, Bool, List, [], ◌∷◌, ◌++◌, length, if◌then◌else◌, nat_lt}
use Rattle.std.specs.List.{count_by, list_any}
use Rattle.mt_values.specs.declared.command.Command.{Command}
use Rattle.mt_values.specs.declared.command.Command.TheVariants as command
use Rattle.mt_values.specs.declared.command.Insert.{Insert}
use Rattle.mt_values.specs.declared.mutation.Mutation.{Mutation}
use Rattle.mt_values.specs.declared.schema.Schema.{Schema}
use Rattle.mt_values.specs.declared.schema.SkipIndex.{SkipIndex}
use Rattle.mt_values.specs.Changes.{assigns, is_assigned}
use Rattle.mt_values.specs.Grammar.{same_bytes}
use Rattle.mt_values.specs.Tables.{sorting_cmp}
use Rattle.part_history.specs.mt_model.declared.counts.Counts.{Counts}
use Rattle.part_history.specs.mt_model.Explain.{Portion}
use Rattle.part_history.specs.mt_model.History.{History}
use Rattle.part_history.specs.mt_model.Live.{sorted}
use Rattle.part_history.specs.mt_model.Numbers.{draws}

-- the portion of one INSERT with this number: its rows in the table's order
abbrev pub portion_of : Schema → ℕ → Insert → Portion
portion_of schema n i =
    record { partition = i.partition; least = n; greatest = n; version = n; rows = sorted (sorting_cmp schema) i.block.rows }

-- the last number of a table that was drawn, after one more command
abbrev pub last_after : List ℕ → ℕ → Command → ℕ
last_after table last c = if draws table c then last + 1 else last

-- the portions of a table after one more command, by the last number that was drawn before: an INSERT into it is one more, with the next number; a
-- mutation draws a number and changes none
abbrev pub portions_after : List ℕ → Schema → ℕ → List Portion → Command → List Portion
portions_after table schema last ps (command.Create c) = ps
portions_after table schema last ps (command.Insert i) =
    if same_bytes i.table table then ps ++ portion_of schema (last + 1) i ∷ [] else ps
portions_after table schema last ps (command.Alter a) = ps

-- what commands add to these portions, by the last number that was drawn before
abbrev pub portions_from : List ℕ → Schema → ℕ → List Portion → History → List Portion
portions_from table schema last ps [] = ps
portions_from table schema last ps (e ∷ es) =
    portions_from table schema (last_after table last e.command) (portions_after table schema last ps e.command) es

-- the portions of a table of this schema
abbrev pub unmerged : List ℕ → Schema → History → List Portion
unmerged table schema h = portions_from table schema 0 [] h

-- the mutations of a table after one more command, by the last number that was drawn before
abbrev pub mutations_after : List ℕ → ℕ → List Mutation → Command → List Mutation
mutations_after table last ms (command.Create c) = ms
mutations_after table last ms (command.Insert i) = ms
mutations_after table last ms (command.Alter a) =
    if same_bytes a.table table then ms ++ record { number = last + 1; change = a.change } ∷ [] else ms

-- what commands add to these mutations, by the last number that was drawn before
abbrev pub mutations_from : List ℕ → ℕ → List Mutation → History → List Mutation
mutations_from table last ms [] = ms
mutations_from table last ms (e ∷ es) =
    mutations_from table (last_after table last e.command) (mutations_after table last ms e.command) es

-- whether a mutation has a number above this version, and assigns the column at a place
abbrev pub is_put_later : ℕ → ℕ → Mutation → Bool
is_put_later version place m = nat_lt version m.number && assigns m.change place

-- indexes with one more at their end, unless one of the mutations assigns its column
abbrev pub with_index : List Mutation → List SkipIndex → SkipIndex → List SkipIndex
with_index mutations left i = if is_assigned mutations i.column then left else left ++ i ∷ []

-- the same with each of some indexes
abbrev pub with_indexes : List Mutation → List SkipIndex → List SkipIndex → List SkipIndex
with_indexes mutations left [] = left
with_indexes mutations left (i ∷ indexes) = with_indexes mutations (with_index mutations left i) indexes

-- the numbers of an EXPLAIN over one part more, whose granules are chosen so
abbrev pub with_part : Counts → List Bool → Counts
with_part n chosen = record {
  chosen_parts = n.chosen_parts + (if list_any (λ c. c) chosen then 1 else 0);
  parts = n.parts + 1;
  chosen_granules = n.chosen_granules + count_by (λ c. c) chosen;
  granules = n.granules + length chosen;
}
