-- The numbers that a table's commands draw (docs/definitions.md, "Numbers").
use Rattle.std.specs.Prelude.{◌≡◌, ◌&&◌, ◌+◌, ◌-◌, ◌<◌, ◌≤◌, ℕ, Bool, false, List, [], ◌∷◌, ◌++◌, Option, Some, None, filter, if◌then◌else◌, length, map, nat_le, slice_get}
use Rattle.mt_base.specs.declared.partition.Partition.{Partition}
use Rattle.mt_values.specs.declared.command.Command.{Command}
use Rattle.mt_values.specs.declared.command.Command.TheVariants as command
use Rattle.mt_values.specs.declared.command.Entry.{Entry}
use Rattle.mt_values.specs.declared.command.Alter.{Alter}
use Rattle.mt_values.specs.declared.command.Insert.{Insert}
use Rattle.mt_values.specs.declared.mutation.Mutation.{Mutation}
use Rattle.mt_values.specs.Grammar.{same_bytes}
use Rattle.mt_values.specs.Tables.{same_partition}
use Rattle.mt_model.specs.History.{History}

-- of which table a command draws a number, and for which partition, where it is for one (docs/definitions.md, "Numbers")
pub record Draw : Type 0 where
  pub table : List ℕ
  pub partition : Option Partition

-- what a command draws: an INSERT a number of its table for its partition, a mutation one for no partition, a CREATE none (docs/definitions.md, "Numbers")
abbrev pub draw_of : Command → Option Draw
draw_of (command.Create c) = None
draw_of (command.Insert i) = Some (record { table = i.table; partition = Some i.partition })
draw_of (command.Alter a) = Some (record { table = a.table; partition = None })

-- whether what is drawn is a number of the table (docs/definitions.md, "Numbers")
abbrev pub draws_from : List ℕ → Option Draw → Bool
draws_from table None = false
draws_from table (Some d) = same_bytes d.table table

-- whether a command draws a number of the table (docs/definitions.md, "Numbers")
abbrev pub draws : List ℕ → Command → Bool
draws table c = draws_from table (draw_of c)

-- the commands of a table that draw numbers, in order: the number n, counted from 1, stands at the place n - 1 (docs/definitions.md, "Numbers")
abbrev pub numbered : List ℕ → History → List Command
numbered table h = filter (draws table) (map (λ (e : Entry). e.command) h)

-- the last number of a table that was drawn; 0 where none was (docs/definitions.md, "Numbers")
abbrev pub last_number : List ℕ → History → ℕ
last_number table h = length (numbered table h)

-- the command of a table with this number is an INSERT of this partition (docs/definitions.md, "Numbers")
pub record IsNumberOfInsert (table : List ℕ) (partition : Partition) (n : ℕ) (h : History) : Type 0 where
  pub from_one : 1 ≤ n
  pub insert : Insert
  pub there : slice_get (numbered table h) (n - 1) ≡ Some (command.Insert insert)
  pub partition_is : insert.partition ≡ partition

-- the command of a table with this number is a mutation (docs/definitions.md, "Numbers")
pub record IsNumberOfMutation (table : List ℕ) (n : ℕ) (h : History) : Type 0 where
  pub from_one : 1 ≤ n
  pub alter : Alter
  pub there : slice_get (numbered table h) (n - 1) ≡ Some (command.Alter alter)

-- a command as a mutation with this number, where it is one (docs/definitions.md, "Numbers")
abbrev pub mutation_by : ℕ → Command → List Mutation
mutation_by n (command.Create c) = []
mutation_by n (command.Insert i) = []
mutation_by n (command.Alter a) = record { number = n; change = a.change } ∷ []

-- the mutations among commands that drew numbers, the first of them this one (docs/definitions.md, "Numbers")
abbrev pub mutations_among : ℕ → List Command → List Mutation
mutations_among n [] = []
mutations_among n (c ∷ cs) = mutation_by n c ++ mutations_among (n + 1) cs

-- the mutations of a table, each with the number that it drew, in their order (docs/definitions.md, "Numbers")
abbrev pub mutations_in : List ℕ → History → List Mutation
mutations_in table h = mutations_among 1 (numbered table h)

-- no mutation of the table has a number that lies above the one and at or below the other (docs/definitions.md, "Numbers")
abbrev pub NoMutationBetween : List ℕ → ℕ → ℕ → History → Type 0
NoMutationBetween table low high h = (n : ℕ) → IsNumberOfMutation table n h → low < n → n ≤ high → ⊥

-- whether a number lies within two others (docs/definitions.md, "Numbers")
abbrev pub lies_within : ℕ → ℕ → ℕ → Bool
lies_within least greatest n = nat_le least n && nat_le n greatest

-- What the name of a part reaches: the INSERTs into the partition of the table whose numbers are from the least to the greatest, and
-- the table's mutations whose numbers are at most the version (docs/definitions.md, "Numbers").
pub record Reach : Type 0 where
  pub table : List ℕ
  pub partition : Partition
  pub least : ℕ
  pub greatest : ℕ
  pub version : ℕ

-- whether this number is reached, drawn for a partition or for none: an INSERT's lies within the least and the greatest and is of the partition, a mutation's is no greater than the version (docs/definitions.md, "Numbers")
abbrev pub number_reached : Reach → ℕ → Option Partition → Bool
number_reached r n None = nat_le n r.version
number_reached r n (Some p) = same_partition p r.partition && lies_within r.least r.greatest n

-- whether what drew this number is reached (docs/definitions.md, "Numbers")
abbrev pub draw_reached : Reach → ℕ → Option Draw → Bool
draw_reached r n None = false
draw_reached r n (Some d) = number_reached r n d.partition

-- whether the command that drew this number is reached (docs/definitions.md, "Numbers")
abbrev pub is_reached : Reach → ℕ → Command → Bool
is_reached r n c = draw_reached r n (draw_of c)

-- an entry before the others, where it stays (docs/definitions.md, "Numbers")
abbrev pub entry_if : Bool → Entry → History → History
entry_if stays e h = if stays then e ∷ h else h

-- what stays of entries of which the first that draws a number of the table draws this one (docs/definitions.md, "Numbers")
abbrev pub reached_from : Reach → ℕ → History → History
reached_from r n [] = []
reached_from r n (e ∷ h) =
    if draws r.table e.command
    then entry_if (is_reached r n e.command) e (reached_from r (n + 1) h)
    else e ∷ reached_from r n h

-- the history without what drew a number of the table and is not reached: all else stays, other tables' commands too (docs/definitions.md, "Numbers")
abbrev pub reached : Reach → History → History
reached r h = reached_from r 1 h
