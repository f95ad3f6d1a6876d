-- The mutations of each table, as they are kept (docs/engines.md, "Which parts are merged").
use Rattle.std.specs.Prelude.{ℕ, ◌<◌, List, Option, Some}
use Rattle.std.specs.BTreeMap.{BTreeMap, UpdatesBy, get}
use Rattle.std.specs.Cmp.Lexicographic.{slice_cmp}
use Rattle.std.specs.Ordering.{nat_cmp}
use Rattle.mutation_queue.specs.declared.mutations.Mutations.{Mutations}
use Rattle.mt_values.specs.declared.mutation.Mutation.{Mutation}
use Rattle.mutation_queue.specs.Listed.{Listed, list_on, room_on}

-- what is kept for a table
abbrev pub listed_of : BTreeMap (List ℕ) Listed → List ℕ → Option Listed
listed_of tables table = get (slice_cmp nat_cmp) tables table

-- the mutations of a table that were accepted, in their order
abbrev pub mutations_of : Mutations → List ℕ → List Mutation
mutations_of queue table = list_on (listed_of queue.tables table)

-- one more mutation of the table can be accepted without memory
abbrev pub HasRoom : Mutations → List ℕ → Type 0
HasRoom queue table = 0 < room_on (listed_of queue.tables table)

-- the table got these, and all others kept theirs
abbrev pub IsPut : BTreeMap (List ℕ) Listed → BTreeMap (List ℕ) Listed → List ℕ → Listed → Type 0
IsPut old new table listed = UpdatesBy (slice_cmp nat_cmp) (slice_cmp nat_cmp table) old new (Some listed)
