-- What is kept for one table (docs/engines.md, "Which parts are merged").
use Rattle.std.specs.Prelude.{ℕ, List, [], Option, Some, None}
use Rattle.mt_values.specs.declared.mutation.Mutation.{Mutation}

-- the mutations of one table, and how many more fit without memory
pub record Listed : Type 0 where
  pub list : List Mutation
  pub room : ℕ

-- none where nothing is kept for the table
abbrev pub list_on : Option Listed → List Mutation
list_on None = []
list_on (Some listed) = listed.list

abbrev pub room_on : Option Listed → ℕ
room_on None = 0
room_on (Some listed) = listed.room
