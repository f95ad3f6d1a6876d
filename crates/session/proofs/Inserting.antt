-- One more part of a table.
use Rattle.std.proofs.Common.{◌≡◌, ℕ, ◌<◌, ◌≤◌, Bool, true, false, cond, List, [], ◌∷◌, All, length, map, refl, sym, ap, ap₂, ◌∙◌, subst, arith, Some, None, Ok, Err, nat_le}
use Rattle.std.proofs.lemmas.Bool.Decides.{nat_tests}
use Rattle.std.proofs.lemmas.List.Elements.{All-cons, All-head, All-map, All-nil, All-tail, All-weaker}
use Rattle.mt_base.specs.declared.partition.Partition.{Partition}
use Rattle.mt_values.specs.declared.command.Command.{Command}
use Rattle.mt_values.specs.declared.command.Command.TheVariants as command
use Rattle.mt_values.specs.declared.command.Entry.{Entry}
use Rattle.mt_values.specs.declared.row_fault.DataFault.{DataFault}
use Rattle.mt_values.specs.declared.schema.Schema.{Schema}
use Rattle.mt_values.specs.declared.statement.InsertText.{InsertText}
use Rattle.mt_values.specs.declared.statement.Statement.TheVariants as statement
use Rattle.mt_values.specs.declared.value.ColType.{ColType}
use Rattle.mt_values.specs.Grid.{Grid}
use Rattle.mt_values.specs.Engines.{sign_place}
use Rattle.mt_values.specs.Rows.{inserted_rows}
use Rattle.mt_values.specs.Tables.{has_sign}
use Rattle.mt_values.specs.Values.{Row}
use Rattle.replies.specs.mt_model.declared.refusal.Refusal.TheVariants as refusal
use Rattle.replies.specs.mt_model.declared.refusal.Room.TheVariants as room
use Rattle.replies.specs.mt_model.Commands.{commands_for, commands_of, commands_of_rows, insert_command, insert_commands, partitions_of, rows_in}
use Rattle.replies.specs.mt_model.History.{History, IsInsertInto, first_of, schema_of, column_types}
use Rattle.replies.specs.mt_model.Refusals.{refusal_of_data}
use Rattle.replies.specs.mt_model.Reply.{rows_or_refused, insert_turn}
use Rattle.replies.proofs.MtModelCauses.{OfScript, commands_are_cause}
use Rattle.replies.proofs.MtModelRanges.{inserted_signed}
use Rattle.replies.proofs.MtModelTables.{itself_same}
use Rattle.merge_workers.specs.shared_store.root_commits.Commits.{insert_into, insert_of_block, partition_of_block}
use Rattle.block_split.specs.declared.blocks.PartitionBlock.{PartitionBlock}
use Rattle.block_split.specs.Split.{insert_of, partition_rows, split_rows}
use Rattle.session.specs.declared.sealing.SealedBlock.{SealedBlock}
use Rattle.session.specs.Turns.{IsRowsFor, commands_in_turn, in_turn, part_command}

-- what isn't empty has an element
pub not_empty : {X : Type 0} (xs : List X) → (xs ≡ [] → ⊥) → 0 < length xs
not_empty [] h = absurd (h refl)
not_empty (x ∷ xs) h = omega arith

-- the command that adds a block of rows to a table
abbrev pub inserted : Schema → List ℕ → Grid → Command
inserted schema table block = insert_of_block table (partition_of_block schema block) block

-- ---- the blocks of rows, one for each partition

first_same : {X : Type 0} (x y : X) (xs ys : List X) → x ∷ xs ≡ y ∷ ys → x ≡ y
first_same x y xs ys is = cc

rest_same : {X : Type 0} (x y : X) (xs ys : List X) → x ∷ xs ≡ y ∷ ys → xs ≡ ys
rest_same x y xs ys is = cc

-- the rows of one partition
abbrev Comes : Schema → List ℕ → Grid → Type 0
Comes schema table block = IsInsertInto schema (insert_into table (partition_of_block schema block) block)

module _ (schema : Schema) (table : List ℕ) where
  abbrev IsOwn : PartitionBlock → Type 0
  IsOwn b = IsInsertInto schema (insert_of table b)

  abbrev HasTypes : PartitionBlock → Type 0
  HasTypes b = b.block.types ≡ column_types schema

  -- its first row is of its partition
  own_first : (b : PartitionBlock) → IsOwn b → partition_of_block schema b.block ≡ b.partition
  own_first b is = is.own 0 [] is.some

  comes : (b : PartitionBlock) → IsOwn b → Comes schema table b.block
  comes b is = subst (λ (p : Partition). IsInsertInto schema (insert_into table p b.block)) (sym (own_first b is)) is

  -- the blocks give the commands of the rows
  commands_by : (rows : List Row) (blocks : List PartitionBlock) (ps : List Partition) → map partition_rows blocks ≡ map (λ (p : Partition). (p, rows_in schema p rows)) ps → All HasTypes blocks → All IsOwn blocks
      → map (λ (b : PartitionBlock). inserted schema table b.block) blocks ≡ map (insert_command schema table rows) ps
  commands_by rows [] [] is types own = refl
  commands_by rows [] (p ∷ ps) is types own = cc
  commands_by rows (b ∷ blocks) [] is types own = cc
  commands_by rows (b ∷ blocks) (p ∷ ps) is types own =
      let others = map (λ (q : Partition). (q, rows_in schema q rows)) ps in
      let first = first_same (partition_rows b) (p, rows_in schema p rows) (map partition_rows blocks) others is in
      let later = rest_same (partition_rows b) (p, rows_in schema p rows) (map partition_rows blocks) others is in
      let mine = All-head IsOwn b blocks own in
      let has = All-head HasTypes b blocks types in
      let same : inserted schema table b.block ≡ insert_command schema table rows p =
      ap (λ (q : Partition). insert_of_block table q b.block) (own_first b mine ∙ ap (λ (x : Partition × List Row). x.0) first)
      ∙ ap₂ (λ (ts : List ColType) (rs : List Row). insert_of_block table p (record { types = ts; rows = rs })) has (ap (λ (x : Partition × List Row). x.1) first) in
      ap₂ (λ (c : Command) (cs : List Command). c ∷ cs) same (commands_by rows blocks ps later (All-tail HasTypes b blocks types) (All-tail IsOwn b blocks own))

  commands_of_blocks : (blocks : List PartitionBlock) → map (λ (b : PartitionBlock). inserted schema table b.block) blocks ≡ map (inserted schema table) (map (λ (b : PartitionBlock). b.block) blocks)
  commands_of_blocks [] = refl
  commands_of_blocks (b ∷ blocks) = ap (λ (cs : List Command). inserted schema table b.block ∷ cs) (commands_of_blocks blocks)

-- ---- the parts that were sealed of blocks

module _ {S : Type 0} (schema : Schema) (table : List ℕ) where
  commands_by_block : (parts : List (SealedBlock S)) → map (part_command schema table) parts ≡ map (inserted schema table) (map (λ (s : SealedBlock S). s.block) parts)
  commands_by_block [] = refl
  commands_by_block (s ∷ parts) = ap (λ (cs : List Command). part_command schema table s ∷ cs) (commands_by_block parts)

  rows_by_block : (parts : List (SealedBlock S)) → All (Comes schema table) (map (λ (s : SealedBlock S). s.block) parts) → All (IsRowsFor schema table) parts
  rows_by_block [] all = All-nil (IsRowsFor schema table)
  rows_by_block (s ∷ parts) all =
      let blocks = map (λ (x : SealedBlock S). x.block) parts in
      All-cons (IsRowsFor schema table) s parts (All-head (Comes schema table) s.block blocks all) (rows_by_block parts (All-tail (Comes schema table) s.block blocks all))

  module _ (rows : List Row) (blocks : List PartitionBlock) (parts : List (SealedBlock S)) (sealed : map (λ (s : SealedBlock S). s.block) (in_turn parts) ≡ map (λ (b : PartitionBlock). b.block) blocks) where
    -- they have the commands of the rows, in the order of their turns
    pub parts_give : map partition_rows blocks ≡ split_rows schema rows → All (λ (b : PartitionBlock). b.block.types ≡ column_types schema) blocks → All (λ (b : PartitionBlock). IsInsertInto schema (insert_of table b)) blocks
        → commands_in_turn schema table parts ≡ insert_commands schema table rows
    parts_give split types own =
        commands_by_block (in_turn parts)
        ∙ (ap (map (inserted schema table)) sealed ∙ (sym (commands_of_blocks schema table blocks) ∙ commands_by schema table rows blocks (partitions_of schema rows) split types own))

    -- and each has rows of one partition
    pub parts_come : All (λ (b : PartitionBlock). IsInsertInto schema (insert_of table b)) blocks → All (IsRowsFor schema table) (in_turn parts)
    parts_come own =
        rows_by_block (in_turn parts)
        (subst (All (Comes schema table)) (sym sealed)
        (All-map (Comes schema table) (λ (b : PartitionBlock). b.block) blocks (All-weaker (λ (b : PartitionBlock). IsInsertInto schema (insert_of table b)) (λ (b : PartitionBlock). Comes schema table b.block) (comes schema table) blocks own)))

-- the commands of an INSERT into a table
module _ (i : InsertText) where
  pub no_such_table : (h : History) → schema_of i.table h ≡ None → commands_of h (statement.Insert i) ≡ Err (refusal.NoTable i.table)
  no_such_table h missing = ap (commands_for i) missing

  module _ (schema : Schema) where
    pub rows_refused : (fault : DataFault) → inserted_rows (column_types schema) (sign_place schema.engine) i.lines i.ended ≡ Err fault → commands_for i (Some schema) ≡ Err (refusal_of_data fault)
    rows_refused fault is = ap (λ r. commands_of_rows schema i.table (rows_or_refused r)) is

    pub no_rows : inserted_rows (column_types schema) (sign_place schema.engine) i.lines i.ended ≡ Ok [] → commands_for i (Some schema) ≡ Ok []
    no_rows is = ap (λ r. commands_of_rows schema i.table (rows_or_refused r)) is

    pub rows_give : (rows : List Row) → inserted_rows (column_types schema) (sign_place schema.engine) i.lines i.ended ≡ Ok rows → commands_for i (Some schema) ≡ Ok (insert_commands schema i.table rows)
    rows_give rows is = ap (λ r. commands_of_rows schema i.table (rows_or_refused r)) is

    -- each row has a sign, where the table has one
    pub rows_signed : (rows : List Row) → inserted_rows (column_types schema) (sign_place schema.engine) i.lines i.ended ≡ Ok rows → All (λ (row : Row). has_sign schema row ≡ true) rows
    rows_signed rows is = inserted_signed (column_types schema) (sign_place schema.engine) i.lines i.ended rows is

-- rows have a command
pub some_commands : (schema : Schema) (table : List ℕ) (rows : List Row) → 0 < length rows → 0 < length (insert_commands schema table rows)
some_commands schema table [] none = absurd (omega arith)
some_commands schema table (row ∷ rows) some = omega arith

-- data that is refused is refused for what it says
pub data_is_cause : (i : InsertText) (schema : Schema) (fault : DataFault) → inserted_rows (column_types schema) (sign_place schema.engine) i.lines i.ended ≡ Err fault → OfScript (refusal_of_data fault)
data_is_cause i schema fault is =
    let made : Entry = record { session = 0; command = command.Create (record { table = i.table; schema = schema }) } in
    let there : schema_of i.table (made ∷ []) ≡ Some schema = ap (λ (b : Bool). first_of (cond b (Some schema) None) None) (itself_same i.table) in
    (commands_are_cause (made ∷ []) (statement.Insert i) (refusal_of_data fault) (ap (commands_for i) there ∙ rows_refused i schema fault is)).0

-- what refuses an INSERT at its turn, where its partition has so many parts
module _ (parts last drawn accepted : ℕ) (made : last ≡ drawn) where
  pub turn_full : 3000 ≤ parts → insert_turn parts last accepted ≡ Some (refusal.Full room.Parts accepted)
  turn_full many =
      let yes : nat_le 3000 parts ≡ true = grind (arith, nat_tests) in
      ap (λ b. cond b (Some (refusal.Full room.Parts accepted)) (cond (nat_le 4294967295 last) (Some (refusal.Full room.Numbers accepted)) None)) yes

  pub turn_spent : parts < 3000 → 4294967295 ≤ drawn → insert_turn parts last accepted ≡ Some (refusal.Full room.Numbers accepted)
  turn_spent few many =
      let no : nat_le 3000 parts ≡ false = grind (arith, nat_tests) in
      let yes : nat_le 4294967295 last ≡ true = grind (arith, nat_tests) in
      ap (λ b. cond b (Some (refusal.Full room.Parts accepted)) (cond (nat_le 4294967295 last) (Some (refusal.Full room.Numbers accepted)) None)) no
      ∙ ap (λ b. cond b (Some (refusal.Full room.Numbers accepted)) None) yes

  pub turn_free : parts < 3000 → drawn < 4294967295 → insert_turn parts last accepted ≡ None
  turn_free few low =
      let no : nat_le 3000 parts ≡ false = grind (arith, nat_tests) in
      let neither : nat_le 4294967295 last ≡ false = grind (arith, nat_tests) in
      ap (λ b. cond b (Some (refusal.Full room.Parts accepted)) (cond (nat_le 4294967295 last) (Some (refusal.Full room.Numbers accepted)) None)) no
      ∙ ap (λ b. cond b (Some (refusal.Full room.Numbers accepted)) None) neither
