-- Blocks of split rows: of one partition alone, as INSERTs, and as commands.
use Rattle.std.proofs.Common.{◌≡◌, ℕ, ◌<◌, true, List, [], ◌∷◌, All, Option, Some, None, Result, Ok, Err, length, map, get_or, slice_get, refl, sym, ap, ◌∙◌, subst, arith}
use Rattle.std.proofs.lemmas.List.Elements.{All-nil, All-cons, All-head, All-tail, All-weaker, All-map, All-filter, filter_passes}
use Rattle.std.proofs.lemmas.List.{length-map}
use Rattle.std.proofs.lemmas.Option.{slice_get_within}
use Rattle.std.specs.Result.{IfOk}
use Rattle.mt_base.specs.declared.partition.Partition.{Partition}
use Rattle.mt_base.specs.declared.partition.Partition.TheVariants.{Whole, Number}
use Rattle.mt_values.specs.declared.schema.Column.{Column}
use Rattle.mt_values.specs.declared.schema.Schema.{Schema}
use Rattle.mt_values.specs.declared.value.ColType.{ColType}
use Rattle.mt_values.specs.Grid.{AreRowsOf, Grid}
use Rattle.mt_values.specs.Schemas.{column_types, is_unsigned_column, partition_fault, schema_fault}
use Rattle.mt_values.specs.Tables.{has_sign, partition_of, same_partition}
use Rattle.mt_values.specs.Values.{AreValues, IsValue, Row, types_of}
use Rattle.mt_values.proofs.RowPartitions.{partition_sound, unsigned_there}
use Rattle.mt_model.specs.Commands.{insert_command, partitions_of, rows_in}
use Rattle.mt_model.specs.History.{IsInsertInto}
use Rattle.mt_model.proofs.Commands.{have_rows, partition_is}
use Rattle.block_split.specs.declared.blocks.PartitionBlock.{PartitionBlock}
use Rattle.block_split.specs.declared.grouping.Group.{Group}
use Rattle.block_split.specs.Groups.{group_rows}
use Rattle.block_split.specs.Split.{IsSplit, command_of, insert_of, partition_rows, split_rows}
use Rattle.block_split.proofs.Partitions.{split_into_one, split_whole}

-- what is so of a value by two facts
pub if_ok_both : {X Y : Type 0} (r : Result X Y) (P Q R : X → Type 0) → ((x : X) → P x → Q x → R x) → IfOk r P → IfOk r Q → IfOk r R
if_ok_both (Ok x) P Q R both p q = both x p q
if_ok_both (Err y) P Q R both p q = tt

-- ---- a block of one partition

one_block : (p : Partition) (block : Grid) (blocks : List PartitionBlock) (schema : Schema) → blocks ≡ record { partition = p; block = block } ∷ [] → split_rows schema block.rows ≡ (p, block.rows) ∷ [] → IsSplit schema block blocks
one_block p block blocks schema made one = record {
  rows = ap (map partition_rows) made ∙ sym one;
  types =
      let alone = λ (b : PartitionBlock). b.block.types ≡ block.types in
      subst (All alone) (sym made) (All-cons alone (record { partition = p; block = block }) [] refl (All-nil alone));
}

-- the rows of a table without a partition column
pub whole_block : (schema : Schema) (block : Grid) (blocks : List PartitionBlock) → schema.partition ≡ None → (block.rows ≡ [] → ⊥) → blocks ≡ record { partition = Whole; block = block } ∷ [] → IsSplit schema block blocks
whole_block schema block blocks none some made = one_block Whole block blocks schema made (by block.rows some)
  where
    by : (rows : List Row) → (rows ≡ [] → ⊥) → split_rows schema rows ≡ (Whole, rows) ∷ []
    by [] h = absurd (h refl)
    by (row ∷ rows) h = split_whole schema none row rows

-- the rows of one group
pub one_group : (schema : Schema) (block : Grid) (gs : List Group) (g : Group) (blocks : List PartitionBlock) → map (group_rows block.rows) gs ≡ split_rows schema block.rows → length gs ≡ 1 → g ≡ get_or gs 0 g
    → blocks ≡ record { partition = Number g.number; block = block } ∷ [] → IsSplit schema block blocks
one_group schema block [] g blocks split one at made = absurd (omega arith)
one_group schema block (x ∷ []) g blocks split one at made =
    let own = group_rows block.rows g in
    one_block (Number g.number) block blocks schema made
    (split_into_one schema (Number g.number) own.1 block.rows (sym split ∙ ap (λ (y : Group). group_rows block.rows y ∷ []) (sym at)))
one_group schema block (x ∷ y ∷ gs) g blocks split one at made = absurd (omega arith)

-- ---- blocks as INSERTs

all_of_map : {X Y : Type 0} (P : Y → Type 0) (f : X → Y) (xs : List X) → All P (map f xs) → All (λ x. P (f x)) xs
all_of_map P f [] are = All-nil (λ x. P (f x))
all_of_map P f (x ∷ xs) are = All-cons (λ x. P (f x)) x xs (All-head P (f x) (map f xs) are) (all_of_map P f xs (All-tail P (f x) (map f xs) are))

module _ (schema : Schema) (table : List ℕ) (rows : List Row) (typed : AreRowsOf (column_types schema) rows) (values : AreValues rows) (signed : All (λ (row : Row). has_sign schema row ≡ true) rows) where
  abbrev Comes : Partition × List Row → Type 0
  Comes x = IsInsertInto schema (record { table = table; partition = x.0; block = record { types = column_types schema; rows = x.1 } })

  comes : (p : Partition) → 0 < length (rows_in schema p rows) → Comes (p, rows_in schema p rows)
  comes p some =
      let test = λ (row : Row). same_partition (partition_of schema row) p in
      record {
        some = some;
        types = refl;
        rows = All-filter test (λ (row : Row). types_of row ≡ column_types schema) rows typed;
        values = All-filter test (λ (row : Row). All IsValue row) rows values;
        signed = All-filter test (λ (row : Row). has_sign schema row ≡ true) rows signed;
        own = All-weaker (λ (row : Row). test row ≡ true) (λ (row : Row). partition_of schema row ≡ p) (λ row is. partition_is (partition_of schema row) p is) (rows_in schema p rows) (filter_passes test rows);
      }

  all_come : All Comes (split_rows schema rows)
  all_come =
      All-map Comes (λ p. (p, rows_in schema p rows)) (partitions_of schema rows)
      (All-weaker (λ p. 0 < length (rows_in schema p rows)) (λ p. Comes (p, rows_in schema p rows)) comes (partitions_of schema rows) (have_rows schema rows))

  blocks_come : (blocks : List PartitionBlock) → map partition_rows blocks ≡ split_rows schema rows → All (λ (b : PartitionBlock). b.block.types ≡ column_types schema) blocks → All (λ (b : PartitionBlock). IsInsertInto schema (insert_of table b)) blocks
  blocks_come blocks split types = λ k d below.
      let b = get_or blocks k d in
      let here : Comes (partition_rows b) = all_of_map Comes partition_rows blocks (subst (All Comes) (sym split) all_come) k d below in
      let same : b.block.types ≡ column_types schema = types k d below in
      record { some = here.some; types = same; rows = here.rows; values = here.values; own = here.own; signed = here.signed }

pub are_inserts : (schema : Schema) (table : List ℕ) (block : Grid) (blocks : List PartitionBlock) → block.types ≡ column_types schema → AreRowsOf block.types block.rows → AreValues block.rows → All (λ (row : Row). has_sign schema row ≡ true) block.rows
    → IsSplit schema block blocks → All (λ (b : PartitionBlock). IsInsertInto schema (insert_of table b)) blocks
are_inserts schema table block blocks types typed values signed is =
    blocks_come schema table block.rows (subst (λ ts. AreRowsOf ts block.rows) types typed) values signed blocks is.rows
    (All-weaker (λ (b : PartitionBlock). b.block.types ≡ block.types) (λ (b : PartitionBlock). b.block.types ≡ column_types schema) (λ b same. same ∙ types) blocks is.types)

-- ---- the partition column

there_if_unsigned : (columns : List Column) (place : ℕ) → is_unsigned_column (slice_get columns place) ≡ true → place < length columns
there_if_unsigned columns place is = by (slice_get columns place) refl is
  where
    by : (o : Option Column) → slice_get columns place ≡ o → is_unsigned_column o ≡ true → place < length columns
    by None e h = cc
    by (Some column) e h = slice_get_within columns place column e

-- it is one of the table's
pub column_within : (schema : Schema) (types : List ColType) (column : ℕ) → schema_fault schema ≡ None → types ≡ column_types schema → schema.partition ≡ Some column → column < length types
column_within schema types column sound same is =
    let fault = ap (λ o. partition_fault schema.columns o) (sym is) ∙ partition_sound schema sound in
    let below : column < length schema.columns = there_if_unsigned schema.columns column (unsigned_there schema.columns column fault) in
    omega (arith, ap length same, length-map schema.columns (λ (c : Column). c.col_type))

-- ---- commands

pub commands_split : (schema : Schema) (table : List ℕ) (rows : List Row) (ps : List Partition) → map (insert_command schema table rows) ps ≡ map (command_of schema table) (map (λ p. (p, rows_in schema p rows)) ps)
commands_split schema table rows [] = refl
commands_split schema table rows (p ∷ ps) = ap (λ cs. insert_command schema table rows p ∷ cs) (commands_split schema table rows ps)
