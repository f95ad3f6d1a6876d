-- What one entry more draws and adds (docs/definitions.md, "The core").
use Rattle.std.specs.Prelude.{◌+◌, ◌++◌, ◌∷◌, ℕ, List, None, filter, not}
use Rattle.std.specs.Ordering.{is_gt}
use Rattle.mt_base.specs.declared.partition.Partition.{Partition}
use Rattle.mt_values.specs.declared.command.Insert.{Insert}
use Rattle.mt_values.specs.declared.schema.Schema.{Schema}
use Rattle.mt_values.specs.Tables.{sorting_cmp}
use Rattle.rule_law.specs.mt_model.History.{History}
use Rattle.rule_law.specs.mt_model.Live.{sorted}
use Rattle.rule_law.specs.mt_model.Numbers.{last_number}
use Rattle.part_history.specs.declared.part.CorePart.{CorePart}
use Rattle.part_history.specs.Parts.{partition_cmp}

-- the number that the table's next command draws (docs/definitions.md, "Numbers")
abbrev pub next_number : List ℕ → History → ℕ
next_number table h = last_number table h + 1

-- the part that an INSERT makes: its own number alone, and its rows in the table's order, those that are alike in it as they came (docs/definitions.md, "The core")
abbrev pub part_of_insert : Schema → ℕ → Insert → CorePart
part_of_insert schema number i = record {
  table = i.table;
  name = record { partition = i.partition; min_block = number; max_block = number; level = 0; mutation = None };
  rows = sorted (sorting_cmp schema) i.block.rows;
}

-- the parts of a partition and of those before it in block order, as listed (docs/definitions.md, "The core")
abbrev pub parts_upto : Partition → List CorePart → List CorePart
parts_upto partition parts = filter (λ (p : CorePart). not (is_gt (partition_cmp p.name.partition partition))) parts

-- the parts of the partitions after one in block order, as listed (docs/definitions.md, "The core")
abbrev pub parts_after : Partition → List CorePart → List CorePart
parts_after partition parts = filter (λ (p : CorePart). is_gt (partition_cmp p.name.partition partition)) parts

-- parts with one more, which is the last of its partition (docs/definitions.md, "The core")
abbrev pub with_part : CorePart → List CorePart → List CorePart
with_part part parts = parts_upto part.name.partition parts ++ part ∷ parts_after part.name.partition parts
