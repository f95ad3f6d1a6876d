-- What is known where nothing is shown against a merge.
use Rattle.std.proofs.Common.{◌≡◌, List, Some, None}
use Rattle.std.specs.List.{All}
use Rattle.mt_values.specs.RootNames.{part_name}
use Rattle.mt_outside.specs.Disk.{Told, files_at, names_of}
use Rattle.root_store.specs.part_name.declared.part.PartName.{PartName}
use Rattle.root_store.specs.part_name.PartNames.{part_text}
use Rattle.root_store.specs.part_reader.declared.reading.Part.{Part}
use Rattle.root_store.specs.part_set.declared.kept.Kept.{Kept}
use Rattle.root_store.specs.part_set.Parts.{kept_in}
use Rattle.root_store.specs.part_set.Runs.{EndsInOrder}
use Rattle.root_store.specs.part_set.Sets.{parts_of}
use Rattle.root_store.specs.declared.store.Table.{Table}
use Rattle.root_store.specs.Stores.{table_at}
use Rattle.root_store.proofs.PartSetShelving.{mine_within}
use Rattle.root_commits.specs.Merges.{Merging, sources_of}
use Rattle.root_commits.specs.Turns.{MaySwap, Root}
use Rattle.root_commits.proofs.MergeReady.{table_of_run}
use Rattle.root_commits.proofs.MergedNames.{first_of, of_run}
use Rattle.root_commits.proofs.MergedShown.{merged_free, merged_word}

module _ {F : Type 0} (m : Merging) (name : PartName) (was : Root F) (may : MaySwap m name was) where
  abbrev parts : List (Kept (Part F))
  parts = parts_of was.store.set m.table

  -- the table is there
  pub table_there : (t : Table) × (table_at was.store m.table ≡ Some t)
  table_there =
      let one = first_of (sources_of was.store m) name may.named in
      table_of_run was.store m may.ready.sound one.0 (mine_within m.partition parts one.0 (of_run m.run (kept_in m.partition parts) one.0 one.1))

  -- its parts begin no later than they end
  pub fit : All EndsInOrder parts
  fit = (may.ready.sound.tables m.table table_there.0 table_there.1).order

  -- the name is free, as long as the disk's count is the one at opening
  pub free : was.storage.failed ≡ was.store.opened → (root : Told) → was.storage.disk ≡ Some root → files_at (part_name m.table (part_text name)) (names_of root) ≡ None
  free calm root is =
      let shown = may.ready.shown calm root is in
      merged_free was.store m may.ordered fit name may.named (names_of root) shown (merged_word was.store m may.ordered fit name may.named (names_of root) shown may.low)
