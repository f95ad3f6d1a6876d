-- The parts of a run of a store that stands for a history hold rows that stand for it under their names.
use Rattle.std.proofs.Common.{◌≡◌, ℕ, ◌+◌, List, ◌++◌, Some, length, map, refl, ap, ◌∙◌, subst}
use Rattle.std.proofs.lemmas.List.Elements.{recursion_from_All}
use Rattle.std.specs.List.{All, AllZip}
use Rattle.mt_base.specs.declared.partition.Partition.{Partition}
use Rattle.mt_values.specs.Values.{Row}
use Rattle.mt_outside.specs.Files.{Files}
use Rattle.std.specs.Prelude.{Option}
use Rattle.root_store.specs.mt_model.History.{History}
use Rattle.root_store.specs.part_name.declared.part.PartName.{PartName}
use Rattle.root_store.specs.part_reader.declared.reading.Part.{Part}
use Rattle.root_store.specs.part_reader.Parts.{PartHolds}
use Rattle.root_store.specs.part_set.declared.kept.Kept.{Kept}
use Rattle.root_store.specs.part_set.declared.run.Run.{Run as PartRun}
use Rattle.root_store.specs.part_set.Parts.{kept_in}
use Rattle.root_store.specs.part_set.Runs.{IsRun, parts_of_run}
use Rattle.root_store.specs.part_set.Sets.{parts_of}
use Rattle.root_store.specs.part_history.declared.part.CorePart.{CorePart}
use Rattle.root_store.specs.part_history.Parts.{PartStands}
use Rattle.root_store.specs.table_core.declared.event.Sources.{Sources}
use Rattle.root_store.specs.table_core.declared.store.Run.{Run}
use Rattle.root_store.specs.table_core.Store.{parts_below}
use Rattle.root_store.proofs.TableCoreNeighbours.{sources_stand}
use Rattle.root_store.specs.declared.store.CoreStore.{CoreStore}
use Rattle.root_store.specs.declared.store.Table.{Table}
use Rattle.root_store.specs.Stores.{CoreStands, PartsAreThere, core_parts, table_at}
use Rattle.root_commits.proofs.MergedStores.{middle_of}
use Rattle.root_commits.proofs.RunRows.{rows_of_run, run_among, run_hold, run_neighbours, stand_reached}

module _ {F : Type 0} (files_of : F → Option Files) (store : CoreStore F) (table : List ℕ) (partition : Partition) (run : PartRun) (t : Table) (at : table_at store table ≡ Some t) (is : IsRun run (kept_in partition (parts_of store.set table)))
    (h : History) (s : CoreStands files_of h store) where
  abbrev Held : Kept (Part F) → List Row → Type 0
  Held k r = PartHolds files_of t.schema k.part r

  abbrev run_parts : List (Kept (Part F))
  run_parts = parts_of_run run (kept_in partition (parts_of store.set table))

  abbrev there : PartsAreThere files_of h store table t.schema
  there = s.parts table t at

  -- the rows that they hold
  abbrev pub run_rows : List (List Row)
  run_rows = rows_of_run partition run (parts_of store.set table) there.rows

  pub run_held : AllZip Held run_parts run_rows
  run_held = run_hold Held partition run (parts_of store.set table) there.rows there.hold

  abbrev meant : Sources
  meant = record { table = table; partition = partition; first = run.first; count = run.count }

  abbrev there_parts : List CorePart
  there_parts = core_parts table (parts_of store.set table) there.rows

  abbrev place : Run
  place = record { from = length (parts_below partition there_parts) + run.first; count = run.count }

  each_there : All (PartStands h) (core_parts table run_parts run_rows)
  each_there =
      let among = run_among Held meant run refl refl (parts_of store.set table) there.rows there.hold in
      let stand = sources_stand there_parts meant place there.order (run_neighbours Held meant run refl refl (parts_of store.set table) there.rows there.hold is) refl refl in
      let are : there_parts ≡ stand.front ++ (core_parts table run_parts run_rows ++ stand.back) = stand.parts_are ∙ ap (λ (ps : List CorePart). stand.front ++ (ps ++ stand.back)) among in
      middle_of (PartStands h) stand.front (core_parts table run_parts run_rows) stand.back (subst (All (PartStands h)) are there.stand.each)

  -- they stand for the history
  pub run_reach : AllZip (λ (name : PartName) (r : List Row). PartStands h (record { table = table; name = name; rows = r })) (map (λ (k : Kept (Part F)). k.name) run_parts) run_rows
  run_reach = stand_reached Held h table run_parts run_rows run_held (recursion_from_All (PartStands h) (core_parts table run_parts run_rows) each_there)
