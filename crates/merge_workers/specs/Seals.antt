-- What is sealed for a work (docs/engines.md, "Merges").
use Rattle.std.specs.Prelude.{List, Option, All}
use Rattle.mt_values.specs.Values.{Row}
use Rattle.mt_outside.specs.Files.{Files}
use Rattle.row_merge.specs.Merged.{ArePartRows}
use Rattle.row_merge.specs.MergedParts.{IsSealedMerge, IsSealedPart, PartsHold}
use Rattle.shared_store.specs.part_writer.declared.loaded.Loaded.{Loaded}
use Rattle.shared_store.specs.declared.work.Work.{Work}

-- What was sealed for a work: files that hold rows in any case, and where the work's parts hold rows as parts of their partition have them, what one
-- merge may leave of these.
pub record SealsWork {F : Type 0} (files_of : F → Option Files) (work : Work F) (sealed : Option Files) (loaded : Loaded) : Type 0 where
  pub holds : IsSealedPart work.schema sealed loaded
  pub merged : (inputs : List (List Row)) → PartsHold files_of work.schema work.sources.items inputs → All (ArePartRows work.schema work.partition) inputs
      → IsSealedMerge work.schema work.partition inputs sealed loaded
