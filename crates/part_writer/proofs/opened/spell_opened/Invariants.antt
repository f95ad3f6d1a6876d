-- the files of the indexes gone over come after the two of the granules
use Rattle.std.proofs.Common.{◌≡◌, ◌∷◌, map, take}
use Rattle.primary_marks.specs.column_file.Marks.{keys_bytes, places_bytes}
use Rattle.skip_index.specs.Blocks.{index_bytes}
use Rattle.part_writer.proofs.opened.spell_opened.Given as goal

abbrev pub invariant-loop-index : goal.invariant-loop-index
invariant-loop-index l = l.files ≡ places_bytes l.places ∷ keys_bytes l.marks ∷ map index_bytes (take l.index-index l.indexes)
