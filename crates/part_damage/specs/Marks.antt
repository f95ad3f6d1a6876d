-- Where the mark of a file stands in the manifest of its part (docs/formats.md, "Parts").
use Rattle.std.specs.Prelude.{◌+◌, length, slice_get, Option, None}
use Rattle.mt_base.specs.declared.name.FileId.{FileId}
use Rattle.mt_base.specs.declared.name.FileId.TheVariants as file
use Rattle.mt_values.specs.declared.manifest.FileMark.{FileMark}
use Rattle.mt_values.specs.declared.manifest.Manifest.{Manifest}
use Rattle.mt_values.specs.declared.schema.Schema.{Schema}

-- the mark that the manifest of a table's part has of a file, by its kind: first those of the files of granules, then those of skip indexes
-- and of columns, each in their order
abbrev pub mark_for : Schema → Manifest → FileId → Option FileMark
mark_for schema manifest file.Marks = slice_get manifest.files 0
mark_for schema manifest file.Primary = slice_get manifest.files 1
mark_for schema manifest (file.Skip n) = slice_get manifest.files (n + 2)
mark_for schema manifest (file.Column n) = slice_get manifest.files (n + length schema.indexes + 2)
mark_for schema manifest f = None
