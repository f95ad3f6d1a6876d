-- How long a file may be whose format bounds its length (docs/formats.md, "Entries" and "Manifests").
use Rattle.std.specs.Prelude.{ℕ, ◌+◌, ◌*◌, Option, Some, None}
use Rattle.mt_base.specs.declared.name.FileId.{FileId}
use Rattle.mt_base.specs.declared.name.FileId.TheVariants as file
use Rattle.mt_base.specs.Limits.{column_limit, index_limit, statement_limit}

-- how many bytes such a file has at most: an entry has the text of a statement, and a manifest a mark of each other file of its part
abbrev pub most_bytes : FileId → Option ℕ
most_bytes file.Entry = Some (4 + 4 + statement_limit + 32)
most_bytes file.Manifest = Some (18 + 40 * (2 + index_limit + column_limit) + 32)
most_bytes file.Marks = None
most_bytes file.Primary = None
most_bytes (file.Skip number) = None
most_bytes (file.Column number) = None
