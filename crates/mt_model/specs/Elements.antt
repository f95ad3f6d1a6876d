-- What the elements of a CREATE say beside its columns (docs/definitions.md, "Schemas"; ClickHouse, MergeTree: data skipping indexes).
use Rattle.std.specs.Prelude.{ℕ, ◌+◌, List, [], ◌∷◌, Option}
use Rattle.std.specs.List.{filter_map, flat_map}
use Rattle.std.specs.Option.{option_and_then, option_map}
use Rattle.mt_base.specs.Limits.{granularity_limit, set_limit}
use Rattle.mt_values.specs.declared.schema.Column.{Column}
use Rattle.mt_values.specs.declared.schema.IndexKind.{IndexKind}
use Rattle.mt_values.specs.declared.schema.IndexKind.TheVariants as index_kind
use Rattle.mt_values.specs.declared.schema.SkipIndex.{SkipIndex}
use Rattle.mt_values.specs.declared.statement.Element.{Element}
use Rattle.mt_values.specs.declared.statement.Element.TheVariants as element
use Rattle.mt_values.specs.declared.statement.IndexText.{IndexText}
use Rattle.mt_values.specs.declared.statement.KindText.{KindText}
use Rattle.mt_values.specs.declared.statement.KindText.TheVariants as kind_text
use Rattle.mt_values.specs.Grammar.{index_in}
use Rattle.mt_values.specs.Rows.{number_within}
use Rattle.mt_model.specs.Columns.{column_place}

-- the names of columns that an element mentions (docs/definitions.md, "Schemas")
abbrev pub names_of_element : Element → List (List ℕ)
names_of_element (element.Column c) = []
names_of_element (element.Index i) = i.column ∷ []

-- the names of columns that the elements mention, in the order of the text (docs/definitions.md, "Schemas")
abbrev pub indexed_names : List Element → List (List ℕ)
indexed_names elements = flat_map names_of_element elements

-- what an index keeps of a block; each number past the bound stands for all of them (docs/definitions.md, "Schemas")
abbrev pub kind_written : KindText → IndexKind
kind_written kind_text.MinMax = index_kind.MinMax
kind_written (kind_text.Set digits) = index_kind.Set (number_within (set_limit + 1) digits)

-- the number that digits of a granularity say; each number past the bound stands for all of them (docs/definitions.md, "Schemas")
abbrev pub granularity_said : List ℕ → ℕ
granularity_said digits = number_within (granularity_limit + 1) digits

-- the index that a text writes, whose column is at this place (docs/definitions.md, "Schemas")
abbrev pub index_at : IndexText → ℕ → SkipIndex
index_at i place = record { name = i.name; column = place; kind = kind_written i.kind; granularity = granularity_said i.granularity }

-- the index that a text writes, where its column is one of these (docs/definitions.md, "Schemas")
abbrev pub index_written : List Column → IndexText → Option SkipIndex
index_written columns i = option_map (index_at i) (column_place columns i.column)

-- the index that an element writes, where it is one and its column is one of these (docs/definitions.md, "Schemas")
abbrev pub written_by : List Column → Element → Option SkipIndex
written_by columns e = option_and_then (index_written columns) (index_in e)

-- the indexes that the elements write, in the order of the text (docs/definitions.md, "Schemas")
abbrev pub indexes_written : List Column → List Element → List SkipIndex
indexes_written columns elements = filter_map (written_by columns) elements
