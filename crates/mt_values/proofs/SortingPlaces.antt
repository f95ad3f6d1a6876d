-- The places by which a table's rows are sorted are those of its columns.
use Rattle.std.proofs.Common.{◌≡◌, ℕ, ◌<◌, Bool, true, false, cond, List, [], ◌∷◌, Option, Some, None, length, nat_eq, refl, slice_get}
use Rattle.std.specs.List.{All, list_any}
use Rattle.std.proofs.lemmas.List.Elements.{All-append, All-cons, All-nil}
use Rattle.std.proofs.lemmas.Option.{slice_get_within}
use Rattle.mt_values.specs.declared.engine.Engine.{Engine}
use Rattle.mt_values.specs.declared.engine.Engine.TheVariants as engine
use Rattle.mt_values.specs.declared.schema.Column.{Column}
use Rattle.mt_values.specs.declared.schema.Schema.{Schema}
use Rattle.mt_values.specs.declared.schema.SchemaFault.{SchemaFault}
use Rattle.mt_values.specs.declared.schema.SchemaFault.TheVariants as fault
use Rattle.mt_values.specs.declared.value.ColType.{ColType}
use Rattle.mt_values.specs.Engines.{added_version, has_type_that, is_unsigned, type_fault, version_place}
use Rattle.mt_values.specs.Schemas.{schema_fault}
use Rattle.mt_values.specs.Tables.{sorting_columns}
use Rattle.mt_values.proofs.RowPartitions.{version_sound}

-- a column that is named, and whose type breaks no rule, is one of the columns
pub typed_within : (passes : ColType → Bool) (tell : ℕ → SchemaFault) (columns : List Column) (place : ℕ) → type_fault passes tell columns (Some place) ≡ None → place < length columns
typed_within passes tell columns place none = by (slice_get columns place) refl none
  where
    by : (found : Option Column) → slice_get columns place ≡ found → cond (has_type_that passes found) None (Some (tell place)) ≡ None → place < length columns
    by None e none = absurd (clash none)
      where
        clash : Some (tell place) ≡ None → ⊥
        clash e = cc
    by (Some column) e none = slice_get_within columns place column e

-- the places by which rows are sorted are all of columns, where those of the key are
pub sorting_within : (schema : Schema) → schema_fault schema ≡ None → All (λ place. place < length schema.columns) schema.key → All (λ place. place < length schema.columns) (sorting_columns schema)
sorting_within schema sound own =
    All-append (λ place. place < length schema.columns) schema.key (added_version schema.engine schema.key) own (by schema.engine (version_sound schema sound))
  where
    added : (version : ℕ) (there : Bool) → version < length schema.columns → All (λ place. place < length schema.columns) (cond there [] (version ∷ []))
    added version true lt = All-nil (λ place. place < length schema.columns)
    added version false lt = All-cons (λ place. place < length schema.columns) version [] lt (All-nil (λ place. place < length schema.columns))

    by : (e : Engine) → type_fault is_unsigned fault.VersionType schema.columns (version_place e) ≡ None → All (λ place. place < length schema.columns) (added_version e schema.key)
    by engine.Plain none = All-nil (λ place. place < length schema.columns)
    by (engine.Replacing version) none = All-nil (λ place. place < length schema.columns)
    by (engine.Summing places) none = All-nil (λ place. place < length schema.columns)
    by (engine.Collapsing sign) none = All-nil (λ place. place < length schema.columns)
    by (engine.Versioned sign version) none =
        added version (list_any (λ own. nat_eq own version) schema.key) (typed_within is_unsigned fault.VersionType schema.columns version none)
    by engine.Aggregating none = All-nil (λ place. place < length schema.columns)
