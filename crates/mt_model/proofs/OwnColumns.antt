-- The columns that a table's schema names are its own.
use Rattle.std.proofs.Common.{◌≡◌, ℕ, ◌<◌, Bool, true, false, cond, List, [], ◌∷◌, Some, None, All, length, refl, ap, sym, ◌∙◌, subst, arith, zero, suc, nat_eq, slice_get}
use Rattle.std.proofs.lemmas.Bool.{eqb-true}
use Rattle.std.proofs.lemmas.List.Elements.{All-nil, All-cons, All-head, All-tail}
use Rattle.mt_values.specs.declared.schema.Column.{Column}
use Rattle.mt_values.specs.declared.schema.Schema.{Schema}
use Rattle.mt_values.specs.declared.schema.SchemaFault.TheVariants as fault
use Rattle.mt_values.specs.Schemas.{is_unsigned_column, partition_fault, prefix_fault}
use Rattle.mt_values.specs.Tables.{sorting_columns}
use Rattle.mt_values.proofs.RowPartitions.{partition_sound, prefix_sound, unsigned_there}
use Rattle.mt_values.proofs.SortingPlaces.{sorting_within}
use Rattle.mt_model.specs.History.{IsTableSchema}

-- what holds of each column of a key holds of each of its prefix
of_prefix : (P : ℕ → Type 0) (key primary : List ℕ) → prefix_fault key primary ≡ None → All P key → All P primary
of_prefix P key [] sound each = All-nil P
of_prefix P [] (column ∷ columns) sound each = cc
of_prefix P (own ∷ key) (column ∷ columns) sound each = by (nat_eq own column) (λ sound. of_prefix P key columns sound (All-tail P own key each)) refl sound
  where
    by : (b : Bool) → (prefix_fault key columns ≡ None → All P columns) → nat_eq own column ≡ b → cond b (prefix_fault key columns) (Some (fault.NotPrefix column)) ≡ None → All P (column ∷ columns)
    by true more is sound =
        let same : own ≡ column = eqb-true own column is in
        All-cons P column columns (subst P same (All-head P own key each)) (more sound)
    by false more is sound = cc

pub primary_own : (schema : Schema) → IsTableSchema schema → All (λ place. place < length schema.columns) schema.primary
primary_own schema table = of_prefix (λ place. place < length schema.columns) schema.key schema.primary (prefix_sound schema table.sound) table.own

-- so are the columns by which rows are sorted
pub sorting_own : (schema : Schema) → IsTableSchema schema → All (λ place. place < length schema.columns) (sorting_columns schema)
sorting_own schema table = sorting_within schema table.sound table.own

unsigned_below : (columns : List Column) (place : ℕ) → is_unsigned_column (slice_get columns place) ≡ true → place < length columns
unsigned_below [] place is = cc
unsigned_below (c ∷ columns) zero is = omega arith
unsigned_below (c ∷ columns) (suc place) is = let below : place < length columns = unsigned_below columns place is in omega arith

pub partition_own : (schema : Schema) (place : ℕ) → IsTableSchema schema → schema.partition ≡ Some place → place < length schema.columns
partition_own schema place table is =
    unsigned_below schema.columns place (unsigned_there schema.columns place (sym (ap (partition_fault schema.columns) is) ∙ partition_sound schema table.sound))
