-- The schema of a table gives its parts marks.
use Rattle.std.proofs.Common.{◌≡◌, ℕ, ◌<◌, ◌≤◌, Bool, true, false, cond, leb, ◌&&◌, Some, None, arith, refl, subst, sym}
use Rattle.std.proofs.lemmas.Bool.{leb-true}
use Rattle.mt_base.specs.Limits.{granularity_limit}
use Rattle.mt_values.specs.declared.schema.Schema.{Schema}
use Rattle.mt_values.specs.declared.schema.SchemaFault.TheVariants as fault
use Rattle.mt_values.specs.Schemas.{granularity_fault}
use Rattle.mt_values.proofs.RowPartitions.{granularity_sound}
use Rattle.table_core.specs.mt_model.History.{IsTableSchema}
use Rattle.table_core.proofs.MtModelOwnColumns.{primary_own}
use Rattle.part_reader.specs.primary_marks.Keys.{HasMarks}

-- where no rule for granules is broken, a granule has a row
granule_rows : (rows : ℕ) → granularity_fault rows ≡ None → 0 < rows
granule_rows rows sound = by (leb 1 rows) (leb rows granularity_limit) refl sound
  where
    by : (a b : Bool) → leb 1 rows ≡ a → cond (a && b) None (Some fault.Granularity) ≡ None → 0 < rows
    by true b is sound = let some : 1 ≤ rows = leb-true 1 rows is in omega (arith, some)
    by false b is sound = cc

pub has_marks : (schema : Schema) → IsTableSchema schema → HasMarks schema
has_marks schema table = record { some = table.primary; own = primary_own schema table; granularity = granule_rows schema.granularity (granularity_sound schema table.sound) }

-- it has them as it is kept of a part, too
pub kept_marks : (schema kept : Schema) → kept ≡ schema → IsTableSchema schema → HasMarks kept
kept_marks schema kept same table = has_marks kept (subst IsTableSchema (sym same) table)
