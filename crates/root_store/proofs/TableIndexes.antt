-- The schema of a table gives its parts a file of each of its skip indexes.
use Rattle.std.proofs.Common.{◌≡◌, ℕ, ◌<◌, ◌≤◌, Bool, true, false, cond, not, leb, ltb, ◌&&◌, List, length, get_or, Some, None, refl, sym, subst, arith}
use Rattle.std.specs.List.{position, position_or_len}
use Rattle.std.specs.Option.{option_map}
use Rattle.std.proofs.lemmas.Bool.{leb-true, ltb-false}
use Rattle.std.proofs.lemmas.List.Sums.{fails_before_first}
use Rattle.mt_base.specs.Limits.{granularity_limit}
use Rattle.mt_values.specs.declared.schema.Schema.{Schema}
use Rattle.mt_values.specs.declared.schema.SchemaFault.TheVariants as fault
use Rattle.mt_values.specs.Schemas.{has_large_set, has_no_span}
use Rattle.mt_values.proofs.RowPartitions.{sets_sound, spans_sound}
use Rattle.table_core.specs.mt_model.History.{IsTableSchema}
use Rattle.part_reader.specs.part_writer.PartFiles.{HasIndexes}
use Rattle.root_store.proofs.TableMarks.{has_marks}
use Rattle.part_reader.specs.skip_index.Blocks.{index_at, no_index}

-- where the place of no item is found, each fails the test
none_found : {X Y : Type 0} (f : ℕ → Y) (p : X → Bool) (xs : List X) → option_map f (position p xs) ≡ None → (n : ℕ) (d : X) → n < length xs → p (get_or xs n d) ≡ false
none_found f p xs none n d below = by (ltb (position_or_len p xs) (length xs)) refl none
  where
    by : (b : Bool) → ltb (position_or_len p xs) (length xs) ≡ b → option_map f (cond b (Some (position_or_len p xs)) None) ≡ None → p (get_or xs n d) ≡ false
    by true is none = cc
    by false is none = fails_before_first p xs n d (omega (arith, below, ltb-false (position_or_len p xs) (length xs) is))

-- a block that has a span has a granule
spanned : (granules : ℕ) → not (leb 1 granules && leb granules granularity_limit) ≡ false → 0 < granules
spanned granules sound = by (leb 1 granules) (leb granules granularity_limit) refl sound
  where
    by : (a b : Bool) → leb 1 granules ≡ a → not (a && b) ≡ false → 0 < granules
    by true b is sound = let some : 1 ≤ granules = leb-true 1 granules is in omega (arith, some)
    by false b is sound = cc

pub has_indexes : (schema : Schema) → IsTableSchema schema → HasIndexes schema
has_indexes schema table = λ n below. record {
  there = below;
  own = table.indexed n no_index below;
  span = spanned (index_at schema n).granularity (none_found fault.IndexGranularity has_no_span schema.indexes (spans_sound schema table.sound) n no_index below);
  few = none_found fault.SetSize has_large_set schema.indexes (sets_sound schema table.sound) n no_index below;
  granularity = (has_marks schema table).granularity;
}

-- it has them as it is kept of a part, too
pub kept_indexes : (schema kept : Schema) → kept ≡ schema → IsTableSchema schema → HasIndexes kept
kept_indexes schema kept same table = has_indexes kept (subst IsTableSchema (sym same) table)
