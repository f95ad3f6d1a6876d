-- What a merge of the rows of chosen granules leaves has the matches of what a merge of all rows may leave.
use Rattle.std.proofs.Common.{◌≡◌, ◌<◌, ◌&&◌, ◌||◌, Bool, true, false, not, cond, List, [], ◌∷◌, ◌++◌, All, append-nil, filter, get_or, refl, sym, ap, ap₂, ◌∙◌, subst}
use Rattle.std.specs.Cmp.Lexicographic.{slice_cmp}
use Rattle.std.specs.List.{list_any}
use Rattle.std.specs.Ordering.{is_eq}
use Rattle.std.proofs.lemmas.List.Elements.{All-filter, All-head, All-tail, All-weaker, filter-append, filter_passes}
use Rattle.std.proofs.lemmas.List.Folds.{list_any_at}
use Rattle.mt_base.specs.declared.partition.Partition.{Partition}
use Rattle.mt_values.specs.declared.schema.Schema.{Schema}
use Rattle.mt_values.specs.declared.value.Value.{Value}
use Rattle.mt_values.specs.Order.{key_of, value_cmp}
use Rattle.mt_values.specs.Schemas.{column_types}
use Rattle.mt_values.specs.Tables.{partition_of, same_partition, sorting_columns}
use Rattle.mt_values.specs.Tests.{eval}
use Rattle.mt_values.specs.Values.{Row, types_of}
use Rattle.row_merge.specs.mt_model.History.{IsTableSchema}
use Rattle.row_merge.specs.mt_model.Partial.{MergesAll}
use Rattle.row_merge.specs.rule_law.TableRows.{IsTableRow}
use Rattle.row_merge.proofs.RuleLawTableRows.{run_table}
use Rattle.row_merge.specs.Merged.{ArePartRows, IsMergedOf}
use Rattle.final_fold.specs.declared.asking.Wanted.{Wanted}
use Rattle.final_fold.specs.Keys.{SaysOfKeys, is_of_key}
use Rattle.final_fold.specs.Folded.{HidesNoMatch, SkipNoFold, chosen_inputs}
use Rattle.final_fold.specs.Matches.{matching}
use Rattle.final_fold.specs.Scans.{joined_rows}
use Rattle.final_fold.proofs.ChosenParts.{all_hide, all_kept, all_skipped, own_joined}
use Rattle.final_fold.proofs.KeyTests.{merged_apart, merged_keep, merged_sources, merged_within, no_clash, of_itself}
use Rattle.final_fold.proofs.MergedRows.{merges_exist, of_partition, of_sorting, same_test}

module _ (w : Wanted) (skipped : List Row) (hides : All (HidesNoMatch w) skipped) where
  abbrev schema : Schema
  schema = w.schema.now

  abbrev meets : Row → Bool
  meets = eval w.condition.now

  -- a row of the key was not read
  abbrev touched : Row → Bool
  touched r = list_any (is_of_key w.schema.now (partition_of w.schema.now r) r) skipped

  abbrev untouched : Row → Bool
  untouched r = not (touched r)

  same_touched : (partition : Partition) (row r : Row) → is_of_key w.schema.now partition row r ≡ true
      → list_any (is_of_key w.schema.now (partition_of w.schema.now r) r) skipped ≡ list_any (is_of_key w.schema.now partition row) skipped
  same_touched partition row r is =
      ap₂ (λ (q : Partition) (key : List Value). list_any (λ u. same_partition (partition_of schema u) q && is_eq (slice_cmp value_cmp key (key_of (sorting_columns schema) u))) skipped)
      (of_partition schema partition row r is) (of_sorting schema partition row r is)

  says_untouched : SaysOfKeys w.schema.now (λ r. not (list_any (is_of_key w.schema.now (partition_of w.schema.now r) r) skipped))
  says_untouched = λ partition row. (not (list_any (is_of_key w.schema.now partition row) skipped), λ r is. ap not (same_touched partition row r is))

  -- no row of such a key meets the condition
  any_hides : (x : Row) (us : List Row) → types_of x ≡ column_types w.schema.now → All (HidesNoMatch w) us → list_any (is_of_key w.schema.now (partition_of w.schema.now x) x) us ≡ true → eval w.condition.now x ≡ false
  any_hides x [] typed all any = absurd (no_clash (sym any))
  any_hides x (u ∷ us) typed all any = by (is_of_key schema (partition_of schema x) x u) refl any (any_hides x us typed (All-tail (HidesNoMatch w) u us all))
    where
      own : Row → Bool
      own = is_of_key schema (partition_of schema x) x

      turned : own u ≡ true → is_of_key schema (partition_of schema u) u x ≡ true
      turned is = same_test schema (partition_of schema u) u x u (sym (of_partition schema (partition_of schema x) x u is)) (sym (of_sorting schema (partition_of schema x) x u is)) ∙ of_itself schema u

      by : (b : Bool) → own u ≡ b → (b || list_any own us) ≡ true → (list_any own us ≡ true → eval w.condition.now x ≡ false) → eval w.condition.now x ≡ false
      by true is found rest = All-head (HidesNoMatch w) u us all x typed (turned is)
      by false is found rest = rest found

  -- rows of one key with a row of a key that was not read
  any_touched : (x : Row) (ones : List Row) → All (λ a. list_any (is_of_key w.schema.now (partition_of w.schema.now a) a) skipped ≡ true) ones → list_any (is_of_key w.schema.now (partition_of w.schema.now x) x) ones ≡ true
      → list_any (is_of_key w.schema.now (partition_of w.schema.now x) x) skipped ≡ true
  any_touched x [] all any = absurd (no_clash (sym any))
  any_touched x (a ∷ ones) all any = by (is_of_key schema (partition_of schema x) x a) refl any (any_touched x ones (All-tail (λ r. touched r ≡ true) a ones all))
    where
      own : Row → Bool
      own = is_of_key schema (partition_of schema x) x

      by : (b : Bool) → own a ≡ b → (b || list_any own ones) ≡ true → (list_any own ones ≡ true → list_any own skipped ≡ true) → list_any own skipped ≡ true
      by true is found rest = sym (same_touched (partition_of schema x) x a is) ∙ All-head (λ r. touched r ≡ true) a ones all
      by false is found rest = rest found

  -- what is not read is touched
  pub skipped_touched : All (λ r. not (list_any (is_of_key w.schema.now (partition_of w.schema.now r) r) skipped) ≡ false) skipped
  skipped_touched = λ k d below. ap not (list_any_at (is_of_key schema (partition_of schema (get_or skipped k d)) (get_or skipped k d)) skipped k d below (of_itself schema (get_or skipped k d)))

  not_not : (b : Bool) → not (not b) ≡ true → b ≡ true
  not_not true e = refl
  not_not false e = e

  -- the matches are of keys that were read
  same_matches : (out : List Row) → All (IsTableRow w.schema.now) out → matching w.condition.now (filter (λ r. not (list_any (is_of_key w.schema.now (partition_of w.schema.now r) r) skipped)) out) ≡ matching w.condition.now out
  same_matches [] own = refl
  same_matches (x ∷ out) own = by (touched x) refl (same_matches out (All-tail (IsTableRow schema) x out own))
    where
      by : (b : Bool) → touched x ≡ b → filter meets (filter untouched out) ≡ filter meets out → filter meets (cond (not b) (x ∷ filter untouched out) (filter untouched out)) ≡ filter meets (x ∷ out)
      by true is rest =
          rest ∙ sym (ap (λ b. cond b (x ∷ filter meets out) (filter meets out)) (any_hides x skipped (All-head (IsTableRow schema) x out own).typed hides is))
      by false is rest = ap (λ zs. cond (meets x) (x ∷ zs) zs) rest

  none_meet : (out : List Row) → All (λ x. eval w.condition.now x ≡ false) out → matching w.condition.now out ≡ []
  none_meet [] all = refl
  none_meet (x ∷ out) all =
      ap (λ b. cond b (x ∷ filter meets out) (filter meets out)) (All-head (λ y. meets y ≡ false) x out all) ∙ none_meet out (All-tail (λ y. meets y ≡ false) x out all)

  pub whole_fold : IsTableSchema w.schema.now → (rows read merged : List Row) → All (IsTableRow w.schema.now) rows → All (IsTableRow w.schema.now) merged
      → filter (λ r. not (list_any (is_of_key w.schema.now (partition_of w.schema.now r) r) skipped)) read ≡ filter (λ r. not (list_any (is_of_key w.schema.now (partition_of w.schema.now r) r) skipped)) rows
      → MergesAll w.schema.now read merged → (out : List Row) × MergesAll w.schema.now rows out × (matching w.condition.now out ≡ matching w.condition.now merged)
  whole_fold table rows read merged own left same merges = (filter untouched merged ++ other.0, merged_apart schema untouched says_untouched rows (filter untouched merged) other.0 first other.1, matches)
    where
      first : MergesAll schema (filter untouched rows) (filter untouched merged)
      first = subst (λ zs. MergesAll schema zs (filter untouched merged)) same (merged_within schema untouched says_untouched read merged merges)

      others : List Row
      others = filter (λ r. not (untouched r)) rows

      other : (out : List Row) × MergesAll schema (filter (λ r. not (untouched r)) rows) out
      other = merges_exist schema table others (All-filter (λ r. not (untouched r)) (IsTableRow schema) rows own)

      all_touched : All (λ a. touched a ≡ true) others
      all_touched = All-weaker (λ r. not (untouched r) ≡ true) (λ a. touched a ≡ true) (λ a e. not_not (touched a) e) others (filter_passes (λ r. not (untouched r)) rows)

      other_own : All (IsTableRow schema) other.0
      other_own =
          merged_keep schema (IsTableRow schema) (λ some kept count all run. run_table schema some kept all run) others other.0 (All-filter (λ r. not (untouched r)) (IsTableRow schema) rows own) other.1

      none : All (λ x. meets x ≡ false) other.0
      none = λ k d below.
          any_hides (get_or other.0 k d) skipped (other_own k d below).typed hides
          (any_touched (get_or other.0 k d) others all_touched (merged_sources schema others other.0 other.1 k d below))

      matches : matching w.condition.now (filter untouched merged ++ other.0) ≡ matching w.condition.now merged
      matches =
          filter-append meets (filter untouched merged) other.0 ∙ ap (λ zs. filter meets (filter untouched merged) ++ zs) (none_meet other.0 none)
          ∙ append-nil (filter meets (filter untouched merged)) ∙ same_matches merged left

-- of the parts of one partition
pub parts_fold : (w : Wanted) → 0 < w.schema.now.granularity → IsTableSchema w.schema.now → (partition : Partition) (chosen : List (List Bool)) (rows : List (List Row)) (merged : List Row) → All (ArePartRows w.schema.now partition) rows → SkipNoFold w chosen rows
    → IsMergedOf w.schema.now partition (chosen_inputs w.schema.now.granularity chosen rows) merged → (out : List Row) × MergesAll w.schema.now (joined_rows rows) out × (matching w.condition.now out ≡ matching w.condition.now merged)
parts_fold w large table partition chosen rows merged parts skips is =
    let g = w.schema.now.granularity in
    let skipped = all_skipped g chosen rows in
    let hides = all_hide w large chosen rows skips in
    whole_fold w skipped hides table (joined_rows rows) (joined_rows (chosen_inputs g chosen rows)) merged (own_joined w.schema.now partition g rows parts) is.rows.own
    (all_kept w large (λ r. not (list_any (is_of_key w.schema.now (partition_of w.schema.now r) r) skipped)) chosen rows skips (skipped_touched w skipped hides)) is.merges
