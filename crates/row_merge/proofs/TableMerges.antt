-- Merges of a table's rows: by key and partition, and of rows of the table.
use Rattle.std.proofs.Common.{◌≡◌, ℕ, ◌<◌, ◌&&◌, Bool, true, false, cond, List, [], ◌∷◌, filter, length, get_or, refl, sym, ap, ◌∙◌, subst, arith}
use Rattle.std.specs.List.{All}
use Rattle.std.specs.Ordering.{is_eq}
use Rattle.std.proofs.lemmas.List.{length-map}
use Rattle.std.proofs.lemmas.List.Elements.{All-filter, All-head, All-tail, All-weaker}
use Rattle.mt_base.specs.declared.partition.Partition.{Partition}
use Rattle.mt_values.specs.declared.schema.Column.{Column}
use Rattle.mt_values.specs.declared.schema.Schema.{Schema}
use Rattle.mt_values.specs.Order.{HasPlaces, key_cmp}
use Rattle.mt_values.specs.Tables.{partition_of, same_partition, sorting_cmp, sorting_columns}
use Rattle.mt_values.specs.Values.{Row, type_of}
use Rattle.part_history.specs.mt_model.Folding.{Leaves}
use Rattle.part_history.specs.mt_model.History.{IsTableSchema}
use Rattle.part_history.specs.mt_model.Live.{of_key}
use Rattle.part_history.specs.mt_model.Partial.{Partly, TableRun}
use Rattle.part_history.proofs.MtModelOwnColumns.{sorting_own}
use Rattle.part_reader.specs.part_writer.Growing.{Growing}
use Rattle.rule_replacing.specs.rule_law.TableRows.{IsTableRow}
use Rattle.rule_replacing.proofs.RuleLawApartColumns.{partition_apart}
use Rattle.rule_replacing.proofs.RuleLawPartlyRows.{holds_at, partly_keeps}
use Rattle.rule_replacing.proofs.RuleLawTableRows.{run_partition, run_table}
use Rattle.row_merge.specs.Merged.{AreMergeable, AreOrdered, ArePartRows, IsFoldOf, IsMergeOf, IsMergedOf, alike, rows_of_all}
use Rattle.row_merge.specs.Streams.{HasMerged, HasMergedTable}
use Rattle.row_merge.proofs.Keys.{key_total}
use Rattle.row_merge.proofs.Merges.{all_of_all}
use Rattle.row_merge.proofs.Sorted.{equal_itself, none_passes}

-- ---- rules that say the same

leaves_by : (run other : List Row → List Row → Type 0) → ((rows out : List Row) → run rows out → other rows out) → (rows out : List Row) → Leaves run rows out → Leaves other rows out
leaves_by run other same [] out h = h
leaves_by run other same (row ∷ rows) out h = same (row ∷ rows) out h

pub fold_by : (places : List ℕ) (run other : List Row → List Row → Type 0) → ((rows out : List Row) → run rows out → other rows out) → (rows out : List Row) → IsFoldOf places run rows out → IsFoldOf places other rows out
fold_by places run other same rows out h = record { sorted = h.sorted; folded = λ row. leaves_by run other same (alike places row rows) (alike places row out) (h.folded row) }

-- ---- what holds of all rows

module _ (P : Row → Type 0) (places : List ℕ) (run : List Row → List Row → Type 0) (stays : (rows out : List Row) → 0 < length rows → All P rows → run rows out → All P out) where
  -- of rows that no column at the places tells apart
  left_all : (rows out : List Row) → 0 < length out → All P rows → Leaves run rows out → All P out
  left_all [] out some all h = absurd (omega (arith, some, ap length h))
  left_all (row ∷ rows) out some all h = stays (row ∷ rows) out (omega arith) all h

  some_left : (p : Row → Bool) (rows : List Row) (k : ℕ) (d : Row) → k < length rows → p (get_or rows k d) ≡ true → 0 < length (filter p rows)
  some_left p rows k d below passes = by (filter p rows) refl
    where
      by : (found : List Row) → filter p rows ≡ found → 0 < length found
      by [] none = absurd (clash (sym passes ∙ none_passes p rows none k d below))
        where
          clash : true ≡ false → ⊥
          clash e = cc
      by (row ∷ found) e = omega arith

  -- what one fold of each key's rows keeps, holds of all that folds leave
  pub fold_all : (rows out : List Row) → IsFoldOf places run rows out → All P rows → All P out
  fold_all rows out h all = λ k d below.
      let row = get_or out k d in
      let itself : is_eq (key_cmp places row row) ≡ true = ap is_eq (equal_itself (key_cmp places) (key_total places) row) in
      let left = left_all (alike places row rows) (alike places row out) (some_left (λ other. is_eq (key_cmp places row other)) out k d below itself)
      (All-filter (λ other. is_eq (key_cmp places row other)) P rows all) (h.folded row) in
      holds_at (λ other. is_eq (key_cmp places row other)) P out k d left below itself

-- ---- the rows of one partition

rows_with : (f g : Row → Bool) (rows : List Row) → All (λ r. f r ≡ true) rows → filter (λ r. f r && g r) rows ≡ filter g rows
rows_with f g [] all = refl
rows_with f g (row ∷ rows) all =
    let rest = rows_with f g rows (All-tail (λ r. f r ≡ true) row rows all) in
    ap (λ b. cond (b && g row) (row ∷ filter (λ r. f r && g r) rows) (filter (λ r. f r && g r) rows)) (All-head (λ r. f r ≡ true) row rows all)
    ∙ ap (λ zs. cond (g row) (row ∷ zs) zs) rest

rows_without : (f g : Row → Bool) (rows : List Row) → All (λ r. f r ≡ false) rows → filter (λ r. f r && g r) rows ≡ []
rows_without f g [] all = refl
rows_without f g (row ∷ rows) all =
    ap (λ b. cond (b && g row) (row ∷ filter (λ r. f r && g r) rows) (filter (λ r. f r && g r) rows)) (All-head (λ r. f r ≡ false) row rows all)
    ∙ rows_without f g rows (All-tail (λ r. f r ≡ false) row rows all)

module _ (schema : Schema) (partition : Partition) where
  abbrev Parted : Row → Type 0
  Parted row = partition_of schema row ≡ partition

  of_part : (other : Partition) (b : Bool) → same_partition partition other ≡ b → (rows : List Row) → All Parted rows → All (λ r. same_partition (partition_of schema r) other ≡ b) rows
  of_part other b is rows all = All-weaker Parted (λ r. same_partition (partition_of schema r) other ≡ b) (λ r own. ap (λ p. same_partition p other) own ∙ is) rows all

  -- a merge of rows of one partition is one of each partition
  pub merges_all : (run : List Row → List Row → Type 0) (rows out : List Row) → All Parted rows → All Parted out
      → ((row : Row) → Leaves run (alike (sorting_columns schema) row rows) (alike (sorting_columns schema) row out))
      → (other : Partition) (row : Row) → Leaves run (of_key schema other row rows) (of_key schema other row out)
  merges_all run rows out parted left folded other row = by (same_partition partition other) refl
    where
      f : Row → Bool
      f r = same_partition (partition_of schema r) other

      g : Row → Bool
      g r = is_eq (sorting_cmp schema row r)

      by : (b : Bool) → same_partition partition other ≡ b → Leaves run (of_key schema other row rows) (of_key schema other row out)
      by true is =
          subst (λ zs. Leaves run zs (of_key schema other row out)) (sym (rows_with f g rows (of_part other true is rows parted)))
          (subst (Leaves run (filter g rows)) (sym (rows_with f g out (of_part other true is out left))) (folded row))
      by false is =
          subst (λ zs. Leaves run zs (of_key schema other row out)) (sym (rows_without f g rows (of_part other false is rows parted)))
          (rows_without f g out (of_part other false is out left))

  module _ (table : IsTableSchema schema) where
    abbrev pub Own : Row → Type 0
    Own row = IsTableRow schema row × Parted row

    own_stays : (rows out : List Row) → 0 < length rows → All Own rows → TableRun schema rows out → All Own out
    own_stays rows out some all h =
        let own = All-weaker Own (IsTableRow schema) (λ row o. o.0) rows all in
        let rest = run_table schema rows out own h in
        let parted = run_partition schema partition rows out (partition_apart schema table) some own (All-weaker Own Parted (λ row o. o.1) rows all) h in
        λ k d below. (rest k d below, parted k d below)

    -- what merges at any times may leave of rows of the table and of the partition are such rows
    pub partly_own : (live x : List Row) → All Own live → Partly schema live x → All Own x
    partly_own live x all partly = partly_keeps schema Own own_stays live x all partly

    own_rows : (inputs : List (List Row)) → All (ArePartRows schema partition) inputs → All Own (rows_of_all inputs)
    own_rows inputs parts =
        all_of_all Own inputs (All-weaker (ArePartRows schema partition) (All Own) (λ rows part k d below. (part.own k d below, part.parted k d below)) inputs parts)

    -- what a merge by the table's rule leaves of rows of parts of a partition
    pub table_merged : (inputs : List (List Row)) (out : List Row) → All (ArePartRows schema partition) inputs → IsMergeOf schema (TableRun schema) inputs out → IsMergedOf schema partition inputs out
    table_merged inputs out parts h =
        let before = own_rows inputs parts in
        let after = fold_all Own (sorting_columns schema) (TableRun schema) own_stays (rows_of_all inputs) out h before in
        let parted = All-weaker Own Parted (λ row o. o.1) (rows_of_all inputs) before in
        let left = All-weaker Own Parted (λ row o. o.1) out after in
        record {
          rows = record { own = All-weaker Own (IsTableRow schema) (λ row o. o.0) out after; parted = left; rising = h.sorted };
          merges = merges_all (TableRun schema) (rows_of_all inputs) out parted left h.folded;
        }

    has_places : (row : Row) → IsTableRow schema row → HasPlaces (sorting_columns schema) row
    has_places row own =
        let count : length row ≡ length schema.columns = sym (length-map row type_of) ∙ ap length own.typed ∙ length-map schema.columns (λ (c : Column). c.col_type) in
        All-weaker (λ place. place < length schema.columns) (λ place. place < length row) (λ place below. omega (arith, count, below)) (sorting_columns schema) (sorting_own schema table)

    -- rows of parts may be merged by a rule that takes rows of the table and leaves the sorting columns as they are
    pub mergeable : (inputs : List (List Row)) (takes : Row → Type 0) (apart : List ℕ → Type 0) → All (ArePartRows schema partition) inputs → ((row : Row) → IsTableRow schema row → takes row) → apart (sorting_columns schema)
        → AreMergeable schema takes apart inputs
    mergeable inputs takes apart parts taken kept = record {
      ordered = All-weaker (ArePartRows schema partition) (AreOrdered (sorting_columns schema))
          (λ rows part. record { sorted = part.rising; whole = All-weaker (IsTableRow schema) (HasPlaces (sorting_columns schema)) has_places rows part.own }) inputs parts;
      taken = All-weaker (ArePartRows schema partition) (All takes) (λ rows part. All-weaker (IsTableRow schema) takes taken rows part.own) inputs parts;
      keeps_key = kept;
    }

    -- what a rule leaves of them that says the same as the table's
    pub merged_by : (inputs : List (List Row)) (takes : Row → Type 0) (apart : List ℕ → Type 0) (run : List Row → List Row → Type 0) (out : List Row)
        → ((row : Row) → IsTableRow schema row → takes row) → apart (sorting_columns schema) → ((rows left : List Row) → run rows left → TableRun schema rows left)
        → (AreMergeable schema takes apart inputs → IsMergeOf schema run inputs out) → All (ArePartRows schema partition) inputs → IsMergedOf schema partition inputs out
    merged_by inputs takes apart run out taken kept same merge parts =
        table_merged inputs out parts (fold_by (sorting_columns schema) run (TableRun schema) same (rows_of_all inputs) out (merge (mergeable inputs takes apart parts taken kept)))

    -- the part that is written has what the table's rule leaves
    pub merged_table : (places : List ℕ) (run : List Row → List Row → Type 0) (rows : List (List Row)) (out : Growing) → places ≡ sorting_columns schema → ((some left : List Row) → run some left → TableRun schema some left)
        → All (ArePartRows schema partition) rows → HasMerged places run rows out → HasMergedTable schema partition rows out
    merged_table places run rows out are same parts m = record {
      done = m.done;
      has = m.has;
      merged = table_merged rows m.done parts (fold_by (sorting_columns schema) run (TableRun schema) same (rows_of_all rows) m.done (subst (λ ps. IsFoldOf ps run (rows_of_all rows) m.done) are m.folds));
    }
