-- What merges at any times may leave of rows keeps what one fold keeps.
use Rattle.std.proofs.Common.{◌≡◌, ℕ, zero, suc, ◌<◌, ◌&&◌, Bool, true, false, cond, List, [], ◌∷◌, ◌++◌, filter, length, get_or, sym, ap, ◌∙◌, subst, arith}
use Rattle.std.specs.List.{All}
use Rattle.std.specs.Ordering.{is_eq}
use Rattle.std.proofs.lemmas.Cmp.{tied_itself}
use Rattle.std.proofs.lemmas.List.Elements.{All-append, All-filter, All-head, All-same, All-tail}
use Rattle.mt_values.specs.declared.schema.Schema.{Schema}
use Rattle.mt_values.specs.Tables.{partition_of, same_partition, sorting_cmp}
use Rattle.mt_values.specs.Values.{Row}
use Rattle.mt_model.specs.Folding.{ComesFrom, Merges, MergesTimes}
use Rattle.mt_model.specs.Live.{of_key}
use Rattle.mt_model.specs.Partial.{Partly, TableRun}
use Rattle.mt_model.proofs.Commands.{same_itself}
use Rattle.mt_model.proofs.Determined.{sorting_total}
use Rattle.rule_law.specs.TableRows.{IsTableRow}
use Rattle.rule_law.proofs.Aggregated.{all_left, all_right}
use Rattle.rule_law.proofs.TableRows.{run_table}

-- what holds of the rows that pass a test holds of one that passes it
pub holds_at : (p : Row → Bool) (P : Row → Type 0) (rows : List Row) (k : ℕ) (d : Row) → All P (filter p rows) → k < length rows → p (get_or rows k d) ≡ true → P (get_or rows k d)
holds_at p P [] k d all below passes = absurd (omega arith)
holds_at p P (row ∷ rows) zero d all below passes = by (p row) passes all
  where
    by : (b : Bool) → b ≡ true → All P (cond b (row ∷ filter p rows) (filter p rows)) → P row
    by true e all = All-head P row (filter p rows) all
    by false e all = cc
holds_at p P (row ∷ rows) (suc k) d all below passes = holds_at p P rows k d (by (p row) all) (omega arith) passes
  where
    by : (b : Bool) → All P (cond b (row ∷ filter p rows) (filter p rows)) → All P (filter p rows)
    by true all = All-tail P row (filter p rows) all
    by false all = all

module _ (P : Row → Type 0) (run : List Row → List Row → Type 0) (stays : (rows out : List Row) → 0 < length rows → All P rows → run rows out → All P out) where
  merge_keeps : (before after : List Row) → All P before → Merges run before after → All P after
  merge_keeps before after all m =
      let whole : All P (m.front ++ (m.rows ++ m.back)) = All-same P (m.front ++ (m.rows ++ m.back)) before (sym m.before_is) all in
      let rest : All P (m.rows ++ m.back) = all_right P m.front (m.rows ++ m.back) whole in
      All-same P after (m.front ++ (m.out ++ m.back)) m.after_is
      (All-append P m.front (m.out ++ m.back) (all_left P m.front (m.rows ++ m.back) whole)
      (All-append P m.out m.back (stays m.rows m.out m.some (all_left P m.rows m.back rest) m.folded) (all_right P m.rows m.back rest)))

  times_keep : (n : ℕ) (before after : List Row) → All P before → MergesTimes n run before after → All P after
  times_keep zero before after all same = subst (All P) same all
  times_keep (suc n) before after all m = times_keep n m.0 after (merge_keeps before m.0 all m.1) m.2

  pub merges_keep : (rows x : List Row) → All P rows → ComesFrom run rows x → All P x
  merges_keep rows x all comes = times_keep comes.0 rows x all comes.1

-- of rows of any partitions and keys
pub partly_keeps : (schema : Schema) (P : Row → Type 0) → ((rows out : List Row) → 0 < length rows → All P rows → TableRun schema rows out → All P out)
    → (live x : List Row) → All P live → Partly schema live x → All P x
partly_keeps schema P stays live x all partly = λ k d below.
    let row = get_or x k d in
    let partition = partition_of schema row in
    let of_row : Row → Bool = λ r. same_partition (partition_of schema r) partition && is_eq (sorting_cmp schema row r) in
    let passes : of_row row ≡ true = ap (λ b. b && is_eq (sorting_cmp schema row row)) (same_itself partition) ∙ ap is_eq (tied_itself (sorting_total schema) row) in
    holds_at of_row P x k d (merges_keep P (TableRun schema) stays (of_key schema partition row live) (of_key schema partition row x) (All-filter of_row P live all) (partly partition row)) below passes

-- what merges may leave of rows of a table are rows of it
pub partly_table : (schema : Schema) (live x : List Row) → All (IsTableRow schema) live → Partly schema live x → All (IsTableRow schema) x
partly_table schema live x all partly = partly_keeps schema (IsTableRow schema) (λ rows out some own h. run_table schema rows out own h) live x all partly
