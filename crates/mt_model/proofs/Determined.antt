-- A SELECT has one answer at a place of the history.
use Rattle.std.proofs.Common.{◌≡◌, ℕ, Bool, true, false, ◌&&◌, List, map, filter, sym, ap, ◌∙◌, subst, Ok}
use Rattle.std.specs.Ordering.{is_eq}
use Rattle.std.specs.List.Sorted.{IsPermutation}
use Rattle.std.specs.Cmp.{IsTotalOrder}
use Rattle.std.specs.FinMap.{slice_cmp-IsAntisymmetric}
use Rattle.std.proofs.lemmas.Cmp.{on_total, lists_total, tied_itself}
use Rattle.std.proofs.lemmas.List.Sorted.{IsPermutation-trans, IsPermutation-sym, IsPermutation-map}
use Rattle.mt_values.specs.declared.schema.Schema.{Schema}
use Rattle.mt_values.specs.declared.statement.SelectText.{SelectText}
use Rattle.mt_values.specs.Values.{Row}
use Rattle.mt_values.specs.Order.{key_of, key_cmp, row_cmp, IsExact}
use Rattle.mt_values.specs.Tables.{IsPlain, partition_of, same_partition, sorting_cmp, sorting_columns}
use Rattle.mt_values.specs.Printing.{line}
use Rattle.mt_values.specs.Tests.{eval}
use Rattle.mt_values.proofs.Orders.{value_total, value_exact}
use Rattle.mt_model.specs.History.{History}
use Rattle.mt_model.specs.Live.{live, sorted}
use Rattle.mt_model.specs.Final.{Sees}
use Rattle.mt_model.specs.Partial.{Partly}
use Rattle.mt_model.specs.Answer.{Answer, Prints}
use Rattle.mt_model.proofs.Commands.{same_itself}
use Rattle.mt_model.proofs.Merged.{folds_plain, partly_alike, partly_plain}
use Rattle.mt_model.specs.declared.query.Query.{Query}
use Rattle.mt_model.proofs.SameKeys.{permutes, exact_alike, exact_sorted, filter_after, filters_swap}
use Rattle.mt_model.proofs.Sorting.{equal_is, sorted_keeps_where}

pub key_total : (places : List ℕ) → IsTotalOrder (key_cmp places)
key_total places = on_total (key_of places) (lists_total value_total)

pub sorting_total : (schema : Schema) → IsTotalOrder (sorting_cmp schema)
sorting_total schema = key_total (sorting_columns schema)

pub row_total : IsTotalOrder row_cmp
row_total = lists_total value_total

pub row_exact : IsExact row_cmp
row_exact = slice_cmp-IsAntisymmetric value_exact

-- a row that is another one is of its partition and of its key
alike_in : (schema : Schema) (a r : Row) → is_eq (row_cmp a r) ≡ true → (same_partition (partition_of schema r) (partition_of schema a) && is_eq (sorting_cmp schema a r)) ≡ true
alike_in schema a r is =
    let same : a ≡ r = row_exact a r (equal_is (row_cmp a r) is) in
    rw (sym same) (rw (same_itself (partition_of schema a)) (ap is_eq (tied_itself (sorting_total schema) a)))

-- merges of a plain table only move rows
pub partly_permutes : (schema : Schema) (rows x : List Row) → IsPlain schema → Partly schema rows x → IsPermutation rows x
partly_permutes schema rows x plain partly = permutes row_cmp row_total rows x each
  where
    each : (a : Row) → filter (λ r. is_eq (row_cmp a r)) rows ≡ filter (λ r. is_eq (row_cmp a r)) x
    each a =
        let own : Row → Bool = λ r. same_partition (partition_of schema r) (partition_of schema a) && is_eq (sorting_cmp schema a r) in
        let found : List Row → List Row = filter (λ r. is_eq (row_cmp a r)) in
        filter_after (λ r. is_eq (row_cmp a r)) own (alike_in schema a) rows
        ∙ (ap found (sym (partly_plain schema rows x plain partly (partition_of schema a) a))
        ∙ sym (filter_after (λ r. is_eq (row_cmp a r)) own (alike_in schema a) x))

-- rows in the table's order are what merges may have left of them
pub partly_sorted : (schema : Schema) (rows : List Row) → Partly schema rows (sorted (sorting_cmp schema) rows)
partly_sorted schema rows =
    partly_alike schema rows (sorted (sorting_cmp schema) rows) (λ partition row. sorted_keeps_where (sorting_cmp schema) (sorting_total schema) (λ r. same_partition (partition_of schema r) partition) row rows)

-- what passes a test does not depend on the order of the rows
pub filter_moved : (p : Row → Bool) (rows other : List Row) → IsPermutation rows other → IsPermutation (filter p rows) (filter p other)
filter_moved p rows other moved = permutes row_cmp row_total (filter p rows) (filter p other) each
  where
    each : (a : Row) → filter (λ r. is_eq (row_cmp a r)) (filter p rows) ≡ filter (λ r. is_eq (row_cmp a r)) (filter p other)
    each a =
        filters_swap (λ r. is_eq (row_cmp a r)) p rows
        ∙ (ap (filter p) (exact_alike row_cmp row_exact rows other moved a)
        ∙ sym (filters_swap (λ r. is_eq (row_cmp a r)) p other))

-- the lines of rows do not depend on the order of the rows
pub prints_once : (rows other : List Row) (a b : List (List ℕ)) → IsPermutation rows other → Prints rows a → Prints other b → a ≡ b
prints_once rows other a b moved one two =
    let both : IsPermutation one.order two.order =
    IsPermutation-trans one.order rows two.order (IsPermutation-sym rows one.order one.same) (IsPermutation-trans rows other two.order moved two.same) in
    one.lines_are ∙ ap (map line) (exact_sorted row_cmp row_total row_exact one.order two.order both one.rising two.rising) ∙ sym two.lines_are

-- with FINAL too
pub sees_permutes : (schema : Schema) (is_final : Bool) (rows x : List Row) → IsPlain schema → Sees schema is_final rows x → IsPermutation rows x
sees_permutes schema true rows x plain folds = partly_permutes schema rows x plain (folds_plain schema rows x plain folds)
sees_permutes schema false rows x plain partly = partly_permutes schema rows x plain partly

-- the answer is determined
pub answers_once : (h : History) (schema : Schema) (s : SelectText) (a b : List (List ℕ)) → IsPlain schema → Answer h schema s a → Answer h schema s b → a ≡ b
answers_once h schema s a b plain one two =
    let rows = live s.table schema h in
    let moved : IsPermutation one.rows two.rows =
    IsPermutation-trans one.rows rows two.rows (IsPermutation-sym rows one.rows (sees_permutes schema s.is_final rows one.rows plain one.seen)) (sees_permutes schema s.is_final rows two.rows plain two.seen) in
    let asked : Ok one.query ≡ Ok two.query = sym one.asked ∙ two.asked in
    let query : one.query ≡ two.query = cc in
    let shown : Query → List Row → List Row = λ q xs. map (key_of q.places) (filter (eval q.condition) xs) in
    let prints : Prints (shown two.query one.rows) a = subst (λ (q : Query). Prints (shown q one.rows) a) query one.prints in
    let found = filter_moved (eval two.query.condition) one.rows two.rows moved in
    prints_once (shown two.query one.rows) (shown two.query two.rows) a b
    (IsPermutation-map (key_of two.query.places) (filter (eval two.query.condition) one.rows) (filter (eval two.query.condition) two.rows) found) prints two.prints
