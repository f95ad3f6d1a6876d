-- What merges may have left of rows stays so where a change is made on both sides (docs/definitions.md, "Mutations").
use Rattle.std.proofs.Common.{◌≡◌, ◌⊎◌, ℕ, zero, suc, ◌+◌, ◌<◌, Bool, true, false, cond, not, ◌&&◌, ◌||◌, nat_eq, List, [], ◌∷◌, ◌++◌, length, map, filter, get_or, Option, None, Some, slice_get, refl, sym, ap, ap₂, ◌∙◌, subst, inl, inr, arith}
use Rattle.std.specs.List.{All, Contains, list_any}
use Rattle.std.specs.Cmp.Lexicographic.{slice_cmp}
use Rattle.std.specs.List.Sorted.{IsSorted}
use Rattle.std.specs.Ordering.{is_eq, is_lt}
use Rattle.std.specs.FinMap.{slice_cmp-IsAntisymmetric}
use Rattle.std.proofs.lemmas.Bool.{eq-eqb}
use Rattle.std.proofs.lemmas.List.{length-map, map-append}
use Rattle.std.proofs.lemmas.List.Elements.{All-append, All-cons, All-filter, All-head, All-nil, All-same, All-tail, All-weaker, Contains-append_left, filter-append, filter_passes}
use Rattle.std.proofs.lemmas.List.Folds.{list_any_at}
use Rattle.std.proofs.lemmas.List.Kept.{IsSortedBy-filter}
use Rattle.std.proofs.lemmas.List.Sorted.{ranks_by}
use Rattle.mt_base.specs.declared.partition.Partition.{Partition}
use Rattle.mt_base.specs.declared.partition.Partition.TheVariants.{Number}
use Rattle.mt_values.specs.declared.change.Assignment.{Assignment}
use Rattle.mt_values.specs.declared.change.Change.{Change}
use Rattle.mt_values.specs.declared.change.Change.TheVariants as change
use Rattle.mt_values.specs.declared.engine.Engine.{Engine}
use Rattle.mt_values.specs.declared.engine.Engine.TheVariants as engine
use Rattle.mt_values.specs.declared.expr.Test.{Test}
use Rattle.mt_values.specs.declared.mutation.Mutation.{Mutation}
use Rattle.mt_values.specs.declared.schema.Schema.{Schema}
use Rattle.mt_values.specs.declared.value.Value.{Value}
use Rattle.mt_values.specs.Changes.{changed, mutated, updated}
use Rattle.mt_values.specs.Conditions.{tests_of}
use Rattle.mt_values.specs.Engines.{added_version, is_at, is_kept_apart, sign_place, summed_places, version_place}
use Rattle.mt_values.specs.Order.{key_of, value_cmp}
use Rattle.mt_values.specs.Schemas.{column_types}
use Rattle.mt_values.specs.Tables.{IsPlain, number_at, partition_by_column, partition_of, same_partition, sorting_cmp, sorting_columns}
use Rattle.mt_values.specs.Tests.{eval}
use Rattle.mt_values.specs.Values.{Row, type_of, types_of}
use Rattle.mt_values.proofs.Orders.{value_exact}
use Rattle.mt_model.specs.Folding.{ComesFrom, Merges, MergesTimes}
use Rattle.mt_model.specs.History.{IsTableSchema}
use Rattle.mt_model.specs.Live.{of_key}
use Rattle.mt_model.specs.Mutations.{IsAssignment, IsChangeOf, is_folded, is_protected, protects}
use Rattle.mt_model.specs.Partial.{Partly, TableRun, functions_of}
use Rattle.mt_model.specs.Rules.{Run}
use Rattle.mt_model.proofs.Determined.{sorting_total}
use Rattle.mt_model.proofs.Merged.{comes_on}
use Rattle.mt_model.proofs.SameKeys.{filters_swap}
use Rattle.mt_model.proofs.Sorting.{equal_is}
use Rattle.rule_law.specs.Changes.{StaysLeft}
use Rattle.rule_law.specs.TableRows.{IsTableRow}
use Rattle.rule_law.proofs.Aggregated.{all_left, all_right, values_same}
use Rattle.rule_law.proofs.ApartColumns.{sorting_apart}
use Rattle.rule_law.proofs.Assigned.{AssignFree, updated_kept}
use Rattle.rule_law.proofs.Changed.{IsOfKey, filter_mapped, key_alike, plain_let, run_let}
use Rattle.rule_law.proofs.ChangedRows.{changed_table}
use Rattle.rule_law.proofs.Letting.{IsFree, IsLet, IsOfPlaces}
use Rattle.rule_law.proofs.PartlyRows.{merges_keep}
use Rattle.rule_law.proofs.TableRows.{even_columns, run_apart, run_table}

both_false : (a b : Bool) → a ≡ false → b ≡ false → (a || b) ≡ false
both_false a b e f = ap₂ (λ c d. c || d) e f

left_true : (a b : Bool) → a ≡ true → (a || b) ≡ true
left_true a b e = ap (λ c. c || b) e

first_of_four : (a b c d : Bool) → a ≡ true → (a || b || c || d) ≡ true
first_of_four a b c d e = ap (λ x. x || b || c || d) e

right_true : (a b : Bool) → b ≡ true → (a || b) ≡ true
right_true true b e = refl
right_true false b e = e

-- a change of rows one after the other
pub changed_append : (c : Change) (xs ys : List Row) → changed c (xs ++ ys) ≡ changed c xs ++ changed c ys
changed_append (change.Delete condition) xs ys = filter-append (λ row. not (eval condition row)) xs ys
changed_append (change.Update puts condition) xs ys = map-append (λ row. cond (eval condition row) (updated puts row) row) xs ys

pub changed_none : (c : Change) → changed c [] ≡ []
changed_none (change.Delete condition) = refl
changed_none (change.Update puts condition) = refl

module _ (schema : Schema) (table : IsTableSchema schema) where
  abbrev columns : List ℕ
  columns = sorting_columns schema

  -- a column that no change assigns: of the key or the partition, or protected
  abbrev stays : ℕ → Bool
  stays place = is_kept_apart schema.key schema.partition place || is_protected schema place

  stay_free : (puts : List Assignment) → All (IsAssignment schema) puts → AssignFree stays puts
  stay_free puts all =
      All-weaker (IsAssignment schema) (λ (a : Assignment). stays a.column ≡ false)
      (λ a x. both_false (is_kept_apart schema.key schema.partition a.column) (is_protected schema a.column) x.apart x.free) puts all

  key_stays : All (λ place. stays place ≡ true) schema.key
  key_stays = λ k d below.
      let place = get_or schema.key k d in
      left_true (is_kept_apart schema.key schema.partition place) (is_protected schema place)
      (left_true (list_any (λ own. nat_eq own place) schema.key) (is_at schema.partition place) (list_any_at (λ own. nat_eq own place) schema.key k d below (eq-eqb place place refl)))

  version_stays : All (λ place. stays place ≡ true) (added_version schema.engine schema.key)
  version_stays = by schema.engine refl
    where
      by : (e : Engine) → schema.engine ≡ e → All (λ place. stays place ≡ true) (added_version e schema.key)
      by engine.Plain is = All-nil (λ place. stays place ≡ true)
      by (engine.Replacing version) is = All-nil (λ place. stays place ≡ true)
      by (engine.Summing places) is = All-nil (λ place. stays place ≡ true)
      by (engine.Collapsing sign) is = All-nil (λ place. stays place ≡ true)
      by engine.Aggregating is = All-nil (λ place. stays place ≡ true)
      by (engine.Versioned sign version) is = named (list_any (λ own. nat_eq own version) schema.key)
        where
          held : stays version ≡ true
          held =
              right_true (is_kept_apart schema.key schema.partition version) (is_protected schema version)
              (first_of_four (is_at (version_place schema.engine) version) (is_at (sign_place schema.engine) version)
              (list_any (nat_eq version) (summed_places schema.engine)) (is_folded (slice_get (functions_of schema) version))
              (ap (λ (x : Engine). is_at (version_place x) version) is ∙ eq-eqb version version refl))

          named : (b : Bool) → All (λ place. stays place ≡ true) (cond b [] (version ∷ []))
          named true = All-nil (λ place. stays place ≡ true)
          named false = All-cons (λ place. stays place ≡ true) version [] held (All-nil (λ place. stays place ≡ true))

  sorting_stays : All (λ place. stays place ≡ true) columns
  sorting_stays = All-append (λ place. stays place ≡ true) schema.key (added_version schema.engine schema.key) key_stays version_stays

  module _ (puts : List Assignment) (free : AssignFree stays puts) where
    pub sorting_kept : (row : Row) → key_of columns (updated puts row) ≡ key_of columns row
    sorting_kept row = values_same columns (updated puts row) row (All-weaker (λ place. stays place ≡ true) (λ place. slice_get (updated puts row) place ≡ slice_get row place) (λ place held. updated_kept stays puts row place free held) columns sorting_stays)

    pub partition_kept : (row : Row) → partition_of schema (updated puts row) ≡ partition_of schema row
    partition_kept row = by schema.partition refl
      where
        by : (o : Option ℕ) → schema.partition ≡ o → partition_by_column o (updated puts row) ≡ partition_by_column o row
        by None is = refl
        by (Some place) is =
            let held : stays place ≡ true =
            left_true (is_kept_apart schema.key schema.partition place) (is_protected schema place)
            (right_true (list_any (λ own. nat_eq own place) schema.key) (is_at schema.partition place) (ap (λ o. is_at o place) is ∙ eq-eqb place place refl)) in
            ap (λ v. Number (number_at v)) (updated_kept stays puts row place free held)

  -- the rows of a partition are of it after a change
  pub changed_partition : (c : Change) → IsChangeOf schema c → (p : Partition) (rows : List Row) → All (λ row. partition_of schema row ≡ p) rows → All (λ row. partition_of schema row ≡ p) (changed c rows)
  changed_partition (change.Delete condition) may p rows all = All-filter (λ row. not (eval condition row)) (λ row. partition_of schema row ≡ p) rows all
  changed_partition (change.Update puts condition) may p [] all = All-nil (λ row. partition_of schema row ≡ p)
  changed_partition (change.Update puts condition) may p (row ∷ rows) all =
      All-cons (λ r. partition_of schema r ≡ p) (cond (eval condition row) (updated puts row) row) (map (λ r. cond (eval condition r) (updated puts r) r) rows)
      (by (eval condition row)) (changed_partition (change.Update puts condition) may p rows (All-tail (λ r. partition_of schema r ≡ p) row rows all))
    where
      here : partition_of schema row ≡ p
      here = All-head (λ r. partition_of schema r ≡ p) row rows all

      by : (b : Bool) → partition_of schema (cond b (updated puts row) row) ≡ p
      by true = partition_kept puts (stay_free puts may.0) row ∙ here
      by false = here

  -- rows in the table's order are in it after a change
  pub changed_rises : (c : Change) → IsChangeOf schema c → (rows : List Row) → IsSorted (sorting_cmp schema) rows → IsSorted (sorting_cmp schema) (changed c rows)
  changed_rises (change.Delete condition) may rows up =
      IsSortedBy-filter (λ a b. is_lt (sorting_cmp schema a b)) (ranks_by (sorting_total schema) (λ (r : Row). r)) (λ row. not (eval condition row)) rows up
  changed_rises (change.Update puts condition) may rows up = λ i d low high.
      let width = length-map rows one in
      ap₂ (λ a b. is_lt (sorting_cmp schema a b)) (mapped rows (i + 1) d (omega (arith, high, width))) (mapped rows i d (omega (arith, high, width)))
      ∙ (ap is_lt (ap₂ (λ (x y : List Value). slice_cmp value_cmp x y) (kept (get_or rows (i + 1) [])) (kept (get_or rows i []))) ∙ up i [] low (omega (arith, high, width)))
    where
      one : Row → Row
      one r = cond (eval condition r) (updated puts r) r

      kept : (r : Row) → key_of columns (one r) ≡ key_of columns r
      kept r = by (eval condition r)
        where
          by : (b : Bool) → key_of columns (cond b (updated puts r) r) ≡ key_of columns r
          by true = sorting_kept puts (stay_free puts may.0) r
          by false = refl

      mapped : (xs : List Row) (k : ℕ) (d : Row) → k < length xs → get_or (map one xs) k d ≡ one (get_or xs k [])
      mapped [] k d below = absurd (omega (arith, below))
      mapped (x ∷ xs) zero d below = refl
      mapped (x ∷ xs) (suc k) d below = mapped xs k d (omega (arith, below))

  -- ---- the rows of one key, after a change

  module _ (partition : Partition) (row : Row) where
    abbrev of_row : Row → Bool
    of_row r = same_partition (partition_of schema r) partition && is_eq (sorting_cmp schema row r)

    key_changed : (c : Change) → IsChangeOf schema c → (rows : List Row) → of_key schema partition row (changed c rows) ≡ changed c (of_key schema partition row rows)
    key_changed (change.Delete condition) may rows = filters_swap of_row (λ r. not (eval condition r)) rows
    key_changed (change.Update puts condition) may rows = filter_mapped (λ r. cond (eval condition r) (updated puts r) r) of_row (λ r. by r (eval condition r)) rows
      where
        free : AssignFree stays puts
        free = stay_free puts may.0

        by : (r : Row) (b : Bool) → of_row (cond b (updated puts r) r) ≡ of_row r
        by r false = refl
        by r true =
            ap₂ (λ (p : Partition) (key : List Value). same_partition p partition && is_eq (slice_cmp value_cmp (key_of columns row) key)) (partition_kept puts free r) (sorting_kept puts free r)

  -- ---- the rule

  lets : (c : Change) → IsChangeOf schema c → IsPlain schema ⊎ IsLet (protects schema.engine (functions_of schema)) columns c
  lets (change.Delete condition) may = by may.whole
    where
      by : IsPlain schema ⊎ All (λ (t : Test). Contains schema.key t.column) (tests_of condition) → IsPlain schema ⊎ IsOfPlaces columns condition
      by (inl plain) = inl plain
      by (inr all) = inr (All-weaker (λ (t : Test). Contains schema.key t.column) (λ (t : Test). Contains columns t.column) (λ t at. Contains-append_left schema.key (added_version schema.engine schema.key) t.column at) (tests_of condition) all)
  lets (change.Update puts condition) may = by may.2.whole
    where
      free : All (IsFree (protects schema.engine (functions_of schema))) puts
      free = All-weaker (IsAssignment schema) (IsFree (protects schema.engine (functions_of schema))) (λ a x. record { free = x.free; reads = x.reads }) puts may.0

      by : IsPlain schema ⊎ All (λ (t : Test). Contains schema.key t.column) (tests_of condition) → IsPlain schema ⊎ IsLet (protects schema.engine (functions_of schema)) columns (change.Update puts condition)
      by (inl plain) = inl plain
      by (inr all) = inr (free, All-weaker (λ (t : Test). Contains schema.key t.column) (λ (t : Test). Contains columns t.column) (λ t at. Contains-append_left schema.key (added_version schema.engine schema.key) t.column at) (tests_of condition) all)

  -- a row of the table with these values in its sorting columns
  record IsOwn (key : List Value) (r : Row) : Type 0 where
    row : IsTableRow schema r
    same : key_of columns r ≡ key

  keyed : (key : List Value) (row : Row) → IsOwn key row → IsOfKey columns (length (column_types schema)) key row
  keyed key row own = record { even = sym (length-map row type_of) ∙ ap length own.row.typed; same = own.same }

  -- what one merge leaves of such rows are such rows
  run_own : (key : List Value) (rows out : List Row) → 0 < length rows → All (IsOwn key) rows → TableRun schema rows out → All (IsOwn key) out
  run_own key rows out some own h =
      let first = get_or rows 0 [] in
      let tables : All (IsTableRow schema) rows = All-weaker (IsOwn key) (IsTableRow schema) (λ r x. x.row) rows own in
      let left = run_table schema rows out tables h in
      λ k d below. record {
        row = left k d below;
        same = values_same columns (get_or out k d) first (λ j p within.
            run_apart (functions_of schema) (column_types schema) (even_columns schema) (get_or columns j p) (λ o. o ≡ slice_get first (get_or columns j p)) schema.engine rows out some
            (sorting_apart schema table j p within) tables
            (λ i e lt. place_same first (get_or rows i e) (own 0 [] some) (own i e lt) (get_or columns j p) (j, within, get_default columns j p within)) h k d below)
            ∙ (own 0 [] some).same;
      }
    where
      get_default : (xs : List ℕ) (j p : ℕ) → j < length xs → get_or xs j (get_or xs j p) ≡ get_or xs j p
      get_default [] j p lt = absurd (omega (arith, lt))
      get_default (x ∷ xs) zero p lt = refl
      get_default (x ∷ xs) (suc j) p lt = get_default xs j p (omega (arith, lt))

      place_same : (first r : Row) → IsOwn key first → IsOwn key r → (place : ℕ) → Contains columns place → slice_get r place ≡ slice_get first place
      place_same first r one other place at =
          key_alike columns r first (sym (length-map r type_of) ∙ (ap length (other.row.typed ∙ sym one.row.typed) ∙ length-map first type_of)) (other.same ∙ sym one.same) place at

  module _ (c : Change) (may : IsChangeOf schema c) where
    stays_left : (key : List Value) (rows out : List Row) → 0 < length rows → All (IsOwn key) rows → TableRun schema rows out → StaysLeft (TableRun schema) c rows out
    stays_left key rows out some own h = by (lets c may)
      where
        plain : (e : Engine) → e ≡ engine.Plain → Run e (functions_of schema) rows out → StaysLeft (Run e (functions_of schema)) c rows out
        plain e is = subst (λ (x : Engine). Run x (functions_of schema) rows out → StaysLeft (Run x (functions_of schema)) c rows out) (sym is) (plain_let (functions_of schema) c rows out)

        by : IsPlain schema ⊎ IsLet (protects schema.engine (functions_of schema)) columns c → StaysLeft (TableRun schema) c rows out
        by (inl is) = plain schema.engine is h
        by (inr lets) =
            run_let (functions_of schema) (column_types schema) (even_columns schema) schema.engine columns key c rows out lets some
            (All-weaker (IsOwn key) (λ r. types_of r ≡ column_types schema) (λ r x. x.row.typed) rows own)
            (All-weaker (IsOwn key) (IsOfKey columns (length (column_types schema)) key) (keyed key) rows own)
            (All-weaker (IsOwn key) (IsOfKey columns (length (column_types schema)) key) (keyed key) out (run_own key rows out some own h)) h

    -- what one merge leaves of rows of one key stays so where the change is made of both
    pub one_stays : (key : List Value) (rows out : List Row) → 0 < length rows → All (IsTableRow schema) rows → All (λ r. key_of columns r ≡ key) rows → TableRun schema rows out → StaysLeft (TableRun schema) c rows out
    one_stays key rows out some all same h = stays_left key rows out some (λ k d below. record { row = all k d below; same = same k d below }) h

    -- a row before and after others is one of three
    parted : (front rows back : List Row) → changed c (front ++ (rows ++ back)) ≡ changed c front ++ (changed c rows ++ changed c back)
    parted front rows back = changed_append c front (rows ++ back) ∙ ap (λ zs. changed c front ++ zs) (changed_append c rows back)

    merge_changed : (key : List Value) (before after : List Row) → All (IsOwn key) before → Merges (TableRun schema) before after → ComesFrom (TableRun schema) (changed c before) (changed c after)
    merge_changed key before after own m = by (stays_left key m.rows m.out m.some run_rows m.folded)
      where
        whole : All (IsOwn key) (m.front ++ (m.rows ++ m.back))
        whole = All-same (IsOwn key) (m.front ++ (m.rows ++ m.back)) before (sym m.before_is) own

        run_rows : All (IsOwn key) m.rows
        run_rows = all_left (IsOwn key) m.rows m.back (all_right (IsOwn key) m.front (m.rows ++ m.back) whole)

        was : changed c before ≡ changed c m.front ++ (changed c m.rows ++ changed c m.back)
        was = ap (changed c) m.before_is ∙ parted m.front m.rows m.back

        is : changed c after ≡ changed c m.front ++ (changed c m.out ++ changed c m.back)
        is = ap (changed c) m.after_is ∙ parted m.front m.out m.back

        by : StaysLeft (TableRun schema) c m.rows m.out → ComesFrom (TableRun schema) (changed c before) (changed c after)
        by (inl (some, h)) = (
          1,
          (
            changed c after,
            record {
              front = changed c m.front;
              rows = changed c m.rows;
              out = changed c m.out;
              back = changed c m.back;
              some = some;
              folded = h;
              before_is = was;
              after_is = is;
            },
            refl,
          ),
        )
        by (inr (none, nothing)) =
            (0, was ∙ (ap (λ zs. changed c m.front ++ (zs ++ changed c m.back)) (none ∙ sym nothing) ∙ sym is))

    times_changed : (key : List Value) (n : ℕ) (before after : List Row) → All (IsOwn key) before → MergesTimes n (TableRun schema) before after → ComesFrom (TableRun schema) (changed c before) (changed c after)
    times_changed key zero before after own same = (0, ap (changed c) same)
    times_changed key (suc n) before after own m =
        let kept = merges_keep (IsOwn key) (TableRun schema) (run_own key) before m.0 own (1, (m.0, m.1, refl)) in
        comes_on (TableRun schema) (changed c before) (changed c m.0) (changed c after) (merge_changed key before m.0 own m.1) (times_changed key n m.0 after kept m.2)

    -- the rows of a key are of it
    own_rows : (partition : Partition) (row : Row) (rows : List Row) → All (IsTableRow schema) rows → All (IsOwn (key_of columns row)) (of_key schema partition row rows)
    own_rows partition row rows all =
        let mine : Row → Bool = λ r. same_partition (partition_of schema r) partition && is_eq (sorting_cmp schema row r) in
        let tables = All-filter mine (IsTableRow schema) rows all in
        let pass = filter_passes mine rows in
        λ k d below. record {
          row = tables k d below;
          same = sym (slice_cmp-IsAntisymmetric value_exact (key_of columns row) (key_of columns (get_or (filter mine rows) k d))
              (equal_is (sorting_cmp schema row (get_or (filter mine rows) k d)) (second (same_partition (partition_of schema (get_or (filter mine rows) k d)) partition) (is_eq (sorting_cmp schema row (get_or (filter mine rows) k d))) (pass k d below))));
        }
      where
        second : (a b : Bool) → (a && b) ≡ true → b ≡ true
        second true b e = e
        second false b e = cc

    -- what merges may have left of rows, after a change of both
    pub partly_changed : (live x : List Row) → All (IsTableRow schema) live → Partly schema live x → Partly schema (changed c live) (changed c x)
    partly_changed live x all partly = λ partition row.
        let came = partly partition row in
        let rows = of_key schema partition row live in
        let made = times_changed (key_of columns row) came.0 rows (of_key schema partition row x) (own_rows partition row live all) came.1 in
        subst (λ (zs : List Row). ComesFrom (TableRun schema) zs (of_key schema partition row (changed c x))) (sym (key_changed partition row c may live))
        (subst (λ (zs : List Row). ComesFrom (TableRun schema) (changed c rows) zs) (sym (key_changed partition row c may x)) made)

  -- the same of mutations, one after another
  pub partly_mutated : (ms : List Mutation) → All (λ (m : Mutation). IsChangeOf schema m.change) ms → (live x : List Row) → All (IsTableRow schema) live → Partly schema live x → Partly schema (mutated ms live) (mutated ms x)
  partly_mutated [] may live x all partly = partly
  partly_mutated (m ∷ ms) may live x all partly =
      let own = All-head (λ (n : Mutation). IsChangeOf schema n.change) m ms may in
      partly_mutated ms (All-tail (λ (n : Mutation). IsChangeOf schema n.change) m ms may) (changed m.change live) (changed m.change x)
      (changed_table schema m.change own live all) (partly_changed m.change own live x all partly)

  pub mutated_table : (ms : List Mutation) → All (λ (m : Mutation). IsChangeOf schema m.change) ms → (rows : List Row) → All (IsTableRow schema) rows → All (IsTableRow schema) (mutated ms rows)
  mutated_table [] may rows all = all
  mutated_table (m ∷ ms) may rows all =
      mutated_table ms (All-tail (λ (n : Mutation). IsChangeOf schema n.change) m ms may) (changed m.change rows) (changed_table schema m.change (All-head (λ (n : Mutation). IsChangeOf schema n.change) m ms may) rows all)

  pub mutated_partition : (ms : List Mutation) → All (λ (m : Mutation). IsChangeOf schema m.change) ms → (p : Partition) (rows : List Row) → All (λ row. partition_of schema row ≡ p) rows → All (λ row. partition_of schema row ≡ p) (mutated ms rows)
  mutated_partition [] may p rows all = all
  mutated_partition (m ∷ ms) may p rows all =
      mutated_partition ms (All-tail (λ (n : Mutation). IsChangeOf schema n.change) m ms may) p (changed m.change rows) (changed_partition m.change (All-head (λ (n : Mutation). IsChangeOf schema n.change) m ms may) p rows all)

  pub mutated_rises : (ms : List Mutation) → All (λ (m : Mutation). IsChangeOf schema m.change) ms → (rows : List Row) → IsSorted (sorting_cmp schema) rows → IsSorted (sorting_cmp schema) (mutated ms rows)
  mutated_rises [] may rows up = up
  mutated_rises (m ∷ ms) may rows up =
      mutated_rises ms (All-tail (λ (n : Mutation). IsChangeOf schema n.change) m ms may) (changed m.change rows) (changed_rises m.change (All-head (λ (n : Mutation). IsChangeOf schema n.change) m ms may) rows up)

-- mutations of rows one after the other, and mutations after mutations
pub mutated_append : (ms : List Mutation) (xs ys : List Row) → mutated ms (xs ++ ys) ≡ mutated ms xs ++ mutated ms ys
mutated_append [] xs ys = refl
mutated_append (m ∷ ms) xs ys = ap (mutated ms) (changed_append m.change xs ys) ∙ mutated_append ms (changed m.change xs) (changed m.change ys)

pub mutated_none : (ms : List Mutation) → mutated ms [] ≡ []
mutated_none [] = refl
mutated_none (m ∷ ms) = ap (mutated ms) (changed_none m.change) ∙ mutated_none ms

pub mutated_on : (ms more : List Mutation) (rows : List Row) → mutated (ms ++ more) rows ≡ mutated more (mutated ms rows)
mutated_on [] more rows = refl
mutated_on (m ∷ ms) more rows = mutated_on ms more (changed m.change rows)
