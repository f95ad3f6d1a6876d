-- What merges may leave of rows: of nothing merged, of merges after merges, and of rows beside others.
use Rattle.std.proofs.Common.{◌≡◌, Bool, true, false, ℕ, zero, suc, ◌<◌, ◌&&◌, List, [], ◌∷◌, ◌++◌, Option, length, refl, sym, ap, ◌∙◌, subst, append_assoc, append-nil, length-append, arith}
use Rattle.std.specs.Ordering.{is_eq}
use Rattle.std.proofs.lemmas.List.Elements.{filter-append}
use Rattle.mt_base.specs.declared.partition.Partition.{Partition}
use Rattle.mt_values.specs.declared.engine.Aggregate.{Aggregate}
use Rattle.mt_values.specs.declared.engine.Engine.{Engine}
use Rattle.mt_values.specs.declared.engine.Engine.TheVariants as engine
use Rattle.mt_values.specs.declared.schema.Schema.{Schema}
use Rattle.mt_values.specs.Tables.{IsPlain, partition_of, same_partition, sorting_cmp}
use Rattle.mt_values.specs.Values.{Row}
use Rattle.mt_model.specs.Final.{FoldsAll, Sees}
use Rattle.mt_model.specs.Folding.{Merges, MergesTimes, ComesFrom, Leaves}
use Rattle.mt_model.specs.Live.{of_key}
use Rattle.mt_model.specs.Partial.{MergesAll, Partly, TableRun, functions_of}
use Rattle.mt_model.specs.Rules.{Folds, Run}

-- ---- merges by any rule

module _ (run : List Row → List Row → Type 0) where
  -- no merge leaves the rows
  pub comes_itself : (rows : List Row) → ComesFrom run rows rows
  comes_itself rows = (0, refl)

  times_more : (n : ℕ) (xs ys zs : List Row) → MergesTimes n run xs ys → ComesFrom run ys zs → ComesFrom run xs zs
  times_more zero xs ys zs none came = subst (λ (rows : List Row). ComesFrom run rows zs) (sym none) came
  times_more (suc n) xs ys zs first came = let rest = times_more n first.0 ys zs first.2 came in (suc rest.0, (first.0, first.1, rest.1))

  -- merges after merges are merges
  pub comes_on : (xs ys zs : List Row) → ComesFrom run xs ys → ComesFrom run ys zs → ComesFrom run xs zs
  comes_on xs ys zs a b = times_more a.0 xs ys zs a.1 b

  times_none : (n : ℕ) (x : List Row) → MergesTimes n run [] x → x ≡ []
  times_none zero x none = sym none
  times_none (suc n) x m =
      let one : Merges run [] m.0 = m.1 in
      absurd (omega (arith, ap length one.before_is, length-append one.front (one.rows ++ one.back), length-append one.rows one.back, one.some))

  -- of no rows merges make none
  pub comes_none : (x : List Row) → ComesFrom run [] x → x ≡ []
  comes_none x came = times_none came.0 x came.1

  merge_among : (front back xs ys : List Row) → Merges run xs ys → Merges run (front ++ (xs ++ back)) (front ++ (ys ++ back))
  merge_among front back xs ys m = record {
    front = front ++ m.front;
    rows = m.rows;
    out = m.out;
    back = m.back ++ back;
    some = m.some;
    folded = m.folded;
    before_is = among m.rows xs m.before_is;
    after_is = among m.out ys m.after_is;
  }
    where
      among : (middle whole : List Row) → whole ≡ m.front ++ (middle ++ m.back) → front ++ (whole ++ back) ≡ (front ++ m.front) ++ (middle ++ (m.back ++ back))
      among middle whole is =
          ap (λ (zs : List Row). front ++ (zs ++ back)) is
          ∙ (ap (λ (zs : List Row). front ++ zs) (append_assoc m.front (middle ++ m.back) back)
          ∙ (ap (λ (zs : List Row). front ++ (m.front ++ zs)) (append_assoc middle m.back back)
          ∙ sym (append_assoc front m.front (middle ++ (m.back ++ back)))))

  times_among : (n : ℕ) (front back xs ys : List Row) → MergesTimes n run xs ys → MergesTimes n run (front ++ (xs ++ back)) (front ++ (ys ++ back))
  times_among zero front back xs ys none = ap (λ (zs : List Row). front ++ (zs ++ back)) none
  times_among (suc n) front back xs ys m = (front ++ (m.0 ++ back), merge_among front back xs m.0 m.1, times_among n front back m.0 ys m.2)

  -- what merges make of rows they make of them among others
  pub comes_among : (front back xs x : List Row) → ComesFrom run xs x → ComesFrom run (front ++ (xs ++ back)) (front ++ (x ++ back))
  comes_among front back xs x came = (came.0, times_among came.0 front back xs x came.1)

  pub comes_left : (xs x ys : List Row) → ComesFrom run xs x → ComesFrom run (xs ++ ys) (x ++ ys)
  comes_left xs x ys came = comes_among [] ys xs x came

  pub comes_right : (xs ys y : List Row) → ComesFrom run ys y → ComesFrom run (xs ++ ys) (xs ++ y)
  comes_right xs ys y came =
      subst (λ (zs : List Row). ComesFrom run (xs ++ zs) (xs ++ y)) (append-nil ys)
      (subst (λ (zs : List Row). ComesFrom run (xs ++ (ys ++ [])) (xs ++ zs)) (append-nil y) (comes_among xs [] ys y came))

  -- what merges make of two lists, one after the other, they make of both together
  pub comes_append : (xs ys x y : List Row) → ComesFrom run xs x → ComesFrom run ys y → ComesFrom run (xs ++ ys) (x ++ y)
  comes_append xs ys x y a b = comes_on (xs ++ ys) (x ++ ys) (x ++ y) (comes_left xs x ys a) (comes_right x ys y b)

  -- one merge of all rows
  pub comes_one : (rows out : List Row) → 0 < length rows → run rows out → ComesFrom run rows out
  comes_one rows out some folded = (1, (out, merge, refl))
    where
      merge : Merges run rows out
      merge = record { front = []; rows = rows; out = out; back = []; some = some; folded = folded; before_is = sym (append-nil rows); after_is = sym (append-nil out) }

  -- what the fold of all rows leaves, of no rows too
  pub comes_leaves : (rows out : List Row) → Leaves run rows out → ComesFrom run rows out
  comes_leaves [] out none = (0, sym none)
  comes_leaves (row ∷ rows) out folded = comes_one (row ∷ rows) out (omega arith) folded

-- ---- merges that fold nothing

merge_plain : (functions : List (Option Aggregate)) (xs ys : List Row) → Merges (Run engine.Plain functions) xs ys → ys ≡ xs
merge_plain functions xs ys m = m.after_is ∙ (ap (λ (zs : List Row). m.front ++ (zs ++ m.back)) m.folded ∙ sym m.before_is)

times_plain : (functions : List (Option Aggregate)) (n : ℕ) (xs ys : List Row) → MergesTimes n (Run engine.Plain functions) xs ys → ys ≡ xs
times_plain functions zero xs ys none = sym none
times_plain functions (suc n) xs ys m = times_plain functions n m.0 ys m.2 ∙ merge_plain functions xs m.0 m.1

-- merges by the plain rule leave the rows
pub comes_plain : (functions : List (Option Aggregate)) (xs x : List Row) → ComesFrom (Run engine.Plain functions) xs x → x ≡ xs
comes_plain functions xs x came = times_plain functions came.0 xs x came.1

-- ---- what merges leave of a table's rows

-- merges of a plain table leave the rows of each partition and key
pub partly_plain : (schema : Schema) (rows x : List Row) → IsPlain schema → Partly schema rows x → (partition : Partition) (row : Row) → of_key schema partition row x ≡ of_key schema partition row rows
partly_plain schema rows x plain partly partition row =
    comes_plain (functions_of schema) (of_key schema partition row rows) (of_key schema partition row x)
    (subst (λ (e : Engine). ComesFrom (Run e (functions_of schema)) (of_key schema partition row rows) (of_key schema partition row x)) plain (partly partition row))

-- merges of any table may leave rows that have of each partition and key the same ones
pub partly_alike : (schema : Schema) (rows x : List Row) → ((partition : Partition) (row : Row) → of_key schema partition row x ≡ of_key schema partition row rows) → Partly schema rows x
partly_alike schema rows x same = λ partition row. (0, sym (same partition row))

pub partly_itself : (schema : Schema) (rows : List Row) → Partly schema rows rows
partly_itself schema rows = λ partition row. comes_itself (TableRun schema) (of_key schema partition row rows)

-- FINAL leaves of the rows of a key of a plain table these rows
plain_leaves : (functions : List (Option Aggregate)) (rows out : List Row) → Leaves (Folds engine.Plain functions) rows out → out ≡ rows
plain_leaves functions [] out none = none
plain_leaves functions (row ∷ rows) out folded = folded

plain_folds : (functions : List (Option Aggregate)) (rows : List Row) → Leaves (Folds engine.Plain functions) rows rows
plain_folds functions [] = refl
plain_folds functions (row ∷ rows) = refl

-- so of a plain table FINAL sees what a SELECT without it may see
pub folds_plain : (schema : Schema) (rows x : List Row) → IsPlain schema → FoldsAll schema rows x → Partly schema rows x
folds_plain schema rows x plain folds = partly_alike schema rows x (λ partition row.
    plain_leaves (functions_of schema) (of_key schema partition row rows) (of_key schema partition row x)
    (subst (λ (e : Engine). Leaves (Folds e (functions_of schema)) (of_key schema partition row rows) (of_key schema partition row x)) plain (folds partition row)))

-- and the rows themselves
pub sees_itself : (schema : Schema) (is_final : Bool) (rows : List Row) → IsPlain schema → Sees schema is_final rows rows
sees_itself schema true rows plain = λ partition row.
    subst (λ (e : Engine). Leaves (Folds e (functions_of schema)) (of_key schema partition row rows) (of_key schema partition row rows)) (sym plain)
    (plain_folds (functions_of schema) (of_key schema partition row rows))
sees_itself schema false rows plain = partly_itself schema rows

-- what merges leave of what merges left
pub partly_on : (schema : Schema) (rows x y : List Row) → Partly schema rows x → Partly schema x y → Partly schema rows y
partly_on schema rows x y one two = λ partition row.
    comes_on (TableRun schema) (of_key schema partition row rows) (of_key schema partition row x) (of_key schema partition row y) (one partition row) (two partition row)

-- one merge of the rows of each partition and key
pub partly_folded : (schema : Schema) (rows x : List Row) → MergesAll schema rows x → Partly schema rows x
partly_folded schema rows x each = λ partition row.
    comes_leaves (TableRun schema) (of_key schema partition row rows) (of_key schema partition row x) (each partition row)

-- and such a merge of what merges left
pub partly_then_folded : (schema : Schema) (rows x y : List Row) → Partly schema rows x → MergesAll schema x y → Partly schema rows y
partly_then_folded schema rows x y one all = partly_on schema rows x y one (partly_folded schema x y all)

pub of_key_append : (schema : Schema) (partition : Partition) (row : Row) (xs ys : List Row) → of_key schema partition row (xs ++ ys) ≡ of_key schema partition row xs ++ of_key schema partition row ys
of_key_append schema partition row xs ys = filter-append (λ r. same_partition (partition_of schema r) partition && is_eq (sorting_cmp schema row r)) xs ys

-- what merges leave of two lists, one after the other
pub partly_append : (schema : Schema) (a b x y : List Row) → Partly schema a x → Partly schema b y → Partly schema (a ++ b) (x ++ y)
partly_append schema a b x y one two = λ partition row.
    let own : List Row → List Row = of_key schema partition row in
    subst (λ (zs : List Row). ComesFrom (TableRun schema) zs (own (x ++ y))) (sym (of_key_append schema partition row a b))
    (subst (λ (zs : List Row). ComesFrom (TableRun schema) (own a ++ own b) zs) (sym (of_key_append schema partition row x y))
    (comes_append (TableRun schema) (own a) (own b) (own x) (own y) (one partition row) (two partition row)))
