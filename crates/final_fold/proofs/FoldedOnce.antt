-- Where rows of a key fold to one thing, FINAL leaves one thing of them, and so one answer of a table.
use Rattle.std.proofs.Common.{◌≡◌, ◌⊎◌, inl, inr, ℕ, zero, suc, ◌+◌, ◌<◌, ℤ, pos, negsuc, ◌+ℤ◌, neg_ℤ, Bool, true, false, ◌&&◌, cond, List, [], ◌∷◌, ◌++◌, All, Option, Some, None, Ok, filter, get_or, length, map, slice_get, refl, sym, ap, ap₂, ◌∙◌, subst, arith}
use Rattle.std.specs.List.{Contains, cons_option}
use Rattle.std.specs.List.Sorted.{IsPermutation}
use Rattle.std.specs.Ordering.{is_eq, is_lt, ordering_reverse}
use Rattle.std.specs.declared.cmp.Ordering.{Ordering}
use Rattle.std.specs.declared.cmp.Ordering.TheVariants.{Less, Equal, Greater}
use Rattle.std.proofs.Math.IntN.{+ℤ_assoc, +ℤ_idl, +ℤ_idr, +ℤ_invl, pos-+ℤ-pos}
use Rattle.std.proofs.lemmas.Bool.Decides.{Decides-int_eq}
use Rattle.std.proofs.lemmas.Cmp.{tied_itself}
use Rattle.std.proofs.lemmas.List.{nil_from_length}
use Rattle.std.proofs.lemmas.List.Elements.{All-contains, All-head, All-nil, All-same, All-tail, Contains-append_right}
use Rattle.std.proofs.lemmas.List.Sorted.{IsPermutation-map}
use Rattle.mt_base.specs.declared.partition.Partition.{Partition}
use Rattle.mt_values.specs.declared.engine.Aggregate.{Aggregate}
use Rattle.mt_values.specs.declared.engine.Aggregate.TheVariants as aggregate
use Rattle.mt_values.specs.declared.engine.Engine.{Engine}
use Rattle.mt_values.specs.declared.engine.Engine.TheVariants as engine
use Rattle.mt_values.specs.declared.schema.Schema.{Schema}
use Rattle.mt_values.specs.declared.statement.SelectText.{SelectText}
use Rattle.mt_values.specs.declared.value.Value.{Value}
use Rattle.mt_values.specs.declared.value.Value.TheVariants as value
use Rattle.mt_values.specs.Engines.{is_sign}
use Rattle.mt_values.specs.Grid.{column_of}
use Rattle.mt_values.specs.Order.{key_of, row_cmp, value_cmp}
use Rattle.mt_values.specs.Tables.{partition_of, same_partition, sorting_cmp}
use Rattle.mt_values.specs.Tests.{eval}
use Rattle.mt_values.specs.Values.{Row}
use Rattle.mt_values.proofs.Orders.{value_exact, value_total}
use Rattle.row_merge.specs.mt_model.declared.query.Query.{Query}
use Rattle.row_merge.specs.mt_model.Answer.{Answer, Prints}
use Rattle.row_merge.specs.mt_model.Final.{FoldOnce, FoldsAll, KeysFoldOnce, Sees}
use Rattle.row_merge.specs.mt_model.Folding.{Leaves}
use Rattle.row_merge.specs.mt_model.History.{History}
use Rattle.row_merge.specs.mt_model.Live.{live, of_key}
use Rattle.row_merge.specs.mt_model.Partial.{functions_of}
use Rattle.row_merge.specs.mt_model.Rules.{AreAggregatesFrom, Folds, FoldsAs, IsAggregateOf, IsSublist, LeavesOneSign, LeavesSums, Run, are_zero, function_or_first, is_cancel, is_settled, is_state, total, with_sums, wrapped_as}
use Rattle.row_merge.proofs.MtModelCommands.{same_itself}
use Rattle.row_merge.proofs.MtModelDetermined.{filter_moved, prints_once, row_exact, row_total, sorting_total}
use Rattle.row_merge.proofs.MtModelSameKeys.{filter_after, permutes}
use Rattle.row_merge.proofs.MtModelSorting.{equal_is}
use Rattle.row_merge.proofs.RuleLawAlternating.{other_sign}
use Rattle.row_merge.proofs.RuleLawNewest.{last_is, newest_is}
use Rattle.row_merge.proofs.RuleLawRanges.{among}

-- ---- lists

pub first_of_all : {X : Type 0} (x : X) (xs : List X) → Contains (x ∷ xs) x
first_of_all x xs = (0, omega arith, refl)

pub later_of_all : {X : Type 0} (y : X) (xs : List X) (x : X) → Contains xs x → Contains (y ∷ xs) x
later_of_all y xs x h = let below : h.0 < length xs = h.1 in (suc h.0, omega (arith, below), h.2)

none_of_all : {X : Type 0} (x : X) → Contains [] x → ⊥
none_of_all x h = let below : h.0 < 0 = h.1 in omega (arith, below)

cases_of_all : {X : Type 0} (y : X) (xs : List X) (x : X) → Contains (y ∷ xs) x → (y ≡ x) ⊎ Contains xs x
cases_of_all y xs x h = by h.0 h.1 h.2
  where
    by : (k : ℕ) → k < length (y ∷ xs) → get_or (y ∷ xs) k x ≡ x → (y ≡ x) ⊎ Contains xs x
    by zero below is = inl is
    by (suc k) below is = inr (k, omega (arith, below), is)

-- one between others
pub between : (earlier : List Row) (row : Row) (later rows : List Row) → rows ≡ earlier ++ row ∷ later → Contains rows row
between earlier row later rows are = subst (λ (zs : List Row). Contains zs row) (sym are) (Contains-append_right earlier (row ∷ later) row (first_of_all row later))

-- two lists of one length, of which each item is each of the other's
all_equal : (xs ys : List Row) → length xs ≡ length ys → ((a b : Row) → Contains xs a → Contains ys b → a ≡ b) → xs ≡ ys
all_equal [] [] many same = refl
all_equal [] (y ∷ ys) many same = absurd (omega (arith, many))
all_equal (x ∷ xs) [] many same = absurd (omega (arith, many))
all_equal (x ∷ xs) (y ∷ ys) many same =
    ap₂ (λ (r : Row) (rs : List Row). r ∷ rs) (same x y (first_of_all x xs) (first_of_all y ys))
    (all_equal xs ys (omega (arith, many)) (λ a b h k. same a b (later_of_all x xs a h) (later_of_all y ys b k)))

-- some of the items of a list are items of it
sub_in : (xs ys : List Row) → IsSublist xs ys → (x : Row) → Contains xs x → Contains ys x
sub_in xs [] none x h = absurd (none_of_all x (subst (λ (zs : List Row). Contains zs x) none h))
sub_in xs (y ∷ ys) (inl sub) x h = later_of_all y ys x (sub_in xs ys sub x h)
sub_in xs (y ∷ ys) (inr (rest, is, sub)) x h = by (cases_of_all y rest x (subst (λ (zs : List Row). Contains zs x) is h)) (sub_in rest ys sub x)
  where
    by : (y ≡ x) ⊎ Contains rest x → (Contains rest x → Contains ys x) → Contains (y ∷ ys) x
    by (inl same) more = subst (Contains (y ∷ ys)) same (first_of_all y ys)
    by (inr k) more = later_of_all y ys x (more k)

-- ---- signs

module _ (sign : ℕ) where
  state_first : (found : Option Value) (vs : List Value) → is_sign (pos 1) found ≡ true → total (cons_option found vs) ≡ pos 1 +ℤ total vs
  state_first None vs e = cc
  state_first (Some (value.Int8 z)) vs e = ap (λ k. k +ℤ total vs) ((Decides-int_eq z (pos 1)).0 e)
  state_first (Some (value.UInt8 n)) vs e = cc
  state_first (Some (value.UInt16 n)) vs e = cc
  state_first (Some (value.UInt32 n)) vs e = cc
  state_first (Some (value.UInt64 n)) vs e = cc
  state_first (Some (value.Int16 z)) vs e = cc
  state_first (Some (value.Int32 z)) vs e = cc
  state_first (Some (value.Int64 z)) vs e = cc
  state_first (Some (value.Text b)) vs e = cc

  cancel_first : (found : Option Value) (vs : List Value) → is_sign (negsuc 0) found ≡ true → total (cons_option found vs) ≡ negsuc 0 +ℤ total vs
  cancel_first None vs e = cc
  cancel_first (Some (value.Int8 z)) vs e = ap (λ k. k +ℤ total vs) ((Decides-int_eq z (negsuc 0)).0 e)
  cancel_first (Some (value.UInt8 n)) vs e = cc
  cancel_first (Some (value.UInt16 n)) vs e = cc
  cancel_first (Some (value.UInt32 n)) vs e = cc
  cancel_first (Some (value.UInt64 n)) vs e = cc
  cancel_first (Some (value.Int16 z)) vs e = cc
  cancel_first (Some (value.Int32 z)) vs e = cc
  cancel_first (Some (value.Int64 z)) vs e = cc
  cancel_first (Some (value.Text b)) vs e = cc

  abbrev pub Up : Row → Type 0
  Up row = is_state sign row ≡ true

  abbrev pub Down : Row → Type 0
  Down row = is_cancel sign row ≡ true

  states_total : (xs : List Row) → All Up xs → total (column_of sign xs) ≡ pos (length xs)
  states_total [] all = refl
  states_total (r ∷ xs) all =
      let count : 1 + length xs ≡ length (r ∷ xs) = omega arith in
      state_first (slice_get r sign) (column_of sign xs) (All-head Up r xs all)
      ∙ (ap (λ z. pos 1 +ℤ z) (states_total xs (All-tail Up r xs all)) ∙ (pos-+ℤ-pos 1 (length xs) ∙ ap pos count))

  cancels_total : (xs : List Row) → All Down xs → total (column_of sign xs) +ℤ pos (length xs) ≡ pos 0
  cancels_total [] all = +ℤ_idl (pos 0)
  cancels_total (r ∷ xs) all =
      let t = total (column_of sign xs) in
      let n = length xs in
      let count : length (r ∷ xs) ≡ n + 1 = omega arith in
      let rest : (t +ℤ pos n) +ℤ pos 1 ≡ pos 1 = ap (λ z. z +ℤ pos 1) (cancels_total xs (All-tail Down r xs all)) ∙ +ℤ_idl (pos 1) in
      ap₂ (λ z k. z +ℤ pos k) (cancel_first (slice_get r sign) (column_of sign xs) (All-head Down r xs all)) count
      ∙ (+ℤ_assoc (negsuc 0) t (pos (n + 1))
      ∙ (ap (λ z. negsuc 0 +ℤ (t +ℤ z)) (sym (pos-+ℤ-pos n 1))
      ∙ (ap (λ z. negsuc 0 +ℤ z) (sym (+ℤ_assoc t (pos n) (pos 1)) ∙ rest) ∙ +ℤ_invl (pos 1))))

  cancelled : (t : ℤ) (m : ℕ) → t +ℤ pos m ≡ pos 0 → pos m ≡ neg_ℤ t
  cancelled t m e =
      sym (+ℤ_idl (pos m)) ∙ (ap (λ z. z +ℤ pos m) (sym (+ℤ_invl t)) ∙ (+ℤ_assoc (neg_ℤ t) t (pos m) ∙ (ap (λ z. neg_ℤ t +ℤ z) e ∙ +ℤ_idr (neg_ℤ t))))

  as_many : (m n : ℕ) → pos m ≡ pos n → m ≡ n
  as_many m n e = cc

  none_of_both : (xs ys : List Row) → All Up xs → All Down ys → total (column_of sign xs) ≡ total (column_of sign ys) → (xs ≡ []) × (ys ≡ [])
  none_of_both xs ys up down same =
      let sum : pos (length xs) +ℤ pos (length ys) ≡ pos 0 = ap (λ z. z +ℤ pos (length ys)) (sym (states_total xs up) ∙ same) ∙ cancels_total ys down in
      let none : length xs + length ys ≡ 0 = as_many (length xs + length ys) 0 (sym (pos-+ℤ-pos (length xs) (length ys)) ∙ sum) in
      (nil_from_length xs (omega (arith, none)), nil_from_length ys (omega (arith, none)))

  -- two that one fold may leave are as many, and of one sign
  pub as_many_signs : (rows a b : List Row) → LeavesOneSign sign rows a → LeavesOneSign sign rows b → (length a ≡ length b) × ((All Up a × All Up b) ⊎ (All Down a × All Down b))
  as_many_signs rows a b p q = by p.alike q.alike
    where
      same : total (column_of sign a) ≡ total (column_of sign b)
      same = p.sum ∙ sym q.sum

      by : All Up a ⊎ All Down a → All Up b ⊎ All Down b → (length a ≡ length b) × ((All Up a × All Up b) ⊎ (All Down a × All Down b))
      by (inl up) (inl other) = (as_many (length a) (length b) (sym (states_total a up) ∙ (same ∙ states_total b other)), inl (up, other))
      by (inr down) (inr other) =
          let t = total (column_of sign a) in
          let counts : pos (length a) ≡ pos (length b) =
          cancelled t (length a) (cancels_total a down) ∙ sym (cancelled t (length b) (ap (λ z. z +ℤ pos (length b)) same ∙ cancels_total b other)) in
          (as_many (length a) (length b) counts, inr (down, other))
      by (inl up) (inr down) =
          let none = none_of_both a b up down same in
          (ap length (none.0 ∙ sym none.1), inl (up, All-same Up b [] none.1 (All-nil Up)))
      by (inr down) (inl up) =
          let none = none_of_both b a up down (sym same) in
          (ap length (none.1 ∙ sym none.0), inl (All-same Up a [] none.1 (All-nil Up), up))

  signs_once : (rows a b : List Row) → ((x y : Row) → Contains rows x → Contains rows y → is_state sign x ≡ is_state sign y → x ≡ y) → LeavesOneSign sign rows a → LeavesOneSign sign rows b → a ≡ b
  signs_once rows a b once p q = by both.1
    where
      both : (length a ≡ length b) × ((All Up a × All Up b) ⊎ (All Down a × All Down b))
      both = as_many_signs rows a b p q

      by : (All Up a × All Up b) ⊎ (All Down a × All Down b) → a ≡ b
      by (inl (up, other)) =
          all_equal a b both.0 (λ x y h k. once x y (sub_in a rows p.some x h) (sub_in b rows q.some y k) (All-contains Up a x up h ∙ sym (All-contains Up b y other k)))
      by (inr (down, other)) =
          all_equal a b both.0
          (λ x y h k.
          once x y (sub_in a rows p.some x h) (sub_in b rows q.some y k)
          (other_sign (slice_get x sign) (All-contains Down a x down h) ∙ sym (other_sign (slice_get y sign) (All-contains Down b y other k))))

-- ---- functions of columns

-- the last of a list
abbrev last_value : Value → List Value → Value
last_value d [] = d
last_value d (v ∷ vs) = last_value v vs

last_after : (d : Value) (earlier : List Value) (v : Value) → last_value d (earlier ++ v ∷ []) ≡ v
last_after d [] v = refl
last_after d (w ∷ earlier) v = last_after w earlier v

-- two values of which neither is less than the other
neither_less : (v w : Value) → is_lt (value_cmp v w) ≡ false → is_lt (value_cmp w v) ≡ false → v ≡ w
neither_less v w one other = by (value_cmp v w) refl
  where
    by : (o : Ordering) → value_cmp v w ≡ o → v ≡ w
    by Less e = let clash : true ≡ false = sym (ap is_lt e) ∙ one in cc
    by Equal e = value_exact v w e
    by Greater e =
        let turned : value_cmp w v ≡ Less = value_total.antisymm w v ∙ ap ordering_reverse e in
        let clash : true ≡ false = sym (ap is_lt turned) ∙ other in
        cc

first_same : (v w : Value) (vs ws : List Value) → v ∷ vs ≡ w ∷ ws → v ≡ w
first_same v w vs ws e = cc

some_same : (v w : Value) → Some v ≡ Some w → v ≡ w
some_same v w e = cc

aggregate_once : (f : Aggregate) (values : List Value) (v w : Value) → IsAggregateOf f values v → IsAggregateOf f values w → v ≡ w
aggregate_once aggregate.Any values v w p q = first_same v w p.0 q.0 (sym p.1 ∙ q.1)
aggregate_once aggregate.AnyLast values v w p q = sym (last_after v p.0 v) ∙ (ap (last_value v) (sym p.1 ∙ q.1) ∙ last_after v q.0 w)
aggregate_once aggregate.Min values v w p q =
    neither_less v w (among (λ (o : Value). is_lt (value_cmp o w) ≡ false) p.earlier v p.later values p.values_are q.best)
    (among (λ (o : Value). is_lt (value_cmp o v) ≡ false) q.earlier w q.later values q.values_are p.best)
aggregate_once aggregate.Max values v w p q =
    neither_less v w (among (λ (o : Value). is_lt (value_cmp v o) ≡ false) q.earlier w q.later values q.values_are p.best)
    (among (λ (o : Value). is_lt (value_cmp w o) ≡ false) p.earlier v p.later values p.values_are q.best)
aggregate_once aggregate.Sum values v w p q = first_sum
  where
    first : p.0 ≡ q.0
    first = first_same p.0 q.0 p.1 q.1 (sym p.2 ∙ q.2)

    first_sum : v ≡ w
    first_sum = p.3 ∙ (ap (λ (x : Value). wrapped_as x (total values)) first ∙ sym q.3)
aggregate_once aggregate.BitAnd values v w p q = some_same v w (sym p ∙ q)
aggregate_once aggregate.BitOr values v w p q = some_same v w (sym p ∙ q)
aggregate_once aggregate.BitXor values v w p q = some_same v w (sym p ∙ q)

aggregates_once : (place : ℕ) (functions : List (Option Aggregate)) (rows : List Row) (a b : Row) → AreAggregatesFrom place functions rows a → AreAggregatesFrom place functions rows b → a ≡ b
aggregates_once place [] rows a b p q = p ∙ sym q
aggregates_once place (f ∷ functions) rows a b p q =
    p.2 ∙ (ap₂ (λ (v : Value) (vs : Row). v ∷ vs) (aggregate_once (function_or_first f) (column_of place rows) p.0 q.0 p.3 q.3) (aggregates_once (place + 1) functions rows p.1 q.1 p.4 q.4) ∙ sym q.2)

-- ---- rules

run_once : (e : Engine) (functions : List (Option Aggregate)) (rows a b : List Row) → FoldOnce e rows → Run e functions rows a → Run e functions rows b → a ≡ b
run_once engine.Plain functions rows a b once p q = p ∙ sym q
run_once (engine.Replacing None) functions rows a b once p q = last_is rows a p ∙ sym (last_is rows b q)
run_once (engine.Replacing (Some version)) functions rows a b once p q = newest_is version rows a p ∙ sym (newest_is version rows b q)
run_once (engine.Summing places) functions rows a b once p q = by p q
  where
    by : LeavesSums places rows a → LeavesSums places rows b → a ≡ b
    by p q =
        let same : with_sums places rows p.carried ≡ with_sums places rows q.carried =
        once p.carried q.carried (between p.earlier p.carried p.later rows p.rows_are) (between q.earlier q.carried q.later rows q.rows_are) in
        p.out_is ∙ (ap (λ (r : Row). cond (are_zero places r) [] (r ∷ [])) same ∙ sym q.out_is)
run_once (engine.Collapsing sign) functions rows a b once p q = p ∙ sym q
run_once (engine.Versioned sign version) functions rows a b once p q = signs_once sign rows a b once p q
run_once engine.Aggregating functions rows a b once p q =
    p.out_is ∙ (ap (λ (r : Row). r ∷ []) (aggregates_once 0 functions rows p.row q.row p.aggregates q.aggregates) ∙ sym q.out_is)

-- rows that fold to one thing do so whatever was merged
settled : (e : Engine) (rows : List Row) → FoldOnce e rows → is_settled e rows ≡ true
settled engine.Plain rows once = refl
settled (engine.Replacing version) rows once = refl
settled (engine.Summing places) rows once = refl
settled (engine.Collapsing sign) rows once = once
settled (engine.Versioned sign version) rows once = refl
settled engine.Aggregating rows once = refl

folds_once : (e : Engine) (functions : List (Option Aggregate)) (rows a b : List Row) → FoldOnce e rows → Leaves (Folds e functions) rows a → Leaves (Folds e functions) rows b → a ≡ b
folds_once e functions [] a b once p q = p ∙ sym q
folds_once e functions (row ∷ rows) a b once p q =
    let run : (x : List Row) → Folds e functions (row ∷ rows) x → Run e functions (row ∷ rows) x =
    λ x folds. subst (λ (s : Bool). FoldsAs s (Run e functions) (row ∷ rows) x) (settled e (row ∷ rows) once) folds in
    run_once e functions (row ∷ rows) a b once (run a p) (run b q)

-- ---- tables

-- a row that is another one is of its partition and of its key
alike_in : (schema : Schema) (a r : Row) → is_eq (row_cmp a r) ≡ true → (same_partition (partition_of schema r) (partition_of schema a) && is_eq (sorting_cmp schema a r)) ≡ true
alike_in schema a r is =
    let same : a ≡ r = row_exact a r (equal_is (row_cmp a r) is) in
    rw (sym same) (rw (same_itself (partition_of schema a)) (ap is_eq (tied_itself (sorting_total schema) a)))

-- of a key whose rows fold to one thing
pub key_once : (schema : Schema) (rows a b : List Row) (partition : Partition) (row : Row) → FoldOnce schema.engine (of_key schema partition row rows) → FoldsAll schema rows a → FoldsAll schema rows b
    → of_key schema partition row a ≡ of_key schema partition row b
key_once schema rows a b partition row once p q =
    folds_once schema.engine (functions_of schema) (of_key schema partition row rows) (of_key schema partition row a) (of_key schema partition row b) once (p partition row) (q partition row)

-- of all keys
pub rows_once : (schema : Schema) (rows a b : List Row) → KeysFoldOnce schema rows → FoldsAll schema rows a → FoldsAll schema rows b → IsPermutation a b
rows_once schema rows a b once p q = permutes row_cmp row_total a b each
  where
    keys : (partition : Partition) (row : Row) → of_key schema partition row a ≡ of_key schema partition row b
    keys partition row = key_once schema rows a b partition row (once partition row) p q

    each : (x : Row) → filter (λ r. is_eq (row_cmp x r)) a ≡ filter (λ r. is_eq (row_cmp x r)) b
    each x =
        let own : Row → Bool = λ r. same_partition (partition_of schema r) (partition_of schema x) && is_eq (sorting_cmp schema x r) in
        let found : List Row → List Row = filter (λ r. is_eq (row_cmp x r)) in
        filter_after (λ r. is_eq (row_cmp x r)) own (alike_in schema x) a
        ∙ (ap found (keys (partition_of schema x) x) ∙ sym (filter_after (λ r. is_eq (row_cmp x r)) own (alike_in schema x) b))

-- what FINAL sees
folded_rows : (schema : Schema) (is_final : Bool) (rows x : List Row) → is_final ≡ true → Sees schema is_final rows x → FoldsAll schema rows x
folded_rows schema is_final rows x is seen = subst (λ (f : Bool). Sees schema f rows x) is seen

pub lines_once : (h : History) (schema : Schema) (s : SelectText) (a b : List (List ℕ)) → s.is_final ≡ true → KeysFoldOnce schema (live s.table schema h) → Answer h schema s a → Answer h schema s b → a ≡ b
lines_once h schema s a b is once one two =
    let rows = live s.table schema h in
    let moved : IsPermutation one.rows two.rows =
    rows_once schema rows one.rows two.rows once (folded_rows schema s.is_final rows one.rows is one.seen) (folded_rows schema s.is_final rows two.rows is two.seen) in
    let asked : Ok one.query ≡ Ok two.query = sym one.asked ∙ two.asked in
    let query : one.query ≡ two.query = cc in
    let shown : Query → List Row → List Row = λ q xs. map (key_of q.places) (filter (eval q.condition) xs) in
    let prints : Prints (shown two.query one.rows) a = subst (λ (q : Query). Prints (shown q one.rows) a) query one.prints in
    prints_once (shown two.query one.rows) (shown two.query two.rows) a b
    (IsPermutation-map (key_of two.query.places) (filter (eval two.query.condition) one.rows) (filter (eval two.query.condition) two.rows) (filter_moved (eval two.query.condition) one.rows two.rows moved)) prints two.prints
