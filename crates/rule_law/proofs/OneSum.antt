-- Merges of SummingMergeTree keep each sum, and the other columns are those of one of the rows.
use Rattle.std.proofs.Common.{◌≡◌, ◌⊎◌, ℕ, ◌+◌, ◌<◌, Bool, true, false, cond, List, [], ◌∷◌, ◌++◌, length, refl, sym, ap, ◌∙◌, subst, inl, inr, append_assoc, arith, ◌+ℤ◌, slice_get, Some}
use Rattle.std.specs.List.{All}
use Rattle.std.proofs.lemmas.List.Elements.{All-append, All-cons, All-head, All-nil, All-same, All-tail}
use Rattle.mt_values.specs.declared.value.ColType.{ColType}
use Rattle.mt_values.specs.declared.value.Value.{Value}
use Rattle.mt_values.specs.declared.engine.Engine.TheVariants as engine
use Rattle.mt_values.specs.Grid.{column_of}
use Rattle.mt_values.specs.Order.{key_of}
use Rattle.mt_values.specs.Values.{Row, type_of, types_of}
use Rattle.mt_model.specs.Folding.{Merges, ComesFrom, Leaves}
use Rattle.mt_model.specs.Rules.{Folds, Run, LeavesSums, are_zero, is_one_of, total, with_sums}
use Rattle.rule_law.proofs.Merging.{law_of_merges}
use Rattle.rule_law.proofs.OneSign.{column_total}
use Rattle.mt_values.proofs.Wrapping.{number_among, number_as, wrapped_alike}
use Rattle.rule_law.proofs.Summed.{left_counts, sums_alike, sums_key, sums_twice, sums_type, type_at}

-- ---- one of some rows

-- a row of the rows, with those before and after it
pub record IsOneOf (row : Row) (rows : List Row) : Type 0 where
  pub earlier : List Row
  pub later : List Row
  pub are : rows ≡ earlier ++ row ∷ later

one_behind : (front rows : List Row) (row : Row) → IsOneOf row rows → IsOneOf row (front ++ rows)
one_behind front rows row h = record { earlier = front ++ h.earlier; later = h.later; are = ap (λ zs. front ++ zs) h.are ∙ sym (append_assoc front h.earlier (row ∷ h.later)) }

one_before : (rows back : List Row) (row : Row) → IsOneOf row rows → IsOneOf row (rows ++ back)
one_before rows back row h = record { earlier = h.earlier; later = h.later ++ back; are = ap (λ zs. zs ++ back) h.are ∙ append_assoc h.earlier (row ∷ h.later) back }

one_next : (x : Row) (rows : List Row) (row : Row) → IsOneOf row rows → IsOneOf row (x ∷ rows)
one_next x rows row h = record { earlier = x ∷ h.earlier; later = h.later; are = ap (λ zs. x ∷ zs) h.are }

head_same : (x y : Row) (xs ys : List Row) → x ∷ xs ≡ y ∷ ys → x ≡ y
head_same x y xs ys e = cc

tail_same : (x y : Row) (xs ys : List Row) → x ∷ xs ≡ y ∷ ys → xs ≡ ys
tail_same x y xs ys e = cc

one_not_of_none : (earlier : List Row) (row : Row) (later : List Row) → [] ≡ earlier ++ row ∷ later → ⊥
one_not_of_none [] row later e = cc
one_not_of_none (x ∷ earlier) row later e = cc

-- a row of two lists is of the first or of the second
one_split : (front rows : List Row) (row : Row) (earlier later : List Row) → front ++ rows ≡ earlier ++ row ∷ later → IsOneOf row front ⊎ IsOneOf row rows
one_split [] rows row earlier later e = inr (record { earlier = earlier; later = later; are = e })
one_split (x ∷ front) rows row [] later e = inl (record { earlier = []; later = front; are = ap (λ y. y ∷ front) (head_same x row (front ++ rows) later e) })
one_split (x ∷ front) rows row (y ∷ earlier) later e = by (one_split front rows row earlier later (tail_same x y (front ++ rows) (earlier ++ row ∷ later) e))
  where
    by : IsOneOf row front ⊎ IsOneOf row rows → IsOneOf row (x ∷ front) ⊎ IsOneOf row rows
    by (inl h) = inl (one_next x front row h)
    by (inr h) = inr h

all_first : (P : Row → Type 0) (xs ys : List Row) → All P (xs ++ ys) → All P xs
all_first P [] ys h = All-nil P
all_first P (x ∷ xs) ys h = All-cons P x xs (All-head P x (xs ++ ys) h) (all_first P xs ys (All-tail P x (xs ++ ys) h))

all_last : (P : Row → Type 0) (xs ys : List Row) → All P (xs ++ ys) → All P ys
all_last P [] ys h = h
all_last P (x ∷ xs) ys h = all_last P xs ys (All-tail P x (xs ++ ys) h)

pub all_one : (P : Row → Type 0) (rows : List Row) (row : Row) → IsOneOf row rows → All P rows → P row
all_one P rows row h all = All-head P row h.later (all_last P h.earlier (row ∷ h.later) (All-same P (h.earlier ++ row ∷ h.later) rows (sym h.are) all))

-- a row with the sums of rows, or none where the sums are 0, is left
pub sums_leave : (places : List ℕ) (rows : List Row) (row : Row) (out : List Row) → IsOneOf row rows
    → out ≡ cond (are_zero places (with_sums places rows row)) [] (with_sums places rows row ∷ []) → LeavesSums places rows out
sums_leave places rows row out one is = record { earlier = one.earlier; carried = row; later = one.later; rows_are = one.are; out_is = is }

-- all of the row or nothing holds what the row does
pub left_all : (P : Row → Type 0) (b : Bool) (row : Row) → P row → All P (cond b [] (row ∷ []))
left_all P true row h = All-nil P
left_all P false row h = All-cons P row [] h (All-nil P)

pub carried_one : (places : List ℕ) (rows out : List Row) (h : LeavesSums places rows out) → IsOneOf h.carried rows
carried_one places rows out h = record { earlier = h.earlier; later = h.later; are = h.rows_are }

module _ (places : List ℕ) (types : List ColType) where
  -- the row has a value of each column's type
  abbrev Typed : Row → Type 0
  Typed row = types_of row ≡ types

  abbrev pub AreTyped : List Row → Type 0
  AreTyped rows = All Typed rows

  -- what is left has the types of the rows
  out_typed : (rows out : List Row) → AreTyped rows → LeavesSums places rows out → AreTyped out
  out_typed rows out typed h =
      All-same Typed out (cond (are_zero places (with_sums places rows h.carried)) [] (with_sums places rows h.carried ∷ [])) h.out_is
      (left_all Typed (are_zero places (with_sums places rows h.carried)) (with_sums places rows h.carried)
      (sums_type places 0 rows h.carried ∙ all_one Typed rows h.carried (carried_one places rows out h) typed))

  merged_typed : (before after : List Row) → AreTyped before → Merges (LeavesSums places) before after → AreTyped after
  merged_typed before after typed m =
      let all : AreTyped (m.front ++ (m.rows ++ m.back)) = All-same Typed (m.front ++ (m.rows ++ m.back)) before (sym m.before_is) typed in
      let rest : AreTyped (m.rows ++ m.back) = all_last Typed m.front (m.rows ++ m.back) all in
      All-same Typed after (m.front ++ (m.out ++ m.back)) m.after_is
      (All-append Typed m.front (m.out ++ m.back) (all_first Typed m.front (m.rows ++ m.back) all)
      (All-append Typed m.out m.back (out_typed m.rows m.out (all_first Typed m.rows m.back rest) m.folded) (all_last Typed m.rows m.back rest)))

  -- ---- the sums of before and after a merge

  counts_among : (place : ℕ) (t : ColType) (front xs ys back : List Row) → number_as t (total (column_of place xs)) ≡ number_as t (total (column_of place ys))
      → number_as t (total (column_of place (front ++ (xs ++ back)))) ≡ number_as t (total (column_of place (front ++ (ys ++ back))))
  counts_among place t front xs ys back same =
      ap (number_as t) (column_total place front (xs ++ back) ∙ ap (λ z. total (column_of place front) +ℤ z) (column_total place xs back))
      ∙ number_among t (total (column_of place front)) (total (column_of place xs)) (total (column_of place ys)) (total (column_of place back)) same
      ∙ sym (ap (number_as t) (column_total place front (ys ++ back) ∙ ap (λ z. total (column_of place front) +ℤ z) (column_total place ys back)))

  rows_typed : (before after : List Row) → AreTyped before → (m : Merges (LeavesSums places) before after) → AreTyped m.rows
  rows_typed before after typed m =
      all_first Typed m.rows m.back (all_last Typed m.front (m.rows ++ m.back) (All-same Typed (m.front ++ (m.rows ++ m.back)) before (sym m.before_is) typed))

  counts_same : (before after : List Row) → AreTyped before → Merges (LeavesSums places) before after
      → (place : ℕ) (t : ColType) → slice_get types place ≡ Some t → is_one_of places place ≡ true → number_as t (total (column_of place after)) ≡ number_as t (total (column_of place before))
  counts_same before after typed m place t found one =
      let h = m.folded in
      ap (λ zs. number_as t (total (column_of place zs))) m.after_is
      ∙ counts_among place t m.front m.out m.rows m.back
      (left_counts places types m.rows h.carried (all_one Typed m.rows h.carried (carried_one places m.rows m.out h) (rows_typed before after typed m)) m.out h.out_is place t found one)
      ∙ sym (ap (λ zs. number_as t (total (column_of place zs))) m.before_is)

  -- a row gets the same sums of both
  sums_same : (before after : List Row) → AreTyped before → Merges (LeavesSums places) before after → (row : Row) → Typed row → with_sums places after row ≡ with_sums places before row
  sums_same before after typed m row fits =
      sums_alike places 0 after before row
      (λ i at v is found one. wrapped_alike v (total (column_of at after)) (total (column_of at before))
      (counts_same before after typed m at (type_of v) (type_at types row at v fits (ap (slice_get row) (same i at is) ∙ found)) one))
    where
      same : (i at : ℕ) → at ≡ 0 + i → at ≡ i
      same i at is = omega arith

  -- ---- the row that is carried

  -- a row of the rest stands for a row of before: itself, or the one that the merge carried
  abbrev Carried : List Row → List Row → Row → Type 0
  Carried before after row = (carried : Row) × IsOneOf carried before × (with_sums places after row ≡ with_sums places before carried)

  not_of_out : (b : Bool) (row made : Row) → IsOneOf row (cond b [] (made ∷ [])) → row ≡ made
  not_of_out true row made h = absurd (one_not_of_none h.earlier row h.later h.are)
  not_of_out false row made h = by h.earlier h.later h.are
    where
      by : (earlier later : List Row) → made ∷ [] ≡ earlier ++ row ∷ later → row ≡ made
      by [] later e = sym (head_same made row [] later e)
      by (x ∷ earlier) later e = absurd (one_not_of_none earlier row later (tail_same made x [] (earlier ++ row ∷ later) e))

  carried_still : (before after : List Row) → AreTyped before → Merges (LeavesSums places) before after → (row : Row) → IsOneOf row before → Carried before after row
  carried_still before after typed m row one = (row, one, sums_same before after typed m row (all_one Typed before row one typed))

  carried_made : (before after : List Row) → AreTyped before → (m : Merges (LeavesSums places) before after) → (row : Row) → IsOneOf row m.out → Carried before after row
  carried_made before after typed m row one =
      let h = m.folded in
      let of_rows = carried_one places m.rows m.out h in
      let made : row ≡ with_sums places m.rows h.carried =
      not_of_out (are_zero places (with_sums places m.rows h.carried)) row (with_sums places m.rows h.carried) (record { earlier = one.earlier; later = one.later; are = sym h.out_is ∙ one.are }) in
      let of_before : IsOneOf h.carried before = subst (IsOneOf h.carried) (sym m.before_is) (one_behind m.front (m.rows ++ m.back) h.carried (one_before m.rows m.back h.carried of_rows)) in
      (h.carried, of_before, ap (with_sums places after) made ∙ sums_twice places 0 m.rows after h.carried ∙ sums_same before after typed m h.carried (all_one Typed before h.carried of_before typed))

  carried_of : (before after : List Row) → AreTyped before → (m : Merges (LeavesSums places) before after) → (row : Row) → IsOneOf row after → Carried before after row
  carried_of before after typed m row one = first (one_split m.front (m.out ++ m.back) row one.earlier one.later (sym m.after_is ∙ one.are))
    where
      of_before : IsOneOf row (m.front ++ (m.rows ++ m.back)) → Carried before after row
      of_before h = carried_still before after typed m row (subst (IsOneOf row) (sym m.before_is) h)

      second : IsOneOf row m.out ⊎ IsOneOf row m.back → Carried before after row
      second (inl h) = carried_made before after typed m row h
      second (inr h) = of_before (one_behind m.front (m.rows ++ m.back) row (one_behind m.rows m.back row h))

      first : IsOneOf row m.front ⊎ IsOneOf row (m.out ++ m.back) → Carried before after row
      first (inl h) = of_before (one_before m.front (m.rows ++ m.back) row h)
      first (inr h) = second (one_split m.out m.back row h.earlier h.later h.are)

  -- ---- the law

  nil_of : (xs ys : List Row) → [] ≡ xs ++ ys → (xs ≡ []) × (ys ≡ [])
  nil_of [] ys e = (refl, sym e)
  nil_of (x ∷ xs) ys e = absurd (never e)
    where
      never : [] ≡ x ∷ (xs ++ ys) → ⊥
      never e = cc

  -- where nothing is left of a merge, it was one of all rows, and their sums are 0
  none_left : (before : List Row) → (m : Merges (LeavesSums places) before []) → LeavesSums places before []
  none_left before m =
      let ends = nil_of m.front (m.out ++ m.back) m.after_is in
      let inner = nil_of m.out m.back (sym ends.1) in
      let whole : before ≡ m.rows = m.before_is ∙ ap (λ zs. zs ++ (m.rows ++ m.back)) ends.0 ∙ ap (λ zs. m.rows ++ zs) inner.1 ∙ append_nil m.rows in
      subst (λ zs. LeavesSums places zs []) (sym whole) (subst (LeavesSums places m.rows) inner.0 m.folded)
    where
      append_nil : (xs : List Row) → xs ++ [] ≡ xs
      append_nil [] = refl
      append_nil (x ∷ xs) = ap (λ zs. x ∷ zs) (append_nil xs)

  leaves_some : (row : Row) (rows out : List Row) → Leaves (LeavesSums places) (row ∷ rows) out → LeavesSums places (row ∷ rows) out
  leaves_some row rows out h = h

  some_leaves : (rows out : List Row) → LeavesSums places rows out → Leaves (LeavesSums places) rows out
  some_leaves [] out h = absurd (one_not_of_none h.earlier h.carried h.later h.rows_are)
  some_leaves (row ∷ rows) out h = h

  absorbed : (before after out : List Row) → AreTyped before → Merges (LeavesSums places) before after → LeavesSums places after out → LeavesSums places before out
  absorbed before after out typed m h =
      let found = carried_of before after typed m h.carried (carried_one places after out h) in
      sums_leave places before found.0 out found.1 (h.out_is ∙ ap (λ row. cond (are_zero places row) [] (row ∷ [])) found.2)

  sums_absorb : (before after out : List Row) → AreTyped before → Merges (LeavesSums places) before after → Leaves (LeavesSums places) after out → Leaves (LeavesSums places) before out
  sums_absorb before [] out typed m leaves = some_leaves before out (subst (LeavesSums places before) (sym leaves) (none_left before m))
  sums_absorb before (row ∷ rows) out typed m leaves = some_leaves before out (absorbed before (row ∷ rows) out typed m leaves)

  pub summing_law : (rows x out : List Row) → 0 < length rows → AreTyped rows → ComesFrom (Run (engine.Summing places) []) rows x → Leaves (Run (engine.Summing places) []) x out → Folds (engine.Summing places) [] rows out
  summing_law rows x out some typed comes leaves = law_of_merges (LeavesSums places) AreTyped merged_typed sums_absorb rows x out some typed comes leaves

  -- what is left of rows of these types has them
  pub summing_types : (rows out : List Row) → AreTyped rows → Run (engine.Summing places) [] rows out → AreTyped out
  summing_types rows out typed h = out_typed rows out typed h

  -- ---- columns that are not summed

  pub summing_keeps : (key : List ℕ) (values : List Value) (rows out : List Row) → All (λ place. is_one_of places place ≡ false) key
      → All (λ r. key_of key r ≡ values) rows → Run (engine.Summing places) [] rows out → All (λ r. key_of key r ≡ values) out
  summing_keeps key values rows out none same h =
      All-same (λ r. key_of key r ≡ values) out (cond (are_zero places (with_sums places rows h.carried)) [] (with_sums places rows h.carried ∷ [])) h.out_is
      (left_all (λ r. key_of key r ≡ values) (are_zero places (with_sums places rows h.carried)) (with_sums places rows h.carried)
      (sums_key places rows h.carried key none ∙ all_one (λ r. key_of key r ≡ values) rows h.carried (carried_one places rows out h) same))
