-- The elements of a CREATE, one after another, as loops go over them.
use Rattle.std.proofs.Common.{◌≡◌, ℕ, ◌+◌, ◌<◌, ◌≤◌, Bool, true, false, cond, nat_lt, List, [], ◌∷◌, ◌++◌, Option, Some, None, All, is_some, length, drop, take, get_or, refl, sym, ap, ap₂, ◌∙◌, subst, arith, append_assoc, append-nil, length-append}
use Rattle.std.proofs.Math.ListN.{drop_of_length-le}
use Rattle.std.proofs.lemmas.Bool.{leb-false, lt-leb}
use Rattle.std.proofs.lemmas.List.{drop_more, take_more}
use Rattle.std.proofs.lemmas.List.Elements.{All-nil, All-cons, filter_map-append}
use Rattle.std.proofs.lemmas.List.Quantifiers.{position-Some}
use Rattle.std.specs.List.{cons_option}
use Rattle.std.specs.Option.{option_map}
use Rattle.mt_values.specs.declared.schema.Column.{Column}
use Rattle.mt_values.specs.declared.schema.SkipIndex.{SkipIndex}
use Rattle.mt_values.specs.declared.statement.Element.{Element}
use Rattle.mt_values.specs.declared.statement.Element.TheVariants as element
use Rattle.mt_values.specs.declared.value.ColType.TheVariants.{UInt8}
use Rattle.mt_values.specs.Grammar.{column_in, columns_of, index_in, indexes_of, same_bytes}
use Rattle.mt_model.specs.declared.refusal.Bound.{Bound}
use Rattle.mt_model.specs.declared.refusal.Bound.TheVariants as bound
use Rattle.mt_model.specs.Clauses.{column_place, index_at, indexes_written, written_by}
use Rattle.mt_model.specs.History.{first_of}
use Rattle.mt_model.specs.Reply.{bound_passed, first_passed}

-- ---- one element

one_column : (e : Element) → is_some (column_in e) ≡ true → length (cons_option (column_in e) []) ≡ 1
one_column (element.Column c) kind = refl
one_column (element.Index x) kind = cc

no_column : (e : Element) → is_some (column_in e) ≡ false → length (cons_option (column_in e) []) ≡ 0
no_column (element.Column c) kind = cc
no_column (element.Index x) kind = refl

one_index : (e : Element) → is_some (column_in e) ≡ false → length (cons_option (index_in e) []) ≡ 1
one_index (element.Column c) kind = cc
one_index (element.Index x) kind = refl

no_index : (e : Element) → is_some (column_in e) ≡ true → length (cons_option (index_in e) []) ≡ 0
no_index (element.Column c) kind = refl
no_index (element.Index x) kind = cc

-- ---- columns and indexes, one element after another

module _ (elements : List Element) (i : ℕ) (e : Element) (below : i < length elements) (is : e ≡ get_or elements i e) where
  columns_more : columns_of (take (i + 1) elements) ≡ columns_of (take i elements) ++ cons_option (column_in e) []
  columns_more =
      ap columns_of (take_more elements i e below)
      ∙ (filter_map-append column_in (take i elements) (get_or elements i e ∷ [])
      ∙ ap (λ (d : Element). columns_of (take i elements) ++ cons_option (column_in d) []) (sym is))

  indexes_more : indexes_of (take (i + 1) elements) ≡ indexes_of (take i elements) ++ cons_option (index_in e) []
  indexes_more =
      ap indexes_of (take_more elements i e below)
      ∙ (filter_map-append index_in (take i elements) (get_or elements i e ∷ [])
      ∙ ap (λ (d : Element). indexes_of (take i elements) ++ cons_option (index_in d) []) (sym is))

  written_more : (columns : List Column) → indexes_written columns (take (i + 1) elements) ≡ indexes_written columns (take i elements) ++ cons_option (written_by columns e) []
  written_more columns =
      ap (indexes_written columns) (take_more elements i e below)
      ∙ (filter_map-append (written_by columns) (take i elements) (get_or elements i e ∷ [])
      ∙ ap (λ (d : Element). indexes_written columns (take i elements) ++ cons_option (written_by columns d) []) (sym is))

  -- an element is a column, or none
  pub column_more : (c : Column) (columns : List Column) → Some c ≡ column_in e → columns ≡ columns_of (take i elements) → columns ++ c ∷ [] ≡ columns_of (take (i + 1) elements)
  column_more c columns kind so_far =
      ap (λ (cs : List Column). cs ++ c ∷ []) so_far
      ∙ sym (columns_more ∙ ap (λ (o : Option Column). columns_of (take i elements) ++ cons_option o []) (sym kind))

  pub no_column_more : (columns : List Column) → None ≡ column_in e → columns ≡ columns_of (take i elements) → columns ≡ columns_of (take (i + 1) elements)
  no_column_more columns kind so_far =
      so_far
      ∙ sym (columns_more ∙ ap (λ (o : Option Column). columns_of (take i elements) ++ cons_option o []) (sym kind) ∙ append-nil (columns_of (take i elements)))

  -- it writes an index, or none
  pub index_more : (columns : List Column) (x : SkipIndex) (indexes : List SkipIndex) → Some x ≡ written_by columns e → indexes ≡ indexes_written columns (take i elements) → indexes ++ x ∷ [] ≡ indexes_written columns (take (i + 1) elements)
  index_more columns x indexes written so_far =
      ap (λ (xs : List SkipIndex). xs ++ x ∷ []) so_far
      ∙ sym (written_more columns ∙ ap (λ (o : Option SkipIndex). indexes_written columns (take i elements) ++ cons_option o []) (sym written))

  pub no_index_more : (columns : List Column) (indexes : List SkipIndex) → None ≡ written_by columns e → indexes ≡ indexes_written columns (take i elements) → indexes ≡ indexes_written columns (take (i + 1) elements)
  no_index_more columns indexes written so_far =
      so_far
      ∙ sym (written_more columns ∙ ap (λ (o : Option SkipIndex). indexes_written columns (take i elements) ++ cons_option o []) (sym written) ∙ append-nil (indexes_written columns (take i elements)))

  -- ---- how many there are

  column_count : is_some (column_in e) ≡ true → length (columns_of (take (i + 1) elements)) ≡ length (columns_of (take i elements)) + 1
  column_count kind = ap length columns_more ∙ (length-append (columns_of (take i elements)) (cons_option (column_in e) []) ∙ ap (λ n. length (columns_of (take i elements)) + n) (one_column e kind))

  same_columns : is_some (column_in e) ≡ false → length (columns_of (take (i + 1) elements)) ≡ length (columns_of (take i elements)) + 0
  same_columns kind = ap length columns_more ∙ (length-append (columns_of (take i elements)) (cons_option (column_in e) []) ∙ ap (λ n. length (columns_of (take i elements)) + n) (no_column e kind))

  index_count : is_some (column_in e) ≡ false → length (indexes_of (take (i + 1) elements)) ≡ length (indexes_of (take i elements)) + 1
  index_count kind = ap length indexes_more ∙ (length-append (indexes_of (take i elements)) (cons_option (index_in e) []) ∙ ap (λ n. length (indexes_of (take i elements)) + n) (one_index e kind))

  same_indexes : is_some (column_in e) ≡ true → length (indexes_of (take (i + 1) elements)) ≡ length (indexes_of (take i elements)) + 0
  same_indexes kind = ap length indexes_more ∙ (length-append (indexes_of (take i elements)) (cons_option (index_in e) []) ∙ ap (λ n. length (indexes_of (take i elements)) + n) (no_index e kind))

-- ---- the bound that is passed first

columns_past : (elements : List Element) → length (columns_of elements) ≡ 65 → bound_passed elements ≡ Some bound.Columns
columns_past elements is = ap (λ n. cond (nat_lt 64 n) (Some bound.Columns) (cond (nat_lt 8 (length (indexes_of elements))) (Some bound.Indexes) None)) is

indexes_past : (elements : List Element) → length (columns_of elements) ≤ 64 → length (indexes_of elements) ≡ 9 → bound_passed elements ≡ Some bound.Indexes
indexes_past elements few is =
    ap₂ (λ b n. cond b (Some bound.Columns) (cond (nat_lt 8 n) (Some bound.Indexes) None)) (lt-leb 65 (length (columns_of elements)) (omega (arith, few))) is

none_past : (elements : List Element) → length (columns_of elements) ≤ 64 → length (indexes_of elements) ≤ 8 → bound_passed elements ≡ None
none_past elements few few_indexes =
    ap₂ (λ b d. cond b (Some bound.Columns) (cond d (Some bound.Indexes) None))
    (lt-leb 65 (length (columns_of elements)) (omega (arith, few))) (lt-leb 9 (length (indexes_of elements)) (omega (arith, few_indexes)))

-- what was gone over of the elements passes no bound, and what is left decides
pub record GoneOver (elements : List Element) (i columns indexes : ℕ) : Type 0 where
  pub columns_are : columns ≡ length (columns_of (take i elements))
  pub indexes_are : indexes ≡ length (indexes_of (take i elements))
  pub few : columns ≤ 64
  pub few_indexes : indexes ≤ 8
  pub left : first_passed (take i elements) (drop i elements) ≡ first_passed [] elements

pub none_gone_over : (elements : List Element) → GoneOver elements 0 0 0
none_gone_over elements = record { columns_are = refl; indexes_are = refl; few = omega arith; few_indexes = omega arith; left = refl }

module _ (elements : List Element) (i columns indexes : ℕ) (e : Element) (below : i < length elements) (is : e ≡ get_or elements i e) (gone : GoneOver elements i columns indexes) where
  abbrev front : List Element
  front = take (i + 1) elements

  passed_step : first_passed [] elements ≡ first_of (bound_passed front) (first_passed front (drop (i + 1) elements))
  passed_step =
      sym gone.left
      ∙ (ap (first_passed (take i elements)) (drop_more elements i e below)
      ∙ ap (λ (es : List Element). first_of (bound_passed es) (first_passed es (drop (i + 1) elements))) (sym (take_more elements i e below)))

  decided : (o : Option Bound) → bound_passed front ≡ o → first_passed [] elements ≡ first_of o (first_passed front (drop (i + 1) elements))
  decided o known = passed_step ∙ ap (λ (p : Option Bound). first_of p (first_passed front (drop (i + 1) elements))) known

  -- one more column is one too many
  pub columns_end : (b : Bool) → b ≡ is_some (column_in e) → b ≡ true → columns ≡ 64 → Some bound.Columns ≡ first_passed [] elements
  columns_end b said passed full =
      let kind : is_some (column_in e) ≡ true = sym said ∙ passed in
      let all : length (columns_of front) ≡ 65 = omega (arith, column_count elements i e below is kind, gone.columns_are, full) in
      sym (decided (Some bound.Columns) (columns_past front all))

  -- one more index is one too many
  pub indexes_end : (b : Bool) → b ≡ is_some (column_in e) → b ≡ false → indexes ≡ 8 → Some bound.Indexes ≡ first_passed [] elements
  indexes_end b said passed full =
      let kind : is_some (column_in e) ≡ false = sym said ∙ passed in
      let few : length (columns_of front) ≤ 64 = omega (arith, same_columns elements i e below is kind, gone.columns_are, gone.few) in
      let all : length (indexes_of front) ≡ 9 = omega (arith, index_count elements i e below is kind, gone.indexes_are, full) in
      sym (decided (Some bound.Indexes) (indexes_past front few all))

  -- one more of either passes none
  more : (m n : ℕ) → m ≡ length (columns_of front) → n ≡ length (indexes_of front) → m ≤ 64 → n ≤ 8 → GoneOver elements (i + 1) m n
  more m n columns_are indexes_are few few_indexes =
      let low : length (columns_of front) ≤ 64 = omega (arith, columns_are, few) in
      let low_indexes : length (indexes_of front) ≤ 8 = omega (arith, indexes_are, few_indexes) in
      record { columns_are = columns_are; indexes_are = indexes_are; few = few; few_indexes = few_indexes; left = sym (decided None (none_past front low low_indexes)) }

  pub column_gone_over : (b : Bool) → b ≡ is_some (column_in e) → b ≡ true → ¬ (columns ≡ 64) → GoneOver elements (i + 1) (columns + 1) indexes
  column_gone_over b said passed room =
      let kind : is_some (column_in e) ≡ true = sym said ∙ passed in
      let count = column_count elements i e below is kind in
      let same = same_indexes elements i e below is kind in
      more (columns + 1) indexes (omega (arith, count, gone.columns_are)) (omega (arith, same, gone.indexes_are)) (omega (arith, gone.few, room)) gone.few_indexes

  pub index_gone_over : (b : Bool) → b ≡ is_some (column_in e) → b ≡ false → ¬ (indexes ≡ 8) → GoneOver elements (i + 1) columns (indexes + 1)
  index_gone_over b said passed room =
      let kind : is_some (column_in e) ≡ false = sym said ∙ passed in
      let count = index_count elements i e below is kind in
      let same = same_columns elements i e below is kind in
      more columns (indexes + 1) (omega (arith, same, gone.columns_are)) (omega (arith, count, gone.indexes_are)) gone.few (omega (arith, gone.few_indexes, room))

-- after the last element none is passed
pub none_passed : (elements : List Element) (i columns indexes : ℕ) → length elements ≤ i → GoneOver elements i columns indexes → None ≡ first_passed [] elements
none_passed elements i columns indexes end gone = ap (first_passed (take i elements)) (sym (drop_of_length-le elements end)) ∙ gone.left

pub ruleset bounds_of_elements = (none_gone_over, columns_end, indexes_end, column_gone_over, index_gone_over, none_passed)

-- ---- where none is passed

-- there are not too many columns and indexes
pub record AreFew (elements : List Element) : Type 0 where
  pub columns : length (columns_of elements) ≤ 64
  pub indexes : length (indexes_of elements) ≤ 8

none_first : (o p : Option Bound) → first_of o p ≡ None → (o ≡ None) × (p ≡ None)
none_first None p none = (refl, none)
none_first (Some b) p none = cc

few_of : (elements : List Element) → bound_passed elements ≡ None → AreFew elements
few_of elements none = by (nat_lt 64 (length (columns_of elements))) (nat_lt 8 (length (indexes_of elements))) refl refl none
  where
    by : (a b : Bool) → nat_lt 64 (length (columns_of elements)) ≡ a → nat_lt 8 (length (indexes_of elements)) ≡ b → cond a (Some bound.Columns) (cond b (Some bound.Indexes) None) ≡ None → AreFew elements
    by true b d e none = cc
    by false true d e none = cc
    by false false d e none =
        let few : length (columns_of elements) < 65 = leb-false 65 (length (columns_of elements)) d in
        let few_indexes : length (indexes_of elements) < 9 = leb-false 9 (length (indexes_of elements)) e in
        record { columns = omega (arith, few); indexes = omega (arith, few_indexes) }

few_all : (before elements : List Element) → AreFew before → first_passed before elements ≡ None → AreFew (before ++ elements)
few_all before [] few none = subst AreFew (sym (append-nil before)) few
few_all before (e ∷ elements) few none =
    let parts = none_first (bound_passed (before ++ e ∷ [])) (first_passed (before ++ e ∷ []) elements) none in
    subst AreFew (append_assoc before (e ∷ []) elements) (few_all (before ++ e ∷ []) elements (few_of (before ++ e ∷ []) parts.0) parts.1)

pub few_elements : (elements : List Element) → first_passed [] elements ≡ None → AreFew elements
few_elements elements none = few_all [] elements (record { columns = omega arith; indexes = omega arith }) none

-- ---- the indexes that are written

-- there are no more of them than indexes among the elements
pub written_few : (columns : List Column) (elements : List Element) → length (indexes_written columns elements) ≤ length (indexes_of elements)
written_few columns [] = omega arith
written_few columns (element.Column c ∷ elements) = written_few columns elements
written_few columns (element.Index x ∷ elements) = by (column_place columns x.column) (written_few columns elements)
  where
    by : (o : Option ℕ) → length (indexes_written columns elements) ≤ length (indexes_of elements) → length (cons_option (option_map (index_at x) o) (indexes_written columns elements)) ≤ length (x ∷ indexes_of elements)
    by None rest = omega (arith, rest)
    by (Some place) rest = omega (arith, rest)

any_column : Column
any_column = record { name = []; col_type = UInt8; function = None }

-- the column of each is one of the columns
pub written_own : (columns : List Column) (elements : List Element) → All (λ (x : SkipIndex). x.column < length columns) (indexes_written columns elements)
written_own columns [] = All-nil (λ (x : SkipIndex). x.column < length columns)
written_own columns (element.Column c ∷ elements) = written_own columns elements
written_own columns (element.Index t ∷ elements) = by (column_place columns t.column) refl (written_own columns elements)
  where
    by : (o : Option ℕ) → column_place columns t.column ≡ o → All (λ (x : SkipIndex). x.column < length columns) (indexes_written columns elements)
        → All (λ (x : SkipIndex). x.column < length columns) (cons_option (option_map (index_at t) o) (indexes_written columns elements))
    by None is rest = rest
    by (Some place) is rest =
        All-cons (λ (x : SkipIndex). x.column < length columns) (index_at t place) (indexes_written columns elements) (position-Some (λ (c : Column). same_bytes c.name t.column) columns place any_column is).0 rest
