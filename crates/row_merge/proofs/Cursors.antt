-- What cursors have in memory.
use Rattle.std.proofs.Common.{◌≡◌, ℕ, suc, ◌+◌, ◌<◌, ◌≤◌, List, [], ◌∷◌, ◌++◌, length, drop, set, get_or, drop-cons, length-drop, sym, ap, ap₂, ◌∙◌, subst, arith, Some, slice_get}
use Rattle.std.specs.List.{All}
use Rattle.std.proofs.lemmas.List.{drop_all, get_or-drop, get_or-map, length-map, map-set}
use Rattle.std.proofs.lemmas.List.Elements.{All-get_or, All-set}
use Rattle.std.proofs.lemmas.Option.{slice_get-get_or, slice_get_within}
use Rattle.mt_values.specs.declared.value.ColType.{ColType}
use Rattle.mt_values.specs.Values.{Row}
use Rattle.row_merge.specs.declared.heads.Cursor.{Cursor}
use Rattle.row_merge.specs.Heads.{AreComparable, AreOfTypes, AreTypedAs, ahead_of}
use Rattle.row_merge.specs.Merging.{AreOthersRanked, AreRanked, TakesFirst, ahead_at, lead_at}
use Rattle.row_merge.proofs.Ranking.{last_goes, last_is_next, others_stay, within_of}

rows_of_cursor : Cursor → List Row
rows_of_cursor c = drop c.at c.block.rows

row_inside : (x y : Row) → Some x ≡ Some y → x ≡ y
row_inside x y e = cc

next_of : (rows : List Row) (n : ℕ) (row : Row) → slice_get rows n ≡ Some row → drop n rows ≡ row ∷ drop (n + 1) rows
next_of rows n row there =
    let below : n < length rows = slice_get_within rows n row there in
    let one : suc n ≡ n + 1 = omega arith in
    drop-cons rows n [] below ∙ ap₂ (λ x k. x ∷ drop k rows) (row_inside (get_or rows n []) row (sym (slice_get-get_or rows n [] below) ∙ there)) one

-- an input that has rows is one of those that have cursors
pub in_range : (cursors : List Cursor) (i : ℕ) → 0 < length (ahead_at (ahead_of cursors) i) → i < length cursors
in_range cursors i some = omega (arith, within_of (ahead_of cursors) i some, length-map cursors (λ (c : Cursor). drop c.at c.block.rows))

module _ (cursors : List Cursor) (i : ℕ) (c : Cursor) (below : i < length cursors) (is : c ≡ get_or cursors i c) where
  pub ahead_is : ahead_at (ahead_of cursors) i ≡ drop c.at c.block.rows
  ahead_is = get_or-map (λ (x : Cursor). drop x.at x.block.rows) cursors i c [] below ∙ ap (λ (x : Cursor). drop x.at x.block.rows) (sym is)

  pub at_within : 0 < length (ahead_at (ahead_of cursors) i) → c.at < length c.block.rows
  at_within some = omega (arith, some, ap length ahead_is, length-drop c.at c.block.rows)

  pub lead_is : lead_at (ahead_of cursors) i ≡ get_or c.block.rows c.at []
  lead_is =
      let same : c.at + 0 ≡ c.at = omega arith in
      ap (λ xs. get_or xs 0 []) ahead_is ∙ get_or-drop c.at c.block.rows 0 [] ∙ ap (λ n. get_or c.block.rows n []) same

  pub columns_there : (places : List ℕ) → AreComparable places cursors → All (λ place. place < length c.block.types) places
  columns_there places all =
      subst (λ (x : Cursor). All (λ place. place < length x.block.types) places) (sym is) (All-get_or (λ (x : Cursor). All (λ place. place < length x.block.types) places) cursors i c below all)

  pub row_typed : (types : List ColType) → AreOfTypes types cursors → c.block.types ≡ types
  row_typed types all = ap (λ (x : Cursor). x.block.types) is ∙ All-get_or (λ (x : Cursor). x.block.types ≡ types) cursors i c below all

  -- all rows of the block were taken
  pub none_is_ahead : length c.block.rows ≤ c.at → ahead_at (ahead_of cursors) i ≡ []
  none_is_ahead all = ahead_is ∙ drop_all c.at c.block.rows all

  -- the next row of the block
  pub next_is_ahead : (row : Row) → slice_get c.block.rows c.at ≡ Some row → ahead_at (ahead_of cursors) i ≡ row ∷ drop (c.at + 1) c.block.rows
  next_is_ahead row there = ahead_is ∙ next_of c.block.rows c.at row there

  module _ (new : List Cursor) (new_is : new ≡ set cursors i (record c { at = c.at + 1 })) where
    -- it was taken
    pub ahead_moved : ahead_of new ≡ set (ahead_of cursors) i (drop (c.at + 1) c.block.rows)
    ahead_moved = ap ahead_of new_is ∙ map-set (λ (x : Cursor). drop x.at x.block.rows) cursors i (record c { at = c.at + 1 })

    pub types_stay : AreTypedAs cursors new
    types_stay = λ types all.
        subst (AreOfTypes types) (sym new_is) (All-set (λ (x : Cursor). x.block.types ≡ types) cursors i (record c { at = c.at + 1 }) (row_typed types all) all)

    pub still_comparable : (places : List ℕ) → AreComparable places cursors → AreComparable places new
    still_comparable places all =
        subst (AreComparable places) (sym new_is)
        (All-set (λ (x : Cursor). All (λ place. place < length x.block.types) places) cursors i (record c { at = c.at + 1 }) (columns_there places all) all)

    pub takes_first : (places others : List ℕ) (row : Row) → AreRanked places (ahead_of cursors) (others ++ i ∷ []) → slice_get c.block.rows c.at ≡ Some row → TakesFirst places (ahead_of cursors) i row (ahead_of new)
    takes_first places others row r there =
        subst (TakesFirst places (ahead_of cursors) i row) (sym ahead_moved) (last_is_next places (ahead_of cursors) others i row (drop (c.at + 1) c.block.rows) r (next_is_ahead row there))

    pub others_ranked : (places others : List ℕ) → AreRanked places (ahead_of cursors) (others ++ i ∷ []) → AreOthersRanked places (ahead_of new) i others
    others_ranked places others r =
        subst (λ xs. AreOthersRanked places xs i others) (sym ahead_moved) (others_stay places (ahead_of cursors) others i (drop (c.at + 1) c.block.rows) (last_goes places (ahead_of cursors) others i r))
