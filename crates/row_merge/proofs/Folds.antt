-- What folds leave of rows in order, one key after another.
use Rattle.std.proofs.Common.{◌≡◌, ℕ, ◌+◌, ◌<◌, Bool, true, false, List, [], ◌∷◌, ◌++◌, length, drop, take, filter, get_or, refl, sym, ap, ◌∙◌, subst, append_assoc, append-nil, arith}
use Rattle.std.specs.Borrow.{Bor}
use Rattle.std.specs.Cmp.{IsTotalOrder}
use Rattle.std.specs.Cmp.Lexicographic.{slice_cmp}
use Rattle.std.specs.List.{All}
use Rattle.std.specs.List.Sorted.{IsSorted}
use Rattle.std.specs.Ordering.{is_eq, is_lt}
use Rattle.std.specs.declared.cmp.Ordering.{Ordering}
use Rattle.std.specs.declared.cmp.Ordering.TheVariants.{Less, Equal, Greater}
use Rattle.std.proofs.lemmas.List.{drop-drop, take-append-drop}
use Rattle.std.proofs.lemmas.List.Elements.{All-cons, All-filter, All-head, All-same, All-tail, All-take, All-weaker, filter-append, filter_passes}
use Rattle.mt_values.specs.declared.value.Value.{Value}
use Rattle.mt_values.specs.Order.{key_cmp, key_of, value_cmp}
use Rattle.mt_values.specs.Values.{Row}
use Rattle.part_history.specs.mt_model.Folding.{Leaves}
use Rattle.row_merge.specs.Merged.{IsFoldOf, alike, rows_of}
use Rattle.row_merge.proofs.Keys.{key_exact, key_total}
use Rattle.row_merge.proofs.Lent.{back_of, front_of, next_is}
use Rattle.row_merge.proofs.Sorted.{Up, back_is, both_is_equal, equal_itself, equal_right, filter_all, filter_none, front_is, how_many, less_is_at_most, none_passes, sorted_of, up_append, up_back, up_of}

no_order : true ≡ false → ⊥
no_order e = cc

pub equal_is : (r : Ordering) → is_eq r ≡ true → r ≡ Equal
equal_is Less h = absurd (no_order (sym h))
equal_is Equal h = refl
equal_is Greater h = absurd (no_order (sym h))

-- what is left of the next key is added
pub added : (out left new rest : List Row) → new ≡ out ++ left → out ++ (left ++ rest) ≡ new ++ rest
added out left new rest is = sym (append_assoc out left rest) ∙ ap (λ rows. rows ++ rest) (sym is)

module _ (places : List ℕ) where
  abbrev cmp : Row → Row → Ordering
  cmp = key_cmp places

  o : IsTotalOrder (key_cmp places)
  o = key_total places

  -- what has a row's key stands as the row does
  pub same_key : (a b r : Row) → key_of places a ≡ key_of places b → cmp r a ≡ cmp r b
  same_key a b r e = ap (λ (key : List Value). slice_cmp value_cmp (key_of places r) key) e

  same_key_left : (a b r : Row) → key_of places a ≡ key_of places b → cmp a r ≡ cmp b r
  same_key_left a b r e = ap (λ (key : List Value). slice_cmp value_cmp key (key_of places r)) e

  up_of_one_key : (first : Row) (rows : List Row) → All (λ r. key_of places r ≡ key_of places first) rows → Up cmp rows
  up_of_one_key first [] h = tt
  up_of_one_key first (row ∷ rows) h =
      let own = All-head (λ r. key_of places r ≡ key_of places first) row rows h in
      let others = All-tail (λ r. key_of places r ≡ key_of places first) row rows h in (
        All-weaker (λ r. key_of places r ≡ key_of places first) (λ r. is_lt (cmp r row) ≡ false) (λ r e. ap is_lt (same_key_left r row row (e ∙ sym own) ∙ equal_itself cmp o row)) rows others,
        up_of_one_key first rows others,
      )

  -- ---- the rows of the first key

  abbrev pub group : Row → List Row → List Row
  group first later = first ∷ take (how_many cmp first later) later

  abbrev pub others : Row → List Row → List Row
  others first later = drop (how_many cmp first later) later

  group_alike : (first : Row) (later : List Row) → Up cmp (first ∷ later) → All (λ r. cmp first r ≡ Equal) (group first later)
  group_alike first later up =
      let n = how_many cmp first later in
      let least = All-take (λ r. is_lt (cmp r first) ≡ false) n later up.0 in
      let most = front_is cmp o first later in
      All-cons (λ r. cmp first r ≡ Equal) first (take n later) (equal_itself cmp o first) (λ k d below. both_is_equal cmp o (get_or (take n later) k d) first (most k d below) (least k d below))

  pub group_has_key : (first : Row) (later : List Row) → Up cmp (first ∷ later) → All (λ r. key_of places r ≡ key_of places first) (group first later)
  group_has_key first later up =
      All-weaker (λ r. cmp first r ≡ Equal) (λ r. key_of places r ≡ key_of places first) (λ r e. sym (key_exact places first r e)) (group first later) (group_alike first later up)

  module _ (run : List Row → List Row → Type 0) where
    none_left : (rows out : List Row) → rows ≡ [] → Leaves run rows out → out ≡ []
    none_left [] out none h = h
    none_left (row ∷ rows) out none h = cc

    -- what is left of rows that come after a row comes after it
    left_after : (first : Row) (rows out : List Row) → IsFoldOf places run rows out → All (λ r. cmp first r ≡ Less) rows → All (λ r. cmp first r ≡ Less) out
    left_after first rows out h after k d below = by (alike places x rows) refl
      where
        x : Row
        x = get_or out k d

        not_itself : is_eq (cmp x x) ≡ false → ⊥
        not_itself e = no_order (sym (ap is_eq (equal_itself cmp o x)) ∙ e)

        by : (found : List Row) → alike places x rows ≡ found → cmp first x ≡ Less
        by [] none = absurd (not_itself (none_passes (λ r. is_eq (cmp x r)) out (none_left (alike places x rows) (alike places x out) none (h.folded x)) k d below))
        by (row ∷ found) some =
            let passes : All (λ r. is_eq (cmp x r) ≡ true) (row ∷ found) = All-same (λ r. is_eq (cmp x r) ≡ true) (row ∷ found) (alike places x rows) (sym some) (filter_passes (λ r. is_eq (cmp x r)) rows) in
            let later : All (λ r. cmp first r ≡ Less) (row ∷ found) = All-same (λ r. cmp first r ≡ Less) (row ∷ found) (alike places x rows) (sym some) (All-filter (λ r. is_eq (cmp x r)) (λ r. cmp first r ≡ Less) rows after) in
            equal_right cmp o x row first (equal_is (cmp x row) (All-head (λ r. is_eq (cmp x r) ≡ true) row found passes)) ∙ All-head (λ r. cmp first r ≡ Less) row found later

    pub fold_none : IsFoldOf places run [] []
    fold_none = record { sorted = sorted_of cmp o [] tt; folded = λ row. refl }

    -- what one fold leaves of rows of one key goes before what folds leave of rows that come after them
    pub fold_ends : (first : Row) (some later left out : List Row) → All (λ r. key_of places r ≡ key_of places first) (first ∷ some) → All (λ r. cmp first r ≡ Less) later
        → run (first ∷ some) left → All (λ r. key_of places r ≡ key_of places first) left
        → IsFoldOf places run later out → IsFoldOf places run ((first ∷ some) ++ later) (left ++ out)
    fold_ends first some later left out own after ran key h = record { sorted = sorted_of cmp o (left ++ out) (up_append cmp o left out (up_of_one_key first left key) (up_of cmp o out h.sorted) between); folded = folded }
      where
        out_after : All (λ r. cmp first r ≡ Less) out
        out_after = left_after first later out h after

        between : All (λ x. All (λ y. is_lt (cmp y x) ≡ false) out) left
        between =
            All-weaker (λ r. key_of places r ≡ key_of places first) (λ x. All (λ y. is_lt (cmp y x) ≡ false) out)
            (λ x e. All-weaker (λ y. cmp first y ≡ Less) (λ y. is_lt (cmp y x) ≡ false) (λ y less. ap is_lt (same_key x first y e) ∙ less_is_at_most cmp o first y less) out out_after) left key

        folded : (row : Row) → Leaves run (alike places row ((first ∷ some) ++ later)) (alike places row (left ++ out))
        folded row = by (is_eq (cmp row first)) refl
          where
            p : Row → Bool
            p r = is_eq (cmp row r)

            of_key : (rows : List Row) (b : Bool) → All (λ r. key_of places r ≡ key_of places first) rows → p first ≡ b → All (λ r. p r ≡ b) rows
            of_key rows b all e = All-weaker (λ r. key_of places r ≡ key_of places first) (λ r. p r ≡ b) (λ r same. ap is_eq (same_key r first row same) ∙ e) rows all

            none_of : (rows : List Row) → p first ≡ true → All (λ r. cmp first r ≡ Less) rows → filter p rows ≡ []
            none_of rows e all = filter_none p rows (All-weaker (λ r. cmp first r ≡ Less) (λ r. p r ≡ false) (λ r less. ap is_eq (o.congr row first r (equal_is (cmp row first) e) ∙ less)) rows all)

            by : (b : Bool) → p first ≡ b → Leaves run (filter p ((first ∷ some) ++ later)) (filter p (left ++ out))
            by true e =
                let rows_are : filter p ((first ∷ some) ++ later) ≡ first ∷ some =
                filter-append p (first ∷ some) later ∙ ap (λ zs. zs ++ filter p later) (filter_all p (first ∷ some) (of_key (first ∷ some) true own e)) ∙ ap (λ zs. (first ∷ some) ++ zs) (none_of later e after) ∙ append-nil (first ∷ some) in
                let out_is : filter p (left ++ out) ≡ left =
                filter-append p left out ∙ ap (λ zs. zs ++ filter p out) (filter_all p left (of_key left true key e)) ∙ ap (λ zs. left ++ zs) (none_of out e out_after) ∙ append-nil left in
                subst (λ rows. Leaves run rows (filter p (left ++ out))) (sym rows_are) (subst (run (first ∷ some)) (sym out_is) ran)
            by false e =
                let rows_are : filter p ((first ∷ some) ++ later) ≡ filter p later = filter-append p (first ∷ some) later ∙ ap (λ zs. zs ++ filter p later) (filter_none p (first ∷ some) (of_key (first ∷ some) false own e)) in
                let out_is : filter p (left ++ out) ≡ filter p out = filter-append p left out ∙ ap (λ zs. zs ++ filter p out) (filter_none p left (of_key left false key e)) in
                subst (λ rows. Leaves run rows (filter p (left ++ out))) (sym rows_are) (subst (Leaves run (filter p later)) (sym out_is) (h.folded row))

    -- the same of the rows of the first key, in rows in order
    fold_goes_on : (first : Row) (later left out : List Row) → Up cmp (first ∷ later) → run (group first later) left → All (λ r. key_of places r ≡ key_of places first) left
        → IsFoldOf places run (others first later) out → IsFoldOf places run (first ∷ later) (left ++ out)
    fold_goes_on first later left out up ran key h =
        let n = how_many cmp first later in
        subst (λ rows. IsFoldOf places run (first ∷ rows) (left ++ out)) (take-append-drop n later)
        (fold_ends first (take n later) (others first later) left out (group_has_key first later up) (back_is cmp o first later up.1) ran key h)

    -- what folds leave of rows they leave of any rows of which those of each key are the same
    pub fold_same : (rows more out : List Row) → ((row : Row) → alike places row more ≡ alike places row rows) → IsFoldOf places run rows out → IsFoldOf places run more out
    fold_same rows more out same h = record { sorted = h.sorted; folded = λ row. subst (λ found. Leaves run found (alike places row out)) (sym (same row)) (h.folded row) }

    -- the same of rows that are lent, from a place on
    pub keys_go_on : (rows : List (Bor Row)) (at count : ℕ) (first : Bor Row) (left out : List Row) → at < length rows → first ≡ get_or rows at first → IsSorted cmp (rows_of rows)
        → count ≡ how_many cmp first.now (rows_of (drop (at + 1) rows)) → run (first.now ∷ rows_of (take count (drop (at + 1) rows))) left
        → (All (λ r. key_of places r ≡ key_of places first.now) (first.now ∷ rows_of (take count (drop (at + 1) rows))) → All (λ r. key_of places r ≡ key_of places first.now) left)
        → IsFoldOf places run (rows_of (drop (at + (1 + count)) rows)) out → IsFoldOf places run (rows_of (drop at rows)) (left ++ out)
    keys_go_on rows at count first left out below is sorted counted ran keeps h =
        subst (λ found. IsFoldOf places run found (left ++ out)) (sym next)
        (fold_goes_on first.now later left out up (subst (λ found. run found left) group_is ran)
        (keeps (All-same (λ r. key_of places r ≡ key_of places first.now) (first.now ∷ rows_of (take count (drop (at + 1) rows))) (group first.now later) group_is (group_has_key first.now later up)))
        (subst (λ found. IsFoldOf places run found out) others_is h))
      where
        later : List Row
        later = rows_of (drop (at + 1) rows)

        next : rows_of (drop at rows) ≡ first.now ∷ later
        next = next_is rows at first below is

        up : Up cmp (first.now ∷ later)
        up = subst (Up cmp) (sym (back_of at rows) ∙ next) (up_back cmp o at (rows_of rows) (up_of cmp o (rows_of rows) sorted))

        group_is : first.now ∷ rows_of (take count (drop (at + 1) rows)) ≡ group first.now later
        group_is = ap (λ zs. first.now ∷ zs) (front_of count (drop (at + 1) rows) ∙ ap (λ n. take n later) counted)

        one_more : at + (1 + count) ≡ at + 1 + count
        one_more = omega arith

        others_is : rows_of (drop (at + (1 + count)) rows) ≡ others first.now later
        others_is = ap (λ n. rows_of (drop n rows)) one_more ∙ ap rows_of (sym (drop-drop count (at + 1) rows)) ∙ back_of count (drop (at + 1) rows) ∙ ap (λ n. drop n later) counted
