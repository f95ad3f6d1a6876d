-- Rules that leave some of the rows: what holds of all rows holds of those that are left.
use Rattle.std.proofs.Common.{◌≡◌, ℕ, Bool, true, false, nat_lt, List, [], ◌∷◌, ◌++◌, if◌then◌else◌, length, filter, Option, None, Some, inl, inr, sym}
use Rattle.std.specs.List.{All}
use Rattle.std.proofs.lemmas.List.Elements.{All-append, All-cons, All-filter, All-head, All-nil, All-same, All-tail, All-take}
use Rattle.mt_values.specs.Values.{Row}
use Rattle.mt_values.specs.declared.engine.Engine.TheVariants as engine
use Rattle.mt_model.specs.Rules.{IsSublist, Run, collapsed, ends_with_state, first_of, is_cancel, is_state, last_of}

module _ (P : Row → Type 0) where
  -- the row after some others is one of them
  all_at : (earlier : List Row) (row : Row) (later : List Row) → All P (earlier ++ row ∷ later) → P row
  all_at [] row later h = All-head P row later h
  all_at (first ∷ earlier) row later h = all_at earlier row later (All-tail P first (earlier ++ row ∷ later) h)

  all_but_one : (earlier : List Row) (row : Row) (later rows out : List Row) → rows ≡ earlier ++ row ∷ later → out ≡ row ∷ [] → All P rows → All P out
  all_but_one earlier row later rows out rows_are out_is h =
      All-same P out (row ∷ []) out_is (All-cons P row [] (all_at earlier row later (All-same P (earlier ++ row ∷ later) rows (sym rows_are) h)) (All-nil P))

  all_last : (rows : List Row) → All P rows → All P (last_of rows)
  all_last [] h = h
  all_last (row ∷ []) h = h
  all_last (row ∷ next ∷ rows) h = all_last (next ∷ rows) (All-tail P row (next ∷ rows) h)

  all_first : (rows : List Row) → All P rows → All P (first_of rows)
  all_first rows h = All-take P 1 rows h

  all_left : (ended less more : Bool) (states cancels : List Row) → All P states → All P cancels
      → All P (if less then last_of states else if more then first_of cancels else if ended then first_of cancels ++ last_of states else [])
  all_left ended true more states cancels s c = all_last states s
  all_left ended false true states cancels s c = all_first cancels c
  all_left true false false states cancels s c = All-append P (first_of cancels) (last_of states) (all_first cancels c) (all_last states s)
  all_left false false false states cancels s c = All-nil P

  all_some : (out rows : List Row) → IsSublist out rows → All P rows → All P out
  all_some out [] h all = All-same P out [] h all
  all_some out (row ∷ rows) (inl h) all = all_some out rows h (All-tail P row rows all)
  all_some out (row ∷ rows) (inr (rest, is, h)) all =
      All-same P out (row ∷ rest) is (All-cons P row rest (All-head P row rows all) (all_some rest rows h (All-tail P row rows all)))

  -- ---- by the rules

  pub plain_keeps : (rows out : List Row) → All P rows → Run engine.Plain [] rows out → All P out
  plain_keeps rows out all is = All-same P out rows is all

  pub replacing_keeps : (version : Option ℕ) (rows out : List Row) → All P rows → Run (engine.Replacing version) [] rows out → All P out
  replacing_keeps None rows out all h = all_but_one h.earlier h.last [] rows out h.rows_are h.out_is all
  replacing_keeps (Some version) rows out all h = all_but_one h.earlier h.newest h.later rows out h.rows_are h.out_is all

  pub collapsing_keeps : (sign : ℕ) (rows out : List Row) → All P rows → Run (engine.Collapsing sign) [] rows out → All P out
  collapsing_keeps sign rows out all is =
      let states = filter (is_state sign) rows in
      let cancels = filter (is_cancel sign) rows in
      All-same P out (collapsed sign rows) is
      (all_left (ends_with_state sign rows) (nat_lt (length cancels) (length states)) (nat_lt (length states) (length cancels)) states cancels
      (All-filter (is_state sign) P rows all) (All-filter (is_cancel sign) P rows all))

  pub versioned_keeps : (sign version : ℕ) (rows out : List Row) → All P rows → Run (engine.Versioned sign version) [] rows out → All P out
  versioned_keeps sign version rows out all h = all_some out rows h.some all
