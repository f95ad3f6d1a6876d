-- Rows of one input that come next of all.
use Rattle.std.proofs.Common.{◌≡◌, ◌⊎◌, inl, inr, ℕ, zero, suc, ◌+◌, ◌-◌, ◌<◌, ◌≤◌, true, false, List, [], ◌∷◌, ◌++◌, length, take, drop, set, get_or, length-drop, append_assoc, refl, sym, ap, ap₂, ◌∙◌, subst, arith, Some, slice_get}
use Rattle.std.specs.Cmp.{IsTotalOrder}
use Rattle.std.specs.List.{All}
use Rattle.std.specs.List.Sorted.{IsSorted}
use Rattle.std.specs.Ordering.{is_lt, nat_cmp, ordering_then}
use Rattle.std.specs.declared.cmp.Ordering.{Ordering}
use Rattle.std.specs.declared.cmp.Ordering.TheVariants.{Less, Equal, Greater}
use Rattle.std.proofs.lemmas.Cmp.{nat_cmp_total, on_total, then_total}
use Rattle.std.proofs.lemmas.List.{drop-drop, get_or-set_same, length-set, length-take, map-set, take-append-drop, take_all, take_more}
use Rattle.std.proofs.lemmas.List.Elements.{All-append, All-cons, All-head, All-nil, All-push, All-tail, All-weaker}
use Rattle.std.proofs.lemmas.Option.{slice_get-get_or, slice_get_within}
use Rattle.mt_values.specs.Order.{key_cmp}
use Rattle.mt_values.specs.Values.{Row}
use Rattle.row_merge.specs.declared.heads.Cursor.{Cursor}
use Rattle.row_merge.specs.Heads.{ahead_of}
use Rattle.row_merge.specs.Merged.{rows_of_all}
use Rattle.row_merge.specs.Merging.{AreOthersRanked, AreRanked, AreReady, AreTaken, Falls, LeadsFirst, RowLeads, TakesRows, ahead_at, joined, lead_at, lead_cmp}
use Rattle.row_merge.specs.Stretches.{TakesStretch}
use Rattle.row_merge.proofs.Ahead.{all_not_after, whole_before}
use Rattle.row_merge.proofs.Cursors.{ahead_is}
use Rattle.row_merge.proofs.Filling.{AreReadyBut}
use Rattle.row_merge.proofs.Keys.{key_total}
use Rattle.row_merge.proofs.Ranking.{around, first_leads, last_goes, last_under, others_fall, others_stay, row_leads, set_around, within_of}
use Rattle.row_merge.proofs.Refills.{last_some}
use Rattle.row_merge.proofs.Sorted.{Up, all_halves, at_most_cases, equal_itself, sorted_of, up_of}

-- ---- rows with the numbers of their inputs

module _ (places : List ℕ) where
  abbrev by_both : Row × ℕ → Row × ℕ → Ordering
  by_both p q = ordering_then (key_cmp places p.0 q.0) (nat_cmp p.1 q.1)

  both_total : IsTotalOrder by_both
  both_total = then_total (on_total (λ (p : Row × ℕ). p.0) (key_total places)) (on_total (λ (p : Row × ℕ). p.1) nat_cmp_total)

  none_is_both : true ≡ false → ⊥
  none_is_both e = cc

  not_later : (row last : Row) (input : ℕ) → is_lt (key_cmp places last row) ≡ false → is_lt (by_both (last, input) (row, input)) ≡ false
  not_later row last input h = by (key_cmp places last row) h
    where
      by : (k : Ordering) → is_lt k ≡ false → is_lt (ordering_then k (nat_cmp input input)) ≡ false
      by Less e = absurd (none_is_both e)
      by Equal e = ap is_lt (equal_itself nat_cmp nat_cmp_total input)
      by Greater e = refl

  -- what comes before another row after a row of the same input does so after an earlier one
  pub earlier_leads : (row last other : Row) (input x : ℕ) → is_lt (key_cmp places last row) ≡ false → ordering_then (key_cmp places last other) (nat_cmp input x) ≡ Less → ordering_then (key_cmp places row other) (nat_cmp input x) ≡ Less
  earlier_leads row last other input x h less = by (at_most_cases by_both both_total (row, input) (last, input) (not_later row last input h))
    where
      by : (by_both (row, input) (last, input) ≡ Less) ⊎ (by_both (row, input) (last, input) ≡ Equal) → by_both (row, input) (other, x) ≡ Less
      by (inl below) = both_total.trans (row, input) (last, input) (other, x) below less
      by (inr same) = both_total.congr (row, input) (last, input) (other, x) same ∙ less

  -- none of the rows before one of a list in order comes after it
  up_last : (rows : List Row) (m : ℕ) → Up (key_cmp places) rows → m < length rows → All (λ row. is_lt (key_cmp places (get_or rows m []) row) ≡ false) (take (suc m) rows)
  up_last [] m u below = absurd (omega (arith, below))
  up_last (r ∷ rows) zero u below =
      All-cons (λ row. is_lt (key_cmp places r row) ≡ false) r [] (ap is_lt (equal_itself (key_cmp places) (key_total places) r)) (All-nil (λ row. is_lt (key_cmp places r row) ≡ false))
  up_last (r ∷ rows) (suc m) u below =
      All-cons (λ row. is_lt (key_cmp places (get_or rows m []) row) ≡ false) r (take (suc m) rows) (u.0 m [] (omega (arith, below))) (up_last rows m u.1 (omega (arith, below)))

  module _ (ahead : List (List Row)) where
    -- a row that comes before the first one of the last of the ranked inputs comes before those of all
    pub leads_all : (others : List ℕ) (next input : ℕ) (row : Row) → All (λ x. ordering_then (key_cmp places (lead_at ahead next) (lead_at ahead x)) (nat_cmp next x) ≡ Less) others
        → ordering_then (key_cmp places row (lead_at ahead next)) (nat_cmp input next) ≡ Less → RowLeads places ahead input (others ++ next ∷ []) row
    leads_all others next input row under less =
        All-push IsUnder others next
        (All-weaker (λ x. ordering_then (key_cmp places (lead_at ahead next) (lead_at ahead x)) (nat_cmp next x) ≡ Less) IsUnder
        (λ x later. both_total.trans (row, input) (lead_at ahead next, next) (lead_at ahead x, x) less later) others under) less
      where
        IsUnder : ℕ → Type 0
        IsUnder x = ordering_then (key_cmp places row (lead_at ahead x)) (nat_cmp input x) ≡ Less

    -- the rows of an input in order up to such a row are taken
    pub rows_lead : (others : List ℕ) (input m : ℕ) → AreRanked places ahead (others ++ input ∷ []) → m < length (ahead_at ahead input) → IsSorted (key_cmp places) (ahead_at ahead input)
        → RowLeads places ahead input others (get_or (ahead_at ahead input) m []) → TakesRows places ahead input (take (suc m) (ahead_at ahead input)) (set ahead input (drop (suc m) (ahead_at ahead input)))
    rows_lead others input m r below sorted leads = record {
      front = take input ahead;
      rows = drop (suc m) own;
      back = drop (suc input) ahead;
      input_is = omega (arith, length-take input ahead, within);
      ahead_is = around ahead input within ∙ ap (λ xs. take input ahead ++ xs ∷ drop (suc input) ahead) (sym (take-append-drop (suc m) own));
      new_is = set_around ahead input (drop (suc m) own) within;
      lead = λ k d low. row_leads places ahead others input (get_or (take (suc m) own) k d) (last_goes places ahead others input r) (leads_too (get_or (take (suc m) own) k d) (least k d low));
    }
      where
        own : List Row
        own = ahead_at ahead input

        within : input < length ahead
        within = within_of ahead input (omega (arith, below))

        least : All (λ row. is_lt (key_cmp places (get_or own m []) row) ≡ false) (take (suc m) own)
        least = up_last own m (up_of (key_cmp places) (key_total places) own sorted) below

        leads_too : (row : Row) → is_lt (key_cmp places (get_or own m []) row) ≡ false → RowLeads places ahead input others row
        leads_too row h =
            All-weaker (λ x. ordering_then (key_cmp places (get_or own m []) (lead_at ahead x)) (nat_cmp input x) ≡ Less) (λ x. ordering_then (key_cmp places row (lead_at ahead x)) (nat_cmp input x) ≡ Less)
            (λ x less. earlier_leads row (get_or own m []) (lead_at ahead x) input x h less) others leads

-- ---- the rows that come after those in memory

module _ (places : List ℕ) (some : List Row) where
  run_around : (front : List (List Row)) (rows : List Row) (back rests : List (List Row)) → AreReady (front ++ (some ++ rows) ∷ back) rests → All (LeadsFirst places front back) some
      → All (IsSorted (key_cmp places)) (joined (front ++ (some ++ rows) ∷ back) rests) → AreTaken places (joined (front ++ (some ++ rows) ∷ back) rests) some (joined (front ++ rows ∷ back) rests)
  run_around [] rows back [] ready lead sorted = absurd ready
  run_around [] rows back (rest ∷ rests) ready lead sorted = record {
    front = [];
    rows = rows ++ rest;
    back = joined back rests;
    left_is = ap (λ xs. xs ∷ joined back rests) (append_assoc some rows rest);
    new_is = refl;
    lead = λ k d low. record {
      before = All-nil (λ x. key_cmp places (get_or some k d) x ≡ Less);
      after = all_not_after places (get_or some k d) back rests ready.1 (lead k d low).after (All-tail (IsSorted (key_cmp places)) ((some ++ rows) ++ rest) (joined back rests) sorted);
    };
  }
  run_around (others ∷ front) rows back [] ready lead sorted = absurd ready
  run_around (others ∷ front) rows back (rest ∷ rests) ready lead sorted =
      let left = joined (front ++ (some ++ rows) ∷ back) rests in
      let First : Row → List Row → Type 0 = λ row xs. All (λ x. key_cmp places row x ≡ Less) (take 1 xs) in
      let fewer : All (LeadsFirst places front back) some = λ k d low. record {
        before = All-tail (First (get_or some k d)) others front (lead k d low).before;
        after = (lead k d low).after;
      } in
      let t = run_around front rows back rests ready.1 fewer (All-tail (IsSorted (key_cmp places)) (others ++ rest) left sorted) in
      record {
        front = (others ++ rest) ∷ t.front;
        rows = t.rows;
        back = t.back;
        left_is = ap (λ zs. (others ++ rest) ∷ zs) t.left_is;
        new_is = ap (λ zs. (others ++ rest) ∷ zs) t.new_is;
        lead = λ k d low. record {
          before = All-append (λ x. key_cmp places (get_or some k d) x ≡ Less) (others ++ rest) (rows_of_all t.front)
              (whole_before places (get_or some k d) others rest ready.0 (All-head (First (get_or some k d)) others front (lead k d low).before) (All-head (IsSorted (key_cmp places)) (others ++ rest) left sorted))
              (t.lead k d low).before;
          after = (t.lead k d low).after;
        };
      }

  -- rows in memory that come next are the next of all, where each input without one has none left
  pub rows_of_all_taken : (ahead rests new : List (List Row)) (input : ℕ) → TakesRows places ahead input some new → AreReady ahead rests → All (IsSorted (key_cmp places)) (joined ahead rests)
      → AreTaken places (joined ahead rests) some (joined new rests)
  rows_of_all_taken ahead rests new input t ready sorted =
      subst (λ xs. AreTaken places (joined ahead rests) some (joined xs rests)) (sym t.new_is)
      (subst (λ xs. AreTaken places (joined xs rests) some (joined (t.front ++ t.rows ∷ t.back) rests)) (sym t.ahead_is)
      (run_around t.front t.rows t.back rests (subst (λ xs. AreReady xs rests) t.ahead_is ready) t.lead (subst (λ xs. All (IsSorted (key_cmp places)) (joined xs rests)) t.ahead_is sorted)))

-- ---- which inputs may have no row in memory then

-- an input in the middle has other rows in memory
changed_ready : (front : List (List Row)) (own rows : List Row) (back rests : List (List Row)) → AreReady (front ++ own ∷ back) rests → AreReadyBut (length front) (front ++ rows ∷ back) rests
changed_ready [] own rows back [] ready = absurd ready
changed_ready [] own rows back (r ∷ rests) ready = ready.1
changed_ready (f ∷ front) own rows back [] ready = absurd ready
changed_ready (f ∷ front) own rows back (r ∷ rests) ready = (ready.0, changed_ready front own rows back rests ready.1)

-- but for the input of rows that were taken, one without a row in memory has none left
pub rows_ready_but : (places : List ℕ) (ahead new rests : List (List Row)) (input : ℕ) (some : List Row) → TakesRows places ahead input some new → AreReady ahead rests → AreReadyBut input new rests
rows_ready_but places ahead new rests input some t ready =
    subst (λ xs. AreReadyBut input xs rests) (sym t.new_is)
    (subst (λ n. AreReadyBut n (t.front ++ t.rows ∷ t.back) rests) (sym t.input_is)
    (changed_ready t.front (some ++ t.rows) t.rows t.back rests (subst (λ xs. AreReady xs rests) t.ahead_is ready)))

-- ---- rows in memory are in order where all rows are

module _ (places : List ℕ) where
  up_first : (xs ys : List Row) → Up (key_cmp places) (xs ++ ys) → Up (key_cmp places) xs
  up_first [] ys u = tt
  up_first (x ∷ xs) ys u = ((all_halves (λ y. is_lt (key_cmp places y x) ≡ false) xs ys u.0).0, up_first xs ys u.1)

  first_sorted : (xs ys : List Row) → IsSorted (key_cmp places) (xs ++ ys) → IsSorted (key_cmp places) xs
  first_sorted xs ys h = sorted_of (key_cmp places) (key_total places) xs (up_first xs ys (up_of (key_cmp places) (key_total places) (xs ++ ys) h))

  pub ahead_sorted : (ahead rests : List (List Row)) (input : ℕ) → AreReady ahead rests → All (IsSorted (key_cmp places)) (joined ahead rests) → IsSorted (key_cmp places) (ahead_at ahead input)
  ahead_sorted [] rests input ready sorted = sorted_of (key_cmp places) (key_total places) [] tt
  ahead_sorted (a ∷ ahead) [] input ready sorted = absurd ready
  ahead_sorted (a ∷ ahead) (r ∷ rests) zero ready sorted = first_sorted a r (All-head (IsSorted (key_cmp places)) (a ++ r) (joined ahead rests) sorted)
  ahead_sorted (a ∷ ahead) (r ∷ rests) (suc input) ready sorted = ahead_sorted ahead rests input ready.1 (All-tail (IsSorted (key_cmp places)) (a ++ r) (joined ahead rests) sorted)

-- ---- cursors

inside : {X : Type 0} (x y : X) → Some x ≡ Some y → x ≡ y
inside x y e = cc

-- a list around the last of its numbers
pub last_split : (xs : List ℕ) (x : ℕ) → slice_get xs (length xs - 1) ≡ Some x → xs ≡ take (length xs - 1) xs ++ x ∷ []
last_split xs x there =
    let n = length xs - 1 in
    let below : n < length xs = slice_get_within xs n x there in
    sym (take_all (n + 1) xs (omega (arith, below))) ∙ take_more xs n x below
    ∙ ap (λ y. take n xs ++ y ∷ []) (inside (get_or xs n x) x (sym (slice_get-get_or xs n x below) ∙ there))

module _ (places : List ℕ) (cursors : List Cursor) (others : List ℕ) (input : ℕ) (r : AreRanked places (ahead_of cursors) (others ++ input ∷ [])) where
  pub own_some : 0 < length (ahead_at (ahead_of cursors) input)
  own_some = last_some places (ahead_of cursors) others input r

  -- the last of the other inputs
  module _ (next : ℕ) (last : slice_get others (length others - 1) ≡ Some next) where
    abbrev front : List ℕ
    front = take (length others - 1) others

    pub next_some : 0 < length (ahead_at (ahead_of cursors) next)
    next_some =
        let HasSome : ℕ → Type 0 = λ x. 0 < length (ahead_at (ahead_of cursors) x) in
        All-head HasSome next [] (all_halves HasSome front (next ∷ []) (subst (All HasSome) (last_split others next last) (last_goes places (ahead_of cursors) others input r).some)).1

    pub comes_first : ordering_then (key_cmp places (lead_at (ahead_of cursors) input) (lead_at (ahead_of cursors) next)) (nat_cmp input next) ≡ Less
    comes_first =
        let IsUnder : ℕ → Type 0 = λ x. ordering_then (key_cmp places (lead_at (ahead_of cursors) input) (lead_at (ahead_of cursors) x)) (nat_cmp input x) ≡ Less in
        All-head IsUnder next [] (all_halves IsUnder front (next ∷ []) (subst (All IsUnder) (last_split others next last) (first_leads places (ahead_of cursors) others input r))).1

    -- a row that comes before its first one comes before those of all others
    pub all_after : (row : Row) → ordering_then (key_cmp places row (lead_at (ahead_of cursors) next)) (nat_cmp input next) ≡ Less → RowLeads places (ahead_of cursors) input others row
    all_after row less =
        subst (λ xs. RowLeads places (ahead_of cursors) input xs row) (sym (last_split others next last))
        (leads_all places (ahead_of cursors) front next input row
        (last_under places (ahead_of cursors) front next (subst (Falls (lead_cmp places (ahead_of cursors))) (last_split others next last) (others_fall places (ahead_of cursors) others input r))) less)

  -- rows of the last input are taken: the others stay ranked
  pub others_still : (moved : Cursor) → AreOthersRanked places (ahead_of (set cursors input moved)) input others
  others_still moved =
      subst (λ xs. AreOthersRanked places xs input others) (sym (map-set (λ (x : Cursor). drop x.at x.block.rows) cursors input moved))
      (others_stay places (ahead_of cursors) others input (drop moved.at moved.block.rows) (last_goes places (ahead_of cursors) others input r))

  module _ (c moved : Cursor) (count : ℕ) (below : input < length cursors) (is : c ≡ get_or cursors input c) (moved_is : moved ≡ record c { at = c.at + count }) (some : 0 < count)
      (few : count ≤ length (ahead_at (ahead_of cursors) input)) (leads : RowLeads places (ahead_of cursors) input others (get_or (ahead_at (ahead_of cursors) input) (count - 1) [])) where
    abbrev own : List Row
    own = ahead_at (ahead_of cursors) input

    rows_same : moved.block.rows ≡ c.block.rows
    rows_same = ap (λ (m : Cursor). m.block.rows) moved_is

    taken_ahead : ahead_of (set cursors input moved) ≡ set (ahead_of cursors) input (drop (c.at + count) moved.block.rows)
    taken_ahead =
        map-set (λ (x : Cursor). drop x.at x.block.rows) cursors input moved
        ∙ ap (λ n. set (ahead_of cursors) input (drop n moved.block.rows)) (ap (λ (m : Cursor). m.at) moved_is)

    own_rows : own ≡ drop c.at moved.block.rows
    own_rows = ahead_is cursors input c below is ∙ ap (drop c.at) (sym rows_same)

    pub stretch_taken : TakesStretch places cursors (set cursors input moved) (record { input = input; from = c.at; to = c.at + count })
    stretch_taken = record {
      cursor = moved;
      there = slice_get-get_or (set cursors input moved) input moved (omega (arith, below, length-set cursors input moved)) ∙ ap Some (get_or-set_same cursors input moved moved below);
      some = omega (arith, some);
      within = omega (arith, some, few, ap length own_rows, length-drop c.at moved.block.rows);
      own_is = own_rows;
      ahead_is = taken_ahead;
      next = λ sorted.
          let one : suc (count - 1) ≡ count = omega (arith, some) in
          let many : (c.at + count) - c.at ≡ count = omega arith in
          let t : TakesRows places (ahead_of cursors) input (take count own) (set (ahead_of cursors) input (drop count own)) =
          subst (λ n. TakesRows places (ahead_of cursors) input (take n own) (set (ahead_of cursors) input (drop n own))) one
          (rows_lead places (ahead_of cursors) others input (count - 1) r (omega (arith, some, few)) sorted leads) in
          subst (λ xs. TakesRows places (ahead_of cursors) input xs (ahead_of (set cursors input moved))) (ap₂ take (sym many) own_rows)
          (subst (TakesRows places (ahead_of cursors) input (take count own))
          (ap (set (ahead_of cursors) input) (ap (drop count) own_rows ∙ drop-drop count c.at moved.block.rows) ∙ sym taken_ahead) t);
    }
