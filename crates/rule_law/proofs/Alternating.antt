-- Merges of a collapsing key whose signs alternate leave the last row where it is a state, and none otherwise.
use Rattle.std.proofs.Common.{◌≡◌, ℕ, suc, ◌+◌, ◌<◌, Bool, true, false, cond, not, ◌&&◌, ◌||◌, nat_lt, List, [], ◌∷◌, ◌++◌, length, filter, refl, sym, ap, ◌∙◌, subst, append_assoc, append-nil, lt-ltb, ltb-true, arith, ℤ, pos, negsuc, Option, None, Some, slice_get}
use Rattle.std.specs.Ordering.{int_eq}
use Rattle.mt_values.specs.declared.value.Value.{Value}
use Rattle.mt_values.specs.declared.value.Value.TheVariants as value
use Rattle.mt_values.specs.Values.{Row}
use Rattle.mt_values.specs.declared.engine.Engine.TheVariants as engine
use Rattle.mt_model.specs.Folding.{Merges, ComesFrom, Leaves}
use Rattle.mt_model.specs.Rules.{Folds, FoldsAs, Run, alternate, alternate_from, collapsed, ends_with_state, first_of, is_cancel, is_sign, is_state, last_of, left_of_signs}
use Rattle.rule_law.proofs.Merging.{function_leaves, leaves_function, law_of_merges}
use Rattle.rule_law.proofs.Newest.{last_after}

-- ---- Booleans and lists

both_left : (a b : Bool) → (a && b) ≡ true → a ≡ true
both_left true b h = refl
both_left false b h = h

both_right : (a b : Bool) → (a && b) ≡ true → b ≡ true
both_right true b h = h
both_right false b h = absurd (clash h)
  where
    clash : false ≡ true → ⊥
    clash e = cc

both_is : (a b : Bool) → a ≡ true → b ≡ true → (a && b) ≡ true
both_is a b h k = ap (λ c. c && b) h ∙ k

not_less : (a b : ℕ) → (a < b → ⊥) → nat_lt a b ≡ false
not_less a b h = by (nat_lt a b) refl
  where
    by : (c : Bool) → nat_lt a b ≡ c → c ≡ false
    by true e = absurd (h (ltb-true a b e))
    by false e = refl

last_some : (row : Row) (rows : List Row) → last_of (row ∷ rows) ≡ [] → ⊥
last_some row [] h = cc
last_some row (next ∷ rows) h = last_some next rows h

-- the last of a list that has one is the same after one more at the front
last_more : (row : Row) (rows : List Row) → (rows ≡ [] → ⊥) → last_of (row ∷ rows) ≡ last_of rows
last_more row [] h = absurd (h refl)
last_more row (next ∷ rows) h = refl

-- ---- what is left, by the numbers of both signs

pub left_states : (ended : Bool) (states cancels : List Row) → length cancels < length states → left_of_signs ended states cancels ≡ last_of states
left_states ended states cancels h =
    ap (λ b. cond b (last_of states) (cond (nat_lt (length states) (length cancels)) (first_of cancels) (cond ended (first_of cancels ++ last_of states) []))) (lt-ltb (length cancels) (length states) h)

pub left_even : (ended : Bool) (states cancels : List Row) → length states ≡ length cancels → left_of_signs ended states cancels ≡ cond ended (first_of cancels ++ last_of states) []
left_even ended states cancels h =
    ap (λ b. cond b (last_of states) (cond (nat_lt (length states) (length cancels)) (first_of cancels) (cond ended (first_of cancels ++ last_of states) []))) (not_less (length cancels) (length states) (λ less. omega arith))
    ∙ ap (λ b. cond b (first_of cancels) (cond ended (first_of cancels ++ last_of states) [])) (not_less (length states) (length cancels) (λ less. omega arith))

pub left_cancels : (ended : Bool) (states cancels : List Row) → length states < length cancels → left_of_signs ended states cancels ≡ first_of cancels
left_cancels ended states cancels h =
    ap (λ b. cond b (last_of states) (cond (nat_lt (length states) (length cancels)) (first_of cancels) (cond ended (first_of cancels ++ last_of states) []))) (not_less (length cancels) (length states) (λ less. omega arith))
    ∙ ap (λ b. cond b (first_of cancels) (cond ended (first_of cancels ++ last_of states) [])) (lt-ltb (length states) (length cancels) h)

-- a number is not both
never_so : false ≡ true → ⊥
never_so e = cc

one_sign_number : (z : ℤ) → int_eq z (pos 1) ≡ true → int_eq z (negsuc 0) ≡ false
one_sign_number (pos n) h = refl
one_sign_number (negsuc n) h = absurd (never_so h)

pub one_sign : (found : Option Value) → is_sign (pos 1) found ≡ true → is_sign (negsuc 0) found ≡ false
one_sign None h = refl
one_sign (Some (value.Int8 z)) h = one_sign_number z h
one_sign (Some (value.UInt8 n)) h = refl
one_sign (Some (value.UInt16 n)) h = refl
one_sign (Some (value.UInt32 n)) h = refl
one_sign (Some (value.UInt64 n)) h = refl
one_sign (Some (value.Int16 z)) h = refl
one_sign (Some (value.Int32 z)) h = refl
one_sign (Some (value.Int64 z)) h = refl
one_sign (Some (value.Text bytes)) h = refl

other_sign_number : (z : ℤ) → int_eq z (negsuc 0) ≡ true → int_eq z (pos 1) ≡ false
other_sign_number (pos n) h = absurd (never_so h)
other_sign_number (negsuc n) h = refl

pub other_sign : (found : Option Value) → is_sign (negsuc 0) found ≡ true → is_sign (pos 1) found ≡ false
other_sign None h = refl
other_sign (Some (value.Int8 z)) h = other_sign_number z h
other_sign (Some (value.UInt8 n)) h = refl
other_sign (Some (value.UInt16 n)) h = refl
other_sign (Some (value.UInt32 n)) h = refl
other_sign (Some (value.UInt64 n)) h = refl
other_sign (Some (value.Int16 z)) h = refl
other_sign (Some (value.Int32 z)) h = refl
other_sign (Some (value.Int64 z)) h = refl
other_sign (Some (value.Text bytes)) h = refl

module _ (sign : ℕ) where
  abbrev is_s : Row → Bool
  is_s row = is_state sign row

  abbrev is_c : Row → Bool
  is_c row = is_cancel sign row

  -- whether a state comes next, after rows that begin with a state or a cancel
  abbrev next : Bool → List Row → Bool
  next state [] = state
  next state (row ∷ rows) = next (not state) rows

  -- the first row has the sign that is awaited, and the others alternate
  head_state : (row : Row) (rows : List Row) → alternate_from true sign (row ∷ rows) ≡ true → is_s row ≡ true
  head_state row rows h = both_left (is_s row) (alternate_from false sign rows) h

  head_cancel : (row : Row) (rows : List Row) → alternate_from false sign (row ∷ rows) ≡ true → is_c row ≡ true
  head_cancel row rows h = both_left (is_c row) (alternate_from true sign rows) h

  tail_alternates : (state : Bool) (row : Row) (rows : List Row) → alternate_from state sign (row ∷ rows) ≡ true → alternate_from (not state) sign rows ≡ true
  tail_alternates true row rows h = both_right (is_s row) (alternate_from false sign rows) h
  tail_alternates false row rows h = both_right (is_c row) (alternate_from true sign rows) h

  -- ---- one list after another

  front_alternates : (state : Bool) (xs ys : List Row) → alternate_from state sign (xs ++ ys) ≡ true → alternate_from state sign xs ≡ true
  front_alternates state [] ys h = alone state
    where
      alone : (state : Bool) → alternate_from state sign [] ≡ true
      alone true = refl
      alone false = refl
  front_alternates true (x ∷ xs) ys h = both_is (is_s x) (alternate_from false sign xs) (head_state x (xs ++ ys) h) (front_alternates false xs ys (tail_alternates true x (xs ++ ys) h))
  front_alternates false (x ∷ xs) ys h = both_is (is_c x) (alternate_from true sign xs) (head_cancel x (xs ++ ys) h) (front_alternates true xs ys (tail_alternates false x (xs ++ ys) h))

  back_alternates : (state : Bool) (xs ys : List Row) → alternate_from state sign (xs ++ ys) ≡ true → alternate_from (next state xs) sign ys ≡ true
  back_alternates state [] ys h = h
  back_alternates state (x ∷ xs) ys h = back_alternates (not state) xs ys (tail_alternates state x (xs ++ ys) h)

  joined_alternates : (state : Bool) (xs ys : List Row) → alternate_from state sign xs ≡ true → alternate_from (next state xs) sign ys ≡ true → alternate_from state sign (xs ++ ys) ≡ true
  joined_alternates state [] ys h k = k
  joined_alternates true (x ∷ xs) ys h k = both_is (is_s x) (alternate_from false sign (xs ++ ys)) (head_state x xs h) (joined_alternates false xs ys (tail_alternates true x xs h) k)
  joined_alternates false (x ∷ xs) ys h k = both_is (is_c x) (alternate_from true sign (xs ++ ys)) (head_cancel x xs h) (joined_alternates true xs ys (tail_alternates false x xs h) k)

  next_after : (state : Bool) (xs ys : List Row) → next state (xs ++ ys) ≡ next (next state xs) ys
  next_after state [] ys = refl
  next_after state (x ∷ xs) ys = next_after (not state) xs ys

  -- ---- the filters, at one row

  states_of_state : (row : Row) (rows : List Row) → is_s row ≡ true → filter is_s (row ∷ rows) ≡ row ∷ filter is_s rows
  states_of_state row rows h = ap (λ b. cond b (row ∷ filter is_s rows) (filter is_s rows)) h

  cancels_of_state : (row : Row) (rows : List Row) → is_s row ≡ true → filter is_c (row ∷ rows) ≡ filter is_c rows
  cancels_of_state row rows h = ap (λ b. cond b (row ∷ filter is_c rows) (filter is_c rows)) (one_sign (slice_get row sign) h)

  states_of_cancel : (row : Row) (rows : List Row) → is_c row ≡ true → filter is_s (row ∷ rows) ≡ filter is_s rows
  states_of_cancel row rows h = ap (λ b. cond b (row ∷ filter is_s rows) (filter is_s rows)) (other_sign (slice_get row sign) h)

  cancels_of_cancel : (row : Row) (rows : List Row) → is_c row ≡ true → filter is_c (row ∷ rows) ≡ row ∷ filter is_c rows
  cancels_of_cancel row rows h = ap (λ b. cond b (row ∷ filter is_c rows) (filter is_c rows)) h

  -- ---- numbers and ends of rows that alternate

  counts : (state : Bool) (rows : List Row) → alternate_from state sign rows ≡ true → length (filter is_s rows) + cond state 0 1 ≡ length (filter is_c rows) + cond (next state rows) 0 1
  counts state [] h = refl
  counts true (row ∷ rows) h =
      let rest = counts false rows (tail_alternates true row rows h) in
      let more : length (filter is_s (row ∷ rows)) ≡ suc (length (filter is_s rows)) = ap length (states_of_state row rows (head_state row rows h)) in
      let same : length (filter is_c (row ∷ rows)) ≡ length (filter is_c rows) = ap length (cancels_of_state row rows (head_state row rows h)) in
      omega arith
  counts false (row ∷ rows) h =
      let rest = counts true rows (tail_alternates false row rows h) in
      let same : length (filter is_s (row ∷ rows)) ≡ length (filter is_s rows) = ap length (states_of_cancel row rows (head_cancel row rows h)) in
      let more : length (filter is_c (row ∷ rows)) ≡ suc (length (filter is_c rows)) = ap length (cancels_of_cancel row rows (head_cancel row rows h)) in
      omega arith

  -- the last row is a state where a cancel comes next
  ends : (state : Bool) (row : Row) (rows : List Row) → alternate_from state sign (row ∷ rows) ≡ true → ends_with_state sign (row ∷ rows) ≡ not (next state (row ∷ rows))
  ends true row [] h = ap (λ b. b || false) (head_state row [] h)
  ends false row [] h = ap (λ b. b || false) (other_sign (slice_get row sign) (head_cancel row [] h))
  ends state row (other ∷ rows) h = ends (not state) other rows (tail_alternates state row (other ∷ rows) h)

  -- then it is the last state
  last_state : (state : Bool) (row : Row) (rows : List Row) → alternate_from state sign (row ∷ rows) ≡ true → next state (row ∷ rows) ≡ false → last_of (filter is_s (row ∷ rows)) ≡ last_of (row ∷ rows)
  last_state true row [] h e = ap last_of (states_of_state row [] (head_state row [] h))
  last_state false row [] h e = absurd (clash e)
    where
      clash : true ≡ false → ⊥
      clash e = cc
  last_state true row (other ∷ rows) h e =
      let rest = last_state false other rows (tail_alternates true row (other ∷ rows) h) e in
      ap last_of (states_of_state row (other ∷ rows) (head_state row (other ∷ rows) h))
      ∙ last_more row (filter is_s (other ∷ rows)) (λ none. last_some other rows (sym rest ∙ ap last_of none)) ∙ rest
  last_state false row (other ∷ rows) h e =
      ap last_of (states_of_cancel row (other ∷ rows) (head_cancel row (other ∷ rows) h)) ∙ last_state true other rows (tail_alternates false row (other ∷ rows) h) e

  -- ---- what is left of rows that alternate

  abbrev kept : Bool → Bool → List Row → List Row
  kept true true rows = []
  kept true false rows = last_of rows
  kept false true rows = first_of rows
  kept false false rows = first_of rows ++ last_of rows

  -- the facts of rows that alternate from a sign, up to whether a state comes next
  record Known (state then : Bool) (rows : List Row) : Type 0 where
    many : length (filter is_s rows) + cond state 0 1 ≡ length (filter is_c rows) + cond then 0 1
    ended : ends_with_state sign rows ≡ not then
    last : then ≡ false → last_of (filter is_s rows) ≡ last_of rows
    first : state ≡ false → first_of (filter is_c rows) ≡ first_of rows

  first_cancel : (state : Bool) (row : Row) (rows : List Row) → alternate_from state sign (row ∷ rows) ≡ true → state ≡ false → first_of (filter is_c (row ∷ rows)) ≡ first_of (row ∷ rows)
  first_cancel true row rows h e = absurd (clash e)
    where
      clash : true ≡ false → ⊥
      clash e = cc
  first_cancel false row rows h e = ap first_of (cancels_of_cancel row rows (head_cancel row rows h))

  known : (state : Bool) (row : Row) (rows : List Row) → alternate_from state sign (row ∷ rows) ≡ true → Known state (next state (row ∷ rows)) (row ∷ rows)
  known state row rows h =
      record { many = counts state (row ∷ rows) h; ended = ends state row rows h; last = last_state state row rows h; first = first_cancel state row rows h }

  -- what is left where that is known
  kept_by : (state then : Bool) (rows : List Row) → Known state then rows → collapsed sign rows ≡ kept state then rows
  kept_by true true rows k =
      let many : length (filter is_s rows) ≡ length (filter is_c rows) = let m = k.many in omega arith in
      left_even (ends_with_state sign rows) (filter is_s rows) (filter is_c rows) many
      ∙ ap (λ b. cond b (first_of (filter is_c rows) ++ last_of (filter is_s rows)) []) k.ended
  kept_by true false rows k =
      let many : length (filter is_c rows) < length (filter is_s rows) = let m = k.many in omega arith in
      left_states (ends_with_state sign rows) (filter is_s rows) (filter is_c rows) many ∙ k.last refl
  kept_by false true rows k =
      let many : length (filter is_s rows) < length (filter is_c rows) = let m = k.many in omega arith in
      left_cancels (ends_with_state sign rows) (filter is_s rows) (filter is_c rows) many ∙ k.first refl
  kept_by false false rows k =
      let many : length (filter is_s rows) ≡ length (filter is_c rows) = let m = k.many in omega arith in
      left_even (ends_with_state sign rows) (filter is_s rows) (filter is_c rows) many
      ∙ ap (λ b. cond b (first_of (filter is_c rows) ++ last_of (filter is_s rows)) []) k.ended
      ∙ ap (λ zs. zs ++ last_of (filter is_s rows)) (k.first refl) ∙ ap (λ zs. first_of rows ++ zs) (k.last refl)

  kept_is : (state : Bool) (row : Row) (rows : List Row) → alternate_from state sign (row ∷ rows) ≡ true → collapsed sign (row ∷ rows) ≡ kept state (next state (row ∷ rows)) (row ∷ rows)
  kept_is state row rows h = kept_by state (next state (row ∷ rows)) (row ∷ rows) (known state row rows h)

  -- ---- one merge

  -- the last of rows that alternate up to a state is one state
  record LastState (rows : List Row) : Type 0 where
    row : Row
    is : last_of rows ≡ row ∷ []
    state : is_s row ≡ true

  last_is_state : (state : Bool) (row : Row) (rows : List Row) → alternate_from state sign (row ∷ rows) ≡ true → next state (row ∷ rows) ≡ false → LastState (row ∷ rows)
  last_is_state true row [] h e = record { row = row; is = refl; state = head_state row [] h }
  last_is_state false row [] h e = absurd (clash e)
    where
      clash : true ≡ false → ⊥
      clash e = cc
  last_is_state state row (other ∷ rows) h e =
      let found = last_is_state (not state) other rows (tail_alternates state row (other ∷ rows) h) e in
      record { row = found.row; is = found.is; state = found.state }

  -- What is kept of a run: it alternates from and to the same signs, and where its last row is a state it ends with it.
  record Stands (state : Bool) (rows out : List Row) : Type 0 where
    alternates : alternate_from state sign out ≡ true
    then_same : next state out ≡ next state rows
    last_same : next state rows ≡ false → (front : List Row) → last_of (front ++ out) ≡ last_of rows

  one_state : (row : Row) → is_s row ≡ true → alternate_from true sign (row ∷ []) ≡ true
  one_state row h = both_is (is_s row) true h refl

  one_cancel : (row : Row) → is_c row ≡ true → alternate_from false sign (row ∷ []) ≡ true
  one_cancel row h = both_is (is_c row) true h refl

  never : (then : Bool) → then ≡ true → then ≡ false → ⊥
  never true h e = cc
  never false h e = cc

  stands_by : (state then : Bool) (row : Row) (rows : List Row) → alternate_from state sign (row ∷ rows) ≡ true → next state (row ∷ rows) ≡ then → Stands state (row ∷ rows) (kept state then (row ∷ rows))
  stands_by true true row rows h e =
      record { alternates = refl; then_same = sym e; last_same = λ no front. absurd (never (next true (row ∷ rows)) e no) }
  stands_by true false row rows h e =
      let found = last_is_state true row rows h e in
      subst (Stands true (row ∷ rows)) (sym found.is)
      (record { alternates = one_state found.row found.state; then_same = sym e; last_same = λ no front. last_after front found.row [] ∙ sym found.is })
  stands_by false true row rows h e =
      record { alternates = one_cancel row (head_cancel row rows h); then_same = sym e; last_same = λ no front. absurd (never (next false (row ∷ rows)) e no) }
  stands_by false false row rows h e =
      let found = last_is_state false row rows h e in
      subst (λ zs. Stands false (row ∷ rows) (row ∷ zs)) (sym found.is)
      (record {
        alternates = both_is (is_c row) (is_s found.row && true) (head_cancel row rows h) (one_state found.row found.state);
        then_same = sym e;
        last_same = λ no front. last_after front row (found.row ∷ []) ∙ sym found.is;
      })

  stands : (state : Bool) (rows out : List Row) → 0 < length rows → alternate_from state sign rows ≡ true → out ≡ collapsed sign rows → Stands state rows out
  stands state [] out some h is = absurd (omega arith)
  stands state (row ∷ rows) out some h is =
      subst (Stands state (row ∷ rows)) (sym (is ∙ kept_is state row rows h)) (stands_by state (next state (row ∷ rows)) row rows h refl)

  module _ (before after : List Row) (h : alternate_from true sign before ≡ true) (m : Merges (λ rows out. out ≡ collapsed sign rows) before after) where
    abbrev at : Bool
    at = next true m.front

    whole : alternate_from true sign (m.front ++ (m.rows ++ m.back)) ≡ true
    whole = subst (λ zs. alternate_from true sign zs ≡ true) m.before_is h

    rest : alternate_from at sign (m.rows ++ m.back) ≡ true
    rest = back_alternates true m.front (m.rows ++ m.back) whole

    made : Stands at m.rows m.out
    made = stands at m.rows m.out m.some (front_alternates at m.rows m.back rest) m.folded

    back_still : alternate_from (next at m.out) sign m.back ≡ true
    back_still = subst (λ b. alternate_from b sign m.back ≡ true) (sym made.then_same) (back_alternates at m.rows m.back rest)

    after_alternates : alternate_from true sign after ≡ true
    after_alternates =
        subst (λ zs. alternate_from true sign zs ≡ true) (sym m.after_is)
        (joined_alternates true m.front (m.out ++ m.back) (front_alternates true m.front (m.rows ++ m.back) whole) (joined_alternates at m.out m.back made.alternates back_still))

    after_next : next true after ≡ next true before
    after_next =
        ap (next true) m.after_is ∙ next_after true m.front (m.out ++ m.back) ∙ next_after at m.out m.back
        ∙ ap (λ b. next b m.back) made.then_same
        ∙ sym (ap (next true) m.before_is ∙ next_after true m.front (m.rows ++ m.back) ∙ next_after at m.rows m.back)

  last_behind : (front xs : List Row) → 0 < length xs → last_of (front ++ xs) ≡ last_of xs
  last_behind front [] some = absurd (omega arith)
  last_behind front (x ∷ xs) some = last_after front x xs

  last_stays : (front rows out back : List Row) (state : Bool) → 0 < length rows → Stands state rows out → next state (rows ++ back) ≡ false → last_of (front ++ (out ++ back)) ≡ last_of (front ++ (rows ++ back))
  last_stays front rows out [] state some standing e =
      ap (λ zs. last_of (front ++ zs)) (append-nil out) ∙ standing.last_same (ap (next state) (sym (append-nil rows)) ∙ e) front
      ∙ sym (ap (λ zs. last_of (front ++ zs)) (append-nil rows) ∙ last_behind front rows some)
  last_stays front rows out (b ∷ back) state some standing e =
      ap last_of (sym (append_assoc front out (b ∷ back))) ∙ last_after (front ++ out) b back
      ∙ sym (ap last_of (sym (append_assoc front rows (b ∷ back))) ∙ last_after (front ++ rows) b back)

  -- what is left of all of them, of no rows too
  all_kept : (rows : List Row) → alternate_from true sign rows ≡ true → collapsed sign rows ≡ kept true (next true rows) rows
  all_kept [] h = refl
  all_kept (row ∷ rows) h = kept_is true row rows h

  kept_same : (then : Bool) (xs ys : List Row) → (then ≡ false → last_of xs ≡ last_of ys) → kept true then xs ≡ kept true then ys
  kept_same true xs ys h = refl
  kept_same false xs ys h = h refl

  -- the last of rows that alternate up to a cancel is no state
  last_is_cancel : (state : Bool) (row : Row) (rows : List Row) → alternate_from state sign (row ∷ rows) ≡ true → next state (row ∷ rows) ≡ true → filter is_s (last_of (row ∷ rows)) ≡ []
  last_is_cancel true row [] h e = absurd (clash e)
    where
      clash : false ≡ true → ⊥
      clash e = cc
  last_is_cancel false row [] h e = ap (λ b. cond b (row ∷ []) []) (other_sign (slice_get row sign) (head_cancel row [] h))
  last_is_cancel state row (other ∷ rows) h e = last_is_cancel (not state) other rows (tail_alternates state row (other ∷ rows) h) e

  -- the last row is left where it is a state
  last_left : (then : Bool) (row : Row) (rows : List Row) → alternate_from true sign (row ∷ rows) ≡ true → next true (row ∷ rows) ≡ then → kept true then (row ∷ rows) ≡ filter is_s (last_of (row ∷ rows))
  last_left true row rows h e = sym (last_is_cancel true row rows h e)
  last_left false row rows h e =
      let found = last_is_state true row rows h e in
      found.is ∙ (sym (ap (λ b. cond b (found.row ∷ []) []) found.state) ∙ ap (filter is_s) (sym found.is))

  pub alternating_left : (rows : List Row) → alternate sign rows ≡ true → collapsed sign rows ≡ filter is_s (last_of rows)
  alternating_left [] h = refl
  alternating_left (row ∷ rows) h = kept_is true row rows h ∙ last_left (next true (row ∷ rows)) row rows h refl

  merged_same : (before after : List Row) → alternate_from true sign before ≡ true → Merges (λ rows out. out ≡ collapsed sign rows) before after → collapsed sign after ≡ collapsed sign before
  merged_same before after h m =
      all_kept after (after_alternates before after h m)
      ∙ ap (λ b. kept true b after) (after_next before after h m)
      ∙ kept_same (next true before) after before (λ e. ap last_of m.after_is
      ∙ last_stays m.front m.rows m.out m.back (next true m.front) m.some (made before after h m) (sym (ap (next true) m.before_is ∙ next_after true m.front (m.rows ++ m.back)) ∙ e)
      ∙ ap last_of (sym m.before_is))
      ∙ sym (all_kept before h)

  merged_absorbs : (before after out : List Row) → alternate sign before ≡ true → Merges (Run (engine.Collapsing sign) []) before after → Leaves (Run (engine.Collapsing sign) []) after out → Leaves (Run (engine.Collapsing sign) []) before out
  merged_absorbs before after out h m leaves =
      leaves_function (collapsed sign) (Run (engine.Collapsing sign) []) refl (λ row rows other is. is) before out
      (function_leaves (collapsed sign) (Run (engine.Collapsing sign) []) refl (λ row rows other is. is) after out leaves ∙ merged_same before after h m)

  pub collapsing_law : (rows x out : List Row) → 0 < length rows → ComesFrom (Run (engine.Collapsing sign) []) rows x → Leaves (Run (engine.Collapsing sign) []) x out → Folds (engine.Collapsing sign) [] rows out
  collapsing_law rows x out some comes leaves = by (alternate sign rows) refl
    where
      by : (b : Bool) → alternate sign rows ≡ b → FoldsAs b (Run (engine.Collapsing sign) []) rows out
      by true e = law_of_merges (Run (engine.Collapsing sign) []) (λ rows. alternate sign rows ≡ true) after_alternates merged_absorbs rows x out some e comes leaves
      by false e = record { merged = x; comes = comes; leaves = leaves }
