-- Rows that are taken while those in memory tell what comes after them.
use Rattle.std.proofs.Common.{◌≡◌, ℕ, ◌+◌, ◌-◌, ◌<◌, ◌^◌, Bool, true, false, not, List, [], ◌∷◌, ◌++◌, length, length-append, length-drop, take, drop, set, get_or, is_some, refl, sym, ap, ◌∙◌, subst, arith, Option, None, Some, slice_get}
use Rattle.std.specs.List.{All}
use Rattle.std.specs.List.Sorted.{IsSorted}
use Rattle.std.specs.Ordering.{is_eq, is_ne}
use Rattle.std.proofs.lemmas.List.{drop_more, get_or-set_same, get_or_push, length-map, length-set}
use Rattle.std.proofs.lemmas.List.Elements.{All-head, All-nil, All-weaker}
use Rattle.std.proofs.lemmas.Option.{slice_get-get_or, slice_get_within}
use Rattle.mt_values.specs.Grid.{AreRowsOf}
use Rattle.mt_values.specs.Order.{key_cmp, key_of}
use Rattle.mt_values.specs.Schemas.{column_types}
use Rattle.mt_values.specs.Tables.{has_sign}
use Rattle.mt_values.specs.Values.{Row, types_of}
use Rattle.mt_values.specs.declared.value.ColType.{ColType}
use Rattle.mt_values.specs.declared.value.Value.{Value}
use Rattle.part_history.specs.mt_model.Folding.{Leaves}
use Rattle.part_reader.specs.part_writer.Growing.{Growing, HasRows}
use Rattle.rule_replacing.specs.rule_law.TableRows.{IsTableRow}
use Rattle.row_merge.specs.declared.course.Current.{Current}
use Rattle.row_merge.specs.declared.heads.Cursor.{Cursor}
use Rattle.row_merge.specs.declared.held.Held.{Held}
use Rattle.row_merge.specs.declared.streams.Inputs.{Inputs}
use Rattle.row_merge.specs.declared.streams.Stream.{Stream}
use Rattle.row_merge.specs.declared.stretches.Place.{Place}
use Rattle.row_merge.specs.Course.{HoldsKey, HoldsRows}
use Rattle.row_merge.specs.Fates.{GivesWay, IsAlone}
use Rattle.row_merge.specs.Heads.{AreOfTypes, ahead_of}
use Rattle.row_merge.specs.Merging.{AreRanked, IsTaken, Merging, TakesFirst, ahead_at, joined}
use Rattle.row_merge.specs.Passing.{IsGoing, IsLeading, TakesAhead}
use Rattle.row_merge.specs.Streams.{Ends, HandsOver, HasPending, IsLeft, IsMerging, KeepsHeld, TakesRow, rests_of}
use Rattle.row_merge.specs.Stretches.{HasAnother, TakesPlace, rows_between}
use Rattle.row_merge.proofs.Ahead.{taken_of_all}
use Rattle.row_merge.proofs.Copies.{cursor_at}
use Rattle.row_merge.proofs.Courses.{is_same, other_way}
use Rattle.row_merge.proofs.Cursors.{ahead_is, ahead_moved, at_within, next_is_ahead, takes_first}
use Rattle.row_merge.proofs.Handing.{own_left, own_taken}
use Rattle.row_merge.proofs.Keys.{key_total}
use Rattle.row_merge.proofs.Leading.{last_split}
use Rattle.row_merge.proofs.Lone.{goes_alone, is_left_out}
use Rattle.row_merge.proofs.Nexts.{takes_row, taken_fewer}
use Rattle.row_merge.proofs.Ranking.{last_is_next}
use Rattle.row_merge.proofs.Sorted.{all_halves}
use Rattle.row_merge.proofs.Taking.{ended, next_after, taken}

-- ---- the last of a list

inside : {X : Type 0} (x y : X) → Some x ≡ Some y → x ≡ y
inside x y e = cc

same_last : (xs ys : List ℕ) (x y : ℕ) → xs ++ x ∷ [] ≡ ys ++ y ∷ [] → x ≡ y
same_last xs ys x y e =
    let long : length ys ≡ length xs = omega (arith, ap length e, length-append xs (x ∷ []), length-append ys (y ∷ [])) in
    sym (get_or_push xs x 0 (length xs) refl) ∙ ap (λ zs. get_or zs (length xs) 0) e ∙ get_or_push ys y 0 (length xs) long

-- what holds of all of a list holds of its last
pub last_has : (P : ℕ → Type 0) (xs : List ℕ) (x : ℕ) → slice_get xs (length xs - 1) ≡ Some x → All P xs → P x
last_has P xs x there all = All-head P x [] (all_halves P (take (length xs - 1) xs) (x ∷ []) (subst (All P) (last_split xs x there) all)).1

pub none_of : {X : Type 0} (o : Option X) (b : Bool) → is_some o ≡ not b → b ≡ true → o ≡ None
none_of None b e is = refl
none_of (Some x) b e is = absurd (clash (e ∙ ap not is))
  where
    clash : true ≡ false → ⊥
    clash h = cc

-- the first row of the current key has the types of the columns
pub first_typed : {S : Type 0} (holds : S → List Row → Type 0) (takes : Row → Type 0) (types : List ColType) (current : Option (Current S)) (key : Current S) → current ≡ Some key → HasPending holds takes types current → types_of key.first ≡ types
first_typed holds takes types current key is p =
    let h : HoldsRows holds key p.pending = subst (λ x. HoldsKey holds x p.pending) is p.is.held in
    All-head (λ r. types_of r ≡ types) key.first h.others (subst (All (λ r. types_of r ≡ types)) h.pending_is p.is.typed)

-- rows were counted, and then others
pub keeps_then : (a b c : Held) → KeepsHeld a b → KeepsHeld b c → KeepsHeld a c
keeps_then a b c first second = record {
  read = second.read ∙ first.read;
  most = omega (arith, first.most, second.most);
  given = omega (arith, first.given, second.given);
  within = λ inputs size w. second.within inputs size (first.within inputs size w);
}

-- one row from a place on
pub one_between : (rows : List Row) (at : ℕ) → at < length rows → rows_between at (at + 1) rows ≡ get_or rows at [] ∷ []
one_between rows at below =
    let one : (at + 1) - at ≡ 1 = omega arith in
    ap (λ n. take n (drop at rows)) one ∙ ap (take 1) (drop_more rows at [] below)

-- ---- the next row is taken, and stays in its block

module _ (places : List ℕ) (cursors : List Cursor) (others : List ℕ) (input : ℕ) (r : AreRanked places (ahead_of cursors) (others ++ input ∷ [])) (c : Cursor) (below : input < length cursors)
    (is : c ≡ get_or cursors input c) (few : c.at + 1 < 2 ^ 32) (typed : AreRowsOf c.block.types c.block.rows) (two : 1 < length (ahead_at (ahead_of cursors) input)) where
  abbrev moved : Cursor
  moved = record c { at = c.at + 1 }

  abbrev new : List Cursor
  new = set cursors input moved

  first_within : c.at < length c.block.rows
  first_within = at_within cursors input c below is (omega (arith, two))

  place_there : slice_get new input ≡ Some moved
  place_there = slice_get-get_or new input moved (omega (arith, below, length-set cursors input moved)) ∙ ap Some (get_or-set_same cursors input moved moved below)

  more_there : 0 < length (ahead_at (ahead_of new) input)
  more_there =
      let inner : input < length (ahead_of cursors) = omega (arith, below, length-map cursors (λ (x : Cursor). drop x.at x.block.rows)) in
      let own : ahead_at (ahead_of new) input ≡ drop (c.at + 1) c.block.rows =
      ap (λ xs. ahead_at xs input) (ahead_moved cursors input c below is new refl) ∙ get_or-set_same (ahead_of cursors) input (drop (c.at + 1) c.block.rows) [] inner in
      omega (arith, two, ap length own, ap length (ahead_is cursors input c below is), length-drop c.at c.block.rows, length-drop (c.at + 1) c.block.rows)

  at_place : TakesPlace places cursors new (record { input = input; at = c.at })
  at_place = record {
    cursor = moved;
    there = place_there;
    within = first_within;
    few = few;
    typed = typed c.at [] first_within;
    first = takes_first cursors input c below is new refl places others (get_or c.block.rows c.at []) r (slice_get-get_or c.block.rows c.at [] first_within);
    more = more_there;
  }

-- the input that is ranked last has another row after the first
pub two_ahead : (ahead : List (List Row)) (ranked others : List ℕ) (input : ℕ) → ranked ≡ others ++ input ∷ [] → HasAnother ahead ranked → 1 < length (ahead_at ahead input)
two_ahead ahead ranked others input is a = subst (λ x. 1 < length (ahead_at ahead x)) (same_last a.others others a.input input (sym a.ranked_is ∙ is)) a.two

pub place_taken : (places : List ℕ) (cursors : List Cursor) (others : List ℕ) (input : ℕ) (c moved : Cursor) → AreRanked places (ahead_of cursors) (others ++ input ∷ []) → input < length cursors → c ≡ get_or cursors input c → c.at + 1 < 2 ^ 32
    → AreRowsOf c.block.types c.block.rows → 1 < length (ahead_at (ahead_of cursors) input) → moved ≡ record c { at = c.at + 1 } → TakesPlace places cursors (set cursors input moved) (record { input = input; at = c.at })
place_taken places cursors others input c after r below is few typed two after_is =
    subst (λ (m : Cursor). TakesPlace places cursors (set cursors input m) (record { input = input; at = c.at })) (sym after_is) (at_place places cursors others input r c below is few typed two)

-- ---- streams

pub takes_ahead : {F : Type 0} (i : Inputs F) (old new : Stream F) (p : Place) → TakesPlace i.places.now old.cursors.items new.cursors.items p → new.readers.items ≡ old.readers.items
    → AreOfTypes (column_types i.schema.now) new.cursors.items → TakesAhead i old new p
takes_ahead i old new p t readers types =
    let own = cursor_at (λ (c : Cursor). c.block.types ≡ column_types i.schema.now) new.cursors.items p.input t.cursor t.there types in
    record {
      cursor = t.cursor;
      there = t.there;
      within = t.within;
      few = t.few;
      types = own;
      taken = record { first = t.first; typed = t.typed ∙ own };
      more = t.more;
      fewer = taken_fewer i old new (p.input, get_or t.cursor.block.rows p.at []) (record { first = t.first; typed = t.typed ∙ own }) readers;
    }

-- the input with the next row of all has it, where it is not known to be taken
pub next_taken : {F : Type 0} (places : List ℕ) (s : Stream F) (rows left : List (List Row)) (c : Cursor) → IsLeft s rows left → All (IsSorted (key_cmp places)) left → AreRanked places (ahead_of s.cursors.items) s.ranked.items
    → IsLeading s.cursors.items s.ranked.items c → (after : List (List Row)) × IsTaken places left (get_or c.block.rows c.at []) after
next_taken places s rows left c at sorted r l =
    (joined rest_ahead rests, subst (λ xs. IsTaken places xs row (joined rest_ahead rests)) (sym at.left_is) (taken_of_all places row ahead rests rest_ahead l.input first at.ready (subst (All (IsSorted (key_cmp places))) at.left_is sorted)))
  where
    ahead : List (List Row)
    ahead = ahead_of s.cursors.items

    rests : List (List Row)
    rests = rests_of s.readers.items rows

    row : Row
    row = get_or c.block.rows c.at []

    rest_ahead : List (List Row)
    rest_ahead = set ahead l.input (drop (c.at + 1) c.block.rows)

    below : l.input < length s.cursors.items
    below = slice_get_within s.cursors.items l.input c l.there

    there : c ≡ get_or s.cursors.items l.input c
    there = inside c (get_or s.cursors.items l.input c) (sym l.there ∙ slice_get-get_or s.cursors.items l.input c below)

    first : TakesFirst places ahead l.input row rest_ahead
    first =
        last_is_next places ahead l.others l.input row (drop (c.at + 1) c.block.rows) (subst (AreRanked places ahead) l.ranked_is r)
        (next_is_ahead s.cursors.items l.input c below there row (slice_get-get_or c.block.rows c.at [] l.some))

-- where an input has rows, some input is ranked
pub some_ranked : (places : List ℕ) (ahead : List (List Row)) (ranked : List ℕ) (input : ℕ) → AreRanked places ahead ranked → 0 < length (ahead_at ahead input) → 0 < length ranked
some_ranked places ahead ranked input r some = let found = r.all input some in omega (arith, found.1)

-- ---- a merge that is on its way, and its next row

turned : (places : List ℕ) (row next : Row) → is_ne (key_cmp places row next) ≡ true → is_eq (key_cmp places next row) ≡ false
turned places row next other = ap is_eq ((key_total places).antisymm next row) ∙ other_way (key_cmp places row next) other

module _ {F S : Type 0} (run : List Row → List Row → Type 0) (holds : S → List Row → Type 0) (takes : Row → Type 0) (i : Inputs F) (rows : List (List Row)) where
  abbrev Going : List (List Row) → Option (Current S) → Growing → Type 0
  Going left current out = IsGoing i.places.now run holds takes (column_types i.schema.now) rows left current out

  pub going_of : (s : Stream F) (current : Option (Current S)) (out : Growing) (m : IsMerging run holds takes i rows s current out) → Going m.left current out
  going_of s current out m = record { done = m.done; has = m.has; over = m.over }

  module _ (old mid : Stream F) (current : Option (Current S)) (out : Growing) (p : Place) (t : TakesAhead i old mid p) (readers : mid.readers.items ≡ old.readers.items) (m : IsMerging run holds takes i rows old current out) where
    abbrev row : Row
    row = get_or t.cursor.block.rows p.at []

    pub row_is_taken : TakesRow i.places.now rows m.left row mid
    row_is_taken = takes_row i.places.now old mid rows m.left p.input row m.left_is t.taken.first m.over.merging.sorted readers t.more

    pub taken_row : IsTableRow i.schema.now row
    taken_row = own_taken (IsTableRow i.schema.now) i.places.now m.left row_is_taken.after row row_is_taken.taken m.own

    -- its key goes on, or has ended
    pub goes_on : (after : Option (Current S)) (more : Growing) → Going row_is_taken.after after more → IsMerging run holds takes i rows mid after more
    goes_on after more g = record {
      done = g.done;
      left = row_is_taken.after;
      has = g.has;
      over = g.over;
      left_is = row_is_taken.left_is;
      own = own_left (IsTableRow i.schema.now) i.places.now m.left row_is_taken.after row row_is_taken.taken m.own;
    }

  -- no key is current
  module _ (old mid : Stream F) (out : Growing) (p : Place) (t : TakesAhead i old mid p) (readers : mid.readers.items ≡ old.readers.items) (m : IsMerging run holds takes i rows old None out)
      (c : Cursor) (ranked : AreRanked i.places.now (ahead_of mid.cursors.items) mid.ranked.items) (l : IsLeading mid.cursors.items mid.ranked.items c) where
    abbrev own : Row
    own = get_or t.cursor.block.rows p.at []

    abbrev next : Row
    next = get_or c.block.rows c.at []

    abbrev took : TakesRow i.places.now rows m.left own mid
    took = row_is_taken old mid None out p t readers m

    before : Merging i.places.now run rows m.done [] m.left
    before = subst (λ (xs : List Row). Merging i.places.now run rows m.done xs m.left) m.over.is.held m.over.merging

    with_row : Merging i.places.now run rows m.done (own ∷ []) took.after
    with_row = taken i.places.now run rows m.done [] m.left took.after own before took.taken (All-nil (λ a. key_of i.places.now a ≡ key_of i.places.now own))

    coming : (after : List (List Row)) × IsTaken i.places.now took.after next after
    coming = next_taken i.places.now mid rows took.after c took.left_is with_row.sorted ranked l

    none_holds : (done : List Row) → Merging i.places.now run rows done [] took.after → HandsOver i.places.now run holds takes (column_types i.schema.now) rows done took.after None
    none_holds done merging = record {
      pending = [];
      is = record { held = refl; taken = All-nil takes; typed = All-nil (λ r. types_of r ≡ column_types i.schema.now) };
      merging = merging;
    }

    -- the row goes out as it is
    pub goes_out : (first : Bool) (more : Growing) → ((r : Row) → types_of r ≡ column_types i.schema.now → has_sign i.schema.now r ≡ true → takes r) → IsAlone i.places.now takes run first own next
        → HasRows more (m.done ++ own ∷ []) → IsMerging run holds takes i rows mid None more
    goes_out first more all a has =
        let table = taken_row old mid None out p t readers m in
        goes_on old mid None out p t readers m None more (record {
          done = m.done ++ own ∷ [];
          has = has;
          over = none_holds (m.done ++ own ∷ [])
              (goes_alone i.places.now run rows m.done m.left took.after own before took.taken
              (next_after i.places.now run rows m.done [] own took.after coming.0 next with_row coming.1 (turned i.places.now own next a.other))
              (a.stays table.fits (all own t.taken.typed table.signed)));
        })

    -- nothing is left of it
    pub stays_out : (first : Bool) → GivesWay i.places.now run first own next → IsMerging run holds takes i rows mid None out
    stays_out first g =
        goes_on old mid None out p t readers m None out (record {
          done = m.done;
          has = m.has;
          over = none_holds m.done
              (is_left_out i.places.now run rows m.done m.left took.after coming.0 own next before took.taken coming.1 (is_same (key_cmp i.places.now own next) g.same) g.leaves);
        })

-- ---- the current key ends

module _ {S : Type 0} (places : List ℕ) (run : List Row → List Row → Type 0) (holds : S → List Row → Type 0) (takes : Row → Type 0) (types : List ColType)
    (keeps : (key : List Value) (rows kept : List Row) → 0 < length rows → All takes rows → All (λ r. key_of places r ≡ key) rows → run rows kept → All (λ r. key_of places r ≡ key) kept)
    (inputs left after : List (List Row)) (c : Current S) (out more : Growing) (next : Row) (g : IsGoing places run holds takes types inputs left (Some c) out) (t : IsTaken places left next after)
    (other : is_ne (key_cmp places c.first next) ≡ true) (e : Ends run g.done g.over.pending more) where
  key_rows : HoldsRows holds c g.over.pending
  key_rows = g.over.is.held

  key_before : Merging places run inputs g.done (c.first ∷ key_rows.others) left
  key_before = subst (λ xs. Merging places run inputs g.done xs left) key_rows.pending_is g.over.merging

  key_ran : run (c.first ∷ key_rows.others) e.kept
  key_ran = subst (λ xs. Leaves run xs e.kept) key_rows.pending_is e.leaves

  key_own : All (λ r. key_of places r ≡ key_of places c.first) (c.first ∷ key_rows.others)
  key_own =
      All-weaker (λ r. key_of places r ≡ key_before.key) (λ r. key_of places r ≡ key_of places c.first) (λ r is. is ∙ sym (All-head (λ a. key_of places a ≡ key_before.key) c.first key_rows.others key_before.one_key))
      (c.first ∷ key_rows.others) key_before.one_key

  pub key_closed : IsGoing places run holds takes types inputs left None more
  key_closed = record {
    done = g.done ++ e.kept;
    has = e.has;
    over = record {
      pending = [];
      is = record { held = refl; taken = All-nil takes; typed = All-nil (λ r. types_of r ≡ types) };
      merging = ended places run inputs g.done key_rows.others e.kept c.first left key_before key_ran
          (keeps (key_of places c.first) (c.first ∷ key_rows.others) e.kept (omega arith) (subst (All takes) key_rows.pending_is g.over.is.taken) key_own key_ran)
          (next_after places run inputs g.done key_rows.others c.first left after next key_before t (turned places c.first next other));
    };
  }
