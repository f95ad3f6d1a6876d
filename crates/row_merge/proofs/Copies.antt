-- A merge by the rule that leaves each row: rows of one part are copied at once, and the part is read on.
use Rattle.std.proofs.Common.{◌≡◌, inl, inr, ℕ, ◌+◌, ◌-◌, ◌<◌, ◌≤◌, List, [], ◌∷◌, ◌++◌, length, map, take, drop, set, get_or, length-drop, refl, sym, ap, ap₂, ◌∙◌, subst, arith, Some, slice_get}
use Rattle.std.specs.List.{All, AllZip, range_with_len}
use Rattle.std.specs.List.Sorted.{IsSorted}
use Rattle.std.proofs.lemmas.List.{ext_get_or, get_or-drop, get_or-map, get_or-take, length-map, length-take}
use Rattle.std.proofs.lemmas.List.FromFn.{get_or-range_with_len, length-range_with_len}
use Rattle.std.proofs.lemmas.List.Elements.{All-set, All-weaker}
use Rattle.std.proofs.lemmas.Option.{slice_get-get_or, slice_get_within}
use Rattle.mt_base.specs.declared.partition.Partition.{Partition}
use Rattle.mt_values.specs.declared.engine.Engine.TheVariants as engine
use Rattle.mt_values.specs.Grid.{picked}
use Rattle.mt_values.specs.Order.{key_cmp}
use Rattle.mt_values.specs.Schemas.{column_types}
use Rattle.mt_values.specs.Tables.{sorting_columns}
use Rattle.mt_values.specs.Values.{Row}
use Rattle.mt_values.proofs.Grids.{picked_within}
use Rattle.part_history.specs.mt_model.Folding.{Leaves}
use Rattle.part_history.specs.mt_model.Rules.{Run}
use Rattle.part_reader.specs.part_writer.Growing.{Growing, HasRows}
use Rattle.part_reader.specs.Readings.{Reading}
use Rattle.row_merge.specs.declared.heads.Cursor.{Cursor}
use Rattle.row_merge.specs.declared.held.Held.{Held}
use Rattle.row_merge.specs.declared.streams.Inputs.{Inputs}
use Rattle.row_merge.specs.declared.streams.Stream.{Stream}
use Rattle.row_merge.specs.declared.stretches.Stretch.{Stretch}
use Rattle.row_merge.specs.Copies.{IsCopying, IsReadied, TakesSome}
use Rattle.row_merge.specs.Heads.{AreOfTypes, ahead_of}
use Rattle.row_merge.specs.Held.{IsHeldWithin, took_some}
use Rattle.row_merge.specs.Merged.{ArePartRows}
use Rattle.row_merge.specs.Merging.{AreRanked, AreReady, AreTaken, TakesRows, ahead_at, joined}
use Rattle.row_merge.specs.Streams.{HasMerged, IsLeft, IsReaderOf, IsStream, count_of_rests, rests_of, rows_to_come}
use Rattle.row_merge.specs.Stretches.{TakesStretch, rows_between}
use Rattle.row_merge.proofs.Filling.{AreReadyBut, ready_again, ready_refilled}
use Rattle.row_merge.proofs.Leading.{ahead_sorted, rows_of_all_taken, rows_ready_but}
use Rattle.row_merge.proofs.Nexts.{none_gives, refilled_left}
use Rattle.row_merge.proofs.Runs.{are_copied}
use Rattle.row_merge.proofs.Taking.{all_merged, begun}
use Rattle.row_merge.proofs.Totals.{total, total_set}

-- ---- the rule leaves each row

pub stay_is : (rows out : List Row) → Leaves (Run engine.Plain []) rows out → out ≡ rows
stay_is [] out h = h
stay_is (row ∷ rows) out h = h

pub stays_all : (rows : List Row) → Leaves (Run engine.Plain []) rows rows
stays_all [] = refl
stays_all (row ∷ rows) = refl

-- ---- a part is read on

-- an input has rows in memory or none left, where this was so of all others; the rows of each stay as they were
pub readied : (input : ℕ) (ahead rests more after : List (List Row)) → AreReadyBut input ahead rests → IsReadied input ahead rests more after → AreReady more after × (joined more after ≡ joined ahead rests)
readied input ahead rests more after but (inl h) = (
  subst (λ xs. AreReady xs after) (sym h.ahead_is) (subst (AreReady ahead) (sym h.rests_are)
      (ready_again input ahead rests but (λ none. absurd (let some = h.some in omega (arith, some, ap length none))))),
  ap₂ joined h.ahead_is h.rests_are,
)
readied input ahead rests more after but (inr h) =
    let f = h.refilled in (
      subst (λ xs. AreReady xs after) (sym f.ahead_is) (subst (AreReady (set ahead input f.given)) (sym f.rests_are) (ready_refilled input ahead rests f.given f.rest but f.none)),
      refilled_left ahead rests more after input h.none f,
    )

-- ---- what is in memory then

inside : {X : Type 0} (x y : X) → Some x ≡ Some y → x ≡ y
inside x y e = cc

-- what holds of all cursors holds of one
pub cursor_at : (P : Cursor → Type 0) (cursors : List Cursor) (n : ℕ) (c : Cursor) → slice_get cursors n ≡ Some c → All P cursors → P c
cursor_at P cursors n c there all =
    let below : n < length cursors = slice_get_within cursors n c there in
    subst P (inside (get_or cursors n c) c (sym (slice_get-get_or cursors n c below) ∙ there)) (all n c below)

-- a cursor that is read is the one that is there
pub read_cursor : (cursors : List Cursor) (n : ℕ) (c x : Cursor) → slice_get cursors n ≡ Some c → x ≡ get_or cursors n x → x ≡ c
read_cursor cursors n c x there is =
    let below : n < length cursors = slice_get_within cursors n c there in
    is ∙ inside (get_or cursors n x) c (sym (slice_get-get_or cursors n x below) ∙ there)

took_some_within : (inputs size rows : ℕ) (h : Held) → IsHeldWithin inputs size h → IsHeldWithin inputs size (took_some rows h)
took_some_within inputs size rows h w = record { read = w.read; made = w.made; given = w.given }

module _ {F : Type 0} (i : Inputs F) (old new : Stream F) (s : Stretch) (t : TakesStretch i.places.now old.cursors.items new.cursors.items s) (long : length new.cursors.items ≡ length old.cursors.items) where
  abbrev before : List (List Row)
  before = ahead_of old.cursors.items

  abbrev block : List Row
  block = t.cursor.block.rows

  input_within : s.input < length before
  input_within = omega (arith, slice_get_within new.cursors.items s.input t.cursor t.there, long, length-map old.cursors.items (λ (x : Cursor). drop x.at x.block.rows))

  -- so many rows fewer
  fewer_in : total (ahead_of new.cursors.items) + (s.to - s.from) ≡ total before
  fewer_in =
      let some = t.some in
      let within = t.within in
      omega (arith, some, within, ap total t.ahead_is, total_set before s.input (drop s.to block) input_within, ap length t.own_is, length-drop s.from block, length-drop s.to block)

  pub taken_some_fewer : new.readers.items ≡ old.readers.items → rows_to_come new < rows_to_come old
  taken_some_fewer readers = let some = t.some in omega (arith, some, fewer_in, ap count_of_rests readers)

  pub took_some_stream : IsStream i old → new.readers.items ≡ old.readers.items → new.held ≡ took_some (s.to - s.from) old.held → AreOfTypes (column_types i.schema.now) new.cursors.items
      → AreRanked i.places.now (ahead_of new.cursors.items) new.ranked.items → IsStream i new
  took_some_stream st readers held types ranked = record {
    inputs = st.inputs;
    readers = subst (AllZip (IsReaderOf i.schema.now) i.parts.now) (sym readers) st.readers;
    count = long ∙ st.count;
    types = types;
    ranked = ranked;
    none_made = ap (λ (h : Held). h.made) held ∙ st.none_made;
    counts = λ shaped.
        let now = st.counts shaped in
        record {
          read = subst (λ (h : Held). h.read ≤ total (ahead_of new.cursors.items)) (sym held) (let read = now.read in omega (arith, fewer_in, read));
          exact = λ small. subst (λ (h : Held). h.read ≡ total (ahead_of new.cursors.items)) (sym held) (let all = now.exact small in omega (arith, fewer_in, all));
          reached = subst (λ (h : Held). h.read ≤ h.most_read) (sym held) (let most = now.reached in omega (arith, most));
          few = subst (All (λ (rows : List Row). length rows ≤ i.schema.now.granularity)) (sym t.ahead_is)
              (All-set (λ (rows : List Row). length rows ≤ i.schema.now.granularity) before s.input (drop s.to block) (few now.few) now.few);
          within = subst (IsHeldWithin (length i.parts.now) i.schema.now.granularity) (sym held) (took_some_within (length i.parts.now) i.schema.now.granularity (s.to - s.from) old.held now.within);
        };
  }
    where
      few : All (λ (rows : List Row). length rows ≤ i.schema.now.granularity) before → length (drop s.to block) ≤ i.schema.now.granularity
      few all =
          let own : length (ahead_at before s.input) ≤ i.schema.now.granularity = all s.input [] input_within in
          let some = t.some in
          omega (arith, own, some, ap length t.own_is, length-drop s.from block, length-drop s.to block)

  pub takes_some : IsStream i old → new.readers.items ≡ old.readers.items → AreOfTypes (column_types i.schema.now) new.cursors.items → TakesSome i old new s
  takes_some st readers types = record {
    cursor = t.cursor;
    there = t.there;
    part = omega (arith, slice_get_within new.cursors.items s.input t.cursor t.there, long, st.count);
    some = t.some;
    within = t.within;
    types = cursor_at (λ (c : Cursor). c.block.types ≡ column_types i.schema.now) new.cursors.items s.input t.cursor t.there types;
    next = t.next;
    fewer = taken_some_fewer readers;
  }

-- ---- rows are copied, and the part is read on

module _ {F : Type 0} (i : Inputs F) (rows : List (List Row)) (old mid new : Stream F) (s : Stretch) (t : TakesSome i old mid s) (readers : mid.readers.items ≡ old.readers.items)
    (r : IsReadied s.input (ahead_of mid.cursors.items) (rests_of mid.readers.items rows) (ahead_of new.cursors.items) (rests_of new.readers.items rows)) where
  abbrev ahead : List (List Row)
  ahead = ahead_of old.cursors.items

  abbrev rests : List (List Row)
  rests = rests_of old.readers.items rows

  abbrev some : List Row
  some = rows_between s.from s.to t.cursor.block.rows

  own : IsReadied s.input (ahead_of mid.cursors.items) rests (ahead_of new.cursors.items) (rests_of new.readers.items rows)
  own = subst (λ (rs : List (Reading F)). IsReadied s.input (ahead_of mid.cursors.items) (rests_of rs rows) (ahead_of new.cursors.items) (rests_of new.readers.items rows)) readers r

  -- the rows were copied to the part that is written, and the part was read on
  pub copied_on : (out more : Growing) (c : IsCopying i.places.now rows old out) → HasRows more (c.done ++ some) → IsCopying i.places.now rows new more
  copied_on out more c has = record {
    done = c.done ++ some;
    left = joined (ahead_of mid.cursors.items) rests;
    has = has;
    merging = are_copied i.places.now (Run engine.Plain []) stay_is stays_all rows c.left (joined (ahead_of mid.cursors.items) rests) c.done some taken c.merging;
    left_is = record { left_is = sym after.1; ready = after.0 };
  }
    where
      sorted : All (IsSorted (key_cmp i.places.now)) (joined ahead rests)
      sorted = subst (All (IsSorted (key_cmp i.places.now))) c.left_is.left_is c.merging.sorted

      first : TakesRows i.places.now ahead s.input some (ahead_of mid.cursors.items)
      first = t.next (ahead_sorted i.places.now ahead rests s.input c.left_is.ready sorted)

      taken : AreTaken i.places.now c.left some (joined (ahead_of mid.cursors.items) rests)
      taken = subst (λ xs. AreTaken i.places.now xs some (joined (ahead_of mid.cursors.items) rests)) (sym c.left_is.left_is)
          (rows_of_all_taken i.places.now some ahead rests (ahead_of mid.cursors.items) s.input first c.left_is.ready sorted)

      after : AreReady (ahead_of new.cursors.items) (rests_of new.readers.items rows) × (joined (ahead_of new.cursors.items) (rests_of new.readers.items rows) ≡ joined (ahead_of mid.cursors.items) rests)
      after = readied s.input (ahead_of mid.cursors.items) rests (ahead_of new.cursors.items) (rests_of new.readers.items rows) (rows_ready_but i.places.now ahead (ahead_of mid.cursors.items) rests s.input some first c.left_is.ready) own

-- no row is in memory: all were copied
pub copied_all : {F : Type 0} (places : List ℕ) (rows : List (List Row)) (old : Stream F) (out : Growing) (c : IsCopying places rows old out) → All (λ (own : List Row). own ≡ []) (ahead_of old.cursors.items) → HasMerged places (Run engine.Plain []) rows out
copied_all places rows old out c none = record {
  done = c.done;
  has = c.has;
  folds = all_merged places (Run engine.Plain []) rows c.done c.left c.merging (none_gives old rows c.left c.left_is none);
}

-- no row was taken yet
pub copying_begins : {F : Type 0} (i : Inputs F) (rows : List (List Row)) (partition : Partition) (s : Stream F) (out : Growing) → i.places.now ≡ sorting_columns i.schema.now → IsLeft s rows rows
    → All (ArePartRows i.schema.now partition) rows → HasRows out [] → IsCopying i.places.now rows s out
copying_begins i rows partition s out places left parts has = record {
  done = [];
  left = rows;
  has = has;
  merging = begun i.places.now (Run engine.Plain []) rows
      (subst (λ ps. All (IsSorted (key_cmp ps)) rows) (sym places) (All-weaker (ArePartRows i.schema.now partition) (IsSorted (key_cmp (sorting_columns i.schema.now))) (λ own part. part.rising) rows parts));
  left_is = left;
}

-- ---- rows from a place up to another

module _ (rows : List Row) (from to n : ℕ) (rising : from ≤ to) (within : to ≤ length rows) (long : to ≤ n) where
  abbrev between : List ℕ
  between = take (to - from) (drop from (range_with_len 0 n))

  many : length between ≡ to - from
  many = omega (arith, rising, long, length-take (to - from) (drop from (range_with_len 0 n)), length-drop from (range_with_len 0 n), length-range_with_len 0 n)

  place_at : (k d : ℕ) → k < to - from → get_or between k d ≡ from + k
  place_at k d low =
      let plain : 0 + (from + k) ≡ from + k = omega arith in
      get_or-take (to - from) (drop from (range_with_len 0 n)) k d low ∙ get_or-drop from (range_with_len 0 n) k d ∙ get_or-range_with_len 0 n (from + k) d (omega (arith, low, rising, long)) ∙ plain

  -- the rows at these places are they
  pub between_within : All (λ place. place < length rows) between
  between_within k d below =
      let low : k < to - from = omega (arith, below, many) in
      omega (arith, place_at k d low, low, rising, within)

  pub picked_between : picked rows between ≡ rows_between from to rows
  picked_between =
      picked_within rows between between_within
      ∙ ext_get_or [] (map at between) (rows_between from to rows) same_length
      (λ k low.
      let short : k < to - from = omega (arith, low, length-map between at, many) in
      get_or-map at between k 0 [] (omega (arith, short, many)) ∙ ap at (place_at k 0 short)
      ∙ sym (get_or-take (to - from) (drop from rows) k [] short ∙ get_or-drop from rows k []))
    where
      at : ℕ → Row
      at p = get_or rows p []

      same_length : length (map at between) ≡ length (rows_between from to rows)
      same_length = omega (arith, length-map between at, many, rising, within, length-take (to - from) (drop from rows), length-drop from rows)
