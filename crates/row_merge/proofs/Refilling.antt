-- A part of which no row is in memory is read on.
use Rattle.std.proofs.Common.{◌≡◌, ℕ, ◌+◌, ◌*◌, ◌<◌, ◌≤◌, List, [], ◌++◌, Option, length, drop, set, get_or, slice_get, min, ◌^◌, Some, refl, sym, ap, ◌∙◌, subst, arith}
use Rattle.std.specs.List.{All, AllZip}
use Rattle.std.proofs.lemmas.List.{get_or-set_other, get_or-set_same, length-map, set-get_or}
use Rattle.std.proofs.lemmas.Option.{slice_get-get_or, slice_get_read}
use Rattle.std.proofs.lemmas.List.Elements.{All-get_or, All-same, All-set}
use Rattle.mt_values.specs.Grid.{Grid}
use Rattle.mt_values.specs.Schemas.{column_types}
use Rattle.mt_values.specs.Values.{Row}
use Rattle.mt_outside.specs.Files.{Files}
use Rattle.part_reader.specs.declared.reading.Part.{Part}
use Rattle.part_reader.specs.declared.reading.PartFault.{PartFault}
use Rattle.part_reader.specs.declared.reading.PartFault.TheVariants.{NoMemory}
use Rattle.part_reader.specs.Faults.{ExplainsAt}
use Rattle.part_reader.specs.Granules.{column_in}
use Rattle.part_reader.specs.Parts.{PartHolds}
use Rattle.part_reader.specs.Readings.{ExplainsLeft, GivesGranule, Reading, count_left, rows_left}
use Rattle.part_reader.proofs.LeftGranules.{count_parted}
use Rattle.part_set.specs.declared.kept.Kept.{Kept}
use Rattle.row_merge.specs.declared.heads.Cursor.{Cursor}
use Rattle.row_merge.specs.declared.held.Held.{Held}
use Rattle.row_merge.specs.declared.streams.Inputs.{Inputs}
use Rattle.row_merge.specs.declared.streams.Stream.{Stream}
use Rattle.row_merge.specs.Heads.{AreOfTypes, ahead_of}
use Rattle.row_merge.specs.Held.{IsHeldWithin, read_more}
use Rattle.row_merge.specs.Merged.{rows_of_all}
use Rattle.row_merge.specs.MergedParts.{HasShape, PartsHold}
use Rattle.row_merge.specs.Merging.{AreRanked, ahead_at}
use Rattle.row_merge.specs.Streams.{AreLater, AreShaped, ExplainsStream, IsReaderOf, IsRefilled, IsStream, IsUnread, IsUnreadAt, ReadsPart, count_of_rests, rests_of, rows_to_come}
use Rattle.row_merge.proofs.Explaining.{given_later, left_among, one_later, same_later}
use Rattle.row_merge.proofs.FirstGranules.{get_set_other, none_first, some_first}
use Rattle.row_merge.proofs.Readers.{count_set, given_few, given_some, reader_is, reader_stays, rest_at, rests_long, rests_set, zip_long}
use Rattle.row_merge.proofs.Totals.{few_total, read_counts, read_exact, read_reached, read_rises, read_within, total, total_set}

-- the lists of an input that has no row in memory, once its reader gave none
pub none_more : (ahead rests : List (List Row)) (input : ℕ) → get_or ahead input [] ≡ [] → get_or rests input [] ≡ [] → IsRefilled input ahead rests ahead (set rests input [])
none_more ahead rests input none over = record {
  given = [];
  rest = [];
  before = over;
  ahead_is = sym (ap (set ahead input) (sym none) ∙ set-get_or ahead input []);
  rests_are = refl;
  none = λ e. refl;
}

cursors_long : (cursors : List Cursor) → length (ahead_of cursors) ≡ length cursors
cursors_long cursors = length-map cursors (λ (c : Cursor). drop c.at c.block.rows)

module _ {F : Type 0} (files_of : F → Option Files) (i : Inputs F) where
  -- the reader of a part of which no row is in memory, and the kept part
  pub record ReadsOn (old : Stream F) (number : ℕ) (k : Kept (Part F)) (r : Reading F) : Type 0 where
    pub stream : IsStream i old
    pub within : number < length i.parts.now
    pub none : ahead_at (ahead_of old.cursors.items) number ≡ []
    pub kept_is : k ≡ get_or i.parts.now number k
    pub r_is : r ≡ get_or old.readers.items number r

  module _ (old : Stream F) (number : ℕ) (k : Kept (Part F)) (r : Reading F) (o : ReadsOn old number k r) where
    abbrev ahead : List (List Row)
    ahead = ahead_of old.cursors.items

    readers_long : length old.readers.items ≡ length i.parts.now
    readers_long = zip_long (IsReaderOf i.schema.now) i.parts.now old.readers.items o.stream.readers

    ahead_long : length (ahead_of old.cursors.items) ≡ length i.parts.now
    ahead_long = cursors_long old.cursors.items ∙ o.stream.count

    pub own_reader : IsReaderOf i.schema.now k r
    own_reader = reader_is files_of i.schema.now i.parts.now old.readers.items number k r o.stream.readers o.within o.kept_is o.r_is

    own_shape : AreShaped i → HasShape i.schema.now k.part.loaded.schema
    own_shape shaped =
        subst (λ (q : Kept (Part F)). HasShape i.schema.now q.part.loaded.schema) (sym o.kept_is) (All-get_or (λ (q : Kept (Part F)). HasShape i.schema.now q.part.loaded.schema) i.parts.now number k o.within shaped)

    rows_long : (rows : List (List Row)) → PartsHold files_of i.schema.now i.parts.now rows → length old.readers.items ≡ length rows
    rows_long rows hold = readers_long ∙ sym (zip_long (λ (q : Kept (Part F)) (own : List Row). PartHolds files_of i.schema.now q.part own) i.parts.now rows hold)

    -- the rows of the part that are left
    rest_is : (rows : List (List Row)) → PartsHold files_of i.schema.now i.parts.now rows → get_or (rests_of old.readers.items rows) number [] ≡ rows_left r (get_or rows number [])
    rest_is rows hold = rest_at old.readers.items rows number r (omega (arith, o.within, readers_long)) (rows_long rows hold) o.r_is

    -- it is the part with its number
    own_kept : (q : Kept (Part F)) → slice_get i.parts.now number ≡ Some q → k ≡ q
    own_kept q there = inside k q (sym (slice_get_read i.parts.now (length i.parts.now) number k refl o.within o.kept_is) ∙ there)
      where
        inside : (x y : Kept (Part F)) → Some x ≡ Some y → x ≡ y
        inside x y e = cc

    own_unread : IsUnreadAt old.readers.items number → IsUnread r
    own_unread unread = unread r (slice_get_read old.readers.items (length old.readers.items) number r refl (omega (arith, o.within, readers_long)) o.r_is)

    -- why it could not be read
    pub own_says : (why : PartFault) → ExplainsAt (λ number t. ExplainsLeft (column_in files_of r.part number) r.left t) (column_types r.schema) r.places why → ExplainsStream files_of i old.readers.items ((get_or i.parts.now number k).name, why)
    own_says why e = record {
      at = number;
      kept = k;
      reader = r;
      kept_is = slice_get_read i.parts.now (length i.parts.now) number k refl o.within o.kept_is;
      reader_is = slice_get_read old.readers.items (length old.readers.items) number r refl (omega (arith, o.within, readers_long)) o.r_is;
      name_is = ap (λ (q : Kept (Part F)). q.name) (sym o.kept_is);
      explained = left_among files_of r why e;
    }

    -- ---- the reader gave none

    module _ (after : Reading F) (same : after ≡ r) where
      pub none_left : (rows : List (List Row)) → PartsHold files_of i.schema.now i.parts.now rows → rows_left r (get_or rows number []) ≡ []
          → IsRefilled number (ahead_of old.cursors.items) (rests_of old.readers.items rows) (ahead_of old.cursors.items) (rests_of (set old.readers.items number after) rows)
      none_left rows hold over =
          subst (IsRefilled number ahead (rests_of old.readers.items rows) ahead)
          (sym (rests_set old.readers.items rows number after ∙ ap (set (rests_of old.readers.items rows) number) (ap (λ (q : Reading F). rows_left q (get_or rows number [])) same ∙ over)))
          (none_more ahead (rests_of old.readers.items rows) number o.none (rest_is rows hold ∙ over))

      pub none_fewer : count_of_rests (set old.readers.items number after) ≡ count_of_rests old.readers.items
      none_fewer = omega (arith, count_set old.readers.items number r after (omega (arith, o.within, readers_long)) o.r_is, ap count_left same)

      pub none_later : AreLater old.readers.items (set old.readers.items number after)
      none_later = one_later old.readers.items number r after o.r_is (same_later r after same)

      pub none_reads : (new : Stream F) → new.readers.items ≡ set old.readers.items number after → new.held ≡ old.held → count_left r ≡ 0 → ReadsPart i number old new
      none_reads new readers_are held_is none = record {
        others = λ j other. ap (λ (rs : List (Reading F)). slice_get rs j) readers_are ∙ get_set_other old.readers.items number j after other;
        first = λ shaped unread q there.
            subst (λ (x : Kept (Part F)). min i.schema.now.granularity x.part.loaded.manifest.rows ≤ length (ahead_at (ahead_of new.cursors.items) number)) (own_kept q there)
            (none_first files_of i.schema.now k r own_reader (own_shape shaped) (own_unread unread) none (length (ahead_at (ahead_of new.cursors.items) number)));
        most = omega (arith, ap (λ (h : Held). h.most_read) held_is);
      }

      pub none_readers : AllZip (IsReaderOf i.schema.now) i.parts.now (set old.readers.items number after)
      none_readers =
          reader_stays files_of i.schema.now i.parts.now old.readers.items number r after o.stream.readers o.r_is (ap (λ (q : Reading F). q.schema) same) (ap (λ (q : Reading F). q.part) same) (ap (λ (q : Reading F). q.places) same)

    -- ---- the reader gave a block

    pub record Refills (after : Reading F) (block : Grid) (readers : List (Reading F)) (cursors : List Cursor) (held : Held) : Type 0 where
      pub gives : GivesGranule files_of r after block
      pub readers_are : readers ≡ set old.readers.items number after
      pub ahead_is : ahead_of cursors ≡ set (ahead_of old.cursors.items) number block.rows
      pub types : AreOfTypes (column_types i.schema.now) cursors
      pub long : length cursors ≡ length old.cursors.items
      pub held_is : held ≡ read_more (length block.rows) old.held

    module _ (after : Reading F) (block : Grid) (readers : List (Reading F)) (cursors : List Cursor) (held : Held) (f : Refills after block readers cursors held) where
      -- the rows in memory are those before and the block's
      total_is : total (ahead_of cursors) ≡ total (ahead_of old.cursors.items) + length block.rows
      total_is =
          omega (arith, ap total f.ahead_is, total_set ahead number block.rows (omega (arith, o.within, ahead_long)), ap length o.none)

      few_are : AreShaped i → All (λ (rows : List Row). length rows ≤ i.schema.now.granularity) (ahead_of cursors)
      few_are shaped =
          All-same (λ (rows : List Row). length rows ≤ i.schema.now.granularity) (ahead_of cursors) (set ahead number block.rows) f.ahead_is
          (All-set (λ (rows : List Row). length rows ≤ i.schema.now.granularity) ahead number block.rows (given_few files_of i.schema.now k r own_reader after block f.gives (own_shape shaped)) (o.stream.counts shaped).few)

      new_long : length (ahead_of cursors) ≡ length i.parts.now
      new_long = cursors_long cursors ∙ f.long ∙ o.stream.count

      read_is : AreShaped i → old.held.read + length block.rows ≤ total (ahead_of cursors)
      read_is shaped = omega (arith, total_is, (o.stream.counts shaped).read)

      all_is : AreShaped i → length i.parts.now * i.schema.now.granularity < 2 ^ 64 → old.held.read + length block.rows ≡ total (ahead_of cursors)
      all_is shaped small = omega (arith, total_is, (o.stream.counts shaped).exact small)

      room : AreShaped i → total (ahead_of cursors) ≤ length i.parts.now * i.schema.now.granularity
      room shaped = subst (λ n. total (ahead_of cursors) ≤ n * i.schema.now.granularity) new_long (few_total i.schema.now.granularity (ahead_of cursors) (few_are shaped))

      pub refilled_most : AreShaped i → IsHeldWithin (length i.parts.now) i.schema.now.granularity held
      refilled_most shaped =
          subst (IsHeldWithin (length i.parts.now) i.schema.now.granularity) (sym f.held_is)
          (read_within (length i.parts.now) i.schema.now.granularity (length block.rows) (total (ahead_of cursors)) old.held (o.stream.counts shaped).within (read_is shaped) (room shaped))

      pub refilled_count : length (rows_of_all (ahead_of cursors)) + count_of_rests readers ≡ rows_to_come old
      refilled_count =
          omega (arith, total_is, ap count_of_rests f.readers_are, count_set old.readers.items number r after (omega (arith, o.within, readers_long)) o.r_is, count_parted files_of r after block f.gives)

      pub refilled_rows : (rows : List (List Row)) → PartsHold files_of i.schema.now i.parts.now rows → rows_left r (get_or rows number []) ≡ block.rows ++ rows_left after (get_or rows number [])
          → IsRefilled number (ahead_of old.cursors.items) (rests_of old.readers.items rows) (ahead_of cursors) (rests_of readers rows)
      refilled_rows rows hold parted = record {
        given = block.rows;
        rest = rows_left after (get_or rows number []);
        before = rest_is rows hold ∙ parted;
        ahead_is = f.ahead_is;
        rests_are = ap (λ (rs : List (Reading F)). rests_of rs rows) f.readers_are ∙ rests_set old.readers.items rows number after;
        none = λ e. absurd (omega (arith, ap length e, given_some files_of i.schema.now k r own_reader after block f.gives));
      }

      pub refilled_later : AreLater old.readers.items readers
      refilled_later = subst (AreLater old.readers.items) (sym f.readers_are) (one_later old.readers.items number r after o.r_is (given_later files_of r after block f.gives))

      pub refilled_ahead : (j : ℕ) → (j ≡ number → ⊥) → ahead_at (ahead_of cursors) j ≡ ahead_at (ahead_of old.cursors.items) j
      refilled_ahead j other = ap (λ xs. ahead_at xs j) f.ahead_is ∙ get_or-set_other ahead number j block.rows [] other

      pub refilled_reads : (new : Stream F) → new.readers.items ≡ readers → new.cursors.items ≡ cursors → new.held ≡ held → ReadsPart i number old new
      refilled_reads new readers_same cursors_same held_same = record {
        others = λ j other. ap (λ (rs : List (Reading F)). slice_get rs j) (readers_same ∙ f.readers_are) ∙ get_set_other old.readers.items number j after other;
        first = λ shaped unread q there.
            subst (λ (x : Kept (Part F)). min i.schema.now.granularity x.part.loaded.manifest.rows ≤ length (ahead_at (ahead_of new.cursors.items) number)) (own_kept q there)
            (subst (λ (own : List Row). min i.schema.now.granularity k.part.loaded.manifest.rows ≤ length own) (sym (own_ahead new cursors_same))
            (some_first files_of i.schema.now k r own_reader (own_shape shaped) (own_unread unread) after block f.gives));
        most = read_rises (length block.rows) old.held new.held (held_same ∙ f.held_is);
      }
        where
          own_ahead : (s : Stream F) → s.cursors.items ≡ cursors → ahead_at (ahead_of s.cursors.items) number ≡ block.rows
          own_ahead s same = ap (λ (cs : List Cursor). ahead_at (ahead_of cs) number) same ∙ ap (λ xs. ahead_at xs number) f.ahead_is ∙ get_or-set_same ahead number block.rows [] (omega (arith, o.within, ahead_long))

      pub refilled_stream : (new : Stream F) → new.readers.items ≡ readers → new.cursors.items ≡ cursors → new.held ≡ held → AreRanked i.places.now (ahead_of cursors) new.ranked.items → IsStream i new
      refilled_stream new readers_same cursors_same held_same ranked = record {
        inputs = o.stream.inputs;
        readers = subst (AllZip (IsReaderOf i.schema.now) i.parts.now) (sym (readers_same ∙ f.readers_are))
            (reader_stays files_of i.schema.now i.parts.now old.readers.items number r after o.stream.readers o.r_is (ap (λ (q : Reading F). q.schema) f.gives.rest) (ap (λ (q : Reading F). q.part) f.gives.rest) (ap (λ (q : Reading F). q.places) f.gives.rest));
        count = ap length cursors_same ∙ f.long ∙ o.stream.count;
        types = subst (AreOfTypes (column_types i.schema.now)) (sym cursors_same) f.types;
        ranked = subst (λ (cs : List Cursor). AreRanked i.places.now (ahead_of cs) new.ranked.items) (sym cursors_same) ranked;
        none_made = ap (λ (h : Held). h.made) (held_same ∙ f.held_is) ∙ o.stream.none_made;
        counts = λ shaped. record {
          exact = λ small.
              ap (λ (h : Held). h.read) (held_same ∙ f.held_is)
              ∙ read_exact (length block.rows) (total (ahead_of cursors)) (length i.parts.now * i.schema.now.granularity) old.held (all_is shaped small) (room shaped) small
              ∙ sym (ap (λ (cs : List Cursor). total (ahead_of cs)) cursors_same);
          reached = subst (λ (h : Held). h.read ≤ h.most_read) (sym (held_same ∙ f.held_is)) (read_reached (length block.rows) old.held);
          read = omega (arith, ap (λ (h : Held). h.read) (held_same ∙ f.held_is), ap (λ (cs : List Cursor). total (ahead_of cs)) cursors_same, read_counts (length block.rows) (total (ahead_of cursors)) old.held (read_is shaped));
          few = subst (λ (cs : List Cursor). All (λ (rows : List Row). length rows ≤ i.schema.now.granularity) (ahead_of cs)) (sym cursors_same) (few_are shaped);
          within = subst (IsHeldWithin (length i.parts.now) i.schema.now.granularity) (sym held_same) (refilled_most shaped);
        };
      }

-- ---- as many lists as parts

module _ {F : Type 0} (files_of : F → Option Files) (i : Inputs F) (s : Stream F) (st : IsStream i s) where
  -- a part has its reader
  pub reader_within : (number : ℕ) → number < length i.parts.now → number < length s.readers.items
  reader_within number below = omega (arith, below, zip_long (IsReaderOf i.schema.now) i.parts.now s.readers.items st.readers)

  -- the first part is named where an allocation failed
  pub first_fails : 0 < length i.parts.now → (k : Kept (Part F)) → k ≡ get_or i.parts.now 0 k → ExplainsStream files_of i s.readers.items ((get_or i.parts.now 0 k).name, NoMemory)
  first_fails some k is =
      let r : Reading F = get_or s.readers.items 0 (record { schema = i.schema.now; part = k.part; places = []; left = []; most = 0 }) in
      let below = reader_within 0 some in
      record {
        at = 0;
        kept = k;
        reader = r;
        kept_is = slice_get_read i.parts.now (length i.parts.now) 0 k refl some is;
        reader_is = slice_get-get_or s.readers.items 0 (record { schema = i.schema.now; part = k.part; places = []; left = []; most = 0 }) below;
        name_is = ap (λ (q : Kept (Part F)). q.name) (sym is);
        explained = tt;
      }

  pub ahead_parts : length (ahead_of s.cursors.items) ≡ length i.parts.now
  ahead_parts = cursors_long s.cursors.items ∙ st.count

  module _ (rows : List (List Row)) (hold : PartsHold files_of i.schema.now i.parts.now rows) where
    parts_rows : length rows ≡ length i.parts.now
    parts_rows = zip_long (λ (q : Kept (Part F)) (own : List Row). PartHolds files_of i.schema.now q.part own) i.parts.now rows hold

    pub ahead_rests : length (ahead_of s.cursors.items) ≡ length (rests_of s.readers.items rows)
    ahead_rests =
        let many = zip_long (IsReaderOf i.schema.now) i.parts.now s.readers.items st.readers in
        ahead_parts ∙ sym many ∙ sym (rests_long s.readers.items rows (many ∙ sym parts_rows))
