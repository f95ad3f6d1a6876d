-- The next row of all parts is taken.
use Rattle.std.proofs.Common.{◌≡◌, ◌⊎◌, inl, inr, ◌↔◌, ℕ, suc, ◌+◌, ◌<◌, ◌≤◌, Bool, true, false, List, [], ◌∷◌, ◌++◌, length, length-append, length-drop, get_or, set, refl, sym, ap, ap₂, ◌∙◌, subst, arith}
use Rattle.std.specs.List.{All, AllZip}
use Rattle.std.specs.List.Sorted.{IsSorted}
use Rattle.std.proofs.lemmas.Bool.{cases_lt}
use Rattle.std.proofs.lemmas.List.Elements.{All-head, All-tail}
use Rattle.mt_values.specs.Order.{key_cmp}
use Rattle.mt_values.specs.Schemas.{column_types}
use Rattle.mt_values.specs.Values.{Row}
use Rattle.part_reader.specs.Readings.{Reading}
use Rattle.row_merge.specs.declared.heads.Cursor.{Cursor}
use Rattle.row_merge.specs.declared.held.Held.{Held}
use Rattle.row_merge.specs.declared.streams.Inputs.{Inputs}
use Rattle.row_merge.specs.declared.streams.Stream.{Stream}
use Rattle.row_merge.specs.Heads.{AreOfTypes, ahead_of}
use Rattle.row_merge.specs.Held.{IsHeldWithin, took}
use Rattle.row_merge.specs.Merged.{rows_of_all}
use Rattle.row_merge.specs.Merging.{AreRanked, AreReady, IsTaken, TakesFirst, ahead_at, joined}
use Rattle.row_merge.specs.Streams.{AreShaped, IsLeft, IsReaderOf, IsRefilled, IsStream, KeepsHeld, TakesNext, TakesRow, count_of_rests, rests_of, rows_to_come}
use Rattle.row_merge.proofs.Ahead.{none_left, taken_of_all}
use Rattle.row_merge.proofs.Cursors.{ahead_is, none_is_ahead}
use Rattle.row_merge.proofs.Filling.{AreReadyBut, AreReadyUpTo, all_ready, filled, none_ready, one_more_ready, ready_again, ready_refilled, taken_ready}
use Rattle.row_merge.proofs.Totals.{few_taken, total, total_none, total_taken, took_within}

-- ---- rows that are left

module _ (places : List ℕ) (ahead rests new : List (List Row)) (input : ℕ) (row : Row) (t : TakesFirst places ahead input row new) where
  -- but for the input of the row, one without a row in memory has none left
  pub ready_but : AreReady ahead rests → AreReadyBut input new rests
  ready_but ready =
      subst (λ xs. AreReadyBut input xs rests) (sym t.new_is)
      (subst (λ n. AreReadyBut n (t.front ++ t.rows ∷ t.back) rests) (sym t.input_is)
      (taken_ready t.front row t.rows t.back rests (subst (λ xs. AreReady xs rests) t.ahead_is ready)))

  -- the input has rows in memory
  pub ready_still : AreReady ahead rests → 0 < length (ahead_at new input) → AreReady new rests
  ready_still ready some = ready_again input new rests (ready_but ready) (λ none. absurd (omega (arith, some, ap length none)))

  -- it had none, and got some
  pub ready_refilled_then : (more after : List (List Row)) → AreReady ahead rests → IsRefilled input new rests more after → AreReady more after
  ready_refilled_then more after ready f =
      subst (λ xs. AreReady xs after) (sym f.ahead_is) (subst (AreReady (set new input f.given)) (sym f.rests_are) (ready_refilled input new rests f.given f.rest (ready_but ready) f.none))

-- the rows of each input stay as they were
pub refilled_left : (ahead rests more after : List (List Row)) (input : ℕ) → ahead_at ahead input ≡ [] → IsRefilled input ahead rests more after → joined more after ≡ joined ahead rests
refilled_left ahead rests more after input none f =
    ap₂ joined f.ahead_is f.rests_are ∙ filled ahead rests input f.given f.rest none f.before

-- ---- streams

module _ {F : Type 0} (places : List ℕ) (old mid : Stream F) (rows left : List (List Row)) (input : ℕ) (row : Row) (at : IsLeft old rows left) (t : TakesFirst places (ahead_of old.cursors.items) input row (ahead_of mid.cursors.items))
    (sorted : All (IsSorted (key_cmp places)) left) (readers : mid.readers.items ≡ old.readers.items) where
  abbrev rests : List (List Row)
  rests = rests_of old.readers.items rows

  taken_is : IsTaken places left row (joined (ahead_of mid.cursors.items) rests)
  taken_is =
      subst (λ xs. IsTaken places xs row (joined (ahead_of mid.cursors.items) rests)) (sym at.left_is)
      (taken_of_all places row (ahead_of old.cursors.items) rests (ahead_of mid.cursors.items) input t at.ready (subst (All (IsSorted (key_cmp places))) at.left_is sorted))

  -- its part has rows in memory
  pub takes_row : 0 < length (ahead_at (ahead_of mid.cursors.items) input) → TakesRow places rows left row mid
  takes_row some = record {
    after = joined (ahead_of mid.cursors.items) rests;
    taken = taken_is;
    left_is = record {
      left_is = ap (λ (rs : List (Reading F)). joined (ahead_of mid.cursors.items) (rests_of rs rows)) (sym readers);
      ready = subst (λ (rs : List (Reading F)). AreReady (ahead_of mid.cursors.items) (rests_of rs rows)) (sym readers)
          (ready_still places (ahead_of old.cursors.items) rests (ahead_of mid.cursors.items) input row t at.ready some);
    };
  }

  -- or it was read on
  pub takes_last : (new : Stream F) → ahead_at (ahead_of mid.cursors.items) input ≡ []
      → IsRefilled input (ahead_of mid.cursors.items) (rests_of mid.readers.items rows) (ahead_of new.cursors.items) (rests_of new.readers.items rows) → TakesRow places rows left row new
  takes_last new none refilled = record {
    after = joined (ahead_of mid.cursors.items) rests;
    taken = taken_is;
    left_is = record {
      left_is = sym (refilled_left (ahead_of mid.cursors.items) rests (ahead_of new.cursors.items) (rests_of new.readers.items rows) input none own);
      ready = ready_refilled_then places (ahead_of old.cursors.items) rests (ahead_of mid.cursors.items) input row t (ahead_of new.cursors.items) (rests_of new.readers.items rows) at.ready own;
    };
  }
    where
      own : IsRefilled input (ahead_of mid.cursors.items) rests (ahead_of new.cursors.items) (rests_of new.readers.items rows)
      own = subst (λ (rs : List (Reading F)). IsRefilled input (ahead_of mid.cursors.items) (rests_of rs rows) (ahead_of new.cursors.items) (rests_of new.readers.items rows)) readers refilled

-- no row is in memory: none is left
pub none_gives : {F : Type 0} (old : Stream F) (rows left : List (List Row)) → IsLeft old rows left → All (λ (own : List Row). own ≡ []) (ahead_of old.cursors.items) → rows_of_all left ≡ []
none_gives old rows left at none = ap rows_of_all at.left_is ∙ none_left (ahead_of old.cursors.items) (rests_of old.readers.items rows) at.ready none

-- nor is one counted
pub none_counted : {F : Type 0} (i : Inputs F) (s : Stream F) → IsStream i s → All (λ (own : List Row). own ≡ []) (ahead_of s.cursors.items) → AreShaped i → s.held.read ≡ 0
none_counted i s st none shaped = let read = (st.counts shaped).read in omega (arith, read, total_none (ahead_of s.cursors.items) none)

-- ---- what is known of a stream once a row was taken

module _ {F : Type 0} (i : Inputs F) (old new : Stream F) (taken : ℕ × Row) (t : TakesNext i old new taken) (readers : new.readers.items ≡ old.readers.items) where
  fewer_in : total (ahead_of new.cursors.items) + 1 ≡ total (ahead_of old.cursors.items)
  fewer_in = total_taken i.places.now (ahead_of old.cursors.items) (ahead_of new.cursors.items) taken.0 taken.1 t.first

  -- one row fewer is to come
  pub taken_fewer : rows_to_come new < rows_to_come old
  taken_fewer = omega (arith, fewer_in, ap count_of_rests readers)

  pub taken_stream : IsStream i old → new.held ≡ took old.held → AreOfTypes (column_types i.schema.now) new.cursors.items → length new.cursors.items ≡ length old.cursors.items
      → AreRanked i.places.now (ahead_of new.cursors.items) new.ranked.items → IsStream i new
  taken_stream st held types long ranked = record {
    inputs = st.inputs;
    readers = subst (AllZip (IsReaderOf i.schema.now) i.parts.now) (sym readers) st.readers;
    count = long ∙ st.count;
    types = types;
    ranked = ranked;
    none_made = ap (λ (h : Held). h.made) held ∙ st.none_made;
    counts = λ shaped.
        let before = st.counts shaped in
        record {
          read = subst (λ (h : Held). h.read ≤ total (ahead_of new.cursors.items)) (sym held) (omega (arith, fewer_in, before.read));
          exact = λ small. subst (λ (h : Held). h.read ≡ total (ahead_of new.cursors.items)) (sym held) (omega (arith, fewer_in, before.exact small));
          reached = subst (λ (h : Held). h.read ≤ h.most_read) (sym held) (omega (arith, before.reached));
          few = few_taken i.places.now i.schema.now.granularity (ahead_of old.cursors.items) (ahead_of new.cursors.items) taken.0 taken.1 t.first before.few;
          within = subst (IsHeldWithin (length i.parts.now) i.schema.now.granularity) (sym held) (took_within (length i.parts.now) i.schema.now.granularity old.held before.within);
        };
  }

-- the part of a row that was taken
pub taken_in : (places : List ℕ) (ahead new : List (List Row)) (input : ℕ) (row : Row) → TakesFirst places ahead input row new → input < length new
taken_in places ahead new input row t =
    omega (arith, t.input_is, ap length t.new_is, length-append t.front (t.rows ∷ t.back))

-- ---- the first granules

-- of the first few parts the first granule was read, and no row of the others is in memory
pub record AreFilled {F : Type 0} (old new : Stream F) (n : ℕ) (rows : List (List Row)) : Type 0 where
  pub ready : AreReadyUpTo n (ahead_of new.cursors.items) (rests_of new.readers.items rows)
  pub left_is : joined (ahead_of new.cursors.items) (rests_of new.readers.items rows) ≡ joined (ahead_of old.cursors.items) (rests_of old.readers.items rows)

module _ {F : Type 0} (old : Stream F) (rows : List (List Row)) where
  pub none_filled : length (ahead_of old.cursors.items) ≡ length (rests_of old.readers.items rows) → AreFilled old old 0 rows
  none_filled even = record { ready = none_ready (ahead_of old.cursors.items) (rests_of old.readers.items rows) even; left_is = refl }

  pub more_filled : (mid new : Stream F) (n : ℕ) → n < length (ahead_of mid.cursors.items) → ahead_at (ahead_of mid.cursors.items) n ≡ [] → AreFilled old mid n rows
      → IsRefilled n (ahead_of mid.cursors.items) (rests_of mid.readers.items rows) (ahead_of new.cursors.items) (rests_of new.readers.items rows) → AreFilled old new (n + 1) rows
  more_filled mid new n below none f r =
      let one : suc n ≡ n + 1 = omega arith in
      record {
        ready = subst (λ k. AreReadyUpTo k (ahead_of new.cursors.items) (rests_of new.readers.items rows)) one
            (subst (λ xs. AreReadyUpTo (suc n) xs (rests_of new.readers.items rows)) (sym r.ahead_is)
            (subst (AreReadyUpTo (suc n) (set (ahead_of mid.cursors.items) n r.given)) (sym r.rests_are)
            (one_more_ready n (ahead_of mid.cursors.items) (rests_of mid.readers.items rows) r.given r.rest below f.ready r.none)));
        left_is = refilled_left (ahead_of mid.cursors.items) (rests_of mid.readers.items rows) (ahead_of new.cursors.items) (rests_of new.readers.items rows) n none r ∙ f.left_is;
      }

  -- nothing was taken: all rows of the parts are left
  pub all_filled : (new : Stream F) (n : ℕ) → length (ahead_of new.cursors.items) ≤ n → AreFilled old new n rows → All (λ (own : List Row). own ≡ []) (ahead_of old.cursors.items)
      → length (ahead_of old.cursors.items) ≡ length (rests_of old.readers.items rows) → IsLeft new rows (rests_of old.readers.items rows)
  all_filled new n all f none even = record {
    left_is = sym (f.left_is ∙ none_joined (ahead_of old.cursors.items) (rests_of old.readers.items rows) none even);
    ready = all_ready n (ahead_of new.cursors.items) (rests_of new.readers.items rows) all f.ready;
  }
    where
      none_joined : (ahead rests : List (List Row)) → All (λ (own : List Row). own ≡ []) ahead → length ahead ≡ length rests → joined ahead rests ≡ rests
      none_joined [] [] none even = refl
      none_joined [] (r ∷ rests) none even = absurd (omega (arith, even))
      none_joined (a ∷ ahead) [] none even = absurd (omega (arith, even))
      none_joined (a ∷ ahead) (r ∷ rests) none even =
          ap (λ (x : List Row). (x ++ r) ∷ joined ahead rests) (All-head (λ (own : List Row). own ≡ []) a ahead none)
          ∙ ap (λ (zs : List (List Row)). r ∷ zs) (none_joined ahead rests (All-tail (λ (own : List Row). own ≡ []) a ahead none) (omega (arith, even)))

-- ---- rows of a cursor

-- it has one, or none
module _ (cursors : List Cursor) (i : ℕ) (c : Cursor) (below : i < length cursors) (is : c ≡ get_or cursors i c) (has : Bool) (says : (has ≡ true) ↔ (c.at < length c.block.rows)) where
  pub has_ahead : has ≡ true → 0 < length (ahead_at (ahead_of cursors) i)
  has_ahead e = omega (arith, says.0 e, ap length (ahead_is cursors i c below is), length-drop c.at c.block.rows)

  pub none_has : has ≡ false → ahead_at (ahead_of cursors) i ≡ []
  none_has e = by (cases_lt c.at (length c.block.rows))
    where
      clash : true ≡ false → ⊥
      clash h = cc

      by : (c.at < length c.block.rows) ⊎ (length c.block.rows ≤ c.at) → ahead_at (ahead_of cursors) i ≡ []
      by (inl some) = absurd (clash (sym (says.1 some) ∙ e))
      by (inr all) = none_is_ahead cursors i c below is all

-- ---- nothing is taken, and rows that the rule gave may be counted

pub counted_stream : {F : Type 0} (i : Inputs F) (old new : Stream F) → IsStream i old → new.cursors.items ≡ old.cursors.items → AllZip (IsReaderOf i.schema.now) i.parts.now new.readers.items → AreRanked i.places.now (ahead_of new.cursors.items) new.ranked.items
    → KeepsHeld old.held new.held → new.held.made ≡ 0 → IsStream i new
counted_stream i old new st cursors readers ranked held none = record {
  inputs = st.inputs;
  readers = readers;
  count = ap length cursors ∙ st.count;
  types = subst (AreOfTypes (column_types i.schema.now)) (sym cursors) st.types;
  ranked = ranked;
  none_made = none;
  counts = λ shaped.
      let before = st.counts shaped in
      record {
        read = omega (arith, held.read, before.read, ap (λ (cs : List Cursor). total (ahead_of cs)) cursors);
        exact = λ small. held.read ∙ before.exact small ∙ sym (ap (λ (cs : List Cursor). total (ahead_of cs)) cursors);
        reached = omega (arith, held.read, held.most, before.reached);
        few = subst (λ (cs : List Cursor). All (λ (rows : List Row). length rows ≤ i.schema.now.granularity) (ahead_of cs)) (sym cursors) before.few;
        within = held.within (length i.parts.now) i.schema.now.granularity before.within;
      };
}
