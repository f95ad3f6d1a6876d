-- Rows that are handed to a rule one by one, and what comes out.
use Rattle.std.proofs.Common.{◌≡◌, ◌⊎◌, inl, inr, ℕ, ◌<◌, List, [], ◌∷◌, ◌++◌, length, refl, sym, ap, ◌∙◌, subst, arith, Option, None, Some}
use Rattle.std.specs.List.{All}
use Rattle.std.specs.List.Sorted.{IsSorted}
use Rattle.std.proofs.lemmas.List.{length-map}
use Rattle.std.proofs.lemmas.List.Elements.{All-append, All-cons, All-head, All-nil, All-push, All-same, All-tail, All-weaker}
use Rattle.mt_base.specs.declared.partition.Partition.{Partition}
use Rattle.mt_values.specs.declared.value.ColType.{ColType}
use Rattle.mt_values.specs.declared.value.Value.{Value}
use Rattle.mt_values.specs.Order.{HasPlaces, key_cmp, key_of}
use Rattle.mt_values.specs.Schemas.{column_types}
use Rattle.mt_values.specs.Tables.{sorting_columns}
use Rattle.mt_values.specs.Values.{Row, type_of, types_of}
use Rattle.part_reader.specs.part_writer.Growing.{Growing, HasRows}
use Rattle.part_reader.specs.Readings.{Reading}
use Rattle.rule_replacing.specs.rule_law.TableRows.{IsTableRow}
use Rattle.row_merge.specs.declared.course.Current.{Current}
use Rattle.row_merge.specs.declared.streams.Inputs.{Inputs}
use Rattle.row_merge.specs.declared.streams.Stream.{Stream}
use Rattle.row_merge.specs.Course.{TakesIn}
use Rattle.row_merge.specs.Heads.{ahead_of}
use Rattle.row_merge.specs.Merged.{ArePartRows, rows_of_all}
use Rattle.row_merge.specs.Merging.{AreReady, IsTaken, joined}
use Rattle.row_merge.specs.Streams.{Ends, HandsOver, HasMerged, HasPending, IsLeft, IsMerging, IsPending, rests_of}
use Rattle.row_merge.proofs.Courses.{all_out, row_more}
use Rattle.row_merge.proofs.Merges.{all_joined, all_of_all}
use Rattle.row_merge.proofs.Sorted.{all_halves}
use Rattle.row_merge.proofs.Taking.{begun}

-- a row of these types has its columns
pub row_places : (types : List ColType) (places : List ℕ) (row : Row) → All (λ place. place < length types) places → types_of row ≡ types → HasPlaces places row
row_places types places row own typed =
    let count : length row ≡ length types = sym (length-map row type_of) ∙ ap length typed in
    All-weaker (λ place. place < length types) (λ place. place < length row) (λ place below. omega (arith, count, below)) places own

pub rows_places : (types : List ColType) (places : List ℕ) (rows : List Row) → All (λ place. place < length types) places → All (λ row. types_of row ≡ types) rows → All (HasPlaces places) rows
rows_places types places rows own typed = All-weaker (λ row. types_of row ≡ types) (HasPlaces places) (λ row is. row_places types places row own is) rows typed

-- the rows of the key are those before and the row, or the row alone
with_row : (P : Row → Type 0) (before pending : List Row) (row : Row) → (pending ≡ before ++ row ∷ []) ⊎ (pending ≡ row ∷ []) → All P before → P row → All P pending
with_row P before pending row (inl e) all own = All-same P pending (before ++ row ∷ []) e (All-push P before row all own)
with_row P before pending row (inr e) all own = All-same P pending (row ∷ []) e (All-cons P row [] own (All-nil P))

module _ {S : Type 0} (places : List ℕ) (run : List Row → List Row → Type 0) (holds : S → List Row → Type 0) (takes : Row → Type 0) (types : List ColType) where
  -- no row is pending
  pub none_pending : HasPending holds takes types None
  none_pending = record { pending = []; is = record { held = refl; taken = All-nil takes; typed = All-nil (λ r. types_of r ≡ types) } }

  pub pending_on : (current : Option (Current S)) (pending kept : List Row) (row : Row) (new : Current S) → IsPending holds takes types current pending → TakesIn places run holds pending row kept new → takes row → types_of row ≡ types
      → HasPending holds takes types (Some new)
  pending_on current pending kept row new p (inl g) own typed = record {
    pending = pending ++ row ∷ [];
    is = record { held = g.holds_more; taken = All-push takes pending row p.taken own; typed = All-push (λ r. types_of r ≡ types) pending row p.typed typed };
  }
  pending_on current pending kept row new p (inr e) own typed = record {
    pending = row ∷ [];
    is = record { held = e.holds_one; taken = All-cons takes row [] own (All-nil takes); typed = All-cons (λ r. types_of r ≡ types) row [] typed (All-nil (λ r. types_of r ≡ types)) };
  }

  module _ (keeps : (key : List Value) (rows kept : List Row) → 0 < length rows → All takes rows → All (λ r. key_of places r ≡ key) rows → run rows kept → All (λ r. key_of places r ≡ key) kept) (inputs : List (List Row)) where
    -- the next row was handed over
    pub handed_over : (done kept : List Row) (before left : List (List Row)) (row : Row) (current : Option (Current S)) (new : Current S) (o : HandsOver places run holds takes types inputs done before current) → IsTaken places before row left
        → TakesIn places run holds o.pending row kept new → takes row → types_of row ≡ types → HandsOver places run holds takes types inputs (done ++ kept) left (Some new)
    handed_over done kept before left row current new o t took own typed =
        let on = row_more places run holds takes keeps inputs done o.pending kept before left row new o.merging t o.is.taken took in
        record {
          pending = on.pending;
          is = record {
            held = on.held;
            taken = with_row takes o.pending on.pending row on.are o.is.taken own;
            typed = with_row (λ r. types_of r ≡ types) o.pending on.pending row on.are o.is.typed typed;
          };
          merging = on.merging;
        }

    -- nothing is left, and what is left of the last key was appended
    pub merged_all : (done : List Row) (left : List (List Row)) (current : Option (Current S)) (out : Growing) (o : HandsOver places run holds takes types inputs done left current) → rows_of_all left ≡ [] → Ends run done o.pending out → HasMerged places run inputs out
    merged_all done left current out o none e = record {
      done = done ++ e.kept;
      has = e.has;
      folds = all_out places run holds takes keeps inputs done o.pending e.kept left o.merging o.is.taken none e.leaves;
    }

-- ---- what holds of all rows

module _ (P : Row → Type 0) (places : List ℕ) (left new : List (List Row)) (row : Row) (t : IsTaken places left row new) (all : All P (rows_of_all left)) where
  halves : All P (rows_of_all t.front) × All P (rows_of_all ((row ∷ t.rows) ∷ t.back))
  halves =
      all_halves P (rows_of_all t.front) (rows_of_all ((row ∷ t.rows) ∷ t.back))
      (All-same P (rows_of_all t.front ++ rows_of_all ((row ∷ t.rows) ∷ t.back)) (rows_of_all left) (sym (ap rows_of_all t.left_is ∙ all_joined t.front ((row ∷ t.rows) ∷ t.back))) all)

  -- of the row that is taken
  pub own_taken : P row
  own_taken = All-head P row (t.rows ++ rows_of_all t.back) halves.1

  -- and of those that are left
  pub own_left : All P (rows_of_all new)
  own_left =
      All-same P (rows_of_all new) (rows_of_all t.front ++ rows_of_all (t.rows ∷ t.back)) (ap rows_of_all t.new_is ∙ all_joined t.front (t.rows ∷ t.back))
      (All-append P (rows_of_all t.front) (rows_of_all (t.rows ∷ t.back)) halves.0 (All-tail P row (t.rows ++ rows_of_all t.back) halves.1))

-- ---- a merge that is on its way

module _ {F S : Type 0} (run : List Row → List Row → Type 0) (holds : S → List Row → Type 0) (takes : Row → Type 0) (i : Inputs F) (rows : List (List Row)) where
  -- no row was taken
  pub merge_begins : (partition : Partition) (s : Stream F) (out : Growing) → i.places.now ≡ sorting_columns i.schema.now → IsLeft s rows rows → All (ArePartRows i.schema.now partition) rows → HasRows out []
      → IsMerging run holds takes i rows s None out
  merge_begins partition s out places left parts has = record {
    done = [];
    left = rows;
    has = has;
    over = record {
      pending = [];
      is = record { held = refl; taken = All-nil takes; typed = All-nil (λ r. types_of r ≡ column_types i.schema.now) };
      merging = begun i.places.now run rows sorted;
    };
    left_is = left;
    own = all_of_all (IsTableRow i.schema.now) rows (All-weaker (ArePartRows i.schema.now partition) (All (IsTableRow i.schema.now)) (λ own part. part.own) rows parts);
  }
    where
      sorted : All (IsSorted (key_cmp i.places.now)) rows
      sorted =
          subst (λ ps. All (IsSorted (key_cmp ps)) rows) (sym places) (All-weaker (ArePartRows i.schema.now partition) (IsSorted (key_cmp (sorting_columns i.schema.now))) (λ own part. part.rising) rows parts)

  -- rows that the rule gave may be counted meanwhile
  pub merge_counted : (new later : Stream F) (after : Option (Current S)) (more : Growing) → later.cursors.items ≡ new.cursors.items → later.readers.items ≡ new.readers.items → IsMerging run holds takes i rows new after more → IsMerging run holds takes i rows later after more
  merge_counted new later after more cursors readers now = record {
    done = now.done;
    left = now.left;
    has = now.has;
    over = now.over;
    left_is = record {
      left_is = now.left_is.left_is ∙ ap (λ xs. joined xs (rests_of new.readers.items rows)) (sym ahead) ∙ ap (joined (ahead_of later.cursors.items)) (sym rests);
      ready = subst (AreReady (ahead_of later.cursors.items)) (sym rests) (subst (λ xs. AreReady xs (rests_of new.readers.items rows)) (sym ahead) now.left_is.ready);
    };
    own = now.own;
  }
    where
      ahead : ahead_of later.cursors.items ≡ ahead_of new.cursors.items
      ahead = ap ahead_of cursors

      rests : rests_of later.readers.items rows ≡ rests_of new.readers.items rows
      rests = ap (λ (rs : List (Reading F)). rests_of rs rows) readers
