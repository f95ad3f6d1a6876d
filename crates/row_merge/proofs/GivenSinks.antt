-- Rows that a sink got one after another.
use Rattle.std.proofs.Common.{◌≡◌, ◌∙◌, ℕ, ◌<◌, List, [], ◌++◌, ap, length, None, Option, refl, subst, sym}
use Rattle.std.specs.List.{All}
use Rattle.std.specs.List.Sorted.{IsSorted}
use Rattle.std.proofs.lemmas.List.Elements.{All-nil, All-weaker}
use Rattle.mt_base.specs.declared.partition.Partition.{Partition}
use Rattle.mt_values.specs.declared.schema.Schema.{Schema}
use Rattle.mt_values.specs.declared.value.ColType.{ColType}
use Rattle.mt_values.specs.declared.value.Value.{Value}
use Rattle.mt_values.specs.Order.{key_cmp, key_of}
use Rattle.mt_values.specs.Schemas.{column_types}
use Rattle.mt_values.specs.Tables.{sorting_columns}
use Rattle.mt_values.specs.Values.{Row, types_of}
use Rattle.part_reader.specs.Readings.{Reading}
use Rattle.rule_replacing.specs.rule_law.TableRows.{IsTableRow}
use Rattle.part_history.specs.mt_model.History.{IsTableSchema}
use Rattle.part_history.specs.mt_model.Partial.{TableRun}
use Rattle.row_merge.specs.declared.course.Current.{Current}
use Rattle.row_merge.specs.declared.streams.Inputs.{Inputs}
use Rattle.row_merge.specs.declared.streams.Stream.{Stream}
use Rattle.row_merge.specs.Heads.{ahead_of}
use Rattle.row_merge.specs.Merged.{ArePartRows, IsFoldOf, rows_of_all}
use Rattle.row_merge.specs.Sinks.{GetsFold, GetsLast, GetsMerged, GetsSome}
use Rattle.row_merge.specs.Merging.{AreReady, joined}
use Rattle.row_merge.specs.Streams.{HandsOver, IsFolding, IsLeft, TakesRow, rests_of}
use Rattle.row_merge.proofs.Courses.{all_out}
use Rattle.row_merge.proofs.Handing.{own_left, own_taken}
use Rattle.row_merge.proofs.Merges.{all_of_all}
use Rattle.row_merge.proofs.TableMerges.{fold_by, table_merged}
use Rattle.row_merge.proofs.Taking.{begun}

module _ {T : Type 0} (gets : T → List Row → T → Type 0) where
  -- as it is, it got none
  pub got_none : (sink : T) → gets sink [] sink → GetsSome gets sink sink
  got_none sink none = record { rows = []; got = none }

  -- what the rule of the table's engine leaves, by one that says the same
  pub merged_given : (schema : Schema) (partition : Partition) → IsTableSchema schema → (places : List ℕ) (run : List Row → List Row → Type 0) (inputs : List (List Row)) (first last : T) → places ≡ sorting_columns schema
      → ((some left : List Row) → run some left → TableRun schema some left) → All (ArePartRows schema partition) inputs → GetsFold gets places run inputs first last → GetsMerged gets schema partition inputs first last
  merged_given schema partition table places run inputs first last are same parts m = record {
    rows = m.rows;
    got = m.got;
    merged = table_merged schema partition table inputs m.rows parts (fold_by (sorting_columns schema) run (TableRun schema) same (rows_of_all inputs) m.rows (subst (λ ps. IsFoldOf ps run (rows_of_all inputs) m.rows) are m.folds));
  }

  module _ (more : (first mid last : T) (rows others : List Row) → gets first rows mid → gets mid others last → gets first (rows ++ others) last) where
    pub got_more : (first mid last : T) (others : List Row) → GetsSome gets first mid → gets mid others last → GetsSome gets first last
    got_more first mid last others one two = record { rows = one.rows ++ others; got = more first mid last one.rows others one.got two }

    pub got_last : (first mid last : T) → GetsSome gets first mid → GetsSome gets mid last → GetsSome gets first last
    got_last first mid last one two = got_more first mid last two.rows one two.got

    -- nothing is left, and it got what is left of the last key
    module _ {S : Type 0} (places : List ℕ) (run : List Row → List Row → Type 0) (holds : S → List Row → Type 0) (takes : Row → Type 0) (types : List ColType)
        (keeps : (key : List Value) (rows kept : List Row) → 0 < length rows → All takes rows → All (λ r. key_of places r ≡ key) rows → run rows kept → All (λ r. key_of places r ≡ key) kept) (inputs : List (List Row)) where
      pub folded_all : (done : List Row) (left : List (List Row)) (current : Option (Current S)) (first mid last : T) → gets first done mid → (o : HandsOver places run holds takes types inputs done left current) → rows_of_all left ≡ []
          → GetsLast gets run o.pending mid last → GetsFold gets places run inputs first last
      folded_all done left current first mid last got o none e = record {
        rows = done ++ e.rows;
        got = more first mid last done e.rows got e.got;
        folds = all_out places run holds takes keeps inputs done o.pending e.rows left o.merging o.is.taken none e.leaves;
      }

-- ---- a merge that is on its way

module _ {F S T : Type 0} (gets : T → List Row → T → Type 0) (run : List Row → List Row → Type 0) (holds : S → List Row → Type 0) (takes : Row → Type 0) (i : Inputs F) (inputs rows : List (List Row)) where
  -- no row was taken
  pub fold_begins : (partition : Partition) (s : Stream F) (out : T) → i.places.now ≡ sorting_columns i.schema.now → IsLeft s rows inputs → All (ArePartRows i.schema.now partition) inputs → gets out [] out
      → IsFolding gets run holds takes i inputs rows s None out out
  fold_begins partition s out places left parts none = record {
    done = [];
    left = inputs;
    got = none;
    over = record {
      pending = [];
      is = record { held = refl; taken = All-nil takes; typed = All-nil (λ r. types_of r ≡ column_types i.schema.now) };
      merging = begun i.places.now run inputs sorted;
    };
    left_is = left;
    own = all_of_all (IsTableRow i.schema.now) inputs (All-weaker (ArePartRows i.schema.now partition) (All (IsTableRow i.schema.now)) (λ own part. part.own) inputs parts);
  }
    where
      sorted : All (IsSorted (key_cmp i.places.now)) inputs
      sorted =
          subst (λ ps. All (IsSorted (key_cmp ps)) inputs) (sym places) (All-weaker (ArePartRows i.schema.now partition) (IsSorted (key_cmp (sorting_columns i.schema.now))) (λ own part. part.rising) inputs parts)

  -- rows that the rule gave may be counted meanwhile
  pub fold_counted : (new later : Stream F) (after : Option (Current S)) (first more : T) → later.cursors.items ≡ new.cursors.items → later.readers.items ≡ new.readers.items → IsFolding gets run holds takes i inputs rows new after first more
      → IsFolding gets run holds takes i inputs rows later after first more
  fold_counted new later after first more cursors readers now = record {
    done = now.done;
    left = now.left;
    got = now.got;
    over = now.over;
    left_is = record {
      left_is = now.left_is.left_is ∙ ap (λ xs. joined xs (rests_of new.readers.items rows)) (sym ahead) ∙ ap (joined (ahead_of later.cursors.items)) (sym rests);
      ready = subst (AreReady (ahead_of later.cursors.items)) (sym rests) (subst (λ xs. AreReady xs (rests_of new.readers.items rows)) (sym ahead) now.left_is.ready);
    };
    own = now.own;
  }
    where
      ahead : ahead_of later.cursors.items ≡ ahead_of new.cursors.items
      ahead = ap ahead_of cursors

      rests : rests_of later.readers.items rows ≡ rests_of new.readers.items rows
      rests = ap (λ (rs : List (Reading F)). rests_of rs rows) readers

  -- one row more
  module _ (s new : Stream F) (current after : Option (Current S)) (first out more : T) (row : Row) (m : IsFolding gets run holds takes i inputs rows s current first out) (t : TakesRow i.places.now rows m.left row new) where
    pub fold_row_is_own : IsTableRow i.schema.now row
    fold_row_is_own = own_taken (IsTableRow i.schema.now) i.places.now m.left t.after row t.taken m.own

    pub fold_goes_on : (kept : List Row) → gets first (m.done ++ kept) more → HandsOver i.places.now run holds takes (column_types i.schema.now) inputs (m.done ++ kept) t.after after
        → IsFolding gets run holds takes i inputs rows new after first more
    fold_goes_on kept got over = record {
      done = m.done ++ kept;
      left = t.after;
      got = got;
      over = over;
      left_is = t.left_is;
      own = own_left (IsTableRow i.schema.now) i.places.now m.left t.after row t.taken m.own;
    }
