-- Parts of which nothing was read yet.
use Rattle.std.proofs.Common.{◌≡◌, ℕ, zero, suc, ◌+◌, ◌<◌, ◌≤◌, Bool, List, [], ◌∷◌, ◌++◌, length, drop, map, replicate, take, get_or, refl, sym, ap, ap₂, ◌∙◌, subst, arith}
use Rattle.std.specs.List.{All, AllZip}
use Rattle.std.proofs.lemmas.List.{length-map, length-replicate, map-append, take_more}
use Rattle.std.proofs.lemmas.List.Elements.{All-head, All-map, All-nil, All-replicate, All-tail, All-weaker}
use Rattle.mt_values.specs.declared.schema.Column.{Column}
use Rattle.mt_values.specs.declared.schema.Schema.{Schema}
use Rattle.mt_values.specs.declared.value.ColType.{ColType}
use Rattle.mt_values.specs.Schemas.{column_types}
use Rattle.mt_values.specs.Tables.{sorting_columns}
use Rattle.mt_values.specs.Values.{Row}
use Rattle.part_history.specs.mt_model.History.{IsTableSchema}
use Rattle.part_reader.specs.declared.reading.Part.{Part}
use Rattle.part_reader.specs.Readings.{Reading}
use Rattle.part_set.specs.declared.kept.Kept.{Kept}
use Rattle.row_merge.specs.declared.heads.Cursor.{Cursor}
use Rattle.row_merge.specs.declared.held.Held.{Held}
use Rattle.row_merge.specs.declared.streams.Inputs.{Inputs}
use Rattle.row_merge.specs.declared.streams.Plan.{Plan}
use Rattle.row_merge.specs.declared.streams.Stream.{Stream}
use Rattle.row_merge.specs.Heads.{AreComparable, AreOfTypes, ahead_of}
use Rattle.row_merge.specs.Held.{IsHeldWithin, no_rows}
use Rattle.row_merge.specs.Merging.{AreRanked, ahead_at}
use Rattle.row_merge.specs.Streams.{AreInputs, IsReaderOf, IsStream, no_cursor, reader_of}
use Rattle.row_merge.proofs.Totals.{none_within, total_none}

-- ---- no row is in memory

pub none_at : (ahead : List (List Row)) (i : ℕ) → All (λ (rows : List Row). rows ≡ []) ahead → ahead_at ahead i ≡ []
none_at [] i all = refl
none_at (a ∷ ahead) zero all = All-head (λ (rows : List Row). rows ≡ []) a ahead all
none_at (a ∷ ahead) (suc i) all = none_at ahead i (All-tail (λ (rows : List Row). rows ≡ []) a ahead all)

pub none_ahead : (cursors : List Cursor) (n : ℕ) (types : List ColType) → cursors ≡ replicate n (no_cursor types) → All (λ (rows : List Row). rows ≡ []) (ahead_of cursors)
none_ahead cursors n types is =
    All-map (λ (rows : List Row). rows ≡ []) (λ (c : Cursor). drop c.at c.block.rows) cursors
    (subst (All (λ (c : Cursor). drop c.at c.block.rows ≡ [])) (sym is) (All-replicate (λ (c : Cursor). drop c.at c.block.rows ≡ []) n (no_cursor types) refl))

none_are_ranked : (places : List ℕ) (ahead : List (List Row)) → All (λ (rows : List Row). rows ≡ []) ahead → AreRanked places ahead []
none_are_ranked places ahead none = record {
  some = All-nil (λ input. 0 < length (ahead_at ahead input));
  all = λ input some. absurd (omega (arith, some, ap length (none_at ahead input none)));
  falls = tt;
}

-- ---- readers

module _ {F : Type 0} where
  -- one more of them
  pub reader_like : (schema : Schema) (plan : Plan) (most : ℕ) (k : Kept (Part F)) (r : Reading F) (places : List ℕ) (left : List Bool) (own : ℕ) → r ≡ record { schema = schema; part = k.part; places = places; left = left; most = own }
      → places ≡ plan.columns.items → left ≡ plan.chosen.items → own ≡ most → r ≡ reader_of schema plan most k
  reader_like schema plan most k r places left own is columns chosen bytes =
      let with : List ℕ → List Bool → Reading F = λ ps cs. record { schema = schema; part = k.part; places = ps; left = cs; most = own } in
      is ∙ ap₂ with columns chosen ∙ ap (λ n. reader_of schema plan n k) bytes

  pub one_reader_more : (schema : Schema) (plan : Plan) (most : ℕ) (parts : List (Kept (Part F))) (i : ℕ) (k : Kept (Part F)) (readers pushed : List (Reading F)) (r : Reading F) → i < length parts → k ≡ get_or parts i k → readers ≡ map (reader_of schema plan most) (take i parts)
      → r ≡ reader_of schema plan most k → pushed ≡ readers ++ r ∷ [] → pushed ≡ map (reader_of schema plan most) (take (i + 1) parts)
  one_reader_more schema plan most parts i k readers pushed r below is are own more =
      more ∙ ap₂ (λ (rs : List (Reading F)) (x : Reading F). rs ++ x ∷ []) are own ∙ sym (map-append (reader_of schema plan most) (take i parts) (k ∷ []))
      ∙ ap (map (reader_of schema plan most)) (sym (take_more parts i k below ∙ ap (λ (x : Kept (Part F)). take i parts ++ x ∷ []) (sym is)))

-- ---- a stream

module _ {F : Type 0} (i : Inputs F) (own : AreInputs i) (s : Stream F) (readers : AllZip (IsReaderOf i.schema.now) i.parts.now s.readers.items)
    (cursors_are : s.cursors.items ≡ replicate (length i.parts.now) (no_cursor (column_types i.schema.now))) (ranked_are : s.ranked.items ≡ []) (held_is : s.held ≡ no_rows) where
  opened_none : All (λ (rows : List Row). rows ≡ []) (ahead_of s.cursors.items)
  opened_none = none_ahead s.cursors.items (length i.parts.now) (column_types i.schema.now) cursors_are

  pub opened_stream : IsStream i s
  opened_stream = record {
    inputs = own;
    readers = readers;
    count = ap length cursors_are ∙ length-replicate (length i.parts.now) (no_cursor (column_types i.schema.now));
    types = subst (AreOfTypes (column_types i.schema.now)) (sym cursors_are)
        (All-replicate (λ (c : Cursor). c.block.types ≡ column_types i.schema.now) (length i.parts.now) (no_cursor (column_types i.schema.now)) refl);
    ranked = subst (AreRanked i.places.now (ahead_of s.cursors.items)) (sym ranked_are) (none_are_ranked i.places.now (ahead_of s.cursors.items) opened_none);
    none_made = ap (λ (h : Held). h.made) held_is;
    counts = λ shaped. record {
      read = omega (arith, ap (λ (h : Held). h.read) held_is);
      exact = λ small. ap (λ (h : Held). h.read) held_is ∙ sym (total_none (ahead_of s.cursors.items) opened_none);
      reached = omega (arith, ap (λ (h : Held). h.read) held_is);
      few = All-weaker (λ (rows : List Row). rows ≡ []) (λ (rows : List Row). length rows ≤ i.schema.now.granularity) (λ rows none. omega (arith, ap length none)) (ahead_of s.cursors.items) opened_none;
      within = subst (IsHeldWithin (length i.parts.now) i.schema.now.granularity) (sym held_is) (none_within (length i.parts.now) i.schema.now.granularity);
    };
  }

-- the columns by which a table's rows are sorted are its own
pub own_inputs : {F : Type 0} (i : Inputs F) → IsTableSchema i.schema.now → 0 < length i.parts.now → i.places.now ≡ sorting_columns i.schema.now → All (λ place. place < length i.schema.now.columns) (sorting_columns i.schema.now) → AreInputs i
own_inputs i table some places own = record {
  table = table;
  some = some;
  places_are = places;
  own = subst (All (λ place. place < length (column_types i.schema.now))) (sym places)
      (subst (λ n. All (λ place. place < n) (sorting_columns i.schema.now)) (sym (length-map i.schema.now.columns (λ (c : Column). c.col_type))) own);
}

-- blocks of the table's types have the columns by which rows are sorted
pub comparable : (places : List ℕ) (types : List ColType) (cursors : List Cursor) → All (λ place. place < length types) places → AreOfTypes types cursors → AreComparable places cursors
comparable places types cursors own all =
    All-weaker (λ (c : Cursor). c.block.types ≡ types) (λ (c : Cursor). All (λ place. place < length c.block.types) places) (λ c is. subst (λ (ts : List ColType). All (λ place. place < length ts) places) (sym is) own) cursors all
