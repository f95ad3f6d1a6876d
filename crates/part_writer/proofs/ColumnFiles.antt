-- The files of columns while they get a granule each.
use Rattle.std.proofs.Common.{◌≡◌, ◌≢◌, ◌⊎◌, inl, inr, ℕ, zero, suc, ◌+◌, ◌-◌, ◌<◌, ◌≤◌, true, false, cond, List, [], ◌∷◌, ◌++◌, Option, Some, None, is_some, refl, sym, ap, ap₂, ◌∙◌, subst, length, length-append, slice_get, get_or, set, nat_lt, arith, append-nil}
use Rattle.std.specs.Option.{option_map}
use Rattle.std.proofs.lemmas.Bool.{cases_lt, le-ltb, lt-ltb}
use Rattle.std.proofs.lemmas.List.{length-map, length-set, length_push}
use Rattle.std.proofs.lemmas.Option.{slice_get-get_or, slice_get_within}
use Rattle.sha2.specs.Hashers.{Holds256}
use Rattle.mt_base.specs.declared.name.FileId.{FileId}
use Rattle.mt_base.specs.declared.name.FileId.TheVariants as file
use Rattle.mt_outside.specs.Files.{appended}
use Rattle.mt_values.specs.declared.schema.Column.{Column}
use Rattle.mt_values.specs.declared.schema.Schema.{Schema}
use Rattle.mt_values.proofs.SetItems.{set_apart, set_there}
use Rattle.mt_values.specs.declared.value.Value.{Value}
use Rattle.mt_values.specs.ColumnBytes.{column_bytes}
use Rattle.mt_values.specs.Grid.{AreRowsOf, column_of}
use Rattle.mt_values.specs.Schemas.{column_types}
use Rattle.mt_values.specs.Values.{Row}
use Rattle.mt_values.proofs.Grids.{length-column_of}
use Rattle.mt_values.proofs.OrderBy.{all_reach}
use Rattle.skip_index.specs.Blocks.{AreWhole}
use Rattle.skip_index.proofs.Grown.{column_more}
use Rattle.stage_dir.specs.Stages.{Filling, IsIntact}
use Rattle.part_writer.specs.declared.column_out.ColumnOut.{ColumnOut}
use Rattle.part_writer.specs.Growing.{Grows, HasFiles, HasGrown, KeepsColumns, grown_bytes}
use Rattle.part_writer.specs.PartFiles.{IsContent}
use Rattle.part_writer.proofs.Granules.{bytes_more, marks_end, marks_more}
use Rattle.part_writer.proofs.Growth.{file_grows, has_same}

-- ---- one file

-- the last item of a list
get_end : (xs : List ℕ) (x n : ℕ) → n ≡ length xs → slice_get (xs ++ x ∷ []) n ≡ Some x
get_end [] x n e = ap (slice_get (x ∷ [])) e
get_end (y ∷ ys) x zero e = absurd (omega (arith, e))
get_end (y ∷ ys) x (suc n) e = get_end ys x n (omega (arith, e))

pub last_item : (ms xs : List ℕ) (n size : ℕ) → xs ≡ ms ++ n ∷ [] → Some size ≡ slice_get xs (length xs - 1) → size ≡ n
last_item ms xs n size is found =
    let end : Some size ≡ Some n = found ∙ ap (λ (l : List ℕ). slice_get l (length l - 1)) is ∙ get_end ms n (length (ms ++ n ∷ []) - 1) (omega (arith, length_push ms n)) in
    cc

-- the last of its places is its size
pub last_is : (g : ℕ) (values : List Value) (column : ColumnOut) → HasGrown g values column → (ms : List ℕ) × (column.places ≡ ms ++ length (column_bytes values) ∷ [])
last_is g values column has = let end = marks_end g values has.some in (end.0, has.places ∙ end.1)

-- it has one granule more
pub file_more : (g : ℕ) (values more : List Value) (column new : ColumnOut) (bytes : List ℕ) (end : ℕ) → AreWhole g values → 0 < length more → length more ≤ g → bytes ≡ column_bytes more → HasGrown g values column
    → Holds256 new.digest (column_bytes values ++ bytes) → end ≡ length (column_bytes values) + length bytes → new.places ≡ column.places ++ end ∷ [] → HasGrown g (values ++ more) new
file_more g values more column new bytes end whole one few are has holds ends places =
    let all : column_bytes (values ++ more) ≡ column_bytes values ++ bytes = bytes_more values more ∙ ap (λ (l : List ℕ). column_bytes values ++ l) (sym are) in
    record {
      some = has.some;
      digest = subst (Holds256 new.digest) (sym all) holds;
      places = places
          ∙ ap₂ (λ (ms : List ℕ) (m : ℕ). ms ++ m ∷ []) has.places (ends ∙ sym (length-append (column_bytes values) bytes) ∙ ap length (sym all))
          ∙ sym (marks_more g values more whole one few);
    }

-- ---- file by file

-- the files of the first few columns have grown, and what is kept of the others is as it was
pub record AreGrown (granularity n : ℕ) (more : List Row) (olds news : List ColumnOut) : Type 0 where
  pub many : length news ≡ length olds
  pub grown : (k : ℕ) (old new : ColumnOut) → k < n → slice_get olds k ≡ Some old → slice_get news k ≡ Some new → Grows granularity (column_of k more) old new
  pub rest : (k : ℕ) → n ≤ k → slice_get news k ≡ slice_get olds k

pub none_grown : (granularity : ℕ) (more : List Row) (columns : List ColumnOut) → AreGrown granularity 0 more columns columns
none_grown granularity more columns = record { many = refl; grown = λ k old new below. absurd (omega arith); rest = λ k past. refl }

pub one_grown : (granularity n : ℕ) (more : List Row) (olds mids news : List ColumnOut) (old new : ColumnOut) → AreGrown granularity n more olds mids → slice_get mids n ≡ Some old → news ≡ set mids n new → Grows granularity (column_of n more) old new
    → AreGrown granularity (n + 1) more olds news
one_grown granularity n more olds mids news old new before here is grows =
    record {
      many = ap length is ∙ length-set mids n new ∙ before.many;
      grown = λ k first last below was now. by k first last below was now (cases_lt k n);
      rest = λ k past. ap (λ (cs : List ColumnOut). slice_get cs k) is ∙ set_apart mids n k new (λ e. omega (arith, e, past)) ∙ before.rest k (omega arith);
    }
  where
    by : (k : ℕ) (first last : ColumnOut) → k < n + 1 → slice_get olds k ≡ Some first → slice_get news k ≡ Some last → (k < n) ⊎ (n ≤ k) → Grows granularity (column_of k more) first last
    by k first last below was now (inl less) =
        before.grown k first last less was (sym (set_apart mids n k new (λ e. omega (arith, e, less))) ∙ ap (λ (cs : List ColumnOut). slice_get cs k) (sym is) ∙ now)
    by k first last below was now (inr more_k) =
        let same : n ≡ k = omega arith in
        let within : n < length mids = slice_get_within mids n old here in
        let old_is : old ≡ first = some_same (sym here ∙ before.rest n (omega arith) ∙ ap (slice_get olds) same ∙ was) in
        let new_is : new ≡ last = some_same (sym (set_there mids n new within) ∙ ap (λ (cs : List ColumnOut). slice_get cs n) (sym is) ∙ ap (slice_get news) same ∙ now) in
        subst (λ (c : ColumnOut). Grows granularity (column_of k more) c last) old_is (subst (λ (c : ColumnOut). Grows granularity (column_of k more) old c) new_is (subst (λ i. Grows granularity (column_of i more) old new) same grows))
      where
        some_same : {x y : ColumnOut} → Some x ≡ Some y → x ≡ y
        some_same h = cc

-- the values of a column are whole granules where its rows are
pub whole_column : (schema : Schema) (rows : List Row) (k : ℕ) → AreRowsOf (column_types schema) rows → AreWhole schema.granularity rows → k < length schema.columns → AreWhole schema.granularity (column_of k rows)
whole_column schema rows k typed whole below =
    let wide : k < length (column_types schema) = omega (arith, length-map schema.columns (λ (c : Column). c.col_type)) in
    record { count = whole.count; length_is = length-column_of k rows (all_reach (column_types schema) rows k typed wide) ∙ whole.length_is }

-- all have grown
pub all_grown : (schema : Schema) (rows more : List Row) (n : ℕ) (olds news : List ColumnOut) → AreRowsOf (column_types schema) rows → AreWhole schema.granularity rows → AreGrown schema.granularity n more olds news → length schema.columns ≤ n
    → KeepsColumns schema rows olds → KeepsColumns schema (rows ++ more) news
all_grown schema rows more n olds news typed whole grown past keeps = record {
  count_is = grown.many ∙ keeps.count_is;
  each = λ k column here.
      let within : k < length news = slice_get_within news k column here in
      let inside : k < length olds = omega (arith, grown.many) in
      let old : ColumnOut = get_or olds k column in
      let was : slice_get olds k ≡ Some old = slice_get-get_or olds k column inside in
      let below : k < length schema.columns = omega (arith, keeps.count_is) in
      subst (λ vs. HasGrown schema.granularity vs column) (sym (column_more k rows more))
      (grown.grown k old column (omega arith) was here (column_of k rows) (whole_column schema rows k typed whole below) (keeps.each k old was));
}

-- ---- the bytes of the files

-- those of the first few columns have the values of more rows
abbrev pub bytes_below : List Row → List Row → ℕ → FileId → List ℕ
bytes_below rows more n (file.Column k) = column_bytes (column_of k rows) ++ cond (nat_lt k n) (column_bytes (column_of k more)) []
bytes_below rows more n f = []

pub not_below : (k n : ℕ) → n ≢ k → nat_lt k (n + 1) ≡ nat_lt k n
not_below k n other = by (cases_lt k n)
  where
    by : (k < n) ⊎ (n ≤ k) → nat_lt k (n + 1) ≡ nat_lt k n
    by (inl less) = lt-ltb k (n + 1) (omega arith) ∙ sym (lt-ltb k n less)
    by (inr more) = le-ltb k (n + 1) (above (cases_lt n k)) ∙ sym (le-ltb k n more)
      where
        above : (n < k) ⊎ (k ≤ n) → n + 1 ≤ k
        above (inl less) = omega arith
        above (inr same) = absurd (other (omega arith))

others_below : (rows more : List Row) (n : ℕ) (f : FileId) → file.Column n ≢ f → bytes_below rows more (n + 1) f ≡ bytes_below rows more n f
others_below rows more n (file.Column k) other = ap (λ b. column_bytes (column_of k rows) ++ cond b (column_bytes (column_of k more)) []) (not_below k n (λ e. other (ap file.Column e)))
others_below rows more n f other = refl

pub files_more : (schema : Schema) (rows more : List Row) (n : ℕ) (old new : Filling) (bytes : List ℕ) → HasFiles schema (bytes_below rows more n) old → n < length schema.columns → new.names ≡ old.names
    → new.files ≡ option_map (appended (file.Column n) bytes) old.files → IsIntact new → bytes ≡ column_bytes (column_of n more) → HasFiles schema (bytes_below rows more (n + 1)) new
files_more schema rows more n old new bytes has below names files intact are =
    let mine = column_bytes (column_of n rows) in
    let yes : nat_lt n (n + 1) ≡ true = lt-ltb n (n + 1) (omega arith) in
    let no_more : nat_lt n n ≡ false = le-ltb n n (omega arith) in
    let here : bytes_below rows more (n + 1) (file.Column n) ≡ bytes_below rows more n (file.Column n) ++ bytes =
    ap (λ b. mine ++ cond b (column_bytes (column_of n more)) []) yes
    ∙ ap (λ (bs : List ℕ). mine ++ bs) (sym are)
    ∙ ap (λ (bs : List ℕ). bs ++ bytes) (sym (append-nil mine))
    ∙ ap (λ b. (mine ++ cond b (column_bytes (column_of n more)) []) ++ bytes) (sym no_more) in
    file_grows schema (bytes_below rows more n) (bytes_below rows more (n + 1)) old new (file.Column n) bytes has below names files intact here (λ f there. others_below rows more n f)

none_below : (rows more : List Row) (schema : Schema) (f : FileId) → IsContent schema f → bytes_below rows more 0 f ≡ grown_bytes rows f
none_below rows more schema (file.Column k) there =
    ap (λ b. column_bytes (column_of k rows) ++ cond b (column_bytes (column_of k more)) []) (le-ltb k 0 (omega arith)) ∙ append-nil (column_bytes (column_of k rows))
none_below rows more schema f there = refl

pub files_begun : (schema : Schema) (rows more : List Row) (filling : Filling) → HasFiles schema (grown_bytes rows) filling → HasFiles schema (bytes_below rows more 0) filling
files_begun schema rows more filling has = has_same schema (grown_bytes rows) (bytes_below rows more 0) filling has (none_below rows more schema)

all_below : (rows more : List Row) (n : ℕ) (schema : Schema) → length schema.columns ≤ n → (f : FileId) → IsContent schema f → grown_bytes (rows ++ more) f ≡ bytes_below rows more n f
all_below rows more n schema past (file.Column k) there =
    ap column_bytes (column_more k rows more) ∙ bytes_more (column_of k rows) (column_of k more)
    ∙ ap (λ b. column_bytes (column_of k rows) ++ cond b (column_bytes (column_of k more)) []) (sym (lt-ltb k n (omega (arith, there, past))))
all_below rows more n schema past f there = refl

pub files_grown : (schema : Schema) (rows more : List Row) (n : ℕ) (filling : Filling) → length schema.columns ≤ n → HasFiles schema (bytes_below rows more n) filling → HasFiles schema (grown_bytes (rows ++ more)) filling
files_grown schema rows more n filling past has = has_same schema (bytes_below rows more n) (grown_bytes (rows ++ more)) filling has (all_below rows more n schema past)

-- ---- what a stage tells

pub told_same : {X Y : Type 0} (f : X → Y) (o : Option X) → is_some (option_map f o) ≡ is_some o
told_same f None = refl
told_same f (Some x) = refl
