-- Keys read one after another, and what primary.bin says of them.
use Rattle.std.proofs.Common.{◌≡◌, ℕ, zero, suc, ◌+◌, ◌-◌, ◌*◌, ◌<◌, ◌≤◌, ◌&&◌, Bool, true, false, cond, nat_eq, min, List, [], ◌∷◌, ◌++◌, Option, Some, None, IfSome, ◌⊎◌, inl, inr, refl, sym, ap, ap₂, ◌∙◌, subst, length, length-append, length-drop, take, drop, slice_get, get_or, All, arith, append_assoc, append-nil}
use Rattle.std.specs.Int.{div_ceil}
use Rattle.std.proofs.lemmas.Bool.{cases_lt, eq-eqb, ne_eqb}
use Rattle.std.proofs.lemmas.Grind.{div_ceil_times}
use Rattle.std.proofs.Math.Bool.{and-true, and-false}
use Rattle.std.proofs.lemmas.List.{drop-drop, drop_all, length-map, take_all}
use Rattle.std.proofs.lemmas.List.FromFn.{map-range_with_len_more}
use Rattle.std.proofs.lemmas.List.Elements.{All-cons, All-head, All-nil, All-push, All-tail}
use Rattle.std.proofs.lemmas.Option.{slice_get-get_or}
use Rattle.column_file.specs.byte_numbers.declared.faults.FormatFault.{FormatFault}
use Rattle.column_file.specs.byte_numbers.declared.faults.FormatFault.TheVariants.{NoMemory, Malformed}
use Rattle.column_file.specs.byte_numbers.Fronts.{Begins}
use Rattle.mt_values.specs.declared.value.ColType.{ColType}
use Rattle.mt_values.specs.ColumnBytes.{column_bytes}
use Rattle.mt_values.specs.Grid.{Cells, row_at, rows_of}
use Rattle.mt_values.specs.Values.{Row, type_of}
use Rattle.mt_values.proofs.Grids.{length-rows_of, slice_get-rows_of}
use Rattle.column_file.specs.Marks.{granules, keys_bytes}
use Rattle.column_file.specs.Spellings.{with_values}
use Rattle.primary_marks.specs.Columns.{GainKey, HaveKeys, HaveWanted, key_types, wanted_key, with_key}
use Rattle.primary_marks.specs.KeyFaults.{ExplainsKey, ExplainsPrimary, IsKeyStuckAt, IsPrimaryFault, wanted_after}
use Rattle.primary_marks.specs.Keys.{AreMarkKeys, IsKeyOf, IsPrimaryOf, KeyShape, ends_alone, granule_count, key_count, key_shape}
use Rattle.column_file.proofs.Fronts.{spelled_last}
use Rattle.primary_marks.proofs.KeyRows.{have_at, row_at-cons}
use Rattle.primary_marks.proofs.MarkedRows.{map_on_range}

-- ---- columns with one key more

pub slice_get-push_old : {X : Type 0} (xs : List X) (x : X) (k : ℕ) → k < length xs → slice_get (xs ++ x ∷ []) k ≡ slice_get xs k
slice_get-push_old [] x k h = absurd (omega arith)
slice_get-push_old (y ∷ ys) x zero h = refl
slice_get-push_old (y ∷ ys) x (suc k) h = slice_get-push_old ys x k (omega arith)

pub slice_get-push_new : {X : Type 0} (xs : List X) (x : X) (n : ℕ) → length xs ≡ n → slice_get (xs ++ x ∷ []) n ≡ Some x
slice_get-push_new [] x zero h = refl
slice_get-push_new [] x (suc n) h = absurd (omega arith)
slice_get-push_new (y ∷ ys) x zero h = absurd (omega arith)
slice_get-push_new (y ∷ ys) x (suc n) h = slice_get-push_new ys x n (omega arith)

head_len : (c : Cells) (cs : List Cells) (n : ℕ) → HaveKeys (c ∷ cs) n → length c.values ≡ n
head_len c cs n h = All-head (λ (x : Cells). length x.values ≡ n) c cs h

tail_len : (c : Cells) (cs : List Cells) (n : ℕ) → HaveKeys (c ∷ cs) n → HaveKeys cs n
tail_len c cs n h = All-tail (λ (x : Cells). length x.values ≡ n) c cs h

row_old : (columns : List Cells) (key : Row) (n k : ℕ) → HaveKeys columns n → length key ≡ length columns → k < n → row_at (with_key columns key) k ≡ row_at columns k
row_old [] key n k even same below = refl
row_old (c ∷ cs) [] n k even same below = absurd (omega arith)
row_old (c ∷ cs) (v ∷ vs) n k even same below =
    let inside : k < length c.values = omega (arith, head_len c cs n even) in
    let here : slice_get c.values k ≡ Some (get_or c.values k v) = slice_get-get_or c.values k v inside in
    row_at-cons (with_values c (v ∷ [])) (with_key cs vs) k (get_or c.values k v) (slice_get-push_old c.values v k inside ∙ here)
    ∙ ap (λ r. get_or c.values k v ∷ r) (row_old cs vs n k (tail_len c cs n even) (omega arith) below)
    ∙ sym (row_at-cons c cs k (get_or c.values k v) here)

row_new : (columns : List Cells) (key : Row) (n : ℕ) → HaveKeys columns n → length key ≡ length columns → row_at (with_key columns key) n ≡ key
row_new [] [] n even same = refl
row_new [] (v ∷ vs) n even same = absurd (omega arith)
row_new (c ∷ cs) [] n even same = absurd (omega arith)
row_new (c ∷ cs) (v ∷ vs) n even same =
    row_at-cons (with_values c (v ∷ [])) (with_key cs vs) n v (slice_get-push_new c.values v n (head_len c cs n even))
    ∙ ap (λ r. v ∷ r) (row_new cs vs n (tail_len c cs n even) (omega arith))

rows_with_key : (columns : List Cells) (key : Row) (n : ℕ) → HaveKeys columns n → length key ≡ length columns → rows_of (with_key columns key) (n + 1) ≡ rows_of columns n ++ key ∷ []
rows_with_key columns key n even same =
    map-range_with_len_more (row_at (with_key columns key)) 0 n n (omega arith)
    ∙ ap₂ (λ rows row. rows ++ row ∷ [])
    (map_on_range (row_at (with_key columns key)) (row_at columns) 0 n (λ k h. row_old columns key n k even same (omega arith)))
    (row_new columns key n even same)

have_with_key : (columns : List Cells) (key : Row) (n : ℕ) → HaveKeys columns n → length key ≡ length columns → HaveKeys (with_key columns key) (n + 1)
have_with_key [] key n even same = All-nil (λ (c : Cells). length c.values ≡ n + 1)
have_with_key (c ∷ cs) [] n even same = absurd (omega arith)
have_with_key (c ∷ cs) (v ∷ vs) n even same =
    All-cons (λ (c : Cells). length c.values ≡ n + 1) (with_values c (v ∷ [])) (with_key cs vs) (length-append c.values (v ∷ []) ∙ ap (λ k. k + 1) (head_len c cs n even))
    (have_with_key cs vs n (tail_len c cs n even) (omega arith))

types_with_key : (columns : List Cells) (key : Row) → length key ≡ length columns → key_types (with_key columns key) ≡ key_types columns
types_with_key [] key same = refl
types_with_key (c ∷ cs) [] same = absurd (omega arith)
types_with_key (c ∷ cs) (v ∷ vs) same = ap (λ ts. c.col_type ∷ ts) (types_with_key cs vs (omega arith))

-- ---- key by key

-- the bytes up to the place are those of the keys, this many, that the columns stand for
pub record AreKeysRead (types : List ColType) (bytes : List ℕ) (at keys : ℕ) (columns : List Cells) : Type 0 where
  pub even : HaveKeys columns keys
  pub types_are : key_types columns ≡ types
  pub each : All (IsKeyOf types) (rows_of columns keys)
  pub begins : Begins (keys_bytes (rows_of columns keys)) at bytes

pub keys_none : (bytes : List ℕ) (columns : List Cells) → HaveKeys columns 0 → AreKeysRead (key_types columns) bytes 0 0 columns
keys_none bytes columns empty = record {
  even = empty;
  types_are = refl;
  each = All-nil (IsKeyOf (key_types columns));
  begins = record { size_is = refl; parted = refl };
}

module _ {types : List ColType} {bytes : List ℕ} {at keys : ℕ} {columns : List Cells} (r : AreKeysRead types bytes at keys columns) where
  pub keys_within : at ≤ length bytes
  keys_within = omega (arith, r.begins.size_is, ap length r.begins.parted, length-append (keys_bytes (rows_of columns keys)) (drop at bytes))

  module _ (wanted : Option ℕ) (size : ℕ) (news : List Cells) (g : GainKey wanted (drop at bytes) size columns news) where
    same_width : length g.key ≡ length columns
    same_width = sym (length-map g.key type_of) ∙ ap length g.is_key.typed ∙ length-map columns (λ (c : Cells). c.col_type)

    -- the keys are one more
    pub keys_are : rows_of news (keys + 1) ≡ rows_of columns keys ++ g.key ∷ []
    keys_are = ap (λ (cs : List Cells). rows_of cs (keys + 1)) g.gained ∙ rows_with_key columns g.key keys r.even same_width

    is_key : IsKeyOf types g.key
    is_key = record { typed = g.is_key.typed ∙ r.types_are; fit = g.is_key.fit }

    pub keys_more : AreKeysRead types bytes (at + size) (keys + 1) news
    keys_more =
        let olds = rows_of columns keys in
        let all = ap keys_bytes keys_are ∙ spelled_last column_bytes olds g.key in
        let left : drop size (drop at bytes) ≡ drop (at + size) bytes = drop-drop size at bytes in
        record {
          even = subst (λ (cs : List Cells). HaveKeys cs (keys + 1)) (sym g.gained) (have_with_key columns g.key keys r.even same_width);
          types_are = ap key_types g.gained ∙ types_with_key columns g.key same_width ∙ r.types_are;
          each = subst (All (IsKeyOf types)) (sym keys_are) (All-push (IsKeyOf types) olds g.key r.each is_key);
          begins = record {
            size_is = omega (arith, r.begins.size_is, g.begins.size_is, ap length all, length-append (keys_bytes olds) (column_bytes g.key));
            parted = r.begins.parted ∙ ap (λ l. keys_bytes olds ++ l) (g.begins.parted ∙ ap (λ l. column_bytes g.key ++ l) left)
                ∙ sym (append_assoc (keys_bytes olds) (column_bytes g.key) (drop (at + size) bytes)) ∙ ap (λ l. l ++ drop (at + size) bytes) (sym all);
          };
        }

-- ---- what the walk says of primary.bin

-- where a row is, the keys are one more than the granules
pub one_more : (shape : KeyShape) → 0 < shape.rows → key_count shape ≡ granule_count shape + 1
one_more shape some = let one : min 1 shape.rows ≡ 1 = omega arith in ap (λ k. granule_count shape + k) one

-- where a row is, there is a granule
pub granules_some : (rows granularity : ℕ) → 0 < rows → 0 < granularity → 0 < granules granularity rows
granules_some rows granularity some full = either (cases_lt 0 (granules granularity rows))
  where
    either : (0 < granules granularity rows) ⊎ (granules granularity rows ≤ 0) → 0 < granules granularity rows
    either (inl h) = h
    either (inr h) =
        let none : granules granularity rows ≡ 0 = omega arith in
        absurd (omega (arith, (div_ceil_times rows granularity full).0, ap (λ n. n * granularity) none))

-- before all granules have their keys none is wanted
none_wanted : (shape : KeyShape) (keys : List Row) → length keys < granule_count shape → None ≡ wanted_after shape keys
none_wanted shape keys few =
    let other : nat_eq (length keys) (granule_count shape) ≡ false = ne_eqb (length keys) (granule_count shape) (λ e. omega (arith, few)) in
    sym (ap (λ b. cond (ends_alone shape && b) (slice_get keys (length keys - 1)) None) other ∙ ap (λ b. cond b (slice_get keys (length keys - 1)) None) (and-false (ends_alone shape)))

-- after them the last is, where the last granule has one row
last_wanted : (shape : KeyShape) (keys : List Row) → length keys ≡ granule_count shape → wanted_after shape keys ≡ cond (ends_alone shape) (slice_get keys (length keys - 1)) None
last_wanted shape keys full =
    let same : nat_eq (length keys) (granule_count shape) ≡ true = eq-eqb (length keys) (granule_count shape) full in
    ap (λ b. cond (ends_alone shape && b) (slice_get keys (length keys - 1)) None) same ∙ ap (λ b. cond b (slice_get keys (length keys - 1)) None) (and-true (ends_alone shape))

last_key : (columns : List Cells) (n : ℕ) → 0 < n → slice_get (rows_of columns n) (length (rows_of columns n) - 1) ≡ Some (row_at columns (n - 1))
last_key columns n some = ap (λ k. slice_get (rows_of columns n) (k - 1)) (length-rows_of columns n) ∙ slice_get-rows_of columns n (n - 1) (omega arith)

-- the place of the key that is wanted at the end
abbrev pub twin_place : Bool → ℕ → Option ℕ
twin_place alone n = cond alone (Some (n - 1)) None

twin_key : (alone : Bool) (columns : List Cells) (n : ℕ) → 0 < n → wanted_key columns (twin_place alone n) ≡ cond alone (slice_get (rows_of columns n) (length (rows_of columns n) - 1)) None
twin_key true columns n some = sym (last_key columns n some)
twin_key false columns n some = refl

pub twin_had : (alone : Bool) (columns : List Cells) (n : ℕ) → HaveKeys columns n → 0 < n → HaveWanted (twin_place alone n) columns
twin_had true columns n even some = have_at columns n (n - 1) even (omega arith)
twin_had false columns n even some = tt

module _ (granularity rows : ℕ) {types : List ColType} {bytes : List ℕ} {at n : ℕ} {columns : List Cells} (r : AreKeysRead types bytes at n columns) where
  shape : KeyShape
  shape = key_shape types granularity rows

  -- a key goes wrong
  wrong : (e : FormatFault) (w : Option Row) → w ≡ wanted_after (key_shape types granularity rows) (rows_of columns n) → n < key_count (key_shape types granularity rows) → ExplainsKey (key_types columns) w at (drop at bytes) e → ExplainsPrimary (key_shape types granularity rows) bytes e
  wrong NoMemory w is few stuck = tt
  wrong (Malformed place) w is few stuck = record {
    keys = rows_of columns n;
    rest = drop at bytes;
    each = r.each;
    parted = r.begins.parted;
    wrong = inl (
      omega (arith, length-rows_of columns n),
      subst (λ k. IsKeyStuckAt types (wanted_after (key_shape types granularity rows) (rows_of columns n)) k (drop at bytes) place) r.begins.size_is
          (subst (λ (v : Option Row). IsKeyStuckAt types v at (drop at bytes) place) is
          (subst (λ (ts : List ColType). IsKeyStuckAt ts w at (drop at bytes) place) r.types_are stuck)),
    );
  }

  -- that of a granule
  pub granule_wrong : (e : FormatFault) → n < granules granularity rows → ExplainsKey (key_types columns) None at (drop at bytes) e → ExplainsPrimary (key_shape types granularity rows) bytes e
  granule_wrong e few stuck = wrong e None (none_wanted (key_shape types granularity rows) (rows_of columns n) (omega (arith, length-rows_of columns n))) (omega arith) stuck

  -- the final one
  pub final_wrong : (e : FormatFault) (wanted : Option ℕ) → n ≡ granules granularity rows → 0 < n → 0 < rows → wanted ≡ twin_place (ends_alone (key_shape types granularity rows)) n → ExplainsKey (key_types columns) (wanted_key columns wanted) at (drop at bytes) e → ExplainsPrimary (key_shape types granularity rows) bytes e
  final_wrong e wanted full some there is stuck =
      let s : KeyShape = key_shape types granularity rows in
      wrong e (wanted_key columns wanted)
      (ap (wanted_key columns) is ∙ twin_key (ends_alone s) columns n some ∙ sym (last_wanted s (rows_of columns n) (length-rows_of columns n ∙ full)))
      (omega (arith, one_more s there)) stuck

  -- the keys are those of a part
  pub final_kept : (wanted : Option ℕ) (size : ℕ) (news : List Cells) → n ≡ granules granularity rows → 0 < n → 0 < rows → wanted ≡ twin_place (ends_alone (key_shape types granularity rows)) n → GainKey wanted (drop at bytes) size columns news → AreMarkKeys (key_shape types granularity rows) (rows_of news (n + 1))
  final_kept wanted size news full some there is g = record {
    each = (keys_more r wanted size news g).each;
    count_is = length-rows_of news (n + 1) ∙ ap (λ k. k + 1) full ∙ sym (one_more (key_shape types granularity rows) there);
    final = λ alone.
        let w : wanted ≡ Some (n - 1) = is ∙ ap (λ b. twin_place b n) alone in
        let same : g.key ≡ row_at columns (n - 1) = subst (λ o. IfSome (wanted_key columns o) (λ k. g.key ≡ k)) w g.same in
        let olds : List Row = rows_of columns n in
        let len : length olds ≡ n = length-rows_of columns n in
        ap₂ (λ (ks : List Row) k. slice_get ks (k - 1)) (keys_are r wanted size news g) (sym full)
        ∙ slice_get-push_old olds g.key (n - 1) (omega (arith, len))
        ∙ slice_get-rows_of columns n (n - 1) (omega arith) ∙ ap Some (sym same)
        ∙ sym (slice_get-push_new olds g.key n len)
        ∙ sym (ap₂ (λ (ks : List Row) k. slice_get ks k) (keys_are r wanted size news g) (sym full));
  }

  -- bytes go on after them
  pub keys_past : AreMarkKeys (key_shape types granularity rows) (rows_of columns n) → at < length bytes → IsPrimaryFault (key_shape types granularity rows) bytes at
  keys_past kept more = record {
    keys = rows_of columns n;
    rest = drop at bytes;
    each = r.each;
    parted = r.begins.parted;
    wrong = inr (kept, r.begins.size_is, λ e. omega (arith, length-drop at bytes, ap length e));
  }

  -- the bytes end there
  pub keys_all : AreMarkKeys (key_shape types granularity rows) (rows_of columns n) → length bytes ≤ at → IsPrimaryOf (key_shape types granularity rows) bytes (rows_of columns n)
  keys_all kept end = record {
    kept = kept;
    spelled = r.begins.parted ∙ ap (λ l. keys_bytes (rows_of columns n) ++ l) (drop_all at bytes end) ∙ append-nil (keys_bytes (rows_of columns n));
  }

-- columns that were lent come back as they were written
pub written_back : (len : ℕ) (items new : List Cells) → len ≡ length items → length new ≡ length items → take len (new ++ drop (length new) items) ≡ new
written_back len items new e same =
    ap (λ (cs : List Cells). take len (new ++ cs)) (drop_all (length new) items (omega arith)) ∙ ap (take len) (append-nil new) ∙ take_all len new (omega arith)

pub length-gained : (wanted : Option ℕ) (bytes : List ℕ) (size : ℕ) (olds news : List Cells) → GainKey wanted bytes size olds news → length news ≡ length olds
length-gained wanted bytes size olds news g =
    let wide : length g.key ≡ length olds = sym (length-map g.key type_of) ∙ ap length g.is_key.typed ∙ length-map olds (λ (c : Cells). c.col_type) in
    ap length g.gained ∙ sym (length-map (with_key olds g.key) (λ (c : Cells). c.col_type)) ∙ ap length (types_with_key olds g.key wide) ∙ length-map olds (λ (c : Cells). c.col_type)

-- the place that is computed is that of the key that is wanted
pub twin_is : (types : List ColType) (granularity rows n full size : ℕ) (wanted : Option ℕ) → wanted ≡ cond (nat_eq (size * (full - 1) + 1) rows) (Some (full - 1)) None → size ≡ granularity → full ≡ granules granularity rows → n ≡ granules granularity rows → wanted ≡ twin_place (ends_alone (key_shape types granularity rows)) n
twin_is types granularity rows n full size wanted is e f g =
    is ∙ ap₂ (λ s k. cond (nat_eq (s * (k - 1) + 1) rows) (Some (k - 1)) None) e f
    ∙ ap (λ k. twin_place (ends_alone (key_shape types granularity rows)) k) (sym g)

-- ---- how the number of granules and the wanted place are computed

-- the walk went over all granules, and knows which key is wanted at the end
pub record IsFinalTurn (granularity rows n : ℕ) (types : List ColType) (wanted : Option ℕ) : Type 0 where
  pub count : n ≡ granules granularity rows
  pub some : 0 < n
  pub there : 0 < rows
  pub twin : wanted ≡ twin_place (ends_alone (key_shape types granularity rows)) n

pub final_turn : (types : List ColType) (granularity rows n full first second : ℕ) (wanted : Option ℕ) → 0 < rows → 0 < granularity → full ≡ div_ceil rows first → first ≡ granularity → second ≡ granularity → n ≤ full → full ≤ n → wanted ≡ cond (nat_eq (second * (full - 1) + 1) rows) (Some (full - 1)) None → IsFinalTurn granularity rows n types wanted
final_turn types granularity rows n full first second wanted there large is e f few past w =
    let all : full ≡ granules granularity rows = is ∙ ap (div_ceil rows) e in
    let count : n ≡ granules granularity rows = omega (arith, all) in
    record {
      count = count;
      some = omega (arith, count, granules_some rows granularity there large);
      there = there;
      twin = twin_is types granularity rows n full second wanted w f all count;
    }

-- the final key, read into columns that were lent and came back
pub record AreAllRead (granularity rows : ℕ) (types : List ColType) (bytes : List ℕ) (at : ℕ) (columns : List Cells) : Type 0 where
  pub keys : ℕ
  pub read : AreKeysRead types bytes at keys columns
  pub kept : AreMarkKeys (key_shape types granularity rows) (rows_of columns keys)

pub all_read : (granularity rows : ℕ) (types : List ColType) (bytes : List ℕ) (at n : ℕ) (columns lent : List Cells) (wanted : Option ℕ) (size len : ℕ) (news : List Cells) → AreKeysRead types bytes at n columns → IsFinalTurn granularity rows n types wanted → lent ≡ columns → len ≡ length columns → GainKey wanted (drop at bytes) size lent news → AreAllRead granularity rows types bytes (at + size) (take len (news ++ drop (length news) columns))
all_read granularity rows types bytes at n columns lent wanted size len news r turn e l gain =
    let g : GainKey wanted (drop at bytes) size columns news = subst (λ (cs : List Cells). GainKey wanted (drop at bytes) size cs news) e gain in
    let back = written_back len columns news l (length-gained wanted (drop at bytes) size columns news g) in
    record {
      keys = n + 1;
      read = subst (AreKeysRead types bytes (at + size) (n + 1)) (sym back) (keys_more r wanted size news g);
      kept = subst (λ (cs : List Cells). AreMarkKeys (key_shape types granularity rows) (rows_of cs (n + 1))) (sym back) (final_kept granularity rows r wanted size news turn.count turn.some turn.there turn.twin g);
    }

module _ {granularity rows : ℕ} {types : List ColType} {bytes : List ℕ} {at : ℕ} {columns : List Cells} (a : AreAllRead granularity rows types bytes at columns) where
  pub all_past : at < length bytes → IsPrimaryFault (key_shape types granularity rows) bytes at
  all_past more = keys_past granularity rows a.read a.kept more

  pub all_wide : length columns ≡ length types
  all_wide = sym (length-map columns (λ (c : Cells). c.col_type)) ∙ ap length a.read.types_are

  pub all_within : at ≤ length bytes
  all_within = keys_within a.read

  -- the number of keys is that of the first column's values
  pub all_len : (c : Cells) → 0 < length types → c ≡ get_or columns 0 c → a.keys ≡ length c.values
  all_len c some here =
      let below : 0 < length columns = omega (arith, all_wide) in
      sym (a.read.even 0 c below) ∙ ap (λ (x : Cells). length x.values) (sym here)

  pub all_have : (n : ℕ) → a.keys ≡ n → HaveKeys columns n
  all_have n e = subst (HaveKeys columns) e a.read.even

  pub all_spelled : (n : ℕ) → a.keys ≡ n → length bytes ≤ at → IsPrimaryOf (key_shape types granularity rows) bytes (rows_of columns n)
  all_spelled n e end = subst (λ k. IsPrimaryOf (key_shape types granularity rows) bytes (rows_of columns k)) e (keys_all granularity rows a.read a.kept end)
