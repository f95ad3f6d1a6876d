-- Where granules of values begin, as a walk over a column's bytes finds them value by value.
use Rattle.std.proofs.Common.{◌≡◌, ℕ, zero, suc, ◌+◌, ◌-◌, ◌*◌, ◌<◌, ◌≤◌, List, [], ◌∷◌, ◌++◌, Option, Some, None, IfSome, Result, Ok, Err, IfOk, IfErr, MatchResult, refl, sym, ap, ap₂, ◌∙◌, subst, length, length-append, map, take, drop, get_or, slice_get, filter_map, All, arith, suc-mul, mul_comm, mul-zero, zero-add, mul-le-mul_right}
use Rattle.std.specs.Int.{div_ceil}
use Rattle.std.specs.List.{cons_option, range_with_len}
use Rattle.std.specs.Option.{option_map}
use Rattle.std.proofs.lemmas.Grind.{div_ceil_times}
use Rattle.std.proofs.lemmas.List.{length_push, take-append-le, take_all}
use Rattle.std.proofs.lemmas.List.FromFn.{map-range_with_len_more}
use Rattle.std.proofs.lemmas.Option.{get_or_from_slice_get, slice_get-get_or, slice_get_within}
use Rattle.mt_values.specs.declared.cell.Cell.{Cell}
use Rattle.mt_values.specs.declared.value.ColType.{ColType}
use Rattle.mt_values.specs.declared.value.Value.{Value}
use Rattle.mt_values.specs.Cells.{value_of}
use Rattle.mt_values.specs.ColumnBytes.{column_bytes, value_bytes}
use Rattle.mt_values.specs.Values.{type_of}
use Rattle.part_damage.specs.byte_numbers.declared.faults.FormatFault.{FormatFault}
use Rattle.part_damage.specs.byte_numbers.declared.faults.FormatFault.TheVariants.{NoMemory}
use Rattle.part_damage.specs.byte_numbers.Fronts.{Begins}
use Rattle.part_damage.specs.column_file.Faults.{Explains, IsFirstFault, NoneBegins}
use Rattle.part_damage.specs.column_file.Granules.{granule_start, marks_of}
use Rattle.part_damage.specs.column_file.Marks.{granules, with_final}
use Rattle.part_damage.specs.column_file.Spellings.{IsOfType}
use Rattle.mt_values.proofs.Covers.{same_count}
use Rattle.part_damage.proofs.ColumnFileReading.{AreRead, read_all, read_more, read_none, read_past, read_stuck, read_within}
use Rattle.part_damage.proofs.PrimaryMarksKeysRead.{slice_get-push_new, slice_get-push_old}
use Rattle.part_damage.proofs.PrimaryMarksMarkedRows.{last_only, map_on_range, starts_more}
use Rattle.part_reader.specs.declared.comparing.ColumnMarks.{ColumnMarks}
use Rattle.part_reader.specs.Compared.{AreBegun, AreMarksIn}

-- ---- one value more

found_on_range : {Y : Type 0} (f h : ℕ → Option Y) (a n : ℕ) → ((k : ℕ) → k < a + n → f k ≡ h k) → filter_map f (range_with_len a n) ≡ filter_map h (range_with_len a n)
found_on_range f h a zero e = refl
found_on_range f h a (suc n) e = ap₂ cons_option (e a (omega arith)) (found_on_range f h (a + 1) n (λ k below. e k (omega arith)))

mul-add-one : (a k : ℕ) → a * (k + 1) ≡ a * k + a
mul-add-one a k = omega arith

-- a granule begins with one of the values
begins_below : (g : ℕ) (values : List Value) (found : ColumnMarks) (left k : ℕ) → AreBegun g values found left → k < length found.starts → g * k < length values
begins_below g values found left k b below =
    let room : suc k * g ≤ length found.starts * g = mul-le-mul_right g below in
    omega (arith, b.count_is, b.few, suc-mul k g, mul_comm k g, mul_comm (length found.starts) g)

module _ (g : ℕ) (values : List Value) (v : Value) where
  start_kept : (k : ℕ) → g * k ≤ length values → granule_start g (values ++ v ∷ []) k ≡ granule_start g values k
  start_kept k below = ap (λ (vs : List Value). length (column_bytes vs)) (take-append-le (g * k) values (v ∷ []) below)

  starts_kept : (n : ℕ) → ((k : ℕ) → k < n → g * k < length values) → map (granule_start g (values ++ v ∷ [])) (range_with_len 0 n) ≡ map (granule_start g values) (range_with_len 0 n)
  starts_kept n below =
      map_on_range (granule_start g (values ++ v ∷ [])) (granule_start g values) 0 n (λ k h.
      let within : g * k < length values = below k (omega arith) in
      start_kept k (omega arith))

  firsts_kept : (n : ℕ) → ((k : ℕ) → k < n → g * k < length values) → filter_map (λ k. slice_get (values ++ v ∷ []) (g * k)) (range_with_len 0 n) ≡ filter_map (λ k. slice_get values (g * k)) (range_with_len 0 n)
  firsts_kept n below =
      found_on_range (λ k. slice_get (values ++ v ∷ []) (g * k)) (λ k. slice_get values (g * k)) 0 n (λ k h. slice_get-push_old values v (g * k) (below k (omega arith)))

  -- a value of the last granule
  pub within_granule : (found : ColumnMarks) (left rest : ℕ) → AreBegun g values found left → 0 < left → rest ≡ left - 1 → AreBegun g (values ++ v ∷ []) found rest
  within_granule found left rest b some e = record {
    count_is = omega (arith, b.count_is, length-append values (v ∷ []));
    few = omega (arith, b.few);
    starts = b.starts ∙ sym (starts_kept (length found.starts) (λ k h. begins_below g values found left k b h));
    firsts = b.firsts ∙ sym (firsts_kept (length found.starts) (λ k h. begins_below g values found left k b h));
  }

  -- a value with which a granule begins
  pub granule_begins : (found new : ColumnMarks) (left rest at : ℕ) → 0 < g → AreBegun g values found left → left ≡ 0 → at ≡ length (column_bytes values) → new.starts ≡ found.starts ++ at ∷ [] → new.firsts.values ≡ found.firsts.values ++ v ∷ [] → rest ≡ g - 1
      → AreBegun g (values ++ v ∷ []) new rest
  granule_begins found new left rest at some b none here s f e =
      let k = length found.starts in
      let count : length new.starts ≡ k + 1 = ap length s ∙ length_push found.starts at in
      let all : g * length new.starts ≡ g * k + g = ap (λ n. g * n) count ∙ mul-add-one g k in
      let full : length values ≡ g * k = omega (arith, b.count_is) in
      let start : granule_start g (values ++ v ∷ []) k ≡ at =
      start_kept k (omega arith) ∙ ap (λ n. length (column_bytes (take n values))) (sym full) ∙ ap (λ (vs : List Value). length (column_bytes vs)) (take_all (length values) values (omega arith)) ∙ sym here in
      let first : slice_get (values ++ v ∷ []) (g * k) ≡ Some v = slice_get-push_new values v (g * k) full in
      record {
        count_is = omega (arith, all, full, length-append values (v ∷ []));
        few = omega arith;
        starts = s ∙ ap₂ (λ (l : List ℕ) (n : ℕ). l ++ n ∷ []) (b.starts ∙ sym (starts_kept k (λ j h. begins_below g values found left j b h))) (sym start)
            ∙ sym (map-range_with_len_more (granule_start g (values ++ v ∷ [])) 0 k k (zero-add k))
            ∙ ap (λ n. map (granule_start g (values ++ v ∷ [])) (range_with_len 0 n)) (sym count);
        firsts = f ∙ ap (λ (l : List Value). l ++ v ∷ []) (b.firsts ∙ sym (firsts_kept k (λ j h. begins_below g values found left j b h)))
            ∙ sym (starts_more g (values ++ v ∷ []) k v first)
            ∙ ap (λ n. filter_map (λ j. slice_get (values ++ v ∷ []) (g * j)) (range_with_len 0 n)) (sym count);
      }

-- none is begun
none_begun : (g : ℕ) (found : ColumnMarks) → 0 < g → found.starts ≡ [] → found.firsts.values ≡ [] → AreBegun g [] found 0
none_begun g found some s f =
    let none : g * length found.starts ≡ 0 = ap (λ (l : List ℕ). g * length l) s ∙ mul-zero g in
    record {
      count_is = omega (arith, none);
      few = some;
      starts = s ∙ ap (λ (l : List ℕ). map (granule_start g []) (range_with_len 0 (length l))) (sym s);
      firsts = f ∙ ap (λ (l : List ℕ). filter_map (λ k. slice_get [] (g * k)) (range_with_len 0 (length l))) (sym s);
    }

-- ---- all values

last_option : {X : Type 0} (xs : List X) (o : Option X) → slice_get xs (length xs - 1) ≡ o → cons_option o [] ≡ drop (length xs - 1) xs
last_option xs (Some x) e = sym (last_only xs x e)
last_option [] None e = refl
last_option (x ∷ xs) None e =
    let there = slice_get-get_or (x ∷ xs) (length (x ∷ xs) - 1) x (omega arith) in
    let both : Some (get_or (x ∷ xs) (length (x ∷ xs) - 1) x) ≡ None = sym there ∙ e in
    absurd cc

module _ (g : ℕ) (values : List Value) (found : ColumnMarks) (left : ℕ) (some : 0 < g) (b : AreBegun g values found left) where
  count : length found.starts ≡ granules g (length values)
  count =
      let k = length found.starts in
      let flip = mul_comm k g in
      let ceil = div_ceil_times (length values) g some in
      same_count (length values) g k (div_ceil (length values) g) (omega (arith, b.count_is)) (omega (arith, b.count_is, b.few)) ceil.0 ceil.1

  starts_whole : (starts : List ℕ) (at : ℕ) → at ≡ length (column_bytes values) → starts ≡ found.starts ++ at ∷ [] → starts ≡ marks_of g values
  starts_whole starts at here e =
      let k = length found.starts in
      let end : granule_start g values k ≡ at = ap (λ (vs : List Value). length (column_bytes vs)) (take_all (g * k) values (omega (arith, b.count_is))) ∙ sym here in
      e ∙ ap₂ (λ (l : List ℕ) (n : ℕ). l ++ n ∷ []) b.starts (sym end)
      ∙ sym (map-range_with_len_more (granule_start g values) 0 k k (zero-add k))
      ∙ ap (λ n. map (granule_start g values) (range_with_len 0 (n + 1))) count

  firsts_whole : (firsts : List Value) (last : Option Value) → slice_get values (length values - 1) ≡ last → firsts ≡ found.firsts.values ++ cons_option last [] → firsts ≡ with_final g values
  firsts_whole firsts last is e =
      e ∙ ap₂ (λ (l r : List Value). l ++ r) (b.firsts ∙ ap (λ n. filter_map (λ k. slice_get values (g * k)) (range_with_len 0 n)) count) (last_option values last is)

-- ---- a walk over bytes

-- how far a walk has come: its place, how many values the last granule wants, what it found, and the last value
pub record Walk : Type 0 where
  pub at : ℕ
  pub left : ℕ
  pub found : ColumnMarks
  pub last : Option Value

abbrev pub walk : ℕ → ℕ → ColumnMarks → Option Cell → Walk
walk at left found last = record { at = at; left = left; found = found; last = option_map value_of last }

-- so many values are gone over
pub record AreGone (t : ColType) (g : ℕ) (bytes : List ℕ) (count : ℕ) (w : Walk) : Type 0 where
  pub values : List Value
  pub read : AreRead t bytes w.at values
  pub count_is : length values ≡ count
  pub begun : AreBegun g values w.found w.left
  pub last_is : slice_get values (length values - 1) ≡ w.last

pub gone_none : (t : ColType) (g : ℕ) (bytes : List ℕ) (found : ColumnMarks) → 0 < g → found.starts ≡ [] → found.firsts.values ≡ [] → AreGone t g bytes 0 (walk 0 0 found None)
gone_none t g bytes found some s f = record {
  values = [];
  read = read_none t bytes;
  count_is = refl;
  begun = none_begun g found some s f;
  last_is = refl;
}

module _ {t : ColType} {g : ℕ} {bytes : List ℕ} {k : ℕ} {w : Walk} where
  pub gone_within : AreGone t g bytes k w → w.at ≤ length bytes
  gone_within a = read_within a.read

  pub gone_more : (new : Walk) (v : Value) (size : ℕ) → AreGone t g bytes k w → IsOfType t v → Begins (value_bytes v) size (drop w.at bytes)
      → ((values : List Value) → w.at ≡ length (column_bytes values) → AreBegun g values w.found w.left → AreBegun g (values ++ v ∷ []) new.found new.left) → new.at ≡ w.at + size → new.last ≡ Some v → AreGone t g bytes (k + 1) new
  gone_more new v size a typed b more here last =
      let all : length (a.values ++ v ∷ []) ≡ length a.values + 1 = length_push a.values v in
      let end : length (a.values ++ v ∷ []) - 1 ≡ length a.values = omega arith in
      record {
        values = a.values ++ v ∷ [];
        read = subst (λ p. AreRead t bytes p (a.values ++ v ∷ [])) (sym here) (read_more v size a.read typed b);
        count_is = omega (arith, a.count_is);
        begun = more a.values a.read.begins.size_is a.begun;
        last_is = ap (slice_get (a.values ++ v ∷ [])) end ∙ slice_get-push_new a.values v (length a.values) refl ∙ sym last;
      }

  pub gone_stuck : {count : ℕ} → AreGone t g bytes k w → k < count → NoneBegins t (drop w.at bytes) → IsFirstFault t count bytes w.at
  gone_stuck a few none = read_stuck a.read (omega (arith, a.count_is)) none

  pub gone_past : {count : ℕ} → AreGone t g bytes k w → k ≡ count → w.at < length bytes → IsFirstFault t count bytes w.at
  gone_past a full more = read_past a.read (a.count_is ∙ full) more

  pub gone_all : {count : ℕ} (new : ColumnMarks) → 0 < g → AreGone t g bytes k w → k ≡ count → length bytes ≤ w.at → new.starts ≡ w.found.starts ++ w.at ∷ [] → new.firsts.values ≡ w.found.firsts.values ++ cons_option w.last [] → AreMarksIn t count g bytes new
  gone_all new some a full end s f = record {
    values = a.values;
    spelling = read_all a.read (a.count_is ∙ full) end;
    starts = starts_whole g a.values w.found w.left some a.begun new.starts w.at a.read.begins.size_is s;
    firsts = firsts_whole g a.values w.found w.left some a.begun new.firsts.values w.last a.last_is f;
  }

  -- the walk at its end
  pub gone_finished : {count : ℕ} (result : Result ColumnMarks FormatFault) → 0 < g → AreGone t g bytes k w → k ≡ count → length bytes ≤ w.at → IfOk result (λ new. new.starts ≡ w.found.starts ++ w.at ∷ []) → IfOk result (λ new. new.firsts.values ≡ w.found.firsts.values ++ cons_option w.last [])
      → IfErr result (λ e. e ≡ NoMemory) → MatchResult result (AreMarksIn t count g bytes) (Explains t count bytes)
  gone_finished (Ok new) some a full end s f none = gone_all new some a full end s f
  gone_finished {count} (Err e) some a full end s f none = subst (Explains t count bytes) (sym none) tt

-- the last value is of the type
pub last_typed : (t u : ColType) (values : List Value) (last : Option Cell) → All (IsOfType t) values → slice_get values (length values - 1) ≡ option_map value_of last → u ≡ t → IfSome last (λ cell. type_of (value_of cell) ≡ u)
last_typed t u values None typed is same = tt
last_typed t u values (Some cell) typed is same =
    let k = length values - 1 in
    let v = value_of cell in
    (subst (IsOfType t) (get_or_from_slice_get values k v v is) (typed k v (slice_get_within values k v is))).0 ∙ sym same
