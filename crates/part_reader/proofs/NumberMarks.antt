-- Where granules of numbers begin: each number takes as many bytes, so that its place tells where they are.
use Rattle.std.proofs.Common.{◌≡◌, ◌≢◌, ℕ, suc, ◌+◌, ◌-◌, ◌*◌, ◌<◌, ◌≤◌, List, [], ◌∷◌, ◌++◌, All, Option, Some, None, Result, Ok, Err, IfOk, IfErr, MatchResult, refl, sym, ap, ap₂, ◌∙◌, subst, length, length-append, length-take-le, map, take, drop, take-append-drop, get_or, slice_get, filter_map, arith, suc-mul, mul_comm, mul-zero, zero-add, mul-le-mul_right}
use Rattle.std.specs.Int.{div_ceil}
use Rattle.std.specs.List.{cons_option, range_with_len}
use Rattle.std.specs.Option.{option_map}
use Rattle.std.proofs.Math.Seq.{drop-cons}
use Rattle.std.proofs.lemmas.Grind.{div_ceil_times}
use Rattle.std.proofs.lemmas.List.{drop_at}
use Rattle.std.proofs.lemmas.List.Concat.{flat_map-append}
use Rattle.std.proofs.lemmas.List.Elements.{All-head, All-tail, All-take}
use Rattle.std.proofs.lemmas.List.FromFn.{length-map-range_with_len, map-range_with_len_more}
use Rattle.std.proofs.lemmas.Option.{slice_get-get_or}
use Rattle.mt_values.specs.declared.cell.Cell.{Cell}
use Rattle.mt_values.specs.declared.value.ColType.{ColType}
use Rattle.mt_values.specs.declared.value.ColType.TheVariants as type
use Rattle.mt_values.specs.declared.value.Value.{Value}
use Rattle.mt_values.specs.declared.value.Value.TheVariants as value
use Rattle.mt_values.specs.Cells.{value_of}
use Rattle.mt_values.specs.ColumnBytes.{column_bytes, value_bytes}
use Rattle.part_damage.specs.byte_numbers.declared.faults.FormatFault.{FormatFault}
use Rattle.part_damage.specs.byte_numbers.declared.faults.FormatFault.TheVariants.{NoMemory}
use Rattle.part_damage.specs.byte_numbers.Fronts.{Begins}
use Rattle.part_damage.proofs.ByteNumbersNumbers.{AreBytes}
use Rattle.part_damage.specs.column_file.Faults.{Explains, NoneBegins}
use Rattle.part_damage.specs.column_file.Granules.{granule_start}
use Rattle.part_damage.specs.column_file.Spellings.{IsOfType, IsSpelling, fewest_bytes}
use Rattle.part_damage.proofs.ColumnFileNumbers.{length_number, numbers_read}
use Rattle.part_damage.proofs.ColumnFileOneWay.{value_apart}
use Rattle.part_damage.proofs.ColumnFileReading.{AreRead, read_all}
use Rattle.part_damage.proofs.PrimaryMarksMarkedRows.{starts_more}
use Rattle.part_reader.specs.declared.comparing.ColumnMarks.{ColumnMarks}
use Rattle.part_reader.specs.Compared.{AreBegun, AreMarksIn}
use Rattle.part_reader.proofs.MarkedValues.{AreGone, Walk, gone_all, walk}

-- ---- numbers by their places

-- each number takes as many bytes
numbers_length : (t : ColType) (values : List Value) → t ≢ type.Text → All (IsOfType t) values → length (column_bytes values) ≡ fewest_bytes t * length values
numbers_length t [] other typed = sym (mul-zero (fewest_bytes t))
numbers_length t (v ∷ vs) other typed =
    let size = fewest_bytes t in
    let next : size * suc (length vs) ≡ size * length vs + size = omega arith in
    omega (arith, next, length-append (value_bytes v) (column_bytes vs), length_number t v other (All-head (IsOfType t) v vs typed), numbers_length t vs other (All-tail (IsOfType t) v vs typed))

module _ (t : ColType) (count : ℕ) (bytes : List ℕ) (values : List Value) (other : t ≢ type.Text) (s : IsSpelling t count bytes values) where
  -- the numbers before a place
  front_length : (place : ℕ) → place ≤ count → length (column_bytes (take place values)) ≡ fewest_bytes t * place
  front_length place within =
      numbers_length t (take place values) other (All-take (IsOfType t) place values s.typed) ∙ ap (λ n. fewest_bytes t * n) (length-take-le place values (omega (arith, s.count_is)))

  -- the number at a place, and those after it
  number_parted : (place : ℕ) (d : Value) → place < count → drop (fewest_bytes t * place) bytes ≡ value_bytes (get_or values place d) ++ column_bytes (drop (suc place) values)
  number_parted place d below =
      let at = fewest_bytes t * place in
      ap (drop at) (s.spelled ∙ ap column_bytes (sym (take-append-drop place values)) ∙ flat_map-append value_bytes (take place values) (drop place values))
      ∙ drop_at (column_bytes (take place values)) (column_bytes (drop place values)) at (front_length place (omega arith))
      ∙ ap column_bytes (drop-cons values place d (omega (arith, s.count_is)))

  -- a number begins at its place
  pub number_there : (width place : ℕ) → width ≡ fewest_bytes t → place < count → NoneBegins t (drop (width * place) bytes) → ⊥
  number_there width place same below none =
      let d = value.UInt8 0 in
      let here : NoneBegins t (drop (fewest_bytes t * place) bytes) = subst (λ w. NoneBegins t (drop (w * place) bytes)) same none in
      here (get_or values place d) (column_bytes (drop (suc place) values)) (s.typed place d (omega (arith, s.count_is))) (number_parted place d below)

  -- what is read at a number's place is the number
  pub number_found : (width place size : ℕ) (x : Value) → width ≡ fewest_bytes t → place < count → IsOfType t x → Begins (value_bytes x) size (drop (width * place) bytes)
      → (width * place ≡ length (column_bytes (take place values))) × (slice_get values place ≡ Some x)
  number_found width place size x same below typed b =
      let within : place < length values = omega (arith, s.count_is) in
      let here : Begins (value_bytes x) size (drop (fewest_bytes t * place) bytes) = subst (λ w. Begins (value_bytes x) size (drop (w * place) bytes)) same b in
      let apart = value_apart t x (get_or values place x) (drop size (drop (fewest_bytes t * place) bytes)) (column_bytes (drop (suc place) values)) typed (s.typed place x within) (sym here.parted ∙ number_parted place x below) in (
        ap (λ w. w * place) same ∙ sym (front_length place (omega arith)),
        slice_get-get_or values place x within ∙ ap Some (sym apart.0),
      )

-- bytes that are as many as so many numbers take are those of some
pub numbers_spelled : (t : ColType) (count : ℕ) (bytes : List ℕ) → t ≢ type.Text → AreBytes bytes → length bytes ≡ fewest_bytes t * count → (values : List Value) × AreRead t bytes (length bytes) values × IsSpelling t count bytes values
numbers_spelled t count bytes other are size =
    let n = numbers_read t bytes other are count (omega (arith, size)) in
    let read : AreRead t bytes (length bytes) n.0 = subst (λ at. AreRead t bytes at n.0) (sym size) n.2 in
    (n.0, read, read_all read n.1 (omega arith))

-- ---- granules by their places

-- each granule begins at one of the values
pub starts_below : (count g granule : ℕ) → 0 < g → granule < div_ceil count g → granule * g < count
starts_below count g granule some below =
    let room : suc granule * g ≤ div_ceil count g * g = mul-le-mul_right g below in
    let ceil = div_ceil_times count g some in
    omega (arith, suc-mul granule g, ceil.1)

-- there is a value at each place
pub value_there : (values : List Value) (count place : ℕ) → length values ≡ count → place < count → slice_get values place ≡ None → ⊥
value_there values count place full below none =
    let d = value.UInt8 0 in
    let both : Some (get_or values place d) ≡ None = sym (slice_get-get_or values place d (omega arith)) ∙ none in
    cc

-- so many granules of these values begin at these places and with these values
pub record AreStarted (g : ℕ) (values : List Value) (granules : ℕ) (found : ColumnMarks) : Type 0 where
  pub starts : found.starts ≡ map (granule_start g values) (range_with_len 0 granules)
  pub firsts : found.firsts.values ≡ filter_map (λ granule. slice_get values (g * granule)) (range_with_len 0 granules)

pub started_none : (g : ℕ) (values : List Value) (found : ColumnMarks) → found.starts ≡ [] → found.firsts.values ≡ [] → AreStarted g values 0 found
started_none g values found s f = record { starts = s; firsts = f }

-- one granule more
pub started_more : (g : ℕ) (values : List Value) (granule at : ℕ) (v : Value) (found new : ColumnMarks) → AreStarted g values granule found → (at ≡ length (column_bytes (take (granule * g) values))) × (slice_get values (granule * g) ≡ Some v) → new.starts ≡ found.starts ++ at ∷ [] → new.firsts.values ≡ found.firsts.values ++ v ∷ []
    → AreStarted g values (granule + 1) new
started_more g values granule at v found new b here s f =
    let flip = mul_comm granule g in
    let start : granule_start g values granule ≡ at = sym (here.0 ∙ ap (λ n. length (column_bytes (take n values))) flip) in
    let first : slice_get values (g * granule) ≡ Some v = ap (slice_get values) (sym flip) ∙ here.1 in
    record {
      starts = s ∙ ap₂ (λ (l : List ℕ) (n : ℕ). l ++ n ∷ []) b.starts (sym start) ∙ sym (map-range_with_len_more (granule_start g values) 0 granule granule (zero-add granule));
      firsts = f ∙ ap (λ (l : List Value). l ++ v ∷ []) b.firsts ∙ sym (starts_more g values granule v first);
    }

-- all granules are those that a walk over the values would find
started_begun : (g : ℕ) (values : List Value) (n : ℕ) (found : ColumnMarks) → 0 < g → n ≡ div_ceil (length values) g → AreStarted g values n found → AreBegun g values found (g * n - length values)
started_begun g values n found some all b =
    let long : length found.starts ≡ n = ap length b.starts ∙ length-map-range_with_len (granule_start g values) 0 n in
    let ceil = div_ceil_times (length values) g some in
    let whole : g * n ≡ div_ceil (length values) g * g = ap (λ k. g * k) all ∙ mul_comm g (div_ceil (length values) g) in
    let own : g * length found.starts ≡ g * n = ap (λ k. g * k) long in
    record {
      count_is = omega (arith, own, whole, ceil.0);
      few = omega (arith, whole, ceil.0, ceil.1);
      starts = b.starts ∙ ap (λ k. map (granule_start g values) (range_with_len 0 k)) (sym long);
      firsts = b.firsts ∙ ap (λ k. filter_map (λ granule. slice_get values (g * granule)) (range_with_len 0 k)) (sym long);
    }

-- the marks at their end
pub started_finished : (t : ColType) (count g : ℕ) (bytes : List ℕ) (values : List Value) (n : ℕ) (found : ColumnMarks) (last : Option Cell) (result : Result ColumnMarks FormatFault) → 0 < g → AreRead t bytes (length bytes) values → length values ≡ count → n ≡ div_ceil count g → AreStarted g values n found
    → slice_get values (length values - 1) ≡ option_map value_of last → IfOk result (λ new. new.starts ≡ found.starts ++ length bytes ∷ []) → IfOk result (λ new. new.firsts.values ≡ found.firsts.values ++ cons_option (option_map value_of last) []) → IfErr result (λ e. e ≡ NoMemory)
    → MatchResult result (AreMarksIn t count g bytes) (λ e. e ≡ NoMemory)
started_finished t count g bytes values n found last (Err e) some read full all b is s f memory = memory
started_finished t count g bytes values n found last (Ok new) some read full all b is s f memory =
    let w : Walk = walk (length bytes) (g * n - length values) found last in
    let gone : AreGone t g bytes count w = record {
      values = values;
      read = read;
      count_is = full;
      begun = started_begun g values n found some (all ∙ ap (λ k. div_ceil k g) (sym full)) b;
      last_is = is;
    } in
    gone_all new some gone refl (omega arith) s f

-- out of memory says nothing of the bytes
pub memory_explained : (t : ColType) (count g : ℕ) (bytes : List ℕ) (result : Result ColumnMarks FormatFault) → MatchResult result (AreMarksIn t count g bytes) (λ e. e ≡ NoMemory) → MatchResult result (AreMarksIn t count g bytes) (Explains t count bytes)
memory_explained t count g bytes (Ok found) are = are
memory_explained t count g bytes (Err e) is = subst (Explains t count bytes) (sym is) tt
