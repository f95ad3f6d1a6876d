-- The test whether bytes spell values is true exactly where they do.
use Rattle.std.proofs.Common.{◌≡◌, ◌≢◌, ℕ, zero, suc, ◌+◌, ◌<◌, ◌≤◌, ◌&&◌, Bool, true, false, cond, eqb, leb, ltb, List, [], ◌∷◌, ◌++◌, All, Option, Some, None, MatchOption, refl, sym, ap, ◌∙◌, subst, length, length-append, length-drop, take, drop, take-append-drop, append_assoc, get_or, arith, zero-add}
use Rattle.std.specs.Bool.{Decides}
use Rattle.std.specs.List.{find, list_all, range_with_len}
use Rattle.std.specs.Option.{option_map, option_map_or}
use Rattle.std.specs.Str.{bytes_eq}
use Rattle.std.proofs.lemmas.Bool.{and_from, and_parts, both_ways, false≢true, le-leb, leb-true}
use Rattle.std.proofs.lemmas.Bool.Decides.{Decides-by_and, Decides-eqb, Decides-like, Decides-ltb}
use Rattle.std.proofs.lemmas.List.{nil_from_length, take_at}
use Rattle.std.proofs.lemmas.List.Elements.{All-cons, All-head, All-nil, All-tail}
use Rattle.std.proofs.lemmas.List.FromFn.{get_or-range_with_len, length-range_with_len}
use Rattle.std.proofs.lemmas.Option.{same_Some}
use Rattle.std.proofs.lemmas.Slice.Eq.{bytes_eq-Decides}
use Rattle.mt_values.specs.declared.value.ColType.{ColType}
use Rattle.mt_values.specs.declared.value.ColType.TheVariants as type
use Rattle.mt_values.specs.declared.value.Value.{Value}
use Rattle.mt_values.specs.declared.value.Value.TheVariants.{Text}
use Rattle.mt_values.specs.ColumnBytes.{column_bytes, leb128, value_bytes}
use Rattle.column_file.specs.Faults.{NoneBegins}
use Rattle.byte_numbers.specs.Fronts.{Begins}
use Rattle.column_file.specs.Spellings.{IsOfType, IsSpelling, Spells, fewest_bytes}
use Rattle.column_file.specs.Tests.{first_size, has_text, number_size, spells, text_size}
use Rattle.byte_numbers.proofs.Numbers.{AreBytes}
use Rattle.column_file.proofs.Numbers.{length_number, number_begins, number_bytes}
use Rattle.column_file.proofs.OneWay.{value_apart}
use Rattle.column_file.proofs.TextParts.{text_begins}

-- ---- the first that passes

find_passes : (p : ℕ → Bool) (xs : List ℕ) (x : ℕ) → find p xs ≡ Some x → p x ≡ true
find_passes p [] x e = absurd cc
find_passes p (y ∷ ys) x e = by (p y) refl e (find_passes p ys x)
  where
    by : (b : Bool) → p y ≡ b → cond b (Some y) (find p ys) ≡ Some x → (find p ys ≡ Some x → p x ≡ true) → p x ≡ true
    by true passes found behind = ap p (sym (same_Some y x found)) ∙ passes
    by false passes found behind = behind found

find_none : (p : ℕ → Bool) (xs : List ℕ) → find p xs ≡ None → All (λ x. p x ≡ false) xs
find_none p [] e = All-nil (λ x. p x ≡ false)
find_none p (y ∷ ys) e = by (p y) refl e (find_none p ys)
  where
    by : (b : Bool) → p y ≡ b → cond b (Some y) (find p ys) ≡ None → (find p ys ≡ None → All (λ x. p x ≡ false) ys) → All (λ x. p x ≡ false) (y ∷ ys)
    by true passes found behind = absurd cc
    by false passes found behind = All-cons (λ x. p x ≡ false) y ys passes (behind found)

none_below : (p : ℕ → Bool) (k n : ℕ) → find p (range_with_len 0 k) ≡ None → n < k → p n ≡ false
none_below p k n e below =
    let there : p (get_or (range_with_len 0 k) n 0) ≡ false = find_none p (range_with_len 0 k) e n 0 (omega (arith, length-range_with_len 0 k)) in
    subst (λ m. p m ≡ false) (get_or-range_with_len 0 k n 0 below ∙ zero-add n) there

-- ---- a value at the front

-- what the size of a first value tells
abbrev pub FirstIs : ColType → List ℕ → Option ℕ → Type 0
FirstIs t bytes size = MatchOption size (NoneBegins t bytes) (λ n. (v : Value) × IsOfType t v × Begins (value_bytes v) n bytes)

all_bytes : (bs : List ℕ) → Decides (list_all (λ b. ltb b 256) bs) (AreBytes bs)
all_bytes bs = Decides-by_and (λ b. ltb b 256) (λ b. b < 256) (list_all (λ b. ltb b 256)) (λ b. Decides-ltb b 256) refl (λ b rest. refl) bs

number_first : (t : ColType) (bytes : List ℕ) → t ≢ type.Text → FirstIs t bytes (number_size (fewest_bytes t) bytes)
number_first t bytes other = by (leb (fewest_bytes t) (length bytes) && list_all (λ b. ltb b 256) (take (fewest_bytes t) bytes)) refl
  where
    by : (b : Bool) → (leb (fewest_bytes t) (length bytes) && list_all (λ b. ltb b 256) (take (fewest_bytes t) bytes)) ≡ b → FirstIs t bytes (cond b (Some (fewest_bytes t)) None)
    by true e =
        let parts = and_parts (leb (fewest_bytes t) (length bytes)) (list_all (λ b. ltb b 256) (take (fewest_bytes t) bytes)) e in
        number_begins t bytes other (leb-true (fewest_bytes t) (length bytes) parts.0) ((all_bytes (take (fewest_bytes t) bytes)).0 parts.1)
    by false e = λ v rest typed h.
        let width : length (value_bytes v) ≡ fewest_bytes t = length_number t v other typed in
        let fits : fewest_bytes t ≤ length bytes = omega (arith, width, ap length h, length-append (value_bytes v) rest) in
        let same : take (fewest_bytes t) bytes ≡ value_bytes v = ap (take (fewest_bytes t)) h ∙ take_at (value_bytes v) rest (fewest_bytes t) width in
        let are : AreBytes (take (fewest_bytes t) bytes) = subst AreBytes (sym same) (number_bytes t v other typed) in
        both_ways (leb (fewest_bytes t) (length bytes) && list_all (λ b. ltb b 256) (take (fewest_bytes t) bytes)) e
        (and_from (leb (fewest_bytes t) (length bytes)) (list_all (λ b. ltb b 256) (take (fewest_bytes t) bytes)) (le-leb (fewest_bytes t) (length bytes) fits) ((all_bytes (take (fewest_bytes t) bytes)).1 are))

-- a text at the front has its test
text_passes : (bytes x rest : List ℕ) → bytes ≡ value_bytes (Text x) ++ rest → (has_text bytes (length x) ≡ true) × (length x < length bytes + 1)
text_passes bytes x rest h =
    let front = leb128 (length x) in
    let parted : bytes ≡ front ++ (x ++ rest) = h ∙ append_assoc front x rest in
    let room : length front + length x ≤ length bytes = omega (arith, ap length parted, length-append front (x ++ rest), length-append x rest) in
    let same : front ≡ take (length front) bytes = sym (ap (take (length front)) parted ∙ take_at front (x ++ rest) (length front) refl) in (
      and_from (bytes_eq front (take (length front) bytes)) (leb (length front + length x) (length bytes)) ((bytes_eq-Decides front (take (length front) bytes)).1 same) (le-leb (length front + length x) (length bytes) room),
      omega arith,
    )

text_there : (bytes : List ℕ) (n : ℕ) → has_text bytes n ≡ true → (v : Value) × IsOfType type.Text v × Begins (value_bytes v) (length (leb128 n) + n) bytes
text_there bytes n test =
    let front = leb128 n in
    let parts = and_parts (bytes_eq front (take (length front) bytes)) (leb (length front + n) (length bytes)) test in
    let same : front ≡ take (length front) bytes = (bytes_eq-Decides front (take (length front) bytes)).0 parts.0 in
    let room : length front + n ≤ length bytes = leb-true (length front + n) (length bytes) parts.1 in
    let begins : Begins front (length front) bytes = record {
      size_is = refl;
      parted = sym (take-append-drop (length front) bytes) ∙ ap (λ l. l ++ drop (length front) bytes) (sym same);
    } in
    (Text (take n (drop (length front) bytes)), (refl, tt), text_begins n (length front) bytes (drop (length front) bytes) begins refl (omega (arith, length-drop (length front) bytes)))

text_first : (bytes : List ℕ) → FirstIs type.Text bytes (text_size bytes)
text_first bytes = by (find (has_text bytes) (range_with_len 0 (length bytes + 1))) refl
  where
    by : (o : Option ℕ) → find (has_text bytes) (range_with_len 0 (length bytes + 1)) ≡ o → FirstIs type.Text bytes (option_map (λ n. length (leb128 n) + n) o)
    by (Some n) e = text_there bytes n (find_passes (has_text bytes) (range_with_len 0 (length bytes + 1)) n e)
    by None e = none
      where
        none : (v : Value) (rest : List ℕ) → IsOfType type.Text v → bytes ≡ value_bytes v ++ rest → ⊥
        none (Text x) rest typed h =
            let passes = text_passes bytes x rest h in
            both_ways (has_text bytes (length x)) (none_below (has_text bytes) (length bytes + 1) (length x) e passes.1) passes.0
        none v rest typed h = absurd cc

pub first_is : (t : ColType) (bytes : List ℕ) → FirstIs t bytes (first_size t bytes)
first_is type.UInt8 bytes = number_first type.UInt8 bytes (λ e. cc)
first_is type.UInt16 bytes = number_first type.UInt16 bytes (λ e. cc)
first_is type.UInt32 bytes = number_first type.UInt32 bytes (λ e. cc)
first_is type.UInt64 bytes = number_first type.UInt64 bytes (λ e. cc)
first_is type.Int8 bytes = number_first type.Int8 bytes (λ e. cc)
first_is type.Int16 bytes = number_first type.Int16 bytes (λ e. cc)
first_is type.Int32 bytes = number_first type.Int32 bytes (λ e. cc)
first_is type.Int64 bytes = number_first type.Int64 bytes (λ e. cc)
first_is type.Text bytes = text_first bytes

-- ---- values

-- a value before those that the rest spells
more_spelled : (t : ColType) (n size : ℕ) (bytes : List ℕ) (v : Value) → IsOfType t v → Begins (value_bytes v) size bytes → Spells t n (drop size bytes) → Spells t (suc n) bytes
more_spelled t n size bytes v typed begins s = record {
  values = v ∷ s.values;
  spelling = record {
    typed = All-cons (IsOfType t) v s.values typed s.spelling.typed;
    count_is = ap suc s.spelling.count_is;
    spelled = begins.parted ∙ ap (λ l. value_bytes v ++ l) s.spelling.spelled;
  };
}

rest_spelled : (t : ColType) (n size : ℕ) (bytes : List ℕ) (v : Value) (values : List Value) → IsOfType t v → Begins (value_bytes v) size bytes → IsSpelling t (suc n) bytes values → Spells t n (drop size bytes)
rest_spelled t n size bytes v [] typed begins s = absurd (omega (arith, s.count_is))
rest_spelled t n size bytes v (w ∷ ws) typed begins s =
    let apart = value_apart t v w (drop size bytes) (column_bytes ws) typed (All-head (IsOfType t) w ws s.typed) (sym begins.parted ∙ s.spelled) in
    record {
      values = ws;
      spelling = record {
        typed = All-tail (IsOfType t) w ws s.typed;
        count_is = omega (arith, s.count_is);
        spelled = apart.1;
      };
    }

none_spelled : (t : ColType) (n : ℕ) (bytes : List ℕ) (values : List Value) → NoneBegins t bytes → IsSpelling t (suc n) bytes values → ⊥
none_spelled t n bytes [] none s = omega (arith, s.count_is)
none_spelled t n bytes (v ∷ vs) none s = none v (column_bytes vs) (All-head (IsOfType t) v vs s.typed) s.spelled

pub spells_Decides : (t : ColType) (count : ℕ) (bytes : List ℕ) → Decides (spells t count bytes) (Spells t count bytes)
spells_Decides t zero bytes =
    Decides-like (eqb (length bytes) 0)
    (λ e. record { values = []; spelling = record { typed = All-nil (IsOfType t); count_is = refl; spelled = nil_from_length bytes e } })
    (λ s. ap length (s.spelling.spelled ∙ ap column_bytes (nil_from_length s.values s.spelling.count_is)))
    (Decides-eqb (length bytes) 0)
spells_Decides t (suc n) bytes = by (first_size t bytes) (first_is t bytes) (λ rest. spells_Decides t n rest)
  where
    by : (o : Option ℕ) → FirstIs t bytes o → ((rest : List ℕ) → Decides (spells t n rest) (Spells t n rest)) → Decides (option_map_or (λ size. spells t n (drop size bytes)) o false) (Spells t (suc n) bytes)
    by None none behind = (λ e. absurd (false≢true e), λ s. absurd (none_spelled t n bytes s.values none s.spelling))
    by (Some size) first behind =
        Decides-like (spells t n (drop size bytes))
        (λ s. more_spelled t n size bytes first.0 first.1 first.2 s)
        (λ s. rest_spelled t n size bytes first.0 s.values first.1 first.2 s.spelling)
        (behind (drop size bytes))
