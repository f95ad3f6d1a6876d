-- Rows that were printed are read again.
use Rattle.std.proofs.Common.{◌≡◌, ◌≢◌, ℕ, suc, ◌+◌, ◌-◌, ◌*◌, ◌/◌, ◌%◌, ◌^◌, ◌<◌, ◌≤◌, ℤ, pos, negsuc, Bool, true, false, not, cond, ◌&&◌, ◌==◌, List, [], ◌∷◌, ◌++◌, length, map, flat_map, All, Option, Some, None, Ok, Err, nat_le, refl, sym, ap, ap₂, subst, ◌∙◌, arith, append_assoc, append-nil, codes}
use Rattle.std.proofs.lemmas.Bool.Decides.{nat_tests}
use Rattle.std.proofs.lemmas.Fmt.{decimal_by_steps}
use Rattle.std.proofs.lemmas.List.{length-map}
use Rattle.std.proofs.lemmas.List.Elements.{All-head, All-tail}
use Rattle.std.proofs.lemmas.List.Folds.{list_all-append}
use Rattle.std.proofs.lemmas.List.Sums.{fold-append}
use Rattle.std.specs.Char.{is_ascii_digit}
use lib.Signed.{mag}
use Rattle.std.specs.Cmp.Lexicographic.{same_text}
use Rattle.std.specs.Fmt.{decimal, signed_decimal}
use Rattle.std.specs.List.{list_all}
use Rattle.std.specs.Option.{option_map, option_and_then}
use Rattle.mt_values.specs.declared.row_fault.DataFault.TheVariants as data_fault
use Rattle.mt_values.specs.declared.value.ColType.{ColType}
use Rattle.mt_values.specs.declared.value.Value.{Value}
use Rattle.mt_values.specs.declared.value.Value.TheVariants as value
use Rattle.mt_values.specs.Escapes.{escape_of}
use Rattle.mt_values.specs.Grid.{AreRowsOf}
use Rattle.mt_values.specs.Lists.{in_front}
use Rattle.mt_values.specs.Printing.{escaped, field, fields, line}
use Rattle.mt_values.specs.Engines.{keeps_sign}
use Rattle.mt_values.specs.Rows.{digits_up_to, fields_from, inserted_rows, minus, number_of, onto_first, row_limit, row_of_fields, row_of_line, row_onto, rows_behind, signed_below, signed_row_of_line, text_limit, text_of, unescaped, unescaped_behind, unsigned_up_to, value_of_field}
use Rattle.mt_values.specs.Script.{ends_data, line_from, onto}
use Rattle.mt_values.specs.Values.{AreValues, IsValue, Row, type_of, types_of}
use Rattle.mt_values.proofs.Fronts.{parted, parted_none}
use Rattle.mt_values.proofs.RowBounds.{rows_after, rows_after_step}
use Rattle.tsv_fields.proofs.Unescaping.{unescaped_escape, unescaped_plain}
use Rattle.tsv_rows.proofs.SignedRows.{signed_row}

-- ---- numbers

-- these digits, of which there is one at least, say the number
pub record Says (n : ℕ) (bytes : List ℕ) : Type 0 where
  pub digits : list_all is_ascii_digit bytes ≡ true
  pub number : number_of bytes ≡ n
  pub some : 0 < length bytes

one_digit : (n : ℕ) → n < 10 → Says n ((48 + n) ∷ [])
one_digit n small = record { digits = grind (arith, nat_tests); number = omega arith; some = omega arith }

last_digit : (n : ℕ) → is_ascii_digit (48 + n % 10) ≡ true
last_digit n = let small : n % 10 < 10 = omega arith in grind (arith, nat_tests)

length_more : (xs : List ℕ) (x : ℕ) → 0 < length (xs ++ x ∷ [])
length_more [] x = omega arith
length_more (y ∷ ys) x = omega arith

more_digits : (n : ℕ) (bytes : List ℕ) → 10 ≤ n → Says (n / 10) bytes → Says n (bytes ++ (48 + n % 10) ∷ [])
more_digits n bytes large says =
    let whole : n / 10 * 10 + (48 + n % 10 - 48) ≡ n = omega arith in
    record {
      digits = list_all-append is_ascii_digit bytes ((48 + n % 10) ∷ []) ∙ rw (says.digits, last_digit n) refl;
      number = fold-append (λ m b. m * 10 + (b - 48)) 0 bytes ((48 + n % 10) ∷ []) ∙ ap (λ m. m * 10 + (48 + n % 10 - 48)) says.number ∙ whole;
      some = length_more bytes (48 + n % 10);
    }

-- what is printed of a number says it
decimal_says : (n : ℕ) → n < 2 ^ 64 → Says n (decimal n)
decimal_says n small = decimal_by_steps Says one_digit more_digits n small

and_first : (a b : Bool) → (a && b) ≡ true → a ≡ true
and_first true b h = refl
and_first false b h = cc

and_second : (a b : Bool) → (a && b) ≡ true → b ≡ true
and_second true b h = h
and_second false b h = cc

digits_again : (most n : ℕ) (bytes : List ℕ) → Says n bytes → n ≤ most → digits_up_to most bytes ≡ Some n
digits_again most n [] says few = absurd (omega (arith, says.some))
digits_again most n (b ∷ bs) says few = let within : nat_le n most ≡ true = grind (arith, nat_tests) in rw (says.digits, says.number, within) refl

unsigned_again : (most n : ℕ) (bytes : List ℕ) → Says n bytes → n ≤ most → unsigned_up_to most bytes ≡ Some n
unsigned_again most n [] says few = absurd (omega (arith, says.some))
unsigned_again most n (b ∷ bs) says few =
    let digit : is_ascii_digit b ≡ true = and_first (is_ascii_digit b) (list_all is_ascii_digit bs) says.digits in
    let no_plus : (b == 43) ≡ false = grind (arith, nat_tests) in
    rw no_plus (digits_again most n (b ∷ bs) says few)

positive_again : (end n : ℕ) (bytes : List ℕ) → Says n bytes → n < end → signed_below end bytes ≡ Some (pos n)
positive_again end n [] says few = absurd (omega (arith, says.some))
positive_again end n (b ∷ bs) says few =
    let digit : is_ascii_digit b ≡ true = and_first (is_ascii_digit b) (list_all is_ascii_digit bs) says.digits in
    let no_minus : (b == 45) ≡ false = grind (arith, nat_tests) in
    rw no_minus (ap (option_map pos) (unsigned_again (end - 1) n (b ∷ bs) says (omega arith)))

signed_again : (end : ℕ) (z : ℤ) → mag z < end → end ≤ 2 ^ 63 → signed_below end (signed_decimal z) ≡ Some z
signed_again end (pos n) small most = positive_again end n (decimal n) (decimal_says n (omega arith)) small
signed_again end (negsuc n) small most = ap (option_map minus) (digits_again end (suc n) (decimal (suc n)) (decimal_says (suc n) (omega arith)) (omega arith))

-- ---- texts

pair_said : (c b : ℕ) (rest : List ℕ) → escape_of (c ∷ rest) ≡ Some (b, rest) → unescaped (92 ∷ c ∷ rest) ≡ in_front (unescaped rest) b
pair_said c b rest is = unescaped_escape (c ∷ rest) ∙ ap (option_and_then (unescaped_behind unescaped)) is

-- a printed byte says the byte
byte_again : (b : ℕ) (rest : List ℕ) → unescaped (escaped b ++ rest) ≡ in_front (unescaped rest) b
byte_again b rest = by (b == 8) (b == 12) (b == 13) (b == 10) (b == 9) (b == 0) (b == 39) (b == 92) refl refl refl refl refl refl refl refl
  where
    by : (x₁ x₂ x₃ x₄ x₅ x₆ x₇ x₈ : Bool) → (b == 8) ≡ x₁ → (b == 12) ≡ x₂ → (b == 13) ≡ x₃ → (b == 10) ≡ x₄ → (b == 9) ≡ x₅ → (b == 0) ≡ x₆ → (b == 39) ≡ x₇ → (b == 92) ≡ x₈ →
        unescaped
        (cond x₁ (92 ∷ 98 ∷ []) (cond x₂ (92 ∷ 102 ∷ []) (cond x₃ (92 ∷ 114 ∷ []) (cond x₄ (92 ∷ 110 ∷ []) (cond x₅ (92 ∷ 116 ∷ []) (cond x₆ (92 ∷ 48 ∷ []) (cond x₇ (92 ∷ 39 ∷ []) (cond x₈ (92 ∷ 92 ∷ []) (b ∷ []))))))))
        ++ rest)
        ≡ in_front (unescaped rest) b
    by true x₂ x₃ x₄ x₅ x₆ x₇ x₈ e₁ e₂ e₃ e₄ e₅ e₆ e₇ e₈ = let is : 8 ≡ b = grind (arith, nat_tests) in pair_said 98 8 rest refl ∙ ap (in_front (unescaped rest)) is
    by false true x₃ x₄ x₅ x₆ x₇ x₈ e₁ e₂ e₃ e₄ e₅ e₆ e₇ e₈ = let is : 12 ≡ b = grind (arith, nat_tests) in pair_said 102 12 rest refl ∙ ap (in_front (unescaped rest)) is
    by false false true x₄ x₅ x₆ x₇ x₈ e₁ e₂ e₃ e₄ e₅ e₆ e₇ e₈ = let is : 13 ≡ b = grind (arith, nat_tests) in pair_said 114 13 rest refl ∙ ap (in_front (unescaped rest)) is
    by false false false true x₅ x₆ x₇ x₈ e₁ e₂ e₃ e₄ e₅ e₆ e₇ e₈ = let is : 10 ≡ b = grind (arith, nat_tests) in pair_said 110 10 rest refl ∙ ap (in_front (unescaped rest)) is
    by false false false false true x₆ x₇ x₈ e₁ e₂ e₃ e₄ e₅ e₆ e₇ e₈ = let is : 9 ≡ b = grind (arith, nat_tests) in pair_said 116 9 rest refl ∙ ap (in_front (unescaped rest)) is
    by false false false false false true x₇ x₈ e₁ e₂ e₃ e₄ e₅ e₆ e₇ e₈ = let is : 0 ≡ b = grind (arith, nat_tests) in pair_said 48 0 rest refl ∙ ap (in_front (unescaped rest)) is
    by false false false false false false true x₈ e₁ e₂ e₃ e₄ e₅ e₆ e₇ e₈ = let is : 39 ≡ b = grind (arith, nat_tests) in pair_said 39 39 rest refl ∙ ap (in_front (unescaped rest)) is
    by false false false false false false false true e₁ e₂ e₃ e₄ e₅ e₆ e₇ e₈ = let is : 92 ≡ b = grind (arith, nat_tests) in pair_said 92 92 rest refl ∙ ap (in_front (unescaped rest)) is
    by false false false false false false false false e₁ e₂ e₃ e₄ e₅ e₆ e₇ e₈ = unescaped_plain b rest (ap not e₈)

text_again : (bytes : List ℕ) → unescaped (flat_map escaped bytes) ≡ Some bytes
text_again [] = refl
text_again (b ∷ bs) = byte_again b (flat_map escaped bs) ∙ ap (λ o. in_front o b) (text_again bs)

-- ---- values

-- what is printed of a value is the value's field
value_again : (v : Value) → IsValue v → value_of_field (type_of v) (field v) ≡ Ok v
value_again (value.UInt8 n) is = rw (unsigned_again (2 ^ 8 - 1) n (decimal n) (decimal_says n (omega arith)) (omega arith)) refl
value_again (value.UInt16 n) is = rw (unsigned_again (2 ^ 16 - 1) n (decimal n) (decimal_says n (omega arith)) (omega arith)) refl
value_again (value.UInt32 n) is = rw (unsigned_again (2 ^ 32 - 1) n (decimal n) (decimal_says n (omega arith)) (omega arith)) refl
value_again (value.UInt64 n) is = rw (unsigned_again (2 ^ 64 - 1) n (decimal n) (decimal_says n (omega arith)) (omega arith)) refl
value_again (value.Int8 z) is = rw (signed_again (2 ^ 7) z is.sfits (omega arith)) refl
value_again (value.Int16 z) is = rw (signed_again (2 ^ 15) z is.sfits (omega arith)) refl
value_again (value.Int32 z) is = rw (signed_again (2 ^ 31) z is.sfits (omega arith)) refl
value_again (value.Int64 z) is = rw (signed_again (2 ^ 63) z is.sfits (omega arith)) refl
value_again (value.Text bytes) is =
    let few : nat_le (length bytes) text_limit ≡ true = grind (arith, nat_tests, is.1) in
    ap text_of (text_again bytes) ∙ (rw few refl)

-- ---- fields in a line

-- bytes before the first of some fields
abbrev pub onto_front : List ℕ → List (List ℕ) → List (List ℕ)
onto_front front [] = []
onto_front front (f ∷ fs) = (front ++ f) ∷ fs

-- bytes that end neither a field nor a line, and that take no byte after them
pub record IsCalm (bytes : List ℕ) : Type 0 where
  pub in_fields : (rest : List ℕ) → fields_from false (bytes ++ rest) ≡ onto_front bytes (fields_from false rest)
  pub in_line : (rest : List ℕ) → line_from false (bytes ++ rest) ≡ parted bytes (line_from false rest)

front_none : (fs : List (List ℕ)) → fs ≡ onto_front [] fs
front_none [] = refl
front_none (f ∷ fs) = refl

front_one : (b : ℕ) (fs : List (List ℕ)) → onto_first b fs ≡ onto_front (b ∷ []) fs
front_one b [] = refl
front_one b (f ∷ fs) = refl

front_two : (b c : ℕ) (fs : List (List ℕ)) → onto_first b (onto_first c fs) ≡ onto_front (b ∷ c ∷ []) fs
front_two b c [] = refl
front_two b c (f ∷ fs) = refl

front_more : (x y : List ℕ) (fs : List (List ℕ)) → onto_front x (onto_front y fs) ≡ onto_front (x ++ y) fs
front_more x y [] = refl
front_more x y (f ∷ fs) = ap (λ l. l ∷ fs) (sym (append_assoc x y f))

parted_one : (b : ℕ) (o : Option (List ℕ × List ℕ)) → option_map (onto b) o ≡ parted (b ∷ []) o
parted_one b None = refl
parted_one b (Some p) = refl

parted_two : (b c : ℕ) (o : Option (List ℕ × List ℕ)) → option_map (onto b) (option_map (onto c) o) ≡ parted (b ∷ c ∷ []) o
parted_two b c None = refl
parted_two b c (Some p) = refl

parted_on : (x y : List ℕ) (o : Option (List ℕ × List ℕ)) → parted x (parted y o) ≡ parted (x ++ y) o
parted_on x y None = refl
parted_on x y (Some p) = ap (λ (l : List ℕ). Some (l, p.1)) (sym (append_assoc x y p.0))

calm_none : IsCalm []
calm_none = record { in_fields = λ rest. front_none (fields_from false rest); in_line = λ rest. sym (parted_none (line_from false rest)) }

calm_byte : (b : ℕ) → (b == 9) ≡ false → (b == 10) ≡ false → (b == 92) ≡ false → IsCalm (b ∷ [])
calm_byte b no_tab no_feed no_backslash =
    record {
      in_fields = λ rest. rw (no_tab, no_backslash) (front_one b (fields_from false rest));
      in_line = λ rest. rw (no_feed, no_backslash) (parted_one b (line_from false rest));
    }

calm_pair : (c : ℕ) → IsCalm (92 ∷ c ∷ [])
calm_pair c = record { in_fields = λ rest. front_two 92 c (fields_from false rest); in_line = λ rest. parted_two 92 c (line_from false rest) }

calm_append : (x y : List ℕ) → IsCalm x → IsCalm y → IsCalm (x ++ y)
calm_append x y one two =
    record {
      in_fields = λ rest. ap (fields_from false) (append_assoc x y rest) ∙ one.in_fields (y ++ rest) ∙ ap (onto_front x) (two.in_fields rest) ∙ front_more x y (fields_from false rest);
      in_line = λ rest. ap (line_from false) (append_assoc x y rest) ∙ one.in_line (y ++ rest) ∙ ap (parted x) (two.in_line rest) ∙ parted_on x y (line_from false rest);
    }

calm_digits : (bytes : List ℕ) → list_all is_ascii_digit bytes ≡ true → IsCalm bytes
calm_digits [] are = calm_none
calm_digits (b ∷ bs) are =
    let digit : is_ascii_digit b ≡ true = and_first (is_ascii_digit b) (list_all is_ascii_digit bs) are in
    calm_append (b ∷ []) bs (calm_byte b (grind (arith, nat_tests)) (grind (arith, nat_tests)) (grind (arith, nat_tests)))
    (calm_digits bs (and_second (is_ascii_digit b) (list_all is_ascii_digit bs) are))

calm_decimal : (n : ℕ) → n < 2 ^ 64 → IsCalm (decimal n)
calm_decimal n small = let says = decimal_says n small in calm_digits (decimal n) says.digits

calm_signed : (z : ℤ) → mag z < 2 ^ 63 → IsCalm (signed_decimal z)
calm_signed (pos n) small = calm_decimal n (omega arith)
calm_signed (negsuc n) small = calm_append (45 ∷ []) (decimal (suc n)) (calm_byte 45 refl refl refl) (calm_decimal (suc n) (omega arith))

calm_escaped : (b : ℕ) → IsCalm (escaped b)
calm_escaped b = by (b == 8) (b == 12) (b == 13) (b == 10) (b == 9) (b == 0) (b == 39) (b == 92) refl refl refl
  where
    by : (x₁ x₂ x₃ x₄ x₅ x₆ x₇ x₈ : Bool) → (b == 10) ≡ x₄ → (b == 9) ≡ x₅ → (b == 92) ≡ x₈ →
        IsCalm (cond x₁ (92 ∷ 98 ∷ []) (cond x₂ (92 ∷ 102 ∷ []) (cond x₃ (92 ∷ 114 ∷ []) (cond x₄ (92 ∷ 110 ∷ []) (cond x₅ (92 ∷ 116 ∷ []) (cond x₆ (92 ∷ 48 ∷ []) (cond x₇ (92 ∷ 39 ∷ []) (cond x₈ (92 ∷ 92 ∷ []) (b ∷ [])))))))))
    by true x₂ x₃ x₄ x₅ x₆ x₇ x₈ feed tab slash = calm_pair 98
    by false true x₃ x₄ x₅ x₆ x₇ x₈ feed tab slash = calm_pair 102
    by false false true x₄ x₅ x₆ x₇ x₈ feed tab slash = calm_pair 114
    by false false false true x₅ x₆ x₇ x₈ feed tab slash = calm_pair 110
    by false false false false true x₆ x₇ x₈ feed tab slash = calm_pair 116
    by false false false false false true x₇ x₈ feed tab slash = calm_pair 48
    by false false false false false false true x₈ feed tab slash = calm_pair 39
    by false false false false false false false true feed tab slash = calm_pair 92
    by false false false false false false false false feed tab slash = calm_byte b tab feed slash

calm_text : (bytes : List ℕ) → IsCalm (flat_map escaped bytes)
calm_text [] = calm_none
calm_text (b ∷ bs) = calm_append (escaped b) (flat_map escaped bs) (calm_escaped b) (calm_text bs)

-- a printed field ends neither a field nor a line, and takes no byte after it
calm_field : (v : Value) → IsValue v → IsCalm (field v)
calm_field (value.UInt8 n) is = calm_decimal n (omega arith)
calm_field (value.UInt16 n) is = calm_decimal n (omega arith)
calm_field (value.UInt32 n) is = calm_decimal n (omega arith)
calm_field (value.UInt64 n) is = calm_decimal n (omega arith)
calm_field (value.Int8 z) is = calm_signed z (omega (arith, is.sfits))
calm_field (value.Int16 z) is = calm_signed z (omega (arith, is.sfits))
calm_field (value.Int32 z) is = calm_signed z (omega (arith, is.sfits))
calm_field (value.Int64 z) is = calm_signed z (omega (arith, is.sfits))
calm_field (value.Text bytes) is = calm_text bytes

-- ---- lines

-- a printed line has the fields of its row's values
fields_again : (row : Row) → All IsValue row → 0 < length row → fields_from false (fields row) ≡ map field row
fields_again [] are some = absurd (omega arith)
fields_again (v ∷ []) are some =
    let calm = calm_field v (All-head IsValue v [] are) in
    ap (fields_from false) (sym (append-nil (field v))) ∙ calm.in_fields [] ∙ ap (λ f. f ∷ []) (append-nil (field v))
fields_again (v ∷ w ∷ vs) are some =
    let calm = calm_field v (All-head IsValue v (w ∷ vs) are) in
    calm.in_fields (9 ∷ fields (w ∷ vs)) ∙ ap₂ (λ f fs. f ∷ fs) (append-nil (field v)) (fields_again (w ∷ vs) (All-tail IsValue v (w ∷ vs) are) (omega arith))

-- it goes on up to what ends the line after it
line_on : (row : Row) (rest : List ℕ) → All IsValue row → line_from false (fields row ++ rest) ≡ parted (fields row) (line_from false rest)
line_on [] rest are = sym (parted_none (line_from false rest))
line_on (v ∷ []) rest are = let calm = calm_field v (All-head IsValue v [] are) in calm.in_line rest
line_on (v ∷ w ∷ vs) rest are =
    let calm = calm_field v (All-head IsValue v (w ∷ vs) are) in
    let more = fields (w ∷ vs) in
    ap (line_from false) (append_assoc (field v) (9 ∷ more) rest) ∙ calm.in_line (9 ∷ more ++ rest)
    ∙ ap (λ o. parted (field v) (option_map (onto 9) o)) (line_on (w ∷ vs) rest (All-tail IsValue v (w ∷ vs) are))
    ∙ ap (parted (field v)) (parted_one 9 (parted more (line_from false rest)) ∙ parted_on (9 ∷ []) more (line_from false rest))
    ∙ parted_on (field v) (9 ∷ more) (line_from false rest)

-- a printed line ends at its own line feed
pub line_again : (row : Row) (rest : List ℕ) → All IsValue row → line_from false (line row ++ rest) ≡ Some (fields row, rest)
line_again row rest are =
    ap (line_from false) (append_assoc (fields row) (10 ∷ []) rest) ∙ line_on row (10 ∷ rest) are ∙ ap (λ (l : List ℕ). Some (l, rest)) (append-nil (fields row))

-- ---- rows

values_again : (number place : ℕ) (row : Row) → All IsValue row → row_of_fields number place (types_of row) (map field row) ≡ Ok row
values_again number place [] are = refl
values_again number place (v ∷ vs) are = rw (value_again v (All-head IsValue v vs are), values_again number (place + 1) vs (All-tail IsValue v vs are)) refl

-- a printed line is its row, whatever its sign
row_again : (types : List ColType) (row : Row) (number : ℕ) → types_of row ≡ types → All IsValue row → 0 < length row → row_of_line types number (fields row) ≡ Ok row
row_again types row number typed are some =
    let same : (length (map field row) == length (types_of row)) ≡ true =
    let one = length-map row field in let two = length-map row type_of in grind (arith, nat_tests) in
    subst (λ ts. row_of_line ts number (fields row) ≡ Ok row) typed (rw (fields_again row are some, same) (values_again number 1 row are))

-- and so is that of a row whose sign is 1 or -1
pub signed_row_again : (types : List ColType) (sign : Option ℕ) (row : Row) (number : ℕ) → types_of row ≡ types → All IsValue row → 0 < length row → keeps_sign sign row ≡ true
    → signed_row_of_line types sign number (fields row) ≡ Ok row
signed_row_again types sign row number typed are some keeps = signed_row types sign number (fields row) row (row_again types row number typed are some) keeps

-- ---- the line that ends data

not_the_end_by : (v : Value) → value_of_field (type_of v) (92 ∷ 46 ∷ []) ≡ Ok v → field v ≢ 92 ∷ 46 ∷ []
not_the_end_by (value.UInt8 n) is = cc
not_the_end_by (value.UInt16 n) is = cc
not_the_end_by (value.UInt32 n) is = cc
not_the_end_by (value.UInt64 n) is = cc
not_the_end_by (value.Int8 z) is = cc
not_the_end_by (value.Int16 z) is = cc
not_the_end_by (value.Int32 z) is = cc
not_the_end_by (value.Int64 z) is = cc
not_the_end_by (value.Text bytes) is = λ end. let dot : List ℕ = 46 ∷ [] in let same : dot ≡ bytes = cc in let other : dot ≡ 92 ∷ dot = ap (flat_map escaped) same ∙ end in cc

not_the_end : (row : Row) → All IsValue row → fields row ≢ 92 ∷ 46 ∷ []
not_the_end [] are = λ end. cc
not_the_end (v ∷ vs) are =
    λ end.
    let read : fields_from false (92 ∷ 46 ∷ []) ≡ map field (v ∷ vs) = ap (fields_from false) (sym end) ∙ fields_again (v ∷ vs) are (omega arith) in
    let here : field v ≡ 92 ∷ 46 ∷ [] = cc in
    not_the_end_by v (ap (value_of_field (type_of v)) (sym here) ∙ value_again v (All-head IsValue v vs are)) here

-- no printed line is the one that ends data
pub data_again : (row : Row) → All IsValue row → ends_data (fields row) ≡ false
data_again row are = by (ends_data (fields row)) refl
  where
    by : (end : Bool) → ends_data (fields row) ≡ end → end ≡ false
    by true is = absurd (not_the_end row are (same_text (fields row) (codes "\\.") (sym is)))
    by false is = refl

-- ---- rows of data

module _ (types : List ColType) (sign : Option ℕ) (some : 0 < length types) where
  after_again : (count : ℕ) (rows : List Row) → AreRowsOf types rows → AreValues rows → All (λ row. keeps_sign sign row ≡ true) rows → count + length rows ≤ row_limit →
      rows_after types sign true count (flat_map line rows) ≡ Ok rows
  after_again count [] typed are signed few = rows_after_step types sign true count []
  after_again count (row ∷ rows) typed are signed few =
      let one : types_of row ≡ types = All-head (λ r. types_of r ≡ types) row rows typed in
      let values : All IsValue row = All-head (All IsValue) row rows are in
      let keeps : keeps_sign sign row ≡ true = All-head (λ r. keeps_sign sign r ≡ true) row rows signed in
      let size : length row ≡ length types = sym (length-map row type_of) ∙ ap length one in
      let room : nat_le row_limit count ≡ false = grind (arith, nat_tests) in
      let more = after_again (count + 1) rows (All-tail (λ r. types_of r ≡ types) row rows typed) (All-tail (All IsValue) row rows are) (All-tail (λ r. keeps_sign sign r ≡ true) row rows signed) (omega arith) in
      rows_after_step types sign true count (flat_map line (row ∷ rows)) ∙ ap (rows_behind (rows_after types sign true) types sign true count) (line_again row (flat_map line rows) values)
      ∙ ap (λ b. cond b (Err data_fault.TooMany) (row_onto (signed_row_of_line types sign (count + 1) (fields row)) (rows_after types sign true (count + 1) (flat_map line rows)))) room
      ∙ ap₂ row_onto (signed_row_again types sign row (count + 1) one values (omega arith) keeps) more

  -- the lines of rows are the data of these rows
  pub rows_again : (rows : List Row) → AreRowsOf types rows → AreValues rows → All (λ row. keeps_sign sign row ≡ true) rows → length rows ≤ row_limit → inserted_rows types sign (flat_map line rows) true ≡ Ok rows
  rows_again rows typed are signed few = after_again 0 rows typed are signed (omega arith)
