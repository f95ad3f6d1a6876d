-- What the rows of data are: rows of their columns' types, each value one that its column may hold.
use Rattle.std.proofs.Common.{◌≡◌, ℕ, ◌+◌, ◌-◌, ◌^◌, ◌<◌, ◌≤◌, ℤ, pos, negsuc, Bool, true, false, not, cond, ◌&&◌, ◌==◌, List, [], ◌∷◌, Option, Some, None, Result, Ok, Err, length, All, refl, ap₂, subst, arith, zero, suc, nat_le}
use Rattle.std.specs.Int.{w8, w16, w32, w64}
use Rattle.std.specs.Int.RustNames.{FitsSigned}
use mir.Syntax.{Width}
use mir.Val.{hbits}
use Rattle.std.proofs.lemmas.Bool.{leb-true}
use Rattle.std.proofs.lemmas.Bool.Decides.{nat_tests}
use Rattle.std.proofs.lemmas.List.Elements.{All-nil, All-cons, All-head, All-tail}
use Rattle.std.specs.Char.{is_ascii_digit}
use Rattle.std.specs.List.{list_all}
use Rattle.std.specs.Option.{IfSome, option_map, option_and_then}
use Rattle.std.specs.Result.{IfOk}
use Rattle.mt_values.specs.declared.value.ColType.{ColType}
use Rattle.mt_values.specs.declared.value.ColType.TheVariants as type
use Rattle.mt_values.specs.declared.value.Value.{Value}
use Rattle.mt_values.specs.declared.value.Value.TheVariants as value
use Rattle.mt_values.specs.declared.row_fault.DataFault.{DataFault}
use Rattle.mt_values.specs.declared.row_fault.DataFault.TheVariants as data_fault
use Rattle.mt_values.specs.declared.row_fault.FieldFault.{FieldFault}
use Rattle.mt_values.specs.declared.row_fault.FieldFault.TheVariants as field_fault
use Rattle.mt_values.specs.declared.row_fault.RowFault.{RowFault}
use Rattle.mt_values.specs.declared.row_fault.RowFault.TheVariants as row_fault
use Rattle.mt_values.specs.Escapes.{escape_byte, escape_of, hex_byte, hex_digit, hex_pair}
use Rattle.mt_values.specs.Grid.{AreRowsOf}
use Rattle.mt_values.specs.Lists.{in_front}
use Rattle.mt_values.specs.Engines.{keeps_sign}
use Rattle.mt_values.specs.Rows.{at_field, digits_up_to, fields_from, inserted_rows, minus, number_of, onto_first, or_not_of_type, row_limit, row_of_fields, row_of_line, row_onto, rows_behind, rows_within, signed_below, signed_row_of_line, text_of, unescaped, unescaped_behind, unescaped_within, unsigned_up_to, value_of_field, value_onto, with_sign}
use Rattle.mt_values.specs.Script.{line_from, onto, takes_next}
use Rattle.mt_values.specs.Values.{Row, AreValues, IsValue, type_of, types_of}

-- every byte is one
abbrev pub AreBytes : List ℕ → Type 0
AreBytes bytes = All (λ (b : ℕ). b < 2 ^ 8) bytes

-- what holds of a value that is there
pub if_some : {X : Type 0} (P : X → Type 0) (o : Option X) (x : X) → o ≡ Some x → IfSome o P → P x
if_some P o x is h = subst (λ z. IfSome z P) is h

pub if_ok : {X E : Type 0} (P : X → Type 0) (r : Result X E) (x : X) → r ≡ Ok x → IfOk r P → P x
if_ok P r x is h = subst (λ z. IfOk z P) is h

-- ---- numbers

digits_within : (most : ℕ) (bytes : List ℕ) → IfSome (digits_up_to most bytes) (λ n. n ≤ most)
digits_within most [] = tt
digits_within most (b ∷ bs) = by (list_all is_ascii_digit (b ∷ bs)) (nat_le (number_of (b ∷ bs)) most) refl
  where
    by : (digits few : Bool) → nat_le (number_of (b ∷ bs)) most ≡ few → IfSome (cond (digits && few) (Some (number_of (b ∷ bs))) None) (λ n. n ≤ most)
    by true true e = leb-true (number_of (b ∷ bs)) most e
    by true false e = tt
    by false few e = tt

unsigned_within : (most : ℕ) (bytes : List ℕ) → IfSome (unsigned_up_to most bytes) (λ n. n ≤ most)
unsigned_within most [] = tt
unsigned_within most (b ∷ bs) = by (b == 43)
  where
    by : (plus : Bool) → IfSome (cond plus (digits_up_to most bs) (digits_up_to most (b ∷ bs))) (λ n. n ≤ most)
    by true = digits_within most bs
    by false = digits_within most (b ∷ bs)

-- a number from the negative of an end up to the number below it
abbrev pub Below : ℕ → ℤ → Type 0
Below end (pos n) = n < end
Below end (negsuc n) = n < end

minus_below : (end : ℕ) (o : Option ℕ) → 0 < end → IfSome o (λ n. n ≤ end) → IfSome (option_map minus o) (Below end)
minus_below end None some h = tt
minus_below end (Some zero) some h = some
minus_below end (Some (suc n)) some h = omega arith

pos_below : (end : ℕ) (o : Option ℕ) → 0 < end → IfSome o (λ n. n ≤ end - 1) → IfSome (option_map pos o) (Below end)
pos_below end None some h = tt
pos_below end (Some n) some h = omega arith

signed_within : (end : ℕ) (bytes : List ℕ) → 0 < end → IfSome (signed_below end bytes) (Below end)
signed_within end [] some = tt
signed_within end (b ∷ bs) some = by (b == 45)
  where
    by : (negative : Bool) → IfSome (cond negative (option_map minus (digits_up_to end bs)) (option_map pos (unsigned_up_to (end - 1) (b ∷ bs)))) (Below end)
    by true = minus_below end (digits_up_to end bs) some (digits_within end bs)
    by false = pos_below end (unsigned_up_to (end - 1) (b ∷ bs)) some (unsigned_within (end - 1) (b ∷ bs))

-- ---- texts

digit_small : (c : ℕ) → IfSome (hex_digit c) (λ d. d < 16)
digit_small c = by (is_ascii_digit c) (nat_le 97 c && nat_le c 102) (nat_le 65 c && nat_le c 70) refl refl refl
  where
    by : (digit lower upper : Bool) → is_ascii_digit c ≡ digit → (nat_le 97 c && nat_le c 102) ≡ lower → (nat_le 65 c && nat_le c 70) ≡ upper →
        IfSome (cond digit (Some (c - 48)) (cond lower (Some (c - 87)) (cond upper (Some (c - 55)) None))) (λ d. d < 16)
    by true lower upper p q r = grind (arith, nat_tests)
    by false true upper p q r = grind (arith, nat_tests)
    by false false true p q r = grind (arith, nat_tests)
    by false false false p q r = tt

hex_small : (h l : Option ℕ) → IfSome h (λ d. d < 16) → IfSome l (λ d. d < 16) → IfSome (hex_byte h l) (λ b. b < 2 ^ 8)
hex_small None l p q = tt
hex_small (Some h) None p q = tt
hex_small (Some h) (Some l) p q = omega arith

-- a byte and the bytes after it
abbrev pub AreFound : ℕ × List ℕ → Type 0
AreFound found = (found.0 < 2 ^ 8) × AreBytes found.1

pair_bytes : (bs : List ℕ) (o : Option ℕ) → AreBytes bs → IfSome o (λ b. b < 2 ^ 8) → IfSome (option_map (λ b. (b, bs)) o) AreFound
pair_bytes bs None are h = tt
pair_bytes bs (Some b) are h = (h, are)

hex_pair_bytes : (bs : List ℕ) → AreBytes bs → IfSome (hex_pair bs) AreFound
hex_pair_bytes [] are = tt
hex_pair_bytes (h ∷ []) are = tt
hex_pair_bytes (h ∷ l ∷ bs) are =
    let P : ℕ → Type 0 = λ b. b < 2 ^ 8 in
    pair_bytes bs (hex_byte (hex_digit h) (hex_digit l)) (All-tail P l bs (All-tail P h (l ∷ bs) are)) (hex_small (hex_digit h) (hex_digit l) (digit_small h) (digit_small l))

escape_byte_small : (c : ℕ) → c < 2 ^ 8 → escape_byte c < 2 ^ 8
escape_byte_small c small = by (c == 98) (c == 102) (c == 114) (c == 110) (c == 116) (c == 48) (c == 97) (c == 118)
  where
    by : (x₁ x₂ x₃ x₄ x₅ x₆ x₇ x₈ : Bool) →
        cond x₁ 8 (cond x₂ 12 (cond x₃ 13 (cond x₄ 10 (cond x₅ 9 (cond x₆ 0 (cond x₇ 7 (cond x₈ 11 c))))))) < 2 ^ 8
    by true x₂ x₃ x₄ x₅ x₆ x₇ x₈ = omega arith
    by false true x₃ x₄ x₅ x₆ x₇ x₈ = omega arith
    by false false true x₄ x₅ x₆ x₇ x₈ = omega arith
    by false false false true x₅ x₆ x₇ x₈ = omega arith
    by false false false false true x₆ x₇ x₈ = omega arith
    by false false false false false true x₇ x₈ = omega arith
    by false false false false false false true x₈ = omega arith
    by false false false false false false false true = omega arith
    by false false false false false false false false = small

escape_bytes : (bs : List ℕ) → AreBytes bs → IfSome (escape_of bs) AreFound
escape_bytes [] are = tt
escape_bytes (c ∷ bs) are = by (c == 120) (c == 78)
  where
    by : (hex none : Bool) → IfSome (cond hex (hex_pair bs) (cond none None (Some (escape_byte c, bs)))) AreFound
    by true none = hex_pair_bytes bs (All-tail (λ (b : ℕ). b < 2 ^ 8) c bs are)
    by false true = tt
    by false false = (escape_byte_small c (All-head (λ (b : ℕ). b < 2 ^ 8) c bs are), All-tail (λ (b : ℕ). b < 2 ^ 8) c bs are)

front_bytes : (o : Option (List ℕ)) (b : ℕ) → b < 2 ^ 8 → IfSome o AreBytes → IfSome (in_front o b) AreBytes
front_bytes None b small are = tt
front_bytes (Some bs) b small are = All-cons (λ (c : ℕ). c < 2 ^ 8) b bs small are

said_bytes : (f : List ℕ → Option (List ℕ)) (o : Option (ℕ × List ℕ)) → IfSome o AreFound → ((rest : List ℕ) → AreBytes rest → IfSome (f rest) AreBytes) → IfSome (option_and_then (unescaped_behind f) o) AreBytes
said_bytes f None are more = tt
said_bytes f (Some found) are more = front_bytes (f found.1) found.0 are.0 (more found.1 are.1)

unescaped_bytes_by : (escape : Bool) (f : List ℕ → Option (List ℕ)) (b : ℕ) (bs : List ℕ) → AreBytes (b ∷ bs) → ((rest : List ℕ) → AreBytes rest → IfSome (f rest) AreBytes) →
    IfSome (cond escape (option_and_then (unescaped_behind f) (escape_of bs)) (in_front (f bs) b)) AreBytes
unescaped_bytes_by true f b bs are more = said_bytes f (escape_of bs) (escape_bytes bs (All-tail (λ (c : ℕ). c < 2 ^ 8) b bs are)) more
unescaped_bytes_by false f b bs are more = front_bytes (f bs) b (All-head (λ (c : ℕ). c < 2 ^ 8) b bs are) (more bs (All-tail (λ (c : ℕ). c < 2 ^ 8) b bs are))

unescaped_bytes : (n : ℕ) (text : List ℕ) → AreBytes text → IfSome (unescaped_within n text) AreBytes
unescaped_bytes zero text are = tt
unescaped_bytes (suc n) [] are = are
unescaped_bytes (suc n) (b ∷ bs) are = unescaped_bytes_by (b == 92) (unescaped_within n) b bs are (unescaped_bytes n)

-- ---- values

number_value : {X : Type 0} (make : X → Value) (P : X → Type 0) (o : Option X) → ((x : X) → P x → IsValue (make x)) → IfSome o P → IfOk (or_not_of_type make o) IsValue
number_value make P None fits h = tt
number_value make P (Some x) fits h = fits x h

text_value : (o : Option (List ℕ)) → IfSome o AreBytes → IfOk (text_of o) IsValue
text_value None are = tt
text_value (Some bytes) are = by (nat_le (length bytes) 1048576) refl
  where
    by : (few : Bool) → nat_le (length bytes) 1048576 ≡ few → IfOk (cond few (Ok (value.Text bytes)) (Err field_fault.TooLong)) IsValue
    by true e = (are, leb-true (length bytes) 1048576 e)
    by false e = tt

fits : (w : Width) (z : ℤ) → Below (2 ^ hbits w) z → FitsSigned w z
fits w (pos n) h = record { sfits = h }
fits w (negsuc n) h = record { sfits = h }

-- the value of a field is one that its column may hold
value_is : (t : ColType) (field : List ℕ) → AreBytes field → IfOk (value_of_field t field) IsValue
value_is type.UInt8 field are = number_value value.UInt8 (λ n. n ≤ 2 ^ 8 - 1) (unsigned_up_to (2 ^ 8 - 1) field) (λ n h. omega arith) (unsigned_within (2 ^ 8 - 1) field)
value_is type.UInt16 field are = number_value value.UInt16 (λ n. n ≤ 2 ^ 16 - 1) (unsigned_up_to (2 ^ 16 - 1) field) (λ n h. omega arith) (unsigned_within (2 ^ 16 - 1) field)
value_is type.UInt32 field are = number_value value.UInt32 (λ n. n ≤ 2 ^ 32 - 1) (unsigned_up_to (2 ^ 32 - 1) field) (λ n h. omega arith) (unsigned_within (2 ^ 32 - 1) field)
value_is type.UInt64 field are = number_value value.UInt64 (λ n. n ≤ 2 ^ 64 - 1) (unsigned_up_to (2 ^ 64 - 1) field) (λ n h. omega arith) (unsigned_within (2 ^ 64 - 1) field)
value_is type.Int8 field are = number_value value.Int8 (Below (2 ^ 7)) (signed_below (2 ^ 7) field) (fits w8) (signed_within (2 ^ 7) field (omega arith))
value_is type.Int16 field are = number_value value.Int16 (Below (2 ^ 15)) (signed_below (2 ^ 15) field) (fits w16) (signed_within (2 ^ 15) field (omega arith))
value_is type.Int32 field are = number_value value.Int32 (Below (2 ^ 31)) (signed_below (2 ^ 31) field) (fits w32) (signed_within (2 ^ 31) field (omega arith))
value_is type.Int64 field are = number_value value.Int64 (Below (2 ^ 63)) (signed_below (2 ^ 63) field) (fits w64) (signed_within (2 ^ 63) field (omega arith))
value_is type.Text field are = text_value (unescaped field) (unescaped_bytes (length field + 1) field are)

number_typed : {X : Type 0} (make : X → Value) (t : ColType) (o : Option X) → ((x : X) → type_of (make x) ≡ t) → IfOk (or_not_of_type make o) (λ v. type_of v ≡ t)
number_typed make t None is = tt
number_typed make t (Some x) is = is x

text_typed : (o : Option (List ℕ)) → IfOk (text_of o) (λ v. type_of v ≡ type.Text)
text_typed None = tt
text_typed (Some bytes) = by (nat_le (length bytes) 1048576)
  where
    by : (few : Bool) → IfOk (cond few (Ok (value.Text bytes)) (Err field_fault.TooLong)) (λ v. type_of v ≡ type.Text)
    by true = refl
    by false = tt

-- it is of its column's type
pub value_typed : (t : ColType) (field : List ℕ) → IfOk (value_of_field t field) (λ v. type_of v ≡ t)
value_typed type.UInt8 field = number_typed value.UInt8 type.UInt8 (unsigned_up_to (2 ^ 8 - 1) field) (λ n. refl)
value_typed type.UInt16 field = number_typed value.UInt16 type.UInt16 (unsigned_up_to (2 ^ 16 - 1) field) (λ n. refl)
value_typed type.UInt32 field = number_typed value.UInt32 type.UInt32 (unsigned_up_to (2 ^ 32 - 1) field) (λ n. refl)
value_typed type.UInt64 field = number_typed value.UInt64 type.UInt64 (unsigned_up_to (2 ^ 64 - 1) field) (λ n. refl)
value_typed type.Int8 field = number_typed value.Int8 type.Int8 (signed_below (2 ^ 7) field) (λ n. refl)
value_typed type.Int16 field = number_typed value.Int16 type.Int16 (signed_below (2 ^ 15) field) (λ n. refl)
value_typed type.Int32 field = number_typed value.Int32 type.Int32 (signed_below (2 ^ 31) field) (λ n. refl)
value_typed type.Int64 field = number_typed value.Int64 type.Int64 (signed_below (2 ^ 63) field) (λ n. refl)
value_typed type.Text field = text_typed (unescaped field)

-- ---- the parts of lines

-- fields of bytes
abbrev pub AreFields : List (List ℕ) → Type 0
AreFields fields = All AreBytes fields

first_bytes : (b : ℕ) (fields : List (List ℕ)) → b < 2 ^ 8 → AreFields fields → AreFields (onto_first b fields)
first_bytes b [] small are = are
first_bytes b (f ∷ fs) small are = All-cons AreBytes (b ∷ f) fs (All-cons (λ (c : ℕ). c < 2 ^ 8) b f small (All-head AreBytes f fs are)) (All-tail AreBytes f fs are)

fields_by : (tab : Bool) (b : ℕ) (behind fields : List (List ℕ)) → b < 2 ^ 8 → AreFields behind → AreFields fields → AreFields (cond tab ([] ∷ behind) (onto_first b fields))
fields_by true b behind fields small are also = All-cons AreBytes [] behind (All-nil (λ (c : ℕ). c < 2 ^ 8)) are
fields_by false b behind fields small are also = first_bytes b fields small also

pub fields_bytes : (taken : Bool) (line : List ℕ) → AreBytes line → AreFields (fields_from taken line)
fields_bytes taken [] are = All-cons AreBytes [] [] are (All-nil AreBytes)
fields_bytes taken (b ∷ bs) are =
    let rest = All-tail (λ (c : ℕ). c < 2 ^ 8) b bs are in
    fields_by (not taken && b == 9) b (fields_from false bs) (fields_from (takes_next taken b) bs) (All-head (λ (c : ℕ). c < 2 ^ 8) b bs are)
    (fields_bytes false bs rest) (fields_bytes (takes_next taken b) bs rest)

-- a line of bytes and the bytes after it
abbrev pub ArePartsOfBytes : List ℕ × List ℕ → Type 0
ArePartsOfBytes found = AreBytes found.0 × AreBytes found.1

line_by : (feed : Bool) (b : ℕ) (bs : List ℕ) (o : Option (List ℕ × List ℕ)) → b < 2 ^ 8 → AreBytes bs → IfSome o ArePartsOfBytes → IfSome (cond feed (Some ([], bs)) (option_map (onto b) o)) ArePartsOfBytes
line_by true b bs o small are also = (All-nil (λ (c : ℕ). c < 2 ^ 8), are)
line_by false b bs None small are also = tt
line_by false b bs (Some found) small are also = (All-cons (λ (c : ℕ). c < 2 ^ 8) b found.0 small also.0, also.1)

pub line_bytes : (taken : Bool) (text : List ℕ) → AreBytes text → IfSome (line_from taken text) ArePartsOfBytes
line_bytes taken [] are = tt
line_bytes taken (b ∷ bs) are =
    let rest = All-tail (λ (c : ℕ). c < 2 ^ 8) b bs are in
    line_by (not taken && b == 10) b bs (line_from (takes_next taken b) bs) (All-head (λ (c : ℕ). c < 2 ^ 8) b bs are) rest (line_bytes (takes_next taken b) bs rest)

-- ---- rows

row_onto_values : (line place : ℕ) (v : Result Value FieldFault) (row : Result Row RowFault) → IfOk v IsValue → IfOk row (All IsValue) → IfOk (value_onto (at_field line place v) row) (All IsValue)
row_onto_values line place (Err fault) row is are = tt
row_onto_values line place (Ok v) (Err fault) is are = tt
row_onto_values line place (Ok v) (Ok vs) is are = All-cons IsValue v vs is are

fields_values : (line place : ℕ) (types : List ColType) (fields : List (List ℕ)) → AreFields fields → IfOk (row_of_fields line place types fields) (All IsValue)
fields_values line place [] fields are = All-nil IsValue
fields_values line place (t ∷ ts) [] are = All-nil IsValue
fields_values line place (t ∷ ts) (f ∷ fs) are =
    row_onto_values line place (value_of_field t f) (row_of_fields line (place + 1) ts fs) (value_is t f (All-head AreBytes f fs are)) (fields_values line (place + 1) ts fs (All-tail AreBytes f fs are))

-- the values of a line's row are ones that their columns may hold
pub row_values : (types : List ColType) (line : ℕ) (text : List ℕ) → AreBytes text → IfOk (row_of_line types line text) (All IsValue)
row_values types line text are = by (length (fields_from false text) == length types)
  where
    by : (same : Bool) → IfOk (cond same (row_of_fields line 1 types (fields_from false text)) (Err (row_fault.Fields line (length (fields_from false text)) (length types)))) (All IsValue)
    by true = fields_values line 1 types (fields_from false text) (fields_bytes false text are)
    by false = tt

row_onto_typed : (line place : ℕ) (t : ColType) (ts : List ColType) (v : Result Value FieldFault) (row : Result Row RowFault) → IfOk v (λ x. type_of x ≡ t) → IfOk row (λ r. types_of r ≡ ts) →
    IfOk (value_onto (at_field line place v) row) (λ r. types_of r ≡ t ∷ ts)
row_onto_typed line place t ts (Err fault) row is are = tt
row_onto_typed line place t ts (Ok v) (Err fault) is are = tt
row_onto_typed line place t ts (Ok v) (Ok vs) is are = ap₂ (λ x xs. x ∷ xs) is are

pub fields_typed : (line place : ℕ) (types : List ColType) (fields : List (List ℕ)) → length fields ≡ length types → IfOk (row_of_fields line place types fields) (λ r. types_of r ≡ types)
fields_typed line place [] fields same = refl
fields_typed line place (t ∷ ts) [] same = absurd (omega arith)
fields_typed line place (t ∷ ts) (f ∷ fs) same =
    row_onto_typed line place t ts (value_of_field t f) (row_of_fields line (place + 1) ts fs) (value_typed t f) (fields_typed line (place + 1) ts fs (omega arith))

-- they are of their columns' types
pub row_typed : (types : List ColType) (line : ℕ) (text : List ℕ) → IfOk (row_of_line types line text) (λ r. types_of r ≡ types)
row_typed types line text = by (length (fields_from false text) == length types) refl
  where
    by : (same : Bool) → (length (fields_from false text) == length types) ≡ same →
        IfOk (cond same (row_of_fields line 1 types (fields_from false text)) (Err (row_fault.Fields line (length (fields_from false text)) (length types)))) (λ r. types_of r ≡ types)
    by true e = fields_typed line 1 types (fields_from false text) (grind (arith, nat_tests))
    by false e = tt

-- ---- rows of data

rows_onto : (P : Row → Type 0) (row : Result Row RowFault) (rows : Result (List Row) DataFault) → IfOk row P → IfOk rows (All P) → IfOk (row_onto row rows) (All P)
rows_onto P (Err fault) rows is are = tt
rows_onto P (Ok row) (Err fault) is are = tt
rows_onto P (Ok row) (Ok rows) is are = All-cons P row rows is are

rows_by : (P : Row → Type 0) (Q : List ℕ → Type 0) (f : ℕ → List ℕ → Result (List Row) DataFault) (types : List ColType) (sign : Option ℕ) (ended : Bool) (count : ℕ) (o : Option (List ℕ × List ℕ)) →
    ((text : List ℕ) → Q text → IfOk (signed_row_of_line types sign (count + 1) text) P) → IfSome o (λ found. Q found.0 × Q found.1) → ((text : List ℕ) → Q text → IfOk (f (count + 1) text) (All P)) →
    IfOk (rows_behind f types sign ended count o) (All P)
rows_by P Q f types sign true count None row parts more = All-nil P
rows_by P Q f types sign false count None row parts more = tt
rows_by P Q f types sign ended count (Some found) row parts more = many (nat_le row_limit count)
  where
    many : (full : Bool) → IfOk (cond full (Err data_fault.TooMany) (row_onto (signed_row_of_line types sign (count + 1) found.0) (f (count + 1) found.1))) (All P)
    many true = tt
    many false = rows_onto P (signed_row_of_line types sign (count + 1) found.0) (f (count + 1) found.1) (row found.0 parts.0) (more found.1 parts.1)

-- what holds of the row of a line holds of it where its sign is asked too
signed_holds : (P : Row → Type 0) (sign : Option ℕ) (line : ℕ) (row : Result Row RowFault) → IfOk row P → IfOk (with_sign sign line row) P
signed_holds P sign line (Err fault) is = tt
signed_holds P sign line (Ok row) is = by (keeps_sign sign row)
  where
    by : (keeps : Bool) → IfOk (cond keeps (Ok row) (Err (row_fault.Sign line))) P
    by true = is
    by false = tt

rows_values : (n : ℕ) (types : List ColType) (sign : Option ℕ) (ended : Bool) (count : ℕ) (lines : List ℕ) → AreBytes lines → IfOk (rows_within n types sign ended count lines) AreValues
rows_values zero types sign ended count lines are = All-nil (All IsValue)
rows_values (suc n) types sign ended count lines are =
    rows_by (All IsValue) AreBytes (rows_within n types sign ended) types sign ended count (line_from false lines)
    (λ text is. signed_holds (All IsValue) sign (count + 1) (row_of_line types (count + 1) text) (row_values types (count + 1) text is)) (line_bytes false lines are)
    (λ text is. rows_values n types sign ended (count + 1) text is)

-- the values of the rows that data adds are ones that their columns may hold
pub inserted_values : (types : List ColType) (sign : Option ℕ) (lines : List ℕ) (ended : Bool) → AreBytes lines → IfOk (inserted_rows types sign lines ended) AreValues
inserted_values types sign lines ended are = rows_values (length lines + 1) types sign ended 0 lines are

any_parts : (o : Option (List ℕ × List ℕ)) → IfSome o (λ found. Unit {0} × Unit {0})
any_parts None = tt
any_parts (Some found) = (tt, tt)

rows_typed : (n : ℕ) (types : List ColType) (sign : Option ℕ) (ended : Bool) (count : ℕ) (lines : List ℕ) → IfOk (rows_within n types sign ended count lines) (AreRowsOf types)
rows_typed zero types sign ended count lines = All-nil (λ row. types_of row ≡ types)
rows_typed (suc n) types sign ended count lines =
    rows_by (λ row. types_of row ≡ types) (λ text. Unit {0}) (rows_within n types sign ended) types sign ended count (line_from false lines)
    (λ text is. signed_holds (λ row. types_of row ≡ types) sign (count + 1) (row_of_line types (count + 1) text) (row_typed types (count + 1) text)) (any_parts (line_from false lines))
    (λ text is. rows_typed n types sign ended (count + 1) text)

-- they are rows of the columns' types
pub inserted_typed : (types : List ColType) (sign : Option ℕ) (lines : List ℕ) (ended : Bool) → IfOk (inserted_rows types sign lines ended) (AreRowsOf types)
inserted_typed types sign lines ended = rows_typed (length lines + 1) types sign ended 0 lines

signed_row : (sign : Option ℕ) (line : ℕ) (row : Result Row RowFault) → IfOk (with_sign sign line row) (λ r. keeps_sign sign r ≡ true)
signed_row sign line (Err fault) = tt
signed_row sign line (Ok row) = by (keeps_sign sign row) refl
  where
    by : (keeps : Bool) → keeps_sign sign row ≡ keeps → IfOk (cond keeps (Ok row) (Err (row_fault.Sign line))) (λ r. keeps_sign sign r ≡ true)
    by true e = e
    by false e = tt

rows_signed : (n : ℕ) (types : List ColType) (sign : Option ℕ) (ended : Bool) (count : ℕ) (lines : List ℕ) → IfOk (rows_within n types sign ended count lines) (All (λ row. keeps_sign sign row ≡ true))
rows_signed zero types sign ended count lines = All-nil (λ row. keeps_sign sign row ≡ true)
rows_signed (suc n) types sign ended count lines =
    rows_by (λ row. keeps_sign sign row ≡ true) (λ text. Unit {0}) (rows_within n types sign ended) types sign ended count (line_from false lines)
    (λ text is. signed_row sign (count + 1) (row_of_line types (count + 1) text)) (any_parts (line_from false lines))
    (λ text is. rows_signed n types sign ended (count + 1) text)

-- each has the sign 1 or -1, where the table has a sign
pub inserted_signed : (types : List ColType) (sign : Option ℕ) (lines : List ℕ) (ended : Bool) → IfOk (inserted_rows types sign lines ended) (All (λ row. keeps_sign sign row ≡ true))
inserted_signed types sign lines ended = rows_signed (length lines + 1) types sign ended 0 lines
