-- When the plain program's tests of a change hold: where the change is one of the table's.
use Rattle.std.proofs.Common.{◌≡◌, ◌≢◌, ℕ, suc, ◌<◌, ◌≤◌, ◌^◌, ℤ, pos, negsuc, Bool, true, false, cond, not, ◌&&◌, ◌||◌, Decides, List, [], ◌∷◌, All, AllPairs, Contains, Option, None, Some, length, map, nat_eq, nat_le, nat_lt, is_some, slice_get, refl, sym, ap, subst, ◌∙◌, arith}
use Rattle.std.specs.List.{list_all, list_any}
use Rattle.std.specs.Option.{option_map}
use Rattle.std.specs.Int.{w8, w16, w32, w64}
use Rattle.std.specs.Int.RustNames.{FitsSigned, int_le}
use mir.Syntax.{Width}
use mir.Val.{hbits}
use Rattle.std.proofs.lemmas.Bool.{le-leb, leb-true}
use Rattle.std.proofs.lemmas.Bool.Decides.{Decides-and, Decides-at, Decides-by_and, Decides-by_or, Decides-eqb, Decides-like, Decides-ltb, Decides-not, Decides-or}
use Rattle.std.proofs.lemmas.List.{length-map}
use Rattle.std.proofs.lemmas.List.Elements.{All-cons, All-head, All-nil, Decides-contains}
use Rattle.std.proofs.lemmas.List.Kept.{AllPairs-cons}
use Rattle.std.proofs.lemmas.Option.{slice_get-map}
use Rattle.mt_base.specs.Limits.{text_limit}
use Rattle.mt_values.specs.declared.change.Assigned.{Assigned}
use Rattle.mt_values.specs.declared.change.Assigned.TheVariants as assigned
use Rattle.mt_values.specs.declared.change.Assignment.{Assignment}
use Rattle.mt_values.specs.declared.change.Change.{Change}
use Rattle.mt_values.specs.declared.change.Change.TheVariants as change
use Rattle.mt_values.specs.declared.engine.Engine.{Engine}
use Rattle.mt_values.specs.declared.engine.Engine.TheVariants as engine
use Rattle.mt_values.specs.declared.expr.Test.{Test}
use Rattle.mt_values.specs.declared.schema.Column.{Column}
use Rattle.mt_values.specs.declared.schema.Schema.{Schema}
use Rattle.mt_values.specs.declared.value.ColType.{ColType}
use Rattle.mt_values.specs.declared.value.ColType.TheVariants as type
use Rattle.mt_values.specs.declared.value.Value.{Value}
use Rattle.mt_values.specs.declared.value.Value.TheVariants as value
use Rattle.mt_values.specs.Conditions.{Condition, tests_of}
use Rattle.mt_values.specs.Engines.{has_type_that, is_kept_apart}
use Rattle.mt_values.specs.Literals.{integer_below, number_value}
use Rattle.mt_values.specs.Schemas.{column_types}
use Rattle.mt_values.specs.Values.{IsValue, type_of}
use Rattle.mt_values.specs.contracts.value.ColTypePartialEq.TheImpl as types
use Rattle.part_history.specs.mt_model.Mutations.{AreOfOneType, IsAssignable, IsAssignment, IsChangeOf, IsConditionOf, IsNumberAt, IsTestOf, IsValueAt, is_protected, reads_of}
use Rattle.mt_plain.specs.Changes.{are_assignments, are_once, has_type, have_one_type, is_assignable, is_assignment, is_change, is_condition, is_free, is_moved, is_natural, is_number, is_number_at, is_of_key, is_plain, is_put, is_test, is_text, is_value, is_value_at, may_ask, reads_freely, same_type}

-- ---- lists and numbers

all_decides : {X : Type 0} (p : X → Bool) (P : X → Type 0) → ((x : X) → Decides (p x) (P x)) → (xs : List X) → Decides (list_all p xs) (All P xs)
all_decides p P each xs = Decides-by_and p P (list_all p) each refl (λ x ys. refl) xs

le_decides : (a b : ℕ) → Decides (nat_le a b) (a ≤ b)
le_decides a b = (leb-true a b, le-leb a b)

false_decides : (b : Bool) → Decides (not b) (b ≡ false)
false_decides true = (λ e. cc, λ e. cc)
false_decides false = (λ e. refl, λ e. refl)

true_decides : (b : Bool) → Decides b (b ≡ true)
true_decides b = (λ e. e, λ e. e)

not_either : (b c : Bool) → not (b || c) ≡ (not b && not c)
not_either true c = refl
not_either false c = refl

is_there : {X : Type 0} (b : Bool) (x : X) → is_some (cond b (Some x) None) ≡ b
is_there true x = refl
is_there false x = refl

pub natural_is : (z : ℤ) → int_le (pos 0) z ≡ is_natural z
natural_is (pos n) = le-leb 0 n (omega arith)
natural_is (negsuc n) = refl

-- ---- values that their types hold

int_decides : (w : Width) (z : ℤ) → Decides (is_some (integer_below (2 ^ hbits w) z)) (FitsSigned w z)
int_decides w (pos n) =
    Decides-at (is_some (integer_below (2 ^ hbits w) (pos n))) (nat_lt n (2 ^ hbits w)) (is_there (nat_lt n (2 ^ hbits w)) (pos n))
    (Decides-like (nat_lt n (2 ^ hbits w)) (λ below. record { sfits = below }) (λ fits. fits.sfits) (Decides-ltb n (2 ^ hbits w)))
int_decides w (negsuc n) =
    Decides-at (is_some (integer_below (2 ^ hbits w) (negsuc n))) (nat_lt n (2 ^ hbits w)) (is_there (nat_lt n (2 ^ hbits w)) (negsuc n))
    (Decides-like (nat_lt n (2 ^ hbits w)) (λ below. record { sfits = below }) (λ fits. fits.sfits) (Decides-ltb n (2 ^ hbits w)))

text_decides : (bytes : List ℕ) → Decides (is_text bytes) (All (λ b. b < 2 ^ 8) bytes × (length bytes ≤ text_limit))
text_decides bytes =
    Decides-and (list_all (λ b. nat_lt b (2 ^ 8)) bytes) (nat_le (length bytes) text_limit)
    (all_decides (λ b. nat_lt b (2 ^ 8)) (λ b. b < 2 ^ 8) (λ b. Decides-ltb b (2 ^ 8)) bytes) (le_decides (length bytes) text_limit)

value_decides : (v : Value) → Decides (is_value v) (IsValue v)
value_decides (value.UInt8 n) = Decides-ltb n (2 ^ 8)
value_decides (value.UInt16 n) = Decides-ltb n (2 ^ 16)
value_decides (value.UInt32 n) = Decides-ltb n (2 ^ 32)
value_decides (value.UInt64 n) = Decides-ltb n (2 ^ 64)
value_decides (value.Int8 z) = int_decides w8 z
value_decides (value.Int16 z) = int_decides w16 z
value_decides (value.Int32 z) = int_decides w32 z
value_decides (value.Int64 z) = int_decides w64 z
value_decides (value.Text bytes) = text_decides bytes

-- a number that was read is in the range of its type
pub small_8 : (n : ℕ) → n < 2 ^ 8 → true ≡ is_value (value.UInt8 n)
small_8 n below = sym ((value_decides (value.UInt8 n)).1 below)

pub small_16 : (n : ℕ) → n < 2 ^ 16 → true ≡ is_value (value.UInt16 n)
small_16 n below = sym ((value_decides (value.UInt16 n)).1 below)

pub small_32 : (n : ℕ) → n < 2 ^ 32 → true ≡ is_value (value.UInt32 n)
small_32 n below = sym ((value_decides (value.UInt32 n)).1 below)

pub small_64 : (n : ℕ) → n < 2 ^ 64 → true ≡ is_value (value.UInt64 n)
small_64 n below = sym ((value_decides (value.UInt64 n)).1 below)

pub fits_8 : (z : ℤ) → FitsSigned w8 z → true ≡ is_value (value.Int8 z)
fits_8 z fits = sym ((value_decides (value.Int8 z)).1 fits)

pub fits_16 : (z : ℤ) → FitsSigned w16 z → true ≡ is_value (value.Int16 z)
fits_16 z fits = sym ((value_decides (value.Int16 z)).1 fits)

pub fits_32 : (z : ℤ) → FitsSigned w32 z → true ≡ is_value (value.Int32 z)
fits_32 z fits = sym ((value_decides (value.Int32 z)).1 fits)

pub fits_64 : (z : ℤ) → FitsSigned w64 z → true ≡ is_value (value.Int64 z)
fits_64 z fits = sym ((value_decides (value.Int64 z)).1 fits)

-- and bytes that were read are a text that a column may hold, where there are not too many
pub few_bytes : (bytes : List ℕ) → All (λ b. b < 2 ^ 8) bytes → nat_le (length bytes) text_limit ≡ is_text bytes
few_bytes bytes are =
    ap (λ b. b && nat_le (length bytes) text_limit) (sym ((all_decides (λ b. nat_lt b (2 ^ 8)) (λ b. b < 2 ^ 8) (λ b. Decides-ltb b (2 ^ 8)) bytes).1 are))

-- ---- types

pub same_is : (a b : ColType) → types.eq-value.it a b ≡ same_type a b
same_is type.UInt8 type.UInt8 = refl
same_is type.UInt16 type.UInt16 = refl
same_is type.UInt32 type.UInt32 = refl
same_is type.UInt64 type.UInt64 = refl
same_is type.Int8 type.Int8 = refl
same_is type.Int16 type.Int16 = refl
same_is type.Int32 type.Int32 = refl
same_is type.Int64 type.Int64 = refl
same_is type.Text type.Text = refl
same_is a b = refl

type_decides : (a b : ColType) → Decides (same_type a b) (a ≡ b)
type_decides type.UInt8 type.UInt8 = (λ e. refl, λ e. refl)
type_decides type.UInt16 type.UInt16 = (λ e. refl, λ e. refl)
type_decides type.UInt32 type.UInt32 = (λ e. refl, λ e. refl)
type_decides type.UInt64 type.UInt64 = (λ e. refl, λ e. refl)
type_decides type.Int8 type.Int8 = (λ e. refl, λ e. refl)
type_decides type.Int16 type.Int16 = (λ e. refl, λ e. refl)
type_decides type.Int32 type.Int32 = (λ e. refl, λ e. refl)
type_decides type.Int64 type.Int64 = (λ e. refl, λ e. refl)
type_decides type.Text type.Text = (λ e. refl, λ e. refl)
type_decides a b = (λ e. cc, λ e. cc)

-- of the type of a column that may be there
found_decides : (t : ColType) (found : Option Column) → Decides (has_type_that (same_type t) found) (option_map (λ (c : Column). c.col_type) found ≡ Some t)
found_decides t None = (λ e. cc, λ e. cc)
found_decides t (Some column) = Decides-like (same_type t column.col_type) (λ e. ap Some (sym e)) (λ e. cc) (type_decides t column.col_type)

-- ---- numbers without a minus

-- a value with a number without a minus, that its type holds
record IsNatural (t : ColType) (v : Value) : Type 0 where
  typed : type_of v ≡ t
  held : IsValue v
  natural : is_number v ≡ true

made : {X : Type 0} (make : X → Value) (x : X) (b : Bool) (t : ColType) (v : Value) → option_map make (cond b (Some x) None) ≡ Some v → (b ≡ true → IsNatural t (make x)) → IsNatural t v
made make x true t v e h = let same : make x ≡ v = cc in subst (IsNatural t) same (h refl)
made make x false t v e h = cc

below : (n end : ℕ) → nat_lt n end ≡ true → n < end
below n end e = (Decides-ltb n end).0 e

number_is : (t : ColType) (n : ℕ) (v : Value) → number_value t (pos n) ≡ Some v → IsNatural t v
number_is type.UInt8 n v e = made value.UInt8 n (nat_lt n (2 ^ 8)) type.UInt8 v e (λ lt. record { typed = refl; held = below n (2 ^ 8) lt; natural = refl })
number_is type.UInt16 n v e = made value.UInt16 n (nat_lt n (2 ^ 16)) type.UInt16 v e (λ lt. record { typed = refl; held = below n (2 ^ 16) lt; natural = refl })
number_is type.UInt32 n v e = made value.UInt32 n (nat_lt n (2 ^ 32)) type.UInt32 v e (λ lt. record { typed = refl; held = below n (2 ^ 32) lt; natural = refl })
number_is type.UInt64 n v e = made value.UInt64 n (nat_lt n (2 ^ 64)) type.UInt64 v e (λ lt. record { typed = refl; held = below n (2 ^ 64) lt; natural = refl })
number_is type.Int8 n v e = made value.Int8 (pos n) (nat_lt n (2 ^ 7)) type.Int8 v e (λ lt. record { typed = refl; held = record { sfits = below n (2 ^ 7) lt }; natural = refl })
number_is type.Int16 n v e = made value.Int16 (pos n) (nat_lt n (2 ^ 15)) type.Int16 v e (λ lt. record { typed = refl; held = record { sfits = below n (2 ^ 15) lt }; natural = refl })
number_is type.Int32 n v e = made value.Int32 (pos n) (nat_lt n (2 ^ 31)) type.Int32 v e (λ lt. record { typed = refl; held = record { sfits = below n (2 ^ 31) lt }; natural = refl })
number_is type.Int64 n v e = made value.Int64 (pos n) (nat_lt n (2 ^ 63)) type.Int64 v e (λ lt. record { typed = refl; held = record { sfits = below n (2 ^ 63) lt }; natural = refl })
number_is type.Text n v e = cc

-- the number of such a value
has_number : (v : Value) → IsValue v → is_number v ≡ true → (n : ℕ) × (number_value (type_of v) (pos n) ≡ Some v)
has_number (value.UInt8 n) held e = (n, ap (λ (b : Bool). option_map value.UInt8 (cond b (Some n) None)) ((Decides-ltb n (2 ^ 8)).1 held))
has_number (value.UInt16 n) held e = (n, ap (λ (b : Bool). option_map value.UInt16 (cond b (Some n) None)) ((Decides-ltb n (2 ^ 16)).1 held))
has_number (value.UInt32 n) held e = (n, ap (λ (b : Bool). option_map value.UInt32 (cond b (Some n) None)) ((Decides-ltb n (2 ^ 32)).1 held))
has_number (value.UInt64 n) held e = (n, ap (λ (b : Bool). option_map value.UInt64 (cond b (Some n) None)) ((Decides-ltb n (2 ^ 64)).1 held))
has_number (value.Int8 (pos n)) held e = (n, ap (λ (b : Bool). option_map value.Int8 (cond b (Some (pos n)) None)) ((Decides-ltb n (2 ^ 7)).1 held.sfits))
has_number (value.Int8 (negsuc n)) held e = cc
has_number (value.Int16 (pos n)) held e = (n, ap (λ (b : Bool). option_map value.Int16 (cond b (Some (pos n)) None)) ((Decides-ltb n (2 ^ 15)).1 held.sfits))
has_number (value.Int16 (negsuc n)) held e = cc
has_number (value.Int32 (pos n)) held e = (n, ap (λ (b : Bool). option_map value.Int32 (cond b (Some (pos n)) None)) ((Decides-ltb n (2 ^ 31)).1 held.sfits))
has_number (value.Int32 (negsuc n)) held e = cc
has_number (value.Int64 (pos n)) held e = (n, ap (λ (b : Bool). option_map value.Int64 (cond b (Some (pos n)) None)) ((Decides-ltb n (2 ^ 63)).1 held.sfits))
has_number (value.Int64 (negsuc n)) held e = cc
has_number (value.Text bytes) held e = cc

-- ---- what belongs to the columns of a table

module _ (columns : List Column) where
  abbrev col_types : List ColType
  col_types = map (λ (c : Column). c.col_type) columns

  got : (place : ℕ) → slice_get col_types place ≡ option_map (λ (c : Column). c.col_type) (slice_get columns place)
  got place = slice_get-map (λ (c : Column). c.col_type) columns place

  type_at_decides : (place : ℕ) (t : ColType) → Decides (has_type columns place t) (slice_get col_types place ≡ Some t)
  type_at_decides place t =
      subst (λ (o : Option ColType). Decides (has_type columns place t) (o ≡ Some t)) (sym (got place)) (found_decides t (slice_get columns place))

  value_at_decides : (place : ℕ) (v : Value) → Decides (is_value_at columns place v) (IsValueAt col_types place v)
  value_at_decides place v =
      Decides-like (is_value_at columns place v) (λ p. record { typed = p.0; held = p.1 }) (λ h. (h.typed, h.held))
      (Decides-and (has_type columns place (type_of v)) (is_value v) (type_at_decides place (type_of v)) (value_decides v))

  one_type_decides : (a b : ℕ) → Decides (have_one_type columns a b) (AreOfOneType col_types a b)
  one_type_decides a b = by (slice_get columns a) refl
    where
      by : (o : Option Column) → slice_get columns a ≡ o → Decides (has_type_that (has_type columns b) o) (AreOfOneType col_types a b)
      by None is = (λ e. cc, λ h. let never : Some h.col_type ≡ None = sym h.one ∙ got a ∙ ap (option_map (λ (c : Column). c.col_type)) is in cc)
      by (Some column) is =
          let here : slice_get col_types a ≡ Some column.col_type = got a ∙ ap (option_map (λ (c : Column). c.col_type)) is in
          Decides-like (has_type columns b column.col_type) (λ other. record { col_type = column.col_type; one = here; other = other })
          (λ h. h.other ∙ sym h.one ∙ here) (type_at_decides b column.col_type)

  number_decides : (place : ℕ) (v : Value) → Decides (is_number_at columns place v) (IsNumberAt col_types place v)
  number_decides place v =
      Decides-like (is_number_at columns place v) there back
      (Decides-and (is_value_at columns place v) (is_number v) (value_at_decides place v) (true_decides (is_number v)))
    where
      there : IsValueAt col_types place v × (is_number v ≡ true) → IsNumberAt col_types place v
      there p =
          let found = has_number v p.0.held p.1 in
          record { col_type = type_of v; number = found.0; there = p.0.typed; value_is = found.1 }

      back : IsNumberAt col_types place v → IsValueAt col_types place v × (is_number v ≡ true)
      back h =
          let is = number_is h.col_type h.number v h.value_is in
          (record { typed = h.there ∙ ap Some (sym is.typed); held = is.held }, is.natural)

  moved_decides : (place source : ℕ) (number : Value) → Decides (is_moved columns place source number) (AreOfOneType col_types place source × IsNumberAt col_types place number)
  moved_decides place source number =
      Decides-and (have_one_type columns place source) (is_number_at columns place number) (one_type_decides place source) (number_decides place number)

  assignable_decides : (place : ℕ) (a : Assigned) → Decides (is_assignable columns place a) (IsAssignable col_types place a)
  assignable_decides place (assigned.Literal v) = value_at_decides place v
  assignable_decides place (assigned.Column source) = one_type_decides place source
  assignable_decides place (assigned.Plus source number) = moved_decides place source number
  assignable_decides place (assigned.Minus source number) = moved_decides place source number

  test_decides : (t : Test) → Decides (is_test columns t) (IsTestOf col_types t)
  test_decides t =
      Decides-like (is_test columns t) (λ p. record { own = subst (λ (n : ℕ). t.column < n) (sym long) p.0; literals = p.1 }) (λ h. (subst (λ (n : ℕ). t.column < n) long h.own, h.literals))
      (Decides-and (nat_lt t.column (length columns)) (list_all (is_value_at columns t.column) t.literals) (Decides-ltb t.column (length columns))
      (all_decides (is_value_at columns t.column) (IsValueAt col_types t.column) (value_at_decides t.column) t.literals))
    where
      long : length col_types ≡ length columns
      long = length-map columns (λ (c : Column). c.col_type)

-- ---- assignments

reads_decide : (schema : Schema) (a : Assigned) → Decides (reads_freely schema a) (All (λ place. is_protected schema place ≡ false) (reads_of a))
reads_decide schema a = by a
  where
    one : (place : ℕ) → Decides (not (is_protected schema place)) (All (λ p. is_protected schema p ≡ false) (place ∷ []))
    one place =
        Decides-like (not (is_protected schema place)) (λ e. All-cons (λ p. is_protected schema p ≡ false) place [] e (All-nil (λ p. is_protected schema p ≡ false)))
        (λ h. All-head (λ p. is_protected schema p ≡ false) place [] h) (false_decides (is_protected schema place))

    by : (x : Assigned) → Decides (reads_freely schema x) (All (λ place. is_protected schema place ≡ false) (reads_of x))
    by (assigned.Literal v) = (λ e. All-nil (λ p. is_protected schema p ≡ false), λ h. refl)
    by (assigned.Column place) = one place
    by (assigned.Plus place number) = one place
    by (assigned.Minus place number) = one place

assignment_decides : (schema : Schema) (a : Assignment) → Decides (is_assignment schema a) (IsAssignment schema a)
assignment_decides schema a =
    Decides-like (is_assignment schema a) (λ p. record { belongs = p.0; apart = p.1.0; free = p.1.1.0; reads = p.1.1.1 }) (λ h. (h.belongs, (h.apart, (h.free, h.reads))))
    (Decides-and (is_assignable schema.columns a.column a.value) (is_free schema a) (assignable_decides schema.columns a.column a.value)
    (Decides-and (not (is_kept_apart schema.key schema.partition a.column)) (not (is_protected schema a.column) && reads_freely schema a.value)
    (false_decides (is_kept_apart schema.key schema.partition a.column))
    (Decides-and (not (is_protected schema a.column)) (reads_freely schema a.value) (false_decides (is_protected schema a.column)) (reads_decide schema a.value))))

abbrev Apart : Assignment → Assignment → Type 0
Apart a b = a.column ≢ b.column

put_decides : (a : Assignment) (puts : List Assignment) → Decides (not (is_put puts a.column)) (All (Apart a) puts)
put_decides a puts =
    Decides-by_and (λ (b : Assignment). not (nat_eq b.column a.column)) (Apart a) (λ (xs : List Assignment). not (is_put xs a.column)) each refl
    (λ x xs. not_either (nat_eq x.column a.column) (is_put xs a.column)) puts
  where
    each : (b : Assignment) → Decides (not (nat_eq b.column a.column)) (Apart a b)
    each b =
        Decides-like (not (nat_eq b.column a.column)) (λ apart e. apart (sym e)) (λ apart e. apart (sym e))
        (Decides-not (nat_eq b.column a.column) (Decides-eqb b.column a.column))

once_decides : (puts : List Assignment) → Decides (are_once puts) (AllPairs Apart puts)
once_decides [] = (λ e i j d lt within. absurd (omega arith), λ h. refl)
once_decides (a ∷ puts) =
    Decides-like (are_once (a ∷ puts)) (λ p. AllPairs-cons Apart a puts p.0 p.1)
    (λ h. (λ k d lt. h 0 (suc k) d (omega arith) (omega arith), λ i j d lt within. h (suc i) (suc j) d (omega arith) (omega arith)))
    (Decides-and (not (is_put puts a.column)) (are_once puts) (put_decides a puts) (once_decides puts))

pub once_put : (puts rest : List Assignment) (a : Assignment) → puts ≡ a ∷ rest → is_put rest a.column ≡ true → false ≡ are_once puts
once_put puts rest a is put = sym (ap are_once is ∙ ap (λ b. not b && are_once rest) put)

pub once_apart : (puts rest : List Assignment) (a : Assignment) (once : Bool) → puts ≡ a ∷ rest → is_put rest a.column ≡ false → once ≡ are_once rest → once ≡ are_once puts
once_apart puts rest a once is put e = e ∙ sym (ap are_once is ∙ ap (λ b. not b && are_once rest) put)

-- ---- conditions and changes

plain_decides : (e : Engine) → Decides (is_plain e) (e ≡ engine.Plain)
plain_decides engine.Plain = (λ e. refl, λ e. refl)
plain_decides e = (λ x. cc, λ x. cc)

key_decides : (key : List ℕ) (place : ℕ) → Decides (is_of_key key place) (Contains key place)
key_decides key place =
    Decides-contains key place (is_of_key key place)
    (Decides-by_or (λ own. nat_eq own place) (λ own. own ≡ place) (list_any (λ own. nat_eq own place)) (λ own. Decides-eqb own place) refl (λ x xs. refl) key)

condition_decides : (schema : Schema) (c : Condition Test) → Decides (is_condition schema c) (IsConditionOf schema c)
condition_decides schema c =
    Decides-like (is_condition schema c) (λ p. record { tests = p.0; whole = p.1 }) (λ h. (h.tests, h.whole))
    (Decides-and (list_all (is_test schema.columns) (tests_of c)) (may_ask schema (tests_of c))
    (all_decides (is_test schema.columns) (IsTestOf (column_types schema)) (test_decides schema.columns) (tests_of c))
    (Decides-or (is_plain schema.engine) (list_all (λ (t : Test). is_of_key schema.key t.column) (tests_of c)) (plain_decides schema.engine)
    (all_decides (λ (t : Test). is_of_key schema.key t.column) (λ (t : Test). Contains schema.key t.column) (λ t. key_decides schema.key t.column) (tests_of c))))

pub change_decides : (schema : Schema) (c : Change) → Decides (is_change schema c) (IsChangeOf schema c)
change_decides schema (change.Delete c) = condition_decides schema c
change_decides schema (change.Update puts c) =
    Decides-like (is_change schema (change.Update puts c)) (λ p. (p.0.0, p.0.1, p.1)) (λ h. ((h.0, h.1), h.2))
    (Decides-and (are_assignments schema puts) (is_condition schema c)
    (Decides-and (list_all (is_assignment schema) puts) (are_once puts) (all_decides (is_assignment schema) (IsAssignment schema) (assignment_decides schema) puts) (once_decides puts))
    (condition_decides schema c))
