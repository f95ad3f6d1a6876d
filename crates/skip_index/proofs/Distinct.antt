-- Values that are each kept once, in the order in which they first occur.
use Rattle.std.proofs.Common.{◌≡◌, ℕ, suc, ◌+◌, ◌<◌, ◌≤◌, Bool, true, false, cond, not, ◌||◌, Decides, List, [], ◌∷◌, ◌++◌, Some, refl, sym, ap, ap₂, ◌∙◌, subst, nat_eq, nat_le, fold, length, length-append, map, take, drop, slice_get, get_or, append-nil, append_assoc, take-append-drop, arith}
use Rattle.std.specs.Cmp.Lexicographic.{pointwise_decides}
use Rattle.std.specs.List.{list_any}
use Rattle.std.specs.Ordering.{is_eq}
use Rattle.std.specs.declared.cmp.Ordering.{Ordering}
use Rattle.std.specs.declared.cmp.Ordering.TheVariants.{Less, Equal, Greater}
use Rattle.std.proofs.lemmas.Bool.{le-leb, leb-false, leb-true, lt-leb}
use Rattle.std.proofs.lemmas.Bool.Decides.{Decides-eqb, Decides-int_eq, Decides-like}
use Rattle.std.proofs.lemmas.Cmp.{tied_itself}
use Rattle.std.proofs.lemmas.List.{length_push, map_push}
use Rattle.std.proofs.lemmas.List.Elements.{filter_map-append}
use Rattle.std.proofs.lemmas.List.Sums.{fold-append, fold_push}
use Rattle.indexmap.specs.IndexSet.{insert_key}
use Rattle.mt_values.specs.contracts.cell.CellPartialEq.TheImpl as cells
use Rattle.mt_values.specs.declared.cell.Cell.{Cell}
use Rattle.mt_values.specs.declared.cell.Cell.TheVariants as cell
use Rattle.mt_values.specs.declared.value.Value.{Value}
use Rattle.mt_values.specs.declared.value.Value.TheVariants as value
use Rattle.mt_values.specs.Cells.{value_of}
use Rattle.mt_values.specs.Order.{value_cmp}
use Rattle.mt_values.proofs.Orders.{value_exact, value_total}
use Rattle.predicate.specs.declared.extent.Known.{Known}
use Rattle.predicate.specs.declared.extent.Known.TheVariants as known
use Rattle.column_file.proofs.Writing.{picked_more, values_at}
use Rattle.skip_index.specs.Blocks.{distinct_of, most_kept, same_value, set_of, with_new}

-- ---- one value

equal_is : (o : Ordering) → is_eq o ≡ true → o ≡ Equal
equal_is Less e = cc
equal_is Equal e = refl
equal_is Greater e = cc

pub same_decides : (x y : Value) → Decides (same_value x y) (x ≡ y)
same_decides x y = (λ e. value_exact x y (equal_is (value_cmp x y) e), λ e. subst (λ z. same_value x z ≡ true) e (ap is_eq (tied_itself value_total x)))

cell_decides : (x y : Cell) → Decides (cells.eq-value.it x y) (value_of x ≡ value_of y)
cell_decides (cell.UInt8 m) (cell.UInt8 n) = Decides-like (nat_eq m n) (ap value.UInt8) (λ e. cc) (Decides-eqb m n)
cell_decides (cell.UInt16 m) (cell.UInt16 n) = Decides-like (nat_eq m n) (ap value.UInt16) (λ e. cc) (Decides-eqb m n)
cell_decides (cell.UInt32 m) (cell.UInt32 n) = Decides-like (nat_eq m n) (ap value.UInt32) (λ e. cc) (Decides-eqb m n)
cell_decides (cell.UInt64 m) (cell.UInt64 n) = Decides-like (nat_eq m n) (ap value.UInt64) (λ e. cc) (Decides-eqb m n)
cell_decides (cell.Int8 m) (cell.Int8 n) = Decides-like _ (ap value.Int8) (λ e. cc) (Decides-int_eq m n)
cell_decides (cell.Int16 m) (cell.Int16 n) = Decides-like _ (ap value.Int16) (λ e. cc) (Decides-int_eq m n)
cell_decides (cell.Int32 m) (cell.Int32 n) = Decides-like _ (ap value.Int32) (λ e. cc) (Decides-int_eq m n)
cell_decides (cell.Int64 m) (cell.Int64 n) = Decides-like _ (ap value.Int64) (λ e. cc) (Decides-int_eq m n)
cell_decides (cell.Text m) (cell.Text n) = Decides-like _ (ap value.Text) (λ e. cc) (pointwise_decides Decides-eqb m.now n.now)
cell_decides x y = (λ e. cc, λ e. cc)

-- two tests of one thing are one
pub one_test : {P : Type 0} (a b : Bool) → Decides a P → Decides b P → a ≡ b
one_test true true p q = refl
one_test true false p q = sym (q.1 (p.0 refl))
one_test false true p q = p.1 (q.0 refl)
one_test false false p q = refl

cell_alike : (x y : Cell) → cells.eq-value.it x y ≡ same_value (value_of x) (value_of y)
cell_alike x y = one_test (cells.eq-value.it x y) (same_value (value_of x) (value_of y)) (cell_decides x y) (same_decides (value_of x) (value_of y))

-- a cell is among others where its value is among theirs
pub asked_alike : (k : Cell) (ks : List Cell) → list_any (cells.eq-value.it k) ks ≡ list_any (same_value (value_of k)) (map value_of ks)
asked_alike k [] = refl
asked_alike k (x ∷ xs) = ap₂ (λ a b. a || b) (cell_alike k x) (asked_alike k xs)

-- a cell that comes to others is a value that comes to theirs
pub keys_more : (k : Cell) (ks new : List Cell) → new ≡ insert_key cells.eq-value.it ks k → map value_of new ≡ with_new (map value_of ks) (value_of k)
keys_more k ks new is =
    ap (map value_of) is
    ∙ by (list_any (cells.eq-value.it k) ks)
    ∙ ap (λ b. cond b (map value_of ks) (map value_of ks ++ value_of k ∷ [])) (asked_alike k ks)
  where
    by : (b : Bool) → map value_of (cond b ks (ks ++ k ∷ [])) ≡ cond b (map value_of ks) (map value_of ks ++ value_of k ∷ [])
    by true = refl
    by false = map_push value_of ks k

-- whether a cell that comes was among the others
pub was_none : (r b : Bool) → r ≡ not b → r ≡ true → b ≡ false
was_none r true e t = sym t ∙ e
was_none r false e t = refl

pub was_one : (r b : Bool) → r ≡ not b → r ≡ false → b ≡ true
was_one r true e f = refl
was_one r false e f = sym f ∙ e

-- ---- several values

pub distinct_more : (vs : List Value) (v : Value) → distinct_of (vs ++ v ∷ []) ≡ with_new (distinct_of vs) v
distinct_more vs v = fold_push with_new [] vs v

with_new-longer : (vs : List Value) (v : Value) → (length vs ≤ length (with_new vs v)) × (length (with_new vs v) ≤ length vs + 1)
with_new-longer vs v = by (list_any (same_value v) vs)
  where
    by : (b : Bool) → (length vs ≤ length (cond b vs (vs ++ v ∷ []))) × (length (cond b vs (vs ++ v ∷ [])) ≤ length vs + 1)
    by true = (omega arith, omega arith)
    by false = (omega (arith, length_push vs v), omega (arith, length_push vs v))

-- values that come only add
pub longer : (kept vs : List Value) → (length kept ≤ length (fold with_new kept vs)) × (length (fold with_new kept vs) ≤ length kept + length vs)
longer kept [] = (omega arith, omega arith)
longer kept (v ∷ vs) =
    let one = with_new-longer kept v in
    let rest = longer (with_new kept v) vs in
    (omega (arith, one.0, rest.0), omega (arith, one.1, rest.1))

pub distinct_few : (vs : List Value) → length (distinct_of vs) ≤ length vs
distinct_few vs = omega (arith, (longer [] vs).1)

pub distinct_front : (xs ys : List Value) → length (distinct_of xs) ≤ length (distinct_of (xs ++ ys))
distinct_front xs ys = omega (arith, ap length (fold-append with_new [] xs ys), (longer (distinct_of xs) ys).0)

-- a value that is among others adds none to them
pub with_old : (vs : List Value) (v : Value) → list_any (same_value v) vs ≡ true → with_new vs v ≡ vs
with_old vs v e = ap (λ b. cond b vs (vs ++ v ∷ [])) e

pub with_other : (vs : List Value) (v : Value) → list_any (same_value v) vs ≡ false → with_new vs v ≡ vs ++ v ∷ []
with_other vs v e = ap (λ b. cond b vs (vs ++ v ∷ [])) e

-- ---- values that are distinct

-- one more that is none of them
pub still_distinct : (vs : List Value) (v : Value) → distinct_of vs ≡ vs → list_any (same_value v) vs ≡ false → distinct_of (vs ++ v ∷ []) ≡ vs ++ v ∷ []
still_distinct vs v are none = distinct_more vs v ∙ ap (λ us. with_new us v) are ∙ with_other vs v none

-- what values leave is distinct
pub leaves_distinct : (kept vs : List Value) → distinct_of kept ≡ kept → distinct_of (fold with_new kept vs) ≡ fold with_new kept vs
leaves_distinct kept [] are = are
leaves_distinct kept (v ∷ vs) are = leaves_distinct (with_new kept v) vs (by (list_any (same_value v) kept) refl)
  where
    by : (b : Bool) → list_any (same_value v) kept ≡ b → distinct_of (with_new kept v) ≡ with_new kept v
    by true e = ap distinct_of (with_old kept v e) ∙ are ∙ sym (with_old kept v e)
    by false e = ap distinct_of (with_other kept v e) ∙ still_distinct kept v are e ∙ sym (with_other kept v e)

pub distinct_again : (vs : List Value) → distinct_of (distinct_of vs) ≡ distinct_of vs
distinct_again vs = leaves_distinct [] vs refl

-- values of which each is added are as they came
added_all : (kept vs : List Value) → length kept + length vs ≤ length (fold with_new kept vs) → fold with_new kept vs ≡ kept ++ vs
added_all kept [] full = sym (append-nil kept)
added_all kept (v ∷ vs) full = by (λ room. added_all (kept ++ v ∷ []) vs room) (list_any (same_value v) kept) refl
  where
    by : (length (kept ++ v ∷ []) + length vs ≤ length (fold with_new (kept ++ v ∷ []) vs) → fold with_new (kept ++ v ∷ []) vs ≡ (kept ++ v ∷ []) ++ vs) → (b : Bool) → list_any (same_value v) kept ≡ b → fold with_new (with_new kept v) vs ≡ kept ++ v ∷ vs
    by rest true e =
        let same = ap (λ us. length (fold with_new us vs)) (with_old kept v e) in
        absurd (omega (arith, full, same, (longer kept vs).1))
    by rest false e =
        let other = with_other kept v e in
        let room : length (kept ++ v ∷ []) + length vs ≤ length (fold with_new (kept ++ v ∷ []) vs) =
        omega (arith, full, length_push kept v, ap (λ us. length (fold with_new us vs)) other) in
        ap (λ us. fold with_new us vs) other ∙ rest room ∙ append_assoc kept (v ∷ []) vs

-- of distinct values the first few are distinct, and the next is none of them
pub distinct_parts : (xs ys : List Value) (v : Value) → distinct_of (xs ++ v ∷ ys) ≡ xs ++ v ∷ ys → (distinct_of xs ≡ xs) × (list_any (same_value v) xs ≡ false)
distinct_parts xs ys v are = (front, by (list_any (same_value v) xs) refl)
  where
    parts : fold with_new (with_new (distinct_of xs) v) ys ≡ xs ++ v ∷ ys
    parts = sym (fold-append with_new [] xs (v ∷ ys)) ∙ are

    size : length (fold with_new (with_new (distinct_of xs) v) ys) ≡ length xs + suc (length ys)
    size = ap length parts ∙ length-append xs (v ∷ ys)

    front : distinct_of xs ≡ xs
    front = added_all [] xs (omega (arith, size, (longer (with_new (distinct_of xs) v) ys).1, (with_new-longer (distinct_of xs) v).1))

    by : (b : Bool) → list_any (same_value v) xs ≡ b → list_any (same_value v) xs ≡ false
    by true e =
        let same : length (fold with_new (with_new (distinct_of xs) v) ys) ≡ length (fold with_new xs ys) =
        ap (λ us. length (fold with_new us ys)) (ap (λ us. with_new us v) front ∙ with_old xs v e) in
        absurd (omega (arith, size, same, (longer xs ys).1))
    by false e = e

-- ---- what a set keeps

pub set_kept : (limit : ℕ) (vs : List Value) → length (distinct_of vs) ≤ most_kept limit → set_of limit vs ≡ known.List (distinct_of vs)
set_kept limit vs few = ap (λ b. cond b (known.List (distinct_of vs)) known.Unknown) (le-leb (length (distinct_of vs)) (most_kept limit) few)

pub set_none : (limit : ℕ) (vs : List Value) → most_kept limit < length (distinct_of vs) → set_of limit vs ≡ known.Unknown
set_none limit vs many = ap (λ b. cond b (known.List (distinct_of vs)) known.Unknown) (lt-leb (length (distinct_of vs)) (most_kept limit) many)

-- where the first few values are too many, all are
pub set_full : (limit : ℕ) (first values : List Value) (places : List ℕ) (n : ℕ) → most_kept limit < length (distinct_of (first ++ values_at values (take n places))) → known.Unknown ≡ set_of limit (first ++ values_at values places)
set_full limit first values places n many =
    let front_values = values_at values (take n places) in
    let rest_values = values_at values (drop n places) in
    let parts : first ++ values_at values places ≡ (first ++ front_values) ++ rest_values =
    ap (λ vs. first ++ vs) (ap (values_at values) (sym (take-append-drop n places)) ∙ filter_map-append (slice_get values) (take n places) (drop n places)) ∙ sym (append_assoc first front_values rest_values) in
    let front = distinct_front (first ++ front_values) rest_values in
    sym (set_none limit (first ++ values_at values places) (omega (arith, many, front, ap (λ vs. length (distinct_of vs)) parts)))

-- a value more of those at places
pub seen_more : (first values : List Value) (places : List ℕ) (i : ℕ) (k : Cell) (ks new : List Cell) → i < length places → slice_get values (get_or places i 0) ≡ Some (value_of k)
    → map value_of ks ≡ distinct_of (first ++ values_at values (take i places)) → map value_of new ≡ with_new (map value_of ks) (value_of k) → map value_of new ≡ distinct_of (first ++ values_at values (take (i + 1) places))
seen_more first values places i k ks new below is so e =
    let before = values_at values (take i places) in
    e ∙ ap (λ us. with_new us (value_of k)) so
    ∙ sym (distinct_more (first ++ before) (value_of k))
    ∙ ap distinct_of (append_assoc first before (value_of k ∷ []) ∙ ap (λ vs. first ++ vs) (sym (picked_more values places i (value_of k) below is)))

-- values that are kept each once, with more after them
pub set_more : (limit : ℕ) (values more kept : List Value) → known.List kept ≡ set_of limit values → (length (distinct_of kept) ≤ most_kept limit) × (set_of limit (kept ++ more) ≡ set_of limit (values ++ more))
set_more limit values more kept is = by (nat_le (length (distinct_of values)) (most_kept limit)) refl is
  where
    by : (b : Bool) → nat_le (length (distinct_of values)) (most_kept limit) ≡ b → known.List kept ≡ cond b (known.List (distinct_of values)) known.Unknown
        → (length (distinct_of kept) ≤ most_kept limit) × (set_of limit (kept ++ more) ≡ set_of limit (values ++ more))
    by true few e =
        let same : kept ≡ distinct_of values = cc in
        let again : distinct_of kept ≡ distinct_of values = ap distinct_of same ∙ distinct_again values in (
          omega (arith, ap length again, leb-true (length (distinct_of values)) (most_kept limit) few),
          ap (λ (vs : List Value). cond (nat_le (length vs) (most_kept limit)) (known.List vs) known.Unknown)
              (fold-append with_new [] kept more ∙ ap (λ us. fold with_new us more) again ∙ sym (fold-append with_new [] values more)),
        )
    by false few e = cc

-- values that are too many, with more after them
pub set_fuller : (limit : ℕ) (values more : List Value) (begun : Known) → ((kept : List Value) → begun ≡ known.List kept → ⊥) → begun ≡ set_of limit values → known.Unknown ≡ set_of limit (values ++ more)
set_fuller limit values more begun other is = by (nat_le (length (distinct_of values)) (most_kept limit)) refl is
  where
    by : (b : Bool) → nat_le (length (distinct_of values)) (most_kept limit) ≡ b → begun ≡ cond b (known.List (distinct_of values)) known.Unknown → known.Unknown ≡ set_of limit (values ++ more)
    by true few e = absurd (other (distinct_of values) e)
    by false many e = sym (set_none limit (values ++ more) (omega (arith, leb-false (length (distinct_of values)) (most_kept limit) many, distinct_front values more)))
