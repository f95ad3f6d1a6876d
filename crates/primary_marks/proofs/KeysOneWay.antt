-- primary.bin is read in one way.
use Rattle.std.proofs.Common.{◌≡◌, ℕ, zero, suc, ◌+◌, ◌-◌, ◌*◌, ◌<◌, ◌≤◌, ◌&&◌, Bool, true, false, cond, nat_eq, List, [], ◌∷◌, ◌++◌, Option, Some, None, IfSome, All, inl, inr, refl, sym, ap, ap₂, ◌∙◌, subst, length, length-append, take, drop, slice_get, append_assoc, append-nil, arith, take-append-drop, option_map, Result, Ok, Err, IfErr, IfOk, MatchResult}
use Rattle.std.proofs.lemmas.Bool.{eqb-true}
use Rattle.std.proofs.lemmas.List.{length-map, drop_at, nil_from_length}
use Rattle.std.proofs.lemmas.List.Elements.{All-drop, All-head, All-tail}
use Rattle.std.proofs.lemmas.Option.{slice_get-map}
use Rattle.column_file.specs.byte_numbers.declared.faults.FormatFault.{FormatFault}
use Rattle.column_file.specs.byte_numbers.declared.faults.FormatFault.TheVariants.{NoMemory, Malformed}
use Rattle.mt_values.specs.declared.value.ColType.{ColType}
use Rattle.mt_values.specs.declared.value.Value.{Value}
use Rattle.mt_values.specs.ColumnBytes.{column_bytes, value_bytes}
use Rattle.mt_values.specs.Values.{FitsType, Row, type_of, types_of}
use Rattle.column_file.specs.Marks.{keys_bytes}
use Rattle.column_file.proofs.OneWay.{value_apart}
use Rattle.primary_marks.specs.KeyFaults.{ExplainsPrimary, IsKeyStuckAt, IsPrimaryFault, KeysGoOnWrong, wanted_after}
use Rattle.primary_marks.specs.Keys.{AreMarkKeys, IsKeyOf, IsPrimaryOf, KeyShape, ends_alone, granule_count}
use Rattle.column_file.proofs.Fronts.{AreApart, Longer, even, longer}
use Rattle.primary_marks.proofs.KeysRead.{granules_some}

-- ---- keys of the same types are told apart

-- values at the front of one text, of types of which one list goes on after the other
pub values_apart : (xs ys : Row) (r s : List ℕ) (types more : List ColType) → types_of xs ≡ types → types_of ys ≡ types ++ more → All FitsType xs → All FitsType ys → column_bytes xs ++ r ≡ column_bytes ys ++ s → (rest : Row) × (ys ≡ xs ++ rest) × (r ≡ column_bytes rest ++ s)
values_apart [] ys r s types more e f p q is = (ys, refl, is)
values_apart (x ∷ xs) ys r s [] more e f p q is = absurd cc
values_apart (x ∷ xs) [] r s (t ∷ types) more e f p q is = absurd cc
values_apart (x ∷ xs) (y ∷ ys) r s (t ∷ types) more e f p q is =
    let tx : type_of x ≡ t = cc in
    let ty : type_of y ≡ t = cc in
    let txs : types_of xs ≡ types = cc in
    let tys : types_of ys ≡ types ++ more = cc in
    let first = value_apart t x y (column_bytes xs ++ r) (column_bytes ys ++ s) (tx, All-head FitsType x xs p) (ty, All-head FitsType y ys q)
    (sym (append_assoc (value_bytes x) (column_bytes xs) r) ∙ is ∙ append_assoc (value_bytes y) (column_bytes ys) s) in
    let others = values_apart xs ys r s types more txs tys (All-tail FitsType x xs p) (All-tail FitsType y ys q) first.1 in
    (others.0, ap₂ (λ v vs. v ∷ vs) (sym first.0) others.1, others.2)

pub keys_apart : (types : List ColType) → AreApart column_bytes (IsKeyOf types)
keys_apart types x y r s p q e =
    let v = values_apart x y r s types [] p.typed (q.typed ∙ sym (append-nil types)) p.fit q.fit e in
    let sizes : length x ≡ length y = sym (length-map x type_of) ∙ ap length (p.typed ∙ sym q.typed) ∙ length-map y type_of in
    let none : v.0 ≡ [] = nil_from_length v.0 (omega (arith, sizes, ap length v.1, length-append x v.0)) in
    (sym (append-nil x) ∙ ap (λ l. x ++ l) (sym none) ∙ sym v.1, v.2 ∙ ap (λ l. column_bytes l ++ s) none)

-- ---- one spelling

pub one_primary : (shape : KeyShape) (bytes : List ℕ) (xs ys : List Row) → IsPrimaryOf shape bytes xs → IsPrimaryOf shape bytes ys → xs ≡ ys
one_primary shape bytes xs ys p q =
    (even column_bytes (IsKeyOf shape.types) (keys_apart shape.types) xs ys [] [] p.kept.each q.kept.each (p.kept.count_is ∙ sym q.kept.count_is)
    (append-nil (keys_bytes xs) ∙ sym p.spelled ∙ q.spelled ∙ sym (append-nil (keys_bytes ys)))).0

-- ---- bytes with a first fault are no keys

fit_there : (key begun vs : Row) (v : Value) → key ≡ begun ++ v ∷ vs → All FitsType key → FitsType v
fit_there key begun vs v parted fit = All-head FitsType v vs (subst (All FitsType) (ap (drop (length begun)) parted ∙ drop_at begun (v ∷ vs) (length begun) refl) (All-drop FitsType (length begun) key fit))

slice_get-front : {X : Type 0} (xs ys : List X) (k : ℕ) → k < length xs → slice_get (xs ++ ys) k ≡ slice_get xs k
slice_get-front [] ys k h = absurd (omega arith)
slice_get-front (x ∷ xs) ys zero h = refl
slice_get-front (x ∷ xs) ys (suc k) h = slice_get-front xs ys k (omega arith)

slice_get-seam : {X : Type 0} (xs ys : List X) (y : X) → slice_get (xs ++ y ∷ ys) (length xs) ≡ Some y
slice_get-seam [] ys y = refl
slice_get-seam (x ∷ xs) ys y = slice_get-seam xs ys y

both_true : (a b : Bool) → (a && b) ≡ true → (a ≡ true) × (b ≡ true)
both_true true true e = (refl, refl)
both_true true false e = absurd cc
both_true false b e = absurd cc

chosen_same : (b : Bool) (found : Option Row) (key : Row) → (b ≡ true → found ≡ Some key) → IfSome (cond b found None) (λ w. key ≡ w)
chosen_same true found key h = rw (h refl) refl
chosen_same false found key h = tt

-- a key of a part's is the one that is wanted after those before it
wanted_kept : (shape : KeyShape) (before more keys : List Row) (key : Row) → 0 < shape.granularity → AreMarkKeys shape keys → keys ≡ before ++ key ∷ more → IfSome (wanted_after shape before) (λ w. key ≡ w)
wanted_kept shape before more keys key large kept parted =
    chosen_same (ends_alone shape && nat_eq (length before) (granule_count shape)) (slice_get before (length before - 1)) key (λ e.
    let both = both_true (ends_alone shape) (nat_eq (length before) (granule_count shape)) e in
    let full : length before ≡ granule_count shape = eqb-true (length before) (granule_count shape) both.1 in
    let one : shape.granularity * (granule_count shape - 1) + 1 ≡ shape.rows = eqb-true (shape.granularity * (granule_count shape - 1) + 1) shape.rows both.0 in
    let some = granules_some shape.rows shape.granularity (omega arith) large in
    let there : slice_get keys (granule_count shape) ≡ Some key = ap₂ (λ (ks : List Row) k. slice_get ks k) parted (sym full) ∙ slice_get-seam before more key in
    sym (slice_get-front before (key ∷ more) (length before - 1) (omega (arith, some, full)))
    ∙ ap₂ (λ (ks : List Row) k. slice_get ks (k - 1)) (sym parted) full
    ∙ kept.final both.0 ∙ there)

wanted_at : (wanted : Option Row) (key : Row) (n : ℕ) (v : Value) → slice_get key n ≡ Some v → IfSome wanted (λ w. key ≡ w) → IfSome wanted (λ w. slice_get w n ≡ Some v)
wanted_at None key n v there same = tt
wanted_at (Some w) key n v there same = ap (λ k. slice_get k n) (sym same) ∙ there

-- a key at the place where a key is stuck
stuck_none : (types : List ColType) (wanted : Option Row) (at : ℕ) (bytes : List ℕ) (place : ℕ) (key : Row) (left : List ℕ) → IsKeyStuckAt types wanted at bytes place → IsKeyOf types key → IfSome wanted (λ w. key ≡ w) → bytes ≡ column_bytes key ++ left → ⊥
stuck_none types wanted at bytes place key left s k same e = by split.0 split.1 split.2
  where
    n : ℕ
    n = length s.begun

    split : (rest : Row) × (key ≡ s.begun ++ rest) × (s.rest ≡ column_bytes rest ++ left)
    split =
        values_apart s.begun key s.rest left (take (length s.begun) types) (drop (length s.begun) types) s.begins.typed (k.typed ∙ sym (take-append-drop (length s.begun) types)) s.begins.fit k.fit
        (sym s.parted ∙ e)

    size : length key ≡ length types
    size = sym (length-map key type_of) ∙ ap length k.typed

    by : (rest : Row) → key ≡ s.begun ++ rest → s.rest ≡ column_bytes rest ++ left → ⊥
    by [] parted rest_is = omega (arith, s.few, size, ap length parted, length-append s.begun [])
    by (v ∷ vs) parted rest_is =
        let there : slice_get key (length s.begun) ≡ Some v = ap (λ r. slice_get r (length s.begun)) parted ∙ slice_get-seam s.begun vs v in
        let typed : slice_get types (length s.begun) ≡ Some (type_of v) =
        ap (λ ts. slice_get ts (length s.begun)) (sym k.typed) ∙ slice_get-map type_of key (length s.begun) ∙ ap (option_map type_of) there in
        s.stuck v (column_bytes vs ++ left) typed (fit_there key s.begun vs v parted k.fit) (wanted_at wanted key (length s.begun) v there same)
        (rest_is ∙ append_assoc (value_bytes v) (column_bytes vs) left)

pub no_primary : (shape : KeyShape) (bytes : List ℕ) (place : ℕ) (keys : List Row) → 0 < shape.granularity → IsPrimaryFault shape bytes place → IsPrimaryOf shape bytes keys → ⊥
no_primary shape bytes place keys large f p = contra f.wrong
  where
    few : KeysGoOnWrong shape f.keys f.rest place → length f.keys ≤ length keys
    few (inl h) = omega (arith, h.0, p.kept.count_is)
    few (inr h) = omega (arith, h.0.count_is, p.kept.count_is)

    l : Longer column_bytes (IsKeyOf shape.types) f.keys keys f.rest []
    l = longer column_bytes (IsKeyOf shape.types) (keys_apart shape.types) f.keys keys f.rest [] f.each p.kept.each (few f.wrong) (sym f.parted ∙ p.spelled ∙ sym (append-nil (keys_bytes keys)))

    size : length keys ≡ length f.keys + length l.more
    size = ap length l.parted ∙ length-append f.keys l.more

    goes_on : (more : List Row) → 0 < length more → All (IsKeyOf shape.types) more → keys ≡ f.keys ++ more → f.rest ≡ keys_bytes more ++ [] → IsKeyStuckAt shape.types (wanted_after shape f.keys) (length (keys_bytes f.keys)) f.rest place → ⊥
    goes_on [] some sound parted rest stuck = omega arith
    goes_on (key ∷ more) some sound parted rest stuck =
        stuck_none shape.types (wanted_after shape f.keys) (length (keys_bytes f.keys)) f.rest place key (keys_bytes more ++ []) stuck (All-head (IsKeyOf shape.types) key more sound)
        (wanted_kept shape f.keys more keys key large p.kept parted) (rest ∙ append_assoc (column_bytes key) (keys_bytes more) [])

    contra : KeysGoOnWrong shape f.keys f.rest place → ⊥
    contra (inl h) = goes_on l.more (omega (arith, h.0, p.kept.count_is, size)) l.sound l.parted l.rest h.1
    contra (inr h) = h.2 (l.rest ∙ ap (λ more. keys_bytes more ++ []) (nil_from_length l.more (omega (arith, h.0.count_is, p.kept.count_is, size))))

-- an error for bytes that are keys is out of memory
pub primary_spelled : {T : Type 0} (P : T → Type 0) (shape : KeyShape) (bytes : List ℕ) (keys : List Row) (result : Result T FormatFault) → 0 < shape.granularity → (view : T → List Row) → ((x : T) → view x ≡ keys → P x) → IfOk result (λ x. IsPrimaryOf shape bytes (view x)) → IfErr result (ExplainsPrimary shape bytes) → IsPrimaryOf shape bytes keys → MatchResult result P (λ e. e ≡ NoMemory)
primary_spelled P shape bytes keys (Ok x) large view give read explains p = give x (one_primary shape bytes (view x) keys read p)
primary_spelled P shape bytes keys (Err NoMemory) large view give read explains p = refl
primary_spelled P shape bytes keys (Err (Malformed place)) large view give read explains p = absurd (no_primary shape bytes place keys large explains p)
