-- Values looked up some at a time, and their bytes added.
use Rattle.std.proofs.Common.{◌≡◌, ℕ, ◌+◌, ◌<◌, List, [], ◌∷◌, ◌++◌, Some, refl, sym, ap, ◌∙◌, subst, length, get_or, map, take, slice_get, All, arith, append-nil, append_assoc}
use Rattle.std.proofs.lemmas.List.{map-append, nil_from_length, drop_at, take_at, take_more}
use Rattle.std.proofs.lemmas.List.Concat.{flat_map-append}
use Rattle.std.proofs.lemmas.List.Elements.{All-append, All-drop, All-nil, All-push, All-take, filter_map-append}
use Rattle.mt_values.specs.ColumnBytes.{column_bytes, value_bytes}
use Rattle.mt_values.specs.Values.{FitsType}
use Rattle.mt_values.specs.declared.value.Value.{Value}
use Rattle.column_file.proofs.Writing.{AreWithin, values_at, picked_more}

-- ---- places gone over some at a time

-- the bytes of the values at some of the places are added to the old ones, and these places are left
pub record ArePushed (values : List Value) (places old bytes rest : List ℕ) : Type 0 where
  pub done : List ℕ
  pub parted : places ≡ done ++ rest
  pub written : bytes ≡ old ++ column_bytes (values_at values done)
  pub encodable : All FitsType (values_at values done)

-- none yet
pub pushed_none : (values : List Value) (places old : List ℕ) → ArePushed values places old old places
pushed_none values places old = record { done = []; parted = refl; written = sym (append-nil old); encodable = All-nil FitsType }

module _ (values : List Value) (places old bytes rest part left : List ℕ) (pushed : ArePushed values places old bytes rest) (parted : rest ≡ part ++ left) where
  -- the next of them are places of the column
  pub part_within : AreWithin values places → AreWithin values part
  part_within within =
      let P = λ (place : ℕ). place < length values in
      let behind : AreWithin values rest =
      subst (All P) (drop_at pushed.done rest (length pushed.done) refl) (All-drop P (length pushed.done) (pushed.done ++ rest) (subst (All P) pushed.parted within)) in
      subst (All P) (take_at part left (length part) refl) (All-take P (length part) (part ++ left) (subst (All P) parted behind))

  -- their bytes are added too
  pub pushed_more : (new : List ℕ) → new ≡ bytes ++ column_bytes (values_at values part) → All FitsType (values_at values part) → ArePushed values places old new left
  pushed_more new is fits =
      let before = values_at values pushed.done in
      let more = values_at values part in
      let all : values_at values (pushed.done ++ part) ≡ before ++ more = filter_map-append (slice_get values) pushed.done part in
      record {
        done = pushed.done ++ part;
        parted = pushed.parted ∙ ap (λ l. pushed.done ++ l) parted ∙ sym (append_assoc pushed.done part left);
        written = is ∙ ap (λ l. l ++ column_bytes more) pushed.written ∙ append_assoc old (column_bytes before) (column_bytes more)
            ∙ ap (λ l. old ++ l) (sym (flat_map-append value_bytes before more) ∙ ap column_bytes (sym all));
        encodable = subst (All FitsType) (sym all) (All-append FitsType before more pushed.encodable fits);
      }

-- all of them
pub pushed_all : (values : List Value) (places old bytes rest : List ℕ) → ArePushed values places old bytes rest → length rest ≡ 0 → (bytes ≡ old ++ column_bytes (values_at values places)) × All FitsType (values_at values places)
pushed_all values places old bytes rest pushed none =
    let end : rest ≡ [] = nil_from_length rest (omega arith) in
    let done_is : pushed.done ≡ places = sym (append-nil pushed.done) ∙ ap (λ l. pushed.done ++ l) (sym end) ∙ sym pushed.parted in
    (subst (λ l. bytes ≡ old ++ column_bytes (values_at values l)) done_is pushed.written, subst (λ l. All FitsType (values_at values l)) done_is pushed.encodable)

-- ---- one value more

module _ {X : Type 0} (f : X → Value) where
  -- it was looked up
  pub looked_more : (values : List Value) (places : List ℕ) (i : ℕ) (found new : List X) (x : X) → i < length places → slice_get values (get_or places i 0) ≡ Some (f x) → map f found ≡ values_at values (take i places) → new ≡ found ++ x ∷ [] → map f new ≡ values_at values (take (i + 1) places)
  looked_more values places i found new x within is so_far e =
      ap (map f) e ∙ map-append f found (x ∷ []) ∙ ap (λ l. l ++ f x ∷ []) so_far ∙ sym (picked_more values places i (f x) within is)

  -- its bytes are added
  pub added_more : (xs : List X) (i : ℕ) (d : X) (old bytes new : List ℕ) → i < length xs → bytes ≡ old ++ column_bytes (map f (take i xs)) → new ≡ bytes ++ value_bytes (f (get_or xs i d)) → new ≡ old ++ column_bytes (map f (take (i + 1) xs))
  added_more xs i d old bytes new within so_far e =
      let x = get_or xs i d in
      let before = map f (take i xs) in
      let all : map f (take (i + 1) xs) ≡ before ++ f x ∷ [] = ap (map f) (take_more xs i d within) ∙ map-append f (take i xs) (x ∷ []) in
      e ∙ ap (λ l. l ++ value_bytes (f x)) so_far ∙ append_assoc old (column_bytes before) (value_bytes (f x))
      ∙ ap (λ l. old ++ l) (ap (λ l. column_bytes before ++ l) (sym (append-nil (value_bytes (f x)))) ∙ sym (flat_map-append value_bytes before (f x ∷ [])) ∙ ap column_bytes (sym all))

  -- a column may hold it
  pub fits_more : (xs : List X) (i : ℕ) (d : X) → i < length xs → All FitsType (map f (take i xs)) → FitsType (f (get_or xs i d)) → All FitsType (map f (take (i + 1) xs))
  fits_more xs i d within so_far this =
      let x = get_or xs i d in
      let all : map f (take (i + 1) xs) ≡ map f (take i xs) ++ f x ∷ [] = ap (map f) (take_more xs i d within) ∙ map-append f (take i xs) (x ∷ []) in
      subst (All FitsType) (sym all) (All-push FitsType (map f (take i xs)) (f x) so_far this)
