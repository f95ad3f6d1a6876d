-- A walk over bytes: the values that were read, and where it ends.
use Rattle.std.proofs.Common.{◌≡◌, ℕ, ◌+◌, ◌<◌, ◌≤◌, List, [], ◌∷◌, ◌++◌, All, refl, sym, ap, ◌∙◌, subst, inl, inr, length, length-append, length-drop, drop, append_assoc, append-nil, arith, Result, Ok, Err, IsErrAnd, IfErr, MatchResult, OnOk}
use Rattle.std.proofs.lemmas.List.{drop-drop, drop_all}
use Rattle.std.proofs.lemmas.List.Concat.{flat_map-append}
use Rattle.std.proofs.lemmas.List.Elements.{All-nil, All-push}
use Rattle.mt_values.specs.declared.value.ColType.{ColType}
use Rattle.mt_values.specs.declared.value.Value.{Value}
use Rattle.mt_values.specs.ColumnBytes.{column_bytes, value_bytes}
use Rattle.mt_values.specs.Grid.{Cells}
use Rattle.byte_numbers.specs.declared.faults.FormatFault.{FormatFault}
use Rattle.byte_numbers.specs.declared.faults.FormatFault.TheVariants.{NoMemory, Malformed}
use Rattle.column_file.specs.Faults.{Explains, IsFirstFault, NoneBegins}
use Rattle.byte_numbers.specs.Fronts.{Begins}
use Rattle.column_file.specs.Spellings.{GainsAll, GainsFront, IsFront, IsOfType, IsSpelling, with_values}
use Rattle.column_file.proofs.OneWay.{no_spelling, one_spelling}

-- the bytes up to a place are those of these values
pub record AreRead (t : ColType) (bytes : List ℕ) (at : ℕ) (values : List Value) : Type 0 where
  pub typed : All (IsOfType t) values
  pub begins : Begins (column_bytes values) at bytes

-- and a column got them
pub record AreGained (bytes : List ℕ) (at count : ℕ) (old new : Cells) : Type 0 where
  pub values : List Value
  pub read : AreRead old.col_type bytes at values
  pub count_is : length values ≡ count
  pub gained : new ≡ with_values old values

module _ {t : ColType} {bytes : List ℕ} {at : ℕ} {values : List Value} where
  pub read_within : AreRead t bytes at values → at ≤ length bytes
  read_within r = omega (arith, r.begins.size_is, length-drop at bytes, simp length-append at (ap length r.begins.parted))

  -- one value more is read
  pub read_more : (v : Value) (size : ℕ) → AreRead t bytes at values → IsOfType t v → Begins (value_bytes v) size (drop at bytes) → AreRead t bytes (at + size) (values ++ v ∷ [])
  read_more v size r typed b =
      let one : column_bytes (v ∷ []) ≡ value_bytes v = append-nil (value_bytes v) in
      let all : column_bytes (values ++ v ∷ []) ≡ column_bytes values ++ value_bytes v = flat_map-append value_bytes values (v ∷ []) ∙ ap (λ l. column_bytes values ++ l) one in
      let left : drop at bytes ≡ value_bytes v ++ drop (at + size) bytes =
      b.parted ∙ ap (λ l. value_bytes v ++ l) (drop-drop size at bytes) in
      record {
        typed = All-push (IsOfType t) values v r.typed typed;
        begins = record {
          size_is = omega (arith, r.begins.size_is, b.size_is, ap length all, length-append (column_bytes values) (value_bytes v));
          parted = r.begins.parted ∙ ap (λ l. column_bytes values ++ l) left ∙ sym (append_assoc (column_bytes values) (value_bytes v) (drop (at + size) bytes)) ∙ ap (λ l. l ++ drop (at + size) bytes) (sym all);
        };
      }

  front : AreRead t bytes at values → IsFront t bytes values (drop at bytes)
  front r = record { typed = r.typed; parted = r.begins.parted }

  -- no further value begins where one was to come
  pub read_stuck : {count : ℕ} → AreRead t bytes at values → length values < count → NoneBegins t (drop at bytes) → IsFirstFault t count bytes at
  read_stuck {count} r few none = record {
    values = values;
    rest = drop at bytes;
    front = front r;
    place_is = r.begins.size_is;
    stuck = inl (few, none);
  }

  -- bytes are left after the last value
  pub read_past : {count : ℕ} → AreRead t bytes at values → length values ≡ count → at < length bytes → IsFirstFault t count bytes at
  read_past {count} r full more = record {
    values = values;
    rest = drop at bytes;
    front = front r;
    place_is = r.begins.size_is;
    stuck = inr (full, λ e. omega (arith, length-drop at bytes, ap length e));
  }

  -- all bytes are read
  pub read_all : {count : ℕ} → AreRead t bytes at values → length values ≡ count → length bytes ≤ at → IsSpelling t count bytes values
  read_all {count} r full end = record {
    typed = r.typed;
    count_is = full;
    spelled = r.begins.parted ∙ ap (λ l. column_bytes values ++ l) (drop_all at bytes end) ∙ append-nil (column_bytes values);
  }

-- nothing is read yet
pub read_none : (t : ColType) (bytes : List ℕ) → AreRead t bytes 0 []
read_none t bytes = record { typed = All-nil (IsOfType t); begins = record { size_is = refl; parted = refl } }

-- ---- a column that gets the values

module _ {bytes : List ℕ} {at k : ℕ} {old now : Cells} where
  pub gained_more : (v : Value) (size : ℕ) (new : Cells) (t : ColType) → AreGained bytes at k old now → t ≡ old.col_type → IsOfType t v → Begins (value_bytes v) size (drop at bytes) → new ≡ record now { values = now.values ++ v ∷ [] } → AreGained bytes (at + size) (k + 1) old new
  gained_more v size new t g same typed b e = record {
    values = g.values ++ v ∷ [];
    read = read_more v size g.read (subst (λ u. IsOfType u v) same typed) b;
    count_is = omega (arith, g.count_is, length-append g.values (v ∷ []));
    gained = e ∙ ap (λ (c : Cells). record c { values = c.values ++ v ∷ [] }) g.gained ∙ ap (λ vs. record old { values = vs }) (append_assoc old.values g.values (v ∷ []));
  }

  pub gained_front : AreGained bytes at k old now → GainsFront bytes old now
  gained_front g = record { values = g.values; rest = drop at bytes; front = front g.read; gained = g.gained }

  pub gained_stuck : {count : ℕ} (t : ColType) → AreGained bytes at k old now → t ≡ old.col_type → k < count → NoneBegins t (drop at bytes) → IsFirstFault old.col_type count bytes at
  gained_stuck t g same few none = read_stuck g.read (omega (arith, g.count_is)) (subst (λ u. NoneBegins u (drop at bytes)) same none)

  pub gained_past : {count : ℕ} → AreGained bytes at k old now → k ≡ count → at < length bytes → IsFirstFault old.col_type count bytes at
  gained_past g full more = read_past g.read (g.count_is ∙ full) more

  pub gained_all : {count : ℕ} → AreGained bytes at k old now → k ≡ count → length bytes ≤ at → GainsAll count bytes old now
  gained_all g full end = record { values = g.values; spelling = read_all g.read (g.count_is ∙ full) end; gained = g.gained }

-- a column that got what bytes spell got these values, whichever they spell
pub gained_spelled : (count : ℕ) (bytes : List ℕ) (old new : Cells) (values : List Value) → GainsAll count bytes old new → IsSpelling old.col_type count bytes values → new ≡ with_values old values
gained_spelled count bytes old new values g p = g.gained ∙ ap (with_values old) (one_spelling old.col_type count bytes g.values values g.spelling p)

-- and one that got nothing yet
pub gained_none : (bytes : List ℕ) (old : Cells) → AreGained bytes 0 0 old old
gained_none bytes old = record {
  values = [];
  read = read_none old.col_type bytes;
  count_is = refl;
  gained = ap (λ vs. record old { values = vs }) (sym (append-nil old.values));
}

-- ---- what a call of a step says of the whole

-- a fault that is handed on stays what it is
pub handed_on : {T : Type 0} (result : Result T FormatFault) (fault : FormatFault) (at : ℕ) → IsErrAnd result (λ e. e ≡ fault) → fault ≡ Malformed at → result ≡ Err (Malformed at)
handed_on (Ok x) fault at made is = absurd made
handed_on (Err e) fault at made is = ap Err (made ∙ is)

-- what is known once the end of the bytes was looked for at a place
abbrev pub LookedFor : {T : Type 0} → Result T FormatFault → List ℕ → ℕ → Type 0
LookedFor result bytes at = MatchResult result (λ _. length bytes ≤ at) (λ e. (e ≡ Malformed at) × (at < length bytes))

module _ {bytes : List ℕ} {at k : ℕ} {old now : Cells} where
  pub end_read : {count : ℕ} (result : Result (Unit {0}) FormatFault) → LookedFor result bytes at → AreGained bytes at k old now → k ≡ count → OnOk result (GainsAll count bytes old now)
  end_read (Ok x) end g full = gained_all g full end
  end_read (Err e) end g full = tt

  pub end_fault : {count : ℕ} (result : Result (Unit {0}) FormatFault) → LookedFor result bytes at → AreGained bytes at k old now → k ≡ count → IfErr result (Explains old.col_type count bytes)
  end_fault (Ok x) end g full = tt
  end_fault {count} (Err e) end g full = rw end.0 (gained_past g full end.1)

  pub end_spelled : {count : ℕ} (result : Result (Unit {0}) FormatFault) (values : List Value) → LookedFor result bytes at → AreGained bytes at k old now → k ≡ count → IsSpelling old.col_type count bytes values → MatchResult result (λ _. now ≡ with_values old values) (λ e. e ≡ NoMemory)
  end_spelled {count} (Ok x) values end g full spelling = gained_spelled count bytes old now values (gained_all g full end) spelling
  end_spelled {count} (Err e) values end g full spelling = absurd (no_spelling old.col_type count bytes at values (gained_past g full end.1) spelling)
