-- A walk over bytes by a mask: values that are passed over, and those that a column gets.
use Rattle.std.proofs.Common.{◌≡◌, ◌≢◌, ℕ, ◌+◌, ◌-◌, ◌*◌, ◌/◌, ◌<◌, ◌≤◌, Bool, true, false, zero, suc, List, [], ◌∷◌, ◌++◌, refl, sym, ap, ap₂, ◌∙◌, subst, length, length-append, length-drop, length-take-le, take, drop, take-append-drop, get_or, replicate, append_assoc, append-nil, arith, Result, Ok, Err, IfErr, MatchResult, OnOk}
use Rattle.std.proofs.Math.Nat.{lt-div-mul-add, mul-div-le, mul-le-mul_left}
use Rattle.std.proofs.lemmas.List.{drop-drop, length-replicate, replicate_more, take_all, take_more}
use Rattle.std.proofs.lemmas.List.Concat.{flat_map-append}
use Rattle.std.proofs.lemmas.List.Elements.{All-append, All-drop, All-nil, All-push}
use Rattle.mt_values.specs.declared.value.ColType.{ColType}
use Rattle.mt_values.specs.declared.value.ColType.TheVariants as type
use Rattle.mt_values.specs.declared.value.Value.{Value}
use Rattle.mt_values.specs.ColumnBytes.{column_bytes, value_bytes}
use Rattle.mt_values.specs.Grid.{Cells}
use Rattle.mt_values.specs.Lists.{where_true}
use Rattle.mt_values.proofs.Wheres.{where_append}
use Rattle.byte_numbers.specs.Fronts.{Begins}
use Rattle.byte_numbers.specs.declared.faults.FormatFault.{FormatFault}
use Rattle.byte_numbers.specs.declared.faults.FormatFault.TheVariants.{NoMemory, Malformed}
use Rattle.byte_numbers.proofs.Numbers.{AreBytes}
use Rattle.column_file.specs.Faults.{Explains, IsFirstFault, NoneBegins}
use Rattle.column_file.specs.Picks.{AreBetween, AreFewer, ExplainsPass, GainsFrontWhere, GainsWhere}
use Rattle.column_file.specs.Spellings.{IsOfType, IsSpelling, fewest_bytes, with_values}
use Rattle.column_file.proofs.Numbers.{none_left, numbers_read}
use Rattle.column_file.proofs.OneWay.{no_spelling, one_spelling}
use Rattle.column_file.proofs.Reading.{AreRead, LookedFor, read_all, read_more, read_none, read_past, read_stuck}

-- ---- values that are passed over

pub between_none : (t : ColType) (bytes : List ℕ) (at : ℕ) → AreBetween t 0 bytes at at
between_none t bytes at = record { values = []; count_is = refl; front = record { typed = All-nil (IsOfType t); parted = refl }; to_is = omega arith }

-- values that were read from a place are passed
pub between_read : {t : ColType} {bytes : List ℕ} {from size : ℕ} {values : List Value} → AreRead t (drop from bytes) size values → AreBetween t (length values) bytes from (from + size)
between_read {t} {bytes} {from} {size} {values} r = record {
  values = values;
  count_is = refl;
  front = record { typed = r.typed; parted = r.begins.parted ∙ ap (λ l. column_bytes values ++ l) (drop-drop size from bytes) };
  to_is = ap (λ n. from + n) r.begins.size_is;
}

module _ {t : ColType} {bytes : List ℕ} {from to k : ℕ} where
  pub between_within : AreBetween t k bytes from to → from ≤ length bytes → to ≤ length bytes
  between_within b inside =
      omega (arith, inside, b.to_is, length-drop from bytes, length-drop to bytes, simp length-append at (ap length b.front.parted))

  -- one value more is passed
  pub between_more : (v : Value) (size : ℕ) → AreBetween t k bytes from to → IsOfType t v → Begins (value_bytes v) size (drop to bytes) → AreBetween t (k + 1) bytes from (to + size)
  between_more v size b typed begins =
      let all : column_bytes (b.values ++ v ∷ []) ≡ column_bytes b.values ++ value_bytes v =
      flat_map-append value_bytes b.values (v ∷ []) ∙ ap (λ l. column_bytes b.values ++ l) (append-nil (value_bytes v)) in
      let left : drop to bytes ≡ value_bytes v ++ drop (to + size) bytes = begins.parted ∙ ap (λ l. value_bytes v ++ l) (drop-drop size to bytes) in
      record {
        values = b.values ++ v ∷ [];
        count_is = omega (arith, b.count_is, length-append b.values (v ∷ []));
        front = record {
          typed = All-push (IsOfType t) b.values v b.front.typed typed;
          parted = b.front.parted ∙ ap (λ l. column_bytes b.values ++ l) left ∙ sym (append_assoc (column_bytes b.values) (value_bytes v) (drop (to + size) bytes)) ∙ ap (λ l. l ++ drop (to + size) bytes) (sym all);
        };
        to_is = omega (arith, b.to_is, begins.size_is, ap length all, length-append (column_bytes b.values) (value_bytes v));
      }

  -- no further one begins
  pub between_fewer : {count : ℕ} → AreBetween t k bytes from to → k < count → NoneBegins t (drop to bytes) → AreFewer t count bytes from to
  between_fewer b few none = record { passed = k; few = few; before = b; none = none }

  -- values that were read go on with those that are passed
  pub read_between : {values : List Value} → AreRead t bytes from values → (b : AreBetween t k bytes from to) → AreRead t bytes to (values ++ b.values)
  read_between {values} r b =
      let all : column_bytes (values ++ b.values) ≡ column_bytes values ++ column_bytes b.values = flat_map-append value_bytes values b.values in
      record {
        typed = All-append (IsOfType t) values b.values r.typed b.front.typed;
        begins = record {
          size_is = omega (arith, b.to_is, r.begins.size_is, ap length all, length-append (column_bytes values) (column_bytes b.values));
          parted = r.begins.parted ∙ ap (λ l. column_bytes values ++ l) b.front.parted ∙ sym (append_assoc (column_bytes values) (column_bytes b.values) (drop to bytes)) ∙ ap (λ l. l ++ drop to bytes) (sym all);
        };
      }

-- ---- numbers

-- as many numbers as there is room for are passed
numbers_between : (t : ColType) (bytes : List ℕ) (from n : ℕ) → t ≢ type.Text → AreBytes bytes → fewest_bytes t * n ≤ length (drop from bytes) → AreBetween t n bytes from (from + fewest_bytes t * n)
numbers_between t bytes from n other are room =
    let read = numbers_read t (drop from bytes) other (All-drop (λ b. b < 256) from bytes are) n room in
    subst (λ k. AreBetween t k bytes from (from + fewest_bytes t * n)) read.1 (between_read read.2)

module _ (t : ColType) (bytes : List ℕ) (from count size whole : ℕ) (same : size ≡ fewest_bytes t) (whole_is : whole ≡ (length bytes - from) / fewest_bytes t) (other : t ≢ type.Text) (are : AreBytes bytes) where
  abbrev left : ℕ
  left = length bytes - from

  whole_fits : size * whole ≤ left
  whole_fits =
      let fits : fewest_bytes t * (left / fewest_bytes t) ≤ left = mul-div-le left (fewest_bytes t) in
      subst (λ s. s * whole ≤ left) (sym same) (subst (λ n. fewest_bytes t * n ≤ left) (sym whole_is) fits)

  numbers_there : (n : ℕ) → size * n ≤ left → AreBetween t n bytes from (from + size * n)
  numbers_there n room =
      let fits : fewest_bytes t * n ≤ left = subst (λ s. s * n ≤ left) same room in
      subst (λ s. AreBetween t n bytes from (from + s * n)) (sym same) (numbers_between t bytes from n other are (omega (arith, fits, length-drop from bytes)))

  -- with fewer than there should be, none begins after the last whole one
  pub numbers_fewer : 0 < size → whole < count → AreFewer t count bytes from (from + size * whole)
  numbers_fewer some few =
      let positive : 0 < fewest_bytes t = omega (arith, same, some) in
      let short : left < (left / fewest_bytes t) * fewest_bytes t + fewest_bytes t = lt-div-mul-add positive in
      let end : left < whole * size + size = subst (λ s. left < whole * s + s) (sym same) (subst (λ n. left < n * fewest_bytes t + fewest_bytes t) (sym whole_is) short) in
      let next = from + size * whole in
      between_fewer (numbers_there whole whole_fits) few (none_left t (drop next bytes) other (omega (arith, same, end, length-drop next bytes)))

  pub numbers_enough : count ≤ whole → AreBetween t count bytes from (from + size * count)
  numbers_enough enough =
      let less : size * count ≤ size * whole = mul-le-mul_left size enough in
      numbers_there count (omega (arith, less, whole_fits))

-- ---- a column that gets the values at which a mask is true

-- it is true at none of the last places
where_false : {X : Type 0} (n : ℕ) (xs : List X) → where_true (replicate n false) xs ≡ []
where_false zero xs = refl
where_false (suc n) [] = refl
where_false (suc n) (x ∷ xs) = where_false n xs

-- there is nothing
where_none : {X : Type 0} (mask : List Bool) → where_true {X = X} mask [] ≡ []
where_none [] = refl
where_none (b ∷ mask) = refl

-- the bytes up to a place are those of values, one for each place of the mask but the last few, at which it is false; and a column got those
-- at which it is true
pub record ArePicked (mask : List Bool) (unwanted : ℕ) (bytes : List ℕ) (at : ℕ) (old new : Cells) : Type 0 where
  pub done : List Bool
  pub parted : mask ≡ done ++ replicate unwanted false
  pub values : List Value
  pub read : AreRead old.col_type bytes at values
  pub even : length values ≡ length done
  pub gained : new ≡ with_values old (where_true done values)

pub picked_none : (bytes : List ℕ) (old : Cells) → ArePicked [] 0 bytes 0 old old
picked_none bytes old = record {
  done = [];
  parted = refl;
  values = [];
  read = read_none old.col_type bytes;
  even = refl;
  gained = ap (λ vs. record old { values = vs }) (sym (append-nil old.values));
}

module _ (mask : List Bool) (i : ℕ) {bytes : List ℕ} {at unwanted : ℕ} {old now : Cells} where
  -- one value more is not wanted
  pub picked_skip : ArePicked (take i mask) unwanted bytes at old now → i < length mask → get_or mask i false ≡ false → ArePicked (take (i + 1) mask) (unwanted + 1) bytes at old now
  picked_skip p below not = record {
    done = p.done;
    parted = take_more mask i false below ∙ ap₂ (λ (l : List Bool) (b : Bool). l ++ b ∷ []) p.parted not ∙ append_assoc p.done (replicate unwanted false) (false ∷ []) ∙ ap (λ l. p.done ++ l) (replicate_more unwanted false);
    values = p.values;
    read = p.read;
    even = p.even;
    gained = p.gained;
  }

  -- how many values were gone over
  picked_many : i ≤ length mask → (p : ArePicked (take i mask) unwanted bytes at old now) → length p.values + unwanted ≡ i
  picked_many inside p = omega (arith, p.even, length-take-le i mask inside, ap length p.parted, length-append p.done (replicate unwanted false), length-replicate unwanted false)

  -- of a front of the mask they are those of the whole
  pub picked_front : ArePicked (take i mask) unwanted bytes at old now → GainsFrontWhere mask bytes old now
  picked_front p =
      let behind = replicate unwanted false ++ drop i mask in
      let all : mask ≡ p.done ++ behind = sym (take-append-drop i mask) ∙ ap (λ l. l ++ drop i mask) p.parted ∙ append_assoc p.done (replicate unwanted false) (drop i mask) in
      let same : where_true mask p.values ≡ where_true p.done p.values =
      ap₂ where_true all (sym (append-nil p.values)) ∙ where_append p.done behind p.values [] (sym p.even) ∙ ap (λ l. where_true p.done p.values ++ l) (where_none behind) ∙ append-nil (where_true p.done p.values) in
      record {
        values = p.values;
        rest = drop at bytes;
        front = record { typed = p.read.typed; parted = p.read.begins.parted };
        gained = p.gained ∙ ap (with_values old) (sym same);
      }

  -- where values were to be passed and fewer are there
  pub picked_fewer : {place : ℕ} (t : ColType) → ArePicked (take i mask) unwanted bytes at old now → t ≡ old.col_type → i ≤ length mask → AreFewer t unwanted bytes at place → IsFirstFault old.col_type (length mask) bytes place
  picked_fewer {place} t p same inside f =
      let own : AreFewer old.col_type unwanted bytes at place = subst (λ u. AreFewer u unwanted bytes at place) same f in
      read_stuck (read_between p.read own.before) (omega (arith, picked_many inside p, own.few, own.before.count_is, length-append p.values own.before.values)) own.none

  pub picked_unpassed : (t : ColType) → ArePicked (take i mask) unwanted bytes at old now → t ≡ old.col_type → i ≤ length mask → (e : FormatFault) → ExplainsPass t unwanted bytes at e → Explains old.col_type (length mask) bytes e
  picked_unpassed t p same inside NoMemory why = tt
  picked_unpassed t p same inside (Malformed place) why = picked_fewer t p same inside why

  pub unpassed_unspelled : (t : ColType) → ArePicked (take i mask) unwanted bytes at old now → t ≡ old.col_type → i ≤ length mask → (e : FormatFault) → ExplainsPass t unwanted bytes at e → (values : List Value) → IsSpelling old.col_type (length mask) bytes values → ⊥
  unpassed_unspelled t p same inside NoMemory why values spelling = absurd why
  unpassed_unspelled t p same inside (Malformed place) why values spelling = no_spelling old.col_type (length mask) bytes place values (picked_fewer t p same inside why) spelling

-- those that are not wanted are passed
pub picked_past : {mask : List Bool} {bytes : List ℕ} {at unwanted end : ℕ} {old now : Cells} (t : ColType) → ArePicked mask unwanted bytes at old now → t ≡ old.col_type → AreBetween t unwanted bytes at end → ArePicked mask 0 bytes end old now
picked_past {mask} {bytes} {at} {unwanted} {end} {old} {now} t p same between =
    let b : AreBetween old.col_type unwanted bytes at end = subst (λ u. AreBetween u unwanted bytes at end) same between in
    let none = replicate unwanted false in
    let picked : where_true mask (p.values ++ b.values) ≡ where_true p.done p.values =
    ap (λ m. where_true m (p.values ++ b.values)) p.parted ∙ where_append p.done none p.values b.values (sym p.even)
    ∙ ap (λ l. where_true p.done p.values ++ l) (where_false unwanted b.values) ∙ append-nil (where_true p.done p.values) in
    record {
      done = mask;
      parted = sym (append-nil mask);
      values = p.values ++ b.values;
      read = read_between p.read b;
      even = omega (arith, p.even, b.count_is, ap length p.parted, length-append p.done none, length-replicate unwanted false, length-append p.values b.values);
      gained = p.gained ∙ ap (with_values old) (sym picked);
    }

module _ (mask : List Bool) (i : ℕ) {bytes : List ℕ} {at : ℕ} {old now : Cells} where
  -- the next value is wanted, and the column gets it
  pub picked_more : (v : Value) (size : ℕ) (new : Cells) (t : ColType) → ArePicked (take i mask) 0 bytes at old now → i < length mask → get_or mask i false ≡ true → t ≡ old.col_type → IsOfType t v → Begins (value_bytes v) size (drop at bytes)
      → new ≡ record now { values = now.values ++ v ∷ [] } → ArePicked (take (i + 1) mask) 0 bytes (at + size) old new
  picked_more v size new t p below is same typed begins e =
      let done : p.done ≡ take i mask = sym (append-nil p.done) ∙ sym p.parted in
      let next : take (i + 1) mask ≡ p.done ++ true ∷ [] = take_more mask i false below ∙ ap₂ (λ (l : List Bool) (b : Bool). l ++ b ∷ []) (sym done) is in
      let before = where_true p.done p.values in
      let picked : where_true (take (i + 1) mask) (p.values ++ v ∷ []) ≡ before ++ v ∷ [] =
      ap (λ m. where_true m (p.values ++ v ∷ [])) next ∙ where_append p.done (true ∷ []) p.values (v ∷ []) (sym p.even) in
      record {
        done = take (i + 1) mask;
        parted = sym (append-nil (take (i + 1) mask));
        values = p.values ++ v ∷ [];
        read = read_more v size p.read (subst (λ u. IsOfType u v) same typed) begins;
        even = omega (arith, p.even, ap length next, length-append p.done (true ∷ []), length-append p.values (v ∷ []));
        gained = e ∙ ap (λ (c : Cells). record c { values = c.values ++ v ∷ [] }) p.gained
            ∙ ap (λ vs. record old { values = vs }) (append_assoc old.values before (v ∷ []) ∙ ap (λ l. old.values ++ l) (sym picked));
      }

  -- no value begins where a wanted one was to come
  pub picked_stuck : (t : ColType) → ArePicked (take i mask) 0 bytes at old now → i < length mask → t ≡ old.col_type → NoneBegins t (drop at bytes) → IsFirstFault old.col_type (length mask) bytes at
  picked_stuck t p below same none =
      read_stuck p.read (omega (arith, below, picked_many mask i (omega (arith, below)) p)) (subst (λ u. NoneBegins u (drop at bytes)) same none)

-- ---- the end of the mask

-- a column that got what is wanted of what bytes spell got it of these values, whichever they spell
pub gained_where : (mask : List Bool) (bytes : List ℕ) (old new : Cells) (values : List Value) → GainsWhere mask bytes old new → IsSpelling old.col_type (length mask) bytes values → new ≡ with_values old (where_true mask values)
gained_where mask bytes old new values g spelling =
    g.gained ∙ ap (λ vs. with_values old (where_true mask vs)) (one_spelling old.col_type (length mask) bytes g.values values g.spelling spelling)

-- all places of the mask are gone over
pub picked_whole : (mask : List Bool) (i : ℕ) {unwanted : ℕ} {bytes : List ℕ} {at : ℕ} {old now : Cells} → length mask ≤ i → ArePicked (take i mask) unwanted bytes at old now → ArePicked mask unwanted bytes at old now
picked_whole mask i {unwanted} {bytes} {at} {old} {now} all p = subst (λ m. ArePicked m unwanted bytes at old now) (take_all i mask all) p

module _ {mask : List Bool} {bytes : List ℕ} {at : ℕ} {old now : Cells} where
  picked_count : (p : ArePicked mask 0 bytes at old now) → length p.values ≡ length mask
  picked_count p = p.even ∙ ap length (sym (append-nil p.done) ∙ sym p.parted)

  picked_all : ArePicked mask 0 bytes at old now → length bytes ≤ at → GainsWhere mask bytes old now
  picked_all p end = record {
    values = p.values;
    spelling = read_all p.read (picked_count p) end;
    gained = p.gained ∙ ap (λ m. with_values old (where_true m p.values)) (sym (append-nil p.done) ∙ sym p.parted);
  }

  picked_over : ArePicked mask 0 bytes at old now → at < length bytes → IsFirstFault old.col_type (length mask) bytes at
  picked_over p more = read_past p.read (picked_count p) more

  pub pick_read : (result : Result (Unit {0}) FormatFault) → LookedFor result bytes at → ArePicked mask 0 bytes at old now → OnOk result (GainsWhere mask bytes old now)
  pick_read (Ok x) end p = picked_all p end
  pick_read (Err e) end p = tt

  pub pick_fault : (result : Result (Unit {0}) FormatFault) → LookedFor result bytes at → ArePicked mask 0 bytes at old now → IfErr result (Explains old.col_type (length mask) bytes)
  pick_fault (Ok x) end p = tt
  pick_fault (Err e) end p = rw end.0 (picked_over p end.1)

  pub pick_spelled : (result : Result (Unit {0}) FormatFault) (values : List Value) → LookedFor result bytes at → ArePicked mask 0 bytes at old now → IsSpelling old.col_type (length mask) bytes values
      → MatchResult result (λ _. now ≡ with_values old (where_true mask values)) (λ e. e ≡ NoMemory)
  pick_spelled (Ok x) values end p spelling = gained_where mask bytes old now values (picked_all p end) spelling
  pick_spelled (Err e) values end p spelling = absurd (no_spelling old.col_type (length mask) bytes at values (picked_over p end.1) spelling)
