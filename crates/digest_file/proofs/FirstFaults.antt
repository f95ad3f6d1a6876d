-- The first fault of bytes, whatever it is that they do not spell.
use Rattle.std.proofs.Common.{◌≡◌, ℕ, ◌+◌, ◌<◌, ◌≤◌, List, ◌++◌, ◌⊎◌, inl, inr, refl, sym, ap, ◌∙◌, subst, length, take, drop, slice_get, Some, append_assoc, take-append-drop, arith, Result, Ok, Err, IsErrAnd, MatchResult}
use Rattle.std.proofs.lemmas.Bool.{cases_lt}
use Rattle.std.proofs.lemmas.List.{take-take, take-append-le, length-take-le, length-append, get_or-take, get_or_append_left}
use Rattle.std.proofs.lemmas.Option.{slice_get-get_or}
use Rattle.byte_numbers.specs.declared.faults.FormatFault.{FormatFault}
use Rattle.byte_numbers.specs.declared.faults.FormatFault.TheVariants.{NoMemory, Malformed}
use Rattle.digest_file.specs.Faults.{BeginsSome, Explains, IsFirstFault, Locates}

-- a list that begins with the bytes up to a place and the byte there has the front and the byte
front_kept : (bytes rest : List ℕ) (k : ℕ) → k < length bytes → take k (take (k + 1) bytes ++ rest) ≡ take k bytes
front_kept bytes rest k h =
    let n : length (take (k + 1) bytes) ≡ k + 1 = length-take-le (k + 1) bytes (omega arith) in
    take-append-le k (take (k + 1) bytes) rest (omega arith) ∙ take-take k (k + 1) bytes (omega arith)

byte_kept : (bytes rest : List ℕ) (k : ℕ) → k < length bytes → slice_get (take (k + 1) bytes ++ rest) k ≡ slice_get bytes k
byte_kept bytes rest k h =
    let n : length (take (k + 1) bytes) ≡ k + 1 = length-take-le (k + 1) bytes (omega arith) in
    slice_get-get_or (take (k + 1) bytes ++ rest) k 0 (omega (arith, length-append (take (k + 1) bytes) rest))
    ∙ ap Some (get_or_append_left (take (k + 1) bytes) rest 0 k (omega arith) ∙ get_or-take (k + 1) bytes k 0 (omega arith))
    ∙ sym (slice_get-get_or bytes k 0 h)

module _ (P : List ℕ → Type 0) where
  -- what a spelling begins with, its fronts begin
  pub begins_front : (front more : List ℕ) → BeginsSome P (front ++ more) → BeginsSome P front
  begins_front front more b = (more ++ b.0, subst P (append_assoc front more b.0) b.1)

  -- where no spelling that is alike before the place is alike there, the place is the first fault
  pub fault_at : (bytes : List ℕ) (place : ℕ) → place ≤ length bytes → BeginsSome P (take place bytes) → ((s : List ℕ) → P s → take place s ≡ take place bytes → slice_get s place ≡ slice_get bytes place → ⊥) → IsFirstFault P bytes place
  fault_at bytes place within begins none = record { before = begins; here = either (cases_lt place (length bytes)) }
    where
      either : (place < length bytes) ⊎ (length bytes ≤ place) → ((place ≡ length bytes) × (P bytes → ⊥)) ⊎ ((place < length bytes) × (BeginsSome P (take (place + 1) bytes) → ⊥))
      either (inl h) = inr (h, λ b. none (take (place + 1) bytes ++ b.0) b.1 (front_kept bytes b.0 place h) (byte_kept bytes b.0 place h))
      either (inr h) = inl (omega arith, λ p. none bytes p refl refl)

  fault_within : (bytes : List ℕ) (place : ℕ) → IsFirstFault P bytes place → place ≤ length bytes
  fault_within bytes place f = elim f.here [ inl h ↦ omega (arith, h.0) | inr h ↦ omega (arith, h.0) ]

  -- no first fault is before another
  not_before : (bytes : List ℕ) (first second : ℕ) → IsFirstFault P bytes first → IsFirstFault P bytes second → first < second → ⊥
  not_before bytes first second f g less = either f.here
    where
      within : second ≤ length bytes
      within = fault_within bytes second g

      parted : take second bytes ≡ take (first + 1) bytes ++ drop (first + 1) (take second bytes)
      parted = sym (take-append-drop (first + 1) (take second bytes)) ∙ ap (λ l. l ++ drop (first + 1) (take second bytes)) (take-take (first + 1) second bytes (omega arith))

      either : ((first ≡ length bytes) × (P bytes → ⊥)) ⊎ ((first < length bytes) × (BeginsSome P (take (first + 1) bytes) → ⊥)) → ⊥
      either (inl h) = omega (arith, h.0, less, within)
      either (inr h) = h.1 (begins_front (take (first + 1) bytes) (drop (first + 1) (take second bytes)) (subst (BeginsSome P) parted g.before))

  -- the first fault is at one place
  pub one_place : (bytes : List ℕ) (first second : ℕ) → IsFirstFault P bytes first → IsFirstFault P bytes second → first ≡ second
  one_place bytes first second f g = either (cases_lt first second) (cases_lt second first)
    where
      either : (first < second) ⊎ (second ≤ first) → (second < first) ⊎ (first ≤ second) → first ≡ second
      either (inl h) k = absurd (not_before bytes first second f g h)
      either (inr h) (inl k) = absurd (not_before bytes second first g f k)
      either (inr h) (inr k) = omega arith

  -- bytes with a first fault are no spelling
  pub no_spelling : (bytes : List ℕ) (place : ℕ) → IsFirstFault P bytes place → P bytes → ⊥
  no_spelling bytes place f p = either f.here
    where
      either : ((place ≡ length bytes) × (P bytes → ⊥)) ⊎ ((place < length bytes) × (BeginsSome P (take (place + 1) bytes) → ⊥)) → ⊥
      either (inl h) = h.1 p
      either (inr h) = h.1 (drop (place + 1) bytes, subst P (sym (take-append-drop (place + 1) bytes)) p)

-- ---- two names of one set of spellings

module _ (P Q : List ℕ → Type 0) (to : (s : List ℕ) → P s → Q s) (from : (s : List ℕ) → Q s → P s) where
  same_fault : (bytes : List ℕ) (place : ℕ) → IsFirstFault P bytes place → IsFirstFault Q bytes place
  same_fault bytes place f = record { before = (f.before.0, to (take place bytes ++ f.before.0) f.before.1); here = either f.here }
    where
      either : ((place ≡ length bytes) × (P bytes → ⊥)) ⊎ ((place < length bytes) × (BeginsSome P (take (place + 1) bytes) → ⊥)) → ((place ≡ length bytes) × (Q bytes → ⊥)) ⊎ ((place < length bytes) × (BeginsSome Q (take (place + 1) bytes) → ⊥))
      either (inl h) = inl (h.0, λ q. h.1 (from bytes q))
      either (inr h) = inr (h.0, λ b. h.1 (b.0, from (take (place + 1) bytes ++ b.0) b.1))

  pub same_located : (bytes : List ℕ) (fault : FormatFault) → Locates P bytes fault → Locates Q bytes fault
  same_located bytes NoMemory f = absurd f
  same_located bytes (Malformed place) f = same_fault bytes place f

-- the first fault explains the error
pub located_explains : (P : List ℕ → Type 0) (bytes : List ℕ) (fault : FormatFault) → Locates P bytes fault → Explains P bytes fault
located_explains P bytes NoMemory f = absurd f
located_explains P bytes (Malformed place) f = f

-- and bytes that it is of are no spelling
pub located_none : (P : List ℕ → Type 0) (bytes : List ℕ) (fault : FormatFault) → Locates P bytes fault → P bytes → ⊥
located_none P bytes NoMemory f p = f
located_none P bytes (Malformed place) f p = no_spelling P bytes place f p

-- an error that is handed on stays what it is
pub handed_on : {T : Type 0} (R : T → Type 0) (Q : FormatFault → Type 0) (result : Result T FormatFault) (fault : FormatFault) → IsErrAnd result (λ e. e ≡ fault) → Q fault → MatchResult result R Q
handed_on R Q (Ok x) fault made q = absurd made
handed_on R Q (Err e) fault made q = subst Q (sym made) q
