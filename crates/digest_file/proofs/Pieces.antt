-- Pieces of lists, and the bytes that they are.
use Rattle.std.proofs.Common.{◌≡◌, ℕ, zero, suc, ◌+◌, ◌<◌, List, [], ◌∷◌, ◌++◌, refl, sym, ap, ◌∙◌, subst, length, take, drop, get_or, slice_get, Some, None, arith}
use Rattle.std.proofs.lemmas.List.{take_at, drop_at, take-append-le}
use Rattle.std.proofs.lemmas.List.Elements.{All-nil, All-cons, All-append, All-drop, All-take}
use Rattle.std.proofs.lemmas.Option.{slice_get-get_or, slice_get_past}
use Rattle.std.specs.Int.{w32, to_be_bytes, byte_at}
use Rattle.std.specs.Prelude.{slice_index}
use Rattle.sha2.specs.Sha256.{sha256, digest_bytes, final_hash, initial_hash_256}
use Rattle.digest_file.specs.Faults.{AreBytes}
use Rattle.digest_file.specs.Frames.{PartAt}

-- lists of one length at the front of one list are one
pub fronts_apart : (xs ys r s : List ℕ) → length xs ≡ length ys → xs ++ r ≡ ys ++ s → (xs ≡ ys) × (r ≡ s)
fronts_apart xs ys r s n e = (
  sym (take_at xs r (length ys) n) ∙ ap (take (length ys)) e ∙ take_at ys s (length ys) refl,
  sym (drop_at xs r (length ys) n) ∙ ap (drop (length ys)) e ∙ drop_at ys s (length ys) refl,
)

-- an item of a front, and one after it
pub item_in_front : (xs ys : List ℕ) (k : ℕ) → k < length xs → slice_get (xs ++ ys) k ≡ slice_get xs k
item_in_front [] ys k h = absurd (omega arith)
item_in_front (x ∷ xs) ys zero h = refl
item_in_front (x ∷ xs) ys (suc k) h = item_in_front xs ys k (omega arith)

pub item_behind : (xs ys : List ℕ) (k n : ℕ) → n ≡ length xs + k → slice_get (xs ++ ys) n ≡ slice_get ys k
item_behind [] ys k n e = ap (slice_get ys) (e ∙ omega arith)
item_behind (x ∷ xs) ys k zero e = absurd (omega arith)
item_behind (x ∷ xs) ys k (suc n) e = item_behind xs ys k n (omega arith)

-- a longer list has an item at the end of a shorter one
pub longer_has : (xs ys : List ℕ) → length xs < length ys → slice_get ys (length xs) ≡ slice_get xs (length xs) → ⊥
longer_has xs ys h e =
    let there = slice_get-get_or ys (length xs) 0 h in
    let here : slice_get xs (length xs) ≡ None = slice_get_past xs (length xs) (omega arith) in
    let both : Some (get_or ys (length xs) 0) ≡ None = sym there ∙ e ∙ here in
    cc

-- a list that goes on after another parts from it at the other's end
pub goes_on : (t whole : List ℕ) (n : ℕ) → length whole ≡ n → n < length t → t ≡ whole ++ drop (length whole) t → PartAt t whole n
goes_on t whole n size longer e = record {
  alike = ap (take n) e ∙ take-append-le n whole (drop (length whole) t) (omega arith);
  apart = λ same. longer_has whole t (omega arith) (subst (λ k. slice_get t k ≡ slice_get whole k) (sym size) same);
}

-- ---- bytes

-- what is joined to bytes is bytes
pub bytes_left : (xs ys : List ℕ) → AreBytes (xs ++ ys) → AreBytes xs
bytes_left xs ys are = subst AreBytes (take_at xs ys (length xs) refl) (All-take (λ b. b < 256) (length xs) (xs ++ ys) are)

pub bytes_right : (xs ys : List ℕ) → AreBytes (xs ++ ys) → AreBytes ys
bytes_right xs ys are = subst AreBytes (drop_at xs ys (length xs) refl) (All-drop (λ b. b < 256) (length xs) (xs ++ ys) are)

-- ---- SHA-256

word_bytes : (n : ℕ) → AreBytes (to_be_bytes w32 n)
word_bytes n =
    let P : ℕ → Type 0 = λ b. b < 256 in
    All-cons P (byte_at 3 n) (byte_at 2 n ∷ byte_at 1 n ∷ byte_at 0 n ∷ []) (omega arith)
    (All-cons P (byte_at 2 n) (byte_at 1 n ∷ byte_at 0 n ∷ []) (omega arith)
    (All-cons P (byte_at 1 n) (byte_at 0 n ∷ []) (omega arith) (All-cons P (byte_at 0 n) [] (omega arith) (All-nil P))))

words_bytes : (h : List ℕ) (n : ℕ) → AreBytes (digest_bytes h n)
unfolding digest_bytes
words_bytes h zero = All-nil (λ b. b < 256)
words_bytes h (suc n) = All-append (λ b. b < 256) (digest_bytes h n) (to_be_bytes w32 (slice_index h n)) (words_bytes h n) (word_bytes (slice_index h n))

pub sha256_bytes : (m : List ℕ) → AreBytes (sha256 m)
unfolding sha256
sha256_bytes m = words_bytes (final_hash initial_hash_256 m) 8
