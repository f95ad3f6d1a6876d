-- One more element, where it is read by `slice_get`.
use Rattle.std.proofs.Common.{◌≡◌, ℕ, ◌+◌, ◌<◌, ◌≤◌, List, [], ◌∷◌, ◌++◌, Some, None, zero, suc, length, take, get_or, slice_get, refl, sym, ap, ◌∙◌, append_assoc, append-nil, arith, add-one}
use Rattle.std.specs.List.{concat}
use Rattle.std.proofs.lemmas.List.{take_more}
use Rattle.mt_values.specs.declared.value.Value.{Value}
use Rattle.mt_values.specs.Printing.{field, fields}

take_got_suc : {X : Type 0} (xs : List X) (i : ℕ) (x : X) → slice_get xs i ≡ Some x → take (suc i) xs ≡ take i xs ++ x ∷ []
take_got_suc [] i x is = cc
take_got_suc (y ∷ xs) zero x is = cc
take_got_suc (y ∷ xs) (suc i) x is = ap (λ zs. y ∷ zs) (take_got_suc xs i x is)

pub take_got : {X : Type 0} (xs : List X) (i : ℕ) (x : X) → slice_get xs i ≡ Some x → take (i + 1) xs ≡ take i xs ++ x ∷ []
take_got xs i x is = rw add-one (take_got_suc xs i x is)

pub get_past : {X : Type 0} (xs : List X) (n : ℕ) → length xs ≤ n → slice_get xs n ≡ None
get_past [] n past = refl
get_past (x ∷ xs) zero past = absurd (omega arith)
get_past (x ∷ xs) (suc n) past = get_past xs n (omega arith)

fields_push : (first : Value) (xs : List Value) (v : Value) → fields (first ∷ (xs ++ v ∷ [])) ≡ fields (first ∷ xs) ++ 9 ∷ field v
fields_push first [] v = refl
fields_push first (w ∷ ws) v = ap (λ zs. field first ++ 9 ∷ zs) (fields_push w ws v) ∙ sym (append_assoc (field first) (9 ∷ fields (w ∷ ws)) (9 ∷ field v))

-- the fields of one more value
pub fields_more : (first : Value) (others : List Value) (i : ℕ) (d : Value) → i < length others → fields (first ∷ take (i + 1) others) ≡ fields (first ∷ take i others) ++ 9 ∷ field (get_or others i d)
fields_more first others i d below = ap (λ zs. fields (first ∷ zs)) (take_more others i d below) ∙ fields_push first (take i others) (get_or others i d)

concat_push : (xss : List (List ℕ)) (xs : List ℕ) → concat (xss ++ xs ∷ []) ≡ concat xss ++ xs
concat_push [] xs = append-nil xs
concat_push (ys ∷ xss) xs = ap (λ (zs : List ℕ). ys ++ zs) (concat_push xss xs) ∙ sym (append_assoc ys (concat xss) xs)

-- one line more
pub concat_more : (xss : List (List ℕ)) (i : ℕ) (d : List ℕ) → i < length xss → concat (take (i + 1) xss) ≡ concat (take i xss) ++ get_or xss i d
concat_more xss i d below = ap concat (take_more xss i d below) ∙ concat_push (take i xss) (get_or xss i d)
