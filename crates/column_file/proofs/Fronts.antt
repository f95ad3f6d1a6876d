-- Items that are spelled one after another, where no two of them begin one text.
use Rattle.std.proofs.Common.{◌≡◌, ℕ, ◌+◌, ◌<◌, ◌≤◌, List, [], ◌∷◌, ◌++◌, All, Result, Ok, Err, IfErr, IsErrAnd, refl, sym, subst, ap, ap₂, ◌∙◌, length, length-append, get_or, take, append_assoc, append-nil, arith, flat_map}
use Rattle.std.proofs.lemmas.List.{nil_from_length, take_more}
use Rattle.std.proofs.lemmas.List.Concat.{flat_map-append}
use Rattle.std.proofs.lemmas.List.Elements.{All-head, All-tail}

-- of two lists of items at the front of one text the longer begins with the shorter
pub record Longer {X : Type 0} (f : X → List ℕ) (P : X → Type 0) (xs ys : List X) (r s : List ℕ) : Type 0 where
  pub more : List X
  pub sound : All P more
  pub parted : ys ≡ xs ++ more
  pub rest : r ≡ flat_map f more ++ s

-- two items at the front of one text are one, and one text follows them
abbrev pub AreApart : {X : Type 0} → (X → List ℕ) → (X → Type 0) → Type 0
AreApart {X} f P = (x y : X) (r s : List ℕ) → P x → P y → f x ++ r ≡ f y ++ s → (x ≡ y) × (r ≡ s)

pub longer : {X : Type 0} (f : X → List ℕ) (P : X → Type 0) → AreApart f P → (xs ys : List X) (r s : List ℕ) → All P xs → All P ys → length xs ≤ length ys → flat_map f xs ++ r ≡ flat_map f ys ++ s → Longer f P xs ys r s
longer f P apart [] ys r s p q few e = record { more = ys; sound = q; parted = refl; rest = e }
longer f P apart (x ∷ xs) [] r s p q few e = absurd (omega arith)
longer f P apart (x ∷ xs) (y ∷ ys) r s p q few e =
    let first = apart x y (flat_map f xs ++ r) (flat_map f ys ++ s) (All-head P x xs p) (All-head P y ys q)
    (sym (append_assoc (f x) (flat_map f xs) r) ∙ e ∙ append_assoc (f y) (flat_map f ys) s) in
    let after = longer f P apart xs ys r s (All-tail P x xs p) (All-tail P y ys q) (omega arith) first.1 in
    record { more = after.more; sound = after.sound; parted = ap₂ (λ v vs. v ∷ vs) (sym first.0) after.parted; rest = after.rest }

-- lists of one length are one list, and one text follows them
pub even : {X : Type 0} (f : X → List ℕ) (P : X → Type 0) → AreApart f P → (xs ys : List X) (r s : List ℕ) → All P xs → All P ys → length xs ≡ length ys → flat_map f xs ++ r ≡ flat_map f ys ++ s → (xs ≡ ys) × (r ≡ s)
even f P apart xs ys r s p q same e =
    let l = longer f P apart xs ys r s p q (omega arith) e in
    let none : l.more ≡ [] = nil_from_length l.more (omega (arith, ap length l.parted, length-append xs l.more)) in
    (sym (append-nil xs) ∙ ap (λ vs. xs ++ vs) (sym none) ∙ sym l.parted, l.rest ∙ ap (λ vs. flat_map f vs ++ s) none)

-- one item more is spelled
pub spelled_more : {X : Type 0} (f : X → List ℕ) (xs : List X) (i : ℕ) (x : X) (old bytes new : List ℕ) → i < length xs → x ≡ get_or xs i x → bytes ≡ old ++ flat_map f (take i xs) → new ≡ bytes ++ f x → new ≡ old ++ flat_map f (take (i + 1) xs)
spelled_more f xs i x old bytes new h is so_far e =
    e ∙ ap (λ bs. bs ++ f x) so_far ∙ append_assoc old (flat_map f (take i xs)) (f x)
    ∙ ap (λ bs. old ++ bs) (
    ap (λ bs. flat_map f (take i xs) ++ bs) (sym (append-nil (f x)))
    ∙ sym (flat_map-append f (take i xs) (x ∷ []))
    ∙ ap (λ y. flat_map f (take i xs ++ y ∷ [])) is
    ∙ ap (flat_map f) (sym (take_more xs i x h)))

pub spelled_last : {X : Type 0} (f : X → List ℕ) (xs : List X) (x : X) → flat_map f (xs ++ x ∷ []) ≡ flat_map f xs ++ f x
spelled_last f xs x = flat_map-append f xs (x ∷ []) ∙ ap (λ bs. flat_map f xs ++ bs) (append-nil (f x))

-- what holds of an error that was handed on holds of the answer
pub handed_on : {T E : Type 0} (P : E → Type 0) (result : Result T E) (fault : E) → IsErrAnd result (λ e. e ≡ fault) → P fault → IfErr result P
handed_on P (Ok x) fault made is = absurd made
handed_on P (Err e) fault made is = subst P (sym made) is

pub handed : {T E : Type 0} (P : E → Type 0) (result : Result T E) (fault told : E) → IsErrAnd result (λ e. e ≡ fault) → fault ≡ told → P told → IfErr result P
handed P result fault told made same is = handed_on P result fault made (subst P (sym same) is)
