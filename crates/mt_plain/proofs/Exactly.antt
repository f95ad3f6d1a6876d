-- All of which something holds, in a list.
use Rattle.std.proofs.Common.{◌≡◌, ◌⊎◌, ℕ, zero, suc, ◌<◌, Bool, true, false, cond, List, [], ◌∷◌, ◌++◌, get_or, length, map, refl, sym, ap, ◌∙◌, subst, inl, inr, arith}
use Rattle.std.specs.List.{Contains, filter}
use Rattle.std.proofs.lemmas.List.Elements.{Contains-append_cases, Contains-append_left, Contains-append_right}
use Rattle.mt_plain.specs.Outcomes.{AreExactly}

pub contains_none : {X : Type 0} (x : X) → Contains [] x → ⊥
contains_none x h = let below : h.0 < 0 = h.1 in omega arith

pub contains_first : {X : Type 0} (x : X) (xs : List X) → Contains (x ∷ xs) x
contains_first x xs = (0, omega arith, refl)

pub contains_later : {X : Type 0} (y : X) (xs : List X) (x : X) → Contains xs x → Contains (y ∷ xs) x
contains_later y xs x h = let below : h.0 < length xs = h.1 in (suc h.0, omega arith, h.2)

pub contains_cases : {X : Type 0} (y : X) (xs : List X) (x : X) → Contains (y ∷ xs) x → (y ≡ x) ⊎ Contains xs x
contains_cases y xs x h = by h.0 h.1 h.2
  where
    by : (k : ℕ) → k < length (y ∷ xs) → get_or (y ∷ xs) k x ≡ x → (y ≡ x) ⊎ Contains xs x
    by zero below is = inl is
    by (suc k) below is = inr (k, omega arith, is)

-- one alone
pub exactly_one : {X : Type 0} (P : X → Type 0) (x : X) → P x → ((y : X) → P y → x ≡ y) → AreExactly (x ∷ []) P
exactly_one P x own unique y = (λ h. by (contains_cases x [] y h), λ p. subst (Contains (x ∷ [])) (unique y p) (contains_first x []))
  where
    by : (x ≡ y) ⊎ Contains [] y → P y
    by (inl is) = subst P is own
    by (inr h) = absurd (contains_none y h)

pub exactly_itself : {X : Type 0} (xs : List X) (x : X) → xs ≡ x ∷ [] → AreExactly xs (λ y. y ≡ x)
exactly_itself xs x is = subst (λ zs. AreExactly zs (λ y. y ≡ x)) (sym is) (exactly_one (λ y. y ≡ x) x refl (λ y e. sym e))

-- none at all
pub exactly_none : {X : Type 0} (P : X → Type 0) → ((x : X) → P x → ⊥) → AreExactly [] P
exactly_none P never x = (λ h. absurd (contains_none x h), λ p. absurd (never x p))

-- what a function makes of each
pub contains_map : {X Y : Type 0} (f : X → Y) (xs : List X) (x : X) → Contains xs x → Contains (map f xs) (f x)
contains_map f [] x h = absurd (contains_none x h)
contains_map f (y ∷ xs) x h = by (contains_map f xs x) (contains_cases y xs x h)
  where
    by : (Contains xs x → Contains (map f xs) (f x)) → (y ≡ x) ⊎ Contains xs x → Contains (f y ∷ map f xs) (f x)
    by later (inl is) = subst (λ z. Contains (f y ∷ map f xs) (f z)) is (contains_first (f y) (map f xs))
    by later (inr h) = contains_later (f y) (map f xs) (f x) (later h)

pub map_contains : {X Y : Type 0} (f : X → Y) (xs : List X) (y : Y) → Contains (map f xs) y → (x : X) × Contains xs x × (y ≡ f x)
map_contains f [] y h = absurd (contains_none y h)
map_contains {X} f (x ∷ xs) y h = by (map_contains f xs y) (contains_cases (f x) (map f xs) y h)
  where
    by : (Contains (map f xs) y → (z : X) × Contains xs z × (y ≡ f z)) → (f x ≡ y) ⊎ Contains (map f xs) y → (z : X) × Contains (x ∷ xs) z × (y ≡ f z)
    by later (inl is) = (x, contains_first x xs, sym is)
    by later (inr h) = let m = later h in (m.0, contains_later x xs m.0 m.1, m.2)

-- those that pass a test
pub contains_filter : {X : Type 0} (p : X → Bool) (xs : List X) (x : X) → Contains xs x → p x ≡ true → Contains (filter p xs) x
contains_filter p [] x h e = absurd (contains_none x h)
contains_filter p (y ∷ xs) x h e = by (λ own. contains_filter p xs x own e) (p y) refl (contains_cases y xs x h)
  where
    clash : p y ≡ false → y ≡ x → ⊥
    clash f is = let same : p y ≡ p x = ap p is in cc

    by : (Contains xs x → Contains (filter p xs) x) → (b : Bool) → p y ≡ b → (y ≡ x) ⊎ Contains xs x → Contains (cond b (y ∷ filter p xs) (filter p xs)) x
    by later true f (inl is) = subst (Contains (y ∷ filter p xs)) is (contains_first y (filter p xs))
    by later true f (inr h) = contains_later y (filter p xs) x (later h)
    by later false f (inl is) = absurd (clash f is)
    by later false f (inr h) = later h

pub filter_contains : {X : Type 0} (p : X → Bool) (xs : List X) (x : X) → Contains (filter p xs) x → Contains xs x × (p x ≡ true)
filter_contains p [] x h = absurd (contains_none x h)
filter_contains p (y ∷ xs) x h = by (filter_contains p xs x) (p y) refl h
  where
    more : Contains xs x × (p x ≡ true) → Contains (y ∷ xs) x × (p x ≡ true)
    more m = (contains_later y xs x m.0, m.1)

    first : (Contains (filter p xs) x → Contains xs x × (p x ≡ true)) → p y ≡ true → (y ≡ x) ⊎ Contains (filter p xs) x → Contains (y ∷ xs) x × (p x ≡ true)
    first later f (inl is) = (subst (Contains (y ∷ xs)) is (contains_first y xs), sym (ap p is) ∙ f)
    first later f (inr h) = more (later h)

    by : (Contains (filter p xs) x → Contains xs x × (p x ≡ true)) → (b : Bool) → p y ≡ b → Contains (cond b (y ∷ filter p xs) (filter p xs)) x → Contains (y ∷ xs) x × (p x ≡ true)
    by later true f h = first later f (contains_cases y (filter p xs) x h)
    by later false f h = more (later h)

pub exactly_filtered : {X : Type 0} (P Q : X → Type 0) (p : X → Bool) (xs : List X) → AreExactly xs P → ((x : X) → P x → p x ≡ true → Q x) → ((x : X) → Q x → P x × (p x ≡ true)) → AreExactly (filter p xs) Q
exactly_filtered P Q p xs are sound complete x = (
  λ h. let m = filter_contains p xs x h in sound x ((are x).0 m.0) m.1,
  λ q. let m = complete x q in contains_filter p xs x ((are x).1 m.0) m.1,
)

-- those of two lists
pub exactly_joined : {X : Type 0} (P Q R : X → Type 0) (xs ys : List X) → AreExactly xs P → AreExactly ys Q → ((x : X) → P x → R x) → ((x : X) → Q x → R x) → ((x : X) → R x → P x ⊎ Q x) → AreExactly (xs ++ ys) R
exactly_joined P Q R xs ys first second left right either x = (λ h. into (Contains-append_cases xs ys x h), λ r. back (either x r))
  where
    into : Contains xs x ⊎ Contains ys x → R x
    into (inl h) = left x ((first x).0 h)
    into (inr h) = right x ((second x).0 h)

    back : P x ⊎ Q x → Contains (xs ++ ys) x
    back (inl h) = Contains-append_left xs ys x ((first x).1 h)
    back (inr h) = Contains-append_right xs ys x ((second x).1 h)

-- what stands before and after one that is in a list
pub parts_of : {X : Type 0} (xs : List X) (x : X) → Contains xs x → (earlier : List X) × (later : List X) × (xs ≡ earlier ++ x ∷ later)
parts_of [] x h = absurd (contains_none x h)
parts_of {X} (y ∷ xs) x h = by (parts_of xs x) (contains_cases y xs x h)
  where
    by : (Contains xs x → (earlier : List X) × (later : List X) × (xs ≡ earlier ++ x ∷ later)) → (y ≡ x) ⊎ Contains xs x → (earlier : List X) × (later : List X) × (y ∷ xs ≡ earlier ++ x ∷ later)
    by after (inl is) = ([], xs, ap (λ z. z ∷ xs) is)
    by after (inr h) = let m = after h in (y ∷ m.0, m.1, ap (λ zs. y ∷ zs) m.2)

pub contains_between : {X : Type 0} (earlier : List X) (x : X) (later : List X) → Contains (earlier ++ x ∷ later) x
contains_between earlier x later = Contains-append_right earlier (x ∷ later) x (contains_first x later)
