-- What was read so far, before what reading the rest gives.
use Rattle.std.proofs.Common.{◌≡◌, ℕ, List, [], ◌∷◌, ◌++◌, Option, Some, None, refl, sym, ap, append_assoc}
use Rattle.std.specs.Option.{option_map}
use Rattle.mt_values.specs.Lists.{in_front}
use Rattle.mt_values.specs.Script.{onto}

-- elements before a list, where there is a list
abbrev pub fronted : {X : Type 0} → List X → Option (List X) → Option (List X)
fronted front None = None
fronted front (Some xs) = Some (front ++ xs)

-- nothing was read yet
pub fronted_none : {X : Type 0} (o : Option (List X)) → fronted [] o ≡ o
fronted_none None = refl
fronted_none (Some xs) = refl

-- one more element was read
pub fronted_more : {X : Type 0} (front : List X) (x : X) (o : Option (List X)) → fronted front (in_front o x) ≡ fronted (front ++ x ∷ []) o
fronted_more front x None = refl
fronted_more front x (Some xs) = ap Some (sym (append_assoc front (x ∷ []) xs))

-- bytes before the first part of a text that is parted
abbrev pub parted : List ℕ → Option (List ℕ × List ℕ) → Option (List ℕ × List ℕ)
parted front None = None
parted front (Some p) = Some (front ++ p.0, p.1)

pub parted_none : (o : Option (List ℕ × List ℕ)) → parted [] o ≡ o
parted_none None = refl
parted_none (Some p) = refl

pub parted_more : (front : List ℕ) (b : ℕ) (o : Option (List ℕ × List ℕ)) → parted front (option_map (onto b) o) ≡ parted (front ++ b ∷ []) o
parted_more front b None = refl
parted_more front b (Some p) = ap (λ (l : List ℕ). Some (l, p.1)) (sym (append_assoc front (b ∷ []) p.0))
