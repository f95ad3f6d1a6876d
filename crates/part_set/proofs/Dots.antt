-- The dot after a table's name.
use Rattle.std.proofs.Common.{◌≡◌, ◌≢◌, ℕ, ◌+◌, ◌<◌, List, [], ◌∷◌, ◌++◌, length, get_or, take, drop, refl, sym, ap, ◌∙◌, arith, length-append}
use Rattle.std.proofs.Math.Seq.{get_or-append_seam}
use Rattle.std.proofs.lemmas.List.{drop_more, take-append-drop}
use Rattle.std.proofs.lemmas.List.Elements.{All-head, All-tail}
use Rattle.part_set.specs.RootNames.{HasNoDot}

-- a text is parted at a dot in it
pub dot_here : (text : List ℕ) (at : ℕ) → at < length text → get_or text at 0 ≡ 46 → take at text ++ 46 ∷ drop (at + 1) text ≡ text
dot_here text at inside dot =
    ap (λ (b : ℕ). take at text ++ b ∷ drop (at + 1) text) (sym dot) ∙ ap (λ (rest : List ℕ). take at text ++ rest) (sym (drop_more text at 0 inside)) ∙ take-append-drop at text

-- a text without dots is not parted
pub no_dot_in : (front rest text : List ℕ) → HasNoDot text → front ++ 46 ∷ rest ≡ text → ⊥
no_dot_in front rest text none is =
    none (length front) 0 (omega (arith, length-append front (46 ∷ rest), ap length is)) (ap (λ (t : List ℕ). get_or t (length front) 0) (sym is) ∙ get_or-append_seam front 46 rest 0)

-- a text has one front without dots, and one rest after it
pub same_parts : (a b x y : List ℕ) → HasNoDot a → HasNoDot b → a ++ 46 ∷ x ≡ b ++ 46 ∷ y → (a ≡ b) × (x ≡ y)
same_parts [] [] x y none also is = let rest : x ≡ y = cc in (refl, rest)
same_parts [] (c ∷ b) x y none also is = let first : c ≡ 46 = cc in absurd (All-head (λ (d : ℕ). d ≢ 46) c b also first)
same_parts (c ∷ a) [] x y none also is = let first : c ≡ 46 = cc in absurd (All-head (λ (d : ℕ). d ≢ 46) c a none first)
same_parts (c ∷ a) (d ∷ b) x y none also is =
    let first : c ≡ d = cc in
    let more : a ++ 46 ∷ x ≡ b ++ 46 ∷ y = cc in
    let rest = same_parts a b x y (All-tail (λ (e : ℕ). e ≢ 46) c a none) (All-tail (λ (e : ℕ). e ≢ 46) d b also) more in
    let same : a ≡ b = rest.0 in
    (cc, rest.1)
