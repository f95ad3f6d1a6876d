-- An input of which all rows in memory were taken gets more of its rest.
use Rattle.std.proofs.Common.{◌≡◌, ℕ, zero, suc, ◌<◌, ◌≤◌, List, [], ◌∷◌, ◌++◌, length, set, get_or, refl, sym, ap, ap₂, arith}
use Rattle.mt_values.specs.Values.{Row}
use Rattle.row_merge.specs.Merging.{AreReady, joined}

-- the rows of each input stay as they were
pub filled : (ahead rests : List (List Row)) (input : ℕ) (given rest : List Row) → get_or ahead input [] ≡ [] → get_or rests input [] ≡ given ++ rest → joined (set ahead input given) (set rests input rest) ≡ joined ahead rests
filled [] rests input given rest none is = refl
filled (a ∷ ahead) [] zero given rest none is = refl
filled (a ∷ ahead) [] (suc input) given rest none is = refl
filled (a ∷ ahead) (r ∷ rests) zero given rest none is = ap (λ x. x ∷ joined ahead rests) (sym (ap₂ (λ x y. x ++ y) none is))
filled (a ∷ ahead) (r ∷ rests) (suc input) given rest none is = ap (λ zs. (a ++ r) ∷ zs) (filled ahead rests input given rest none is)

-- ---- which inputs may have no row in memory

-- but for one input, an input without a row in memory has none left
abbrev pub AreReadyBut : ℕ → List (List Row) → List (List Row) → Type 0
AreReadyBut input [] [] = Unit {0}
AreReadyBut input [] (r ∷ rests) = ⊥
AreReadyBut input (a ∷ ahead) [] = ⊥
AreReadyBut zero (a ∷ ahead) (r ∷ rests) = AreReady ahead rests
AreReadyBut (suc input) (a ∷ ahead) (r ∷ rests) = (a ≡ [] → r ≡ []) × AreReadyBut input ahead rests

-- a row of it was taken
pub taken_ready : (front : List (List Row)) (row : Row) (rows : List Row) (back rests : List (List Row)) → AreReady (front ++ (row ∷ rows) ∷ back) rests → AreReadyBut (length front) (front ++ rows ∷ back) rests
taken_ready [] row rows back [] ready = absurd ready
taken_ready [] row rows back (r ∷ rests) ready = ready.1
taken_ready (f ∷ front) row rows back [] ready = absurd ready
taken_ready (f ∷ front) row rows back (r ∷ rests) ready = (ready.0, taken_ready front row rows back rests ready.1)

-- it has a row in memory, or none left
pub ready_again : (input : ℕ) (ahead rests : List (List Row)) → AreReadyBut input ahead rests → (get_or ahead input [] ≡ [] → get_or rests input [] ≡ []) → AreReady ahead rests
ready_again input [] [] but own = tt
ready_again input [] (r ∷ rests) but own = absurd but
ready_again input (a ∷ ahead) [] but own = absurd but
ready_again zero (a ∷ ahead) (r ∷ rests) but own = (own, but)
ready_again (suc input) (a ∷ ahead) (r ∷ rests) but own = (but.0, ready_again input ahead rests but.1 own)

-- it got some rows, or has none left
pub ready_refilled : (input : ℕ) (ahead rests : List (List Row)) (given rest : List Row) → AreReadyBut input ahead rests → (given ≡ [] → rest ≡ []) → AreReady (set ahead input given) (set rests input rest)
ready_refilled input [] [] given rest but own = tt
ready_refilled input [] (r ∷ rests) given rest but own = absurd but
ready_refilled input (a ∷ ahead) [] given rest but own = absurd but
ready_refilled zero (a ∷ ahead) (r ∷ rests) given rest but own = (own, but)
ready_refilled (suc input) (a ∷ ahead) (r ∷ rests) given rest but own = (but.0, ready_refilled input ahead rests given rest but.1 own)

-- ---- the first inputs alone

-- of the first few inputs one without a row in memory has none left
abbrev pub AreReadyUpTo : ℕ → List (List Row) → List (List Row) → Type 0
AreReadyUpTo n [] [] = Unit {0}
AreReadyUpTo n [] (r ∷ rests) = ⊥
AreReadyUpTo n (a ∷ ahead) [] = ⊥
AreReadyUpTo zero (a ∷ ahead) (r ∷ rests) = AreReadyUpTo zero ahead rests
AreReadyUpTo (suc n) (a ∷ ahead) (r ∷ rests) = (a ≡ [] → r ≡ []) × AreReadyUpTo n ahead rests

pub none_ready : (ahead rests : List (List Row)) → length ahead ≡ length rests → AreReadyUpTo 0 ahead rests
none_ready [] [] even = tt
none_ready [] (r ∷ rests) even = absurd (omega (arith, even))
none_ready (a ∷ ahead) [] even = absurd (omega (arith, even))
none_ready (a ∷ ahead) (r ∷ rests) even = none_ready ahead rests (omega (arith, even))

-- the next of them got some rows, or has none left
pub one_more_ready : (n : ℕ) (ahead rests : List (List Row)) (given rest : List Row) → n < length ahead → AreReadyUpTo n ahead rests → (given ≡ [] → rest ≡ []) → AreReadyUpTo (suc n) (set ahead n given) (set rests n rest)
one_more_ready n [] rests given rest below first own = absurd (omega (arith, below))
one_more_ready n (a ∷ ahead) [] given rest below first own = absurd first
one_more_ready zero (a ∷ ahead) (r ∷ rests) given rest below first own = (own, first)
one_more_ready (suc n) (a ∷ ahead) (r ∷ rests) given rest below first own = (first.0, one_more_ready n ahead rests given rest (omega (arith, below)) first.1 own)

pub all_ready : (n : ℕ) (ahead rests : List (List Row)) → length ahead ≤ n → AreReadyUpTo n ahead rests → AreReady ahead rests
all_ready n [] [] all first = tt
all_ready n [] (r ∷ rests) all first = absurd first
all_ready n (a ∷ ahead) [] all first = absurd first
all_ready zero (a ∷ ahead) (r ∷ rests) all first = absurd (omega (arith, all))
all_ready (suc n) (a ∷ ahead) (r ∷ rests) all first = (first.0, all_ready n ahead rests (omega (arith, all)) first.1)
