-- Texts in one buffer: the number of them, the text at a place, and one text more.
use Rattle.std.proofs.Common.{◌≡◌, ℕ, suc, zero, ◌+◌, ◌-◌, ◌<◌, ◌≤◌, List, [], ◌∷◌, ◌++◌, Some, refl, sym, ap, ◌∙◌, length, take, drop, get_or, slice_get, arith, drop_at, take_all}
use Rattle.std.proofs.lemmas.List.{drop-append-le, take-append-le, length-drop}
use Rattle.mt_values.specs.Strings.{texts_from, EndsRise, start_of}

-- one text for each end
pub length-texts_from : (from : ℕ) (ends bytes : List ℕ) → length (texts_from from ends bytes) ≡ length ends
length-texts_from from [] bytes = refl
length-texts_from from (end ∷ ends) bytes = ap suc (length-texts_from end ends bytes)

-- the first place of the texts is at most the number of bytes
pub rise_within : (from : ℕ) (ends : List ℕ) (count : ℕ) → EndsRise from ends count → from ≤ count
rise_within from [] count h = omega arith
rise_within from (end ∷ ends) count h = omega (arith, h.0, rise_within end ends count h.1)

-- one end more, at the new number of bytes
pub EndsRise-push : (from : ℕ) (ends : List ℕ) (count last : ℕ) → count ≤ last → EndsRise from ends count → EndsRise from (ends ++ last ∷ []) last
EndsRise-push from [] count last le h = (omega (arith, h), refl)
EndsRise-push from (end ∷ ends) count last le h = (h.0, EndsRise-push end ends count last le h.1)

-- a text that ends within the bytes stays as bytes are added
text_stays : (from end : ℕ) (bytes more : List ℕ) → from ≤ end → end ≤ length bytes → take (end - from) (drop from (bytes ++ more)) ≡ take (end - from) (drop from bytes)
text_stays from end bytes more le within =
    ap (take (end - from)) (drop-append-le from bytes more (omega arith))
    ∙ take-append-le (end - from) (drop from bytes) more (omega (arith, length-drop from bytes))

-- the bytes that were added last are the last text
last_text : (bytes more : List ℕ) (from last : ℕ) → from ≡ length bytes → last ≡ length bytes + length more → take (last - from) (drop from (bytes ++ more)) ≡ more
last_text bytes more from last e f =
    ap (take (last - from)) (drop_at bytes more from (sym e)) ∙ take_all (last - from) more (omega arith)

-- one text more
pub texts_from-push : (from : ℕ) (ends bytes more : List ℕ) (last : ℕ) → last ≡ length bytes + length more → EndsRise from ends (length bytes) → texts_from from (ends ++ last ∷ []) (bytes ++ more) ≡ texts_from from ends bytes ++ more ∷ []
texts_from-push from [] bytes more last e h = ap (λ t. t ∷ []) (last_text bytes more from last h e)
texts_from-push from (end ∷ ends) bytes more last e h =
    ap (λ t. t ∷ texts_from end (ends ++ last ∷ []) (bytes ++ more)) (text_stays from end bytes more h.0 (rise_within end ends (length bytes) h.1))
    ∙ ap (λ ts. take (end - from) (drop from bytes) ∷ ts) (texts_from-push end ends bytes more last e h.1)

-- the text at a place
pub slice_get-texts_from : (from : ℕ) (ends bytes : List ℕ) (k : ℕ) → k < length ends → slice_get (texts_from from ends bytes) k ≡ Some (take (get_or ends k 0 - start_of from ends k) (drop (start_of from ends k) bytes))
slice_get-texts_from from [] bytes k h = absurd (omega arith)
slice_get-texts_from from (end ∷ ends) bytes zero h = refl
slice_get-texts_from from (end ∷ ends) bytes (suc zero) h = slice_get-texts_from end ends bytes zero (omega arith)
slice_get-texts_from from (end ∷ ends) bytes (suc (suc k)) h = slice_get-texts_from end ends bytes (suc k) (omega arith)

-- each text begins no later than it ends, within the bytes
pub bounds_at : (from : ℕ) (ends : List ℕ) (count k : ℕ) → k < length ends → EndsRise from ends count → (start_of from ends k ≤ get_or ends k 0) × (get_or ends k 0 ≤ count)
bounds_at from [] count k h r = absurd (omega arith)
bounds_at from (end ∷ ends) count zero h r = (r.0, rise_within end ends count r.1)
bounds_at from (end ∷ ends) count (suc zero) h r = bounds_at end ends count zero (omega arith) r.1
bounds_at from (end ∷ ends) count (suc (suc k)) h r = bounds_at end ends count (suc k) (omega arith) r.1

-- past the first text, where the text before it ends
pub start_after : (from : ℕ) (ends : List ℕ) (k : ℕ) → 0 < k → start_of from ends k ≡ get_or ends (k - 1) 0
start_after from ends zero h = absurd (omega arith)
start_after from ends (suc k) h = ap (λ j. get_or ends j 0) (omega arith)
