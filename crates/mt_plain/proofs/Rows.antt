-- The values of a row at places, and a row that ends before another.
use Rattle.std.proofs.Common.{◌≡◌, ℕ, ◌+◌, ◌<◌, ◌≤◌, List, [], ◌∷◌, ◌++◌, zero, suc, length, take, drop, get_or, slice_get, subst, refl, ap, ◌∙◌, arith}
use Rattle.std.proofs.lemmas.List.{take_more}
use Rattle.std.proofs.lemmas.List.Elements.{filter_map-append}
use Rattle.std.specs.declared.cmp.Ordering.TheVariants.{Less}
use Rattle.mt_values.specs.Order.{key_of, row_cmp}
use Rattle.mt_values.specs.declared.value.Value.{Value}
use Rattle.mt_values.specs.Values.{Row}

-- one place more
pub key_of_more : (places : List ℕ) (row : Row) (i : ℕ) (d : ℕ) → i < length places → key_of (take (i + 1) places) row ≡ key_of (take i places) row ++ key_of (get_or places i d ∷ []) row
key_of_more places row i d below = ap (λ ps. key_of ps row) (take_more places i d below) ∙ filter_map-append (slice_get row) (take i places) (get_or places i d ∷ [])

drop_none : (n : ℕ) → drop {A = Value} n [] ≡ []
drop_none zero = refl
drop_none (suc n) = refl

-- a row that ends first is less
pub row_ends : (a b : Row) (n : ℕ) → length a ≤ n → n < length b → row_cmp (drop n a) (drop n b) ≡ Less
row_ends a [] n short long = absurd (omega arith)
row_ends [] (y ∷ b) zero short long = refl
row_ends [] (y ∷ b) (suc n) short long = subst (λ (z : Row). row_cmp z (drop n b) ≡ Less) (drop_none n) (row_ends [] b n (omega arith) (omega arith))
row_ends (x ∷ a) (y ∷ b) zero short long = absurd (omega arith)
row_ends (x ∷ a) (y ∷ b) (suc n) short long = row_ends a b n (omega arith) (omega arith)
