-- Where the parts of a partition end in a list in block order.
use Rattle.std.proofs.Common.{◌≡◌, ℕ, ◌≤◌, Bool, true, false, cond, not, List, [], ◌∷◌, ◌++◌, filter, length, take, drop, refl, sym, ap, ap₂, ◌∙◌, subst, arith, zero, suc}
use Rattle.std.specs.List.{AllWithin, insert}
use Rattle.part_history.specs.declared.part.CorePart.{CorePart}
use Rattle.part_history.specs.Entered.{parts_after, parts_upto, with_part}

is_not : (b : Bool) → not b ≡ false → b ≡ true
is_not true is = refl
is_not false is = cc

module _ {X : Type 0} (after : X → Bool) where
  none_before : (xs : List X) → AllWithin (λ x. not (after x) ≡ false) xs 0 (length xs) → filter (λ x. not (after x)) xs ≡ []
  none_before [] back = refl
  none_before (x ∷ xs) back =
      ap (λ b. cond b (x ∷ filter (λ y. not (after y)) xs) (filter (λ y. not (after y)) xs)) (back 0 x (omega arith) (omega arith))
      ∙ none_before xs (λ k d low high. back (suc k) d (omega arith) (omega arith))

  all_after : (xs : List X) → AllWithin (λ x. not (after x) ≡ false) xs 0 (length xs) → filter after xs ≡ xs
  all_after [] back = refl
  all_after (x ∷ xs) back =
      ap₂ (λ b ys. cond b (x ∷ ys) ys) (is_not (after x) (back 0 x (omega arith) (omega arith))) (all_after xs (λ k d low high. back (suc k) d (omega arith) (omega arith)))

  -- the first ones are those that do not come after
  pub front_is : (xs : List X) (n : ℕ) → n ≤ length xs → AllWithin (λ x. not (after x) ≡ true) xs 0 n → AllWithin (λ x. not (after x) ≡ false) xs n (length xs) → take n xs ≡ filter (λ x. not (after x)) xs
  front_is [] zero within front back = refl
  front_is [] (suc n) within front back = absurd (omega arith)
  front_is (x ∷ xs) zero within front back = sym (none_before (x ∷ xs) back)
  front_is (x ∷ xs) (suc n) within front back =
      ap₂ (λ b ys. cond b (x ∷ ys) ys) (sym (front 0 x (omega arith) (omega arith)))
      (front_is xs n (omega arith) (λ k d low high. front (suc k) d (omega arith) (omega arith)) (λ k d low high. back (suc k) d (omega arith) (omega arith)))

  -- and the others those that do
  pub back_is : (xs : List X) (n : ℕ) → n ≤ length xs → AllWithin (λ x. not (after x) ≡ true) xs 0 n → AllWithin (λ x. not (after x) ≡ false) xs n (length xs) → drop n xs ≡ filter after xs
  back_is [] zero within front back = refl
  back_is [] (suc n) within front back = absurd (omega arith)
  back_is (x ∷ xs) zero within front back = sym (all_after (x ∷ xs) back)
  back_is (x ∷ xs) (suc n) within front back = by (after x) (front 0 x (omega arith) (omega arith)) (back_is xs n (omega arith) (λ k d low high. front (suc k) d (omega arith) (omega arith)) (λ k d low high. back (suc k) d (omega arith) (omega arith)))
    where
      by : (b : Bool) → not b ≡ true → drop n xs ≡ filter after xs → drop n xs ≡ cond b (x ∷ filter after xs) (filter after xs)
      by false is rest = rest
      by true is rest = cc

-- a part at the end of its partition
pub part_inserted : (parts read : List CorePart) (n : ℕ) (part : CorePart) → read ≡ parts → take n read ≡ parts_upto part.name.partition read → drop n read ≡ parts_after part.name.partition read → insert parts n part ≡ with_part part parts
part_inserted parts read n part is front back =
    let first : take n parts ≡ parts_upto part.name.partition parts = subst (λ (ps : List CorePart). take n ps ≡ parts_upto part.name.partition ps) is front in
    let last : drop n parts ≡ parts_after part.name.partition parts = subst (λ (ps : List CorePart). drop n ps ≡ parts_after part.name.partition ps) is back in
    ap₂ (λ (xs ys : List CorePart). xs ++ part ∷ ys) first last
