-- Places at which a pair may be taken.
use Rattle.std.proofs.Common.{◌≡◌, ◌↔◌, ℕ, ◌+◌, ◌-◌, ◌<◌, ◌≤◌, Bool, false, IsTrue, List, [], length, get_or, Option, Some, None, refl, sym, ◌∙◌, subst, ◌⊎◌, inl, inr, arith}
use Rattle.std.proofs.lemmas.Bool.{cases_lt, false≢true}
use Rattle.std.proofs.lemmas.Option.{same_Some, slice_get_read, slice_get_within}
use Rattle.std.specs.Option.{IfSome}
use Rattle.mt_base.specs.declared.policy.Policy.{Policy}
use Rattle.mt_base.specs.declared.policy.Policy.TheVariants.{Near, Head, Tail}
use Rattle.mt_values.specs.declared.mutation.Mutation.{Mutation}
use Rattle.mutation_queue.specs.part_set.declared.kept.Kept.{Kept}
use Rattle.merge_select.specs.Picks.{Chooses, IsFreePair, MayTake, Prefers, Suits}

module _ {P : Type 0} (count : P → ℕ) (mutations : List Mutation) (policy : Policy) where
  -- among no parts there is no pair
  pub none_of_none : (k : ℕ) → MayTake count mutations policy [] k → ⊥
  none_of_none k takes = let inside = slice_get_within [] k takes.first takes.first_is in omega (arith, inside)

  module _ (parts : List (Kept P)) where
    -- a pair lies within the parts
    pub takes_within : (k : ℕ) → MayTake count mutations policy parts k → k + 1 < length parts
    takes_within k takes = slice_get_within parts (k + 1) takes.second takes.second_is

    -- what is tested of the parts at a place and the next
    pub takes_here : (k : ℕ) (a b : Kept P) → a ≡ get_or parts k a → b ≡ get_or parts (k + 1) b → k + 1 < length parts → IsFreePair mutations a b → Suits policy (count a.part) (count b.part)
        → MayTake count mutations policy parts k
    takes_here k a b a_is b_is inside free suits = record {
      first = a;
      second = b;
      first_is = slice_get_read parts (length parts) k a refl (omega (arith, inside)) a_is;
      second_is = slice_get_read parts (length parts) (k + 1) b refl inside b_is;
      free = free;
      suits = suits;
    }

    -- and the other way round
    pub here_takes : (k : ℕ) (a b : Kept P) → a ≡ get_or parts k a → b ≡ get_or parts (k + 1) b → k + 1 < length parts → MayTake count mutations policy parts k
        → IsFreePair mutations a b × Suits policy (count a.part) (count b.part)
    here_takes k a b a_is b_is inside takes =
        let first : takes.first ≡ a = same_Some takes.first a (sym takes.first_is ∙ slice_get_read parts (length parts) k a refl (omega (arith, inside)) a_is) in
        let second : takes.second ≡ b = same_Some takes.second b (sym takes.second_is ∙ slice_get_read parts (length parts) (k + 1) b refl inside b_is) in (
          subst (λ (x : Kept P). IsFreePair mutations x b) first (subst (IsFreePair mutations takes.first) second takes.free),
          subst (λ (x : Kept P). Suits policy (count x.part) (count b.part)) first (subst (λ (y : Kept P). Suits policy (count takes.first.part) (count y.part)) second takes.suits),
        )

    -- a pair that is not free may not be taken; of a free one the numbers of rows are asked
    pub takes_not_free : (k : ℕ) (a b : Kept P) (r : Bool) → a ≡ get_or parts k a → b ≡ get_or parts (k + 1) b → k + 1 < length parts → r ≡ false → (IsTrue r ↔ IsFreePair mutations a b) → IsTrue r ↔ MayTake count mutations policy parts k
    takes_not_free k a b r a_is b_is inside r_is free =
        (λ yes. absurd (false≢true (sym r_is ∙ yes)), λ takes. free.1 (here_takes k a b a_is b_is inside takes).0)

    pub takes_tested : (k m n : ℕ) (a b : Kept P) (r : Bool) → a ≡ get_or parts k a → b ≡ get_or parts (k + 1) b → k + 1 < length parts → m ≡ count a.part → n ≡ count b.part
        → IsFreePair mutations a b → (IsTrue r ↔ Suits policy m n) → IsTrue r ↔ MayTake count mutations policy parts k
    takes_tested k m n a b r a_is b_is inside m_is n_is free suits = (
      λ yes. takes_here k a b a_is b_is inside free (subst (λ (x : ℕ). Suits policy x (count b.part)) m_is (subst (λ (y : ℕ). Suits policy m y) n_is (suits.0 yes))),
      λ takes. suits.1 (subst (λ (x : ℕ). Suits policy x n) (sym m_is) (subst (λ (y : ℕ). Suits policy (count a.part) y) (sym n_is) (here_takes k a b a_is b_is inside takes).1)),
    )

    -- one place more without a pair, from the left
    pub none_more : (next : ℕ) → 0 < next → ((k : ℕ) → k + 1 < next → MayTake count mutations policy parts k → ⊥) → (MayTake count mutations policy parts (next - 1) → ⊥)
        → (k : ℕ) → k + 1 < next + 1 → MayTake count mutations policy parts k → ⊥
    none_more next some none here k below takes = elim (cases_lt (k + 1) next) [
      | inl less ↦ none k less takes
      | inr not_less ↦ (let same : k ≡ next - 1 = omega (arith, some, below, not_less) in here (subst (MayTake count mutations policy parts) same takes))
    ]

    -- and from the right
    pub none_less : (next : ℕ) → 1 < next → ((k : ℕ) → next ≤ k + 1 → MayTake count mutations policy parts k → ⊥) → (MayTake count mutations policy parts (next - 1 - 1) → ⊥)
        → (k : ℕ) → next - 1 ≤ k + 1 → MayTake count mutations policy parts k → ⊥
    none_less next some none here k above takes = elim (cases_lt (k + 1) next) [
      | inl less ↦ (let same : k ≡ next - 1 - 1 = omega (arith, some, above, less) in here (subst (MayTake count mutations policy parts) same takes))
      | inr not_less ↦ none k (omega (arith, not_less)) takes
    ]

    -- the pair that is chosen is the one before which there is none that the policy prefers
    pub chosen : (r : Option ℕ) → IfSome r (MayTake count mutations policy parts) → IfSome r (λ place. (k : ℕ) → Prefers policy k place → MayTake count mutations policy parts k → ⊥)
        → IfSome r (Chooses count mutations policy parts)
    chosen None takes none = tt
    chosen (Some place) takes none = record { takes = takes; none = none }

-- what each policy prefers
pub prefers_first : (policy : Policy) → (policy ≡ Near) ⊎ (policy ≡ Head) → (k place : ℕ) → Prefers policy k place → k < place
prefers_first policy first k place = elim first [
  | inl near ↦ subst (λ (p : Policy). Prefers p k place → k < place) (sym near) (λ less. less)
  | inr head ↦ subst (λ (p : Policy). Prefers p k place → k < place) (sym head) (λ less. less)
]

pub prefers_last : (policy : Policy) → policy ≡ Tail → (k place : ℕ) → Prefers policy k place → place < k
prefers_last policy last k place = subst (λ (p : Policy). Prefers p k place → place < k) (sym last) (λ more. more)
