-- Conditions of rows: what they are made of and what they say (ClickHouse, SELECT: WHERE; docs/definitions.md, "Conditions").
use Rattle.std.specs.Prelude.{ℕ, ◌+◌, max, Bool, true, not, ◌&&◌, ◌||◌, List, [], ◌∷◌, ◌++◌}

-- an expression over tests of some kind: none at all, one test, or NOT, AND, OR of smaller ones (docs/grammar.md, "Statements")
pub data Condition (T : Type 0) : Type 0 where
  Always : Condition T
  Holds : T → Condition T
  Not : Condition T → Condition T
  And : Condition T → Condition T → Condition T
  Or : Condition T → Condition T → Condition T

-- its truth, by the truth of each test (ClickHouse, logical functions)
abbrev pub truth : {T : Type 0} → (T → Bool) → Condition T → Bool
truth holds Always = true
truth holds (Holds t) = holds t
truth holds (Not c) = not (truth holds c)
truth holds (And a b) = truth holds a && truth holds b
truth holds (Or a b) = truth holds a || truth holds b

-- its tests, in the order of the text (docs/definitions.md, "Conditions")
abbrev pub tests_of : {T : Type 0} → Condition T → List T
tests_of Always = []
tests_of (Holds t) = t ∷ []
tests_of (Not c) = tests_of c
tests_of (And a b) = tests_of a ++ tests_of b
tests_of (Or a b) = tests_of a ++ tests_of b

-- its conjuncts, in the order of the text: what AND joins at the top; any other expression is one by itself (docs/definitions.md, "Conditions")
abbrev pub conjuncts_of : {T : Type 0} → Condition T → List (Condition T)
conjuncts_of (And a b) = conjuncts_of a ++ conjuncts_of b
conjuncts_of c = c ∷ []

-- the same expression over what becomes of each test (docs/definitions.md, "Conditions")
abbrev pub map_tests : {T U : Type 0} → (T → U) → Condition T → Condition U
map_tests f Always = Always
map_tests f (Holds t) = Holds (f t)
map_tests f (Not c) = Not (map_tests f c)
map_tests f (And a b) = And (map_tests f a) (map_tests f b)
map_tests f (Or a b) = Or (map_tests f a) (map_tests f b)

-- how many truths have to be kept at once to find its truth from left to right (docs/architecture.md, "Conditions")
abbrev pub height : {T : Type 0} → Condition T → ℕ
height Always = 1
height (Holds t) = 1
height (Not c) = height c
height (And a b) = max (height a) (height b + 1)
height (Or a b) = max (height a) (height b + 1)

-- what may be asked: an answer for no condition, for each test, and for NOT, AND and OR by those of their parts (docs/architecture.md, "Conditions")
pub record Meaning (T A : Type 0) : Type 0 where
  pub always : A
  pub holds : T → A
  pub not_of : A → A
  pub and_of : A → A → A
  pub or_of : A → A → A

-- the answer of a condition, by a meaning (docs/architecture.md, "Conditions")
abbrev pub meant : {T A : Type 0} → Meaning T A → Condition T → A
meant m Always = m.always
meant m (Holds t) = m.holds t
meant m (Not c) = m.not_of (meant m c)
meant m (And a b) = m.and_of (meant m a) (meant m b)
meant m (Or a b) = m.or_of (meant m a) (meant m b)

-- truth, as what may be asked (docs/architecture.md, "Conditions")
abbrev pub by_truth : {T : Type 0} → (T → Bool) → Meaning T Bool
by_truth holds = record {
  always = true;
  holds = holds;
  not_of = not;
  and_of = λ a b. a && b;
  or_of = λ a b. a || b;
}
