-- Expressions in Polish order, as they are kept (docs/architecture.md, "Conditions").
use Rattle.std.specs.Prelude.{◌≡◌, ℕ, ◌<◌, ◌≤◌, Bool, true, false, List, [], ◌∷◌, ◌++◌, length, take}
use Rattle.mt_values.specs.declared.expr.Joint.{Joint}
use Rattle.mt_values.specs.declared.expr.Joint.TheVariants as joint
use Rattle.mt_values.specs.declared.expr.TheConstants.{MOST_TRUTHS}
use Rattle.mt_values.specs.Conditions.{Condition, Always, And, Holds, Meaning, Not, Or, height, tests_of}

-- what an expression is made of: first what its parts are made of, from the left, and then what joins them
abbrev pub joints_of : {T : Type 0} → Condition T → List Joint
joints_of Always = joint.Always ∷ []
joints_of (Holds t) = joint.Test ∷ []
joints_of (Not c) = joints_of c ++ joint.Not ∷ []
joints_of (And a b) = joints_of a ++ joints_of b ++ joint.And ∷ []
joints_of (Or a b) = joints_of a ++ joints_of b ++ joint.Or ∷ []

-- the expression that came last, the last first
abbrev pub last_built : {T : Type 0} → List (Condition T) → Condition T
last_built [] = Always
last_built (c ∷ before) = c

-- the expression that joints make of tests and of those that came before, the last of them first
abbrev pub built : {T : Type 0} → List T → List (Condition T) → List Joint → Condition T
built tests before [] = last_built before
built tests before (joint.Always ∷ joints) = built tests (Always ∷ before) joints
built [] before (joint.Test ∷ joints) = Always
built (t ∷ tests) before (joint.Test ∷ joints) = built tests (Holds t ∷ before) joints
built tests [] (joint.Not ∷ joints) = Always
built tests (c ∷ before) (joint.Not ∷ joints) = built tests (Not c ∷ before) joints
built tests [] (joint.And ∷ joints) = Always
built tests (b ∷ []) (joint.And ∷ joints) = Always
built tests (b ∷ a ∷ before) (joint.And ∷ joints) = built tests (And a b ∷ before) joints
built tests [] (joint.Or ∷ joints) = Always
built tests (b ∷ []) (joint.Or ∷ joints) = Always
built tests (b ∷ a ∷ before) (joint.Or ∷ joints) = built tests (Or a b ∷ before) joints

-- tests and joints are those of an expression whose truth is found with few truths kept at once
pub record IsPolish {T : Type 0} (tests : List T) (joints : List Joint) : Type 0 where
  pub written : Condition T
  pub tests_are : tests ≡ tests_of written
  pub joints_are : joints ≡ joints_of written
  pub few : height written ≤ MOST_TRUTHS

-- By a meaning, joints come from the answers of the expressions before them, the last one first, to this answer, and at most
-- MOST_TRUTHS answers are kept at once. It holds on as joints are taken one after another (docs/architecture.md, "Conditions").
abbrev pub ComesTo : {T A : Type 0} → Meaning T A → A → List T → List A → List Joint → Type 0
ComesTo m answer tests before [] = (tests ≡ []) × (before ≡ answer ∷ [])
ComesTo m answer tests before (joint.Always ∷ joints) =
    (length before < MOST_TRUTHS) × ComesTo m answer tests (m.always ∷ before) joints
ComesTo m answer [] before (joint.Test ∷ joints) = ⊥
ComesTo m answer (t ∷ tests) before (joint.Test ∷ joints) =
    (length before < MOST_TRUTHS) × ComesTo m answer tests (m.holds t ∷ before) joints
ComesTo m answer tests [] (joint.Not ∷ joints) = ⊥
ComesTo m answer tests (a ∷ before) (joint.Not ∷ joints) = ComesTo m answer tests (m.not_of a ∷ before) joints
ComesTo m answer tests [] (joint.And ∷ joints) = ⊥
ComesTo m answer tests (b ∷ []) (joint.And ∷ joints) = ⊥
ComesTo m answer tests (b ∷ a ∷ before) (joint.And ∷ joints) = ComesTo m answer tests (m.and_of a b ∷ before) joints
ComesTo m answer tests [] (joint.Or ∷ joints) = ⊥
ComesTo m answer tests (b ∷ []) (joint.Or ∷ joints) = ⊥
ComesTo m answer tests (b ∷ a ∷ before) (joint.Or ∷ joints) = ComesTo m answer tests (m.or_of a b ∷ before) joints

-- whether a joint is AND (docs/architecture.md, "Conditions")
abbrev pub is_and : Joint → Bool
is_and joint.And = true
is_and j = false

-- how many expressions a joint joins (docs/architecture.md, "Conditions")
abbrev pub parts_of : Joint → ℕ
parts_of joint.Always = 0
parts_of joint.Test = 0
parts_of joint.Not = 1
parts_of joint.And = 2
parts_of joint.Or = 2

-- how many tests an expression has beside those of the expressions that its last joint joins (docs/architecture.md, "Conditions")
abbrev pub own_tests : Joint → ℕ
own_tests joint.Test = 1
own_tests j = 0

-- the joints before a place are some, and then those of an expression, whatever its tests are (docs/architecture.md, "Conditions")
pub record EndsWith (joints : List Joint) (end : ℕ) (front : List Joint) (c : Condition (Unit {0})) : Type 0 where
  pub within : end ≤ length joints
  pub parted : take end joints ≡ front ++ joints_of c

-- some expression ends there (docs/architecture.md, "Conditions")
abbrev pub EndsThere : List Joint → ℕ → Type 0
EndsThere joints end = (front : List Joint) × (c : Condition (Unit {0})) × EndsWith joints end front c
