-- How the logic stores an expression. No clause reads these words, so a reader can skip them.
use Rattle.std.specs.Prelude.{◌≡◌, ℕ, ◌==◌, cond, List, [], ◌∷◌, ◌++◌, refl}
use Rattle.std.specs.Coded.{Coded, code_by, coded×, coded_list, coded_ℕ}
use Rattle.std.proofs.Common.{ap, sym, ◌∙◌, append_assoc}
use Rattle.std.proofs.lemmas.List.{append-nil}
use Rattle.mt_values.specs.declared.expr.Joint.{Joint}
use Rattle.mt_values.specs.declared.expr.Joint.TheVariants as joint
use Rattle.mt_values.specs.Conditions.{Condition, Always, And, Holds, Not, Or, tests_of}
use Rattle.mt_values.specs.Polish.{built, joints_of}

abbrev joint_number : Joint → ℕ
joint_number joint.Always = 0
joint_number joint.Test = 1
joint_number joint.Not = 2
joint_number joint.And = 3
joint_number joint.Or = 4

abbrev joint_of : ℕ → Joint
joint_of n = cond (n == 0) joint.Always (cond (n == 1) joint.Test (cond (n == 2) joint.Not (cond (n == 3) joint.And joint.Or)))

pub joint_back : (j : Joint) → joint_of (joint_number j) ≡ j
joint_back joint.Always = refl
joint_back joint.Test = refl
joint_back joint.Not = refl
joint_back joint.And = refl
joint_back joint.Or = refl

abbrev joint_code : Coded Joint
joint_code = code_by ℕ coded_ℕ joint_number joint_of joint_back

-- what joins two expressions stands after what both are made of
joined : {T : Type 0} (a b : Condition T) (j : Joint) (js : List Joint)
    → joints_of a ++ joints_of b ++ j ∷ [] ++ js ≡ joints_of a ++ (joints_of b ++ j ∷ js)
joined a b j js =
    append_assoc (joints_of a ++ joints_of b) (j ∷ []) js ∙ append_assoc (joints_of a) (joints_of b) (j ∷ js)

-- what two expressions are made of, before more
pair_of : {T : Type 0} (a b : Condition T) (j : Joint) (ts : List T) (before : List (Condition T)) (js : List Joint)
    → built (tests_of a ++ tests_of b ++ ts) before (joints_of a ++ joints_of b ++ j ∷ [] ++ js)
    ≡ built (tests_of a ++ (tests_of b ++ ts)) before (joints_of a ++ (joints_of b ++ j ∷ js))
pair_of a b j ts before js =
    ap (λ tests. built tests before (joints_of a ++ joints_of b ++ j ∷ [] ++ js)) (append_assoc (tests_of a) (tests_of b) ts)
    ∙ ap (built (tests_of a ++ (tests_of b ++ ts)) before) (joined a b j js)

-- what an expression is made of, before more, makes it again
pub built_of : {T : Type 0} (c : Condition T) (ts : List T) (before : List (Condition T)) (js : List Joint)
    → built (tests_of c ++ ts) before (joints_of c ++ js) ≡ built ts (c ∷ before) js
built_of Always ts before js = refl
built_of (Holds t) ts before js = refl
built_of (Not c) ts before js =
    ap (built (tests_of c ++ ts) before) (append_assoc (joints_of c) (joint.Not ∷ []) js)
    ∙ built_of c ts before (joint.Not ∷ js)
built_of (And a b) ts before js =
    pair_of a b joint.And ts before js
    ∙ (built_of a (tests_of b ++ ts) before (joints_of b ++ joint.And ∷ js)
    ∙ built_of b ts (a ∷ before) (joint.And ∷ js))
built_of (Or a b) ts before js =
    pair_of a b joint.Or ts before js
    ∙ (built_of a (tests_of b ++ ts) before (joints_of b ++ joint.Or ∷ js)
    ∙ built_of b ts (a ∷ before) (joint.Or ∷ js))

pub built_back : {T : Type 0} (c : Condition T) → built (tests_of c) [] (joints_of c) ≡ c
built_back c =
    ap (λ tests. built tests [] (joints_of c)) (sym (append-nil (tests_of c)))
    ∙ (ap (built (tests_of c ++ []) []) (sym (append-nil (joints_of c)))
    ∙ built_of c [] [] [])

abbrev pub condition_code : {T : Type 0} → Coded T → Coded (Condition T)
condition_code {T} c =
    code_by (List T × List Joint) (coded× (coded_list c) (coded_list joint_code)) (λ e. (tests_of e, joints_of e)) (λ p. built p.0 [] p.1) built_back
