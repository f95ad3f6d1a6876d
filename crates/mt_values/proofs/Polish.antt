-- Expressions in Polish order: what is made of them, and how a machine asks them joint by joint.
use Rattle.std.proofs.Common.{◌≡◌, ℕ, Bool, not, ◌+◌, ◌<◌, ◌≤◌, List, [], ◌∷◌, ◌++◌, length, map, take, drop, get_or, refl, sym, ap, ◌∙◌, append_assoc, arith, length-append}
use Rattle.std.proofs.lemmas.List.{append-nil, drop_all, drop_more, map-append, length-take, length-drop, take-append-drop}
use Rattle.mt_values.specs.declared.expr.Joint.{Joint}
use Rattle.mt_values.specs.declared.expr.Joint.TheVariants as joint
use Rattle.mt_values.specs.declared.expr.TheConstants.{MOST_TRUTHS}
use Rattle.mt_values.specs.Conditions.{Condition, Always, And, Holds, Meaning, Not, Or, by_truth, height, map_tests, meant, tests_of, truth}
use Rattle.mt_values.specs.Polish.{IsPolish, ComesTo, built, joints_of}
use Rattle.mt_values.specs.PolishCode.{built_back}

-- ---- what tests and joints make

pub built_is : {T : Type 0} (ts : List T) (js : List Joint) (h : IsPolish ts js) → built ts [] js ≡ h.written
built_is ts js h =
    ap (λ x. built x [] js) h.tests_are ∙ (ap (built (tests_of h.written) []) h.joints_are ∙ built_back h.written)

pub tests_built : {T : Type 0} (ts : List T) (js : List Joint) → IsPolish ts js → ts ≡ tests_of (built ts [] js)
tests_built ts js h = h.tests_are ∙ ap tests_of (sym (built_is ts js h))

pub joints_built : {T : Type 0} (ts : List T) (js : List Joint) → IsPolish ts js → js ≡ joints_of (built ts [] js)
joints_built ts js h = h.joints_are ∙ ap joints_of (sym (built_is ts js h))

pub few_built : {T : Type 0} (ts : List T) (js : List Joint) → IsPolish ts js → height (built ts [] js) ≤ MOST_TRUTHS
few_built ts js h = rw (built_is ts js h) h.few

pub tests_both : {T : Type 0} (ts us : List T) (js ks : List Joint) → IsPolish ts js → IsPolish us ks
    → ts ++ us ≡ tests_of (built ts [] js) ++ tests_of (built us [] ks)
tests_both ts us js ks p q =
    ap (λ x. x ++ us) (tests_built ts js p) ∙ ap (λ x. tests_of (built ts [] js) ++ x) (tests_built us ks q)

pub joints_both : {T : Type 0} (ts us : List T) (js ks : List Joint) (j : Joint) → IsPolish ts js → IsPolish us ks
    → js ++ ks ++ j ∷ [] ≡ joints_of (built ts [] js) ++ joints_of (built us [] ks) ++ j ∷ []
joints_both ts us js ks j p q =
    ap (λ x. x ++ ks ++ j ∷ []) (joints_built ts js p) ∙ ap (λ x. joints_of (built ts [] js) ++ x ++ j ∷ []) (joints_built us ks q)

-- ---- making them

pub of_one : {T : Type 0} (t : T) (ts : List T) (js : List Joint) → ts ≡ t ∷ [] → js ≡ joint.Test ∷ [] → IsPolish ts js
of_one t ts js tests joints = record { written = Holds t; tests_are = tests; joints_are = joints; few = omega arith }

abbrev pub negated : {T : Type 0} (ts : List T) (js : List Joint) → IsPolish ts js → IsPolish ts (js ++ joint.Not ∷ [])
negated ts js h = record {
  written = Not h.written;
  tests_are = h.tests_are;
  joints_are = ap (λ x. x ++ joint.Not ∷ []) h.joints_are;
  few = h.few;
}

pub negated_built : {T : Type 0} (ts : List T) (js : List Joint) → IsPolish ts js
    → built ts [] (js ++ joint.Not ∷ []) ≡ Not (built ts [] js)
negated_built ts js h = built_is ts (js ++ joint.Not ∷ []) (negated ts js h) ∙ ap Not (sym (built_is ts js h))

abbrev pub joined_and : {T : Type 0} (a b : Condition T) (ts : List T) (js : List Joint) → ts ≡ tests_of a ++ tests_of b
    → js ≡ joints_of a ++ joints_of b ++ joint.And ∷ [] → height a ≤ MOST_TRUTHS → height b + 1 ≤ MOST_TRUTHS → IsPolish ts js
joined_and a b ts js tests joints left right =
    record { written = And a b; tests_are = tests; joints_are = joints; few = omega arith }

abbrev pub joined_or : {T : Type 0} (a b : Condition T) (ts : List T) (js : List Joint) → ts ≡ tests_of a ++ tests_of b
    → js ≡ joints_of a ++ joints_of b ++ joint.Or ∷ [] → height a ≤ MOST_TRUTHS → height b + 1 ≤ MOST_TRUTHS → IsPolish ts js
joined_or a b ts js tests joints left right =
    record { written = Or a b; tests_are = tests; joints_are = joints; few = omega arith }

-- ---- other tests at the places of an expression's own

pub tests_of_map : {T U : Type 0} (f : T → U) (c : Condition T) → tests_of (map_tests f c) ≡ map f (tests_of c)
tests_of_map f Always = refl
tests_of_map f (Holds t) = refl
tests_of_map f (Not c) = tests_of_map f c
tests_of_map f (And a b) = rw (tests_of_map f a, tests_of_map f b) (sym (map-append f (tests_of a) (tests_of b)))
tests_of_map f (Or a b) = rw (tests_of_map f a, tests_of_map f b) (sym (map-append f (tests_of a) (tests_of b)))

pub joints_of_map : {T U : Type 0} (f : T → U) (c : Condition T) → joints_of (map_tests f c) ≡ joints_of c
joints_of_map f Always = refl
joints_of_map f (Holds t) = refl
joints_of_map f (Not c) = ap (λ x. x ++ joint.Not ∷ []) (joints_of_map f c)
joints_of_map f (And a b) = rw (joints_of_map f a, joints_of_map f b) refl
joints_of_map f (Or a b) = rw (joints_of_map f a, joints_of_map f b) refl

-- an expression of the same form over other tests
pub record Alike {T U : Type 0} (c : Condition T) (us : List U) : Type 0 where
  pub written : Condition U
  pub tests_are : us ≡ tests_of written
  pub joints_are : joints_of c ≡ joints_of written
  pub height_is : height written ≡ height c

parts : {U : Type 0} (us : List U) (n : ℕ) (xs ys : List U) → take n us ≡ xs → drop n us ≡ ys → us ≡ xs ++ ys
parts us n xs ys p q = rw (← p, ← q) (sym (take-append-drop n us))

pub alike : {T U : Type 0} (c : Condition T) (us : List U) → length us ≡ length (tests_of c) → Alike c us
alike Always [] e = record { written = Always; tests_are = refl; joints_are = refl; height_is = refl }
alike Always (u ∷ us) e = absurd (omega arith)
alike (Holds t) [] e = absurd (omega arith)
alike (Holds t) (u ∷ []) e = record { written = Holds u; tests_are = refl; joints_are = refl; height_is = refl }
alike (Holds t) (u ∷ v ∷ us) e = absurd (omega arith)
alike (Not c) us e =
    let p = alike c us e in
    record { written = Not p.written; tests_are = p.tests_are; joints_are = ap (λ x. x ++ joint.Not ∷ []) p.joints_are; height_is = p.height_is }
alike (And a b) us e =
    let whole : length us ≡ length (tests_of a) + length (tests_of b) = omega (arith, length-append (tests_of a) (tests_of b)) in
    let p = alike a (take (length (tests_of a)) us) (omega (arith, length-take (length (tests_of a)) us)) in
    let q = alike b (drop (length (tests_of a)) us) (omega (arith, length-drop (length (tests_of a)) us)) in
    record {
      written = And p.written q.written;
      tests_are = parts us (length (tests_of a)) (tests_of p.written) (tests_of q.written) p.tests_are q.tests_are;
      joints_are = ap (λ x. x ++ joints_of b ++ joint.And ∷ []) p.joints_are ∙ ap (λ x. joints_of p.written ++ x ++ joint.And ∷ []) q.joints_are;
      height_is = rw (p.height_is, q.height_is) refl;
    }
alike (Or a b) us e =
    let whole : length us ≡ length (tests_of a) + length (tests_of b) = omega (arith, length-append (tests_of a) (tests_of b)) in
    let p = alike a (take (length (tests_of a)) us) (omega (arith, length-take (length (tests_of a)) us)) in
    let q = alike b (drop (length (tests_of a)) us) (omega (arith, length-drop (length (tests_of a)) us)) in
    record {
      written = Or p.written q.written;
      tests_are = parts us (length (tests_of a)) (tests_of p.written) (tests_of q.written) p.tests_are q.tests_are;
      joints_are = ap (λ x. x ++ joints_of b ++ joint.Or ∷ []) p.joints_are ∙ ap (λ x. joints_of p.written ++ x ++ joint.Or ∷ []) q.joints_are;
      height_is = rw (p.height_is, q.height_is) refl;
    }

-- other tests in place of an expression's own
pub other_tests : {T U : Type 0} (ts : List T) (us : List U) (js : List Joint) → IsPolish ts js → length us ≡ length ts
    → IsPolish us js
other_tests ts us js h e =
    let p = alike h.written us (e ∙ ap length h.tests_are) in
    record {
      written = p.written;
      tests_are = p.tests_are;
      joints_are = h.joints_are ∙ p.joints_are;
      few = rw p.height_is h.few;
    }

pub mapped_built : {T U : Type 0} (f : T → U) (ts : List T) (us : List U) (js : List Joint) → IsPolish ts js
    → us ≡ map f ts → built us [] js ≡ map_tests f (built ts [] js)
mapped_built f ts us js h e =
    let tests = e ∙ (ap (map f) (tests_built ts js h) ∙ sym (tests_of_map f (built ts [] js))) in
    let joints = joints_built ts js h ∙ sym (joints_of_map f (built ts [] js)) in
    ap (λ x. built x [] js) tests
    ∙ (ap (built (tests_of (map_tests f (built ts [] js))) []) joints ∙ built_back (map_tests f (built ts [] js)))

-- ---- machines

pub comes_on : {T A : Type 0} (m : Meaning T A) (answer : A) (c : Condition T) (ts : List T) (before : List A) (js : List Joint)
    → length before + height c ≤ MOST_TRUTHS → ComesTo m answer ts (meant m c ∷ before) js
    → ComesTo m answer (tests_of c ++ ts) before (joints_of c ++ js)
comes_on m answer Always ts before js few after = (omega arith, after)
comes_on m answer (Holds t) ts before js few after = (omega arith, after)
comes_on m answer (Not c) ts before js few after =
    rw append_assoc (comes_on m answer c ts before (joint.Not ∷ js) few after)
comes_on m answer (And a b) ts before js few after =
    rw (append_assoc (tests_of a) (tests_of b) ts, append_assoc (joints_of a ++ joints_of b) (joint.And ∷ []) js, append_assoc (joints_of a) (joints_of b) (joint.And ∷ js))
    (comes_on m answer a (tests_of b ++ ts) before (joints_of b ++ joint.And ∷ js) (omega arith)
    (comes_on m answer b ts (meant m a ∷ before) (joint.And ∷ js) (omega arith) after))
comes_on m answer (Or a b) ts before js few after =
    rw (append_assoc (tests_of a) (tests_of b) ts, append_assoc (joints_of a ++ joints_of b) (joint.Or ∷ []) js, append_assoc (joints_of a) (joints_of b) (joint.Or ∷ js))
    (comes_on m answer a (tests_of b ++ ts) before (joints_of b ++ joint.Or ∷ js) (omega arith)
    (comes_on m answer b ts (meant m a ∷ before) (joint.Or ∷ js) (omega arith) after))

-- a machine that begins with nothing ends with what the expression says
pub comes_to : {T A : Type 0} (m : Meaning T A) (c : Condition T) → height c ≤ MOST_TRUTHS
    → ComesTo m (meant m c) (tests_of c) [] (joints_of c)
comes_to m c few =
    rw (← append-nil (tests_of c), ← append-nil (joints_of c)) (comes_on m (meant m c) c [] [] [] (omega arith) (refl, refl))

pub meant_truth : {T : Type 0} (holds : T → Bool) (c : Condition T) → meant (by_truth holds) c ≡ truth holds c
meant_truth holds Always = refl
meant_truth holds (Holds t) = refl
meant_truth holds (Not c) = ap not (meant_truth holds c)
meant_truth holds (And a b) = rw (meant_truth holds a, meant_truth holds b) refl
meant_truth holds (Or a b) = rw (meant_truth holds a, meant_truth holds b) refl

-- a machine of truths ends with the truth
pub comes_to_truth : {T : Type 0} (holds : T → Bool) (c : Condition T) → height c ≤ MOST_TRUTHS
    → ComesTo (by_truth holds) (truth holds c) (tests_of c) [] (joints_of c)
comes_to_truth holds c few = rw (← meant_truth holds c) (comes_to (by_truth holds) c few)

module _ {T A : Type 0} (m : Meaning T A) (answer : A) (ts : List T) (before : List A) (js : List Joint) (i : ℕ) where
  -- the joint at this place is the next
  pub next_joint : i < length js → ComesTo m answer ts before (drop i js)
      → ComesTo m answer ts before (get_or js i joint.Always ∷ drop (i + 1) js)
  next_joint within h = rw (← drop_more js i joint.Always within) h

  -- where no joint is left, the answer is all that is kept
  pub all_asked : length js ≤ i → ComesTo m answer ts before (drop i js) → before ≡ answer ∷ []
  all_asked end h = (rw (drop_all i js end) at h).1
