-- Expressions one after another in Polish order, and the conjuncts of one.
use Rattle.std.proofs.Common.{◌≡◌, ℕ, zero, suc, ◌+◌, ◌-◌, ◌<◌, ◌≤◌, Bool, true, false, ◌&&◌, List, [], ◌∷◌, ◌++◌, length, length-append, take, drop, get_or, reverse, All, refl, sym, ap, ap₂, ◌∙◌, append_assoc, arith, subst, zero-add}
use Rattle.std.specs.List.{list_all}
use Rattle.std.proofs.Math.Seq.{take-append_seam, drop-append_seam, get_or-append_seam}
use Rattle.std.proofs.lemmas.List.{append-nil, drop-take, get_or_default, length-map, length-take-le, reverse-append, take_all, take_more}
use Rattle.std.proofs.lemmas.List.Elements.{All-cons, All-head, All-nil, All-tail}
use Rattle.std.proofs.lemmas.List.Folds.{list_all-append}
use Rattle.mt_values.specs.declared.expr.Joint.{Joint}
use Rattle.mt_values.specs.declared.expr.Joint.TheVariants as joint
use Rattle.mt_values.specs.declared.expr.TheConstants.{MOST_TRUTHS}
use Rattle.mt_values.specs.declared.expr.Test.{Test}
use Rattle.mt_values.specs.Conditions.{Condition, Always, And, Holds, Not, Or, conjuncts_of, height, map_tests, tests_of, truth}
use Rattle.mt_values.specs.Polish.{EndsThere, EndsWith, IsPolish, is_and, joints_of, own_tests, parts_of}
use Rattle.mt_values.specs.Tests.{eval, meets_at}
use Rattle.mt_values.specs.Values.{Row}
use Rattle.mt_values.proofs.Polish.{joints_of_map, tests_of_map}

-- a joint has at most one test of its own
pub own_few : (j : Joint) → own_tests j ≤ 1
own_few joint.Always = omega arith
own_few joint.Test = omega arith
own_few joint.Not = omega arith
own_few joint.And = omega arith
own_few joint.Or = omega arith

-- ---- what conjuncts say

and_true : (b : Bool) → (b && true) ≡ b
and_true false = refl
and_true true = refl

conjuncts_truth : {T : Type 0} (holds : T → Bool) (c : Condition T) → truth holds c ≡ list_all (truth holds) (conjuncts_of c)
conjuncts_truth holds Always = refl
conjuncts_truth holds (Holds t) = sym (and_true (holds t))
conjuncts_truth holds (Not c) = sym (and_true (truth holds (Not c)))
conjuncts_truth holds (And a b) =
    ap₂ (λ x y. x && y) (conjuncts_truth holds a) (conjuncts_truth holds b) ∙ sym (list_all-append (truth holds) (conjuncts_of a) (conjuncts_of b))
conjuncts_truth holds (Or a b) = sym (and_true (truth holds (Or a b)))

pub conjuncts_eval : (c : Condition Test) (row : Row) → eval c row ≡ list_all (λ d. eval d row) (conjuncts_of c)
conjuncts_eval c row = conjuncts_truth (meets_at row) c

-- the last of some expressions
pub record Last {T : Type 0} (cs : List (Condition T)) : Type 0 where
  pub last : Condition T
  pub rest : List (Condition T)
  pub is : cs ≡ last ∷ rest

pub last_of : {T : Type 0} (cs : List (Condition T)) → 0 < length cs → Last cs
last_of [] some = absurd (omega (arith, some))
last_of (c ∷ rest) some = record { last = c; rest = rest; is = refl }

none_more : (n m : ℕ) → n ≡ m → n ≡ m + 0
none_more n m e = omega (arith, e)

two : {X : Type 0} (xs a b : List X) (x : X) → xs ++ (a ++ b ++ x ∷ []) ≡ (xs ++ a ++ b) ++ x ∷ []
two xs a b x = sym (append_assoc xs (a ++ b) (x ∷ [])) ∙ ap (λ ys. ys ++ x ∷ []) (sym (append_assoc xs a b))

-- ---- expressions one after another, the last one first

module _ {T : Type 0} where
  -- their joints, in order
  abbrev pub joints_in : List (Condition T) → List Joint
  joints_in [] = []
  joints_in (c ∷ before) = joints_in before ++ joints_of c

  -- their tests
  abbrev pub tests_in : List (Condition T) → List T
  tests_in [] = []
  tests_in (c ∷ before) = tests_in before ++ tests_of c

  -- their conjuncts
  abbrev pub conjuncts_in : List (Condition T) → List (Condition T)
  conjuncts_in [] = []
  conjuncts_in (c ∷ before) = conjuncts_in before ++ conjuncts_of c

  -- the last joint of one
  abbrev pub last_joint : Condition T → Joint
  last_joint Always = joint.Always
  last_joint (Holds t) = joint.Test
  last_joint (Not c) = joint.Not
  last_joint (And a b) = joint.And
  last_joint (Or a b) = joint.Or

  -- what it joins
  abbrev pub parts : Condition T → List (Condition T)
  parts Always = []
  parts (Holds t) = []
  parts (Not c) = c ∷ []
  parts (And a b) = b ∷ a ∷ []
  parts (Or a b) = b ∷ a ∷ []

  parts_many : (c : Condition T) → length (parts c) ≡ parts_of (last_joint c)
  parts_many Always = refl
  parts_many (Holds t) = refl
  parts_many (Not c) = refl
  parts_many (And a b) = refl
  parts_many (Or a b) = refl

  pub opened : (c : Condition T) (before : List (Condition T)) → joints_in (c ∷ before) ≡ joints_in (parts c ++ before) ++ last_joint c ∷ []
  opened Always before = refl
  opened (Holds t) before = refl
  opened (Not c) before = sym (append_assoc (joints_in before) (joints_of c) (joint.Not ∷ []))
  opened (And a b) before = two (joints_in before) (joints_of a) (joints_of b) joint.And
  opened (Or a b) before = two (joints_in before) (joints_of a) (joints_of b) joint.Or

  tests_opened : (c : Condition T) (before : List (Condition T)) → length (tests_in (c ∷ before)) ≡ length (tests_in (parts c ++ before)) + own_tests (last_joint c)
  tests_opened Always before = none_more (length (tests_in before ++ [])) (length (tests_in before)) (ap length (append-nil (tests_in before)))
  tests_opened (Holds t) before = length-append (tests_in before) (t ∷ [])
  tests_opened (Not c) before = none_more (length (tests_in before ++ tests_of c)) (length (tests_in before ++ tests_of c)) refl
  tests_opened (And a b) before =
      none_more (length (tests_in before ++ (tests_of a ++ tests_of b))) (length (tests_in before ++ tests_of a ++ tests_of b)) (ap length (sym (append_assoc (tests_in before) (tests_of a) (tests_of b))))
  tests_opened (Or a b) before =
      none_more (length (tests_in before ++ (tests_of a ++ tests_of b))) (length (tests_in before ++ tests_of a ++ tests_of b)) (ap length (sym (append_assoc (tests_in before) (tests_of a) (tests_of b))))

  joints_some : (c : Condition T) → 1 ≤ length (joints_of c)
  joints_some Always = omega arith
  joints_some (Holds t) = omega arith
  joints_some (Not c) = omega (arith, length-append (joints_of c) (joint.Not ∷ []))
  joints_some (And a b) = omega (arith, length-append (joints_of a ++ joints_of b) (joint.And ∷ []))
  joints_some (Or a b) = omega (arith, length-append (joints_of a ++ joints_of b) (joint.Or ∷ []))

  -- there are no more of them than joints
  pub few_in : (cs : List (Condition T)) → length cs ≤ length (joints_in cs)
  few_in [] = omega arith
  few_in (c ∷ before) = let rest = few_in before in omega (arith, rest, joints_some c, length-append (joints_in before) (joints_of c))

-- ---- the last of some

module _ {X : Type 0} (xs front : List X) (x : X) (n : ℕ) (within : n ≤ length xs) (ends : take n xs ≡ front ++ x ∷ []) where
  front_many : length front + 1 ≡ n
  front_many = sym (length-append front (x ∷ [])) ∙ ap length (sym ends) ∙ length-take-le n xs within

  pub last_there : 0 < n
  last_there = omega (arith, front_many)

  at_last : take (n - 1) xs ++ get_or xs (n - 1) x ∷ [] ≡ front ++ x ∷ []
  at_last = sym (take_more xs (n - 1) x (omega (arith, front_many, within))) ∙ ap (λ m. take m xs) (omega (arith, front_many)) ∙ ends

  pub front_is : take (n - 1) xs ≡ front
  front_is =
      let long : n - 1 ≡ length (take (n - 1) xs) = sym (length-take-le (n - 1) xs (omega (arith, within))) in
      let same : length front ≡ length (take (n - 1) xs) = omega (arith, front_many, long) in
      sym (take-append_seam (take (n - 1) xs) (get_or xs (n - 1) x ∷ []))
      ∙ ap (λ m. take m (take (n - 1) xs ++ get_or xs (n - 1) x ∷ [])) (sym same)
      ∙ ap (take (length front)) at_last
      ∙ take-append_seam front (x ∷ [])

  pub last_is : get_or xs (n - 1) x ≡ x
  last_is =
      let same : n - 1 ≡ length front = omega (arith, front_many) in
      let long : n - 1 ≡ length (take (n - 1) xs) = sym (length-take-le (n - 1) xs (omega (arith, within))) in
      sym (get_or-append_seam (take (n - 1) xs) (get_or xs (n - 1) x) [] x)
      ∙ ap (λ m. get_or (take (n - 1) xs ++ get_or xs (n - 1) x ∷ []) m x) (sym long ∙ same)
      ∙ ap (λ ys. get_or ys (length front) x) at_last
      ∙ get_or-append_seam front x [] x

-- ---- where an expression begins

-- before a place stand some joints and the expressions that are missing of one with so many tests, beside those that were counted
pub record Missing (joints front : List Joint) (all : ℕ) (start missing counted : ℕ) : Type 0 where
  pub inner : List (Condition (Unit {0}))
  pub many : length inner ≡ missing
  pub before : take start joints ≡ front ++ joints_in inner
  pub counts : counted + length (tests_in inner) ≡ all

-- the missing expressions that are there in any case
abbrev pub IsMissing : List Joint → ℕ → ℕ → ℕ → ℕ → Type 0
IsMissing joints end start missing counted = (front : List Joint) (c : Condition (Unit {0})) → EndsWith joints end front c → Missing joints front (length (tests_of c)) start missing counted

pub all_missing : (joints : List Joint) (end : ℕ) → IsMissing joints end end 1 0
all_missing joints end front c ends = record { inner = c ∷ []; many = refl; before = ends.parted; counts = zero-add (length (tests_of c)) }

module _ (joints front : List Joint) (all start missing counted : ℕ) (within : start ≤ length joints) (some : 0 < missing) (m : Missing joints front all start missing counted) where
  -- the last of them
  abbrev l : Last m.inner
  l = last_of m.inner (omega (arith, some, m.many))

  -- what is before the joint that ends it
  abbrev others : List Joint
  others = front ++ joints_in (parts l.last ++ l.rest)

  ends : take start joints ≡ others ++ last_joint l.last ∷ []
  ends =
      m.before ∙ ap (λ cs. front ++ joints_in cs) l.is
      ∙ ap (λ js. front ++ js) (opened l.last l.rest)
      ∙ sym (append_assoc front (joints_in (parts l.last ++ l.rest)) (last_joint l.last ∷ []))

  pub some_before : 0 < start
  some_before = last_there joints others (last_joint l.last) start within ends

  joint_is : (j : Joint) → j ≡ get_or joints (start - 1) j → j ≡ last_joint l.last
  joint_is j is =
      is ∙ get_or_default joints (start - 1) j (last_joint l.last) (omega (arith, within, some_before))
      ∙ last_is joints others (last_joint l.last) start within ends

  fewer : (j : Joint) → j ≡ last_joint l.last → length (parts l.last ++ l.rest) ≡ missing - 1 + parts_of j
  fewer j same =
      let all : length m.inner ≡ suc (length l.rest) = ap length l.is in
      omega (arith, length-append (parts l.last) l.rest, parts_many l.last, ap parts_of same, all, m.many, some)

  more_tests : (j : Joint) → j ≡ last_joint l.last → counted + own_tests j + length (tests_in (parts l.last ++ l.rest)) ≡ all
  more_tests j same =
      let tests : length (tests_in m.inner) ≡ length (tests_in (parts l.last ++ l.rest)) + own_tests (last_joint l.last) = ap (λ cs. length (tests_in cs)) l.is ∙ tests_opened l.last l.rest in
      omega (arith, tests, ap own_tests same, m.counts)

  -- one joint less
  pub one_less : (j : Joint) → j ≡ get_or joints (start - 1) j → Missing joints front all (start - 1) (missing - 1 + parts_of j) (counted + own_tests j)
  one_less j is = record {
    inner = parts l.last ++ l.rest;
    many = fewer j (joint_is j is);
    before = front_is joints others (last_joint l.last) start within ends;
    counts = more_tests j (joint_is j is);
  }

-- where none is missing the expression begins
module _ (joints : List Joint) (end start counted : ℕ) (front : List Joint) (c : Condition (Unit {0})) (ends : EndsWith joints end front c) (low : start ≤ end) (m : Missing joints front (length (tests_of c)) start 0 counted) where
  none_left : m.inner ≡ []
  none_left = by m.inner m.many
    where
      by : (cs : List (Condition (Unit {0}))) → length cs ≡ 0 → cs ≡ []
      by [] is = refl
      by (d ∷ ds) is = absurd (omega (arith, is))

  pub begins : start ≡ length front
  begins =
      sym (length-take-le start joints (omega (arith, low, ends.within)))
      ∙ ap length (m.before ∙ ap (λ cs. front ++ joints_in cs) none_left ∙ append-nil front)

  pub counts_all : counted ≡ length (tests_of c)
  counts_all = (let none = ap (λ cs. length (tests_in cs)) none_left in omega (arith, m.counts, none))

-- no more are missing than there are joints before
pub missing_few : (joints front : List Joint) (all start missing counted : ℕ) → start ≤ length joints → Missing joints front all start missing counted → missing ≤ start
missing_few joints front all start missing counted within m =
    (let few = few_in m.inner in
    let long : start ≡ length front + length (joints_in m.inner) = sym (length-take-le start joints within) ∙ ap length m.before ∙ length-append front (joints_in m.inner) in
    omega (arith, few, long, m.many))

-- no more tests were counted than the expression has
pub counted_few : (joints front : List Joint) (all start missing counted : ℕ) → Missing joints front all start missing counted → counted ≤ all
counted_few joints front all start missing counted m = omega (arith, m.counts)

take_less : {X : Type 0} (n m : ℕ) (xs : List X) → n ≤ m → take n (take m xs) ≡ take n xs
take_less zero m xs le = refl
take_less (suc n) zero xs le = absurd (omega (arith, le))
take_less (suc n) (suc m) [] le = refl
take_less (suc n) (suc m) (x ∷ xs) le = ap (λ ys. x ∷ ys) (take_less n m xs (omega (arith, le)))

-- ---- the conjuncts that were found

module _ {T : Type 0} where
  abbrev IsLow : Condition T → Type 0
  IsLow d = height d ≤ MOST_TRUTHS

  -- what is left of an expression before a place, and the conjuncts after it, the last one first
  pub record Parted (c : Condition T) (joints : List Joint) (end : ℕ) (tests : List T) (found : List (Condition T)) : Type 0 where
    pub left : List (Condition T)
    pub within : end ≤ length joints
    pub joints_are : take end joints ≡ joints_in left
    pub tests_are : tests ≡ tests_in left
    pub conjuncts_are : conjuncts_of c ≡ conjuncts_in left ++ reverse found
    pub low : All IsLow left

  pub none_found : (c : Condition T) (joints : List Joint) (end : ℕ) (tests : List T) → joints ≡ joints_of c → end ≡ length joints → tests ≡ tests_of c → height c ≤ MOST_TRUTHS → (found : List (Condition T)) → found ≡ [] → Parted c joints end tests found
  none_found c joints end tests joints_are end_is tests_are few found none = record {
    left = c ∷ [];
    within = omega (arith, end_is);
    joints_are = take_whole end joints end_is ∙ joints_are;
    tests_are = tests_are;
    conjuncts_are = sym (append-nil (conjuncts_of c)) ∙ ap (λ ds. conjuncts_of c ++ reverse ds) (sym none);
    low = All-cons IsLow c [] few (All-nil IsLow);
  }
    where
      take_whole : {X : Type 0} (n : ℕ) (xs : List X) → n ≡ length xs → take n xs ≡ xs
      take_whole n xs is = take_all n xs (omega (arith, is))

  module _ (c : Condition T) (joints : List Joint) (end : ℕ) (tests : List T) (found : List (Condition T)) (some : 0 < end) (p : Parted c joints end tests found) where
    pub left_some : 0 < length p.left
    left_some = by p.left p.joints_are
      where
        by : (cs : List (Condition T)) → take end joints ≡ joints_in cs → 0 < length cs
        by [] is = absurd (omega (arith, ap length is, length-take-le end joints p.within, some))
        by (e ∷ es) is = omega arith

    -- the last expression that is left
    abbrev top : Last p.left
    top = last_of p.left left_some

    abbrev pub d : Condition T
    d = top.last

    abbrev pub ds : List (Condition T)
    ds = top.rest

    top_ends : take end joints ≡ joints_in (parts d ++ ds) ++ last_joint d ∷ []
    top_ends = p.joints_are ∙ ap joints_in top.is ∙ opened d ds

    low : All IsLow (d ∷ ds)
    low = subst (All IsLow) top.is p.low

    last_found : (j : Joint) → j ≡ get_or joints (end - 1) j → j ≡ last_joint d
    last_found j is =
        is ∙ get_or_default joints (end - 1) j (last_joint d) (omega (arith, some, p.within))
        ∙ last_is joints (joints_in (parts d ++ ds)) (last_joint d) end p.within top_ends

    -- an AND at the top is passed over
    pub and_passed : (j : Joint) → j ≡ get_or joints (end - 1) j → is_and j ≡ true → Parted c joints (end - 1) tests found
    and_passed j is and = by d (ap is_and (sym (last_found j is)) ∙ and) top.is low
      where
        by : (e : Condition T) → is_and (last_joint e) ≡ true → p.left ≡ e ∷ ds → All IsLow (e ∷ ds) → Parted c joints (end - 1) tests found
        by Always is left few = cc
        by (Holds t) is left few = cc
        by (Not a) is left few = cc
        by (Or a b) is left few = cc
        by (And a b) is left few =
            let own : height (And a b) ≤ MOST_TRUTHS = All-head IsLow (And a b) ds few in
            let others = All-tail IsLow (And a b) ds few in
            let first : height a ≤ MOST_TRUTHS = omega (arith, own) in
            let second : height b ≤ MOST_TRUTHS = omega (arith, own) in
            record {
              left = b ∷ a ∷ ds;
              within = omega (arith, p.within);
              joints_are = front_is joints (joints_in (b ∷ a ∷ ds)) joint.And end p.within (p.joints_are ∙ ap joints_in left ∙ opened (And a b) ds);
              tests_are = p.tests_are ∙ ap tests_in left ∙ sym (append_assoc (tests_in ds) (tests_of a) (tests_of b));
              conjuncts_are = p.conjuncts_are ∙ ap (λ cs. conjuncts_in cs ++ reverse found) left ∙ ap (λ cs. cs ++ reverse found) (sym (append_assoc (conjuncts_in ds) (conjuncts_of a) (conjuncts_of b)));
              low = All-cons IsLow b (a ∷ ds) second (All-cons IsLow a ds first others);
            }

    -- without its tests
    abbrev pub bare : Condition (Unit {0})
    bare = map_tests (λ t. tt) d

    parted : take end joints ≡ joints_in ds ++ joints_of d
    parted = p.joints_are ∙ ap joints_in top.is

    pub ends_with : EndsWith joints end (joints_in ds) bare
    ends_with = record { within = p.within; parted = parted ∙ ap (λ js. joints_in ds ++ js) (sym (joints_of_map (λ t. tt) d)) }

    pub ends_there : EndsThere joints end
    ends_there = (joints_in ds, bare, ends_with)

    module _ (start count : ℕ) (start_of : (front : List Joint) (e : Condition (Unit {0})) → EndsWith joints end front e → start ≡ length front)
        (count_of : (front : List Joint) (e : Condition (Unit {0})) → EndsWith joints end front e → count ≡ length (tests_of e)) where
      start_is : start ≡ length (joints_in ds)
      start_is = start_of (joints_in ds) bare ends_with

      count_is : count ≡ length (tests_of bare)
      count_is = count_of (joints_in ds) bare ends_with

      tests_parted : tests ≡ tests_in ds ++ tests_of d
      tests_parted = p.tests_are ∙ ap tests_in top.is

      count_own : count ≡ length (tests_of d)
      count_own = count_is ∙ ap length (tests_of_map (λ t. tt) d) ∙ length-map (tests_of d) (λ t. tt)

      pub count_within : count ≤ length tests
      count_within = omega (arith, count_own, ap length tests_parted, length-append (tests_in ds) (tests_of d))

      before_is : length tests - count ≡ length (tests_in ds)
      before_is = omega (arith, count_own, ap length tests_parted, length-append (tests_in ds) (tests_of d))

      pub tests_before : take (length tests - count) tests ≡ tests_in ds
      tests_before = ap₂ (λ n ts. take n ts) before_is tests_parted ∙ take-append_seam (tests_in ds) (tests_of d)

      pub own_tests_are : drop (length tests - count) tests ≡ tests_of d
      own_tests_are = ap₂ (λ n ts. drop n ts) before_is tests_parted ∙ drop-append_seam (tests_in ds) (tests_of d)

      pub start_low : start ≤ end
      start_low = omega (arith, start_is, length-append (joints_in ds) (joints_of d), ap length parted, length-take-le end joints p.within)

      pub own_joints_are : take (end - start) (drop start joints) ≡ joints_of d
      own_joints_are =
          sym (drop-take start (end - start) joints)
          ∙ ap (λ n. drop start (take n joints)) (omega (arith, start_low))
          ∙ ap₂ (λ n js. drop n js) start_is parted
          ∙ drop-append_seam (joints_in ds) (joints_of d)

      pub is_expr : (ts : List T) (js : List Joint) → ts ≡ tests_of d → js ≡ joints_of d → IsPolish ts js
      is_expr ts js ts_are js_are = record { written = d; tests_are = ts_are; joints_are = js_are; few = All-head IsLow d ds low }

      alone : (e : Condition T) → is_and (last_joint e) ≡ false → conjuncts_of e ≡ e ∷ []
      alone Always other = refl
      alone (Holds t) other = refl
      alone (Not a) other = refl
      alone (And a b) other = cc
      alone (Or a b) other = refl

      pub start_less : start < end
      start_less = omega (arith, start_is, joints_some d, length-append (joints_in ds) (joints_of d), ap length parted, length-take-le end joints p.within)

      joints_before : take start joints ≡ joints_in ds
      joints_before =
          sym (take_less start end joints start_low) ∙ ap₂ (λ n js. take n js) start_is parted ∙ take-append_seam (joints_in ds) (joints_of d)

      -- one conjunct more
      pub one_found : (j : Joint) (more : List (Condition T)) → j ≡ get_or joints (end - 1) j → is_and j ≡ false → more ≡ found ++ d ∷ [] → Parted c joints start (take (length tests - count) tests) more
      one_found j more is other more_is = record {
        left = ds;
        within = omega (arith, start_low, p.within);
        joints_are = joints_before;
        tests_are = tests_before;
        conjuncts_are =
            p.conjuncts_are ∙ ap (λ cs. conjuncts_in cs ++ reverse found) top.is
            ∙ ap (λ cs. conjuncts_in ds ++ cs ++ reverse found) (alone d (ap is_and (sym (last_found j is)) ∙ other))
            ∙ append_assoc (conjuncts_in ds) (d ∷ []) (reverse found)
            ∙ ap (λ cs. conjuncts_in ds ++ cs) (sym (ap reverse more_is ∙ reverse-append found (d ∷ [])));
        low = All-tail IsLow d ds low;
      }

  -- none is left
  pub all_found : (c : Condition T) (joints : List Joint) (end : ℕ) (tests : List T) (found : List (Condition T)) → end ≡ 0 → Parted c joints end tests found → reverse found ≡ conjuncts_of c
  all_found c joints end tests found none p = sym (p.conjuncts_are ∙ ap (λ cs. conjuncts_in cs ++ reverse found) (by p.left p.joints_are))
    where
      by : (cs : List (Condition T)) → take end joints ≡ joints_in cs → cs ≡ []
      by [] is = refl
      by (d ∷ ds) is =
          absurd (omega (arith, joints_some d, length-append (joints_in ds) (joints_of d), ap length is, ap (λ n. length (take n joints)) none))
