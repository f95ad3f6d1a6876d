-- A row that lies in a box: what a condition is of it, the condition may be there.
use Rattle.std.proofs.Common.{◌≡◌, ℕ, zero, suc, ◌+◌, ◌<◌, Bool, true, false, not, ◌&&◌, ◌||◌, List, [], ◌∷◌, ◌++◌, length, slice_get, All, Option, Some, None, refl, sym, ap, ap₂, ◌∙◌, subst, arith, get_or}
use Rattle.std.specs.List.{list_all, list_any}
use Rattle.std.specs.Ordering.{is_eq, is_ge, is_gt, is_le, is_lt, ordering_reverse}
use Rattle.std.specs.declared.cmp.Ordering.{Ordering}
use Rattle.std.specs.declared.cmp.Ordering.TheVariants.{Less, Equal, Greater}
use Rattle.std.specs.BTreeMap.Comparable.{le_lt_trans}
use Rattle.std.proofs.Math.ListN.{get_or-append}
use Rattle.std.proofs.lemmas.List.{get_or-append-add, length-append}
use Rattle.std.proofs.lemmas.List.Elements.{All-head}
use Rattle.std.proofs.lemmas.Option.{slice_get-get_or}
use Rattle.mt_values.specs.declared.expr.Comparison.{Comparison}
use Rattle.mt_values.specs.declared.expr.Comparison.TheVariants as comparison
use Rattle.mt_values.specs.declared.expr.Test.{Test}
use Rattle.mt_values.specs.declared.value.Value.{Value}
use Rattle.mt_values.specs.declared.value.Value.TheVariants as value
use Rattle.mt_values.specs.Conditions.{Condition, Always, And, Holds, Not, Or, tests_of}
use Rattle.mt_values.specs.Order.{value_cmp}
use Rattle.mt_values.specs.Tests.{eval, meets, meets_at, meets_some, says}
use Rattle.mt_values.specs.Values.{Row}
use Rattle.mt_values.proofs.Orders.{value_exact, value_total}
use Rattle.predicate.specs.Boxes.{HasColumns, IsKnown, LiesIn, can, can_of, can_some, no_within, yes_within}
use Rattle.predicate.specs.declared.extent.Extent.{Extent}
use Rattle.predicate.specs.declared.extent.Known.{Known}
use Rattle.predicate.specs.declared.extent.Known.TheVariants as known

-- ---- truths

and_true : (a b : Bool) → a ≡ true → b ≡ true → (a && b) ≡ true
and_true a b p q = ap₂ (λ x y. x && y) p q

or_left : (a b : Bool) → a ≡ true → (a || b) ≡ true
or_left a b p = ap (λ x. x || b) p

or_right : (a b : Bool) → b ≡ true → (a || b) ≡ true
or_right true b p = refl
or_right false b p = p

not_both : (a : Bool) → not (a && false) ≡ true
not_both true = refl
not_both false = refl

not_true : (a : Bool) → not a ≡ true → a ≡ false
not_true true p = sym p
not_true false p = refl

not_false : (a : Bool) → not a ≡ false → a ≡ true
not_false true p = refl
not_false false p = sym p

-- ---- one literal

-- what stands at or above a value that stands above another stands above that too
above : (x hi v : Value) → is_le (value_cmp x hi) ≡ true → value_cmp x v ≡ Greater → value_cmp hi v ≡ Greater
above x hi v p e = value_total.antisymm hi v ∙ ap ordering_reverse (below (value_cmp x hi) refl p)
  where
    under : value_cmp v x ≡ Less
    under = value_total.antisymm v x ∙ ap ordering_reverse e

    below : (o : Ordering) → value_cmp x hi ≡ o → is_le o ≡ true → value_cmp v hi ≡ Less
    below Less q r = value_total.trans v x hi under q
    below Equal q r = ap (value_cmp v) (sym (value_exact x hi q)) ∙ under
    below Greater q r = cc

by_order : (c : Comparison) (lo hi x v : Value) (o : Ordering) → value_cmp x v ≡ o → is_le (value_cmp lo x) ≡ true → is_le (value_cmp x hi) ≡ true
    → says c o ≡ true → yes_within c lo hi v ≡ true
by_order comparison.Equal lo hi x v Less e p q s = cc
by_order comparison.Equal lo hi x v Equal e p q s =
    let same = value_exact x v e in
    and_true (is_le (value_cmp lo v)) (is_le (value_cmp v hi)) (ap (λ y. is_le (value_cmp lo y)) (sym same) ∙ p) (ap (λ y. is_le (value_cmp y hi)) (sym same) ∙ q)
by_order comparison.Equal lo hi x v Greater e p q s = cc
by_order comparison.NotEqual lo hi x v Less e p q s =
    ap (λ o. not (is_eq o && is_eq (value_cmp hi v))) (le_lt_trans value_total lo x v p e)
by_order comparison.NotEqual lo hi x v Equal e p q s = cc
by_order comparison.NotEqual lo hi x v Greater e p q s =
    ap (λ o. not (is_eq (value_cmp lo v) && is_eq o)) (above x hi v q e) ∙ not_both (is_eq (value_cmp lo v))
by_order comparison.Less lo hi x v Less e p q s = ap is_lt (le_lt_trans value_total lo x v p e)
by_order comparison.Less lo hi x v Equal e p q s = cc
by_order comparison.Less lo hi x v Greater e p q s = cc
by_order comparison.LessOrEqual lo hi x v Less e p q s = ap is_le (le_lt_trans value_total lo x v p e)
by_order comparison.LessOrEqual lo hi x v Equal e p q s = ap (λ y. is_le (value_cmp lo y)) (sym (value_exact x v e)) ∙ p
by_order comparison.LessOrEqual lo hi x v Greater e p q s = cc
by_order comparison.Greater lo hi x v Less e p q s = cc
by_order comparison.Greater lo hi x v Equal e p q s = cc
by_order comparison.Greater lo hi x v Greater e p q s = ap is_gt (above x hi v q e)
by_order comparison.GreaterOrEqual lo hi x v Less e p q s = cc
by_order comparison.GreaterOrEqual lo hi x v Equal e p q s =
    ap (λ y. is_ge (value_cmp hi y)) (sym (value_exact x v e)) ∙ ap is_ge (value_total.antisymm hi x) ∙ turned (value_cmp x hi) q
  where
    turned : (o : Ordering) → is_le o ≡ true → is_ge (ordering_reverse o) ≡ true
    turned Less r = refl
    turned Equal r = refl
    turned Greater r = r
by_order comparison.GreaterOrEqual lo hi x v Greater e p q s = ap is_ge (above x hi v q e)

-- the comparison that holds where this one does not
abbrev turned_round : Comparison → Comparison
turned_round comparison.Equal = comparison.NotEqual
turned_round comparison.NotEqual = comparison.Equal
turned_round comparison.Less = comparison.GreaterOrEqual
turned_round comparison.LessOrEqual = comparison.Greater
turned_round comparison.Greater = comparison.LessOrEqual
turned_round comparison.GreaterOrEqual = comparison.Less

says_not : (c : Comparison) (o : Ordering) → says c o ≡ false → says (turned_round c) o ≡ true
says_not comparison.Equal Less h = refl
says_not comparison.Equal Equal h = sym h
says_not comparison.Equal Greater h = refl
says_not comparison.NotEqual Less h = sym h
says_not comparison.NotEqual Equal h = refl
says_not comparison.NotEqual Greater h = sym h
says_not comparison.Less Less h = sym h
says_not comparison.Less Equal h = refl
says_not comparison.Less Greater h = refl
says_not comparison.LessOrEqual Less h = sym h
says_not comparison.LessOrEqual Equal h = sym h
says_not comparison.LessOrEqual Greater h = refl
says_not comparison.Greater Less h = refl
says_not comparison.Greater Equal h = refl
says_not comparison.Greater Greater h = sym h
says_not comparison.GreaterOrEqual Less h = refl
says_not comparison.GreaterOrEqual Equal h = sym h
says_not comparison.GreaterOrEqual Greater h = sym h

no_is : (c : Comparison) (lo hi v : Value) → no_within c lo hi v ≡ yes_within (turned_round c) lo hi v
no_is comparison.Equal lo hi v = refl
no_is comparison.NotEqual lo hi v = refl
no_is comparison.Less lo hi v = refl
no_is comparison.LessOrEqual lo hi v = refl
no_is comparison.Greater lo hi v = refl
no_is comparison.GreaterOrEqual lo hi v = refl

-- ---- several literals, and values of a list

module _ {X : Type 0} (p q : X → Bool) where
  pub any_too : ((x : X) → p x ≡ true → q x ≡ true) → (xs : List X) → list_any p xs ≡ true → list_any q xs ≡ true
  any_too f [] h = h
  any_too f (x ∷ xs) h = by_first (p x) refl h (λ g. any_too f xs g)
    where
      by_first : (b : Bool) → p x ≡ b → (b || list_any p xs) ≡ true → (list_any p xs ≡ true → list_any q xs ≡ true) → list_any q (x ∷ xs) ≡ true
      by_first true e g more = or_left (q x) (list_any q xs) (f x e)
      by_first false e g more = or_right (q x) (list_any q xs) (more g)

  none_all : ((x : X) → p x ≡ false → q x ≡ true) → (xs : List X) → list_any p xs ≡ false → list_all q xs ≡ true
  none_all f [] h = refl
  none_all f (x ∷ xs) h = by_first (p x) refl h (λ g. none_all f xs g)
    where
      by_first : (b : Bool) → p x ≡ b → (b || list_any p xs) ≡ false → (list_any p xs ≡ false → list_all q xs ≡ true) → list_all q (x ∷ xs) ≡ true
      by_first true e g more = cc
      by_first false e g more = and_true (q x) (list_all q xs) (f x e) (more g)

any_at : {X : Type 0} (p : X → Bool) (xs : List X) (place : ℕ) (x : X) → slice_get xs place ≡ Some x → p x ≡ true → list_any p xs ≡ true
any_at p [] place x is h = cc
any_at p (y ∷ ys) zero x is h = let same : y ≡ x = cc in or_left (p y) (list_any p ys) (ap p same ∙ h)
any_at p (y ∷ ys) (suc place) x is h = or_right (p y) (list_any p ys) (any_at p ys place x is h)

module _ {X : Type 0} (P : X → Type 0) (xs ys : List X) (h : All P (xs ++ ys)) where
  all_front : All P xs
  all_front = λ k d q. subst P (get_or-append xs ys d k q) (h k d (omega (arith, q, length-append xs ys)))

  all_back : All P ys
  all_back = λ k d q. subst P (get_or-append-add xs ys k d) (h (length xs + k) d (omega (arith, q, length-append xs ys)))

-- ---- tests and conditions

pub known_yes : (t : Test) (k : Known) (x : Value) → IsKnown k x → meets t x ≡ true → (can_of t k).yes ≡ true
known_yes t (known.Range lo hi) x h m =
    any_too (λ v. says t.comparison (value_cmp x v)) (yes_within t.comparison lo hi) (λ v s. by_order t.comparison lo hi x v (value_cmp x v) refl h.0 h.1 s) t.literals m
known_yes t (known.List vs) x h m = any_at (meets t) vs h.0 x h.1 m
known_yes t known.Unknown x h m = refl

pub known_no : (t : Test) (k : Known) (x : Value) → IsKnown k x → meets t x ≡ false → (can_of t k).no ≡ true
known_no t (known.Range lo hi) x h m =
    none_all (λ v. says t.comparison (value_cmp x v)) (no_within t.comparison lo hi)
    (λ v s. no_is t.comparison lo hi v ∙ by_order (turned_round t.comparison) lo hi x v (value_cmp x v) refl h.0 h.1 (says_not t.comparison (value_cmp x v) s)) t.literals m
known_no t (known.List vs) x h m = any_at (λ v. not (meets t v)) vs h.0 x h.1 (ap not m)
known_no t known.Unknown x h m = refl

some_yes : (t : Test) (o : Option Known) (x : Value) → ((k : Known) → o ≡ Some k → IsKnown k x) → meets t x ≡ true → (can_some t o).yes ≡ true
some_yes t None x h m = refl
some_yes t (Some k) x h m = known_yes t k x (h k refl) m

some_no : (t : Test) (o : Option Known) (x : Value) → ((k : Known) → o ≡ Some k → IsKnown k x) → meets t x ≡ false → (can_some t o).no ≡ true
some_no t None x h m = refl
some_no t (Some k) x h m = known_no t k x (h k refl) m

any_value : Value
any_value = value.UInt8 0

module _ (e : Extent) (row : Row) (lies : LiesIn e row) where
  test_yes : (t : Test) → t.column < length row → meets_at row t ≡ true → (can (Holds t) e).yes ≡ true
  test_yes t within m =
      let there = slice_get-get_or row t.column any_value within in
      some_yes t (slice_get e.columns t.column) (get_or row t.column any_value) (λ k is. lies t.column k (get_or row t.column any_value) is there) (ap (meets_some t) (sym there) ∙ m)

  test_no : (t : Test) → t.column < length row → meets_at row t ≡ false → (can (Holds t) e).no ≡ true
  test_no t within m =
      let there = slice_get-get_or row t.column any_value within in
      some_no t (slice_get e.columns t.column) (get_or row t.column any_value) (λ k is. lies t.column k (get_or row t.column any_value) is there) (ap (meets_some t) (sym there) ∙ m)

  pub hides : (c : Condition Test) → HasColumns c row → (eval c row ≡ true → (can c e).yes ≡ true) × (eval c row ≡ false → (can c e).no ≡ true)
  hides Always h = (λ m. refl, λ m. sym m)
  hides (Holds t) h =
      let within : t.column < length row = All-head (λ (u : Test). u.column < length row) t [] h in
      (test_yes t within, test_no t within)
  hides (Not c) h =
      let part = hides c h in
      (λ m. part.1 (not_true (eval c row) m), λ m. part.0 (not_false (eval c row) m))
  hides (And a b) h =
      let left = hides a (all_front (λ (t : Test). t.column < length row) (tests_of a) (tests_of b) h) in
      let right = hides b (all_back (λ (t : Test). t.column < length row) (tests_of a) (tests_of b) h) in
      (and_yes (eval a row) (eval b row) left.0 right.0, and_no (eval a row) (eval b row) left.1 right.1)
    where
      and_yes : (x y : Bool) → (x ≡ true → (can a e).yes ≡ true) → (y ≡ true → (can b e).yes ≡ true) → (x && y) ≡ true → ((can a e).yes && (can b e).yes) ≡ true
      and_yes true y f g m = and_true (can a e).yes (can b e).yes (f refl) (g m)
      and_yes false y f g m = cc

      and_no : (x y : Bool) → (x ≡ false → (can a e).no ≡ true) → (y ≡ false → (can b e).no ≡ true) → (x && y) ≡ false → ((can a e).no || (can b e).no) ≡ true
      and_no true y f g m = or_right (can a e).no (can b e).no (g m)
      and_no false y f g m = or_left (can a e).no (can b e).no (f refl)
  hides (Or a b) h =
      let left = hides a (all_front (λ (t : Test). t.column < length row) (tests_of a) (tests_of b) h) in
      let right = hides b (all_back (λ (t : Test). t.column < length row) (tests_of a) (tests_of b) h) in
      (or_yes (eval a row) (eval b row) left.0 right.0, or_no (eval a row) (eval b row) left.1 right.1)
    where
      or_yes : (x y : Bool) → (x ≡ true → (can a e).yes ≡ true) → (y ≡ true → (can b e).yes ≡ true) → (x || y) ≡ true → ((can a e).yes || (can b e).yes) ≡ true
      or_yes true y f g m = or_left (can a e).yes (can b e).yes (f refl)
      or_yes false y f g m = or_right (can a e).yes (can b e).yes (g m)

      or_no : (x y : Bool) → (x ≡ false → (can a e).no ≡ true) → (y ≡ false → (can b e).no ≡ true) → (x || y) ≡ false → ((can a e).no && (can b e).no) ≡ true
      or_no true y f g m = cc
      or_no false y f g m = and_true (can a e).no (can b e).no (f refl) (g m)
