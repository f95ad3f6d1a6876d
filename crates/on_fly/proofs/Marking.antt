-- The marks of one change more.
use Rattle.std.proofs.Common.{◌≡◌, ◌≢◌, ◌⊎◌, ℕ, zero, suc, ◌+◌, ◌<◌, ◌≤◌, ◌||◌, Bool, true, false, List, [], ◌∷◌, ◌++◌, length, take, get_or, nat_eq, set, refl, sym, ap, ◌∙◌, arith, inl, inr}
use Rattle.std.specs.List.{list_any}
use Rattle.std.specs.Prelude.{slice_index_or}
use Rattle.std.proofs.Math.ListN.{length-set}
use Rattle.std.proofs.lemmas.Bool.{eq-eqb}
use Rattle.std.proofs.lemmas.Bool.Decides.{eqb_tells}
use Rattle.std.proofs.lemmas.List.{get_or-set_other, get_or-set_same, take_more}
use Rattle.std.proofs.lemmas.List.Folds.{list_any-append}
use Rattle.on_fly.specs.Updates.{EndsMarked}

or_assoc : (a b c : Bool) → (a || (b || c)) ≡ ((a || b) || c)
or_assoc false b c = refl
or_assoc true b c = refl

pub or_false : (a : Bool) → (a || false) ≡ a
or_false false = refl
or_false true = refl

-- what is true of some of one item more
pub any_more : {X : Type 0} (p : X → Bool) (xs : List X) (i : ℕ) (d : X) → i < length xs → list_any p (take (i + 1) xs) ≡ (list_any p (take i xs) || p (get_or xs i d))
any_more p xs i d lt = ap (list_any p) (take_more xs i d lt) ∙ (list_any-append p (take i xs) (get_or xs i d ∷ []) ∙ ap (λ b. list_any p (take i xs) || b) (or_false (p (get_or xs i d))))

-- marked before, or by the first, or by the next
pub marked_more : {X : Type 0} (p : X → Bool) (xs : List X) (i : ℕ) (d : X) (was now next : Bool) → i < length xs → now ≡ (was || list_any p (take i xs)) → next ≡ (now || p (get_or xs i d)) → next ≡ (was || list_any p (take (i + 1) xs))
marked_more p xs i d was now next lt is more =
    more ∙ (ap (λ b. b || p (get_or xs i d)) is ∙ (sym (or_assoc was (list_any p (take i xs)) (p (get_or xs i d))) ∙ ap (λ b. was || b) (sym (any_more p xs i d lt))))

-- the same where none was marked before
pub marked_first : {X : Type 0} (p : X → Bool) (xs : List X) (i : ℕ) (d : X) (now next : Bool) → i < length xs → now ≡ list_any p (take i xs) → next ≡ (now || p (get_or xs i d)) → next ≡ list_any p (take (i + 1) xs)
marked_first p xs i d now next lt is more = more ∙ (ap (λ b. b || p (get_or xs i d)) is ∙ sym (any_more p xs i d lt))

-- one place more that is not marked
pub unmarked_more : (marks : List Bool) (place : ℕ) → slice_index_or (marks ++ false ∷ []) place false ≡ slice_index_or marks place false
unmarked_more [] zero = refl
unmarked_more [] (suc place) = refl
unmarked_more (m ∷ marks) zero = refl
unmarked_more (m ∷ marks) (suc place) = unmarked_more marks place

or_true : (a : Bool) → (a || true) ≡ true
or_true false = refl
or_true true = refl

-- one place is marked
set_mark : (marks : List Bool) (column place : ℕ) → column < length marks → get_or (set marks column true) place false ≡ (get_or marks place false || nat_eq column place)
set_mark marks column place lt = by (eqb_tells column place)
  where
    by : ((nat_eq column place ≡ true) × (column ≡ place)) ⊎ ((nat_eq column place ≡ false) × (column ≢ place)) → get_or (set marks column true) place false ≡ (get_or marks place false || nat_eq column place)
    by (inl (told, same)) =
        ap (λ j. get_or (set marks column true) j false) (sym same)
        ∙ (get_or-set_same marks column true false lt ∙ (sym (or_true (get_or marks place false)) ∙ ap (λ b. get_or marks place false || b) (sym told)))
    by (inr (told, apart)) =
        get_or-set_other marks column place true false (λ e. apart (sym e))
        ∙ (sym (or_false (get_or marks place false)) ∙ ap (λ b. get_or marks place false || b) (sym told))

pub marked_one : (marks was : List Bool) (column place : ℕ) → column < length marks → slice_index_or marks place false ≡ slice_index_or was place false
    → slice_index_or (set marks column true) place false ≡ (slice_index_or was place false || nat_eq column place)
marked_one marks was column place lt is = set_mark marks column place lt ∙ ap (λ b. b || nat_eq column place) is

-- the last mark is set where it was, or where the marks end with this one
pub ends_marked : (marks was : List Bool) (column : ℕ) → column < length marks → ((place : ℕ) → slice_index_or marks place false ≡ slice_index_or was place false)
    → (length marks ≡ length was) ⊎ (length marks ≤ column + 1) → EndsMarked was → EndsMarked (set marks column true)
ends_marked marks was column lt same (inl even) ends = λ place last.
    let there : length was ≡ place + 1 = omega (arith, last, length-set marks column true, even) in
    set_mark marks column place lt ∙ ap (λ b. b || nat_eq column place) (same place ∙ ends place there)
ends_marked marks was column lt same (inr short) ends = λ place last.
    let here : column ≡ place = omega (arith, last, length-set marks column true, short, lt) in
    set_mark marks column place lt ∙ (ap (λ b. slice_index_or marks place false || b) (eq-eqb column place here) ∙ or_true (slice_index_or marks place false))
