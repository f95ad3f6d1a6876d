-- The entries of a map, gone over one after the other.
use Rattle.std.proofs.Common.{◌≡◌, List, [], ◌∷◌, ◌++◌, append_assoc, sym, ap, ◌∙◌, subst, inl, inr, arith}
use Rattle.std.proofs.lemmas.Cmp.{tied_itself}
use Rattle.std.proofs.lemmas.List.{append-nil}
use Rattle.std.proofs.lemmas.List.Elements.{All-contains, All-nil, All-push, Contains-append_cases, Contains-append_right}
use Rattle.std.proofs.lemmas.Map.Keys.{sorted_head, sorted_tail}
use Rattle.std.specs.Cmp.{IsTotalOrder}
use Rattle.std.specs.List.{All, AllByRecursion, Contains as HasItem}
use Rattle.std.specs.List.Sorted.{IsStrictlySortedBy}
use Rattle.std.specs.Map.{keys_of}
use Rattle.std.specs.Ordering.{ordering_reverse}
use Rattle.std.specs.declared.cmp.Ordering.{Ordering}
use Rattle.std.specs.declared.cmp.Ordering.TheVariants.{Less, Greater}
use Rattle.part_set.proofs.Items.{item_first, item_split}

-- all entries are those gone over, of which each is so, and those that are left
pub record GoneOver {E : Type 0} (Q : E → Type 0) (all left : List E) : Type 0 where
  pub gone : List E
  pub split : all ≡ gone ++ left
  pub each : All Q gone

module _ {E : Type 0} (Q : E → Type 0) (all left : List E) where
  pub gone_none : left ≡ all → GoneOver Q all left
  gone_none start = record { gone = []; split = sym start; each = All-nil Q }

  pub gone_more : (e : E) (next : List E) → GoneOver Q all left → left ≡ e ∷ next → Q e → GoneOver Q all next
  gone_more e next over step is = record {
    gone = over.gone ++ e ∷ [];
    split = over.split ∙ (ap (λ (l : List E). over.gone ++ l) step ∙ sym (append_assoc over.gone (e ∷ []) next));
    each = All-push Q over.gone e over.each is;
  }

  pub gone_all : GoneOver Q all left → left ≡ [] → All Q all
  gone_all over end = subst (All Q) (sym (over.split ∙ (ap (λ (l : List E). over.gone ++ l) end ∙ append-nil over.gone))) over.each

  pub here_has : (e : E) (next : List E) → GoneOver Q all left → left ≡ e ∷ next → HasItem all e
  here_has e next over step = subst (λ (l : List E). HasItem l e) (sym (over.split ∙ ap (λ (l : List E). over.gone ++ l) step)) (Contains-append_right over.gone (e ∷ next) e (item_first e next))

-- ---- in the order of their keys

not_both : {K : Type 0} (R : K → K → Ordering) (o : IsTotalOrder R) (a b : K) → R a b ≡ Less → R b a ≡ Less → ⊥
not_both R o a b one other = let turned : R a b ≡ Greater = o.antisymm a b ∙ ap ordering_reverse other in absurd cc

module _ {K V : Type 0} (R : K → K → Ordering) where
  sorted_rest : (xs ys : List (K × V)) → IsStrictlySortedBy R (keys_of (xs ++ ys)) → IsStrictlySortedBy R (keys_of ys)
  sorted_rest [] ys sorted = sorted
  sorted_rest (x ∷ xs) ys sorted = sorted_rest xs ys (sorted_tail R x.0 (keys_of (xs ++ ys)) sorted)

  above_each : (k : K) (es : List (K × V)) → AllByRecursion (λ (y : K). R k y ≡ Less) (keys_of es) → (e : K × V) → HasItem es e → R k e.0 ≡ Less
  above_each k [] above e has = absurd (omega (arith, has.1))
  above_each k (x ∷ xs) above e has = elim (item_split x xs e has) [
    | inl same ↦ subst (λ (y : K × V). R k y.0 ≡ Less) same above.0
    | inr later ↦ above_each k xs above.1 e later
  ]

  -- an entry below the present one was gone over
  pub before_here : (o : IsTotalOrder R) (Q : K × V → Type 0) (all left next : List (K × V)) (here : K × V) → GoneOver Q all left → left ≡ here ∷ next → IsStrictlySortedBy R (keys_of all)
      → (e : K × V) → HasItem all e → R e.0 here.0 ≡ Less → Q e
  before_here o Q all left next here over step sorted e has below =
      let is : all ≡ over.gone ++ here ∷ next = over.split ∙ ap (λ (l : List (K × V)). over.gone ++ l) step in
      let rest = sorted_rest over.gone (here ∷ next) (subst (λ (l : List (K × V)). IsStrictlySortedBy R (keys_of l)) is sorted) in
      elim (Contains-append_cases over.gone (here ∷ next) e (subst (λ (l : List (K × V)). HasItem l e) is has)) [
        | inl gone ↦ All-contains Q over.gone e over.each gone
        | inr there ↦ elim (item_split here next e there) [
          | inl same ↦ (
              let itself : R here.0 here.0 ≡ Less = subst (λ (y : K × V). R y.0 here.0 ≡ Less) (sym same) below in
              let tied = tied_itself o here.0 in
              absurd cc
              )
          | inr later ↦ absurd (not_both R o e.0 here.0 below (above_each here.0 next (sorted_head R here.0 (keys_of next) rest) e later))
        ]
      ]
