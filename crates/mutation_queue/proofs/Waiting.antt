-- The first part that may be rewritten: of a partition, of a table, and of a scope.
use Rattle.std.proofs.Common.{◌≡◌, ℕ, ◌+◌, ◌<◌, ◌≤◌, zero, suc, Bool, true, false, cond, List, [], ◌∷◌, length, Option, Some, None, IfNone, IfSome, refl, sym, ap, ◌∙◌, subst, inl, inr, arith}
use Rattle.std.proofs.lemmas.Bool.{cases_lt}
use Rattle.std.proofs.lemmas.Bool.Decides.{nat_tests}
use Rattle.std.proofs.lemmas.Option.{get_or_from_slice_get, slice_get_within}
use Rattle.std.specs.Prelude.{slice_get}
use Rattle.mt_base.specs.declared.partition.Partition.{Partition}
use Rattle.mt_base.specs.declared.partition.Partition.TheVariants.{Whole, Number}
use Rattle.mt_values.specs.declared.mutation.Mutation.{Mutation}
use Rattle.mt_values.specs.Tables.{same_partition}
use Rattle.part_set.specs.declared.kept.Kept.{Kept}
use Rattle.part_set.specs.declared.set.PartSet.{PartSet}
use Rattle.part_set.specs.Parts.{kept_in, partition_rank}
use Rattle.part_set.specs.Shelf.{AreFiled, Shelf, all_parts}
use Rattle.mutation_queue.specs.declared.mutations.Mutations.{Mutations}
use Rattle.mutation_queue.specs.declared.rewriting.Rewrite.{Rewrite}
use Rattle.mutation_queue.specs.declared.scope.Scope.{Scope}
use Rattle.mutation_queue.specs.Queue.{mutations_of}
use Rattle.mutation_queue.specs.Rewrites.{IsFirstWaiting, IsNextRewrite, IsRewriteAt, MayRewrite, waits_for}
use Rattle.mutation_queue.proofs.Gone.{GoneOver}
use Rattle.mutation_queue.proofs.Shelves.{NoneOn, here_parts, none_before, rank_of_part}
use Rattle.mutation_queue.proofs.Tables.{IsFirst}

-- ---- the parts of one partition, one after the other

module _ {P : Type 0} (mutations : List Mutation) where
  -- of no parts none may be rewritten
  pub none_of_none : (k : ℕ) → MayRewrite {P = P} mutations [] k → ⊥
  none_of_none k may = let inside = slice_get_within [] k may.kept may.here in omega (arith, inside)

  module _ (parts : List (Kept P)) where
    waits_here : (k : ℕ) (kept : Kept P) (may : MayRewrite mutations parts k) → slice_get parts k ≡ Some kept → waits_for mutations kept ≡ Some may.upto
    waits_here k kept may at =
        let both : Some may.kept ≡ Some kept = sym may.here ∙ at in
        let same : may.kept ≡ kept = cc in
        subst (λ (x : Kept P). waits_for mutations x ≡ Some may.upto) same may.waits

    -- one part more that may not be
    pub none_more : (i : ℕ) (kept : Kept P) → slice_get parts i ≡ Some kept → waits_for mutations kept ≡ None → ((k : ℕ) → k < i → MayRewrite mutations parts k → ⊥)
        → (k : ℕ) → k < i + 1 → MayRewrite mutations parts k → ⊥
    none_more i kept at none before k below may = elim (cases_lt k i) [
      | inl less ↦ before k less may
      | inr not_less ↦ (
          let same : k ≡ i = omega (arith, below, not_less) in
          let both : Some may.upto ≡ None = sym (waits_here k kept may (ap (slice_get parts) same ∙ at)) ∙ none in
          absurd cc
          )
    ]

    -- there is none past the last
    pub none_past : (i : ℕ) → length parts ≤ i → ((k : ℕ) → k < i → MayRewrite mutations parts k → ⊥) → (k : ℕ) → MayRewrite mutations parts k → ⊥
    none_past i all before k may = let within = slice_get_within parts k may.kept may.here in before k (omega (arith, within, all)) may

    -- the first one that may be
    pub rewrite_is : (r : Rewrite) (kept : Kept P) → slice_get parts r.first ≡ Some kept → waits_for mutations kept ≡ Some r.upto → kept.name ≡ r.name
        → ((k : ℕ) → k < r.first → MayRewrite mutations parts k → ⊥) → IsRewriteAt mutations parts r
    rewrite_is r kept at waits named before = record {
      may = record { kept = kept; upto = r.upto; here = at; waits = waits };
      named = named;
      upto = refl;
      first = before;
    }

-- ---- the partitions of a table

module _ {P : Type 0} (mutations : List Mutation) (es : List (ℕ × Shelf P)) (filed : AreFiled es) where
  module _ (left next : List (ℕ × Shelf P)) (here : ℕ × Shelf P) (over : GoneOver (NoneOn (MayRewrite mutations)) es left) (step : left ≡ here ∷ next) where
    -- the one that is found on the first shelf that has one
    pub first_on_shelf : (parts : List (Kept P)) → parts ≡ here.1.parts → (r : Rewrite) → IsRewriteAt mutations parts r → IsFirstWaiting mutations (all_parts es) r
    first_on_shelf parts are r found =
        let at : IsRewriteAt mutations here.1.parts r = subst (λ (xs : List (Kept P)). IsRewriteAt mutations xs r) are found in
        let kept = at.may.kept in
        let inside = slice_get_within here.1.parts r.first kept at.may.here in
        let rank = rank_of_part (MayRewrite mutations) (none_of_none mutations) es filed left next here over step r.first kept inside in
        let is = get_or_from_slice_get here.1.parts r.first kept kept at.may.here in
        let mine : partition_rank r.name.partition ≡ here.0 = ap (λ n. partition_rank n.partition) (sym at.named) ∙ subst (λ (x : Kept P). partition_rank x.name.partition ≡ here.0) is rank in
        record {
          here = subst (λ (xs : List (Kept P)). IsRewriteAt mutations xs r) (sym (here_parts (MayRewrite mutations) (none_of_none mutations) es filed left next here over step r.name.partition mine)) at;
          first = none_before (MayRewrite mutations) (none_of_none mutations) es filed left next here over step r.name.partition mine;
        }

-- ---- the scope

-- the part at a place of a table's partition may be rewritten
abbrev pub Waits : {P : Type 0} → Mutations → List ℕ → List (Kept P) → ℕ → Type 0
Waits queue t parts k = MayRewrite (mutations_of queue t) parts k

-- it is the first one there that may be
abbrev pub WaitsFirst : {P : Type 0} → Mutations → Rewrite → List ℕ → List (Kept P) → Type 0
WaitsFirst queue r t parts = IsRewriteAt (mutations_of queue t) parts r

module _ {P : Type 0} (set : PartSet P) (queue : Mutations) where
  -- what is the first of its partition, and of the scope, is the one that is rewritten next
  pub next_is : (scope : Scope) (r : Rewrite) (t : List ℕ) (p : Partition) → r.table.now ≡ t → r.name.partition ≡ p → IsFirst set (Waits queue) scope (WaitsFirst queue r) t p → IsNextRewrite set queue scope r
  next_is scope r t p table_is partition_is found =
      let moved : IsFirst set (Waits queue) scope (WaitsFirst queue r) r.table.now r.name.partition = subst (λ (u : List ℕ). IsFirst set (Waits queue) scope (WaitsFirst queue r) u r.name.partition) (sym table_is)
      (subst (IsFirst set (Waits queue) scope (WaitsFirst queue r) t) (sym partition_is) found) in
      record { in_scope = moved.in_scope; here = moved.said; first = moved.first }

-- ---- the parts of a partition are of it

partition_is : (p q : Partition) → same_partition p q ≡ true → p ≡ q
partition_is Whole Whole same = refl
partition_is Whole (Number n) same = cc
partition_is (Number m) Whole same = cc
partition_is (Number m) (Number n) same = let is : m ≡ n = grind (arith, nat_tests, same) in ap Number is

kept_is : {P : Type 0} (p : Partition) (xs : List (Kept P)) (k : ℕ) (kept : Kept P) → slice_get (kept_in p xs) k ≡ Some kept → kept.name.partition ≡ p
kept_is p [] k kept at = absurd (let inside = slice_get_within [] k kept at in omega (arith, inside))
kept_is {P} p (x ∷ xs) k kept at = by (same_partition x.name.partition p) refl k at (λ j later. kept_is p xs j kept later)
  where
    by : (b : Bool) → same_partition x.name.partition p ≡ b → (k : ℕ) → slice_get (cond b (x ∷ kept_in p xs) (kept_in p xs)) k ≡ Some kept
        → ((j : ℕ) → slice_get (kept_in p xs) j ≡ Some kept → kept.name.partition ≡ p) → kept.name.partition ≡ p
    by false apart k at rest = rest k at
    by true same zero at rest = let is : x ≡ kept = cc in subst (λ (y : Kept P). y.name.partition ≡ p) is (partition_is x.name.partition p same)
    by true same (suc k) at rest = rest k at

pub part_is_of : {P : Type 0} (mutations : List Mutation) (p : Partition) (xs parts : List (Kept P)) (r : Rewrite) → parts ≡ kept_in p xs → IsRewriteAt mutations parts r → r.name.partition ≡ p
part_is_of {P} mutations p xs parts r are found =
    let at : IsRewriteAt mutations (kept_in p xs) r = subst (λ (ys : List (Kept P)). IsRewriteAt mutations ys r) are found in
    ap (λ n. n.partition) (sym at.named) ∙ kept_is p xs r.first at.may.kept at.may.here

-- ---- a search that is handed on

-- what is said of none where it says another thing
pub none_weaker : {X : Type 0} {N M : Type 0} (r : Option X) → (N → M) → IfNone r N → IfNone r M
none_weaker None f n = f n
none_weaker (Some x) f n = tt

-- and of two things that are said of some
pub some_both : {X : Type 0} {A B C : X → Type 0} (r : Option X) → ((x : X) → A x → B x → C x) → IfSome r A → IfSome r B → IfSome r C
some_both None f a b = tt
some_both (Some x) f a b = f x a b
