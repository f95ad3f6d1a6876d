-- Parts that may all be merged, and marks that they bear.
use Rattle.std.proofs.Common.{◌≡◌, ℕ, ◌+◌, ◌-◌, ◌<◌, ◌≤◌, true, false, List, length, get_or, slice_get, Some, refl, ap, ◌∙◌, subst, sym, inl, inr, arith}
use Rattle.std.proofs.lemmas.Bool.{cases_lt}
use Rattle.std.proofs.lemmas.Option.{same_Some, slice_get-get_or, slice_get_within}
use Rattle.std.specs.List.{AllWithin}
use Rattle.mt_values.specs.declared.mutation.Mutation.{Mutation}
use Rattle.mutation_queue.specs.part_set.part_name.Pending.{MayMerge}
use Rattle.mutation_queue.specs.part_set.declared.kept.Kept.{Kept}
use Rattle.merge_select.specs.Whole.{AllMayMerge, AreParted, IsFirstBusy}

module _ {P : Type 0} (mutations : List Mutation) (parts : List (Kept P)) where
  -- no mutation parts two that follow each other and are both below a place
  abbrev pub MergeBelow : ℕ → Type 0
  MergeBelow next = (k : ℕ) (a b : Kept P) → k + 1 < next → slice_get parts k ≡ Some a → slice_get parts (k + 1) ≡ Some b → MayMerge mutations a.name b.name

  -- nor below the next place
  pub merge_more : (next : ℕ) (d e : Kept P) → 0 < next → next < length parts → MergeBelow next → MayMerge mutations (get_or parts (next - 1) d).name (get_or parts next e).name → MergeBelow (next + 1)
  merge_more next d e some inside each here k a b below a_is b_is = elim (cases_lt (k + 1) next) [
    | inl less ↦ each k a b less a_is b_is
    | inr not_less ↦ (
        let same : k ≡ next - 1 = omega (arith, some, below, not_less) in
        let after : k + 1 ≡ next = omega (arith, some, below, not_less) in
        let first : get_or parts (next - 1) d ≡ a = same_Some (get_or parts (next - 1) d) a (sym (slice_get-get_or parts (next - 1) d (omega (arith, some, inside))) ∙ (ap (slice_get parts) (sym same) ∙ a_is)) in
        let second : get_or parts next e ≡ b = same_Some (get_or parts next e) b (sym (slice_get-get_or parts next e inside) ∙ (ap (slice_get parts) (sym after) ∙ b_is)) in
        subst (λ (p : Kept P). MayMerge mutations p.name b.name) first (subst (λ (q : Kept P). MayMerge mutations (get_or parts (next - 1) d).name q.name) second here)
        )
  ]

  -- two that a mutation parts
  pub parted_here : (next : ℕ) (d e : Kept P) → 0 < next → next < length parts → (MayMerge mutations (get_or parts (next - 1) d).name (get_or parts next e).name → ⊥) → AreParted mutations parts
  parted_here next d e some inside parted = record {
    place = next - 1;
    first = get_or parts (next - 1) d;
    second = get_or parts next e;
    first_is = slice_get-get_or parts (next - 1) d (omega (arith, some, inside));
    second_is = (let same : next - 1 + 1 ≡ next = omega (arith, some) in ap (slice_get parts) same ∙ slice_get-get_or parts next e inside);
    parted = parted;
  }

  -- below the end there are all
  pub all_merge : (next : ℕ) → length parts ≤ next → MergeBelow next → AllMayMerge mutations parts
  all_merge next end each k a b a_is b_is = let inside = slice_get_within parts (k + 1) b b_is in each k a b (omega (arith, inside, end)) a_is b_is

-- the first that bears a mark
pub busy_here : {P : Type 0} (parts : List (Kept P)) (place : ℕ) (kept : Kept P) → slice_get parts place ≡ Some kept → kept.busy ≡ true → AllWithin (λ (k : Kept P). k.busy ≡ false) parts 0 place → IsFirstBusy parts kept.name
busy_here parts place kept here busy first = record { place = place; kept = kept; here = here; named = refl; busy = busy; first = first }
