-- The places of names that rise.
use Rattle.std.proofs.Common.{◌≡◌, ◌↔◌, ℕ, ◌<◌, List, get_or, sym, ap, ◌∙◌, subst, inl, inr, Some, arith}
use Rattle.std.proofs.lemmas.Bool.{cases_lt}
use Rattle.std.proofs.lemmas.Cmp.{nat_list_cmp_total, on_total, tied_itself}
use Rattle.std.proofs.lemmas.Map.Keys.{Less-from_sorted}
use Rattle.std.proofs.lemmas.Option.{get_or_from_slice_get, same_Some, slice_get_within}
use Rattle.std.specs.Cmp.{IsTotalOrder}
use Rattle.std.specs.List.{slice_get}
use Rattle.std.specs.Ordering.{ordering_reverse}
use Rattle.std.specs.declared.cmp.Ordering.TheVariants.{Less, Equal, Greater}
use Rattle.part_set.specs.declared.root_name.RootName.{RootName}
use Rattle.part_set.specs.NameOrder.{Rise, name_cmp}
use Rattle.part_set.specs.RootNames.{root_text}

name_total : IsTotalOrder name_cmp
name_total = on_total root_text nat_list_cmp_total

-- the one in front is below
below : (names : List RootName) (i j : ℕ) (a b : RootName) → Rise names → slice_get names i ≡ Some a → slice_get names j ≡ Some b → i < j → name_cmp a b ≡ Less
below names i j a b rise at_i at_j less =
    let told = Less-from_sorted name_cmp names i j a rise less (slice_get_within names j b at_j) in
    subst (λ (x : RootName). name_cmp x b ≡ Less) (get_or_from_slice_get names i a a at_i) (subst (λ (y : RootName). name_cmp (get_or names i a) y ≡ Less) (get_or_from_slice_get names j b a at_j) told)

pub places_told : (names : List RootName) (i j : ℕ) (a b : RootName) → Rise names → slice_get names i ≡ Some a → slice_get names j ≡ Some b → (i < j) ↔ (name_cmp a b ≡ Less)
places_told names i j a b rise at_i at_j = (
  below names i j a b rise at_i at_j,
  λ less.
      elim (cases_lt i j) [
        | inl front ↦ front
        | inr not_front ↦ elim (cases_lt j i) [
          | inl behind ↦ (
              let back = below names j i b a rise at_j at_i behind in
              let greater : name_cmp a b ≡ Greater = name_total.antisymm a b ∙ ap ordering_reverse back in
              absurd (let both : Less ≡ Greater = sym less ∙ greater in cc)
              )
          | inr not_behind ↦ (
              let same : i ≡ j = omega arith in
              let one : a ≡ b = same_Some a b (sym at_i ∙ (ap (slice_get names) same ∙ at_j)) in
              let equal : name_cmp a b ≡ Equal = ap (name_cmp a) (sym one) ∙ tied_itself name_total a in
              absurd (let both : Less ≡ Equal = sym less ∙ equal in cc)
              )
        ]
      ],
)
