-- The names of a run's parts, joined one after another.
use Rattle.std.proofs.Common.{◌≡◌, ℕ, ◌+◌, ◌-◌, ◌<◌, ◌≤◌, cond, List, [], ◌∷◌, Option, Some, None, length, map, nat_lt, take, drop, get_or, sym, ap, ◌∙◌, arith, zero, suc}
use Rattle.std.proofs.lemmas.List.{map_push, take_more}
use Rattle.std.proofs.lemmas.List.Sums.{fold_push}
use Rattle.std.specs.List.{fold}
use Rattle.mt_base.specs.Limits.{level_limit}
use Rattle.root_store.specs.part_name.declared.part.PartName.{PartName}
use Rattle.root_store.specs.part_name.Merged.{joined_name, raised}
use Rattle.root_store.specs.part_set.declared.kept.Kept.{Kept}
use Rattle.root_commits.specs.Merges.{name_of_merge, within_levels}
use Rattle.root_commits.proofs.MergeCauses.{raised_within}

module _ {P : Type 0} where
  abbrev name_of : Kept P → PartName
  name_of k = k.name

  -- one name more
  pub more_joined : (first : PartName) (rest : List (Kept P)) (i : ℕ) (d : Kept P) → i < length rest
      → fold joined_name first (map name_of (take (i + 1) rest)) ≡ joined_name (fold joined_name first (map name_of (take i rest))) (get_or rest i d).name
  more_joined first rest i d inside =
      ap (λ (ks : List (Kept P)). fold joined_name first (map name_of ks)) (take_more rest i d inside)
      ∙ (ap (fold joined_name first) (map_push name_of (take i rest) (get_or rest i d)) ∙ fold_push joined_name first (map name_of (take i rest)) (get_or rest i d).name)

  -- a run is its first part and the rest
  pub run_split : (ks : List (Kept P)) (first count : ℕ) (d : Kept P) → 0 < count → first < length ks → take count (drop first ks) ≡ get_or ks first d ∷ take (count - 1) (drop (first + 1) ks)
  run_split [] first count d some inside = absurd (omega (arith, inside))
  run_split (k ∷ ks) zero zero d some inside = absurd (omega (arith, some))
  run_split (k ∷ ks) zero (suc c) d some inside = let same : suc c - 1 ≡ c = omega arith in ap (λ (n : ℕ). k ∷ take n ks) (sym same)
  run_split (k ∷ ks) (suc f) count d some inside =
      let next : suc f + 1 ≡ suc (f + 1) = omega arith in
      run_split ks f count d some (omega (arith, inside)) ∙ ap (λ (n : ℕ). get_or ks f d ∷ take (count - 1) (drop n (k ∷ ks))) (sym next)

  -- so its name is that of the first, joined with those of the rest and raised
  pub named_run : (ks : List (Kept P)) (first count : ℕ) (d : Kept P) → 0 < count → first < length ks
      → name_of_merge (take count (drop first ks)) ≡ Some (raised (fold joined_name (get_or ks first d).name (map name_of (take (count - 1) (drop (first + 1) ks)))))
  named_run ks first count d some inside = ap (λ (ls : List (Kept P)). name_of_merge ls) (run_split ks first count d some inside)

  -- and what is answered of it is the name, where its level is none that is greater than may be
  pub merged_is : (ks : List (Kept P)) (first count left : ℕ) (d : Kept P) (all : PartName) (found : Option PartName) → 0 < count → first + count ≤ length ks → left ≡ count - 1
      → all ≡ fold joined_name (get_or ks first d).name (map name_of (take left (drop (first + 1) ks))) → found ≡ cond (nat_lt all.level level_limit) (Some (raised all)) None → found ≡ within_levels (name_of_merge (take count (drop first ks)))
  merged_is ks first count left d all found some within left_is all_is found_is =
      let joined = all_is ∙ ap (λ (n : ℕ). fold joined_name (get_or ks first d).name (map name_of (take n (drop (first + 1) ks)))) left_is in
      found_is
      ∙ (raised_within all
      ∙ (ap (λ (n : PartName). within_levels (Some (raised n))) joined
      ∙ ap within_levels (sym (named_run ks first count d some (omega (arith, some, within))))))
