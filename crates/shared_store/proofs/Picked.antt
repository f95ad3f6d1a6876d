-- What a pick tells of the parts that it takes.
use Rattle.std.proofs.Common.{◌≡◌, add-one, ℕ, ◌+◌, ◌<◌, ◌||◌, Bool, false, List, [], ◌∷◌, Option, Some, None, IsSome, length, take, drop, refl, sym, ap, ap₂, ◌∙◌, subst, arith, suc}
use Rattle.std.specs.List.{All, slice_get}
use Rattle.std.proofs.lemmas.Bool.Decides.{nat_tests}
use Rattle.std.proofs.Math.Seq.{drop-cons, take-length}
use Rattle.std.proofs.lemmas.List.Elements.{All-from_recursion}
use Rattle.std.proofs.lemmas.Option.{get_or_from_slice_get, slice_get_within}
use Rattle.mt_base.specs.declared.partition.Partition.{Partition}
use Rattle.mt_base.specs.Limits.{level_limit}
use Rattle.merge_select.specs.declared.found.Pick.{Pick}
use Rattle.root_commits.specs.mutation_queue.declared.scope.Scope.{Scope}
use Rattle.merge_select.specs.Picks.{Choice, IsPick}
use Rattle.root_commits.specs.part_reader.declared.reading.Part.{Part}
use Rattle.root_commits.specs.part_set.declared.kept.Kept.{Kept}
use Rattle.root_commits.specs.part_set.declared.run.Run.{Run}
use Rattle.root_commits.specs.part_set.Parts.{kept_in}
use Rattle.root_commits.specs.part_set.Runs.{IsRun, parts_of_run}
use Rattle.root_commits.specs.part_set.Sets.{parts_of}
use Rattle.root_commits.specs.root_store.declared.store.CoreStore.{CoreStore}
use Rattle.root_commits.specs.root_store.declared.store.Table.{Table}
use Rattle.root_commits.specs.root_store.Soundness.{IsSoundStore}
use Rattle.root_commits.specs.root_store.Stores.{table_at}
use Rattle.shared_store.specs.Levels.{any_greatest, is_greatest}

-- ---- lists

module _ {X : Type 0} where
  -- two elements that follow each other
  pair_there : (xs : List X) (n : ℕ) (a b : X) → slice_get xs n ≡ Some a → slice_get xs (n + 1) ≡ Some b → take 2 (drop n xs) ≡ a ∷ b ∷ []
  pair_there xs n a b first second =
      let one : n < length xs = slice_get_within xs n a first in
      let next : slice_get xs (suc n) ≡ Some b = rw add-one at second in
      let two : suc n < length xs = slice_get_within xs (suc n) b next in
      let rest : drop (suc n) xs ≡ b ∷ drop (suc (suc n)) xs = drop-cons xs (suc n) b two ∙ ap (λ (x : X). x ∷ drop (suc (suc n)) xs) (get_or_from_slice_get xs (suc n) b b next) in
      ap (λ (ys : List X). take 2 ys) (drop-cons xs n a one ∙ ap₂ (λ (x : X) (ys : List X). x ∷ ys) (get_or_from_slice_get xs n a a first) rest)

-- ---- a run

module _ {F : Type 0} where
  -- the table of a run is there
  pub run_there : (store : CoreStore F) → IsSoundStore store → (table : List ℕ) (p : Partition) (run : Run) → IsRun run (kept_in p (parts_of store.set table)) → IsSome (table_at store table)
  run_there store sound table p run is = by (table_at store table) refl
    where
      by : (o : Option Table) → table_at store table ≡ o → IsSome o
      by (Some t) at = refl
      by None none =
          let empty : length (kept_in p (parts_of store.set table)) ≡ 0 = ap (λ (ks : List (Kept (Part F))). length (kept_in p ks)) (sound.no_other table none) in
          let some = is.some in
          let within = is.within in
          absurd (omega (arith, empty, some, within))

  -- ---- the pair that a policy takes

  module _ (c : Choice (Part F)) (scope : Scope) (pick : Pick) (is : IsPick c scope pick) where
    abbrev mine : List (Kept (Part F))
    mine = kept_in pick.partition (parts_of c.set pick.table.now)

    abbrev first : Kept (Part F)
    first = is.chooses.takes.first

    abbrev second : Kept (Part F)
    second = is.chooses.takes.second

    pair_is : parts_of_run pick.run mine ≡ first ∷ second ∷ []
    pair_is = ap (λ (n : ℕ). take n (drop pick.run.first mine)) is.count ∙ pair_there mine pick.run.first first second is.chooses.takes.first_is is.chooses.takes.second_is

    pub picked_run : IsRun pick.run mine
    picked_run =
        let two = is.count in
        let inside = slice_get_within mine (pick.run.first + 1) second is.chooses.takes.second_is in
        record { some = omega (arith, two); within = omega (arith, two, inside) }

    pub picked_idle : All (λ (k : Kept (Part F)). k.busy ≡ false) (parts_of_run pick.run mine)
    picked_idle =
        let free = is.chooses.takes.free in
        subst (All (λ (k : Kept (Part F)). k.busy ≡ false)) (sym pair_is) (All-from_recursion (λ (k : Kept (Part F)). k.busy ≡ false) (first ∷ second ∷ []) (free.first, (free.second, tt)))

    low_level : (k : Kept (Part F)) → k.name.level < level_limit → is_greatest k ≡ false
    low_level k low = grind (arith, low, nat_tests)

    -- none of them has the greatest level
    pub picked_low : any_greatest (parts_of_run pick.run mine) ≡ false
    picked_low =
        let low = is.chooses.takes.free.level in
        let one = low_level first (omega (arith, low)) in
        let two = low_level second (omega (arith, low)) in
        ap (λ (ks : List (Kept (Part F))). any_greatest ks) pair_is ∙ ap₂ (λ (x y : Bool). x || (y || false)) one two

  -- ---- all parts of a partition

  module _ (parts : List (Kept (Part F))) (run : Run) (some : 0 < length parts) (begins : run.first ≡ 0) (count : run.count ≡ length parts) where
    pub whole_run : IsRun run parts
    whole_run = record { some = omega (arith, some, count); within = omega (arith, begins, count) }

    pub whole_is : parts_of_run run parts ≡ parts
    whole_is = ap₂ (λ (n m : ℕ). take n (drop m parts)) count begins ∙ take-length parts

    pub whole_idle : All (λ (k : Kept (Part F)). k.busy ≡ false) parts → All (λ (k : Kept (Part F)). k.busy ≡ false) (parts_of_run run parts)
    whole_idle idle = subst (All (λ (k : Kept (Part F)). k.busy ≡ false)) (sym whole_is) idle
