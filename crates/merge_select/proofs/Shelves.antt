-- The pair that is taken of a table, by its partitions.
use Rattle.std.proofs.Common.{◌≡◌, ℕ, ◌<◌, List, ◌∷◌, get_or, sym, subst, arith}
use Rattle.mt_base.specs.declared.policy.Policy.{Policy}
use Rattle.mt_base.specs.declared.partition.Partition.{Partition}
use Rattle.mt_values.specs.declared.mutation.Mutation.{Mutation}
use Rattle.mutation_queue.specs.part_set.declared.kept.Kept.{Kept}
use Rattle.mutation_queue.specs.part_set.Parts.{kept_in, partition_rank}
use Rattle.mutation_queue.specs.part_set.Shelf.{AreFiled, Shelf, all_parts}
use Rattle.mutation_queue.proofs.Gone.{GoneOver}
use Rattle.mutation_queue.proofs.Shelves.{NoneOn, here_parts, none_before, rank_of_part}
use Rattle.merge_select.specs.Picks.{Chooses, MayTake}
use Rattle.merge_select.proofs.Places.{none_of_none, takes_within}

module _ {P : Type 0} (count : P → ℕ) (mutations : List Mutation) (policy : Policy) (es : List (ℕ × Shelf P)) (filed : AreFiled es) where
  -- the pair is the first of the table's, by the partition of its first part
  abbrev pub IsFirstAt : List (Kept P) → ℕ → Kept P → Type 0
  IsFirstAt parts place d =
      Chooses count mutations policy (kept_in (get_or parts place d).name.partition (all_parts es)) place
      × ((q : Partition) → partition_rank q < partition_rank (get_or parts place d).name.partition → (k : ℕ) → MayTake count mutations policy (kept_in q (all_parts es)) k → ⊥)

  module _ (left next : List (ℕ × Shelf P)) (here : ℕ × Shelf P) (over : GoneOver (NoneOn (MayTake count mutations policy)) es left) (step : left ≡ here ∷ next) where
    first_on_shelf : (place : ℕ) (d : Kept P) → Chooses count mutations policy here.1.parts place → IsFirstAt here.1.parts place d
    first_on_shelf place d chooses =
        let May = MayTake count mutations policy in
        let empty = none_of_none count mutations policy in
        let inside = takes_within count mutations policy here.1.parts place chooses.takes in
        let p = (get_or here.1.parts place d).name.partition in
        let mine = rank_of_part May empty es filed left next here over step place d (omega (arith, inside)) in (
          subst (λ (xs : List (Kept P)). Chooses count mutations policy xs place) (sym (here_parts May empty es filed left next here over step p mine)) chooses,
          none_before May empty es filed left next here over step p mine,
        )

    -- the pair that is taken on the first shelf that has one
    pub first_of_table : (parts : List (Kept P)) → parts ≡ here.1.parts → (place : ℕ) (d : Kept P) → Chooses count mutations policy parts place → IsFirstAt parts place d
    first_of_table parts is place d =
        subst (λ (xs : List (Kept P)). Chooses count mutations policy xs place → IsFirstAt xs place d) (sym is) (first_on_shelf place d)
