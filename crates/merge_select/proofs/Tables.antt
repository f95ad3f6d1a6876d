-- The pair that is taken of all tables, or of one.
use Rattle.std.proofs.Common.{◌≡◌, ℕ, List, [], sym, subst}
use Rattle.mt_base.specs.declared.partition.Partition.{Partition}
use Rattle.mutation_queue.specs.declared.scope.Scope.{Scope}
use Rattle.mutation_queue.specs.Queue.{mutations_of}
use Rattle.mutation_queue.proofs.Tables.{IsFirst}
use Rattle.mutation_queue.specs.part_set.declared.kept.Kept.{Kept}
use Rattle.merge_select.specs.declared.found.Pick.{Pick}
use Rattle.merge_select.specs.Picks.{Choice, Chooses, IsPick, MayTake}
use Rattle.merge_select.proofs.Places.{none_of_none}

module _ {P : Type 0} (c : Choice P) where
  -- the pair at a place of a table's partition may be taken
  abbrev pub Takes : List ℕ → List (Kept P) → ℕ → Type 0
  Takes t parts k = MayTake c.count (mutations_of c.queue t) c.policy parts k

  -- it is the one that is chosen there
  abbrev pub ChosenAt : ℕ → List ℕ → List (Kept P) → Type 0
  ChosenAt place t parts = Chooses c.count (mutations_of c.queue t) c.policy parts place

  -- of no parts there is no pair
  pub takes_none : (t : List ℕ) (k : ℕ) → Takes t [] k → ⊥
  takes_none t = none_of_none c.count (mutations_of c.queue t) c.policy

  -- what is chosen of the first partition of the scope that has a pair is the pair that is taken
  pub pick_is : (scope : Scope) (pick : Pick) (table : List ℕ) (partition : Partition) (place : ℕ) → pick.table.now ≡ table → pick.partition ≡ partition → pick.run.first ≡ place → pick.run.count ≡ 2
      → IsFirst c.set Takes scope (ChosenAt place) table partition → IsPick c scope pick
  pick_is scope pick table partition place table_is partition_is place_is count_is at =
      let moved : IsFirst c.set Takes scope (ChosenAt pick.run.first) pick.table.now pick.partition = subst (λ (t : List ℕ). IsFirst c.set Takes scope (ChosenAt pick.run.first) t pick.partition) (sym table_is)
      (subst (λ (p : Partition). IsFirst c.set Takes scope (ChosenAt pick.run.first) table p) (sym partition_is) (subst (λ (n : ℕ). IsFirst c.set Takes scope (ChosenAt n) table partition) (sym place_is) at)) in
      record { in_scope = moved.in_scope; count = count_is; chooses = moved.said; first = moved.first }
