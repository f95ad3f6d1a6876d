-- What a turn found of the parts that it takes, or does not take.
use Rattle.std.proofs.Common.{◌≡◌, ℕ, IfOk, IfSome, List, Option, Some, None, Result, Ok, Err, sym, subst}
use Rattle.mt_base.specs.declared.partition.Partition.{Partition}
use Rattle.mt_base.specs.declared.policy.Policy.{Policy}
use Rattle.mt_outside.specs.Files.{Files}
use Rattle.merge_select.specs.Picks.{NoneIn}
use Rattle.root_commits.specs.mt_model.History.{History}
use Rattle.root_commits.specs.mutation_queue.declared.scope.Scope.{Scope}
use Rattle.root_commits.specs.part_set.declared.run.Run.{Run}
use Rattle.shared_store.specs.declared.work.Work.{Work}
use Rattle.shared_store.specs.Engines.{Opened, choice_by, choice_of}
use Rattle.shared_store.specs.Sharing.{AtOpening, IsShared, Shown}
use Rattle.shared_store.specs.Stood.{Premise}
use Rattle.shared_store.specs.Tallies.{Tally}
use Rattle.shared_store.specs.Turns.{AtTurn}
use Rattle.shared_store.specs.Works.{AnswersWhole, HasAll, HasPair, IsPicked, TakesWork}
use Rattle.shared_store.proofs.Keeping.{IsAudited, at_turn}

-- what is said in two ways of what was found
pub both_found : {X E : Type 0} (P Q R : X → Type 0) (r : Result (Option X) E) → ((x : X) → P x → Q x → R x) → IfOk r (λ (o : Option X). IfSome o P) → IfOk r (λ (o : Option X). IfSome o Q) → IfOk r (λ (o : Option X). IfSome o R)
both_found P Q R (Ok (Some x)) f first second = f x first second
both_found P Q R (Ok None) f first second = tt
both_found P Q R (Err e) f first second = tt

module _ {F : Type 0} (files_of : F → Option Files) (given : Premise → Type 0) (before : History) (o : AtOpening) (was : Shown F) (s : IsShared files_of given before o was) (whole : ℕ) (t : Tally) (least : IsAudited whole t was) where
  -- no pair may be taken
  pub none_found : (scope : Scope) → NoneIn (choice_of was.root) scope → AtTurn files_of given before o was.list whole t (λ store failed. NoneIn (choice_by o.policy store) scope)
  none_found scope none =
      at_turn files_of given before o was s whole t least (λ store failed. NoneIn (choice_by o.policy store) scope) (subst (λ (p : Policy). NoneIn (choice_by p was.root.store) scope) s.policy_is none)

  -- the pair that the policy takes
  pub pair_found : (now : Opened F) (scope : Scope) (work : Work F) (run : Run) → IsPicked (choice_of was.root) scope work run → TakesWork was.root now work run → AtTurn files_of given before o was.list whole t (λ store failed. HasPair o.policy scope store work)
  pair_found now scope work run picked takes =
      at_turn files_of given before o was s whole t least (λ store failed. HasPair o.policy scope store work)
      (run, subst (λ (p : Policy). IsPicked (choice_by p was.root.store) scope work run) s.policy_is picked, takes.takes.sources_are)

  -- all parts of a partition
  pub all_found : (now : Opened F) (table : List ℕ) (partition : Partition) (work : Work F) (run : Run) → AnswersWhole was.root.store table partition (Ok (Some run)) → work.table ≡ table → work.partition ≡ partition → TakesWork was.root now work run
      → AtTurn files_of given before o was.list whole t (λ store failed. HasAll store work)
  all_found now table partition work run answers table_is partition_is takes =
      at_turn files_of given before o was s whole t least (λ store failed. HasAll store work) (
        run,
        subst (λ (u : List ℕ). AnswersWhole was.root.store u work.partition (Ok (Some run))) (sym table_is) (subst (λ (p : Partition). AnswersWhole was.root.store table p (Ok (Some run))) (sym partition_is) answers),
        takes.takes.sources_are,
      )
