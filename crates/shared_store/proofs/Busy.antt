-- A part is being merged only where a work is out.
use Rattle.std.proofs.Common.{◌≡◌, ℕ, false, List, Result, Ok, Err, IfErr, refl, sym, ◌∙◌, subst}
use Rattle.std.proofs.lemmas.Bool.{false≢true}
use Rattle.std.proofs.lemmas.List.Elements.{All-contains}
use Rattle.std.proofs.lemmas.Option.{get_or_from_slice_get, slice_get_within}
use Rattle.std.specs.Result.{IsErrAnd}
use Rattle.mt_base.specs.declared.partition.Partition.{Partition}
use Rattle.merge_select.specs.Whole.{IsFirstBusy}
use Rattle.root_commits.specs.part_name.declared.part.PartName.{PartName}
use Rattle.root_commits.specs.part_reader.declared.reading.Part.{Part}
use Rattle.root_commits.specs.part_set.declared.kept.Kept.{Kept}
use Rattle.root_commits.specs.part_set.Parts.{kept_in}
use Rattle.root_commits.specs.part_set.Sets.{parts_of}
use Rattle.root_commits.specs.root_store.declared.store.CoreStore.{CoreStore}
use Rattle.root_commits.specs.root_store.Shown.{HasNoMark}
use Rattle.root_commits.proofs.PartSetShelving.{mine_within}
use Rattle.shared_store.specs.declared.work.TakeFault.{TakeFault}
use Rattle.shared_store.specs.declared.work.TakeFault.TheVariants as fault
use Rattle.shared_store.specs.Engines.{Opened}
use Rattle.shared_store.specs.Handed.{KeepsFrom}
use Rattle.shared_store.specs.Works.{TakesWhole}

-- a part that bears a mark is one of a store with marks
pub none_busy : {F : Type 0} (store : CoreStore F) (table : List ℕ) (p : Partition) (name : PartName) → HasNoMark store → IsFirstBusy (kept_in p (parts_of store.set table)) name → ⊥
none_busy {F} store table p name none is =
    let mine = kept_in p (parts_of store.set table) in
    let has = mine_within p (parts_of store.set table) is.kept (is.place, slice_get_within mine is.place is.kept is.here, get_or_from_slice_get mine is.place is.kept is.kept is.here) in
    false≢true (sym (All-contains (λ (k : Kept (Part F)). k.busy ≡ false) (parts_of store.set table) is.kept (none table) has) ∙ is.busy)

module _ {F : Type 0} (table : List ℕ) (p : Partition) (was now : Opened F) where
  pub busy_never : (name : PartName) → HasNoMark was.store → TakesWhole table p was now (Err (fault.Busy name)) → ⊥
  busy_never name none takes = none_busy was.store table p name none takes.0.1

  -- where no part bears a mark, only memory was wanting
  pub not_busy : (why : TakeFault) → HasNoMark was.store → TakesWhole table p was now (Err why) → why ≡ fault.NoMemory
  not_busy (fault.Busy name) none takes = absurd (busy_never name none takes)
  not_busy fault.NoMemory none takes = refl

  -- the root was left as it was
  pub whole_left : (why : TakeFault) → TakesWhole table p was now (Err why) → now ≡ was
  whole_left (fault.Busy name) takes = takes.1
  whole_left fault.NoMemory takes = takes

  -- which part kept it
  pub whole_keeps : (why : TakeFault) → TakesWhole table p was now (Err why) → KeepsFrom was.store table p why
  whole_keeps (fault.Busy name) takes = takes.0
  whole_keeps fault.NoMemory takes = tt

-- ---- an error that is handed on

module _ {T E : Type 0} where
  pub handed_on : (P : E → Type 0) (result : Result T E) (why : E) → IsErrAnd result (λ e. e ≡ why) → P why → IfErr result P
  handed_on P (Ok x) why made is = absurd made
  handed_on P (Err e) why made is = subst P (sym made) is
