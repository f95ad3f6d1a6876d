-- What a lock keeps through each turn.
use Rattle.std.proofs.Common.{◌≡◌, ℕ, ◌+◌, ◌<◌, ◌≤◌, ◌-◌, Bool, true, false, true≢false, List, [], ◌∷◌, ◌++◌, append_assoc, length, All, Option, Some, None, Result, Ok, Err, refl, sym, ap, ◌∙◌, subst, arith, ap₂}
use Rattle.mt_values.specs.declared.command.Command.TheVariants as command
use Rattle.mt_values.specs.declared.command.Create.{Create}
use Rattle.mt_values.specs.declared.command.Entry.{Entry}
use Rattle.mt_outside.specs.Files.{Files}
use Rattle.history_seat.specs.declared.view.View.{View}
use Rattle.history_seat.specs.Turns.{Added, AddsNone, Looked}
use Rattle.history_seat.specs.Views.{KnowsBegun, own}
use Rattle.root_commits.specs.durable_commit.declared.causes.Refused.{Refused}
use Rattle.root_commits.specs.durable_commit.Commits.{entry_of}
use Rattle.root_commits.specs.durable_commit.Publications.{Storage}
use Rattle.root_commits.specs.mt_model.History.{History}
use Rattle.root_commits.specs.part_set.declared.run.Run.{Run}
use Rattle.root_commits.specs.stage_dir.Stages.{Filled}
use Rattle.root_commits.specs.root_store.declared.store.CoreStore.{CoreStore}
use Rattle.root_commits.specs.root_store.declared.store.Table.{Table}
use Rattle.root_commits.specs.root_store.Stores.{table_at}
use Rattle.root_commits.specs.declared.commits.Returned.{Returned}
use Rattle.root_commits.specs.Commits.{IsCause, IsSealedEntry, IsSealedOf, cause_of, insert_into, partition_of_block, refuses_part}
use Rattle.root_commits.specs.Publications.{Adding, entry_of_adding, partition_of_adding, publication_of_create, publication_of_part}
use Rattle.root_commits.specs.Turns.{CommitsCreate, CommitsPart}
use Rattle.root_commits.proofs.Turning.{after_refusal}
use Rattle.root_commits.proofs.Updated.{one_some}
use Rattle.shared_store.specs.declared.work.Work.{Work}
use Rattle.shared_store.specs.Engines.{GoesOn, Opened, root_in}
use Rattle.shared_store.specs.Levels.{has_greatest}
use Rattle.shared_store.specs.Sharing.{AtOpening, Fits, IsShared, KnowsAll, Shown, begun_now}
use Rattle.shared_store.specs.Stood.{Premise, Stood, is_told}
use Rattle.shared_store.specs.Tallies.{Tally, levels_in, stops_in, tally}
use Rattle.shared_store.specs.Turns.{AtTurn, CountsTurn, GivesBack, HasTurn, ShowsCreate, ShowsPart, left_of}
use Rattle.shared_store.specs.Works.{DropsWork, Frees, TakesWork}
use Rattle.shared_store.proofs.AllFreed.{freed_alike, freed_idle}
use Rattle.shared_store.proofs.Levels.{create_levels, levels_alike, levels_taken, part_levels, parts_added, parts_created, parts_dropped}
use Rattle.shared_store.proofs.Marking.{cleared_alike, marked_alike}
use Rattle.shared_store.proofs.Risen.{above, calm_stops, counts_risen, create_calm, create_risen, part_calm, part_risen, publishes_risen, tally_as}
use Rattle.shared_store.proofs.Schemas.{fits_added, fits_created, fits_kept}
use Rattle.shared_store.proofs.Stands.{stood_added, stood_alike, stood_created, stood_not_added, stood_not_created}

pub not_true : (b c : Bool) → (b ≡ true → c ≡ true) → c ≡ false → b ≡ false
not_true true c then is = absurd (true≢false (sym (then refl) ∙ is))
not_true false c then is = refl

-- what is begun after a commit that was accepted, and after one that was refused
begun_added : (first : Option Entry) (list : History) (e : Entry) → begun_now first (list ++ e ∷ []) None ≡ None
begun_added first [] e = refl
begun_added first (x ∷ list) e = refl

begun_left : {S : Type 0} (back : Option S) (e : Entry) (first : Option Entry) (list : History) (last : Option Entry) → left_of back e (begun_now first list last) ≡ begun_now first list (left_of back e last)
begun_left None e first list last = refl
begun_left (Some back) e first list last = refl

-- what an audit of a share tells: it has counted no more stops and faults than all have, and all faults where it has every part
pub record IsAudited {F : Type 0} (whole : ℕ) (t : Tally) (s : Shown F) : Type 0 where
  pub stops : t.stops ≤ s.stops
  pub faults : t.faults ≤ s.faults
  pub all : t.parts ≡ whole → t.faults ≡ s.faults

module _ {F : Type 0} where
  -- what a share has counted in a session's turn
  abbrev pub Counted : Tally → Tally → Option Refused → Shown F → Shown F → Type 0
  Counted t u cause was now = u ≡ tally t.parts t.out (t.stops + stops_in cause) t.levels (t.faults + (now.root.storage.failed - was.root.storage.failed))

  -- and no limit of levels
  with_levels : (t u : Tally) (cause : Option Refused) (was now : Shown F) → Counted t u cause was now → levels_in cause ≡ 0
      → u ≡ tally t.parts t.out (t.stops + stops_in cause) (t.levels + levels_in cause) (t.faults + (now.root.storage.failed - was.root.storage.failed))
  with_levels t u cause was now counted none =
      let same : t.levels ≡ t.levels + levels_in cause = omega (arith, none) in
      counted ∙ ap (λ (n : ℕ). tally t.parts t.out (t.stops + stops_in cause) n (t.faults + (now.root.storage.failed - was.root.storage.failed))) same

  -- by what the share has of each ledger, before and after
  pub share_counted : (t : Tally) (cause : Option Refused) (was now : Shown F) (parts out s l f stops faults : ℕ) → tally parts out s l f ≡ t → stops ≡ s + stops_in cause → faults ≡ f + (now.root.storage.failed - was.root.storage.failed) → Counted t (tally parts out stops l faults) cause was now
  share_counted t cause was now parts out s l f stops faults same counted met = tally_as parts t.parts out t.out stops (t.stops + stops_in cause) l t.levels faults (t.faults + (now.root.storage.failed - was.root.storage.failed)) (ap (λ (x : Tally). x.parts) same) (ap (λ (x : Tally). x.out) same)
      (counted ∙ ap (λ (x : Tally). x.stops + stops_in cause) same) (ap (λ (x : Tally). x.levels) same) (met ∙ ap (λ (x : Tally). x.faults + (now.root.storage.failed - was.root.storage.failed)) same)

module _ {F : Type 0} (files_of : F → Option Files) (given : Premise → Type 0) (before : History) (o : AtOpening) where
  abbrev Shares : Shown F → Type 0
  Shares s = IsShared files_of given before o s

  -- the same, said by equal members
  pub stood_as : (root : Opened F) (n m : ℕ) (t u b c : Option Entry) (h k : History) → n ≡ m → t ≡ u → b ≡ c → h ≡ k → Stood files_of given n t b h root → Stood files_of given m u c k root
  stood_as root n m t u b c h k stops tried begun list s =
      subst (λ (x : ℕ). Stood files_of given x u c k root) stops
      (subst (λ (x : Option Entry). Stood files_of given n x c k root) tried (subst (λ (x : Option Entry). Stood files_of given n t x k root) begun (subst (λ (x : History). Stood files_of given n t b x root) list s)))

  -- what is begun by what a lock's value shows
  abbrev begun_in : Shown F → Option Entry
  begun_in x = begun_now o.begun x.list x.tried

  -- turns that try nothing and add nothing
  pub stood_on : (was now : Shown F) (root : Opened F) (n : ℕ) → n ≡ now.stops → now.list ≡ was.list → now.tried ≡ was.tried → Stood files_of given n was.tried (begun_in was) (before ++ was.list) root → Stood files_of given now.stops now.tried (begun_in now) (before ++ now.list) root
  stood_on was now root n stops list tried s =
      stood_as root n now.stops was.tried now.tried (begun_in was) (begun_in now) (before ++ was.list) (before ++ now.list) stops (sym tried) (ap₂ (λ (l : History) (t : Option Entry). begun_now o.begun l t) (sym list) (sym tried))
      (ap (λ (l : History). before ++ l) (sym list)) s

  -- the count was the one at opening where it is so still
  pub calm_before : (was now : Shown F) → Shares was → GoesOn was.root now.root → now.root.storage.failed ≡ o.failed → was.root.storage.failed ≡ o.failed
  calm_before was now s goes calm = let low = goes.found.opened in let later = goes.later in let same = s.opened_is in omega (arith, calm, low, later, same)

  -- the faults of a turn are counted
  counted_faults : (was now : Shown F) → Shares was → GoesOn was.root now.root → now.faults ≡ was.faults + (now.root.storage.failed - was.root.storage.failed) → now.root.storage.failed ≡ o.shared + now.faults
  counted_faults was now s goes faults = let later = goes.later in let met = s.met in omega (arith, faults, later, met)

  -- there are none where the outside is as it was
  same_faults : (was now : Shown F) → Shares was → now.root.storage ≡ was.root.storage → now.faults ≡ was.faults → now.root.storage.failed ≡ o.shared + now.faults
  same_faults was now s storage faults = ap (λ (x : Storage). x.failed) storage ∙ (s.met ∙ ap (λ (n : ℕ). o.shared + n) (sym faults))

  -- what a turn found
  unfoldable pub at_turn : (was : Shown F) → Shares was → (whole : ℕ) (t : Tally) → IsAudited whole t was → (Shows : CoreStore F → ℕ → Type 0) → Shows was.root.store was.root.storage.failed → AtTurn files_of given before o was.list whole t Shows
  at_turn was s whole t least Shows shows = record {
    store = was.root.store;
    failed = was.root.storage.failed;
    opened_is = s.opened_is;
    fits = s.fits;
    stands = λ told known. (s.stood.listed told known).stands;
    since = s.since;
    below = s.below;
    risen = λ some. above o.failed was.root.storage.failed low (λ calm. let none = s.no_stop calm in let bound = least.stops in omega (arith, none, bound, some));
    met = (let met = s.met in let bound = least.faults in omega (arith, met, bound));
    all = λ all. s.met ∙ ap (λ (n : ℕ). o.shared + n) (sym (least.all all));
    shows = shows;
  }
    where
      low : o.failed ≤ was.root.storage.failed
      low = let since = s.since in let met = s.met in omega (arith, since, met)

  -- ---- a CREATE

  module _ {T S : Type 0} (number : ℕ) (create : Create) (entry : Filled) (was now : Shown F) (sealed : S) (s : Shares was) (goes : GoesOn was.root now.root) (is : given is_told → IsSealedEntry create entry.files) where
    abbrev Creates : Result T (Returned S) → Type 0
    Creates result = CommitsCreate number create entry (root_in was.root) (root_in now.root) sealed result

    pub shared_created : (x : T) → Creates (Ok x) → now.list ≡ was.list ++ entry_of number (command.Create create) ∷ [] → now.tried ≡ None → now.out ≡ was.out → now.stops ≡ was.stops → now.levels ≡ was.levels → now.faults ≡ was.faults + (now.root.storage.failed - was.root.storage.failed) → Shares now
    shared_created x d list tried out stops levels faults =
        let parts = parts_created number create entry (root_in was.root) (root_in now.root) sealed (Ok x) d in
        record {
          opened_is = goes.opened ∙ s.opened_is;
          policy_is = goes.policy ∙ s.policy_is;
          started_is = goes.started ∙ s.started_is;
          fits = subst (λ (l : History). Fits before o.tables l now.root.store) (sym list) (fits_created before o.tables was.list was.root.store now.root.store s.fits number create d.enters);
          stood =
              let e = entry_of number (command.Create create) in
              let low = goes.found.opened in
              let calm = s.no_stop (create_calm was.root.store create.table was.root.storage.failed low d.cause ∙ s.opened_is) in
              stood_as now.root was.stops now.stops None now.tried None (begun_in now) ((before ++ was.list) ++ e ∷ []) (before ++ now.list) (sym stops) (sym tried)
              (sym (ap₂ (λ (l : History) (t : Option Entry). begun_now o.begun l t) list tried ∙ begun_added o.begun was.list e)) (append_assoc before was.list (e ∷ []) ∙ ap (λ (l : History). before ++ l) (sym list))
              (stood_created files_of given number create entry was.root now.root sealed is was.stops was.tried (begun_in was) (before ++ was.list) s.stood x calm d);
          idle = λ none. parts.free (s.idle (sym out ∙ none));
          no_stop = λ calm. stops ∙ s.no_stop (calm_before was now s goes calm);
          no_level = λ none. levels ∙ s.no_level (not_true (has_greatest was.root.store) (has_greatest now.root.store) parts.levels none);
          since = s.since;
          below = s.below;
          met = counted_faults was now s goes faults;
        }

    module _ (r : Returned S) (d : Creates (Err r)) where
      pub shared_not_created : now.list ≡ was.list → now.tried ≡ left_of r.back (entry_of number (command.Create create)) was.tried → now.out ≡ was.out → now.stops ≡ was.stops + stops_in (Some r.cause) → now.levels ≡ was.levels → now.faults ≡ was.faults + (now.root.storage.failed - was.root.storage.failed) → Shares now
      shared_not_created list tried out stops levels faults =
          let parts = parts_created {T = T} number create entry (root_in was.root) (root_in now.root) sealed (Err r) d in
          record {
            opened_is = goes.opened ∙ s.opened_is;
            policy_is = goes.policy ∙ s.policy_is;
            started_is = goes.started ∙ s.started_is;
            fits = subst (λ (l : History). Fits before o.tables l now.root.store) (sym list) (fits_kept before o.tables was.list was.root.store now.root.store s.fits d.enters.tables d.enters.length_is);
            stood =
                let e = entry_of number (command.Create create) in
                stood_as now.root (was.stops + stops_in (Some r.cause)) now.stops (left_of r.back e was.tried) now.tried (left_of r.back e (begun_in was)) (begun_in now) (before ++ was.list) (before ++ now.list) (sym stops) (sym tried)
                (begun_left r.back e o.begun was.list was.tried ∙ sym (ap₂ (λ (l : History) (t : Option Entry). begun_now o.begun l t) list tried)) (ap (λ (l : History). before ++ l) (sym list))
                (stood_not_created files_of given number create entry was.root now.root sealed is was.stops was.tried (begun_in was) (before ++ was.list) s.stood T r d);
            idle = λ none. parts.free (s.idle (sym out ∙ none));
            no_stop = λ calm.
                let still = s.no_stop (calm_before was now s goes calm) in
                let none = calm_stops {T = T} was.root.store.opened _ (publication_of_create number create entry) was.root.storage now.root.storage sealed goes.found.opened goes.found.below (create_risen was.root.store create.table was.root.storage.failed) (Err r)
                (d.cause, d.turn) goes.later (calm ∙ sym s.opened_is) in
                omega (arith, stops, still, none);
            no_level = λ none. levels ∙ s.no_level (not_true (has_greatest was.root.store) (has_greatest now.root.store) parts.levels none);
            since = s.since;
            below = s.below;
            met = counted_faults was now s goes faults;
          }

    -- what was sealed comes back
    pub create_back : (result : Result T (Returned S)) → Creates result → GivesBack sealed result
    create_back (Ok x) d = tt
    create_back (Err r) d =
        let a = after_refusal (publication_of_create number create entry) was.root.storage now.root.storage sealed r.cause r.back d.turn in
        record { same = a.returned; given = a.given; failed = a.faulted }

    -- what it found, and what the share has counted then
    pub create_turn : (whole : ℕ) (t u : Tally) → IsAudited whole t was → (result : Result T (Returned S)) → Creates result → Counted t u (cause_of result) was now → CountsTurn files_of given before o was.list whole entry.failed t.out (cause_of result) (ShowsCreate create.table (cause_of result)) t u
    unfolding at_turn
    create_turn whole t u least result d counted = record {
      turn = at_turn was s whole t least (ShowsCreate create.table (cause_of result)) d.cause;
      counted =
          counts_risen entry.failed t.out (cause_of result) was.root.storage.failed now.root.storage.failed t u
          (publishes_risen (publication_of_create number create entry) was.root.storage now.root.storage sealed result d.turn)
          (with_levels t u (cause_of result) was now counted (create_levels was.root.store create.table was.root.storage.failed (cause_of result) d.cause));
    }

  -- ---- a block

  module _ {T S : Type 0} (a : Adding) (was now : Shown F) (sealed : S) (s : Shares was) (goes : GoesOn was.root now.root) (is : given is_told → IsSealedOf a.kept.schema a.block a.sealed.files a.loaded) where
    abbrev Adds : Result T (Returned S) → Type 0
    Adds result = CommitsPart files_of a (root_in was.root) (root_in now.root) sealed result

    pub shared_added : (x : T) → Adds (Ok x) → now.list ≡ was.list ++ entry_of_adding a ∷ [] → now.tried ≡ None → now.out ≡ was.out → now.stops ≡ was.stops → now.levels ≡ was.levels → now.faults ≡ was.faults + (now.root.storage.failed - was.root.storage.failed) → Shares now
    shared_added x d list tried out stops levels faults =
        let parts = parts_added files_of a (root_in was.root) (root_in now.root) sealed (Ok x) d in
        record {
          opened_is = goes.opened ∙ s.opened_is;
          policy_is = goes.policy ∙ s.policy_is;
          started_is = goes.started ∙ s.started_is;
          fits =
              subst (λ (l : History). Fits before o.tables l now.root.store) (sym list)
              (fits_added before o.tables was.list was.root.store now.root.store s.fits a.session (insert_into a.table (partition_of_adding a) a.block) (partition_of_adding a) d.enters.part a.kept a.table d.enters.enters);
          stood =
              let e = entry_of_adding a in
              let low = goes.found.opened in
              let calm = s.no_stop (part_calm was.root.store a.table was.root.storage.failed low (partition_of_adding a) a.kept.drawn d.cause ∙ s.opened_is) in
              stood_as now.root was.stops now.stops None now.tried None (begun_in now) ((before ++ was.list) ++ e ∷ []) (before ++ now.list) (sym stops) (sym tried)
              (sym (ap₂ (λ (l : History) (t : Option Entry). begun_now o.begun l t) list tried ∙ begun_added o.begun was.list e)) (append_assoc before was.list (e ∷ []) ∙ ap (λ (l : History). before ++ l) (sym list))
              (stood_added files_of given a was.root now.root sealed is was.stops was.tried (begun_in was) (before ++ was.list) s.stood x calm d);
          idle = λ none. parts.free (s.idle (sym out ∙ none));
          no_stop = λ calm. stops ∙ s.no_stop (calm_before was now s goes calm);
          no_level = λ none. levels ∙ s.no_level (not_true (has_greatest was.root.store) (has_greatest now.root.store) parts.levels none);
          since = s.since;
          below = s.below;
          met = counted_faults was now s goes faults;
        }

    module _ (r : Returned S) (d : Adds (Err r)) where
      pub shared_not_added : now.list ≡ was.list → now.tried ≡ left_of r.back (entry_of_adding a) was.tried → now.out ≡ was.out → now.stops ≡ was.stops + stops_in (Some r.cause) → now.levels ≡ was.levels → now.faults ≡ was.faults + (now.root.storage.failed - was.root.storage.failed) → Shares now
      shared_not_added list tried out stops levels faults =
          let parts = parts_added {T = T} files_of a (root_in was.root) (root_in now.root) sealed (Err r) d in
          record {
            opened_is = goes.opened ∙ s.opened_is;
            policy_is = goes.policy ∙ s.policy_is;
            started_is = goes.started ∙ s.started_is;
            fits = subst (λ (l : History). Fits before o.tables l now.root.store) (sym list) (fits_kept before o.tables was.list was.root.store now.root.store s.fits d.enters.tables d.enters.length_is);
            stood =
                let e = entry_of_adding a in
                stood_as now.root (was.stops + stops_in (Some r.cause)) now.stops (left_of r.back e was.tried) now.tried (left_of r.back e (begun_in was)) (begun_in now) (before ++ was.list) (before ++ now.list) (sym stops) (sym tried)
                (begun_left r.back e o.begun was.list was.tried ∙ sym (ap₂ (λ (l : History) (t : Option Entry). begun_now o.begun l t) list tried)) (ap (λ (l : History). before ++ l) (sym list))
                (stood_not_added files_of given a was.root now.root sealed is was.stops was.tried (begun_in was) (before ++ was.list) s.stood T r d);
            idle = λ none. parts.free (s.idle (sym out ∙ none));
            no_stop = λ calm.
                let still = s.no_stop (calm_before was now s goes calm) in
                let none = calm_stops {T = T} was.root.store.opened _ (publication_of_part a) was.root.storage now.root.storage sealed goes.found.opened goes.found.below (part_risen was.root.store a.table was.root.storage.failed (partition_of_adding a) a.kept.drawn) (Err r)
                (d.cause, d.turn) goes.later (calm ∙ sym s.opened_is) in
                omega (arith, stops, still, none);
            no_level = λ none. levels ∙ s.no_level (not_true (has_greatest was.root.store) (has_greatest now.root.store) parts.levels none);
            since = s.since;
            below = s.below;
            met = counted_faults was now s goes faults;
          }

    -- what was sealed comes back
    pub part_back : (result : Result T (Returned S)) → Adds result → GivesBack sealed result
    part_back (Ok x) d = tt
    part_back (Err r) d =
        let left = after_refusal (publication_of_part a) was.root.storage now.root.storage sealed r.cause r.back d.turn in
        record { same = left.returned; given = left.given; failed = left.faulted }

    -- what it found, and what the share has counted then
    pub part_turn : (whole : ℕ) (t u : Tally) → IsAudited whole t was → (result : Result T (Returned S)) → Adds result → Counted t u (cause_of result) was now → CountsTurn files_of given before o was.list whole a.sealed.failed t.out (cause_of result) (ShowsPart a.table a.block (cause_of result)) t u
    unfolding at_turn
    part_turn whole t u least result d counted = record {
      turn =
          at_turn was s whole t least (ShowsPart a.table a.block (cause_of result))
          (λ t at. subst (λ (x : Table). IsCause (refuses_part was.root.store a.table (partition_of_block x.schema a.block) x.drawn was.root.storage.failed) (cause_of result)) (one_some (table_at was.root.store a.table) a.kept t d.from.there at) d.cause);
      counted =
          counts_risen a.sealed.failed t.out (cause_of result) was.root.storage.failed now.root.storage.failed t u
          (publishes_risen (publication_of_part a) was.root.storage now.root.storage sealed result d.turn)
          (with_levels t u (cause_of result) was now counted (part_levels was.root.store a.table was.root.storage.failed (cause_of result) (partition_of_adding a) a.kept.drawn d.cause));
    }

  -- ---- turns of a work, of which one is out at least

  module _ (was now : Shown F) (s : Shares was) (goes : GoesOn was.root now.root) (list : now.list ≡ was.list) (tried : now.tried ≡ was.tried) where
    pub shared_taken : (work : Work F) (run : Run) → TakesWork was.root now.root work run → 0 < now.out → now.stops ≡ was.stops → now.levels ≡ was.levels → now.faults ≡ was.faults → Shares now
    shared_taken work run t some stops levels faults =
        let alike = marked_alike work run was.root.store now.root.store t.takes.marks in
        record {
          opened_is = goes.opened ∙ s.opened_is;
          policy_is = goes.policy ∙ s.policy_is;
          started_is = goes.started ∙ s.started_is;
          fits = subst (λ (l : History). Fits before o.tables l now.root.store) (sym list) (fits_kept before o.tables was.list was.root.store now.root.store s.fits t.takes.marks.tables t.takes.marks.length_is);
          stood = stood_on was now now.root was.stops (sym stops) list tried (stood_alike files_of given was.root now.root was.stops was.tried (begun_in was) (before ++ was.list) s.stood alike t.storage_is);
          idle = λ none. absurd (omega (arith, none, some));
          no_stop = λ calm. stops ∙ s.no_stop (calm_before was now s goes calm);
          no_level = λ none. levels ∙ s.no_level (not_true (has_greatest was.root.store) (has_greatest now.root.store) (levels_taken was.root now.root work run goes.left t) none);
          since = s.since;
          below = s.below;
          met = same_faults was now s t.storage_is faults;
        }

    pub shared_dropped : (work : Work F) → DropsWork work was.root now.root → 0 < now.out → now.stops ≡ was.stops → now.levels ≡ was.levels → now.faults ≡ was.faults → Shares now
    shared_dropped work d some stops levels faults =
        let alike = cleared_alike work (root_in was.root) (root_in now.root) d in
        record {
          opened_is = goes.opened ∙ s.opened_is;
          policy_is = goes.policy ∙ s.policy_is;
          started_is = goes.started ∙ s.started_is;
          fits = subst (λ (l : History). Fits before o.tables l now.root.store) (sym list) (fits_kept before o.tables was.list was.root.store now.root.store s.fits d.tables d.length_is);
          stood = stood_on was now now.root was.stops (sym stops) list tried (stood_alike files_of given was.root now.root was.stops was.tried (begun_in was) (before ++ was.list) s.stood alike d.storage_is);
          idle = λ none. absurd (omega (arith, none, some));
          no_stop = λ calm. stops ∙ s.no_stop (calm_before was now s goes calm);
          no_level = λ none. levels ∙ s.no_level (not_true (has_greatest was.root.store) (has_greatest now.root.store) (parts_dropped was.root now.root work goes.left d).levels none);
          since = s.since;
          below = s.below;
          met = same_faults was now s d.storage_is faults;
        }

    -- marks were taken away, where no work is out any more
    pub shared_freed : Frees now.out was.root now.root → now.stops ≡ was.stops → now.levels ≡ was.levels → now.faults ≡ was.faults → (was.out ≡ 0 → now.out ≡ 0) → Shares now
    shared_freed f stops levels faults fewer =
        let alike = freed_alike now.out was.root now.root f in
        record {
          opened_is = goes.opened ∙ s.opened_is;
          policy_is = goes.policy ∙ s.policy_is;
          started_is = goes.started ∙ s.started_is;
          fits = subst (λ (l : History). Fits before o.tables l now.root.store) (sym list) (fits_kept before o.tables was.list was.root.store now.root.store s.fits f.tables f.length_is);
          stood = stood_on was now now.root was.stops (sym stops) list tried (stood_alike files_of given was.root now.root was.stops was.tried (begun_in was) (before ++ was.list) s.stood alike f.storage_is);
          idle = λ none. freed_idle now.out was.root now.root f none;
          no_stop = λ calm. stops ∙ s.no_stop (calm_before was now s goes calm);
          no_level = λ none. levels ∙ s.no_level (not_true (has_greatest was.root.store) (has_greatest now.root.store) (levels_alike was.root.store now.root.store goes.left.sound alike) none);
          since = s.since;
          below = s.below;
          met = same_faults was now s f.storage_is faults;
        }

-- ---- what a session's turn shows

module _ {F S : Type 0} (files_of : F → Option Files) (given : Premise → Type 0) (before : History) (o : AtOpening) (was now : Shown F) (whole calls : ℕ) (t u : Tally) (e : Entry) (Shows : Option Refused → CoreStore F → ℕ → Type 0) (v w : View) where
  -- it was done
  pub turn_done : (n : ℕ) → IsShared files_of given before o now → n ≡ now.root.store.length → now.list ≡ was.list ++ e ∷ [] → Added v was.list e w → CountsTurn files_of given before o was.list whole calls t.out None (Shows None) t u
      → HasTurn {S = S} files_of given before o was.list whole calls e Shows v w t u (Ok n)
  turn_done n s long list added turn = record {
    seat = (added, long ∙ (s.fits.length_is ∙ ap (λ (l : History). length before + length l) (list ∙ sym added.list)));
    turn = turn;
  }

  -- it was refused
  pub turn_refused : (r : Returned S) → AddsNone v was.list (left_of r.back e v.tried) w → CountsTurn files_of given before o was.list whole calls t.out (Some r.cause) (Shows (Some r.cause)) t u → HasTurn files_of given before o was.list whole calls e Shows v w t u (Err r)
  turn_refused r none turn = record { seat = none; turn = turn }

-- ---- seats

-- what a seat learns of what is begun holds of the seat as it was before it looked
look_knows : (v w : View) (list : List Entry) → Looked v list w → KnowsBegun v w.begun
look_knows v w list l = by w.begun l.knows
  where
    by : (b : Option Entry) → KnowsBegun w b → KnowsBegun v b
    by None k = tt
    by (Some e) k = (
      λ same. sym l.tried ∙ k.0 (same ∙ sym l.number),
      λ zeroth. let low = k.1 (l.number ∙ zeroth) in let made = l.made in omega (arith, low, made),
    )

-- what a last look tells of a seat, as it was before it
pub knows : (v w : View) (log : History) (tried : Option Entry) → Looked v log w → w.begun ≡ tried → KnowsAll log tried v
knows v w log tried looked found = record {
  begins = looked.begins;
  own_is = sym looked.kept ∙ (looked.mine ∙ ap (λ (n : ℕ). own n log) looked.number);
  named = λ zeroth. subst (λ (n : ℕ). All (λ (e : Entry). e.session ≤ n) log) looked.made (looked.named (looked.number ∙ zeroth));
  knows = subst (λ (b : Option Entry). KnowsBegun v b) found (look_knows v w log looked);
}

-- a seat that looked and then added an entry, in one turn
pub looked_added : (v w x : View) (log : History) (e : Entry) → Looked v log w → Added w log e x → Added v log e x
looked_added v w x log e l a = record {
  session = a.session;
  number = a.number ∙ l.number;
  made = a.made ∙ l.made;
  list = a.list;
  begins = l.begins;
  olds = l.olds;
  kept = a.kept ∙ ap (λ (m : History). m ++ e ∷ []) l.kept;
  mine = a.mine;
  named = a.named;
  tried = a.tried;
  begun = a.begun;
}

-- a seat that looked and then had a turn that added nothing
pub looked_none : (v w x : View) (log : History) (last : Option Entry) → Looked v log w → AddsNone w log last x → AddsNone v log last x
looked_none v w x log last l a = record {
  session = a.session;
  number = a.number ∙ l.number;
  made = a.made ∙ l.made;
  list = a.list;
  begins = l.begins;
  olds = l.olds;
  kept = a.kept ∙ l.kept;
  mine = a.mine;
  named = a.named;
  tried = a.tried;
  knows = a.knows;
}
