-- What is known of a root stands through each turn.
use Rattle.std.proofs.Common.{◌≡◌, ◌≢◌, ℕ, ◌+◌, [], ◌∷◌, ◌++◌, Option, Some, None, Result, Ok, Err, inl, inr, refl, sym, ap, ◌∙◌, subst, arith, List, append_assoc, ◌⊎◌}
use Rattle.std.proofs.lemmas.List.{map-append}
use Rattle.std.specs.Option.{MatchOption, option_map}
use Rattle.mt_values.specs.Annals as keeper
use Rattle.mt_values.specs.Annals.{began, noted}
use Rattle.mt_values.specs.declared.annals.Noted.{Noted}
use Rattle.mt_values.specs.declared.command.Command.TheVariants as command
use Rattle.mt_values.specs.declared.command.Create.{Create}
use Rattle.mt_values.specs.declared.command.Entry.{Entry}
use Rattle.mt_outside.specs.Disk as root
use Rattle.mt_outside.specs.Files.{Files}
use Rattle.root_commits.specs.durable_commit.declared.causes.Refused.{Refused}
use Rattle.root_commits.specs.durable_commit.declared.causes.Refused.TheVariants as refused
use Rattle.root_commits.specs.durable_commit.Commits.{SameList, entry_of}
use Rattle.root_commits.specs.durable_commit.Publications.{Begins, IsUnsettled, Publication, Storage}
use Rattle.root_commits.specs.mt_model.History.{History, entries_of}
use Rattle.root_commits.specs.part_name.declared.part.PartName.{PartName}
use Rattle.root_commits.specs.part_writer.declared.loaded.Loaded.{Loaded}
use Rattle.root_commits.specs.stage_dir.Stages.{Filled}
use Rattle.root_commits.specs.root_store.declared.store.Table.{Table}
use Rattle.root_commits.specs.root_store.Crashes.{KeepsThroughCrashes}
use Rattle.root_commits.specs.root_store.Soundness.{RootStands}
use Rattle.root_commits.specs.root_store.Stores.{CoreStands, table_at}
use Rattle.root_commits.specs.declared.commits.Returned.{Returned}
use Rattle.root_commits.specs.Commits.{IsSealedEntry, IsSealedOf}
use Rattle.root_commits.specs.Merges.{Merging, SealsForKept, SealsMerge, SealsRows, source_names}
use Rattle.root_commits.specs.Publications.{Adding, IsKeptBack, entry_of_adding, publication_of_create, publication_of_merge, publication_of_part}
use Rattle.root_commits.specs.Turns.{CommitsCreate, CommitsMerge, CommitsPart, Root}
use Rattle.root_commits.proofs.CreateCommits.{create_crashes, create_held, create_stands}
use Rattle.root_commits.proofs.MergeCommits.{merge_crashes, merge_held, merge_stands}
use Rattle.root_commits.proofs.PartCommits.{part_crashes, part_held, part_stands}
use Rattle.root_commits.proofs.SameStores.{stands_same}
use Rattle.root_commits.proofs.Turning.{AfterRefusal, after_refusal}
use Rattle.root_commits.proofs.Updated.{one_some}
use Rattle.shared_store.specs.declared.work.Put.{Put}
use Rattle.shared_store.specs.declared.work.Put.TheVariants as put
use Rattle.shared_store.specs.declared.work.Work.{Work}
use Rattle.shared_store.specs.Engines.{Opened, root_in}
use Rattle.shared_store.specs.Handed.{sealing}
use Rattle.shared_store.specs.Stood.{ListsMore, Premise, Stood, is_listed, is_told}
use Rattle.shared_store.specs.Tallies.{stops_by, stops_in}
use Rattle.shared_store.specs.Turns.{left_of}
use Rattle.shared_store.specs.Works.{PutsRun, PutsWork, merging_of, names_of_work}
use Rattle.shared_store.proofs.Marking.{StoresAlike, cleared_alike, held_alike, keeps_alike, stands_alike}
use Rattle.shared_store.proofs.Merging.{merges_cases}
use Rattle.shared_store.proofs.Puts.{left_alike, named_sources, put_crashes, put_held, put_stands}

-- ---- what annals list

-- the list with an entry more, and nothing begun
listed_more : (mark : ℕ) (e : Entry) (was now : Option keeper.Told) (kept : keeper.Told) (h : History) → was ≡ Some kept → entries_of kept.list ≡ h → now ≡ option_map (λ (t : keeper.Told). noted mark (began e t)) was
    → (next : keeper.Told) × (now ≡ Some next) × (entries_of next.list ≡ h ++ e ∷ []) × (next.begun ≡ None)
listed_more mark e was now kept h there list is = (
  noted mark (began e kept),
  is ∙ ap (option_map (λ (t : keeper.Told). noted mark (began e t))) there,
  map-append (λ (n : Noted). n.entry) kept.list (record { entry = e; mark = mark } ∷ []) ∙ ap (λ (l : History). l ++ e ∷ []) list,
  refl,
)

-- the same list, with this begun
abbrev ListsSame : Option keeper.Told → History → Option Entry → Type 0
ListsSame now h begun = (next : keeper.Told) × (now ≡ Some next) × (entries_of next.list ≡ h) × (next.begun ≡ begun)

-- a commit that was refused leaves the list as it was; the entry is begun where what was sealed does not come back
listed_same : {S : Type 0} (p : Publication) (was now : Storage) (sealed : S) (cause : Refused) (back : Option S) (a : AfterRefusal p was now sealed cause back) (e : Entry) → p.entry ≡ Some e
    → (kept : keeper.Told) (h : History) (begun : Option Entry) → was.annals ≡ Some kept → entries_of kept.list ≡ h → kept.begun ≡ begun → ListsSame now.annals h (left_of back e begun)
listed_same p was now sealed cause None a e entry kept h begun there list is =
    let begins : now.annals ≡ option_map (began e) was.annals = subst (λ (o : Option Entry). Begins o was.annals now.annals) entry (a.begun refl) in
    (began e kept, begins ∙ ap (option_map (began e)) there, list, refl)
listed_same p was now sealed cause (Some back) a e entry kept h begun there list is = (kept, a.list_back ∙ there, list, is)

-- what they listed first, with an entry more
noted_more : (mark : ℕ) (e : Entry) (first : keeper.Told) (was now : Option keeper.Told) → ListsMore first was → now ≡ option_map (λ (t : keeper.Told). noted mark (began e t)) was → ListsMore first now
noted_more mark e first was now l is =
    let last : List Noted = record { entry = e; mark = mark } ∷ [] in (
      noted mark (began e l.0),
      is ∙ ap (option_map (λ (t : keeper.Told). noted mark (began e t))) l.1,
      l.2 ++ last,
      ap (λ (ns : List Noted). ns ++ last) l.3 ∙ append_assoc first.list l.2 last,
    )

noted_same : (first : keeper.Told) (was now : Option keeper.Told) → ListsMore first was → SameList was now → ListsMore first now
noted_same first was now l same = by now (subst (λ (o : Option keeper.Told). SameList o now) l.1 same)
  where
    by : (o : Option keeper.Told) → SameList (Some l.0) o → ListsMore first o
    by (Some u) is = (u, refl, l.2, is ∙ l.3)
    by None bad = absurd bad

-- where no more stops were counted or nothing was tried, it was so with fewer
fewer : (stops more : ℕ) (tried : Option Entry) → (stops + more ≡ 0) ⊎ (tried ≡ None) → (stops ≡ 0) ⊎ (tried ≡ None)
fewer stops more tried (inl none) = inl (omega (arith, none))
fewer stops more tried (inr none) = inr none

-- no stop is counted of a cause that is not the disk
no_disk : (c : Refused) → stops_in (Some c) ≡ 0 → c ≢ refused.Disk
no_disk c none is = let one : stops_in (Some c) ≡ 1 = ap (λ (d : Refused). stops_in (Some d)) is in omega (arith, none, one)

some_none : (e : Entry) → Some e ≡ None → ⊥
some_none e is = cc

-- the names as they read stand still, where no stop was counted of a commit that was refused, or what was sealed came back
module _ {S : Type 0} (p : Publication) (was now : Storage) (sealed : S) (cause : Refused) (e : Entry) (stops : ℕ) (tried : Option Entry) (h : History) (stood : (stops ≡ 0) ⊎ (tried ≡ None) → RootStands was.disk h) where
  calm_still : (back : Option S) → AfterRefusal p was now sealed cause back → stops + stops_in (Some cause) ≡ 0 → RootStands now.disk h
  calm_still back a none =
      let few : stops ≡ 0 = omega (arith, none) in
      let no_more : stops_in (Some cause) ≡ 0 = omega (arith, none) in
      subst (λ (o : Option root.Told). RootStands o h) (sym (a.unchanged (no_disk cause no_more))) (stood (inl few))

  back_still : (back : Option S) → AfterRefusal p was now sealed cause back → left_of back e tried ≡ None → RootStands now.disk h
  back_still None a none = absurd (some_none e none)
  back_still (Some back) a none = subst (λ (o : Option root.Told). RootStands o h) (sym (ap (λ (x : Storage). x.disk) a.stays)) (stood (inr none))

  rooted_still : (back : Option S) → AfterRefusal p was now sealed cause back → (stops + stops_in (Some cause) ≡ 0) ⊎ (left_of back e tried ≡ None) → RootStands now.disk h
  rooted_still back a either = elim either [ inl none ↦ calm_still back a none | inr none ↦ back_still back a none ]

module _ {F : Type 0} (files_of : F → Option Files) (given : Premise → Type 0) where
  abbrev Stands : ℕ → Option Entry → Option Entry → History → Opened F → Type 0
  Stands stops tried begun h root = Stood files_of given stops tried begun h root

  -- ---- a CREATE

  module _ {S : Type 0} (session : ℕ) (create : Create) (entry : Filled) (was now : Opened F) (sealed : S) (is : given is_told → IsSealedEntry create entry.files) (stops : ℕ) (tried begun : Option Entry) (h : History) (s : Stands stops tried begun h was) where
    abbrev Creates : {T : Type 0} → Result T (Returned S) → Type 0
    Creates result = CommitsCreate session create entry (root_in was) (root_in now) sealed result

    pub stood_created : {T : Type 0} (x : T) → stops ≡ 0 → Creates (Ok x) → Stands stops None None (h ++ entry_of session (command.Create create) ∷ []) now
    stood_created x calm d = record {
      listed = λ told known.
          let k = s.listed told known in
          let law = create_stands files_of session create entry (root_in was) (root_in now) sealed (Ok x) d h k.stands in
          let list = listed_more now.storage.clock (entry_of session (command.Create create)) was.storage.annals now.storage.annals k.kept h k.annals_is k.list_is d.turn.annals in
          record { kept = list.0; annals_is = list.1; list_is = list.2; begun_is = list.3; stands = law.store_stands };
      grows = λ first is_first. noted_more now.storage.clock (entry_of session (command.Create create)) first was.storage.annals now.storage.annals (s.grows first is_first) d.turn.annals;
      rooted = λ told known read either.
          let k = s.listed told known in
          let law = create_stands files_of session create entry (root_in was) (root_in now) sealed (Ok x) d h k.stands in
          law.root_stands (is told, s.rooted told known read (inl calm));
      held = λ told held. create_held files_of session create entry (root_in was) (root_in now) sealed (Ok x) d (s.held told held);
      safe = λ told known first start safe. create_crashes files_of session create entry (root_in was) (root_in now) sealed (Ok x) d (is told) first start (s.safe told known first start safe);
    }

    pub stood_not_created : (T : Type 0) (r : Returned S) → Creates {T = T} (Err r)
        → Stands (stops + stops_in (Some r.cause)) (left_of r.back (entry_of session (command.Create create)) tried) (left_of r.back (entry_of session (command.Create create)) begun) h now
    stood_not_created T r d =
        let after = after_refusal (publication_of_create session create entry) was.storage now.storage sealed r.cause r.back d.turn in
        record {
          listed = λ told known.
              let k = s.listed told known in
              let list = listed_same (publication_of_create session create entry) was.storage now.storage sealed r.cause r.back after (entry_of session (command.Create create)) refl k.kept h begun k.annals_is k.list_is k.begun_is in
              record { kept = list.0; annals_is = list.1; list_is = list.2; begun_is = list.3; stands = stands_same files_of h was.store now.store k.stands d.enters };
          grows = λ first is_first. noted_same first was.storage.annals now.storage.annals (s.grows first is_first) after.list;
          rooted = λ told known read either.
              rooted_still (publication_of_create session create entry) was.storage now.storage sealed r.cause (entry_of session (command.Create create)) stops tried h (s.rooted told known read) r.back after either;
          held = λ told held. create_held files_of session create entry (root_in was) (root_in now) {T = T} sealed (Err r) d (s.held told held);
          safe = λ told known first start safe. create_crashes files_of session create entry (root_in was) (root_in now) {T = T} sealed (Err r) d (is told) first start (s.safe told known first start safe);
        }

  -- ---- a block

  module _ {S : Type 0} (a : Adding) (was now : Opened F) (sealed : S) (is : given is_told → IsSealedOf a.kept.schema a.block a.sealed.files a.loaded) (stops : ℕ) (tried begun : Option Entry) (h : History) (s : Stands stops tried begun h was) where
    abbrev Adds : {T : Type 0} → Result T (Returned S) → Type 0
    Adds result = CommitsPart files_of a (root_in was) (root_in now) sealed result

    pub stood_added : {T : Type 0} (x : T) → stops ≡ 0 → Adds (Ok x) → Stands stops None None (h ++ entry_of_adding a ∷ []) now
    stood_added x calm d = record {
      listed = λ told known.
          let k = s.listed told known in
          let law = part_stands files_of a (root_in was) (root_in now) (is told) sealed (Ok x) d h k.stands in
          let list = listed_more now.storage.clock (entry_of_adding a) was.storage.annals now.storage.annals k.kept h k.annals_is k.list_is d.turn.annals in
          record { kept = list.0; annals_is = list.1; list_is = list.2; begun_is = list.3; stands = law.store_stands };
      grows = λ first is_first. noted_more now.storage.clock (entry_of_adding a) first was.storage.annals now.storage.annals (s.grows first is_first) d.turn.annals;
      rooted = λ told known read either.
          let k = s.listed told known in
          let law = part_stands files_of a (root_in was) (root_in now) (is told) sealed (Ok x) d h k.stands in
          law.root_stands (s.rooted told known read (inl calm));
      held = λ told held. part_held files_of a (root_in was) (root_in now) (is told) sealed (Ok x) d (s.held told held);
      safe = λ told known first start safe. part_crashes files_of a (root_in was) (root_in now) (is told) sealed (Ok x) d first start (s.safe told known first start safe);
    }

    pub stood_not_added : (T : Type 0) (r : Returned S) → Adds {T = T} (Err r) → Stands (stops + stops_in (Some r.cause)) (left_of r.back (entry_of_adding a) tried) (left_of r.back (entry_of_adding a) begun) h now
    stood_not_added T r d =
        let after = after_refusal (publication_of_part a) was.storage now.storage sealed r.cause r.back d.turn in
        record {
          listed = λ told known.
              let k = s.listed told known in
              let list = listed_same (publication_of_part a) was.storage now.storage sealed r.cause r.back after (entry_of_adding a) refl k.kept h begun k.annals_is k.list_is k.begun_is in
              record { kept = list.0; annals_is = list.1; list_is = list.2; begun_is = list.3; stands = stands_same files_of h was.store now.store k.stands d.enters };
          grows = λ first is_first. noted_same first was.storage.annals now.storage.annals (s.grows first is_first) after.list;
          rooted = λ told known read either. rooted_still (publication_of_part a) was.storage now.storage sealed r.cause (entry_of_adding a) stops tried h (s.rooted told known read) r.back after either;
          held = λ told held. part_held files_of a (root_in was) (root_in now) (is told) {T = T} sealed (Err r) d (s.held told held);
          safe = λ told known first start safe. part_crashes files_of a (root_in was) (root_in now) (is told) {T = T} sealed (Err r) d first start (s.safe told known first start safe);
        }

  -- ---- marks

  module _ (was now : Opened F) (stops : ℕ) (tried begun : Option Entry) (h : History) (s : Stands stops tried begun h was) where
    pub stood_alike : StoresAlike was.store now.store → now.storage ≡ was.storage → Stands stops tried begun h now
    stood_alike alike same = record {
      listed = λ told known.
          let k = s.listed told known in
          record { kept = k.kept; annals_is = ap (λ (x : Storage). x.annals) same ∙ k.annals_is; list_is = k.list_is; begun_is = k.begun_is; stands = stands_alike was.store now.store alike files_of h k.stands };
      grows = λ first is_first. subst (λ (x : Storage). ListsMore first x.annals) (sym same) (s.grows first is_first);
      rooted = λ told known read either. subst (λ (x : Storage). RootStands x.disk h) (sym same) (s.rooted told known read either);
      held = λ told held. held_alike was.store now.store alike files_of (s.held told held);
      safe = λ told known first start safe.
          subst (λ (x : Storage). KeepsThroughCrashes files_of now.store x first start) (sym same) (keeps_alike was.store now.store alike files_of was.storage first start (s.safe told known first start safe));
    }

    -- the more stops were counted, the less is known
    pub stood_more : (more : ℕ) → Stands (stops + more) tried begun h was
    stood_more more = record {
      listed = s.listed;
      grows = s.grows;
      rooted = λ told known read either. s.rooted told known read (fewer stops more tried either);
      held = s.held;
      safe = s.safe;
    }

  -- ---- a put

  module _ {S : Type 0} (work : Work F) (sealed : Filled) (loaded : Loaded) (was now : Opened F) (part : S) (t : Table) (at : table_at was.store work.table ≡ Some t) (stops : ℕ) (tried begun : Option Entry) (h : History) (s : Stands stops tried begun h was)
      (rows : given is_told → SealsRows t.schema (sealing work sealed loaded)) (merges : given is_told → given is_listed → SealsMerge t.schema h (names_of_work work) (sealing work sealed loaded)) where
    stood_run : {T : Type 0} (result : Result T (Returned S)) → PutsRun files_of work sealed loaded was now part result → (more : ℕ) → Stands (stops + more) tried begun h now
    stood_run {T} result p more = record {
      listed = λ told known.
          let k = s.listed told known in
          record { kept = k.kept; annals_is = annals ∙ k.annals_is; list_is = k.list_is; begun_is = k.begun_is; stands = (both told known k.stands).0 };
      grows = λ first is_first. subst (ListsMore first) (sym annals) (s.grows first is_first);
      rooted = λ told known read either. (both told known (s.listed told known).stands).1 (s.rooted told known read (fewer stops more tried either));
      held = λ told held.
          put_held files_of work sealed loaded was now part result p (λ name d. merge_held files_of m name (root_in was) p.mid part t at (rows_here told) result d) (s.held told held);
      safe = λ told known first start safe.
          put_crashes files_of work sealed loaded was now part result p (λ name d. merge_crashes files_of m name (root_in was) p.mid t at part result d (for_kept told known)) first start (s.safe told known first start safe);
    }
      where
        m : Merging
        m = merging_of work p.run sealed loaded

        -- what was sealed is so whatever the run is
        rows_here : given is_told → SealsRows t.schema m
        rows_here told = let r = rows told in record { files = r.files; sealed_are = r.sealed_are; rows = r.rows; holds = r.holds; loaded_is = r.loaded_is }

        merges_here : given is_told → given is_listed → SealsMerge t.schema h (names_of_work work) m
        merges_here told known =
            let r = merges told known in
            record {
              front = r.front;
              more = r.more;
              grown = r.grown;
              inputs = r.inputs;
              reach = r.reach;
              holds = record { files = r.holds.files; sealed_are = r.holds.sealed_are; rows = r.holds.rows; rising = r.holds.rising; merges = r.holds.merges; holds = r.holds.holds; loaded_is = r.holds.loaded_is };
            }

        sources : given is_told → given is_listed → (k : History) → k ≡ h → SealsMerge t.schema k (source_names was.store m) m
        sources told known k same = subst (λ (l : History). SealsMerge t.schema l (source_names was.store m) m) (sym same) (named_sources t.schema h was.store work p.run p.there m (merges_here told known))

        both : given is_told → given is_listed → CoreStands files_of h was.store → CoreStands files_of h now.store × (RootStands was.storage.disk h → RootStands now.storage.disk h)
        both told known stands = put_stands files_of work sealed loaded was now part result p h (λ name d. merge_stands files_of m name (root_in was) p.mid t at part result d h (sources told known h refl) stands) stands

        for_kept : given is_told → given is_listed → SealsForKept files_of t.schema was.store was.storage.annals (source_names was.store m) m
        for_kept told known = λ kept there stands.
            let k = s.listed told known in
            let same : kept ≡ k.kept = one_some was.storage.annals kept k.kept there k.annals_is in
            sources told known (entries_of kept.list) (ap (λ (l : keeper.Told). entries_of l.list) same ∙ k.list_is)

        -- the annals are as they were
        mid_annals : p.mid.storage.annals ≡ was.storage.annals
        mid_annals = elim (merges_cases files_of m (root_in was) p.mid part result p.merges) [
          | inl high ↦ ap (λ (r : Root F). r.storage.annals) high.1
          | inr d ↦ unnoted d.0 result d.1
        ]
          where
            unnoted : (name : PartName) (r : Result T (Returned S)) → CommitsMerge files_of m name (root_in was) p.mid part r → p.mid.storage.annals ≡ was.storage.annals
            unnoted name (Ok x) d = d.turn.annals
            unnoted name (Err r) d = by r.back d.turn
              where
                by : (b : Option S) → MatchOption b (IsUnsettled (publication_of_merge m name) r.cause was.storage p.mid.storage) (λ back. IsKeptBack part back r.cause was.storage p.mid.storage) → p.mid.storage.annals ≡ was.storage.annals
                by None unsettled = unsettled.annals
                by (Some back) kept = ap (λ (x : Storage). x.annals) kept.stays

        annals : now.storage.annals ≡ was.storage.annals
        annals = ap (λ (x : Storage). x.annals) (left_alike files_of work sealed loaded was now part result p).1 ∙ mid_annals

    -- whatever is answered
    pub stood_put : (result : Result (Put S) (Returned S)) → PutsWork files_of work sealed loaded was now part result → Stands (stops + stops_by result) tried begun h now
    stood_put (Ok (put.Gone name back)) gone = stood_more now now stops tried begun h (stood_alike was now stops tried begun h s (cleared_alike work (root_in was) (root_in now) gone.clears) gone.clears.storage_is) 0
    stood_put (Ok put.Done) p = stood_run {T = Put S} (Ok put.Done) p 0
    stood_put (Err r) p = stood_run {T = Put S} (Err r) p (stops_in (Some r.cause))
