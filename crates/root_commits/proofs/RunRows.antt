-- The parts of a run, with their rows.
use Rattle.std.proofs.Common.{◌≡◌, ℕ, Bool, true, false, cond, List, [], ◌∷◌, ◌++◌, take, drop, length, map, refl, ap, ◌∙◌, zero, suc, arith}
use Rattle.std.specs.List.{AllByRecursion, AllZip}
use Rattle.mt_base.specs.declared.partition.Partition.{Partition}
use Rattle.mt_values.specs.Tables.{same_partition}
use Rattle.mt_values.specs.Values.{Row}
use Rattle.root_store.specs.mt_model.History.{History}
use Rattle.root_store.specs.part_name.declared.part.PartName.{PartName}
use Rattle.root_store.specs.part_reader.declared.reading.Part.{Part}
use Rattle.root_store.specs.part_set.declared.kept.Kept.{Kept}
use Rattle.root_store.specs.part_set.declared.run.Run.{Run}
use Rattle.root_store.specs.part_set.Parts.{kept_in}
use Rattle.root_store.specs.part_set.Runs.{IsRun, parts_of_run}
use Rattle.root_store.specs.part_history.declared.part.CorePart.{CorePart}
use Rattle.root_store.specs.part_history.Merges.{names_of, with_rows}
use Rattle.root_store.specs.part_history.Parts.{PartStands, parts_in}
use Rattle.root_store.specs.table_core.declared.event.Sources.{Sources}
use Rattle.root_store.specs.table_core.Steps.{HasNeighbours, sources_among}
use Rattle.root_store.specs.Stores.{core_part, core_parts}
use Rattle.root_store.proofs.PartHistoryGrowing.{part_kept}

-- of rows by part, those of the parts of a partition
abbrev pub rows_in : {F : Type 0} → Partition → List (Kept (Part F)) → List (List Row) → List (List Row)
rows_in p [] rows = []
rows_in p (k ∷ ks) [] = []
rows_in p (k ∷ ks) (r ∷ rows) = cond (same_partition k.name.partition p) (r ∷ rows_in p ks rows) (rows_in p ks rows)

-- those of the parts of a run
abbrev pub rows_of_run : {F : Type 0} → Partition → Run → List (Kept (Part F)) → List (List Row) → List (List Row)
rows_of_run p run ks rows = take run.count (drop run.first (rows_in p ks rows))

module _ {F : Type 0} (R : Kept (Part F) → List Row → Type 0) where
  in_hold : (p : Partition) (ks : List (Kept (Part F))) (rows : List (List Row)) → AllZip R ks rows → AllZip R (kept_in p ks) (rows_in p ks rows)
  in_hold p [] [] hold = tt
  in_hold p [] (r ∷ rows) hold = absurd hold
  in_hold p (k ∷ ks) [] hold = absurd hold
  in_hold p (k ∷ ks) (r ∷ rows) hold = by (same_partition k.name.partition p) (in_hold p ks rows hold.1)
    where
      by : (b : Bool) → AllZip R (kept_in p ks) (rows_in p ks rows) → AllZip R (cond b (k ∷ kept_in p ks) (kept_in p ks)) (cond b (r ∷ rows_in p ks rows) (rows_in p ks rows))
      by true rest = (hold.0, rest)
      by false rest = rest

  take_hold : (n : ℕ) (ks : List (Kept (Part F))) (rows : List (List Row)) → AllZip R ks rows → AllZip R (take n ks) (take n rows)
  take_hold zero ks rows hold = tt
  take_hold (suc n) [] [] hold = tt
  take_hold (suc n) [] (r ∷ rows) hold = absurd hold
  take_hold (suc n) (k ∷ ks) [] hold = absurd hold
  take_hold (suc n) (k ∷ ks) (r ∷ rows) hold = (hold.0, take_hold n ks rows hold.1)

  drop_hold : (n : ℕ) (ks : List (Kept (Part F))) (rows : List (List Row)) → AllZip R ks rows → AllZip R (drop n ks) (drop n rows)
  drop_hold zero ks rows hold = hold
  drop_hold (suc n) [] [] hold = tt
  drop_hold (suc n) [] (r ∷ rows) hold = absurd hold
  drop_hold (suc n) (k ∷ ks) [] hold = absurd hold
  drop_hold (suc n) (k ∷ ks) (r ∷ rows) hold = drop_hold n ks rows hold.1

  -- the parts of a run hold theirs
  pub run_hold : (p : Partition) (run : Run) (ks : List (Kept (Part F))) (rows : List (List Row)) → AllZip R ks rows → AllZip R (parts_of_run run (kept_in p ks)) (rows_of_run p run ks rows)
  run_hold p run ks rows hold = take_hold run.count (drop run.first (kept_in p ks)) (drop run.first (rows_in p ks rows)) (drop_hold run.first (kept_in p ks) (rows_in p ks rows) (in_hold p ks rows hold))

  in_parts : (table : List ℕ) (p : Partition) (ks : List (Kept (Part F))) (rows : List (List Row)) → AllZip R ks rows → parts_in p (core_parts table ks rows) ≡ core_parts table (kept_in p ks) (rows_in p ks rows)
  in_parts table p [] [] hold = refl
  in_parts table p [] (r ∷ rows) hold = absurd hold
  in_parts table p (k ∷ ks) [] hold = absurd hold
  in_parts table p (k ∷ ks) (r ∷ rows) hold = by (same_partition k.name.partition p) (in_parts table p ks rows hold.1)
    where
      by : (b : Bool) → parts_in p (core_parts table ks rows) ≡ core_parts table (kept_in p ks) (rows_in p ks rows)
          → cond b (core_part table k r ∷ parts_in p (core_parts table ks rows)) (parts_in p (core_parts table ks rows)) ≡ core_parts table (cond b (k ∷ kept_in p ks) (kept_in p ks)) (cond b (r ∷ rows_in p ks rows) (rows_in p ks rows))
      by true rest = ap (λ (ps : List CorePart). core_part table k r ∷ ps) rest
      by false rest = rest

  take_parts : (table : List ℕ) (n : ℕ) (ks : List (Kept (Part F))) (rows : List (List Row)) → AllZip R ks rows → take n (core_parts table ks rows) ≡ core_parts table (take n ks) (take n rows)
  take_parts table zero ks rows hold = refl
  take_parts table (suc n) [] [] hold = refl
  take_parts table (suc n) [] (r ∷ rows) hold = absurd hold
  take_parts table (suc n) (k ∷ ks) [] hold = absurd hold
  take_parts table (suc n) (k ∷ ks) (r ∷ rows) hold = ap (λ (ps : List CorePart). core_part table k r ∷ ps) (take_parts table n ks rows hold.1)

  drop_parts : (table : List ℕ) (n : ℕ) (ks : List (Kept (Part F))) (rows : List (List Row)) → AllZip R ks rows → drop n (core_parts table ks rows) ≡ core_parts table (drop n ks) (drop n rows)
  drop_parts table zero ks rows hold = refl
  drop_parts table (suc n) [] [] hold = refl
  drop_parts table (suc n) [] (r ∷ rows) hold = absurd hold
  drop_parts table (suc n) (k ∷ ks) [] hold = absurd hold
  drop_parts table (suc n) (k ∷ ks) (r ∷ rows) hold = drop_parts table n ks rows hold.1

  length_parts : (table : List ℕ) (ks : List (Kept (Part F))) (rows : List (List Row)) → AllZip R ks rows → length (core_parts table ks rows) ≡ length ks
  length_parts table [] [] hold = refl
  length_parts table [] (r ∷ rows) hold = absurd hold
  length_parts table (k ∷ ks) [] hold = absurd hold
  length_parts table (k ∷ ks) (r ∷ rows) hold = let rest = length_parts table ks rows hold.1 in omega (arith, rest)

  -- their names
  pub part_names : (table : List ℕ) (ks : List (Kept (Part F))) (rows : List (List Row)) → AllZip R ks rows → names_of (core_parts table ks rows) ≡ map (λ (k : Kept (Part F)). k.name) ks
  part_names table [] [] hold = refl
  part_names table [] (r ∷ rows) hold = absurd hold
  part_names table (k ∷ ks) [] hold = absurd hold
  part_names table (k ∷ ks) (r ∷ rows) hold = ap (λ (ns : List PartName). k.name ∷ ns) (part_names table ks rows hold.1)

  -- rows under the names of parts stand with these, also once commands came after the history that they stand for
  pub reached_stand : (front more : History) (table : List ℕ) (ks : List (Kept (Part F))) (rows inputs : List (List Row)) → AllZip R ks rows
      → AllZip (λ (name : PartName) (r : List Row). PartStands front (record { table = table; name = name; rows = r })) (map (λ (k : Kept (Part F)). k.name) ks) inputs
      → AllZip (λ (p : CorePart) (r : List Row). PartStands (front ++ more) (with_rows p r)) (core_parts table ks rows) inputs
  reached_stand front more table [] [] [] hold reach = tt
  reached_stand front more table [] [] (q ∷ inputs) hold reach = absurd reach
  reached_stand front more table [] (r ∷ rows) inputs hold reach = absurd hold
  reached_stand front more table (k ∷ ks) [] inputs hold reach = absurd hold
  reached_stand front more table (k ∷ ks) (r ∷ rows) [] hold reach = absurd reach
  reached_stand front more table (k ∷ ks) (r ∷ rows) (q ∷ inputs) hold reach = (
    part_kept front more (record { table = table; name = k.name; rows = q }) reach.0,
    reached_stand front more table ks rows inputs hold.1 reach.1,
  )

  -- parts that stand reach their rows under their names
  pub stand_reached : (h : History) (table : List ℕ) (ks : List (Kept (Part F))) (rows : List (List Row)) → AllZip R ks rows → AllByRecursion (PartStands h) (core_parts table ks rows)
      → AllZip (λ (name : PartName) (r : List Row). PartStands h (record { table = table; name = name; rows = r })) (map (λ (k : Kept (Part F)). k.name) ks) rows
  stand_reached h table [] [] hold each = tt
  stand_reached h table [] (r ∷ rows) hold each = absurd hold
  stand_reached h table (k ∷ ks) [] hold each = absurd hold
  stand_reached h table (k ∷ ks) (r ∷ rows) hold each = (each.0, stand_reached h table ks rows hold.1 each.1)

  -- what holds of the partition of each part holds of that of each with its rows
  pub parts_own : (P : Partition → Type 0) (table : List ℕ) (ks : List (Kept (Part F))) (rows : List (List Row)) → AllZip R ks rows → AllByRecursion (λ (k : Kept (Part F)). P k.name.partition) ks
      → AllByRecursion (λ (p : CorePart). P p.name.partition) (core_parts table ks rows)
  parts_own P table [] [] hold own = tt
  parts_own P table [] (r ∷ rows) hold own = absurd hold
  parts_own P table (k ∷ ks) [] hold own = absurd hold
  parts_own P table (k ∷ ks) (r ∷ rows) hold own = (own.0, parts_own P table ks rows hold.1 own.1)

  -- ---- as the sources of a merge say them

  module _ (e : Sources) (run : Run) (first_is : e.first ≡ run.first) (count_is : e.count ≡ run.count) (ks : List (Kept (Part F))) (rows : List (List Row)) (hold : AllZip R ks rows) where
    abbrev mine : List (Kept (Part F))
    mine = kept_in e.partition ks

    pub run_among : sources_among (core_parts e.table ks rows) e ≡ core_parts e.table (parts_of_run run mine) (rows_of_run e.partition run ks rows)
    run_among =
        let dropped = drop_hold run.first mine (rows_in e.partition ks rows) (in_hold e.partition ks rows hold) in
        ap (λ (n : ℕ). take n (drop e.first (parts_in e.partition (core_parts e.table ks rows)))) count_is
        ∙ (ap (λ (n : ℕ). take run.count (drop n (parts_in e.partition (core_parts e.table ks rows)))) first_is
        ∙ (ap (λ (ps : List CorePart). take run.count (drop run.first ps)) (in_parts e.table e.partition ks rows hold)
        ∙ (ap (take run.count) (drop_parts e.table run.first mine (rows_in e.partition ks rows) (in_hold e.partition ks rows hold))
        ∙ take_parts e.table run.count (drop run.first mine) (drop run.first (rows_in e.partition ks rows)) dropped)))

    pub run_neighbours : IsRun run mine → HasNeighbours (core_parts e.table ks rows) e
    run_neighbours is =
        let count = ap length (in_parts e.table e.partition ks rows hold) ∙ length_parts e.table mine (rows_in e.partition ks rows) (in_hold e.partition ks rows hold) in
        let some = is.some in
        let within = is.within in
        record { some = omega (arith, some, count_is); within = omega (arith, within, count, first_is, count_is) }
