-- How many of the first parts have the names of the first sources, one by one, and the run that has the names of all.
use Rattle.std.proofs.Common.{◌≡◌, zero, suc, ◌⊎◌, inl, inr, ℕ, ◌+◌, ◌<◌, ◌≤◌, true, List, [], ◌∷◌, ◌++◌, length, map, get_or, take, drop, min, Some, refl, sym, ap, ◌∙◌, subst, arith}
use Rattle.std.proofs.lemmas.List.{get_or-map, get_or-take, length-drop, length-map, length-take, length-take-le, map-append, take_more}
use Rattle.std.proofs.lemmas.List.Elements.{All-more}
use Rattle.std.proofs.lemmas.Option.{slice_get-get_or}
use Rattle.part_name.specs.declared.part.PartName.{PartName}
use Rattle.part_set.specs.declared.kept.Kept.{Kept}
use Rattle.part_set.specs.declared.run.Run.{Run}
use Rattle.part_set.specs.Runs.{Begins, IsBusyRun, IsMissing, names_of_parts}

module _ {P : Type 0} where
  abbrev name_of : Kept P → PartName
  name_of k = k.name

  abbrev Busy : Kept P → Type 0
  Busy k = k.busy ≡ true

  pub begins_none : (sources parts : List (Kept P)) → Begins 0 sources parts
  begins_none sources parts = record { within = omega arith; named = refl; busy = λ i d inside. absurd (omega (arith, inside)) }

  -- no more begin than there are sources
  pub begins_within : (n : ℕ) (sources parts : List (Kept P)) → Begins n sources parts → n ≤ length sources
  begins_within n sources parts begins =
      let front : length (take n parts) ≡ n = length-take-le n parts begins.within in
      let names : length (map name_of (take n parts)) ≡ length (take n (map name_of sources)) = ap length begins.named in
      let left : length (map name_of (take n parts)) ≡ length (take n parts) = length-map (take n parts) name_of in
      let right : length (take n (map name_of sources)) ≡ min n (length (map name_of sources)) = length-take n (map name_of sources) in
      let all : length (map name_of sources) ≡ length sources = length-map sources name_of in
      omega arith

  module _ (n : ℕ) (sources parts : List (Kept P)) (k s : Kept P) (k_in : n < length parts) (s_in : n < length sources) (k_is : k ≡ get_or parts n k) (s_is : s ≡ get_or sources n s) where
    -- one more begins where the next part has the next name, and bears the mark
    pub begins_more : Begins n sources parts → k.name ≡ s.name → k.busy ≡ true → Begins (n + 1) sources parts
    begins_more begins same busy = record {
      within = omega arith;
      named =
          let in_names : n < length (map name_of sources) = subst (λ (m : ℕ). n < m) (sym (length-map sources name_of)) s_in in
          let one : map name_of (take (n + 1) parts) ≡ map name_of (take n parts) ++ k.name ∷ [] =
          ap (λ (l : List (Kept P)). map name_of l) (take_more parts n k k_in ∙ ap (λ (x : Kept P). take n parts ++ x ∷ []) (sym k_is)) ∙ map-append name_of (take n parts) (k ∷ []) in
          let two : take (n + 1) (map name_of sources) ≡ take n (map name_of sources) ++ s.name ∷ [] =
          take_more (map name_of sources) n s.name in_names
          ∙ ap (λ (x : PartName). take n (map name_of sources) ++ x ∷ []) (get_or-map name_of sources n s s.name s_in ∙ ap name_of (sym s_is)) in
          one ∙ (ap (λ (l : List PartName). l ++ k.name ∷ []) begins.named ∙ (ap (λ (x : PartName). take n (map name_of sources) ++ x ∷ []) same ∙ sym two));
      busy = All-more Busy parts n k k_in begins.busy (subst Busy k_is busy);
    }

    -- where more begin, the next part has the next name, and bears the mark
    pub begins_there : (m : ℕ) → Begins m sources parts → n < m → (k.name ≡ s.name) × (k.busy ≡ true)
    begins_there m begins less =
        let front : length (take m parts) ≡ m = length-take-le m parts begins.within in
        let inside : n < length (take m parts) = omega arith in
        let at : get_or (take m parts) n k ≡ k = get_or-take m parts n k less ∙ sym k_is in
        let left : get_or (map name_of (take m parts)) n k.name ≡ k.name = get_or-map name_of (take m parts) n k k.name inside ∙ ap name_of at in
        let right : get_or (take m (map name_of sources)) n k.name ≡ s.name =
        get_or-take m (map name_of sources) n k.name less ∙ (get_or-map name_of sources n s k.name s_in ∙ ap name_of (sym s_is)) in (
          sym left ∙ (ap (λ (l : List PartName). get_or l n k.name) begins.named ∙ right),
          subst Busy at (begins.busy n k inside),
        )

  -- ---- runs

  -- what begins at a place is a run with the first names
  pub run_begun : (n first : ℕ) (sources parts : List (Kept P)) → 0 < n → Begins n sources (drop first parts) → IsBusyRun (record { first = first; count = n }) (take n (names_of_parts sources)) parts
  run_begun n first sources parts some begins = record {
    is = record { some = some; within = omega (arith, begins.within, length-drop first parts) };
    named = begins.named;
    busy = begins.busy;
  }

  -- and the other way round
  pub begun_by : (n : ℕ) (run : Run) (sources parts : List (Kept P)) → n ≤ length sources → IsBusyRun run (take n (names_of_parts sources)) parts → (run.count ≡ n) × (run.first < length parts) × Begins n sources (drop run.first parts)
  begun_by n run sources parts within is =
      let there : run.count ≤ length (drop run.first parts) = omega (arith, is.is.within, length-drop run.first parts) in
      let names : length (map name_of (take run.count (drop run.first parts))) ≡ length (take n (map name_of sources)) = ap length is.named in
      let left : length (map name_of (take run.count (drop run.first parts))) ≡ length (take run.count (drop run.first parts)) = length-map (take run.count (drop run.first parts)) name_of in
      let front : length (take run.count (drop run.first parts)) ≡ run.count = length-take-le run.count (drop run.first parts) there in
      let all : length (map name_of sources) ≡ length sources = length-map sources name_of in
      let right : length (take n (map name_of sources)) ≡ n = length-take-le n (map name_of sources) (omega arith) in
      let same : run.count ≡ n = omega arith in (
        same,
        omega (arith, is.is.some, is.is.within),
        subst (λ (m : ℕ). Begins m sources (drop run.first parts)) same (record {
          within = there;
          named = is.named ∙ ap (λ (m : ℕ). take m (map name_of sources)) (sym same);
          busy = is.busy;
        }),
      )

  -- what was found of the parts gone over: no more begin at any of them, and that many begin at one of them
  pub record IsMost (first most : ℕ) (sources parts : List (Kept P)) : Type 0 where
    pub within : most < length sources
    pub none : (k n : ℕ) → k < first → Begins n sources (drop k parts) → n ≤ most
    pub before : (most ≡ 0) ⊎ ((k : ℕ) × Begins most sources (drop k parts))

  some_begin : (n first : ℕ) (sources parts : List (Kept P)) → Begins n sources (drop first parts) → (n ≡ 0) ⊎ ((run : Run) × IsBusyRun run (take n (names_of_parts sources)) parts)
  some_begin zero first sources parts begins = inl refl
  some_begin (suc n) first sources parts begins = inr (record { first = first; count = suc n }, run_begun (suc n) first sources parts (omega arith) begins)

  pub missing_found : (most : ℕ) (sources parts : List (Kept P)) (s : Kept P) → IsMost (length parts) most sources parts → s ≡ get_or sources most s → IsMissing (names_of_parts sources) parts s.name
  missing_found most sources parts s is_most s_is = record {
    place = most;
    here = slice_get-get_or (map name_of sources) most s.name (subst (λ (m : ℕ). most < m) (sym (length-map sources name_of)) is_most.within)
        ∙ ap (λ (x : PartName). Some x) (get_or-map name_of sources most s s.name is_most.within ∙ ap name_of (sym s_is));
    none = λ run is.
        let by = begun_by (most + 1) run sources parts (omega (arith, is_most.within)) is in
        let low : most + 1 ≤ most = is_most.none run.first (most + 1) by.1 by.2 in
        omega (arith, low);
    before = elim is_most.before [
      | inl nothing ↦ inl nothing
      | inr there ↦ some_begin most there.0 sources parts there.1
    ];
  }
