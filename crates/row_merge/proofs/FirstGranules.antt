-- The first granules of parts of which nothing was read.
use Rattle.std.proofs.Common.{◌≡◌, ◌⊎◌, inl, inr, ℕ, zero, suc, ◌+◌, ◌-◌, ◌*◌, ◌<◌, ◌≤◌, min, Bool, true, List, [], ◌∷◌, length, length-append, replicate, take, set, get_or, slice_get, map, Option, Some, refl, sym, ap, ◌∙◌, subst, arith}
use Rattle.std.specs.List.{All, range_with_len}
use Rattle.std.proofs.lemmas.Bool.{cases_lt}
use Rattle.std.proofs.lemmas.List.{length-replicate, length-take, take-replicate, take_all}
use Rattle.std.proofs.lemmas.List.Elements.{All-head, All-tail}
use Rattle.std.proofs.lemmas.List.FromFn.{length-range_with_len}
use Rattle.std.proofs.lemmas.Option.{slice_get_within}
use Rattle.mt_outside.specs.Files.{Files}
use Rattle.mt_values.specs.declared.schema.Schema.{Schema}
use Rattle.mt_values.specs.Grid.{Grid}
use Rattle.mt_values.specs.Values.{Row}
use Rattle.part_reader.specs.declared.reading.Part.{Part}
use Rattle.part_reader.specs.Granules.{chosen_count, chosen_of, rows_in}
use Rattle.part_reader.specs.Readings.{GivesGranule, IsFirstLeft, Reading, count_left, lone}
use Rattle.part_reader.proofs.ChosenItems.{chosen_all}
use Rattle.part_set.specs.declared.kept.Kept.{Kept}
use Rattle.row_merge.specs.declared.streams.Inputs.{Inputs}
use Rattle.row_merge.specs.declared.streams.Plan.{Plan}
use Rattle.row_merge.specs.Merged.{rows_of_all}
use Rattle.row_merge.specs.MergedParts.{HasShape, first_rows}
use Rattle.row_merge.specs.Merging.{ahead_at}
use Rattle.row_merge.specs.Streams.{HasFirst, IsReaderOf, IsUnread, IsUnreadAt, reader_of}
use Rattle.row_merge.proofs.Totals.{total}

-- what is put at a place of a list changes no other
pub get_set_other : {X : Type 0} (xs : List X) (i j : ℕ) (x : X) → (j ≡ i → ⊥) → slice_get (set xs i x) j ≡ slice_get xs j
get_set_other [] i j x other = refl
get_set_other (y ∷ ys) zero zero x other = absurd (other refl)
get_set_other (y ∷ ys) zero (suc j) x other = refl
get_set_other (y ∷ ys) (suc i) zero x other = refl
get_set_other (y ∷ ys) (suc i) (suc j) x other = get_set_other ys i j x (λ e. other (ap suc e))

-- ---- a part of which nothing was read

module _ {F : Type 0} (r : Reading F) (u : IsUnread r) (size : r.part.loaded.schema.granularity ≡ r.schema.granularity) where
  -- all its rows are to come
  all_left : count_left r ≡ r.part.loaded.manifest.rows
  all_left =
      let g = r.part.loaded.schema.granularity in
      let count = r.part.loaded.manifest.rows in
      let xs = range_with_len 0 count in
      let long : length xs ≡ count = length-range_with_len 0 count in
      let room : count ≤ g * u.granules = subst (λ m. count ≤ m * u.granules) (sym size) u.enough in
      ap (λ (cs : List Bool). length (chosen_of g cs xs)) u.all ∙ ap length (chosen_all g u.granules xs ∙ take_all (g * u.granules) xs (omega (arith, room, long))) ∙ long

  -- the first granule that has any row is the first of all
  first_given : (granule : ℕ) → IsFirstLeft r.part.loaded r.left granule → min r.part.loaded.schema.granularity r.part.loaded.manifest.rows ≤ rows_in r.part.loaded (lone granule)
  first_given granule first =
      let g = r.part.loaded.schema.granularity in
      let count = r.part.loaded.manifest.rows in
      let xs = range_with_len 0 count in
      let below : granule < length r.left = slice_get_within r.left granule true first.there in
      let within : granule ≤ u.granules = omega (arith, below, ap length u.all, length-replicate u.granules true) in
      let front : take granule r.left ≡ replicate granule true = ap (take granule) u.all ∙ take-replicate granule u.granules true within in
      let size_of : chosen_count g (take granule r.left) count ≡ min (g * granule) count =
      ap (λ (cs : List Bool). length (chosen_of g cs xs)) front ∙ ap length (chosen_all g granule xs) ∙ length-take (g * granule) xs ∙ ap (min (g * granule)) (length-range_with_len 0 count) in
      let none : min (g * granule) count ≡ 0 = sym size_of ∙ first.none_before in
      let some : 0 < min (g * 1) (count - g * granule) = first.some in
      let least : min g count ≤ min (g * 1) (count - g * granule) = omega (arith, none, some) in
      least

module _ {F : Type 0} (files_of : F → Option Files) (schema : Schema) (k : Kept (Part F)) (r : Reading F) (is : IsReaderOf schema k r) (shape : HasShape schema k.part.loaded.schema) (u : IsUnread r) where
  size : r.part.loaded.schema.granularity ≡ r.schema.granularity
  size = ap (λ (p : Part F). p.loaded.schema.granularity) is.part_is ∙ shape.granularity ∙ sym (ap (λ (t : Schema). t.granularity) is.schema_is)

  -- it has no row
  pub none_first : count_left r ≡ 0 → (n : ℕ) → min schema.granularity k.part.loaded.manifest.rows ≤ n
  none_first none n =
      let same : k.part.loaded.manifest.rows ≡ 0 = sym (ap (λ (p : Part F). p.loaded.manifest.rows) is.part_is) ∙ sym (all_left r u size) ∙ none in
      omega (arith, same)

  -- or a granule of it was given
  pub some_first : (new : Reading F) (given : Grid) → GivesGranule files_of r new given → min schema.granularity k.part.loaded.manifest.rows ≤ length given.rows
  some_first new given gives =
      let least : min r.part.loaded.schema.granularity r.part.loaded.manifest.rows ≤ length given.rows = subst (λ n. min r.part.loaded.schema.granularity r.part.loaded.manifest.rows ≤ n) (sym gives.count) (first_given r u size gives.granule gives.first) in
      let rows : r.part.loaded.manifest.rows ≡ k.part.loaded.manifest.rows = ap (λ (p : Part F). p.loaded.manifest.rows) is.part_is in
      let same : r.part.loaded.schema.granularity ≡ schema.granularity = ap (λ (p : Part F). p.loaded.schema.granularity) is.part_is ∙ shape.granularity in
      subst (λ n. min schema.granularity n ≤ length given.rows) rows (subst (λ n. min n r.part.loaded.manifest.rows ≤ length given.rows) same least)

-- ---- all of them

-- one part more has its first granule in memory
pub first_more : {F : Type 0} (i : Inputs F) (old new : List (List Row)) (n : ℕ) → ((j : ℕ) → j < n → HasFirst i j old) → HasFirst i n new → ((j : ℕ) → (j ≡ n → ⊥) → ahead_at new j ≡ ahead_at old j)
    → (j : ℕ) → j < n + 1 → HasFirst i j new
first_more {F} i old new n before own others j below = by (cases_lt j n)
  where
    by : (j < n) ⊎ (n ≤ j) → HasFirst i j new
    by (inl low) = λ k there. subst (λ (rows : List Row). min i.schema.now.granularity k.part.loaded.manifest.rows ≤ length rows) (sym (others j (λ e. omega (arith, e, low)))) (before j low k there)
    by (inr high) = let last : n ≡ j = omega (arith, high, below) in subst (λ m. HasFirst i m new) last own

-- each part has its first granule in memory
pub first_total : {F : Type 0} (size : ℕ) (parts : List (Kept (Part F))) (ahead : List (List Row)) → length ahead ≡ length parts
    → ((j : ℕ) (k : Kept (Part F)) → slice_get parts j ≡ Some k → min size k.part.loaded.manifest.rows ≤ length (get_or ahead j [])) → first_rows size parts ≤ total ahead
first_total size [] ahead even own = omega arith
first_total size (k ∷ parts) [] even own = absurd (omega (arith, even))
first_total size (k ∷ parts) (a ∷ ahead) even own =
    let rest = first_total size parts ahead (omega (arith, even)) (λ j q there. own (suc j) q there) in
    omega (arith, own 0 k refl, rest, length-append a (rows_of_all ahead))

-- nothing was read of parts that are read by a plan
pub opened_unread : {F : Type 0} (schema : Schema) (plan : Plan) (most n : ℕ) (parts : List (Kept (Part F))) → plan.chosen.items ≡ replicate n true → All (λ (k : Kept (Part F)). k.part.loaded.manifest.rows ≤ schema.granularity * n) parts
    → (j : ℕ) → IsUnreadAt (map (reader_of schema plan most) parts) j
opened_unread schema plan most n [] all enough j r there = cc
opened_unread {F} schema plan most n (k ∷ parts) all enough zero r there =
    subst IsUnread (inside (reader_of schema plan most k) r there)
    (record { granules = n; all = all; enough = All-head (λ (q : Kept (Part F)). q.part.loaded.manifest.rows ≤ schema.granularity * n) k parts enough })
  where
    inside : (x y : Reading F) → Some x ≡ Some y → x ≡ y
    inside x y e = cc
opened_unread {F} schema plan most n (k ∷ parts) all enough (suc j) r there =
    opened_unread schema plan most n parts all (All-tail (λ (q : Kept (Part F)). q.part.loaded.manifest.rows ≤ schema.granularity * n) k parts enough) j r there
