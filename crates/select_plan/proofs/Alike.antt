-- The plan of a condition without a test has one answer for all granules.
use Rattle.std.proofs.Common.{◌≡◌, ℕ, ◌+◌, ◌-◌, ◌/◌, ◌<◌, All, Bool, true, false, refl, List, [], ◌∷◌, get_or, length, map, min, replicate, subst, sym, take, ap, ap₂, ◌∙◌}
use Rattle.std.specs.List.{fold, range_with_len}
use Rattle.std.proofs.lemmas.List.{nil_from_length, take_more}
use Rattle.std.proofs.lemmas.List.Elements.{All-head, All-push, All-tail}
use Rattle.std.proofs.lemmas.List.FromFn.{length-range_with_len}
use Rattle.mt_values.specs.declared.expr.Test.{Test}
use Rattle.mt_values.specs.declared.schema.Schema.{Schema}
use Rattle.mt_values.specs.Conditions.{Condition, tests_of}
use Rattle.part_reader.specs.declared.reading.Part.{Part}
use Rattle.part_set.specs.declared.kept.Kept.{Kept}
use Rattle.mt_model.specs.predicate.Boxes.{can}
use Rattle.mt_model.specs.predicate.Granules.{asked_in, boxes_of, chosen_in}
use Rattle.mt_model.specs.predicate.Masks.{both}
use Rattle.mt_model.specs.predicate.declared.extent.Can.{Can}
use Rattle.mt_model.specs.predicate.declared.extent.Extent.{Extent}
use Rattle.part_reader.proofs.PrimaryMarksGranuleBoxes.{box_count, chosen_by_place, is_chosen_at}
use Rattle.select_plan.specs.Plans.{asked_among, asked_unknown, planned_part, read_of}
use Rattle.mt_model.proofs.PredicateNarrowing.{alike, narrowed_alike, untested}
use Rattle.part_reader.specs.skip_index.declared.index.Index.{Index}
use Rattle.part_reader.specs.skip_index.Choosing.{block_box, chosen_by}

-- a condition of no tests has none
pub no_tests : (c : Condition Test) → length (tests_of c) ≡ 0 → tests_of c ≡ []
no_tests c none = nil_from_length (tests_of c) none

module _ (c : Condition Test) (e : Extent) (none : tests_of c ≡ []) where
  abbrev answer : Bool
  answer = (can c e).yes

  one : (b : Extent) → (can c b).yes ≡ answer
  one b = ap (λ (k : Can). k.yes) (untested c b e none)

  by_index : (index : Index) → chosen_by index c [] ≡ replicate index.granules answer
  by_index index =
      alike (λ granule. (can c (block_box index [] (granule / index.span))).yes) answer (range_with_len 0 index.granules) (λ granule. one (block_box index [] (granule / index.span)))
      ∙ ap (λ n. replicate n answer) (length-range_with_len 0 index.granules)

  pub marked_alike : {F : Type 0} (schema : Schema) (k : Kept (Part F)) → replicate (length k.part.loaded.marks - 1) answer ≡ chosen_in schema k.name.partition c k.part.loaded.marks
  marked_alike schema k =
      let marks = k.part.loaded.marks in
      let n : ℕ = length marks - 1 in
      sym (chosen_by_place schema k.name.partition c marks
      ∙ alike (is_chosen_at schema k.name.partition c marks) answer (range_with_len 0 n) (λ granule. one _)
      ∙ ap (λ m. replicate m answer) (length-range_with_len 0 n))

  pub planned_alike : {F : Type 0} (schema : Schema) (k : Kept (Part F))
      → replicate (fold (λ (n : ℕ) (index : Index). min n index.granules) (length k.part.loaded.marks - 1) k.part.loaded.indexes) answer ≡ planned_part schema c k
  planned_alike schema k =
      sym (ap (λ (chosen : List Bool). fold both chosen (map (λ (index : Index). chosen_by index c []) k.part.loaded.indexes)) (sym (marked_alike schema k))
      ∙ narrowed_alike (λ (index : Index). chosen_by index c []) (λ (index : Index). index.granules) answer (length k.part.loaded.marks - 1) k.part.loaded.indexes by_index)

-- a condition without a test, with FINAL or without it
pub read_alike : {F : Type 0} (schema : Schema) (is_final : Bool) (c : Condition Test) (e : Extent) (k : Kept (Part F)) (chosen : List Bool) (n : ℕ) → tests_of c ≡ [] → chosen ≡ replicate n (can c e).yes
    → (is_final ≡ true → n ≡ length k.part.loaded.marks - 1)
    → (is_final ≡ false → n ≡ fold (λ (m : ℕ) (index : Index). min m index.granules) (length k.part.loaded.marks - 1) k.part.loaded.indexes) → chosen ≡ read_of schema is_final c k
read_alike schema true c e k chosen n none is folded plain = is ∙ (ap (λ m. replicate m (can c e).yes) (folded refl) ∙ marked_alike c e none schema k)
read_alike schema false c e k chosen n none is folded plain = is ∙ (ap (λ m. replicate m (can c e).yes) (plain refl) ∙ planned_alike c e none schema k)

-- ---- conjuncts without a test

-- a condition without a test is asked in all chosen granules or in none, whatever their boxes are
asked_one : {F : Type 0} (schema : Schema) (d : Condition Test) (k : Kept (Part F)) (chosen : List Bool) (n : ℕ) → tests_of d ≡ [] → n ≡ length k.part.loaded.marks - 1 → asked_unknown n chosen d ≡ both (asked_in schema k.name.partition d k.part.loaded.marks) chosen
asked_one schema d k chosen n none many =
    let unknown : Extent = record { columns = [] } in
    let boxes = boxes_of schema k.name.partition k.part.loaded.marks in
    ap (λ (bs : List Bool). both bs chosen)
    (ap (λ m. replicate m (can d unknown).no) (many ∙ sym (box_count schema k.name.partition k.part.loaded.marks))
    ∙ sym (alike (λ (e : Extent). (can d e).no) (can d unknown).no boxes (λ e. ap (λ (c : Can). c.no) (untested d e unknown none))))

pub asked_alike : {F : Type 0} (schema : Schema) (conjuncts : List (Condition Test)) (k : Kept (Part F)) (chosen : List Bool) (n : ℕ) → All (λ (d : Condition Test). tests_of d ≡ []) conjuncts → n ≡ length k.part.loaded.marks - 1 → map (asked_unknown n chosen) conjuncts ≡ asked_among schema conjuncts k chosen
asked_alike schema [] k chosen n none many = refl
asked_alike schema (d ∷ ds) k chosen n none many =
    ap₂ (λ (x : List Bool) (xs : List (List Bool)). x ∷ xs) (asked_one schema d k chosen n (All-head (λ (c : Condition Test). tests_of c ≡ []) d ds none) many)
    (asked_alike schema ds k chosen n (All-tail (λ (c : Condition Test). tests_of c ≡ []) d ds none) many)

-- one condition more without a test
pub untested_next : (cs : List (Condition Test)) (i : ℕ) (c : Condition Test) → All (λ (d : Condition Test). tests_of d ≡ []) (take i cs) → i < length cs → c ≡ get_or cs i c → length (tests_of c) ≡ 0 → All (λ (d : Condition Test). tests_of d ≡ []) (take (i + 1) cs)
untested_next cs i c before below is none =
    let P = λ (d : Condition Test). tests_of d ≡ [] in
    subst (All P) (sym (take_more cs i c below)) (All-push P (take i cs) (get_or cs i c) before (subst P is (no_tests c none)))
