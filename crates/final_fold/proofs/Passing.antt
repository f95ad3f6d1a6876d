-- What is asked of the rows of each granule, and what the condition says of them.
use Rattle.std.proofs.Common.{◌≡◌, ℕ, zero, suc, ◌+◌, ◌<◌, Bool, true, false, cond, List, [], ◌∷◌, ◌++◌, Option, refl, sym, ap, ap₂, ◌∙◌, length, get_or, take, drop, All, arith, zero-add}
use Rattle.std.specs.List.{AllZip, filter, list_all}
use Rattle.std.proofs.lemmas.Bool.{false≢true}
use Rattle.std.proofs.lemmas.List.{length-map}
use Rattle.std.proofs.lemmas.List.Elements.{All-head, All-tail, All-weaker, filter-append}
use Rattle.mt_values.specs.declared.expr.Test.{Test}
use Rattle.mt_values.specs.declared.schema.Column.{Column}
use Rattle.mt_values.specs.declared.value.ColType.{ColType}
use Rattle.mt_values.specs.Conditions.{Condition}
use Rattle.mt_values.specs.Order.{key_of}
use Rattle.mt_values.specs.Schemas.{column_types}
use Rattle.mt_values.specs.Tests.{eval}
use Rattle.mt_values.specs.Values.{Row, types_of}
use Rattle.mt_values.proofs.Grids.{lengths_typed}
use Rattle.mt_values.proofs.Parting.{conjuncts_eval}
use Rattle.mt_outside.specs.Files.{Files}
use Rattle.row_merge.specs.part_reader.Granules.{chosen_of}
use Rattle.row_merge.specs.part_reader.Parts.{PartHolds}
use Rattle.row_merge.specs.part_reader.Sieves.{asking_of, met_from, passes, rows_met}
use Rattle.row_merge.proofs.PartReaderCutRows.{chosen_every}
use Rattle.row_merge.proofs.PartReaderSiftedRows.{each_meets}
use Rattle.final_fold.specs.declared.asking.Task.{Task}
use Rattle.final_fold.specs.Asked.{AreSure, IsTask, MeetUnasked, asked_somewhere, chosen_rows, met_rows, sifting_of_task, unasked_of}
use Rattle.final_fold.proofs.Sure.{MeetsHere, all_parts, row_here, sieves_ask, zip_weaker}

-- ---- granule by granule

-- what holds of each item of the chosen granules, by the number of its granule; the first granule has this number
abbrev pub Each : {X : Type 0} → ℕ → (ℕ → X → Type 0) → ℕ → List Bool → List X → Type 0
Each g P granule [] xs = Unit {0}
Each g P granule (true ∷ chosen) xs = All (P granule) (take g xs) × Each g P (granule + 1) chosen (drop g xs)
Each g P granule (false ∷ chosen) xs = Each g P (granule + 1) chosen (drop g xs)

filter_on : {X : Type 0} (p q : X → Bool) (xs : List X) → All (λ x. p x ≡ q x) xs → filter p xs ≡ filter q xs
filter_on p q [] all = refl
filter_on p q (x ∷ xs) all = ap₂ (λ b ys. cond b (x ∷ ys) ys) (All-head (λ y. p y ≡ q y) x xs all) (filter_on p q xs (All-tail (λ y. p y ≡ q y) x xs all))

-- answers from one on, and those from the next one on
abbrev SameFrom : List Bool → ℕ → List Bool → Type 0
SameFrom whole n a = (k : ℕ) → get_or a k false ≡ get_or whole (n + k) false

shifted : (whole a : List Bool) (b : Bool) (n : ℕ) → SameFrom whole n (b ∷ a) → SameFrom whole (n + 1) a
shifted whole a b n same k = let next : n + suc k ≡ n + 1 + k = omega arith in same (suc k) ∙ ap (λ m. get_or whole m false) next

none_shifted : (whole : List Bool) (n : ℕ) → SameFrom whole n [] → SameFrom whole (n + 1) []
none_shifted whole n same k = let next : n + suc k ≡ n + 1 + k = omega arith in same (suc k) ∙ ap (λ m. get_or whole m false) next

module _ {X : Type 0} (g : ℕ) where
  -- what follows from two things that hold of each
  each_both : (P Q R : ℕ → X → Type 0) → ((n : ℕ) (x : X) → P n x → Q n x → R n x) → (n : ℕ) (chosen : List Bool) (xs : List X) → Each g P n chosen xs → Each g Q n chosen xs → Each g R n chosen xs
  each_both P Q R follows n [] xs one two = tt
  each_both P Q R follows n (true ∷ chosen) xs one two = (λ k d within. follows n (get_or (take g xs) k d) (one.0 k d within) (two.0 k d within), each_both P Q R follows (n + 1) chosen (drop g xs) one.1 two.1)
  each_both P Q R follows n (false ∷ chosen) xs one two = each_both P Q R follows (n + 1) chosen (drop g xs) one two

  -- what holds of all chosen items
  each_chosen : (P : X → Type 0) (n : ℕ) (chosen : List Bool) (xs : List X) → All P (chosen_of g chosen xs) → Each g (λ m x. P x) n chosen xs
  each_chosen P n [] xs all = tt
  each_chosen P n (true ∷ chosen) xs all =
      let parts = all_parts P (take g xs) (chosen_of g chosen (drop g xs)) all in
      (parts.0, each_chosen P (n + 1) chosen (drop g xs) parts.1)
  each_chosen P n (false ∷ chosen) xs all = each_chosen P (n + 1) chosen (drop g xs) all

  -- what holds for each pair of two lists
  each_zip : {A B : Type 0} (Q : A → B → ℕ → X → Type 0) (ps : List A) (qs : List B) (n : ℕ) (chosen : List Bool) (xs : List X) → AllZip (λ a b. Each g (Q a b) n chosen xs) ps qs → Each g (λ m x. AllZip (λ a b. Q a b m x) ps qs) n chosen xs
  each_zip Q ps qs n [] xs all = tt
  each_zip Q ps qs n (true ∷ chosen) xs all = (
    λ k none within. zip_weaker (λ a b. Each g (Q a b) n (true ∷ chosen) xs) (λ a b. Q a b n (get_or (take g xs) k none)) (λ a b both. both.0 k none within) ps qs all,
    each_zip Q ps qs (n + 1) chosen (drop g xs) (zip_weaker (λ a b. Each g (Q a b) n (true ∷ chosen) xs) (λ a b. Each g (Q a b) (n + 1) chosen (drop g xs)) (λ a b both. both.1) ps qs all),
  )
  each_zip Q ps qs n (false ∷ chosen) xs all = each_zip Q ps qs (n + 1) chosen (drop g xs) all

  -- where the test of each granule says of its items what one test says, it keeps what that one keeps
  met_each : (test : ℕ → X → Bool) (f : X → Bool) (n : ℕ) (chosen : List Bool) (xs : List X) → Each g (λ m x. test m x ≡ f x) n chosen xs → met_from g test n chosen xs ≡ filter f (chosen_of g chosen xs)
  met_each test f n [] xs each = refl
  met_each test f n (true ∷ chosen) xs each =
      ap₂ (λ (a b : List X). a ++ b) (filter_on (test n) f (take g xs) each.0) (met_each test f (n + 1) chosen (drop g xs) each.1)
      ∙ sym (filter-append f (take g xs) (chosen_of g chosen (drop g xs)))
  met_each test f n (false ∷ chosen) xs each = met_each test f (n + 1) chosen (drop g xs) each

  -- ---- where it is not asked

  abbrev MeetsWhere : (X → Bool) → List Bool → ℕ → X → Type 0
  MeetsWhere f asked granule x = get_or asked granule false ≡ false → f x ≡ true

  one_sure : (f : X → Bool) (whole : List Bool) (n : ℕ) (chosen a : List Bool) (xs : List X) → SameFrom whole n a → All (λ x. f x ≡ true) (chosen_of g (unasked_of chosen a) xs) → Each g (MeetsWhere f whole) n chosen xs
  one_sure f whole n [] a xs same sure = tt
  one_sure f whole n (false ∷ chosen) [] xs same sure = one_sure f whole (n + 1) chosen [] (drop g xs) (none_shifted whole n same) sure
  one_sure f whole n (true ∷ chosen) [] xs same sure =
      let parts = all_parts (λ x. f x ≡ true) (take g xs) (chosen_of g (unasked_of chosen []) (drop g xs)) sure in
      (All-weaker (λ x. f x ≡ true) (MeetsWhere f whole n) (λ x is none. is) (take g xs) parts.0, one_sure f whole (n + 1) chosen [] (drop g xs) (none_shifted whole n same) parts.1)
  one_sure f whole n (false ∷ chosen) (b ∷ a) xs same sure = one_sure f whole (n + 1) chosen a (drop g xs) (shifted whole a b n same) sure
  one_sure f whole n (true ∷ chosen) (true ∷ a) xs same sure =
      let zeroth : n + zero ≡ n = omega arith in
      let here : true ≡ get_or whole n false = same zero ∙ ap (λ m. get_or whole m false) zeroth in
      (λ k d within none. absurd (false≢true (sym none ∙ sym here)), one_sure f whole (n + 1) chosen a (drop g xs) (shifted whole a true n same) sure)
  one_sure f whole n (true ∷ chosen) (false ∷ a) xs same sure =
      let parts = all_parts (λ x. f x ≡ true) (take g xs) (chosen_of g (unasked_of chosen a) (drop g xs)) sure in
      (All-weaker (λ x. f x ≡ true) (MeetsWhere f whole n) (λ x is none. is) (take g xs) parts.0, one_sure f whole (n + 1) chosen a (drop g xs) (shifted whole a false n same) parts.1)

-- each row of a chosen granule meets the conjuncts that are not asked there
sure_each : (g : ℕ) (chosen : List Bool) (ds : List (Condition Test)) (gs : List (List Bool)) (rows : List Row) → MeetUnasked g chosen ds gs rows → Each g (MeetsHere ds gs) 0 chosen rows
sure_each g chosen ds gs rows sure =
    each_zip g (λ d a. MeetsWhere g (eval d) a) ds gs 0 chosen rows
    (zip_weaker (λ d a. All (λ row. eval d row ≡ true) (chosen_of g (unasked_of chosen a) rows)) (λ d a. Each g (MeetsWhere g (eval d) a) 0 chosen rows)
    (λ d a all. one_sure g (eval d) a 0 chosen a rows (λ k. ap (λ m. get_or a m false) (sym (zero-add k))) all) ds gs sure)

-- ---- a part

module _ {F : Type 0} (files_of : F → Option Files) (task : Task F) (is : IsTask task) (rows : List Row) (holds : PartHolds files_of task.wanted.schema.now task.part.now rows) where
  abbrev g : ℕ
  g = task.part.now.loaded.schema.granularity

  abbrev types : List ColType
  types = column_types task.wanted.schema.now

  abbrev asked : List ℕ
  asked = task.plan.now.asked.items

  abbrev ds : List (Condition Test)
  ds = task.wanted.conjuncts.now

  -- each row has the columns that are read for the condition
  abbrev Wide : Row → Type 0
  Wide row = All (λ place. place < length row) asked

  all_wide : All Wide (chosen_rows task rows)
  all_wide =
      let many : length types ≡ length task.wanted.schema.now.columns = length-map task.wanted.schema.now.columns (λ (c : Column). c.col_type) in
      All-weaker (λ (row : Row). length row ≡ length types) Wide
      (λ row long. All-weaker (λ place. place < length task.wanted.schema.now.columns) (λ place. place < length row) (λ place below. omega (arith, below, many, long)) asked is.plan.within)
      (chosen_rows task rows)
      (lengths_typed types (chosen_rows task rows) (chosen_every (λ (row : Row). types_of row ≡ types) g task.chosen.now rows holds.typed))

  -- what is asked of such a row in its granule is whether it meets the condition
  passes_is : (n : ℕ) (row : Row) → MeetsHere ds task.asked.now n row → Wide row → passes (asking_of task.plan.now.sieves.items) n (key_of asked row) ≡ eval task.wanted.condition.now row
  passes_is n row here wide =
      sym (each_meets task.plan.now.sieves.items n (key_of asked row))
      ∙ sieves_ask asked n row wide (asked_somewhere ds task.asked.now) task.plan.now.sieves.items is.plan.sieves
      ∙ row_here n row ds task.asked.now here
      ∙ ap (list_all (λ d. eval d row)) is.wanted.conjuncts
      ∙ sym (conjuncts_eval task.wanted.condition.now row)

  -- so the rows that meet what is asked are those that meet the condition
  pub met_whole : AreSure task rows → rows_met (sifting_of_task task) rows ≡ met_rows task rows
  met_whole sure =
      let test = λ (granule : ℕ) (row : Row). passes (asking_of task.plan.now.sieves.items) granule (key_of asked row) in
      met_each g test (eval task.wanted.condition.now) 0 task.chosen.now rows
      (each_both g (MeetsHere ds task.asked.now) (λ m row. Wide row) (λ m row. test m row ≡ eval task.wanted.condition.now row) passes_is 0 task.chosen.now rows (sure_each g task.chosen.now ds task.asked.now rows sure)
      (each_chosen g Wide 0 task.chosen.now rows all_wide))
