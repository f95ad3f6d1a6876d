-- From the plan of a table's parts to the answer of an EXPLAIN.
use Rattle.std.proofs.Common.{◌≡◌, ℕ, ◌+◌, Bool, true, false, cond, List, [], ◌∷◌, length, map, refl, sym, ap, ap₂, ◌∙◌, Option, Some, Ok}
use Rattle.std.specs.List.{count_by, list_any, sum_by}
use Rattle.std.proofs.lemmas.List.{length-map}
use Rattle.std.proofs.lemmas.List.Sums.{sum_by-cons}
use Rattle.mt_values.specs.declared.expr.Test.{Test}
use Rattle.mt_values.specs.declared.mutation.Mutation.{Mutation}
use Rattle.mt_values.specs.declared.schema.Schema.{Schema}
use Rattle.mt_values.specs.declared.schema.SkipIndex.{SkipIndex}
use Rattle.mt_values.specs.declared.statement.SelectText.{SelectText}
use Rattle.mt_values.specs.Conditions.{Condition}
use Rattle.mt_values.specs.Values.{Row}
use Rattle.mt_outside.specs.Files.{Files}
use Rattle.replies.specs.mt_model.declared.counts.Counts.{Counts}
use Rattle.replies.specs.mt_model.declared.query.Query.{Query}
use Rattle.replies.specs.mt_model.Explain.{Explains, Portion, PortionsStand, chosen_granules, counts_of, explain_line, indexes_beside, is_chosen, pending_above}
use Rattle.replies.specs.mt_model.History.{History, schema_of}
use Rattle.replies.specs.mt_model.Numbers.{mutations_in}
use Rattle.replies.specs.mt_model.Queries.{query_of}
use Rattle.replies.specs.predicate.Indexes.{chosen_by_indexes}
use Rattle.final_fold.specs.part_history.Parts.{portion_of}
use Rattle.merge_workers.specs.shared_store.part_reader.declared.reading.Part.{Part}
use Rattle.merge_workers.specs.shared_store.part_set.declared.kept.Kept.{Kept}
use Rattle.merge_workers.specs.shared_store.part_writer.PartFiles.{loaded_of}
use Rattle.merge_workers.specs.shared_store.root_store.Stores.{core_part, core_parts}
use Rattle.final_fold.specs.select_plan.Plans.{counts_over, read_of}
use Rattle.final_fold.specs.row_merge.MergedParts.{PartsHold}
use Rattle.session.proofs.Planned.{marked_is, planned_is}

-- a sum over what becomes of each item is a sum over the items
sum_map : {X Y : Type 0} (f : Y → ℕ) (g : X → Y) (xs : List X) → sum_by f (map g xs) ≡ sum_by (λ x. f (g x)) xs
sum_map f g [] = refl
sum_map f g (x ∷ xs) = sum_by-cons f (g x) (map g xs) ∙ (ap (λ n. f (g x) + n) (sum_map f g xs) ∙ sym (sum_by-cons (λ y. f (g y)) x xs))

abbrev counted : ℕ → ℕ → ℕ → ℕ → Counts
counted a b c d = record { chosen_parts = a; parts = b; chosen_granules = c; granules = d }

same : (a b c d e f g h : ℕ) → a ≡ b → c ≡ d → e ≡ f → g ≡ h → counted a c e g ≡ counted b d f h
same a b c d e f g h p q r s = cc

-- the counts of portions are those of their granules
pub counts_are : (schema : Schema) (ms : List Mutation) (is_final : Bool) (c : Condition Test) (ps : List Portion) → counts_over (map (chosen_granules schema ms is_final c) ps) ≡ counts_of schema ms is_final c ps
counts_are schema ms is_final c ps =
    let chosen = chosen_granules schema ms is_final c in
    let parts = map chosen ps in
    same (count_by (list_any (λ b. b)) parts) (count_by (is_chosen schema ms is_final c) ps) (length parts) (length ps)
    (sum_by (count_by (λ b. b)) parts) (sum_by (λ p. count_by (λ b. b) (chosen p)) ps)
    (sum_by length parts) (sum_by (λ p. length (chosen p)) ps)
    (sum_map (λ (b : List Bool). cond (list_any (λ x. x) b) 1 0) chosen ps)
    (length-map ps chosen)
    (sum_map (count_by (λ b. b)) chosen ps)
    (sum_map length chosen ps)

-- without a mutation each skip index prunes
all_left : (indexes : List SkipIndex) (version : ℕ) → indexes ≡ indexes_beside (pending_above [] version) indexes
all_left [] version = refl
all_left (i ∷ indexes) version = ap (λ (is : List SkipIndex). i ∷ is) (all_left indexes version)

module _ {F : Type 0} (files_of : F → Option Files) (schema : Schema) (c : Condition Test) (table : List ℕ) where
  -- of a part, with FINAL or without it
  read_is : (is_final : Bool) (k : Kept (Part F)) (r : List Row) → k.part.loaded ≡ loaded_of schema r → read_of schema is_final c k ≡ chosen_granules schema [] is_final c (portion_of (core_part table k r))
  read_is true k r loaded = marked_is schema c r k loaded
  read_is false k r loaded =
      planned_is schema c r k loaded ∙ ap (chosen_by_indexes schema k.name.partition c r) (all_left schema.indexes (portion_of (core_part table k r)).version)

  -- the plan of parts that hold rows chooses the granules of these rows, where there is no mutation
  pub plan_is : (is_final : Bool) (kept : List (Kept (Part F))) (rows : List (List Row)) → PartsHold files_of schema kept rows
      → map (read_of schema is_final c) kept ≡ map (chosen_granules schema [] is_final c) (map portion_of (core_parts table kept rows))
  plan_is is_final [] [] h = refl
  plan_is is_final [] (r ∷ rows) h = absurd h
  plan_is is_final (k ∷ kept) [] h = absurd h
  plan_is is_final (k ∷ kept) (r ∷ rows) h =
      ap₂ (λ (b : List Bool) (bs : List (List Bool)). b ∷ bs)
      (read_is is_final k r h.0.loaded_is)
      (plan_is is_final kept rows h.1)

-- an EXPLAIN's answer, from the portions of its table and without a mutation
pub explains : (h : History) (s : SelectText) (schema : Schema) (q : Query) (ps : List Portion) (n : Counts) (place : ℕ) (reply : List ℕ)
    → schema_of s.table h ≡ Some schema → query_of schema.columns s ≡ Ok q → PortionsStand h s.table schema ps → mutations_in s.table h ≡ [] → n ≡ counts_of schema [] s.is_final q.condition ps
    → reply ≡ explain_line n place → Explains h s place reply
explains h s schema q ps n place reply there asked stand none counted is =
    record {
      schema = schema;
      there = there;
      query = q;
      asked = asked;
      portions = ps;
      stand = stand;
      reply_is = is ∙ ap (λ (m : Counts). explain_line m place) (counted ∙ ap (λ (ms : List Mutation). counts_of schema ms s.is_final q.condition ps) (sym none));
    }
