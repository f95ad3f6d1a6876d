-- The parts that stand for a table, as portions of its rows.
use Rattle.std.proofs.Common.{◌≡◌, ℕ, ◌+◌, cond, List, [], ◌∷◌, Some, map, refl, sym, ap, ◌∙◌, subst}
use Rattle.std.specs.List.{AllByRecursion, count_by}
use Rattle.std.proofs.lemmas.List.Elements.{All-from_recursion, recursion_from_All}
use Rattle.std.proofs.lemmas.List.Sums.{sum_by-cons}
use Rattle.mt_base.specs.declared.partition.Partition.{Partition}
use Rattle.mt_values.specs.declared.schema.Schema.{Schema}
use Rattle.rule_law.specs.mt_model.Explain.{Portion, PortionStands, PortionsStand, has_number}
use Rattle.rule_law.specs.mt_model.History.{History, schema_of}
use Rattle.rule_law.specs.mt_model.Reaches.{ReachStands}
use Rattle.part_history.specs.declared.part.CorePart.{CorePart}
use Rattle.part_history.specs.Parts.{PartStands, TableStands, has_block, portion_of, reach_of_part}
use Rattle.part_history.proofs.Schemas.{same_schema}

-- as many portions have a number as parts have it in their blocks
counted : (partition : Partition) (n : ℕ) (parts : List CorePart) → count_by (has_number partition n) (map portion_of parts) ≡ count_by (has_block partition n) parts
counted partition n [] = refl
counted partition n (p ∷ ps) =
    sum_by-cons (λ (q : Portion). cond (has_number partition n q) 1 0) (portion_of p) (map portion_of ps)
    ∙ (ap (λ k. cond (has_block partition n p) 1 0 + k) (counted partition n ps)
    ∙ sym (sum_by-cons (λ (q : CorePart). cond (has_block partition n q) 1 0) p ps))

module _ (h : History) (table : List ℕ) (schema : Schema) (there : schema_of table h ≡ Some schema) where
  one : (p : CorePart) → p.table ≡ table → PartStands h p → PortionStands h table schema (portion_of p)
  one p own s =
      let same : s.schema ≡ schema = same_schema s.schema schema (sym s.there ∙ (ap (λ t. schema_of t h) own ∙ there)) in
      subst (λ (t : List ℕ). PortionStands h t schema (portion_of p)) own (subst (λ (x : Schema). ReachStands h x (reach_of_part p) p.rows) same s.stands)

  each : (parts : List CorePart) → AllByRecursion (λ (p : CorePart). p.table ≡ table) parts → AllByRecursion (PartStands h) parts → AllByRecursion (PortionStands h table schema) (map portion_of parts)
  each [] own all = tt
  each (p ∷ ps) own all = (one p own.0 all.0, each ps own.1 all.1)

  pub portions_stand : (parts : List CorePart) → TableStands table parts h → PortionsStand h table schema (map portion_of parts)
  portions_stand parts s = record {
    each = All-from_recursion (PortionStands h table schema) (map portion_of parts)
        (each parts (recursion_from_All (λ (p : CorePart). p.table ≡ table) parts s.own) (recursion_from_All (PartStands h) parts s.each));
    once = λ partition n is. counted partition n parts ∙ s.once partition n is;
  }
