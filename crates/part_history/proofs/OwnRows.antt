-- The rows of a part that stands for a history are of its partition.
use Rattle.std.proofs.Common.{◌≡◌, ℕ, Bool, true, false, cond, ◌&&◌, List, [], ◌∷◌, Some, get_or, refl, sym, ap, ◌∙◌, subst}
use Rattle.std.specs.List.{All, AllByRecursion}
use Rattle.std.specs.Ordering.{is_eq}
use Rattle.std.proofs.lemmas.Cmp.{tied_itself}
use Rattle.std.proofs.lemmas.List.Elements.{All-from_recursion}
use Rattle.mt_base.specs.declared.partition.Partition.{Partition}
use Rattle.mt_values.specs.declared.schema.Schema.{Schema}
use Rattle.mt_values.specs.Tables.{partition_of, same_partition, sorting_cmp}
use Rattle.mt_values.specs.Values.{Row}
use Rattle.rule_law.specs.mt_model.Folding.{ComesFrom}
use Rattle.rule_law.specs.mt_model.History.{History, IsLegal, schema_of}
use Rattle.rule_law.specs.mt_model.Live.{live, of_key}
use Rattle.rule_law.specs.mt_model.Numbers.{Reach, numbered, reached}
use Rattle.rule_law.specs.mt_model.Partial.{TableRun}
use Rattle.rule_law.proofs.MtModelCommands.{partition_is, same_itself}
use Rattle.rule_law.proofs.MtModelDetermined.{sorting_total}
use Rattle.rule_law.proofs.MtModelMerged.{comes_none}
use Rattle.part_history.specs.declared.part.CorePart.{CorePart}
use Rattle.part_history.specs.Parts.{PartStands, TableStands, reach_of_part}
use Rattle.part_history.proofs.Numbered.{all_into, kept_apart, legal_schema}
use Rattle.part_history.proofs.Schemas.{same_schema}
use Rattle.part_history.proofs.Settled.{all_settled, live_reached, settled, upto}

-- rows of which none has a key of another partition are of this one
module _ (schema : Schema) (p : Partition) where
  -- none of the rows has this key
  abbrev None_ : Partition → Row → List Row → Type 0
  None_ w row rows = of_key schema w row rows ≡ []

  rest_none : (w : Partition) (row r : Row) (rows : List Row) → None_ w row (r ∷ rows) → None_ w row rows
  rest_none w row r rows none = by (same_partition (partition_of schema r) w && is_eq (sorting_cmp schema row r)) none
    where
      by : (b : Bool) → cond b (r ∷ of_key schema w row rows) (of_key schema w row rows) ≡ [] → None_ w row rows
      by true is = cc
      by false is = is

  here_own : (r : Row) (rows : List Row) → ((w : Partition) (row : Row) → same_partition p w ≡ false → None_ w row (r ∷ rows)) → partition_of schema r ≡ p
  here_own r rows none = by (same_partition p (partition_of schema r)) refl
    where
      mine : (same_partition (partition_of schema r) (partition_of schema r) && is_eq (sorting_cmp schema r r)) ≡ true
      mine = rw (same_itself (partition_of schema r)) (ap is_eq (tied_itself (sorting_total schema) r))

      by : (b : Bool) → same_partition p (partition_of schema r) ≡ b → partition_of schema r ≡ p
      by true is = sym (partition_is p (partition_of schema r) is)
      by false is =
          let gone : cond true (r ∷ of_key schema (partition_of schema r) r rows) (of_key schema (partition_of schema r) r rows) ≡ [] =
          ap (λ b. cond b (r ∷ of_key schema (partition_of schema r) r rows) (of_key schema (partition_of schema r) r rows)) (sym mine) ∙ none (partition_of schema r) r is in
          cc

  all_own : (rows : List Row) → ((w : Partition) (row : Row) → same_partition p w ≡ false → None_ w row rows) → AllByRecursion (λ (r : Row). partition_of schema r ≡ p) rows
  all_own [] none = tt
  all_own (r ∷ rows) none = (here_own r rows none, all_own rows (λ w row apart. rest_none w row r rows (none w row apart)))

module _ (h : History) (legal : IsLegal h) where
  -- a part has no row of another partition
  none_apart : (part : CorePart) (s : PartStands h part) (w : Partition) (row : Row) → same_partition part.name.partition w ≡ false → of_key s.schema w row part.rows ≡ []
  none_apart part s w row apart =
      let r : Reach = reach_of_part part in
      let none : of_key s.schema w row (live part.table s.schema (reached r h)) ≡ [] =
      ap (of_key s.schema w row) (live_reached s.schema r h)
      ∙ kept_apart s.schema w row r.partition r.least r.greatest 1 (settled s.schema (upto r.version) 1 (numbered part.table h))
      (all_settled s.schema (legal_schema part.table h s.schema legal s.there) (upto r.version) 1 (numbered part.table h) (all_into part.table h s.schema legal s.there)) apart in
      comes_none (TableRun s.schema) (of_key s.schema w row part.rows)
      (subst (λ (rows : List Row). ComesFrom (TableRun s.schema) rows (of_key s.schema w row part.rows)) none (s.stands.partly w row))

  pub part_own : (part : CorePart) → PartStands h part → (schema : Schema) → schema_of part.table h ≡ Some schema → All (λ (r : Row). partition_of schema r ≡ part.name.partition) part.rows
  part_own part s schema there =
      let same : s.schema ≡ schema = same_schema s.schema schema (sym s.there ∙ there) in
      subst (λ (x : Schema). All (λ (r : Row). partition_of x r ≡ part.name.partition) part.rows) same
      (All-from_recursion (λ (r : Row). partition_of s.schema r ≡ part.name.partition) part.rows (all_own s.schema part.name.partition part.rows (none_apart part s)))

  pub own_rows : (table : List ℕ) (schema : Schema) (parts : List CorePart) → schema_of table h ≡ Some schema → TableStands table parts h
      → All (λ (p : CorePart). All (λ (r : Row). partition_of schema r ≡ p.name.partition) p.rows) parts
  own_rows table schema parts there stands = λ k d within.
      part_own (get_or parts k d) (stands.each k d within) schema (ap (λ t. schema_of t h) (stands.own k d within) ∙ there)
