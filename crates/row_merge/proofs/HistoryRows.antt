-- The live rows of a table, and the rows of its parts that stand for a history, are rows as merges take them.
use Rattle.std.proofs.Common.{◌≡◌, ℕ, List, sym, subst, ◌∙◌, Some}
use Rattle.std.specs.List.{All}
use Rattle.std.specs.List.Sorted.{IsSorted}
use Rattle.mt_values.specs.declared.schema.Schema.{Schema}
use Rattle.mt_values.specs.Tables.{partition_of, sorting_cmp}
use Rattle.mt_values.specs.Values.{Row}
use Rattle.part_history.specs.mt_model.History.{History, IsLegal, schema_of}
use Rattle.part_history.specs.mt_model.Live.{live}
use Rattle.part_history.specs.mt_model.Numbers.{Reach, numbered, reached}
use Rattle.part_history.specs.declared.part.CorePart.{CorePart}
use Rattle.part_history.specs.Parts.{PartStands, reach_of_part}
use Rattle.part_history.proofs.Numbered.{all_into, legal_schema}
use Rattle.part_history.proofs.Settled.{all_rows, all_settled, any, kept_rows, live_numbered, live_reached, settled, upto}
use Rattle.rule_replacing.specs.rule_law.TableRows.{IsTableRow}
use Rattle.rule_replacing.proofs.RuleLawPartlyRows.{partly_table}
use Rattle.row_merge.specs.Merged.{ArePartRows}

pub same_schema : (a b : Schema) → Some a ≡ Some b → a ≡ b
same_schema a b is = cc

module _ (h : History) (legal : IsLegal h) where
  -- the live rows of a table are rows of it
  pub table_rows : (table : List ℕ) (schema : Schema) → schema_of table h ≡ Some schema → All (IsTableRow schema) (live table schema h)
  table_rows table schema there =
      let cs = numbered table h in
      let drawn = all_settled schema (legal_schema table h schema legal there) any 1 cs (all_into table h schema legal there) in
      subst (All (IsTableRow schema)) (sym (live_numbered table schema h)) (all_rows schema (settled schema any 1 cs) drawn)

  live_rows : (schema : Schema) (r : Reach) → schema_of r.table h ≡ Some schema → All (IsTableRow schema) (live r.table schema (reached r h))
  live_rows schema r there =
      let cs = numbered r.table h in
      let drawn = all_settled schema (legal_schema r.table h schema legal there) (upto r.version) 1 cs (all_into r.table h schema legal there) in
      subst (All (IsTableRow schema)) (sym (live_reached schema r h)) (kept_rows schema r.partition r.least r.greatest 1 (settled schema (upto r.version) 1 cs) drawn)

  -- the rows of a part that stands for the history
  part_rows : (part : CorePart) (s : PartStands h part) → All (IsTableRow s.schema) part.rows
  part_rows part s =
      partly_table s.schema (live part.table s.schema (reached (reach_of_part part) h)) part.rows (live_rows s.schema (reach_of_part part) s.there) s.stands.partly

  pub are_part_rows : (schema : Schema) (part : CorePart) → schema_of part.table h ≡ Some schema → PartStands h part → All (λ (row : Row). partition_of schema row ≡ part.name.partition) part.rows → ArePartRows schema part.name.partition part.rows
  are_part_rows schema part there s parted =
      let same : s.schema ≡ schema = same_schema s.schema schema (sym s.there ∙ there) in
      record {
        own = subst (λ (x : Schema). All (IsTableRow x) part.rows) same (part_rows part s);
        parted = parted;
        rising = subst (λ (x : Schema). IsSorted (sorting_cmp x) part.rows) same s.stands.rising;
      }
