-- The numbers of a table without mutations; the commands that drew numbers of a table may come into it; its schema; and the rows of one partition among those that are kept.
use Rattle.std.proofs.Common.{◌≡◌, ℕ, ◌+◌, ◌-◌, ◌<◌, ◌≤◌, Bool, true, false, cond, ◌&&◌, List, [], ◌∷◌, ◌++◌, Some, None, length, slice_get, refl, sym, ap, ap₂, ◌∙◌, subst, append_assoc, arith, zero, suc}
use Rattle.std.specs.List.{flat_map, AllByRecursion}
use Rattle.std.specs.Ordering.{is_eq}
use Rattle.std.proofs.lemmas.Bool.Decides.{nat_tests}
use Rattle.std.proofs.lemmas.List.Elements.{filter-append, recursion_from_All}
use Rattle.mt_base.specs.declared.partition.Partition.{Partition}
use Rattle.mt_values.specs.declared.command.Command.{Command}
use Rattle.mt_values.specs.declared.command.Command.TheVariants as command
use Rattle.mt_values.specs.declared.command.Insert.{Insert}
use Rattle.mt_values.specs.Grammar.{same_bytes}
use Rattle.mt_values.specs.declared.schema.Schema.{Schema}
use Rattle.mt_values.specs.Tables.{partition_of, same_partition, sorting_cmp}
use Rattle.mt_values.specs.Values.{Row}
use Rattle.rule_law.specs.mt_model.History.{History, IsAllowed, IsInsertInto, IsLegal, IsLegalAfter, IsTableSchema, first_of, schema_by, schema_of}
use Rattle.rule_law.specs.mt_model.Live.{of_key}
use Rattle.rule_law.specs.mt_model.Mutations.{IsChangeOf}
use Rattle.rule_law.specs.mt_model.Numbers.{IsNumberOfInsert, draws, lies_within, mutations_among, mutations_in, numbered}
use Rattle.rule_law.proofs.MtModelCommands.{partition_is}
use Rattle.rule_law.proofs.MtModelHistories.{schema_kept}
use Rattle.rule_law.proofs.MtModelTables.{same_is}
use Rattle.part_history.proofs.Settled.{IsBlockOf, IsInto, IsSettled, kept, kept_if, rows_by}

-- ---- the numbers of a table without mutations

-- a command that draws a number
abbrev Draws : Command → Type 0
Draws (command.Create c) = ⊥
Draws (command.Insert i) = Unit {0}
Draws (command.Alter a) = Unit {0}

drawn_by : (t : List ℕ) (c : Command) (cs : List Command) → AllByRecursion Draws cs → AllByRecursion Draws (cond (draws t c) (c ∷ cs) cs)
drawn_by t (command.Create c) cs all = all
drawn_by t (command.Insert i) cs all = by (same_bytes i.table t)
  where
    by : (b : Bool) → AllByRecursion Draws (cond b (command.Insert i ∷ cs) cs)
    by true = (tt, all)
    by false = all
drawn_by t (command.Alter a) cs all = by (same_bytes a.table t)
  where
    by : (b : Bool) → AllByRecursion Draws (cond b (command.Alter a ∷ cs) cs)
    by true = (tt, all)
    by false = all

all_drawn : (t : List ℕ) (h : History) → AllByRecursion Draws (numbered t h)
all_drawn t [] = tt
all_drawn t (e ∷ h) = drawn_by t e.command (numbered t h) (all_drawn t h)

insert_at : (n : ℕ) (cs : List Command) (k : ℕ) → AllByRecursion Draws cs → mutations_among n cs ≡ [] → k < length cs → (i : Insert) × (slice_get cs k ≡ Some (command.Insert i))
insert_at n [] k all none lt = absurd (omega arith)
insert_at n (command.Create c ∷ cs) k all none lt = absurd all.0
insert_at n (command.Alter a ∷ cs) k all none lt = cc
insert_at n (command.Insert i ∷ cs) zero all none lt = (i, refl)
insert_at n (command.Insert i ∷ cs) (suc k) all none lt = insert_at (n + 1) cs k all.1 none (omega arith)

-- each number of such a table up to the last one is that of an INSERT of some partition
pub insert_drawn : (t : List ℕ) (h : History) (n : ℕ) → mutations_in t h ≡ [] → 1 ≤ n → n ≤ length (numbered t h) → (w : Partition) × IsNumberOfInsert t w n h
insert_drawn t h n none from upto =
    let found = insert_at 1 (numbered t h) (n - 1) (all_drawn t h) none (omega (arith, from, upto)) in
    (found.0.partition, record { from_one = from; insert = found.0; there = found.1; partition_is = refl })

-- ---- the commands of a table

into_by : (t : List ℕ) (before h : History) (schema : Schema) (c : Command) (cs : List Command) → IsAllowed before c → schema_of t (before ++ h) ≡ Some schema → AllByRecursion (IsInto schema) cs
    → AllByRecursion (IsInto schema) (cond (draws t c) (c ∷ cs) cs)
into_by t before h schema (command.Create c) cs allowed there all = all
into_by t before h schema (command.Insert i) cs allowed there all = by (same_bytes i.table t) refl
  where
    by : (b : Bool) → same_bytes i.table t ≡ b → AllByRecursion (IsInto schema) (cond b (command.Insert i ∷ cs) cs)
    by true named =
        let here : schema_of t before ≡ Some allowed.0 = ap (λ u. schema_of u before) (sym (same_is i.table t named)) ∙ allowed.1 in
        let both : Some allowed.0 ≡ Some schema = sym (schema_kept t before h allowed.0 here) ∙ there in
        let same : allowed.0 ≡ schema = cc in
        (subst (λ (s : Schema). IsInsertInto s i) same allowed.2, all)
    by false apart = all
into_by t before h schema (command.Alter a) cs allowed there all = by (same_bytes a.table t) refl
  where
    by : (b : Bool) → same_bytes a.table t ≡ b → AllByRecursion (IsInto schema) (cond b (command.Alter a ∷ cs) cs)
    by true named =
        let here : schema_of t before ≡ Some allowed.0 = ap (λ u. schema_of u before) (sym (same_is a.table t named)) ∙ allowed.1 in
        let both : Some allowed.0 ≡ Some schema = sym (schema_kept t before h allowed.0 here) ∙ there in
        let same : allowed.0 ≡ schema = cc in
        (subst (λ (s : Schema). IsChangeOf s a.change) same allowed.2, all)
    by false apart = all

into_after : (t : List ℕ) (before h : History) (schema : Schema) → IsLegalAfter before h → schema_of t (before ++ h) ≡ Some schema → AllByRecursion (IsInto schema) (numbered t h)
into_after t before [] schema legal there = tt
into_after t before (e ∷ h) schema legal there =
    into_by t before (e ∷ h) schema e.command (numbered t h) legal.0 there
    (into_after t (before ++ e ∷ []) h schema legal.1 (ap (schema_of t) (append_assoc before (e ∷ []) h) ∙ there))

-- the commands that drew numbers of a table may come into it
pub all_into : (t : List ℕ) (h : History) (schema : Schema) → IsLegal h → schema_of t h ≡ Some schema → AllByRecursion (IsInto schema) (numbered t h)
all_into t h schema legal there = into_after t [] h schema legal there

-- what is read at a place of them may too
pub into_at : (schema : Schema) (cs : List Command) (k : ℕ) (i : Insert) → AllByRecursion (IsInto schema) cs → slice_get cs k ≡ Some (command.Insert i) → IsInsertInto schema i
into_at schema [] k i all is = cc
into_at schema (c ∷ cs) zero i all is = by c all.0 is
  where
    by : (c : Command) → IsInto schema c → Some c ≡ Some (command.Insert i) → IsInsertInto schema i
    by (command.Create c) into same = absurd into
    by (command.Insert j) into same = let one : j ≡ i = cc in subst (IsInsertInto schema) one into
    by (command.Alter a) into same = cc
into_at schema (c ∷ cs) (suc k) i all is = into_at schema cs k i all.1 is

schema_after : (t : List ℕ) (before h : History) (schema : Schema) → IsLegalAfter before h → schema_of t h ≡ Some schema → IsTableSchema schema
schema_after t before [] schema legal is = cc
schema_after t before (e ∷ h) schema legal is = by e.command legal.0 is (λ later. schema_after t (before ++ e ∷ []) h schema legal.1 later)
  where
    by : (c : Command) → IsAllowed before c → first_of (schema_by t c) (schema_of t h) ≡ Some schema → (schema_of t h ≡ Some schema → IsTableSchema schema) → IsTableSchema schema
    by (command.Create c) allowed first rest = named (same_bytes c.table t) first
      where
        named : (b : Bool) → first_of (cond b (Some c.schema) None) (schema_of t h) ≡ Some schema → IsTableSchema schema
        named true same = let one : c.schema ≡ schema = cc in subst IsTableSchema one allowed.2
        named false same = rest same
    by (command.Insert i) allowed first rest = rest first
    by (command.Alter a) allowed first rest = rest first

-- the schema of a table of a legal history is one that a table may have
pub legal_schema : (t : List ℕ) (h : History) (schema : Schema) → IsLegal h → schema_of t h ≡ Some schema → IsTableSchema schema
legal_schema t h schema legal is = schema_after t [] h schema legal is

-- ---- the rows of one partition

-- rows of a partition have no row of another one
rows_apart : (schema : Schema) (w p : Partition) (row : Row) (rows : List Row) → same_partition p w ≡ false → AllByRecursion (λ (r : Row). partition_of schema r ≡ p) rows → of_key schema w row rows ≡ []
rows_apart schema w p row [] apart own = refl
rows_apart schema w p row (r ∷ rows) apart own =
    ap (λ b. cond (b && is_eq (sorting_cmp schema row r)) (r ∷ of_key schema w row rows) (of_key schema w row rows)) (ap (λ v. same_partition v w) own.0 ∙ apart)
    ∙ rows_apart schema w p row rows apart own.1

-- neither has an INSERT of another one
insert_apart : (schema : Schema) (w : Partition) (row : Row) (i : Insert) → IsBlockOf schema i → same_partition i.partition w ≡ false → of_key schema w row i.block.rows ≡ []
insert_apart schema w row i block apart = rows_apart schema w i.partition row i.block.rows apart (recursion_from_All (λ (r : Row). partition_of schema r ≡ i.partition) i.block.rows block.own)

module _ (schema : Schema) (w : Partition) (row : Row) where
  -- one command more
  key_more : (i : Insert) (cs : List Command) → of_key schema w row (flat_map rows_by (command.Insert i ∷ cs)) ≡ of_key schema w row i.block.rows ++ of_key schema w row (flat_map rows_by cs)
  key_more i cs = filter-append (λ r. same_partition (partition_of schema r) w && is_eq (sorting_cmp schema row r)) i.block.rows (flat_map rows_by cs)

  -- what is kept for another partition has none of its rows
  pub kept_apart : (p : Partition) (a b n : ℕ) (cs : List Command) → AllByRecursion (IsSettled schema) cs → same_partition p w ≡ false → of_key schema w row (flat_map rows_by (kept p a b n cs)) ≡ []
  kept_apart p a b n [] all apart = refl
  kept_apart p a b n (command.Create c ∷ cs) all apart = absurd all.0
  kept_apart p a b n (command.Alter c ∷ cs) all apart = kept_apart p a b (n + 1) cs all.1 apart
  kept_apart p a b n (command.Insert i ∷ cs) all apart = by (same_partition i.partition p) (lies_within a b n) refl (kept_apart p a b (n + 1) cs all.1 apart)
    where
      by : (x y : Bool) → same_partition i.partition p ≡ x → of_key schema w row (flat_map rows_by (kept p a b (n + 1) cs)) ≡ []
          → of_key schema w row (flat_map rows_by (kept_if (x && y) (command.Insert i) (kept p a b (n + 1) cs))) ≡ []
      by true true is rest =
          let other : same_partition i.partition w ≡ false = ap (λ v. same_partition v w) (partition_is i.partition p is) ∙ apart in
          key_more i (kept p a b (n + 1) cs) ∙ ap₂ (λ (xs ys : List Row). xs ++ ys) (insert_apart schema w row i all.0 other) rest
      by true false is rest = rest
      by false y is rest = rest

  -- all of its rows are in what is kept for it
  pub kept_all : (a top n : ℕ) (cs : List Command) → AllByRecursion (IsSettled schema) cs → a ≤ n → n + length cs ≤ top + 1
      → of_key schema w row (flat_map rows_by (kept w a top n cs)) ≡ of_key schema w row (flat_map rows_by cs)
  kept_all a top n [] all from upto = refl
  kept_all a top n (command.Create c ∷ cs) all from upto = absurd all.0
  kept_all a top n (command.Alter c ∷ cs) all from upto = kept_all a top (n + 1) cs all.1 (omega arith) (omega arith)
  kept_all a top n (command.Insert i ∷ cs) all from upto = by (same_partition i.partition w) refl (kept_all a top (n + 1) cs all.1 (omega arith) (omega arith))
    where
      here : lies_within a top n ≡ true
      here = let most : n ≤ top = omega (arith, upto) in grind (arith, nat_tests, most, from)

      by : (x : Bool) → same_partition i.partition w ≡ x → of_key schema w row (flat_map rows_by (kept w a top (n + 1) cs)) ≡ of_key schema w row (flat_map rows_by cs)
          → of_key schema w row (flat_map rows_by (kept_if (x && lies_within a top n) (command.Insert i) (kept w a top (n + 1) cs))) ≡ of_key schema w row (flat_map rows_by (command.Insert i ∷ cs))
      by true is rest =
          ap (λ b. of_key schema w row (flat_map rows_by (kept_if b (command.Insert i) (kept w a top (n + 1) cs)))) here
          ∙ (key_more i (kept w a top (n + 1) cs) ∙ (ap (λ (ys : List Row). of_key schema w row i.block.rows ++ ys) rest ∙ sym (key_more i cs)))
      by false is rest =
          rest ∙ (ap (λ (xs : List Row). xs ++ of_key schema w row (flat_map rows_by cs)) (sym (insert_apart schema w row i all.0 is)) ∙ sym (key_more i cs))
