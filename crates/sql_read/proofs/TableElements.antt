-- The elements of a CREATE take at least one token each, and which way one goes by the next token.
use Rattle.std.proofs.Common.{◌≡◌, ℕ, true, false, List, Option, Some, None, Result, arith, codes}
use Rattle.mt_base.specs.declared.stop.Stop.{Stop}
use Rattle.mt_values.specs.declared.engine.Aggregate.{Aggregate}
use Rattle.mt_values.specs.declared.statement.Element.{Element}
use Rattle.mt_values.specs.declared.statement.Element.TheVariants as element
use Rattle.mt_values.specs.declared.statement.KindText.{KindText}
use Rattle.mt_values.specs.declared.statement.KindText.TheVariants as kind
use Rattle.mt_values.specs.declared.statement.Slip.{Slip}
use Rattle.mt_values.specs.declared.token.Placed.{Placed}
use Rattle.mt_values.specs.declared.token.Symbol.TheVariants as symbol
use Rattle.mt_values.specs.declared.value.ColType.{ColType}
use Rattle.mt_values.specs.Grammar.{aggregated_type, column, column_type, exactly, function, index, index_kind, is_word, keyword, name, number, plain, plain_type, same_bytes, set_kind, table_element, the}
use Rattle.mt_values.specs.Readers.{Reader, expect}
use Rattle.mt_values.specs.Tokens.{is_keyword}
use Rattle.sql_read.specs.Parts.{minmax_kind}
use Rattle.sql_read.specs.Reads.{Reads, first_is}
use Rattle.sql_read.proofs.Chains.{reads_other, reads_this}
use Rattle.sql_read.proofs.Joined.{choose_both}
use Rattle.sql_read.proofs.Listed.{TakesToken, expect_takes}

abbrev pub column_said : List ℕ → ColType × Option Aggregate → Element
column_said n t = element.Column (record { name = n; col_type = t.0; function = t.1 })

abbrev pub index_said : List ℕ → List ℕ → KindText → List ℕ → Element
index_said n c k digits = element.Index (record { name = n; column = c; kind = k; granularity = digits })

module _ {S : Type 0} where
  -- what follows the name of a function
  abbrev pub aggregated_end : (ColType × Option Aggregate → Reader S) → Aggregate → Reader S
  aggregated_end f a = expect (the symbol.Comma) (λ u. expect plain (λ t. expect (the symbol.Close) (λ v. f (t, Some a))))

  end_takes : (a : Aggregate) → TakesToken {S = S} (λ f. aggregated_end f a)
  end_takes a next other ts same =
      expect_takes (the symbol.Comma) (λ u. expect plain (λ t. expect (the symbol.Close) (λ v. next (t, Some a)))) (λ u. expect plain (λ t. expect (the symbol.Close) (λ v. other (t, Some a)))) ts
      (λ u us less.
      expect_takes plain (λ t. expect (the symbol.Close) (λ v. next (t, Some a))) (λ t. expect (the symbol.Close) (λ v. other (t, Some a))) us
      (λ t vs fewer.
      expect_takes (the symbol.Close) (λ v. next (t, Some a)) (λ v. other (t, Some a)) vs
      (λ v ws least. same (t, Some a) ws (omega arith))))

  aggregated_takes : TakesToken {S = S} aggregated_type
  aggregated_takes next other ts same =
      expect_takes (exactly (codes "SimpleAggregateFunction")) (λ u. expect (the symbol.Open) (λ v. expect function (aggregated_end next))) (λ u. expect (the symbol.Open) (λ v. expect function (aggregated_end other))) ts
      (λ u us less.
      expect_takes (the symbol.Open) (λ v. expect function (aggregated_end next)) (λ v. expect function (aggregated_end other)) us
      (λ v vs fewer.
      expect_takes function (aggregated_end next) (aggregated_end other) vs
      (λ a ws least. end_takes a next other ws (λ t xs last. same t xs (omega arith)))))

  plain_takes : TakesToken {S = S} plain_type
  plain_takes next other ts same = expect_takes plain (λ t. next (t, None)) (λ t. other (t, None)) ts (λ t us less. same (t, None) us less)

  type_takes : TakesToken {S = S} column_type
  type_takes next other ts same =
      choose_both (is_word (same_bytes (codes "SimpleAggregateFunction"))) (aggregated_type next) (aggregated_type other) (plain_type next) (plain_type other) ts
      (aggregated_takes next other ts same) (plain_takes next other ts same)

  column_takes : TakesToken {S = S} column
  column_takes next other ts same =
      expect_takes name (λ n. column_type (λ t. next (column_said n t))) (λ n. column_type (λ t. other (column_said n t))) ts
      (λ n us less. type_takes (λ t. next (column_said n t)) (λ t. other (column_said n t)) us (λ t vs fewer. same (column_said n t) vs (omega arith)))

  minmax_takes : TakesToken {S = S} minmax_kind
  minmax_takes next other ts same = expect_takes (exactly (codes "minmax")) (λ u. next kind.MinMax) (λ u. other kind.MinMax) ts (λ u us less. same kind.MinMax us less)

  set_takes : TakesToken {S = S} set_kind
  set_takes next other ts same =
      let closed = λ (f : KindText → Reader S) (digits : List ℕ). expect (the symbol.Close) (λ u. f (kind.Set digits)) in
      expect_takes (exactly (codes "set")) (λ u. expect (the symbol.Open) (λ v. expect number (closed next))) (λ u. expect (the symbol.Open) (λ v. expect number (closed other))) ts
      (λ u us less.
      expect_takes (the symbol.Open) (λ v. expect number (closed next)) (λ v. expect number (closed other)) us
      (λ v vs fewer.
      expect_takes number (closed next) (closed other) vs
      (λ digits ws least.
      expect_takes (the symbol.Close) (λ u. next (kind.Set digits)) (λ u. other (kind.Set digits)) ws
      (λ u xs last. same (kind.Set digits) xs (omega arith)))))

  kind_takes : TakesToken {S = S} index_kind
  kind_takes next other ts same =
      choose_both (is_word (same_bytes (codes "minmax"))) (minmax_kind next) (minmax_kind other) (set_kind next) (set_kind other) ts
      (minmax_takes next other ts same) (set_takes next other ts same)

  -- what follows the names of an index
  abbrev kind_then : List ℕ → List ℕ → (Element → Reader S) → Reader S
  kind_then n c f = expect (keyword (codes "TYPE")) (λ u. index_kind (λ k. expect (keyword (codes "GRANULARITY")) (λ v. expect number (λ digits. f (index_said n c k digits)))))

  then_takes : (n c : List ℕ) → TakesToken {S = S} (kind_then n c)
  then_takes n c next other ts same =
      let sized = λ (f : Element → Reader S) (k : KindText). expect (keyword (codes "GRANULARITY")) (λ v. expect number (λ digits. f (index_said n c k digits))) in
      expect_takes (keyword (codes "TYPE")) (λ u. index_kind (sized next)) (λ u. index_kind (sized other)) ts
      (λ u us less.
      kind_takes (sized next) (sized other) us
      (λ k vs fewer.
      expect_takes (keyword (codes "GRANULARITY")) (λ v. expect number (λ digits. next (index_said n c k digits))) (λ v. expect number (λ digits. other (index_said n c k digits))) vs
      (λ v ws least.
      expect_takes number (λ digits. next (index_said n c k digits)) (λ digits. other (index_said n c k digits)) ws
      (λ digits xs last. same (index_said n c k digits) xs (omega arith)))))

  index_takes : TakesToken {S = S} index
  index_takes next other ts same =
      expect_takes (keyword (codes "INDEX")) (λ u. expect name (λ n. expect name (λ c. kind_then n c next))) (λ u. expect name (λ n. expect name (λ c. kind_then n c other))) ts
      (λ u us less.
      expect_takes name (λ n. expect name (λ c. kind_then n c next)) (λ n. expect name (λ c. kind_then n c other)) us
      (λ n vs fewer.
      expect_takes name (λ c. kind_then n c next) (λ c. kind_then n c other) vs
      (λ c ws least. then_takes n c next other ws (λ e xs last. same e xs (omega arith)))))

  pub element_takes : TakesToken {S = S} table_element
  element_takes next other ts same =
      choose_both (is_word (is_keyword (codes "INDEX"))) (index next) (index other) (column next) (column other) ts
      (index_takes next other ts same) (column_takes next other ts same)

-- ---- by the code

module _ (from : List Placed) (r : Result KindText (Stop Slip)) (to : List Placed) where
  -- minmax comes next
  pub reads_minmax : first_is (is_word (same_bytes (codes "minmax"))) from ≡ true → Reads minmax_kind from r to → Reads index_kind from r to
  reads_minmax here read = reads_this (is_word (same_bytes (codes "minmax"))) minmax_kind set_kind from here r to read

  -- it doesn't
  pub reads_set : first_is (is_word (same_bytes (codes "minmax"))) from ≡ false → Reads set_kind from r to → Reads index_kind from r to
  reads_set none read = reads_other (is_word (same_bytes (codes "minmax"))) minmax_kind set_kind from none r to read

module _ (from : List Placed) (r : Result (ColType × Option Aggregate) (Stop Slip)) (to : List Placed) where
  -- SimpleAggregateFunction comes next
  pub reads_aggregated : first_is (is_word (same_bytes (codes "SimpleAggregateFunction"))) from ≡ true → Reads aggregated_type from r to → Reads column_type from r to
  reads_aggregated here read = reads_this (is_word (same_bytes (codes "SimpleAggregateFunction"))) aggregated_type plain_type from here r to read

  -- it doesn't
  pub reads_plain : first_is (is_word (same_bytes (codes "SimpleAggregateFunction"))) from ≡ false → Reads plain_type from r to → Reads column_type from r to
  reads_plain none read = reads_other (is_word (same_bytes (codes "SimpleAggregateFunction"))) aggregated_type plain_type from none r to read

module _ (from : List Placed) (r : Result Element (Stop Slip)) (to : List Placed) where
  -- INDEX comes next
  pub reads_index : first_is (is_word (is_keyword (codes "INDEX"))) from ≡ true → Reads index from r to → Reads table_element from r to
  reads_index here read = reads_this (is_word (is_keyword (codes "INDEX"))) index column from here r to read

  -- it doesn't
  pub reads_column : first_is (is_word (is_keyword (codes "INDEX"))) from ≡ false → Reads column from r to → Reads table_element from r to
  reads_column none read = reads_other (is_word (is_keyword (codes "INDEX"))) index column from none r to read
