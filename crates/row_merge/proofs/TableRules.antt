-- The rule of each engine, as a table of it uses the rule.
use Rattle.std.proofs.Common.{◌≡◌, ◌⊎◌, inl, inr, ℕ, Bool, true, false, ◌&&◌, ◌||◌, List, [], ◌∷◌, Vec, length, pos, negsuc, slice_get, Option, None, Some, refl, sym, ap, ◌∙◌, subst}
use Rattle.std.specs.List.{All, list_all}
use Rattle.std.proofs.lemmas.List.Elements.{All-cons, All-head, All-nil, All-tail, All-weaker}
use Rattle.mt_base.specs.declared.partition.Partition.{Partition}
use Rattle.mt_values.specs.declared.engine.Aggregate.{Aggregate}
use Rattle.mt_values.specs.declared.engine.Engine.{Engine}
use Rattle.mt_values.specs.declared.engine.Engine.TheVariants as engine
use Rattle.mt_values.specs.declared.schema.Schema.{Schema}
use Rattle.mt_values.specs.declared.value.ColType.{ColType}
use Rattle.mt_values.specs.Engines.{is_sign, keeps_sign, sign_place}
use Rattle.mt_values.specs.Schemas.{column_types}
use Rattle.mt_values.specs.Tables.{has_sign, sorting_columns}
use Rattle.mt_values.specs.Values.{Row}
use Rattle.part_history.specs.mt_model.History.{IsTableSchema}
use Rattle.part_history.specs.mt_model.Partial.{TableRun, functions_of}
use Rattle.part_history.specs.mt_model.Rules.{HasSign, Run, is_one_of}
use Rattle.rule_replacing.specs.rule_law.TableRows.{IsTableRow}
use Rattle.rule_replacing.proofs.RuleLawApartColumns.{sorting_apart}
use Rattle.rule_replacing.proofs.RuleLawTableRows.{IsApart, even_columns}
use Rattle.row_merge.specs.Merged.{ArePartRows, inputs_of}

-- ---- signs

either_sign : (a b : Bool) → (a || b) ≡ true → (a ≡ true) ⊎ (b ≡ true)
either_sign true b e = inl refl
either_sign false b e = inr e

-- a sign that is kept is 1 or -1
pub sign_is : (schema : Schema) (sign : ℕ) → sign_place schema.engine ≡ Some sign → (row : Row) → has_sign schema row ≡ true → HasSign sign row
sign_is schema sign place row signed =
    either_sign (is_sign (pos 1) (slice_get row sign)) (is_sign (negsuc 0) (slice_get row sign)) (sym (ap (λ o. keeps_sign o row) place) ∙ signed)

pass_all : {X : Type 0} (p : X → Bool) (xs : List X) → list_all p xs ≡ true → All (λ x. p x ≡ true) xs
pass_all p [] all = All-nil (λ x. p x ≡ true)
pass_all p (x ∷ xs) all = by (p x) refl all (pass_all p xs)
  where
    by : (b : Bool) → p x ≡ b → (b && list_all p xs) ≡ true → (list_all p xs ≡ true → All (λ y. p y ≡ true) xs) → All (λ y. p y ≡ true) (x ∷ xs)
    by true e all rest = All-cons (λ y. p y ≡ true) x xs e (rest all)
    by false e all rest = cc

all_pass : {X : Type 0} (p : X → Bool) (xs : List X) → All (λ x. p x ≡ true) xs → list_all p xs ≡ true
all_pass p [] all = refl
all_pass p (x ∷ xs) all = ap (λ b. b && list_all p xs) (All-head (λ y. p y ≡ true) x xs all) ∙ all_pass p xs (All-tail (λ y. p y ≡ true) x xs all)

abbrev Signed : Schema → Row → Type 0
Signed schema row = has_sign schema row ≡ true

module _ {A : Type 0} (schema : Schema) where
  abbrev pub have_signs : Vec Row A → Bool
  have_signs input = list_all (has_sign schema) input.items

  items_all : (inputs : List (Vec Row A)) → All (λ input. have_signs input ≡ true) inputs → All (All (Signed schema)) (inputs_of inputs)
  items_all [] each = All-nil (All (Signed schema))
  items_all (input ∷ inputs) each =
      All-cons (All (Signed schema)) input.items (inputs_of inputs) (pass_all (has_sign schema) input.items (All-head (λ i. have_signs i ≡ true) input inputs each))
      (items_all inputs (All-tail (λ i. have_signs i ≡ true) input inputs each))

  -- the rows of inputs whose signs were looked at
  pub signed_all : (inputs : List (Vec Row A)) → list_all have_signs inputs ≡ true → All (All (Signed schema)) (inputs_of inputs)
  signed_all inputs found = items_all inputs (pass_all have_signs inputs found)

  -- rows of parts have their signs
  pub parts_signed : (partition : Partition) (inputs : List (Vec Row A)) → All (ArePartRows schema partition) (inputs_of inputs) → list_all have_signs inputs ≡ true
  parts_signed partition [] parts = refl
  parts_signed partition (input ∷ inputs) parts =
      let part = All-head (ArePartRows schema partition) input.items (inputs_of inputs) parts in
      let own : have_signs input ≡ true = all_pass (has_sign schema) input.items (All-weaker (IsTableRow schema) (Signed schema) (λ row is. is.signed) input.items part.own) in
      ap (λ b. b && list_all have_signs inputs) own ∙ parts_signed partition inputs (All-tail (ArePartRows schema partition) input.items (inputs_of inputs) parts)

-- ---- the columns that a rule leaves as they are

-- the columns by which a table's rows are sorted are among them
pub sums_kept : (schema : Schema) → IsTableSchema schema → (places : List ℕ) → schema.engine ≡ engine.Summing places → All (λ place. is_one_of places place ≡ false) (sorting_columns schema)
sums_kept schema table places is = subst (λ (e : Engine). All (IsApart e (functions_of schema)) (sorting_columns schema)) is (sorting_apart schema table)

pub functions_kept : (schema : Schema) → IsTableSchema schema → schema.engine ≡ engine.Aggregating → All (λ place. slice_get (functions_of schema) place ≡ Some None) (sorting_columns schema)
functions_kept schema table is = subst (λ (e : Engine). All (IsApart e (functions_of schema)) (sorting_columns schema)) is (sorting_apart schema table)

-- ---- what a rule leaves, as the table's

-- by the functions of the table, which only an aggregating one looks at
pub run_as : (schema : Schema) (e : Engine) → schema.engine ≡ e → (rows out : List Row) → Run e (functions_of schema) rows out → TableRun schema rows out
run_as schema e is rows out h = subst (λ (f : Engine). Run f (functions_of schema) rows out) (sym is) h

pub without_functions : (e : Engine) (functions : List (Option Aggregate)) → (e ≡ engine.Aggregating → ⊥) → (rows out : List Row) → Run e [] rows out → Run e functions rows out
without_functions engine.Plain functions other rows out h = h
without_functions (engine.Replacing None) functions other rows out h = h
without_functions (engine.Replacing (Some version)) functions other rows out h = h
without_functions (engine.Summing places) functions other rows out h = h
without_functions (engine.Collapsing sign) functions other rows out h = h
without_functions (engine.Versioned sign version) functions other rows out h = h
without_functions engine.Aggregating functions other rows out h = absurd (other refl)

pub run_of : (schema : Schema) (e : Engine) → schema.engine ≡ e → (e ≡ engine.Aggregating → ⊥) → (rows out : List Row) → Run e [] rows out → TableRun schema rows out
run_of schema e is other rows out h = run_as schema e is rows out (without_functions e (functions_of schema) other rows out h)

-- what each row of inputs has, where it has something else
pub each_row : (P Q : Row → Type 0) → ((row : Row) → P row → Q row) → (inputs : List (List Row)) → All (All P) inputs → All (All Q) inputs
each_row P Q stays inputs all = All-weaker (All P) (All Q) (λ rows own. All-weaker P Q stays rows own) inputs all

pub any_row : (inputs : List (List Row)) → All (All (λ row. Unit {0})) inputs
any_row inputs = λ k d below i e within. tt

-- rows of the types of a table have a function or none for each of their values
pub functions_fit : (schema : Schema) (types : List ColType) (functions : List (Option Aggregate)) → types ≡ column_types schema → functions ≡ functions_of schema → length functions ≡ length types
functions_fit schema types functions types_are are = ap length are ∙ even_columns schema ∙ sym (ap length types_are)
