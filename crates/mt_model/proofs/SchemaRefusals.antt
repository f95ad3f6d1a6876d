-- What a CREATE is refused for, by what was found of it one after another.
use Rattle.std.proofs.Common.{◌≡◌, ℕ, [], List, Option, Some, None, Ok, Err, ap, ◌∙◌, sym}
use Rattle.std.specs.Option.{option_map}
use Rattle.mt_values.specs.declared.schema.Column.{Column}
use Rattle.mt_values.specs.declared.schema.Schema.{Schema}
use Rattle.mt_values.specs.declared.schema.SchemaFault.{SchemaFault}
use Rattle.mt_values.specs.declared.statement.CreateText.{CreateText}
use Rattle.mt_values.specs.Grammar.{columns_of}
use Rattle.mt_values.specs.Schemas.{schema_fault_as}
use Rattle.mt_model.specs.declared.refusal.Bound.{Bound}
use Rattle.mt_model.specs.declared.refusal.Refusal.TheVariants as refusal
use Rattle.mt_model.specs.Clauses.{first_key, first_unknown, names_of_text, schema_of_create, schema_written}
use Rattle.mt_model.specs.Reply.{first_passed, first_refusal, refusal_of_schema, schema_of_text, too_many_elements, unless_refused}

module _ (c : CreateText) (columns : List Column) (columns_are : columns ≡ columns_of c.elements) where
  -- by the first name that is no column's
  name_decides : (o : Option (List ℕ)) → o ≡ first_unknown columns (names_of_text c) → schema_of_text c
      ≡ unless_refused (first_refusal (option_map refusal.NoColumn o) (first_refusal (option_map (refusal_of_schema (schema_of_create c)) (schema_fault_as (first_key c.clauses) (schema_of_create c))) (too_many_elements c))) (schema_of_create c)
  name_decides o found =
      ap (λ (n : Option (List ℕ)). unless_refused (first_refusal (option_map refusal.NoColumn n) (first_refusal (option_map (refusal_of_schema (schema_of_create c)) (schema_fault_as (first_key c.clauses) (schema_of_create c))) (too_many_elements c))) (schema_of_create c))
      (sym (found ∙ ap (λ (cs : List Column). first_unknown cs (names_of_text c)) columns_are))

  pub no_column_refused : (name : List ℕ) → Some name ≡ first_unknown columns (names_of_text c) → schema_of_text c ≡ Err (refusal.NoColumn name)
  no_column_refused name found = name_decides (Some name) found

  module _ (known : None ≡ first_unknown columns (names_of_text c)) (schema : Schema) (written : schema ≡ schema_written columns c) where
    whole : schema_of_create c ≡ schema
    whole = sym (written ∙ ap (λ (cs : List Column). schema_written cs c) columns_are)

    -- by the first rule that is broken
    rule_decides : (f : Option SchemaFault) → schema_fault_as (first_key c.clauses) schema ≡ f → schema_of_text c ≡ unless_refused (first_refusal (option_map (refusal_of_schema schema) f) (too_many_elements c)) schema
    rule_decides f found =
        name_decides None known
        ∙ (ap (λ (s : Schema). unless_refused (first_refusal (option_map (refusal_of_schema s) (schema_fault_as (first_key c.clauses) s)) (too_many_elements c)) s) whole
        ∙ ap (λ (g : Option SchemaFault). unless_refused (first_refusal (option_map (refusal_of_schema schema) g) (too_many_elements c)) schema) found)

    pub rule_refused : (fault : SchemaFault) → schema_fault_as (first_key c.clauses) schema ≡ Some fault → schema_of_text c ≡ Err (refusal_of_schema schema fault)
    rule_refused fault found = rule_decides (Some fault) found

    -- by the bound that is passed
    bound_decides : schema_fault_as (first_key c.clauses) schema ≡ None → (b : Option Bound) → b ≡ first_passed [] c.elements → schema_of_text c ≡ unless_refused (option_map refusal.Past b) schema
    bound_decides sound b found = rule_decides None sound ∙ ap (λ (d : Option Bound). unless_refused (option_map refusal.Past d) schema) (sym found)

    pub bound_refused : (b : Bound) → schema_fault_as (first_key c.clauses) schema ≡ None → Some b ≡ first_passed [] c.elements → schema_of_text c ≡ Err (refusal.Past b)
    bound_refused b sound found = bound_decides sound (Some b) found

    pub schema_given : schema_fault_as (first_key c.clauses) schema ≡ None → None ≡ first_passed [] c.elements → schema_of_text c ≡ Ok schema
    schema_given sound found = bound_decides sound None found

pub ruleset refusals_of_text = (no_column_refused, rule_refused, bound_refused, schema_given)
