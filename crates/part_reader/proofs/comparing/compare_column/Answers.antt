use Rattle.std.proofs.Common.{◌≡◌, ◌↔◌, ◌∙◌, ℕ, List, Some, ap, slice_get, subst, true}
use Rattle.std.specs.Option.{option_map}
use Rattle.std.proofs.lemmas.Option.{slice_get-map}
use Rattle.mt_values.specs.declared.schema.Column.{Column}
use Rattle.mt_values.specs.declared.value.ColType.{ColType}
use Rattle.mt_values.specs.declared.value.Value.{Value}
use Rattle.mt_values.specs.Grid.{column_of}
use Rattle.part_reader.proofs.comparing.compare_column.Goals as goal

pub returns : goal.returns
returns c =
    let schema = c.args.schema.now in
    let loaded = c.args.loaded.now in
    let m = c.in_ok-found.ensures in
    let of_type : Column → ColType = λ (x : Column). x.col_type in
    record {
      col_type = c.at.result.now.col_type;
      type_is = slice_get-map of_type schema.columns c.args.number ∙ ap (option_map of_type) c.at.ensures;
      values = m.values;
      spelling = m.spelling;
      agrees = record {
        places = subst (λ (ps : List ℕ). (c.are_places.result ≡ true) ↔ (slice_get loaded.places c.args.number ≡ Some ps)) m.starts c.are_places.ensures;
        keys = subst (λ (vs : List Value). (c.are_keys.result ≡ true) ↔ ((place : ℕ) → slice_get schema.primary place ≡ Some c.args.number → column_of place loaded.marks ≡ vs)) m.firsts
            (subst (λ (ps : List ℕ). (c.are_keys.result ≡ true) ↔ ((place : ℕ) → slice_get ps place ≡ Some c.args.number → column_of place loaded.marks ≡ c.in_ok-found.found.firsts.values)) c.as_slice.ensures c.are_keys.ensures);
        index = c.in_ok-index.ensures.found m.values m.spelling;
      };
    }
