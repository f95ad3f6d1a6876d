use Rattle.std.proofs.Common.{◌≡◌, ℕ, ◌+◌, ◌∷◌, [], ◌++◌, List, Some, slice_get, take, ap, sym, ◌∙◌}
use Rattle.std.proofs.lemmas.List.{take_more}
use Rattle.std.proofs.lemmas.Option.{get_or_from_slice_get, slice_get_within}
use Rattle.mt_values.specs.declared.value.Value.{Value}
use Rattle.mt_values.specs.Cells.{value_of}
use Rattle.column_file.proofs.decoding.values_of.Goals as goal

more : (all values : List Value) (place : ℕ) (value : Value) → values ≡ take place all → slice_get all place ≡ Some value → values ++ value ∷ [] ≡ take (place + 1) all
more all values place value is here =
    ap (λ vs. vs ++ value ∷ []) is
    ∙ ap (λ v. take place all ++ v ∷ []) (sym (get_or_from_slice_get all place value value here))
    ∙ sym (take_more all place value (slice_get_within all place value here))

pub loop-place-preserved : goal.loop-place-preserved
loop-place-preserved c =
    let values = c.loop-place.values.items in
    record {
      values =
          c.push_reserved.ensures.items
          ∙ ap (λ v. values ++ v ∷ []) c.in_ok-to_value.ensures
          ∙ more c.args.column.now.values values c.loop-place.place (value_of c.at.result) c.loop-place.invariant.values c.at.ensures;
      count = c.push_reserved.ensures.len ∙ ap (λ n. n + 1) c.loop-place.invariant.count;
      room = c.push_reserved.ensures.capacity ∙ c.loop-place.invariant.room;
    }
