use Rattle.std.proofs.Common.{◌+◌, ◌++◌, ◌∷◌, ℕ, [], List, map, take, get_or, arith, ap, ap₂, sym, ◌∙◌}
use Rattle.std.proofs.lemmas.List.{map_push, take_all, take_more}
use Rattle.mt_values.specs.Grid.{Cells}
use Rattle.mt_values.specs.Schemas.{column_types}
use Rattle.part_writer.specs.Growing.{columns_of, type_at}
use Rattle.part_writer.proofs.PendingColumns.{type_is}
use Rattle.part_writer.proofs.pending.empty_columns.Goals as goal

pub at-requires : goal.at-requires
at-requires c = c.requires c.loop-place.place-index 0 c.loop-place-test.true

pub loop-place-init : goal.loop-place-init
loop-place-init c = record { made = c.in_ok-columns.ensures.items; count = c.in_ok-columns.ensures.len; room = c.in_ok-columns.ensures.exact }

pub push_reserved-requires : goal.push_reserved-requires
push_reserved-requires c = omega (arith, c.loop-place.invariant.count, c.loop-place.invariant.room, c.loop-place-test.true)

pub loop-place-preserved : goal.loop-place-preserved
loop-place-preserved c =
    let types = column_types c.args.schema.now in
    let places = c.args.places.now in
    let i = c.loop-place.place-index in
    let here = type_is c.args.schema.now (get_or places i 0) c.at.result.now c.at.ensures in
    let column : ℕ → Cells = λ place. record { col_type = type_at types place; values = [] } in
    record {
      made =
          c.push_reserved.ensures.items
          ∙ ap₂ (λ (cs : List Cells) (x : Cells). cs ++ x ∷ []) c.loop-place.invariant.made (c.new.ensures ∙ ap (λ t. record { col_type = t; values = [] }) (sym here))
          ∙ sym (map_push column (take i places) (get_or places i 0))
          ∙ ap (map column) (sym (take_more places i 0 c.loop-place-test.true));
      count = c.push_reserved.ensures.len ∙ ap (λ n. n + 1) c.loop-place.invariant.count;
      room = c.push_reserved.ensures.capacity ∙ c.loop-place.invariant.room;
    }

pub returns : goal.returns
returns c = c.loop-place.invariant.made ∙ ap (λ ps. columns_of (column_types c.args.schema.now) ps []) (take_all c.loop-place.place-index c.args.places.now c.loop-place-test.false)
