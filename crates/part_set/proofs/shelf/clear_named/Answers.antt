use Rattle.std.proofs.Common.{◌≡◌, ◌∙◌, ◌+◌, ◌-◌, ◌≤◌, ◌++◌, ◌∷◌, [], List, length, map, take, drop, ap, arith}
use Rattle.std.proofs.lemmas.List.{length-drop, length-map, length-take-le}
use Rattle.part_set.specs.declared.kept.Kept.{Kept}
use Rattle.part_set.specs.declared.run.Run.{Run}
use Rattle.part_set.specs.Runs.{cleared, parts_of_run}
use Rattle.part_set.proofs.Clearing.{clear_between, ends_later}
use Rattle.part_set.proofs.Swaps.{run_written}
use Rattle.part_set.proofs.shelf.clear_named.Goals as goal

pub start_of-start-requires : goal.start_of-start-requires
start_of-start-requires g c = rw c.as_slice.ensures.value c.requires

pub place_of-end-requires : goal.place_of-end-requires
place_of-end-requires g c = rw c.as_slice-2.ensures.value c.requires

pub slice_mut-requires-clause-start_le_end : goal.slice_mut-requires-clause-start_le_end
slice_mut-requires-clause-start_le_end g c =
    let first = c.as_slice.ensures.value in
    let second = c.as_slice-2.ensures.value in
    ends_later c.args.parts.now.items c.args.name.now c.start_of-start.result c.place_of-end.result (rw first at c.start_of-start.ensures.within) (rw second at c.place_of-end.ensures.within)
    (rw first at c.start_of-start.ensures.front) (rw second at c.place_of-end.ensures.back)

pub returns-clause-items : goal.returns-clause-items
returns-clause-items g c =
    let first = c.as_slice.ensures.value in
    let second = c.as_slice-2.ensures.value in
    let parts = c.args.parts.now.items in
    let start = c.start_of-start.result in
    let end = c.place_of-end.result in
    let start_in = rw first at c.start_of-start.ensures.within in
    let end_in = rw second at c.place_of-end.ensures.within in
    let front = rw first at c.start_of-start.ensures.front in
    let back = rw second at c.place_of-end.ensures.back in
    let later : start ≤ end = ends_later parts c.args.name.now start end start_in end_in front back in
    let run : Run = record { first = start; count = end - start } in
    let told : c.clear.new.parts ≡ map (cleared (c.args.name.now ∷ [])) (parts_of_run run parts) =
    c.clear.ensures ∙ ap (λ (xs : List (Kept g.row.P.Denot)). map (cleared (c.args.name.now ∷ [])) xs) c.slice_mut.ensures.value in
    let long : length c.clear.new.parts ≡ end - start =
    ap (λ (xs : List (Kept g.row.P.Denot)). length xs) told ∙ (length-map (parts_of_run run parts) (cleared (c.args.name.now ∷ [])) ∙ length-take-le (end - start) (drop start parts) (omega (arith, length-drop start parts, end_in))) in
    run_written parts c.clear.new.parts start (end - start) c.args.parts.now.len (omega (arith, later, end_in)) long (omega (arith, c.args.parts.now.ok.0))
    ∙ (ap (λ (xs : List (Kept g.row.P.Denot)). take start parts ++ (xs ++ drop (start + (end - start)) parts)) told
    ∙ clear_between parts c.args.name.now start end start_in end_in front back)
