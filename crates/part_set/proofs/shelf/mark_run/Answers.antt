use Rattle.std.proofs.Common.{◌≡◌, ◌∙◌, ℕ, ◌+◌, ◌-◌, ◌++◌, List, length, map, take, drop, ap, arith}
use Rattle.std.proofs.lemmas.List.{length-drop, length-map, length-take-le}
use Rattle.part_set.specs.declared.kept.Kept.{Kept}
use Rattle.part_set.specs.Runs.{parts_of_run, with_mark}
use Rattle.part_set.proofs.Swaps.{run_written}
use Rattle.part_set.proofs.shelf.mark_run.Goals as goal

pub returns-clause-items : goal.returns-clause-items
returns-clause-items g c =
    let parts = c.args.parts.now.items in
    let run = c.args.run in
    let count : (run.first + run.count) - run.first ≡ run.count = omega arith in
    let told : c.mark.new.parts ≡ map (with_mark c.args.busy) (parts_of_run run parts) =
    c.mark.ensures ∙ ap (λ (xs : List (Kept g.row.P.Denot)). map (with_mark c.args.busy) xs) (c.slice_mut.ensures.value ∙ ap (λ (n : ℕ). take n (drop run.first parts)) count) in
    let long : length c.mark.new.parts ≡ run.count =
    omega (arith, ap (λ (xs : List (Kept g.row.P.Denot)). length xs) told, length-map (parts_of_run run parts) (with_mark c.args.busy), length-take-le run.count (drop run.first parts) (omega (arith, length-drop run.first parts, c.requires.within)), c.requires.within) in
    run_written parts c.mark.new.parts run.first run.count c.args.parts.now.len c.requires.within long (omega (arith, c.args.parts.now.ok.0))
    ∙ ap (λ (xs : List (Kept g.row.P.Denot)). take run.first parts ++ (xs ++ drop (run.first + run.count) parts)) told
