use Rattle.std.proofs.Common.{◌≡◌, ◌∙◌, ◌+◌, ◌<◌, ℕ, [], Bool, List, All, Some, ap, arith, get_or, length, refl, slice_get, subst, sym}
use Rattle.std.specs.List.{filter, zip as pairs}
use Rattle.std.proofs.lemmas.Option.{slice_get-get_or, slice_get_read}
use Rattle.mt_outside.proofs.LeftArms.{arm_calm}
use Rattle.mt_values.specs.Grid.{Cells}
use Rattle.mt_values.specs.Tests.{eval}
use Rattle.mt_values.specs.Values.{Row}
use Rattle.row_merge.specs.part_reader.declared.reading.PartFault.TheVariants.{NoMemory}
use Rattle.row_merge.specs.part_reader.Granules.{chosen_of}
use Rattle.row_merge.specs.part_writer.declared.loaded.Loaded.{Loaded}
use Rattle.final_fold.specs.Asked.{MeetUnasked}
use Rattle.select_plan.proofs.Planning.{asked_at}
use Rattle.final_fold.specs.Matches.{HoldEachMatch, MeetWhereUnasked, asked_of, matching}
use Rattle.final_fold.proofs.Explained.{out_of_memory, part_explained}
use Rattle.final_fold.proofs.Sure.{pair_there}
use Rattle.final_fold.proofs.Scanning.{PartAt, count_all, count_next, part_at, rows_next, values_all, values_next, zip_at}
use Rattle.final_fold.proofs.matches.add_matches.Goals as goal

pub bounds-chosen-number : goal.bounds-chosen-number
bounds-chosen-number g c =
    let many = c.requires.chosen in
    omega (arith, many, c.loop-number-test.true)

-- what stands at the place of the part that is read
there : {X : Type 0} (xs : List X) (i : ℕ) (x own : X) → i < length xs → x ≡ get_or xs i x → own ≡ x → slice_get xs i ≡ Some own
there xs i x own below is same = slice_get_read xs (length xs) i x refl below is ∙ ap Some (sym same)

pub add_part-requires-clause-task : goal.add_part-requires-clause-task
add_part-requires-clause-task g c κs within =
    record { wanted = c.requires.wanted; plan = c.in-Ok-make_plan.ensures }

pub returns-in_default-clause-damaged : goal.returns-in_default-clause-damaged
returns-in_default-clause-damaged g c =
    let parts = c.args.parts.now in
    let chosen = c.args.chosen.now in
    let i = c.loop-number.number in
    let many = c.requires.chosen in
    let own : List Bool = get_or chosen i [] in
    part_explained g.R.Dir.Dir.files parts chosen c.args.wanted.now i c.index-parts-number.result own NoMemory c.loop-number-test.true c.index-parts-number.is (slice_get-get_or chosen i [] (omega (arith, many, c.loop-number-test.true)))
    (out_of_memory g.R.Dir.Dir.files c.index-parts-number.result.part own c.args.wanted.now)

pub returns-in_default-make_plan-clause-damaged : goal.returns-in_default-make_plan-clause-damaged
returns-in_default-make_plan-clause-damaged g c =
    let parts = c.args.parts.now in
    let chosen = c.args.chosen.now in
    let i = c.loop-number.number in
    let many = c.requires.chosen in
    let own : List Bool = get_or chosen i [] in
    part_explained g.R.Dir.Dir.files parts chosen c.args.wanted.now i c.index-parts-number.result own NoMemory c.loop-number-test.true c.index-parts-number.is (slice_get-get_or chosen i [] (omega (arith, many, c.loop-number-test.true)))
    (out_of_memory g.R.Dir.Dir.files c.index-parts-number.result.part own c.args.wanted.now)

pub returns-in-Err-clause-damaged : goal.returns-in-Err-clause-damaged
returns-in-Err-clause-damaged g c =
    let many = c.requires.chosen in
    let own_is = there c.args.chosen.now c.loop-number.number c.index-chosen-number.result c.as_slice-own.result.now (omega (arith, many, c.loop-number-test.true)) c.index-chosen-number.is c.as_slice-own.ensures in
    part_explained g.R.Dir.Dir.files c.args.parts.now c.args.chosen.now c.args.wanted.now c.loop-number.number c.index-parts-number.result c.as_slice-own.result.now c.in-Err.fault c.loop-number-test.true c.index-parts-number.is own_is c.in-Err.ensures.damaged

pub returns-in_default-checked_add-clause-damaged : goal.returns-in_default-checked_add-clause-damaged
returns-in_default-checked_add-clause-damaged g c =
    let many = c.requires.chosen in
    let own_is = there c.args.chosen.now c.loop-number.number c.index-chosen-number.result c.as_slice-own.result.now (omega (arith, many, c.loop-number-test.true)) c.index-chosen-number.is c.as_slice-own.ensures in
    part_explained g.R.Dir.Dir.files c.args.parts.now c.args.chosen.now c.args.wanted.now c.loop-number.number c.index-parts-number.result c.as_slice-own.result.now NoMemory c.loop-number-test.true c.index-parts-number.is own_is
    (out_of_memory g.R.Dir.Dir.files c.index-parts-number.result.part c.as_slice-own.result.now c.args.wanted.now)

pub loop-number-preserved : goal.loop-number-preserved
loop-number-preserved g c =
    let files = g.R.Dir.Dir.files in
    let w = c.args.wanted.now in
    let parts = c.args.parts.now in
    let i = c.loop-number.number in
    let kept = c.index-parts-number.result in
    let own = c.as_slice-own.result.now in
    let new = c.add_part.new.columns in
    let f = eval w.condition.now in
    let e = c.in-Ok-add_part.ensures in
    let many = c.requires.chosen in
    let own_is : slice_get c.args.chosen.now i ≡ Some own = there c.args.chosen.now i c.index-chosen-number.result own (omega (arith, many, c.loop-number-test.true)) c.index-chosen-number.is c.as_slice-own.ensures in
    let kept_is : slice_get parts i ≡ Some kept = there parts i kept kept c.loop-number-test.true c.index-parts-number.is refl in
    let asked = asked_of w parts c.args.chosen.now in
    let lists = c.as_slice-lists.result.now in
    let asked_is : slice_get asked i ≡ Some lists =
    asked_at w.schema.now w.conjuncts.now parts c.args.chosen.now i kept own kept_is own_is ∙ ap Some (sym (c.as_slice-lists.ensures ∙ c.in-Ok.ensures)) in
    let sum : c.loop-number.count + c.in-Ok-add_part.added ≡ c.in-Some.more = omega (arith, c.in-Some.ensures) in
    let met = λ (rs : List Row). filter f (chosen_of kept.part.loaded.schema.granularity own rs) in
    let met_is : (rows : List (List Row)) (h : PartAt files w.schema.now kept.part i rows) → HoldEachMatch w c.args.chosen.now rows → met h.rows ≡ filter f h.rows =
    λ rows h each.
    ap (λ (l : Loaded). filter f (chosen_of l.schema.granularity own h.rows)) h.holds.loaded_is
    ∙ zip_at (λ (cs : List Bool) (rs : List Row). matching w.condition.now (chosen_of w.schema.now.granularity cs rs) ≡ matching w.condition.now rs) c.args.chosen.now rows i own h.rows each own_is h.there in
    let sure_is : (rows : List (List Row)) (h : PartAt files w.schema.now kept.part i rows) → MeetWhereUnasked w c.args.chosen.now asked rows → MeetUnasked kept.part.loaded.schema.granularity own w.conjuncts.now lists h.rows =
    λ rows h all.
    subst (λ n. MeetUnasked n own w.conjuncts.now lists h.rows) (sym (ap (λ (l : Loaded). l.schema.granularity) h.holds.loaded_is))
    (zip_at (λ (p : List Bool × List (List Bool)) (rs : List Row). MeetUnasked w.schema.now.granularity p.0 w.conjuncts.now p.1 rs) (pairs c.args.chosen.now asked) rows i (own, lists) h.rows all
    (pair_there c.args.chosen.now asked i own lists own_is asked_is) h.there) in
    record {
      values = λ rows holds each sure empty.
          let h = part_at files w.schema.now parts rows i kept holds c.loop-number-test.true c.index-parts-number.is in
          values_next f rows i h.rows (met h.rows) w.places.now c.loop-number.columns new h.next (c.loop-number.invariant.values rows holds each sure empty) (met_is rows h each) (e.values h.rows h.holds (sure_is rows h sure));
      counted = λ rows holds each sure.
          let h = part_at files w.schema.now parts rows i kept holds c.loop-number-test.true c.index-parts-number.is in
          sym sum ∙ count_next f rows i h.rows (met h.rows) c.loop-number.count c.in-Ok-add_part.added h.next (c.loop-number.invariant.counted rows holds each sure) (met_is rows h each) (e.counted h.rows h.holds (sure_is rows h sure));
      types = e.types ∙ c.loop-number.invariant.types;
      even = λ zero. subst (λ n. All (λ (x : Cells). length x.values ≡ n) new) sum (e.even c.loop-number.count (c.loop-number.invariant.even zero));
      few = omega (arith, sum, e.few, c.loop-number.invariant.few, rows_next parts i kept c.loop-number-test.true c.index-parts-number.is);
      arm = arm_calm c.loop-number.invariant.arm (λ none. none) e.arm (λ fault. cc);
    }

pub returns-clause-values : goal.returns-clause-values
returns-clause-values g c = λ rows holds each sure empty.
    let w = c.args.wanted.now in
    values_all g.R.Dir.Dir.files w.schema.now (eval w.condition.now) c.args.parts.now rows c.loop-number.number w.places.now c.loop-number.columns holds c.loop-number-test.false (c.loop-number.invariant.values rows holds each sure empty)

pub returns-clause-counted : goal.returns-clause-counted
returns-clause-counted g c = λ rows holds each sure.
    let w = c.args.wanted.now in
    count_all g.R.Dir.Dir.files w.schema.now (eval w.condition.now) c.args.parts.now rows c.loop-number.number c.loop-number.count holds c.loop-number-test.false (c.loop-number.invariant.counted rows holds each sure)
