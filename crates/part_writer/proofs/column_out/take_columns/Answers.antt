use Rattle.std.proofs.Common.{◌≡◌, ℕ, ◌++◌, ◌∷◌, [], List, ap, ap₂, arith, get_or, length, map, sym, zero-add, ◌∙◌}
use Rattle.std.specs.List.{range_with_len}
use Rattle.std.proofs.lemmas.List.FromFn.{map-range_with_len_more}
use Rattle.std.proofs.lemmas.Option.{slice_get-get_or}
use Rattle.mt_base.specs.declared.name.FileId.TheVariants as file
use Rattle.mt_values.specs.declared.manifest.FileMark.{FileMark}
use Rattle.mt_values.specs.declared.schema.Schema.{Schema}
use Rattle.mt_values.specs.ColumnBytes.{column_bytes}
use Rattle.mt_values.specs.Grid.{column_of}
use Rattle.mt_values.specs.Values.{Row}
use Rattle.primary_marks.specs.column_file.Granules.{marks_of}
use Rattle.primary_marks.proofs.MarkedRows.{map-map}
use Rattle.part_writer.specs.declared.column_out.ColumnOut.{ColumnOut}
use Rattle.part_writer.specs.Growing.{HasGrown, KeepsColumns}
use Rattle.part_writer.specs.PartFiles.{content_bytes, mark_of}
use Rattle.mt_values.proofs.SetItems.{set_apart}
use Rattle.part_writer.proofs.column_out.take_columns.Goals as goal
use Rattle.part_writer.proofs.column_out.take_columns.Goals.{After-end-own}

-- what is kept of the file gone over
here : (c : After-end-own) (schema : Schema) (rows : List Row) → KeepsColumns schema rows c.args.columns.now → HasGrown schema.granularity (column_of c.loop-number.number rows) (get_or c.loop-number.columns c.loop-number.number c.index-columns-number.result)
here c schema rows keeps =
    let n = c.loop-number.number in
    let any : ColumnOut = c.index-columns-number.result in
    keeps.each n (get_or c.loop-number.columns n any) (sym (c.loop-number.invariant.rest n (omega arith)) ∙ slice_get-get_or c.loop-number.columns n any (omega (arith, c.loop-number.auto.columns, c.loop-number-test.true)))

pub loop-number-preserved : goal.loop-number-preserved
loop-number-preserved c =
    let n = c.loop-number.number in
    let at = (goal.at.loop-number-preserved c).After-end-own in
    record {
      rest = λ k past. set_apart c.loop-number.columns n k c.end-own.new.self (λ e. omega (arith, e, past)) ∙ c.loop-number.invariant.rest k (omega (arith, past));
      places = λ schema rows keeps.
          c.in_ok-push-2.ensures.ok
          ∙ ap₂ (λ (ps : List (List ℕ)) (p : List ℕ). ps ++ p ∷ []) (c.loop-number.invariant.places schema rows keeps) (c.end-own.ensures.places ∙ (here at schema rows keeps).places)
          ∙ sym (map-range_with_len_more (λ k. marks_of schema.granularity (column_of k rows)) 0 n n (zero-add n));
      marks = λ schema rows keeps.
          c.in_ok-push.ensures.ok
          ∙ ap₂ (λ (ms : List FileMark) (m : FileMark). ms ++ m ∷ []) (c.loop-number.invariant.marks schema rows keeps) (c.end-own.ensures.mark schema.granularity (column_of n rows) (here at schema rows keeps))
          ∙ sym (map-range_with_len_more (λ k. mark_of (column_bytes (column_of k rows))) 0 n n (zero-add n));
    }

pub returns-clause-places : goal.returns-clause-places
returns-clause-places c = λ schema rows keeps.
    let all : c.loop-number.number ≡ length schema.columns = omega (arith, keeps.count_is, c.loop-number.auto.columns) in
    c.loop-number.invariant.places schema rows keeps ∙ ap (λ n. map (λ k. marks_of schema.granularity (column_of k rows)) (range_with_len 0 n)) all

pub returns-clause-marks : goal.returns-clause-marks
returns-clause-marks c = λ schema rows keeps.
    let all : c.loop-number.number ≡ length schema.columns = omega (arith, keeps.count_is, c.loop-number.auto.columns) in
    c.loop-number.invariant.marks schema rows keeps
    ∙ ap (λ n. map (λ k. mark_of (column_bytes (column_of k rows))) (range_with_len 0 n)) all
    ∙ sym (map-map (λ f. mark_of (content_bytes schema rows f)) file.Column (range_with_len 0 (length schema.columns)))
