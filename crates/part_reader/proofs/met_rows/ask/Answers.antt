use Rattle.std.proofs.Common.{◌≡◌, ◌∙◌, List, All, ap, ap₂, arith, length, map, refl, subst, sym, ℕ}
use Rattle.std.proofs.lemmas.List.{length-map}
use Rattle.mt_values.specs.Grid.{Cells, rows_of}
use Rattle.mt_values.specs.Schemas.{column_types}
use Rattle.mt_values.proofs.Grids.{length-rows_of}
use Rattle.part_damage.specs.part_writer.declared.loaded.Loaded.{Loaded}
use Rattle.part_reader.specs.Granules.{rows_in}
use Rattle.part_reader.specs.Readings.{lone}
use Rattle.part_reader.specs.Sieves.{asking_of, passes}
use Rattle.part_reader.proofs.LeftGranules.{columns_even}
use Rattle.part_reader.proofs.met_rows.ask.Goals as goal

pub sift-requires : goal.sift-requires
sift-requires g c =
    let part = c.args.source.now.part.now in
    let rows_are = c.granule_rows-rows.ensures.rows ∙ ap (λ (l : Loaded). rows_in l (lone c.args.granule)) c.deref.ensures in
    subst (λ (cs : List Cells). All (λ (x : Cells). length x.values ≡ c.granule_rows-rows.result) cs) (sym c.deref-2.ensures.value)
    (subst (λ n. All (λ (x : Cells). length x.values ≡ n) c.in_ok-columns.columns.items) (sym rows_are)
    (columns_even g.R.Dir.Dir.files part c.args.granule (column_types c.args.source.now.schema.now) c.args.query.now.asked.now c.in_ok-columns.columns.items c.in_ok-columns.ensures.values))

pub returns-clause-met : goal.returns-clause-met
returns-clause-met g c =
    let rows_are = c.granule_rows-rows.ensures.rows ∙ ap (λ (l : Loaded). rows_in l (lone c.args.granule)) c.deref.ensures in
    let test = passes (asking_of c.args.query.now.sieves.now) c.args.granule in
    let many : length c.in-Ok.mask.items ≡ c.granule_rows-rows.result =
    ap length c.in-Ok.ensures ∙ length-map (rows_of c.deref-2.result.now c.granule_rows-rows.result) test ∙ length-rows_of c.deref-2.result.now c.granule_rows-rows.result in
    record {
      places = refl;
      answers = record {
        within = c.requires.places;
        columns = c.in_ok-columns.ensures.values;
        count = many ∙ rows_are;
        few = omega (arith, many, c.granule_rows-rows.ensures.few);
      };
      mask = c.in-Ok.ensures ∙ ap₂ (λ (cs : List Cells) (n : ℕ). map test (rows_of cs n)) c.deref-2.ensures.value rows_are;
    }
