use Rattle.std.proofs.Common.{◌≡◌, ◌∙◌, ap, arith, filter_map, length, map, refl, slice_get, subst, sym}
use Rattle.mt_values.specs.Grid.{Cells}
use Rattle.mt_values.specs.Schemas.{column_types}
use Rattle.part_damage.specs.part_writer.declared.loaded.Loaded.{Loaded}
use Rattle.part_reader.specs.Granules.{chosen_count}
use Rattle.part_reader.specs.Readings.{IsFirstLeft, count_left, from_granule}
use Rattle.part_reader.specs.Sieves.{Sifting}
use Rattle.part_reader.proofs.AheadBytes.{ahead_back}
use Rattle.part_reader.proofs.MetValues.{adds_met}
use Rattle.part_reader.proofs.met_rows.MetRows.add_next.Goals as goal

-- no granule with rows is left
pub returns-in_default-clause-adds : goal.returns-in_default-clause-adds
returns-in_default-clause-adds g c =
    let inside = c.self.inside in
    let none = subst (λ (l : Loaded). chosen_count l.schema.granularity (from_granule inside.at inside.source.chosen.now) l.manifest.rows ≡ 0) c.deref.ensures c.in_default.ensures.first in
    (refl, refl, subst (λ (s : Sifting _). count_left s.reading ≡ 0) c.self.view_is none)

-- the columns have the types of the wanted ones
pub add_found-requires-clause-columns : goal.add_found-requires-clause-columns
add_found-requires-clause-columns g c κs within =
    subst (λ (s : Sifting _). map (λ (x : Cells). x.col_type) c.args.columns.now ≡ filter_map (slice_get (column_types s.reading.schema)) s.reading.places) (sym c.self.view_is) c.requires.columns

-- what was read ahead is that of the same files, and the granules before the next one were given
pub invariant_of-self-2 : goal.invariant_of-self-2
invariant_of-self-2 g c =
    let inside = c.self.inside in
    let told = g.F.Dir.files inside.source.part.now.dir in
    let most = inside.source.most in
    let before = c.self.invariant in
    let asked = ahead_back told most inside.asked.len inside.query.asked.now inside.asked.items c.ask.new.aheads (ap length (sym c.deref_mut.ensures.value) ∙ c.deref_mut.ensures.len) before.3 c.in_ok-met.ensures.ahead in
    let wanted = ahead_back told most inside.wanted.len inside.query.wanted.now inside.wanted.items c.add_found.new.aheads (ap length (sym c.deref_mut-2.ensures.value) ∙ c.deref_mut-2.ensures.len) before.4 c.in_ok-count.ensures.ahead in
    (omega (arith, c.in-Some.ensures.within.1), before.1, before.2, asked, wanted)

pub returns-clause-adds : goal.returns-clause-adds
returns-clause-adds g c =
    let inside = c.self.inside in
    let first = subst (λ (l : Loaded). IsFirstLeft l (from_granule inside.at inside.source.chosen.now) c.in-Some.granule) c.deref.ensures c.in-Some.ensures.first in
    let typed = subst (λ (s : Sifting _). map (λ (x : Cells). x.col_type) c.args.columns.now ≡ filter_map (slice_get (column_types s.reading.schema)) s.reading.places) (sym c.self.view_is) c.requires.columns in
    rw (← c.self.view_is)
    (adds_met g.F.Dir.files inside.source.schema.now inside.source.part.now inside.query inside.source.most inside.source.chosen.now inside.at c.in-Some.granule c.in_ok-met.met c.args.columns.now c.add_found.new.columns c.in_ok-count.count
    c.in-Some.ensures.within.0 first c.in_ok-met.ensures.met typed c.in_ok-count.ensures.count c.in_ok-count.ensures.gained)
