use Rattle.std.proofs.Common.{◌≡◌, None, map, refl, subst, sym}
use Rattle.mt_base.specs.declared.name.FileId.TheVariants as file
use Rattle.part_damage.specs.part_writer.declared.loaded.Loaded.{Loaded}
use Rattle.part_reader.specs.Granules.{chosen_count}
use Rattle.part_reader.specs.Parts.{HoldsAt}
use Rattle.part_reader.specs.Readings.{IsFirstLeft, Reading, count_left, from_granule}
use Rattle.part_reader.proofs.LeftGranules.{given_parted, gives_block, next_leaves}
use Rattle.part_reader.proofs.part_rows.PartRows.next.Goals as goal

pub returns-in_default-clause-rows : goal.returns-in_default-clause-rows
returns-in_default-clause-rows g c = λ rows holds.
    let self = c.args.self.now in
    let inside = c.self.inside in
    let none = subst (λ (l : Loaded). chosen_count l.schema.granularity (from_granule inside.at inside.source.chosen.now) l.manifest.rows ≡ 0) c.deref.ensures c.in_default.ensures.first in
    next_leaves g.F.Dir.files self self None (refl, subst (λ (r : Reading _). count_left r ≡ 0) c.self.view_is none) rows holds

pub returns-clause-gives : goal.returns-clause-gives
returns-clause-gives g c =
    let inside = c.self.inside in
    let first = subst (λ (l : Loaded). IsFirstLeft l (from_granule inside.at inside.source.chosen.now) c.in-Some.granule) c.deref.ensures c.in-Some.ensures.first in
    rw (← c.self.view_is)
    (gives_block g.F.Dir.files inside.source.schema.now inside.source.part.now inside.places.now inside.source.most inside.source.chosen.now inside.at c.in-Some.granule c.in_ok-block.block c.in-Some.ensures.within.0 first
    c.in_ok-block.ensures.count c.in_ok-block.ensures.types c.in_ok-block.ensures.rows)

pub returns-clause-rows : goal.returns-clause-rows
returns-clause-rows g c = λ rows holds.
    let inside = c.self.inside in
    let first = subst (λ (l : Loaded). IsFirstLeft l (from_granule inside.at inside.source.chosen.now) c.in-Some.granule) c.deref.ensures c.in-Some.ensures.first in
    let here = subst (λ (r : Reading _). HoldsAt g.F.Dir.files r.schema r.part (map file.Column r.places) rows) (sym c.self.view_is) holds in
    rw (← c.self.view_is)
    (given_parted g.F.Dir.files _ _ c.in_ok-block.block
    (gives_block g.F.Dir.files inside.source.schema.now inside.source.part.now inside.places.now inside.source.most inside.source.chosen.now inside.at c.in-Some.granule c.in_ok-block.block c.in-Some.ensures.within.0 first
    c.in_ok-block.ensures.count c.in_ok-block.ensures.types c.in_ok-block.ensures.rows)
    rows here)
