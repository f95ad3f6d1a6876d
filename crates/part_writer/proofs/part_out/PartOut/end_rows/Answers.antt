use Rattle.std.proofs.Common.{◌≡◌, ◌-◌, ◌<◌, [], ap, arith, length, subst, sym, ◌∙◌}
use Rattle.mt_values.specs.declared.schema.Schema.{Schema}
use Rattle.mt_values.specs.Granules.{granule_starts, with_final}
use Rattle.mt_values.specs.Schemas.{column_types}
use Rattle.stage_dir.specs.Stages.{Filling}
use Rattle.part_writer.specs.declared.grown.Grown.{Grown}
use Rattle.part_writer.specs.Growing.{Growing, HasEnded, HasWritten, KeepsRows}
use Rattle.part_writer.proofs.RowsOut.{last_kept}
use Rattle.part_writer.proofs.part_out.PartOut.end_rows.Goals as goal
use Rattle.part_writer.proofs.part_out.PartOut.end_rows.Goals.{After-len-last}
use Rattle.part_writer.proofs.part_out.PartOut.end_rows.Given.{Over}

-- the last granule has some rows
some_rows : (g : Over) (c : After-len-last g) → 0 < length c.in_ok-block.block.rows
some_rows g c =
    let ended : HasEnded c.write_pending.new.self c.requires.rows c.args.self.now.grown.count c.in_ok-block.block = c.in_ok-block.ensures.rows c.requires.rows c.requires.has in
    omega (arith, ended.count_is, ap (λ (o : Growing). o.grown.count) c.self.view_is, c.if-self-eq0.false)

pub overflow_sub-last : goal.overflow_sub-last
overflow_sub-last g c = omega (arith, c.len-last.ensures.count, some_rows g (goal.at.overflow_sub-last g c).After-len-last)

pub add_key-requires-clause-some : goal.add_key-requires-clause-some
add_key-requires-clause-some g c =
    let ended : HasEnded c.write_pending.new.self c.requires.rows c.args.self.now.grown.count c.in_ok-block.block = c.in_ok-block.ensures.rows c.requires.rows c.requires.has in
    let keyed = granule_starts c.write_pending.new.self.grown.schema.granularity c.requires.rows in
    record {
      written = c.requires.rows;
      keyed = keyed;
      pending = [];
      keeps = subst (λ (x : Grown). KeepsRows x c.requires.rows keyed []) (sym (ap (λ (o : Growing). o.grown) c.self-2.view_is)) ended.has.keeps;
    }

pub add_key-requires-clause-types : goal.add_key-requires-clause-types
add_key-requires-clause-types g c =
    let ended : HasEnded c.write_pending.new.self c.requires.rows c.args.self.now.grown.count c.in_ok-block.block = c.in_ok-block.ensures.rows c.requires.rows c.requires.has in
    ended.types ∙ ap (λ (o : Growing). column_types o.grown.schema) (sym c.self-2.view_is)

pub add_key-requires-clause-within : goal.add_key-requires-clause-within
add_key-requires-clause-within g c = omega (arith, c.len-last.ensures.count, some_rows g (goal.at.add_key-requires-clause-within g c).After-len-last)

pub returns-clause-rows : goal.returns-clause-rows
returns-clause-rows g c = λ rows has.
    let out = c.write_pending.new.self in
    let ended : HasEnded out rows c.args.self.now.grown.count c.in_ok-block.block = c.in_ok-block.ensures.rows rows has in
    let grown = ap (λ (o : Growing). o.grown) c.self-2.view_is in
    let stage = ap (λ (o : Growing). o.stage) c.self-2.view_is in
    let same : c.add_key.new.self.schema ≡ out.grown.schema = c.in_ok-add_key.ensures.schema ∙ ap (λ (x : Grown). x.schema) grown in
    let kept = last_kept out c.add_key.new.self rows c.args.self.now.grown.count (c.len-last.result - 1) c.in_ok-block.block ended same
    (omega (arith, ap (λ (o : Growing). o.grown.count) c.self.view_is, c.if-self-eq0.false)) (ap (λ n. n - 1) c.len-last.ensures.count)
    (λ written keyed pending keeps. c.in_ok-add_key.ensures.rows written keyed pending (subst (λ (x : Grown). KeepsRows x written keyed pending) (sym grown) keeps)) in
    subst (λ (s : Schema). HasWritten c.self-2.inside.stage c.add_key.new.self rows (with_final s.granularity rows)) (same ∙ c.in_ok-block.ensures.schema)
    (subst (λ (f : Filling). HasWritten f c.add_key.new.self rows (with_final c.add_key.new.self.schema.granularity rows)) (sym stage) kept)
