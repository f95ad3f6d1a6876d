use Rattle.std.proofs.Common.{ℕ, ◌<◌, ◌+◌, [], All, ap, arith, subst, sym, ◌∙◌}
use Rattle.std.proofs.lemmas.List.Elements.{All-nil, All-push}
use Rattle.part_writer.specs.declared.column_out.ColumnOut.{ColumnOut}
use Rattle.part_writer.specs.Growing.{HasGrown}
use Rattle.part_writer.proofs.column_out.empty_files.Goals as goal

-- a file without bytes
abbrev IsNew : ColumnOut → Type 0
IsNew c = (granularity : ℕ) → 0 < granularity → HasGrown granularity [] c

pub loop-init : goal.loop-init
loop-init c = record {
  count = c.in_ok-files.ensures.len;
  room = c.in_ok-files.ensures.exact;
  none = subst (All IsNew) (sym c.in_ok-files.ensures.items) (All-nil IsNew);
}

pub push_reserved-requires : goal.push_reserved-requires
push_reserved-requires c = omega (arith, c.loop.invariant.count, c.loop.invariant.room, c.loop-test.true)

pub loop-preserved : goal.loop-preserved
loop-preserved c = record {
  count = c.push_reserved.ensures.len ∙ ap (λ n. n + 1) c.loop.invariant.count;
  room = c.push_reserved.ensures.capacity ∙ c.loop.invariant.room;
  none = subst (All IsNew) (sym c.push_reserved.ensures.items) (All-push IsNew c.loop.files.items c.in_ok-new.field-0 c.loop.invariant.none c.in_ok-new.ensures);
}

pub returns-clause-count : goal.returns-clause-count
returns-clause-count c = omega (arith, c.loop.files.ok.0, c.loop.invariant.count, c.loop-test.false, c.loop.auto.counter-end)

pub returns-clause-none : goal.returns-clause-none
returns-clause-none c = c.loop.invariant.none
