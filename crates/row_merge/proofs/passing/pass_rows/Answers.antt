use Rattle.std.proofs.Common.{◌∙◌, ◌<◌, All, List, arith, length, refl, subst, sym}
use Rattle.row_merge.specs.declared.heads.Cursor.{Cursor}
use Rattle.row_merge.specs.Heads.{ahead_of}
use Rattle.row_merge.specs.Merging.{ahead_at}
use Rattle.row_merge.specs.Stretches.{HasAnother}
use Rattle.row_merge.proofs.GoingOn.{on_same, on_then}
use Rattle.row_merge.proofs.passing.pass_rows.Goals as goal

pub rows-init : goal.rows-init
rows-init g c = record {
  on = on_same c.requires.on;
  current = c.requires.current;
  order = c.requires.order;
  merging = λ rows apart m. m;
  fewer = omega arith;
  failed = refl;
}

pub has_another-requires : goal.has_another-requires
has_another-requires g c =
    let s = c.rows.stream in
    subst (λ (cs : List Cursor). All (λ x. 0 < length (ahead_at (ahead_of cs) x)) c.deref-in-rows.result.now) (sym c.deref.ensures.value)
    (subst (All (λ x. 0 < length (ahead_at (ahead_of s.cursors.items) x))) (sym c.deref-in-rows.ensures.value) c.rows.invariant.on.on.stream.ranked.some)

pub pass_row-requires-clause-another : goal.pass_row-requires-clause-another
pass_row-requires-clause-another g c = λ κs within.
    let s = c.rows.stream in
    subst (λ (cs : List Cursor). HasAnother (ahead_of cs) s.ranked.items) c.deref.ensures.value
    (subst (HasAnother (ahead_of c.deref.result.now)) c.deref-in-rows.ensures.value (c.has_another.ensures c.rows-test.true))

pub rows-preserved : goal.rows-preserved
rows-preserved g c =
    let before = c.rows.invariant in
    let now = c.in_ok-key.ensures in
    record {
      on = on_then before.on now.on;
      current = now.current;
      order = now.order;
      merging = λ rows apart m. now.merges rows apart (before.merging rows apart m);
      fewer = omega (arith, now.fewer, before.fewer);
      failed = now.cause.ok ∙ before.failed;
    }

pub rows-smaller : goal.rows-smaller
rows-smaller g c = c.in_ok-key.ensures.fewer

pub pass_row-requires-clause-on : goal.pass_row-requires-clause-on
pass_row-requires-clause-on g c = λ κs within. c.rows.invariant.on.on

pub returns-clause-most : goal.returns-clause-most
returns-clause-most g c = (c.rows.invariant.on.on.stream.counts c.rows.invariant.on.on.shaped).within
