-- what the parts gone over had
use Rattle.std.proofs.Common.{◌≡◌, ◌≤◌, [], All, List, length, map, take}
use Rattle.mt_outside.specs.Leaves.{LeavesArm}
use Rattle.mt_values.specs.Grid.{Cells}
use Rattle.mt_values.specs.Values.{Row}
use Rattle.final_fold.specs.Matches.{HoldEachMatch, MeetWhereUnasked, asked_of, matching}
use Rattle.row_merge.specs.MergedParts.{PartsHold}
use Rattle.final_fold.specs.Scans.{joined_rows, rows_kept, values_at}
use Rattle.final_fold.proofs.matches.add_matches.Given as goal

abbrev pub invariant-loop-number : goal.invariant-loop-number
invariant-loop-number g l = record {
  values : (rows : List (List Row)) → PartsHold g.R.Dir.Dir.files l.wanted.schema.now l.parts rows → HoldEachMatch l.wanted l.chosen rows → MeetWhereUnasked l.wanted l.chosen (asked_of l.wanted l.parts l.chosen) rows
      → map (λ (c : Cells). c.values) l.initial.columns ≡ values_at [] l.wanted.places.now
      → map (λ (c : Cells). c.values) l.columns ≡ values_at (matching l.wanted.condition.now (joined_rows (take l.number rows))) l.wanted.places.now;
  counted : (rows : List (List Row)) → PartsHold g.R.Dir.Dir.files l.wanted.schema.now l.parts rows → HoldEachMatch l.wanted l.chosen rows → MeetWhereUnasked l.wanted l.chosen (asked_of l.wanted l.parts l.chosen) rows
      → l.count ≡ length (matching l.wanted.condition.now (joined_rows (take l.number rows)));
  types : map (λ (c : Cells). c.col_type) l.columns ≡ map (λ (c : Cells). c.col_type) l.initial.columns;
  even : All (λ (c : Cells). length c.values ≡ 0) l.initial.columns → All (λ (c : Cells). length c.values ≡ l.count) l.columns;
  few : l.count ≤ rows_kept (take l.number l.parts);
  arm : LeavesArm g.R.Arm l.initial.arm l.arm ⊥;
}
