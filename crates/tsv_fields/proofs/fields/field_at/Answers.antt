use Rattle.std.proofs.Common.{◌+◌, ◌-◌, ◌≤◌, ◌∙◌, sym, ap, arith, get_or, slice_get, length, rules}
use Rattle.tsv_fields.proofs.Marking.{piece_at, piece_bounds, start_behind}
use Rattle.tsv_fields.proofs.fields.field_at.Goals as goal
use Rattle.tsv_fields.proofs.fields.field_at.Goals.{Else-place-eq0}

-- the field lies within the line
inside : (c : Else-place-eq0) → (get_or c.args.ends.now (c.args.place - 1) 0 + 1 ≤ get_or c.args.ends.now c.args.place 0) × (get_or c.args.ends.now c.args.place 0 ≤ length c.args.line.now)
inside c =
    let bounds = piece_bounds 0 c.args.ends.now (length c.args.line.now) c.args.place c.requires.within c.requires.fields.rise in
    let start = start_behind 0 c.args.ends.now c.args.place (omega arith) in
    (omega arith, omega arith)

pub overflow_add-start : goal.overflow_add-start
overflow_add-start c = let b = inside (goal.at.overflow_add-start c).Else-place-eq0 in search rules

pub slice_bounds-result-count : goal.slice_bounds-result-count
slice_bounds-result-count c = let b = inside (goal.at.slice_bounds-result-count c).Else-place-eq0 in b.0

pub slice_bounds-result-start : goal.slice_bounds-result-start
slice_bounds-result-start c = let b = inside (goal.at.slice_bounds-result-start c).Else-place-eq0 in search rules

pub slice_bounds-result-end-2 : goal.slice_bounds-result-end-2
slice_bounds-result-end-2 c = let b = inside (goal.at.slice_bounds-result-end-2 c).Else-place-eq0 in search rules

pub returns : goal.returns
returns c =
    let ends = c.args.ends.now in
    let start = start_behind 0 ends c.args.place (omega arith) in
    ap (λ fs. slice_get fs c.args.place) (sym c.requires.fields.fields) ∙ rw start at (piece_at 0 ends c.args.line.now c.args.place c.requires.within)
