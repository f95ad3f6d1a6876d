use Rattle.std.proofs.Common.{◌≡◌, ◌<◌, ◌≤◌, length, get_or, ap, ◌∙◌, arith, rules}
use Rattle.std.proofs.lemmas.List.{get_or_read}
use Rattle.mt_values.specs.Strings.{start_of}
use Rattle.mt_values.proofs.Texts.{bounds_at, slice_get-texts_from, length-texts_from}
use Rattle.mt_values.proofs.strings.Strings.at.Goals as goal
use Rattle.mt_values.proofs.strings.Strings.at.Goals.{After-deref-2}

pub start_at-start-requires : goal.start_at-start-requires
start_at-start-requires c =
    let n = length-texts_from 0 c.self.inside.ends.items c.self.inside.bytes.items in
    let e = ap length c.self.view_is in
    omega (arith, ap length c.deref.ensures.value)

pub index-end-requires : goal.index-end-requires
index-end-requires c =
    let n = length-texts_from 0 c.self.inside.ends.items c.self.inside.bytes.items in
    let e = ap length c.self.view_is in
    let o = c.self.inside.ends.ok.0 in
    omega arith

-- the place is one of an end
within : (c : After-deref-2) → c.args.place < length c.self.inside.ends.items
within c =
    let n = length-texts_from 0 c.self.inside.ends.items c.self.inside.bytes.items in
    let e = ap length c.self.view_is in
    omega arith

starts : (c : After-deref-2) → c.start_at-start.result ≡ start_of 0 c.self.inside.ends.items c.args.place
starts c = c.start_at-start.ensures ∙ ap (λ ends. start_of 0 ends c.args.place) c.deref.ensures.value

ends : (c : After-deref-2) → c.index-end.result.now ≡ get_or c.self.inside.ends.items c.args.place 0
ends c = get_or_read c.self.inside.ends.items c.args.place c.index-end.result.now (within c) c.index-end.ensures 0

inside : (c : After-deref-2) → (c.start_at-start.result ≤ c.index-end.result.now) × (c.index-end.result.now ≤ length c.deref-2.result.now)
inside c =
    let b = bounds_at 0 c.self.inside.ends.items (length c.self.inside.bytes.items) c.args.place (within c) c.self.invariant in
    let s = starts c in
    let e = ends c in
    let l = ap length c.deref-2.ensures.value in
    (omega arith, omega arith)

pub slice_bounds-result-count : goal.slice_bounds-result-count
slice_bounds-result-count c = (inside c).0

pub slice_bounds-result-start : goal.slice_bounds-result-start
slice_bounds-result-start c = let b = inside c in search rules

pub slice_bounds-result-end : goal.slice_bounds-result-end
slice_bounds-result-end c = let b = inside c in search rules

pub returns : goal.returns
returns c =
    let d = (goal.at.returns c).After-deref-2 in
    rw (starts d, ends d, c.deref-2.ensures.value, ← c.self.view_is) (slice_get-texts_from 0 c.self.inside.ends.items c.self.inside.bytes.items c.args.place (within d))
