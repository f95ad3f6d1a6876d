use Rattle.std.proofs.Common.{◌≡◌, ◌∙◌, ℕ, List, ap, arith, rules, subst}
use Rattle.std.proofs.lemmas.Result.{on_ok_weaker}
use Rattle.std.specs.BTreeMap.{BTreeMap}
use Rattle.std.specs.Result.{OnErr, OnOk}
use Rattle.part_set.specs.Shelf.{Shelf, all_parts}
use Rattle.part_set.specs.Sets.{IsPut, parts_on, shelves_of}
use Rattle.part_set.proofs.Maps.{all_parts_kept, all_room, put_parts, put_room, room_same}
use Rattle.part_set.proofs.set.PartSet.reserve.Goals as goal

pub returns-in-Some-clause-parts : goal.returns-in-Some-clause-parts
returns-in-Some-clause-parts g c =
    let updates = (c.get_mut.follows.holds c.reserve.new.self).3 (search rules) in
    all_parts_kept c.args.self.now.tables (c.get_mut.follows.lender c.reserve.new.self) c.args.table.now _ updates (c.reserve.ensures.parts ∙ ap parts_on c.in-Some.ensures.value)

pub returns-in-Some-clause-kept : goal.returns-in-Some-clause-kept
returns-in-Some-clause-kept g c =
    let updates = (c.get_mut.follows.holds c.reserve.new.self).3 (search rules) in
    λ t p. all_room c.args.self.now.tables (c.get_mut.follows.lender c.reserve.new.self) c.args.table.now _ updates p (λ room. c.reserve.ensures.kept p (room_same p _ _ c.in-Some.ensures.value room)) t

pub returns-clause-parts : goal.returns-clause-parts
returns-clause-parts g c =
    let base = c.args.self.now.tables in
    let new = c.put.new.self.tables in
    let table = c.args.table.now in
    let shelves = c.reserve-2.new.self in
    let ok : OnOk c.put.result (IsPut base new table shelves) = subst (λ (m : BTreeMap (List ℕ) (List (ℕ × Shelf g.row.P.Denot))). OnOk c.put.result (IsPut m new table shelves)) c.get_mut.follows.holds-at-none c.put.ensures.ok in
    let err : OnErr c.put.result ((t : List ℕ) → shelves_of new t ≡ shelves_of base t) = subst (λ (m : BTreeMap (List ℕ) (List (ℕ × Shelf g.row.P.Denot))). OnErr c.put.result ((t : List ℕ) → shelves_of new t ≡ shelves_of m t)) c.get_mut.follows.holds-at-none c.put.ensures.err in
    put_parts base new table shelves c.put.result ok err (c.in_ok-reserve.ensures.parts ∙ (ap all_parts c.new-parts.ensures ∙ ap parts_on c.in_default.ensures.value))

pub returns-clause-room : goal.returns-clause-room
returns-clause-room g c =
    let base = c.args.self.now.tables in
    let new = c.put.new.self.tables in
    let table = c.args.table.now in
    let shelves = c.reserve-2.new.self in
    let ok : OnOk c.put.result (IsPut base new table shelves) = subst (λ (m : BTreeMap (List ℕ) (List (ℕ × Shelf g.row.P.Denot))). OnOk c.put.result (IsPut m new table shelves)) c.get_mut.follows.holds-at-none c.put.ensures.ok in
    on_ok_weaker c.put.result (λ put. room_same c.args.partition _ _ put.1 c.in_ok-reserve.ensures.room) ok

pub returns-clause-kept : goal.returns-clause-kept
returns-clause-kept g c =
    let base = c.args.self.now.tables in
    let new = c.put.new.self.tables in
    let table = c.args.table.now in
    let shelves = c.reserve-2.new.self in
    let ok : OnOk c.put.result (IsPut base new table shelves) = subst (λ (m : BTreeMap (List ℕ) (List (ℕ × Shelf g.row.P.Denot))). OnOk c.put.result (IsPut m new table shelves)) c.get_mut.follows.holds-at-none c.put.ensures.ok in
    let err : OnErr c.put.result ((t : List ℕ) → shelves_of new t ≡ shelves_of base t) = subst (λ (m : BTreeMap (List ℕ) (List (ℕ × Shelf g.row.P.Denot))). OnErr c.put.result ((t : List ℕ) → shelves_of new t ≡ shelves_of m t)) c.get_mut.follows.holds-at-none c.put.ensures.err in
    put_room base new table shelves c.put.result ok err (λ p had. let none = room_same p _ _ c.in_default.ensures.value had in absurd (omega (arith, none)))
