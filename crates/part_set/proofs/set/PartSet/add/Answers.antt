use Rattle.std.proofs.Common.{false, ◌≡◌, ◌∙◌, ℕ, List, ap, arith, rules, subst, sym}
use Rattle.std.proofs.lemmas.Result.{on_err_weaker, on_ok_weaker}
use Rattle.std.specs.BTreeMap.{BTreeMap}
use Rattle.std.specs.Result.{OnErr, OnOk}
use Rattle.part_set.specs.declared.kept.Kept.{Kept}
use Rattle.part_set.specs.Parts.{IsAdded}
use Rattle.part_set.specs.Shelf.{Shelf, all_parts}
use Rattle.part_set.specs.Sets.{IsPut, parts_on, shelves_of}
use Rattle.part_set.proofs.Maps.{all_parts_kept, here_ordered, other_parts, other_room, put_other, room_same}
use Rattle.part_set.proofs.set.PartSet.add.Goals as goal

pub returns-in-Some-clause-others : goal.returns-in-Some-clause-others
returns-in-Some-clause-others g c =
    let updates = (c.get_mut.follows.holds c.add.new.self).3 (search rules) in
    other_parts c.args.self.now.tables (c.get_mut.follows.lender c.add.new.self) c.args.table.now _ updates

pub returns-in-Some-clause-rooms : goal.returns-in-Some-clause-rooms
returns-in-Some-clause-rooms g c =
    let updates = (c.get_mut.follows.holds c.add.new.self).3 (search rules) in
    λ t p apart had. other_room c.args.self.now.tables (c.get_mut.follows.lender c.add.new.self) c.args.table.now _ updates t p apart had

pub returns-in-Some-clause-err : goal.returns-in-Some-clause-err
returns-in-Some-clause-err g c =
    let updates = (c.get_mut.follows.holds c.add.new.self).3 (search rules) in
    on_err_weaker c.add.result (λ same. all_parts_kept c.args.self.now.tables (c.get_mut.follows.lender c.add.new.self) c.args.table.now _ updates (same ∙ ap parts_on c.in-Some.ensures.value)) c.add.ensures.err

pub returns-in-Some-clause-ordered : goal.returns-in-Some-clause-ordered
returns-in-Some-clause-ordered g c =
    let updates = (c.get_mut.follows.holds c.add.new.self).3 (search rules) in
    on_ok_weaker c.add.result (here_ordered c.args.self.now.tables (c.get_mut.follows.lender c.add.new.self) c.args.table.now _ updates) c.add.ensures.ordered

pub returns-clause-ok : goal.returns-clause-ok
returns-clause-ok g c =
    let base = c.args.self.now.tables in
    let new = c.put.new.self.tables in
    let table = c.args.table.now in
    let shelves = c.add-2.new.self in
    let ok : OnOk c.put.result (IsPut base new table shelves) = subst (λ (m : BTreeMap (List ℕ) (List (ℕ × Shelf g.row.P.Denot))). OnOk c.put.result (IsPut m new table shelves)) c.get_mut.follows.holds-at-none c.put.ensures.ok in
    on_ok_weaker c.put.result
    (λ put.
    subst (λ (b : List (Kept g.row.P.Denot)). IsAdded b (record { name = c.args.name; part = c.args.part; busy = false }) (parts_on (shelves_of new table))) (ap all_parts c.new-parts.ensures ∙ ap parts_on c.in_default.ensures.value)
    (subst (λ (a : List (Kept g.row.P.Denot)). IsAdded (all_parts c.new-parts.result) (record { name = c.args.name; part = c.args.part; busy = false }) a) (sym (ap parts_on put.1)) c.in_ok-add.ensures.ok))
    ok

pub returns-clause-ordered : goal.returns-clause-ordered
returns-clause-ordered g c =
    let base = c.args.self.now.tables in
    let new = c.put.new.self.tables in
    let table = c.args.table.now in
    let shelves = c.add-2.new.self in
    let ok : OnOk c.put.result (IsPut base new table shelves) = subst (λ (m : BTreeMap (List ℕ) (List (ℕ × Shelf g.row.P.Denot))). OnOk c.put.result (IsPut m new table shelves)) c.get_mut.follows.holds-at-none c.put.ensures.ok in
    on_ok_weaker c.put.result (λ put. here_ordered base new table _ put c.in_ok-add.ensures.ordered) ok

pub returns-clause-others : goal.returns-clause-others
returns-clause-others g c =
    let base = c.args.self.now.tables in
    let new = c.put.new.self.tables in
    let table = c.args.table.now in
    let shelves = c.add-2.new.self in
    let ok : OnOk c.put.result (IsPut base new table shelves) = subst (λ (m : BTreeMap (List ℕ) (List (ℕ × Shelf g.row.P.Denot))). OnOk c.put.result (IsPut m new table shelves)) c.get_mut.follows.holds-at-none c.put.ensures.ok in
    let err : OnErr c.put.result ((t : List ℕ) → shelves_of new t ≡ shelves_of base t) = subst (λ (m : BTreeMap (List ℕ) (List (ℕ × Shelf g.row.P.Denot))). OnErr c.put.result ((t : List ℕ) → shelves_of new t ≡ shelves_of m t)) c.get_mut.follows.holds-at-none c.put.ensures.err in
    λ t apart. ap parts_on (put_other base new table shelves c.put.result ok err t apart)

pub returns-clause-err : goal.returns-clause-err
returns-clause-err g c =
    let base = c.args.self.now.tables in
    let new = c.put.new.self.tables in
    let table = c.args.table.now in
    let shelves = c.add-2.new.self in
    let ok : OnOk c.put.result (IsPut base new table shelves) = subst (λ (m : BTreeMap (List ℕ) (List (ℕ × Shelf g.row.P.Denot))). OnOk c.put.result (IsPut m new table shelves)) c.get_mut.follows.holds-at-none c.put.ensures.ok in
    let err : OnErr c.put.result ((t : List ℕ) → shelves_of new t ≡ shelves_of base t) = subst (λ (m : BTreeMap (List ℕ) (List (ℕ × Shelf g.row.P.Denot))). OnErr c.put.result ((t : List ℕ) → shelves_of new t ≡ shelves_of m t)) c.get_mut.follows.holds-at-none c.put.ensures.err in
    on_err_weaker c.put.result (λ same t. ap parts_on (same t)) err

pub returns-clause-room : goal.returns-clause-room
returns-clause-room g c = λ room. let none = room_same c.args.name.partition _ _ c.in_default.ensures.value room in absurd (omega (arith, none))

pub returns-clause-rooms : goal.returns-clause-rooms
returns-clause-rooms g c =
    let base = c.args.self.now.tables in
    let new = c.put.new.self.tables in
    let table = c.args.table.now in
    let shelves = c.add-2.new.self in
    let ok : OnOk c.put.result (IsPut base new table shelves) = subst (λ (m : BTreeMap (List ℕ) (List (ℕ × Shelf g.row.P.Denot))). OnOk c.put.result (IsPut m new table shelves)) c.get_mut.follows.holds-at-none c.put.ensures.ok in
    let err : OnErr c.put.result ((t : List ℕ) → shelves_of new t ≡ shelves_of base t) = subst (λ (m : BTreeMap (List ℕ) (List (ℕ × Shelf g.row.P.Denot))). OnErr c.put.result ((t : List ℕ) → shelves_of new t ≡ shelves_of m t)) c.get_mut.follows.holds-at-none c.put.ensures.err in
    λ t p apart had. room_same p _ _ (put_other base new table shelves c.put.result ok err t apart) had
