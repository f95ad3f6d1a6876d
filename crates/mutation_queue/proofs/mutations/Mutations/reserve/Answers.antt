use Rattle.std.proofs.Common.{◌≡◌, ◌∙◌, ◌<◌, ℕ, List, Option, ap, arith, refl, rules, subst, sym}
use Rattle.std.proofs.lemmas.Result.{on_ok_weaker}
use Rattle.std.specs.BTreeMap.{BTreeMap}
use Rattle.std.specs.Result.{OnErr, OnOk}
use Rattle.mutation_queue.specs.Listed.{Listed, list_on, room_on}
use Rattle.mutation_queue.specs.Queue.{IsPut, listed_of}
use Rattle.mutation_queue.proofs.Maps.{all_listed, put_all}
use Rattle.mutation_queue.proofs.mutations.Mutations.reserve.Goals as goal

pub returns-in-Some-clause-mutations : goal.returns-in-Some-clause-mutations
returns-in-Some-clause-mutations c =
    let updates = (c.get_mut.follows.holds c.reserve.new.self).3 (search rules) in
    all_listed c.args.self.now.tables (c.get_mut.follows.lender c.reserve.new.self) c.args.table.now _ updates (λ (o p : Option Listed). list_on p ≡ list_on o) (λ o. refl) (c.reserve.ensures.list ∙ ap list_on c.in-Some.ensures.value)

pub returns-in-Some-clause-kept : goal.returns-in-Some-clause-kept
returns-in-Some-clause-kept c =
    let updates = (c.get_mut.follows.holds c.reserve.new.self).3 (search rules) in
    all_listed c.args.self.now.tables (c.get_mut.follows.lender c.reserve.new.self) c.args.table.now _ updates (λ (o p : Option Listed). 0 < room_on o → 0 < room_on p) (λ o had. had)
    (λ had. c.reserve.ensures.kept (subst (λ (o : Option Listed). 0 < room_on o) (sym c.in-Some.ensures.value) had))

pub returns-clause-mutations : goal.returns-clause-mutations
returns-clause-mutations c =
    let base = c.args.self.now.tables in
    let new = c.put.new.self.tables in
    let table = c.args.table.now in
    let numbered = c.reserve-2.new.self in
    let ok : OnOk c.put.result (IsPut base new table numbered) = subst (λ (m : BTreeMap (List ℕ) Listed). OnOk c.put.result (IsPut m new table numbered)) c.get_mut.follows.holds-at-none c.put.ensures.ok in
    let err : OnErr c.put.result ((t : List ℕ) → listed_of new t ≡ listed_of base t) = subst (λ (m : BTreeMap (List ℕ) Listed). OnErr c.put.result ((t : List ℕ) → listed_of new t ≡ listed_of m t)) c.get_mut.follows.holds-at-none c.put.ensures.err in
    put_all base new table numbered (λ (o p : Option Listed). list_on p ≡ list_on o) (λ o. refl) c.put.result ok err (c.in_ok-reserve.ensures.list ∙ (c.new-numbered.ensures ∙ ap list_on c.in_default.ensures.value))

pub returns-clause-room : goal.returns-clause-room
returns-clause-room c =
    let base = c.args.self.now.tables in
    let new = c.put.new.self.tables in
    let table = c.args.table.now in
    let numbered = c.reserve-2.new.self in
    let ok : OnOk c.put.result (IsPut base new table numbered) = subst (λ (m : BTreeMap (List ℕ) Listed). OnOk c.put.result (IsPut m new table numbered)) c.get_mut.follows.holds-at-none c.put.ensures.ok in
    on_ok_weaker c.put.result (λ put. subst (λ (o : Option Listed). 0 < room_on o) (sym put.1) c.in_ok-reserve.ensures.room) ok

pub returns-clause-kept : goal.returns-clause-kept
returns-clause-kept c =
    let base = c.args.self.now.tables in
    let new = c.put.new.self.tables in
    let table = c.args.table.now in
    let numbered = c.reserve-2.new.self in
    let ok : OnOk c.put.result (IsPut base new table numbered) = subst (λ (m : BTreeMap (List ℕ) Listed). OnOk c.put.result (IsPut m new table numbered)) c.get_mut.follows.holds-at-none c.put.ensures.ok in
    let err : OnErr c.put.result ((t : List ℕ) → listed_of new t ≡ listed_of base t) = subst (λ (m : BTreeMap (List ℕ) Listed). OnErr c.put.result ((t : List ℕ) → listed_of new t ≡ listed_of m t)) c.get_mut.follows.holds-at-none c.put.ensures.err in
    put_all base new table numbered (λ (o p : Option Listed). 0 < room_on o → 0 < room_on p) (λ o had. had) c.put.result ok err
    (λ had. let none : room_on (listed_of base table) ≡ 0 = ap room_on (sym c.in_default.ensures.value) in absurd (omega (arith, none, had)))
