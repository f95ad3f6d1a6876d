use Rattle.std.proofs.Common.{◌≡◌, ◌∙◌, ◌<◌, ◌++◌, ◌∷◌, [], ℕ, List, Option, ap, arith, refl, rules, subst, sym}
use Rattle.std.proofs.lemmas.Result.{on_err_weaker, on_ok_weaker}
use Rattle.std.specs.BTreeMap.{BTreeMap}
use Rattle.std.specs.Result.{OnErr, OnOk}
use Rattle.mt_values.specs.declared.mutation.Mutation.{Mutation}
use Rattle.mutation_queue.specs.Listed.{Listed, list_on, room_on}
use Rattle.mutation_queue.specs.Queue.{IsPut, listed_of}
use Rattle.mutation_queue.proofs.Maps.{all_listed, other_listed, put_other}
use Rattle.mutation_queue.proofs.mutations.Mutations.accept.Goals as goal

pub returns-in-Some-clause-others : goal.returns-in-Some-clause-others
returns-in-Some-clause-others c =
    let updates = (c.get_mut.follows.holds c.accept.new.self).3 (search rules) in
    λ t apart. ap list_on (other_listed c.args.self.now.tables (c.get_mut.follows.lender c.accept.new.self) c.args.table.now _ updates t apart)

pub returns-in-Some-clause-rooms : goal.returns-in-Some-clause-rooms
returns-in-Some-clause-rooms c =
    let updates = (c.get_mut.follows.holds c.accept.new.self).3 (search rules) in
    λ t apart had. subst (λ (o : Option Listed). 0 < room_on o) (sym (other_listed c.args.self.now.tables (c.get_mut.follows.lender c.accept.new.self) c.args.table.now _ updates t apart)) had

pub returns-in-Some-clause-err : goal.returns-in-Some-clause-err
returns-in-Some-clause-err c =
    let updates = (c.get_mut.follows.holds c.accept.new.self).3 (search rules) in
    on_err_weaker c.accept.result (λ same. all_listed c.args.self.now.tables (c.get_mut.follows.lender c.accept.new.self) c.args.table.now _ updates (λ (o p : Option Listed). list_on p ≡ list_on o) (λ o. refl) (same ∙ ap list_on c.in-Some.ensures.value)) c.accept.ensures.err

pub returns-clause-ok : goal.returns-clause-ok
returns-clause-ok c =
    let base = c.args.self.now.tables in
    let new = c.put.new.self.tables in
    let table = c.args.table.now in
    let numbered = c.accept-2.new.self in
    let ok : OnOk c.put.result (IsPut base new table numbered) = subst (λ (m : BTreeMap (List ℕ) Listed). OnOk c.put.result (IsPut m new table numbered)) c.get_mut.follows.holds-at-none c.put.ensures.ok in
    on_ok_weaker c.put.result
    (λ put. ap list_on put.1 ∙ (c.in_ok-accept.ensures.ok ∙ ap (λ (l : List Mutation). l ++ c.args.mutation ∷ []) (c.new-numbered.ensures ∙ ap list_on c.in_default.ensures.value))) ok

pub returns-clause-others : goal.returns-clause-others
returns-clause-others c =
    let base = c.args.self.now.tables in
    let new = c.put.new.self.tables in
    let table = c.args.table.now in
    let numbered = c.accept-2.new.self in
    let ok : OnOk c.put.result (IsPut base new table numbered) = subst (λ (m : BTreeMap (List ℕ) Listed). OnOk c.put.result (IsPut m new table numbered)) c.get_mut.follows.holds-at-none c.put.ensures.ok in
    let err : OnErr c.put.result ((t : List ℕ) → listed_of new t ≡ listed_of base t) = subst (λ (m : BTreeMap (List ℕ) Listed). OnErr c.put.result ((t : List ℕ) → listed_of new t ≡ listed_of m t)) c.get_mut.follows.holds-at-none c.put.ensures.err in
    λ t apart. ap list_on (put_other base new table numbered c.put.result ok err t apart)

pub returns-clause-err : goal.returns-clause-err
returns-clause-err c =
    let base = c.args.self.now.tables in
    let new = c.put.new.self.tables in
    let err : OnErr c.put.result ((t : List ℕ) → listed_of new t ≡ listed_of base t) = subst (λ (m : BTreeMap (List ℕ) Listed). OnErr c.put.result ((t : List ℕ) → listed_of new t ≡ listed_of m t)) c.get_mut.follows.holds-at-none c.put.ensures.err in
    on_err_weaker c.put.result (λ same t. ap list_on (same t)) err

pub returns-clause-room : goal.returns-clause-room
returns-clause-room c = λ had. let none : room_on (listed_of c.args.self.now.tables c.args.table.now) ≡ 0 = ap room_on (sym c.in_default.ensures.value) in absurd (omega (arith, none, had))

pub returns-clause-rooms : goal.returns-clause-rooms
returns-clause-rooms c =
    let base = c.args.self.now.tables in
    let new = c.put.new.self.tables in
    let table = c.args.table.now in
    let numbered = c.accept-2.new.self in
    let ok : OnOk c.put.result (IsPut base new table numbered) = subst (λ (m : BTreeMap (List ℕ) Listed). OnOk c.put.result (IsPut m new table numbered)) c.get_mut.follows.holds-at-none c.put.ensures.ok in
    let err : OnErr c.put.result ((t : List ℕ) → listed_of new t ≡ listed_of base t) = subst (λ (m : BTreeMap (List ℕ) Listed). OnErr c.put.result ((t : List ℕ) → listed_of new t ≡ listed_of m t)) c.get_mut.follows.holds-at-none c.put.ensures.err in
    λ t apart had. subst (λ (o : Option Listed). 0 < room_on o) (sym (put_other base new table numbered c.put.result ok err t apart)) had
