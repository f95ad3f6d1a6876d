use Rattle.std.proofs.Common.{false, ◌∙◌, ◌<◌, ap, arith, refl, subst, sym}
use Rattle.std.proofs.lemmas.Result.{err_from_is_err_and}
use Rattle.part_set.specs.Parts.{IsAdded, NoneMeets}
use Rattle.part_set.specs.Shelf.{Shelf}
use Rattle.part_set.proofs.Inserts.{order_inserted}
use Rattle.part_set.proofs.Orders.{all_turned}
use Rattle.part_set.proofs.shelf.PartitionParts.add.Goals as goal

pub invariant_of-self-2 : goal.invariant_of-self-2
invariant_of-self-2 g c =
    let value = c.as_slice.ensures.value in
    let within = rw value at c.place_of-place.ensures.within in
    let front = c.place_of-place.ensures.front in
    let back = all_turned c.self.inside.parts.items c.args.name _ _ (rw value at c.place_of-place.ensures.back) in
    let none = subst (λ (s : Shelf g.row.P.Denot). NoneMeets s.parts c.args.name) (sym c.self.view_is) c.requires in
    rw c.in_ok-insert.ensures.items (order_inserted c.self.inside.parts.items (record { name = c.args.name; part = c.args.part; busy = false }) c.place_of-place.result within c.self.invariant none (rw value at front) back)

pub returns-clause-ordered : goal.returns-clause-ordered
returns-clause-ordered g c =
    let value = c.as_slice.ensures.value in
    let within = rw value at c.place_of-place.ensures.within in
    let front = c.place_of-place.ensures.front in
    let back = all_turned c.self.inside.parts.items c.args.name _ _ (rw value at c.place_of-place.ensures.back) in
    let none = subst (λ (s : Shelf g.row.P.Denot). NoneMeets s.parts c.args.name) (sym c.self.view_is) c.requires in
    rw c.in_ok-insert.ensures.items (order_inserted c.self.inside.parts.items (record { name = c.args.name; part = c.args.part; busy = false }) c.place_of-place.result within c.self.invariant none (rw value at front) back)

pub returns-clause-ok : goal.returns-clause-ok
returns-clause-ok g c =
    let value = c.as_slice.ensures.value in
    subst (λ (s : Shelf g.row.P.Denot). IsAdded s.parts (record { name = c.args.name; part = c.args.part; busy = false }) c.insert.new.self.items) c.self.view_is
    (record { place = c.place_of-place.result; within = rw value at c.place_of-place.ensures.within; is = c.in_ok-insert.ensures.items })

pub returns-clause-room : goal.returns-clause-room
returns-clause-room g c = λ room. refl

pub returns-in_err-insert : goal.returns-in_err-insert
returns-in_err-insert g c =
    let p = err_from_is_err_and c.from_residual.result c.from_residual.ensures.1 in
    rw p.1
    record {
      ok = tt;
      ordered = tt;
      err = c.in_err-insert.ensures.items ∙ ap (λ (s : Shelf g.row.P.Denot). s.parts) c.self.view_is;
      room = λ some.
          let inside = subst (λ (s : Shelf g.row.P.Denot). 0 < s.room) (sym c.self.view_is) some in
          c.in_err-insert.ensures.succeeds (omega (arith, inside, c.self.inside.parts.ok.0));
    }

pub invariant_of-self : goal.invariant_of-self
invariant_of-self g c = rw c.in_err-insert.ensures.items c.self.invariant

pub place_of-place-requires : goal.place_of-place-requires
place_of-place-requires g c = rw c.as_slice.ensures.value c.self.invariant
