use Rattle.std.proofs.Common.{◌∙◌, ◌<◌, ap, arith, subst, sym}
use Rattle.std.proofs.lemmas.Result.{err_from_is_err_and}
use Rattle.part_set.specs.Shelf.{Shelf}
use Rattle.part_set.proofs.shelf.PartitionParts.reserve.Goals as goal

pub returns-clause-room : goal.returns-clause-room
returns-clause-room g c = let ok = c.in_ok-reserve.ensures.ok in omega arith

pub returns-clause-kept : goal.returns-clause-kept
returns-clause-kept g c = let ok = c.in_ok-reserve.ensures.ok in λ room. omega arith

pub returns-in_err-reserve : goal.returns-in_err-reserve
returns-in_err-reserve g c =
    let p = err_from_is_err_and c.from_residual.result c.from_residual.ensures.1 in
    rw p.1
    record {
      parts = c.in_err-reserve.ensures.items ∙ ap (λ (s : Shelf g.row.P.Denot). s.parts) c.self.view_is;
      room = tt;
      kept = λ room. rw (c.in_err-reserve.ensures.err, c.in_err-reserve.ensures.items) (subst (λ (s : Shelf g.row.P.Denot). 0 < s.room) (sym c.self.view_is) room);
    }

pub invariant_of-self : goal.invariant_of-self
invariant_of-self g c = rw c.in_err-reserve.ensures.items c.self.invariant

pub invariant_of-self-2 : goal.invariant_of-self-2
invariant_of-self-2 g c = rw c.in_ok-reserve.ensures.items c.self.invariant
