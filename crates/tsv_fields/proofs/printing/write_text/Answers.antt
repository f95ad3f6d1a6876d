use Rattle.std.proofs.Common.{arith}
use Rattle.std.proofs.lemmas.Result.{err_from_is_err_and}
use Rattle.tsv_fields.proofs.Printed.{run_ends, run_goes_on, run_last}
use Rattle.tsv_fields.proofs.printing.write_text.Goals as goal

-- out of memory
pub returns-in_err-extend_from_slice : goal.returns-in_err-extend_from_slice
returns-in_err-extend_from_slice c = let p = err_from_is_err_and c.from_residual.result c.from_residual.ensures.1 in rw p.1 tt

pub returns-in_err-extend_from_slice-2 : goal.returns-in_err-extend_from_slice-2
returns-in_err-extend_from_slice-2 c = let p = err_from_is_err_and c.from_residual-in_err-extend_from_slice-2.result c.from_residual-in_err-extend_from_slice-2.ensures.1 in rw p.1 tt

pub returns-in_err-extend_from_slice-3 : goal.returns-in_err-extend_from_slice-3
returns-in_err-extend_from_slice-3 c = let p = err_from_is_err_and c.from_residual-in_err-extend_from_slice-3.result c.from_residual-in_err-extend_from_slice-3.ensures.1 in rw p.1 tt

pub loop-at-preserved-in_default : goal.loop-at-preserved-in_default
loop-at-preserved-in_default c =
    let invariant = c.loop-at.invariant in
    record {
      within = omega arith;
      printed = run_goes_on c.args.text.now c.args.out.now.items c.loop-at.out.items c.loop-at.start c.loop-at.at invariant.within c.loop-at-test.true invariant.printed c.in_default.ensures;
    }

pub loop-at-preserved : goal.loop-at-preserved
loop-at-preserved c =
    let invariant = c.loop-at.invariant in
    record {
      within = omega arith;
      printed =
          run_ends c.args.text.now c.args.out.now.items c.loop-at.out.items c.loop-at.start c.loop-at.at invariant.within c.loop-at-test.true invariant.printed c.in-Some.letter c.extend_from_slice.new.self.items
          c.extend_from_slice-in-loop-at.new.self.items c.in_ok-extend_from_slice.ensures.items c.in_ok-extend_from_slice-2.ensures.items c.in-Some.ensures;
    }

pub returns : goal.returns
returns c =
    let invariant = c.loop-at.invariant in
    run_last c.args.text.now c.args.out.now.items c.loop-at.out.items c.extend_from_slice-2.new.self.items c.loop-at.start c.loop-at.at (omega arith) invariant.printed c.in_ok-extend_from_slice-3.ensures.items
