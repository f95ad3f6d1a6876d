use Rattle.std.proofs.Common.{◌≡◌, ◌∙◌, Option, Some, ℕ, arith, subst, sym}
use Rattle.std.proofs.lemmas.Bool.{false≢true}
use Rattle.std.proofs.lemmas.Result.{IfOk-weaker}
use Rattle.part_reader.specs.Compared.{HasIndexOf, IsFirstFailing}
use Rattle.part_reader.proofs.IndexedBlocks.{all_asked, below_more}
use Rattle.part_reader.proofs.indexed.unlike_index.Goals as goal

pub loop-place-preserved : goal.loop-place-preserved
loop-place-preserved c = λ values s.
    below_more (HasIndexOf c.args.schema.now c.args.loaded.now c.args.column.now.number values) c.loop-place.place (c.loop-place.invariant values s) ((c.in_ok-is_index.ensures.same values s).0 c.if-not-branch.false)

pub returns-then-not-branch-clause-found : goal.returns-then-not-branch-clause-found
returns-then-not-branch-clause-found c = λ values s.
    let Holds = HasIndexOf c.args.schema.now c.args.loaded.now c.args.column.now.number values in
    IfOk-weaker c.numbered.result (λ (o : Option ℕ). o ≡ Some c.loop-place.place) (IsFirstFailing Holds)
    (λ o is. subst (IsFirstFailing Holds) (sym is) (c.loop-place.invariant values s, λ has. false≢true (sym c.if-not-branch.true ∙ (c.in_ok-is_index.ensures.same values s).1 has))) c.numbered.ensures.number

pub returns-clause-found : goal.returns-clause-found
returns-clause-found c = λ values s.
    all_asked c.args.schema.now c.args.loaded.now c.args.column.now.number values c.loop-place.place (omega (arith, c.loop-place-test.false, c.len-place-end.ensures)) (c.loop-place.invariant values s)
