use Rattle.std.proofs.Common.{◌+◌, take, sym, ap, ap₂, ◌∙◌, subst}
use Rattle.std.proofs.lemmas.Option.{MatchOption-at_none, MatchOption-at_some}
use Rattle.root_opening.specs.Names.{AreNamesOf, creates_in}
use Rattle.root_opening.proofs.NameReads.{bad_first, creates_more, few_more, names_more}
use Rattle.root_opening.proofs.names.read_each.Goals as goal

pub loop-place-preserved : goal.loop-place-preserved
loop-place-preserved c =
    let texts = c.args.texts.now in
    let name = c.in-Some.name in
    let read = MatchOption-at_some _ _ name c.in-Some.is c.in_ok-name.ensures.read in
    let few = MatchOption-at_some _ _ name c.in-Some.is c.in_ok-name.ensures.few in
    record {
      names = subst (AreNamesOf (take (c.loop-place.place + 1) texts)) (sym c.in_ok-push.ensures.ok) (names_more texts c.loop-place.place c.index-texts-place.result c.loop-place.names name c.loop-place-test.true c.index-texts-place.is c.loop-place.invariant.names read.0 read.1);
      count = ap₂ ◌+◌ c.loop-place.invariant.count c.tables_of-tables.ensures.value ∙ (sym (creates_more c.loop-place.names name) ∙ ap creates_in (sym c.in_ok-push.ensures.ok));
      few = few_more c.loop-place.tables c.tables_of-tables.result name c.loop-place.invariant.few few c.tables_of-tables.ensures.value;
    }

pub returns-in_default-clause-bad : goal.returns-in_default-clause-bad
returns-in_default-clause-bad c =
    bad_first c.args.texts.now c.loop-place.place c.index-texts-place.result c.loop-place.names c.loop-place.tables c.loop-place-test.true c.index-texts-place.is c.loop-place.invariant.names c.loop-place.invariant.count c.loop-place.invariant.few
    (MatchOption-at_none _ _ c.in_default.is c.in_ok-name.ensures.bad)
