use Rattle.std.proofs.Common.{◌≡◌, ◌≢◌, ◌∙◌, sym, subst, refl, rules, take_all}
use Rattle.std.proofs.lemmas.Bool.{false≢true}
use Rattle.std.proofs.lemmas.List.Elements.{All-more}
use Rattle.part_set.specs.declared.kept.Kept.{Kept}
use Rattle.part_set.specs.Parts.{LiesBetween}
use Rattle.part_set.proofs.shelf.are_neighbours.Goals as goal

pub loop-kept-preserved : goal.loop-kept-preserved
loop-kept-preserved g c =
    let parts = c.args.parts.now in
    let at = c.loop-kept.kept-index in
    record {
      none =
          All-more (λ (kept : Kept g.row.P.Denot). LiesBetween c.args.a.now kept.name c.args.b.now → ⊥) parts at c.kept-item.result c.loop-kept-test.true c.loop-kept.invariant.none
          (subst (λ (kept : Kept g.row.P.Denot). LiesBetween c.args.a.now kept.name c.args.b.now → ⊥) c.kept-item.is (λ lies. false≢true (sym c.if-lies_between.false ∙ c.lies_between.ensures.1 lies)));
      none_back =
          All-more (λ (kept : Kept g.row.P.Denot). LiesBetween c.args.b.now kept.name c.args.a.now → ⊥) parts at c.kept-item.result c.loop-kept-test.true c.loop-kept.invariant.none_back
          (subst (λ (kept : Kept g.row.P.Denot). LiesBetween c.args.b.now kept.name c.args.a.now → ⊥) c.kept-item.is (λ lies. false≢true (sym c.if-lies_between-2.false ∙ c.lies_between-else-lies_between.ensures.1 lies)));
    }

pub returns : goal.returns
returns g c =
    let all = take_all c.loop-kept.kept-index c.args.parts.now c.loop-kept-test.false in
    let different : c.args.a.now ≢ c.args.b.now = search rules in
    let same : c.args.a.now.partition ≡ c.args.b.now.partition = search rules in (
      λ yes. record { different = different; partition = same; none = rw all at c.loop-kept.invariant.none; none_back = rw all at c.loop-kept.invariant.none_back },
      λ near. refl,
    )
