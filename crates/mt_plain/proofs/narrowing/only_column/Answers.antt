use Rattle.std.proofs.Common.{◌≡◌, ℕ, ◌++◌, ◌∷◌, [], List, ap, ap₂, ◌∙◌, replicate, arith}
use Rattle.part_history.specs.predicate.declared.extent.Known.{Known}
use Rattle.part_history.specs.predicate.declared.extent.Known.TheVariants as known
use Rattle.mt_plain.proofs.narrowing.only_column.Goals as goal

pub returns : goal.returns
returns c =
    let all : c.loop-place._place ≡ c.args.column = omega arith in
    let columns = c.loop-place.invariant.columns ∙ ap (λ (n : ℕ). replicate n known.Unknown) all in
    ap (λ (ks : List Known). record { columns = ks })
    (c.in_ok-push-2.ensures.ok ∙ ap₂ (λ (ks : List Known) (k : Known). ks ++ k ∷ []) columns c.loop-place.invariant.kept)
