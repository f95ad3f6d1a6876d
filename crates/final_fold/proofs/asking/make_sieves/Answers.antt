use Rattle.std.proofs.Common.{◌≡◌, ◌∙◌, ◌+◌, ◌++◌, ◌∷◌, [], List, Some, ap, arith, drop, flat_map, length, length-append, length-take, length-drop, map, slice_get, subst, sym, take}
use Rattle.std.specs.List.{AllZip}
use Rattle.std.proofs.lemmas.List.{take_all, take_more}
use Rattle.final_fold.specs.declared.asking.Conjunct.{Conjunct}
use Rattle.row_merge.specs.part_reader.declared.sieves.Sieve.{Sieve}
use Rattle.final_fold.specs.Asked.{IsSieveOf, tested}
use Rattle.final_fold.proofs.Making.{flat_next, length-tested, others_shown, own_shown}
use Rattle.final_fold.proofs.Sure.{zip_push}
use Rattle.final_fold.proofs.asking.make_sieves.Goals as goal
use Rattle.final_fold.proofs.asking.make_sieves.Goals.{After-tests}

-- the columns of the conjuncts that are left are those of the next one, and of the others
left_is : (c : After-tests) → flat_map (λ (x : Conjunct). tested x.condition.now) (drop c.loop-conjunct.conjunct-index c.args.conjuncts.now)
    ≡ tested c.conjunct-item.result.condition.now ++ flat_map (λ (x : Conjunct). tested x.condition.now) (drop (c.loop-conjunct.conjunct-index + 1) c.args.conjuncts.now)
left_is c = flat_next (λ (x : Conjunct). tested x.condition.now) c.args.conjuncts.now c.loop-conjunct.conjunct-index c.conjunct-item.result c.loop-conjunct-test.true c.conjunct-item.is

own_many : (c : After-tests) → length c.tests.result.now ≡ length (tested c.conjunct-item.result.condition.now)
own_many c = ap length c.tests.ensures ∙ sym (length-tested c.conjunct-item.result.condition.now)

pub split_at-requires : goal.split_at-requires
split_at-requires c =
    let d = (goal.at.split_at-requires c).After-tests in
    let own = tested c.conjunct-item.result.condition.now in
    let others = flat_map (λ (x : Conjunct). tested x.condition.now) (drop (c.loop-conjunct.conjunct-index + 1) c.args.conjuncts.now) in
    omega (arith, own_many d, c.loop-conjunct.invariant.many, ap length (left_is d), length-append own others)

pub make_sieve-requires : goal.make_sieve-requires
make_sieve-requires c =
    let d = (goal.at.make_sieve-requires c).After-tests in
    let own = tested c.conjunct-item.result.condition.now in
    let others = flat_map (λ (x : Conjunct). tested x.condition.now) (drop (c.loop-conjunct.conjunct-index + 1) c.args.conjuncts.now) in
    omega (arith, ap length c.split_at.ensures.front, length-take (length c.tests.result.now) c.loop-conjunct.rest.now, own_many d, c.loop-conjunct.invariant.many, ap length (left_is d), length-append own others, length-tested c.conjunct-item.result.condition.now)

pub loop-conjunct-preserved : goal.loop-conjunct-preserved
loop-conjunct-preserved c =
    let d = (goal.at.loop-conjunct-preserved c).After-tests in
    let item = c.conjunct-item.result in
    let rest = c.loop-conjunct.rest.now in
    let own = tested item.condition.now in
    let others = flat_map (λ (x : Conjunct). tested x.condition.now) (drop (c.loop-conjunct.conjunct-index + 1) c.args.conjuncts.now) in
    let front : c.split_at.result.0.now ≡ take (length own) rest = c.split_at.ensures.front ∙ ap (λ n. take n rest) (own_many d) in
    let back : c.split_at.result.1.now ≡ drop (length own) rest = c.split_at.ensures.back ∙ ap (λ n. drop n rest) (own_many d) in
    record {
      many = omega (arith, ap length back, length-drop (length own) rest, c.loop-conjunct.invariant.many, ap length (left_is d), length-append own others);
      left = λ read shown. ap (map (slice_get read)) back ∙ others_shown read rest own others (c.loop-conjunct.invariant.left read shown ∙ ap (map Some) (left_is d));
      made = λ read once shown.
          subst (λ (ss : List Sieve). AllZip (λ (x : Conjunct). IsSieveOf read (x.condition.now, x.granules.now)) (take (c.loop-conjunct.conjunct-index + 1) c.args.conjuncts.now) ss) (sym c.in_ok-push.ensures.items)
          (subst (λ (xs : List Conjunct). AllZip (λ (x : Conjunct). IsSieveOf read (x.condition.now, x.granules.now)) xs (c.loop-conjunct.sieves.items ++ c.in_ok-make_sieve.field-0 ∷ []))
          (ap (λ x. take c.loop-conjunct.conjunct-index c.args.conjuncts.now ++ x ∷ []) c.conjunct-item.is ∙ sym (take_more c.args.conjuncts.now c.loop-conjunct.conjunct-index item c.loop-conjunct-test.true))
          (zip_push (λ (x : Conjunct). IsSieveOf read (x.condition.now, x.granules.now)) (take c.loop-conjunct.conjunct-index c.args.conjuncts.now) c.loop-conjunct.sieves.items item c.in_ok-make_sieve.field-0
          (c.loop-conjunct.invariant.made read once shown)
          (c.in_ok-make_sieve.ensures read once (ap (map (slice_get read)) front ∙ own_shown read rest own others (c.loop-conjunct.invariant.left read shown ∙ ap (map Some) (left_is d))))));
    }

pub returns : goal.returns
returns c = λ read once shown.
    subst (λ (xs : List Conjunct). AllZip (λ (x : Conjunct). IsSieveOf read (x.condition.now, x.granules.now)) xs c.loop-conjunct.sieves.items)
    (take_all c.loop-conjunct.conjunct-index c.args.conjuncts.now c.loop-conjunct-test.false)
    (c.loop-conjunct.invariant.made read once shown)
