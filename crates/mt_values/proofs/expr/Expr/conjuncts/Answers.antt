use Rattle.std.proofs.Common.{◌≡◌, ◌-◌, ◌++◌, ◌∷◌, [], ◌∙◌, ap, arith, drop, get_or, length, refl, rules, sym, take}
use Rattle.std.proofs.lemmas.List.{get_or_default}
use Rattle.mt_values.specs.declared.expr.Joint.{Joint}
use Rattle.mt_values.specs.declared.expr.Joint.TheVariants as joint
use Rattle.mt_values.proofs.Parting.{all_found, and_passed, count_within, d, ends_there, is_expr, none_found, one_found, own_joints_are, own_tests_are, start_less, start_low}
use Rattle.mt_values.proofs.expr.Expr.conjuncts.Goals as goal

pub tops-init : goal.tops-init
tops-init g c =
    none_found c.args.self.now c.joints-joints.result.now (length c.joints-joints.result.now) c.tests-tests.result.now c.joints-joints.ensures.joints refl c.tests-tests.ensures c.joints-joints.ensures.few c.new-found.result.items (search rules)

pub tops-preserved-then-is_and : goal.tops-preserved-then-is_and
tops-preserved-then-is_and g c =
    let joints = c.joints-joints.result.now in
    let p = c.tops.invariant in
    let j : Joint = get_or joints (c.tops.end - 1) joint.Always in
    let j_is : j ≡ get_or joints (c.tops.end - 1) j = get_or_default joints (c.tops.end - 1) joint.Always j (omega (arith, p.within, c.tops-test.true)) in
    and_passed c.args.self.now joints c.tops.end c.tops.tests.now c.tops.found.items c.tops-test.true p j j_is (sym c.is_and.ensures ∙ c.if-is_and.true)

pub ended_at-last-requires : goal.ended_at-last-requires
ended_at-last-requires g c =
    ends_there c.args.self.now c.joints-joints.result.now c.tops.end c.tops.tests.now c.tops.found.items c.tops-test.true c.tops.invariant

pub overflow_sub-tests : goal.overflow_sub-tests
overflow_sub-tests g c =
    let few = count_within c.args.self.now c.joints-joints.result.now c.tops.end c.tops.tests.now c.tops.found.items c.tops-test.true c.tops.invariant c.ended_at-last.result.start c.ended_at-last.result.tests c.ended_at-last.ensures.start c.ended_at-last.ensures.tests in
    omega (arith, few)

pub slice_bounds-expr_of-count : goal.slice_bounds-expr_of-count
slice_bounds-expr_of-count g c =
    let low = start_low c.args.self.now c.joints-joints.result.now c.tops.end c.tops.tests.now c.tops.found.items c.tops-test.true c.tops.invariant c.ended_at-last.result.start c.ended_at-last.result.tests c.ended_at-last.ensures.start c.ended_at-last.ensures.tests in
    omega (arith, low, c.tops.invariant.within)

pub slice_bounds-expr_of-start : goal.slice_bounds-expr_of-start
slice_bounds-expr_of-start g c =
    let low = start_low c.args.self.now c.joints-joints.result.now c.tops.end c.tops.tests.now c.tops.found.items c.tops-test.true c.tops.invariant c.ended_at-last.result.start c.ended_at-last.result.tests c.ended_at-last.ensures.start c.ended_at-last.ensures.tests in
    omega (arith, low, c.tops.invariant.within)

pub expr_of-requires : goal.expr_of-requires
expr_of-requires g c =
    let joints = c.joints-joints.result.now in
    let tests = c.tops.tests.now in
    let start = c.ended_at-last.result.start in
    let count = c.ended_at-last.result.tests in
    is_expr c.args.self.now joints c.tops.end tests c.tops.found.items c.tops-test.true c.tops.invariant start count c.ended_at-last.ensures.start c.ended_at-last.ensures.tests
    c.split_at.result.1.now (take (c.tops.end - start) (drop start joints))
    (c.split_at.ensures.back ∙ own_tests_are c.args.self.now joints c.tops.end tests c.tops.found.items c.tops-test.true c.tops.invariant start count c.ended_at-last.ensures.start c.ended_at-last.ensures.tests)
    (own_joints_are c.args.self.now joints c.tops.end tests c.tops.found.items c.tops-test.true c.tops.invariant start count c.ended_at-last.ensures.start c.ended_at-last.ensures.tests)

pub tops-smaller : goal.tops-smaller
tops-smaller g c =
    start_less c.args.self.now c.joints-joints.result.now c.tops.end c.tops.tests.now c.tops.found.items c.tops-test.true c.tops.invariant c.ended_at-last.result.start c.ended_at-last.result.tests c.ended_at-last.ensures.start c.ended_at-last.ensures.tests

pub tops-preserved : goal.tops-preserved
tops-preserved g c =
    let joints = c.joints-joints.result.now in
    let tests = c.tops.tests.now in
    let found = c.tops.found.items in
    let p = c.tops.invariant in
    let start = c.ended_at-last.result.start in
    let count = c.ended_at-last.result.tests in
    let j : Joint = get_or joints (c.tops.end - 1) joint.Always in
    let j_is : j ≡ get_or joints (c.tops.end - 1) j = get_or_default joints (c.tops.end - 1) joint.Always j (omega (arith, p.within, c.tops-test.true)) in
    let last = d c.args.self.now joints c.tops.end tests found c.tops-test.true p in
    let made = c.in_ok-expr_of.ensures last
    (c.split_at.ensures.back ∙ own_tests_are c.args.self.now joints c.tops.end tests found c.tops-test.true p start count c.ended_at-last.ensures.start c.ended_at-last.ensures.tests)
    (own_joints_are c.args.self.now joints c.tops.end tests found c.tops-test.true p start count c.ended_at-last.ensures.start c.ended_at-last.ensures.tests) in
    rw (c.split_at.ensures.front)
    (one_found c.args.self.now joints c.tops.end tests found c.tops-test.true p start count c.ended_at-last.ensures.start c.ended_at-last.ensures.tests j _ j_is (sym c.is_and.ensures ∙ c.if-is_and.false)
    (c.in_ok-push.ensures.items ∙ ap (λ e. found ++ e ∷ []) made))

pub returns : goal.returns
returns g c =
    c.reverse.ensures.items
    ∙ all_found c.args.self.now c.joints-joints.result.now c.tops.end c.tops.tests.now c.tops.found.items (omega (arith, c.tops-test.false)) c.tops.invariant
