-- What `==` of assignments, joints and tests says, and when two conditions are one.
use Rattle.std.proofs.Common.{◌≡◌, ℕ, Decides, List, [], ap, ap₂, nat_eq, refl, sym, ◌&&◌, ◌∙◌}
use Rattle.std.specs.Cmp.Lexicographic.{pointwise, pointwise_decides}
use Rattle.std.proofs.lemmas.Bool.Decides.{Decides-eqb, Decides-like, Decides-and}
use Rattle.mt_values.specs.declared.change.Assigned.{Assigned}
use Rattle.mt_values.specs.declared.change.Assigned.TheVariants as assigned
use Rattle.mt_values.specs.declared.change.Assignment.{Assignment}
use Rattle.mt_values.specs.declared.expr.Comparison.{Comparison}
use Rattle.mt_values.specs.declared.expr.Comparison.TheVariants as comparison
use Rattle.mt_values.specs.declared.expr.Joint.{Joint}
use Rattle.mt_values.specs.declared.expr.Joint.TheVariants as joint
use Rattle.mt_values.specs.declared.expr.Test.{Test}
use Rattle.mt_values.specs.declared.value.Value.{Value}
use Rattle.mt_values.specs.Conditions.{Condition, tests_of}
use Rattle.mt_values.specs.Polish.{built, joints_of}
use Rattle.mt_values.specs.PolishCode.{built_back}
use Rattle.mt_values.specs.contracts.change.AssignedPartialEq.TheImpl as assigneds
use Rattle.mt_values.specs.contracts.change.AssignmentPartialEq.TheImpl as assignments
use Rattle.mt_values.specs.contracts.expr.ComparisonPartialEq.TheImpl as comparisons
use Rattle.mt_values.specs.contracts.expr.JointPartialEq.TheImpl as joints
use Rattle.mt_values.specs.contracts.value.ValuePartialEq.TheImpl as values
use Rattle.mt_plain.proofs.Equal.{value_same}

pub comparison_same : (x y : Comparison) → Decides (comparisons.eq-value.it x y) (x ≡ y)
comparison_same comparison.Equal comparison.Equal = (λ e. refl, λ e. refl)
comparison_same comparison.NotEqual comparison.NotEqual = (λ e. refl, λ e. refl)
comparison_same comparison.Less comparison.Less = (λ e. refl, λ e. refl)
comparison_same comparison.LessOrEqual comparison.LessOrEqual = (λ e. refl, λ e. refl)
comparison_same comparison.Greater comparison.Greater = (λ e. refl, λ e. refl)
comparison_same comparison.GreaterOrEqual comparison.GreaterOrEqual = (λ e. refl, λ e. refl)
comparison_same x y = (λ e. cc, λ e. cc)

joint_same : (x y : Joint) → Decides (joints.eq-value.it x y) (x ≡ y)
joint_same joint.Always joint.Always = (λ e. refl, λ e. refl)
joint_same joint.Test joint.Test = (λ e. refl, λ e. refl)
joint_same joint.Not joint.Not = (λ e. refl, λ e. refl)
joint_same joint.And joint.And = (λ e. refl, λ e. refl)
joint_same joint.Or joint.Or = (λ e. refl, λ e. refl)
joint_same x y = (λ e. cc, λ e. cc)

-- tests with the same fields are one
pub one_test : (x y : Test) → x.column ≡ y.column → x.comparison ≡ y.comparison → x.literals ≡ y.literals → x ≡ y
one_test x y column comparison literals = λ j. record { column = column j; comparison = comparison j; literals = literals j }

assigned_same : (x y : Assigned) → Decides (assigneds.eq-value.it x y) (x ≡ y)
assigned_same (assigned.Literal v) (assigned.Literal w) = Decides-like (values.eq-value.it v w) (ap assigned.Literal) (λ e. cc) (value_same v w)
assigned_same (assigned.Column m) (assigned.Column n) = Decides-like (nat_eq m n) (ap assigned.Column) (λ e. cc) (Decides-eqb m n)
assigned_same (assigned.Plus m v) (assigned.Plus n w) =
    Decides-like (nat_eq m n && values.eq-value.it v w) (λ p. ap₂ assigned.Plus p.0 p.1) (λ e. (cc, cc)) (Decides-and (nat_eq m n) (values.eq-value.it v w) (Decides-eqb m n) (value_same v w))
assigned_same (assigned.Minus m v) (assigned.Minus n w) =
    Decides-like (nat_eq m n && values.eq-value.it v w) (λ p. ap₂ assigned.Minus p.0 p.1) (λ e. (cc, cc)) (Decides-and (nat_eq m n) (values.eq-value.it v w) (Decides-eqb m n) (value_same v w))
assigned_same x y = (λ e. cc, λ e. cc)

assignment_same : (x y : Assignment) → Decides (assignments.eq-value.it x y) (x ≡ y)
assignment_same x y =
    let columns_are = nat_eq x.column y.column in
    let values_are = assigneds.eq-value.it x.value y.value in
    Decides-like (columns_are && values_are)
    (λ p. ap₂ (λ (n : ℕ) (v : Assigned). record { column = n; value = v }) p.0 p.1)
    (λ e. (ap (λ (a : Assignment). a.column) e, ap (λ (a : Assignment). a.value) e))
    (Decides-and columns_are values_are (Decides-eqb x.column y.column) (assigned_same x.value y.value))

-- two lists of assignments
pub assignments_same : (a b : List Assignment) → Decides (pointwise assignments.eq-value.it a b) (a ≡ b)
assignments_same a b = pointwise_decides assignment_same a b

-- two lists of joints
pub joints_same : (a b : List Joint) → Decides (pointwise joints.eq-value.it a b) (a ≡ b)
joints_same a b = pointwise_decides joint_same a b

-- two lists of values
pub values_same : (a b : List Value) → Decides (pointwise values.eq-value.it a b) (a ≡ b)
values_same a b = pointwise_decides value_same a b

-- an expression is made of its joints and its tests
pub one_condition : {T : Type 0} (a b : Condition T) → joints_of a ≡ joints_of b → tests_of a ≡ tests_of b → a ≡ b
one_condition a b js ts = sym (built_back a) ∙ (ap₂ (λ us ks. built us [] ks) ts js ∙ built_back b)
