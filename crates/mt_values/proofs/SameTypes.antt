-- What `==` of types says.
use Rattle.std.proofs.Common.{◌≡◌, Decides, List, refl}
use Rattle.std.specs.Cmp.Lexicographic.{pointwise, pointwise_decides}
use Rattle.mt_values.specs.declared.value.ColType.{ColType}
use Rattle.mt_values.specs.declared.value.ColType.TheVariants as type
use Rattle.mt_values.specs.contracts.value.ColTypePartialEq.TheImpl as types

pub type_same : (x y : ColType) → Decides (types.eq-value.it x y) (x ≡ y)
type_same type.UInt8 type.UInt8 = (λ e. refl, λ e. refl)
type_same type.UInt16 type.UInt16 = (λ e. refl, λ e. refl)
type_same type.UInt32 type.UInt32 = (λ e. refl, λ e. refl)
type_same type.UInt64 type.UInt64 = (λ e. refl, λ e. refl)
type_same type.Int8 type.Int8 = (λ e. refl, λ e. refl)
type_same type.Int16 type.Int16 = (λ e. refl, λ e. refl)
type_same type.Int32 type.Int32 = (λ e. refl, λ e. refl)
type_same type.Int64 type.Int64 = (λ e. refl, λ e. refl)
type_same type.Text type.Text = (λ e. refl, λ e. refl)
type_same x y = (λ e. cc, λ e. cc)

-- two lists of types
pub types_same : (a b : List ColType) → Decides (pointwise types.eq-value.it a b) (a ≡ b)
types_same a b = pointwise_decides type_same a b
