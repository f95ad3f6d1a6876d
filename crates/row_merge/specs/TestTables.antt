-- The tables of the tests.
use Rattle.std.specs.Prelude.{List, [], ◌∷◌}
use Rattle.mt_values.specs.declared.value.ColType.{ColType}
use Rattle.mt_values.specs.declared.value.ColType.TheVariants as type

-- two columns of letters
abbrev pub letters : List ColType
letters = type.UInt8 ∷ type.UInt8 ∷ []
