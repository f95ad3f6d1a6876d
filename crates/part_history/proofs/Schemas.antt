-- A table has one schema.
use Rattle.std.proofs.Common.{◌≡◌, Some}
use Rattle.mt_values.specs.declared.schema.Schema.{Schema}

pub same_schema : (a b : Schema) → Some a ≡ Some b → a ≡ b
same_schema a b is = cc
