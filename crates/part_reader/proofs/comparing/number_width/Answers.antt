use Rattle.std.proofs.Common.{◌≡◌, ◌≢◌, ◌⊎◌, inl, inr, ℕ, refl, subst, sym}
use Rattle.mt_values.specs.declared.value.ColType.{ColType}
use Rattle.mt_values.specs.declared.value.ColType.TheVariants as type
use Rattle.part_damage.specs.column_file.Spellings.{fewest_bytes}
use Rattle.part_reader.proofs.comparing.number_width.Goals as goal

-- the type is one of numbers, each of which takes that many bytes
abbrev Takes : ℕ → ColType → Type 0
Takes width t = (t ≢ type.Text) × (width ≡ fewest_bytes t)

one_of : (width : ℕ) (t a b : ColType) → Takes width a → Takes width b → (t ≡ a) ⊎ (t ≡ b) → Takes width t
one_of width t a b first second (inl is) = subst (Takes width) (sym is) first
one_of width t a b first second (inr is) = subst (Takes width) (sym is) second

pub returns-in-UInt8 : goal.returns-in-UInt8
returns-in-UInt8 c = one_of 1 c.args.col_type type.UInt8 type.Int8 ((λ is. cc), refl) ((λ is. cc), refl) c.in-UInt8.is

pub returns-in-UInt16 : goal.returns-in-UInt16
returns-in-UInt16 c = one_of 2 c.args.col_type type.UInt16 type.Int16 ((λ is. cc), refl) ((λ is. cc), refl) c.in-UInt16.is

pub returns-in-UInt32 : goal.returns-in-UInt32
returns-in-UInt32 c = one_of 4 c.args.col_type type.UInt32 type.Int32 ((λ is. cc), refl) ((λ is. cc), refl) c.in-UInt32.is

pub returns-in-UInt64 : goal.returns-in-UInt64
returns-in-UInt64 c = one_of 8 c.args.col_type type.UInt64 type.Int64 ((λ is. cc), refl) ((λ is. cc), refl) c.in-UInt64.is
