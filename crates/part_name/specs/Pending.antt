-- Which mutations a part waits for, and which parts may be merged (docs/engines.md, "Which parts are merged").
use Rattle.std.specs.Prelude.{◌<◌, ◌≤◌, ◌⊎◌, nat_le, nat_lt, ℕ, List, [], ◌∷◌, filter}
use Rattle.std.specs.List.{All, AllPairs}
use Rattle.part_name.specs.declared.part.PartName.{PartName}
use Rattle.part_name.specs.PartNames.{data_version}
use Rattle.mt_values.specs.declared.mutation.Mutation.{Mutation}

-- each mutation has a number above those before it
abbrev pub Rise : List Mutation → Type 0
Rise mutations = AllPairs (λ a b. a.number < b.number) mutations

-- those still to be applied to a part: their numbers are above its data version (docs/engines.md, "Which parts are merged")
abbrev pub pending_for : List Mutation → PartName → List Mutation
pending_for mutations name = filter (λ m. nat_lt (data_version name) m.number) mutations

-- of these the first ones, up to a number: what a rewrite may apply (docs/engines.md, "Which parts are merged")
abbrev pub pending_upto : ℕ → List Mutation → PartName → List Mutation
pending_upto upto mutations name = filter (λ m. nat_le m.number upto) (pending_for mutations name)

-- a mutation was applied to the one part and not to the other: its number is above the data version of the one, and at or below that of the other
abbrev pub Parts : PartName → PartName → Mutation → Type 0
Parts a b m =
    ((data_version a < m.number) × (m.number ≤ data_version b)) ⊎ ((data_version b < m.number) × (m.number ≤ data_version a))

-- two parts may be merged where no mutation parts them (docs/engines.md, "Which parts are merged")
abbrev pub MayMerge : List Mutation → PartName → PartName → Type 0
MayMerge mutations a b = All (λ m. Parts a b m → ⊥) mutations

-- no mutation parts two parts that follow each other (docs/engines.md, "Which parts are merged")
abbrev pub NoneParted : List Mutation → List PartName → Type 0
NoneParted mutations [] = Unit {0}
NoneParted mutations (name ∷ []) = Unit {0}
NoneParted mutations (a ∷ b ∷ names) = MayMerge mutations a b × NoneParted mutations (b ∷ names)
