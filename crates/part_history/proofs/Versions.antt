-- The data versions of parts of which no mutation parts two: each has the same mutations up to it, and so has that of the part that a merge makes of them.
use Rattle.std.proofs.Common.{◌≡◌, ℕ, ◌+◌, ◌-◌, ◌<◌, ◌≤◌, true, false, List, [], ◌∷◌, Option, Some, None, max, min, nat_le, slice_get, refl, sym, ap, ◌∙◌, subst, arith, suc, inl, inr, ◌⊎◌}
use Rattle.std.specs.List.{AllByRecursion, fold}
use Rattle.std.specs.Prelude.{unwrap_or}
use Rattle.std.proofs.lemmas.Bool.{cases_lt}
use Rattle.std.proofs.lemmas.Bool.Decides.{nat_tests}
use Rattle.std.proofs.lemmas.List.Elements.{recursion_from_All}
use Rattle.mt_values.specs.declared.command.Alter.{Alter}
use Rattle.mt_values.specs.declared.command.Command.{Command}
use Rattle.mt_values.specs.declared.command.Command.TheVariants as command
use Rattle.mt_values.specs.declared.mutation.Mutation.{Mutation}
use Rattle.rule_law.specs.mt_model.History.{History}
use Rattle.rule_law.specs.mt_model.Numbers.{mutations_among}
use Rattle.part_name.specs.Pending.{NoneParted, Parts}
use Rattle.part_name.specs.declared.part.PartName.{PartName}
use Rattle.part_name.specs.Merged.{joined_name, later_mutation, merged_name}
use Rattle.part_name.specs.PartNames.{data_version}
use Rattle.part_history.specs.Parts.{WasMutated}

-- ---- versions up to which there are the same mutations

module _ (ms : List Mutation) where
  abbrev pub Agree : ℕ → ℕ → Type 0
  Agree x y = AllByRecursion (λ (m : Mutation). nat_le m.number x ≡ nat_le m.number y) ms

pub agree_itself : (ms : List Mutation) (x : ℕ) → Agree ms x x
agree_itself [] x = tt
agree_itself (m ∷ ms) x = (refl, agree_itself ms x)

pub agree_back : (ms : List Mutation) (x y : ℕ) → Agree ms x y → Agree ms y x
agree_back [] x y all = tt
agree_back (m ∷ ms) x y all = (sym all.0, agree_back ms x y all.1)

pub agree_on : (ms : List Mutation) (x y z : ℕ) → Agree ms x y → Agree ms y z → Agree ms x z
agree_on [] x y z a b = tt
agree_on (m ∷ ms) x y z a b = (a.0 ∙ b.0, agree_on ms x y z a.1 b.1)

-- those of two parts that may be merged
may_agree : (a b : PartName) (ms : List Mutation) → AllByRecursion (λ m. Parts a b m → ⊥) ms → Agree ms (data_version a) (data_version b)
may_agree a b [] all = tt
may_agree a b (m ∷ ms) all = (by (cases_lt (data_version a) m.number) (cases_lt (data_version b) m.number), may_agree a b ms all.1)
  where
    by : (data_version a < m.number) ⊎ (m.number ≤ data_version a) → (data_version b < m.number) ⊎ (m.number ≤ data_version b) → nat_le m.number (data_version a) ≡ nat_le m.number (data_version b)
    by (inl above) (inl over) =
        let first : nat_le m.number (data_version a) ≡ false = grind (arith, nat_tests, above) in
        let second : nat_le m.number (data_version b) ≡ false = grind (arith, nat_tests, over) in
        first ∙ sym second
    by (inr upto) (inr most) =
        let first : nat_le m.number (data_version a) ≡ true = grind (arith, nat_tests, upto) in
        let second : nat_le m.number (data_version b) ≡ true = grind (arith, nat_tests, most) in
        first ∙ sym second
    by (inl above) (inr most) = absurd (all.0 (inl (above, most)))
    by (inr upto) (inl over) = absurd (all.0 (inr (over, upto)))

pub all_agree : (ms : List Mutation) (v : ℕ) (a : PartName) (names : List PartName) → Agree ms (data_version a) v → NoneParted ms (a ∷ names) → AllByRecursion (λ name. Agree ms (data_version name) v) names
all_agree ms v a [] here none = tt
all_agree ms v a (b ∷ names) here none =
    let next = agree_on ms (data_version b) (data_version a) v
    (agree_back ms (data_version a) (data_version b) (may_agree a b ms (recursion_from_All (λ m. Parts a b m → ⊥) ms none.0))) here in
    (next, all_agree ms v b names next none.1)

-- where they agree at the number of a mutation
pub agree_at : (x y n k : ℕ) (cs : List Command) (a : Alter) → Agree (mutations_among k cs) x y → k ≤ n → slice_get cs (n - k) ≡ Some (command.Alter a) → nat_le n x ≡ nat_le n y
agree_at x y n k [] a all from is = cc
agree_at x y n k (c ∷ cs) a all from is = by (cases_lt k n) c all is (agree_at x y n (k + 1) cs a)
  where
    by : (k < n) ⊎ (n ≤ k) → (c : Command) → Agree (mutations_among k (c ∷ cs)) x y → slice_get (c ∷ cs) (n - k) ≡ Some (command.Alter a)
        → (Agree (mutations_among (k + 1) cs) x y → k + 1 ≤ n → slice_get cs (n - (k + 1)) ≡ Some (command.Alter a) → nat_le n x ≡ nat_le n y) → nat_le n x ≡ nat_le n y
    by (inl lt) c all is ih =
        let place : n - k ≡ suc (n - (k + 1)) = omega (arith, lt) in
        ih (rest c all) (omega (arith, lt)) (sym (ap (slice_get (c ∷ cs)) place) ∙ is)
      where
        rest : (c : Command) → Agree (mutations_among k (c ∷ cs)) x y → Agree (mutations_among (k + 1) cs) x y
        rest (command.Create d) all = all
        rest (command.Insert i) all = all
        rest (command.Alter b) all = all.1
    by (inr le) (command.Alter b) all is ih = let same : k ≡ n = omega (arith, le, from) in subst (λ (j : ℕ). nat_le j x ≡ nat_le j y) same all.0
    by (inr le) (command.Create d) all is ih =
        let place : n - k ≡ 0 = omega (arith, le) in
        let none : Some (command.Create d) ≡ Some (command.Alter a) = sym (ap (slice_get (command.Create d ∷ cs)) place) ∙ is in
        cc
    by (inr le) (command.Insert i) all is ih =
        let place : n - k ≡ 0 = omega (arith, le) in
        let none : Some (command.Insert i) ≡ Some (command.Alter a) = sym (ap (slice_get (command.Insert i ∷ cs)) place) ∙ is in
        cc

-- ---- the version of a merge

-- it is that of one of two
version_joined : (a b : PartName) → a.min_block ≤ b.min_block → (data_version (joined_name a b) ≡ data_version a) ⊎ (data_version (joined_name a b) ≡ data_version b)
version_joined a b le = by a.mutation b.mutation
  where
    low : min a.min_block b.min_block ≡ a.min_block
    low = omega (arith, le)

    by : (x y : Option ℕ) → (unwrap_or (later_mutation x y) (min a.min_block b.min_block) ≡ unwrap_or x a.min_block) ⊎ (unwrap_or (later_mutation x y) (min a.min_block b.min_block) ≡ unwrap_or y b.min_block)
    by None None = inl low
    by (Some m) None = inl refl
    by None (Some n) = inr refl
    by (Some m) (Some n) = elim (cases_lt m n) [
      | inl lt ↦ (let most : max m n ≡ n = omega (arith, lt) in inr most)
      | inr upto ↦ (let most : max m n ≡ m = omega (arith, upto) in inl most)
    ]

-- what holds of the versions of all holds of that of the merge
fold_version : (P : ℕ → Type 0) (low : ℕ) (first : PartName) (names : List PartName) → P (data_version first) → first.min_block ≡ low → AllByRecursion (λ (name : PartName). P (data_version name) × (low ≤ name.min_block)) names
    → P (data_version (fold joined_name first names))
fold_version P low first [] here begin all = here
fold_version P low first (name ∷ names) here begin all =
    let le : first.min_block ≤ name.min_block = omega (arith, begin, all.0.1) in
    let next : P (data_version (joined_name first name)) = elim (version_joined first name le) [
      | inl same ↦ subst P (sym same) here
      | inr same ↦ subst P (sym same) all.0.0
    ] in
    let start : min first.min_block name.min_block ≡ low = omega (arith, le, begin) in
    fold_version P low (joined_name first name) names next start all.1

pub merged_version : (P : ℕ → Type 0) (first : PartName) (names : List PartName) → P (data_version first) → AllByRecursion (λ (name : PartName). P (data_version name) × (first.min_block ≤ name.min_block)) names
    → P (data_version (merged_name first names))
merged_version P first names here all = fold_version P first.min_block first names here refl all

-- its mutation is one of theirs
later_was : (table : List ℕ) (h : History) (x y : Option ℕ) → WasMutated table x h → WasMutated table y h → WasMutated table (later_mutation x y) h
later_was table h None y a b = b
later_was table h (Some m) None a b = a
later_was table h (Some m) (Some n) a b = elim (cases_lt m n) [
  | inl lt ↦ (let most : max m n ≡ n = omega (arith, lt) in subst (λ k. WasMutated table (Some k) h) (sym most) b)
  | inr le ↦ (let most : max m n ≡ m = omega (arith, le) in subst (λ k. WasMutated table (Some k) h) (sym most) a)
]

fold_was : (table : List ℕ) (h : History) (first : PartName) (names : List PartName) → WasMutated table first.mutation h → AllByRecursion (λ (name : PartName). WasMutated table name.mutation h) names → WasMutated table (fold joined_name first names).mutation h
fold_was table h first [] here all = here
fold_was table h first (name ∷ names) here all = fold_was table h (joined_name first name) names (later_was table h first.mutation name.mutation here all.0) all.1

pub merged_was : (table : List ℕ) (h : History) (first : PartName) (names : List PartName) → WasMutated table first.mutation h → AllByRecursion (λ (name : PartName). WasMutated table name.mutation h) names → WasMutated table (merged_name first names).mutation h
merged_was table h first names here all = fold_was table h first names here all
