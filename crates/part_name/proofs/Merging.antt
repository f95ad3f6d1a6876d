-- The names of the parts that merges make.
use Rattle.std.proofs.Common.{◌≡◌, ◌≢◌, ℕ, ◌+◌, ◌<◌, ◌≤◌, min, max, List, [], ◌∷◌, Option, Some, None, All, refl, sym, ap, ◌∙◌, subst, arith}
use Rattle.std.specs.Prelude.{unwrap_or}
use Rattle.std.specs.List.{fold, AllByRecursion}
use Rattle.std.proofs.lemmas.List.Elements.{All-from_recursion, recursion_from_All}
use Rattle.std.proofs.Math.Nat.{le-max_left, le-max_right, max-eq_left, max-eq_right, max-le, min-eq_left, min-le_left, min-le_right}
use Rattle.part_name.specs.declared.part.PartName.{PartName}
use Rattle.part_name.specs.Merged.{RiseFrom, joined_name, last_name, later_mutation, merged_name, raised}
use Rattle.part_name.specs.PartNames.{Contains, IsMutation, IsPartName, mutation_number}

-- ---- two names joined

later_first : (a b : Option ℕ) → unwrap_or a 0 ≤ unwrap_or (later_mutation a b) 0
later_first None b = omega arith
later_first (Some m) None = omega arith
later_first (Some m) (Some n) = le-max_left m n

later_second : (a b : Option ℕ) → unwrap_or b 0 ≤ unwrap_or (later_mutation a b) 0
later_second None b = omega arith
later_second (Some m) None = omega arith
later_second (Some m) (Some n) = le-max_right m n

later_named : (a b : Option ℕ) → IsMutation a → IsMutation b → IsMutation (later_mutation a b)
later_named None b one two = two
later_named (Some m) None one two = one
later_named (Some m) (Some n) one two = (omega (arith, one.0, le-max_left m n), max-le one.1 two.1)

joined_first : (a b : PartName) → Contains (joined_name a b) a
joined_first a b = record {
  partition = refl;
  min_block = min-le_left a.min_block b.min_block;
  max_block = le-max_left a.max_block b.max_block;
  level = le-max_left a.level b.level;
  mutation = later_first a.mutation b.mutation;
}

joined_second : (a b : PartName) → b.partition ≡ a.partition → Contains (joined_name a b) b
joined_second a b same = record {
  partition = sym same;
  min_block = min-le_right a.min_block b.min_block;
  max_block = le-max_right a.max_block b.max_block;
  level = le-max_right a.level b.level;
  mutation = later_second a.mutation b.mutation;
}

joined_named : (a b : PartName) → IsPartName a → IsPartName b → IsPartName (joined_name a b)
joined_named a b one two =
    let low = min-le_left a.min_block b.min_block in
    let high = le-max_left a.max_block b.max_block in
    record {
      partition = one.partition;
      min_block = (one_of a.min_block b.min_block one.min_block.0 two.min_block.0, omega (arith, low, one.min_block.1));
      max_block = (omega (arith, high, one.max_block.0), max-le one.max_block.1 two.max_block.1);
      order = omega (arith, low, high, one.order);
      level = max-le one.level two.level;
      mutation = later_named a.mutation b.mutation one.mutation two.mutation;
    }
  where
    one_of : (m n : ℕ) → 1 ≤ m → 1 ≤ n → 1 ≤ min m n
    one_of m n first second = omega arith

contains_on : (a b c : PartName) → Contains a b → Contains b c → Contains a c
contains_on a b c one two =
    let m = one.min_block in
    let n = two.min_block in
    let p = one.max_block in
    let q = two.max_block in
    let k = one.level in
    let l = two.level in
    let x = one.mutation in
    let y = two.mutation in
    record {
      partition = one.partition ∙ two.partition;
      min_block = omega (arith, m, n);
      max_block = omega (arith, p, q);
      level = omega (arith, k, l);
      mutation = omega (arith, x, y);
    }

-- ---- a name and others joined

abbrev OfPartition : PartName → PartName → Type 0
OfPartition first p = p.partition ≡ first.partition

contains_itself : (a : PartName) → Contains a a
contains_itself a = record { partition = refl; min_block = omega arith; max_block = omega arith; level = omega arith; mutation = omega arith }

fold_first : (a : PartName) (rest : List PartName) → Contains (fold joined_name a rest) a
fold_first a [] = contains_itself a
fold_first a (p ∷ rest) = contains_on (fold joined_name (joined_name a p) rest) (joined_name a p) a (fold_first (joined_name a p) rest) (joined_first a p)

fold_each : (a : PartName) (rest : List PartName) → AllByRecursion (OfPartition a) rest → AllByRecursion (Contains (fold joined_name a rest)) rest
fold_each a [] own = tt
fold_each a (p ∷ rest) own = (
  contains_on (fold joined_name (joined_name a p) rest) (joined_name a p) p (fold_first (joined_name a p) rest) (joined_second a p own.0),
  fold_each (joined_name a p) rest own.1,
)

fold_levels : (a : PartName) (rest : List PartName) → AllByRecursion (λ (p : PartName). p.level ≤ (fold joined_name a rest).level) rest
fold_levels a [] = tt
fold_levels a (p ∷ rest) =
    let here = (fold_first (joined_name a p) rest).level in
    (omega (arith, here, le-max_right a.level p.level), fold_levels (joined_name a p) rest)

fold_named : (a : PartName) (rest : List PartName) → IsPartName a → AllByRecursion IsPartName rest → IsPartName (fold joined_name a rest)
fold_named a [] one all = one
fold_named a (p ∷ rest) one all = fold_named (joined_name a p) rest (joined_named a p one all.0) all.1

pub begins_low : (first : PartName) (rest : List PartName) → RiseFrom first rest → first.min_block ≤ first.max_block
begins_low first [] rise = rise
begins_low first (next ∷ rest) rise = rise.0

-- the blocks of parts that stand one after another
fold_blocks : (a first : PartName) (rest : List PartName) → a.max_block ≡ first.max_block → a.min_block ≤ first.min_block → RiseFrom first rest
    → ((fold joined_name a rest).min_block ≡ a.min_block) × ((fold joined_name a rest).max_block ≡ (last_name first rest).max_block)
fold_blocks a first [] same low rise = (refl, same)
fold_blocks a first (next ∷ rest) same low rise =
    let own = rise.0 in
    let apart = rise.1.blocks in
    let upto = begins_low next rest rise.2 in
    let least : min a.min_block next.min_block ≡ a.min_block = min-eq_left (omega (arith, own, apart, low)) in
    let greatest : max a.max_block next.max_block ≡ next.max_block = max-eq_right (omega (arith, apart, same, upto)) in
    let more = fold_blocks (joined_name a next) next rest greatest (omega (arith, least, low, own, apart)) rise.2 in
    (more.0 ∙ least, more.1)

-- ---- the name of a merge

raised_contains : (a b : PartName) → Contains a b → Contains (raised a) b
raised_contains a b c = let level = c.level in record { partition = c.partition; min_block = c.min_block; max_block = c.max_block; level = omega (arith, level); mutation = c.mutation }

raise_all : (a : PartName) (ps : List PartName) → AllByRecursion (Contains a) ps → AllByRecursion (Contains (raised a)) ps
raise_all a [] all = tt
raise_all a (p ∷ ps) all = (raised_contains a p all.0, raise_all a ps all.1)

pub merged_contains : (first : PartName) (rest : List PartName) → All (λ (p : PartName). p.partition ≡ first.partition) rest → All (Contains (merged_name first rest)) (first ∷ rest)
merged_contains first rest own =
    All-from_recursion (Contains (merged_name first rest)) (first ∷ rest)
    (raise_all (fold joined_name first rest) (first ∷ rest) (fold_first first rest, fold_each first rest (recursion_from_All (OfPartition first) rest own)))

below_another : (a : PartName) (ps : List PartName) → AllByRecursion (λ (p : PartName). p.level ≤ a.level) ps → AllByRecursion (λ (p : PartName). p ≢ raised a) ps
below_another a [] low = tt
below_another a (p ∷ ps) low =
    let here = low.0 in
    ((λ same. let level : p.level ≡ a.level + 1 = ap (λ (q : PartName). q.level) same in absurd (omega (arith, here, level))), below_another a ps low.1)

pub merged_another : (first : PartName) (rest : List PartName) → All (λ (p : PartName). p ≢ merged_name first rest) (first ∷ rest)
merged_another first rest =
    All-from_recursion (λ (p : PartName). p ≢ merged_name first rest) (first ∷ rest)
    (below_another (fold joined_name first rest) (first ∷ rest) ((fold_first first rest).level, fold_levels first rest))

pub merged_least : (first : PartName) (rest : List PartName) → RiseFrom first rest → (merged_name first rest).min_block ≡ first.min_block
merged_least first rest rise = (fold_blocks first first rest refl (omega arith) rise).0

pub merged_greatest : (first : PartName) (rest : List PartName) → RiseFrom first rest → (merged_name first rest).max_block ≡ (last_name first rest).max_block
merged_greatest first rest rise = (fold_blocks first first rest refl (omega arith) rise).1

pub merged_partition : (first : PartName) (rest : List PartName) → (merged_name first rest).partition ≡ first.partition
merged_partition first rest = (fold_first first rest).partition

pub merged_named : (first : PartName) (rest : List PartName) → All IsPartName (first ∷ rest) → (merged_name first rest).level ≤ 4294967295 → IsPartName (merged_name first rest)
merged_named first rest all low =
    let each = recursion_from_All IsPartName (first ∷ rest) all in
    let joined = fold_named first rest each.0 each.1 in
    record { partition = joined.partition; min_block = joined.min_block; max_block = joined.max_block; order = joined.order; level = low; mutation = joined.mutation }
