-- Block order.
use Rattle.std.proofs.Common.{◌≡◌, ℕ, ◌≤◌, true, false, ◌&&◌, ◌||◌, eqb, ltb, leb, List, get_or, subst, inl, inr, arith}
use Rattle.std.proofs.lemmas.Bool.{cases_lt}
use Rattle.std.proofs.lemmas.Bool.Decides.{nat_tests}
use Rattle.std.specs.List.{AllWithin}
use Rattle.std.specs.List.Sorted.{IsPartitionedBy}
use Rattle.part_name.specs.declared.part.PartName.{PartName}
use Rattle.part_set.specs.declared.kept.Kept.{Kept}
use Rattle.part_set.specs.Parts.{partition_rank, in_order, IsInBlockOrder}

low : (m n x y : ℕ) → (ltb m n || (eqb m n && leb x y)) ≡ true → m ≤ n
low m n x y is = grind (arith, nat_tests)

then_low : (m n x y : ℕ) → (ltb m n || (eqb m n && leb x y)) ≡ true → m ≡ n → x ≤ y
then_low m n x y is same = grind (arith, nat_tests)

tested : (m n x y : ℕ) → m ≤ n → (m ≡ n → x ≤ y) → (ltb m n || (eqb m n && leb x y)) ≡ true
tested m n x y below then = grind (arith, nat_tests)

turned : (m n x y : ℕ) → (ltb m n || (eqb m n && leb x y)) ≡ false → (ltb n m || (eqb n m && leb y x)) ≡ true
turned m n x y is = grind (arith, nat_tests)

-- the partition stands no further back
pub partition_low : (a b : PartName) → in_order a b ≡ true → partition_rank a.partition ≤ partition_rank b.partition
partition_low a b is = low (partition_rank a.partition) (partition_rank b.partition) a.min_block b.min_block is

-- nor in one partition the least block
pub block_low : (a b : PartName) → in_order a b ≡ true → partition_rank a.partition ≡ partition_rank b.partition → a.min_block ≤ b.min_block
block_low a b is same = then_low (partition_rank a.partition) (partition_rank b.partition) a.min_block b.min_block is same

-- and these two are the order
pub order_tested : (a b : PartName) → partition_rank a.partition ≤ partition_rank b.partition → (partition_rank a.partition ≡ partition_rank b.partition → a.min_block ≤ b.min_block) → in_order a b ≡ true
order_tested a b below then = tested (partition_rank a.partition) (partition_rank b.partition) a.min_block b.min_block below then

-- of two parts one stands in front
pub order_turned : (a b : PartName) → in_order a b ≡ false → in_order b a ≡ true
order_turned a b is = turned (partition_rank a.partition) (partition_rank b.partition) a.min_block b.min_block is

pub order_passed : (a b c : PartName) → in_order a b ≡ true → in_order b c ≡ true → in_order a c ≡ true
order_passed a b c first second =
    let p = partition_low a b first in
    let q = partition_low b c second in
    let x = block_low a b first in
    let y = block_low b c second in
    order_tested a c (omega arith) (λ same. omega (arith, x (omega arith), y (omega arith)))

-- in a list in block order, the parts before a part come first
pub front_first : {P : Type 0} (parts : List (Kept P)) (name : PartName) → IsInBlockOrder parts → IsPartitionedBy (λ kept. in_order kept.name name) parts
front_first parts name ordered = λ i j d below inside is.
    elim (cases_lt i j) [
      | inl less ↦ order_passed (get_or parts i d).name (get_or parts j d).name name (ordered i j d less inside).order is
      | inr not_less ↦ (let same : j ≡ i = omega arith in subst (λ (k : ℕ). in_order (get_or parts k d).name name ≡ true) same is)
    ]

-- what does not stand in front of a name stands behind it
pub all_turned : {P : Type 0} (parts : List (Kept P)) (name : PartName) (from to : ℕ) → AllWithin (λ (kept : Kept P). in_order kept.name name ≡ false) parts from to → AllWithin (λ (kept : Kept P). in_order name kept.name ≡ true) parts from to
all_turned parts name from to all k d low high = order_turned (get_or parts k d).name name (all k d low high)
