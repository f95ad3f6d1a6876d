-- The order of a pass.
use Rattle.std.proofs.Common.{◌≡◌, ◌≢◌, ℕ, ◌<◌, ◌≤◌, true, false, List, length, get_or, refl, sym, ap, ◌∙◌, subst, ◌⊎◌, inl, inr, Ordering, arith}
use Rattle.std.proofs.lemmas.Bool.{cases_lt, false≢true}
use Rattle.std.proofs.lemmas.Bool.Decides.{nat_tests}
use Rattle.std.proofs.lemmas.Cmp.{tied_itself, nat_cmp_total, on_total, then_total, back_total}
use Rattle.std.proofs.lemmas.List.Sorted.{ranks_by, sorted_far}
use Rattle.std.specs.Cmp.{IsStrictWeakOrder, IsTotalOrder}
use Rattle.std.specs.Ordering.{is_lt, nat_cmp, ordering_then}
use Rattle.std.specs.declared.cmp.Ordering.TheVariants.{Less, Equal}
use Rattle.mt_base.specs.declared.partition.Partition.{Partition}
use Rattle.mt_base.specs.declared.partition.Partition.TheVariants.{Whole, Number}
use Rattle.part_name.specs.declared.part.PartName.{PartName}
use Rattle.part_name.specs.PartNames.{Contains, Meet}
use Rattle.part_set.specs.Parts.{StandsClear, in_order, partition_rank}
use Rattle.part_set.specs.Passes.{IsInPassOrder, IsPlainName, pass_order}
use Rattle.part_set.proofs.Orders.{block_low, order_tested, partition_low}

pass_total : IsTotalOrder pass_order
pass_total =
    then_total (on_total (λ (p : PartName). partition_rank p.partition) nat_cmp_total)
    (then_total (on_total (λ (p : PartName). p.min_block) nat_cmp_total) (then_total (on_total (λ (p : PartName). p.max_block) (back_total nat_cmp_total)) (on_total (λ (p : PartName). p.level) (back_total nat_cmp_total))))

pub pass_weak : IsStrictWeakOrder (λ (a b : PartName). is_lt (pass_order a b))
pass_weak = ranks_by pass_total (λ (p : PartName). p)

less_told : (m n : ℕ) → m < n → nat_cmp m n ≡ Less
less_told m n less = grind (arith, nat_tests)

equal_told : (m n : ℕ) → m ≡ n → nat_cmp m n ≡ Equal
equal_told m n same = grind (arith, nat_tests)

first_tells : (m n : ℕ) (r : Ordering) → m < n → is_lt (ordering_then (nat_cmp m n) r) ≡ true
first_tells m n r less = ap (λ (o : Ordering). is_lt (ordering_then o r)) (less_told m n less)

next_tells : (m n : ℕ) (r : Ordering) → m ≡ n → is_lt r ≡ true → is_lt (ordering_then (nat_cmp m n) r) ≡ true
next_tells m n r same rest = ap (λ (o : Ordering). is_lt (ordering_then o r)) (equal_told m n same) ∙ rest

-- no number of another partition
pub same_partition : (p q : Partition) → partition_rank p ≡ partition_rank q → p ≡ q
same_partition Whole Whole is = refl
same_partition Whole (Number n) is = absurd (omega arith)
same_partition (Number m) Whole is = absurd (omega arith)
same_partition (Number m) (Number n) is = ap Number (omega arith)

-- what does not come later stands in block order
pub pass_in_order : (a b : PartName) → is_lt (pass_order b a) ≡ false → in_order a b ≡ true
pass_in_order a b not_less =
    order_tested a b
    (elim (cases_lt (partition_rank b.partition) (partition_rank a.partition)) [
      | inl less ↦ absurd (false≢true (sym not_less ∙ first_tells (partition_rank b.partition) (partition_rank a.partition) _ less))
      | inr low ↦ low
    ])
    (λ same. elim (cases_lt b.min_block a.min_block) [
      | inl less ↦ absurd (false≢true (sym not_less ∙ next_tells (partition_rank b.partition) (partition_rank a.partition) _ (sym same) (first_tells b.min_block a.min_block _ less)))
      | inr low ↦ low
    ])

-- the names of a part that contains another, where they differ
contains_cases : (a b : PartName) → Contains a b → a.mutation ≡ b.mutation → (a ≡ b) ⊎ (is_lt (pass_order a b) ≡ true)
contains_cases a b has mutation =
    let ranks = ap partition_rank has.partition in
    elim (cases_lt a.min_block b.min_block) [
      | inl less ↦ inr (next_tells (partition_rank a.partition) (partition_rank b.partition) _ ranks (first_tells a.min_block b.min_block _ less))
      | inr low ↦ (
          let min : a.min_block ≡ b.min_block = omega (arith, has.min_block) in
          elim (cases_lt b.max_block a.max_block) [
            | inl less ↦ inr (next_tells (partition_rank a.partition) (partition_rank b.partition) _ ranks (next_tells a.min_block b.min_block _ min (first_tells b.max_block a.max_block _ less)))
            | inr high ↦ (
                let max : a.max_block ≡ b.max_block = omega (arith, has.max_block) in
                elim (cases_lt b.level a.level) [
                  | inl less ↦ inr (next_tells (partition_rank a.partition) (partition_rank b.partition) _ ranks (next_tells a.min_block b.min_block _ min (next_tells b.max_block a.max_block _ (sym max) (ap is_lt (less_told b.level a.level less)))))
                  | inr top ↦ (
                      let level : a.level ≡ b.level = omega (arith, has.level) in
                      inl (λ i. record { partition = has.partition i; min_block = min i; max_block = max i; level = level i; mutation = mutation i })
                      )
                ]
                )
          ]
          )
    ]

-- a part that contains another one comes first
pub container_first : (a b : PartName) → Contains a b → IsPlainName a → IsPlainName b → a ≢ b → is_lt (pass_order a b) ≡ true
container_first a b has plain also apart = elim (contains_cases a b has (plain.plain ∙ sym also.plain)) [ inl same ↦ absurd (apart same) | inr less ↦ less ]

-- it is the other one, or not
pub same_or_apart : (a b : PartName) → Contains a b → IsPlainName a → IsPlainName b → (a ≡ b) ⊎ (a ≢ b)
same_or_apart a b has plain also = elim (contains_cases a b has (plain.plain ∙ sym also.plain)) [
  | inl same ↦ inl same
  | inr less ↦ inr (λ same. false≢true (sym (ap is_lt (tied_itself pass_total b)) ∙ subst (λ (c : PartName). is_lt (pass_order c b) ≡ true) same less))
]

-- what comes earlier stands in block order
pub earlier_in_order : (parts : List PartName) → IsInPassOrder parts → (i j : ℕ) (d : PartName) → i ≤ j → j < length parts → in_order (get_or parts i d) (get_or parts j d) ≡ true
earlier_in_order parts sorted i j d below inside = pass_in_order (get_or parts i d) (get_or parts j d) (sorted_far (λ (a b : PartName). is_lt (pass_order a b)) pass_weak parts sorted i j d below inside)

-- and what comes later contains no other part
pub later_no_container : (parts : List PartName) → IsInPassOrder parts → (i j : ℕ) (d : PartName) → i ≤ j → j < length parts → IsPlainName (get_or parts j d) → IsPlainName (get_or parts i d)
    → get_or parts j d ≢ get_or parts i d → Contains (get_or parts j d) (get_or parts i d) → ⊥
later_no_container parts sorted i j d below inside plain also apart has =
    false≢true (sym (sorted_far (λ (a b : PartName). is_lt (pass_order a b)) pass_weak parts sorted i j d below inside) ∙ container_first (get_or parts j d) (get_or parts i d) has plain also apart)

-- a part meets the one that it contains
pub contains_meets : (a b : PartName) → Contains a b → b.min_block ≤ b.max_block → Meet a b
contains_meets a b has order = record { partition = has.partition; low = omega (arith, has.min_block); high = omega (arith, has.max_block) }

-- Where a part comes after another that stands clear of a third, it has no block of the third or above.
pub only_last : (k v p : PartName) → StandsClear k v → in_order v p ≡ true → k.partition ≡ p.partition → v.min_block ≤ v.max_block → p.min_block ≤ k.max_block → ⊥
only_last k v p clear behind same order high =
    let first = partition_low k v clear.order in
    let second = partition_low v p behind in
    let ranks : partition_rank k.partition ≡ partition_rank p.partition = ap partition_rank same in
    let low = block_low k v clear.order (omega arith) in
    let next = block_low v p behind (omega arith) in
    clear.apart (record { partition = same_partition k.partition v.partition (omega arith); low = omega arith; high = omega arith })
