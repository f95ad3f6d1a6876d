-- Block order: it is total, and parts of one partition stand in it by their least blocks.
use Rattle.std.proofs.Common.{◌≡◌, ℕ, ◌≤◌, Bool, false, List, filter, refl, sym, ap, ap₂, ◌∙◌, subst, arith, suc}
use Rattle.std.specs.Cmp.{IsStrictWeakOrder, IsTotalOrder}
use Rattle.std.specs.Ordering.{is_lt, nat_cmp, ordering_then}
use Rattle.std.specs.declared.cmp.Ordering.{Ordering}
use Rattle.std.specs.declared.cmp.Ordering.TheVariants.{Equal}
use Rattle.std.proofs.lemmas.Bool.Decides.{nat_tests}
use Rattle.std.proofs.lemmas.Cmp.{nat_cmp_total, on_total, then_total, tied_itself}
use Rattle.std.proofs.lemmas.List.Kept.{IsSortedBy-filter}
use Rattle.std.proofs.lemmas.List.Sorted.{ranks_by}
use Rattle.std.proofs.lemmas.Map.Keys.{ge_from_not_lt}
use Rattle.mt_base.specs.declared.partition.Partition.{Partition}
use Rattle.mt_base.specs.declared.partition.Partition.TheVariants.{Whole, Number}
use Rattle.part_history.specs.declared.part.CorePart.{CorePart}
use Rattle.part_history.specs.Parts.{AreInBlockOrder, block_cmp, partition_cmp}

-- the place of a partition among all
rank : Partition → ℕ
rank Whole = 0
rank (Number n) = suc n

ranked : (p q : Partition) → nat_cmp (rank p) (rank q) ≡ partition_cmp p q
unfolding rank
ranked Whole Whole = refl
ranked Whole (Number n) = grind (arith, nat_tests)
ranked (Number m) Whole = grind (arith, nat_tests)
ranked (Number m) (Number n) = grind (arith, nat_tests)

pub partition_total : IsTotalOrder partition_cmp
partition_total = subst IsTotalOrder (λ i p q. ranked p q i) (on_total rank nat_cmp_total)

block_total : IsTotalOrder block_cmp
block_total = then_total (on_total (λ (p : CorePart). p.name.partition) partition_total) (on_total (λ (p : CorePart). p.name.min_block) nat_cmp_total)

pub block_weak : IsStrictWeakOrder (λ (a b : CorePart). is_lt (block_cmp a b))
block_weak = ranks_by block_total (λ (p : CorePart). p)

-- some of the parts are in order too
pub order_filtered : (f : CorePart → Bool) (ps : List CorePart) → AreInBlockOrder ps → AreInBlockOrder (filter f ps)
order_filtered f ps up = IsSortedBy-filter (λ a b. is_lt (block_cmp a b)) block_weak f ps up

-- of two parts of one partition the first has the lower least block
pub blocks_rise : (w : Partition) (p q : CorePart) → p.name.partition ≡ w → q.name.partition ≡ w → is_lt (block_cmp q p) ≡ false → p.name.min_block ≤ q.name.min_block
blocks_rise w p q one two up =
    let same : partition_cmp q.name.partition p.name.partition ≡ Equal = ap₂ partition_cmp two one ∙ tied_itself partition_total w in
    let cmp : block_cmp q p ≡ nat_cmp q.name.min_block p.name.min_block = ap (λ (o : Ordering). ordering_then o (nat_cmp q.name.min_block p.name.min_block)) same in
    ge_from_not_lt q.name.min_block p.name.min_block (sym (ap is_lt cmp) ∙ up)
