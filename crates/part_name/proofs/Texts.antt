-- Names that are spelled alike are one.
use Rattle.std.proofs.Common.{◌≡◌, ℕ, ◌<◌, ◌^◌, Option, Some, None, refl, sym, ap, ◌∙◌, arith, codes}
use Rattle.std.specs.Fmt.{decimal}
use Rattle.std.proofs.lemmas.Fmt.{decimal_injective}
use Rattle.mt_base.specs.declared.partition.Partition.{Partition}
use Rattle.mt_base.specs.declared.partition.Partition.TheVariants.{Whole, Number}
use Rattle.part_name.specs.declared.part.PartName.{PartName}
use Rattle.part_name.specs.PartNames.{IsMutation, IsPartition, IsPartName, joined, last_text, part_text, partition_text}
use Rattle.part_name.proofs.Pieces.{decimal_no_bar, last_alone, last_both, partition_no_bar, same_pieces, whole_only}

partitions_same : (p q : Partition) → IsPartition p → IsPartition q → partition_text p ≡ partition_text q → p ≡ q
partitions_same Whole q fits fits_too is = whole_only (codes "all") refl q fits_too (sym is)
partitions_same (Number m) Whole fits fits_too is = sym (whole_only (codes "all") refl (Number m) fits is)
partitions_same (Number m) (Number n) fits fits_too is = ap Number (decimal_injective m n (omega arith) (omega arith) is)

last_same : (m n : ℕ) (x y : Option ℕ) → m < 2 ^ 64 → n < 2 ^ 64 → IsMutation x → IsMutation y → last_text m x ≡ last_text n y → (m ≡ n) × (x ≡ y)
last_same m n None y small few fits fits_too is =
    let alone = last_alone (decimal m) (decimal_no_bar m small) n y (sym is) in
    (decimal_injective m n small few (sym alone.1), sym alone.0)
last_same m n (Some k) y small few fits fits_too is =
    let both = last_both (decimal m) (decimal k) (joined (decimal m) (decimal k)) (decimal_no_bar m small) refl n y few fits_too (sym is) in
    (decimal_injective m n small few (sym both.3), ap Some (decimal_injective k both.0 (omega arith) (omega (arith, both.2)) (sym both.4)) ∙ sym both.1)

pub names_same : (a b : PartName) → IsPartName a → IsPartName b → part_text a ≡ part_text b → a ≡ b
names_same a b p q is =
    let first = same_pieces (partition_text a.partition) (partition_text b.partition) _ _ (partition_no_bar a.partition p.partition) (partition_no_bar b.partition q.partition) is in
    let second = same_pieces (decimal a.min_block) (decimal b.min_block) _ _ (decimal_no_bar a.min_block (omega (arith, p.min_block))) (decimal_no_bar b.min_block (omega (arith, q.min_block))) first.1 in
    let third = same_pieces (decimal a.max_block) (decimal b.max_block) _ _ (decimal_no_bar a.max_block (omega (arith, p.max_block))) (decimal_no_bar b.max_block (omega (arith, q.max_block))) second.1 in
    let last = last_same a.level b.level a.mutation b.mutation (omega (arith, p.level)) (omega (arith, q.level)) p.mutation q.mutation third.1 in
    let partition : a.partition ≡ b.partition = partitions_same a.partition b.partition p.partition q.partition first.0 in
    let min_block : a.min_block ≡ b.min_block = decimal_injective a.min_block b.min_block (omega (arith, p.min_block)) (omega (arith, q.min_block)) second.0 in
    let max_block : a.max_block ≡ b.max_block = decimal_injective a.max_block b.max_block (omega (arith, p.max_block)) (omega (arith, q.max_block)) third.0 in
    λ i. record { partition = partition i; min_block = min_block i; max_block = max_block i; level = last.0 i; mutation = last.1 i }
