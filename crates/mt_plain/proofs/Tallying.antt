-- What an EXPLAIN counts, granule after granule.
use Rattle.std.proofs.Common.{◌≡◌, ℕ, ◌+◌, ◌*◌, ◌<◌, ◌≤◌, zero, suc, Bool, List, [], ◌∷◌, ◌++◌, Option, Some, length, min, drop, get_or, slice_get, refl, sym, ap, ap₂, ◌∙◌, subst, arith, filter_map, mul_comm, mul-le-mul_right, suc-mul}
use Rattle.std.specs.Int.{div_ceil}
use Rattle.std.specs.List.{cons_option, range_with_len}
use Rattle.std.proofs.Math.Nat.{div-zero, mod-zero}
use Rattle.std.proofs.lemmas.Grind.{div_ceil_times}
use Rattle.std.proofs.lemmas.List.{at_drop_more}
use Rattle.std.proofs.lemmas.List.Elements.{filter_map-append}
use Rattle.mt_base.specs.declared.partition.Partition.{Partition}
use Rattle.mt_values.specs.declared.expr.Test.{Test}
use Rattle.mt_values.specs.declared.schema.Schema.{Schema}
use Rattle.mt_values.specs.Conditions.{Condition}
use Rattle.mt_values.specs.Granules.{granules}
use Rattle.mt_values.specs.Values.{Row}
use Rattle.mt_values.proofs.Grids.{range_more}
use Rattle.part_history.specs.predicate.Boxes.{can}
use Rattle.part_history.specs.predicate.Granules.{box_between, chosen_in, known_among}
use Rattle.part_history.specs.predicate.declared.extent.Known.{Known}
use Rattle.part_history.specs.predicate.declared.extent.Known.TheVariants as known

-- ---- granules

-- without two keys there is none
pub few_keys : (schema : Schema) (partition : Partition) (c : Condition Test) (keys : List Row) (i : ℕ) → length keys ≤ i + 1 → chosen_in schema partition c (drop i keys) ≡ []
few_keys schema partition c [] zero few = refl
few_keys schema partition c [] (suc i) few = refl
few_keys schema partition c (a ∷ []) zero few = refl
few_keys schema partition c (a ∷ b ∷ keys) zero few = absurd (omega arith)
few_keys schema partition c (a ∷ keys) (suc i) few = few_keys schema partition c keys i (omega arith)

-- the next granule is between the next two keys
pub chosen_next : (schema : Schema) (partition : Partition) (c : Condition Test) (keys : List Row) (i : ℕ) (a b : Row) → i + 1 < length keys → chosen_in schema partition c (drop i keys) ≡ (can c (box_between schema partition (get_or keys i a) (get_or keys (i + 1) b))).yes ∷ chosen_in schema partition c (drop (i + 1) keys)
chosen_next schema partition c keys i a b below =
    let first = get_or keys i a in
    at_drop_more (chosen_in schema partition c) keys i a (omega arith)
    ∙ at_drop_more (λ (ks : List Row). chosen_in schema partition c (first ∷ ks)) keys (i + 1) b below
    ∙ ap (λ (cs : List Bool). (can c (box_between schema partition first (get_or keys (i + 1) b))).yes ∷ cs) (sym (at_drop_more (chosen_in schema partition c) keys (i + 1) b below))

-- granules of no rows are one of all
pub one_granule : (count : ℕ) → granules 0 count ≡ min 1 count
one_granule count = let parts = ap₂ (λ (a b : ℕ). a + min 1 b) (div-zero count) (mod-zero count) in parts ∙ omega arith

-- ---- the first rows of granules

-- the granules are no more than cover the rows
pub granule_below : (count size granule : ℕ) → granule < granules size count → size * granule < count
granule_below count zero granule below =
    let few : granule < min 1 count = subst (λ n. granule < n) (one_granule count) below in
    omega (arith, few)
granule_below count (suc size) granule below =
    let covers = (div_ceil_times count (suc size) (omega arith)).1 in
    let room : suc granule * suc size ≤ div_ceil count (suc size) * suc size = mul-le-mul_right (suc size) below in
    omega (arith, suc-mul granule (suc size), mul_comm granule (suc size))

-- the first row of one granule more
pub starts_more : (size : ℕ) (rows : List Row) (granule : ℕ) (row : Row) → slice_get rows (size * granule) ≡ Some row
    → filter_map (λ k. slice_get rows (size * k)) (range_with_len 0 (granule + 1)) ≡ filter_map (λ k. slice_get rows (size * k)) (range_with_len 0 granule) ++ row ∷ []
starts_more size rows granule row e =
    let at = λ (k : ℕ). slice_get rows (size * k) in
    ap (filter_map at) (range_more granule)
    ∙ filter_map-append at (range_with_len 0 granule) (granule ∷ [])
    ∙ ap (λ (o : Option Row). filter_map at (range_with_len 0 granule) ++ cons_option o []) e

-- ---- what is known of columns

-- where no column of the key is known, nothing is
unknown : (places : List ℕ) (place : ℕ) → known_among places [] place ≡ known.Unknown
unknown [] place = refl
unknown (p ∷ ps) place = refl

none_left : (keys : List Known) (i : ℕ) → length keys ≤ i → drop i keys ≡ []
none_left [] zero past = refl
none_left [] (suc i) past = refl
none_left (k ∷ keys) zero past = absurd (omega arith)
none_left (k ∷ keys) (suc i) past = none_left keys i (omega arith)

pub unknown_past : (places : List ℕ) (keys : List Known) (i place : ℕ) → length keys ≤ i → known_among (drop i places) (drop i keys) place ≡ known.Unknown
unknown_past places keys i place past = ap (λ (ks : List Known). known_among (drop i places) ks place) (none_left keys i past) ∙ unknown (drop i places) place
