-- The partitions of rows, one row after another.
use Rattle.std.proofs.Common.{◌≡◌, ℕ, ◌+◌, ◌<◌, Bool, true, false, cond, not, ◌||◌, List, [], ◌∷◌, ◌++◌, length, take, get_or, refl, sym, ap, ◌∙◌, append-nil}
use Rattle.std.proofs.lemmas.List.{take_more}
use Rattle.std.proofs.lemmas.List.Elements.{filter-append}
use Rattle.mt_base.specs.declared.partition.Partition.{Partition}
use Rattle.mt_values.specs.declared.schema.Schema.{Schema}
use Rattle.mt_values.specs.Tables.{partition_of, same_partition}
use Rattle.mt_values.specs.Values.{Row}
use Rattle.part_history.specs.mt_model.Commands.{partitions_of, other_partitions}
use Rattle.part_history.proofs.MtModelCommands.{partition_is, same_itself}
use Rattle.mt_plain.specs.Once.{among, once_more}

same_back : (p q : Partition) → same_partition p q ≡ true → same_partition q p ≡ true
same_back p q is = ap (λ (r : Partition). same_partition r p) (sym (partition_is p q is)) ∙ same_itself p

other_back : (p q : Partition) → same_partition p q ≡ false → same_partition q p ≡ false
other_back p q is = by (same_partition q p) refl
  where
    by : (b : Bool) → same_partition q p ≡ b → same_partition q p ≡ false
    by true e = let back = same_back q p e in cc
    by false e = e

-- another partition is among those that are left just where it was among them
among_without : (q p : Partition) (ps : List Partition) → same_partition q p ≡ false → among p (other_partitions q ps) ≡ among p ps
among_without q p [] other = refl
among_without q p (r ∷ ps) other = by (among_without q p ps other) (same_partition r q) refl
  where
    by : among p (other_partitions q ps) ≡ among p ps → (b : Bool) → same_partition r q ≡ b → among p (cond (not b) (r ∷ other_partitions q ps) (other_partitions q ps)) ≡ (same_partition r p || among p ps)
    by more true e =
        let is : same_partition r p ≡ false = ap (λ (z : Partition). same_partition z p) (partition_is r q e) ∙ other in
        more ∙ sym (ap (λ (b : Bool). b || among p ps) is)
    by more false e = ap (λ (b : Bool). same_partition r p || b) more

-- none is left of the partition itself, and another one is left
without_last : (q p : Partition) (ps : List Partition) (b : Bool) → same_partition p q ≡ b → other_partitions q (ps ++ p ∷ []) ≡ other_partitions q ps ++ cond (not b) (p ∷ []) []
without_last q p ps b is = filter-append (λ (z : Partition). not (same_partition z q)) ps (p ∷ []) ∙ ap (λ (b : Bool). other_partitions q ps ++ cond (not b) (p ∷ []) []) is

without_onto : (q p : Partition) (ps : List Partition) → q ∷ other_partitions q (once_more p ps) ≡ once_more p (q ∷ other_partitions q ps)
without_onto q p ps = by (same_partition q p) refl (among p ps) refl
  where
    by : (b : Bool) → same_partition q p ≡ b → (c : Bool) → among p ps ≡ c → q ∷ other_partitions q (cond c ps (ps ++ p ∷ [])) ≡ cond (b || among p (other_partitions q ps)) (q ∷ other_partitions q ps) (q ∷ other_partitions q ps ++ p ∷ [])
    by true is true e = refl
    by true is false e = ap (λ (z : List Partition). q ∷ z) (without_last q p ps true (same_back q p is) ∙ append-nil (other_partitions q ps))
    by false is true e = let there : among p (other_partitions q ps) ≡ true = among_without q p ps is ∙ e in rw there refl
    by false is false e =
        let none : among p (other_partitions q ps) ≡ false = among_without q p ps is ∙ e in
        rw none (ap (λ (z : List Partition). q ∷ z) (without_last q p ps false (other_back q p is)))

-- the partitions of rows with one row more
pub partitions_push : (schema : Schema) (rows : List Row) (row : Row) → partitions_of schema (rows ++ row ∷ []) ≡ once_more (partition_of schema row) (partitions_of schema rows)
partitions_push schema [] row = refl
partitions_push schema (first ∷ rows) row =
    let own = partition_of schema first in
    ap (λ (ps : List Partition). own ∷ other_partitions own ps) (partitions_push schema rows row) ∙ without_onto own (partition_of schema row) (partitions_of schema rows)

-- the partitions of rows up to one more
pub partitions_more : (schema : Schema) (rows : List Row) (i : ℕ) (d : Row) → i < length rows → partitions_of schema (take (i + 1) rows) ≡ once_more (partition_of schema (get_or rows i d)) (partitions_of schema (take i rows))
partitions_more schema rows i d below = ap (partitions_of schema) (take_more rows i d below) ∙ partitions_push schema (take i rows) (get_or rows i d)
