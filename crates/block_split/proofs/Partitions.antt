-- The partitions of rows as a row comes after them: all stay, and a new one comes last.
use Rattle.std.proofs.Common.{◌≡◌, Bool, true, false, cond, not, ◌||◌, List, [], ◌∷◌, ◌++◌, All, None, map, refl, sym, ap, ap₂, ◌∙◌, subst, append-nil}
use Rattle.std.specs.List.{list_any}
use Rattle.std.proofs.lemmas.List.Elements.{All-nil, All-cons, All-head, All-tail, filter-append}
use Rattle.mt_base.specs.declared.partition.Partition.{Partition}
use Rattle.mt_base.specs.declared.partition.Partition.TheVariants.{Whole}
use Rattle.mt_values.specs.declared.schema.Schema.{Schema}
use Rattle.mt_values.specs.Tables.{partition_by_column, partition_of, same_partition}
use Rattle.mt_values.specs.Values.{Row}
use Rattle.mt_model.specs.Commands.{partitions_of, rows_in, other_partitions}
use Rattle.mt_model.proofs.Commands.{partition_is, same_itself}
use Rattle.block_split.specs.Split.{split_rows}

-- ---- one partition and another

-- what is told apart is told apart from the other side too
pub apart : (p q : Partition) → same_partition p q ≡ false → same_partition q p ≡ false
apart p q is = by (same_partition q p) refl
  where
    by : (b : Bool) → same_partition q p ≡ b → same_partition q p ≡ false
    by true e =
        let same : p ≡ q = sym (partition_is q p e) in
        let itself : same_partition p q ≡ true = subst (λ x. same_partition p x ≡ true) same (same_itself p) in
        cc
    by false e = e

-- a partition occurs among others
abbrev pub occurs : Partition → List Partition → Bool
occurs p ps = list_any (same_partition p) ps

-- no partition occurs after itself
abbrev pub AreDistinct : List Partition → Type 0
AreDistinct [] = Unit {0}
AreDistinct (p ∷ ps) = (occurs p ps ≡ false) × AreDistinct ps

-- ---- the others of a list

-- another one occurs among the others as it does among all
occurs_other : (p q : Partition) (ps : List Partition) → same_partition p q ≡ false → occurs p (other_partitions q ps) ≡ occurs p ps
occurs_other p q [] is = refl
occurs_other p q (x ∷ ps) is = by (occurs_other p q ps is) (same_partition x q) refl
  where
    by : occurs p (other_partitions q ps) ≡ occurs p ps → (b : Bool) → same_partition x q ≡ b → occurs p (cond (not b) (x ∷ other_partitions q ps) (other_partitions q ps)) ≡ (same_partition p x || occurs p ps)
    by rest true e =
        let not_it : same_partition p x ≡ false = ap (same_partition p) (partition_is x q e) ∙ is in
        rest ∙ sym (ap (λ c. c || occurs p ps) not_it)
    by rest false e = ap (λ c. same_partition p x || c) rest

-- it does not occur among the others
not_other : (q : Partition) (ps : List Partition) → occurs q (other_partitions q ps) ≡ false
not_other q [] = refl
not_other q (x ∷ ps) = by (not_other q ps) (same_partition x q) refl
  where
    by : occurs q (other_partitions q ps) ≡ false → (b : Bool) → same_partition x q ≡ b → occurs q (cond (not b) (x ∷ other_partitions q ps) (other_partitions q ps)) ≡ false
    by rest true e = rest
    by rest false e = ap₂ (λ c d. c || d) (apart x q e) rest

distinct_other : (q : Partition) (ps : List Partition) → AreDistinct ps → AreDistinct (other_partitions q ps)
distinct_other q [] are = tt
distinct_other q (x ∷ ps) are = by (distinct_other q ps are.1) (same_partition x q) refl
  where
    by : AreDistinct (other_partitions q ps) → (b : Bool) → same_partition x q ≡ b → AreDistinct (cond (not b) (x ∷ other_partitions q ps) (other_partitions q ps))
    by rest true e = rest
    by rest false e = (occurs_other x q ps e ∙ are.0, rest)

pub distinct_partitions : (schema : Schema) (rows : List Row) → AreDistinct (partitions_of schema rows)
distinct_partitions schema [] = tt
distinct_partitions schema (row ∷ rows) =
    (not_other (partition_of schema row) (partitions_of schema rows), distinct_other (partition_of schema row) (partitions_of schema rows) (distinct_partitions schema rows))

-- what holds of a partition and of the others holds of all
all_others : (P : Partition → Type 0) (q : Partition) (ps : List Partition) → P q → All P (other_partitions q ps) → All P ps
all_others P q [] here others = All-nil P
all_others P q (x ∷ ps) here others = by (all_others P q ps here) (same_partition x q) refl others
  where
    by : (All P (other_partitions q ps) → All P ps) → (b : Bool) → same_partition x q ≡ b → All P (cond (not b) (x ∷ other_partitions q ps) (other_partitions q ps)) → All P (x ∷ ps)
    by rest true e h = All-cons P x ps (subst P (sym (partition_is x q e)) here) (rest h)
    by rest false e h = All-cons P x ps (All-head P x (other_partitions q ps) h) (rest (All-tail P x (other_partitions q ps) h))

-- ---- a row more

-- the partitions with one that comes last if it is new
abbrev pub inserted : List Partition → Partition → List Partition
inserted ps p = cond (occurs p ps) ps (ps ++ p ∷ [])

other_last : (q p : Partition) (ps : List Partition) → other_partitions q (ps ++ p ∷ []) ≡ other_partitions q ps ++ cond (not (same_partition p q)) (p ∷ []) []
other_last q p ps = filter-append (λ (x : Partition). not (same_partition x q)) ps (p ∷ [])

inserted_after : (p q : Partition) (ps : List Partition) → q ∷ other_partitions q (inserted ps p) ≡ inserted (q ∷ other_partitions q ps) p
inserted_after p q ps = by (same_partition p q) (occurs p ps) refl refl
  where
    by : (a b : Bool) → same_partition p q ≡ a → occurs p ps ≡ b
        → q ∷ other_partitions q (cond b ps (ps ++ p ∷ [])) ≡ cond (a || occurs p (other_partitions q ps)) (q ∷ other_partitions q ps) (q ∷ other_partitions q ps ++ p ∷ [])
    by true true e f = refl
    by true false e f =
        ap (λ xs. q ∷ xs)
        (other_last q p ps ∙ ap (λ c. other_partitions q ps ++ cond (not c) (p ∷ []) []) e ∙ append-nil (other_partitions q ps))
    by false true e f = ap (λ c. cond c (q ∷ other_partitions q ps) (q ∷ other_partitions q ps ++ p ∷ [])) (sym (occurs_other p q ps e ∙ f))
    by false false e f =
        ap (λ xs. q ∷ xs) (other_last q p ps ∙ ap (λ c. other_partitions q ps ++ cond (not c) (p ∷ []) []) e)
        ∙ ap (λ c. cond c (q ∷ other_partitions q ps) (q ∷ other_partitions q ps ++ p ∷ [])) (sym (occurs_other p q ps e ∙ f))

pub partitions_more : (schema : Schema) (rows : List Row) (row : Row) → partitions_of schema (rows ++ row ∷ []) ≡ inserted (partitions_of schema rows) (partition_of schema row)
partitions_more schema [] row = refl
partitions_more schema (r ∷ rows) row =
    ap (λ ps. partition_of schema r ∷ other_partitions (partition_of schema r) ps) (partitions_more schema rows row)
    ∙ inserted_after (partition_of schema row) (partition_of schema r) (partitions_of schema rows)

-- a partition that does not occur has no rows
pub no_rows : (schema : Schema) (p : Partition) (rows : List Row) → occurs p (partitions_of schema rows) ≡ false → rows_in schema p rows ≡ []
no_rows schema p [] none = refl
no_rows schema p (row ∷ rows) none = by (no_rows schema p rows) (same_partition p (partition_of schema row)) refl none
  where
    by : (occurs p (partitions_of schema rows) ≡ false → rows_in schema p rows ≡ []) → (b : Bool) → same_partition p (partition_of schema row) ≡ b
        → (b || occurs p (other_partitions (partition_of schema row) (partitions_of schema rows))) ≡ false → rows_in schema p (row ∷ rows) ≡ []
    by rest true e h = cc
    by rest false e h =
        ap (λ c. cond c (row ∷ rows_in schema p rows) (rows_in schema p rows)) (apart p (partition_of schema row) e)
        ∙ rest (sym (occurs_other p (partition_of schema row) (partitions_of schema rows) e) ∙ h)

-- ---- rows of one partition alone

pub all_rows : (schema : Schema) (p : Partition) (rows : List Row) → All (λ q. q ≡ p) (partitions_of schema rows) → rows_in schema p rows ≡ rows
all_rows schema p [] are = refl
all_rows schema p (row ∷ rows) are =
    let q = partition_of schema row in
    let others = other_partitions q (partitions_of schema rows) in
    let here : q ≡ p = All-head (λ x. x ≡ p) q others are in
    let same : same_partition q p ≡ true = subst (λ x. same_partition q x ≡ true) here (same_itself q) in
    ap (λ c. cond c (row ∷ rows_in schema p rows) (rows_in schema p rows)) same
    ∙ ap (λ rs. row ∷ rs) (all_rows schema p rows (all_others (λ x. x ≡ p) q (partitions_of schema rows) here (All-tail (λ x. x ≡ p) q others are)))

only_one : (schema : Schema) (p : Partition) (rows : List Row) → partitions_of schema rows ≡ p ∷ [] → split_rows schema rows ≡ (p, rows) ∷ []
only_one schema p rows is =
    let are : All (λ q. q ≡ p) (partitions_of schema rows) = subst (All (λ q. q ≡ p)) (sym is) (All-cons (λ q. q ≡ p) p [] refl (All-nil (λ q. q ≡ p))) in
    ap (map (λ q. (q, rows_in schema q rows))) is ∙ ap (λ rs. (p, rs) ∷ []) (all_rows schema p rows are)

partitions_split : (f : Partition → List Row) (ps : List Partition) → map (λ (x : Partition × List Row). x.0) (map (λ q. (q, f q)) ps) ≡ ps
partitions_split f [] = refl
partitions_split f (p ∷ ps) = ap (λ qs. p ∷ qs) (partitions_split f ps)

-- rows that are split into one list are in one partition
pub split_into_one : (schema : Schema) (p : Partition) (rs rows : List Row) → split_rows schema rows ≡ (p, rs) ∷ [] → split_rows schema rows ≡ (p, rows) ∷ []
split_into_one schema p rs rows is =
    only_one schema p rows (sym (partitions_split (λ q. rows_in schema q rows) (partitions_of schema rows)) ∙ ap (map (λ (x : Partition × List Row). x.0)) is)

-- the rows of a table without a partition column are of one partition
module _ (schema : Schema) (none : schema.partition ≡ None) where
  whole : (row : Row) → partition_of schema row ≡ Whole
  whole row = ap (λ o. partition_by_column o row) none

  no_other : (rows : List Row) → other_partitions Whole (partitions_of schema rows) ≡ []
  no_other [] = refl
  no_other (row ∷ rows) =
      ap (λ q. other_partitions Whole (q ∷ other_partitions q (partitions_of schema rows))) (whole row)
      ∙ ap (other_partitions Whole) (no_other rows)

  pub split_whole : (row : Row) (rows : List Row) → split_rows schema (row ∷ rows) ≡ (Whole, row ∷ rows) ∷ []
  split_whole row rows =
      only_one schema Whole (row ∷ rows)
      (ap (λ q. q ∷ other_partitions q (partitions_of schema rows)) (whole row) ∙ ap (λ ps. Whole ∷ ps) (no_other rows))
