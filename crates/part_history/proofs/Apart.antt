-- Parts that stand for a table's commands have no block in common.
use Rattle.std.proofs.Common.{◌≡◌, ◌≢◌, ℕ, ◌+◌, ◌-◌, ◌<◌, ◌≤◌, Bool, true, cond, ◌&&◌, List, [], ◌∷◌, Some, length, slice_get, get_or, All, refl, sym, ap, ap₂, ◌∙◌, subst, arith, zero, suc, inl, inr, ◌⊎◌}
use Rattle.std.specs.List.{count_by}
use Rattle.std.proofs.lemmas.Bool.{cases_lt}
use Rattle.std.proofs.lemmas.List.Sums.{sum_by-cons}
use Rattle.std.proofs.lemmas.Option.{get_or_from_slice_get, slice_get_within}
use Rattle.mt_base.specs.declared.partition.Partition.{Partition}
use Rattle.mt_values.specs.declared.schema.Schema.{Schema}
use Rattle.mt_values.specs.Tables.{MayHavePartition, same_partition}
use Rattle.rule_law.specs.mt_model.History.{History, IsLegal, schema_of}
use Rattle.rule_law.specs.mt_model.Numbers.{IsNumberOfInsert, numbered}
use Rattle.rule_law.proofs.MtModelCommands.{own_partition, same_itself}
use Rattle.part_name.specs.PartNames.{Before, IsPartName}
use Rattle.part_history.specs.declared.part.CorePart.{CorePart}
use Rattle.part_history.specs.Parts.{PartStands, TableStands, has_block}
use Rattle.part_history.specs.Entered.{next_number}
use Rattle.part_history.proofs.Growing.{number_drawn}
use Rattle.part_history.proofs.Numbered.{all_into, into_at, legal_schema}
use Rattle.part_history.proofs.Ranges.{lies_inside}

-- one part that passes is counted
count_one : (f : CorePart → Bool) (ps : List CorePart) (i : ℕ) (a : CorePart) → slice_get ps i ≡ Some a → f a ≡ true → 1 ≤ count_by f ps
count_one f [] i a at passes = cc
count_one f (p ∷ ps) zero a at passes =
    let same : p ≡ a = cc in
    let here : f p ≡ true = ap f same ∙ passes in
    let sum = sum_by-cons (λ (q : CorePart). cond (f q) 1 0) p ps ∙ ap (λ (b : Bool). cond b 1 0 + count_by f ps) here in
    omega (arith, sum)
count_one f (p ∷ ps) (suc i) a at passes =
    let rest = count_one f ps i a at passes in
    let sum = sum_by-cons (λ (q : CorePart). cond (f q) 1 0) p ps in
    omega (arith, sum, rest)

-- two of them are counted twice
count_two : (f : CorePart → Bool) (ps : List CorePart) (i j : ℕ) (a b : CorePart) → slice_get ps i ≡ Some a → slice_get ps j ≡ Some b → i ≢ j → f a ≡ true → f b ≡ true → 2 ≤ count_by f ps
count_two f [] i j a b at there apart one two = cc
count_two f (p ∷ ps) zero zero a b at there apart one two = absurd (apart refl)
count_two f (p ∷ ps) zero (suc j) a b at there apart one two =
    let same : p ≡ a = cc in
    let here : f p ≡ true = ap f same ∙ one in
    let rest = count_one f ps j b there two in
    let sum = sum_by-cons (λ (q : CorePart). cond (f q) 1 0) p ps ∙ ap (λ (c : Bool). cond c 1 0 + count_by f ps) here in
    omega (arith, sum, rest)
count_two f (p ∷ ps) (suc i) zero a b at there apart one two =
    let same : p ≡ b = cc in
    let here : f p ≡ true = ap f same ∙ two in
    let rest = count_one f ps i a at one in
    let sum = sum_by-cons (λ (q : CorePart). cond (f q) 1 0) p ps ∙ ap (λ (c : Bool). cond c 1 0 + count_by f ps) here in
    omega (arith, sum, rest)
count_two f (p ∷ ps) (suc i) (suc j) a b at there apart one two =
    let rest = count_two f ps i j a b at there (λ same. apart (ap suc same)) one two in
    let sum = sum_by-cons (λ (q : CorePart). cond (f q) 1 0) p ps in
    omega (arith, sum, rest)

-- a part of a partition has the numbers within its blocks
pub has_at : (w : Partition) (n : ℕ) (a : CorePart) → a.name.partition ≡ w → a.name.min_block ≤ n → n ≤ a.name.max_block → has_block w n a ≡ true
has_at w n a is from upto =
    ap₂ ◌&&◌ (ap (λ v. same_partition v w) is ∙ same_itself w) (lies_inside a.name.min_block a.name.max_block n from upto)

-- a part that stands is of a partition that its table may have: that of the INSERT of its least block
may_part : (h : History) (schema : Schema) (p : CorePart) → IsLegal h → schema_of p.table h ≡ Some schema → PartStands h p → MayHavePartition schema p.name.partition
may_part h schema p legal there s =
    let least = s.stands.least in
    let into = into_at schema (numbered p.table h) (p.name.min_block - 1) least.insert (all_into p.table h schema legal there) least.there in
    subst (MayHavePartition schema) least.partition_is (own_partition schema least.insert (legal_schema p.table h schema legal there) into)

-- the parts of a table end below its next number
pub ends_below : (h : History) (table : List ℕ) (ps : List CorePart) → TableStands table ps h → All (λ (p : CorePart). p.name.max_block < next_number table h) ps
ends_below h table ps s k d below =
    let p = get_or ps k d in
    let stands : PartStands h p = s.each k d below in
    let drawn = subst (λ t. p.name.max_block ≤ length (numbered t h)) (s.own k d below) (number_drawn p.table p.name.partition p.name.max_block h stands.stands.greatest) in
    omega (arith, drawn)

-- the parts of a table are of partitions that it may have
pub may_have : (h : History) (table : List ℕ) (schema : Schema) (ps : List CorePart) → IsLegal h → schema_of table h ≡ Some schema → TableStands table ps h → All (λ (p : CorePart). MayHavePartition schema p.name.partition) ps
may_have h table schema ps legal there s k d below =
    may_part h schema (get_or ps k d) legal (ap (λ t. schema_of t h) (s.own k d below) ∙ there) (s.each k d below)

module _ (h : History) (table : List ℕ) (ps : List CorePart) (s : TableStands table ps h) where
  pub stands_at : (i : ℕ) (a : CorePart) → slice_get ps i ≡ Some a → PartStands h a
  stands_at i a at = subst (PartStands h) (get_or_from_slice_get ps i a a at) (s.each i a (slice_get_within ps i a at))

  pub own_at : (i : ℕ) (a : CorePart) → slice_get ps i ≡ Some a → a.table ≡ table
  own_at i a at = subst (λ (p : CorePart). p.table ≡ table) (get_or_from_slice_get ps i a a at) (s.own i a (slice_get_within ps i a at))

  -- the number of an INSERT does not lie within two parts of its partition
  none_twice : (w : Partition) (i j n : ℕ) (a b : CorePart) → slice_get ps i ≡ Some a → slice_get ps j ≡ Some b → i ≢ j → a.name.partition ≡ w → b.name.partition ≡ w → IsNumberOfInsert table w n h
      → a.name.min_block ≤ n → n ≤ a.name.max_block → b.name.min_block ≤ n → n ≤ b.name.max_block → ⊥
  none_twice w i j n a b at there apart one two is from upto begun under =
      let once = s.once w n is in
      let twice = count_two (has_block w n) ps i j a b at there apart (has_at w n a one from upto) (has_at w n b two begun under) in
      omega (arith, once, twice)

  -- the least number of a part
  least_at : (w : Partition) (i : ℕ) (a : CorePart) → slice_get ps i ≡ Some a → a.name.partition ≡ w → IsNumberOfInsert table w a.name.min_block h
  least_at w i a at is =
      subst (λ (t : List ℕ). IsNumberOfInsert t w a.name.min_block h) (own_at i a at) (subst (λ (v : Partition). IsNumberOfInsert a.table v a.name.min_block h) is (stands_at i a at).stands.least)

  -- of two parts of one partition, one stands before the other
  pub stand_apart : (i j : ℕ) (a b : CorePart) → slice_get ps i ≡ Some a → slice_get ps j ≡ Some b → i ≢ j → a.name.partition ≡ b.name.partition → IsPartName a.name → IsPartName b.name → Before a.name b.name ⊎ Before b.name a.name
  stand_apart i j a b at there apart same first second = by (cases_lt a.name.max_block b.name.min_block) (cases_lt b.name.max_block a.name.min_block)
    where
      by : (a.name.max_block < b.name.min_block) ⊎ (b.name.min_block ≤ a.name.max_block) → (b.name.max_block < a.name.min_block) ⊎ (a.name.min_block ≤ b.name.max_block) → Before a.name b.name ⊎ Before b.name a.name
      by (inl below) other = inl (record { partition = same; blocks = below })
      by (inr meets) (inl below) = inr (record { partition = sym same; blocks = below })
      by (inr meets) (inr also) = absurd (shared (cases_lt a.name.min_block b.name.min_block))
        where
          shared : (a.name.min_block < b.name.min_block) ⊎ (b.name.min_block ≤ a.name.min_block) → ⊥
          shared (inl lt) = none_twice b.name.partition i j b.name.min_block a b at there apart same refl (least_at b.name.partition j b there refl) (omega (arith, lt)) meets (omega arith) second.order
          shared (inr le) = none_twice b.name.partition i j a.name.min_block a b at there apart same refl (least_at b.name.partition i a at same) (omega arith) first.order le also
