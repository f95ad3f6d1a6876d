-- Ranges of numbers that have each number of a partition in a stretch exactly once: the commands that are kept for the partition in them, range after range, are those kept for it in the stretch.
use Rattle.std.proofs.Common.{◌≡◌, ℕ, ◌+◌, ◌-◌, ◌<◌, ◌≤◌, Bool, true, false, cond, ◌&&◌, List, [], ◌∷◌, ◌++◌, Some, slice_get, refl, sym, ap, ap₂, ◌∙◌, arith, suc, inl, inr, ◌⊎◌}
use Rattle.std.specs.List.{flat_map, count_by, AllByRecursion}
use Rattle.std.proofs.lemmas.Bool.{cases_lt}
use Rattle.std.proofs.lemmas.Bool.Decides.{nat_tests}
use Rattle.std.proofs.lemmas.List.Sums.{sum_by-cons}
use Rattle.mt_base.specs.declared.partition.Partition.{Partition}
use Rattle.mt_values.specs.declared.command.Command.{Command}
use Rattle.mt_values.specs.declared.command.Command.TheVariants as command
use Rattle.mt_values.specs.declared.command.Insert.{Insert}
use Rattle.mt_values.specs.Tables.{same_partition}
use Rattle.rule_law.specs.mt_model.Numbers.{lies_within}
use Rattle.rule_law.proofs.MtModelCommands.{partition_is}
use Rattle.part_history.proofs.Settled.{is_kept, kept, kept_if}

-- the least and the greatest number of a range
abbrev pub Range : Type 0
Range = ℕ × ℕ

-- whether a range has a number
abbrev pub holds : ℕ → Range → Bool
holds n r = lies_within r.0 r.1 n

-- the ranges begin no lower than this, and each no lower than the one before it
abbrev pub Climbs : ℕ → List Range → Type 0
Climbs low [] = Unit {0}
Climbs low (r ∷ rs) = (low ≤ r.0) × Climbs r.0 rs

pub lies_inside : (a b n : ℕ) → a ≤ n → n ≤ b → lies_within a b n ≡ true
lies_inside a b n low high = grind (arith, nat_tests)

pub lies_below : (a b n : ℕ) → n < a → lies_within a b n ≡ false
lies_below a b n lt = grind (arith, nat_tests)

pub lies_above : (a b n : ℕ) → b < n → lies_within a b n ≡ false
lies_above a b n lt = grind (arith, nat_tests)

abbrev one_if : Bool → ℕ
one_if b = cond b 1 0

-- one range more
pub count_cons : (n : ℕ) (r : Range) (rs : List Range) → count_by (holds n) (r ∷ rs) ≡ one_if (holds n r) + count_by (holds n) rs
count_cons n r rs = sum_by-cons (λ (x : Range). one_if (holds n x)) r rs

count_yes : (n : ℕ) (r : Range) (rs : List Range) → holds n r ≡ true → count_by (holds n) (r ∷ rs) ≡ 1 + count_by (holds n) rs
count_yes n r rs h = count_cons n r rs ∙ ap (λ b. one_if b + count_by (holds n) rs) h

pub count_no : (n : ℕ) (r : Range) (rs : List Range) → holds n r ≡ false → count_by (holds n) (r ∷ rs) ≡ count_by (holds n) rs
count_no n r rs h =
    let zero_more : 0 + count_by (holds n) rs ≡ count_by (holds n) rs = omega arith in
    count_cons n r rs ∙ (ap (λ b. one_if b + count_by (holds n) rs) h ∙ zero_more)

-- no range has a number below all of them
pub none_low : (n low : ℕ) (rs : List Range) → Climbs low rs → n < low → count_by (holds n) rs ≡ 0
none_low n low [] climbs lt = refl
none_low n low (r ∷ rs) climbs lt =
    let under : n < r.0 = omega (arith, climbs.0, lt) in
    count_no n r rs (lies_below r.0 r.1 n under) ∙ none_low n r.0 rs climbs.1 under

-- ---- commands within ranges

pub and_false : (b : Bool) → b && false ≡ false
and_false true = refl
and_false false = refl

-- whether a command is kept in a range goes by its number
kept_as : (w : Partition) (a b d e n : ℕ) (c : Command) → lies_within a b n ≡ lies_within d e n → is_kept w a b n c ≡ is_kept w d e n c
kept_as w a b d e n (command.Create c) same = refl
kept_as w a b d e n (command.Insert i) same = ap (λ s. same_partition i.partition w && s) same
kept_as w a b d e n (command.Alter c) same = refl

pub outside : (w : Partition) (a b n : ℕ) (c : Command) → lies_within a b n ≡ false → is_kept w a b n c ≡ false
outside w a b n (command.Create c) is = refl
outside w a b n (command.Insert i) is = ap (λ s. same_partition i.partition w && s) is ∙ and_false (same_partition i.partition w)
outside w a b n (command.Alter c) is = refl

pub kept_above : (w : Partition) (a b n : ℕ) (cs : List Command) → b < n → kept w a b n cs ≡ []
kept_above w a b n [] lt = refl
kept_above w a b n (c ∷ cs) lt = ap (λ s. kept_if s c (kept w a b (n + 1) cs)) (outside w a b n c (lies_above a b n lt)) ∙ kept_above w a b (n + 1) cs (omega arith)

pub if_front : (s : Bool) (c : Command) (xs ys : List Command) → kept_if s c (xs ++ ys) ≡ kept_if s c xs ++ ys
if_front true c xs ys = refl
if_front false c xs ys = refl

-- where a range begins does not matter to numbers after
kept_begun : (w : Partition) (a d b n : ℕ) (cs : List Command) → a ≤ n → d ≤ n → kept w a b n cs ≡ kept w d b n cs
kept_begun w a d b n [] first second = refl
kept_begun w a d b n (c ∷ cs) first second =
    ap₂ (λ s xs. kept_if s c xs) (kept_as w a b d b n c (both (cases_lt b n))) (kept_begun w a d b (n + 1) cs (omega arith) (omega arith))
  where
    both : (b < n) ⊎ (n ≤ b) → lies_within a b n ≡ lies_within d b n
    both (inl above) = lies_above a b n above ∙ sym (lies_above d b n above)
    both (inr upto) = lies_inside a b n first upto ∙ sym (lies_inside d b n second upto)

-- two ranges, one after the other
kept_joined : (w : Partition) (a b top n : ℕ) (cs : List Command) → a ≤ b + 1 → b ≤ top → kept w a b n cs ++ kept w (b + 1) top n cs ≡ kept w a top n cs
kept_joined w a b top n [] first second = refl
kept_joined w a b top n (c ∷ cs) first second = by (cases_lt n a) (cases_lt b n) (kept_joined w a b top (n + 1) cs first second)
  where
    by : (n < a) ⊎ (a ≤ n) → (b < n) ⊎ (n ≤ b) → kept w a b (n + 1) cs ++ kept w (b + 1) top (n + 1) cs ≡ kept w a top (n + 1) cs
        → kept w a b n (c ∷ cs) ++ kept w (b + 1) top n (c ∷ cs) ≡ kept w a top n (c ∷ cs)
    by low (inl above) more =
        let from : a ≤ n = omega (arith, first, above) in
        let next : b + 1 ≤ n = omega (arith, above) in
        ap (λ (xs : List Command). xs ++ kept w (b + 1) top n (c ∷ cs)) (kept_above w a b n (c ∷ cs) above) ∙ kept_begun w (b + 1) a top n (c ∷ cs) next from
    by (inl low) (inr upto) more =
        let under : n < b + 1 = omega (arith, upto) in
        ap₂ (λ s t. kept_if s c (kept w a b (n + 1) cs) ++ kept_if t c (kept w (b + 1) top (n + 1) cs)) (outside w a b n c (lies_below a b n low)) (outside w (b + 1) top n c (lies_below (b + 1) top n under))
        ∙ (more ∙ sym (ap (λ s. kept_if s c (kept w a top (n + 1) cs)) (outside w a top n c (lies_below a top n low))))
    by (inr from) (inr upto) more =
        let under : n < b + 1 = omega (arith, upto) in
        let most : n ≤ top = omega (arith, upto, second) in
        let same = kept_as w a b a top n c (lies_inside a b n from upto ∙ sym (lies_inside a top n from most)) in
        ap₂ (λ s t. kept_if s c (kept w a b (n + 1) cs) ++ kept_if t c (kept w (b + 1) top (n + 1) cs)) same (outside w (b + 1) top n c (lies_below (b + 1) top n under))
        ∙ (sym (if_front (is_kept w a top n c) c (kept w a b (n + 1) cs) (kept w (b + 1) top (n + 1) cs)) ∙ ap (kept_if (is_kept w a top n c) c) more)

-- each range ends below all those after it
abbrev pub Apart : List Range → Type 0
Apart [] = Unit {0}
Apart (r ∷ rs) = AllByRecursion (λ (q : Range). r.1 < q.0) rs × Apart rs

-- the command of this number, where the first one drew that, is an INSERT of the partition
pub record IsOf (w : Partition) (first : ℕ) (cs : List Command) (n : ℕ) : Type 0 where
  pub from : first ≤ n
  pub insert : Insert
  pub there : slice_get cs (n - first) ≡ Some (command.Insert insert)
  pub own : insert.partition ≡ w

of_later : (w : Partition) (first : ℕ) (c : Command) (cs : List Command) (n : ℕ) → IsOf w (first + 1) cs n → IsOf w first (c ∷ cs) n
of_later w first c cs n is =
    let from = is.from in
    let place : n - first ≡ suc (n - (first + 1)) = omega (arith, from) in
    record { from = omega (arith, from); insert = is.insert; there = ap (slice_get (c ∷ cs)) place ∙ is.there; own = is.own }

of_first : (w : Partition) (n : ℕ) (i : Insert) (cs : List Command) → same_partition i.partition w ≡ true → IsOf w n (command.Insert i ∷ cs) n
of_first w n i cs is =
    let place : n - n ≡ 0 = omega arith in
    record { from = omega arith; insert = i; there = ap (slice_get (command.Insert i ∷ cs)) place; own = partition_is i.partition w is }

-- nothing is kept where no number is one of the partition
kept_none : (w : Partition) (a b n : ℕ) (cs : List Command) → ((m : ℕ) → a ≤ m → m ≤ b → IsOf w n cs m → ⊥) → kept w a b n cs ≡ []
kept_none w a b n [] none = refl
kept_none w a b n (c ∷ cs) none =
    ap₂ (λ s xs. kept_if s c xs) (first c none) (kept_none w a b (n + 1) cs (λ m from upto is. none m from upto (of_later w n c cs m is)))
  where
    first : (d : Command) → ((m : ℕ) → a ≤ m → m ≤ b → IsOf w n (d ∷ cs) m → ⊥) → is_kept w a b n d ≡ false
    first (command.Create d) none = refl
    first (command.Alter d) none = refl
    first (command.Insert i) none = by (same_partition i.partition w) refl (cases_lt n a) (cases_lt b n)
      where
        by : (x : Bool) → same_partition i.partition w ≡ x → (n < a) ⊎ (a ≤ n) → (b < n) ⊎ (n ≤ b) → x && lies_within a b n ≡ false
        by false is low high = refl
        by true is (inl low) high = lies_below a b n low
        by true is (inr from) (inl above) = lies_above a b n above
        by true is (inr from) (inr upto) = absurd (none n from upto (of_first w n i cs is))

-- ---- the ranges of a stretch

-- a range begins no lower than this, and ends no higher than that
abbrev pub Stays : ℕ → ℕ → Range → Type 0
Stays s top r = (s ≤ r.0) × (r.1 ≤ top)

module _ (w : Partition) (cs : List Command) where
  -- a range begins with a number of the partition, and does not end before it
  abbrev pub Begins : Range → Type 0
  Begins r = (r.0 ≤ r.1) × IsOf w 1 cs r.0

  -- where no range has a number of the partition up to this one, each begins above it
  past : (m low : ℕ) (rs : List Range) → Climbs low rs → AllByRecursion Begins rs → ((n : ℕ) → low ≤ n → n ≤ m → IsOf w 1 cs n → count_by (holds n) rs ≡ 0) → AllByRecursion (λ (r : Range). m < r.0) rs
  past m low [] climbs begin none = tt
  past m low (r ∷ rs) climbs begin none = (
    by (cases_lt m r.0),
    past m r.0 rs climbs.1 begin.1 (λ n from upto is.
        let all = none n (omega (arith, climbs.0, from)) upto is in
        let sum = count_cons n r rs in
        omega (arith, all, sum)),
  )
    where
      by : (m < r.0) ⊎ (r.0 ≤ m) → m < r.0
      by (inl lt) = lt
      by (inr le) =
          let all = none r.0 climbs.0 le begin.0.1 in
          let sum = count_yes r.0 r rs (lies_inside r.0 r.1 r.0 (omega arith) begin.0.0) in
          absurd (omega (arith, all, sum))

  -- ranges that begin in order, and of which no two have one number of the partition, lie apart
  pub ranges_apart : (rs : List Range) (low : ℕ) → Climbs low rs → AllByRecursion Begins rs → ((n : ℕ) → IsOf w 1 cs n → count_by (holds n) rs ≤ 1) → Apart rs
  ranges_apart [] low climbs begin once = tt
  ranges_apart (r ∷ rs) low climbs begin once = (
    past r.1 r.0 rs climbs.1 begin.1 (λ n from upto is.
        let most = once n is in
        let sum = count_yes n r rs (lies_inside r.0 r.1 n from upto) in
        omega (arith, most, sum)),
    ranges_apart rs r.0 climbs.1 begin.1 (λ n is.
        let most = once n is in
        let sum = count_cons n r rs in
        omega (arith, most, sum)),
  )

  stays_past : (s m top : ℕ) (rs : List Range) → AllByRecursion (Stays s top) rs → AllByRecursion (λ (r : Range). m < r.0) rs → AllByRecursion (Stays (m + 1) top) rs
  stays_past s m top [] stays above = tt
  stays_past s m top (r ∷ rs) stays above = ((omega (arith, above.0), stays.0.1), stays_past s m top rs stays.1 above.1)

  pub ranges_joined : (rs : List Range) (low s top : ℕ) → Climbs low rs → AllByRecursion Begins rs → AllByRecursion (Stays s top) rs → ((n : ℕ) → s ≤ n → n ≤ top → IsOf w 1 cs n → count_by (holds n) rs ≡ 1)
      → flat_map (λ (r : Range). kept w r.0 r.1 1 cs) rs ≡ kept w s top 1 cs
  ranges_joined [] low s top climbs begin stays once = sym (kept_none w s top 1 cs (λ m from upto is. let one = once m from upto is in omega (arith, one)))
  ranges_joined (r ∷ rs) low s top climbs begin stays once =
      ap (λ (xs : List Command). kept w r.0 r.1 1 cs ++ xs)
      (ranges_joined rs r.0 (r.1 + 1) top climbs.1 begin.1 (stays_past s r.1 top rs stays.1 (past r.1 r.0 rs climbs.1 begin.1 rest_none)) rest_once)
      ∙ (kept_joined w r.0 r.1 top 1 cs (omega (arith, begin.0.0)) stays.0.1 ∙ begun)
    where
      first_one : 1 ≤ r.0
      first_one = begin.0.1.from

      -- the numbers before the first range are of other partitions
      before : kept w s (r.0 - 1) 1 cs ≡ []
      before = kept_none w s (r.0 - 1) 1 cs (λ m from upto is.
          let lt : m < r.0 = omega (arith, upto, first_one) in
          let one = once m from (omega (arith, lt, begin.0.0, stays.0.1)) is in
          let none = count_no m r rs (lies_below r.0 r.1 m lt) ∙ none_low m r.0 rs climbs.1 lt in
          omega (arith, one, none))

      begun : kept w r.0 top 1 cs ≡ kept w s top 1 cs
      begun =
          let next : r.0 - 1 + 1 ≡ r.0 = omega (arith, first_one) in
          sym (ap (λ (xs : List Command). xs ++ kept w r.0 top 1 cs) before)
          ∙ (sym (ap (λ m. kept w s (r.0 - 1) 1 cs ++ kept w m top 1 cs) next)
          ∙ kept_joined w s (r.0 - 1) top 1 cs (omega (arith, stays.0.0, first_one)) (omega (arith, begin.0.0, stays.0.1)))

      -- the others have none of its numbers
      rest_none : (n : ℕ) → r.0 ≤ n → n ≤ r.1 → IsOf w 1 cs n → count_by (holds n) rs ≡ 0
      rest_none n from upto is =
          let one = once n (omega (arith, stays.0.0, from)) (omega (arith, upto, stays.0.1)) is in
          let sum = count_yes n r rs (lies_inside r.0 r.1 n from upto) in
          omega (arith, one, sum)

      rest_once : (n : ℕ) → r.1 + 1 ≤ n → n ≤ top → IsOf w 1 cs n → count_by (holds n) rs ≡ 1
      rest_once n from upto is =
          let above : r.1 < n = omega (arith, from) in
          sym (count_no n r rs (lies_above r.0 r.1 n above)) ∙ once n (omega (arith, from, begin.0.0, stays.0.0)) upto is
