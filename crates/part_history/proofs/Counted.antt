-- Parts of a partition that stand for a table are at most as many as the INSERTs that were accepted into it.
use Rattle.std.proofs.Common.{◌≡◌, ℕ, ◌+◌, ◌-◌, ◌<◌, ◌≤◌, Bool, true, false, cond, ◌&&◌, List, [], ◌∷◌, Some, filter, length, nat_le, slice_get, take, refl, sym, ap, ap₂, ◌∙◌, subst, arith, zero, suc, inl, inr, ◌⊎◌}
use Rattle.std.specs.List.{AllByRecursion, count_by}
use Rattle.std.proofs.lemmas.Bool.{cases_lt}
use Rattle.std.proofs.lemmas.Bool.Decides.{nat_tests}
use Rattle.std.proofs.lemmas.List.{take_all}
use Rattle.std.proofs.lemmas.List.Elements.{recursion_from_All}
use Rattle.std.proofs.lemmas.List.Sums.{length-filter, sum_by-cons, sum_by_push}
use Rattle.mt_base.specs.declared.partition.Partition.{Partition}
use Rattle.mt_values.specs.declared.command.Command.{Command}
use Rattle.mt_values.specs.declared.command.Command.TheVariants as command
use Rattle.mt_values.specs.declared.command.Entry.{Entry}
use Rattle.mt_values.specs.Grammar.{same_bytes}
use Rattle.mt_values.specs.Tables.{same_partition}
use Rattle.rule_law.specs.mt_model.History.{History, inserts, inserts_into}
use Rattle.rule_law.specs.mt_model.Numbers.{IsNumberOfInsert, draws, lies_within, numbered}
use Rattle.rule_law.proofs.MtModelCommands.{partition_is, same_itself}
use Rattle.rule_law.proofs.MtModelLists.{take_got}
use Rattle.part_history.specs.declared.part.CorePart.{CorePart}
use Rattle.part_history.specs.Parts.{PartStands, TableStands, has_block, parts_in}
use Rattle.part_history.proofs.Growing.{number_drawn}
use Rattle.part_history.proofs.Ranges.{lies_inside}

abbrev one_if : Bool → ℕ
one_if b = cond b 1 0

-- whether a command is an INSERT of the partition
abbrev is_of : Partition → Command → Bool
is_of w (command.Create c) = false
is_of w (command.Insert i) = same_partition i.partition w
is_of w (command.Alter a) = false

-- one command more
count_of : (w : Partition) (c : Command) (cs : List Command) → count_by (is_of w) (c ∷ cs) ≡ one_if (is_of w c) + count_by (is_of w) cs
count_of w c cs = sum_by-cons (λ (d : Command). one_if (is_of w d)) c cs

inserts_step : (table : List ℕ) (w : Partition) (c : Command) (e : Entry) (es : List Entry) (cs : List Command) → length es ≡ count_by (is_of w) cs
    → length (cond (inserts_into table w c) (e ∷ es) es) ≡ count_by (is_of w) (cond (draws table c) (c ∷ cs) cs)
inserts_step table w (command.Create c) e es cs same = same
inserts_step table w (command.Insert i) e es cs same = by (same_bytes i.table table) (same_partition i.partition w) refl
  where
    by : (a b : Bool) → same_partition i.partition w ≡ b → length (cond (a && b) (e ∷ es) es) ≡ count_by (is_of w) (cond a (command.Insert i ∷ cs) cs)
    by true true is = let one = count_of w (command.Insert i) cs ∙ ap (λ (x : Bool). one_if x + count_by (is_of w) cs) is in omega (arith, one, same)
    by true false is = let one = count_of w (command.Insert i) cs ∙ ap (λ (x : Bool). one_if x + count_by (is_of w) cs) is in omega (arith, one, same)
    by false b is = same
inserts_step table w (command.Alter a) e es cs same = by (same_bytes a.table table)
  where
    by : (b : Bool) → length es ≡ count_by (is_of w) (cond b (command.Alter a ∷ cs) cs)
    by true = let one = count_of w (command.Alter a) cs in omega (arith, one, same)
    by false = same

-- the INSERTs into a partition of a table are those of its commands that are of it
inserts_numbered : (table : List ℕ) (w : Partition) (h : History) → inserts table w h ≡ count_by (is_of w) (numbered table h)
inserts_numbered table w [] = refl
inserts_numbered table w (e ∷ h) = inserts_step table w e.command e (filter (λ (x : Entry). inserts_into table w x.command) h) (numbered table h) (inserts_numbered table w h)

got : (cs : List Command) (n : ℕ) → n < length cs → (c : Command) × (slice_get cs n ≡ Some c)
got [] n below = absurd (omega arith)
got (c ∷ cs) zero below = (c, refl)
got (c ∷ cs) (suc n) below = got cs n (omega arith)

-- whether a part is of the partition and its least block is at most this
abbrev upto : Partition → ℕ → CorePart → Bool
upto w n p = same_partition p.name.partition w && nat_le p.name.min_block n

-- a part begins with a number of an INSERT of its partition
record Begins (table : List ℕ) (h : History) (w : Partition) (p : CorePart) : Type 0 where
  low : 1 ≤ p.name.min_block
  order : p.name.min_block ≤ p.name.max_block
  drawn : same_partition p.name.partition w ≡ true → IsNumberOfInsert table w p.name.min_block h

begins : (table : List ℕ) (h : History) (w : Partition) (p : CorePart) → p.table ≡ table → PartStands h p → Begins table h w p
begins table h w p own s = record {
  low = s.stands.least.from_one;
  order = s.stands.order;
  drawn = λ is. subst (λ (t : List ℕ). IsNumberOfInsert t w p.name.min_block h) own
      (subst (λ (v : Partition). IsNumberOfInsert p.table v p.name.min_block h) (partition_is p.name.partition w is) s.stands.least);
}

begin_all : (table : List ℕ) (h : History) (w : Partition) (ps : List CorePart) → AllByRecursion (λ (p : CorePart). p.table ≡ table) ps → AllByRecursion (PartStands h) ps → AllByRecursion (Begins table h w) ps
begin_all table h w [] own each = tt
begin_all table h w (p ∷ ps) own each = (begins table h w p own.0 each.0, begin_all table h w ps own.1 each.1)

module _ (table : List ℕ) (h : History) (w : Partition) where
  count_parts : (f : CorePart → Bool) (p : CorePart) (ps : List CorePart) → count_by f (p ∷ ps) ≡ one_if (f p) + count_by f ps
  count_parts f p ps = sum_by-cons (λ (q : CorePart). one_if (f q)) p ps

  none_part : (p : CorePart) → Begins table h w p → upto w 0 p ≡ false
  none_part p begin = by (same_partition p.name.partition w)
    where
      by : (b : Bool) → b && nat_le p.name.min_block 0 ≡ false
      by true = let low = begin.low in grind (arith, nat_tests)
      by false = refl

  upto_none : (ps : List CorePart) → AllByRecursion (Begins table h w) ps → count_by (upto w 0) ps ≡ 0
  upto_none [] begin = refl
  upto_none (p ∷ ps) begin = count_parts (upto w 0) p ps ∙ ap₂ (λ (b : Bool) (k : ℕ). one_if b + k) (none_part p begin.0) (upto_none ps begin.1)

  -- every part of the partition begins at most at the last number
  all_part : (p : CorePart) → Begins table h w p → upto w (length (numbered table h)) p ≡ same_partition p.name.partition w
  all_part p begin = by (same_partition p.name.partition w) refl
    where
      by : (b : Bool) → same_partition p.name.partition w ≡ b → b && nat_le p.name.min_block (length (numbered table h)) ≡ b
      by true is = let high = number_drawn table w p.name.min_block h (begin.drawn is) in grind (arith, nat_tests, high)
      by false is = refl

  upto_all : (ps : List CorePart) → AllByRecursion (Begins table h w) ps → count_by (upto w (length (numbered table h))) ps ≡ count_by (λ (p : CorePart). same_partition p.name.partition w) ps
  upto_all [] begin = refl
  upto_all (p ∷ ps) begin =
      count_parts (upto w (length (numbered table h))) p ps
      ∙ (ap₂ (λ (b : Bool) (k : ℕ). one_if b + k) (all_part p begin.0) (upto_all ps begin.1)
      ∙ sym (count_parts (λ (q : CorePart). same_partition q.name.partition w) p ps))

  -- a number that is of no INSERT of the partition begins no part of it
  part_skips : (n : ℕ) (c : Command) (p : CorePart) → Begins table h w p → slice_get (numbered table h) n ≡ Some c → is_of w c ≡ false → one_if (upto w (n + 1) p) ≤ one_if (upto w n p)
  part_skips n c p begin there other = by (same_partition p.name.partition w) refl (cases_lt n p.name.min_block) (cases_lt (n + 1) p.name.min_block)
    where
      apart : p.name.min_block ≡ n + 1 → same_partition p.name.partition w ≡ true → ⊥
      apart at is =
          let drawn = begin.drawn is in
          let place : p.name.min_block - 1 ≡ n = omega (arith, at) in
          let same : Some (command.Insert drawn.insert) ≡ Some c = sym drawn.there ∙ (ap (slice_get (numbered table h)) place ∙ there) in
          let one : command.Insert drawn.insert ≡ c = cc in
          let own : same_partition drawn.insert.partition w ≡ true = ap (λ v. same_partition v w) drawn.partition_is ∙ same_itself w in
          let clash : true ≡ false = sym own ∙ (ap (is_of w) one ∙ other) in
          cc

      by : (b : Bool) → same_partition p.name.partition w ≡ b → (n < p.name.min_block) ⊎ (p.name.min_block ≤ n) → (n + 1 < p.name.min_block) ⊎ (p.name.min_block ≤ n + 1)
          → one_if (b && nat_le p.name.min_block (n + 1)) ≤ one_if (b && nat_le p.name.min_block n)
      by false is low high = omega arith
      by true is (inr le) high =
          let one : nat_le p.name.min_block (n + 1) ≡ true = grind (arith, nat_tests) in
          let two : nat_le p.name.min_block n ≡ true = grind (arith, nat_tests) in
          let more = ap one_if one in
          let less = ap one_if two in
          omega (arith, more, less)
      by true is (inl lt) (inl far) =
          let none : nat_le p.name.min_block (n + 1) ≡ false = grind (arith, nat_tests) in
          let no = ap one_if none in
          omega (arith, no)
      by true is (inl lt) (inr le) = absurd (apart (omega (arith, lt, le)) is)

  all_skip : (n : ℕ) (c : Command) (ps : List CorePart) → AllByRecursion (Begins table h w) ps → slice_get (numbered table h) n ≡ Some c → is_of w c ≡ false → count_by (upto w (n + 1)) ps ≤ count_by (upto w n) ps
  all_skip n c [] begin there other = omega arith
  all_skip n c (p ∷ ps) begin there other =
      let here = part_skips n c p begin.0 there other in
      let rest = all_skip n c ps begin.1 there other in
      omega (arith, here, rest, count_parts (upto w (n + 1)) p ps, count_parts (upto w n) p ps)

  -- one number more has the parts that begin there
  part_more : (n : ℕ) (p : CorePart) → Begins table h w p → one_if (upto w (n + 1) p) ≤ one_if (upto w n p) + one_if (has_block w (n + 1) p)
  part_more n p begin = by (same_partition p.name.partition w) (cases_lt n p.name.min_block) (cases_lt (n + 1) p.name.min_block)
    where
      by : (b : Bool) → (n < p.name.min_block) ⊎ (p.name.min_block ≤ n) → (n + 1 < p.name.min_block) ⊎ (p.name.min_block ≤ n + 1)
          → one_if (b && nat_le p.name.min_block (n + 1)) ≤ one_if (b && nat_le p.name.min_block n) + one_if (b && lies_within p.name.min_block p.name.max_block (n + 1))
      by false low high = omega arith
      by true (inr le) high =
          let one : nat_le p.name.min_block (n + 1) ≡ true = grind (arith, nat_tests) in
          let two : nat_le p.name.min_block n ≡ true = grind (arith, nat_tests) in
          let more = ap one_if one in
          let less = ap one_if two in
          omega (arith, more, less)
      by true (inl lt) (inl far) =
          let none : nat_le p.name.min_block (n + 1) ≡ false = grind (arith, nat_tests) in
          let no = ap one_if none in
          omega (arith, no)
      by true (inl lt) (inr le) =
          let one : nat_le p.name.min_block (n + 1) ≡ true = grind (arith, nat_tests) in
          let inside : lies_within p.name.min_block p.name.max_block (n + 1) ≡ true = lies_inside p.name.min_block p.name.max_block (n + 1) le (omega (arith, begin.order, lt)) in
          let more = ap one_if one in
          let less = ap one_if inside in
          omega (arith, more, less)

  all_more : (n : ℕ) (ps : List CorePart) → AllByRecursion (Begins table h w) ps → count_by (upto w (n + 1)) ps ≤ count_by (upto w n) ps + count_by (has_block w (n + 1)) ps
  all_more n [] begin = omega arith
  all_more n (p ∷ ps) begin =
      let here = part_more n p begin.0 in
      let rest = all_more n ps begin.1 in
      omega (arith, here, rest, count_parts (upto w (n + 1)) p ps, count_parts (upto w n) p ps, count_parts (has_block w (n + 1)) p ps)

  number_of : (n : ℕ) (c : Command) → slice_get (numbered table h) n ≡ Some c → is_of w c ≡ true → IsNumberOfInsert table w (n + 1) h
  number_of n (command.Create c) there is = cc
  number_of n (command.Alter a) there is = cc
  number_of n (command.Insert i) there is =
      let place : n + 1 - 1 ≡ n = omega arith in
      record { from_one = omega arith; insert = i; there = ap (slice_get (numbered table h)) place ∙ there; partition_is = partition_is i.partition w is }

  -- the parts that begin up to a number are at most as many as the INSERTs up to it
  upto_few : (n : ℕ) (ps : List CorePart) → AllByRecursion (Begins table h w) ps → ((k : ℕ) → IsNumberOfInsert table w k h → count_by (has_block w k) ps ≡ 1) → n ≤ length (numbered table h)
      → count_by (upto w n) ps ≤ count_by (is_of w) (take n (numbered table h))
  upto_few zero ps begin once le = let none = upto_none ps begin in omega (arith, none)
  upto_few (suc n) ps begin once le =
      let cs = numbered table h in
      let found = got cs n (omega (arith, le)) in
      let rest = upto_few n ps begin once (omega (arith, le)) in
      let grown : count_by (is_of w) (take (n + 1) cs) ≡ count_by (is_of w) (take n cs) + one_if (is_of w found.0) =
      ap (count_by (is_of w)) (take_got cs n found.0 found.1) ∙ sum_by_push (λ (d : Command). one_if (is_of w d)) (take n cs) found.0 in
      let next : n + 1 ≡ suc n = omega arith in
      subst (λ (k : ℕ). count_by (upto w k) ps ≤ count_by (is_of w) (take k cs)) next (by (is_of w found.0) refl found.1 rest grown)
    where
      by : {c : Command} (b : Bool) → is_of w c ≡ b → slice_get (numbered table h) n ≡ Some c → count_by (upto w n) ps ≤ count_by (is_of w) (take n (numbered table h))
          → count_by (is_of w) (take (n + 1) (numbered table h)) ≡ count_by (is_of w) (take n (numbered table h)) + one_if (is_of w c) → count_by (upto w (n + 1)) ps ≤ count_by (is_of w) (take (n + 1) (numbered table h))
      by {c} true is there rest grown =
          let one = once (n + 1) (number_of n c there is) in
          let step = all_more n ps begin in
          let more = ap one_if is in
          omega (arith, rest, one, step, grown, more)
      by {c} false is there rest grown =
          let step = all_skip n c ps begin there is in
          omega (arith, rest, step, grown)

-- parts of a partition that stand for a table are at most as many as the INSERTs into it
pub parts_at_most : (h : History) (table : List ℕ) (parts : List CorePart) (partition : Partition) → TableStands table parts h → length (parts_in partition parts) ≤ inserts table partition h
parts_at_most h table parts partition s =
    let cs = numbered table h in
    let begin = begin_all table h partition parts (recursion_from_All (λ (p : CorePart). p.table ≡ table) parts s.own) (recursion_from_All (PartStands h) parts s.each) in
    let few = upto_few table h partition (length cs) parts begin (λ k is. s.once partition k is) (omega arith) in
    let all = upto_all table h partition parts begin in
    let size : length (parts_in partition parts) ≡ count_by (λ (p : CorePart). same_partition p.name.partition partition) parts = length-filter (λ (p : CorePart). same_partition p.name.partition partition) parts in
    let whole = ap (count_by (is_of partition)) (take_all (length cs) cs (omega arith)) in
    let drawn = inserts_numbered table partition h in
    omega (arith, few, all, size, whole, drawn)
