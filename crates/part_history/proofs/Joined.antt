-- The rows of parts that stand for a table, part after part in block order.
use Rattle.std.proofs.Common.{◌≡◌, ℕ, ◌+◌, ◌-◌, ◌<◌, ◌≤◌, Bool, true, false, cond, ◌&&◌, List, [], ◌∷◌, ◌++◌, filter, length, map, nat_lt, slice_get, Some, refl, sym, ap, ap₂, ◌∙◌, subst, arith, suc, inl, inr, ◌⊎◌}
use Rattle.std.specs.List.{flat_map, count_by, AllByRecursion}
use Rattle.std.specs.List.Sorted.{IsSorted}
use Rattle.std.proofs.lemmas.Bool.{cases_lt}
use Rattle.std.proofs.lemmas.Bool.Decides.{nat_tests}
use Rattle.std.proofs.lemmas.List.Concat.{flat_map-append}
use Rattle.std.proofs.lemmas.List.Elements.{All-filter, All-weaker, filter_passes, recursion_from_All}
use Rattle.std.proofs.lemmas.List.Sums.{sum_by-cons}
use Rattle.std.proofs.lemmas.Option.{slice_get_within}
use Rattle.mt_base.specs.declared.partition.Partition.{Partition}
use Rattle.mt_values.specs.declared.command.Command.{Command}
use Rattle.mt_values.specs.declared.command.Command.TheVariants as command
use Rattle.mt_values.specs.declared.command.Alter.{Alter}
use Rattle.mt_values.specs.declared.mutation.Mutation.{Mutation}
use Rattle.mt_values.specs.declared.schema.Schema.{Schema}
use Rattle.mt_values.specs.Changes.{mutated}
use Rattle.mt_values.specs.Tables.{same_partition}
use Rattle.mt_values.specs.Values.{Row}
use Rattle.rule_law.specs.mt_model.Folding.{ComesFrom}
use Rattle.rule_law.specs.mt_model.History.{History, IsLegal, IsTableSchema, schema_of}
use Rattle.rule_law.specs.mt_model.Live.{live, of_key}
use Rattle.rule_law.specs.mt_model.Mutations.{IsChangeOf}
use Rattle.rule_law.specs.mt_model.Numbers.{IsNumberOfInsert, NoMutationBetween, Reach, lies_within, mutations_among, mutations_in, numbered, reached}
use Rattle.rule_law.specs.mt_model.Partial.{Partly, TableRun}
use Rattle.rule_law.proofs.MtModelCommands.{partition_is}
use Rattle.rule_law.proofs.MtModelMerged.{comes_append, comes_itself, comes_none, of_key_append}
use Rattle.rule_law.proofs.MtModelSorting.{sorted_tail}
use Rattle.part_name.specs.Pending.{pending_for}
use Rattle.part_name.specs.declared.part.PartName.{PartName}
use Rattle.part_name.specs.PartNames.{data_version}
use Rattle.part_history.specs.declared.part.CorePart.{CorePart}
use Rattle.part_history.specs.Parts.{AreInBlockOrder, PartStands, TableStands, block_cmp, has_block, parts_in, reach_of_part, rows_seen, rows_seen_of}
use Rattle.part_history.proofs.Numbered.{all_into, kept_all, kept_apart, legal_schema}
use Rattle.part_history.proofs.Orders.{blocks_rise, order_filtered}
use Rattle.part_history.proofs.Ranges.{Begins, Climbs, IsOf, Range, Stays, count_cons, holds, ranges_joined}
use Rattle.part_history.proofs.Schemas.{same_schema}
use Rattle.part_history.proofs.Settled.{IsInto, IsSettled, Quiet, all_settled, any, between, changes_among, kept, kept_in, kept_rows, live_numbered, live_reached, mutated_kept, rows_by, settled, settled_at, settled_from, settled_length, upto}
use Rattle.rule_law.proofs.PartlyChanged.{partly_mutated}

-- the blocks of a part
abbrev pub range_of : CorePart → Range
range_of p = (p.name.min_block, p.name.max_block)

-- the blocks of each part of a partition
abbrev pub ranges_in : Partition → List CorePart → List Range
ranges_in w ps = map range_of (parts_in w ps)

pub count_ranges : (w : Partition) (n : ℕ) (ps : List CorePart) → count_by (has_block w n) ps ≡ count_by (holds n) (ranges_in w ps)
count_ranges w n [] = refl
count_ranges w n (p ∷ ps) = sum_by-cons (λ (q : CorePart). cond (has_block w n q) 1 0) p ps ∙ by (same_partition p.name.partition w) (count_ranges w n ps)
  where
    by : (b : Bool) → count_by (has_block w n) ps ≡ count_by (holds n) (ranges_in w ps)
        → cond (b && lies_within p.name.min_block p.name.max_block n) 1 0 + count_by (has_block w n) ps ≡ count_by (holds n) (map range_of (cond b (p ∷ parts_in w ps) (parts_in w ps)))
    by true rest = ap (λ (k : ℕ). cond (holds n (range_of p)) 1 0 + k) rest ∙ sym (count_cons n (range_of p) (ranges_in w ps))
    by false rest = omega (arith, rest)

-- ---- the parts of a partition, in block order

abbrev pub OfPartition : Partition → CorePart → Type 0
OfPartition w p = p.name.partition ≡ w

pub all_of : (w : Partition) (ps : List CorePart) → AllByRecursion (OfPartition w) (parts_in w ps)
all_of w ps =
    let mine : CorePart → Bool = λ p. same_partition p.name.partition w in
    recursion_from_All (OfPartition w) (parts_in w ps)
    (All-weaker (λ (p : CorePart). mine p ≡ true) (OfPartition w) (λ p is. partition_is p.name.partition w is) (parts_in w ps) (filter_passes mine ps))

climbs_after : (w : Partition) (p : CorePart) (ps : List CorePart) → OfPartition w p → AllByRecursion (OfPartition w) ps → IsSorted block_cmp (p ∷ ps) → Climbs p.name.min_block (map range_of ps)
climbs_after w p [] one all up = tt
climbs_after w p (q ∷ ps) one all up = (blocks_rise w p q one all.0 (up 0 p (omega arith) (omega arith)), climbs_after w q ps all.0 all.1 (sorted_tail block_cmp p (q ∷ ps) up))

pub climbs_all : (w : Partition) (ps : List CorePart) → AllByRecursion (OfPartition w) ps → IsSorted block_cmp ps → Climbs 0 (map range_of ps)
climbs_all w [] all up = tt
climbs_all w (p ∷ ps) all up = (omega arith, climbs_after w p ps all.0 all.1 up)

pub flat_maps : {X Y Z : Type 0} (f : Y → List Z) (g : X → List Y) (xs : List X) → flat_map (λ x. flat_map f (g x)) xs ≡ flat_map f (flat_map g xs)
flat_maps f g [] = refl
flat_maps f g (x ∷ xs) = ap (λ zs. flat_map f (g x) ++ zs) (flat_maps f g xs) ∙ sym (flat_map-append f (g x) (flat_map g xs))

-- ---- the mutations of a table, by their numbers

-- a mutation stands at its number among commands, the first of which drew this one
pub record StandsAmong (n : ℕ) (cs : List Command) (m : Mutation) : Type 0 where
  pub from : n ≤ m.number
  pub alter : Alter
  pub there : slice_get cs (m.number - n) ≡ Some (command.Alter alter)

all_later : (n : ℕ) (c : Command) (cs : List Command) (ms : List Mutation) → AllByRecursion (StandsAmong (n + 1) cs) ms → AllByRecursion (StandsAmong n (c ∷ cs)) ms
all_later n c cs [] all = tt
all_later n c cs (m ∷ ms) all =
    let from = all.0.from in
    let place : m.number - n ≡ suc (m.number - (n + 1)) = omega (arith, from) in
    (record { from = omega (arith, from); alter = all.0.alter; there = ap (slice_get (c ∷ cs)) place ∙ all.0.there }, all_later n c cs ms all.1)

pub numbers_among : (n : ℕ) (cs : List Command) → AllByRecursion (StandsAmong n cs) (mutations_among n cs)
numbers_among n [] = tt
numbers_among n (command.Create c ∷ cs) = all_later n (command.Create c) cs (mutations_among (n + 1) cs) (numbers_among (n + 1) cs)
numbers_among n (command.Insert i ∷ cs) = all_later n (command.Insert i) cs (mutations_among (n + 1) cs) (numbers_among (n + 1) cs)
numbers_among n (command.Alter a ∷ cs) =
    let place : n - n ≡ 0 = omega arith in
    (record { from = omega arith; alter = a; there = ap (slice_get (command.Alter a ∷ cs)) place }, all_later n (command.Alter a) cs (mutations_among (n + 1) cs) (numbers_among (n + 1) cs))

-- where no mutation lies above a version and at or below a number, none of those that pass has a number up to that
pub quiet_among : (table : List ℕ) (h : History) (schema : Schema) (v b : ℕ) (q : ℕ → Bool) (low : (k : ℕ) → k ≤ v → q k ≡ true) → NoMutationBetween table v b h
    → AllByRecursion (Quiet schema v q low b) (mutations_in table h)
quiet_among table h schema v b q low whole = each (mutations_in table h) (numbers_among 1 (numbered table h))
  where
    each : (ms : List Mutation) → AllByRecursion (StandsAmong 1 (numbered table h)) ms → AllByRecursion (Quiet schema v q low b) ms
    each [] all = tt
    each (m ∷ ms) all = (λ le. by le (cases_lt v m.number), each ms all.1)
      where
        by : m.number ≤ b → (v < m.number) ⊎ (m.number ≤ v) → (nat_lt v m.number && q m.number) ≡ false
        by le (inl lt) = absurd (whole m.number (record { from_one = all.0.from; alter = all.0.alter; there = all.0.there }) lt le)
        by le (inr upto) = let not_above : nat_lt v m.number ≡ false = grind (arith, nat_tests, upto) in ap (λ x. x && q m.number) not_above

and_true : (b : Bool) → (b && true) ≡ b
and_true true = refl
and_true false = refl

pub any_low : (v k : ℕ) → k ≤ v → any k ≡ true
any_low v k le = refl

-- those between a version and the last are those that wait
pub waiting_any : (schema : Schema) (name : PartName) (ms : List Mutation) → filter (between schema (data_version name) any (any_low (data_version name))) ms ≡ pending_for ms name
waiting_any schema name ms = λ i. filter (λ (m : Mutation). and_true (nat_lt (data_version name) m.number) i) ms

module _ (h : History) (table : List ℕ) (schema : Schema) (legal : IsLegal h) (there : schema_of table h ≡ Some schema) where
  abbrev pub cs : List Command
  cs = numbered table h

  pub sound : IsTableSchema schema
  sound = legal_schema table h schema legal there

  pub into : AllByRecursion (IsInto schema) cs
  into = all_into table h schema legal there

  -- the rows of a part are what merges may have left of those of the INSERTs in its blocks, after the mutations up to its version
  pub own_partly : (p : CorePart) → p.table ≡ table → PartStands h p → Partly schema (flat_map rows_by (kept_in (reach_of_part p) 1 (settled schema (upto (data_version p.name)) 1 cs))) p.rows
  own_partly p own s =
      let r : Reach = reach_of_part p in
      let same : s.schema ≡ schema = same_schema s.schema schema (sym s.there ∙ (ap (λ t. schema_of t h) own ∙ there)) in
      let rows : live p.table s.schema (reached r h) ≡ flat_map rows_by (kept_in r 1 (settled schema (upto (data_version p.name)) 1 (numbered table h))) =
      live_reached s.schema r h ∙ ap₂ (λ (x : Schema) (t : List ℕ). flat_map rows_by (kept_in r 1 (settled x (upto (data_version p.name)) 1 (numbered t h)))) same own in
      subst (λ (x : Schema). Partly x (flat_map rows_by (kept_in r 1 (settled schema (upto (data_version p.name)) 1 (numbered table h)))) p.rows) same
      (subst (λ (rs : List Row). Partly s.schema rs p.rows) rows s.stands.partly)

  whole_of : (p : CorePart) → p.table ≡ table → PartStands h p → NoMutationBetween table (data_version p.name) p.name.max_block h
  whole_of p own s = subst (λ (t : List ℕ). NoMutationBetween t (data_version p.name) p.name.max_block h) own s.stands.whole

  -- the same of those that pass a test too, of which none is in its blocks, made of both
  pub made_partly : (p : CorePart) → p.table ≡ table → PartStands h p → (q : ℕ → Bool) (low : (k : ℕ) → k ≤ data_version p.name → q k ≡ true)
      → Partly schema (flat_map rows_by (kept_in (reach_of_part p) 1 (settled schema q 1 cs))) (mutated (filter (between schema (data_version p.name) q low) (mutations_in table h)) p.rows)
  made_partly p own s q low =
      let v = data_version p.name in
      let r : Reach = reach_of_part p in
      let ms : List Mutation = filter (between schema v q low) (mutations_in table h) in
      let may = All-filter (between schema v q low) (λ (m : Mutation). IsChangeOf schema m.change) (mutations_in table h) (changes_among schema sound 1 cs into) in
      let rows = flat_map rows_by (kept_in r 1 (settled schema (upto v) 1 cs)) in
      let tables = kept_rows schema r.partition r.least r.greatest 1 (settled schema (upto v) 1 cs) (all_settled schema sound (upto v) 1 cs into) in
      subst (λ (rs : List Row). Partly schema rs (mutated ms p.rows)) (mutated_kept schema v q low r.partition r.least r.greatest 1 cs ms (quiet_among table h schema v p.name.max_block q low (whole_of p own s)) (λ le. refl))
      (partly_mutated schema sound ms may rows p.rows tables (own_partly p own s))

  -- what is seen of it, of those after all mutations
  pub seen_partly : (p : CorePart) → p.table ≡ table → PartStands h p → Partly schema (flat_map rows_by (kept_in (reach_of_part p) 1 (settled schema any 1 cs))) (rows_seen (mutations_in table h) p)
  seen_partly p own s =
      subst (λ (ms : List Mutation). Partly schema (flat_map rows_by (kept_in (reach_of_part p) 1 (settled schema any 1 cs))) (mutated ms p.rows)) (waiting_any schema p.name (mutations_in table h))
      (made_partly p own s any (any_low (data_version p.name)))

  module _ (q : ℕ → Bool) where
    abbrev pub full : List Command
    full = settled schema q 1 cs

    pub full_settled : AllByRecursion (IsSettled schema) full
    full_settled = all_settled schema sound q 1 cs into

    pub of_full : (w : Partition) (n : ℕ) → IsNumberOfInsert table w n h → IsOf w 1 full n
    of_full w n is =
        let found = settled_at schema q 1 cs (n - 1) is.insert is.there in
        record { from = is.from_one; insert = found.0; there = found.1; own = found.2 ∙ is.partition_is }

    pub from_full : (w : Partition) (n : ℕ) → IsOf w 1 full n → IsNumberOfInsert table w n h
    from_full w n one =
        let found = settled_from schema q 1 cs (n - 1) one.insert one.there in
        record { from_one = one.from; insert = found.0; there = found.1; partition_is = found.2 ∙ one.own }

    -- what is needed of the blocks of a part
    pub record Fits (p : CorePart) : Type 0 where
      pub order : p.name.min_block ≤ p.name.max_block
      pub least : IsOf p.name.partition 1 full p.name.min_block
      pub most : p.name.max_block ≤ length full

    pub fits_here : (p : CorePart) → p.table ≡ table → PartStands h p → Fits p
    fits_here p own s =
        let first = s.stands.least in
        let last = s.stands.greatest in
        let below : p.name.max_block - 1 < length (numbered p.table h) = slice_get_within (numbered p.table h) (p.name.max_block - 1) (command.Insert last.insert) last.there in
        let most : p.name.max_block ≤ length (numbered p.table h) = omega (arith, below, last.from_one) in
        let here : p.name.max_block ≤ length cs = subst (λ t. p.name.max_block ≤ length (numbered t h)) own most in
        record {
          order = s.stands.order;
          least = of_full p.name.partition p.name.min_block (subst (λ (t : List ℕ). IsNumberOfInsert t p.name.partition p.name.min_block h) own first);
          most = omega (arith, here, settled_length schema q 1 cs);
        }

    pub fits_all : (ps : List CorePart) → AllByRecursion (λ (p : CorePart). p.table ≡ table) ps → AllByRecursion (PartStands h) ps → AllByRecursion Fits ps
    fits_all [] own each = tt
    fits_all (p ∷ ps) own each = (fits_here p own.0 each.0, fits_all ps own.1 each.1)

    module _ (w : Partition) where
      pub begin_all : (ps : List CorePart) → AllByRecursion Fits ps → AllByRecursion (Begins w full) (ranges_in w ps)
      begin_all [] fits = tt
      begin_all (p ∷ ps) fits = by (same_partition p.name.partition w) refl (begin_all ps fits.1)
        where
          by : (b : Bool) → same_partition p.name.partition w ≡ b → AllByRecursion (Begins w full) (ranges_in w ps) → AllByRecursion (Begins w full) (map range_of (cond b (p ∷ parts_in w ps) (parts_in w ps)))
          by true is rest = ((fits.0.order, subst (λ v. IsOf v 1 full p.name.min_block) (partition_is p.name.partition w is) fits.0.least), rest)
          by false is rest = rest

      pub stays_all : (ps : List CorePart) → AllByRecursion Fits ps → AllByRecursion (Stays 1 (length full)) (ranges_in w ps)
      stays_all [] fits = tt
      stays_all (p ∷ ps) fits = by (same_partition p.name.partition w) (stays_all ps fits.1)
        where
          by : (b : Bool) → AllByRecursion (Stays 1 (length full)) (ranges_in w ps) → AllByRecursion (Stays 1 (length full)) (map range_of (cond b (p ∷ parts_in w ps) (parts_in w ps)))
          by true rest = ((fits.0.least.from, fits.0.most), rest)
          by false rest = rest

  abbrev after : List Command
  after = full any

  abbrev ms_all : List Mutation
  ms_all = mutations_in table h

  -- what is seen of a part
  abbrev Seen : CorePart → Type 0
  Seen p = Partly schema (flat_map rows_by (kept_in (reach_of_part p) 1 after)) (rows_seen ms_all p)

  seen_all : (ps : List CorePart) → AllByRecursion (λ (p : CorePart). p.table ≡ table) ps → AllByRecursion (PartStands h) ps → AllByRecursion Seen ps
  seen_all [] own each = tt
  seen_all (p ∷ ps) own each = (seen_partly p own.0 each.0, seen_all ps own.1 each.1)

  -- the rows of each key, part after part of the partition: the others have none
  keys_joined : (w : Partition) (row : Row) (ps : List CorePart) → AllByRecursion Seen ps
      → ComesFrom (TableRun schema) (of_key schema w row (flat_map (λ (r : Range). flat_map rows_by (kept w r.0 r.1 1 after)) (ranges_in w ps))) (of_key schema w row (rows_seen_of ms_all ps))
  keys_joined w row [] seen = comes_itself (TableRun schema) []
  keys_joined w row (p ∷ ps) seen =
      subst (λ (zs : List Row). ComesFrom (TableRun schema) (own (flat_map added (ranges_in w (p ∷ ps)))) zs) (sym (of_key_append schema w row (rows_seen ms_all p) (rows_seen_of ms_all ps)))
      (by (same_partition p.name.partition w) refl (keys_joined w row ps seen.1))
    where
      own : List Row → List Row
      own = of_key schema w row

      added : Range → List Row
      added r = flat_map rows_by (kept w r.0 r.1 1 after)

      here : List Row
      here = rows_seen ms_all p

      by : (b : Bool) → same_partition p.name.partition w ≡ b → ComesFrom (TableRun schema) (own (flat_map added (ranges_in w ps))) (own (rows_seen_of ms_all ps))
          → ComesFrom (TableRun schema) (own (flat_map added (map range_of (cond b (p ∷ parts_in w ps) (parts_in w ps))))) (own here ++ own (rows_seen_of ms_all ps))
      by true is rest =
          let mine : ComesFrom (TableRun schema) (own (added (range_of p))) (own here) =
          subst (λ (v : Partition). ComesFrom (TableRun schema) (own (flat_map rows_by (kept v p.name.min_block p.name.max_block 1 after))) (own here)) (partition_is p.name.partition w is) (seen.0 w row) in
          subst (λ (zs : List Row). ComesFrom (TableRun schema) zs (own here ++ own (rows_seen_of ms_all ps))) (sym (of_key_append schema w row (added (range_of p)) (flat_map added (ranges_in w ps))))
          (comes_append (TableRun schema) (own (added (range_of p))) (own (flat_map added (ranges_in w ps))) (own here) (own (rows_seen_of ms_all ps)) mine rest)
      by false is rest =
          let none : own here ≡ [] =
          comes_none (TableRun schema) (own here)
          (subst (λ (zs : List Row). ComesFrom (TableRun schema) zs (own here)) (kept_apart schema w row p.name.partition p.name.min_block p.name.max_block 1 after (full_settled any) is) (seen.0 w row)) in
          subst (λ (zs : List Row). ComesFrom (TableRun schema) (own (flat_map added (ranges_in w ps))) (zs ++ own (rows_seen_of ms_all ps))) (sym none) rest

  pub parts_joined : (ps : List CorePart) → TableStands table ps h → AreInBlockOrder ps → Partly schema (live table schema h) (rows_seen_of (mutations_in table h) ps)
  parts_joined ps stands order w row =
      let own = recursion_from_All (λ (p : CorePart). p.table ≡ table) ps stands.own in
      let each = recursion_from_All (PartStands h) ps stands.each in
      let fits = fits_all any ps own each in
      let rs = ranges_in w ps in
      let climbs = climbs_all w (parts_in w ps) (all_of w ps) (order_filtered (λ (p : CorePart). same_partition p.name.partition w) ps order) in
      let once : (n : ℕ) → 1 ≤ n → n ≤ length after → IsOf w 1 after n → count_by (holds n) rs ≡ 1 =
      λ n from upto one. sym (count_ranges w n ps) ∙ stands.once w n (from_full any w n one) in
      let joined : flat_map (λ (r : Range). kept w r.0 r.1 1 after) rs ≡ kept w 1 (length after) 1 after = ranges_joined w after rs 0 1 (length after) climbs (begin_all any w ps fits) (stays_all any w ps fits) once in
      let all : of_key schema w row (flat_map (λ (r : Range). flat_map rows_by (kept w r.0 r.1 1 after)) rs) ≡ of_key schema w row (live table schema h) =
      ap (of_key schema w row) (flat_maps rows_by (λ (r : Range). kept w r.0 r.1 1 after) rs ∙ ap (flat_map rows_by) joined)
      ∙ (kept_all schema w row 1 (length after) 1 after (full_settled any) (omega arith) (omega arith) ∙ ap (of_key schema w row) (sym (live_numbered table schema h))) in
      subst (λ (zs : List Row). ComesFrom (TableRun schema) zs (of_key schema w row (rows_seen_of ms_all ps))) all (keys_joined w row ps (seen_all ps own each))
