-- Parts that stand for a history, as it grows.
use Rattle.std.proofs.Common.{◌≡◌, ℕ, ◌+◌, ◌-◌, ◌<◌, ◌≤◌, Bool, true, false, cond, ◌&&◌, List, [], ◌∷◌, ◌++◌, Option, Some, None, length, slice_get, All, refl, sym, ap, ap₂, ◌∙◌, subst, append-nil, length-append, arith, zero, suc, inl, inr, ◌⊎◌}
use Rattle.std.specs.List.{flat_map, count_by, AllByRecursion}
use Rattle.std.proofs.lemmas.Bool.{cases_lt}
use Rattle.std.proofs.lemmas.List.Elements.{All-from_recursion, All-push, All-weaker, recursion_from_All}
use Rattle.std.proofs.lemmas.List.Sums.{sum_by-cons, sum_by_push}
use Rattle.std.proofs.lemmas.Option.{slice_get_within}
use Rattle.mt_base.specs.declared.partition.Partition.{Partition}
use Rattle.mt_values.specs.declared.command.Command.{Command}
use Rattle.mt_values.specs.declared.command.Command.TheVariants as command
use Rattle.mt_values.specs.declared.command.Entry.{Entry}
use Rattle.mt_values.specs.declared.command.Alter.{Alter}
use Rattle.mt_values.specs.declared.command.Insert.{Insert}
use Rattle.mt_values.specs.declared.schema.Schema.{Schema}
use Rattle.mt_values.specs.Grammar.{same_bytes}
use Rattle.mt_values.specs.Tables.{same_partition, sorting_cmp}
use Rattle.mt_values.specs.Values.{Row}
use Rattle.rule_law.specs.mt_model.History.{History, schema_of}
use Rattle.rule_law.specs.mt_model.Live.{live, sorted}
use Rattle.rule_law.specs.mt_model.Numbers.{IsNumberOfInsert, IsNumberOfMutation, NoMutationBetween, Reach, draws, lies_within, mutations_among, mutations_in, numbered, reached}
use Rattle.rule_law.specs.mt_model.Partial.{Partly}
use Rattle.rule_law.specs.mt_model.Reaches.{ReachStands}
use Rattle.rule_law.proofs.MtModelCommands.{same_itself}
use Rattle.rule_law.proofs.MtModelDetermined.{sorting_total}
use Rattle.rule_law.proofs.MtModelHistories.{last_more, numbered_more, schema_kept}
use Rattle.rule_law.proofs.MtModelMerged.{partly_itself}
use Rattle.rule_law.proofs.MtModelSorting.{sorted_rises}
use Rattle.rule_law.proofs.MtModelTables.{itself_same}
use Rattle.part_history.specs.declared.part.CorePart.{CorePart}
use Rattle.part_history.specs.Parts.{PartStands, TableStands, WasMutated, has_block, reach_of_part}
use Rattle.part_history.specs.Entered.{part_of_insert}
use Rattle.part_history.proofs.Settled.{among_more, is_kept, kept, kept_if, kept_in, live_reached, rows_by, settled, settled_by, settled_length, settled_more, settled_push, upto}
use Rattle.part_history.proofs.Ranges.{and_false, if_front, kept_above, lies_above, lies_below, lies_inside, outside}

-- ---- lists

pub slice_left : {X : Type 0} (xs ys : List X) (k : ℕ) → k < length xs → slice_get (xs ++ ys) k ≡ slice_get xs k
slice_left [] ys k lt = absurd (omega arith)
slice_left (x ∷ xs) ys zero lt = refl
slice_left (x ∷ xs) ys (suc k) lt = slice_left xs ys k (omega arith)

pub slice_last : {X : Type 0} (xs : List X) (y : X) → slice_get (xs ++ y ∷ []) (length xs) ≡ Some y
slice_last [] y = refl
slice_last (x ∷ xs) y = slice_last xs y

-- ---- numbers

-- a number that was drawn is no greater than they are many
pub number_drawn : (t : List ℕ) (p : Partition) (n : ℕ) (h : History) → IsNumberOfInsert t p n h → n ≤ length (numbered t h)
number_drawn t p n h is = let below = slice_get_within (numbered t h) (n - 1) (command.Insert is.insert) is.there in omega (arith, below, is.from_one)

pub insert_kept : (t : List ℕ) (p : Partition) (n : ℕ) (h more : History) → IsNumberOfInsert t p n h → IsNumberOfInsert t p n (h ++ more)
insert_kept t p n h more is =
    let below = slice_get_within (numbered t h) (n - 1) (command.Insert is.insert) is.there in
    record {
      from_one = is.from_one;
      insert = is.insert;
      there = ap (λ cs. slice_get cs (n - 1)) (numbered_more t h more) ∙ (slice_left (numbered t h) (numbered t more) (n - 1) below ∙ is.there);
      partition_is = is.partition_is;
    }

pub insert_was : (t : List ℕ) (p : Partition) (n : ℕ) (h more : History) → IsNumberOfInsert t p n (h ++ more) → n ≤ length (numbered t h) → IsNumberOfInsert t p n h
insert_was t p n h more is upto =
    let below : n - 1 < length (numbered t h) = omega (arith, is.from_one, upto) in
    record {
      from_one = is.from_one;
      insert = is.insert;
      there = sym (slice_left (numbered t h) (numbered t more) (n - 1) below) ∙ (sym (ap (λ cs. slice_get cs (n - 1)) (numbered_more t h more)) ∙ is.there);
      partition_is = is.partition_is;
    }

-- the same of mutations
pub mutation_drawn : (t : List ℕ) (n : ℕ) (h : History) → IsNumberOfMutation t n h → n ≤ length (numbered t h)
mutation_drawn t n h is = let below = slice_get_within (numbered t h) (n - 1) (command.Alter is.alter) is.there in omega (arith, below, is.from_one)

pub mutation_kept : (t : List ℕ) (n : ℕ) (h more : History) → IsNumberOfMutation t n h → IsNumberOfMutation t n (h ++ more)
mutation_kept t n h more is =
    let below = slice_get_within (numbered t h) (n - 1) (command.Alter is.alter) is.there in
    record {
      from_one = is.from_one;
      alter = is.alter;
      there = ap (λ cs. slice_get cs (n - 1)) (numbered_more t h more) ∙ (slice_left (numbered t h) (numbered t more) (n - 1) below ∙ is.there);
    }

pub mutation_was : (t : List ℕ) (n : ℕ) (h more : History) → IsNumberOfMutation t n (h ++ more) → n ≤ length (numbered t h) → IsNumberOfMutation t n h
mutation_was t n h more is upto =
    let below : n - 1 < length (numbered t h) = omega (arith, is.from_one, upto) in
    record {
      from_one = is.from_one;
      alter = is.alter;
      there = sym (slice_left (numbered t h) (numbered t more) (n - 1) below) ∙ (sym (ap (λ cs. slice_get cs (n - 1)) (numbered_more t h more)) ∙ is.there);
    }

-- no mutation comes between numbers that were drawn
between_kept : (t : List ℕ) (low high : ℕ) (h more : History) → high ≤ length (numbered t h) → NoMutationBetween t low high h → NoMutationBetween t low high (h ++ more)
between_kept t low high h more drawn none n is lt le = none n (mutation_was t n h more is (omega (arith, drawn, le))) lt le

was_mutated : (t : List ℕ) (o : Option ℕ) (h more : History) → WasMutated t o h → WasMutated t o (h ++ more)
was_mutated t None h more was = tt
was_mutated t (Some n) h more was = mutation_kept t n h more was

-- ---- commands within some numbers

kept_below : (p : Partition) (a b n : ℕ) (cs : List Command) → n + length cs ≤ a → kept p a b n cs ≡ []
kept_below p a b n [] le = refl
kept_below p a b n (c ∷ cs) le = ap (λ s. kept_if s c (kept p a b (n + 1) cs)) (outside p a b n c (lies_below a b n (omega (arith, le)))) ∙ kept_below p a b (n + 1) cs (omega (arith, le))

pub kept_more : (p : Partition) (a b n m : ℕ) (cs more : List Command) → m ≡ n + length cs → kept p a b n (cs ++ more) ≡ kept p a b n cs ++ kept p a b m more
kept_more p a b n m [] more is = let same : n ≡ m = omega (arith, is) in ap (λ k. kept p a b k more) same
kept_more p a b n m (c ∷ cs) more is =
    ap (kept_if (is_kept p a b n c) c) (kept_more p a b (n + 1) m cs more (omega (arith, is)))
    ∙ if_front (is_kept p a b n c) c (kept p a b (n + 1) cs) (kept p a b m more)

-- commands with greater numbers change nothing
pub live_kept : (schema : Schema) (r : Reach) (h more : History) → r.greatest ≤ length (numbered r.table h) → r.version ≤ length (numbered r.table h) → live r.table schema (reached r (h ++ more)) ≡ live r.table schema (reached r h)
live_kept schema r h more most version =
    let cs = numbered r.table h in
    let others = numbered r.table more in
    let last = 1 + length cs in
    let was = settled schema (upto r.version) 1 cs in
    let next = settled schema (upto r.version) last others in
    let long = settled_length schema (upto r.version) 1 cs in
    live_reached schema r (h ++ more)
    ∙ (ap (flat_map rows_by)
    (ap (λ (zs : List Command). kept_in r 1 (settled schema (upto r.version) 1 zs)) (numbered_more r.table h more)
    ∙ (ap (kept_in r 1) (settled_more schema r.version 1 cs others (omega (arith, version)))
    ∙ (kept_more r.partition r.least r.greatest 1 last was next (omega (arith, long))
    ∙ (ap (λ (rest : List Command). kept_in r 1 was ++ rest) (kept_above r.partition r.least r.greatest last next (omega (arith, most))) ∙ append-nil (kept_in r 1 was)))))
    ∙ sym (live_reached schema r h))

-- ---- parts

-- rows still stand for what is reached
reach_kept : (h more : History) (schema : Schema) (r : Reach) (rows : List Row) → ReachStands h schema r rows → ReachStands (h ++ more) schema r rows
reach_kept h more schema r rows s = record {
  order = s.order;
  least = insert_kept r.table r.partition r.least h more s.least;
  greatest = insert_kept r.table r.partition r.greatest h more s.greatest;
  drawn = omega (arith, s.drawn, last_more r.table h more);
  whole = between_kept r.table r.version r.greatest h more (number_drawn r.table r.partition r.greatest h s.greatest) s.whole;
  rising = s.rising;
  partly = subst (λ (was : List Row). Partly schema was rows) (sym (live_kept schema r h more (number_drawn r.table r.partition r.greatest h s.greatest) s.drawn)) s.partly;
}

-- a part still stands
pub part_kept : (h more : History) (p : CorePart) → PartStands h p → PartStands (h ++ more) p
part_kept h more p s = record {
  schema = s.schema;
  there = schema_kept p.table h more s.schema s.there;
  mutated = was_mutated p.table p.name.mutation h more s.mutated;
  stands = reach_kept h more s.schema (reach_of_part p) p.rows s.stands;
}

-- parts of a table for which nothing drew a number
pub table_kept : (t : List ℕ) (ps : List CorePart) (h more : History) → numbered t more ≡ [] → TableStands t ps h → TableStands t ps (h ++ more)
table_kept t ps h more none s =
    let same : numbered t (h ++ more) ≡ numbered t h = numbered_more t h more ∙ (ap (λ cs. numbered t h ++ cs) none ∙ append-nil (numbered t h)) in
    record {
      own = s.own;
      each = All-weaker (PartStands h) (PartStands (h ++ more)) (λ p one. part_kept h more p one) ps s.each;
      once = λ p n is. s.once p n (insert_was t p n h more is (subst (λ (cs : List Command). n ≤ length cs) same (number_drawn t p n (h ++ more) is)));
    }

-- a part ends no higher than this
abbrev EndsBy : ℕ → CorePart → Type 0
EndsBy top p = p.name.max_block ≤ top

ends_all : (t : List ℕ) (h : History) (ps : List CorePart) → AllByRecursion (λ (p : CorePart). p.table ≡ t) ps → AllByRecursion (PartStands h) ps → AllByRecursion (EndsBy (length (numbered t h))) ps
ends_all t h [] own each = tt
ends_all t h (p ∷ ps) own each = (
  subst (λ u. p.name.max_block ≤ length (numbered u h)) own.0 (number_drawn p.table p.name.partition p.name.max_block h each.0.stands.greatest),
  ends_all t h ps own.1 each.1,
)

pub count_push : (f : CorePart → Bool) (ps : List CorePart) (p : CorePart) → count_by f (ps ++ p ∷ []) ≡ count_by f ps + cond (f p) 1 0
count_push f ps p = sum_by_push (λ (q : CorePart). cond (f q) 1 0) ps p

none_above : (w : Partition) (n top : ℕ) (ps : List CorePart) → AllByRecursion (EndsBy top) ps → top < n → count_by (has_block w n) ps ≡ 0
none_above w n top [] ends lt = refl
none_above w n top (p ∷ ps) ends lt =
    let no : has_block w n p ≡ false =
    ap (λ b. same_partition p.name.partition w && b) (lies_above p.name.min_block p.name.max_block n (omega (arith, ends.0, lt))) ∙ and_false (same_partition p.name.partition w) in
    sum_by-cons (λ (q : CorePart). cond (has_block w n q) 1 0) p ps ∙ ap₂ (λ (b : Bool) (k : ℕ). cond b 1 0 + k) no (none_above w n top ps ends.1 lt)

-- the part of an INSERT, after the table's others
module _ (h : History) (e : Entry) (i : Insert) (schema : Schema) (is : e.command ≡ command.Insert i) (there : schema_of i.table h ≡ Some schema) where
  pub drawn_here : numbered i.table (h ++ e ∷ []) ≡ numbered i.table h ++ command.Insert i ∷ []
  drawn_here =
      numbered_more i.table h (e ∷ [])
      ∙ ap (λ cs. numbered i.table h ++ cs) (ap (λ c. cond (draws i.table c) (c ∷ []) []) is ∙ ap (λ b. cond b (command.Insert i ∷ []) []) (itself_same i.table))

  pub drawn_apart : (t : List ℕ) → same_bytes i.table t ≡ false → numbered t (e ∷ []) ≡ []
  drawn_apart t apart = ap (λ c. cond (draws t c) (c ∷ []) []) is ∙ ap (λ b. cond b (command.Insert i ∷ []) []) apart

  -- its number is the last that was drawn
  own_number : IsNumberOfInsert i.table i.partition (length (numbered i.table h) + 1) (h ++ e ∷ [])
  own_number =
      let count = length (numbered i.table h) in
      let back : count + 1 - 1 ≡ count = omega arith in
      record {
        from_one = omega arith;
        insert = i;
        there = ap₂ slice_get drawn_here back ∙ slice_last (numbered i.table h) (command.Insert i);
        partition_is = refl;
      }

  -- its part
  abbrev new_part : CorePart
  new_part = part_of_insert schema (length (numbered i.table h) + 1) i

  own_rows : live i.table schema (reached (reach_of_part new_part) (h ++ e ∷ [])) ≡ sorted (sorting_cmp schema) i.block.rows
  own_rows =
      let cs = numbered i.table h in
      let n = length cs + 1 in
      let last = settled_push schema (upto n) 1 cs (command.Insert i) in
      let one = settled_by schema [] (command.Insert i) in
      let yes : is_kept i.partition n n n (command.Insert i) ≡ true =
      ap₂ ◌&&◌ (same_itself i.partition) (lies_inside n n n (omega arith) (omega arith)) in
      live_reached schema (reach_of_part new_part) (h ++ e ∷ [])
      ∙ (ap (flat_map rows_by)
      (ap (λ (zs : List Command). kept i.partition n n 1 (settled schema (upto n) 1 zs)) drawn_here
      ∙ (ap (kept i.partition n n 1) last.2
      ∙ (kept_more i.partition n n 1 n last.0 (one ∷ []) (omega (arith, last.1))
      ∙ ap₂ (λ (xs : List Command) (s : Bool). xs ++ kept_if s one []) (kept_below i.partition n n 1 last.0 (omega (arith, last.1))) yes)))
      ∙ append-nil (sorted (sorting_cmp schema) i.block.rows))

  part_new : PartStands (h ++ e ∷ []) new_part
  part_new = record {
    schema = schema;
    there = schema_kept i.table h (e ∷ []) schema there;
    mutated = tt;
    stands = record {
      order = omega arith;
      least = own_number;
      greatest = own_number;
      drawn = number_drawn i.table i.partition (length (numbered i.table h) + 1) (h ++ e ∷ []) own_number;
      whole = λ n is lt le. absurd (omega (arith, lt, le));
      rising = sorted_rises (sorting_cmp schema) (sorting_total schema) i.block.rows;
      partly = subst (λ (rows : List Row). Partly schema rows new_part.rows) (sym own_rows) (partly_itself schema new_part.rows);
    };
  }

  one_insert : (k : Insert) → Some (command.Insert k) ≡ Some (command.Insert i) → k ≡ i
  one_insert k same = cc

  pub table_grown : (ps : List CorePart) → TableStands i.table ps h → TableStands i.table (ps ++ new_part ∷ []) (h ++ e ∷ [])
  table_grown ps s = record {
    own = All-push (λ (p : CorePart). p.table ≡ i.table) ps new_part s.own refl;
    each = All-push (PartStands (h ++ e ∷ [])) ps new_part (All-weaker (PartStands h) (PartStands (h ++ e ∷ [])) (λ p one. part_kept h (e ∷ []) p one) ps s.each) part_new;
    once = λ w n at. by w n at (cases_lt (length (numbered i.table h)) n);
  }
    where
      ends : AllByRecursion (EndsBy (length (numbered i.table h))) ps
      ends = ends_all i.table h ps (recursion_from_All (λ (p : CorePart). p.table ≡ i.table) ps s.own) (recursion_from_All (PartStands h) ps s.each)

      by : (w : Partition) (n : ℕ) → IsNumberOfInsert i.table w n (h ++ e ∷ []) → (length (numbered i.table h) < n) ⊎ (n ≤ length (numbered i.table h)) → count_by (has_block w n) (ps ++ new_part ∷ []) ≡ 1
      by w n at (inr upto) =
          let count = length (numbered i.table h) in
          let p = part_of_insert schema (count + 1) i in
          let no : has_block w n p ≡ false =
          ap (λ b. same_partition i.partition w && b) (lies_below (count + 1) (count + 1) n (omega (arith, upto))) ∙ and_false (same_partition i.partition w) in
          let one = s.once w n (insert_was i.table w n h (e ∷ []) at upto) in
          count_push (has_block w n) ps p ∙ ap₂ (λ (k : ℕ) (b : Bool). k + cond b 1 0) one no
      by w n at (inl lt) =
          let count = length (numbered i.table h) in
          let p = part_of_insert schema (count + 1) i in
          let most = subst (λ (cs : List Command). n ≤ length cs) drawn_here (number_drawn i.table w n (h ++ e ∷ []) at) in
          let many = length-append (numbered i.table h) (command.Insert i ∷ []) in
          let n_is : n ≡ count + 1 = omega (arith, most, many, lt) in
          let place : n - 1 ≡ count = omega (arith, n_is) in
          let found : Some (command.Insert at.insert) ≡ Some (command.Insert i) =
          sym at.there ∙ (ap₂ slice_get drawn_here place ∙ slice_last (numbered i.table h) (command.Insert i)) in
          let mine : i.partition ≡ w = sym (ap (λ (x : Insert). x.partition) (one_insert at.insert found)) ∙ at.partition_is in
          let same : same_partition i.partition w ≡ true = ap (λ v. same_partition i.partition v) (sym mine) ∙ same_itself i.partition in
          let inside : lies_within (count + 1) (count + 1) n ≡ true = lies_inside (count + 1) (count + 1) n (omega (arith, n_is)) (omega (arith, n_is)) in
          let yes : has_block w n p ≡ true = ap₂ ◌&&◌ same inside in
          count_push (has_block w n) ps p ∙ ap₂ (λ (k : ℕ) (b : Bool). k + cond b 1 0) (none_above w n count ps ends lt) yes

-- ---- a mutation

-- parts of a table stand for it with a mutation of it more, which none of them has
pub table_altered : (h : History) (e : Entry) (a : Alter) (ps : List CorePart) → e.command ≡ command.Alter a → TableStands a.table ps h → TableStands a.table ps (h ++ e ∷ [])
table_altered h e a ps is s = record {
  own = s.own;
  each = All-weaker (PartStands h) (PartStands (h ++ e ∷ [])) (λ p one. part_kept h (e ∷ []) p one) ps s.each;
  once = λ w n at. s.once w n (insert_was a.table w n h (e ∷ []) at (below w n at (cases_lt (length (numbered a.table h)) n)));
}
  where
    drawn : numbered a.table (h ++ e ∷ []) ≡ numbered a.table h ++ command.Alter a ∷ []
    drawn =
        numbered_more a.table h (e ∷ [])
        ∙ ap (λ cs. numbered a.table h ++ cs) (ap (λ c. cond (draws a.table c) (c ∷ []) []) is ∙ ap (λ b. cond b (command.Alter a ∷ []) []) (itself_same a.table))

    other : {P : Type 0} → (i : Insert) → Some (command.Insert i) ≡ Some (command.Alter a) → P
    other i same = absurd (clash i same)
      where
        clash : (i : Insert) → Some (command.Insert i) ≡ Some (command.Alter a) → ⊥
        clash i same = cc

    below : (w : Partition) (n : ℕ) → IsNumberOfInsert a.table w n (h ++ e ∷ []) → (length (numbered a.table h) < n) ⊎ (n ≤ length (numbered a.table h)) → n ≤ length (numbered a.table h)
    below w n at (inr upto) = upto
    below w n at (inl lt) =
        let most = subst (λ (cs : List Command). n ≤ length cs) drawn (number_drawn a.table w n (h ++ e ∷ []) at) in
        let many = length-append (numbered a.table h) (command.Alter a ∷ []) in
        let place : n - 1 ≡ length (numbered a.table h) = omega (arith, most, many, lt) in
        other at.insert (sym at.there ∙ (ap₂ slice_get drawn place ∙ slice_last (numbered a.table h) (command.Alter a)))

-- ---- the mutations of longer histories

-- a command that draws no number of a table leaves its mutations
pub mutations_still : (t : List ℕ) (h : History) (e : Entry) → numbered t (e ∷ []) ≡ [] → mutations_in t (h ++ e ∷ []) ≡ mutations_in t h
mutations_still t h e none =
    ap (mutations_among 1) (numbered_more t h (e ∷ []) ∙ (ap (λ (cs : List Command). numbered t h ++ cs) none ∙ append-nil (numbered t h)))

-- an INSERT leaves those of all tables
pub mutations_inserted : (t : List ℕ) (h : History) (session : ℕ) (i : Insert) → mutations_in t (h ++ record { session = session; command = command.Insert i } ∷ []) ≡ mutations_in t h
mutations_inserted t h session i = by (same_bytes i.table t) refl
  where
    e : Entry
    e = record { session = session; command = command.Insert i }

    by : (b : Bool) → same_bytes i.table t ≡ b → mutations_in t (h ++ record { session = session; command = command.Insert i } ∷ []) ≡ mutations_in t h
    by true same =
        ap (mutations_among 1) (numbered_more t h (e ∷ []) ∙ ap (λ (b : Bool). numbered t h ++ cond b (command.Insert i ∷ []) []) same)
        ∙ (among_more 1 (numbered t h) (command.Insert i ∷ []) ∙ append-nil (mutations_in t h))
    by false apart = mutations_still t h e (ap (λ (b : Bool). cond b (command.Insert i ∷ []) []) apart)

-- ---- parts stand for a table in any order

all_first : {X : Type 0} (P : X → Type 0) (xs : List X) (x : X) → AllByRecursion P (xs ++ x ∷ []) → AllByRecursion P (x ∷ xs)
all_first P [] x all = all
all_first P (y ∷ xs) x all = let more = all_first P xs x all.1 in (more.0, (all.0, more.1))

all_placed : {X : Type 0} (P : X → Type 0) (xs ys : List X) (x : X) → AllByRecursion P ((xs ++ ys) ++ x ∷ []) → AllByRecursion P (xs ++ x ∷ ys)
all_placed P [] ys x all = all_first P ys x all
all_placed P (y ∷ xs) ys x all = (all.0, all_placed P xs ys x all.1)

-- what holds of each, with one after the others, holds of each wherever that one stands
pub placed_all : {X : Type 0} (P : X → Type 0) (xs ys : List X) (x : X) → All P ((xs ++ ys) ++ x ∷ []) → All P (xs ++ x ∷ ys)
placed_all P xs ys x all = All-from_recursion P (xs ++ x ∷ ys) (all_placed P xs ys x (recursion_from_All P ((xs ++ ys) ++ x ∷ []) all))

pub count_placed : (f : CorePart → Bool) (ps qs : List CorePart) (p : CorePart) → count_by f (ps ++ p ∷ qs) ≡ count_by f (ps ++ qs) + cond (f p) 1 0
count_placed f [] qs p = let one = sum_by-cons (λ (q : CorePart). cond (f q) 1 0) p qs in omega (arith, one)
count_placed f (x ∷ ps) qs p =
    let now = sum_by-cons (λ (q : CorePart). cond (f q) 1 0) x (ps ++ p ∷ qs) in
    let was = sum_by-cons (λ (q : CorePart). cond (f q) 1 0) x (ps ++ qs) in
    let more = count_placed f ps qs p in
    omega (arith, now, was, more)

pub table_placed : (table : List ℕ) (ps qs : List CorePart) (p : CorePart) (h : History) → TableStands table ((ps ++ qs) ++ p ∷ []) h → TableStands table (ps ++ p ∷ qs) h
table_placed table ps qs p h s = record {
  own = placed_all (λ (q : CorePart). q.table ≡ table) ps qs p s.own;
  each = placed_all (PartStands h) ps qs p s.each;
  once = λ w n is. count_placed (has_block w n) ps qs p ∙ (sym (count_push (has_block w n) (ps ++ qs) p) ∙ s.once w n is);
}

-- the part of an INSERT, wherever it stands among those of its table
pub table_entered : (h : History) (e : Entry) (i : Insert) (schema : Schema) → e.command ≡ command.Insert i → schema_of i.table h ≡ Some schema → (ps qs : List CorePart) → TableStands i.table (ps ++ qs) h
    → TableStands i.table (ps ++ part_of_insert schema (length (numbered i.table h) + 1) i ∷ qs) (h ++ e ∷ [])
table_entered h e i schema is there ps qs s =
    table_placed i.table ps qs (part_of_insert schema (length (numbered i.table h) + 1) i) (h ++ e ∷ []) (table_grown h e i schema is there (ps ++ qs) s)
