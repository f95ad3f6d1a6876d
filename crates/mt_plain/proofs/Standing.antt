-- The portions of single INSERTs stand for the table.
use Rattle.std.proofs.Common.{◌≡◌, ℕ, ◌+◌, ◌-◌, Bool, true, false, cond, List, [], ◌∷◌, ◌++◌, Some, None, length, map, slice_get, refl, sym, ap, ap₂, subst, ◌∙◌, append-nil, append_assoc, length-append}
use Rattle.std.specs.List.{All, AllByRecursion, count_by}
use Rattle.std.proofs.lemmas.List.{map-append}
use Rattle.std.proofs.lemmas.List.Elements.{All-from_recursion, All-nil, All-push, recursion_from_All}
use Rattle.std.proofs.lemmas.List.Sums.{sum_by-cons}
use Rattle.mt_base.specs.declared.partition.Partition.{Partition}
use Rattle.mt_values.specs.declared.command.Alter.{Alter}
use Rattle.mt_values.specs.declared.command.Command.{Command}
use Rattle.mt_values.specs.declared.command.Command.TheVariants as command
use Rattle.mt_values.specs.declared.command.Entry.{Entry}
use Rattle.mt_values.specs.declared.command.Insert.{Insert}
use Rattle.mt_values.specs.declared.schema.Schema.{Schema}
use Rattle.mt_values.specs.Grammar.{same_bytes}
use Rattle.mt_values.specs.Tables.{sorting_cmp}
use Rattle.part_history.specs.mt_model.Explain.{Portion, PortionStands, PortionsStand, has_number, reach_of_portion}
use Rattle.part_history.specs.mt_model.History.{History, first_of, schema_of}
use Rattle.part_history.specs.mt_model.Live.{sorted}
use Rattle.part_history.specs.mt_model.Numbers.{IsNumberOfInsert, IsNumberOfMutation, Reach, draws, numbered}
use Rattle.part_history.specs.mt_model.Reaches.{ReachStands}
use Rattle.part_history.proofs.MtModelHistories.{numbered_more}
use Rattle.part_history.proofs.MtModelTables.{itself_same, same_is}
use Rattle.part_history.specs.declared.part.CorePart.{CorePart}
use Rattle.part_history.specs.Entered.{part_of_insert}
use Rattle.part_history.specs.Parts.{PartStands, TableStands, has_block, reach_of_part}
use Rattle.part_history.proofs.Growing.{table_altered, table_grown, table_kept}
use Rattle.mt_plain.specs.Portions.{last_after, portion_of, portions_after, portions_from, unmerged}

module _ (table : List ℕ) (schema : Schema) where
  -- a portion as a part of the table
  abbrev as_part : Portion → CorePart
  as_part p = record {
    table = table;
    name = record { partition = p.partition; min_block = p.least; max_block = p.greatest; level = 0; mutation = None };
    rows = p.rows;
  }

  -- the table is made, and then comes what a history says
  abbrev made : History → History
  made h = record { session = 0; command = command.Create (record { table = table; schema = schema }) } ∷ h

  made_schema : (h : History) → schema_of table (made h) ≡ Some schema
  made_schema h = ap (λ b. first_of (cond b (Some schema) None) (schema_of table h)) (itself_same table)

  -- ---- parts that stand are portions that do

  number_is : (partition : Partition) (n : ℕ) (h : History) → IsNumberOfInsert table partition n (made h) → IsNumberOfInsert table partition n h
  number_is partition n h is = record { from_one = is.from_one; insert = is.insert; there = is.there; partition_is = is.partition_is }

  number_made : (partition : Partition) (n : ℕ) (h : History) → IsNumberOfInsert table partition n h → IsNumberOfInsert table partition n (made h)
  number_made partition n h is = record { from_one = is.from_one; insert = is.insert; there = is.there; partition_is = is.partition_is }

  mutation_made : (n : ℕ) (h : History) → IsNumberOfMutation table n h → IsNumberOfMutation table n (made h)
  mutation_made n h is = record { from_one = is.from_one; alter = is.alter; there = is.there }

  one_schema : (a : Schema) → Some a ≡ Some schema → a ≡ schema
  one_schema a same = cc

  -- no mutation was applied to a portion
  abbrev Unmutated : Portion → Type 0
  Unmutated p = p.version ≡ p.least

  -- what a portion reaches, with this version
  abbrev reach_at : Portion → ℕ → Reach
  reach_at p version = record { table = table; partition = p.partition; least = p.least; greatest = p.greatest; version = version }

  portion_stands : (h : History) (p : Portion) → Unmutated p → PartStands (made h) (as_part p) → PortionStands h table schema p
  portion_stands h p own s =
      let same : s.schema ≡ schema = one_schema s.schema (sym s.there ∙ made_schema h) in
      let is : reach_of_part (as_part p) ≡ reach_of_portion table p = ap (reach_at p) (sym own) in
      let stands : ReachStands h s.schema (reach_of_part (as_part p)) p.rows = record {
        order = s.stands.order;
        least = number_is p.partition p.least h s.stands.least;
        greatest = number_is p.partition p.greatest h s.stands.greatest;
        drawn = s.stands.drawn;
        whole = λ n is. s.stands.whole n (mutation_made n h is);
        rising = s.stands.rising;
        partly = s.stands.partly;
      } in
      subst (λ (r : Reach). ReachStands h schema r p.rows) is (subst (λ (k : Schema). ReachStands h k (reach_of_part (as_part p)) p.rows) same stands)

  each_stands : (h : History) (ps : List Portion) → AllByRecursion Unmutated ps → AllByRecursion (PartStands (made h)) (map as_part ps) → AllByRecursion (PortionStands h table schema) ps
  each_stands h [] own all = tt
  each_stands h (p ∷ ps) own all = (portion_stands h p own.0 all.0, each_stands h ps own.1 all.1)

  count_same : (partition : Partition) (n : ℕ) (ps : List Portion) → count_by (has_number partition n) ps ≡ count_by (has_block partition n) (map as_part ps)
  count_same partition n [] = refl
  count_same partition n (p ∷ ps) =
      sum_by-cons (λ (q : Portion). cond (has_number partition n q) 1 0) p ps
      ∙ ap (λ k. cond (has_number partition n p) 1 0 + k) (count_same partition n ps)
      ∙ sym (sum_by-cons (λ (q : CorePart). cond (has_block partition n q) 1 0) (as_part p) (map as_part ps))

  portions_stand : (h : History) (ps : List Portion) → All Unmutated ps → TableStands table (map as_part ps) (made h) → PortionsStand h table schema ps
  portions_stand h ps own s = record {
    each = All-from_recursion (PortionStands h table schema) ps (each_stands h ps (recursion_from_All Unmutated ps own) (recursion_from_All (PartStands (made h)) (map as_part ps) s.each));
    once = λ partition n is. count_same partition n ps ∙ s.once partition n (number_made partition n h is);
  }

  -- ---- one command more

  -- the portions of a history, and the last number that it drew
  record Stand (h : History) (last : ℕ) (ps : List Portion) : Type 0 where
    count : last ≡ length (numbered table h)
    own : All Unmutated ps
    stands : TableStands table (map as_part ps) (made h)

  none_yet : Stand [] 0 []
  none_yet = record {
    count = refl;
    own = All-nil Unmutated;
    stands = record {
      own = All-nil (λ (p : CorePart). p.table ≡ table);
      each = All-nil (PartStands (made []));
      once = λ partition n is. no_number partition n is.there;
    };
  }
    where
      no_number : (partition : Partition) (n : ℕ) → {i : Insert} → slice_get {X = Command} [] (n - 1) ≡ Some (command.Insert i) → count_by (has_block partition n) [] ≡ 1
      no_number partition n there = cc

  -- what draws no number of the table adds nothing
  stand_kept : (h : History) (e : Entry) (last : ℕ) (ps : List Portion) → numbered table (e ∷ []) ≡ [] → Stand h last ps → Stand (h ++ e ∷ []) last ps
  stand_kept h e last ps none s = record {
    count = s.count ∙ ap length (sym (numbered_more table h (e ∷ []) ∙ ap (λ cs. numbered table h ++ cs) none ∙ append-nil (numbered table h)));
    own = s.own;
    stands = table_kept table (map as_part ps) (made h) (e ∷ []) none s.stands;
  }

  drawn_if : (e : Entry) (i : Insert) (b : Bool) → e.command ≡ command.Insert i → same_bytes i.table table ≡ b → numbered table (e ∷ []) ≡ cond b (command.Insert i ∷ []) []
  drawn_if e i b is same = ap (λ c. cond (draws table c) (c ∷ []) []) is ∙ ap (λ b. cond b (command.Insert i ∷ []) []) same

  -- the part of an INSERT into a table, with this number
  abbrev one_part : Insert → List ℕ → ℕ → CorePart
  one_part i t n = record {
    table = t;
    name = record { partition = i.partition; min_block = n; max_block = n; level = 0; mutation = None };
    rows = sorted (sorting_cmp schema) i.block.rows;
  }

  -- an INSERT into the table is one portion more
  stand_more : (h : History) (e : Entry) (i : Insert) (last : ℕ) (ps : List Portion) → e.command ≡ command.Insert i → i.table ≡ table → Stand h last ps
      → Stand (h ++ e ∷ []) (last + 1) (ps ++ portion_of schema (last + 1) i ∷ [])
  stand_more h e i last ps is named s =
      let same : same_bytes i.table table ≡ true = ap (λ t. same_bytes t table) named ∙ itself_same table in
      let drawn : numbered table (h ++ e ∷ []) ≡ numbered table h ++ command.Insert i ∷ [] =
      numbered_more table h (e ∷ []) ∙ ap (λ cs. numbered table h ++ cs) (drawn_if e i true is same) in
      let there : schema_of i.table (made h) ≡ Some schema = ap (λ t. schema_of t (made h)) named ∙ made_schema h in
      let grown = table_grown (made h) e i schema is there (map as_part ps) (subst (λ t. TableStands t (map as_part ps) (made h)) (sym named) s.stands) in
      let new = part_of_insert schema (length (numbered i.table (made h)) + 1) i in
      let number : length (numbered i.table (made h)) + 1 ≡ last + 1 = ap (λ n. n + 1) (ap (λ t. length (numbered t (made h))) named ∙ sym s.count) in
      let part : new ≡ as_part (portion_of schema (last + 1) i) = ap₂ (one_part i) named number in
      record {
        count = ap (λ n. n + 1) s.count ∙ sym (length-append (numbered table h) (command.Insert i ∷ [])) ∙ ap length (sym drawn);
        own = All-push Unmutated ps (portion_of schema (last + 1) i) s.own refl;
        stands = subst (λ qs. TableStands table qs (made (h ++ e ∷ [])))
            (ap (λ q. map as_part ps ++ q ∷ []) part ∙ sym (map-append as_part ps (portion_of schema (last + 1) i ∷ [])))
            (subst (λ t. TableStands t (map as_part ps ++ new ∷ []) (made (h ++ e ∷ []))) named grown);
      }

  altered_if : (e : Entry) (a : Alter) (b : Bool) → e.command ≡ command.Alter a → same_bytes a.table table ≡ b → numbered table (e ∷ []) ≡ cond b (command.Alter a ∷ []) []
  altered_if e a b is same = ap (λ c. cond (draws table c) (c ∷ []) []) is ∙ ap (λ b. cond b (command.Alter a ∷ []) []) same

  -- a mutation of the table draws a number, and leaves the portions
  stand_altered : (h : History) (e : Entry) (a : Alter) (last : ℕ) (ps : List Portion) → e.command ≡ command.Alter a → a.table ≡ table → Stand h last ps → Stand (h ++ e ∷ []) (last + 1) ps
  stand_altered h e a last ps is named s =
      let same : same_bytes a.table table ≡ true = ap (λ t. same_bytes t table) named ∙ itself_same table in
      let drawn : numbered table (h ++ e ∷ []) ≡ numbered table h ++ command.Alter a ∷ [] =
      numbered_more table h (e ∷ []) ∙ ap (λ cs. numbered table h ++ cs) (altered_if e a true is same) in
      record {
        count = ap (λ n. n + 1) s.count ∙ sym (length-append (numbered table h) (command.Alter a ∷ [])) ∙ ap length (sym drawn);
        own = s.own;
        stands = subst (λ t. TableStands t (map as_part ps) (made (h ++ e ∷ []))) named
            (table_altered (made h) e a (map as_part ps) is (subst (λ t. TableStands t (map as_part ps) (made h)) (sym named) s.stands));
      }

  stand_after : (h : History) (e : Entry) (last : ℕ) (ps : List Portion) → Stand h last ps → Stand (h ++ e ∷ []) (last_after table last e.command) (portions_after table schema last ps e.command)
  stand_after h e last ps s = by e.command refl
    where
      by : (c : Command) → e.command ≡ c → Stand (h ++ e ∷ []) (last_after table last c) (portions_after table schema last ps c)
      by (command.Create c) is = stand_kept h e last ps (ap (λ c. cond (draws table c) (c ∷ []) []) is) s
      by (command.Insert i) is = named (same_bytes i.table table) refl
        where
          named : (b : Bool) → same_bytes i.table table ≡ b → Stand (h ++ e ∷ []) (cond b (last + 1) last) (cond b (ps ++ portion_of schema (last + 1) i ∷ []) ps)
          named true same = stand_more h e i last ps is (same_is i.table table same) s
          named false same = stand_kept h e last ps (drawn_if e i false is same) s
      by (command.Alter a) is = named (same_bytes a.table table) refl
        where
          named : (b : Bool) → same_bytes a.table table ≡ b → Stand (h ++ e ∷ []) (cond b (last + 1) last) ps
          named true same = stand_altered h e a last ps is (same_is a.table table same) s
          named false same = stand_kept h e last ps (altered_if e a false is same) s

  stand_all : (h es : History) (last : ℕ) (ps : List Portion) → Stand h last ps → (end : ℕ) × Stand (h ++ es) end (portions_from table schema last ps es)
  stand_all h [] last ps s = (last, subst (λ x. Stand x last ps) (sym (append-nil h)) s)
  stand_all h (e ∷ es) last ps s =
      let next = last_after table last e.command in
      let now = portions_after table schema last ps e.command in
      let rest = stand_all (h ++ e ∷ []) es next now (stand_after h e last ps s) in
      (rest.0, subst (λ x. Stand x rest.0 (portions_from table schema next now es)) (append_assoc h (e ∷ []) es) rest.1)

  pub unmerged_stand : (h : History) → PortionsStand h table schema (unmerged table schema h)
  unmerged_stand h = let all = (stand_all [] h 0 [] none_yet).1 in portions_stand h (unmerged table schema h) all.own all.stands
