-- The part that a rewrite makes of one part.
use Rattle.std.proofs.Common.{◌≡◌, ℕ, ◌+◌, ◌≤◌, Bool, true, false, cond, ◌&&◌, nat_le, nat_lt, List, [], ◌∷◌, ◌++◌, filter, Some, refl, sym, ap, ◌∙◌, subst, arith}
use Rattle.std.specs.List.{flat_map, count_by}
use Rattle.std.specs.List.Sorted.{IsSorted}
use Rattle.std.proofs.lemmas.Bool.Decides.{nat_tests}
use Rattle.std.proofs.lemmas.List.Elements.{All-filter, All-from_recursion, recursion_from_All}
use Rattle.mt_base.specs.declared.partition.Partition.{Partition}
use Rattle.mt_values.specs.declared.mutation.Mutation.{Mutation}
use Rattle.mt_values.specs.declared.schema.Schema.{Schema}
use Rattle.mt_values.specs.Changes.{mutated}
use Rattle.mt_values.specs.Tables.{sorting_cmp}
use Rattle.mt_values.specs.Values.{Row}
use Rattle.rule_law.specs.mt_model.History.{History, IsLegal, schema_of}
use Rattle.rule_law.specs.mt_model.Live.{live}
use Rattle.rule_law.specs.mt_model.Mutations.{IsChangeOf}
use Rattle.rule_law.specs.mt_model.Numbers.{mutations_in, numbered, reached}
use Rattle.rule_law.specs.mt_model.Partial.{Partly}
use Rattle.part_name.specs.Pending.{pending_upto}
use Rattle.part_name.specs.declared.part.PartName.{PartName}
use Rattle.part_name.specs.Merged.{rewritten}
use Rattle.part_name.specs.PartNames.{data_version}
use Rattle.part_history.specs.declared.part.CorePart.{CorePart}
use Rattle.part_history.specs.Merges.{IsRewrittenPart, RewriteLeaves, with_rows}
use Rattle.part_history.specs.Parts.{AreInBlockOrder, PartStands, TableStands, has_block, reach_of_part}
use Rattle.part_history.proofs.Growing.{count_placed, mutation_drawn}
use Rattle.part_history.proofs.Joined.{into, made_partly, sound}
use Rattle.part_history.proofs.Merging.{all_swapped, order_swapped}
use Rattle.part_history.proofs.Schemas.{same_schema}
use Rattle.part_history.proofs.Settled.{between, changes_among, kept_in, live_reached, rows_by, settled, upto}
use Rattle.rule_law.proofs.PartlyChanged.{mutated_rises}

-- two tests, one after the other
filter_twice : {X : Type 0} (p q : X → Bool) (xs : List X) → filter p (filter q xs) ≡ filter (λ x. q x && p x) xs
filter_twice p q [] = refl
filter_twice p q (x ∷ xs) = by (q x) (filter_twice p q xs)
  where
    by : (b : Bool) → filter p (filter q xs) ≡ filter (λ y. q y && p y) xs → filter p (cond b (x ∷ filter q xs) (filter q xs)) ≡ cond (b && p x) (x ∷ filter (λ y. q y && p y) xs) (filter (λ y. q y && p y) xs)
    by true rest = ap (λ zs. cond (p x) (x ∷ zs) zs) rest
    by false rest = rest

module _ (h : History) (schema : Schema) (source : CorePart) (last : ℕ) (legal : IsLegal h) (there : schema_of source.table h ≡ Some schema) (rows : List Row) (m : RewriteLeaves h source last rows) where
  abbrev table : List ℕ
  table = source.table

  abbrev was : CorePart
  was = with_rows source m.input

  abbrev made : CorePart
  made = record { table = source.table; name = rewritten source.name last; rows = rows }

  low : (k : ℕ) → k ≤ data_version source.name → upto last k ≡ true
  low k le = let most : k ≤ last = omega (arith, le, m.waits) in grind (arith, nat_tests, most)

  -- the mutations that were made of it
  abbrev ms : List Mutation
  ms = filter (between schema (data_version source.name) (upto last) low) (mutations_in table h)

  waited : ms ≡ pending_upto last (mutations_in table h) source.name
  waited = sym (filter_twice (λ (x : Mutation). nat_le x.number last) (λ (x : Mutation). nat_lt (data_version source.name) x.number) (mutations_in table h))

  rows_are : rows ≡ mutated ms m.input
  rows_are = m.out_is ∙ ap (λ (xs : List Mutation). mutated xs m.input) (sym waited)

  same : m.stand.schema ≡ schema
  same = same_schema m.stand.schema schema (sym m.stand.there ∙ there)

  partly : Partly schema (live table schema (reached (reach_of_part made) h)) rows
  partly =
      subst (λ (rs : List Row). Partly schema rs rows) (sym (live_reached schema (reach_of_part made) h))
      (subst (λ (rs : List Row). Partly schema (flat_map rows_by (kept_in (reach_of_part made) 1 (settled schema (upto last) 1 (numbered table h)))) rs) (sym rows_are)
      (made_partly h table schema legal there was refl m.stand (upto last) low))

  pub rewritten_stands : PartStands h made
  rewritten_stands = record {
    schema = schema;
    there = there;
    mutated = m.last;
    stands = record {
      order = m.stand.stands.order;
      least = m.stand.stands.least;
      greatest = m.stand.stands.greatest;
      drawn = mutation_drawn table last h m.last;
      whole = λ n is lt le. m.stand.stands.whole n is (omega (arith, m.waits, lt)) le;
      rising =
          subst (IsSorted (sorting_cmp schema)) (sym rows_are)
          (mutated_rises schema (sound h table schema legal there) ms
          (All-filter (between schema (data_version source.name) (upto last) low) (λ (x : Mutation). IsChangeOf schema x.change) (mutations_in table h) (changes_among schema (sound h table schema legal there) 1 (numbered table h) (into h table schema legal there)))
          m.input (subst (λ (x : Schema). IsSorted (sorting_cmp x) m.input) same m.stand.stands.rising));
      partly = partly;
    };
  }

-- a part may be replaced by what a rewrite makes of it
module _ (h : History) (schema : Schema) (front : List CorePart) (source : CorePart) (back : List CorePart) (last : ℕ) (part : CorePart) (legal : IsLegal h) (there : schema_of part.table h ≡ Some schema) (m : IsRewrittenPart h source last part) where
  here : schema_of source.table h ≡ Some schema
  here = subst (λ (t : List ℕ). schema_of t h ≡ Some schema) m.table there

  part_is : part ≡ record { table = source.table; name = rewritten source.name last; rows = part.rows }
  part_is = λ j. record { table = m.table j; name = m.named j; rows = part.rows }

  stands_here : PartStands h part
  stands_here = subst (PartStands h) (sym part_is) (rewritten_stands h schema source last legal here part.rows m.leaves)

  same_blocks : (w : Partition) (n : ℕ) → has_block w n part ≡ has_block w n source
  same_blocks w n = ap (has_block w n) part_is

  pub rewritten_stand : TableStands part.table (front ++ source ∷ back) h → TableStands part.table (front ++ part ∷ back) h
  rewritten_stand s = record {
    own = All-from_recursion (λ (p : CorePart). p.table ≡ part.table) (front ++ part ∷ back)
        (all_swapped (λ (p : CorePart). p.table ≡ part.table) front (source ∷ []) back part (recursion_from_All (λ (p : CorePart). p.table ≡ part.table) (front ++ source ∷ back) s.own) refl);
    each = All-from_recursion (PartStands h) (front ++ part ∷ back)
        (all_swapped (PartStands h) front (source ∷ []) back part (recursion_from_All (PartStands h) (front ++ source ∷ back) s.each) stands_here);
    once = λ w n is.
        count_placed (has_block w n) front back part
        ∙ (ap (λ b. count_by (has_block w n) (front ++ back) + cond b 1 0) (same_blocks w n)
        ∙ (sym (count_placed (has_block w n) front back source) ∙ s.once w n is));
  }

  pub rewritten_order : AreInBlockOrder (front ++ source ∷ back) → AreInBlockOrder (front ++ part ∷ back)
  rewritten_order up = order_swapped front source [] back part up (ap (λ (name : PartName). name.partition) m.named) (ap (λ (name : PartName). name.min_block) m.named)
