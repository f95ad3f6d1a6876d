-- A part more in its place among the parts of its table.
use Rattle.std.proofs.Common.{◌≡◌, ℕ, ◌+◌, ◌≤◌, cond, List, [], ◌∷◌, ◌++◌, get_or, take, drop, refl, sym, ap, ◌∙◌, subst, arith, zero, suc, inl, inr, ◌⊎◌}
use Rattle.std.proofs.lemmas.List.Elements.{All-append, All-cons, All-contains, All-drop, All-take, Contains-append_left, Contains-get_or, Contains-push}
use Rattle.std.proofs.lemmas.List.Sums.{sum_by-insert}
use Rattle.std.specs.List.{All, AllZip, Contains as HasItem, insert}
use Rattle.mt_base.specs.declared.partition.Partition.{Partition}
use Rattle.mt_values.specs.Values.{Row}
use Rattle.root_store.specs.mt_model.History.{History}
use Rattle.root_store.specs.part_reader.declared.reading.Part.{Part}
use Rattle.root_store.specs.part_set.declared.kept.Kept.{Kept}
use Rattle.root_store.specs.part_set.Parts.{IsAdded, NoneMeets}
use Rattle.root_store.proofs.PartSetItems.{item_cases}
use Rattle.root_store.specs.part_history.declared.part.CorePart.{CorePart}
use Rattle.root_store.specs.part_history.Parts.{PartStands, TableStands, has_block}
use Rattle.root_store.proofs.PartHistoryGrowing.{count_push}
use Rattle.root_commits.specs.Commits.{fresh_part}
use Rattle.root_store.specs.Stores.{core_part, core_parts}

-- no part meets one with a greater number than theirs
pub none_meets : {P : Type 0} (parts : List (Kept P)) (partition : Partition) (n : ℕ) → All (λ (k : Kept P). k.name.max_block ≤ n) parts → NoneMeets parts (fresh_part partition (n + 1))
none_meets parts partition n ends = λ k d inside meet.
    let most = ends k d inside in
    let high = meet.high in
    omega (arith, most, high)

-- what holds of each part and of the new one holds of each, once that is added
pub all_added : {P : Type 0} (Q : Kept P → Type 0) (before after : List (Kept P)) (kept : Kept P) → IsAdded before kept after → All Q before → Q kept → All Q after
all_added Q before after kept added all one = subst (All Q) (sym added.is)
    (All-append Q (take added.place before) (kept ∷ drop added.place before) (All-take Q added.place before all) (All-cons Q kept (drop added.place before) one (All-drop Q added.place before all)))

-- what holds of each, with one after the others, holds of each wherever that one stands
all_moved : {X : Type 0} (Q : X → Type 0) (xs : List X) (n : ℕ) (x : X) → All Q (xs ++ x ∷ []) → All Q (insert xs n x)
all_moved {X} Q xs n x all = λ k d inside. by (get_or (insert xs n x) k d) (item_cases xs n x _ (Contains-get_or (insert xs n x) k d inside))
  where
    by : (y : X) → HasItem xs y ⊎ (x ≡ y) → Q y
    by y (inl old) = All-contains Q (xs ++ x ∷ []) y all (Contains-append_left xs (x ∷ []) y old)
    by y (inr same) = All-contains Q (xs ++ x ∷ []) y all (subst (HasItem (xs ++ x ∷ [])) same (Contains-push xs x))

-- parts stand for a table in any order
pub table_moved : (table : List ℕ) (ps : List CorePart) (n : ℕ) (p : CorePart) (h : History) → TableStands table (ps ++ p ∷ []) h → TableStands table (insert ps n p) h
table_moved table ps n p h s = record {
  own = all_moved (λ (q : CorePart). q.table ≡ table) ps n p s.own;
  each = all_moved (PartStands h) ps n p s.each;
  once = λ w k is. sum_by-insert (λ (q : CorePart). cond (has_block w k q) 1 0) ps n p ∙ (sym (count_push (has_block w k) ps p) ∙ s.once w k is);
}

-- parts with their rows
module _ {F : Type 0} (R : Kept (Part F) → List Row → Type 0) where
  pub core_insert : (table : List ℕ) (ks : List (Kept (Part F))) (rows : List (List Row)) (n : ℕ) (k : Kept (Part F)) (r : List Row) → AllZip R ks rows
      → core_parts table (insert ks n k) (insert rows n r) ≡ insert (core_parts table ks rows) n (core_part table k r)
  core_insert table [] [] zero k r zip = refl
  core_insert table [] [] (suc n) k r zip = refl
  core_insert table [] (s ∷ rows) n k r zip = absurd zip
  core_insert table (l ∷ ks) [] n k r zip = absurd zip
  core_insert table (l ∷ ks) (s ∷ rows) zero k r zip = refl
  core_insert table (l ∷ ks) (s ∷ rows) (suc n) k r zip = ap (λ (ps : List CorePart). core_part table l s ∷ ps) (core_insert table ks rows n k r zip.1)

  pub zip_insert : (ks : List (Kept (Part F))) (rows : List (List Row)) (n : ℕ) (k : Kept (Part F)) (r : List Row) → AllZip R ks rows → R k r → AllZip R (insert ks n k) (insert rows n r)
  zip_insert [] [] zero k r zip holds = (holds, tt)
  zip_insert [] [] (suc n) k r zip holds = (holds, tt)
  zip_insert [] (s ∷ rows) n k r zip holds = absurd zip
  zip_insert (l ∷ ks) [] n k r zip holds = absurd zip
  zip_insert (l ∷ ks) (s ∷ rows) zero k r zip holds = (holds, zip)
  zip_insert (l ∷ ks) (s ∷ rows) (suc n) k r zip holds = (zip.0, zip_insert ks rows n k r zip.1 holds)
