-- The names of a root are read in one way, and what is read as a table's own name is that.
use Rattle.std.proofs.Common.{◌≡◌, ℕ, ◌+◌, ◌%◌, ◌^◌, ◌<◌, ◌≤◌, Bool, true, false, cond, List, [], ◌∷◌, ◌++◌, Option, Some, None, map, get_or, drop, refl, sym, ap, ap₂, ◌∙◌, subst, arith, codes}
use Rattle.std.proofs.lemmas.List.{append_cancel_right}
use Rattle.std.proofs.lemmas.List.Elements.{All-contains, recursion_from_All}
use Rattle.std.proofs.lemmas.Fmt.{decimal_by_steps}
use Rattle.std.proofs.lemmas.Option.{get_or_from_slice_get, slice_get_within}
use Rattle.std.specs.BTreeMap.{is_at}
use Rattle.std.specs.Cmp.Lexicographic.{slice_cmp}
use Rattle.std.specs.Fmt.{decimal}
use Rattle.std.specs.List.{AllByRecursion, Contains as HasItem, slice_get}
use Rattle.std.specs.Ordering.{nat_cmp}
use Rattle.mt_values.specs.RootNames.{create_name}
use Rattle.mt_outside.specs.Disk.{Names, files_at}
use Rattle.mt_outside.specs.Files.{Files}
use Rattle.table_core.specs.part_set.part_name.declared.part.PartName.{PartName}
use Rattle.table_core.specs.part_set.part_name.PartNames.{IsMutation, IsPartName, joined, last_text, part_text, partition_text}
use Rattle.table_core.specs.part_set.declared.root_name.RootName.{RootName}
use Rattle.table_core.specs.part_set.declared.root_name.RootName.TheVariants.{Create, Part}
use Rattle.table_core.specs.part_set.declared.root_name.TablePart.{TablePart}
use Rattle.table_core.specs.part_set.RootNames.{IsRootName, root_text}
use Rattle.table_core.specs.part_set.Visible.{HasTable}
use Rattle.table_core.proofs.PartSetItems.{item_first}
use Rattle.table_core.proofs.PartSetMaps.{found_is}
use Rattle.table_core.proofs.PartSetNameTexts.{root_names_same}
use Rattle.table_core.proofs.PartSetOrphans.{item_more}
use Rattle.root_store.specs.Roots.{AreNamesRead}

-- ---- one reading

same_names : (a b : List RootName) → AllByRecursion IsRootName a → AllByRecursion IsRootName b → map root_text a ≡ map root_text b → a ≡ b
same_names [] [] p q is = refl
same_names [] (y ∷ b) p q is = cc
same_names (x ∷ a) [] p q is = cc
same_names (x ∷ a) (y ∷ b) p q is =
    let first : root_text x ≡ root_text y = ap (λ (ts : List (List ℕ)). get_or ts 0 []) is in
    let rest : map root_text a ≡ map root_text b = ap (λ (ts : List (List ℕ)). drop 1 ts) is in
    ap₂ (λ (z : RootName) (zs : List RootName). z ∷ zs) (root_names_same x y p.0 q.0 first) (same_names a b p.1 q.1 rest)

-- two lists that were read of the names are one
pub one_reading : (names : Names) (a b : List RootName) → AreNamesRead names a → AreNamesRead names b → a ≡ b
one_reading names a b p q = same_names a b (recursion_from_All IsRootName a p.sound) (recursion_from_All IsRootName b q.sound) (p.spelled ∙ sym q.spelled)

-- ---- the last byte of a name

-- the last byte, or another where there is none
abbrev end_of : ℕ → List ℕ → ℕ
end_of d [] = d
end_of d (x ∷ xs) = end_of x xs

end_append : (d : ℕ) (xs ys : List ℕ) → end_of d (xs ++ ys) ≡ end_of (end_of d xs) ys
end_append d [] ys = refl
end_append d (x ∷ xs) ys = end_append x xs ys

ends_in_digit : (n : ℕ) → n < 2 ^ 64 → (d : ℕ) → end_of d (decimal n) < 58
ends_in_digit n small =
    decimal_by_steps (λ (m : ℕ) (ds : List ℕ). (d : ℕ) → end_of d ds < 58) (λ m low d. omega (arith, low))
    (λ m ds low before d. subst (λ (k : ℕ). k < 58) (sym (end_append d ds ((48 + m % 10) ∷ []))) (omega arith)) n small

last_end : (level : ℕ) (m : Option ℕ) (d : ℕ) → level ≤ 4294967295 → IsMutation m → end_of d (last_text level m) < 58
last_end level None d le is = ends_in_digit level (omega (arith, le)) d
last_end level (Some n) d le is = subst (λ (k : ℕ). k < 58) (sym (end_append d (decimal level) (95 ∷ decimal n))) (ends_in_digit n (omega (arith, is.1)) 95)

part_end : (d : ℕ) (p : PartName) → IsPartName p → end_of d (part_text p) < 58
part_end d p named =
    let last = last_text p.level p.mutation in
    let second = joined (decimal p.max_block) last in
    let first = joined (decimal p.min_block) second in
    let is : end_of d (part_text p) ≡ end_of 95 last =
    end_append d (partition_text p.partition) (95 ∷ first) ∙ (end_append 95 (decimal p.min_block) (95 ∷ second) ∙ end_append 95 (decimal p.max_block) (95 ∷ last)) in
    subst (λ (k : ℕ). k < 58) (sym is) (last_end p.level p.mutation 95 named.level named.mutation)

-- the name of a part is none of a table
no_part : (p : TablePart) (table : List ℕ) → IsPartName p.name → root_text (Part p) ≡ create_name table → ⊥
no_part p table named is =
    let low = part_end (end_of 0 (p.table ++ codes ".part_")) p.name named in
    let e : end_of (end_of 0 (p.table ++ codes ".part_")) (part_text p.name) ≡ 101 =
    sym (end_append 0 (p.table ++ codes ".part_") (part_text p.name)) ∙ (ap (end_of 0) is ∙ end_append 0 table (codes ".create")) in
    absurd (omega (arith, low, e))

create_is : (n : RootName) (table : List ℕ) → IsRootName n → root_text n ≡ create_name table → n ≡ Create table
create_is (Create t) table named is = ap Create (append_cancel_right t table (codes ".create") is)
create_is (Part p) table named is = absurd (no_part p table named.1 is)

-- ---- names that were read

-- what stands at a place is an element
pub item_at : {X : Type 0} (xs : List X) (place : ℕ) (x : X) → slice_get xs place ≡ Some x → HasItem xs x
item_at xs place x is = (place, slice_get_within xs place x is, get_or_from_slice_get xs place x x is)

-- a name with a folder is among those that were read
pub name_read : (names : Names) (read : List RootName) (name : List ℕ) (files : Files) → map root_text read ≡ map (λ (n : List ℕ × Files). n.0) names → files_at name names ≡ Some files
    → (n : RootName) × HasItem read n × (root_text n ≡ name)
name_read [] read name files is at = cc
name_read (m ∷ names) [] name files is at = cc
name_read (m ∷ names) (r ∷ read) name files is at = by (is_at (slice_cmp nat_cmp name) m.0) refl at (name_read names read name files (ap (λ (ts : List (List ℕ)). drop 1 ts) is))
  where
    by : (b : Bool) → is_at (slice_cmp nat_cmp name) m.0 ≡ b → cond b (Some m.1) (files_at name names) ≡ Some files
        → (files_at name names ≡ Some files → (n : RootName) × HasItem read n × (root_text n ≡ name)) → (n : RootName) × HasItem (r ∷ read) n × (root_text n ≡ name)
    by true hit found rest =
        let first : root_text r ≡ m.0 = ap (λ (ts : List (List ℕ)). get_or ts 0 []) is in
        (r, item_first r read, first ∙ sym (found_is name m.0 hit))
    by false miss found rest = let more = rest found in (more.0, item_more r more.0 read more.1, more.2)

-- a table that has a folder is among them
pub table_read : (names : Names) (read : List RootName) (table : List ℕ) (files : Files) → AreNamesRead names read → files_at (create_name table) names ≡ Some files → HasTable read table
table_read names read table files are at =
    let found = name_read names read (create_name table) files are.spelled at in
    subst (HasItem read) (create_is found.0 table (All-contains IsRootName read found.0 are.sound found.1) found.2) found.1
