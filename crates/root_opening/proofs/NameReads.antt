-- Names that are read one after the other.
use Rattle.std.proofs.Common.{◌≡◌, ℕ, ◌+◌, ◌<◌, ◌≤◌, Bool, true, false, cond, List, [], ◌∷◌, ◌++◌, length, take, map, get_or, refl, sym, ap, ap₂, ◌∙◌, subst, arith, length-append}
use Rattle.std.proofs.lemmas.List.{take_all, take_more, map_push}
use Rattle.std.proofs.lemmas.List.Elements.{All-head, All-tail, All-push, filter-append}
use Rattle.std.proofs.lemmas.Option.{slice_get_read}
use Rattle.std.specs.Cmp.Lexicographic.{slice_cmp}
use Rattle.std.specs.List.{All, AllByRecursion, filter}
use Rattle.std.specs.List.Sorted.{IsStrictlySortedBy}
use Rattle.std.specs.Ordering.{nat_cmp}
use Rattle.std.specs.declared.cmp.Ordering.TheVariants.{Less}
use Rattle.root_store.specs.part_set.declared.root_name.RootName.{RootName}
use Rattle.root_store.specs.part_set.NameOrder.{Rise, name_cmp}
use Rattle.root_store.specs.part_set.RootNames.{IsRootName, root_text}
use Rattle.root_store.proofs.PartSetNameTexts.{root_names_same}
use Rattle.root_store.specs.Damage.{is_entry_name, most_tables}
use Rattle.root_opening.specs.Names.{AreNamesOf, IsBadBehind, IsFirstBadText, creates_in}

-- names whose texts rise in byte order do so
below_all : (a : RootName) (names : List RootName) → AllByRecursion (λ y. slice_cmp nat_cmp (root_text a) y ≡ Less) (map root_text names) → AllByRecursion (λ n. name_cmp a n ≡ Less) names
below_all a [] all = tt
below_all a (n ∷ names) all = (all.0, below_all a names all.1)

rising : (names : List RootName) → IsStrictlySortedBy (slice_cmp nat_cmp) (map root_text names) → Rise names
unfolding IsStrictlySortedBy
rising [] rise = tt
rising (n ∷ names) rise = (below_all n names rise.0, rising names rise.1)

pub names_rise : (texts : List (List ℕ)) (names : List RootName) → AreNamesOf texts names → IsStrictlySortedBy (slice_cmp nat_cmp) texts → Rise names
names_rise texts names are rise = rising names (subst (IsStrictlySortedBy (slice_cmp nat_cmp)) (sym are.spelled) rise)

-- one name more
pub names_more : (texts : List (List ℕ)) (place : ℕ) (text : List ℕ) (names : List RootName) (n : RootName) → place < length texts → text ≡ get_or texts place text → AreNamesOf (take place texts) names
    → IsRootName n → root_text n ≡ text → AreNamesOf (take (place + 1) texts) (names ++ n ∷ [])
names_more texts place text names n inside here are named is = record {
  sound = All-push IsRootName names n are.sound named;
  spelled =
      map_push root_text names n
      ∙ (ap₂ (λ (front : List (List ℕ)) (t : List ℕ). front ++ t ∷ []) are.spelled (is ∙ here) ∙ sym (take_more texts place text inside));
}

one_counted : (n : RootName) (b : Bool) → is_entry_name n ≡ b → length (filter is_entry_name (n ∷ [])) ≡ cond b 1 0
one_counted n b is = ap (λ (c : Bool). length (cond c (n ∷ []) [])) is ∙ counted b
  where
    counted : (c : Bool) → length (cond c (n ∷ []) []) ≡ cond c 1 0
    counted true = refl
    counted false = refl

-- one name more of a table, or none
pub creates_more : (names : List RootName) (n : RootName) → creates_in (names ++ n ∷ []) ≡ creates_in names + cond (is_entry_name n) 1 0
creates_more names n =
    ap length (filter-append is_entry_name names (n ∷ [])) ∙ (length-append (filter is_entry_name names) (filter is_entry_name (n ∷ [])) ∙ ap (λ (k : ℕ). creates_in names + k) (one_counted n (is_entry_name n) refl))

-- texts are those of one list of names
pub same_names : (a b : List RootName) → All IsRootName a → All IsRootName b → map root_text a ≡ map root_text b → a ≡ b
same_names [] [] sound also is = refl
same_names [] (y ∷ b) sound also is = absurd cc
same_names (x ∷ a) [] sound also is = absurd cc
same_names (x ∷ a) (y ∷ b) sound also is =
    let first : root_text x ≡ root_text y = cc in
    let rest : map root_text a ≡ map root_text b = cc in
    ap₂ ◌∷◌ (root_names_same x y (All-head IsRootName x a sound) (All-head IsRootName y b also) first) (same_names a b (All-tail IsRootName x a sound) (All-tail IsRootName y b also) rest)

-- of a table there is room for one more
pub few_more : (tables count : ℕ) (n : RootName) → tables ≤ most_tables → (is_entry_name n ≡ true → tables < most_tables) → count ≡ cond (is_entry_name n) 1 0 → tables + count ≤ most_tables
few_more tables count n few room is = by (is_entry_name n) refl
  where
    by : (b : Bool) → is_entry_name n ≡ b → tables + count ≤ most_tables
    by true create = let one : count ≡ 1 = is ∙ ap (λ (c : Bool). cond c 1 0) create in let less = room create in omega arith
    by false part = let none : count ≡ 0 = is ∙ ap (λ (c : Bool). cond c 1 0) part in omega arith

-- a bad name after names that were read is the first one
pub bad_first : (texts : List (List ℕ)) (place : ℕ) (text : List ℕ) (names : List RootName) (tables : ℕ) → place < length texts → text ≡ get_or texts place text → AreNamesOf (take place texts) names → tables ≡ creates_in names
    → tables ≤ most_tables → IsBadBehind tables text → IsFirstBadText texts place
bad_first texts place text names tables inside here are count few bad = record {
  text = text;
  here = slice_get_read texts (length texts) place text refl inside here;
  before = names;
  read = are;
  few = subst (λ (k : ℕ). k ≤ most_tables) count few;
  bad = subst (λ (k : ℕ). IsBadBehind k text) count bad;
}

-- after the last text all are read
pub names_all : (texts : List (List ℕ)) (place : ℕ) (names : List RootName) → length texts ≤ place → AreNamesOf (take place texts) names → AreNamesOf texts names
names_all texts place names end are = subst (λ (ts : List (List ℕ)). AreNamesOf ts names) (take_all place texts end) are
