-- The visible parts of a table are those that are shown of its group.
use Rattle.std.proofs.Common.{◌≡◌, ◌≢◌, ℕ, Bool, true, cond, List, [], ◌∷◌, get_or, refl, sym, ap, ◌∙◌, subst, ◌⊎◌, inl, inr, Option, Some, None, arith}
use Rattle.std.proofs.lemmas.Bool.{false≢true}
use Rattle.std.proofs.lemmas.List.Elements.{All-contains, Contains-append_cases, Contains-get_or, Contains-push_cases}
use Rattle.std.proofs.lemmas.List.Sorted.{Contains-permutation, IsPermutation-sym}
use Rattle.std.specs.List.{All, Contains as HasItem, cons_option}
use Rattle.std.specs.List.Sorted.{IsPermutation}
use Rattle.std.specs.BTreeMap.{BTreeMap}
use Rattle.std.specs.Option.{IfNone, IsSome, unwrap_or}
use Rattle.part_name.specs.declared.part.PartName.{PartName}
use Rattle.part_set.specs.declared.kept.Kept.{Kept}
use Rattle.part_set.specs.declared.root_name.RootName.{RootName}
use Rattle.part_set.specs.declared.root_name.RootName.TheVariants.{Create, Part}
use Rattle.part_set.specs.declared.root_name.TablePart.{TablePart}
use Rattle.part_set.specs.Clashes.{HasOverlap}
use Rattle.part_set.specs.Groups.{AreGroups, group_of, has_table, is_same, names_in}
use Rattle.part_set.specs.Parts.{HasName}
use Rattle.part_set.specs.Passes.{AreShown, Clash, IsPlainName, IsShown}
use Rattle.part_set.specs.RootNames.{IsRootName}
use Rattle.part_set.specs.Visible.{HasNoOrphan, HasPart, HasTable, IsVisible}
use Rattle.part_set.proofs.Items.{item_first, item_none}
use Rattle.part_set.proofs.Maps.{found_is, true_or_false}
use Rattle.part_set.proofs.Orphans.{item_more, same_itself, table_told}

-- a part of a table
abbrev pub in_table : List ℕ → PartName → TablePart
in_table table name = record { table = table; name = name }

item_either : {X : Type 0} (x y : X) (xs : List X) → HasItem (x ∷ xs) y → (x ≡ y) ⊎ HasItem xs y
item_either x y xs has = elim (Contains-append_cases (x ∷ []) xs y has) [
  | inl first ↦ elim (Contains-push_cases [] x y first) [ inl none ↦ absurd (item_none y none) | inr same ↦ inl same ]
  | inr more ↦ inr more
]

-- each name in a table's group is that of a part
pub part_in : (names : List RootName) (t : List ℕ) (n : PartName) → HasItem (names_in names t) n → HasPart names (in_table t n)
part_in [] t n has = absurd (item_none n has)
part_in (Create u ∷ ns) t n has = item_more (Create u) (Part (in_table t n)) ns (part_in ns t n has)
part_in (Part p ∷ ns) t n has = elim (true_or_false (is_same p.table t)) [
  | inl here ↦ elim (item_either p.name n (names_in ns t) (subst (λ (b : Bool). HasItem (cons_option (cond b (Some p.name) None) (names_in ns t)) n) here has)) [
    | inl same ↦ (let table = found_is p.table t here in (0, omega arith, λ i. Part (record { table = table i; name = same i })))
    | inr more ↦ item_more (Part p) (Part (in_table t n)) ns (part_in ns t n more)
  ]
  | inr other ↦ item_more (Part p) (Part (in_table t n)) ns (part_in ns t n (subst (λ (b : Bool). HasItem (cons_option (cond b (Some p.name) None) (names_in ns t)) n) other has))
]

behind_option : (o : Option PartName) (xs : List PartName) (n : PartName) → HasItem xs n → HasItem (cons_option o xs) n
behind_option None xs n has = has
behind_option (Some m) xs n has = item_more m n xs has

-- and that of each part is there
pub in_part : (names : List RootName) (t : List ℕ) (n : PartName) → HasPart names (in_table t n) → HasItem (names_in names t) n
in_part [] t n has = absurd (item_none (Part (in_table t n)) has)
in_part (x ∷ ns) t n has = elim (item_either x (Part (in_table t n)) ns has) [
  | inl same ↦ subst (λ (y : RootName). HasItem (names_in (y ∷ ns) t) n) (sym same)
      (subst (λ (b : Bool). HasItem (cons_option (cond b (Some n) None) (names_in ns t)) n) (sym (same_itself t)) (item_first n (names_in ns t)))
  | inr more ↦ behind_option _ (names_in ns t) n (in_part ns t n more)
]

-- what is shown is visible
pub shown_visible : (names : List RootName) (t : List ℕ) (n : PartName) → IsShown (names_in names t) n → IsVisible names (in_table t n)
shown_visible names t n shown = record {
  here = part_in names t n shown.here;
  shows = λ hidden.
      let table : hidden.by.table ≡ t = hidden.covers.table in
      let here = subst (λ (u : List ℕ). HasPart names (in_table u hidden.by.name)) table hidden.here in
      shown.shows hidden.by.name (in_part names t hidden.by.name here) (λ same. hidden.other (λ i. record { table = table i; name = same i })) hidden.covers.name;
}

-- and what is visible is shown
pub visible_shown : (names : List RootName) (t : List ℕ) (n : PartName) → IsVisible names (in_table t n) → IsShown (names_in names t) n
visible_shown names t n visible = record {
  here = in_part names t n visible.here;
  shows = λ other has apart contains. visible.shows (record {
    by = in_table t other;
    here = part_in names t other has;
    other = λ same. apart (ap (λ (p : TablePart). p.name) same);
    covers = record { table = refl; name = contains };
  });
}

no_mutation : (m : Option ℕ) → (IsSome m → ⊥) → m ≡ None
no_mutation None none = refl
no_mutation (Some n) none = absurd (none refl)

-- the names of parts that are no orphans
pub plain_names : (names : List RootName) → All IsRootName names → HasNoOrphan names → (t : List ℕ) → All IsPlainName (names_in names t)
plain_names names named no_orphan t = λ k d inside.
    let n = get_or (names_in names t) k d in
    let here = part_in names t n (Contains-get_or (names_in names t) k d inside) in
    record {
      named = (All-contains IsRootName names (Part (in_table t n)) named here).1;
      plain = no_mutation n.mutation (λ some. no_orphan (Part (in_table t n)) here (inr some));
    }

-- the table of a part is there, where there is no orphan
pub table_there : (names : List RootName) → HasNoOrphan names → (part : TablePart) → HasPart names part → has_table names part.table ≡ true
table_there names no_orphan part here = elim (true_or_false (has_table names part.table)) [
  | inl there ↦ there
  | inr absent ↦ absurd (no_orphan (Part part) here (inl (λ has. false≢true (sym absent ∙ table_told names part.table has))))
]

-- the group of a table that is there
pub group_list : (names : List RootName) (groups : BTreeMap (List ℕ) (List PartName)) (t : List ℕ) → AreGroups names names groups → HasTable names t → unwrap_or (group_of groups t) [] ≡ names_in names t
group_list names groups t are has =
    ap (λ (o : Option (List PartName)). unwrap_or o []) (are t ∙ ap (λ (b : Bool). cond b (Some (names_in names t)) None) (table_told names t has))

-- two of a group that have a block in common overlap
pub clash_overlap : (names : List RootName) (t : List ℕ) → Clash (names_in names t) → HasOverlap names
clash_overlap names t clash =
    let a = in_table t clash.first in
    let b = in_table t clash.second in
    let first = shown_visible names t clash.first clash.first_shown in
    let second = shown_visible names t clash.second clash.second_shown in
    let apart : a ≢ b = λ same. clash.apart (ap (λ (p : TablePart). p.name) same) in
    record {
      first = a;
      second = b;
      overlap = record {
        first = first;
        second = second;
        table = refl;
        meet = clash.meet;
        apart = apart;
        not_covered = λ covers. second.shows (record { by = a; here = first.here; other = apart; covers = covers });
        not_covering = λ covers. first.shows (record { by = b; here = second.here; other = λ same. apart (sym same); covers = covers });
      };
    }

-- ---- in another order

shown_moved : (xs ys : List PartName) → IsPermutation xs ys → (n : PartName) → IsShown xs n → IsShown ys n
shown_moved xs ys moved n shown = record {
  here = Contains-permutation xs ys n moved shown.here;
  shows = λ other has. shown.shows other (Contains-permutation ys xs other (IsPermutation-sym xs ys moved) has);
}

pub are_shown_moved : (xs ys : List PartName) (kept : List (Kept (Unit {0}))) → IsPermutation xs ys → AreShown ys kept → AreShown xs kept
are_shown_moved xs ys kept moved are =
    let back = shown_moved ys xs (IsPermutation-sym xs ys moved) in
    let forth = shown_moved xs ys moved in
    record {
      shown = λ name. (λ has. back name ((are.shown name).0 has), λ shown. (are.shown name).1 (forth name shown));
      clear = λ a b first second. are.clear a b (forth a first) (forth b second);
    }

pub clash_moved : (xs ys : List PartName) → IsPermutation xs ys → Clash ys → Clash xs
clash_moved xs ys moved clash =
    let back = shown_moved ys xs (IsPermutation-sym xs ys moved) in
    record {
      first = clash.first;
      second = clash.second;
      first_shown = back clash.first clash.first_shown;
      second_shown = back clash.second clash.second_shown;
      meet = clash.meet;
      apart = clash.apart;
    }

-- of no part none is shown
pub none_shown : (kept : List (Kept (Unit {0}))) → kept ≡ [] → AreShown [] kept
none_shown kept none = record {
  shown = λ name. (λ has. absurd (item_none name (subst (λ (ks : List (Kept (Unit {0}))). HasName ks name) none has)), λ shown. absurd (item_none name shown.here));
  clear = λ a b first second meet. absurd (item_none a first.here);
}

-- what follows where there is no value
pub none_then : {X P Q : Type 0} (o : Option X) → (P → Q) → IfNone o P → IfNone o Q
none_then None then holds = then holds
none_then (Some x) then holds = tt
