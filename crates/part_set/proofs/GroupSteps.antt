-- Groups, one name further.
use Rattle.std.proofs.Common.{◌≡◌, ℕ, ◌+◌, ◌<◌, Bool, true, false, ◌||◌, not, cond, List, [], ◌∷◌, ◌++◌, length, get_or, take, refl, sym, ap, ◌∙◌, subst, inl, inr, Option, Some, None, is_some}
use Rattle.std.proofs.lemmas.List.{append-nil, take_more}
use Rattle.std.proofs.lemmas.List.Elements.{filter_map-append}
use Rattle.std.proofs.lemmas.List.Folds.{list_any_more}
use Rattle.std.specs.BTreeMap.{BTreeMap, UpdatesBy}
use Rattle.std.specs.Cmp.Lexicographic.{slice_cmp}
use Rattle.std.specs.Ordering.{nat_cmp}
use Rattle.std.specs.List.{cons_option, filter_map}
use Rattle.std.specs.Option.{option_map, option_to_list}
use Rattle.part_name.specs.declared.part.PartName.{PartName}
use Rattle.part_set.specs.declared.root_name.RootName.{RootName}
use Rattle.part_set.specs.declared.root_name.RootName.TheVariants.{Create, Part}
use Rattle.part_set.specs.declared.root_name.TablePart.{TablePart}
use Rattle.part_set.specs.Groups.{AreGroups, group_of, grouped, has_table, is_create, is_same, name_in, names_in, orphan_by}
use Rattle.part_set.proofs.Maps.{found_is, true_or_false}

abbrev pub GroupMap : Type 0
GroupMap = BTreeMap (List ℕ) (List PartName)

-- a list without parts
abbrev empty : Option (List PartName)
empty = Some []

either : (b e : Bool) → cond e empty (cond b empty None) ≡ cond (b || e) empty None
either true true = refl
either true false = refl
either false true = refl
either false false = refl

-- one table more
pub opened_more : (names : List RootName) (i : ℕ) (name : RootName) (old new : GroupMap) → i < length names → name ≡ get_or names i name → AreGroups (take i names) [] old
    → ((t : List ℕ) → group_of new t ≡ cond (is_create t name) empty (group_of old t)) → AreGroups (take (i + 1) names) [] new
opened_more names i name old new inside is groups step = λ t.
    let more : has_table (take (i + 1) names) t ≡ (has_table (take i names) t || is_create t name) = list_any_more (is_create t) names i name inside ∙ ap (λ (n : RootName). has_table (take i names) t || is_create t n) (sym is) in
    step t ∙ (ap (cond (is_create t name) empty) (groups t) ∙ (either (has_table (take i names) t) (is_create t name) ∙ ap (λ (b : Bool). cond b empty None) (sym more)))

pushed : (b : Bool) (parts : List PartName) (o : Option PartName) → option_map (λ (ps : List PartName). ps ++ option_to_list o) (cond b (Some parts) None) ≡ cond b (Some (parts ++ option_to_list o)) None
pushed true parts o = refl
pushed false parts o = refl

one : (o : Option PartName) → cons_option o [] ≡ option_to_list o
one None = refl
one (Some name) = refl

names_more : (names : List RootName) (i : ℕ) (name : RootName) (t : List ℕ) → i < length names → name ≡ get_or names i name → names_in (take (i + 1) names) t ≡ names_in (take i names) t ++ option_to_list (name_in t name)
names_more names i name t inside is =
    ap (filter_map (name_in t)) (take_more names i name inside) ∙ (filter_map-append (name_in t) (take i names) (get_or names i name ∷ [])
    ∙ (ap (λ (n : RootName). names_in (take i names) t ++ filter_map (name_in t) (n ∷ [])) (sym is) ∙ ap (λ (ps : List PartName). names_in (take i names) t ++ ps) (one (name_in t name))))

-- one part more
pub noted_more : (names : List RootName) (i : ℕ) (name : RootName) (old new : GroupMap) → i < length names → name ≡ get_or names i name → AreGroups names (take i names) old
    → ((t : List ℕ) → group_of new t ≡ option_map (λ (ps : List PartName). ps ++ option_to_list (name_in t name)) (group_of old t)) → AreGroups names (take (i + 1) names) new
noted_more names i name old new inside is groups step = λ t.
    step t ∙ (ap (option_map (λ (ps : List PartName). ps ++ option_to_list (name_in t name))) (groups t)
    ∙ (pushed (has_table names t) (names_in (take i names) t) (name_in t name) ∙ ap (λ (ps : List PartName). grouped names ps t) (sym (names_more names i name t inside is))))

-- nothing comes to a list
pub same_lists : (o : Option (List PartName)) → o ≡ option_map (λ (ps : List PartName). ps ++ []) o
same_lists None = refl
same_lists (Some ps) = ap Some (sym (append-nil ps))

module _ (part : TablePart) (t : List ℕ) (old : GroupMap) where
  -- of another table nothing is noted
  other_table : is_same part.table t ≡ false → group_of old t ≡ option_map (λ (ps : List PartName). ps ++ option_to_list (name_in t (Part part))) (group_of old t)
  other_table other = same_lists (group_of old t) ∙ ap (λ (b : Bool). option_map (λ (ps : List PartName). ps ++ option_to_list (cond b (Some part.name) None)) (group_of old t)) (sym other)

  -- nor of a table that is not there
  pub noted_absent : group_of old part.table ≡ None → group_of old t ≡ option_map (λ (ps : List PartName). ps ++ option_to_list (name_in t (Part part))) (group_of old t)
  noted_absent none = elim (true_or_false (is_same part.table t)) [
    | inl here ↦ (
        let absent : group_of old t ≡ None = subst (λ (u : List ℕ). group_of old u ≡ None) (found_is part.table t here) none in
        absent ∙ ap (option_map (λ (ps : List PartName). ps ++ option_to_list (name_in t (Part part)))) (sym absent)
        )
    | inr other ↦ other_table other
  ]

  -- the part comes to its table's list
  pub noted_there : (new : GroupMap) (parts after : List PartName) → after ≡ parts ++ part.name ∷ [] → UpdatesBy (slice_cmp nat_cmp) (slice_cmp nat_cmp part.table) old new (Some after) → group_of old part.table ≡ Some parts
      → group_of new t ≡ option_map (λ (ps : List PartName). ps ++ option_to_list (name_in t (Part part))) (group_of old t)
  noted_there new parts after is updates was = elim (true_or_false (is_same part.table t)) [
    | inl here ↦ (
        let now : group_of new t ≡ Some (parts ++ part.name ∷ []) = subst (λ (u : List ℕ). group_of new u ≡ Some (parts ++ part.name ∷ [])) (found_is part.table t here) (updates.1 ∙ ap Some is) in
        let before : group_of old t ≡ Some parts = subst (λ (u : List ℕ). group_of old u ≡ Some parts) (found_is part.table t here) was in
        now ∙ (ap (option_map (λ (ps : List PartName). ps ++ part.name ∷ [])) (sym before)
        ∙ ap (λ (b : Bool). option_map (λ (ps : List PartName). ps ++ option_to_list (cond b (Some part.name) None)) (group_of old t)) (sym here))
        )
    | inr other ↦ updates.2 t other ∙ other_table other
  ]

some_grouped : (b : Bool) (parts : List PartName) → is_some (cond b (Some parts) None) ≡ b
some_grouped true parts = refl
some_grouped false parts = refl

-- an orphan of the groups is one of the names
pub orphan_same : (names seen : List RootName) (groups : GroupMap) → AreGroups names seen groups → (name : RootName) → orphan_by (λ t. is_some (group_of groups t)) name ≡ orphan_by (has_table names) name
orphan_same names seen groups are (Create t) = refl
orphan_same names seen groups are (Part part) =
    ap (λ (b : Bool). not b || is_some part.name.mutation) (ap is_some (are part.table) ∙ some_grouped (has_table names part.table) (names_in seen part.table))
