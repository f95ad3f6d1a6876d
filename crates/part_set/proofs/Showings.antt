-- The set of the names of the root, one table further.
use Rattle.std.proofs.Common.{◌≡◌, ◌≢◌, ℕ, ◌+◌, ◌<◌, ◌≤◌, Bool, true, false, ◌||◌, List, [], length, get_or, take, refl, sym, ap, ◌∙◌, subst, inl, inr}
use Rattle.std.proofs.lemmas.Bool.{false≢true}
use Rattle.std.proofs.lemmas.List.{take_all}
use Rattle.std.proofs.lemmas.List.Folds.{list_any_more}
use Rattle.part_set.specs.declared.kept.Kept.{Kept}
use Rattle.part_set.specs.declared.root_name.RootName.{RootName}
use Rattle.part_set.specs.declared.root_name.RootName.TheVariants.{Create}
use Rattle.part_set.specs.declared.set.PartSet.{PartSet}
use Rattle.part_set.specs.Groups.{has_table, is_create, is_same, names_in}
use Rattle.part_set.specs.Parts.{HasName}
use Rattle.part_set.specs.Passes.{AreShown}
use Rattle.part_set.specs.Sets.{parts_of}
use Rattle.part_set.specs.Shows.{Shows}
use Rattle.part_set.specs.Visible.{HasNoOrphan, IsVisible}
use Rattle.part_set.proofs.Items.{item_none}
use Rattle.part_set.proofs.Maps.{found_is, true_or_false}
use Rattle.part_set.proofs.Orphans.{same_itself}
use Rattle.part_set.proofs.Visibles.{in_table, shown_visible, table_there, visible_shown}

-- a table that was gone over has what is shown of it, and another has nothing
abbrev pub ShownTable : Bool → List RootName → List ℕ → List (Kept (Unit {0})) → Type 0
ShownTable true names t parts = AreShown (names_in names t) parts
ShownTable false names t parts = parts ≡ []

abbrev pub Showing : List RootName → ℕ → PartSet (Unit {0}) → Type 0
Showing names i set = (t : List ℕ) → ShownTable (has_table (take i names) t) names t (parts_of set t)

or_right : (b e : Bool) → e ≡ true → (b || e) ≡ true
or_right true e is = refl
or_right false e is = is

or_left : (b e : Bool) → e ≡ false → (b || e) ≡ b
or_left true e is = refl
or_left false e is = is

module _ (names : List RootName) (i : ℕ) (name : RootName) (inside : i < length names) (is : name ≡ get_or names i name) where
  more : (t : List ℕ) → has_table (take (i + 1) names) t ≡ (has_table (take i names) t || is_create t name)
  more t = list_any_more (is_create t) names i name inside ∙ ap (λ (n : RootName). has_table (take i names) t || is_create t n) (sym is)

  pub showing_same : (set : PartSet (Unit {0})) → ((t : List ℕ) → is_create t name ≡ false) → Showing names i set → Showing names (i + 1) set
  showing_same set no_table showing = λ t.
      subst (λ (b : Bool). ShownTable b names t (parts_of set t)) (sym (more t ∙ or_left (has_table (take i names) t) (is_create t name) (no_table t))) (showing t)

  pub showing_put : (old new : PartSet (Unit {0})) (table : List ℕ) (parts : List (Kept (Unit {0}))) → name ≡ Create table → Showing names i old
      → AreShown (names_in names table) parts → parts_of new table ≡ parts → ((t : List ℕ) → t ≢ table → parts_of new t ≡ parts_of old t) → Showing names (i + 1) new
  showing_put old new table parts create showing shown put others = λ t.
      let tells : is_create t name ≡ is_same table t = ap (is_create t) create in
      elim (true_or_false (is_same table t)) [
        | inl here ↦ (
            let now : AreShown (names_in names table) (parts_of new table) = subst (AreShown (names_in names table)) (sym put) shown in
            let there : AreShown (names_in names t) (parts_of new t) = subst (λ (u : List ℕ). AreShown (names_in names u) (parts_of new u)) (found_is table t here) now in
            subst (λ (b : Bool). ShownTable b names t (parts_of new t)) (sym (more t ∙ or_right (has_table (take i names) t) (is_create t name) (tells ∙ here))) there
            )
        | inr other ↦ (
            let apart : t ≢ table = λ same. false≢true (sym other ∙ subst (λ (u : List ℕ). is_same table u ≡ true) (sym same) (same_itself table)) in
            let stays = subst (ShownTable (has_table (take i names) t) names t) (sym (others t apart)) (showing t) in
            subst (λ (b : Bool). ShownTable b names t (parts_of new t)) (sym (more t ∙ or_left (has_table (take i names) t) (is_create t name) (tells ∙ other))) stays
            )
      ]

pub showing_none : (names : List RootName) (set : PartSet (Unit {0})) → ((t : List ℕ) → parts_of set t ≡ []) → Showing names 0 set
showing_none names set none = none

module _ (names : List RootName) (i : ℕ) (set : PartSet (Unit {0})) (showing : Showing names i set) (end : length names ≤ i) (no_orphan : HasNoOrphan names) where
  shown_table : (t : List ℕ) → ShownTable (has_table names t) names t (parts_of set t)
  shown_table t = subst (λ (ns : List RootName). ShownTable (has_table ns t) names t (parts_of set t)) (take_all i names end) (showing t)

  shown_there : (t : List ℕ) → has_table names t ≡ true → AreShown (names_in names t) (parts_of set t)
  shown_there t there = subst (λ (b : Bool). ShownTable b names t (parts_of set t)) there (shown_table t)

  shown_absent : (t : List ℕ) → has_table names t ≡ false → parts_of set t ≡ []
  shown_absent t absent = subst (λ (b : Bool). ShownTable b names t (parts_of set t)) absent (shown_table t)

  pub showing_all : Shows names set
  showing_all = record {
    no_orphan = no_orphan;
    no_overlap = λ a b overlap.
        let are = shown_there a.table (table_there names no_orphan a overlap.first.here) in
        let second = subst (λ (u : List ℕ). IsVisible names (in_table u b.name)) (sym overlap.table) overlap.second in
        let same = are.clear a.name b.name (visible_shown names a.table a.name overlap.first) (visible_shown names a.table b.name second) overlap.meet in
        overlap.apart (λ j. record { table = overlap.table j; name = same j });
    visible = λ t n. elim (true_or_false (has_table names t)) [
      | inl there ↦ (
          let are = shown_there t there in
          (λ has. shown_visible names t n ((are.shown n).0 has), λ visible. (are.shown n).1 (visible_shown names t n visible))
          )
      | inr absent ↦ (
        λ has. absurd (item_none n (subst (λ (ks : List (Kept (Unit {0}))). HasName ks n) (shown_absent t absent) has)),
        λ visible. absurd (false≢true (sym absent ∙ table_there names no_orphan (in_table t n) visible.here)),
      )
    ];
  }
