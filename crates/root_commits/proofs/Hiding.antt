-- Which parts are visible once one name more is among those that were read.
use Rattle.std.proofs.Common.{◌≡◌, ◌≢◌, ℕ, ◌<◌, ◌≤◌, List, sym, ap, ◌∙◌, subst, arith, inl, inr, ◌⊎◌}
use Rattle.std.proofs.lemmas.List.Elements.{All-contains}
use Rattle.std.specs.List.{All}
use Rattle.root_store.specs.part_name.PartNames.{IsPartName, Meet}
use Rattle.root_store.specs.part_set.declared.root_name.RootName.{RootName}
use Rattle.root_store.specs.part_set.declared.root_name.RootName.TheVariants as root
use Rattle.root_store.specs.part_set.declared.root_name.TablePart.{TablePart}
use Rattle.root_store.specs.part_set.RootNames.{IsRootName}
use Rattle.root_store.specs.part_set.Visible.{Covers, HasPart, IsVisible}
use Rattle.root_commits.proofs.Added.{read_or_new, read_with, still_read}

same_part : (p q : TablePart) → root.Part p ≡ root.Part q → p ≡ q
same_part p q e = cc

-- ---- one table more hides no part and shows none

module _ (read : List RootName) (table : List ℕ) where
  pub part_was : (part : TablePart) → HasPart (read_with (root.Create table) read) part → HasPart read part
  part_was part has = elim (read_or_new (root.Create table) read (root.Part part) has) [ inl old ↦ old | inr same ↦ cc ]

  pub table_hides_none : (part : TablePart) → IsVisible read part → IsVisible (read_with (root.Create table) read) part
  table_hides_none part visible = record {
    here = still_read (root.Create table) read (root.Part part) visible.here;
    shows = λ hidden. visible.shows (record { by = hidden.by; here = part_was hidden.by hidden.here; other = hidden.other; covers = hidden.covers });
  }

  pub table_shows_none : (part : TablePart) → IsVisible (read_with (root.Create table) read) part → IsVisible read part
  table_shows_none part visible = record {
    here = part_was part visible.here;
    shows = λ hidden. visible.shows (record { by = hidden.by; here = still_read (root.Create table) read (root.Part hidden.by) hidden.here; other = hidden.other; covers = hidden.covers });
  }

-- ---- one part more

module _ (read : List RootName) (new : TablePart) where
  abbrev pub names_with : List RootName
  names_with = read_with (root.Part new) read

  pub part_or_new : (part : TablePart) → HasPart names_with part → HasPart read part ⊎ (new ≡ part)
  part_or_new part has = elim (read_or_new (root.Part new) read (root.Part part) has) [ inl old ↦ inl old | inr same ↦ inr (same_part new part same) ]

  -- what it does not cover stays visible
  pub still_visible : (part : TablePart) → IsVisible read part → (Covers new part → ⊥) → IsVisible names_with part
  still_visible part visible clear = record {
    here = still_read (root.Part new) read (root.Part part) visible.here;
    shows = λ hidden. elim (part_or_new hidden.by hidden.here) [
      | inl old ↦ visible.shows (record { by = hidden.by; here = old; other = hidden.other; covers = hidden.covers })
      | inr same ↦ clear (subst (λ (p : TablePart). Covers p part) (sym same) hidden.covers)
    ];
  }

  -- no other becomes visible
  pub was_visible : (part : TablePart) → HasPart read part → IsVisible names_with part → IsVisible read part
  was_visible part here visible = record {
    here = here;
    shows = λ hidden. visible.shows (record { by = hidden.by; here = still_read (root.Part new) read (root.Part hidden.by) hidden.here; other = hidden.other; covers = hidden.covers });
  }

  -- it is visible itself where none covers it
  pub new_visible : ((part : TablePart) → HasPart read part → Covers part new → ⊥) → HasPart names_with new → IsVisible names_with new
  new_visible none_covers here = record {
    here = here;
    shows = λ hidden. elim (part_or_new hidden.by hidden.here) [
      | inl old ↦ none_covers hidden.by old hidden.covers
      | inr same ↦ hidden.other (sym same)
    ];
  }

-- ---- a part above all others of its table

module _ (read : List RootName) (sound : All IsRootName read) (new : TablePart) (n : ℕ) (begins : n < new.name.min_block) (order : new.name.min_block ≤ new.name.max_block)
    (ends : (part : TablePart) → HasPart read part → part.table ≡ new.table → part.name.max_block ≤ n) where
  named : (part : TablePart) → HasPart read part → IsPartName part.name
  named part here = (All-contains IsRootName read (root.Part part) sound here).1

  pub covers_none : (part : TablePart) → HasPart read part → Covers new part → ⊥
  covers_none part here covers =
      let below = ends part here (sym covers.table) in
      let own = (named part here).order in
      let least = covers.name.min_block in
      omega (arith, below, own, least, begins)

  pub none_covers : (part : TablePart) → HasPart read part → Covers part new → ⊥
  none_covers part here covers =
      let below = ends part here covers.table in
      let most = covers.name.max_block in
      omega (arith, below, most, begins, order)

-- ---- a part in place of those that it contains

-- Each visible part of its table that has a block in common with it is within it, at a lower level, and there is one.
pub record MayReplace (read : List RootName) (new : TablePart) : Type 0 where
  pub within : (part : TablePart) → IsVisible read part → part.table ≡ new.table → Meet part.name new.name → Covers new part × (part.name.level < new.name.level)
  pub one : TablePart
  pub one_visible : IsVisible read one
  pub one_within : Covers new one
  pub one_lower : one.name.level < new.name.level

covers_on : (a b c : TablePart) → Covers a b → Covers b c → Covers a c
covers_on a b c first second = record {
  table = first.table ∙ second.table;
  name =
      let x = first.name in
      let y = second.name in
      let low = x.min_block in
      let low_too = y.min_block in
      let high = x.max_block in
      let high_too = y.max_block in
      let level = x.level in
      let level_too = y.level in
      let done = x.mutation in
      let done_too = y.mutation in
      record {
        partition = x.partition ∙ y.partition;
        min_block = omega (arith, low, low_too);
        max_block = omega (arith, high, high_too);
        level = omega (arith, level, level_too);
        mutation = omega (arith, done, done_too);
      };
}

-- what a part of blocks in order covers has one in common with it
pub covered_meets : (new part : TablePart) → part.name.min_block ≤ part.name.max_block → Covers new part → Meet part.name new.name
covered_meets new part order covers =
    let low = covers.name.min_block in
    let high = covers.name.max_block in
    record { partition = sym covers.name.partition; low = omega (arith, order, high); high = omega (arith, order, low) }

module _ (read : List RootName) (new : TablePart) (may : MayReplace read new) where
  other_than_one : new ≢ may.one
  other_than_one same =
      let level : new.name.level ≡ may.one.name.level = ap (λ (p : TablePart). p.name.level) same in
      let low = may.one_lower in
      absurd (omega (arith, level, low))

  -- it is not among the names
  pub not_there : HasPart read new → ⊥
  not_there here = may.one_visible.shows (record { by = new; here = here; other = other_than_one; covers = may.one_within })

  -- nor is a part that covers it
  pub not_covered : (part : TablePart) → HasPart read part → Covers part new → ⊥
  not_covered part here covers = may.one_visible.shows (record { by = part; here = here; other = apart; covers = covers_on part new may.one covers may.one_within })
    where
      apart : part ≢ may.one
      apart same =
          let level : part.name.level ≡ may.one.name.level = ap (λ (p : TablePart). p.name.level) same in
          let low = may.one_lower in
          let most = covers.name.level in
          absurd (omega (arith, level, low, most))

  -- what it covers is hidden then
  pub hides : (part : TablePart) → HasPart read part → Covers new part → IsVisible (names_with read new) part → HasPart (names_with read new) new → ⊥
  hides part old covers visible here = visible.shows (record { by = new; here = here; other = λ same. not_there (subst (HasPart read) (sym same) old); covers = covers })
