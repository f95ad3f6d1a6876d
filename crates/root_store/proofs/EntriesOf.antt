-- The entries of a root that stands for a history are those of its tables.
use Rattle.std.proofs.Common.{◌≡◌, ◌++◌, Bool, true, false, cond, List, ℕ, [], ◌∷◌, Option, Some, None, refl, sym, ap, ◌∙◌, subst, append_assoc, inl, inr, codes}
use Rattle.std.proofs.lemmas.List.{append_cancel_right}
use Rattle.std.specs.List.{Contains as HasItem}
use Rattle.mt_values.specs.declared.command.Command.{Command}
use Rattle.mt_values.specs.declared.command.Command.TheVariants as command
use Rattle.mt_values.specs.declared.command.Create.{Create}
use Rattle.mt_values.specs.declared.command.Entry.{Entry}
use Rattle.mt_values.specs.declared.schema.Schema.{Schema}
use Rattle.mt_values.specs.Grammar.{same_bytes}
use Rattle.mt_values.specs.RootNames.{create_name}
use Rattle.mt_outside.specs.Disk.{Names}
use Rattle.table_core.specs.mt_model.History.{History, IsAllowed, IsLegal, IsLegalAfter, first_of, schema_by, schema_of}
use Rattle.table_core.proofs.MtModelHistories.{schema_more}
use Rattle.table_core.proofs.MtModelTables.{itself_same, same_is}
use Rattle.table_core.specs.part_set.declared.root_name.RootName.TheVariants as root
use Rattle.table_core.specs.part_set.Visible.{HasTable}
use Rattle.table_core.proofs.PartSetItems.{item_none}
use Rattle.root_store.specs.Entries.{EntryHolds, HoldsEntry, create_of, entry_name}
use Rattle.root_store.specs.Roots.{HasFolder, PlacedEntry, Stands}
use Rattle.root_store.proofs.EntryPlaces.{placed_has}
use Rattle.root_store.proofs.EntryReads.{entry_after}
use Rattle.root_store.proofs.Items.{item_either}

-- ---- a history

-- the entry of the command that made a table
pub record IsMadeIn (table : List ℕ) (schema : Schema) (h : History) : Type 0 where
  pub placed : PlacedEntry h
  pub command_is : placed.entry.command ≡ create_of table schema

same_some : {X : Type 0} (x y : X) → Some x ≡ Some y → x ≡ y
same_some x y e = cc

made_more : (table : List ℕ) (schema : Schema) (e : Entry) (h : History) → IsMadeIn table schema h → IsMadeIn table schema (e ∷ h)
made_more table schema e h m =
    let p = m.placed in
    record { placed = record { before = e ∷ p.before; entry = p.entry; after = p.after; is = ap (λ (es : History). e ∷ es) p.is }; command_is = m.command_is }

-- each table of a history was made by one of its commands
pub made_in : (table : List ℕ) (schema : Schema) (h : History) → schema_of table h ≡ Some schema → IsMadeIn table schema h
made_in table schema [] is = absurd cc
made_in table schema (e ∷ h) is = by e.command refl is (made_in table schema h)
  where
    by : (c : Command) → e.command ≡ c → first_of (schema_by table c) (schema_of table h) ≡ Some schema → (schema_of table h ≡ Some schema → IsMadeIn table schema h) → IsMadeIn table schema (e ∷ h)
    by (command.Insert i) same found rest = made_more table schema e h (rest found)
    by (command.Alter a) same found rest = made_more table schema e h (rest found)
    by (command.Create c) same found rest = named (same_bytes c.table table) refl found
      where
        named : (b : Bool) → same_bytes c.table table ≡ b → first_of (cond b (Some c.schema) None) (schema_of table h) ≡ Some schema → IsMadeIn table schema (e ∷ h)
        named true own one = record {
          placed = record { before = []; entry = e; after = h; is = refl };
          command_is = same ∙ (ap (λ (t : List ℕ). create_of t c.schema) (same_is c.table table own) ∙ ap (create_of table) (same_some c.schema schema one));
        }
        named false other later = made_more table schema e h (rest later)

made_after : (before h : History) (e : Entry) (c : Create) → IsLegalAfter before h → HasItem h e → e.command ≡ command.Create c → schema_of c.table (before ++ h) ≡ Some c.schema
made_after before [] e c legal has is = absurd (item_none e has)
made_after before (x ∷ h) e c legal has is = elim (item_either x e h has) [
  | inl same ↦ (
      let made : x.command ≡ command.Create c = ap (λ (y : Entry). y.command) same ∙ is in
      let allowed : IsAllowed before (command.Create c) = subst (IsAllowed before) made legal.0 in
      schema_more c.table before (x ∷ h)
      ∙ (ap (λ (o : Option Schema). first_of o (schema_of c.table (x ∷ h))) allowed.0
      ∙ (ap (λ (d : Command). first_of (schema_by c.table d) (schema_of c.table h)) made ∙ ap (λ (b : Bool). first_of (cond b (Some c.schema) None) (schema_of c.table h)) (itself_same c.table)))
      )
  | inr later ↦ ap (schema_of c.table) (sym (append_assoc before (x ∷ []) h)) ∙ made_after (before ++ x ∷ []) h e c legal.1 later is
]

-- and in a legal one each CREATE gives its table the schema
pub makes : (h : History) (e : Entry) (c : Create) → IsLegal h → HasItem h e → e.command ≡ command.Create c → schema_of c.table h ≡ Some c.schema
makes h e c legal has is = made_after [] h e c legal has is

-- ---- a root

pub entries_differ : (t u : List ℕ) → create_name t ≡ create_name u → t ≡ u
entries_differ t u is = append_cancel_right t u (codes ".create") is

-- of a table that there is
abbrev pub KnownTable : List ℕ → History → Type 0
KnownTable table h = (schema : Schema) × (schema_of table h ≡ Some schema)

known_by : (h before : History) (table : List ℕ) (e : Entry) (c : Command) → IsLegal h → HasItem h e → e.command ≡ c → entry_name before c ≡ Some (create_name table) → KnownTable table h
known_by h before table e (command.Insert i) legal has is named = absurd cc
known_by h before table e (command.Alter a) legal has is named = absurd cc
known_by h before table e (command.Create c) legal has is named =
    let own : c.table ≡ table = entries_differ c.table table (same_some (create_name c.table) (create_name table) named) in
    (c.schema, subst (λ (t : List ℕ). schema_of t h ≡ Some c.schema) own (makes h e c legal has is))

module _ (names : Names) (h : History) (s : Stands names h) where
  -- each table has its entry
  pub table_entry : (table : List ℕ) (schema : Schema) → schema_of table h ≡ Some schema → HasFolder names (create_name table) (EntryHolds table schema)
  table_entry table schema is =
      let m = made_in table schema h is in
      let p = m.placed in
      let folder : HasFolder names (create_name table) (HoldsEntry p.before (create_of table schema)) =
      subst (λ (c : Command). HasFolder names (create_name table) (HoldsEntry p.before c)) m.command_is (s.entries p (create_name table) (ap (entry_name p.before) m.command_is)) in
      record { files = folder.files; there = folder.there; holds = entry_after p.before [] table schema folder.files folder.holds }

  -- and each entry is that of one
  pub entry_known : (table : List ℕ) → HasTable s.read table → KnownTable table h
  entry_known table has =
      let found = s.no_other (root.Create table) has tt in
      known_by h found.0.before table found.0.entry found.0.entry.command s.legal (placed_has h found.0) refl found.1
