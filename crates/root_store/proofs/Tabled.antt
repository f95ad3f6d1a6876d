-- The tables among the names of a root that stands for a history are those of the history, each once.
use Rattle.std.proofs.Common.{◌≡◌, ℕ, ◌≤◌, Bool, true, false, ◌||◌, List, [], ◌∷◌, length, filter, map, is_some, Option, Some, None, refl, sym, ap, ◌∙◌, subst, inl, inr, arith}
use Rattle.std.proofs.lemmas.Cmp.{nat_list_cmp_total, tied_itself}
use Rattle.std.proofs.lemmas.Map.Keys.{sorted_head, sorted_tail}
use Rattle.std.specs.Cmp.Lexicographic.{slice_cmp}
use Rattle.std.specs.List.{AllByRecursion}
use Rattle.std.specs.List.Sorted.{IsStrictlySortedBy}
use Rattle.std.specs.Ordering.{nat_cmp}
use Rattle.std.specs.declared.cmp.Ordering.TheVariants.{Less, Equal}
use Rattle.mt_values.specs.declared.schema.Schema.{Schema}
use Rattle.mt_values.specs.Grammar.{same_bytes}
use Rattle.mt_values.specs.RootNames.{create_name}
use Rattle.mt_outside.specs.Disk.{Names}
use Rattle.table_core.specs.mt_model.History.{History, schema_of}
use Rattle.table_core.proofs.MtModelTables.{itself_same, same_is}
use Rattle.table_core.specs.part_set.declared.root_name.RootName.{RootName}
use Rattle.table_core.specs.part_set.declared.root_name.RootName.TheVariants.{Create, Part}
use Rattle.table_core.specs.part_set.RootNames.{root_text}
use Rattle.table_core.proofs.PartSetItems.{item_first, item_none}
use Rattle.table_core.proofs.PartSetOrphans.{item_more}
use Rattle.table_core.specs.part_set.Visible.{HasTable}
use Rattle.root_store.specs.ByteOrder.{AreInByteOrder}
use Rattle.root_store.specs.Damage.{is_entry_name, most_tables}
use Rattle.root_store.specs.Roots.{Stands}
use Rattle.root_store.proofs.Counted.{Apart, AreTables, AreThere, as_many, creates_few, is_among}
use Rattle.root_store.proofs.EntriesOf.{entry_known, table_entry}
use Rattle.root_store.proofs.Items.{item_either}
use Rattle.root_store.proofs.Readings.{table_read}

-- the tables among names
abbrev pub tables_in : List RootName → List (List ℕ)
tables_in [] = []
tables_in (Create t ∷ names) = t ∷ tables_in names
tables_in (Part p ∷ names) = tables_in names

pub as_many_names : (names : List RootName) → length (filter is_entry_name names) ≡ length (tables_in names)
as_many_names [] = refl
as_many_names (Create t ∷ names) = let more = as_many_names names in omega (arith, more)
as_many_names (Part p ∷ names) = as_many_names names

-- nothing is below itself
pub never_below : (a b : List ℕ) → a ≡ b → slice_cmp nat_cmp a b ≡ Less → ⊥
never_below a b same less =
    let both : Less ≡ Equal = sym (subst (λ (x : List ℕ). slice_cmp nat_cmp a x ≡ Less) (sym same) less) ∙ tied_itself nat_list_cmp_total a in
    cc

none_above : (t : List ℕ) (names : List RootName) → AllByRecursion (λ (y : List ℕ). slice_cmp nat_cmp (create_name t) y ≡ Less) (map root_text names) → is_among (tables_in names) t ≡ false
none_above t [] above = refl
none_above t (Part p ∷ names) above = none_above t names above.1
none_above t (Create u ∷ names) above = by (same_bytes t u) refl (none_above t names above.1)
  where
    by : (b : Bool) → same_bytes t u ≡ b → is_among (tables_in names) t ≡ false → (b || is_among (tables_in names) t) ≡ false
    by true same rest = absurd (never_below (create_name t) (create_name u) (ap create_name (same_is t u same)) above.0)
    by false same rest = rest

apart_in : (names : List RootName) → IsStrictlySortedBy (slice_cmp nat_cmp) (map root_text names) → Apart (tables_in names)
apart_in [] rise = tt
apart_in (Create t ∷ names) rise =
    (none_above t names (sorted_head (slice_cmp nat_cmp) (create_name t) (map root_text names) rise), apart_in names (sorted_tail (slice_cmp nat_cmp) (create_name t) (map root_text names) rise))
apart_in (Part p ∷ names) rise = apart_in names (sorted_tail (slice_cmp nat_cmp) (root_text (Part p)) (map root_text names) rise)

or_true : (a b : Bool) → b ≡ true → (a || b) ≡ true
or_true true b is = refl
or_true false b is = is

one_create : (t u : List ℕ) → Create t ≡ Create u → t ≡ u
one_create t u is = cc

among_read : (names : List RootName) (t : List ℕ) → HasTable names t → is_among (tables_in names) t ≡ true
among_read [] t has = absurd (item_none (Create t) has)
among_read (Create u ∷ names) t has = elim (item_either (Create u) (Create t) names has) [
  | inl same ↦ (let one = one_create u t same in ap (λ (b : Bool). b || is_among (tables_in names) t) (subst (λ (x : List ℕ). same_bytes t x ≡ true) (sym one) (itself_same t)))
  | inr more ↦ or_true (same_bytes t u) (is_among (tables_in names) t) (among_read names t more)
]
among_read (Part p ∷ names) t has = elim (item_either (Part p) (Create t) names has) [
  | inl same ↦ cc
  | inr more ↦ among_read names t more
]

there_in : (h : History) (names : List RootName) → ((t : List ℕ) → HasTable names t → is_some (schema_of t h) ≡ true) → AreThere h (tables_in names)
there_in h [] all = tt
there_in h (Create t ∷ names) all = (all t (item_first (Create t) names), there_in h names (λ u has. all u (item_more (Create t) (Create u) names has)))
there_in h (Part p ∷ names) all = there_in h names (λ u has. all u (item_more (Part p) (Create u) names has))

module _ (names : Names) (h : History) (s : Stands names h) where
  -- a table among the names is one of the history
  pub table_known : (t : List ℕ) → HasTable s.read t → is_some (schema_of t h) ≡ true
  table_known t has = ap is_some (entry_known names h s t has).1

  -- and each of those is among the names
  pub table_here : (t : List ℕ) → is_some (schema_of t h) ≡ true → HasTable s.read t
  table_here t some = by (schema_of t h) refl some
    where
      by : (o : Option Schema) → schema_of t h ≡ o → is_some o ≡ true → HasTable s.read t
      by None is none = cc
      by (Some schema) is one = let folder = table_entry names h s t schema is in table_read names s.read t folder.files s.are folder.there

  pub are_tables : AreInByteOrder names → AreTables h (tables_in s.read)
  are_tables rise = record {
    apart = apart_in s.read (subst (IsStrictlySortedBy (slice_cmp nat_cmp)) (sym s.are.spelled) rise);
    there = there_in h s.read table_known;
    all = λ t some. among_read s.read t (table_here t some);
  }

  pub few_tables : AreInByteOrder names → length (filter is_entry_name s.read) ≤ most_tables
  few_tables rise =
      let count = as_many_names s.read ∙ as_many h (tables_in s.read) s.legal (are_tables rise) in
      let few = creates_few h s.legal in
      omega (arith, count, few)
