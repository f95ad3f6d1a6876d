-- A store that is started again after a crash goes on with one list, whatever that crash left of its files.
use Rattle.std.proofs.Common.{◌≡◌, inl, inr, ℕ, ◌+◌, ◌<◌, ◌≤◌, List, [], ◌∷◌, ◌++◌, length, map, take, Option, Some, refl, sym, ap, ◌∙◌, subst, arith, append-nil, length-append}
use Rattle.std.proofs.lemmas.Bool.{cases_lt}
use Rattle.std.proofs.lemmas.List.{length-map, length-take}
use Rattle.mt_values.specs.declared.annals.Noted.{Noted}
use Rattle.mt_values.specs.declared.command.Entry.{Entry}
use Rattle.mt_values.specs.Grammar.{same_bytes}
use Rattle.mt_outside.specs.Disk.{Image, IsStartedAgain, MayLead, Names, Survive, Told, before_clock, names_after, names_of}
use Rattle.mt_outside.specs.Files.{Files}
use Rattle.mt_outside.proofs.Changes.{survive_same}
use Rattle.mt_outside.proofs.Crashes.{image_as_read}
use Rattle.root_store.specs.mt_model.History.{History}
use Rattle.root_store.specs.mt_model.Numbers.{numbered}
use Rattle.root_store.proofs.MtModelTables.{same_is}
use Rattle.root_store.specs.part_set.declared.root_name.RootName.{RootName}
use Rattle.root_store.specs.part_set.declared.root_name.TablePart.{TablePart}
use Rattle.root_store.specs.part_set.Visible.{HasPart}
use Rattle.root_store.specs.part_history.declared.part.CorePart.{CorePart}
use Rattle.root_store.specs.part_history.Parts.{has_block, core_parts_of}
use Rattle.root_store.proofs.PartHistoryNumbered.{insert_drawn}
use Rattle.root_store.specs.ByteOrder.{AreInByteOrder}
use Rattle.root_store.specs.Crashes.{AllStand, IsCrashSafe, IsFirstOf, IsMarkAfter, entries_of}
use Rattle.root_store.specs.Roots.{AreNamesRead, Stands, named}
use Rattle.root_store.proofs.Counted.{AreTables, as_long, sizes}
use Rattle.root_store.proofs.CrashOrder.{image_rise, same_names}
use Rattle.root_commits.proofs.Growing.{parts_end_by}
use Rattle.root_store.proofs.Items.{counted_one, map_item, unfiltered}
use Rattle.root_store.proofs.Readings.{one_reading}
use Rattle.root_store.proofs.Blocks.{blocks}
use Rattle.root_store.proofs.Tabled.{are_tables, tables_in}

-- ---- names tell how long the history is

-- the last number that a table drew is that of a part
last_there : (names : Names) (h : History) (s : Stands names h) (table : List ℕ) → 0 < length (numbered table h) → (part : TablePart) × HasPart s.read part × (part.table ≡ table) × (length (numbered table h) ≤ part.name.max_block)
last_there names h s table some =
    let n = length (numbered table h) in
    let last = insert_drawn table h n (s.unaltered table) (omega (arith, some)) (omega arith) in
    let partition = last.0 in
    let once = (s.stand table).once partition n last.1 in
    let found = counted_one (has_block partition n) (core_parts_of table s.parts) (omega (arith, once)) in
    let from = unfiltered (λ (x : CorePart). same_bytes x.table table) s.parts found.0 found.1 in
    (named found.0, ((s.visible (named found.0)).1 (map_item named s.parts found.0 from.0)).here, same_is found.0.table table from.1, (blocks partition n found.0 found.2).high)

numbers_low : (a b : Names) (h k : History) (s : Stands a h) (r : Stands b k) → s.read ≡ r.read → (table : List ℕ) → length (numbered table h) ≤ length (numbered table k)
numbers_low a b h k s r same table = elim (cases_lt 0 (length (numbered table h))) [
  | inl some ↦ (
      let last = last_there a h s table some in
      let low = last.3 in
      let ends = parts_end_by b k r table last.0 (subst (λ (read : List RootName). HasPart read last.0) same last.1) last.2 in
      omega (arith, low, ends))
  | inr none ↦ omega (arith, none)
]

numbers_same : (a b : Names) (h k : History) (s : Stands a h) (r : Stands b k) → s.read ≡ r.read → (table : List ℕ) → length (numbered table h) ≡ length (numbered table k)
numbers_same a b h k s r same table =
    let low = numbers_low a b h k s r same table in
    let high = numbers_low b a k h r s (sym same) table in
    omega (arith, low, high)

sizes_same : (h k : History) (tables : List (List ℕ)) → ((table : List ℕ) → length (numbered table h) ≡ length (numbered table k)) → sizes h tables ≡ sizes k tables
sizes_same h k [] same = refl
sizes_same h k (t ∷ tables) same = let here = same t in let rest = sizes_same h k tables same in omega (arith, here, rest)

-- histories that roots of the same names stand for are equally long
pub one_length : (a b : Names) (h k : History) → Stands a h → Stands b k → AreInByteOrder a → AreInByteOrder b → map (λ (n : List ℕ × Files). n.0) a ≡ map (λ (n : List ℕ × Files). n.0) b → length h ≡ length k
one_length a b h k s r rise also keys =
    let other : AreNamesRead a r.read = record { sound = r.are.sound; spelled = r.are.spelled ∙ sym keys } in
    let same : s.read ≡ r.read = one_reading a s.read r.read s.are other in
    let tables : AreTables k (tables_in s.read) = subst (λ (read : List RootName). AreTables k (tables_in read)) (sym same) (are_tables b k r also) in
    sym (as_long h (tables_in s.read) s.legal (are_tables a h s rise))
    ∙ (sizes_same h k (tables_in s.read) (numbers_same a b h k s r same) ∙ as_long k (tables_in s.read) r.legal tables)

-- ---- of the histories that a crash may leave there is one of each length

first_length : (list : List Noted) (n : ℕ) → n ≤ length list → length (take n (entries_of list)) ≡ n
first_length list n few =
    let count = length-map list (λ (x : Noted). x.entry) in
    let is = length-take n (entries_of list) in
    omega (arith, few, count, is)

longer_length : (list : List Noted) (e : Entry) → length (entries_of list ++ e ∷ []) ≡ length list + 1
longer_length list e =
    let count = length-map list (λ (x : Noted). x.entry) in
    let is = length-append (entries_of list) (e ∷ []) in
    omega (arith, count, is)

one_first : (m : ℕ) (list : List Noted) (begun : Option Entry) (h k : History) → IsFirstOf m list begun h → IsFirstOf m list begun k → length h ≡ length k → h ≡ k
one_first m list begun h k (inl a) (inl b) count =
    let first = ap length a.3 ∙ first_length list a.0 a.2 in
    let second = ap length b.3 ∙ first_length list b.0 b.2 in
    let same : a.0 ≡ b.0 = omega (arith, count, first, second) in
    a.3 ∙ (ap (λ (n : ℕ). take n (entries_of list)) same ∙ sym b.3)
one_first m list begun h k (inl a) (inr b) count =
    let first = ap length a.3 ∙ first_length list a.0 a.2 in
    let second = ap length b.2 ∙ longer_length list b.0 in
    let few = a.2 in
    absurd (omega (arith, count, first, second, few))
one_first m list begun h k (inr a) (inl b) count =
    let first = ap length b.3 ∙ first_length list b.0 b.2 in
    let second = ap length a.2 ∙ longer_length list a.0 in
    let few = b.2 in
    absurd (omega (arith, count, first, second, few))
one_first m list begun h k (inr a) (inr b) count =
    let both : Some a.0 ≡ Some b.0 = sym a.1 ∙ b.1 in
    let same : a.0 ≡ b.0 = cc in
    a.2 ∙ (ap (λ (e : Entry). entries_of list ++ e ∷ []) same ∙ sym b.2)

-- ---- a disk that was started again

module _ (told now : Told) (clock mark later : ℕ) (again : IsStartedAgain told clock mark now later) where
  all_settled : now ≡ before_clock later now
  all_settled = again.stamped ∙ (ap (λ (ss : Told). before_clock later now ++ ss) again.settled ∙ append-nil (before_clock later now))

  -- each image has the names that it reads
  image_names : (names : Names) → Image now later names → map (λ (n : List ℕ × Files). n.0) (names_of now) ≡ map (λ (n : List ℕ × Files). n.0) names
  image_names names image =
      let kept : Survive (names_after [] (before_clock later now)) names = subst (λ (ss : Told). MayLead (names_after [] (before_clock later now)) ss names) again.settled image in
      same_names (names_of now) names (subst (λ (ss : Told). Survive (names_after [] ss) names) (sym all_settled) kept)

  -- so all of them stand for one of the histories
  pub started_again : (m : ℕ) (list : List Noted) (begun : Option Entry) (first : List Noted) (start : ℕ) → IsCrashSafe told clock (record { list = list; begun = begun }) first start → IsMarkAfter (length first) start list m mark
      → (h : History) × IsFirstOf m list begun h × AllStand now later h
  started_again m list begun first start safe after =
      let read : Image now later (names_of now) = image_as_read now later (names_of now) again.stamped (survive_same (names_of now)) in
      let held = safe.images m mark (names_of now) after (again.images (names_of now) read) in (
        held.0,
        held.1,
        record {
          stamped = again.stamped;
          images = λ names image.
              let other = safe.images m mark names after (again.images names image) in
              let count = one_length (names_of now) names held.0 other.0 held.2 other.2 (image_rise now later (names_of now) read) (image_rise now later names image) (image_names names image) in
              subst (Stands names) (sym (one_first m list begun held.0 other.0 held.1 other.1 count)) other.2;
        },
      )
