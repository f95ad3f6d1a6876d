-- What a crash leaves of a root, by the marks with which entries were noted.
use Rattle.std.proofs.Common.{◌≡◌, ◌⊎◌, inl, inr, ℕ, zero, suc, ◌+◌, ◌-◌, ◌<◌, ◌≤◌, List, [], ◌∷◌, ◌++◌, length, take, slice_get, Option, Some, None, refl, sym, ap, ◌∙◌, subst, arith, append-nil, length-append}
use Rattle.std.proofs.lemmas.Bool.{cases_lt}
use Rattle.std.proofs.lemmas.List.{length-map, take_all}
use Rattle.std.proofs.lemmas.Option.{slice_get_within}
use Rattle.mt_values.specs.declared.annals.Noted.{Noted}
use Rattle.mt_values.specs.declared.command.Entry.{Entry}
use Rattle.mt_values.specs.Annals as keeper
use Rattle.mt_outside.specs.Disk.{Image, Names, Since, Told, at_clock, names_of}
use Rattle.mt_outside.proofs.Changes.{image_from_left, left_at_all, since-sync, survive_same}
use Rattle.mt_outside.proofs.Crashes.{image_as_read, image_synced, stamped_sync}
use Rattle.table_core.specs.mt_model.History.{History}
use Rattle.root_store.specs.Crashes.{AllStand, BeginsWith, HoldsFirst, IsCrashSafe, IsFirstOf, IsMarkAfter, entries_of, none_begun}
use Rattle.root_store.specs.Roots.{Stands}

-- ---- numbers, and options that are equal

pub squeezed : (m k n : ℕ) → m ≡ n → m ≤ k → k ≤ n → k ≡ n
squeezed m k n all low high = omega (arith, all, low, high)

pub one_more : (m n : ℕ) → m ≤ n → m ≤ n + 1
one_more m n low = omega (arith, low)

pub same_least : (m n : ℕ) → m ≡ n → m ≤ n
same_least m n same = omega (arith, same)

pub last_place : (at count old : ℕ) → old ≤ at → at < count → count ≡ old + 1 → at ≡ old
last_place at count old low high is = omega (arith, low, high, is)

pub some_one : {X : Type 0} (x y : X) → Some x ≡ Some y → x ≡ y
some_one x y same = cc

pub none_some : {A : Type 0} (e : Entry) → None ≡ Some e → A
none_some e is = absurd cc

-- ---- what a crash leaves

-- a crash since the mark as it stands is a crash now
pub now_is_image : (told : Told) (clock : ℕ) (names : Names) → Since told clock clock names → Image told clock names
now_is_image told clock names left =
    let same : left.0 ≡ clock = omega (arith, left.2, left.3) in
    subst (λ (c : ℕ). Image told c names) same (image_from_left told left.0 left.1 names left.4)

-- a crash now is one since any mark that is past
pub image_is_since : (told : Told) (clock mark : ℕ) (names : Names) → mark ≤ clock → Image told clock names → Since told clock mark names
image_is_since told clock mark names past image = (clock, length (at_clock clock told), past, omega arith, left_at_all told clock names image)

pub slice_get-append_front : {X : Type 0} (xs ys : List X) (n : ℕ) → n < length xs → slice_get (xs ++ ys) n ≡ slice_get xs n
slice_get-append_front [] ys n within = absurd (omega (arith, within))
slice_get-append_front (x ∷ xs) ys zero within = refl
slice_get-append_front (x ∷ xs) ys (suc n) within = slice_get-append_front xs ys n (omega (arith, within))

pub slice_get-append_seam : {X : Type 0} (xs : List X) (y : X) → slice_get (xs ++ y ∷ []) (length xs) ≡ Some y
slice_get-append_seam [] y = refl
slice_get-append_seam (x ∷ xs) y = slice_get-append_seam xs y

-- the last of the list, where it is longer than at the start
pub last_of : (list : List Noted) (n : ℕ) → n < length list → (x : Noted) × (slice_get list n ≡ Some x)
last_of [] n within = absurd (omega (arith, within))
last_of (x ∷ list) zero within = (x, refl)
last_of (x ∷ list) (suc n) within = last_of list n (omega (arith, within))

-- some mark is after all entries
pub mark_of_all : (base start : ℕ) (list : List Noted) → base ≤ length list → (mark : ℕ) × IsMarkAfter base start list (length list) mark
mark_of_all base start list least = elim (cases_lt base (length list)) [
  | inl more ↦ (let last = last_of list (length list - 1) (omega (arith, more)) in (last.0.mark, inr (length list - 1, last.0, omega (arith, more), omega (arith, more), last.1, refl)))
  | inr all ↦ (start, inl (omega (arith, least, all), refl))
]

-- it is after no more entries than there are
pub within_list : (base start : ℕ) (list : List Noted) (m mark : ℕ) → base ≤ length list → IsMarkAfter base start list m mark → m ≤ length list
within_list base start list m mark least (inl first) = omega (arith, least, first.0)
within_list base start list m mark least (inr later) = (let within = slice_get_within list later.0 later.1 later.4 in omega (arith, within, later.3))

pub all_entries : (list : List Noted) → take (length list) (entries_of list) ≡ entries_of list
all_entries list = take_all (length list) (entries_of list) (let same = length-map list (λ (n : Noted). n.entry) in omega (arith, same))

-- a list that begins with another is no shorter
pub no_shorter : (first list : List Noted) → BeginsWith first list → length first ≤ length list
no_shorter first list begins = (let count = ap length begins.1 ∙ length-append first begins.0 in omega (arith, count))

-- what holds of the list alone holds whatever is begun
pub begun_too : (m : ℕ) (list : List Noted) (begun : Option Entry) (names : Names) → HoldsFirst m list None names → HoldsFirst m list begun names
begun_too m list begun names held = by held.1
  where
    by : IsFirstOf m list None held.0 → HoldsFirst m list begun names
    by (inl first) = (held.0, inl first, held.2)
    by (inr all) = none_some all.0 all.1

pub safe_begun : (told : Told) (clock : ℕ) (kept : keeper.Told) (first : List Noted) (start : ℕ) → IsCrashSafe told clock (none_begun kept.list) first start → IsCrashSafe told clock kept first start
safe_begun told clock kept first start safe = record {
  stamped = safe.stamped;
  begins = safe.begins;
  at_start = safe.at_start;
  past = safe.past;
  images = λ m mark names after left. begun_too m kept.list kept.begun names (safe.images m mark names after left);
}

-- a run begins so
pub safe_at_start : (told : Told) (clock : ℕ) (list : List Noted) → AllStand told clock (entries_of list) → IsCrashSafe told clock (none_begun list) list clock
safe_at_start told clock list all = record {
  stamped = all.stamped;
  begins = ([], sym (append-nil list));
  at_start = λ names left. all.images names (image_from_left told clock 0 names left);
  past = λ m mark after. elim after [
    | inl first ↦ (let is = first.1 in omega (arith, is))
    | inr later ↦ (let within = slice_get_within list later.0 later.1 later.4 in let base = later.2 in absurd (omega (arith, within, base)))
  ];
  images = λ m mark names after left. elim after [
    | inl first ↦ (
        let image = now_is_image told clock names (subst (λ (c : ℕ). Since told clock c names) first.1 left) in
        let count = first.0 in
        (entries_of list, inl (length list, omega (arith, count), omega arith, sym (all_entries list)), all.images names image))
    | inr later ↦ (let within = slice_get_within list later.0 later.1 later.4 in let base = later.2 in absurd (omega (arith, within, base)))
  ];
}

module _ (told : Told) (clock : ℕ) (list first : List Noted) (start : ℕ) (safe : IsCrashSafe told clock (none_begun list) first start) where
  abbrev pub base : ℕ
  base = length first

  pub least : base ≤ length list
  least = no_shorter first list safe.begins

  pub held_all : (m : ℕ) (names : Names) → m ≡ length list → HoldsFirst m list None names → Stands names (entries_of list)
  held_all m names all held = by held.1
    where
      by : IsFirstOf m list None held.0 → Stands names (entries_of list)
      by (inl first) =
          let count : first.0 ≡ length list = squeezed m first.0 (length list) all first.1 first.2 in
          subst (Stands names) (first.3 ∙ (ap (λ (n : ℕ). take n (entries_of list)) count ∙ all_entries list)) held.2
      by (inr begun) = none_some begun.0 begun.1

  -- whatever a crash now leaves stands for the list
  pub safe_now : (names : Names) → Image told clock names → Stands names (entries_of list)
  safe_now names image =
      let last = mark_of_all base start list least in
      held_all (length list) names refl (safe.images (length list) last.0 names last.1 (image_is_since told clock last.0 names (safe.past (length list) last.0 last.1) image))

  pub safe_stands : AllStand told clock (entries_of list)
  safe_stands = record { stamped = safe.stamped; images = safe_now }

  -- a sync of the names keeps it so
  pub safe_synced : IsCrashSafe told (clock + 1) (none_begun list) first start
  safe_synced = record {
    stamped = stamped_sync told clock safe.stamped;
    begins = safe.begins;
    at_start = safe.at_start;
    past = λ m mark after. one_more mark clock (safe.past m mark after);
    images = λ m mark names after left. elim (since-sync told clock mark names left) [
      | inl old ↦ safe.images m mark names after old
      | inr image ↦ safe.images m mark names after (image_is_since told clock mark names (safe.past m mark after) (image_synced told clock names safe.stamped image))
    ];
  }

-- a root that is opened is read, and then its names are settled or not
pub safe_opened : (told : Told) (clock now : ℕ) (list : List Noted) → AllStand told clock (entries_of list) → (now ≡ clock) ⊎ (now ≡ clock + 1) → IsCrashSafe told now (none_begun list) list clock
safe_opened told clock now list all (inl same) = subst (λ (c : ℕ). IsCrashSafe told c (none_begun list) list clock) (sym same) (safe_at_start told clock list all)
safe_opened told clock now list all (inr raised) =
    subst (λ (c : ℕ). IsCrashSafe told c (none_begun list) list clock) (sym raised) (safe_synced told clock list list clock (safe_at_start told clock list all))

-- the names as they read are among what a crash may leave
pub stands_as_read : (told : Told) (clock : ℕ) (h : History) → AllStand told clock h → Stands (names_of told) h
stands_as_read told clock h all = all.images (names_of told) (image_as_read told clock (names_of told) all.stamped (survive_same (names_of told)))
