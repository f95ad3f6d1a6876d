-- Lists to which rows come by merges.
use Rattle.std.proofs.Common.{◌≡◌, ◌⊎◌, ℕ, zero, suc, ◌+◌, ◌<◌, ◌≤◌, Bool, true, false, nat_lt, List, [], ◌∷◌, ◌++◌, drop, get_or, length, map, take, refl, sym, ap, ap₂, ◌∙◌, subst, inl, inr, arith, add-one, length-append, length-take}
use Rattle.std.specs.List.{Contains}
use Rattle.std.proofs.lemmas.Bool.Decides.{nat_tests}
use Rattle.std.proofs.lemmas.List.{take_more}
use Rattle.std.proofs.lemmas.List.Elements.{Contains-append_cases, Contains-append_left, Contains-append_right, Contains-push, Contains-push_cases}
use Rattle.mt_values.specs.Values.{Row}
use Rattle.part_history.specs.mt_model.Folding.{ComesFrom, Merges, MergesTimes}
use Rattle.part_history.proofs.MtModelMerged.{comes_itself, comes_on}
use Rattle.mt_plain.specs.Outcomes.{AddsExactly, AreExactly, MergesFirst, MergesOneOf}
use Rattle.mt_plain.proofs.Exactly.{contains_map, contains_none, exactly_itself, exactly_joined, exactly_none, map_contains}

-- a test does not both hold and fail
pub not_both : {b : Bool} → b ≡ true → b ≡ false → ⊥
not_both e f = cc

-- ---- lists that are added to

-- an element of the first ones and one more
pub more_cases : {X : Type 0} (xs : List X) (i : ℕ) (d x : X) → i < length xs → Contains (take (i + 1) xs) x → Contains (take i xs) x ⊎ (get_or xs i d ≡ x)
more_cases xs i d x below h = Contains-push_cases (take i xs) (get_or xs i d) x (subst (λ zs. Contains zs x) (take_more xs i d below) h)

pub more_left : {X : Type 0} (xs : List X) (i : ℕ) (d x : X) → i < length xs → Contains (take i xs) x → Contains (take (i + 1) xs) x
more_left xs i d x below h = subst (λ zs. Contains zs x) (sym (take_more xs i d below)) (Contains-append_left (take i xs) (get_or xs i d ∷ []) x h)

pub more_here : {X : Type 0} (xs : List X) (i : ℕ) (d x : X) → i < length xs → get_or xs i d ≡ x → Contains (take (i + 1) xs) x
more_here xs i d x below is = subst (λ zs. Contains zs x) (sym (take_more xs i d below)) (subst (Contains (take i xs ++ get_or xs i d ∷ [])) is (Contains-push (take i xs) (get_or xs i d)))

pub adds_none : {X : Type 0} (xs : List X) → AddsExactly xs xs (Contains [])
adds_none xs x = (λ h. inl h, λ h. by h)
  where
    by : Contains xs x ⊎ Contains [] x → Contains xs x
    by (inl h) = h
    by (inr h) = absurd (contains_none x h)

pub adds_more : {X : Type 0} (old now new : List X) (more : List X) (i : ℕ) (d one : X) → i < length more → one ≡ get_or more i d → AddsExactly old now (Contains (take i more)) → AddsExactly now new (λ x. one ≡ x)
    → AddsExactly old new (Contains (take (i + 1) more))
adds_more old now new more i d one below is before last x = (λ h. into ((last x).0 h), λ h. back h)
  where
    earlier : Contains old x ⊎ Contains (take i more) x → Contains old x ⊎ Contains (take (i + 1) more) x
    earlier (inl h) = inl h
    earlier (inr h) = inr (more_left more i d x below h)

    into : Contains now x ⊎ (one ≡ x) → Contains old x ⊎ Contains (take (i + 1) more) x
    into (inl h) = earlier ((before x).0 h)
    into (inr e) = inr (more_here more i d x below (sym is ∙ e))

    later : Contains (take i more) x ⊎ (get_or more i d ≡ x) → Contains new x
    later (inl h) = (last x).1 (inl ((before x).1 (inr h)))
    later (inr e) = (last x).1 (inr (is ∙ e))

    back : Contains old x ⊎ Contains (take (i + 1) more) x → Contains new x
    back (inl h) = (last x).1 (inl ((before x).1 (inl h)))
    back (inr h) = later (more_cases more i d x below h)

pub adds_known : {X : Type 0} (xs : List X) (one : X) → Contains xs one → AddsExactly xs xs (λ x. one ≡ x)
adds_known xs one known x = (λ h. inl h, λ h. by h)
  where
    by : Contains xs x ⊎ (one ≡ x) → Contains xs x
    by (inl h) = h
    by (inr is) = subst (Contains xs) is known

pub adds_one : {X : Type 0} (xs ys : List X) (one : X) → ys ≡ xs ++ one ∷ [] → AddsExactly xs ys (λ x. one ≡ x)
adds_one xs ys one is = subst (λ zs. AddsExactly xs zs (λ x. one ≡ x)) (sym is) (λ x. (λ h. Contains-push_cases xs one x h, λ h. by x h))
  where
    by : (x : _) → Contains xs x ⊎ (one ≡ x) → Contains (xs ++ one ∷ []) x
    by x (inl h) = Contains-append_left xs (one ∷ []) x h
    by x (inr e) = subst (Contains (xs ++ one ∷ [])) e (Contains-push xs one)

-- a list that is searched
pub not_more : {X : Type 0} (xs : List X) (i : ℕ) (d one x : X) → i < length xs → one ≡ get_or xs i d → (one ≡ x → ⊥) → (Contains (take i xs) x → ⊥) → Contains (take (i + 1) xs) x → ⊥
not_more xs i d one x below is other none h = by (more_cases xs i d x below h)
  where
    by : Contains (take i xs) x ⊎ (get_or xs i d ≡ x) → ⊥
    by (inl k) = none k
    by (inr e) = other (is ∙ e)

-- some are all others, one after another
pub all_so_far : {X : Type 0} (lists others : List X) (i : ℕ) (d one : X) → i < length others → one ≡ get_or others i d → Contains lists one → ((x : X) → Contains (take i others) x → Contains lists x) → (x : X) → Contains (take (i + 1) others) x → Contains lists x
all_so_far lists others i d one below is own before x h = by (more_cases others i d x below h)
  where
    by : Contains (take i others) x ⊎ (get_or others i d ≡ x) → Contains lists x
    by (inl k) = before x k
    by (inr e) = subst (Contains lists) (is ∙ e) own

-- additions after others
pub adds_then : {X : Type 0} (xs ys zs : List X) (P Q R : X → Type 0) → AddsExactly xs ys P → AddsExactly ys zs Q → ((x : X) → P x → R x) → ((x : X) → Q x → R x) → ((x : X) → R x → P x ⊎ Q x) → AddsExactly xs zs R
adds_then xs ys zs P Q R first second left right either x = (λ h. into ((second x).0 h), λ h. back h)
  where
    early : Contains xs x ⊎ P x → Contains xs x ⊎ R x
    early (inl h) = inl h
    early (inr p) = inr (left x p)

    into : Contains ys x ⊎ Q x → Contains xs x ⊎ R x
    into (inl h) = early ((first x).0 h)
    into (inr q) = inr (right x q)

    late : P x ⊎ Q x → Contains zs x
    late (inl p) = (second x).1 (inl ((first x).1 (inr p)))
    late (inr q) = (second x).1 (inr q)

    back : Contains xs x ⊎ R x → Contains zs x
    back (inl h) = (second x).1 (inl ((first x).1 (inl h)))
    back (inr r) = late (either x r)

-- ---- merges

-- the first of two joined lists, and what comes after it
pub take_front : {X : Type 0} (xs ys : List X) → take (length xs) (xs ++ ys) ≡ xs
take_front [] ys = refl
take_front (x ∷ xs) ys = ap (λ zs. x ∷ zs) (take_front xs ys)

pub drop_front : {X : Type 0} (xs ys : List X) → drop (length xs) (xs ++ ys) ≡ ys
drop_front [] ys = refl
drop_front (x ∷ xs) ys = drop_front xs ys

joined_again : {X : Type 0} (n : ℕ) (xs : List X) → xs ≡ take n xs ++ drop n xs
joined_again zero xs = refl
joined_again (suc n) [] = refl
joined_again (suc n) (x ∷ xs) = ap (λ zs. x ∷ zs) (joined_again n xs)

-- what is made of one of some lists
module _ (made : List Row → List Row → Type 0) where
  abbrev pub OneMakes : List (List Row) → List Row → Type 0
  OneMakes lists out = (from : List Row) × Contains lists from × made from out

  pub one_of_none : (lists : List (List Row)) → AreExactly [] (OneMakes (take 0 lists))
  one_of_none lists = exactly_none (OneMakes []) (λ out h. contains_none h.0 h.1)

  pub one_of_more : (lists found new outs : List (List Row)) (i : ℕ) (d list : List Row) → i < length lists → list ≡ get_or lists i d → AreExactly found (OneMakes (take i lists)) → AreExactly outs (made list)
      → AddsExactly found new (Contains outs) → AreExactly new (OneMakes (take (i + 1) lists))
  one_of_more lists found new outs i d list below is before are adds out = (λ h. into ((adds out).0 h), λ h. back h.0 h.2 (more_cases lists i d h.0 below h.1))
    where
      earlier : OneMakes (take i lists) out → OneMakes (take (i + 1) lists) out
      earlier h = (h.0, more_left lists i d h.0 below h.1, h.2)

      into : Contains found out ⊎ Contains outs out → OneMakes (take (i + 1) lists) out
      into (inl h) = earlier ((before out).0 h)
      into (inr h) = (list, more_here lists i d list below (sym is), (are out).0 h)

      back : (from : List Row) → made from out → Contains (take i lists) from ⊎ (get_or lists i d ≡ from) → Contains new out
      back from m (inl h) = (adds out).1 (inl ((before out).1 (from, h, m)))
      back from m (inr e) = (adds out).1 (inr ((are out).1 (subst (λ rs. made rs out) (sym (is ∙ e)) m)))

module _ (run : List Row → List Row → Type 0) where
  -- a merge of a run that begins with the first row and is no longer than this
  abbrev pub UpTo : List Row → ℕ → List Row → Type 0
  UpTo rows n after = (m : MergesFirst run rows after) × (length m.rows ≤ n)

  pub no_run_yet : (rows : List Row) → AreExactly [] (UpTo rows 0)
  no_run_yet rows = exactly_none (UpTo rows 0) (λ after m. let some : 0 < length m.0.rows = m.0.some in let none : length m.0.rows ≤ 0 = m.1 in omega arith)

  shorter_or_so : (rows after : List Row) (n : ℕ) → UpTo rows (n + 1) after → UpTo rows n after ⊎ ((m : MergesFirst run rows after) × (length m.rows ≡ n + 1))
  shorter_or_so rows after n m = by (nat_lt n (length m.0.rows)) refl
    where
      by : (b : Bool) → nat_lt n (length m.0.rows) ≡ b → UpTo rows n after ⊎ ((k : MergesFirst run rows after) × (length k.rows ≡ n + 1))
      by true e = let most : length m.0.rows ≤ n + 1 = m.1 in let least : n < length m.0.rows = grind (arith, nat_tests) in inr (m.0, omega arith)
      by false e = let most : length m.0.rows ≤ n = grind (arith, nat_tests) in inl (m.0, most)

  pub run_longer : (rows : List Row) (n : ℕ) (front back : List Row) (found outs more : List (List Row)) → n < length rows → front ≡ take (n + 1) rows → back ≡ drop (n + 1) rows → AreExactly found (UpTo rows n)
      → AreExactly outs (run front) → more ≡ map (λ out. out ++ back) outs → AreExactly (found ++ more) (UpTo rows (n + 1))
  run_longer rows n front back found outs more below front_is back_is before are is after = (λ h. into (Contains-append_cases found more after h), λ m. out_of (shorter_or_so rows after n m))
    where
      longer : UpTo rows n after → UpTo rows (n + 1) after
      longer m = let most : length m.0.rows ≤ n = m.1 in (m.0, omega arith)

      long : length front ≡ n + 1
      long = ap length front_is ∙ (omega (arith, length-take (n + 1) rows))

      here : (out : List Row) × Contains outs out × (after ≡ out ++ back) → UpTo rows (n + 1) after
      here one = (
        record {
          rows = front;
          out = one.0;
          back = back;
          some = omega (arith, long);
          folded = (are one.0).0 one.1;
          before_is = joined_again (n + 1) rows ∙ ap₂ (λ (a b : List Row). a ++ b) (sym front_is) (sym back_is);
          after_is = one.2;
        },
        omega (arith, long),
      )

      into : Contains found after ⊎ Contains more after → UpTo rows (n + 1) after
      into (inl h) = longer ((before after).0 h)
      into (inr h) = here (map_contains (λ (out : List Row). out ++ back) outs after (subst (λ zs. Contains zs after) is h))

      exact : (m : MergesFirst run rows after) → length m.rows ≡ n + 1 → Contains more after
      exact m size =
          let taken : front ≡ m.rows = front_is ∙ ap₂ (λ (k : ℕ) (rs : List Row). take k rs) (sym size) m.before_is ∙ take_front m.rows m.back in
          let dropped : back ≡ m.back = back_is ∙ ap₂ (λ (k : ℕ) (rs : List Row). drop k rs) (sym size) m.before_is ∙ drop_front m.rows m.back in
          let own : Contains outs m.out = (are m.out).1 (subst (λ rs. run rs m.out) (sym taken) m.folded) in
          subst (λ zs. Contains zs after) (sym is)
          (subst (Contains (map (λ (out : List Row). out ++ back) outs)) (sym (m.after_is ∙ ap (λ zs. m.out ++ zs) (sym dropped))) (contains_map (λ (out : List Row). out ++ back) outs m.out own))

      out_of : UpTo rows n after ⊎ ((m : MergesFirst run rows after) × (length m.rows ≡ n + 1)) → Contains (found ++ more) after
      out_of (inl m) = Contains-append_left found more after ((before after).1 m)
      out_of (inr m) = Contains-append_right found more after (exact m.0 m.1)

  pub runs_whole : (rows : List Row) (n : ℕ) (found : List (List Row)) → length rows ≤ n → AreExactly found (UpTo rows n) → AreExactly found (MergesFirst run rows)
  runs_whole rows n found all are after = (λ h. ((are after).0 h).0, λ m. (are after).1 (m, within m))
    where
      within : (m : MergesFirst run rows after) → length m.rows ≤ n
      within m = let long : length rows ≡ length (m.rows ++ m.back) = ap length m.before_is in omega (arith, length-append m.rows m.back)

  -- no rows have no merge
  pub merges_of_none : AreExactly [] (Merges run [])
  merges_of_none = exactly_none (Merges run []) (λ after m. never m.front m.rows m.back m.some m.before_is)
    where
      never : (front rows back : List Row) → 0 < length rows → [] ≡ front ++ (rows ++ back) → ⊥
      never front rows back some is =
          let none : 0 ≡ length (front ++ (rows ++ back)) = ap length is in
          omega (arith, length-append front (rows ++ back), length-append rows back)

  module _ (first : Row) (others : List Row) where
    abbrev Later : List Row → Type 0
    Later after = (rest : List Row) × (after ≡ first ∷ rest) × Merges run others rest

    at_first : (after : List Row) → MergesFirst run (first ∷ others) after → Merges run (first ∷ others) after
    at_first after m = record { front = []; rows = m.rows; out = m.out; back = m.back; some = m.some; folded = m.folded; before_is = m.before_is; after_is = m.after_is }

    at_later : (after : List Row) → Later after → Merges run (first ∷ others) after
    at_later after h =
        let m = h.2 in
        record { front = first ∷ m.front; rows = m.rows; out = m.out; back = m.back; some = m.some; folded = m.folded; before_is = ap (λ zs. first ∷ zs) m.before_is; after_is = h.1 ∙ ap (λ zs. first ∷ zs) m.after_is }

    either : (after : List Row) → Merges run (first ∷ others) after → MergesFirst run (first ∷ others) after ⊎ Later after
    either after m = by m.front m.before_is m.after_is
      where
        by : (front : List Row) → first ∷ others ≡ front ++ (m.rows ++ m.back) → after ≡ front ++ (m.out ++ m.back) → MergesFirst run (first ∷ others) after ⊎ ((rest : List Row) × (after ≡ first ∷ rest) × Merges run others rest)
        by [] before_is after_is = inl (record { rows = m.rows; out = m.out; back = m.back; some = m.some; folded = m.folded; before_is = before_is; after_is = after_is })
        by (row ∷ front) before_is after_is =
            let one : row ≡ first = cc in
            let rest : others ≡ front ++ (m.rows ++ m.back) = cc in
            inr (front ++ (m.out ++ m.back), after_is ∙ ap (λ r. r ∷ (front ++ (m.out ++ m.back))) one, record { front = front; rows = m.rows; out = m.out; back = m.back; some = m.some; folded = m.folded; before_is = rest; after_is = refl })

    begun : (later more : List (List Row)) → AreExactly later (Merges run others) → more ≡ map (λ list. first ∷ list) later → AreExactly more Later
    begun later more are is = subst (λ zs. AreExactly zs (λ after. (rest : List Row) × (after ≡ first ∷ rest) × Merges run others rest)) (sym is) (λ after. (into after, back after))
      where
        into : (after : List Row) → Contains (map (λ list. first ∷ list) later) after → (rest : List Row) × (after ≡ first ∷ rest) × Merges run others rest
        into after h = let one = map_contains (λ (list : List Row). first ∷ list) later after h in (one.0, one.2, (are one.0).0 one.1)

        back : (after : List Row) → (rest : List Row) × (after ≡ first ∷ rest) × Merges run others rest → Contains (map (λ list. first ∷ list) later) after
        back after h = subst (Contains (map (λ (list : List Row). first ∷ list) later)) (sym h.1) (contains_map (λ (list : List Row). first ∷ list) later h.0 ((are h.0).1 h.2))

    pub merges_exactly : (outs later more : List (List Row)) → AreExactly outs (MergesFirst run (first ∷ others)) → AreExactly later (Merges run others) → more ≡ map (λ list. first ∷ list) later
        → AreExactly (outs ++ more) (Merges run (first ∷ others))
    merges_exactly outs later more firsts are is =
        exactly_joined (MergesFirst run (first ∷ others)) Later (Merges run (first ∷ others)) outs more firsts (begun later more are is) at_first at_later either

  -- ---- many merges

  times_more : (n : ℕ) (rows after : List Row) → MergesTimes (suc n) run rows after → (before : List Row) × MergesTimes n run rows before × Merges run before after
  times_more zero rows after m = (rows, refl, subst (Merges run rows) m.2 m.1)
  times_more (suc n) rows after m = let h = times_more n m.0 after m.2 in (h.0, (m.0, m.1, h.1), h.2)

  more_times : (n : ℕ) (rows before after : List Row) → MergesTimes n run rows before → Merges run before after → MergesTimes (suc n) run rows after
  more_times zero rows before after same m = (after, subst (λ rs. Merges run rs after) (sym same) m, refl)
  more_times (suc n) rows before after many m = (many.0, many.1, more_times n many.0 before after many.2 m)

  pub none_merged : (rows : List Row) (lists : List (List Row)) → lists ≡ rows ∷ [] → AreExactly lists (MergesTimes 0 run rows)
  none_merged rows lists is after = let e = exactly_itself lists rows is after in (λ h. sym (e.0 h), λ h. e.1 (sym h))

  pub merged_more : (rows : List Row) (n : ℕ) (lists outs : List (List Row)) → AreExactly lists (MergesTimes n run rows) → AreExactly outs (MergesOneOf run lists) → AreExactly outs (MergesTimes (n + 1) run rows)
  merged_more rows n lists outs before are after = (λ h. rw add-one (into ((are after).0 h)), λ h. (are after).1 (back (rw add-one at h)))
    where
      into : MergesOneOf run lists after → MergesTimes (suc n) run rows after
      into h = more_times n rows h.0 after ((before h.0).0 h.1) h.2

      back : MergesTimes (suc n) run rows after → MergesOneOf run lists after
      back h = let m = times_more n rows after h in (m.0, (before m.0).1 m.1, m.2)

  -- ---- any number of merges

  -- lists that come of the rows, these among them, and each to which one of them comes by a merge
  pub all_found : (rows : List Row) (lists : List (List Row)) → ((x : List Row) → Contains lists x → ComesFrom run rows x) → Contains lists rows → ((x : List Row) → MergesOneOf run lists x → Contains lists x) → AreExactly lists (ComesFrom run rows)
  all_found rows lists sound own closed after = (sound after, λ came. many came.0 rows own came.1)
    where
      many : (n : ℕ) (before : List Row) → Contains lists before → MergesTimes n run before after → Contains lists after
      many zero before known same = subst (Contains lists) same known
      many (suc n) before known m = many n m.0 (closed m.0 (before, known, m.1)) m.2

  pub none_found : (rows : List Row) (lists : List (List Row)) → lists ≡ rows ∷ [] → ((x : List Row) → Contains lists x → ComesFrom run rows x) × Contains lists rows
  none_found rows lists is = (λ x h. subst (ComesFrom run rows) (sym ((exactly_itself lists rows is x).0 h)) (comes_itself run rows), (exactly_itself lists rows is rows).1 refl)

  -- with those to which they come by one merge
  pub more_found : (rows : List Row) (lists more new : List (List Row)) → ((x : List Row) → Contains lists x → ComesFrom run rows x) × Contains lists rows → AreExactly more (MergesOneOf run lists) → AddsExactly lists new (Contains more)
      → ((x : List Row) → Contains new x → ComesFrom run rows x) × Contains new rows
  more_found rows lists more new before are adds = (λ x h. by x ((adds x).0 h), (adds rows).1 (inl before.1))
    where
      by : (x : List Row) → Contains lists x ⊎ Contains more x → ComesFrom run rows x
      by x (inl h) = before.0 x h
      by x (inr h) = let m = (are x).0 h in comes_on run rows m.0 x (before.0 m.0 m.1) (1, (x, m.2, refl))
