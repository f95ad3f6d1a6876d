-- What the names and the images become as changes are added.
use Rattle.std.proofs.Common.{◌≡◌, ◌⊎◌, inl, inr, ℕ, ◌+◌, ◌<◌, ◌≤◌, min, List, [], ◌∷◌, ◌++◌, length, take, drop, refl, sym, ap, ◌∙◌, subst, arith, append-nil, nat_lt, ◌==◌}
use Rattle.std.proofs.lemmas.Bool.{le-ltb, lt-ltb, ne_eqb, eq-eqb, cases_lt, cond-true, cond-false}
use Rattle.std.proofs.lemmas.List.{take_all, take-append-drop, take-append-le}
use Rattle.std.proofs.lemmas.List.Elements.{filter-append}
use Rattle.mt_outside.specs.declared.disk.Stamped.{Stamped}
use Rattle.mt_outside.specs.declared.disk.Change.{Change}
use Rattle.mt_outside.specs.Files.{Files}
use Rattle.mt_outside.specs.Disk.{Told, Names, Image, Since, LeftAt, MayLead, Survive, AllBy, changed, names_after, before_clock, at_clock, with_change}

-- one more change is made at the end
pub names_after_last : (names : Names) (ss : List (Stamped Files)) (s : Stamped Files) → names_after names (ss ++ s ∷ []) ≡ changed (names_after names ss) s.change
names_after_last names [] s = refl
names_after_last names (x ∷ ss) s = names_after_last (changed names x.change) ss s

-- names survive as they are
pub survive_same : (names : Names) → Survive names names
survive_same [] = tt
survive_same (n ∷ names) = (refl, record { kept = λ file synced. refl }, survive_same names)

-- changes that have not happened leave what was there
pub lead_none : (from to : Names) (ss : List (Stamped Files)) → Survive from to → MayLead from ss to
lead_none from to [] kept = kept
lead_none from to (s ∷ ss) kept = inl (lead_none from to ss kept)

-- what some changes may lead to, more of them may lead to
pub lead_more : (from to : Names) (xs ys : List (Stamped Files)) → MayLead from xs to → MayLead from (xs ++ ys) to
lead_more from to [] ys leads = lead_none from to ys leads
lead_more from to (x ∷ xs) ys (inl leads) = inl (lead_more from to xs ys leads)
lead_more from to (x ∷ xs) ys (inr leads) = inr (lead_more (changed from x.change) to xs ys leads)

-- what the first changes may lead to, all of them may lead to
pub lead_front : (from to : Names) (n : ℕ) (ss : List (Stamped Files)) → MayLead from (take n ss) to → MayLead from ss to
lead_front from to n ss leads = subst (λ (all : List (Stamped Files)). MayLead from all to) (take-append-drop n ss) (lead_more from to (take n ss) (drop n ss) leads)

-- a change at a later mark was not made before this one
pub before_clock-with_change : (told : Told) (c clock : ℕ) (change : Change Files) → c ≤ clock → before_clock c (with_change clock change told) ≡ before_clock c told
before_clock-with_change told c clock change by =
    filter-append (λ (s : Stamped Files). nat_lt s.clock c) told (record { clock = clock; change = change } ∷ [])
    ∙ (ap (λ (ss : List (Stamped Files)). before_clock c told ++ ss) (cond-false (nat_lt clock c) (record { clock = clock; change = change } ∷ []) [] (le-ltb clock c by)) ∙ append-nil (before_clock c told))

-- a change at another mark was not made at this one
pub at_clock-with_change_other : (told : Told) (c clock : ℕ) (change : Change Files) → c < clock → at_clock c (with_change clock change told) ≡ at_clock c told
at_clock-with_change_other told c clock change before =
    filter-append (λ (s : Stamped Files). s.clock == c) told (record { clock = clock; change = change } ∷ [])
    ∙ (ap (λ (ss : List (Stamped Files)). at_clock c told ++ ss) (cond-false (clock == c) (record { clock = clock; change = change } ∷ []) [] (ne_eqb clock c (λ same. omega arith))) ∙ append-nil (at_clock c told))

-- a change at the mark is the last of those made there
pub at_clock-with_change : (told : Told) (clock : ℕ) (change : Change Files) → at_clock clock (with_change clock change told) ≡ at_clock clock told ++ record { clock = clock; change = change } ∷ []
at_clock-with_change told clock change =
    filter-append (λ (s : Stamped Files). s.clock == clock) told (record { clock = clock; change = change } ∷ [])
    ∙ ap (λ (ss : List (Stamped Files)). at_clock clock told ++ ss) (cond-true (clock == clock) (record { clock = clock; change = change } ∷ []) [] (eq-eqb clock clock refl))

-- each change was made before a mark that is above all of theirs
pub before_clock-all : (told : Told) (clock : ℕ) → AllBy clock told → before_clock (clock + 1) told ≡ told
before_clock-all [] clock by = refl
before_clock-all (s ∷ ss) clock by =
    cond-true (nat_lt s.clock (clock + 1)) (s ∷ before_clock (clock + 1) ss) (before_clock (clock + 1) ss) (lt-ltb s.clock (clock + 1) (omega (arith, by.0))) ∙ ap (λ (rest : Told). s ∷ rest) (before_clock-all ss clock by.1)

-- no change was made at a mark that is above all of theirs
pub at_clock-none : (told : Told) (clock : ℕ) → AllBy clock told → at_clock (clock + 1) told ≡ []
at_clock-none [] clock by = refl
at_clock-none (s ∷ ss) clock by =
    cond-false (s.clock == clock + 1) (s ∷ at_clock (clock + 1) ss) (at_clock (clock + 1) ss) (ne_eqb s.clock (clock + 1) (λ same. let le : s.clock ≤ clock = by.0 in omega arith)) ∙ at_clock-none ss clock by.1

-- all the changes of a mark
pub left_at_all : (told : Told) (clock : ℕ) (names : Names) → Image told clock names → LeftAt told clock (length (at_clock clock told)) names
left_at_all told clock names image =
    subst (λ (ss : List (Stamped Files)). MayLead (names_after [] (before_clock clock told)) ss names) (sym (take_all (length (at_clock clock told)) (at_clock clock told) (omega arith))) image

-- what the first changes of the mark may have left, a crash now may leave
pub image_from_left : (told : Told) (clock n : ℕ) (names : Names) → LeftAt told clock n names → Image told clock names
image_from_left told clock n names left = lead_front (names_after [] (before_clock clock told)) names n (at_clock clock told) left

-- one more change only adds images
pub image_more : (told : Told) (clock : ℕ) (change : Change Files) (names : Names) → Image told clock names → Image (with_change clock change told) clock names
image_more told clock change names image =
    rw (before_clock-with_change told clock clock change (omega arith), at_clock-with_change told clock change)
    (lead_more (names_after [] (before_clock clock told)) names (at_clock clock told) (record { clock = clock; change = change } ∷ []) image)

-- earlier moments stay with one more change, wherever they were before it
pub left_at_more : (told : Told) (c n clock : ℕ) (change : Change Files) (names : Names) → c < clock → LeftAt told c n names → LeftAt (with_change clock change told) c n names
left_at_more told c n clock change names before left =
    let by : c ≤ clock = omega arith in
    rw (before_clock-with_change told c clock change by, at_clock-with_change_other told c clock change before) left

pub left_at_less : (told : Told) (c n clock : ℕ) (change : Change Files) (names : Names) → c < clock → LeftAt (with_change clock change told) c n names → LeftAt told c n names
left_at_less told c n clock change names before left =
    let by : c ≤ clock = omega arith in
    rw (before_clock-with_change told c clock change by, at_clock-with_change_other told c clock change before) at left

-- the front of a list has no more than the list
take_least : (n : ℕ) (ss : List (Stamped Files)) → take (min n (length ss)) ss ≡ take n ss
take_least n ss =
    elim (cases_lt n (length ss)) [
      | inl less ↦ ap (λ (m : ℕ). take m ss) (omega arith)
      | inr all ↦ take_all (min n (length ss)) ss (omega arith) ∙ sym (take_all n ss all)
    ]

-- moments of the mark stay, and the last of them is a crash now
pub left_at_now : (told : Told) (n clock : ℕ) (change : Change Files) (names : Names) → LeftAt told clock n names → LeftAt (with_change clock change told) clock (min n (length (at_clock clock told))) names
left_at_now told n clock change names left =
    let last : List (Stamped Files) = record { clock = clock; change = change } ∷ [] in
    let least : ℕ = min n (length (at_clock clock told)) in
    let le : least ≤ length (at_clock clock told) = omega arith in
    let front : take least (at_clock clock told ++ last) ≡ take n (at_clock clock told) = take-append-le least (at_clock clock told) last le ∙ take_least n (at_clock clock told) in
    rw (before_clock-with_change told clock clock change (omega arith), at_clock-with_change told clock change)
    (subst (λ (ss : List (Stamped Files)). MayLead (names_after [] (before_clock clock told)) ss names) (sym front) left)

-- what the first changes of the mark may have left is as before, or with all of them
pub left_at_now_cases : (told : Told) (n clock : ℕ) (change : Change Files) (names : Names) → LeftAt (with_change clock change told) clock n names → LeftAt told clock n names ⊎ Image (with_change clock change told) clock names
left_at_now_cases told n clock change names left =
    elim (cases_lt (length (at_clock clock told)) n) [
      | inl above ↦ inr (image_from_left (with_change clock change told) clock n names left)
      | inr within ↦ inl (
          let last : List (Stamped Files) = record { clock = clock; change = change } ∷ [] in
          let here : MayLead (names_after [] (before_clock clock told)) (take n (at_clock clock told ++ last)) names =
          rw (before_clock-with_change told clock clock change (omega arith), at_clock-with_change told clock change) at left in
          subst (λ (ss : List (Stamped Files)). MayLead (names_after [] (before_clock clock told)) ss names) (take-append-le n (at_clock clock told) last within) here
          )
    ]

-- the moments of the call that made a change
pub since-with_change : (told : Told) (clock since : ℕ) (change : Change Files) (names : Names) → Since (with_change clock change told) clock since names → Since told clock since names ⊎ Image (with_change clock change told) clock names
since-with_change told clock since change names left =
    elim (cases_lt left.0 clock) [
      | inl before ↦ inl (left.0, left.1, left.2, left.3, left_at_less told left.0 left.1 clock change names before left.4)
      | inr not_before ↦ (
          let same : left.0 ≡ clock = omega (arith, left.3) in
          elim (left_at_now_cases told left.1 clock change names (subst (λ (m : ℕ). LeftAt (with_change clock change told) m left.1 names) same left.4)) [
            | inl old ↦ inl (clock, left.1, omega (arith, left.2, left.3), omega arith, old)
            | inr image ↦ inr image
          ]
          )
    ]

pub since-with_change_back : (told : Told) (clock since : ℕ) (change : Change Files) (names : Names) → since ≤ clock
    → Since told clock since names ⊎ Image (with_change clock change told) clock names → Since (with_change clock change told) clock since names
since-with_change_back told clock since change names by (inr image) =
    (clock, length (at_clock clock (with_change clock change told)), by, omega arith, left_at_all (with_change clock change told) clock names image)
since-with_change_back told clock since change names by (inl left) =
    elim (cases_lt left.0 clock) [
      | inl before ↦ (left.0, left.1, left.2, left.3, left_at_more told left.0 left.1 clock change names before left.4)
      | inr not_before ↦ (
          let same : left.0 ≡ clock = omega (arith, left.3) in
          (clock, min left.1 (length (at_clock clock told)), by, omega arith, left_at_now told left.1 clock change names (subst (λ (m : ℕ). LeftAt told m left.1 names) same left.4))
          )
    ]

-- the moments of a call that raised the mark
pub since-sync : (told : Told) (clock since : ℕ) (names : Names) → Since told (clock + 1) since names → Since told clock since names ⊎ Image told (clock + 1) names
since-sync told clock since names left =
    elim (cases_lt clock left.0) [
      | inl above ↦ (
          let same : left.0 ≡ clock + 1 = omega (arith, left.3) in
          inr (image_from_left told (clock + 1) left.1 names (subst (λ (m : ℕ). LeftAt told m left.1 names) same left.4))
          )
      | inr within ↦ inl (left.0, left.1, left.2, within, left.4)
    ]

pub since-sync_back : (told : Told) (clock since : ℕ) (names : Names) → since ≤ clock → Since told clock since names ⊎ Image told (clock + 1) names → Since told (clock + 1) since names
since-sync_back told clock since names by (inl left) = (left.0, left.1, left.2, omega (arith, left.3), left.4)
since-sync_back told clock since names by (inr image) = (clock + 1, length (at_clock (clock + 1) told), omega arith, omega arith, left_at_all told (clock + 1) names image)
