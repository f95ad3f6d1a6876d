-- The fields of a line, marked run by run: bytes that are no tabs, line feeds and backslashes are gone over at once.
use Rattle.std.proofs.Common.{◌≡◌, ◌≢◌, ℕ, zero, suc, ◌+◌, ◌-◌, ◌<◌, ◌≤◌, min, Bool, true, false, not, ◌&&◌, ◌==◌, ltb, List, [], ◌∷◌, ◌++◌, length, get_or, take, drop, Some, None, refl, sym, ap, subst, ◌∙◌, arith, length-drop}
use Rattle.std.proofs.lemmas.Bool.Decides.{nat_tests}
use Rattle.std.proofs.lemmas.List.{get_or-drop}
use Rattle.memchr.specs.Find.{NoneBefore, Nowhere, Passes, is_byte3}
use Rattle.mt_values.specs.Script.{takes_next}
use Rattle.tsv_fields.specs.Fields.{EndFields, line_found}
use Rattle.tsv_fields.proofs.Marking.{MarkedTo, marked_feed, marked_fields, marked_more, marked_none, marked_tab, marked_whole, whole_fields}

-- The bytes before a place are marked, and none of them ends the line. The byte at the place, if there is one, is not taken.
pub record Marks (text : List ℕ) (lines : Bool) (ends : List ℕ) (at : ℕ) : Type 0 where
  pub taken : Bool
  pub marked : MarkedTo text lines ends taken at
  pub free : at < length text → taken ≡ false
  pub within : at ≤ length text

-- none so far
pub no_marks : (text : List ℕ) (lines : Bool) → Marks text lines [] 0
no_marks text lines = record { taken = false; marked = marked_none text lines; free = λ _. refl; within = omega arith }

not_passed : (b : Bool) → ¬ (b ≡ true) → b ≡ false
not_passed true refused = absurd (refused refl)
not_passed false refused = refl

never : (l : Bool) → (l && false) ≡ false
never true = refl
never false = refl

module _ (text : List ℕ) (lines : Bool) (ends : List ℕ) where
  -- a byte that ends nothing and takes no byte
  plain_byte : (at : ℕ) → at < length text → is_byte3 9 10 92 (get_or text at 0) ≡ false → MarkedTo text lines ends false at → MarkedTo text lines ends false (at + 1)
  plain_byte at lt plain marked_to =
      let b = get_or text at 0 in
      let free : false ≡ takes_next false b = grind (arith, nat_tests) in
      let no_feed : (b == 10) ≡ false = grind (arith, nat_tests) in
      let no_tab : (b == 9) ≡ false = grind (arith, nat_tests) in
      let no_end : (lines && (not false && b == 10)) ≡ false = rw no_feed (never lines) in
      marked_more text lines ends false at marked_to lt false free no_end no_tab

  -- a run of such bytes
  run : (at n : ℕ) → at + n ≤ length text → Nowhere (Passes (is_byte3 9 10 92) (drop at text)) 0 n → MarkedTo text lines ends false at → MarkedTo text lines ends false (at + n)
  run at zero within nowhere marked_to = let none : at ≡ at + 0 = omega arith in subst (MarkedTo text lines ends false) none marked_to
  run at (suc n) within nowhere marked_to =
      let on : (at + n) + 1 ≡ at + suc n = omega arith in
      let plain : is_byte3 9 10 92 (get_or text (at + n) 0) ≡ false =
      ap (is_byte3 9 10 92) (sym (get_or-drop at text n 0)) ∙ not_passed (is_byte3 9 10 92 (get_or (drop at text) n 0)) (nowhere n (omega arith) (omega arith)) in
      subst (MarkedTo text lines ends false) on
      (plain_byte (at + n) (omega arith) plain (run at n (omega arith) (λ k low less. nowhere k low (omega arith)) marked_to))

  module _ (at : ℕ) (marks : Marks text lines ends at) where
    marked_free : at < length text → MarkedTo text lines ends false at
    marked_free less = subst (λ (t : Bool). MarkedTo text lines ends t at) (marks.free less) marks.marked

    -- nothing is found: the line is the whole text
    pub unmarked : Nowhere (Passes (is_byte3 9 10 92) (drop at text)) 0 (length (drop at text)) → (None ≡ line_found lines text) × EndFields text (ends ++ length text ∷ [])
    unmarked nowhere = by (ltb at (length text)) refl
      where
        by : (c : Bool) → ltb at (length text) ≡ c → (None ≡ line_found lines text) × EndFields text (ends ++ length text ∷ [])
        by true more =
            let n = length (drop at text) in
            let size : n ≡ length text - at = length-drop at text in
            let less : at < length text = grind (arith, nat_tests) in
            let all = run at n (omega arith) nowhere (marked_free less) in (
              marked_whole text lines ends false (at + n) all (omega arith),
              whole_fields text lines ends false (at + n) all (omega arith) (omega arith),
            )
        by false past =
            let end : length text ≤ at = grind (arith, nat_tests) in
            (marked_whole text lines ends marks.taken at marks.marked end, whole_fields text lines ends marks.taken at marks.marked marks.within end)

    module _ (plain : ℕ) (before : NoneBefore (Passes (is_byte3 9 10 92) (drop at text)) 0 (length (drop at text)) plain) where
      inside : at + plain < length text
      inside = omega (arith, length-drop at text, before.high)

      there : MarkedTo text lines ends false (at + plain)
      there = run at plain (omega (arith, inside)) before.before (marked_free (omega (arith, inside)))

      -- a backslash is found: it takes the byte after it, if there is one
      pub marks_taken : (next : ℕ) → get_or text (at + plain) 0 ≡ 92 → next ≡ min (at + plain + 2) (length text) → Marks text lines ends next
      marks_taken next backslash next_is = by (ltb (at + plain + 1) (length text)) refl
        where
          first : MarkedTo text lines ends true (at + plain + 1)
          first =
              let takes : true ≡ takes_next false (get_or text (at + plain) 0) = rw backslash refl in
              let no_end : (lines && (not false && get_or text (at + plain) 0 == 10)) ≡ false = rw backslash (never lines) in
              let no_tab : (not false && get_or text (at + plain) 0 == 9) ≡ false = rw backslash refl in
              marked_more text lines ends false (at + plain) there inside true takes no_end no_tab

          by : (c : Bool) → ltb (at + plain + 1) (length text) ≡ c → Marks text lines ends next
          by true more =
              let less : at + plain + 1 < length text = grind (arith, nat_tests) in
              let second : MarkedTo text lines ends false (at + plain + 1 + 1) = marked_more text lines ends true (at + plain + 1) first less false refl (never lines) refl in
              let on : at + plain + 1 + 1 ≡ next = omega arith in
              record { taken = false; marked = subst (MarkedTo text lines ends false) on second; free = λ _. refl; within = omega arith }
          by false none =
              let past : length text ≤ at + plain + 1 = grind (arith, nat_tests) in
              let low = inside in
              let on : at + plain + 1 ≡ next = omega arith in
              record { taken = true; marked = subst (MarkedTo text lines ends true) on first; free = λ less. absurd (omega arith); within = omega arith }

      -- a tab is found: it ends a field
      pub marks_tab : get_or text (at + plain) 0 ≡ 9 → Marks text lines (ends ++ (at + plain) ∷ []) (at + plain + 1)
      marks_tab tab =
          let low = inside in
          record { taken = false; marked = marked_tab text lines ends false (at + plain) there inside refl tab; free = λ _. refl; within = omega arith }

      -- what is found is no backslash and no tab: it is a line feed
      is_feed : get_or text (at + plain) 0 ≢ 92 → get_or text (at + plain) 0 ≢ 9 → Passes (is_byte3 9 10 92) (drop at text) plain → get_or text (at + plain) 0 ≡ 10
      is_feed no_backslash no_tab passes =
          let here : is_byte3 9 10 92 (get_or text (at + plain) 0) ≡ true = ap (is_byte3 9 10 92) (sym (get_or-drop at text plain 0)) ∙ passes in
          grind (arith, nat_tests)

      module _ (no_backslash : get_or text (at + plain) 0 ≢ 92) (no_tab : get_or text (at + plain) 0 ≢ 9) (passes : Passes (is_byte3 9 10 92) (drop at text) plain) where
        -- where lines are looked for, it ends the line
        pub marks_feed : lines ≡ true → (Some (take (at + plain) text, drop (at + plain + 1) text) ≡ line_found lines text) × EndFields (take (at + plain) text) (ends ++ (at + plain) ∷ [])
        marks_feed looked =
            let low = inside in (
              marked_feed text lines ends false (at + plain) there inside looked refl (is_feed no_backslash no_tab passes),
              marked_fields text lines ends false (at + plain) there (omega arith),
            )

        -- and else it is a byte of a field
        pub marks_more : lines ≡ false → Marks text lines ends (at + plain + 1)
        marks_more unlooked =
            let feed = is_feed no_backslash no_tab passes in
            let low = inside in
            let free : false ≡ takes_next false (get_or text (at + plain) 0) = rw feed refl in
            let no_end : (lines && (not false && get_or text (at + plain) 0 == 10)) ≡ false = rw unlooked refl in
            let tab_is : (not false && get_or text (at + plain) 0 == 9) ≡ false = rw feed refl in
            record { taken = false; marked = marked_more text lines ends false (at + plain) there inside false free no_end tab_is; free = λ _. refl; within = omega arith }
