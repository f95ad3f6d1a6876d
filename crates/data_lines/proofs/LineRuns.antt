-- A line of data parted at its line feed, run by run: a run of bytes that are neither line feeds nor backslashes is gone over at once.
use Rattle.std.proofs.Common.{◌≡◌, ◌≢◌, ℕ, zero, suc, ◌+◌, ◌-◌, ◌<◌, ◌≤◌, Bool, true, false, ◌==◌, ltb, List, length, get_or, take, drop, Option, Some, None, refl, sym, ap, ◌∙◌, arith, length-drop}
use Rattle.std.proofs.lemmas.Bool.Decides.{nat_tests}
use Rattle.std.proofs.lemmas.List.{get_or-drop}
use Rattle.memchr.specs.Find.{NoneBefore, Nowhere, Passes, is_byte2}
use Rattle.mt_values.specs.Script.{takes_next, line_from}
use Rattle.mt_values.proofs.Fronts.{parted}
use Rattle.data_lines.proofs.LineParts.{line_more, line_here, line_none}

-- what stands before a place, and what looking for the end of the line gives from there on
abbrev pub line_to : List ℕ → ℕ → Option (List ℕ × List ℕ)
line_to text at = parted (take at text) (line_from false (drop at text))

module _ (text : List ℕ) where
  -- a byte that ends no line and takes no byte
  plain_byte : (i : ℕ) → i < length text → is_byte2 10 92 (get_or text i 0) ≡ false → line_to text (i + 1) ≡ line_to text i
  plain_byte i lt plain =
      let free : takes_next false (get_or text i 0) ≡ false = grind (arith, nat_tests) in
      let no_end : (get_or text i 0 == 10) ≡ false = grind (arith, nat_tests) in
      ap (λ t. parted (take (i + 1) text) (line_from t (drop (i + 1) text))) (sym free) ∙ line_more text i 0 false lt no_end

  -- a run of such bytes
  pub line_run : (at n : ℕ) → at + n ≤ length text → ((k : ℕ) → k < n → is_byte2 10 92 (get_or text (at + k) 0) ≡ false) → line_to text (at + n) ≡ line_to text at
  line_run at zero within plain = let none : at + 0 ≡ at = omega arith in ap (line_to text) none
  line_run at (suc n) within plain =
      let on : at + suc n ≡ (at + n) + 1 = omega arith in
      ap (line_to text) on
      ∙ (plain_byte (at + n) (omega arith) (plain n (omega arith)) ∙ line_run at n (omega arith) (λ k less. plain k (omega arith)))

  -- a backslash and the byte that it takes, if there is one
  pub line_taken : (i : ℕ) → i < length text → get_or text i 0 ≡ 92 → line_to text (i + 2) ≡ line_to text i
  line_taken i lt backslash = by (ltb (i + 1) (length text)) refl
    where
      first : parted (take (i + 1) text) (line_from true (drop (i + 1) text)) ≡ line_to text i
      first =
          let takes : takes_next false (get_or text i 0) ≡ true = rw backslash refl in
          let no_end : (get_or text i 0 == 10) ≡ false = rw backslash refl in
          ap (λ t. parted (take (i + 1) text) (line_from t (drop (i + 1) text))) (sym takes) ∙ line_more text i 0 false lt no_end

      by : (c : Bool) → ltb (i + 1) (length text) ≡ c → line_to text (i + 2) ≡ line_to text i
      by true more =
          let within : i + 1 < length text = grind (arith, nat_tests) in
          let on : i + 2 ≡ (i + 1) + 1 = omega arith in
          ap (line_to text) on ∙ (line_more text (i + 1) 0 true within refl ∙ first)
      by false none =
          let past : length text ≤ i + 1 = grind (arith, nat_tests) in
          line_none text (i + 2) 0 false (omega arith) ∙ (sym (line_none text (i + 1) 0 true past) ∙ first)

not_passed : (b : Bool) → ¬ (b ≡ true) → b ≡ false
not_passed true refused = absurd (refused refl)
not_passed false refused = refl

module _ (text : List ℕ) (at : ℕ) where
  -- no byte from the place on passes up to another place
  run_passes : (n : ℕ) → at + n ≤ length text → Nowhere (Passes (is_byte2 10 92) (drop at text)) 0 n → line_to text (at + n) ≡ line_to text at
  run_passes n within nowhere =
      line_run text at n within
      (λ k less. ap (is_byte2 10 92) (sym (get_or-drop at text k 0)) ∙ not_passed (is_byte2 10 92 (get_or (drop at text) k 0)) (nowhere k (omega arith) less))

  -- nothing is found: no line feed ends the line
  pub line_unmarked : at ≤ length text → line_to text at ≡ line_from false text → Nowhere (Passes (is_byte2 10 92) (drop at text)) 0 (length (drop at text)) → None ≡ line_from false text
  line_unmarked within so_far nowhere =
      let n = length (drop at text) in
      let size : n ≡ length text - at = length-drop at text in
      sym (line_none text (at + n) 0 false (omega arith)) ∙ (run_passes n (omega arith) nowhere ∙ so_far)

  module _ (plain : ℕ) (so_far : line_to text at ≡ line_from false text) (before : NoneBefore (Passes (is_byte2 10 92) (drop at text)) 0 (length (drop at text)) plain) where
    within : at + plain < length text
    within = omega (arith, length-drop at text, before.high)

    there : line_to text (at + plain) ≡ line_from false text
    there = run_passes plain (omega (arith, within)) before.before ∙ so_far

    -- a line feed is found
    pub line_marked : get_or text (at + plain) 0 ≡ 10 → Some (take (at + plain) text, drop (at + plain + 1) text) ≡ line_from false text
    line_marked feed =
        let ends : (get_or text (at + plain) 0 == 10) ≡ true = rw feed refl in
        sym (line_here text (at + plain) 0 false within ends) ∙ there

    -- a backslash is found
    pub line_goes_on : get_or text (at + plain) 0 ≢ 10 → Passes (is_byte2 10 92) (drop at text) plain → line_to text (at + plain + 2) ≡ line_from false text
    line_goes_on no_feed passes =
        let here : is_byte2 10 92 (get_or text (at + plain) 0) ≡ true = ap (is_byte2 10 92) (sym (get_or-drop at text plain 0)) ∙ passes in
        let backslash : get_or text (at + plain) 0 ≡ 92 = grind (arith, nat_tests) in
        line_taken text (at + plain) within backslash ∙ there
