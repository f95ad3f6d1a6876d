-- The lines of data, one at a time.
use Rattle.std.proofs.Common.{◌≡◌, ℕ, ◌+◌, ◌<◌, ◌≤◌, Bool, true, false, not, ◌&&◌, ◌==◌, List, [], ◌∷◌, ◌++◌, length, take, drop, Option, Some, None, if◌then◌else◌, refl, arith, ◌∙◌, sym, ap, subst, append_assoc, append-nil, length-append, length-take-le}
use Rattle.std.proofs.lemmas.List.{take_at, drop_at, take-append-drop}
use Rattle.std.proofs.lemmas.Bool.Decides.{nat_tests}
use Rattle.std.specs.Option.{option_map, IfSome}
use Rattle.mt_values.proofs.ScriptBounds.{data_of_step, data_ended_step}
use Rattle.mt_values.specs.Script.{onto, takes_next, line_from, ends_data, Data, with_line, data_behind, data_of, data_ended_behind, data_ended}

parts_behind : (ends : Bool) (b : ℕ) (bs : List ℕ) (found : Option (List ℕ × List ℕ)) → (ends ≡ true → b ≡ 10) → IfSome found (λ p. bs ≡ p.0 ++ 10 ∷ p.1) →
    IfSome (if ends then Some ([], bs) else option_map (onto b) found) (λ (p : List ℕ × List ℕ). b ∷ bs ≡ p.0 ++ 10 ∷ p.1)
parts_behind true b bs found feed parts = ap (λ x. x ∷ bs) (feed refl)
parts_behind false b bs None feed parts = tt
parts_behind false b bs (Some p) feed parts = ap (λ l. b ∷ l) parts

-- a line, its line feed and what follows them are the text
pub line_parts : (taken : Bool) (text : List ℕ) → IfSome (line_from taken text) (λ p. text ≡ p.0 ++ 10 ∷ p.1)
line_parts taken [] = tt
line_parts taken (b ∷ bs) =
    parts_behind (not taken && b == 10) b bs (line_from (takes_next taken b) bs) (λ ends. grind (arith, nat_tests)) (line_parts (takes_next taken b) bs)

-- lines before data
abbrev pub with_lines : List ℕ → Data → Data
with_lines front d = record { lines = front ++ d.lines; ended = d.ended; rest = d.rest }

-- A line of data that was found: the text goes on at `at`, the line there has `len` bytes, and `next` is after its line feed.
module _ (text : List ℕ) (at len next : ℕ) (within : at ≤ length text) (inside : len < length (drop at text)) (next_is : next ≡ at + len + 1)
    (found : line_from false (drop at text) ≡ Some (take len (drop at text), drop (len + 1) (drop at text))) where
  line : List ℕ
  line = take len (drop at text)

  behind : List ℕ
  behind = drop (len + 1) (drop at text)

  front : List ℕ
  front = take at text ++ (line ++ 10 ∷ [])

  front-append : (more : List ℕ) → front ++ more ≡ take at text ++ (line ++ 10 ∷ more)
  unfolding front
  front-append more = append_assoc (take at text) (line ++ 10 ∷ []) more ∙ ap (λ r. take at text ++ r) (append_assoc line (10 ∷ []) more)

  text_is : text ≡ front ++ behind
  unfolding line behind
  text_is =
      let P : Option (List ℕ × List ℕ) → Type 0 = λ o. IfSome o (λ p. drop at text ≡ p.0 ++ 10 ∷ p.1) in
      let parts : drop at text ≡ line ++ 10 ∷ behind = subst P found (line_parts false (drop at text)) in
      sym (take-append-drop at text) ∙ (ap (λ r. take at text ++ r) parts ∙ sym (front-append behind))

  length-front : length front ≡ next
  unfolding front line
  length-front =
      let before : length (take at text) ≡ at = length-take-le at text within in
      let here : length (take len (drop at text)) ≡ len = length-take-le len (drop at text) (omega arith) in
      omega (arith, length-append (take at text) (take len (drop at text) ++ 10 ∷ []), length-append (take len (drop at text)) (10 ∷ []))

  take-next : take next text ≡ front
  take-next = ap (take next) text_is ∙ take_at front behind next length-front

  drop-next : drop next text ≡ behind
  drop-next = ap (drop next) text_is ∙ drop_at front behind next length-front

  -- it is a line of data
  pub lines_more : ends_data (take len (drop at text)) ≡ false → with_lines (take next text) (data_of (drop next text)) ≡ with_lines (take at text) (data_of (drop at text))
  unfolding line behind
  lines_more more =
      let step : data_behind data_of (drop at text) (line_from false (drop at text)) ≡ with_line line (data_of behind) = rw (found, more) refl in
      let kept : data_of (drop at text) ≡ with_line line (data_of behind) = data_of_step (drop at text) ∙ step in
      ap (λ (l : List ℕ). with_lines l (data_of (drop next text))) take-next
      ∙ (ap (λ (r : List ℕ). with_lines front (data_of r)) drop-next
      ∙ (ap (λ (l : List ℕ). record { lines = l; ended = (data_of behind).ended; rest = (data_of behind).rest }) (front-append (data_of behind).lines)
      ∙ ap (with_lines (take at text)) (sym kept)))

  -- it ends the data
  pub lines_end : ends_data (take len (drop at text)) ≡ true → with_lines (take at text) (data_of (drop at text)) ≡ record { lines = take at text; ended = true; rest = drop next text }
  unfolding behind
  lines_end end =
      let step : data_behind data_of (drop at text) (line_from false (drop at text)) ≡ record { lines = []; ended = true; rest = behind } = rw (found, end) refl in
      let kept : data_of (drop at text) ≡ record { lines = []; ended = true; rest = behind } = data_of_step (drop at text) ∙ step in
      ap (with_lines (take at text)) kept
      ∙ (ap (λ (l : List ℕ). record { lines = l; ended = true; rest = behind }) (append-nil (take at text))
      ∙ ap (λ (r : List ℕ). record { lines = take at text; ended = true; rest = r }) (sym drop-next))

  -- so the data has ended where the rest of it has
  pub ended_more : ends_data (take len (drop at text)) ≡ false → data_ended (drop next text) ≡ data_ended (drop at text)
  unfolding line behind
  ended_more more =
      let step : data_ended_behind data_ended (line_from false (drop at text)) ≡ data_ended behind = rw (found, more) refl in
      ap data_ended drop-next ∙ sym (data_ended_step (drop at text) ∙ step)

  -- so the data has ended
  pub ended_here : ends_data (take len (drop at text)) ≡ true → true ≡ data_ended (drop at text)
  unfolding line behind
  ended_here end =
      let step : data_ended_behind data_ended (line_from false (drop at text)) ≡ true = rw (found, end) refl in
      sym (data_ended_step (drop at text) ∙ step)
