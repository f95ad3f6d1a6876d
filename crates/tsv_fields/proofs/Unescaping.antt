-- What a text with escapes says, run by run and escape by escape.
use Rattle.std.proofs.Common.{◌≡◌, ℕ, zero, suc, ◌+◌, ◌<◌, Bool, true, false, cond, ◌==◌, List, [], ◌∷◌, ◌++◌, length, take, drop, Option, Some, None, refl, sym, ap, ◌∙◌, arith, append_assoc, append-nil, length-drop}
use Rattle.std.proofs.lemmas.Bool.Decides.{nat_tests}
use Rattle.std.proofs.lemmas.List.{drop-drop, drop_all, take_all}
use Rattle.std.specs.List.{prefix_len}
use Rattle.std.specs.Option.{option_and_then}
use Rattle.mt_values.specs.Escapes.{escape_of}
use Rattle.mt_values.specs.Lists.{in_front}
use Rattle.mt_values.specs.Rows.{unescaped, unescaped_behind, unescaped_within}
use Rattle.mt_values.proofs.Bounds.{ShorterThan}
use Rattle.mt_values.proofs.Fronts.{fronted, fronted_more, fronted_none}
use Rattle.mt_values.proofs.TokenBounds.{escape_shorter}
use Rattle.tsv_fields.specs.Texts.{is_no_backslash}

-- ---- a bound on the bytes cuts nothing off

said_same : (f g : List ℕ → Option (List ℕ)) (n : ℕ) (found : Option (ℕ × List ℕ)) → ShorterThan n found → ((rest : List ℕ) → length rest < n → f rest ≡ g rest) →
    option_and_then (unescaped_behind f) found ≡ option_and_then (unescaped_behind g) found
said_same f g n None less same = refl
said_same f g n (Some found) less same = ap (λ more. in_front more found.0) (same found.1 less)

same_by : (f g : List ℕ → Option (List ℕ)) (b : ℕ) (bs : List ℕ) (escape : Bool) → ((rest : List ℕ) → length rest < length bs + 1 → f rest ≡ g rest) →
    cond escape (option_and_then (unescaped_behind f) (escape_of bs)) (in_front (f bs) b) ≡ cond escape (option_and_then (unescaped_behind g) (escape_of bs)) (in_front (g bs) b)
same_by f g b bs true same = said_same f g (length bs) (escape_of bs) (escape_shorter bs) (λ rest less. same rest (omega arith))
same_by f g b bs false same = ap (λ said. in_front said b) (same bs (omega arith))

unescaped_same : (n m : ℕ) (text : List ℕ) → length text < n → length text < m → unescaped_within n text ≡ unescaped_within m text
unescaped_same zero m text low high = absurd (omega arith)
unescaped_same (suc n) zero text low high = absurd (omega arith)
unescaped_same (suc n) (suc m) [] low high = refl
unescaped_same (suc n) (suc m) (b ∷ bs) low high =
    same_by (unescaped_within n) (unescaped_within m) b bs (b == 92) (λ rest less. unescaped_same n m rest (omega arith) (omega arith))

-- a text that goes on with an escape
pub unescaped_escape : (bs : List ℕ) → unescaped (92 ∷ bs) ≡ option_and_then (unescaped_behind unescaped) (escape_of bs)
unescaped_escape bs =
    let bound : length (92 ∷ bs) + 1 ≡ suc (length bs + 1) = omega arith in
    ap (λ n. unescaped_within n (92 ∷ bs)) bound
    ∙ said_same (unescaped_within (length bs + 1)) unescaped (length bs) (escape_of bs) (escape_shorter bs)
    (λ rest less. unescaped_same (length bs + 1) (length rest + 1) rest (omega arith) (omega arith))

-- a text that goes on with a byte that stands for itself
pub unescaped_plain : (b : ℕ) (bs : List ℕ) → is_no_backslash b ≡ true → unescaped (b ∷ bs) ≡ in_front (unescaped bs) b
unescaped_plain b bs plain =
    let bound : length (b ∷ bs) + 1 ≡ suc (length bs + 1) = omega arith in
    let itself : (b == 92) ≡ false = grind (arith, nat_tests) in
    ap (λ n. unescaped_within n (b ∷ bs)) bound ∙ (rw itself refl)

-- ---- runs of bytes that stand for themselves

run_by : (front : List ℕ) (b : ℕ) (bs : List ℕ) (itself : Bool) (n : ℕ) → is_no_backslash b ≡ itself →
    fronted (front ++ b ∷ []) (unescaped bs) ≡ fronted ((front ++ b ∷ []) ++ take n bs) (unescaped (drop n bs)) →
    fronted front (unescaped (b ∷ bs)) ≡ fronted (front ++ take (cond itself (1 + n) 0) (b ∷ bs)) (unescaped (drop (cond itself (1 + n) 0) (b ∷ bs)))
run_by front b bs true n is rest =
    let one : 1 + n ≡ suc n = omega arith in
    rw one
    (ap (fronted front) (unescaped_plain b bs is) ∙ fronted_more front b (unescaped bs) ∙ rest
    ∙ ap (λ l. fronted l (unescaped (drop n bs))) (append_assoc front (b ∷ []) (take n bs)))
run_by front b bs false n is rest = ap (λ l. fronted l (unescaped (b ∷ bs))) (sym (append-nil front))

-- the run that a text begins with is said as it stands
pub run_said : (front text : List ℕ) → fronted front (unescaped text) ≡ fronted (front ++ take (prefix_len is_no_backslash text) text) (unescaped (drop (prefix_len is_no_backslash text) text))
run_said front [] = ap (λ l. fronted l (unescaped [])) (sym (append-nil front))
run_said front (b ∷ bs) = run_by front b bs (is_no_backslash b) (prefix_len is_no_backslash bs) refl (run_said (front ++ b ∷ []) bs)

-- a text without a backslash
pub plain_whole : (text : List ℕ) → prefix_len is_no_backslash text ≡ length text → unescaped text ≡ Some text
plain_whole text whole =
    sym (fronted_none (unescaped text)) ∙ run_said [] text
    ∙ rw whole (ap (λ l. fronted (take (length text) text) (unescaped l)) (drop_all (length text) text (omega arith)) ∙ ap Some (append-nil (take (length text) text) ∙ take_all (length text) text (omega arith)))

stops_by : (b : ℕ) (bs : List ℕ) (itself : Bool) (n : ℕ) → is_no_backslash b ≡ itself → (n < length bs → drop n bs ≡ 92 ∷ drop (n + 1) bs) →
    cond itself (1 + n) 0 < length (b ∷ bs) → drop (cond itself (1 + n) 0) (b ∷ bs) ≡ 92 ∷ drop (cond itself (1 + n) 0 + 1) (b ∷ bs)
stops_by b bs true n is rest within =
    let one : 1 + n ≡ suc n = omega arith in
    let two : suc n + 1 ≡ suc (n + 1) = omega arith in
    rw (one, two) (rest (omega arith))
stops_by b bs false n is rest within = ap (λ c. c ∷ bs) (grind (arith, nat_tests))

-- a backslash comes after it
pub run_stops : (text : List ℕ) → prefix_len is_no_backslash text < length text →
    drop (prefix_len is_no_backslash text) text ≡ 92 ∷ drop (prefix_len is_no_backslash text + 1) text
run_stops [] within = absurd (omega arith)
run_stops (b ∷ bs) within = stops_by b bs (is_no_backslash b) (prefix_len is_no_backslash bs) refl (run_stops bs) within

-- A text is said up to a place, `at`, and from there a run of bytes stands for themselves.
module _ (text out : List ℕ) (at n : ℕ) (said : fronted out (unescaped (drop at text)) ≡ unescaped text) (run : n ≡ prefix_len is_no_backslash (drop at text)) where
  run_is : unescaped text ≡ fronted (out ++ take n (drop at text)) (unescaped (drop (at + n) text))
  run_is =
      sym said ∙ run_said out (drop at text)
      ∙ ap (λ k. fronted (out ++ take k (drop at text)) (unescaped (drop k (drop at text)))) (sym run)
      ∙ ap (λ l. fronted (out ++ take n (drop at text)) (unescaped l)) (drop-drop n at text)

  -- the text ends with the run
  pub run_ends : at + n ≡ length text → Some (out ++ take n (drop at text)) ≡ unescaped text
  run_ends end =
      sym
      (run_is ∙ ap (λ l. fronted (out ++ take n (drop at text)) (unescaped l)) (drop_all (at + n) text (omega arith))
      ∙ ap Some (append-nil (out ++ take n (drop at text))))

  escape_is : at + n < length text → unescaped (drop (at + n) text) ≡ option_and_then (unescaped_behind unescaped) (escape_of (drop (at + n + 1) text))
  escape_is within =
      let inside : prefix_len is_no_backslash (drop at text) < length (drop at text) = omega (arith, length-drop at text) in
      let here : drop n (drop at text) ≡ 92 ∷ drop (n + 1) (drop at text) = rw run (run_stops (drop at text) inside) in
      let place : at + (n + 1) ≡ at + n + 1 = omega arith in
      ap unescaped (sym (drop-drop n at text) ∙ here ∙ ap (λ l. 92 ∷ l) (drop-drop (n + 1) at text ∙ ap (λ k. drop k text) place))
      ∙ unescaped_escape (drop (at + n + 1) text)

  -- a faulty escape comes after it
  pub escape_refused : at + n < length text → None ≡ escape_of (drop (at + n + 1) text) → None ≡ unescaped text
  escape_refused within none =
      sym (run_is ∙ ap (fronted (out ++ take n (drop at text))) (escape_is within ∙ ap (option_and_then (unescaped_behind unescaped)) (sym none)))

  -- an escape comes after it
  pub escape_read : (byte used : ℕ) → at + n < length text → Some (byte, drop used (drop (at + n + 1) text)) ≡ escape_of (drop (at + n + 1) text) →
      fronted ((out ++ take n (drop at text)) ++ byte ∷ []) (unescaped (drop (at + n + (1 + used)) text)) ≡ unescaped text
  escape_read byte used within some =
      let place : at + n + 1 + used ≡ at + n + (1 + used) = omega arith in
      let rest : drop used (drop (at + n + 1) text) ≡ drop (at + n + (1 + used)) text = drop-drop used (at + n + 1) text ∙ ap (λ k. drop k text) place in
      sym
      (run_is
      ∙ ap (fronted (out ++ take n (drop at text))) (escape_is within ∙ ap (option_and_then (unescaped_behind unescaped)) (sym some) ∙ ap (λ l. in_front (unescaped l) byte) rest)
      ∙ fronted_more (out ++ take n (drop at text)) byte (unescaped (drop (at + n + (1 + used)) text)))
