-- The part of a script that an INSERT takes, by the numbers of bytes that were found.
use Rattle.std.proofs.Common.{◌≡◌, ℕ, ◌+◌, ◌<◌, ◌≤◌, min, Bool, true, false, not, ◌&&◌, cond, ltb, List, [], ◌∷◌, length, take, drop, if◌then◌else◌, refl, arith, ◌∙◌, sym, ap}
use Rattle.std.proofs.lemmas.Bool.Decides.{nat_tests}
use Rattle.std.proofs.lemmas.List.{drop_min}
use Rattle.std.specs.List.{prefix_len, list_all}
use Rattle.mt_values.specs.Tokens.{is_space}
use Rattle.mt_values.specs.Grammar.{statement_of}
use Rattle.mt_values.specs.Script.{Data, Item, is_line_byte, line_rest, behind_line, data_of, data_ended, with_line_rest, refused_behind}
use Rattle.data_lines.specs.declared.lines.Extent.{Extent}
use Rattle.data_lines.specs.Sections.{data_in}

-- the data was found after the line of the semicolon
start_is_behind : (behind : List ℕ) (line start : ℕ) → line ≡ prefix_len is_line_byte behind → start ≡ min (line + 1) (length behind) → drop start behind ≡ behind_line behind
start_is_behind behind line start line_is start_is =
    ap (λ n. drop n behind) start_is ∙ (drop_min (line + 1) behind ∙ ap (λ n. drop (n + 1) behind) line_is)

-- the rest of a line and the data after it are read as one, whatever reads the data
read_same : (read : List ℕ → Bool → Item) (place : ℕ) (behind rest : List ℕ) (line lines : ℕ) (e : Extent) (d : Data) → line ≡ prefix_len is_line_byte behind → d ≡ data_in rest e → lines ≡ e.lines →
    (if list_all is_space (take line behind) then read (take lines rest) e.ended
    else refused_behind (place + prefix_len is_space (take line behind)) (read (take lines rest) e.ended))
    ≡ (if list_all is_space (line_rest behind) then read d.lines d.ended
    else refused_behind (place + prefix_len is_space (line_rest behind)) (read d.lines d.ended))
read_same read place behind rest line lines e d line_is d_is lines_is = rw (d_is, lines_is, line_is) refl

-- what an INSERT with its data is
pub inserted_said : (text behind : List ℕ) (line start lines : ℕ) (e : Extent) → line ≡ prefix_len is_line_byte behind → start ≡ min (line + 1) (length behind) → data_in (drop start behind) e ≡ data_of (drop start behind) → lines ≡ e.lines →
    (if list_all is_space (take line behind) then statement_of text true (take lines (drop start behind)) e.ended
    else refused_behind (length text + 1 + prefix_len is_space (take line behind)) (statement_of text true (take lines (drop start behind)) e.ended))
    ≡ with_line_rest text (line_rest behind) (data_of (behind_line behind))
inserted_said text behind line start lines e line_is start_is data_is lines_is =
    let d : data_of (behind_line behind) ≡ data_in (drop start behind) e = ap data_of (sym (start_is_behind behind line start line_is start_is)) ∙ sym data_is in
    read_same (statement_of text true) (length text + 1) behind (drop start behind) line lines e (data_of (behind_line behind)) line_is d lines_is

passed_by : (c : Bool) (n m : ℕ) (r : Bool) → (n < m → r ≡ false) → cond c (1 + n) 0 < 1 + m → (c && r) ≡ false
passed_by true n m r more less = more (omega arith)
passed_by false n m r more less = refl

-- the bytes that pass are fewer than all: not all pass
some_fail : (p : ℕ → Bool) (xs : List ℕ) → prefix_len p xs < length xs → list_all p xs ≡ false
some_fail p [] less = absurd (omega arith)
some_fail p (x ∷ xs) less = passed_by (p x) (prefix_len p xs) (length xs) (list_all p xs) (some_fail p xs) (omega arith)

all_passed : (c : Bool) (n m : ℕ) (r : Bool) → (m ≤ n → r ≡ true) → 1 + m ≤ cond c (1 + n) 0 → (c && r) ≡ true
all_passed true n m r more least = more (omega arith)
all_passed false n m r more least = absurd (omega arith)

all_pass : (p : ℕ → Bool) (xs : List ℕ) → length xs ≤ prefix_len p xs → list_all p xs ≡ true
all_pass p [] least = refl
all_pass p (x ∷ xs) least = all_passed (p x) (prefix_len p xs) (length xs) (list_all p xs) (all_pass p xs) (omega arith)

not_below : (n m : ℕ) → m ≤ n → ltb n m ≡ false
not_below n m least = grind (arith, nat_tests)

module _ (behind : List ℕ) (line start : ℕ) (closed : Bool) (line_is : line ≡ prefix_len is_line_byte behind) (start_is : start ≡ min (line + 1) (length behind)) (closed_is : closed ≡ data_ended (drop start behind)) where
  -- the line of the semicolon ended: all came where the data ended
  pub inserted_whole : line < length behind → closed ≡ (not (list_all is_line_byte behind) && data_ended (behind_line behind))
  inserted_whole less =
      rw (some_fail is_line_byte behind (omega arith)) (closed_is ∙ ap data_ended (start_is_behind behind line start line_is start_is))

  -- the line of the semicolon goes on
  pub inserted_part : length behind ≤ line → ltb line (length behind) ≡ (not (list_all is_line_byte behind) && data_ended (behind_line behind))
  inserted_part least = rw (all_pass is_line_byte behind (omega arith)) (not_below line (length behind) least)
