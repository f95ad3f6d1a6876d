-- Each statement of a script and each line of data takes at least one byte, so their bounds cut nothing off, and what they read goes step by step.
use Rattle.std.proofs.Common.{◌≡◌, ℕ, ◌+◌, ◌<◌, ◌≤◌, Bool, true, false, cond, ◌||◌, List, [], ◌∷◌, length, refl, ap, arith, add-one, zero, suc, Option, Some, None, Result, length-drop}
use Rattle.std.specs.List.{prefix_len}
use Rattle.mt_values.specs.declared.script.Place.TheVariants.{Outside}
use Rattle.mt_values.specs.declared.statement.Cause.{Cause}
use Rattle.mt_values.specs.declared.statement.Statement.{Statement}
use Rattle.mt_values.specs.Tokens.{behind}
use Rattle.mt_values.specs.Grammar.{takes_data}
use Rattle.mt_values.specs.Script.{ended_from, line_from, ends_data, Data, with_line, data_behind, data_within, data_of, behind_line, is_line_byte, Step, complete, complete_or_cut, is_between, next_from, next_statement, statement_and, statements_within, statements_of, data_ended_behind, data_ended_within, data_ended}
use Rattle.mt_values.proofs.Bounds.{ShorterThan, behind_short, ended_shorter, line_shorter}

-- ---- data

data_behind_same : (f g : List ℕ → Data) (k : ℕ) (text : List ℕ) (o : Option (List ℕ × List ℕ)) → ShorterThan k o → ((rest : List ℕ) → length rest < k → f rest ≡ g rest) → data_behind f text o ≡ data_behind g text o
data_behind_same f g k text None less same = refl
data_behind_same f g k text (Some found) less same = ap (λ (d : Data). cond (ends_data found.0) (record { lines = []; ended = true; rest = found.1 }) (with_line found.0 d)) (same found.1 less)

pub data_same : (n m : ℕ) (text : List ℕ) → length text < n → length text < m → data_within n text ≡ data_within m text
data_same zero m text low high = absurd (omega arith)
data_same (suc n) zero text low high = absurd (omega arith)
data_same (suc n) (suc m) text low high =
    data_behind_same (data_within n) (data_within m) (length text) text (line_from false text) (line_shorter false text) (λ rest less. data_same n m rest (omega arith) (omega arith))

-- the data of a text is its first line and the data of what comes after it
pub data_of_step : (text : List ℕ) → data_of text ≡ data_behind data_of text (line_from false text)
data_of_step text =
    rw add-one (data_behind_same (data_within (length text)) data_of (length text) text (line_from false text) (line_shorter false text) (λ rest less. data_same (length text) (length rest + 1) rest (omega arith) (omega arith)))

rest_of : (c : Bool) (n : ℕ) (d e : Data) → length d.rest ≤ n → length e.rest ≤ n → length (cond c d e).rest ≤ n
rest_of true n d e p q = p
rest_of false n d e p q = q

data_behind_short : (f : List ℕ → Data) (n : ℕ) (text : List ℕ) (o : Option (List ℕ × List ℕ)) → ShorterThan n o → ((rest : List ℕ) → length (f rest).rest ≤ length rest) → length (data_behind f text o).rest ≤ n
data_behind_short f n text None less short = rest_of (ends_data text) n (record { lines = []; ended = true; rest = [] }) (record { lines = text; ended = false; rest = [] }) (omega arith) (omega arith)
data_behind_short f n text (Some found) less short =
    let more = short found.1 in
    rest_of (ends_data found.0) n (record { lines = []; ended = true; rest = found.1 }) (with_line found.0 (f found.1)) (omega arith) (omega arith)

data_short : (n : ℕ) (text : List ℕ) → length (data_within n text).rest ≤ length text
data_short zero text = omega arith
data_short (suc n) text = data_behind_short (data_within n) (length text) text (line_from false text) (line_shorter false text) (data_short n)

-- ---- the end of data

data_ended_behind_same : (f g : List ℕ → Bool) (k : ℕ) (o : Option (List ℕ × List ℕ)) → ShorterThan k o → ((rest : List ℕ) → length rest < k → f rest ≡ g rest) → data_ended_behind f o ≡ data_ended_behind g o
data_ended_behind_same f g k None less same = refl
data_ended_behind_same f g k (Some found) less same = ap (λ (b : Bool). ends_data found.0 || b) (same found.1 less)

pub data_ended_same : (n m : ℕ) (text : List ℕ) → length text < n → length text < m → data_ended_within n text ≡ data_ended_within m text
data_ended_same zero m text low high = absurd (omega arith)
data_ended_same (suc n) zero text low high = absurd (omega arith)
data_ended_same (suc n) (suc m) text low high =
    data_ended_behind_same (data_ended_within n) (data_ended_within m) (length text) (line_from false text) (line_shorter false text) (λ rest less. data_ended_same n m rest (omega arith) (omega arith))

-- data came to its end where its first line is the one that ends it, or the rest came to its end
pub data_ended_step : (text : List ℕ) → data_ended text ≡ data_ended_behind data_ended (line_from false text)
data_ended_step text =
    rw add-one (data_ended_behind_same (data_ended_within (length text)) data_ended (length text) (line_from false text) (line_shorter false text) (λ rest less. data_ended_same (length text) (length rest + 1) rest (omega arith) (omega arith)))

-- ---- statements

complete_short : (found : List ℕ × List ℕ) → length (complete found).1 ≤ length found.1
complete_short found = by (takes_data found.0) refl
  where
    by : (c : Bool) → takes_data found.0 ≡ c → length (complete found).1 ≤ length found.1
    by true e = rw e (omega (arith, data_short (length (behind_line found.1) + 1) (behind_line found.1), length-drop (prefix_len is_line_byte found.1 + 1) found.1))
    by false e = rw e (omega arith)

completed_shorter : (n : ℕ) (text : List ℕ) (o : Option (List ℕ × List ℕ)) → 0 < n → ShorterThan n o → length (complete_or_cut text o).1 < n
completed_shorter n text None some less = some
completed_shorter n text (Some found) some less = omega (arith, complete_short found)

next_shorter : (text : List ℕ) → ShorterThan (length text) (next_from text)
next_shorter [] = tt
next_shorter (b ∷ bs) = completed_shorter (length (b ∷ bs)) (b ∷ bs) (ended_from Outside (b ∷ bs)) (omega arith) (ended_shorter Outside (b ∷ bs))

statement_and_same : (f g : List ℕ → List (Result Statement Cause)) (k : ℕ) (o : Option Step) → ShorterThan k o → ((rest : List ℕ) → length rest < k → f rest ≡ g rest) → statement_and f o ≡ statement_and g o
statement_and_same f g k None less same = refl
statement_and_same f g k (Some found) less same = ap (λ (ss : List (Result Statement Cause)). found.0 ∷ ss) (same found.1 less)

pub statements_same : (n m : ℕ) (script : List ℕ) → length script < n → length script < m → statements_within n script ≡ statements_within m script
statements_same zero m script low high = absurd (omega arith)
statements_same (suc n) zero script low high = absurd (omega arith)
statements_same (suc n) (suc m) script low high =
    let short = behind_short is_between false script in
    statement_and_same (statements_within n) (statements_within m) (length (behind is_between false script)) (next_statement script) (next_shorter (behind is_between false script)) (λ rest less. statements_same n m rest (omega arith) (omega arith))

-- the statements of a script are the next one and those of what comes after it
pub statements_of_step : (script : List ℕ) → statements_of script ≡ statement_and statements_of (next_statement script)
statements_of_step script =
    let short = behind_short is_between false script in
    rw add-one (statement_and_same (statements_within (length script)) statements_of (length (behind is_between false script)) (next_statement script) (next_shorter (behind is_between false script))
    (λ rest less. statements_same (length script) (length rest + 1) rest (omega arith) (omega arith)))
