-- How many rows inputs have in memory.
use Rattle.std.proofs.Common.{◌≡◌, ℕ, zero, suc, ◌+◌, ◌*◌, ◌<◌, ◌≤◌, List, [], ◌∷◌, ◌++◌, length, length-append, max, ◌^◌, set, get_or, refl, sym, ap, ◌∙◌, subst, arith, suc-mul}
use Rattle.std.specs.List.{All}
use Rattle.std.proofs.lemmas.List.Elements.{All-cons, All-head, All-tail}
use Rattle.mt_values.specs.Values.{Row}
use Rattle.row_merge.specs.declared.held.Held.{Held}
use Rattle.row_merge.specs.Held.{IsHeldWithin, appended, gave, no_rows, read_more, sum_of, took}
use Rattle.row_merge.specs.Merged.{rows_of_all}
use Rattle.row_merge.specs.Merging.{TakesFirst}
use Rattle.row_merge.specs.Streams.{KeepsHeld}

-- the rows of all inputs
abbrev pub total : List (List Row) → ℕ
total ahead = length (rows_of_all ahead)

-- other rows are put in place of an input's
pub total_set : (ahead : List (List Row)) (i : ℕ) (given : List Row) → i < length ahead → total (set ahead i given) + length (get_or ahead i []) ≡ total ahead + length given
total_set [] i given below = absurd (omega (arith, below))
total_set (a ∷ ahead) zero given below = omega (arith, length-append given (rows_of_all ahead), length-append a (rows_of_all ahead))
total_set (a ∷ ahead) (suc i) given below = omega (arith, length-append a (rows_of_all ahead), length-append a (rows_of_all (set ahead i given)), total_set ahead i given (omega (arith, below)))

-- inputs of which each has a few rows
pub few_total : (size : ℕ) (ahead : List (List Row)) → All (λ (rows : List Row). length rows ≤ size) ahead → total ahead ≤ length ahead * size
few_total size [] all = omega arith
few_total size (a ∷ ahead) all =
    let own : length a ≤ size = All-head (λ (rows : List Row). length rows ≤ size) a ahead all in
    let rest = few_total size ahead (All-tail (λ (rows : List Row). length rows ≤ size) a ahead all) in
    omega (arith, own, rest, length-append a (rows_of_all ahead), suc-mul (length ahead) size)

-- none has a row
pub total_none : (ahead : List (List Row)) → All (λ (rows : List Row). rows ≡ []) ahead → total ahead ≡ 0
total_none [] none = refl
total_none (a ∷ ahead) none =
    let own : a ≡ [] = All-head (λ (rows : List Row). rows ≡ []) a ahead none in
    omega (arith, length-append a (rows_of_all ahead), ap length own, total_none ahead (All-tail (λ (rows : List Row). rows ≡ []) a ahead none))

-- a row is taken
pub total_taken : (places : List ℕ) (ahead new : List (List Row)) (input : ℕ) (row : Row) → TakesFirst places ahead input row new → total new + 1 ≡ total ahead
total_taken places ahead new input row t =
    ap (λ xs. total xs + 1) t.new_is ∙ one_fewer t.front ∙ ap total (sym t.ahead_is)
  where
    one_fewer : (front : List (List Row)) → total (front ++ t.rows ∷ t.back) + 1 ≡ total (front ++ (row ∷ t.rows) ∷ t.back)
    one_fewer [] = omega (arith, length-append t.rows (rows_of_all t.back), length-append (row ∷ t.rows) (rows_of_all t.back))
    one_fewer (f ∷ front) =
        omega (arith, length-append f (rows_of_all (front ++ t.rows ∷ t.back)), length-append f (rows_of_all (front ++ (row ∷ t.rows) ∷ t.back)), one_fewer front)

pub few_taken : (places : List ℕ) (size : ℕ) (ahead new : List (List Row)) (input : ℕ) (row : Row) → TakesFirst places ahead input row new → All (λ (rows : List Row). length rows ≤ size) ahead → All (λ (rows : List Row). length rows ≤ size) new
few_taken places size ahead new input row t all =
    subst (All Few) (sym t.new_is) (fewer t.front (subst (All Few) t.ahead_is all))
  where
    Few : List Row → Type 0
    Few rows = length rows ≤ size

    fewer : (front : List (List Row)) → All Few (front ++ (row ∷ t.rows) ∷ t.back) → All Few (front ++ t.rows ∷ t.back)
    fewer [] few = All-cons Few t.rows t.back (omega (arith, All-head Few (row ∷ t.rows) t.back few)) (All-tail Few (row ∷ t.rows) t.back few)
    fewer (f ∷ front) few =
        All-cons Few f (front ++ t.rows ∷ t.back) (All-head Few f (front ++ (row ∷ t.rows) ∷ t.back) few) (fewer front (All-tail Few f (front ++ (row ∷ t.rows) ∷ t.back) few))

-- ---- what is counted

-- nothing yet
pub none_within : (inputs size : ℕ) → IsHeldWithin inputs size no_rows
none_within inputs size = record { read = omega arith; made = omega arith; given = omega arith }

-- rows were read
pub read_within : (inputs size rows now : ℕ) (h : Held) → IsHeldWithin inputs size h → h.read + rows ≤ now → now ≤ inputs * size → IsHeldWithin inputs size (read_more rows h)
read_within inputs size rows now h w read few = record { read = omega (arith, w.read, read, few); made = w.made; given = w.given }

pub read_counts : (rows now : ℕ) (h : Held) → h.read + rows ≤ now → sum_of h.read rows ≤ now
read_counts rows now h read = omega (arith, read)

-- as many as are there, where the count has room for them
pub read_exact : (rows now room : ℕ) (h : Held) → h.read + rows ≡ now → now ≤ room → room < 2 ^ 64 → sum_of h.read rows ≡ now
read_exact rows now room h is few small = omega (arith, is, few, small)

-- the greatest count is not below
pub read_reached : (rows : ℕ) (h : Held) → sum_of h.read rows ≤ max h.most_read (sum_of h.read rows)
read_reached rows h = omega arith

pub read_rises : (rows : ℕ) (h new : Held) → new ≡ read_more rows h → h.most_read ≤ new.most_read
read_rises rows h new is = subst (λ (x : Held). h.most_read ≤ x.most_read) (sym is) least
  where
    least : h.most_read ≤ max h.most_read (sum_of h.read rows)
    least = omega arith

-- nothing is counted
pub held_stays : (old new : Held) → new ≡ old → KeepsHeld old new
held_stays old new is = subst (KeepsHeld old) (sym is) (record { read = refl; most = omega arith; given = omega arith; within = λ inputs size w. w })

-- a row was taken
pub took_within : (inputs size : ℕ) (h : Held) → IsHeldWithin inputs size h → IsHeldWithin inputs size (took h)
took_within inputs size h w = record { read = w.read; made = w.made; given = w.given }

-- the rule gave rows, and some were appended
pub gave_within : (inputs size rows : ℕ) (h : Held) → rows < 2 ^ 64 → h.made ≡ 0 → IsHeldWithin inputs size h → IsHeldWithin inputs size (gave rows h)
gave_within inputs size rows h few none w = record { read = w.read; made = omega (arith, none, w.made); given = omega (arith, few, none, w.given) }

pub appended_within : (inputs size rows : ℕ) (h : Held) → IsHeldWithin inputs size h → IsHeldWithin inputs size (appended rows h)
appended_within inputs size rows h w = record { read = w.read; made = w.made; given = w.given }
