-- Numbers that rise, and the bytes that they are.
use Rattle.std.proofs.Common.{◌≡◌, ℕ, suc, ◌+◌, ◌-◌, ◌*◌, ◌^◌, ◌<◌, ◌≤◌, ◌↔◌, IsTrue, nat_lt, take-append-drop, List, [], ◌∷◌, ◌++◌, All, Some, Result, Ok, Err, IsErr, IfErr, MatchResult, refl, sym, ap, ◌∙◌, subst, inl, inr, length, length-append, length-drop, take, drop, slice_get, append_assoc, append-nil, arith}
use Rattle.std.specs.Int.{w64, to_le_bytes}
use Rattle.std.proofs.lemmas.Bool.Decides.{nat_tests}
use Rattle.std.proofs.lemmas.List.{drop_all, drop-drop, nil_from_length}
use Rattle.std.proofs.lemmas.List.Elements.{All-head, All-nil, All-push}
use Rattle.column_file.specs.byte_numbers.declared.faults.FormatFault.{FormatFault}
use Rattle.column_file.specs.byte_numbers.declared.faults.FormatFault.TheVariants.{NoMemory, Malformed}
use Rattle.column_file.specs.byte_numbers.Fronts.{Begins}
use Rattle.column_file.specs.Marks.{numbers_bytes, places_bytes}
use Rattle.column_file.proofs.OneWay.{eight_apart}
use Rattle.column_file.proofs.Fronts.{AreApart, Longer, even, longer, spelled_last}
use Rattle.primary_marks.specs.Places.{AreMarksOf, AreStarts, AreStartsOf, AreStuckAt, BeginStarts, ExplainsMarks, ExplainsStarts, GoOnWrong, IsMarksFault, IsNextStart, NoStartFollows, RiseAbove}

-- ---- what may come next

last_or : ℕ → List ℕ → ℕ
last_or low [] = low
last_or low (n ∷ ns) = last_or n ns

rise_push : (low : ℕ) (ns : List ℕ) (n : ℕ) → RiseAbove low ns → last_or low ns < n → RiseAbove low (ns ++ n ∷ [])
unfolding last_or
rise_push low [] n rise h = (h, tt)
rise_push low (m ∷ ns) n rise h = (rise.0, rise_push m ns n rise.1 h)

rise_last : (low : ℕ) (ns : List ℕ) (n : ℕ) → RiseAbove low (ns ++ n ∷ []) → last_or low ns < n
unfolding last_or
rise_last low [] n rise = rise.0
rise_last low (m ∷ ns) n rise = rise_last m ns n rise.1

last_is : (low : ℕ) (ns : List ℕ) (x : ℕ) → slice_get (low ∷ ns) (length ns) ≡ Some x → last_or low ns ≡ x
unfolding last_or
last_is low [] x e = cc
last_is low (m ∷ ns) x e = last_is m ns x e

-- after others a number may come that is above the last
pub start_follows : (before : List ℕ) (last n : ℕ) → slice_get before (length before - 1) ≡ Some last → AreStarts before → IsTrue (nat_lt last n) ↔ AreStarts (before ++ n ∷ [])
start_follows [] last n e rise = cc
start_follows (m ∷ ns) last n e rise =
    let size : suc (length ns) - 1 ≡ length ns = omega arith in
    let is = last_is m ns last (ap (slice_get (m ∷ ns)) (sym size) ∙ e) in (
      λ h. let above : last < n = grind (arith, nat_tests) in (rise.0, rise_push m ns n rise.1 (omega (arith, is))),
      λ h. let above = rise_last m ns n h.1 in let low : last < n = omega (arith, is) in grind (arith, nat_tests),
    )

-- ---- a number in the bytes

abbrev FitsWord : ℕ → Type 0
FitsWord n = n < 2 ^ 64

number_begins : (n : ℕ) (rest : List ℕ) → to_le_bytes w64 n ≡ take 8 rest → Begins (to_le_bytes w64 n) 8 rest
number_begins n rest e = record { size_is = refl; parted = sym (take-append-drop 8 rest) ∙ ap (λ l. l ++ drop 8 rest) (sym e) }

-- the number that is there may come after those before
pub next_there : (before : List ℕ) (n : ℕ) (rest : List ℕ) → n < 2 ^ 64 → to_le_bytes w64 n ≡ take 8 rest → AreStarts (before ++ n ∷ []) → IsNextStart before n rest
next_there before n rest fits e rise = record { fits = fits; rise = rise; begins = number_begins n rest e }

-- it may not
pub next_other : (before : List ℕ) (n : ℕ) (rest : List ℕ) → n < 2 ^ 64 → to_le_bytes w64 n ≡ take 8 rest → (AreStarts (before ++ n ∷ []) → ⊥) → NoStartFollows before rest
next_other before n rest fits e none m left low rise is =
    let same = eight_apart m n left (drop 8 rest) low fits (sym is ∙ (number_begins n rest e).parted) in
    none (subst (λ k. AreStarts (before ++ k ∷ [])) same.0 rise)

-- no number is whole there
pub next_short : (before rest : List ℕ) → length rest < 8 → NoStartFollows before rest
next_short before rest few n left low rise is =
    let long : length rest ≡ 8 + length left = ap length is ∙ length-append (to_le_bytes w64 n) left in
    omega arith

-- ---- the numbers of a column

pub length-numbers : (ns : List ℕ) → length (numbers_bytes ns) ≡ 8 * length ns
length-numbers [] = refl
length-numbers (n ∷ ns) = length-append (to_le_bytes w64 n) (numbers_bytes ns) ∙ omega (arith, length-numbers ns)

-- the bytes begin with these numbers of a column
pub record AreBegun (bytes numbers : List ℕ) : Type 0 where
  pub rise : AreStarts numbers
  pub fit : All FitsWord numbers
  pub begins : Begins (numbers_bytes numbers) (8 * length numbers) bytes

pub begun_none : (bytes : List ℕ) → AreBegun bytes []
begun_none bytes = record { rise = tt; fit = All-nil FitsWord; begins = record { size_is = refl; parted = refl } }

pub begun_within : {bytes numbers : List ℕ} → AreBegun bytes numbers → 8 * length numbers ≤ length bytes
begun_within {bytes} {numbers} b = omega (arith, b.begins.size_is, ap length b.begins.parted, length-append (numbers_bytes numbers) (drop (8 * length numbers) bytes))

pub begun_more : (bytes numbers : List ℕ) (n : ℕ) → AreBegun bytes numbers → IsNextStart numbers n (drop (8 * length numbers) bytes) → AreBegun bytes (numbers ++ n ∷ [])
begun_more bytes numbers n b next =
    let size : 8 * length (numbers ++ n ∷ []) ≡ 8 * length numbers + 8 = omega (arith, length-append numbers (n ∷ [])) in
    let all = spelled_last (to_le_bytes w64) numbers n in
    let left : drop 8 (drop (8 * length numbers) bytes) ≡ drop (8 * length (numbers ++ n ∷ [])) bytes = drop-drop 8 (8 * length numbers) bytes ∙ ap (λ k. drop k bytes) (sym size) in
    record {
      rise = next.rise;
      fit = All-push FitsWord numbers n b.fit next.fits;
      begins = record {
        size_is = sym (length-numbers (numbers ++ n ∷ []));
        parted = b.begins.parted ∙ ap (λ l. numbers_bytes numbers ++ l) (next.begins.parted ∙ ap (λ l. to_le_bytes w64 n ++ l) left)
            ∙ sym (append_assoc (numbers_bytes numbers) (to_le_bytes w64 n) (drop (8 * length (numbers ++ n ∷ [])) bytes))
            ∙ ap (λ l. l ++ drop (8 * length (numbers ++ n ∷ [])) bytes) (sym all);
      };
    }

pub begun_all : (granules : ℕ) (bytes numbers : List ℕ) → AreBegun bytes numbers → length numbers ≡ granules + 1 → BeginStarts granules bytes numbers
begun_all granules bytes numbers b count = record { starts = record { count_is = count; rise = b.rise; fit = b.fit }; begins = b.begins }

pub begun_stuck : (granules at : ℕ) (bytes numbers : List ℕ) (place : ℕ) → AreBegun bytes numbers → length numbers ≤ granules → place ≡ at + 8 * length numbers → NoStartFollows numbers (drop (8 * length numbers) bytes) → AreStuckAt granules at bytes place
begun_stuck granules at bytes numbers place b few e none = record {
  begun = numbers;
  rest = drop (8 * length numbers) bytes;
  few = few;
  rise = b.rise;
  fit = b.fit;
  parted = b.begins.parted;
  place_is = e ∙ ap (λ k. at + k) (sym (length-numbers numbers));
  stuck = none;
}

-- ---- the numbers of all columns

-- numbers of one width are told apart
words_apart : AreApart (to_le_bytes w64) FitsWord
words_apart x y r s p q e = eight_apart x y r s p q e

-- and so are lists of them
pub starts_apart : (granules : ℕ) → AreApart numbers_bytes (AreStartsOf granules)
starts_apart granules x y r s p q e = even (to_le_bytes w64) FitsWord words_apart x y r s p.fit q.fit (omega (arith, p.count_is, q.count_is)) e

-- the bytes up to the place are the numbers of these columns
pub record ArePlaced (granules : ℕ) (bytes : List ℕ) (at : ℕ) (places : List (List ℕ)) : Type 0 where
  pub each : All (AreStartsOf granules) places
  pub begins : Begins (places_bytes places) at bytes

pub placed_none : (granules : ℕ) (bytes : List ℕ) → ArePlaced granules bytes 0 []
placed_none granules bytes = record { each = All-nil (AreStartsOf granules); begins = record { size_is = refl; parted = refl } }

module _ {granules : ℕ} {bytes : List ℕ} {at : ℕ} {places : List (List ℕ)} where
  pub placed_within : ArePlaced granules bytes at places → at ≤ length bytes
  placed_within p = omega (arith, p.begins.size_is, ap length p.begins.parted, length-append (places_bytes places) (drop at bytes))

  -- one column more
  pub placed_more : (numbers : List ℕ) → ArePlaced granules bytes at places → BeginStarts granules (drop at bytes) numbers → ArePlaced granules bytes (at + 8 * length numbers) (places ++ numbers ∷ [])
  placed_more numbers p b =
      let next = at + 8 * length numbers in
      let all = spelled_last numbers_bytes places numbers in
      let left : drop (8 * length numbers) (drop at bytes) ≡ drop next bytes = drop-drop (8 * length numbers) at bytes in
      record {
        each = All-push (AreStartsOf granules) places numbers p.each b.starts;
        begins = record {
          size_is = omega (arith, p.begins.size_is, b.begins.size_is, ap length all, length-append (places_bytes places) (numbers_bytes numbers));
          parted = p.begins.parted ∙ ap (λ l. places_bytes places ++ l) (b.begins.parted ∙ ap (λ l. numbers_bytes numbers ++ l) left)
              ∙ sym (append_assoc (places_bytes places) (numbers_bytes numbers) (drop next bytes)) ∙ ap (λ l. l ++ drop next bytes) (sym all);
        };
      }

  -- the next column goes wrong
  pub placed_stuck : {columns : ℕ} (place : ℕ) → ArePlaced granules bytes at places → length places < columns → AreStuckAt granules at (drop at bytes) place → IsMarksFault columns granules bytes place
  placed_stuck place p few stuck = record {
    whole = places;
    rest = drop at bytes;
    each = p.each;
    parted = p.begins.parted;
    wrong = inl (few, subst (λ k. AreStuckAt granules k (drop at bytes) place) p.begins.size_is stuck);
  }

  -- bytes are left after the last column
  pub placed_past : {columns : ℕ} → ArePlaced granules bytes at places → length places ≡ columns → at < length bytes → IsMarksFault columns granules bytes at
  placed_past p full more = record {
    whole = places;
    rest = drop at bytes;
    each = p.each;
    parted = p.begins.parted;
    wrong = inr (full, p.begins.size_is, λ e. omega (arith, length-drop at bytes, ap length e));
  }

  -- all bytes are read
  pub placed_all : {columns : ℕ} → ArePlaced granules bytes at places → length places ≡ columns → length bytes ≤ at → AreMarksOf columns granules bytes places
  placed_all p full end = record {
    count_is = full;
    each = p.each;
    spelled = p.begins.parted ∙ ap (λ l. places_bytes places ++ l) (drop_all at bytes end) ∙ append-nil (places_bytes places);
  }

-- ---- read in one way

pub one_marks : (columns granules : ℕ) (bytes : List ℕ) (xs ys : List (List ℕ)) → AreMarksOf columns granules bytes xs → AreMarksOf columns granules bytes ys → xs ≡ ys
one_marks columns granules bytes xs ys p q =
    (even numbers_bytes (AreStartsOf granules) (starts_apart granules) xs ys [] [] p.each q.each (p.count_is ∙ sym q.count_is)
    (append-nil (places_bytes xs) ∙ sym p.spelled ∙ q.spelled ∙ sym (append-nil (places_bytes ys)))).0

-- of numbers that rise the first few do
rise_front : (low : ℕ) (xs ys : List ℕ) → RiseAbove low (xs ++ ys) → RiseAbove low xs
rise_front low [] ys rise = tt
rise_front low (x ∷ xs) ys rise = (rise.0, rise_front x xs ys rise.1)

starts_front : (xs ys : List ℕ) → AreStarts (xs ++ ys) → AreStarts xs
starts_front [] ys rise = tt
starts_front (x ∷ xs) ys rise = (rise.0, rise_front x xs ys rise.1)

-- numbers of a column at the place where a column is stuck
stuck_none : (granules at : ℕ) (bytes : List ℕ) (place : ℕ) (numbers left : List ℕ) → AreStuckAt granules at bytes place → AreStartsOf granules numbers → bytes ≡ numbers_bytes numbers ++ left → ⊥
stuck_none granules at bytes place numbers left s p e = by l.more l.sound l.parted l.rest
  where
    l : Longer (to_le_bytes w64) FitsWord s.begun numbers s.rest left
    l = longer (to_le_bytes w64) FitsWord words_apart s.begun numbers s.rest left s.fit p.fit (omega (arith, s.few, p.count_is)) (sym s.parted ∙ e)

    by : (more : List ℕ) → All FitsWord more → numbers ≡ s.begun ++ more → s.rest ≡ numbers_bytes more ++ left → ⊥
    by [] fit parted rest = omega (arith, s.few, p.count_is, ap length parted, length-append s.begun [])
    by (n ∷ more) fit parted rest =
        let whole : AreStarts (s.begun ++ (n ∷ [] ++ more)) = subst AreStarts parted p.rise in
        s.stuck n (numbers_bytes more ++ left) (All-head FitsWord n more fit) (starts_front (s.begun ++ n ∷ []) more (subst AreStarts (sym (append_assoc s.begun (n ∷ []) more)) whole))
        (rest ∙ append_assoc (to_le_bytes w64 n) (numbers_bytes more) left)

-- bytes with a first fault are no marks
pub no_marks : (columns granules : ℕ) (bytes : List ℕ) (place : ℕ) (places : List (List ℕ)) → IsMarksFault columns granules bytes place → AreMarksOf columns granules bytes places → ⊥
no_marks columns granules bytes place places f p = contra f.wrong
  where
    few : GoOnWrong columns granules f.whole f.rest place → length f.whole ≤ columns
    few (inl h) = omega (arith, h.0)
    few (inr h) = omega (arith, h.0)

    l : Longer numbers_bytes (AreStartsOf granules) f.whole places f.rest []
    l = longer numbers_bytes (AreStartsOf granules) (starts_apart granules) f.whole places f.rest [] f.each p.each (omega (arith, few f.wrong, p.count_is)) (sym f.parted ∙ p.spelled ∙ sym (append-nil (places_bytes places)))

    size : length places ≡ length f.whole + length l.more
    size = ap length l.parted ∙ length-append f.whole l.more

    goes_on : (more : List (List ℕ)) → 0 < length more → All (AreStartsOf granules) more → f.rest ≡ places_bytes more ++ [] → AreStuckAt granules (length (places_bytes f.whole)) f.rest place → ⊥
    goes_on [] some sound rest stuck = omega arith
    goes_on (numbers ∷ more) some sound rest stuck =
        stuck_none granules (length (places_bytes f.whole)) f.rest place numbers (places_bytes more ++ []) stuck (All-head (AreStartsOf granules) numbers more sound)
        (rest ∙ append_assoc (numbers_bytes numbers) (places_bytes more) [])

    contra : GoOnWrong columns granules f.whole f.rest place → ⊥
    contra (inl h) = goes_on l.more (omega (arith, h.0, p.count_is, size)) l.sound l.rest h.1
    contra (inr h) = h.2 (l.rest ∙ ap (λ more. places_bytes more ++ []) (nil_from_length l.more (omega (arith, h.0, p.count_is, size))))

-- an error for bytes that are marks is out of memory
pub marks_refused : {T : Type 0} (P : T → Type 0) (columns granules : ℕ) (bytes : List ℕ) (places : List (List ℕ)) (result : Result T FormatFault) → IsErr result → IfErr result (ExplainsMarks columns granules bytes) → AreMarksOf columns granules bytes places → MatchResult result P (λ e. e ≡ NoMemory)
marks_refused P columns granules bytes places (Ok x) err explains p = cc
marks_refused P columns granules bytes places (Err NoMemory) err explains p = refl
marks_refused P columns granules bytes places (Err (Malformed place)) err explains p = absurd (no_marks columns granules bytes place places explains p)

-- where the numbers of the next column go wrong, the bytes do
pub placed_explains : (columns granules : ℕ) (bytes : List ℕ) (at : ℕ) (places : List (List ℕ)) (e : FormatFault) → ArePlaced granules bytes at places → length places < columns → ExplainsStarts granules at (drop at bytes) e → ExplainsMarks columns granules bytes e
placed_explains columns granules bytes at places NoMemory p few explains = tt
placed_explains columns granules bytes at places (Malformed place) p few explains = placed_stuck place p few explains
