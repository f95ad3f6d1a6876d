-- Groups of seven bits: what a number's are, how they are written and read, and that no two numbers begin one text.
use Rattle.std.proofs.Common.{◌≡◌, ℕ, zero, suc, ◌+◌, ◌-◌, ◌*◌, ◌/◌, ◌%◌, ◌^◌, ◌<◌, ◌≤◌, Bool, true, false, List, [], ◌∷◌, ◌++◌, refl, sym, ap, ◌∙◌, cond, ltb, subst, append_assoc, arith, inl, inr, ◌⊎◌, length, length-append, ap₂, add-one, drop}
use Rattle.std.proofs.lemmas.Bool.{cases_lt}
use Rattle.std.proofs.lemmas.Bool.Decides.{nat_tests}
use Rattle.std.proofs.lemmas.Nat.{shr_below}
use Rattle.mt_values.specs.ColumnBytes.{groups_within}
use Rattle.byte_numbers.specs.Fronts.{Begins}

choose : {X : Type 0} (b c : Bool) (x y : X) → b ≡ c → cond b x y ≡ cond c x y
choose b c x y e = ap (λ d. cond d x y) e

small : (n m : ℕ) → n < m → ltb n m ≡ true
small n m h = grind (arith, nat_tests)

large : (n m : ℕ) → m ≤ n → ltb n m ≡ false
large n m h = grind (arith, nat_tests)

-- a number below 128 is one group
pub groups_within-low : (k n : ℕ) → n < 128 → groups_within k n ≡ n ∷ []
groups_within-low zero n h = refl
groups_within-low (suc k) n h = choose (ltb n 128) true (n ∷ []) ((n % 128 + 128) ∷ groups_within k (n / 128)) (small n 128 h)

-- another has its lowest group first
pub groups_within-high : (k j n : ℕ) → k ≡ j + 1 → 128 ≤ n → groups_within k n ≡ (n % 128 + 128) ∷ groups_within j (n / 128)
groups_within-high k j n e h =
    ap (λ m. groups_within m n) (step k j e) ∙ choose (ltb n 128) false (n ∷ []) ((n % 128 + 128) ∷ groups_within j (n / 128)) (large n 128 h)
  where
    step : (k j : ℕ) → k ≡ j + 1 → k ≡ suc j
    step k j e = omega arith

-- ---- writing

-- what is left has seven bits fewer
pub bits_left : (n i : ℕ) → i < 9 → n < 2 ^ (64 - 7 * i) → n / 128 < 2 ^ (64 - 7 * (i + 1))
bits_left n i h below =
    let e : 64 - 7 * i ≡ 64 - 7 * (i + 1) + 7 = omega arith in
    shr_below n (64 - 7 * (i + 1)) 7 (subst (λ m. n < 2 ^ m) e below)

-- one group more is written
pub spelled_more : (bytes new whole : List ℕ) (i n : ℕ) → i < 9 → 128 ≤ n → new ≡ bytes ++ (n % 128 + 128) ∷ [] → bytes ++ groups_within (9 - i) n ≡ whole → new ++ groups_within (9 - (i + 1)) (n / 128) ≡ whole
spelled_more bytes new whole i n below h e spelled =
    ap (λ bs. bs ++ groups_within (9 - (i + 1)) (n / 128)) e
    ∙ append_assoc bytes ((n % 128 + 128) ∷ []) (groups_within (9 - (i + 1)) (n / 128))
    ∙ ap (λ bs. bytes ++ bs) (sym (groups_within-high (9 - i) (9 - (i + 1)) n (omega arith) h))
    ∙ spelled

-- the last group is written
pub spelled_low : (bytes new whole : List ℕ) (k n : ℕ) → n < 128 → new ≡ bytes ++ n ∷ [] → bytes ++ groups_within k n ≡ whole → new ≡ whole
spelled_low bytes new whole k n h e spelled = e ∙ ap (λ bs. bytes ++ bs) (sym (groups_within-low k n h)) ∙ spelled

-- ---- reading

-- groups are some bytes
pub groups_within-some : (k n : ℕ) → 0 < length (groups_within k n)
groups_within-some zero n = omega arith
groups_within-some (suc k) n = either (ltb n 128)
  where
    either : (b : Bool) → 0 < length (cond b (n ∷ []) ((n % 128 + 128) ∷ groups_within k (n / 128)))
    either true = omega arith
    either false = omega arith

-- bytes begin with the groups of at most one number, and one text follows these
pub groups_apart : (k m n : ℕ) (r s : List ℕ) → groups_within k m ++ r ≡ groups_within k n ++ s → (m ≡ n) × (r ≡ s)
groups_apart zero m n r s e = (cc, cc)
groups_apart (suc k) m n r s e = either (cases_lt m 128) (cases_lt n 128) (groups_apart k (m / 128) (n / 128) r s)
  where
    up : suc k ≡ k + 1
    up = omega arith

    low : (x : ℕ) → x < 128 → groups_within (suc k) x ≡ x ∷ []
    low x h = groups_within-low (suc k) x h

    high : (x : ℕ) → 128 ≤ x → groups_within (suc k) x ≡ (x % 128 + 128) ∷ groups_within k (x / 128)
    high x h = groups_within-high (suc k) k x up h

    both : (x y : List ℕ) → groups_within (suc k) m ≡ x → groups_within (suc k) n ≡ y → x ++ r ≡ y ++ s
    both x y p q = ap (λ l. l ++ r) (sym p) ∙ e ∙ ap (λ l. l ++ s) q

    either : (m < 128) ⊎ (128 ≤ m) → (n < 128) ⊎ (128 ≤ n) → (groups_within k (m / 128) ++ r ≡ groups_within k (n / 128) ++ s → (m / 128 ≡ n / 128) × (r ≡ s)) → (m ≡ n) × (r ≡ s)
    either (inl p) (inl q) more =
        let h : m ∷ r ≡ n ∷ s = both (m ∷ []) (n ∷ []) (low m p) (low n q) in
        (cc, cc)
    either (inl p) (inr q) more =
        let h : m ∷ r ≡ (n % 128 + 128) ∷ (groups_within k (n / 128) ++ s) = both (m ∷ []) ((n % 128 + 128) ∷ groups_within k (n / 128)) (low m p) (high n q) in
        let g : m ≡ n % 128 + 128 = cc in
        absurd (omega arith)
    either (inr p) (inl q) more =
        let h : (m % 128 + 128) ∷ (groups_within k (m / 128) ++ r) ≡ n ∷ s = both ((m % 128 + 128) ∷ groups_within k (m / 128)) (n ∷ []) (high m p) (low n q) in
        let g : m % 128 + 128 ≡ n = cc in
        absurd (omega arith)
    either (inr p) (inr q) more =
        let h : (m % 128 + 128) ∷ (groups_within k (m / 128) ++ r) ≡ (n % 128 + 128) ∷ (groups_within k (n / 128) ++ s) = both ((m % 128 + 128) ∷ groups_within k (m / 128)) ((n % 128 + 128) ∷ groups_within k (n / 128)) (high m p) (high n q) in
        let g : m % 128 + 128 ≡ n % 128 + 128 = cc in
        let rest : groups_within k (m / 128) ++ r ≡ groups_within k (n / 128) ++ s = cc in
        let t = more rest in
        let f : m / 128 ≡ n / 128 = t.0 in
        (omega arith, t.1)

-- no bytes begin with no groups
pub nothing_begins : (k n : ℕ) (bytes rest : List ℕ) → length bytes ≡ 0 → bytes ≡ groups_within k n ++ rest → ⊥
nothing_begins k n bytes rest none e =
    omega (arith, groups_within-some k n, simp length-append at (ap length e))

-- a first group that others follow is of a number that others spell with it
pub goes_on : (k j n b : ℕ) (bs rest : List ℕ) → k ≡ j + 1 → 128 ≤ b → b ∷ bs ≡ groups_within k n ++ rest → (128 ≤ n) × (b ≡ n % 128 + 128) × (bs ≡ groups_within j (n / 128) ++ rest)
goes_on k j n b bs rest up large e = either (cases_lt n 128)
  where
    either : (n < 128) ⊎ (128 ≤ n) → (128 ≤ n) × (b ≡ n % 128 + 128) × (bs ≡ groups_within j (n / 128) ++ rest)
    either (inl h) =
        let f : b ∷ bs ≡ n ∷ rest = e ∙ ap (λ l. l ++ rest) (groups_within-low k n h) in
        let g : b ≡ n = cc in
        absurd (omega arith)
    either (inr h) =
        let f : b ∷ bs ≡ (n % 128 + 128) ∷ (groups_within j (n / 128) ++ rest) = e ∙ ap (λ l. l ++ rest) (groups_within-high k j n up h) in
        (h, cc, cc)

-- a first group with the groups of a number that is not 0 is a greater number's
pub groups_more : (k high size first number : ℕ) (rest bytes : List ℕ) → 0 < k → 128 ≤ first → first < 256 → 0 < high → number ≡ high * 128 + first % 128 → bytes ≡ first ∷ rest →
    Begins (groups_within (k - 1) high) size rest → Begins (groups_within k number) (size + 1) bytes
groups_more k high size first number rest bytes some large byte more sum is begins =
    let lowest : number % 128 + 128 ≡ first = omega arith in
    let higher : number / 128 ≡ high = omega arith in
    let all : groups_within k number ≡ first ∷ groups_within (k - 1) high =
    groups_within-high k (k - 1) number (omega arith) (omega arith) ∙ ap₂ (λ a n. a ∷ groups_within (k - 1) n) lowest higher in
    let behind : drop (size + 1) bytes ≡ drop size rest = ap (drop (size + 1)) is ∙ ap (λ n. drop n (first ∷ rest)) (add-one size) in
    record {
      size_is = omega (arith, ap length all, begins.size_is);
      parted = is ∙ ap (λ l. first ∷ l) begins.parted ∙ sym (ap₂ (λ l r. l ++ r) all behind);
    }
