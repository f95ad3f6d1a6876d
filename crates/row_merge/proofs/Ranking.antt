-- Inputs in the order by their first rows.
use Rattle.std.proofs.Common.{◌≡◌, ◌≢◌, ◌⊎◌, inl, inr, ℕ, zero, suc, ◌+◌, ◌<◌, false, true, List, [], ◌∷◌, ◌++◌, length, take, drop, set, get_or, drop-cons, refl, sym, ap, ap₂, ◌∙◌, subst, arith}
use Rattle.std.specs.Cmp.{IsTotalOrder, ranks}
use Rattle.std.specs.List.{All, Contains, insert}
use Rattle.std.specs.Ordering.{MatchOrdering, is_le, is_lt, nat_cmp, ordering_reverse, ordering_then}
use Rattle.std.specs.declared.cmp.Ordering.{Ordering}
use Rattle.std.specs.declared.cmp.Ordering.TheVariants.{Less, Equal, Greater}
use Rattle.std.proofs.lemmas.Cmp.{nat_cmp_total, on_total, then_total}
use Rattle.std.proofs.lemmas.List.{get_or-drop, get_or-set_other, get_or-take, length-take, take-append-drop, take_more}
use Rattle.std.proofs.lemmas.List.Elements.{All-append, All-cons, All-contains, All-from_get_or, All-head, All-nil, All-same, All-tail, All-weaker, Contains-append_cases, Contains-append_left, Contains-append_right, Contains-push_cases}
use Rattle.mt_values.specs.Order.{key_cmp}
use Rattle.mt_values.specs.Values.{Row}
use Rattle.row_merge.specs.Merging.{AreOthersRanked, AreRanked, Falls, LeadsFirst, RowLeads, TakesFirst, ahead_at, lead_at, lead_cmp}
use Rattle.row_merge.proofs.Keys.{key_total}
use Rattle.row_merge.proofs.Sorted.{all_halves, equal_itself, less_is_at_most, less_then, up_to_is_at_most}

-- ---- lists that fall

module _ (cmp : ℕ → ℕ → Ordering) where
  -- all of a list come before a number
  abbrev pub Under : List ℕ → ℕ → Type 0
  Under ys x = All (λ y. cmp y x ≡ Less) ys

  falls_join : (xs ys : List ℕ) → Falls cmp xs → Falls cmp ys → All (Under ys) xs → Falls cmp (xs ++ ys)
  falls_join [] ys f g h = g
  falls_join (x ∷ xs) ys f g h = (All-append (λ y. cmp y x ≡ Less) xs ys f.0 (All-head (Under ys) x xs h), falls_join xs ys f.1 g (All-tail (Under ys) x xs h))

  falls_front : (xs ys : List ℕ) → Falls cmp (xs ++ ys) → Falls cmp xs
  falls_front [] ys f = tt
  falls_front (x ∷ xs) ys f = ((all_halves (λ y. cmp y x ≡ Less) xs ys f.0).0, falls_front xs ys f.1)

  falls_back : (xs ys : List ℕ) → Falls cmp (xs ++ ys) → Falls cmp ys
  falls_back [] ys f = f
  falls_back (x ∷ xs) ys f = falls_back xs ys f.1

  falls_between : (xs ys : List ℕ) → Falls cmp (xs ++ ys) → All (Under ys) xs
  falls_between [] ys f = All-nil (Under ys)
  falls_between (x ∷ xs) ys f = All-cons (Under ys) x xs (all_halves (λ y. cmp y x ≡ Less) xs ys f.0).1 (falls_between xs ys f.1)

  -- one more goes where it comes before all earlier ones and after the others
  falls_inserted : (n input : ℕ) (xs : List ℕ) → Falls cmp xs → All (λ x. cmp input x ≡ Less) (take n xs) → Under (drop n xs) input → Falls cmp (take n xs ++ input ∷ drop n xs)
  falls_inserted n input xs f earlier later =
      let whole = subst (Falls cmp) (sym (take-append-drop n xs)) f in
      let between = falls_between (take n xs) (drop n xs) whole in
      falls_join (take n xs) (input ∷ drop n xs) (falls_front (take n xs) (drop n xs) whole) (later, falls_back (take n xs) (drop n xs) whole)
      (λ k d below. All-cons (λ y. cmp y (get_or (take n xs) k d) ≡ Less) input (drop n xs) (earlier k d below) (between k d below))

falls_same : (cmp other : ℕ → ℕ → Ordering) (xs : List ℕ) (P : ℕ → Type 0) → ((x y : ℕ) → P x → P y → other y x ≡ cmp y x) → All P xs → Falls cmp xs → Falls other xs
falls_same cmp other [] P same all f = tt
falls_same cmp other (x ∷ xs) P same all f =
    let rest = All-tail P x xs all in
    (λ k d below. same x (get_or xs k d) (All-head P x xs all) (rest k d below) ∙ f.0 k d below, falls_same cmp other xs P same rest f.1)

-- ---- the answers of two orders, one after the other

nat_says : (x y : ℕ) (r : Ordering) → nat_cmp x y ≡ r → MatchOrdering r (x < y) (x ≡ y) (y < x)
nat_says x y r e = subst (λ s. MatchOrdering s (x < y) (x ≡ y) (y < x)) e (ranks x y)

first_less : (k : Ordering) (x y : ℕ) → ordering_then k (nat_cmp x y) ≡ Less → y < x → k ≡ Less
first_less Less x y e below = refl
first_less Equal x y e below = absurd (omega (arith, nat_says x y Less e))
first_less Greater x y e below = cc

first_le : (k n : Ordering) → ordering_then k n ≡ Less → is_le k ≡ true
first_le Less n e = refl
first_le Equal n e = refl
first_le Greater n e = cc

then_equal : (k n : Ordering) → ordering_then k n ≡ Equal → n ≡ Equal
then_equal Less n e = cc
then_equal Equal n e = e
then_equal Greater n e = cc

-- ---- the lists of inputs

pub within_of : (ahead : List (List Row)) (i : ℕ) → 0 < length (ahead_at ahead i) → i < length ahead
within_of [] i some = absurd (omega arith)
within_of (rows ∷ ahead) zero some = omega arith
within_of (rows ∷ ahead) (suc i) some = omega (arith, within_of ahead i some)

-- an input that has rows where others of one input are put has some anyway, or is that one
some_anyway : (ahead : List (List Row)) (i x : ℕ) (rows : List Row) → 0 < length (ahead_at (set ahead i rows) x) → (0 < length (ahead_at ahead x)) ⊎ (i ≡ x)
some_anyway [] i x rows some = inl some
some_anyway (a ∷ ahead) zero zero rows some = inr refl
some_anyway (a ∷ ahead) zero (suc x) rows some = inl some
some_anyway (a ∷ ahead) (suc i) zero rows some = inl some
some_anyway (a ∷ ahead) (suc i) (suc x) rows some = by (some_anyway ahead i x rows some)
  where
    by : (0 < length (ahead_at ahead x)) ⊎ (i ≡ x) → (0 < length (ahead_at ahead x)) ⊎ (suc i ≡ suc x)
    by (inl more) = inl more
    by (inr e) = inr (ap suc e)

-- a list around one of its inputs, and with other rows there
pub around : (ahead : List (List Row)) (i : ℕ) → i < length ahead → ahead ≡ take i ahead ++ ahead_at ahead i ∷ drop (suc i) ahead
around [] i below = absurd (omega arith)
around (a ∷ ahead) zero below = refl
around (a ∷ ahead) (suc i) below = ap (λ zs. a ∷ zs) (around ahead i (omega arith))

pub set_around : (ahead : List (List Row)) (i : ℕ) (rows : List Row) → i < length ahead → set ahead i rows ≡ take i ahead ++ rows ∷ drop (suc i) ahead
set_around [] i rows below = absurd (omega arith)
set_around (a ∷ ahead) zero rows below = refl
set_around (a ∷ ahead) (suc i) rows below = ap (λ zs. a ∷ zs) (set_around ahead i rows (omega arith))

module _ (places : List ℕ) (ahead : List (List Row)) where
  abbrev by_lead : ℕ → ℕ → Ordering
  by_lead = lead_cmp places ahead

  leads_total : IsTotalOrder (lead_cmp places ahead)
  leads_total = then_total (on_total (lead_at ahead) (key_total places)) nat_cmp_total

  not_before_itself : (x y : ℕ) → x ≡ y → by_lead y x ≡ Less → ⊥
  not_before_itself x y e less = clash (sym (equal_itself by_lead leads_total x) ∙ ap (λ z. by_lead z x) e ∙ less)
    where
      clash : Equal ≡ Less → ⊥
      clash h = cc

  -- ---- bisection

  before_all : (ranked : List ℕ) (input m : ℕ) → m < length ranked → Falls by_lead ranked → by_lead input (get_or ranked m 0) ≡ Less → All (λ x. by_lead input x ≡ Less) (take (m + 1) ranked)
  before_all ranked input m below falls less =
      All-same (λ x. by_lead input x ≡ Less) (take (m + 1) ranked) (take m ranked ++ x ∷ []) next
      (All-append (λ x. by_lead input x ≡ Less) (take m ranked) (x ∷ [])
      (λ k d low. leads_total.trans input x (get_or (take m ranked) k d) less (All-head (λ y. by_lead y (get_or (take m ranked) k d) ≡ Less) x [] (between k d low)))
      (All-cons (λ x. by_lead input x ≡ Less) x [] less (All-nil (λ x. by_lead input x ≡ Less))))
    where
      x : ℕ
      x = get_or ranked m 0

      next : take (m + 1) ranked ≡ take m ranked ++ x ∷ []
      next = take_more ranked m 0 below

      between : All (Under by_lead (x ∷ [])) (take m ranked)
      between =
          falls_between by_lead (take m ranked) (x ∷ [])
          (subst (Falls by_lead) next (falls_front by_lead (take (m + 1) ranked) (drop (m + 1) ranked) (subst (Falls by_lead) (sym (take-append-drop (m + 1) ranked)) falls)))

  is_less : (r : Ordering) → is_lt r ≡ true → r ≡ Less
  is_less Less e = refl
  is_less Equal e = cc
  is_less Greater e = cc

  -- an input that comes before the one in the middle comes before all up to it
  pub lower_half : (ranked : List ℕ) (input m : ℕ) → m < length ranked → Falls by_lead ranked → is_lt (by_lead input (get_or ranked m 0)) ≡ true → All (λ x. by_lead input x ≡ Less) (take (m + 1) ranked)
  lower_half ranked input m below falls less = before_all ranked input m below falls (is_less (by_lead input (get_or ranked m 0)) less)

  -- and one that does not come before it comes before none of those after it
  pub upper_half : (ranked : List ℕ) (input m : ℕ) → m < length ranked → Falls by_lead ranked → is_lt (by_lead input (get_or ranked m 0)) ≡ false
      → All (λ x. is_lt (by_lead input x) ≡ false) (drop m ranked)
  upper_half ranked input m below falls least =
      let x = get_or ranked m 0 in
      let next : drop m ranked ≡ x ∷ drop (suc m) ranked = drop-cons ranked m 0 below in
      let back = falls_back by_lead (take m ranked) (drop m ranked) (subst (Falls by_lead) (sym (take-append-drop m ranked)) falls) in
      let under : All (λ y. by_lead y x ≡ Less) (drop (suc m) ranked) = (subst (Falls by_lead) next back).0 in
      All-same (λ y. is_lt (by_lead input y) ≡ false) (drop m ranked) (x ∷ drop (suc m) ranked) next
      (All-cons (λ y. is_lt (by_lead input y) ≡ false) x (drop (suc m) ranked) least
      (All-weaker (λ y. by_lead y x ≡ Less) (λ y. is_lt (by_lead input y) ≡ false)
      (λ y is. less_is_at_most by_lead leads_total y input (less_then by_lead leads_total y x input is least)) (drop (suc m) ranked) under))

  -- ---- the choice

  -- no input is ranked: none has a row
  pub none_ranked : AreRanked places ahead [] → All (λ (rows : List Row). rows ≡ []) ahead
  none_ranked r = All-from_get_or (λ (rows : List Row). rows ≡ []) ahead [] (λ i below. by i (ahead_at ahead i) refl)
    where
      by : (i : ℕ) (rows : List Row) → ahead_at ahead i ≡ rows → ahead_at ahead i ≡ []
      by i [] e = e
      by i (x ∷ xs) e =
          let found = r.all i (omega (arith, ap length e)) in
          absurd (omega (arith, found.1))

  -- the last one goes
  pub last_goes : (others : List ℕ) (input : ℕ) → AreRanked places ahead (others ++ input ∷ []) → AreOthersRanked places ahead input others
  last_goes others input r =
      let between = falls_between by_lead others (input ∷ []) r.falls in
      record {
        some = (all_halves (λ x. 0 < length (ahead_at ahead x)) others (input ∷ []) r.some).0;
        all = λ x more. Contains-push_cases others input x (r.all x more);
        falls = falls_front by_lead others (input ∷ []) r.falls;
        differ = λ k d below e. not_before_itself (get_or others k d) input e (All-head (λ y. by_lead y (get_or others k d) ≡ Less) input [] (between k d below));
      }

  -- an input without rows is not among those that are ranked
  pub none_goes : (ranked : List ℕ) (input : ℕ) → ahead_at ahead input ≡ [] → AreRanked places ahead ranked → AreOthersRanked places ahead input ranked
  none_goes ranked input none r = record {
    some = r.some;
    all = λ x more. inl (r.all x more);
    falls = r.falls;
    differ = λ k d below e. absurd (omega (arith, r.some k d below, ap (λ x. length (ahead_at ahead x)) e, ap length none));
  }

  -- an input that has no rows any more
  pub one_ended : (ranked : List ℕ) (input : ℕ) → ahead_at ahead input ≡ [] → AreOthersRanked places ahead input ranked → AreRanked places ahead ranked
  one_ended ranked input none r = record { some = r.some; all = all; falls = r.falls }
    where
      all : (x : ℕ) → 0 < length (ahead_at ahead x) → Contains ranked x
      all x more = by (r.all x more)
        where
          by : Contains ranked x ⊎ (input ≡ x) → Contains ranked x
          by (inl c) = c
          by (inr e) = absurd (omega (arith, more, ap (λ y. length (ahead_at ahead y)) e, ap length none))

  after_input : (x input : ℕ) → x ≢ input → is_lt (by_lead input x) ≡ false → by_lead x input ≡ Less
  after_input x input other h = by (by_lead input x) refl
    where
      clash : true ≡ false → ⊥
      clash e = cc

      by : (r : Ordering) → by_lead input x ≡ r → by_lead x input ≡ Less
      by Less e = absurd (clash (sym (ap is_lt e) ∙ h))
      by Equal e = absurd (other (sym (nat_says input x Equal (then_equal (key_cmp places (lead_at ahead input) (lead_at ahead x)) (nat_cmp input x) e))))
      by Greater e = leads_total.antisymm x input ∙ ap ordering_reverse e

  -- an input goes to its place
  pub one_more_ranked : (ranked : List ℕ) (input n : ℕ) → 0 < length (ahead_at ahead input) → AreOthersRanked places ahead input ranked
      → All (λ x. by_lead input x ≡ Less) (take n ranked) → All (λ x. is_lt (by_lead input x) ≡ false) (drop n ranked) → AreRanked places ahead (insert ranked n input)
  one_more_ranked ranked input n some r earlier later = record { some = all_some; all = all; falls = falls_inserted by_lead n input ranked r.falls earlier under }
    where
      Some : ℕ → Type 0
      Some x = 0 < length (ahead_at ahead x)

      halves : All Some (take n ranked) × All Some (drop n ranked)
      halves = all_halves Some (take n ranked) (drop n ranked) (subst (All Some) (sym (take-append-drop n ranked)) r.some)

      all_some : All Some (take n ranked ++ input ∷ drop n ranked)
      all_some = All-append Some (take n ranked) (input ∷ drop n ranked) halves.0 (All-cons Some input (drop n ranked) some halves.1)

      differ : All (λ x. x ≢ input) (drop n ranked)
      differ = (all_halves (λ x. x ≢ input) (take n ranked) (drop n ranked) (subst (All (λ x. x ≢ input)) (sym (take-append-drop n ranked)) r.differ)).1

      under : All (λ x. by_lead x input ≡ Less) (drop n ranked)
      under k d below = after_input (get_or (drop n ranked) k d) input (differ k d below) (later k d below)

      all : (x : ℕ) → Some x → Contains (take n ranked ++ input ∷ drop n ranked) x
      all x more = by (r.all x more)
        where
          within : Contains (take n ranked) x ⊎ Contains (drop n ranked) x → Contains (take n ranked ++ input ∷ drop n ranked) x
          within (inl c) = Contains-append_left (take n ranked) (input ∷ drop n ranked) x c
          within (inr c) = Contains-append_right (take n ranked) (input ∷ drop n ranked) x (Contains-append_right (input ∷ []) (drop n ranked) x c)

          by : Contains ranked x ⊎ (input ≡ x) → Contains (take n ranked ++ input ∷ drop n ranked) x
          by (inl c) = within (Contains-append_cases (take n ranked) (drop n ranked) x (subst (λ xs. Contains xs x) (sym (take-append-drop n ranked)) c))
          by (inr e) = subst (Contains (take n ranked ++ input ∷ drop n ranked)) e (Contains-append_right (take n ranked) (input ∷ drop n ranked) input (zero, omega arith, refl))

  -- other rows are put in place of an input's
  pub others_stay : (ranked : List ℕ) (input : ℕ) (rows : List Row) → AreOthersRanked places ahead input ranked → AreOthersRanked places (set ahead input rows) input ranked
  others_stay ranked input rows r = record {
    some = λ k d below. subst (λ xs. 0 < length xs) (sym (stays (get_or ranked k d) (r.differ k d below))) (r.some k d below);
    all = all;
    falls = falls_same by_lead (lead_cmp places (set ahead input rows)) ranked (λ x. x ≢ input)
        (λ x y p q. ap₂ (λ a b. ordering_then (key_cmp places (get_or a 0 []) (get_or b 0 [])) (nat_cmp y x)) (stays y q) (stays x p)) r.differ r.falls;
    differ = r.differ;
  }
    where
      stays : (x : ℕ) → x ≢ input → ahead_at (set ahead input rows) x ≡ ahead_at ahead x
      stays x other = get_or-set_other ahead input x rows [] other

      all : (x : ℕ) → 0 < length (ahead_at (set ahead input rows) x) → Contains ranked x ⊎ (input ≡ x)
      all x more = by (some_anyway ahead input x rows more)
        where
          by : (0 < length (ahead_at ahead x)) ⊎ (input ≡ x) → Contains ranked x ⊎ (input ≡ x)
          by (inl some) = r.all x some
          by (inr e) = inr e

  -- the last of the ranked inputs has the next row
  pub last_is_next : (others : List ℕ) (input : ℕ) (row : Row) (rows : List Row) → AreRanked places ahead (others ++ input ∷ []) → ahead_at ahead input ≡ row ∷ rows
      → TakesFirst places ahead input row (set ahead input rows)
  last_is_next others input row rows r is = record {
    front = take input ahead;
    rows = rows;
    back = drop (suc input) ahead;
    input_is = omega (arith, length-take input ahead, below);
    ahead_is = around ahead input below ∙ ap (λ xs. take input ahead ++ xs ∷ drop (suc input) ahead) is;
    new_is = set_around ahead input rows below;
    before = All-from_get_or Before (take input ahead) [] (λ j low. by_before j low);
    after = All-from_get_or NotBefore (drop (suc input) ahead) [] (λ j low. by_after j);
  }
    where
      below : input < length ahead
      below = within_of ahead input (omega (arith, ap length is))

      Before : List Row → Type 0
      Before others = All (λ other. key_cmp places row other ≡ Less) (take 1 others)

      NotBefore : List Row → Type 0
      NotBefore others = All (λ other. is_lt (key_cmp places other row) ≡ false) (take 1 others)

      lead : lead_at ahead input ≡ row
      lead = ap (λ xs. get_or xs 0 []) is

      -- another input that has rows comes later
      later : (j : ℕ) → (j ≡ input → ⊥) → 0 < length (ahead_at ahead j) → by_lead input j ≡ Less
      later j other some = by (Contains-push_cases others input j (r.all j some))
        where
          by : Contains others j ⊎ (input ≡ j) → by_lead input j ≡ Less
          by (inl c) =
              All-head (λ y. by_lead y j ≡ Less) input [] (All-contains (Under by_lead (input ∷ [])) others j (falls_between by_lead others (input ∷ []) r.falls) c)
          by (inr e) = absurd (other (sym e))

      head_of : (j : ℕ) (x : Row) (xs : List Row) → ahead_at ahead j ≡ x ∷ xs → (j ≡ input → ⊥) → ordering_then (key_cmp places row x) (nat_cmp input j) ≡ Less
      head_of j x xs e other =
          ap₂ (λ a b. ordering_then (key_cmp places a b) (nat_cmp input j)) (sym lead) (sym (ap (λ zs. get_or zs 0 []) e))
          ∙ later j other (omega (arith, ap length e))

      of_earlier : (j : ℕ) → j < input → (found : List Row) → ahead_at ahead j ≡ found → Before found
      of_earlier j low [] e = All-nil (λ other. key_cmp places row other ≡ Less)
      of_earlier j low (x ∷ xs) e =
          All-cons (λ other. key_cmp places row other ≡ Less) x [] (first_less (key_cmp places row x) input j (head_of j x xs e (λ same. omega (arith, low, same))) low)
          (All-nil (λ other. key_cmp places row other ≡ Less))

      of_later : (j : ℕ) → input < j → (found : List Row) → ahead_at ahead j ≡ found → NotBefore found
      of_later j high [] e = All-nil (λ other. is_lt (key_cmp places other row) ≡ false)
      of_later j high (x ∷ xs) e =
          All-cons (λ other. is_lt (key_cmp places other row) ≡ false) x []
          (up_to_is_at_most (key_cmp places) (key_total places) row x (first_le (key_cmp places row x) (nat_cmp input j) (head_of j x xs e (λ same. omega (arith, high, same)))))
          (All-nil (λ other. is_lt (key_cmp places other row) ≡ false))

      by_before : (j : ℕ) → j < length (take input ahead) → Before (get_or (take input ahead) j [])
      by_before j low =
          let short : j < input = omega (arith, low, length-take input ahead) in
          subst Before (sym (get_or-take input ahead j [] short)) (of_earlier j short (ahead_at ahead j) refl)

      by_after : (j : ℕ) → NotBefore (get_or (drop (suc input) ahead) j [])
      by_after j = subst NotBefore (sym (get_or-drop (suc input) ahead j [])) (of_later (suc input + j) (omega arith) (ahead_at ahead (suc input + j)) refl)

  -- ---- other rows of the input that has the next row

  -- its first one comes before those of all others
  pub first_leads : (others : List ℕ) (input : ℕ) → AreRanked places ahead (others ++ input ∷ []) → RowLeads places ahead input others (lead_at ahead input)
  first_leads others input r = λ k d below. All-head (λ y. by_lead y (get_or others k d) ≡ Less) input [] (falls_between by_lead others (input ∷ []) r.falls k d below)

  -- the last of the others comes before those that are ranked earlier
  pub last_under : (others : List ℕ) (next : ℕ) → Falls by_lead (others ++ next ∷ []) → All (λ x. by_lead next x ≡ Less) others
  last_under others next f = λ k d below. All-head (λ y. by_lead y (get_or others k d) ≡ Less) next [] (falls_between by_lead others (next ∷ []) f k d below)

  pub others_fall : (others : List ℕ) (input : ℕ) → AreRanked places ahead (others ++ input ∷ []) → Falls by_lead others
  others_fall others input r = falls_front by_lead others (input ∷ []) r.falls

  -- a row that comes before the first rows of the ranked inputs comes before those of the earlier ones, and those of the later ones do not come before it
  pub row_leads : (others : List ℕ) (input : ℕ) (row : Row) → AreOthersRanked places ahead input others → RowLeads places ahead input others row → LeadsFirst places (take input ahead) (drop (suc input) ahead) row
  row_leads others input row r leads = record {
    before = All-from_get_or Before (take input ahead) [] (λ j low. by_before j low);
    after = All-from_get_or NotBefore (drop (suc input) ahead) [] (λ j low. by_after j);
  }
    where
      Before : List Row → Type 0
      Before xs = All (λ other. key_cmp places row other ≡ Less) (take 1 xs)

      NotBefore : List Row → Type 0
      NotBefore xs = All (λ other. is_lt (key_cmp places other row) ≡ false) (take 1 xs)

      IsUnder : ℕ → Type 0
      IsUnder x = ordering_then (key_cmp places row (lead_at ahead x)) (nat_cmp input x) ≡ Less

      later : (j : ℕ) → (j ≡ input → ⊥) → 0 < length (ahead_at ahead j) → IsUnder j
      later j other some = by (r.all j some)
        where
          by : Contains others j ⊎ (input ≡ j) → IsUnder j
          by (inl c) = All-contains IsUnder others j leads c
          by (inr e) = absurd (other (sym e))

      head_of : (j : ℕ) (x : Row) (xs : List Row) → ahead_at ahead j ≡ x ∷ xs → (j ≡ input → ⊥) → ordering_then (key_cmp places row x) (nat_cmp input j) ≡ Less
      head_of j x xs e other =
          ap (λ a. ordering_then (key_cmp places row a) (nat_cmp input j)) (sym (ap (λ zs. get_or zs 0 []) e))
          ∙ later j other (omega (arith, ap length e))

      of_earlier : (j : ℕ) → j < input → (found : List Row) → ahead_at ahead j ≡ found → Before found
      of_earlier j low [] e = All-nil (λ other. key_cmp places row other ≡ Less)
      of_earlier j low (x ∷ xs) e =
          All-cons (λ other. key_cmp places row other ≡ Less) x [] (first_less (key_cmp places row x) input j (head_of j x xs e (λ same. omega (arith, low, same))) low)
          (All-nil (λ other. key_cmp places row other ≡ Less))

      of_later : (j : ℕ) → input < j → (found : List Row) → ahead_at ahead j ≡ found → NotBefore found
      of_later j high [] e = All-nil (λ other. is_lt (key_cmp places other row) ≡ false)
      of_later j high (x ∷ xs) e =
          All-cons (λ other. is_lt (key_cmp places other row) ≡ false) x []
          (up_to_is_at_most (key_cmp places) (key_total places) row x (first_le (key_cmp places row x) (nat_cmp input j) (head_of j x xs e (λ same. omega (arith, high, same)))))
          (All-nil (λ other. is_lt (key_cmp places other row) ≡ false))

      by_before : (j : ℕ) → j < length (take input ahead) → Before (get_or (take input ahead) j [])
      by_before j low =
          let short : j < input = omega (arith, low, length-take input ahead) in
          subst Before (sym (get_or-take input ahead j [] short)) (of_earlier j short (ahead_at ahead j) refl)

      by_after : (j : ℕ) → NotBefore (get_or (drop (suc input) ahead) j [])
      by_after j = subst NotBefore (sym (get_or-drop (suc input) ahead j [])) (of_later (suc input + j) (omega arith) (ahead_at ahead (suc input + j)) refl)
