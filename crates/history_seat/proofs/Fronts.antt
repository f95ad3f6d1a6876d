-- Fronts of lists, the longer of two fronts, the entries of one session, and what is begun.
use Rattle.std.proofs.Common.{◌≡◌, ◌≢◌, ◌+◌, ◌<◌, ◌≤◌, ◌==◌, ◌∷◌, ◌++◌, [], ℕ, All, Bool, List, Option, None, Some, true, false, cond, length, nat_lt, refl, sym, ap, ◌∙◌, arith, append_assoc, append-nil, eq-eqb, ltb-true, ltb-false, ne_eqb, true≢false}
use Rattle.std.proofs.lemmas.List.Elements.{All-head, All-tail, filter-append}
use Rattle.mt_values.specs.declared.command.Entry.{Entry}
use Rattle.history_seat.specs.declared.view.View.{View}
use Rattle.history_seat.specs.Views.{Begins, KnowsBegun, begun_of, counted, leading, newcomer, own}

pub begins_itself : (xs : List Entry) → Begins xs xs
begins_itself xs = ([], append-nil xs)

pub begins_more : (xs ys zs : List Entry) → Begins xs ys → Begins xs (ys ++ zs)
begins_more xs ys zs p = (p.0 ++ zs, sym (append_assoc xs p.0 zs) ∙ ap (λ l. l ++ zs) p.1)

pub begins_through : (xs ys zs : List Entry) → Begins xs ys → Begins ys zs → Begins xs zs
begins_through xs ys zs p q = (p.0 ++ q.0, sym (append_assoc xs p.0 q.0) ∙ ap (λ l. l ++ q.0) p.1 ∙ q.1)

-- of two fronts of one list, the shorter is a front of the other
begins_shorter : (xs ys l : List Entry) → Begins xs l → Begins ys l → length xs ≤ length ys → Begins xs ys
begins_shorter [] ys l p q h = (ys, refl)
begins_shorter (x ∷ xs) [] l p q h = absurd (omega arith)
begins_shorter (x ∷ xs) (y ∷ ys) [] p q h = absurd (let e = p.1 in cc)
begins_shorter (x ∷ xs) (y ∷ ys) (z ∷ l) p q h =
    let front : xs ++ p.0 ≡ l = (let e = p.1 in cc) in
    let other : ys ++ q.0 ≡ l = (let e = q.1 in cc) in
    let first : x ≡ y = (let e = p.1 in let f = q.1 in cc) in
    let rest = begins_shorter xs ys l (p.0, front) (q.0, other) (omega arith) in
    (rest.0, λ i. first i ∷ rest.1 i)

-- two lists, and one that both begin, itself a front of the list
pub record Leads (xs ys leader list : List Entry) : Type 0 where
  pub first : Begins xs leader
  pub second : Begins ys leader
  pub front : Begins leader list

longer_if : (t : Bool) (xs ys list : List Entry) → nat_lt (length xs) (length ys) ≡ t → Begins xs list → Begins ys list → Leads xs ys (cond t ys xs) list
longer_if true xs ys list is p q = record { first = begins_shorter xs ys list p q (let h = ltb-true (length xs) (length ys) is in omega arith); second = begins_itself ys; front = q }
longer_if false xs ys list is p q = record { first = begins_itself xs; second = begins_shorter ys xs list q p (let h = ltb-false (length xs) (length ys) is in omega arith); front = p }

-- of two fronts the leading one has both
pub leads : (b c : Bool) (xs ys list : List Entry) → Begins xs list → Begins ys list → (b ≡ true → xs ≡ list) → (c ≡ true → ys ≡ list) → Leads xs ys (leading b c xs ys) list
leads true c xs ys list p q one two = record { first = begins_itself xs; second = (let d : ys ++ q.0 ≡ xs = q.1 ∙ sym (one refl) in (q.0, d)); front = p }
leads false true xs ys list p q one two = record { first = (let d : xs ++ p.0 ≡ ys = p.1 ∙ sym (two refl) in (p.0, d)); second = begins_itself ys; front = q }
leads false false xs ys list p q one two = longer_if (nat_lt (length xs) (length ys)) xs ys list refl p q

-- and it is the whole list, where one of the two has the pen
pub leads_whole : (b c : Bool) (xs ys list : List Entry) → (b ≡ true → xs ≡ list) → (c ≡ true → ys ≡ list) → cond b true c ≡ true → leading b c xs ys ≡ list
leads_whole true c xs ys list one two pen = one refl
leads_whole false true xs ys list one two pen = two refl
leads_whole false false xs ys list one two pen = absurd (true≢false (sym pen))

-- and it knows what is begun
pub begun_whole : (b c : Bool) (x y now : Option Entry) → (b ≡ true → x ≡ now) → (c ≡ true → y ≡ now) → cond b true c ≡ true → begun_of b c x y ≡ now
begun_whole true c x y now one two pen = one refl
begun_whole false true x y now one two pen = two refl
begun_whole false false x y now one two pen = absurd (true≢false (sym pen))

-- what session 0 knows of what is begun, once it made a session more, and what that knows
pub maker_knows : (v : View) (now : Option Entry) → KnowsBegun v now → KnowsBegun (counted v) now
maker_knows v None k = tt
maker_knows v (Some e) k = (k.0, λ zeroth. let low = k.1 zeroth in let more : e.session ≤ v.made + 1 = omega (arith, low) in more)

pub made_knows : (v : View) (now : Option Entry) → v.number ≡ 0 → KnowsBegun v now → KnowsBegun (newcomer v) now
made_knows v None zeroth k = tt
made_knows v (Some e) zeroth k = (
  λ same. absurd (let low = k.1 zeroth in let is : e.session ≡ v.made + 1 = same in omega (arith, low, is)),
  λ none. absurd (let no : v.made + 1 ≡ 0 = none in omega (arith, no)),
)

pub own_more : (n : ℕ) (list : List Entry) (e : Entry) → e.session ≡ n → own n (list ++ e ∷ []) ≡ own n list ++ e ∷ []
own_more n list e same = filter-append (λ (x : Entry). x.session == n) list (e ∷ []) ∙ ap (λ b. own n list ++ cond b (e ∷ []) []) (eq-eqb e.session n same)

pub own_else : (n : ℕ) (list : List Entry) (e : Entry) → e.session ≢ n → own n (list ++ e ∷ []) ≡ own n list
own_else n list e other = filter-append (λ (x : Entry). x.session == n) list (e ∷ []) ∙ ap (λ b. own n list ++ cond b (e ∷ []) []) (ne_eqb e.session n other) ∙ append-nil _

-- a number above all that have entries has none
pub own_none : (n : ℕ) (list : List Entry) → All (λ (e : Entry). e.session < n) list → own n list ≡ []
own_none n [] all = refl
own_none n (e ∷ list) all =
    let less = All-head (λ (x : Entry). x.session < n) e list all in
    ap (λ b. cond b (e ∷ own n list) (own n list)) (ne_eqb e.session n (λ s. omega (arith, s))) ∙ own_none n list (All-tail (λ (x : Entry). x.session < n) e list all)
