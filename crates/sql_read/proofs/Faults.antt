-- What readers say of tokens: a fault is the first one, and a statement is not the front of another.
use Rattle.std.proofs.Common.{◌≡◌, ℕ, suc, ◌<◌, Bool, true, false, cond, List, [], ◌∷◌, ◌++◌, length, Result, Ok, Err, refl, arith, ◌∙◌, sym, ap, subst}
use Rattle.mt_values.specs.declared.statement.Slip.{Slip}
use Rattle.mt_values.specs.declared.statement.Slip.TheVariants as slip
use Rattle.mt_values.specs.declared.token.Placed.{Placed}
use Rattle.mt_values.specs.declared.token.Token.{Token}
use Rattle.mt_values.specs.declared.token.Token.TheVariants as token
use Rattle.mt_values.specs.Grammar.{is_reserved, fits_name, passing, name}
use Rattle.mt_values.specs.Readers.{Reading, Reader, Test, done, taken, expect}
use Rattle.sql_read.specs.Places.{GoesOn, DeepFault, FirstFault, LongFault}

-- what a reader says of some tokens holds of their fronts, too
abbrev pub Told : {S : Type 0} → Reader S → List Placed → Reading S → Type 0
Told read tokens (Ok s) = (p : Placed) → ¬ GoesOn read (tokens ++ p ∷ [])
Told read tokens (Err (slip.Wrong, rest)) = FirstFault read tokens rest
Told read tokens (Err (slip.LongName, rest)) = LongFault read tokens rest
Told read tokens (Err (slip.TooDeep, rest)) = DeepFault read tokens rest

-- it says so of fewer tokens than this
abbrev pub Good : {S : Type 0} → ℕ → Reader S → Type 0
Good {S} n read = (tokens : List Placed) (r : Reading S) → length tokens < n → read tokens ≡ r → Told read tokens r

-- a word at a place
abbrev pub word_at : ℕ → List ℕ → Placed
word_at place word = record { at = place; token = token.Word word }

-- a token at a place
abbrev pub token_at : ℕ → Token → Placed
token_at place t = record { at = place; token = t }

pub head_same : (p q : Placed) (ps qs : List Placed) → p ∷ ps ≡ q ∷ qs → q ≡ p
head_same p q ps qs e = cc

module _ {S : Type 0} where
  fault_of : Reading S → Slip × List Placed
  fault_of (Ok s) = (slip.Wrong, [])
  fault_of (Err f) = f

  pub slip_same : (f g : Slip × List Placed) → ◌≡◌ {A = Reading S} (Err f) (Err g) → f.0 ≡ g.0
  unfolding fault_of
  slip_same f g e = ap (λ (r : Reading S). (fault_of r).0) e

  pub rest_same : (f g : Slip × List Placed) → ◌≡◌ {A = Reading S} (Err f) (Err g) → f.1 ≡ g.1
  unfolding fault_of
  rest_same f g e = ap (λ (r : Reading S). (fault_of r).1) e

  first_moved : (read other : Reader S) (p : Placed) (tokens rest : List Placed) → ((us : List Placed) → other (p ∷ us) ≡ read us) → FirstFault read tokens rest → FirstFault other (p ∷ tokens) rest
  first_moved read other p tokens rest same f = record {
    front = p ∷ f.front;
    parts = ap (λ (l : List Placed). p ∷ l) f.parts;
    before = (f.before.0, f.before.1, same (f.front ++ f.before.0) ∙ f.before.2);
    there = λ q qs e g. f.there q qs e (g.0, g.1, sym (same ((f.front ++ q ∷ []) ++ g.0)) ∙ g.2);
  }

  long_moved : (read other : Reader S) (p : Placed) (tokens rest : List Placed) → ((us : List Placed) → other (p ∷ us) ≡ read us) → LongFault read tokens rest → LongFault other (p ∷ tokens) rest
  long_moved read other p tokens rest same f = record {
    front = p ∷ f.front;
    place = f.place;
    word = f.word;
    behind = f.behind;
    parts = ap (λ (l : List Placed). p ∷ l) f.parts;
    here = f.here;
    is_name = f.is_name;
    is_long = f.is_long;
    before = (f.before.0, f.before.1, same (f.front ++ f.before.0) ∙ f.before.2);
    there = λ g. f.there (g.0, g.1, sym (same ((f.front ++ record { at = f.place; token = token.Word f.word } ∷ []) ++ g.0)) ∙ g.2);
    shorter = λ n free short.
        let g = f.shorter n free short in
        (g.0, g.1, same ((f.front ++ record { at = f.place; token = token.Word n } ∷ []) ++ g.0) ∙ g.2);
  }

  deep_moved : (read other : Reader S) (p : Placed) (tokens rest : List Placed) → ((us : List Placed) → other (p ∷ us) ≡ read us) → DeepFault read tokens rest → DeepFault other (p ∷ tokens) rest
  deep_moved read other p tokens rest same f = record {
    front = p ∷ f.front;
    place = f.place;
    opening = f.opening;
    behind = f.behind;
    parts = ap (λ (l : List Placed). p ∷ l) f.parts;
    here = f.here;
    is_opening = f.is_opening;
    before = (f.before.0, f.before.1, same (f.front ++ f.before.0) ∙ f.before.2);
    there = λ g. f.there (g.0, g.1, sym (same ((f.front ++ token_at f.place f.opening ∷ []) ++ g.0)) ∙ g.2);
    shallower = λ n free short.
        let g = f.shallower n free short in
        (g.0, g.1, same ((f.front ++ word_at f.place n ∷ []) ++ g.0) ∙ g.2);
  }

  -- a token in front, that says nothing of what follows it
  told_moved : (read other : Reader S) (p : Placed) (tokens : List Placed) (r : Reading S) → ((us : List Placed) → other (p ∷ us) ≡ read us) → Told read tokens r → Told other (p ∷ tokens) r
  told_moved read other p tokens (Ok s) same t = λ q g. t q (g.0, g.1, sym (same ((tokens ++ q ∷ []) ++ g.0)) ∙ g.2)
  told_moved read other p tokens (Err (slip.Wrong, rest)) same t = first_moved read other p tokens rest same t
  told_moved read other p tokens (Err (slip.LongName, rest)) same t = long_moved read other p tokens rest same t
  told_moved read other p tokens (Err (slip.TooDeep, rest)) same t = deep_moved read other p tokens rest same t

  -- two readers say the same of tokens that begin with this one
  abbrev pub SameAt : Reader S → Reader S → Placed → Type 0
  SameAt read other p = (us : List Placed) → other (p ∷ us) ≡ read (p ∷ us)

  same_along : (read other : Reader S) (p q : Placed) → SameAt read other p → q ≡ p → SameAt read other q
  same_along read other p q same e = subst (SameAt read other) (sym e) same

  first_same : (read other : Reader S) (p : Placed) (ps front rest : List Placed) → SameAt read other p → GoesOn other [] → p ∷ ps ≡ front ++ rest → GoesOn read front →
      ((q : Placed) (qs : List Placed) → rest ≡ q ∷ qs → ¬ GoesOn read (front ++ q ∷ [])) → FirstFault other (p ∷ ps) rest
  first_same read other p ps [] rest same live parts before there = record {
    front = [];
    parts = parts;
    before = live;
    there = λ q qs e g. there q qs e (g.0, g.1, sym (same_along read other p q same (head_same p q ps qs (parts ∙ e)) g.0) ∙ g.2);
  }
  first_same read other p ps (f ∷ fs) rest same live parts before there =
      let along = same_along read other p f same (head_same p f ps (fs ++ rest) parts) in
      record {
        front = f ∷ fs;
        parts = parts;
        before = (before.0, before.1, along (fs ++ before.0) ∙ before.2);
        there = λ q qs e g. there q qs e (g.0, g.1, sym (along ((fs ++ q ∷ []) ++ g.0)) ∙ g.2);
      }

  -- where a name is the first token, the readers say the same of each name there
  abbrev pub SameNamed : Reader S → Reader S → Placed → List Placed → List Placed → Type 0
  SameNamed read other p ps rest = (place : ℕ) (word : List ℕ) → rest ≡ p ∷ ps → p ≡ word_at place word → is_reserved word ≡ false → (name : List ℕ) → is_reserved name ≡ false → SameAt read other (word_at place name)

  long_same : (read other : Reader S) (p : Placed) (ps front rest : List Placed) (place : ℕ) (word : List ℕ) (behind : List Placed) → SameAt read other p → SameNamed read other p ps rest → GoesOn other [] → p ∷ ps ≡ front ++ rest →
      rest ≡ word_at place word ∷ behind → is_reserved word ≡ false → fits_name word ≡ false → GoesOn read front → ¬ GoesOn read (front ++ word_at place word ∷ []) →
      ((name : List ℕ) → is_reserved name ≡ false → fits_name name ≡ true → GoesOn read (front ++ word_at place name ∷ [])) → LongFault other (p ∷ ps) rest
  long_same read other p ps [] rest place word behind same named live parts here is_name is_long before there shorter =
      let p_is = sym (head_same p (word_at place word) ps behind (parts ∙ here)) in
      let along = named place word (sym parts) p_is is_name in
      record {
        front = [];
        place = place;
        word = word;
        behind = behind;
        parts = parts;
        here = here;
        is_name = is_name;
        is_long = is_long;
        before = live;
        there = λ g. there (g.0, g.1, sym (along word is_name g.0) ∙ g.2);
        shorter = λ name free short. let g = shorter name free short in (g.0, g.1, along name free g.0 ∙ g.2);
      }
  long_same read other p ps (f ∷ fs) rest place word behind same named live parts here is_name is_long before there shorter =
      let along = same_along read other p f same (head_same p f ps (fs ++ rest) parts) in
      record {
        front = f ∷ fs;
        place = place;
        word = word;
        behind = behind;
        parts = parts;
        here = here;
        is_name = is_name;
        is_long = is_long;
        before = (before.0, before.1, along (fs ++ before.0) ∙ before.2);
        there = λ g. there (g.0, g.1, sym (along ((fs ++ word_at place word ∷ []) ++ g.0)) ∙ g.2);
        shorter = λ name free short. let g = shorter name free short in (g.0, g.1, along ((fs ++ word_at place name ∷ []) ++ g.0) ∙ g.2);
      }

  deep_same : (read other : Reader S) (p : Placed) (ps front rest : List Placed) (f : DeepFault read (p ∷ ps) rest) → SameAt read other p → (rest ≡ p ∷ ps → ⊥) → front ≡ f.front → DeepFault other (p ∷ ps) rest
  deep_same read other p ps [] rest f same later is = absurd (later (sym (f.parts ∙ ap (λ (l : List Placed). l ++ rest) (sym is))))
  deep_same read other p ps (q ∷ qs) rest f same later is =
      let parts : p ∷ ps ≡ q ∷ (qs ++ rest) = f.parts ∙ ap (λ (l : List Placed). l ++ rest) (sym is) in
      let along = same_along read other p q same (head_same p q ps (qs ++ rest) parts) in
      let moved = λ (us : List Placed). subst (λ (l : List Placed). other (l ++ us) ≡ read (l ++ us)) is (along (qs ++ us)) in
      let moved_one = λ (u : Placed) (us : List Placed). subst (λ (l : List Placed). other ((l ++ u ∷ []) ++ us) ≡ read ((l ++ u ∷ []) ++ us)) is (along ((qs ++ u ∷ []) ++ us)) in
      record {
        front = f.front;
        place = f.place;
        opening = f.opening;
        behind = f.behind;
        parts = f.parts;
        here = f.here;
        is_opening = f.is_opening;
        before = (f.before.0, f.before.1, moved f.before.0 ∙ f.before.2);
        there = λ g. f.there (g.0, g.1, sym (moved_one (token_at f.place f.opening) g.0) ∙ g.2);
        shallower = λ name free short. let g = f.shallower name free short in (g.0, g.1, moved_one (word_at f.place name) g.0 ∙ g.2);
      }

  -- readers that say the same of tokens that begin as these do
  pub told_same : (read other : Reader S) (p : Placed) (ps : List Placed) (r : Reading S) → SameAt read other p → ((rest : List Placed) → r ≡ Err (slip.LongName, rest) → SameNamed read other p ps rest) → (r ≡ Err (slip.TooDeep, p ∷ ps) → ⊥) → GoesOn other [] → Told read (p ∷ ps) r → Told other (p ∷ ps) r
  told_same read other p ps (Ok s) same named later live t = λ q g. t q (g.0, g.1, sym (same ((ps ++ q ∷ []) ++ g.0)) ∙ g.2)
  told_same read other p ps (Err (slip.Wrong, rest)) same named later live t = first_same read other p ps t.front rest same live t.parts t.before t.there
  told_same read other p ps (Err (slip.LongName, rest)) same named later live t =
      long_same read other p ps t.front rest t.place t.word t.behind same (named rest refl) live t.parts t.here t.is_name t.is_long t.before t.there t.shorter
  told_same read other p ps (Err (slip.TooDeep, rest)) same named later live t =
      deep_same read other p ps t.front rest t same (λ is. later (ap (λ (l : List Placed). Err (slip.TooDeep, l)) is)) refl

  -- ---- the end of a statement

  pub done_good : (n : ℕ) (s : S) → Good n (done s)
  done_good n s [] (Ok t) less e = λ p g. ended p g.0 g.1 g.2
    where
      ended : (p : Placed) (more : List Placed) (t : S) → done s (p ∷ more) ≡ Ok t → ⊥
      ended p more t e = cc
  done_good n s [] (Err f) less e = cc
  done_good n s (p ∷ ps) (Ok t) less e = cc
  done_good n s (p ∷ ps) (Err (slip.Wrong, rest)) less e = record {
    front = [];
    parts = rest_same (slip.Wrong, p ∷ ps) (slip.Wrong, rest) e;
    before = ([], s, refl);
    there = λ q qs e g. ended q g.0 g.1 g.2;
  }
    where
      ended : (p : Placed) (more : List Placed) (t : S) → done s (p ∷ more) ≡ Ok t → ⊥
      ended p more t e = cc
  done_good n s (p ∷ ps) (Err (slip.LongName, rest)) less e = absurd (apart (slip_same (slip.Wrong, p ∷ ps) (slip.LongName, rest) e))
    where
      apart : slip.Wrong ≡ slip.LongName → ⊥
      apart e = cc
  done_good n s (p ∷ ps) (Err (slip.TooDeep, rest)) less e = absurd (apart (slip_same (slip.Wrong, p ∷ ps) (slip.TooDeep, rest) e))
    where
      apart : slip.Wrong ≡ slip.TooDeep → ⊥
      apart e = cc

-- ---- one token

-- a test says of a token that it is a name, but too long: a name that fits passes in its place
pub record IsLongName {X : Type 0} (test : Test X) (t : Token) : Type 0 where
  pub word : List ℕ
  pub is : t ≡ token.Word word
  pub is_name : is_reserved word ≡ false
  pub is_long : fits_name word ≡ false
  pub shorter : (name : List ℕ) → is_reserved name ≡ false → fits_name name ≡ true → (x : X) × (test (token.Word name) ≡ Ok x)

-- it says so of such names alone, and of no token that it opens too many parentheses
abbrev pub NamesTold : {X : Type 0} → Test X → Type 0
NamesTold test = ((t : Token) → test t ≡ Err slip.LongName → IsLongName test t) × ((t : Token) → test t ≡ Err slip.TooDeep → ⊥)

-- a test that refuses each token in the same way
abbrev pub OnlyWrong : {X : Type 0} → Test X → Type 0
OnlyWrong test = (t : Token) (s : Slip) → test t ≡ Err s → s ≡ slip.Wrong

pub only_wrong_names : {X : Type 0} (test : Test X) → OnlyWrong test → NamesTold test
only_wrong_names test wrong = (λ t e. absurd (long (wrong t slip.LongName e)), λ t e. deep (wrong t slip.TooDeep e))
  where
    long : slip.LongName ≡ slip.Wrong → ⊥
    long e = cc

    deep : slip.TooDeep ≡ slip.Wrong → ⊥
    deep e = cc

module _ {S X : Type 0} (n : ℕ) (test : Test X) (next : X → Reader S) (names : NamesTold test) (good : (x : X) → Good n (next x)) (goes : (x : X) → GoesOn (next x) []) (live : GoesOn (expect test next) []) where
  expect_is : (p : Placed) (o : Result X Slip) (us : List Placed) → test p.token ≡ o → expect test next (p ∷ us) ≡ taken o next p us
  expect_is p o us is = ap (λ (o : Result X Slip). taken o next p us) is

  stopped : (p : Placed) (s : Slip) → test p.token ≡ Err s → ¬ GoesOn (expect test next) (p ∷ [])
  stopped p s is g = by (sym (expect_is p (Err s) g.0 is) ∙ g.2)
    where
      by : ◌≡◌ {A = Reading S} (Err (s, p ∷ g.0)) (Ok g.1) → ⊥
      by e = cc

  token_wrong : (p : Placed) (ps : List Placed) → test p.token ≡ Err slip.Wrong → FirstFault (expect test next) (p ∷ ps) (p ∷ ps)
  token_wrong p ps is = record {
    front = [];
    parts = refl;
    before = live;
    there = λ q qs e. stopped q slip.Wrong (ap (λ (z : Placed). test z.token) (head_same p q ps qs e) ∙ is);
  }

  token_long : (p : Placed) (ps : List Placed) → test p.token ≡ Err slip.LongName → LongFault (expect test next) (p ∷ ps) (p ∷ ps)
  token_long p ps is =
      let long = names.0 p.token is in
      record {
        front = [];
        place = p.at;
        word = long.word;
        behind = ps;
        parts = refl;
        here = ap (λ (t : Token). record { at = p.at; token = t } ∷ ps) long.is;
        is_name = long.is_name;
        is_long = long.is_long;
        before = live;
        there = stopped (word_at p.at long.word) slip.LongName (ap test (sym long.is) ∙ is);
        shorter = λ name free short.
            let passed = long.shorter name free short in
            let more = goes passed.0 in
            (more.0, more.1, expect_is (word_at p.at name) (Ok passed.0) more.0 passed.1 ∙ more.2);
      }

  token_faulty : (s : Slip) (p : Placed) (ps : List Placed) → test p.token ≡ Err s → Told (expect test next) (p ∷ ps) (Err (s, p ∷ ps))
  token_faulty slip.Wrong p ps is = token_wrong p ps is
  token_faulty slip.LongName p ps is = token_long p ps is
  token_faulty slip.TooDeep p ps is = absurd (names.1 p.token is)

  token_told : (o : Result X Slip) (p : Placed) (ps : List Placed) (r : Reading S) → test p.token ≡ o → taken o next p ps ≡ r → length ps < n → Told (expect test next) (p ∷ ps) r
  token_told (Ok x) p ps r is e less = told_moved (next x) (expect test next) p ps r (λ us. expect_is p (Ok x) us is) (good x ps r less e)
  token_told (Err s) p ps r is e less = subst (Told (expect test next) (p ∷ ps)) e (token_faulty s p ps is)

  none_told : (r : Reading S) → expect test next [] ≡ r → Told (expect test next) [] r
  none_told r e = subst (Told (expect test next) []) e (record { front = []; parts = refl; before = live; there = λ q qs none. absurd (by q qs none) })
    where
      by : (q : Placed) (qs : List Placed) → ◌≡◌ {A = List Placed} [] (q ∷ qs) → ⊥
      by q qs none = cc

  pub expect_good : Good (suc n) (expect test next)
  expect_good [] r less e = none_told r e
  expect_good (p ∷ ps) r less e = token_told (test p.token) p ps r refl e (omega arith)

passing_wrong : (c : Bool) (s : Slip) → passing c ≡ Err s → s ≡ slip.Wrong
passing_wrong true s e = cc
passing_wrong false s e = cc

-- a test that only passes or fails says of no token that it is a name
pub passing_names : (test : Token → Bool) → NamesTold (λ t. passing (test t))
passing_names test = only_wrong_names (λ t. passing (test t)) (λ t s e. passing_wrong (test t) s e)

name_cases : (reserved fits : Bool) (w : List ℕ) → cond reserved (Err slip.Wrong) (cond fits (Ok w) (Err slip.LongName)) ≡ Err slip.LongName → (reserved ≡ false) × (fits ≡ false)
name_cases true fits w e = cc
name_cases false true w e = cc
name_cases false false w e = (refl, refl)

name_passes : (reserved fits : Bool) (w : List ℕ) → reserved ≡ false → fits ≡ true → cond reserved (Err slip.Wrong) (cond fits (Ok w) (Err slip.LongName)) ≡ Ok w
name_passes reserved fits w free short = rw (free, short) refl

name_long : (t : Token) → name t ≡ Err slip.LongName → IsLongName name t
name_long (token.Word w) e =
    let parts = name_cases (is_reserved w) (fits_name w) w e in
    record { word = w; is = refl; is_name = parts.0; is_long = parts.1; shorter = λ v free short. (v, name_passes (is_reserved v) (fits_name v) v free short) }
name_long (token.Number d) e = cc
name_long (token.Text t) e = cc
name_long (token.Symbol s) e = cc
name_long token.Stray e = cc

name_flat_cases : (reserved fits : Bool) (w : List ℕ) → cond reserved (Err slip.Wrong) (cond fits (Ok w) (Err slip.LongName)) ≡ Err slip.TooDeep → ⊥
name_flat_cases true fits w e = cc
name_flat_cases false true w e = cc
name_flat_cases false false w e = cc

name_flat : (t : Token) → name t ≡ Err slip.TooDeep → ⊥
name_flat (token.Word w) e = name_flat_cases (is_reserved w) (fits_name w) w e
name_flat (token.Number d) e = cc
name_flat (token.Text t) e = cc
name_flat (token.Symbol s) e = cc
name_flat token.Stray e = cc

pub name_names : NamesTold name
name_names = (name_long, name_flat)

-- a name that is not reserved and fits passes
pub name_ok : (w : List ℕ) → is_reserved w ≡ false → fits_name w ≡ true → name (token.Word w) ≡ Ok w
name_ok w free short = name_passes (is_reserved w) (fits_name w) w free short
