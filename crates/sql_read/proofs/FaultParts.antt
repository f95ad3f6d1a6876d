-- Parts of statements tell their first faults.
use Rattle.std.proofs.Common.{◌≡◌, ℕ, zero, suc, ◌<◌, Bool, true, false, List, [], ◌∷◌, ◌++◌, length, Result, Ok, Err, refl, arith, ◌∙◌, sym, ap, subst, length-append}
use Rattle.std.proofs.Math.Path.{fun_ext}
use Rattle.mt_values.specs.declared.statement.Slip.{Slip}
use Rattle.mt_values.specs.declared.statement.Slip.TheVariants as slip
use Rattle.mt_values.specs.declared.token.Placed.{Placed}
use Rattle.mt_values.specs.declared.token.Symbol.{Symbol}
use Rattle.mt_values.specs.declared.token.Symbol.TheVariants as symbol
use Rattle.mt_values.specs.declared.token.Token.{Token}
use Rattle.mt_values.specs.declared.token.Token.TheVariants as token
use Rattle.mt_values.specs.Grammar.{ends, is_reserved, is_symbol, list_of, passing, the}
use Rattle.mt_values.specs.Readers.{Reading, Reader, Test, Part, done, taken, expect, either, choose}
use Rattle.sql_read.specs.Places.{GoesOn}
use Rattle.sql_read.proofs.Listed.{TakesToken, listed_from, listed_step}
use Rattle.sql_read.proofs.Faults.{Told, Good, NamesTold, token_at, word_at, done_good, expect_good, passing_names, slip_same, told_same}

-- a token without its place
abbrev pub at_start : Token → Placed
at_start t = record { at = 0; token = t }

-- some statement begins with this token
abbrev pub Starts : {S : Type 0} → Reader S → Token → Type 0
Starts {S} read t = (more : List Placed) × (s : S) × (read (at_start t ∷ more) ≡ Ok s)

-- of no first token the reader says that it opens too many parentheses
abbrev pub Shallow : {S : Type 0} → ℕ → Reader S → Type 0
Shallow n read = (p : Placed) (ps : List Placed) → length (p ∷ ps) < n → read (p ∷ ps) ≡ Err (slip.TooDeep, p ∷ ps) → ⊥

-- A reader that tells its first faults in fewer tokens than this, that reads a statement which begins with this token, and
-- none without tokens. Its first token opens no parenthesis.
pub record Sound {S : Type 0} (n : ℕ) (read : Reader S) (t : Token) : Type 0 where
  pub good : Good n read
  pub shallow : Shallow n read
  pub starts : Starts read t
  pub needs : (s : S) → read [] ≡ Ok s → ⊥

-- a reader that tells its first faults in fewer tokens than this, and with which some statement goes on
pub record Live {S : Type 0} (n : ℕ) (read : Reader S) : Type 0 where
  pub good : Good n read
  pub goes_on : GoesOn read []

longer : (p : Placed) (front ps : List Placed) → ps ≡ front ++ p ∷ ps → ⊥
longer p front ps e = omega (arith, length-append front (p ∷ ps), ap (length {A = Placed}) e)

none_left : (front rest : List Placed) → [] ≡ front ++ rest → rest ≡ []
none_left [] rest e = sym e
none_left (p ∷ ps) rest e = cc

none_some : (p : Placed) (ps : List Placed) → ◌≡◌ {A = List Placed} [] (p ∷ ps) → ⊥
none_some p ps e = cc

module _ {S : Type 0} where
  pub goes : (n : ℕ) (read : Reader S) (t : Token) → Sound n read t → GoesOn read []
  goes n read t sound = (at_start t ∷ sound.starts.0, sound.starts.1, sound.starts.2)

  pub live_of : (n : ℕ) (read : Reader S) (t : Token) → Sound n read t → Live n read
  live_of n read t sound = record { good = sound.good; goes_on = goes n read t sound }

  pub fewer : (n : ℕ) (read : Reader S) → Good (suc n) read → Good n read
  fewer n read good tokens r less e = good tokens r (omega arith) e

  pub sound_fewer : (n : ℕ) (read : Reader S) (t : Token) → Sound (suc n) read t → Sound n read t
  sound_fewer n read t sound = record { good = fewer n read sound.good; shallow = λ p ps less e. sound.shallow p ps (omega arith) e; starts = sound.starts; needs = sound.needs }

  -- a reader that is the same on all tokens
  pub sound_along : (n : ℕ) (read other : Reader S) (t : Token) → ((ts : List Placed) → other ts ≡ read ts) → Sound n read t → Sound n other t
  sound_along n read other t same sound = subst (λ (r : Reader S). Sound n r t) (sym (fun_ext same)) sound

  -- a token that passes, and then what follows it
  expect_starts : {X : Type 0} (test : Test X) (next : X → Reader S) (t : Token) (x : X) → test t ≡ Ok x → GoesOn (next x) [] → Starts (expect test next) t
  expect_starts test next t x passes live = (live.0, live.1, ap (λ o. taken o next (at_start t) live.0) passes ∙ live.2)

  expect_needs : {X : Type 0} (test : Test X) (next : X → Reader S) (s : S) → expect test next [] ≡ Ok s → ⊥
  expect_needs test next s e = cc

  taken_shallow : {X : Type 0} (n : ℕ) (test : Test X) → NamesTold test → (next : X → Reader S) → ((x : X) → Good n (next x)) → (o : Result X Slip) (p : Placed) (ps : List Placed) → test p.token ≡ o → length ps < n → taken o next p ps ≡ Err (slip.TooDeep, p ∷ ps) → ⊥
  taken_shallow n test names next good (Ok x) p ps is less e = let deep = good x ps (Err (slip.TooDeep, p ∷ ps)) less e in longer p deep.front ps deep.parts
  taken_shallow n test names next good (Err s) p ps is less e = names.1 p.token (is ∙ ap (λ (s : Slip). Err s) (slip_same (s, p ∷ ps) (slip.TooDeep, p ∷ ps) e))

  pub expect_shallow : {X : Type 0} (n : ℕ) (test : Test X) → NamesTold test → (next : X → Reader S) → ((x : X) → Good n (next x)) → Shallow (suc n) (expect test next)
  expect_shallow n test names next good p ps less e = taken_shallow n test names next good (test p.token) p ps refl (omega arith) e

  pub expect_live_sound : {X : Type 0} (n : ℕ) (test : Test X) (t : Token) (x : X) → test t ≡ Ok x → NamesTold test → (next : X → Reader S) → ((x : X) → Good n (next x)) → ((x : X) → GoesOn (next x) []) → Sound (suc n) (expect test next) t
  expect_live_sound n test t x passes names next good live =
      let starts = expect_starts test next t x passes (live x) in
      record {
        good = expect_good n test next names good live (at_start t ∷ starts.0, starts.1, starts.2);
        shallow = expect_shallow n test names next good;
        starts = starts;
        needs = expect_needs test next;
      }

  -- a token, and then what begins with another one
  pub expect_sound : {X : Type 0} (n : ℕ) (test : Test X) (t : Token) (x : X) → test t ≡ Ok x → NamesTold test → (next : X → Reader S) (u : Token) → ((x : X) → Sound n (next x) u) → Sound (suc n) (expect test next) t
  expect_sound n test t x passes names next u sound = expect_live_sound n test t x passes names next (λ y. (sound y).good) (λ y. goes n (next y) u (sound y))

  pub ends_sound : (n : ℕ) (s : S) → Sound n (ends s) (token.Symbol symbol.Semicolon)
  ends_sound n s =
      sound_fewer n (ends s) (token.Symbol symbol.Semicolon)
      (expect_live_sound n (the symbol.Semicolon) (token.Symbol symbol.Semicolon) tt refl (passing_names (is_symbol symbol.Semicolon)) (λ u. done s) (λ u. done_good n s) (λ u. ([], s, refl)))

  taken_unnamed : {X : Type 0} (n : ℕ) (test : Test X) → ((t : Token) → test t ≡ Err slip.LongName → ⊥) → (next : X → Reader S) → ((x : X) → Good n (next x)) → (o : Result X Slip) (p : Placed) (ps : List Placed) → test p.token ≡ o → length ps < n → taken o next p ps ≡ Err (slip.LongName, p ∷ ps) → ⊥
  taken_unnamed n test short next good (Ok x) p ps is less e = let long = good x ps (Err (slip.LongName, p ∷ ps)) less e in longer p long.front ps long.parts
  taken_unnamed n test short next good (Err s) p ps is less e = short p.token (is ∙ ap (λ (s : Slip). Err s) (slip_same (s, p ∷ ps) (slip.LongName, p ∷ ps) e))

  -- ---- choices

  -- where the reader says that its first token is too long a name, the test says the same of every name
  abbrev pub Apart : ℕ → (Token → Bool) → Reader S → Type 0
  Apart n test read = (place : ℕ) (word name : List ℕ) (ps : List Placed) → is_reserved word ≡ false → is_reserved name ≡ false → length (word_at place word ∷ ps) < n → read (word_at place word ∷ ps) ≡ Err (slip.LongName, word_at place word ∷ ps) → test (token.Word name) ≡ test (token.Word word)

  -- the reader never says so of its first token
  abbrev pub Unnamed : ℕ → Reader S → Type 0
  Unnamed n read = (p : Placed) (ps : List Placed) → length (p ∷ ps) < n → read (p ∷ ps) ≡ Err (slip.LongName, p ∷ ps) → ⊥

  -- a reader that begins with a test which says of no token that it is too long a name
  pub expect_unnamed : {X : Type 0} (n : ℕ) (test : Test X) → ((t : Token) → test t ≡ Err slip.LongName → ⊥) → (next : X → Reader S) → ((x : X) → Good n (next x)) → Unnamed (suc n) (expect test next)
  expect_unnamed n test short next good p ps less e = taken_unnamed n test short next good (test p.token) p ps refl (omega arith) e

  pub symbol_apart : (n : ℕ) (s : Symbol) (read : Reader S) → Apart n (is_symbol s) read
  symbol_apart n s read place word name ps known free less e = refl

  pub unnamed_apart : (n : ℕ) (test : Token → Bool) (read : Reader S) → Unnamed n read → Apart n test read
  unnamed_apart n test read unnamed place word name ps known free less e = absurd (unnamed (word_at place word) ps less e)

  passed_unnamed : (c : Bool) (n : ℕ) (next : Unit {0} → Reader S) (p : Placed) (ps : List Placed) → Good n (next tt) → length ps < n → taken (passing c) next p ps ≡ Err (slip.LongName, p ∷ ps) → ⊥
  passed_unnamed true n next p ps good less e = let long = good ps (Err (slip.LongName, p ∷ ps)) less e in longer p long.front ps long.parts
  passed_unnamed false n next p ps good less e = cc (slip_same (slip.Wrong, p ∷ ps) (slip.LongName, p ∷ ps) e)

  -- a reader that begins with a test which only passes or fails
  pub passing_unnamed : (n : ℕ) (test : Token → Bool) (next : Unit {0} → Reader S) → Good n (next tt) → Unnamed (suc n) (expect (λ t. passing (test t)) next)
  passing_unnamed n test next good p ps less e = passed_unnamed (test p.token) n next p ps good (omega arith) e

  either_unnamed : (c : Bool) (this other : Reader S) (p : Placed) (ps : List Placed) → (this (p ∷ ps) ≡ Err (slip.LongName, p ∷ ps) → ⊥) → (other (p ∷ ps) ≡ Err (slip.LongName, p ∷ ps) → ⊥) → either c this other (p ∷ ps) ≡ Err (slip.LongName, p ∷ ps) → ⊥
  either_unnamed true this other p ps here there e = here e
  either_unnamed false this other p ps here there e = there e

  pub choose_unnamed : (n : ℕ) (test : Token → Bool) (this other : Reader S) → Unnamed n this → Unnamed n other → Unnamed n (choose test this other)
  choose_unnamed n test this other first second p ps less e = either_unnamed (test p.token) this other p ps (first p ps less) (second p ps less) e

  either_shallow : (c : Bool) (this other : Reader S) (p : Placed) (ps : List Placed) → (this (p ∷ ps) ≡ Err (slip.TooDeep, p ∷ ps) → ⊥) → (other (p ∷ ps) ≡ Err (slip.TooDeep, p ∷ ps) → ⊥) → either c this other (p ∷ ps) ≡ Err (slip.TooDeep, p ∷ ps) → ⊥
  either_shallow true this other p ps here there e = here e
  either_shallow false this other p ps here there e = there e

  choose_shallow : (n : ℕ) (test : Token → Bool) (this other : Reader S) → Shallow n this → Shallow n other → Shallow n (choose test this other)
  choose_shallow n test this other first second p ps less e = either_shallow (test p.token) this other p ps (first p ps less) (second p ps less) e

  -- what is said where there is no token
  pub none_same : (read other : Reader S) (r : Reading S) → Told read [] r → ((s : S) → r ≡ Ok s → ⊥) → GoesOn other [] → Told other [] r
  none_same read other (Ok s) t needs live = absurd (needs s refl)
  none_same read other (Err (slip.Wrong, rest)) t needs live = record {
    front = [];
    parts = sym (none_left t.front rest t.parts);
    before = live;
    there = λ q qs e. absurd (none_some q qs (sym (none_left t.front rest t.parts) ∙ e));
  }
  none_same read other (Err (slip.LongName, rest)) t needs live = absurd (none_some (word_at t.place t.word) t.behind (sym (none_left t.front rest t.parts) ∙ t.here))
  none_same read other (Err (slip.TooDeep, rest)) t needs live = absurd (none_some (token_at t.place t.opening) t.behind (sym (none_left t.front rest t.parts) ∙ t.here))

  module _ (n : ℕ) (test : Token → Bool) (this other : Reader S) where
    pub chosen : (c : Bool) (p : Placed) (us : List Placed) → test p.token ≡ c → choose test this other (p ∷ us) ≡ either c this other (p ∷ us)
    chosen c p us is = ap (λ c. either c this other (p ∷ us)) is

    -- the test says the same of a word that was too long and of any other in its place
    named : (read : Reader S) (c : Bool) (p : Placed) (ps : List Placed) (r : Reading S) (rest : List Placed) (place : ℕ) (word name : List ℕ) → Apart n test read → length (p ∷ ps) < n → read (p ∷ ps) ≡ r → r ≡ Err (slip.LongName, rest) → rest ≡ p ∷ ps → p ≡ word_at place word →
        is_reserved word ≡ false → is_reserved name ≡ false → test p.token ≡ c → test (token.Word name) ≡ c
    named read c p ps r rest place word name apart less e long here p_is known free is =
        let there = subst (λ (q : Placed). read (q ∷ ps) ≡ Err (slip.LongName, q ∷ ps)) p_is (e ∙ (long ∙ ap (λ (l : List Placed). Err (slip.LongName, l)) here)) in
        apart place word name ps known free (omega arith) there ∙ (ap (λ (q : Placed). test q.token) (sym p_is) ∙ is)

    choose_token : (c : Bool) (p : Placed) (ps : List Placed) (r : Reading S) → test p.token ≡ c → Good n this → Good n other → Shallow n this → Shallow n other → Apart n test this → Apart n test other → GoesOn (choose test this other) [] → length (p ∷ ps) < n → either c this other (p ∷ ps) ≡ r → Told (choose test this other) (p ∷ ps) r
    choose_token true p ps r is good best flat low apart alone live less e =
        told_same this (choose test this other) p ps r (λ us. chosen true p us is)
        (λ rest long place word here p_is known name free us. chosen true (word_at place name) us (named this true p ps r rest place word name apart less e long here p_is known free is))
        (λ deep. flat p ps less (e ∙ deep)) live (good (p ∷ ps) r less e)
    choose_token false p ps r is good best flat low apart alone live less e =
        told_same other (choose test this other) p ps r (λ us. chosen false p us is)
        (λ rest long place word here p_is known name free us. chosen false (word_at place name) us (named other false p ps r rest place word name alone less e long here p_is known free is))
        (λ deep. low p ps less (e ∙ deep)) live (best (p ∷ ps) r less e)

    choose_good : Good n this → Good n other → Shallow n this → Shallow n other → Apart n test this → Apart n test other → ((s : S) → other [] ≡ Ok s → ⊥) → GoesOn (choose test this other) [] → Good n (choose test this other)
    choose_good good best flat low apart alone needs live [] r less e = none_same other (choose test this other) r (best [] r less e) (λ s is. needs s (e ∙ is)) live
    choose_good good best flat low apart alone needs live (p ∷ ps) r less e = choose_token (test p.token) p ps r refl good best flat low apart alone live less e

    -- the one way is taken at this token
    pub choose_this_sound : (t : Token) (u : Token) → test t ≡ true → Sound n this t → Sound n other u → Apart n test this → Apart n test other → Sound n (choose test this other) t
    choose_this_sound t u passes sound rest apart alone =
        let starts : Starts (choose test this other) t = (sound.starts.0, sound.starts.1, chosen true (at_start t) sound.starts.0 passes ∙ sound.starts.2) in
        record {
          good = choose_good sound.good rest.good sound.shallow rest.shallow apart alone rest.needs (at_start t ∷ starts.0, starts.1, starts.2);
          shallow = choose_shallow n test this other sound.shallow rest.shallow;
          starts = starts;
          needs = rest.needs;
        }

    -- the other way is taken at this token
    pub choose_other_sound : (t : Token) → test t ≡ false → Good n this → Shallow n this → Sound n other t → Apart n test this → Apart n test other → Sound n (choose test this other) t
    choose_other_sound t fails good flat sound apart alone =
        let starts : Starts (choose test this other) t = (sound.starts.0, sound.starts.1, chosen false (at_start t) sound.starts.0 fails ∙ sound.starts.2) in
        record {
          good = choose_good good sound.good flat sound.shallow apart alone sound.needs (at_start t ∷ starts.0, starts.1, starts.2);
          shallow = choose_shallow n test this other flat sound.shallow;
          starts = starts;
          needs = sound.needs;
        }

-- ---- lists

-- a part that takes at least one token, of which some begin with this one
abbrev pub SoundItem : {S X : Type 0} → Part S X → Token → Type 0
SoundItem {S} {X} item t = (n : ℕ) (next : X → Reader S) → ((x : X) → Good n (next x)) → ((x : X) → GoesOn (next x) []) → Sound (suc n) (item next) t

module _ {S X : Type 0} (item : Part S X) (t : Token) (takes : TakesToken item) (sound : SoundItem item t) (next : List X → Reader S) (u : Token) (no_comma : is_symbol symbol.Comma u ≡ false) where
  listed : List X → Reader S
  listed front = listed_from (is_symbol symbol.Comma) (the symbol.Comma) item front next

  comma_behind : List X → X → Reader S
  comma_behind front x = expect (the symbol.Comma) (λ y. listed (front ++ x ∷ []))

  item_behind : List X → X → Reader S
  item_behind front x = choose (is_symbol symbol.Comma) (comma_behind front x) (next (front ++ x ∷ []))

  behind_sound : (n : ℕ) (front : List X) (x : X) → Good n (comma_behind front x) → Shallow n (comma_behind front x) → ((xs : List X) → Sound n (next xs) u) → Sound n (item_behind front x) u
  unfolding item_behind
  behind_sound n front x good flat rest =
      choose_other_sound n (is_symbol symbol.Comma) (comma_behind front x) (next (front ++ x ∷ [])) u no_comma good flat (rest (front ++ x ∷ []))
      (symbol_apart n symbol.Comma (comma_behind front x)) (symbol_apart n symbol.Comma (next (front ++ x ∷ [])))

  step_sound : (n : ℕ) (front : List X) → ((x : X) → Good n (comma_behind front x) × Shallow n (comma_behind front x)) → ((xs : List X) → Sound n (next xs) u) → Sound (suc n) (listed front) t
  unfolding listed item_behind comma_behind
  step_sound n front good rest =
      sound_along (suc n) (item (item_behind front)) (listed front) t (listed_step (is_symbol symbol.Comma) (the symbol.Comma) item takes front next)
      (sound n (item_behind front) (λ x. (behind_sound n front x (good x).0 (good x).1 rest).good) (λ x. goes n (item_behind front x) u (behind_sound n front x (good x).0 (good x).1 rest)))

  listed_sound : (n : ℕ) (front : List X) → ((xs : List X) → Sound n (next xs) u) → Sound (suc n) (listed front) t
  unfolding comma_behind
  listed_sound zero front rest = step_sound zero front (λ x. (λ tokens r less e. absurd (omega arith), λ p ps less e. absurd (omega arith))) rest
  listed_sound (suc n) front rest =
      step_sound (suc n) front
      (λ x.
      let comma =
      expect_sound n (the symbol.Comma) (token.Symbol symbol.Comma) tt refl (passing_names (is_symbol symbol.Comma)) (λ y. listed (front ++ x ∷ [])) t
      (λ y. sound_fewer n (listed (front ++ x ∷ [])) t (listed_sound n (front ++ x ∷ []) (λ xs. sound_fewer n (next xs) u (rest xs)))) in
      (comma.good, comma.shallow))
      rest

  -- a list with commas, and then what begins with no comma
  pub list_sound : (n : ℕ) → ((xs : List X) → Sound n (next xs) u) → Sound n (list_of item next) t
  unfolding listed
  list_sound n rest = sound_fewer n (list_of item next) t (listed_sound n [] rest)
