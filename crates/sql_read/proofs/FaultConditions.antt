-- The parts of conditions tell their first faults.
use Rattle.std.proofs.Common.{◌≡◌, ℕ, zero, suc, ◌<◌, Bool, true, false, ◌||◌, List, [], ◌∷◌, length, Ok, Err, refl, arith, ◌∙◌, sym, ap, subst, codes}
use Rattle.std.proofs.Math.Path.{fun_ext}
use Rattle.mt_values.specs.declared.expr.Comparison.{Comparison}
use Rattle.mt_values.specs.declared.expr.Comparison.TheVariants as comparison
use Rattle.mt_values.specs.declared.expr.Literal.{Literal}
use Rattle.mt_values.specs.declared.expr.LiteralText.TheVariants as literal_text
use Rattle.mt_values.specs.declared.expr.TestText.{TestText}
use Rattle.mt_values.specs.declared.statement.Slip.TheVariants as slip
use Rattle.mt_values.specs.declared.token.Placed.{Placed}
use Rattle.mt_values.specs.declared.token.Symbol.{Symbol}
use Rattle.mt_values.specs.declared.token.Symbol.TheVariants as symbol
use Rattle.mt_values.specs.declared.token.Token.{Token}
use Rattle.mt_values.specs.declared.token.Token.TheVariants as token
use Rattle.mt_values.specs.Conditions.{Condition, Always, And, Holds, Not, Or}
use Rattle.mt_base.specs.Limits.{depth_limit}
use Rattle.mt_values.specs.Grammar.{all_of, compared, comparing, expr, fits_name, holding, is_reserved, is_symbol, is_text, is_word, joined_by, joined_from, keyword, list_of, literal, membership, number, number_at, opened, opens, operator, passing, sign, some_of, string, term_within, text_at, the, too_deep, where_part}
use Rattle.mt_values.specs.Readers.{Reader, Reading, Part, choose, either, expect, place_of_next, taken}
use Rattle.mt_values.specs.Tokens.{is_keyword}
use Rattle.sql_read.proofs.Faults.{Told, Good, name_ok, passing_names, told_same, word_at}
use Rattle.sql_read.proofs.FaultParts.{Apart, Live, Shallow, Sound, SoundItem, Unnamed, at_start, choose_other_sound, choose_unnamed, chosen, expect_live_sound, expect_sound, expect_unnamed, goes, list_sound, live_of, none_same, passing_unnamed, sound_fewer, symbol_apart, unnamed_apart}
use Rattle.sql_read.proofs.FaultTokens.{Begun, a_name, a_number, begun_fewer, begun_live, choose_begun, names_then, number_names, operator_names, operator_short, passes, passes_live, string_names, symbol_begun}
use Rattle.sql_read.proofs.Joined.{joined_step, one_more}
use Rattle.sql_read.proofs.Listed.{TakesToken}
use Rattle.sql_read.proofs.Takes.{all_of_takes, literal_takes, term_takes}
use Rattle.sql_read.specs.Places.{GoesOn}

-- ---- literals

module _ {S : Type 0} (n : ℕ) where
  -- what begins at the place of the next token
  here_sound : (read : ℕ → Reader S) (t : Token) → ((place : ℕ) → Sound n (read place) t) → Sound n (λ ts. read (place_of_next ts) ts) t
  here_sound read t sound =
      record { good = good; shallow = λ p ps less e. (sound p.at).shallow p ps less e; starts = (sound 0).starts; needs = (sound 0).needs }
    where
      live : GoesOn (λ ts. read (place_of_next ts) ts) []
      live = (at_start t ∷ (sound 0).starts.0, (sound 0).starts.1, (sound 0).starts.2)

      good : Good n (λ ts. read (place_of_next ts) ts)
      good [] r less e = none_same (read 0) (λ ts. read (place_of_next ts) ts) r ((sound 0).good [] r less e) (λ s is. (sound 0).needs s (e ∙ is)) live
      good (p ∷ ps) r less e =
          told_same (read p.at) (λ ts. read (place_of_next ts) ts) p ps r (λ us. refl)
          (λ rest long place word here p_is known other free us. ap (λ (k : ℕ). read k (word_at place other ∷ us)) (sym (ap (λ (q : Placed). q.at) p_is)))
          (λ deep. (sound p.at).shallow p ps less (e ∙ deep)) live ((sound p.at).good (p ∷ ps) r less e)

  sign_sound : (next : Bool → Reader S) → ((b : Bool) → Sound n (next b) a_number) → Sound n (sign next) a_number
  sign_sound next sound =
      let plus = passes n (is_symbol symbol.Plus) (token.Symbol symbol.Plus) refl (λ v. next false) a_number (sound false) in
      let minus = passes n (is_symbol symbol.Minus) (token.Symbol symbol.Minus) refl (λ v. next true) a_number (sound true) in
      choose_other_sound n (is_symbol symbol.Plus) (expect (the symbol.Plus) (λ v. next false)) (choose (is_symbol symbol.Minus) (expect (the symbol.Minus) (λ v. next true)) (next false)) a_number refl plus.good plus.shallow
      (choose_other_sound n (is_symbol symbol.Minus) (expect (the symbol.Minus) (λ v. next true)) (next false) a_number refl minus.good minus.shallow (sound false)
      (symbol_apart n symbol.Minus (expect (the symbol.Minus) (λ v. next true))) (symbol_apart n symbol.Minus (next false)))
      (symbol_apart n symbol.Plus (expect (the symbol.Plus) (λ v. next false))) (symbol_apart n symbol.Plus (choose (is_symbol symbol.Minus) (expect (the symbol.Minus) (λ v. next true)) (next false)))

  text_apart : (read : Reader S) → Apart n is_text read
  text_apart read place word other ps known free less e = refl

literal_sound : {S : Type 0} → SoundItem {S = S} literal a_number
literal_sound n next good live =
    let text = λ (place : ℕ). expect_live_sound n string (token.Text []) [] refl string_names (λ bytes. next (record { at = place; text = literal_text.Text bytes })) (λ bytes. good (record { at = place; text = literal_text.Text bytes })) (λ bytes. live (record { at = place; text = literal_text.Text bytes })) in
    let digits = λ (place : ℕ) (b : Bool). expect_live_sound n number a_number (codes "1") refl number_names (λ d. next (record { at = place; text = literal_text.Number b d })) (λ d. good (record { at = place; text = literal_text.Number b d })) (λ d. live (record { at = place; text = literal_text.Number b d })) in
    let signed = λ (place : ℕ). sign_sound (suc n) (λ b. expect number (λ d. next (record { at = place; text = literal_text.Number b d }))) (digits place) in
    here_sound (suc n) (λ place. choose is_text (text_at place next) (number_at place next)) a_number
    (λ place.
    choose_other_sound (suc n) is_text (text_at place next) (number_at place next) a_number refl (text place).good (text place).shallow (signed place)
    (text_apart (suc n) (text_at place next)) (text_apart (suc n) (number_at place next)))

-- ---- tests

module _ {S : Type 0} (n : ℕ) where
  membership_sound : (next : Comparison × List Literal → Reader S) → ((found : Comparison × List Literal) → Live n (next found)) → Begun n (membership next) (token.Word (codes "IN"))
  membership_sound next live =
      let close = λ (ls : List Literal). passes_live n (is_symbol symbol.Close) (token.Symbol symbol.Close) refl (λ v. next (comparison.Equal, ls)) (live (comparison.Equal, ls)) in
      let items = list_sound literal a_number literal_takes literal_sound (λ ls. expect (the symbol.Close) (λ v. next (comparison.Equal, ls))) (token.Symbol symbol.Close) refl n close in
      let open_ = passes n (is_symbol symbol.Open) (token.Symbol symbol.Open) refl (λ v. list_of literal (λ ls. expect (the symbol.Close) (λ v. next (comparison.Equal, ls)))) a_number items in
      begun_live n (codes "IN") refl (expect (the symbol.Open) (λ v. list_of literal (λ ls. expect (the symbol.Close) (λ v. next (comparison.Equal, ls)))))
      (live_of n (expect (the symbol.Open) (λ v. list_of literal (λ ls. expect (the symbol.Close) (λ v. next (comparison.Equal, ls))))) (token.Symbol symbol.Open) open_)

  comparing_sound : (next : Comparison × List Literal → Reader S) → ((found : Comparison × List Literal) → Live n (next found)) → Begun n (comparing next) (token.Symbol symbol.Equal)
  comparing_sound next live =
      let after = λ (found : Comparison). sound_fewer n (literal (λ l. next (found, l ∷ []))) a_number (literal_sound n (λ l. next (found, l ∷ [])) (λ l. (live (found, l ∷ [])).good) (λ l. (live (found, l ∷ [])).goes_on)) in
      record {
        sound =
            sound_fewer n (comparing next) (token.Symbol symbol.Equal)
            (expect_sound n operator (token.Symbol symbol.Equal) comparison.Equal refl operator_names (λ found. literal (λ l. next (found, l ∷ []))) a_number after);
        unnamed = λ p ps less e. expect_unnamed n operator operator_short (λ found. literal (λ l. next (found, l ∷ []))) (λ found. (after found).good) p ps (omega arith) e;
      }

  compared_sound : (next : Comparison × List Literal → Reader S) → ((found : Comparison × List Literal) → Live n (next found)) → Sound n (compared next) (token.Symbol symbol.Equal)
  compared_sound next live =
      (choose_begun n (is_word (is_keyword (codes "IN"))) (membership next) (comparing next) (token.Word (codes "IN")) (token.Symbol symbol.Equal) refl (membership_sound next live) (comparing_sound next live)).sound

  -- what follows the name of a test
  compared_then : (Condition TestText → Reader S) → List ℕ → Reader S
  compared_then next column = compared (λ found. next (Holds (record { column = column; comparison = found.0; literals = found.1 })))

  module _ (next : Condition TestText → Reader S) (live : (c : Condition TestText) → Live n (next c)) where
    then_sound : (column : List ℕ) → Sound n (compared_then next column) (token.Symbol symbol.Equal)
    unfolding compared_then
    then_sound column = compared_sound (λ found. next (Holds (record { column = column; comparison = found.0; literals = found.1 }))) (λ found. live (Holds (record { column = column; comparison = found.0; literals = found.1 })))

    holding_sound : Sound n (holding next) a_name
    unfolding compared_then
    holding_sound = names_then n (compared_then next) (token.Symbol symbol.Equal) then_sound

    -- each name that fits begins a test
    holding_named : (place : ℕ) (w : List ℕ) → is_reserved w ≡ false → fits_name w ≡ true → GoesOn (holding next) (word_at place w ∷ [])
    unfolding compared_then
    holding_named place w free short =
        let more = goes n (compared_then next w) (token.Symbol symbol.Equal) (then_sound w) in
        (more.0, more.1, ap (λ o. taken o (compared_then next) (word_at place w) more.0) (name_ok w free short) ∙ more.2)

-- ---- parts that are joined

-- a part that tells its first faults where what follows it begins with a symbol and with no name
abbrev pub LivePart : {S X : Type 0} → Part S X → Type 0
LivePart {S} {X} item = (n : ℕ) (s : Symbol) (next : X → Reader S) → ((x : X) → Begun n (next x) (token.Symbol s)) → Live n (item next)

module _ {S X : Type 0} (k : List ℕ) (is : is_keyword k k ≡ true) (join : X → X → X) (item : Part S X) (takes : TakesToken item) (lives : LivePart item) where
  module _ (s : Symbol) (next : X → Reader S) where
    others : X → Reader S
    others front = joined_from k join item front next

    one_other : X → Reader S
    one_other front = one_more k join item (joined_from k join item) front next

    behind_begun : (n : ℕ) (front : X) → Good n (one_other front) → Shallow n (one_other front) → Unnamed n (one_other front) → Begun n (next front) (token.Symbol s) → Begun n (others front) (token.Symbol s)
    unfolding others one_other
    behind_begun n front good flat unnamed ending =
        subst (λ (r : Reader S). Begun n r (token.Symbol s)) (sym (fun_ext (joined_step k join item takes front next)))
        (record {
          sound =
              choose_other_sound n (is_word (is_keyword k)) (one_other front) (next front) (token.Symbol s) refl good flat ending.sound
              (unnamed_apart n (is_word (is_keyword k)) (one_other front) unnamed) (unnamed_apart n (is_word (is_keyword k)) (next front) ending.unnamed);
          unnamed = choose_unnamed n (is_word (is_keyword k)) (one_other front) (next front) unnamed ending.unnamed;
        })

    others_begun : (n : ℕ) → ((x : X) → Begun n (next x) (token.Symbol s)) → (front : X) → Begun n (others front) (token.Symbol s)
    unfolding others one_other
    others_begun zero ending front = behind_begun zero front (λ tokens r less e. absurd (omega arith)) (λ p ps less e. absurd (omega arith)) (λ p ps less e. absurd (omega arith)) (ending front)
    others_begun (suc n) ending front =
        let live = lives n s (λ x. others (join front x)) (λ x. others_begun n (λ y. begun_fewer n (next y) (token.Symbol s) (ending y)) (join front x)) in
        let one = expect_live_sound n (keyword k) (token.Word k) tt (ap passing is) (passing_names (is_word (is_keyword k))) (λ u. item (λ x. others (join front x))) (λ u. live.good) (λ u. live.goes_on) in
        behind_begun (suc n) front one.good one.shallow (passing_unnamed n (is_word (is_keyword k)) (λ u. item (λ x. others (join front x))) live.good) (ending front)

  joined_lives : LivePart (joined_by k join item)
  unfolding others
  joined_lives n s next ending = lives n s (λ x. others s next x) (others_begun s next n ending)

-- ---- terms

third : (a b c d e f g h : Bool) → (a || b || c || d || e || f || g || h) ≡ false → c ≡ false
third true b c d e f g h is = cc
third false true c d e f g h is = cc
third false false true d e f g h is = cc
third false false false d e f g h is = refl

-- a name opens nothing
opens_free : (w : List ℕ) → is_reserved w ≡ false → opens (token.Word w) ≡ false
opens_free w free =
    ap (λ (b : Bool). b || false)
    (third (is_keyword (codes "AND") w) (is_keyword (codes "OR") w) (is_keyword (codes "NOT") w) (is_keyword (codes "IN") w) (is_keyword (codes "FROM") w) (is_keyword (codes "FINAL") w) (is_keyword (codes "WHERE") w) (is_keyword (codes "INDEX") w) free)

opens_apart : {S : Type 0} (n : ℕ) (read : Reader S) → Apart n opens read
opens_apart n read place word other ps known free less e = opens_free other free ∙ sym (opens_free word known)

module _ {S : Type 0} (n : ℕ) (next : Condition TestText → Reader S) (live : (c : Condition TestText) → Live n (next c)) where
  -- where no more may be opened
  last_read : Reader S
  last_read = choose opens (expect too_deep (λ u. next Always)) (holding next)

  last_chosen : (c : Bool) (p : Placed) (us : List Placed) → opens p.token ≡ c → last_read (p ∷ us) ≡ either c (expect too_deep (λ u. next Always)) (holding next) (p ∷ us)
  unfolding last_read
  last_chosen c p us is = chosen n opens (expect too_deep (λ u. next Always)) (holding next) c p us is

  last_goes : GoesOn last_read []
  last_goes =
      let starts = (holding_sound n next live).starts in
      (at_start a_name ∷ starts.0, starts.1, last_chosen false (at_start a_name) starts.0 refl ∙ starts.2)

  last_stops : (p : Placed) → opens p.token ≡ true → ¬ GoesOn last_read (p ∷ [])
  last_stops p is g = by (sym (last_chosen true p g.0 is) ∙ g.2)
    where
      by : ◌≡◌ {A = Reading S} (Err (slip.TooDeep, p ∷ g.0)) (Ok g.1) → ⊥
      by e = cc

  last_named : (place : ℕ) (w : List ℕ) → is_reserved w ≡ false → fits_name w ≡ true → GoesOn last_read (word_at place w ∷ [])
  last_named place w free short =
      let more = holding_named n next live place w free short in
      (more.0, more.1, last_chosen false (word_at place w) more.0 (opens_free w free) ∙ more.2)

  last_token : (c : Bool) (p : Placed) (ps : List Placed) (r : Reading S) → opens p.token ≡ c → length (p ∷ ps) < n → either c (expect too_deep (λ u. next Always)) (holding next) (p ∷ ps) ≡ r → Told last_read (p ∷ ps) r
  last_token true p ps r is less e =
      subst (Told last_read (p ∷ ps)) e
      (record {
        front = [];
        place = p.at;
        opening = p.token;
        behind = ps;
        parts = refl;
        here = refl;
        is_opening = is;
        before = last_goes;
        there = last_stops p is;
        shallower = last_named p.at;
      })
  last_token false p ps r is less e =
      told_same (holding next) last_read p ps r (λ us. last_chosen false p us is)
      (λ rest long place word here p_is known other free us. last_chosen false (word_at place other) us (opens_free other free))
      (λ deep. (holding_sound n next live).shallow p ps less (e ∙ deep)) last_goes ((holding_sound n next live).good (p ∷ ps) r less e)

  last_good : Good n last_read
  unfolding last_read
  last_good [] r less e = none_same (holding next) last_read r ((holding_sound n next live).good [] r less e) (λ s is. (holding_sound n next live).needs s (e ∙ is)) last_goes
  last_good (p ∷ ps) r less e = last_token (opens p.token) p ps r refl less e

some_lives : {S : Type 0} (term : Part S (Condition TestText)) → TakesToken term → LivePart term → LivePart (some_of term)
some_lives term takes lives =
    joined_lives (codes "OR") refl Or (all_of term) (all_of_takes term takes) (joined_lives (codes "AND") refl And term takes lives)

module _ {S : Type 0} (n : ℕ) (s : Symbol) (term : Part S (Condition TestText)) (takes : TakesToken term) (lives : LivePart term) (next : Condition TestText → Reader S) (ending : (c : Condition TestText) → Begun n (next c) (token.Symbol s)) where
  next_live : (c : Condition TestText) → Live n (next c)
  next_live c = live_of n (next c) (token.Symbol s) (ending c).sound

  opened_begun : Begun n (opened term next) (token.Symbol symbol.Open)
  opened_begun =
      let inside = some_lives term takes lives n symbol.Close (λ c. expect (the symbol.Close) (λ v. next c)) (λ c. symbol_begun n symbol.Close refl (next c) (next_live c)) in
      choose_begun n (is_word (is_keyword (codes "NOT"))) (expect (keyword (codes "NOT")) (λ v. term (λ c. next (Not c)))) (expect (the symbol.Open) (λ v. some_of term (λ c. expect (the symbol.Close) (λ v. next c)))) (token.Word (codes "NOT")) (token.Symbol symbol.Open) refl
      (begun_live n (codes "NOT") refl (term (λ c. next (Not c))) (lives n s (λ c. next (Not c)) (λ c. ending (Not c))))
      (symbol_begun n symbol.Open refl (some_of term (λ c. expect (the symbol.Close) (λ v. next c))) inside)

  more_live : Live n (choose opens (opened term next) (holding next))
  more_live =
      let holds = holding_sound n next next_live in
      live_of n (choose opens (opened term next) (holding next)) a_name
      (choose_other_sound n opens (opened term next) (holding next) a_name refl opened_begun.sound.good opened_begun.sound.shallow holds
      (opens_apart n (opened term next)) (opens_apart n (holding next)))

term_lives : {S : Type 0} (d : ℕ) → LivePart {S = S} (term_within d)
unfolding term_within last_read
term_lives zero n s next ending =
    let live = λ (c : Condition TestText). live_of n (next c) (token.Symbol s) (ending c).sound in
    record { good = last_good n next live; goes_on = last_goes n next live }
term_lives (suc d) n s next ending = more_live n s (term_within d) (term_takes d) (term_lives d) next ending

-- ---- WHERE

pub where_begun : {S : Type 0} (n : ℕ) (next : Condition TestText → Reader S) → ((c : Condition TestText) → Begun n (next c) (token.Symbol symbol.Semicolon)) → Begun n (where_part next) (token.Symbol symbol.Semicolon)
where_begun n next ending =
    let found = some_lives (term_within depth_limit) (term_takes depth_limit) (term_lives depth_limit) n symbol.Semicolon next ending in
    choose_begun n (is_word (is_keyword (codes "WHERE"))) (expect (keyword (codes "WHERE")) (λ v. expr next)) (next Always) (token.Word (codes "WHERE")) (token.Symbol symbol.Semicolon) refl
    (begun_live n (codes "WHERE") refl (expr next) found) (ending Always)
