-- A script whose first statement came to its end begins with the same statement, whatever comes after it.
use Rattle.std.proofs.Common.{◌≡◌, ℕ, zero, suc, ◌+◌, ◌<◌, Bool, true, false, not, ◌&&◌, ◌||◌, ◌==◌, cond, List, [], ◌∷◌, ◌++◌, length, take, drop, Option, Some, None, refl, arith, ◌∙◌, sym, ap}
use Rattle.std.proofs.lemmas.Bool.Decides.{nat_tests}
use Rattle.std.proofs.lemmas.List.{drop-append-le, take-append-le}
use Rattle.std.proofs.lemmas.List.Folds.{list_all-append}
use Rattle.std.specs.List.{prefix_len, list_all}
use Rattle.std.specs.Option.{option_map}
use Rattle.mt_values.specs.declared.script.Place.{Place}
use Rattle.mt_values.specs.declared.script.Place.TheVariants.{Outside, InString, BehindBackslash, InComment}
use Rattle.mt_values.specs.Tokens.{behind, begins_with}
use Rattle.mt_values.specs.Grammar.{statement_of, takes_data}
use Rattle.mt_values.specs.Script.{onto, place_behind, ends_at, ended_from, takes_next, line_from, ends_data, Data, with_line, data_behind, data_of, is_line_byte, line_rest, behind_line, with_data, complete, complete_or_cut, is_between, next_from, next_statement, data_ended_behind, data_ended, is_whole, has_whole}
use Rattle.mt_values.proofs.Bounds.{ShorterThan, line_shorter}
use Rattle.mt_values.proofs.ScriptBounds.{data_of_step, data_ended_step}

-- more bytes after what follows a part that was found
abbrev pub parted_with : {A : Type 0} → List ℕ → A × List ℕ → A × List ℕ
parted_with more found = (found.0, found.1 ++ more)

onto_grows : (c : Bool) (b : ℕ) (bs more : List ℕ) (r s : Option (List ℕ × List ℕ)) (p : List ℕ × List ℕ) → ((q : List ℕ × List ℕ) → r ≡ Some q → s ≡ Some (parted_with more q)) →
    cond c (Some ([], bs)) (option_map (onto b) r) ≡ Some p → cond c (Some ([], bs ++ more)) (option_map (onto b) s) ≡ Some (parted_with more p)
onto_grows true b bs more r s p grows found = ap (option_map (parted_with more)) found
onto_grows false b bs more None s p grows found = cc
onto_grows false b bs more (Some q) s p grows found = rw (grows q refl) (ap (option_map (parted_with more)) found)

line_grows : (taken : Bool) (text more : List ℕ) (p : List ℕ × List ℕ) → line_from taken text ≡ Some p → line_from taken (text ++ more) ≡ Some (parted_with more p)
line_grows taken [] more p found = cc
line_grows taken (b ∷ bs) more p found =
    onto_grows (not taken && b == 10) b bs more (line_from (takes_next taken b) bs) (line_from (takes_next taken b) (bs ++ more)) p (line_grows (takes_next taken b) bs more) found

-- the next byte alone says whether a comment begins
place_same : (place : Place) (b c : ℕ) (cs more : List ℕ) → place_behind place b (c ∷ (cs ++ more)) ≡ place_behind place b (c ∷ cs)
place_same Outside b c cs more = refl
place_same InString b c cs more = refl
place_same BehindBackslash b c cs more = refl
place_same InComment b c cs more = refl

ended_grows : (place : Place) (text more : List ℕ) (p : List ℕ × List ℕ) → ended_from place text ≡ Some p → ended_from place (text ++ more) ≡ Some (parted_with more p)
ended_grows place [] more p found = cc
ended_grows place (b ∷ []) more p found =
    onto_grows (ends_at place b) b [] more None (ended_from (place_behind place b more) more) p (λ q none. cc) found
ended_grows place (b ∷ c ∷ cs) more p found =
    onto_grows (ends_at place b) b (c ∷ cs) more (ended_from (place_behind place b (c ∷ cs)) (c ∷ cs)) (ended_from (place_behind place b (c ∷ (cs ++ more))) (c ∷ (cs ++ more))) p
    (rw (place_same place b c cs more) (ended_grows (place_behind place b (c ∷ cs)) (c ∷ cs) more)) found

-- ---- what stands before a statement

-- what begins a statement that has an end
abbrev Ends : List ℕ → Type 0
Ends text = (p : List ℕ × List ℕ) × (ended_from Outside text ≡ Some p)

-- its one byte is a semicolon
one_ends : (b : ℕ) → Ends (b ∷ []) → (b == 45) ≡ false
one_ends b e = by (b == 59) (b == 45) e.1 (λ semicolon dash. grind (arith, nat_tests))
  where
    by : (semicolon dash : Bool) → cond semicolon (Some ([], [])) None ≡ Some e.0 → (semicolon ≡ true → dash ≡ true → ⊥) → dash ≡ false
    by true true found apart = absurd (apart refl refl)
    by true false found apart = refl
    by false dash found apart = cc

none_ends : Ends [] → ⊥
none_ends e = cc

last_behind : (blank dash : Bool) (b : ℕ) (text other more : List ℕ) → (Ends (b ∷ []) → dash ≡ false) → Ends (cond blank [] (cond (dash && false) [] (b ∷ []))) →
    cond blank text (cond (dash && begins_with 45 more) other (b ∷ more)) ≡ cond blank [] (cond (dash && false) [] (b ∷ [])) ++ more
last_behind true dash b text other more no_dash e = absurd (none_ends e)
last_behind false true b text other more no_dash e = absurd (by (no_dash e))
  where
    by : true ≡ false → ⊥
    by h = cc
last_behind false false b text other more no_dash e = refl

more_behind : (blank comment : Bool) (b : ℕ) (x y u v rest more : List ℕ) → (Ends x → u ≡ x ++ more) → (Ends y → v ≡ y ++ more) → Ends (cond blank x (cond comment y (b ∷ rest))) →
    cond blank u (cond comment v (b ∷ (rest ++ more))) ≡ cond blank x (cond comment y (b ∷ rest)) ++ more
more_behind true comment b x y u v rest more this that e = this e
more_behind false true b x y u v rest more this that e = that e
more_behind false false b x y u v rest more this that e = refl

-- where a statement with an end comes after the bytes that are passed over, these are the same whatever comes after it
behind_grows : (blank : ℕ → Bool) (comment : Bool) (text more : List ℕ) → Ends (behind blank comment text) → behind blank comment (text ++ more) ≡ behind blank comment text ++ more
behind_grows blank comment [] more e = absurd (none_ends e)
behind_grows blank true (b ∷ bs) more e = behind_grows blank (not (b == 10)) bs more e
behind_grows blank false (b ∷ []) more e = last_behind (blank b) (b == 45) b (behind blank false more) (behind blank true more) more (one_ends b) e
behind_grows blank false (b ∷ c ∷ cs) more e =
    more_behind (blank b) (b == 45 && c == 45) b (behind blank false (c ∷ cs)) (behind blank true (c ∷ cs)) (behind blank false (c ∷ (cs ++ more))) (behind blank true (c ∷ (cs ++ more))) (c ∷ cs) more
    (behind_grows blank false (c ∷ cs) more) (behind_grows blank true (c ∷ cs) more) e

-- ---- the line of an INSERT's semicolon

line_cases : (c r : Bool) (n m : ℕ) → (r ≡ false → n < m) → (c && r) ≡ false → cond c (1 + n) 0 < 1 + m
line_cases true r n m less fails = let more = less fails in omega arith
line_cases false r n m less fails = omega arith

line_within : (p : ℕ → Bool) (xs : List ℕ) → list_all p xs ≡ false → prefix_len p xs < length xs
line_within p [] fails = cc
line_within p (x ∷ xs) fails = omega (arith, line_cases (p x) (list_all p xs) (prefix_len p xs) (length xs) (line_within p xs) fails)

same_cases : (c r : Bool) (n m : ℕ) → (r ≡ false → n ≡ m) → (c && r) ≡ false → cond c (1 + n) 0 ≡ cond c (1 + m) 0
same_cases true r n m same fails = ap (λ k. 1 + k) (same fails)
same_cases false r n m same fails = refl

line_same : (p : ℕ → Bool) (xs more : List ℕ) → list_all p xs ≡ false → prefix_len p (xs ++ more) ≡ prefix_len p xs
line_same p [] more fails = cc
line_same p (x ∷ xs) more fails = same_cases (p x) (list_all p xs) (prefix_len p (xs ++ more)) (prefix_len p xs) (line_same p xs more) fails

line_rest_grows : (text more : List ℕ) → list_all is_line_byte text ≡ false → line_rest (text ++ more) ≡ line_rest text
line_rest_grows text more fails =
    let within = line_within is_line_byte text fails in
    ap (λ n. take n (text ++ more)) (line_same is_line_byte text more fails) ∙ take-append-le (prefix_len is_line_byte text) text more (omega arith)

behind_line_grows : (text more : List ℕ) → list_all is_line_byte text ≡ false → behind_line (text ++ more) ≡ behind_line text ++ more
behind_line_grows text more fails =
    let within = line_within is_line_byte text fails in
    ap (λ n. drop (n + 1) (text ++ more)) (line_same is_line_byte text more fails) ∙ drop-append-le (prefix_len is_line_byte text + 1) text more (omega arith)

-- ---- data

data_with : List ℕ → Data → Data
data_with more d = record { lines = d.lines; ended = d.ended; rest = d.rest ++ more }

data_cases : (c : Bool) (found : List ℕ × List ℕ) (more : List ℕ) (d e : Data) (r : Bool) → (r ≡ true → e ≡ data_with more d) → (c || r) ≡ true →
    cond c (record { lines = []; ended = true; rest = found.1 ++ more }) (with_line found.0 e) ≡ data_with more (cond c (record { lines = []; ended = true; rest = found.1 }) (with_line found.0 d))
unfolding data_with
data_cases true found more d e r grows ended = refl
data_cases false found more d e r grows ended = rw (grows ended) refl

data_line : (n : ℕ) (text more : List ℕ) (o : Option (List ℕ × List ℕ)) → ((rest : List ℕ) → length rest < n → data_ended rest ≡ true → data_of (rest ++ more) ≡ data_with more (data_of rest)) →
    ShorterThan n o → ((p : List ℕ × List ℕ) → o ≡ Some p → line_from false (text ++ more) ≡ Some (parted_with more p)) → data_ended_behind data_ended o ≡ true →
    data_of (text ++ more) ≡ data_with more (data_behind data_of text o)
data_line n text more None grows less line ended = cc
data_line n text more (Some found) grows less line ended =
    data_of_step (text ++ more)
    ∙ rw (line found refl) (data_cases (ends_data found.0) found more (data_of found.1) (data_of (found.1 ++ more)) (data_ended found.1) (grows found.1 less) ended)

-- data that came to its end is the same whatever comes after it
data_within_grows : (n : ℕ) (text more : List ℕ) → length text < n → data_ended text ≡ true → data_of (text ++ more) ≡ data_with more (data_of text)
data_within_grows zero text more less ended = absurd (omega arith)
data_within_grows (suc n) text more less ended =
    data_line (length text) text more (line_from false text) (λ rest fewer. data_within_grows n rest more (omega arith)) (line_shorter false text) (line_grows false text more) (sym (data_ended_step text) ∙ ended)
    ∙ ap (data_with more) (sym (data_of_step text))

data_grows : (text more : List ℕ) → data_ended text ≡ true → data_of (text ++ more) ≡ data_with more (data_of text)
data_grows text more ended = data_within_grows (length text + 1) text more (omega arith) ended

-- ---- statements

both : (a b : Bool) → (not a && b) ≡ true → (a ≡ false) × (b ≡ true)
both true b h = cc
both false b h = (refl, h)

when_true : {A : Type 0} (c : Bool) (x y : A) → c ≡ true → cond c x y ≡ x
when_true true x y h = refl
when_true false x y h = cc

when_false : {A : Type 0} (c : Bool) (x y : A) → c ≡ false → cond c x y ≡ y
when_false true x y h = cc
when_false false x y h = refl

with_data_grows : (text line : List ℕ) (d : Data) (more : List ℕ) → with_data text line (data_with more d) ≡ parted_with more (with_data text line d)
unfolding data_with
with_data_grows text line d more = refl

whole_cases : (c : Bool) (a b : Bool) → (not c || (not a && b)) ≡ true → c ≡ true → (not a && b) ≡ true
whole_cases true a b h takes = h
whole_cases false a b h takes = cc

complete_grows : (found : List ℕ × List ℕ) (more : List ℕ) → is_whole (Some found) ≡ true → complete (parted_with more found) ≡ parted_with more (complete found)
complete_grows found more whole = by (takes_data found.0) refl
  where
    by : (c : Bool) → takes_data found.0 ≡ c → complete (parted_with more found) ≡ parted_with more (complete found)
    by true takes =
        let parts = both (list_all is_line_byte found.1) (data_ended (behind_line found.1)) (whole_cases (takes_data found.0) (list_all is_line_byte found.1) (data_ended (behind_line found.1)) whole takes) in
        when_true (takes_data found.0) (with_data found.0 (line_rest (found.1 ++ more)) (data_of (behind_line (found.1 ++ more)))) (statement_of found.0 true [] false, found.1 ++ more) takes
        ∙ (ap (λ (l : List ℕ). with_data found.0 l (data_of (behind_line (found.1 ++ more)))) (line_rest_grows found.1 more parts.0)
        ∙ (ap (λ (t : List ℕ). with_data found.0 (line_rest found.1) (data_of t)) (behind_line_grows found.1 more parts.0)
        ∙ (ap (with_data found.0 (line_rest found.1)) (data_grows (behind_line found.1) more parts.1)
        ∙ (with_data_grows found.0 (line_rest found.1) (data_of (behind_line found.1)) more
        ∙ ap (parted_with more) (sym (when_true (takes_data found.0) (with_data found.0 (line_rest found.1) (data_of (behind_line found.1))) (statement_of found.0 true [] false, found.1) takes))))))
    by false takes =
        when_false (takes_data found.0) (with_data found.0 (line_rest (found.1 ++ more)) (data_of (behind_line (found.1 ++ more)))) (statement_of found.0 true [] false, found.1 ++ more) takes
        ∙ ap (parted_with more) (sym (when_false (takes_data found.0) (with_data found.0 (line_rest found.1) (data_of (behind_line found.1))) (statement_of found.0 true [] false, found.1) takes))

first_grows : (text more : List ℕ) (o : Option (List ℕ × List ℕ)) → ended_from Outside text ≡ o → is_whole o ≡ true → next_from (text ++ more) ≡ option_map (parted_with more) (next_from text)
first_grows [] more o found whole = cc
first_grows (b ∷ bs) more None found whole = cc
first_grows (b ∷ bs) more (Some p) found whole =
    ap (λ (o : Option (List ℕ × List ℕ)). Some (complete_or_cut (b ∷ (bs ++ more)) o)) (ended_grows Outside (b ∷ bs) more p found)
    ∙ (ap Some (complete_grows p more whole)
    ∙ ap (λ (o : Option (List ℕ × List ℕ)). Some (parted_with more (complete_or_cut (b ∷ bs) o))) (sym found))

some_ends : (text : List ℕ) (o : Option (List ℕ × List ℕ)) → ended_from Outside text ≡ o → is_whole o ≡ true → Ends text
some_ends text None found whole = cc
some_ends text (Some p) found whole = (p, found)

-- a script that has a whole statement goes on as it does, and the bytes after it come after the rest of it
pub whole_grows : (script more : List ℕ) → has_whole script ≡ true → next_statement (script ++ more) ≡ option_map (parted_with more) (next_statement script)
whole_grows script more whole =
    ap next_from (behind_grows is_between false script more (some_ends (behind is_between false script) (ended_from Outside (behind is_between false script)) refl whole))
    ∙ first_grows (behind is_between false script) more (ended_from Outside (behind is_between false script)) refl whole

-- ---- and it stays whole

ended_cases : (c r s : Bool) → (r ≡ true → s ≡ true) → (c || r) ≡ true → (c || s) ≡ true
ended_cases true r s stays ended = refl
ended_cases false r s stays ended = stays ended

ended_line : (n : ℕ) (text more : List ℕ) (o : Option (List ℕ × List ℕ)) → ((rest : List ℕ) → length rest < n → data_ended rest ≡ true → data_ended (rest ++ more) ≡ true) →
    ShorterThan n o → ((p : List ℕ × List ℕ) → o ≡ Some p → line_from false (text ++ more) ≡ Some (parted_with more p)) → data_ended_behind data_ended o ≡ true → data_ended (text ++ more) ≡ true
ended_line n text more None stays less line ended = cc
ended_line n text more (Some found) stays less line ended =
    data_ended_step (text ++ more)
    ∙ rw (line found refl) (ended_cases (ends_data found.0) (data_ended found.1) (data_ended (found.1 ++ more)) (stays found.1 less) ended)

ended_within_stays : (n : ℕ) (text more : List ℕ) → length text < n → data_ended text ≡ true → data_ended (text ++ more) ≡ true
ended_within_stays zero text more less ended = absurd (omega arith)
ended_within_stays (suc n) text more less ended =
    ended_line (length text) text more (line_from false text) (λ rest fewer. ended_within_stays n rest more (omega arith)) (line_shorter false text) (line_grows false text more) (sym (data_ended_step text) ∙ ended)

line_fails : (p : ℕ → Bool) (xs more : List ℕ) → list_all p xs ≡ false → list_all p (xs ++ more) ≡ false
line_fails p xs more fails = list_all-append p xs more ∙ rw fails refl

insert_whole : (takes : Bool) (rest more : List ℕ) → (not takes || (not (list_all is_line_byte rest) && data_ended (behind_line rest))) ≡ true →
    (not takes || (not (list_all is_line_byte (rest ++ more)) && data_ended (behind_line (rest ++ more)))) ≡ true
insert_whole false rest more whole = refl
insert_whole true rest more whole =
    let parts = both (list_all is_line_byte rest) (data_ended (behind_line rest)) whole in
    rw (line_fails is_line_byte rest more parts.0, behind_line_grows rest more parts.0) (ended_within_stays (length (behind_line rest) + 1) (behind_line rest) more (omega arith) parts.1)

first_whole : (text more : List ℕ) (o : Option (List ℕ × List ℕ)) → ended_from Outside text ≡ o → is_whole o ≡ true → is_whole (ended_from Outside (text ++ more)) ≡ true
first_whole text more None found whole = cc
first_whole text more (Some p) found whole = ap is_whole (ended_grows Outside text more p found) ∙ insert_whole (takes_data p.0) p.1 more whole

pub whole_stays : (script more : List ℕ) → has_whole script ≡ true → has_whole (script ++ more) ≡ true
whole_stays script more whole =
    ap (λ (t : List ℕ). is_whole (ended_from Outside t)) (behind_grows is_between false script more (some_ends (behind is_between false script) (ended_from Outside (behind is_between false script)) refl whole))
    ∙ first_whole (behind is_between false script) more (ended_from Outside (behind is_between false script)) refl whole
