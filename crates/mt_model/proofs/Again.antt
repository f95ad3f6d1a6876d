-- The text of a statement, with a semicolon after it, is read again as that statement alone.
use Rattle.std.proofs.Common.{◌≡◌, ℕ, Bool, true, false, not, cond, ◌&&◌, ◌==◌, List, [], ◌∷◌, ◌++◌, Option, Some, None, refl, sym, ap, ◌∙◌}
use Rattle.std.proofs.lemmas.Bool.{eqb-true}
use Rattle.std.specs.Option.{option_map}
use Rattle.mt_values.specs.declared.script.Place.{Place}
use Rattle.mt_values.specs.declared.script.Place.TheVariants.{Outside, InString, BehindBackslash, InComment}
use Rattle.mt_values.specs.Tokens.{behind, begins_with}
use Rattle.mt_values.specs.Grammar.{statement_of, takes_data}
use Rattle.mt_values.specs.Script.{onto, place_behind, ends_at, ended_from, data_of, line_rest, behind_line, with_data, Step, complete, is_between, next_from, next_statement}

-- ---- what comes after blanks and comments

-- a byte that is not passed over, nor does a comment begin with it
pub record IsFirst (blank : ℕ → Bool) (b : ℕ) (bs : List ℕ) : Type 0 where
  pub no_blank : blank b ≡ false
  pub no_comment : (b == 45 && begins_with 45 bs) ≡ false

-- a text begins with such a byte, if with any
abbrev pub BeginsText : (ℕ → Bool) → List ℕ → Type 0
BeginsText blank [] = Unit {0}
BeginsText blank (b ∷ bs) = IsFirst blank b bs

begin_cases : (blank : ℕ → Bool) (c d : Bool) (b : ℕ) (bs x y : List ℕ) → blank b ≡ c → (b == 45 && begins_with 45 bs) ≡ d → BeginsText blank x → BeginsText blank y → BeginsText blank (cond c x (cond d y (b ∷ bs)))
begin_cases blank true d b bs x y e f p q = p
begin_cases blank false true b bs x y e f p q = q
begin_cases blank false false b bs x y e f p q = record { no_blank = e; no_comment = f }

pub behind_begins : (blank : ℕ → Bool) (comment : Bool) (text : List ℕ) → BeginsText blank (behind blank comment text)
behind_begins blank comment [] = tt
behind_begins blank true (b ∷ bs) = behind_begins blank (not (b == 10)) bs
behind_begins blank false (b ∷ bs) =
    begin_cases blank (blank b) (b == 45 && begins_with 45 bs) b bs (behind blank false bs) (behind blank true bs) refl refl (behind_begins blank false bs) (behind_begins blank true bs)

-- nothing of such a text is passed over
first_stays : (blank : ℕ → Bool) (b : ℕ) (bs : List ℕ) → IsFirst blank b bs → behind blank false (b ∷ bs) ≡ b ∷ bs
first_stays blank b bs h = rw (h.no_blank, h.no_comment) refl

-- ---- the end of a statement

begins_same : (t rest : List ℕ) → begins_with 45 (t ++ 59 ∷ []) ≡ begins_with 45 (t ++ 59 ∷ rest)
begins_same [] rest = refl
begins_same (c ∷ cs) rest = refl

place_same : (place : Place) (b : ℕ) (t rest : List ℕ) → place_behind place b (t ++ 59 ∷ []) ≡ place_behind place b (t ++ 59 ∷ rest)
place_same Outside b t rest = ap (λ c. cond (b == 39) InString (cond (b == 45 && c) InComment Outside)) (begins_same t rest)
place_same InString b t rest = refl
place_same BehindBackslash b t rest = refl
place_same InComment b t rest = refl

-- a semicolon ends a text, and would end it if nothing came after it
abbrev IsEnded : Place → List ℕ → Option (List ℕ × List ℕ) → Type 0
IsEnded place text None = Unit {0}
IsEnded place text (Some found) = (text ≡ found.0 ++ 59 ∷ found.1) × (ended_from place (found.0 ++ 59 ∷ []) ≡ Some (found.0, []))

ends_here : (place : Place) (b : ℕ) (bs : List ℕ) → ends_at place b ≡ true → IsEnded place (b ∷ bs) (Some ([], bs))
ends_here Outside b bs e = (ap (λ c. c ∷ bs) (eqb-true b 59 e), refl)
ends_here InString b bs e = cc
ends_here BehindBackslash b bs e = cc
ends_here InComment b bs e = cc

ends_later : (place : Place) (b : ℕ) (bs : List ℕ) (p : List ℕ × List ℕ) → ends_at place b ≡ false → IsEnded (place_behind place b bs) bs (Some p) → IsEnded place (b ∷ bs) (Some (b ∷ p.0, p.1))
ends_later place b bs p e h =
    let same : place_behind place b (p.0 ++ 59 ∷ []) ≡ place_behind place b bs = place_same place b p.0 p.1 ∙ ap (place_behind place b) (sym h.0) in
    (ap (λ t. b ∷ t) h.0, rw (e, same) (ap (option_map (onto b)) h.1))

end_cases : (place : Place) (b : ℕ) (bs : List ℕ) (c : Bool) (o : Option (List ℕ × List ℕ)) → ends_at place b ≡ c → IsEnded (place_behind place b bs) bs o → IsEnded place (b ∷ bs) (cond c (Some ([], bs)) (option_map (onto b) o))
end_cases place b bs true o e h = ends_here place b bs e
end_cases place b bs false None e h = tt
end_cases place b bs false (Some p) e h = ends_later place b bs p e h

ended_again : (place : Place) (text : List ℕ) → IsEnded place text (ended_from place text)
ended_again place [] = tt
ended_again place (b ∷ bs) = end_cases place b bs (ends_at place b) (ended_from (place_behind place b bs) bs) refl (ended_again (place_behind place b bs) bs)

-- ---- a statement alone

first_alone : (b : ℕ) (bs t rest : List ℕ) → IsFirst is_between b bs → b ∷ bs ≡ t ++ 59 ∷ rest → behind is_between false (t ++ 59 ∷ []) ≡ t ++ 59 ∷ []
first_alone b bs [] rest h e =
    let semicolon : b ≡ 59 = cc in
    let clash : true ≡ false = sym (ap is_between semicolon) ∙ h.no_blank in
    cc
first_alone b bs (c ∷ t) rest h e =
    let same : b ≡ c = cc in
    let more : bs ≡ t ++ 59 ∷ rest = cc in
    first_stays is_between c (t ++ 59 ∷ []) (record {
      no_blank = ap is_between (sym same) ∙ h.no_blank;
      no_comment = ap (λ x. c == 45 && x) (begins_same t rest ∙ ap (begins_with 45) (sym more)) ∙ (ap (λ x. x == 45 && begins_with 45 bs) (sym same) ∙ h.no_comment);
    })

next_some : (text : List ℕ) (p : List ℕ × List ℕ) → ended_from Outside text ≡ Some p → next_from text ≡ Some (complete p)
next_some [] p e = cc
next_some (b ∷ bs) p e = rw e refl

-- an INSERT has no data where nothing comes after it
complete_alone : (t : List ℕ) → complete (t, []) ≡ (statement_of t true [] false, [])
complete_alone t = by (takes_data t)
  where
    by : (c : Bool) → cond {A = Step} c (with_data t (line_rest []) (data_of (behind_line []))) (statement_of t true [] false, []) ≡ (statement_of t true [] false, [])
    by true = refl
    by false = refl

-- a text up to the semicolon that ends it
pub next_alone : (b : ℕ) (bs : List ℕ) (found : List ℕ × List ℕ) → IsFirst is_between b bs → ended_from Outside (b ∷ bs) ≡ Some found → next_statement (found.0 ++ 59 ∷ []) ≡ Some (statement_of found.0 true [] false, [])
next_alone b bs found first ends =
    let h = rw ends at (ended_again Outside (b ∷ bs)) in
    ap next_from (first_alone b bs found.0 found.1 first h.0)
    ∙ (next_some (found.0 ++ 59 ∷ []) (found.0, []) h.1
    ∙ ap Some (complete_alone found.0))
