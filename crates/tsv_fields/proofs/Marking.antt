-- The fields of a line, marked by the places where they end, byte by byte.
use Rattle.std.proofs.Common.{◌≡◌, ℕ, zero, suc, ◌+◌, ◌-◌, ◌<◌, ◌≤◌, Bool, true, false, not, cond, ◌&&◌, ◌==◌, List, [], ◌∷◌, ◌++◌, length, get_or, slice_get, take, drop, fold, Option, Some, None, if◌then◌else◌, refl, sym, ap, ap₂, subst, ◌∙◌, arith, length-append, length-drop, length-take-le}
use Rattle.std.proofs.lemmas.Bool.Decides.{nat_tests}
use Rattle.std.proofs.lemmas.List.{take_more, take_all, drop-append-le, take-append-le}
use Rattle.mt_values.specs.Script.{takes_next, line_from}
use Rattle.mt_values.specs.Rows.{onto_first, fields_from}
use Rattle.mt_values.proofs.Fronts.{parted, parted_none}
use Rattle.data_lines.proofs.LineParts.{line_more, line_here, line_none}
use Rattle.tsv_fields.specs.Fields.{pieces_from, EndsRise, EndFields, line_at, line_found, marked}

-- ---- one byte more of a line

-- whether the byte after some bytes is taken
abbrev pub taken_after : Bool → List ℕ → Bool
taken_after taken bytes = fold takes_next taken bytes

-- a byte after the last of some fields
abbrev pub onto_last : ℕ → List (List ℕ) → List (List ℕ)
onto_last b [] = []
onto_last b (f ∷ []) = (f ++ b ∷ []) ∷ []
onto_last b (f ∷ g ∷ fs) = f ∷ onto_last b (g ∷ fs)

-- the fields with one byte more
abbrev pub with_byte : Bool → ℕ → List (List ℕ) → List (List ℕ)
with_byte tab b fields = cond tab (fields ++ [] ∷ []) (onto_last b fields)

some_field : (tab : Bool) (b : ℕ) (more fields : List (List ℕ)) → 0 < length fields → 0 < length (cond tab ([] ∷ more) (onto_first b fields))
some_field true b more fields some = omega arith
some_field false b more [] some = absurd (omega arith)
some_field false b more (f ∷ fs) some = omega arith

-- a line has a field at least
pub length-fields_from : (taken : Bool) (line : List ℕ) → 0 < length (fields_from taken line)
length-fields_from taken [] = omega arith
length-fields_from taken (b ∷ bs) =
    some_field (not taken && b == 9) b (fields_from false bs) (fields_from (takes_next taken b) bs) (length-fields_from (takes_next taken b) bs)

first_onto_last : (b x : ℕ) (fields : List (List ℕ)) → 0 < length fields → onto_first x (onto_last b fields) ≡ onto_last b (onto_first x fields)
first_onto_last b x [] some = absurd (omega arith)
first_onto_last b x (f ∷ []) some = refl
first_onto_last b x (f ∷ g ∷ fs) some = refl

-- a field in front
behind_first : (tab : Bool) (b : ℕ) (f : List ℕ) (fields : List (List ℕ)) → 0 < length fields → f ∷ with_byte tab b fields ≡ with_byte tab b (f ∷ fields)
behind_first true b f fields some = refl
behind_first false b f [] some = absurd (omega arith)
behind_first false b f (g ∷ fs) some = refl

-- a byte before the first field
behind_byte : (tab : Bool) (b x : ℕ) (fields : List (List ℕ)) → 0 < length fields → onto_first x (with_byte tab b fields) ≡ with_byte tab b (onto_first x fields)
behind_byte true b x [] some = absurd (omega arith)
behind_byte true b x (f ∷ fs) some = refl
behind_byte false b x fields some = first_onto_last b x fields some

push_by : (tab : Bool) (taken : Bool) (b x : ℕ) (xs : List ℕ) → (not taken && x == 9) ≡ tab →
    ((t : Bool) → fields_from t (xs ++ b ∷ []) ≡ with_byte (not (taken_after t xs) && b == 9) b (fields_from t xs)) →
    cond tab ([] ∷ fields_from false (xs ++ b ∷ [])) (onto_first x (fields_from (takes_next taken x) (xs ++ b ∷ [])))
    ≡ with_byte (not (taken_after (takes_next taken x) xs) && b == 9) b (cond tab ([] ∷ fields_from false xs) (onto_first x (fields_from (takes_next taken x) xs)))
push_by true taken b x xs is more =
    let free : takes_next taken x ≡ false = grind (arith, nat_tests) in
    rw free (ap (λ fs. [] ∷ fs) (more false) ∙ behind_first (not (taken_after false xs) && b == 9) b [] (fields_from false xs) (length-fields_from false xs))
push_by false taken b x xs is more =
    let next = takes_next taken x in
    ap (onto_first x) (more next) ∙ behind_byte (not (taken_after next xs) && b == 9) b x (fields_from next xs) (length-fields_from next xs)

-- a line with one byte more
pub fields_push : (taken : Bool) (xs : List ℕ) (b : ℕ) → fields_from taken (xs ++ b ∷ []) ≡ with_byte (not (taken_after taken xs) && b == 9) b (fields_from taken xs)
fields_push taken [] b = by (not taken && b == 9)
  where
    by : (tab : Bool) → cond tab ([] ∷ [] ∷ []) ((b ∷ []) ∷ []) ≡ with_byte tab b ([] ∷ [])
    by true = refl
    by false = refl
fields_push taken (x ∷ xs) b = push_by (not taken && x == 9) taken b x xs refl (λ t. fields_push t xs b)

-- ---- one byte more of the last piece, or of none

short_front : (start end : ℕ) (xs : List ℕ) (b : ℕ) → start ≤ end → end ≤ length xs → take (end - start) (drop start (xs ++ b ∷ [])) ≡ take (end - start) (drop start xs)
short_front start end xs b rises within =
    ap (take (end - start)) (drop-append-le start xs (b ∷ []) (omega arith)) ∙ take-append-le (end - start) (drop start xs) (b ∷ []) (omega (arith, length-drop start xs))

last_piece : (start : ℕ) (xs : List ℕ) (b n : ℕ) → start ≤ n → n ≡ length xs → take (n + 1 - start) (drop start (xs ++ b ∷ [])) ≡ take (n - start) (drop start xs) ++ b ∷ []
last_piece start xs b n rises whole =
    let size : length (drop start xs ++ b ∷ []) ≡ length (drop start xs) + 1 = length-append (drop start xs) (b ∷ []) in
    ap (take (n + 1 - start)) (drop-append-le start xs (b ∷ []) (omega arith))
    ∙ take_all (n + 1 - start) (drop start xs ++ b ∷ []) (omega (arith, length-drop start xs))
    ∙ ap (λ l. l ++ b ∷ []) (sym (take_all (n - start) (drop start xs) (omega (arith, length-drop start xs))))

-- pieces up to the end of a line, which rise
abbrev pub RiseTo : ℕ → List ℕ → ℕ → Type 0
RiseTo start ends n = EndsRise start (ends ++ n ∷ []) n

pub rise_on : (start : ℕ) (ends : List ℕ) (n : ℕ) → RiseTo start ends n → RiseTo start ends (n + 1)
rise_on start [] n rise = (omega arith, omega arith, tt)
rise_on start (e ∷ es) n rise = (rise.0, omega arith, rise_on (e + 1) es n rise.2)

pub rise_tab : (start : ℕ) (ends : List ℕ) (n : ℕ) → RiseTo start ends n → RiseTo start (ends ++ n ∷ []) (n + 1)
rise_tab start [] n rise = (rise.0, omega arith, (omega arith, omega arith, tt))
rise_tab start (e ∷ es) n rise = (rise.0, omega arith, rise_tab (e + 1) es n rise.2)

onto_last_behind : (b : ℕ) (f : List ℕ) (start : ℕ) (ends : List ℕ) (n : ℕ) (xs : List ℕ) →
    f ∷ onto_last b (pieces_from start (ends ++ n ∷ []) xs) ≡ onto_last b (f ∷ pieces_from start (ends ++ n ∷ []) xs)
onto_last_behind b f start [] n xs = refl
onto_last_behind b f start (e ∷ es) n xs = refl

pub pieces_on : (start : ℕ) (ends xs : List ℕ) (b n : ℕ) → RiseTo start ends n → n ≡ length xs →
    pieces_from start (ends ++ (n + 1) ∷ []) (xs ++ b ∷ []) ≡ onto_last b (pieces_from start (ends ++ n ∷ []) xs)
pieces_on start [] xs b n rise whole = ap (λ l. l ∷ []) (last_piece start xs b n rise.0 whole)
pieces_on start (e ∷ es) xs b n rise whole =
    ap₂ (λ f fs. f ∷ fs) (short_front start e xs b rise.0 (omega arith)) (pieces_on (e + 1) es xs b n rise.2 whole)
    ∙ onto_last_behind b (take (e - start) (drop start xs)) (e + 1) es n xs

empty_piece : (xs : List ℕ) (b n : ℕ) → take (n + 1 - (n + 1)) (drop (n + 1) (xs ++ b ∷ [])) ≡ []
empty_piece xs b n = let none : n + 1 - (n + 1) ≡ 0 = omega arith in rw none refl

pub pieces_tab : (start : ℕ) (ends xs : List ℕ) (b n : ℕ) → RiseTo start ends n → n ≡ length xs →
    pieces_from start ((ends ++ n ∷ []) ++ (n + 1) ∷ []) (xs ++ b ∷ []) ≡ pieces_from start (ends ++ n ∷ []) xs ++ [] ∷ []
pieces_tab start [] xs b n rise whole = ap₂ (λ f g. f ∷ g ∷ []) (short_front start n xs b rise.0 (omega arith)) (empty_piece xs b n)
pieces_tab start (e ∷ es) xs b n rise whole = ap₂ (λ f fs. f ∷ fs) (short_front start e xs b rise.0 (omega arith)) (pieces_tab (e + 1) es xs b n rise.2 whole)

-- ---- one piece

-- where the piece at a place begins
abbrev pub start_of : ℕ → List ℕ → ℕ → ℕ
start_of start ends zero = start
start_of start ends (suc place) = get_or ends place 0 + 1

pub piece_at : (start : ℕ) (ends line : List ℕ) (place : ℕ) → place < length ends →
    slice_get (pieces_from start ends line) place ≡ Some (take (get_or ends place 0 - start_of start ends place) (drop (start_of start ends place) line))
piece_at start [] line place within = absurd (omega arith)
piece_at start (e ∷ es) line zero within = refl
piece_at start (e ∷ es) line (suc zero) within = piece_at (e + 1) es line zero (omega arith)
piece_at start (e ∷ es) line (suc (suc place)) within = piece_at (e + 1) es line (suc place) (omega arith)

pub piece_bounds : (start : ℕ) (ends : List ℕ) (count place : ℕ) → place < length ends → EndsRise start ends count → (start_of start ends place ≤ get_or ends place 0) × (get_or ends place 0 ≤ count)
piece_bounds start [] count place within rise = absurd (omega arith)
piece_bounds start (e ∷ es) count zero within rise = (rise.0, rise.1)
piece_bounds start (e ∷ es) count (suc zero) within rise = piece_bounds (e + 1) es count zero (omega arith) rise.2
piece_bounds start (e ∷ es) count (suc (suc place)) within rise = piece_bounds (e + 1) es count (suc place) (omega arith) rise.2

-- past the first piece, after the end of the one before it
pub start_behind : (start : ℕ) (ends : List ℕ) (place : ℕ) → 0 < place → start_of start ends place ≡ get_or ends (place - 1) 0 + 1
start_behind start ends zero some = absurd (omega arith)
start_behind start ends (suc place) some = let before : suc place - 1 ≡ place = omega arith in rw before refl

-- ---- a line marked up to a place

-- what looking for the end of a line gives from some byte on
abbrev pub line_beyond : Bool → Bool → List ℕ → Option (List ℕ × List ℕ)
line_beyond lines taken text = if lines then line_from taken text else None

-- the bytes before a place are marked, and none of them ends the line
pub record MarkedTo (text : List ℕ) (lines : Bool) (ends : List ℕ) (taken : Bool) (at : ℕ) : Type 0 where
  pub state : taken ≡ taken_after false (take at text)
  pub line : parted (take at text) (line_beyond lines taken (drop at text)) ≡ line_found lines text
  pub fields : pieces_from 0 (ends ++ at ∷ []) (take at text) ≡ fields_from false (take at text)
  pub rise : RiseTo 0 ends at

pub marked_none : (text : List ℕ) (lines : Bool) → MarkedTo text lines [] false 0
marked_none text lines = record { state = refl; line = parted_none (line_beyond lines false text); fields = refl; rise = (omega arith, omega arith, tt) }

-- the last byte before a place
taken_more : (taken : Bool) (bytes : List ℕ) (b : ℕ) → taken_after taken (bytes ++ b ∷ []) ≡ takes_next (taken_after taken bytes) b
taken_more taken [] b = refl
taken_more taken (c ∷ bytes) b = taken_more (takes_next taken c) bytes b

module _ (text : List ℕ) (lines : Bool) (ends : List ℕ) (taken : Bool) (at : ℕ) (marked_to : MarkedTo text lines ends taken at) where
  module _ (within : at < length text) where
    b : ℕ
    b = get_or text at 0

    size : at ≡ length (take at text)
    size = sym (length-take-le at text (omega arith))

    state_more : (next : Bool) → next ≡ takes_next taken (get_or text at 0) → next ≡ taken_after false (take (at + 1) text)
    state_more next is =
        is ∙ ap (λ t. takes_next t (get_or text at 0)) marked_to.state
        ∙ sym (ap (taken_after false) (take_more text at 0 within) ∙ taken_more false (take at text) (get_or text at 0))

    line_more_by : (l : Bool) → (l && (not taken && get_or text at 0 == 10)) ≡ false →
        parted (take (at + 1) text) (line_beyond l (takes_next taken (get_or text at 0)) (drop (at + 1) text)) ≡ parted (take at text) (line_beyond l taken (drop at text))
    line_more_by false goes_on = refl
    line_more_by true goes_on = line_more text at 0 taken within goes_on

    fields_more : (tab : Bool) → (not taken && get_or text at 0 == 9) ≡ tab → fields_from false (take (at + 1) text) ≡ with_byte tab (get_or text at 0) (fields_from false (take at text))
    fields_more tab is =
        ap (fields_from false) (take_more text at 0 within) ∙ fields_push false (take at text) (get_or text at 0)
        ∙ ap (λ t. with_byte t (get_or text at 0) (fields_from false (take at text))) (ap (λ t. not t && get_or text at 0 == 9) (sym marked_to.state) ∙ is)

    -- the byte at the place ends nothing
    pub marked_more : (next : Bool) → next ≡ takes_next taken (get_or text at 0) → (lines && (not taken && get_or text at 0 == 10)) ≡ false → (not taken && get_or text at 0 == 9) ≡ false →
        MarkedTo text lines ends next (at + 1)
    marked_more next is no_end no_tab =
        record {
          state = state_more next is;
          line = rw is (line_more_by lines no_end ∙ marked_to.line);
          fields =
              ap (pieces_from 0 (ends ++ (at + 1) ∷ [])) (take_more text at 0 within) ∙ pieces_on 0 ends (take at text) (get_or text at 0) at marked_to.rise size
              ∙ ap (onto_last (get_or text at 0)) marked_to.fields ∙ sym (fields_more false no_tab);
          rise = rise_on 0 ends at marked_to.rise;
        }

    -- it ends a field
    pub marked_tab : taken ≡ false → get_or text at 0 ≡ 9 → MarkedTo text lines (ends ++ at ∷ []) false (at + 1)
    marked_tab free tab =
        let next : false ≡ takes_next taken (get_or text at 0) = rw (free, tab) refl in
        let no_end : (lines && (not taken && get_or text at 0 == 10)) ≡ false = rw (free, tab) (never lines) in
        let is_tab : (not taken && get_or text at 0 == 9) ≡ true = rw (free, tab) refl in
        record {
          state = state_more false next;
          line = ap (λ t. parted (take (at + 1) text) (line_beyond lines t (drop (at + 1) text))) next ∙ line_more_by lines no_end ∙ marked_to.line;
          fields =
              ap (pieces_from 0 ((ends ++ at ∷ []) ++ (at + 1) ∷ [])) (take_more text at 0 within) ∙ pieces_tab 0 ends (take at text) (get_or text at 0) at marked_to.rise size
              ∙ ap (λ fs. fs ++ [] ∷ []) marked_to.fields ∙ sym (fields_more true is_tab);
          rise = rise_tab 0 ends at marked_to.rise;
        }
      where
        never : (l : Bool) → (l && false) ≡ false
        never false = refl
        never true = refl

    -- it ends the line
    pub marked_feed : lines ≡ true → taken ≡ false → get_or text at 0 ≡ 10 → Some (take at text, drop (at + 1) text) ≡ line_found lines text
    marked_feed looked free feed =
        let ends_here : (not taken && get_or text at 0 == 10) ≡ true = rw (free, feed) refl in
        sym (line_here text at 0 taken within ends_here) ∙ ap (λ l. parted (take at text) (line_beyond l taken (drop at text))) (sym looked) ∙ marked_to.line

  -- the fields of what is marked
  pub marked_fields : at ≤ length text → EndFields (take at text) (ends ++ at ∷ [])
  marked_fields within = record { fields = marked_to.fields; rise = rw (length-take-le at text within) marked_to.rise }

  -- the fields of all that there is
  pub whole_fields : at ≤ length text → length text ≤ at → EndFields text (ends ++ length text ∷ [])
  whole_fields within past =
      let end : at ≡ length text = omega arith in
      subst (λ (n : ℕ). EndFields text (ends ++ n ∷ [])) end (subst (λ (t : List ℕ). EndFields t (ends ++ at ∷ [])) (take_all at text past) (marked_fields within))

  none_by : (l : Bool) → length text ≤ at → parted (take at text) (line_beyond l taken (drop at text)) ≡ None
  none_by false past = refl
  none_by true past = line_none text at 0 taken past

  -- nothing ended the line
  pub marked_whole : length text ≤ at → None ≡ line_found lines text
  marked_whole past = sym (none_by lines past) ∙ marked_to.line

-- where no line was looked for, all is marked
pub whole_marked : (text ends : List ℕ) (feed : Option ℕ) → line_at text feed ≡ None → EndFields (marked text feed) ends → EndFields text ends
whole_marked text ends None none fields = fields
whole_marked text ends (Some place) none fields = cc
