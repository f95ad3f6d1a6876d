-- The walk of `clap` over the words, beside what the words give.
use Rattle.std.proofs.Common.{◌≡◌, ◌∙◌, ◌<◌, ◌⊎◌, ◌++◌, inl, inr, ℕ, zero, suc, arith, Bool, true, false, cond, refl, sym, ap, ap₂, subst, length, List, [], ◌∷◌, find, Option, Some, None, IsUtf8, bytes_eq, nat_lt, option_and_then, option_map, fold, chars, slice_get}
use Rattle.std.specs.List.{after_first, before_first, list_any}
use Rattle.std.specs.Option.{option_map_or}
use Rattle.clap.specs.Kinds.{Kinds, or_else}
use Rattle.clap.specs.Faults.{bundle_fault, bundle_step_fault, fault_of, flag_word_fault, flags_fault, long_fault, other_fault, settle_fault, step_fault, turn_fault, use_fault, walk_fault}
use Rattle.clap.specs.Lexer.{long_of}
use Rattle.clap.specs.Simple.{built, matches_of}
use Rattle.clap.specs.Walk.{Held, Rule, Row, Text, Waiting, Walk, after_flag, after_step, arg_by_long, finished, idle, long_met, long_or_other, next as goes_to, nothing_held, option, option_word, plain_word, positional, reacted, settled, short_or_plain, subcommand_met, subcommand_or_other, trailing, used, walked, with_default}
use Rattle.clap.specs.declared.error.kind.ErrorKind.TheVariants as kind
use Rattle.clap.proofs.FaultLemmas.{leaf_fault, past}
use Rattle.command_line.specs.Words.{Given, is_equals, is_given, is_two_dashes, is_value, named, names, options_of, with_option}
use Rattle.command_line.proofs.Dashes.{IsPlain, IsShort, Sort, after_dashes, before_dashes, before_none, none_named, none_set, not_an_option, sort, then}
use Rattle.command_line.proofs.Parsing.{Agrees, IsOption, app, at_end, built_shape, by_name, given_rows, is_itself, is_option, last_fault, long_found, no_value_fails, not_empty, passes, rule, rule_found, rules, settles, settles_to, twice, used_rows}

-- ---- lists of kinds

pub stops : (a b : Kinds) → (a ≡ [] → ⊥) → or_else a b ≡ [] → ⊥
stops [] b bad e = bad refl
stops (k ∷ ks) b bad e = bad e

regrouped : (a b c : Kinds) → or_else (or_else a b) c ≡ or_else a (or_else b c)
regrouped [] b c = refl
regrouped (k ∷ ks) b c = refl

no_more : (a : Kinds) → or_else a [] ≡ a
no_more [] = refl
no_more (k ∷ ks) = refl

agrees_as : (a b : Kinds) (r s : List Row) (o p : Option Given) → a ≡ b → r ≡ s → o ≡ p → Agrees b s p → Agrees a r o
agrees_as a b r s o p same rows said h =
    subst (λ l. Agrees a r l) (sym said) (subst (λ x. Agrees a x p) (sym rows) (subst (λ k. Agrees k s p) (sym same) h))

refused_as : (a : Kinds) (r : List Row) (o : Option Given) → (a ≡ [] → ⊥) → o ≡ None → Agrees a r o
refused_as a r o bad none = subst (λ l. Agrees a r l) (sym none) bad

-- ---- where a walk stands between two words

abbrev Pending : Type 0
Pending = Option (Text × List Text)

abbrev holding : List Row → Pending → Held
holding rows pending = record { rows = rows; pending = pending; skip = 0 }

abbrev standing : Waiting → Held → Walk
standing waiting h = record { held = h; waiting = waiting; position = 1; is_trailing = false; stopped = None }

-- each word is a text, and none is two dashes alone
abbrev pub AreTexts : List Text → Type 0
AreTexts [] = Unit {0}
AreTexts (word ∷ rest) = IsUtf8 word × (is_two_dashes word ≡ false) × AreTexts rest

-- what is checked once the words are read
abbrev end_fault : Held → Kinds
end_fault h = or_else (settle_fault rules false h) (last_fault (settled rules h).rows)

abbrev ended : Walk → List Text → Held
ended w words = (fold (walked rules []) w words).held

abbrev faults : Walk → List Text → Kinds
faults w words = or_else (walk_fault built_shape [] w words) (end_fault (ended w words))

abbrev rows_at : Walk → List Text → List Row
rows_at w words = finished rules (ended w words)

-- a walk over words, beside what is said
abbrev WalksTo : Walk → List Text → Option Given → Type 0
WalksTo w words said = Agrees (faults w words) (rows_at w words) said

more_faults : (w : Walk) (word : Text) (rest : List Text) → faults w (word ∷ rest) ≡ or_else (turn_fault built_shape [] w word) (faults (walked rules [] w word) rest)
unfolding walk_fault
more_faults w word rest = regrouped (turn_fault built_shape [] w word) (walk_fault built_shape [] (walked rules [] w word) rest) (end_fault (ended (walked rules [] w word) rest))

-- the word passes, and the walk goes on
goes_on : (w next : Walk) (word : Text) (rest : List Text) (said now : Option Given) → turn_fault built_shape [] w word ≡ [] → walked rules [] w word ≡ next
    → now ≡ said → WalksTo next rest said → WalksTo w (word ∷ rest) now
goes_on w next word rest said now through step same h =
    agrees_as _ _ _ _ now said
    (more_faults w word rest ∙ past (turn_fault built_shape [] w word) _ through ∙ ap (λ x. faults x rest) step)
    (ap (λ x. rows_at x rest) step) same h

-- the word is refused
ends_here : (w : Walk) (word : Text) (rest : List Text) (now : Option Given) → (turn_fault built_shape [] w word ≡ [] → ⊥) → now ≡ None → WalksTo w (word ∷ rest) now
ends_here w word rest now fails none =
    refused_as (faults w (word ∷ rest)) (rows_at w (word ∷ rest)) now (λ e. stops (turn_fault built_shape [] w word) _ fails (sym (more_faults w word rest) ∙ e)) none

-- ---- one word

met_none : (waiting : Waiting) (word : Text) → subcommand_met [] waiting word ≡ None
met_none idle word = refl
met_none (option id) word = refl
met_none positional word = refl

-- what a word that is not two dashes comes to, by what it is as a long flag
abbrev turned : Option (Text × Option Text) → Waiting → Text → Held → Kinds
turned long waiting word h = or_else (flag_word_fault rules false long word h)
    (step_fault built_shape 1 (long_or_other rules waiting word long h).0 (long_or_other rules waiting word long h).1)

turn_is : (waiting : Waiting) (word : Text) (h : Held) → is_two_dashes word ≡ false → turn_fault built_shape [] (standing waiting h) word ≡ turned (long_of word) waiting word h
turn_is waiting word h other =
    ap (λ o. or_else (other_fault built_shape o word h) (step_fault built_shape 1 (subcommand_or_other rules o waiting 1 word h).0 (subcommand_or_other rules o waiting 1 word h).1)) (met_none waiting word)
    ∙ ap (λ b. or_else (cond b [] (flag_word_fault rules false (long_of word) word h))
    (step_fault built_shape 1 (cond b (h, trailing 1) (long_or_other rules waiting word (long_of word) h)).0 (cond b (h, trailing 1) (long_or_other rules waiting word (long_of word) h)).1)) other

abbrev stepped : Option (Text × Option Text) → Waiting → Text → Held → Walk
stepped long waiting word h = after_step rules word (standing waiting h) (long_or_other rules waiting word long h).0 (long_or_other rules waiting word long h).1

walked_is : (waiting : Waiting) (word : Text) (h : Held) → is_two_dashes word ≡ false → walked rules [] (standing waiting h) word ≡ stepped (long_of word) waiting word h
unfolding walked
walked_is waiting word h other =
    ap (λ o. after_step rules word (standing waiting h) (subcommand_or_other rules o waiting 1 word h).0 (subcommand_or_other rules o waiting 1 word h).1) (met_none waiting word)
    ∙ ap (λ b. after_step rules word (standing waiting h) (cond b (h, trailing 1) (long_or_other rules waiting word (long_of word) h)).0 (cond b (h, trailing 1) (long_or_other rules waiting word (long_of word) h)).1) other

-- a plain word
turn_plain : (waiting : Waiting) (word : Text) (h : Held) → IsPlain word
    → turn_fault built_shape [] (standing waiting h) word ≡ step_fault built_shape 1 (plain_word rules waiting word h).0 (plain_word rules waiting word h).1
turn_plain waiting word h plain =
    turn_is waiting word h plain.other ∙ ap (λ long. turned long waiting word h) plain.long
    ∙ ap (λ short. or_else (option_map_or (λ flags. bundle_fault rules false flags h) short [])
    (step_fault built_shape 1 (short_or_plain rules waiting word short h).0 (short_or_plain rules waiting word short h).1)) plain.short

walked_plain : (waiting : Waiting) (word : Text) (h : Held) → IsPlain word
    → walked rules [] (standing waiting h) word ≡ after_step rules word (standing waiting h) (plain_word rules waiting word h).0 (plain_word rules waiting word h).1
walked_plain waiting word h plain =
    walked_is waiting word h plain.other ∙ ap (λ long. stepped long waiting word h) plain.long
    ∙ ap (λ short. after_step rules word (standing waiting h) (short_or_plain rules waiting word short h).0 (short_or_plain rules waiting word short h).1) plain.short

-- nothing waits for it
stray : (word : Text) (h : Held) → IsPlain word → turn_fault built_shape [] (standing idle h) word ≡ [] → ⊥
stray word h plain e = not_empty kind.UnknownArgument [] (sym (turn_plain idle word h plain) ∙ e)

-- an option waits for it
abbrev waits : Text → List Row → Walk
waits name rows = standing (option name) (holding rows (Some (name, [])))

abbrev has_one : Text → List Row → Text → Held
has_one name rows value = holding rows (Some (name, value ∷ []))

taken : (name : Text) (rows : List Row) (word : Text) → IsPlain word → turn_fault built_shape [] (waits name rows) word ≡ []
taken name rows word plain = turn_plain (option name) word (holding rows (Some (name, []))) plain

taken_then : (name : Text) → IsOption name → (rows : List Row) (word : Text) → IsPlain word → walked rules [] (waits name rows) word ≡ standing idle (has_one name rows word)
taken_then name is rows word plain =
    let h = holding rows (Some (name, [])) in
    walked_plain (option name) word h plain
    ∙ ap (λ a. after_step rules word (standing (option name) h) (option_word a name word h).0 (goes_to (option_word a name word h).1)) (rule_found name is)
    ∙ ap (λ b. standing (cond (nat_lt (cond b 1 0) 1) (option name) idle) (has_one name rows word)) (is_itself name is)

-- a word of one dash and more: there are no short options
no_flag : (n c : ℕ) (flags : Text) (h : Held) → 0 < n → Some c ≡ slice_get (chars flags) 0 → flags_fault rules false n flags 0 h ≡ kind.UnknownArgument ∷ []
unfolding flags_fault
no_flag zero c flags h some first = absurd (omega arith)
no_flag (suc n) c flags h some first = ap (λ o. bundle_step_fault rules false o flags 0 h (flags_fault rules false n)) (sym first)

short_fails : (waiting : Waiting) (word : Text) (rows : List Row) (pending : Pending) → IsShort word → turn_fault built_shape [] (standing waiting (holding rows pending)) word ≡ [] → ⊥
short_fails waiting word rows pending short e =
    let h = holding rows pending in
    let is : flag_word_fault rules false (long_of word) word h ≡ kind.UnknownArgument ∷ [] =
    ap (λ long. flag_word_fault rules false long word h) short.long
    ∙ ap (λ o. option_map_or (λ flags. bundle_fault rules false flags h) o []) short.short
    ∙ no_flag (length short.flags) short.char short.flags h short.some short.is_first in
    stops (flag_word_fault rules false (long_of word) word h) _ (λ f. not_empty kind.UnknownArgument [] (sym is ∙ f)) (sym (turn_is waiting word h short.other) ∙ e)

-- ---- a word of two dashes and more

abbrev long_word_of : ℕ → Text → Text
long_word_of d ds = 45 ∷ 45 ∷ d ∷ ds

abbrev value_at : Bool → ℕ → Text → Option Text
value_at has d ds = cond has (Some (after_first is_equals (d ∷ ds))) None

abbrev long_turned : Option Rule → Option Text → Waiting → Text → Held → Kinds
long_turned a v waiting word h = or_else (long_fault rules false a v h)
    (step_fault built_shape 1 (after_flag rules waiting word (long_met rules a v h).0 (long_met rules a v h).1).0 (after_flag rules waiting word (long_met rules a v h).0 (long_met rules a v h).1).1)

abbrev long_stepped : Option Rule → Option Text → Waiting → Text → Held → Walk
long_stepped a v waiting word h = after_step rules word (standing waiting h)
    (after_flag rules waiting word (long_met rules a v h).0 (long_met rules a v h).1).0 (after_flag rules waiting word (long_met rules a v h).0 (long_met rules a v h).1).1

long_turn : (waiting : Waiting) (d : ℕ) (ds : Text) (h : Held) (a : Option Rule) (has : Bool) → arg_by_long rules (before_first is_equals (d ∷ ds)) ≡ a → list_any is_equals (d ∷ ds) ≡ has
    → turn_fault built_shape [] (standing waiting h) (long_word_of d ds) ≡ long_turned a (value_at has d ds) waiting (long_word_of d ds) h
long_turn waiting d ds h a has is eq =
    turn_is waiting (long_word_of d ds) h refl
    ∙ ap₂ (λ x b. long_turned x (value_at b d ds) waiting (long_word_of d ds) h) is eq

long_walked : (waiting : Waiting) (d : ℕ) (ds : Text) (h : Held) (a : Option Rule) (has : Bool) → arg_by_long rules (before_first is_equals (d ∷ ds)) ≡ a → list_any is_equals (d ∷ ds) ≡ has
    → walked rules [] (standing waiting h) (long_word_of d ds) ≡ long_stepped a (value_at has d ds) waiting (long_word_of d ds) h
long_walked waiting d ds h a has is eq =
    walked_is waiting (long_word_of d ds) h refl
    ∙ ap₂ (λ x b. long_stepped x (value_at b d ds) waiting (long_word_of d ds) h) is eq

-- a value is attached to the option, or it waits for one
value_turn : (name value : Text) (waiting : Waiting) (word : Text) (h : Held)
    → long_turned (Some (rule name)) (Some value) waiting word h ≡ or_else (or_else (settle_fault rules false h) (use_fault false (rule name) (value ∷ []) (settled rules h).rows)) []
value_turn name value waiting word h = refl

value_step : (name value : Text) (waiting : Waiting) (word : Text) (h : Held) → long_stepped (Some (rule name)) (Some value) waiting word h ≡ standing idle (reacted rules (rule name) (value ∷ []) h)
value_step name value waiting word h = refl

bare_turn : (name : Text) (waiting : Waiting) (word : Text) (h : Held) → long_turned (Some (rule name)) None waiting word h ≡ or_else (settle_fault rules false h) []
bare_turn name waiting word h = refl

bare_step : (name : Text) (waiting : Waiting) (word : Text) (h : Held)
    → long_stepped (Some (rule name)) None waiting word h ≡ standing (option name) (record (settled rules h) { pending = Some (name, []) })
bare_step name waiting word h = refl

-- the name is an option's, or no option has it
abbrev Named : Text → Type 0
Named name = IsOption name ⊎ (by_name names name ≡ None)

is_named : (name : Text) → Named name
is_named name = go (by_name names name) refl
  where
    go : (o : Option Text) → by_name names name ≡ o → Named name
    go (Some m) is = inl (is_option name m is)
    go None is = inr is

met : (name : Text) → IsOption name → arg_by_long rules name ≡ Some (rule name)
met name is = long_found names name ∙ ap (option_map rule) is

unmet : (name : Text) → by_name names name ≡ None → arg_by_long rules name ≡ None
unmet name none = long_found names name ∙ ap (option_map rule) none

-- ---- what such a word gives

-- two dashes and a name are the option of this name
after_two : (ns : List Text) (name : Text) → find (λ n. bytes_eq (45 ∷ 45 ∷ n) (45 ∷ 45 ∷ name)) ns ≡ by_name ns name
after_two [] name = refl
after_two (n ∷ ns) name = ap (λ o. cond (bytes_eq n name) (Some n) o) (after_two ns name)

unknown : (name : Text) → by_name names name ≡ None → named (45 ∷ 45 ∷ name) ≡ None
unknown name none = after_two names name ∙ none

-- an option, and whether it was given before
set_by : (name value : Text) (given : Given) (rest : List Text) (b : Bool) → IsOption name → is_given name given ≡ b
    → then rest (with_option (45 ∷ 45 ∷ name) value given) ≡ then rest (cond b None (Some (given ++ (name, value) ∷ [])))
set_by name value given rest b is e =
    ap (λ o. then rest (option_and_then (λ n. cond (is_given n given) None (Some (given ++ (n, value) ∷ []))) o)) (after_two names name ∙ is)
    ∙ ap (λ x. then rest (cond x None (Some (given ++ (name, value) ∷ [])))) e

long_set : (d : ℕ) (ds : Text) (given : Given) (rest : List Text) → list_any is_equals (d ∷ ds) ≡ true
    → options_of given None (long_word_of d ds ∷ rest) ≡ then rest (with_option (45 ∷ 45 ∷ before_first is_equals (d ∷ ds)) (after_first is_equals (d ∷ ds)) given)
long_set d ds given rest has =
    ap (λ b. cond b (then rest (with_option (before_first is_equals (long_word_of d ds)) (after_first is_equals (long_word_of d ds)) given)) (options_of given (Some (long_word_of d ds)) rest)) has
    ∙ ap₂ (λ n v. then rest (with_option n v given)) (before_dashes (d ∷ ds)) (after_dashes (d ∷ ds))

long_name : (d : ℕ) (ds : Text) → list_any is_equals (d ∷ ds) ≡ false → long_word_of d ds ≡ 45 ∷ 45 ∷ before_first is_equals (d ∷ ds)
long_name d ds has = ap (λ t. 45 ∷ 45 ∷ t) (sym (before_none (d ∷ ds) has))

long_waits : (d : ℕ) (ds : Text) (given : Given) (rest : List Text) → list_any is_equals (d ∷ ds) ≡ false
    → options_of given None (long_word_of d ds ∷ rest) ≡ options_of given (Some (45 ∷ 45 ∷ before_first is_equals (d ∷ ds))) rest
long_waits d ds given rest has =
    ap (λ b. cond b (then rest (with_option (before_first is_equals (long_word_of d ds)) (after_first is_equals (long_word_of d ds)) given)) (options_of given (Some (long_word_of d ds)) rest)) has
    ∙ ap (λ n. options_of given (Some n) rest) (long_name d ds has)

long_none : (d : ℕ) (ds : Text) (given : Given) (rest : List Text) → by_name names (before_first is_equals (d ∷ ds)) ≡ None → options_of given None (long_word_of d ds ∷ rest) ≡ None
long_none d ds given rest none = go (list_any is_equals (d ∷ ds)) refl
  where
    go : (b : Bool) → list_any is_equals (d ∷ ds) ≡ b → options_of given None (long_word_of d ds ∷ rest) ≡ None
    go true has =
        long_set d ds given rest has ∙ none_set (45 ∷ 45 ∷ before_first is_equals (d ∷ ds)) (after_first is_equals (d ∷ ds)) given rest (unknown (before_first is_equals (d ∷ ds)) none)
    go false has = long_waits d ds given rest has ∙ none_named (45 ∷ 45 ∷ before_first is_equals (d ∷ ds)) given rest (unknown (before_first is_equals (d ∷ ds)) none)

-- ---- what is held

-- the pending option passes, and the rows with it are those of the options given; or it is refused
abbrev Holds : List Row → Pending → Option Given → Type 0
Holds rows pending None = settle_fault rules false (holding rows pending) ≡ [] → ⊥
Holds rows pending (Some given) = (settle_fault rules false (holding rows pending) ≡ []) × ((settled rules (holding rows pending)).rows ≡ given_rows given)

none_then : (seen : Option Given) (words : List Text) → ((given : Given) → options_of given None words ≡ None) → then words seen ≡ None
none_then None words none = refl
none_then (Some given) words none = none given

-- the walk over the words comes to what they give, where nothing waits, and where an option waits for its value
abbrev Walks : List Text → Type 0
Walks words =
    ((rows : List Row) (pending : Pending) (seen : Option Given) → Holds rows pending seen → WalksTo (standing idle (holding rows pending)) words (then words seen))
    × ((name : Text) (given : Given) → IsOption name → WalksTo (waits name (given_rows given)) words (options_of given (Some (45 ∷ 45 ∷ name)) words))

-- ---- the end of the words

idle_end : (rows : List Row) (pending : Pending) (seen : Option Given) → Holds rows pending seen → WalksTo (standing idle (holding rows pending)) [] (then [] seen)
unfolding walk_fault
idle_end rows pending None holds = stops (settle_fault rules false (holding rows pending)) _ holds
idle_end rows pending (Some given) holds =
    agrees_as _ (last_fault (given_rows given)) _ (fold with_default (given_rows given) rules) _ (Some given)
    (past (settle_fault rules false (holding rows pending)) _ holds.0 ∙ ap last_fault holds.1)
    (ap (λ r. fold with_default r rules) holds.1)
    refl
    (at_end given)

waits_end : (name : Text) (given : Given) → IsOption name → WalksTo (waits name (given_rows given)) [] (options_of given (Some (45 ∷ 45 ∷ name)) [])
unfolding walk_fault
waits_end name given is = stops (settle_fault rules false (holding (given_rows given) (Some (name, [])))) _ (no_value_fails name is (given_rows given))

-- ---- one word more

-- a plain word is the value of the option that waits
plain_value : (word : Text) (rest : List Text) → IsPlain word → Walks rest → (name : Text) (given : Given) → IsOption name → (b : Bool) → is_given name given ≡ b
    → WalksTo (waits name (given_rows given)) (word ∷ rest) (options_of given (Some (45 ∷ 45 ∷ name)) (word ∷ rest))
plain_value word rest plain walks name given is b e = go b e (now b e)
  where
    at : Walk
    at = waits name (given_rows given)

    now : (b : Bool) → is_given name given ≡ b → options_of given (Some (45 ∷ 45 ∷ name)) (word ∷ rest) ≡ then rest (cond b None (Some (given ++ (name, word) ∷ [])))
    now b e = ap (λ v. cond v (then rest (with_option (45 ∷ 45 ∷ name) word given)) None) plain.value ∙ set_by name word given rest b is e

    go : (b : Bool) → is_given name given ≡ b → options_of given (Some (45 ∷ 45 ∷ name)) (word ∷ rest) ≡ then rest (cond b None (Some (given ++ (name, word) ∷ []))) → WalksTo at (word ∷ rest) (options_of given (Some (45 ∷ 45 ∷ name)) (word ∷ rest))
    go true e gives =
        goes_on at (standing idle (has_one name (given_rows given) word)) word rest None (options_of given (Some (45 ∷ 45 ∷ name)) (word ∷ rest)) (taken name (given_rows given) word plain) (taken_then name is (given_rows given) word plain) gives
        (walks.0 (given_rows given) (Some (name, word ∷ [])) None (λ f. twice name word given e (sym (settles name is (word ∷ []) (given_rows given)) ∙ f)))
    go false e gives =
        goes_on at (standing idle (has_one name (given_rows given) word)) word rest (then rest (Some (given ++ (name, word) ∷ []))) (options_of given (Some (45 ∷ 45 ∷ name)) (word ∷ rest)) (taken name (given_rows given) word plain) (taken_then name is (given_rows given) word plain) gives
        (walks.0 (given_rows given) (Some (name, word ∷ [])) (Some (given ++ (name, word) ∷ []))
        (settles name is (word ∷ []) (given_rows given) ∙ passes name word given e, settles_to name is (word ∷ []) (given_rows given) ∙ used_rows name word given e))

plain_more : (word : Text) (rest : List Text) → IsPlain word → Walks rest → Walks (word ∷ rest)
plain_more word rest plain walks = (
  λ rows pending seen holds. ends_here (standing idle (holding rows pending)) word rest (then (word ∷ rest) seen) (stray word (holding rows pending) plain)
      (none_then seen (word ∷ rest) (λ given. not_an_option given word rest plain.no_name)),
  λ name given is. plain_value word rest plain walks name given is (is_given name given) refl,
)

no_value : (name : Text) (given : Given) (word : Text) (rest : List Text) → is_value word ≡ false → options_of given (Some name) (word ∷ rest) ≡ None
no_value name given word rest e = ap (λ b. cond b (then rest (with_option name word given)) None) e

short_more : (word : Text) (rest : List Text) → IsShort word → Walks (word ∷ rest)
short_more word rest short = (
  λ rows pending seen holds. ends_here (standing idle (holding rows pending)) word rest (then (word ∷ rest) seen) (short_fails idle word rows pending short)
      (none_then seen (word ∷ rest) (λ given. not_an_option given word rest short.no_name)),
  λ name given is. ends_here (waits name (given_rows given)) word rest (options_of given (Some (45 ∷ 45 ∷ name)) (word ∷ rest)) (short_fails (option name) word (given_rows given) (Some (name, [])) short)
      (no_value (45 ∷ 45 ∷ name) given word rest short.value),
)

-- an option gets the value after `=`
module _ (d : ℕ) (ds : Text) (rest : List Text) (walks : Walks rest) (rows : List Row) (pending : Pending) (given : Given) (holds : Holds rows pending (Some given)) (is : IsOption (before_first is_equals (d ∷ ds))) (eq : list_any is_equals (d ∷ ds) ≡ true) where
  abbrev name : Text
  name = before_first is_equals (d ∷ ds)

  abbrev value : Text
  value = after_first is_equals (d ∷ ds)

  long_used : turn_fault built_shape [] (standing idle (holding rows pending)) (long_word_of d ds) ≡ use_fault false (rule name) (value ∷ []) (given_rows given)
  long_used =
      long_turn idle d ds (holding rows pending) (Some (rule name)) true (met name is) eq ∙ value_turn name value idle (long_word_of d ds) (holding rows pending)
      ∙ no_more _ ∙ past (settle_fault rules false (holding rows pending)) _ holds.0 ∙ ap (use_fault false (rule name) (value ∷ [])) holds.1

  long_valued : (b : Bool) → is_given name given ≡ b → WalksTo (standing idle (holding rows pending)) (long_word_of d ds ∷ rest) (options_of given None (long_word_of d ds ∷ rest))
  long_valued true e =
      ends_here (standing idle (holding rows pending)) (long_word_of d ds) rest (options_of given None (long_word_of d ds ∷ rest)) (λ f. twice name value given e (sym long_used ∙ f))
      (long_set d ds given rest eq ∙ set_by name value given rest true is e)
  long_valued false e =
      let more = given ++ (name, value) ∷ [] in
      goes_on (standing idle (holding rows pending)) (standing idle (holding (given_rows more) None)) (long_word_of d ds) rest (then rest (Some more)) (options_of given None (long_word_of d ds ∷ rest))
      (long_used ∙ passes name value given e)
      (long_walked idle d ds (holding rows pending) (Some (rule name)) true (met name is) eq ∙ value_step name value idle (long_word_of d ds) (holding rows pending)
      ∙ ap (λ r. standing idle (holding r None)) (ap (used (rule name) (value ∷ [])) holds.1 ∙ used_rows name value given e))
      (long_set d ds given rest eq ∙ set_by name value given rest false is e)
      (walks.0 (given_rows more) None (Some more) (refl, refl))

-- an option that is met waits, or gets the value after `=`
long_idle : (d : ℕ) (ds : Text) (rest : List Text) → Walks rest → (rows : List Row) (pending : Pending) (seen : Option Given) → Holds rows pending seen
    → Named (before_first is_equals (d ∷ ds)) → (has : Bool) → list_any is_equals (d ∷ ds) ≡ has
    → WalksTo (standing idle (holding rows pending)) (long_word_of d ds ∷ rest) (then (long_word_of d ds ∷ rest) seen)
long_idle d ds rest walks rows pending seen holds (inr none) has eq =
    let h = holding rows pending in
    ends_here (standing idle h) (long_word_of d ds) rest (then (long_word_of d ds ∷ rest) seen)
    (λ e. not_empty kind.UnknownArgument [] (sym (long_turn idle d ds h None has (unmet (before_first is_equals (d ∷ ds)) none) eq) ∙ e))
    (none_then seen (long_word_of d ds ∷ rest) (λ given. long_none d ds given rest none))
long_idle d ds rest walks rows pending None holds (inl is) true eq =
    let h = holding rows pending in
    let name = before_first is_equals (d ∷ ds) in
    ends_here (standing idle h) (long_word_of d ds) rest None
    (λ e. stops _ [] (stops (settle_fault rules false h) _ holds)
    (sym (long_turn idle d ds h (Some (rule name)) true (met name is) eq ∙ value_turn name (after_first is_equals (d ∷ ds)) idle (long_word_of d ds) h) ∙ e)) refl
long_idle d ds rest walks rows pending None holds (inl is) false eq =
    let h = holding rows pending in
    let name = before_first is_equals (d ∷ ds) in
    ends_here (standing idle h) (long_word_of d ds) rest None
    (λ e. stops (settle_fault rules false h) [] holds
    (sym (long_turn idle d ds h (Some (rule name)) false (met name is) eq ∙ bare_turn name idle (long_word_of d ds) h) ∙ e)) refl
long_idle d ds rest walks rows pending (Some given) holds (inl is) true eq =
    long_valued d ds rest walks rows pending given holds is eq (is_given (before_first is_equals (d ∷ ds)) given) refl
long_idle d ds rest walks rows pending (Some given) holds (inl is) false eq =
    let h = holding rows pending in
    let name = before_first is_equals (d ∷ ds) in
    goes_on (standing idle h) (waits name (given_rows given)) (long_word_of d ds) rest (options_of given (Some (45 ∷ 45 ∷ name)) rest) (options_of given None (long_word_of d ds ∷ rest))
    (long_turn idle d ds h (Some (rule name)) false (met name is) eq ∙ bare_turn name idle (long_word_of d ds) h ∙ no_more (settle_fault rules false h) ∙ holds.0)
    (long_walked idle d ds h (Some (rule name)) false (met name is) eq ∙ bare_step name idle (long_word_of d ds) h ∙ ap (λ r. standing (option name) (holding r (Some (name, [])))) holds.1)
    (long_waits d ds given rest eq)
    (walks.1 name given is)

-- an option waits already: the word is no value
long_waiting : (d : ℕ) (ds : Text) (rest : List Text) (name : Text) (given : Given) → IsOption name → Named (before_first is_equals (d ∷ ds)) → (has : Bool) → list_any is_equals (d ∷ ds) ≡ has
    → WalksTo (waits name (given_rows given)) (long_word_of d ds ∷ rest) (options_of given (Some (45 ∷ 45 ∷ name)) (long_word_of d ds ∷ rest))
long_waiting d ds rest name given waiting other has eq =
    ends_here (waits name (given_rows given)) (long_word_of d ds) rest (options_of given (Some (45 ∷ 45 ∷ name)) (long_word_of d ds ∷ rest)) (fails other has eq) (no_value (45 ∷ 45 ∷ name) given (long_word_of d ds) rest refl)
  where
    h : Held
    h = holding (given_rows given) (Some (name, []))

    m : Text
    m = before_first is_equals (d ∷ ds)

    fails : Named m → (b : Bool) → list_any is_equals (d ∷ ds) ≡ b → turn_fault built_shape [] (waits name (given_rows given)) (long_word_of d ds) ≡ [] → ⊥
    fails (inr none) b e turn = not_empty kind.UnknownArgument [] (sym (long_turn (option name) d ds h None b (unmet m none) e) ∙ turn)
    fails (inl is) true e turn =
        stops _ [] (stops (settle_fault rules false h) _ (no_value_fails name waiting (given_rows given)))
        (sym (long_turn (option name) d ds h (Some (rule m)) true (met m is) e ∙ value_turn m (after_first is_equals (d ∷ ds)) (option name) (long_word_of d ds) h) ∙ turn)
    fails (inl is) false e turn =
        stops (settle_fault rules false h) [] (no_value_fails name waiting (given_rows given))
        (sym (long_turn (option name) d ds h (Some (rule m)) false (met m is) e ∙ bare_turn m (option name) (long_word_of d ds) h) ∙ turn)

long_more : (d : ℕ) (ds : Text) (rest : List Text) → Walks rest → Walks (long_word_of d ds ∷ rest)
long_more d ds rest walks = (
  λ rows pending seen holds. long_idle d ds rest walks rows pending seen holds (is_named (before_first is_equals (d ∷ ds))) (list_any is_equals (d ∷ ds)) refl,
  λ name given is. long_waiting d ds rest name given is (is_named (before_first is_equals (d ∷ ds))) (list_any is_equals (d ∷ ds)) refl,
)

more : (word : Text) (rest : List Text) → Sort word → Walks rest → Walks (word ∷ rest)
more word rest (inl plain) walks = plain_more word rest plain walks
more word rest (inr (inl short)) walks = short_more word rest short
more word rest (inr (inr long)) walks = subst (λ x. Walks (x ∷ rest)) (sym long.2) (long_more long.0 long.1 rest walks)

walks_over : (words : List Text) → AreTexts words → Walks words
walks_over [] texts = (idle_end, waits_end)
walks_over (word ∷ rest) texts = more word rest (sort word texts.0 texts.1) (walks_over rest texts.2)

-- what the words give is what `clap` makes of them
pub reads : (words : List Text) → AreTexts words → Agrees (fault_of app words) (matches_of app words) (options_of [] None words)
reads words texts =
    agrees_as (fault_of app words) (faults (standing idle (holding [] None)) words) (matches_of app words) (rows_at (standing idle (holding [] None)) words)
    (options_of [] None words) (then words (Some []))
    (leaf_fault (built app) nothing_held words refl) refl refl
    ((walks_over words texts).0 [] None (Some []) (refl, refl))
