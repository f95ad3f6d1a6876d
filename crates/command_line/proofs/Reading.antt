-- From what the calls of `read_words` give to what the words say.
use Rattle.std.proofs.Common.{◌≡◌, ◌∙◌, ◌<◌, ◌||◌, ◌+◌, ◌++◌, ℕ, zero, suc, arith, Bool, true, false, refl, sym, ap, ap₂, subst, inl, inr, List, [], ◌∷◌, map, length, codes, get_or, take, Option, Some, None, option_and_then, fold, string_bytes}
use mathlib.Core.Path.{fun_ext}
use Rattle.std.specs.Prelude.{String}
use Rattle.std.specs.declared.alloc.Global.{Global}
use Rattle.std.specs.Borrow.{Bor}
use Rattle.std.specs.List.{All, Any, list_any, slice_index_or}
use Rattle.std.proofs.lemmas.List.{map-append, take_more}
use Rattle.clap.specs.Faults.{fault_of, is_simple_and_free}
use Rattle.clap.specs.Kinds.{HasKind, Kinds}
use Rattle.clap.specs.Matches.{first_value, found_of}
use Rattle.clap.specs.Simple.{App, HasMatchesOf, app_of, app_of_fields, is_simple, matches_of, new_app, on_top, with_rule}
use Rattle.clap.specs.Values.{kind_of}
use Rattle.clap.specs.Walk.{Row, Text, first_of, rows_of, rule_of}
use Rattle.clap.specs.Built.{AddsArg}
use Rattle.clap.specs.declared.builder.arg.Arg.{Arg}
use Rattle.clap.specs.declared.builder.command.Command.{Command}
use Rattle.clap.specs.declared.builder.command.Command.TheViews.{out-Command}
use Rattle.clap.specs.declared.error.Error.{Error}
use Rattle.clap.specs.declared.error.kind.ErrorKind.TheVariants as kind
use Rattle.clap.specs.declared.parser.matches.ArgMatches.{ArgMatches}
use Rattle.clap.proofs.WalkLemmas.{first_value-rows, list_any-map}
use Rattle.command_line.specs.Command.{app_with, bare_app, option_arg}
use Rattle.command_line.specs.Words.{Given, IsOtherText, IsTwoDashes, Line, is_two_dashes, line_of, options_of, value_of}
use Rattle.command_line.proofs.Dashes.{dashes_none}
use Rattle.command_line.proofs.Parsing.{Agrees, app, first_given, is_free, is_simple_app}
use Rattle.command_line.proofs.Walks.{AreTexts, reads}

abbrev pub texts_of : List (String Global) → List Text
texts_of words = map (λ word. string_bytes word) words

any_true : {X : Type 0} (p : X → Bool) (xs : List X) (k : ℕ) (d : X) → k < length xs → p (slice_index_or xs k d) ≡ true → list_any p xs ≡ true
any_true p [] k d lt e = absurd (omega arith)
any_true p (x ∷ xs) zero d lt e = ap (λ b. b || list_any p xs) e
any_true p (x ∷ xs) (suc k) d lt e = or_right (p x) _ (any_true p xs k d (omega arith) e)
  where
    or_right : (a b : Bool) → b ≡ true → (a || b) ≡ true
    or_right true b is = refl
    or_right false b is = is

-- what options say
abbrev pub line_by : Given → Option Line
line_by given = line_of (value_of given)

-- what words after the program's name say
abbrev pub said_in : List (String Global) → Option Line
said_in words = option_and_then line_by (options_of [] None (texts_of words))

-- a word of two dashes alone is among them
pub dashes_say_none : (words : List (String Global)) → Any IsTwoDashes words → said_in words ≡ None
dashes_say_none words any =
    let found : list_any is_two_dashes (texts_of words) ≡ true =
    sym (list_any-map is_two_dashes (λ (word : String Global). string_bytes word) words)
    ∙ any_true (λ word. is_two_dashes (string_bytes word)) words any.0 any.1 any.2 (ap (λ word. is_two_dashes (string_bytes word)) any.3 ∙ any.4) in
    ap (option_and_then line_by) (dashes_none (texts_of words) found [] None)

-- each word is another text
all_texts : (words : List (String Global)) → All IsOtherText words → AreTexts (texts_of words)
all_texts [] all = tt
all_texts (word ∷ rest) all =
    let first = all 0 word (omega arith) in
    (first.0, first.1, all_texts rest (λ k d lt. all (suc k) d (omega arith)))

-- ---- the command

-- before any option
pub bare_is : (start one two : Command) → app_of start ≡ new_app (codes "mergetree") → out-Command one ≡ record (out-Command start) { no_binary_name = true } → out-Command two ≡ record (out-Command one) { disable_help_flag = true } → app_of two ≡ bare_app
bare_is start one two new unnamed unhelped =
    ap app_of_fields unhelped ∙ ap (on_top (λ s. record s { disable_help_flag = true })) (ap app_of_fields unnamed ∙ ap (on_top (λ s. record s { no_binary_name = true })) new)

fold_last : {X Y : Type 0} (f : Y → X → Y) (a : Y) (xs : List X) (x : X) → fold f a (xs ++ x ∷ []) ≡ f (fold f a xs) x
fold_last f a [] x = refl
fold_last f a (y ∷ xs) x = fold_last f (f a y) xs x

app_more : (names : List (Bor Text)) (i : ℕ) (d : Bor Text) → i < length names → app_with (map (λ n. n.now) (take (i + 1) names)) ≡ with_rule (app_with (map (λ n. n.now) (take i names))) (option_arg (get_or names i d).now)
app_more names i d below =
    let front = take i names in
    let last = get_or names i d in
    ap (λ ns. app_with (map (λ n. n.now) ns)) (take_more names i d below)
    ∙ ap app_with (map-append (λ n. n.now) front (last ∷ []))
    ∙ ap (fold with_rule bare_app) (map-append option_arg (map (λ n. n.now) front) (last.now ∷ []))
    ∙ fold_last with_rule bare_app (map option_arg (map (λ n. n.now) front)) (option_arg last.now)

-- one option more
pub one_more : (names : List (Bor Text)) (i : ℕ) (d : Bor Text) (before after : Command) (arg : Arg) → i < length names → app_of before ≡ app_with (map (λ n. n.now) (take i names)) → AddsArg before arg after → arg.global ≡ false
    → rule_of arg ≡ option_arg (get_or names i d).now → app_of after ≡ app_with (map (λ n. n.now) (take (i + 1) names))
one_more names i d before after arg below so_far adds plain rule_is = adds.shape plain ∙ (ap₂ with_rule so_far rule_is ∙ sym (app_more names i d below))

-- ---- the parse

some_fails : (kinds : Kinds) (e : Error) → HasKind kinds e → (kind_of e ≡ kind.OutOfMemory → ⊥) → kinds ≡ [] → ⊥
some_fails kinds e has other none = elim (subst (λ ks. HasKind ks e) none has) [ inl memory ↦ other memory | inr among ↦ among ]

-- rows that agree say what the options say
agreed : (kinds : Kinds) (rows : List Row) (o : Option Given) → Agrees kinds rows o → kinds ≡ [] → line_of (λ name. first_of name rows) ≡ option_and_then line_by o
agreed kinds rows None agrees none = absurd (agrees none)
agreed kinds rows (Some given) agrees none = ap line_of (fun_ext (λ name. ap (first_of name) agrees.1 ∙ first_given given name))

refused : (kinds : Kinds) (rows : List Row) (o : Option Given) → Agrees kinds rows o → (kinds ≡ [] → ⊥) → option_and_then line_by o ≡ None
refused kinds rows None agrees some = refl
refused kinds rows (Some given) agrees some = absurd (some agrees.0)

-- the command is that of the options, and the words are texts
module _ (a : App) (is : a ≡ app) (words : List (String Global)) (all : All IsOtherText words) where
  agree : Agrees (fault_of app (texts_of words)) (matches_of app (texts_of words)) (options_of [] None (texts_of words))
  agree = reads (texts_of words) (all_texts words all)

  free : is_simple_and_free a ≡ true
  free = ap is_simple_and_free is ∙ is_free

  -- the parse gives matches
  pub ok_says : (m : ArgMatches) → HasMatchesOf a (texts_of words) m → (is_simple_and_free a ≡ true → fault_of a (texts_of words) ≡ []) → line_of (first_value (found_of m)) ≡ said_in words
  ok_says m has none =
      let rows : rows_of (found_of m) ≡ matches_of app (texts_of words) = (has (ap is_simple is ∙ is_simple_app)).0 ∙ ap (λ x. matches_of x (texts_of words)) is in
      ap line_of (fun_ext (λ name. first_value-rows (found_of m) name ∙ ap (first_of name) rows))
      ∙ agreed _ (matches_of app (texts_of words)) (options_of [] None (texts_of words)) agree (sym (ap (λ x. fault_of x (texts_of words)) is) ∙ none free)

  -- it fails, and memory is left
  pub err_says : (e : Error) → (is_simple_and_free a ≡ true → HasKind (fault_of a (texts_of words)) e) → (kind_of e ≡ kind.OutOfMemory → ⊥) → said_in words ≡ None
  err_says e has other =
      refused _ (matches_of app (texts_of words)) (options_of [] None (texts_of words)) agree (some_fails _ e (subst (λ x. HasKind (fault_of x (texts_of words)) e) is (has free)) other)
