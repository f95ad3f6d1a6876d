-- Which words are a command line, and what it says (docs/grammar.md, "The command line").
use Rattle.std.specs.Prelude.{◌≡◌, ◌==◌, ◌++◌, ℕ, Bool, true, false, not, List, [], ◌∷◌, String, Option, Some, None, find, map, codes, if◌then◌else◌, option_and_then, option_map, string_bytes, bytes_eq, IsUtf8}
use Rattle.std.specs.List.{after_first, before_first, list_any}
use Rattle.std.specs.declared.alloc.Global.{Global}
use Rattle.mt_base.specs.declared.policy.Policy.{Policy}
use Rattle.mt_base.specs.declared.policy.Policy.TheVariants as policy
use Rattle.command_line.specs.declared.words.CommandLine.{CommandLine}

-- what a command line says: the path of the folder, and the policy of merges
pub record Line : Type 0 where
  pub folder : List ℕ
  pub policy : Policy

-- the same, of what the program has read
abbrev pub said : CommandLine → Line
said line = record { folder = line.folder.now; policy = line.policy }

-- the names of the options
abbrev pub names : List (List ℕ)
names = codes "path" ∷ codes "policy" ∷ []

-- the policy of a name
abbrev pub policy_named : List ℕ → Option Policy
policy_named name = if bytes_eq (codes "near") name then Some policy.Near
    else (if bytes_eq (codes "head") name then Some policy.Head
    else (if bytes_eq (codes "tail") name then Some policy.Tail else None))

-- the policy that a value says, and Near where there is none
abbrev pub policy_said : Option (List ℕ) → Option Policy
policy_said None = Some policy.Near
policy_said (Some name) = policy_named name

-- what the options say, by the value of each of them where it is given: the folder is wanted
abbrev pub line_of : (List ℕ → Option (List ℕ)) → Option Line
line_of value =
    option_and_then (λ path. option_map (λ p. record { folder = path; policy = p }) (policy_said (value (codes "policy")))) (value (codes "path"))

-- options that are given, each with its name and its value
abbrev pub Given : Type 0
Given = List (List ℕ × List ℕ)

-- whether an option is given
abbrev pub is_given : List ℕ → Given → Bool
is_given name given = list_any (λ option. bytes_eq option.0 name) given

-- the value of an option, where it is given
abbrev pub value_of : Given → List ℕ → Option (List ℕ)
value_of given name = option_map (λ option. option.1) (find (λ option. bytes_eq option.0 name) given)

-- the option that a word names, which is two dashes and its name
abbrev pub named : List ℕ → Option (List ℕ)
named word = find (λ name. bytes_eq (45 ∷ 45 ∷ name) word) names

-- options, and the one that a word names, with this value: none is given twice
abbrev pub with_option : List ℕ → List ℕ → Given → Option Given
with_option word value given =
    option_and_then (λ name. if is_given name given then None else Some (given ++ (name, value) ∷ [])) (named word)

-- the byte `=`
abbrev pub is_equals : ℕ → Bool
is_equals byte = byte == 61

-- a word that may be the value of the word before it: it does not begin with a dash, or is one dash
abbrev pub is_value : List ℕ → Bool
is_value (first ∷ second ∷ rest) = not (first == 45)
is_value word = true

-- What words give after these options, and after a word that names one or none: each option is one word `--name=value`, or a word `--name` and the one after it.
abbrev pub options_of : Given → Option (List ℕ) → List (List ℕ) → Option Given
options_of given None [] = Some given
options_of given (Some option) [] = None
options_of given None (word ∷ words) =
    if list_any is_equals word
    then option_and_then (λ more. options_of more None words) (with_option (before_first is_equals word) (after_first is_equals word) given)
    else options_of given (Some word) words
options_of given (Some option) (word ∷ words) =
    if is_value word then option_and_then (λ more. options_of more None words) (with_option option word given) else None

-- what the words say, if they are a command line: the program's name, and options
abbrev pub said_by : List (List ℕ) → Option Line
said_by [] = None
said_by (name ∷ words) = option_and_then (λ given. line_of (value_of given)) (options_of [] None words)

-- the same of words as the program is given them
abbrev pub command_of : List (String Global) → Option Line
command_of words = said_by (map (λ word. string_bytes word) words)

-- two dashes alone, which are no option, and no value by themselves
abbrev pub is_two_dashes : List ℕ → Bool
is_two_dashes word = bytes_eq word (codes "--")

-- the word is these
abbrev pub IsTwoDashes : String Global → Type 0
IsTwoDashes word = is_two_dashes (string_bytes word) ≡ true

-- the word is another text
abbrev pub IsOtherText : String Global → Type 0
IsOtherText word = IsUtf8 (string_bytes word) × (is_two_dashes (string_bytes word) ≡ false)
