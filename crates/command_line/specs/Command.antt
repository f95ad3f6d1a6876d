-- The command that `clap` is given.
use Rattle.std.specs.Prelude.{true, List, Some, codes, fold, map}
use Rattle.clap.specs.Simple.{App, new_app, new_rule, on_top, with_rule}
use Rattle.clap.specs.Walk.{Rule, Text}
use Rattle.clap.specs.declared.builder.action.ArgAction.TheVariants.{Set}

-- an option of this name, with one value
abbrev pub option_arg : Text → Rule
option_arg name = record (new_rule name) { long = Some name; action = Some Set }

-- a command without options, without the program's name before its words, and without help
abbrev pub bare_app : App
bare_app = on_top (λ s. record s { disable_help_flag = true }) (on_top (λ s. record s { no_binary_name = true }) (new_app (codes "mergetree")))

-- a command with an option of each name
abbrev pub app_with : List Text → App
app_with names = fold with_rule bare_app (map option_arg names)
