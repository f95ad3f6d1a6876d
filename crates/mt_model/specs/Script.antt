-- What a run of a script may print (docs/definitions-of-runs.md, "Runs").
use Rattle.std.specs.Prelude.{◌++◌, ◌≡◌, ℕ, List, length, drop, All, Ok}
use Rattle.mt_values.specs.declared.command.Entry.{Entry}
use Rattle.mt_values.specs.declared.statement.Statement.TheVariants as statement
use Rattle.mt_values.specs.Script.{Item}
use Rattle.mt_model.specs.History.{History}
use Rattle.mt_model.specs.Outside.{Outside}
use Rattle.mt_model.specs.Session.{SessionRun, SessionReplies, AddsNothing}

-- every entry past a place is session 0's: a script has no other session
abbrev pub OwnEntries : History → ℕ → Type 0
OwnEntries h base = All (λ (e : Entry). e.session ≡ 0) (drop base h)

-- The statements ran and printed out. The entries past base are theirs, each once.
pub record ScriptRun (n : Outside) (script : List Item) (h : History) (base : ℕ) (out : List ℕ) : Type 0 where
  pub last : ℕ
  pub run : SessionRun n h 0 script base last out
  pub nothing_else : AddsNothing h 0 last (length h)
  pub sessions : OwnEntries h base

-- The same, reply by reply.
pub record ScriptReplies (n : Outside) (script : List Item) (h : History) (base : ℕ) (replies : List (List ℕ)) : Type 0 where
  pub last : ℕ
  pub run : SessionReplies n h 0 script base last replies
  pub nothing_else : AddsNothing h 0 last (length h)
  pub sessions : OwnEntries h base

-- a statement that is no EXPLAIN, or a text that is refused as it is read (docs/definitions-of-runs.md, "Runs")
abbrev pub IsNoExplain : Item → Type 0
IsNoExplain (Ok (statement.Explain s)) = ⊥
IsNoExplain item = Unit {0}

-- none of a script's statements is an EXPLAIN (docs/definitions-of-runs.md, "Runs")
abbrev pub HasNoExplain : List Item → Type 0
HasNoExplain script = All IsNoExplain script

-- a front of a list
abbrev pub IsPrefix : List ℕ → List ℕ → Type 0
IsPrefix xs ys = (rest : List ℕ) × (xs ++ rest ≡ ys)
