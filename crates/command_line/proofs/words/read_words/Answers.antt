use Rattle.std.proofs.Common.{◌≡◌, ◌∙◌, rules, refl, ap, sym, true, true≢false}
use Rattle.clap.specs.Simple.{app_of}
use Rattle.clap.specs.Values.{kind_of}
use Rattle.clap.specs.declared.error.kind.ErrorKind.TheVariants as kind
use Rattle.command_line.specs.Words.{command_of}
use Rattle.command_line.proofs.Parsing.{app}
use Rattle.command_line.proofs.Reading.{dashes_say_none, err_says, ok_says}
use Rattle.command_line.proofs.words.read_words.Goals as goal

pub returns-then-has_two_dashes : goal.returns-then-has_two_dashes
returns-then-has_two_dashes c = sym (ap command_of c.in-Some.ensures.cases.0 ∙ dashes_say_none c.in-Some.words.now c.if-has_two_dashes.ensures)

pub returns-in-Ok : goal.returns-in-Ok
returns-in-Ok c =
    let is : app_of c.in_ok-command.command ≡ app = search rules in
    c.line_in.ensures
    ∙ ok_says (app_of c.in_ok-command.command) is c.in-Some.words.now c.if-has_two_dashes.ensures c.in-Ok.matches c.in-Ok.ensures.matches c.in-Ok.ensures.kinds
    ∙ sym (ap command_of c.in-Some.ensures.cases.0)

pub returns : goal.returns
returns c =
    let is : app_of c.in_ok-command.command ≡ app = search rules in
    let other : kind_of c.in-Err.error ≡ kind.OutOfMemory → ⊥ = λ memory.
    let yes : c.eq.result ≡ true = rw (c.eq.ensures, c.kind.ensures, memory) refl in
    true≢false (sym yes ∙ c.if-eq.false) in
    sym (ap command_of c.in-Some.ensures.cases.0
    ∙ err_says (app_of c.in_ok-command.command) is c.in-Some.words.now c.if-has_two_dashes.ensures c.in-Err.error c.in-Err.ensures.kinds other)
