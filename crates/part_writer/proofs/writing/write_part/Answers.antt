use Rattle.std.proofs.Common.{◌≡◌, [], List, Option, Some, None, true, ap, is_some, refl, ◌∙◌}
use Rattle.std.specs.Option.{option_map}
use Rattle.std.proofs.lemmas.Result.{IfOk-weaker}
use Rattle.mt_outside.specs.Files.{Files}
use Rattle.mt_values.specs.declared.schema.Schema.{Schema}
use Rattle.mt_values.specs.Grid.{picked}
use Rattle.mt_values.specs.Values.{Row}
use Rattle.part_writer.specs.PartFiles.{all_synced, files_of_part, loaded_of}
use Rattle.part_writer.proofs.writing.write_part.Goals as goal

-- where the files are told they are these
told_all : {X Y : Type 0} (y : Y) (o : Option X) → is_some o ≡ true → option_map (λ _. y) o ≡ Some y
told_all y None e = cc
told_all y (Some x) e = refl

pub returns-in-Ok-clause-files : goal.returns-in-Ok-clause-files
returns-in-Ok-clause-files g c =
    let rows : List Row = picked c.args.block.now.rows c.args.order.now in
    let out = c.push_block.new.self in
    let schema = c.in-Ok.ensures.schema ∙ c.in_ok-out.ensures.schema in
    let told = c.in-Ok.ensures.told ∙ c.in_ok-out.ensures.told in
    IfOk-weaker c.finish_part.result (λ s. s.sealed.files ≡ option_map (λ _. all_synced (files_of_part out.grown.schema rows)) out.stage.files) _
    (λ s is tells.
    is ∙ ap (λ (x : Schema). option_map (λ (_ : Files). all_synced (files_of_part x rows)) out.stage.files) schema ∙ told_all (all_synced (files_of_part c.args.schema.now rows)) out.stage.files (told ∙ tells))
    (c.finish_part.ensures.files rows (c.in-Ok.ensures.rows [] c.in_ok-out.ensures.rows))

pub returns-in-Ok-clause-loaded : goal.returns-in-Ok-clause-loaded
returns-in-Ok-clause-loaded g c =
    let rows : List Row = picked c.args.block.now.rows c.args.order.now in
    let out = c.push_block.new.self in
    let schema = c.in-Ok.ensures.schema ∙ c.in_ok-out.ensures.schema in
    IfOk-weaker c.finish_part.result (λ s. s.loaded ≡ loaded_of out.grown.schema rows) _
    (λ s is. is ∙ ap (λ (x : Schema). loaded_of x rows) schema) (c.finish_part.ensures.loaded rows (c.in-Ok.ensures.rows [] c.in_ok-out.ensures.rows))
