use Rattle.std.proofs.Common.{◌≡◌, List, Option, Some, None, Result, Ok, Err, OnOk, ap, is_some, refl, subst, sym, ◌∙◌}
use Rattle.std.specs.Option.{option_map}
use Rattle.std.proofs.lemmas.Result.{IfOk-weaker, on_ok_weaker}
use Rattle.mt_outside.specs.Files.{Files}
use Rattle.mt_values.specs.declared.schema.Schema.{Schema}
use Rattle.mt_values.specs.Granules.{with_final}
use Rattle.mt_values.specs.Values.{Row}
use Rattle.part_writer.specs.declared.loaded.Loaded.{Loaded}
use Rattle.part_writer.specs.Growing.{Growing, HasRows, HasWritten}
use Rattle.part_writer.specs.PartFiles.{all_synced, files_of_part, loaded_of}
use Rattle.part_writer.proofs.part_out.PartOut.complete.Goals as goal
use Rattle.part_writer.proofs.part_out.PartOut.complete.Goals.{In_ok-end_rows}
use Rattle.part_writer.proofs.part_out.PartOut.complete.Given.{Over}

-- what does not look at a value
same_for : {X Y : Type 0} (y : Y) (o p : Option X) → is_some o ≡ is_some p → option_map (λ _. y) o ≡ option_map (λ _. y) p
same_for y None None e = refl
same_for y None (Some q) e = cc
same_for y (Some o) None e = cc
same_for y (Some o) (Some q) e = refl

always : {T E P : Type 0} (r : Result T E) → P → OnOk r P
always (Ok x) p = p
always (Err e) p = tt

-- all rows are written
wrote : (g : Over) (c : In_ok-end_rows g) (inside : Growing) (rows : List Row) → inside ≡ c.end_rows.new.self → HasRows c.args.self.now rows → HasWritten inside.stage inside.grown rows (with_final inside.grown.schema.granularity rows)
wrote g c inside rows is has =
    let same = c.in_ok-end_rows.ensures.schema in
    subst (λ (o : Growing). HasWritten o.stage o.grown rows (with_final o.grown.schema.granularity rows)) (sym is)
    (subst (λ (s : Schema). HasWritten c.end_rows.new.self.stage c.end_rows.new.self.grown rows (with_final s.granularity rows)) (sym same) (c.in_ok-end_rows.ensures.rows rows has))

pub write_rest-requires-after_bounds : goal.write_rest-requires-after_bounds
write_rest-requires-after_bounds g c κs within =
    let inside : Growing = record { stage = c.self.inside.stage; grown = c.self.inside.grown } in
    record { rows = c.requires.rows; has = wrote g (goal.at.write_rest-requires-after_bounds g c).In_ok-end_rows inside c.requires.rows c.self.view_is c.requires.has }

pub returns-clause-files : goal.returns-clause-files
returns-clause-files g c = λ rows has.
    let inside : Growing = record { stage = c.self.inside.stage; grown = c.self.inside.grown } in
    let all = wrote g (goal.at.returns-clause-files g c).In_ok-end_rows inside rows c.self.view_is has in
    let same : inside.grown.schema ≡ c.args.self.now.grown.schema = ap (λ (o : Growing). o.grown.schema) c.self.view_is ∙ c.in_ok-end_rows.ensures.schema in
    let told : is_some inside.stage.files ≡ is_some c.args.self.now.stage.files = ap (λ (o : Growing). is_some o.stage.files) c.self.view_is ∙ c.in_ok-end_rows.ensures.told in
    on_ok_weaker c.write_rest.result
    (λ e. e ∙ ap (λ (s : Schema). option_map (λ (_ : Files). all_synced (files_of_part s rows)) c.self.inside.stage.files) same
    ∙ same_for (all_synced (files_of_part c.args.self.now.grown.schema rows)) c.self.inside.stage.files c.args.self.now.stage.files told)
    (c.write_rest.ensures.files rows all)

pub returns-clause-loaded : goal.returns-clause-loaded
returns-clause-loaded g c = λ rows has.
    let inside : Growing = record { stage = c.self.inside.stage; grown = c.self.inside.grown } in
    let all = wrote g (goal.at.returns-clause-loaded g c).In_ok-end_rows inside rows c.self.view_is has in
    let same : inside.grown.schema ≡ c.args.self.now.grown.schema = ap (λ (o : Growing). o.grown.schema) c.self.view_is ∙ c.in_ok-end_rows.ensures.schema in
    IfOk-weaker c.write_rest.result (λ (l : Loaded). l ≡ loaded_of c.self.inside.grown.schema rows) (λ (l : Loaded). l ≡ loaded_of c.args.self.now.grown.schema rows)
    (λ l e. e ∙ ap (λ (s : Schema). loaded_of s rows) same) (c.write_rest.ensures.loaded rows all)

pub returns-clause-encodable : goal.returns-clause-encodable
returns-clause-encodable g c = λ rows has. always c.write_rest.result (c.in_ok-end_rows.ensures.rows rows has).keeps.fit
