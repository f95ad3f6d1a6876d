use Rattle.std.proofs.Common.{◌∙◌, ap, sym, subst, OnOk}
use Rattle.std.proofs.lemmas.List.{with_items_is}
use Rattle.disk_real.specs.Stages.{AreWritten, files_of}
use Rattle.disk_real.proofs.Opened.{files_held, files_in, held, written_held}
use Rattle.disk_real.proofs.handles.Handles.write_out.Goals as goal

pub returns-clause-same : goal.returns-clause-same
returns-clause-same c =
    let items = with_items_is c.self.inside.open c.write_each.new.files (c.write_each.auto.files ∙ c.deref_mut.ensures.len) in
    ap (λ files. files_of (held files)) items ∙ files_held c.write_each.new.files ∙ c.write_each.ensures.same ∙ ap files_in c.deref_mut.ensures.value
    ∙ sym (files_held c.self.inside.open.items) ∙ ap files_of c.self.view_is

pub returns-clause-written : goal.returns-clause-written
returns-clause-written c =
    let items = with_items_is c.self.inside.open c.write_each.new.files (c.write_each.auto.files ∙ c.deref_mut.ensures.len) in
    subst (λ files. OnOk c.write_each.result (AreWritten (held files))) (sym items) (written_held c.write_each.result c.write_each.new.files c.write_each.ensures.written)
