use Rattle.std.proofs.Common.{◌∙◌, IsTrue, ap, subst, sym}
use Rattle.std.proofs.lemmas.List.{with_items_is}
use Rattle.disk_real.specs.Stages.{files_of, has}
use Rattle.disk_real.proofs.Opened.{files_held, files_in, has_held, has_in, held}
use Rattle.disk_real.proofs.handles.Handles.append.Goals as goal

pub append_among-requires : goal.append_among-requires
append_among-requires c =
    let items = c.self.inside.open.items in
    subst (λ os. IsTrue (has_in c.args.file os)) (sym c.deref_mut.ensures.value)
    (subst IsTrue (has_held c.args.file items) (subst (λ hs. IsTrue (has c.args.file hs)) (sym c.self.view_is) c.requires))

pub returns : goal.returns
returns c =
    let items = with_items_is c.self.inside.open c.append_among.new.files (c.append_among.auto.files ∙ c.deref_mut.ensures.len) in
    ap (λ files. files_of (held files)) items ∙ files_held c.append_among.new.files ∙ c.append_among.ensures ∙ ap files_in c.deref_mut.ensures.value
    ∙ sym (files_held c.self.inside.open.items) ∙ ap files_of c.self.view_is
