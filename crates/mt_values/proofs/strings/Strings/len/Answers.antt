use Rattle.std.proofs.Common.{length, sym, ap, ◌∙◌}
use Rattle.mt_values.proofs.Texts.{length-texts_from}
use Rattle.mt_values.proofs.strings.Strings.len.Goals as goal

pub returns : goal.returns
returns c =
    let n = length-texts_from 0 c.self.inside.ends.items c.self.inside.bytes.items in
    c.len.ensures ∙ c.self.inside.ends.ok.0 ∙ sym n ∙ ap length c.self.view_is
