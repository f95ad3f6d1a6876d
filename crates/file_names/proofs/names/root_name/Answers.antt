use Rattle.std.proofs.Common.{◌∙◌, sym}
use Rattle.file_names.proofs.Texts.{names_are_texts}
use Rattle.file_names.proofs.names.root_name.Goals as goal

pub unreachable-requires : goal.unreachable-requires
unreachable-requires c = c.in-Err.ensures.cases.0 (names_are_texts _ (sym c.is_root_name.ensures ∙ c.if-not-is_root_name.false))
