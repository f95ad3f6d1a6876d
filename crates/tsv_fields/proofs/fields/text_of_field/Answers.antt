use Rattle.std.proofs.Common.{List, Option, ℕ, sym, subst, ◌∙◌}
use Rattle.std.proofs.lemmas.Result.{err_from_is_err_and}
use Rattle.mt_values.specs.Rows.{text_of}
use Rattle.tsv_fields.specs.Fields.{IsValueRead}
use Rattle.tsv_fields.proofs.Unescaping.{plain_whole}
use Rattle.tsv_fields.proofs.fields.text_of_field.Goals as goal

-- out of memory
pub returns-in_err-unescape : goal.returns-in_err-unescape
returns-in_err-unescape c = let p = err_from_is_err_and c.from_residual.result c.from_residual.ensures.1 in rw (p.1, p.2) tt

-- it has no backslash
pub returns-then-plain_len-field : goal.returns-then-plain_len-field
returns-then-plain_len-field c =
    let whole = plain_whole c.args.field.now (sym c.plain_len.ensures.value ∙ c.if-plain_len-field.true) in
    subst (λ (said : Option (List ℕ)). IsValueRead (text_of said) c.text_within.result) (sym whole) c.text_within.ensures
