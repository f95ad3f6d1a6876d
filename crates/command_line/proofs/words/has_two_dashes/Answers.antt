use Rattle.std.proofs.Common.{◌≡◌, ◌∙◌, ap₂, sym, subst, IsUtf8, bytes_eq, string_bytes}
use Rattle.std.specs.List.{All}
use Rattle.std.proofs.lemmas.List.{take_all}
use Rattle.std.proofs.lemmas.List.Elements.{All-more}
use Rattle.command_line.specs.Words.{IsOtherText, is_two_dashes}
use Rattle.command_line.proofs.words.has_two_dashes.Goals as goal

pub returns-then-eq : goal.returns-then-eq
returns-then-eq c =
    let text = c.as_bytes.ensures.value ∙ c.as_str.ensures.value in
    let same : bytes_eq c.as_bytes.result.now c.as_slice.result.now ≡ is_two_dashes (string_bytes c.word-item.result) = ap₂ bytes_eq text c.as_slice.ensures in
    (c.loop-word.word-index, c.word-item.result, c.loop-word-test.true, sym c.word-item.is, sym same ∙ (sym c.eq.ensures ∙ c.if-eq.true))

pub loop-word-preserved : goal.loop-word-preserved
loop-word-preserved c =
    let text = c.as_bytes.ensures.value ∙ c.as_str.ensures.value in
    let same : bytes_eq c.as_bytes.result.now c.as_slice.result.now ≡ is_two_dashes (string_bytes c.word-item.result) = ap₂ bytes_eq text c.as_slice.ensures in
    let other : IsOtherText c.word-item.result = (subst IsUtf8 text c.as_bytes.ensures.utf8, sym same ∙ (sym c.eq.ensures ∙ c.if-eq.false)) in
    All-more IsOtherText c.args.words.now c.loop-word.word-index c.word-item.result c.loop-word-test.true c.loop-word.invariant (subst IsOtherText c.word-item.is other)

pub returns : goal.returns
returns c = subst (All IsOtherText) (take_all c.loop-word.word-index c.args.words.now c.loop-word-test.false) c.loop-word.invariant
