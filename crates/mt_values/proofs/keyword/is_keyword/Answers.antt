use Rattle.mt_values.proofs.Keywords.{keyword_told}
use Rattle.mt_values.proofs.keyword.is_keyword.Goals as goal

pub returns : goal.returns
returns c = keyword_told c.eq_ignore_ascii_case.result c.args.keyword.now c.args.word.now c.eq_ignore_ascii_case.ensures.test
