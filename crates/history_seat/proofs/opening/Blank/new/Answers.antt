use Rattle.history_seat.proofs.Ruled.{may_start}
use Rattle.history_seat.proofs.opening.Blank.new.Goals as goal

pub of_words-requires : goal.of_words-requires
of_words-requires c = may_start c.args.base
