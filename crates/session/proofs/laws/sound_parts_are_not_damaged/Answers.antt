use Rattle.session.proofs.Undamaged.{pinned_sound, tells_not}
use Rattle.session.proofs.laws.sound_parts_are_not_damaged.Goals as goal

pub returns-clause-pinned : goal.returns-clause-pinned
returns-clause-pinned g c = λ files_of snap text reply held tells. pinned_sound files_of snap text reply held tells

pub returns-clause-told : goal.returns-clause-told
returns-clause-told g c = λ files_of list statement reply told held tells. tells_not files_of g.B.Names.given g.B.Room.before g.B.Names.opening g.B.Names.ledgers.parts list statement reply told held tells
