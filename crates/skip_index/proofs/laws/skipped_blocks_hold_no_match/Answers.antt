use Rattle.std.proofs.Common.{inr, refl}
use Rattle.skip_index.proofs.Skipped.{answer_count, skipped_empty}
use Rattle.skip_index.proofs.laws.skipped_blocks_hold_no_match.Goals as goal

pub returns-clause-each : goal.returns-clause-each
returns-clause-each c = λ schema place asked unknown rows has typed named granule skipped. skipped_empty schema place asked unknown rows rows has typed typed refl (inr refl) named granule skipped

pub returns-clause-seen : goal.returns-clause-seen
returns-clause-seen c = skipped_empty

pub returns-clause-count : goal.returns-clause-count
returns-clause-count c = answer_count
