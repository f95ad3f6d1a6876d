use Rattle.skip_index.specs.Files.{shape_of}
use Rattle.skip_index.proofs.OneWay.{no_index, one_index}
use Rattle.skip_index.proofs.laws.blocks_are_read_in_one_way.Goals as goal

pub returns-clause-blocks : goal.returns-clause-blocks
returns-clause-blocks c = λ schema place count bytes x y has p q. one_index (shape_of schema place count) bytes x y has.few p q

pub returns-clause-fault : goal.returns-clause-fault
returns-clause-fault c = λ schema place count bytes at x has f p. no_index (shape_of schema place count) bytes at x has.few f p
