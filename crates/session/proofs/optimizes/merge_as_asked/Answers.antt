use Rattle.std.proofs.Common.{◌≡◌, ◌∙◌, ℕ, List, Some, sym, ap, subst}
use Rattle.session.specs.Answers.{IsFinalAt, IsOf, IsThat}
use Rattle.session.proofs.Merges.{merges_none}
use Rattle.session.proofs.Optimizing.{all_final, asked_final, asked_none, asked_pair, named_all, named_final, named_one, none_named, one_named}
use Rattle.session.proofs.optimizes.merge_as_asked.Goals as goal

-- all partitions of the table
pub returns-in-None-clause-merges : goal.returns-in-None-clause-merges
returns-in-None-clause-merges g c =
    let text = c.args.text.now in
    let m = c.merge_partitions in
    asked_final g.F.Dir.files g.B.Names.given g.B.Room.before g.B.Names.opening g.B.Names.ledgers.parts c.args.share.now m.new.share (g.R.Arm.failed c.args.arm.now) (g.R.Arm.failed m.new.arm) text c.if-text.true (IsOf text.table) (named_all text c.in-None.is) _
    (all_final g.F.Dir.files g.B.Names.given g.B.Room.before g.B.Names.opening g.B.Names.ledgers.parts text c.if-text.true c.in-None.is c.args.partitions.now c.requires.listed) m.result m.ensures.merges

-- a pair of the table
pub merge_pair-requires-clause-scope : goal.merge_pair-requires-clause-scope
merge_pair-requires-clause-scope g c κs within = λ t p is. is

pub returns-in-None-2-clause-merges : goal.returns-in-None-2-clause-merges
returns-in-None-2-clause-merges g c =
    let text = c.args.text.now in
    let m = c.merge_pair in
    asked_pair g.F.Dir.files g.B.Names.given g.B.Room.before g.B.Names.opening g.B.Names.ledgers.parts c.args.share.now m.new.share (g.R.Arm.failed c.args.arm.now) (g.R.Arm.failed m.new.arm) text c.if-text.false _ (named_all text c.in-None-2.is) (λ t p is. is.0) m.result m.ensures.merges

-- no partition is spelled so
pub returns-in-None-parse_partition-clause-merges : goal.returns-in-None-parse_partition-clause-merges
returns-in-None-parse_partition-clause-merges g c =
    let text = c.args.text.now in
    let id = c.as_slice-id.result.now in
    let there : text.partition ≡ Some id = c.in-Some.is ∙ ap (λ (x : List ℕ). Some x) (sym c.as_slice-id.ensures) in
    merges_none g.B.Names.given g.B.Names.opening g.B.Names.ledgers.parts c.args.share.now (g.R.Arm.failed c.args.arm.now) text.whole _ _ _ (asked_none g.F.Dir.files g.B.Names.given g.B.Room.before g.B.Names.opening g.B.Names.ledgers.parts text id there (none_named text id there c.parse_partition.result c.parse_partition.ensures.read c.in-None-parse_partition.is))

-- all parts of one partition
pub returns-in-Some-parse_partition-clause-merges : goal.returns-in-Some-parse_partition-clause-merges
returns-in-Some-parse_partition-clause-merges g c =
    let text = c.args.text.now in
    let id = c.as_slice-id.result.now in
    let there : text.partition ≡ Some id = c.in-Some.is ∙ ap (λ (x : List ℕ). Some x) (sym c.as_slice-id.ensures) in
    let p = c.in-Some-parse_partition.partition in
    let m = c.merge_partition in
    asked_final g.F.Dir.files g.B.Names.given g.B.Room.before g.B.Names.opening g.B.Names.ledgers.parts c.args.share.now m.new.share (g.R.Arm.failed c.args.arm.now) (g.R.Arm.failed m.new.arm) text c.if-text-2.true (IsThat text.table p) (λ t q is. named_one text id there p c.in-Some-parse_partition.ensures.spelled t q is.0 is.1) _
    (λ done. named_final g.F.Dir.files g.B.Names.given g.B.Room.before g.B.Names.opening g.B.Names.ledgers.parts text c.if-text-2.true id there (λ q named.
    subst (IsFinalAt g.F.Dir.files g.B.Names.given g.B.Room.before g.B.Names.opening g.B.Names.ledgers.parts text.table) (sym (one_named text id there c.parse_partition.result c.parse_partition.ensures.read p c.in-Some-parse_partition.is text.table q named)) done)) m.result m.ensures.merges

-- a pair of it
pub merge_pair-requires-in-Some-2-clause-scope : goal.merge_pair-requires-in-Some-2-clause-scope
merge_pair-requires-in-Some-2-clause-scope g c κs within = λ t p is. is.0

pub returns-in-Some-2-clause-merges : goal.returns-in-Some-2-clause-merges
returns-in-Some-2-clause-merges g c =
    let text = c.args.text.now in
    let id = c.as_slice-id.result.now in
    let there : text.partition ≡ Some id = c.in-Some.is ∙ ap (λ (x : List ℕ). Some x) (sym c.as_slice-id.ensures) in
    let p = c.in-Some-parse_partition.partition in
    let m = c.merge_pair-in-Some-2 in
    asked_pair g.F.Dir.files g.B.Names.given g.B.Room.before g.B.Names.opening g.B.Names.ledgers.parts c.args.share.now m.new.share (g.R.Arm.failed c.args.arm.now) (g.R.Arm.failed m.new.arm) text c.if-text-2.false _ (λ t q is. named_one text id there p c.in-Some-parse_partition.ensures.spelled t q is.0 is.1)
    (λ t q named. (named.0, one_named text id there c.parse_partition.result c.parse_partition.ensures.read p c.in-Some-parse_partition.is t q named)) m.result m.ensures.merges
