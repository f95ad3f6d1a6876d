use Rattle.std.proofs.Common.{◌≡◌, IfErr, IfSome, OnOk, length, subst, sym}
use Rattle.std.specs.Option.{option_copied}
use Rattle.part_damage.specs.column_file.Faults.{Explains}
use Rattle.part_reader.specs.Granules.{Gains}
use Rattle.part_reader.proofs.runs.decode.Goals as goal

pub returns-in-None-clause-read : goal.returns-in-None-clause-read
returns-in-None-clause-read c = subst (λ m. OnOk c.decode_onto.result (Gains (option_copied m) c.args.count c.args.bytes.now c.args.column.now c.decode_onto.new.column)) (sym c.in-None.is) c.decode_onto.ensures.read

pub returns-in-Some-clause-read : goal.returns-in-Some-clause-read
returns-in-Some-clause-read c = subst (λ m. OnOk c.decode_where.result (Gains (option_copied m) c.args.count c.args.bytes.now c.args.column.now c.decode_where.new.column)) (sym c.in-Some.is) c.decode_where.ensures.read

-- the mask has a place for each of the rows
pub returns-in-Some-clause-fault : goal.returns-in-Some-clause-fault
returns-in-Some-clause-fault c =
    let even : length c.in-Some.mask.now ≡ c.args.count = subst (λ m. IfSome m (λ x. length x.now ≡ c.args.count)) c.in-Some.is c.requires in
    subst (λ n. IfErr c.decode_where.result (Explains c.args.column.now.col_type n c.args.bytes.now)) even c.decode_where.ensures.fault
