use Rattle.std.proofs.Common.{◌∙◌, sym, true, Ok, None}
use Rattle.mt_values.specs.Grammar.{is_granularity, is_partition_by, is_primary_key, order_by, partition_by, primary_key, settings}
use Rattle.sql_read.proofs.NextClauses.{past_settings, reads_order, reads_partition, reads_primary, reads_settings}
use Rattle.sql_read.proofs.cursor.Cursor.next_clause.Goals as goal

pub returns-then-begins : goal.returns-then-begins
returns-then-begins c =
    let here = sym (c.begins.ensures is_partition_by c.args.seen.now c.has_partition_by.ensures) ∙ c.if-begins.true in
    reads_partition c.args.seen.now c.args.self.now c.found.result c.partition_by.new.self here
    (c.found.ensures partition_by c.args.self.now c.partition_by.new.self c.partition_by.ensures)

pub returns-then-begins-2 : goal.returns-then-begins-2
returns-then-begins-2 c =
    let no_partition = sym (c.begins.ensures is_partition_by c.args.seen.now c.has_partition_by.ensures) ∙ c.if-begins.false in
    let here = sym (c.begins-2.ensures is_primary_key c.args.seen.now c.has_primary_key.ensures) ∙ c.if-begins-2.true in
    reads_primary c.args.seen.now c.args.self.now c.found-then-begins-2.result c.primary_key.new.self no_partition here
    (c.found-then-begins-2.ensures primary_key c.args.self.now c.primary_key.new.self c.primary_key.ensures)

pub returns-then-begins-3 : goal.returns-then-begins-3
returns-then-begins-3 c =
    let no_partition = sym (c.begins.ensures is_partition_by c.args.seen.now c.has_partition_by.ensures) ∙ c.if-begins.false in
    let no_primary = sym (c.begins-2.ensures is_primary_key c.args.seen.now c.has_primary_key.ensures) ∙ c.if-begins-2.false in
    let here = sym (c.begins-3.ensures is_granularity c.args.seen.now c.has_granularity.ensures) ∙ c.if-begins-3.true in
    reads_settings c.args.seen.now c.args.self.now c.found-then-begins-3.result c.settings.new.self no_partition no_primary here
    (c.found-then-begins-3.ensures settings c.args.self.now c.settings.new.self c.settings.ensures)

pub returns-then-has_order_by : goal.returns-then-has_order_by
returns-then-has_order_by c =
    let no_partition = sym (c.begins.ensures is_partition_by c.args.seen.now c.has_partition_by.ensures) ∙ c.if-begins.false in
    let no_primary = sym (c.begins-2.ensures is_primary_key c.args.seen.now c.has_primary_key.ensures) ∙ c.if-begins-2.false in
    let no_settings = sym (c.begins-3.ensures is_granularity c.args.seen.now c.has_granularity.ensures) ∙ c.if-begins-3.false in
    past_settings c.args.seen.now c.args.self.now (Ok None) c.args.self.now no_partition no_primary no_settings true (sym c.has_order_by.ensures ∙ c.if-has_order_by.true)

pub returns : goal.returns
returns c =
    let no_partition = sym (c.begins.ensures is_partition_by c.args.seen.now c.has_partition_by.ensures) ∙ c.if-begins.false in
    let no_primary = sym (c.begins-2.ensures is_primary_key c.args.seen.now c.has_primary_key.ensures) ∙ c.if-begins-2.false in
    let no_settings = sym (c.begins-3.ensures is_granularity c.args.seen.now c.has_granularity.ensures) ∙ c.if-begins-3.false in
    reads_order c.args.seen.now c.args.self.now c.found-2.result c.order_by.new.self no_partition no_primary no_settings (sym c.has_order_by.ensures ∙ c.if-has_order_by.false)
    (c.found-2.ensures order_by c.args.self.now c.order_by.new.self c.order_by.ensures)
