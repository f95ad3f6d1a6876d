use Rattle.std.proofs.Common.{◌∙◌, ap, sym}
use Rattle.std.specs.Ordering.{is_ne}
use Rattle.row_merge.proofs.fates.fate_of.Goals as goal

pub returns-then-stays_alone : goal.returns-then-stays_alone
returns-then-stays_alone g c = record {
  first = cc;
  other = sym (ap is_ne c.cmp_rows_of.ensures) ∙ sym c.is_ne.ensures ∙ c.if-is_ne.true;
  stays = c.stays_alone.ensures c.if-stays_alone.true;
}

pub returns-then-gives_way : goal.returns-then-gives_way
returns-then-gives_way g c = record {
  first = cc;
  same = sym (ap is_ne c.cmp_rows_of.ensures) ∙ sym c.is_ne.ensures ∙ c.if-is_ne.false;
  leaves = c.gives_way.ensures c.if-gives_way.true;
}
