use Rattle.std.proofs.Common.{◌≡◌, ◌∙◌, arith, false, length, refl, subst, sym, true}
use Rattle.std.proofs.lemmas.Option.{slice_get_read}
use Rattle.part_reader.specs.part_writer.declared.loaded.Loaded.{Loaded}
use Rattle.row_merge.specs.MergedParts.{ExplainsPart, HasShape}
use Rattle.row_merge.proofs.Checked.{all_of, one_more, others_explained}
use Rattle.row_merge.proofs.streams.check_shapes.Goals as goal

pub returns-in_default-clause-damaged : goal.returns-in_default-clause-damaged
returns-in_default-clause-damaged g c = record {
  at = c.loop-kept.kept-index;
  kept = c.kept-item.result;
  kept_is = slice_get_read c.args.parts.now (length c.args.parts.now) c.loop-kept.kept-index c.kept-item.result refl (omega arith) c.kept-item.is;
  name_is = refl;
  explained = tt;
}

pub returns-then-not-is_own-clause-damaged : goal.returns-then-not-is_own-clause-damaged
returns-then-not-is_own-clause-damaged g c = record {
  at = c.loop-kept.kept-index;
  kept = c.kept-item.result;
  kept_is = slice_get_read c.args.parts.now (length c.args.parts.now) c.loop-kept.kept-index c.kept-item.result refl (omega arith) c.kept-item.is;
  name_is = refl;
  explained = subst (ExplainsPart g.F.Dir.files c.args.schema.now c.kept-item.result.part) (sym c.other_table.ensures)
      (others_explained g.F.Dir.files c.args.schema.now c.kept-item.result.part (λ shape. clash (sym (c.in-Ok.ensures.1 (subst (λ (l : Loaded). HasShape c.args.schema.now l.schema) (sym c.deref.ensures) shape)) ∙ c.if-not-is_own.true)));
}
  where
    clash : true ≡ false → ⊥
    clash e = cc

pub loop-kept-preserved : goal.loop-kept-preserved
loop-kept-preserved g c =
    one_more (λ k. HasShape c.args.schema.now k.part.loaded.schema) c.args.parts.now c.loop-kept.kept-index c.kept-item.result (omega arith) c.kept-item.is c.loop-kept.invariant (subst (λ (l : Loaded). HasShape c.args.schema.now l.schema) c.deref.ensures (c.in-Ok.ensures.0 c.if-not-is_own.false))

pub returns-clause-own : goal.returns-clause-own
returns-clause-own g c = all_of (λ k. HasShape c.args.schema.now k.part.loaded.schema) c.args.parts.now c.loop-kept.kept-index (omega arith) c.loop-kept.invariant
