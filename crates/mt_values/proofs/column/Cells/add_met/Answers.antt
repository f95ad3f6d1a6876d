use Rattle.std.proofs.Common.{refl, ap, length, sym, rules, ◌∙◌}
use Rattle.std.specs.Cmp.Lexicographic.{slice_cmp}
use Rattle.std.specs.Int.{w8, w16, w32, w64}
use Rattle.std.specs.Ordering.{int_cmp, nat_cmp}
use Rattle.std.proofs.lemmas.Int.{to_z-of_z}
use Rattle.mt_values.specs.declared.value.Value.TheVariants as value
use Rattle.mt_values.specs.Columns.{cells_of}
use Rattle.mt_values.specs.Lists.{run_of}
use Rattle.mt_values.proofs.Masks.{added_values}
use Rattle.mt_values.proofs.column.Cells.add_met.Goals as goal

pub returns-in-UInt8-UInt8 : goal.returns-in-UInt8-UInt8
returns-in-UInt8-UInt8 c = added_values value.UInt8 _ nat_cmp (λ x y. refl) c.args.comparison c.in-UInt8-UInt8.n c.args.from (length c.args.mask.now) c.in-UInt8-UInt8.v.items c.run_of.result.now _ c.args.literal.now c.args.mask.now c.add_numbers.new.mask (c.run_of.ensures.run ∙ ap (run_of c.args.from (length c.args.mask.now)) c.deref.ensures.value) (ap cells_of c.in-UInt8-UInt8.is-0) c.in-UInt8-UInt8.is-1 c.add_numbers.ensures

pub returns-in-UInt16-UInt16 : goal.returns-in-UInt16-UInt16
returns-in-UInt16-UInt16 c = added_values value.UInt16 _ nat_cmp (λ x y. refl) c.args.comparison c.in-UInt16-UInt16.n c.args.from (length c.args.mask.now) c.in-UInt16-UInt16.v.items c.run_of-in-UInt16-UInt16.result.now _ c.args.literal.now c.args.mask.now c.add_numbers-in-UInt16-UInt16.new.mask (c.run_of-in-UInt16-UInt16.ensures.run ∙ ap (run_of c.args.from (length c.args.mask.now)) c.deref-in-UInt16-UInt16.ensures.value) (ap cells_of c.in-UInt16-UInt16.is-0) c.in-UInt16-UInt16.is-1 c.add_numbers-in-UInt16-UInt16.ensures

pub returns-in-UInt32-UInt32 : goal.returns-in-UInt32-UInt32
returns-in-UInt32-UInt32 c = added_values value.UInt32 _ nat_cmp (λ x y. refl) c.args.comparison c.in-UInt32-UInt32.n c.args.from (length c.args.mask.now) c.in-UInt32-UInt32.v.items c.run_of-in-UInt32-UInt32.result.now _ c.args.literal.now c.args.mask.now c.add_numbers-in-UInt32-UInt32.new.mask (c.run_of-in-UInt32-UInt32.ensures.run ∙ ap (run_of c.args.from (length c.args.mask.now)) c.deref-in-UInt32-UInt32.ensures.value) (ap cells_of c.in-UInt32-UInt32.is-0) c.in-UInt32-UInt32.is-1 c.add_numbers-in-UInt32-UInt32.ensures

pub returns-in-UInt64-UInt64 : goal.returns-in-UInt64-UInt64
returns-in-UInt64-UInt64 c = added_values value.UInt64 _ nat_cmp (λ x y. refl) c.args.comparison c.in-UInt64-UInt64.n c.args.from (length c.args.mask.now) c.in-UInt64-UInt64.v.items c.run_of-in-UInt64-UInt64.result.now _ c.args.literal.now c.args.mask.now c.add_numbers-in-UInt64-UInt64.new.mask (c.run_of-in-UInt64-UInt64.ensures.run ∙ ap (run_of c.args.from (length c.args.mask.now)) c.deref-in-UInt64-UInt64.ensures.value) (ap cells_of c.in-UInt64-UInt64.is-0) c.in-UInt64-UInt64.is-1 c.add_numbers-in-UInt64-UInt64.ensures

pub returns-in-Int8-Int8 : goal.returns-in-Int8-Int8
returns-in-Int8-Int8 c = added_values value.Int8 _ int_cmp (λ x y. refl) c.args.comparison _ c.args.from (length c.args.mask.now) c.in-Int8-Int8.v.items c.run_of-in-Int8-Int8.result.now _ c.args.literal.now c.args.mask.now c.add_numbers-in-Int8-Int8.new.mask (c.run_of-in-Int8-Int8.ensures.run ∙ ap (run_of c.args.from (length c.args.mask.now)) c.deref-in-Int8-Int8.ensures.value) (ap cells_of c.in-Int8-Int8.is-0) (c.in-Int8-Int8.is-1 ∙ ap value.Int8 (sym (to_z-of_z w8 c.in-Int8-Int8.n (search (rules, c.well_formed))))) c.add_numbers-in-Int8-Int8.ensures

pub returns-in-Int16-Int16 : goal.returns-in-Int16-Int16
returns-in-Int16-Int16 c = added_values value.Int16 _ int_cmp (λ x y. refl) c.args.comparison _ c.args.from (length c.args.mask.now) c.in-Int16-Int16.v.items c.run_of-in-Int16-Int16.result.now _ c.args.literal.now c.args.mask.now c.add_numbers-in-Int16-Int16.new.mask (c.run_of-in-Int16-Int16.ensures.run ∙ ap (run_of c.args.from (length c.args.mask.now)) c.deref-in-Int16-Int16.ensures.value) (ap cells_of c.in-Int16-Int16.is-0) (c.in-Int16-Int16.is-1 ∙ ap value.Int16 (sym (to_z-of_z w16 c.in-Int16-Int16.n (search (rules, c.well_formed))))) c.add_numbers-in-Int16-Int16.ensures

pub returns-in-Int32-Int32 : goal.returns-in-Int32-Int32
returns-in-Int32-Int32 c = added_values value.Int32 _ int_cmp (λ x y. refl) c.args.comparison _ c.args.from (length c.args.mask.now) c.in-Int32-Int32.v.items c.run_of-in-Int32-Int32.result.now _ c.args.literal.now c.args.mask.now c.add_numbers-in-Int32-Int32.new.mask (c.run_of-in-Int32-Int32.ensures.run ∙ ap (run_of c.args.from (length c.args.mask.now)) c.deref-in-Int32-Int32.ensures.value) (ap cells_of c.in-Int32-Int32.is-0) (c.in-Int32-Int32.is-1 ∙ ap value.Int32 (sym (to_z-of_z w32 c.in-Int32-Int32.n (search (rules, c.well_formed))))) c.add_numbers-in-Int32-Int32.ensures

pub returns-in-Int64-Int64 : goal.returns-in-Int64-Int64
returns-in-Int64-Int64 c = added_values value.Int64 _ int_cmp (λ x y. refl) c.args.comparison _ c.args.from (length c.args.mask.now) c.in-Int64-Int64.v.items c.run_of-in-Int64-Int64.result.now _ c.args.literal.now c.args.mask.now c.add_numbers-in-Int64-Int64.new.mask (c.run_of-in-Int64-Int64.ensures.run ∙ ap (run_of c.args.from (length c.args.mask.now)) c.deref-in-Int64-Int64.ensures.value) (ap cells_of c.in-Int64-Int64.is-0) (c.in-Int64-Int64.is-1 ∙ ap value.Int64 (sym (to_z-of_z w64 c.in-Int64-Int64.n (search (rules, c.well_formed))))) c.add_numbers-in-Int64-Int64.ensures

pub returns-in-Text-Text : goal.returns-in-Text-Text
returns-in-Text-Text c = added_values value.Text _ (slice_cmp nat_cmp) (λ x y. refl) c.args.comparison c.as_slice.result.now c.args.from (length c.args.mask.now) c.in-Text-Text.v (run_of c.args.from (length c.args.mask.now) c.in-Text-Text.v) _ c.args.literal.now c.args.mask.now c.add_texts.new.mask refl (ap cells_of c.in-Text-Text.is-0) (c.in-Text-Text.is-1 ∙ ap value.Text (sym c.as_slice.ensures)) c.add_texts.ensures
