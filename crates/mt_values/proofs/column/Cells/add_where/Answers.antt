use Rattle.std.proofs.Common.{refl, ap}
use Rattle.mt_values.specs.declared.value.Value.TheVariants as value
use Rattle.mt_values.specs.Columns.{cells_of}
use Rattle.mt_values.proofs.Wheres.{added_where}
use Rattle.mt_values.proofs.column.Cells.add_where.Goals as goal

pub returns-in-UInt8-from : goal.returns-in-UInt8-from
returns-in-UInt8-from c = added_where value.UInt8 _ c.in-UInt8.v.items c.add_numbers_where.new.numbers.items c.in-UInt8-from.w.items c.deref.result.now c.args.mask.now _ _ c.add_numbers_where.result (ap cells_of c.in-UInt8.is) (ap cells_of c.in-UInt8-from.is) c.deref.ensures.value c.add_numbers_where.ensures

pub returns-in-UInt16-from : goal.returns-in-UInt16-from
returns-in-UInt16-from c = added_where value.UInt16 _ c.in-UInt16.v.items c.add_numbers_where-in-UInt16-from.new.numbers.items c.in-UInt16-from.w.items c.deref-in-UInt16-from.result.now c.args.mask.now _ _ c.add_numbers_where-in-UInt16-from.result (ap cells_of c.in-UInt16.is) (ap cells_of c.in-UInt16-from.is) c.deref-in-UInt16-from.ensures.value c.add_numbers_where-in-UInt16-from.ensures

pub returns-in-UInt32-from : goal.returns-in-UInt32-from
returns-in-UInt32-from c = added_where value.UInt32 _ c.in-UInt32.v.items c.add_numbers_where-in-UInt32-from.new.numbers.items c.in-UInt32-from.w.items c.deref-in-UInt32-from.result.now c.args.mask.now _ _ c.add_numbers_where-in-UInt32-from.result (ap cells_of c.in-UInt32.is) (ap cells_of c.in-UInt32-from.is) c.deref-in-UInt32-from.ensures.value c.add_numbers_where-in-UInt32-from.ensures

pub returns-in-UInt64-from : goal.returns-in-UInt64-from
returns-in-UInt64-from c = added_where value.UInt64 _ c.in-UInt64.v.items c.add_numbers_where-in-UInt64-from.new.numbers.items c.in-UInt64-from.w.items c.deref-in-UInt64-from.result.now c.args.mask.now _ _ c.add_numbers_where-in-UInt64-from.result (ap cells_of c.in-UInt64.is) (ap cells_of c.in-UInt64-from.is) c.deref-in-UInt64-from.ensures.value c.add_numbers_where-in-UInt64-from.ensures

pub returns-in-Int8-from : goal.returns-in-Int8-from
returns-in-Int8-from c = added_where value.Int8 _ c.in-Int8.v.items c.add_numbers_where-in-Int8-from.new.numbers.items c.in-Int8-from.w.items c.deref-in-Int8-from.result.now c.args.mask.now _ _ c.add_numbers_where-in-Int8-from.result (ap cells_of c.in-Int8.is) (ap cells_of c.in-Int8-from.is) c.deref-in-Int8-from.ensures.value c.add_numbers_where-in-Int8-from.ensures

pub returns-in-Int16-from : goal.returns-in-Int16-from
returns-in-Int16-from c = added_where value.Int16 _ c.in-Int16.v.items c.add_numbers_where-in-Int16-from.new.numbers.items c.in-Int16-from.w.items c.deref-in-Int16-from.result.now c.args.mask.now _ _ c.add_numbers_where-in-Int16-from.result (ap cells_of c.in-Int16.is) (ap cells_of c.in-Int16-from.is) c.deref-in-Int16-from.ensures.value c.add_numbers_where-in-Int16-from.ensures

pub returns-in-Int32-from : goal.returns-in-Int32-from
returns-in-Int32-from c = added_where value.Int32 _ c.in-Int32.v.items c.add_numbers_where-in-Int32-from.new.numbers.items c.in-Int32-from.w.items c.deref-in-Int32-from.result.now c.args.mask.now _ _ c.add_numbers_where-in-Int32-from.result (ap cells_of c.in-Int32.is) (ap cells_of c.in-Int32-from.is) c.deref-in-Int32-from.ensures.value c.add_numbers_where-in-Int32-from.ensures

pub returns-in-Int64-from : goal.returns-in-Int64-from
returns-in-Int64-from c = added_where value.Int64 _ c.in-Int64.v.items c.add_numbers_where-in-Int64-from.new.numbers.items c.in-Int64-from.w.items c.deref-in-Int64-from.result.now c.args.mask.now _ _ c.add_numbers_where-in-Int64-from.result (ap cells_of c.in-Int64.is) (ap cells_of c.in-Int64-from.is) c.deref-in-Int64-from.ensures.value c.add_numbers_where-in-Int64-from.ensures

pub returns-in-Text-from : goal.returns-in-Text-from
returns-in-Text-from c = added_where value.Text _ c.in-Text.v c.add_texts_where.new.texts c.in-Text-from.w c.in-Text-from.w c.args.mask.now _ _ c.add_texts_where.result (ap cells_of c.in-Text.is) (ap cells_of c.in-Text-from.is) refl c.add_texts_where.ensures
