use Rattle.std.proofs.Common.{refl, ap}
use Rattle.mt_values.specs.declared.value.Value.TheVariants as value
use Rattle.mt_values.specs.Columns.{cells_of}
use Rattle.mt_values.proofs.Columns.{all_within_items, picked_values}
use Rattle.mt_values.proofs.column.Cells.pick.Goals as goal

pub picked_numbers-requires : goal.picked_numbers-requires
picked_numbers-requires c = all_within_items value.UInt8 _ c.in-UInt8.v.items c.deref.result.now _ c.args.order.now c.deref.ensures.value (ap cells_of c.in-UInt8.is) c.requires

pub returns-in_ok-picked_numbers-in-UInt8 : goal.returns-in_ok-picked_numbers-in-UInt8
returns-in_ok-picked_numbers-in-UInt8 c = picked_values value.UInt8 _ c.in-UInt8.v.items c.deref.result.now _ _ c.args.order.now c.deref.ensures.value (ap cells_of c.in-UInt8.is) c.in_ok-picked_numbers-in-UInt8.ensures

pub picked_numbers-requires-in-UInt16 : goal.picked_numbers-requires-in-UInt16
picked_numbers-requires-in-UInt16 c = all_within_items value.UInt16 _ c.in-UInt16.v.items c.deref-in-UInt16.result.now _ c.args.order.now c.deref-in-UInt16.ensures.value (ap cells_of c.in-UInt16.is) c.requires

pub returns-in_ok-picked_numbers-in-UInt16 : goal.returns-in_ok-picked_numbers-in-UInt16
returns-in_ok-picked_numbers-in-UInt16 c = picked_values value.UInt16 _ c.in-UInt16.v.items c.deref-in-UInt16.result.now _ _ c.args.order.now c.deref-in-UInt16.ensures.value (ap cells_of c.in-UInt16.is) c.in_ok-picked_numbers-in-UInt16.ensures

pub picked_numbers-requires-in-UInt32 : goal.picked_numbers-requires-in-UInt32
picked_numbers-requires-in-UInt32 c = all_within_items value.UInt32 _ c.in-UInt32.v.items c.deref-in-UInt32.result.now _ c.args.order.now c.deref-in-UInt32.ensures.value (ap cells_of c.in-UInt32.is) c.requires

pub returns-in_ok-picked_numbers-in-UInt32 : goal.returns-in_ok-picked_numbers-in-UInt32
returns-in_ok-picked_numbers-in-UInt32 c = picked_values value.UInt32 _ c.in-UInt32.v.items c.deref-in-UInt32.result.now _ _ c.args.order.now c.deref-in-UInt32.ensures.value (ap cells_of c.in-UInt32.is) c.in_ok-picked_numbers-in-UInt32.ensures

pub picked_numbers-requires-in-UInt64 : goal.picked_numbers-requires-in-UInt64
picked_numbers-requires-in-UInt64 c = all_within_items value.UInt64 _ c.in-UInt64.v.items c.deref-in-UInt64.result.now _ c.args.order.now c.deref-in-UInt64.ensures.value (ap cells_of c.in-UInt64.is) c.requires

pub returns-in_ok-picked_numbers-in-UInt64 : goal.returns-in_ok-picked_numbers-in-UInt64
returns-in_ok-picked_numbers-in-UInt64 c = picked_values value.UInt64 _ c.in-UInt64.v.items c.deref-in-UInt64.result.now _ _ c.args.order.now c.deref-in-UInt64.ensures.value (ap cells_of c.in-UInt64.is) c.in_ok-picked_numbers-in-UInt64.ensures

pub picked_numbers-requires-in-Int8 : goal.picked_numbers-requires-in-Int8
picked_numbers-requires-in-Int8 c = all_within_items value.Int8 _ c.in-Int8.v.items c.deref-in-Int8.result.now _ c.args.order.now c.deref-in-Int8.ensures.value (ap cells_of c.in-Int8.is) c.requires

pub returns-in_ok-picked_numbers-in-Int8 : goal.returns-in_ok-picked_numbers-in-Int8
returns-in_ok-picked_numbers-in-Int8 c = picked_values value.Int8 _ c.in-Int8.v.items c.deref-in-Int8.result.now _ _ c.args.order.now c.deref-in-Int8.ensures.value (ap cells_of c.in-Int8.is) c.in_ok-picked_numbers-in-Int8.ensures

pub picked_numbers-requires-in-Int16 : goal.picked_numbers-requires-in-Int16
picked_numbers-requires-in-Int16 c = all_within_items value.Int16 _ c.in-Int16.v.items c.deref-in-Int16.result.now _ c.args.order.now c.deref-in-Int16.ensures.value (ap cells_of c.in-Int16.is) c.requires

pub returns-in_ok-picked_numbers-in-Int16 : goal.returns-in_ok-picked_numbers-in-Int16
returns-in_ok-picked_numbers-in-Int16 c = picked_values value.Int16 _ c.in-Int16.v.items c.deref-in-Int16.result.now _ _ c.args.order.now c.deref-in-Int16.ensures.value (ap cells_of c.in-Int16.is) c.in_ok-picked_numbers-in-Int16.ensures

pub picked_numbers-requires-in-Int32 : goal.picked_numbers-requires-in-Int32
picked_numbers-requires-in-Int32 c = all_within_items value.Int32 _ c.in-Int32.v.items c.deref-in-Int32.result.now _ c.args.order.now c.deref-in-Int32.ensures.value (ap cells_of c.in-Int32.is) c.requires

pub returns-in_ok-picked_numbers-in-Int32 : goal.returns-in_ok-picked_numbers-in-Int32
returns-in_ok-picked_numbers-in-Int32 c = picked_values value.Int32 _ c.in-Int32.v.items c.deref-in-Int32.result.now _ _ c.args.order.now c.deref-in-Int32.ensures.value (ap cells_of c.in-Int32.is) c.in_ok-picked_numbers-in-Int32.ensures

pub picked_numbers-requires-in-Int64 : goal.picked_numbers-requires-in-Int64
picked_numbers-requires-in-Int64 c = all_within_items value.Int64 _ c.in-Int64.v.items c.deref-in-Int64.result.now _ c.args.order.now c.deref-in-Int64.ensures.value (ap cells_of c.in-Int64.is) c.requires

pub returns-in_ok-picked_numbers-in-Int64 : goal.returns-in_ok-picked_numbers-in-Int64
returns-in_ok-picked_numbers-in-Int64 c = picked_values value.Int64 _ c.in-Int64.v.items c.deref-in-Int64.result.now _ _ c.args.order.now c.deref-in-Int64.ensures.value (ap cells_of c.in-Int64.is) c.in_ok-picked_numbers-in-Int64.ensures

pub pick-requires : goal.pick-requires
pick-requires c = all_within_items value.Text _ c.in-Text.texts c.in-Text.texts _ c.args.order.now refl (ap cells_of c.in-Text.is) c.requires

pub returns-in_ok-pick-in-Text : goal.returns-in_ok-pick-in-Text
returns-in_ok-pick-in-Text c = picked_values value.Text _ c.in-Text.texts c.in-Text.texts _ _ c.args.order.now refl (ap cells_of c.in-Text.is) c.in_ok-pick-in-Text.ensures
