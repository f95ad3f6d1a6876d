use Rattle.std.proofs.Common.{ap, ◌∙◌, option_map, rules, slice_get}
use Rattle.std.proofs.lemmas.Int.{to_z-of_z}
use Rattle.std.proofs.lemmas.Option.{slice_get-map}
use Rattle.std.specs.Int.{w8, w16, w32, w64}
use Rattle.mt_values.specs.declared.value.Value.TheVariants as value
use Rattle.mt_values.specs.Columns.{cells_of}
use Rattle.mt_values.specs.Grid.{Cells}
use Rattle.mt_values.proofs.Columns.{value_read, within_items, within_vector}
use Rattle.mt_values.proofs.column.Cells.at.Goals as goal

pub index-requires : goal.index-requires
index-requires c = within_vector value.UInt8 _ c.in-UInt8.v _ _ (ap cells_of c.in-UInt8.is) c.requires

pub returns-in-UInt8 : goal.returns-in-UInt8
returns-in-UInt8 c = value_read value.UInt8 _ c.in-UInt8.v.items _ _ _ (ap cells_of c.in-UInt8.is) c.requires c.index.ensures

pub index-requires-in-UInt16 : goal.index-requires-in-UInt16
index-requires-in-UInt16 c = within_vector value.UInt16 _ c.in-UInt16.v _ _ (ap cells_of c.in-UInt16.is) c.requires

pub returns-in-UInt16 : goal.returns-in-UInt16
returns-in-UInt16 c = value_read value.UInt16 _ c.in-UInt16.v.items _ _ _ (ap cells_of c.in-UInt16.is) c.requires c.index-in-UInt16.ensures

pub index-requires-in-UInt32 : goal.index-requires-in-UInt32
index-requires-in-UInt32 c = within_vector value.UInt32 _ c.in-UInt32.v _ _ (ap cells_of c.in-UInt32.is) c.requires

pub returns-in-UInt32 : goal.returns-in-UInt32
returns-in-UInt32 c = value_read value.UInt32 _ c.in-UInt32.v.items _ _ _ (ap cells_of c.in-UInt32.is) c.requires c.index-in-UInt32.ensures

pub index-requires-in-UInt64 : goal.index-requires-in-UInt64
index-requires-in-UInt64 c = within_vector value.UInt64 _ c.in-UInt64.v _ _ (ap cells_of c.in-UInt64.is) c.requires

pub returns-in-UInt64 : goal.returns-in-UInt64
returns-in-UInt64 c = value_read value.UInt64 _ c.in-UInt64.v.items _ _ _ (ap cells_of c.in-UInt64.is) c.requires c.index-in-UInt64.ensures

pub index-requires-in-Int8 : goal.index-requires-in-Int8
index-requires-in-Int8 c = within_vector value.Int8 _ c.in-Int8.v _ _ (ap cells_of c.in-Int8.is) c.requires

pub index-requires-in-Int16 : goal.index-requires-in-Int16
index-requires-in-Int16 c = within_vector value.Int16 _ c.in-Int16.v _ _ (ap cells_of c.in-Int16.is) c.requires

pub index-requires-in-Int32 : goal.index-requires-in-Int32
index-requires-in-Int32 c = within_vector value.Int32 _ c.in-Int32.v _ _ (ap cells_of c.in-Int32.is) c.requires

pub index-requires-in-Int64 : goal.index-requires-in-Int64
index-requires-in-Int64 c = within_vector value.Int64 _ c.in-Int64.v _ _ (ap cells_of c.in-Int64.is) c.requires

pub returns-in-Int8 : goal.returns-in-Int8
returns-in-Int8 c =
    rw (to_z-of_z w8 c.index-in-Int8.result.now (search (rules, c.well_formed)))
    (value_read value.Int8 _ c.in-Int8.v.items _ _ _ (ap cells_of c.in-Int8.is) c.requires c.index-in-Int8.ensures)

pub returns-in-Int16 : goal.returns-in-Int16
returns-in-Int16 c =
    rw (to_z-of_z w16 c.index-in-Int16.result.now (search (rules, c.well_formed)))
    (value_read value.Int16 _ c.in-Int16.v.items _ _ _ (ap cells_of c.in-Int16.is) c.requires c.index-in-Int16.ensures)

pub returns-in-Int32 : goal.returns-in-Int32
returns-in-Int32 c =
    rw (to_z-of_z w32 c.index-in-Int32.result.now (search (rules, c.well_formed)))
    (value_read value.Int32 _ c.in-Int32.v.items _ _ _ (ap cells_of c.in-Int32.is) c.requires c.index-in-Int32.ensures)

pub returns-in-Int64 : goal.returns-in-Int64
returns-in-Int64 c =
    rw (to_z-of_z w64 c.index-in-Int64.result.now (search (rules, c.well_formed)))
    (value_read value.Int64 _ c.in-Int64.v.items _ _ _ (ap cells_of c.in-Int64.is) c.requires c.index-in-Int64.ensures)

pub at-requires : goal.at-requires
at-requires c = within_items value.Text _ c.in-Text.texts _ _ (ap cells_of c.in-Text.is) c.requires

pub returns-in-Text : goal.returns-in-Text
returns-in-Text c =
    ap (λ (x : Cells). slice_get x.values c.args.place) (ap cells_of c.in-Text.is)
    ∙ slice_get-map value.Text c.in-Text.texts c.args.place
    ∙ ap (option_map value.Text) c.at.ensures
