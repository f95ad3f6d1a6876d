use Rattle.std.proofs.Common.{◌≡◌, length, refl, arith}
use Rattle.std.proofs.lemmas.Option.{slice_get_read}
use Rattle.primary_marks.proofs.KeyRows.{seen_column, seen_len, seen_value}
use Rattle.primary_marks.proofs.marks.Marks.key_cell.Goals as goal

pub index-requires : goal.index-requires
index-requires c =
    let ok = c.self.inside.columns.ok in
    let h = seen_column c.self.inside.columns.items c.self.inside.keys c.args.self.now c.args.key c.args.column c.self.view_is c.self.invariant.0 c.requires.key c.requires.column in
    omega (arith, h, ok.0)

pub at-requires : goal.at-requires
at-requires c =
    let below = seen_column c.self.inside.columns.items c.self.inside.keys c.args.self.now c.args.key c.args.column c.self.view_is c.self.invariant.0 c.requires.key c.requires.column in
    let len : length c.index.result.now.values ≡ c.self.inside.keys = rw (← c.index.ensures) at (c.self.invariant.0 c.args.column c.index.result.now below) in
    omega (arith, c.requires.key, seen_len c.self.inside.columns.items c.self.inside.keys c.args.self.now c.self.view_is)

pub returns : goal.returns
returns c =
    let below = seen_column c.self.inside.columns.items c.self.inside.keys c.args.self.now c.args.key c.args.column c.self.view_is c.self.invariant.0 c.requires.key c.requires.column in
    let there = slice_get_read c.self.inside.columns.items (length c.self.inside.columns.items) c.args.column c.index.result.now refl below c.index.ensures in
    seen_value c.self.inside.columns.items c.self.inside.keys c.args.self.now c.args.key c.args.column c.index.result.now _ c.self.view_is c.self.invariant.0 c.requires.key there c.at.ensures
