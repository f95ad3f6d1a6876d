-- Lemmas on the bytes of columns, by name. A definition may rest on a lemma of a file, and not on a file that is passed on.
pub use Rattle.column_file.proofs.Fronts.{AreApart, even}
pub use Rattle.column_file.proofs.OneWay.{eight_apart, four_apart, one_spelling, value_apart}
pub use Rattle.column_file.proofs.Tested.{FirstIs, first_is, spells_Decides}
