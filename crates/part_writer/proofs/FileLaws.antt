-- Lemmas on the bytes of a part's files, by name. A definition may rest on a lemma of a file, and not on a file that is passed on.
pub use Rattle.digest_file.proofs.Manifests.{frame_from_manifest, manifest_first}
pub use Rattle.primary_marks.proofs.ColumnLaws.{AreApart, FirstIs, eight_apart, even, first_is, four_apart, one_spelling, spells_Decides, value_apart}
pub use Rattle.primary_marks.proofs.KeysOneWay.{keys_apart}
pub use Rattle.primary_marks.proofs.Starts.{starts_apart}
pub use Rattle.skip_index.proofs.OneWay.{known_apart, most_small, no_index, one_index, stands}
pub use Rattle.skip_index.proofs.Written.{index_written}
