-- When a file of a part is sound, and which is the first that is damaged: passed on.
pub use Rattle.part_damage.specs.Sound.{AreChecked, AreKeysFor, AreMarksFor, AreReadAs, FirstDamaged, FirstUnder, FirstUnsound, IsChecked, IsLoadedOf, IsManifestFor, IsOpened, IsReadAs, IsReadable, IsSound, SpellRows, SpellsFile}
