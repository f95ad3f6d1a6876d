-- The order of the names that a crash may leave.
use Rattle.std.proofs.Common.{◌≡◌, inl, inr, ℕ, List, [], ◌∷◌, map, refl, subst}
use Rattle.std.specs.Cmp.Lexicographic.{slice_cmp}
use Rattle.std.specs.List.Sorted.{IsStrictlySortedBy}
use Rattle.std.specs.Ordering.{nat_cmp}
use Rattle.mt_outside.specs.declared.disk.Stamped.{Stamped}
use Rattle.mt_outside.specs.Disk.{Image, MayLead, Names, Survive, Told, at_clock, before_clock, changed, names_after}
use Rattle.mt_outside.specs.Files.{Files}
use Rattle.root_store.specs.ByteOrder.{AreInByteOrder}
use Rattle.root_store.proofs.Rising.{all_changes, one_change, rise_nothing}

pub same_names : (from to : Names) → Survive from to → map (λ (n : List ℕ × Files). n.0) from ≡ map (λ (n : List ℕ × Files). n.0) to
same_names [] [] kept = refl
same_names [] (n ∷ to) kept = absurd kept
same_names (o ∷ from) [] kept = absurd kept
same_names (o ∷ from) (n ∷ to) kept = λ i. kept.0 i ∷ same_names from to kept.2 i

lead_rise : (from to : Names) (ss : List (Stamped Files)) → AreInByteOrder from → MayLead from ss to → AreInByteOrder to
lead_rise from to [] rise kept = subst (IsStrictlySortedBy (slice_cmp nat_cmp)) (same_names from to kept) rise
lead_rise from to (s ∷ ss) rise (inl leads) = lead_rise from to ss rise leads
lead_rise from to (s ∷ ss) rise (inr leads) = lead_rise (changed from s.change) to ss (one_change from s.change rise) leads

-- what a crash may leave stands in byte order
pub image_rise : (told : Told) (clock : ℕ) (names : Names) → Image told clock names → AreInByteOrder names
image_rise told clock names image = lead_rise (names_after [] (before_clock clock told)) names (at_clock clock told) (all_changes [] (before_clock clock told) rise_nothing) image
