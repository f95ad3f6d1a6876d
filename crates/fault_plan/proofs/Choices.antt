-- Each image of a disk with few unsettled changes is reached by a choice.
use Rattle.std.proofs.Common.{◌≡◌, inl, inr, ℕ, suc, ◌+◌, ◌*◌, ◌/◌, ◌^◌, ◌<◌, ◌≤◌, ◌==◌, nat_le, arith, Bool, true, false, [], ◌∷◌, length, sym, ap, ◌∙◌, subst}
use Rattle.std.proofs.Math.Nat.{pow-suc}
use Rattle.std.proofs.Math.Pow.{pow_mono}
use Rattle.std.proofs.lemmas.Bool.{cond-true, cond-false, eq-eqb, ne_eqb, lt-leb, or_from, or_right}
use Rattle.std.proofs.lemmas.List.{map-id}
use Rattle.std.proofs.lemmas.Nat.Bits.{bit_at-suc, bit_at_above, bit_at_lowest}
use Rattle.std.specs.Int.{bit_at}
use Rattle.mt_outside.specs.Disk.{Told, Names, Image, MayLead, Survive, changed, names_after, names_of, before_clock, at_clock}
use Rattle.fault_plan.specs.Images.{loses, has_happened, happened, image_told}
use Rattle.fault_plan.proofs.Images.{image_names, left_names}

-- a bit before the bits of a number
low_bit : (bit rest : ℕ) → bit < 2 → bit_at (bit + 2 * rest) 0 ≡ bit
low_bit bit rest one = omega (arith, bit_at_lowest (bit + 2 * rest))

high_bits : (bit rest i : ℕ) → bit < 2 → bit_at (bit + 2 * rest) (i + 1) ≡ bit_at rest i
high_bits bit rest i one =
    let next : i + 1 ≡ suc i = omega arith in
    let half : (bit + 2 * rest) / 2 ≡ rest = omega arith in
    ap (bit_at (bit + 2 * rest)) next ∙ (bit_at-suc (bit + 2 * rest) i ∙ ap (λ (n : ℕ). bit_at n i) half)

-- the bits of a number stand in the choice from this place on
abbrev StandAt : ℕ → ℕ → ℕ → Type 0
StandAt choice number bits = (i : ℕ) → bit_at choice (number + i) ≡ bit_at bits i

first_stands : (choice number bit rest : ℕ) → bit < 2 → StandAt choice number (bit + 2 * rest) → bit_at choice number ≡ bit
first_stands choice number bit rest one stand =
    let same : number ≡ number + 0 = omega arith in
    ap (bit_at choice) same ∙ (stand 0 ∙ low_bit bit rest one)

rest_stands : (choice number bit rest : ℕ) → bit < 2 → StandAt choice number (bit + 2 * rest) → StandAt choice (number + 1) rest
rest_stands choice number bit rest one stand = λ i.
    let same : number + 1 + i ≡ number + (i + 1) = omega arith in
    ap (bit_at choice) same ∙ (stand (i + 1) ∙ high_bits bit rest i one)

-- what a bit says of a change
set_happens : (choice number : ℕ) → bit_at choice number ≡ 1 → has_happened choice number ≡ true
set_happens choice number is = or_right (nat_le 63 number) (bit_at choice number == 1) (eq-eqb (bit_at choice number) 1 is)

clear_happens_not : (choice number : ℕ) → number < 63 → bit_at choice number ≡ 0 → has_happened choice number ≡ false
clear_happens_not choice number below is =
    or_from (nat_le 63 number) (bit_at choice number == 1) (lt-leb 63 number below) (ne_eqb (bit_at choice number) 1 (λ one. omega (arith, is, one)))

-- a number whose bits say which of the changes happened
record IsChosen (from : Names) (ss : Told) (to : Names) : Type 0 where
  bits : ℕ
  few : bits < 2 ^ length ss
  leads : (choice number : ℕ) → number + length ss ≤ 63 → StandAt choice number bits → Survive (names_after from (happened choice number ss)) to

chosen : (from to : Names) (ss : Told) → MayLead from ss to → IsChosen from ss to
chosen from to [] kept = record { bits = 0; few = omega arith; leads = λ choice number fits stand. kept }
chosen from to (s ∷ ss) (inl leads) =
    let rest : IsChosen from ss to = chosen from to ss leads in
    record {
      bits = 0 + 2 * rest.bits;
      few = omega (arith, rest.few, pow-suc 2 (length ss));
      leads = λ choice number fits stand.
          let later : Told = happened choice (number + 1) ss in
          let didnt : has_happened choice number ≡ false = clear_happens_not choice number (omega arith) (first_stands choice number 0 rest.bits (omega arith) stand) in
          subst (λ (all : Told). Survive (names_after from all) to) (sym (cond-false (has_happened choice number) (s ∷ later) later didnt))
          (rest.leads choice (number + 1) (omega arith) (rest_stands choice number 0 rest.bits (omega arith) stand));
    }
chosen from to (s ∷ ss) (inr leads) =
    let rest : IsChosen (changed from s.change) ss to = chosen (changed from s.change) to ss leads in
    record {
      bits = 1 + 2 * rest.bits;
      few = omega (arith, rest.few, pow-suc 2 (length ss));
      leads = λ choice number fits stand.
          let later : Told = happened choice (number + 1) ss in
          let did : has_happened choice number ≡ true = set_happens choice number (first_stands choice number 1 rest.bits (omega arith) stand) in
          subst (λ (all : Told). Survive (names_after from all) to) (sym (cond-true (has_happened choice number) (s ∷ later) later did))
          (rest.leads choice (number + 1) (omega arith) (rest_stands choice number 1 rest.bits (omega arith) stand));
    }

-- a choice without bit 63 takes no bytes
loses_none : (choice : ℕ) → choice < 2 ^ 63 → loses choice ≡ false
loses_none choice below = ne_eqb (bit_at choice 63) 1 (λ one. let none : bit_at choice 63 ≡ 0 = bit_at_above choice 63 63 below (omega arith) in omega (arith, none, one))

kept_names : (lose : Bool) (names : Names) → lose ≡ false → left_names lose names ≡ names
kept_names lose names is = ap (λ (b : Bool). left_names b names) is ∙ map-id names

-- each image is one of a choice, up to the bytes that were not synced
pub image_reached : (told : Told) (clock : ℕ) (names : Names) → Image told clock names → length (at_clock clock told) ≤ 63
    → (choice : ℕ) × (choice < 2 ^ 63) × Survive (names_of (image_told choice clock told)) names
image_reached told clock names image few =
    let settled : Names = names_after [] (before_clock clock told) in
    let found : IsChosen settled (at_clock clock told) names = chosen settled names (at_clock clock told) image in
    let bound : 2 ^ length (at_clock clock told) ≤ 2 ^ 63 = pow_mono few in
    let below : found.bits < 2 ^ 63 = omega (arith, found.few, bound) in
    let reached : Names = names_after settled (happened found.bits 0 (at_clock clock told)) in
    let stand : StandAt found.bits 0 found.bits = λ i. ap (bit_at found.bits) (omega arith) in (
      found.bits,
      below,
      subst (λ (all : Names). Survive all names) (sym (image_names found.bits clock told ∙ kept_names (loses found.bits) reached (loses_none found.bits below)))
          (found.leads found.bits 0 (omega arith) stand),
    )
