-- The pieces of a name, which underscores part.
use Rattle.std.proofs.Common.{◌≡◌, ◌≢◌, ℕ, ◌+◌, ◌%◌, ◌<◌, ◌^◌, List, [], ◌∷◌, ◌++◌, length, get_or, take, drop, refl, sym, ap, ◌∙◌, subst, arith, length-append, Option, Some, None}
use Rattle.std.specs.Fmt.{decimal}
use Rattle.std.proofs.Math.Seq.{get_or-append_seam}
use Rattle.std.proofs.lemmas.Fmt.{decimal_by_steps, decimal_is_IsNumeral}
use Rattle.std.proofs.lemmas.Str.Parse.{digit_at}
use Rattle.std.proofs.lemmas.List.{drop_more, take-append-drop}
use Rattle.std.proofs.lemmas.List.Elements.{All-nil, All-cons, All-push, All-head, All-tail}
use Rattle.mt_base.specs.declared.partition.Partition.{Partition}
use Rattle.mt_base.specs.declared.partition.Partition.TheVariants.{Whole, Number}
use Rattle.part_name.specs.Fields.{HasNoBar}
use Rattle.part_name.specs.PartNames.{IsBlock, IsMutation, IsPartition, joined, last_text, partition_text}

-- a text is parted at an underscore in it
pub bar_here : (text : List ℕ) (at : ℕ) → at < length text → get_or text at 0 ≡ 95 → joined (take at text) (drop (at + 1) text) ≡ text
bar_here text at inside bar =
    ap (λ (b : ℕ). take at text ++ b ∷ drop (at + 1) text) (sym bar) ∙ ap (λ (rest : List ℕ). take at text ++ rest) (sym (drop_more text at 0 inside)) ∙ take-append-drop at text

-- a text without underscores is not parted
pub no_bar_in : (front rest text : List ℕ) → HasNoBar text → joined front rest ≡ text → ⊥
no_bar_in front rest text none is =
    none (length front) 0 (omega (arith, length-append front (95 ∷ rest), ap length is)) (ap (λ (t : List ℕ). get_or t (length front) 0) (sym is) ∙ get_or-append_seam front 95 rest 0)

-- a text has one front without underscores, and one rest after it
pub same_pieces : (a b x y : List ℕ) → HasNoBar a → HasNoBar b → joined a x ≡ joined b y → (a ≡ b) × (x ≡ y)
same_pieces [] [] x y none also is = let rest : x ≡ y = cc in (refl, rest)
same_pieces [] (c ∷ b) x y none also is = let first : c ≡ 95 = cc in absurd (All-head (λ (d : ℕ). d ≢ 95) c b also first)
same_pieces (c ∷ a) [] x y none also is = let first : c ≡ 95 = cc in absurd (All-head (λ (d : ℕ). d ≢ 95) c a none first)
same_pieces (c ∷ a) (d ∷ b) x y none also is =
    let first : c ≡ d = cc in
    let more : joined a x ≡ joined b y = cc in
    let rest = same_pieces a b x y (All-tail (λ (e : ℕ). e ≢ 95) c a none) (All-tail (λ (e : ℕ). e ≢ 95) d b also) more in
    let same : a ≡ b = rest.0 in
    (cc, rest.1)

-- no digit is an underscore
pub decimal_no_bar : (n : ℕ) → n < 2 ^ 64 → HasNoBar (decimal n)
decimal_no_bar n small =
    decimal_by_steps (λ m digits. HasNoBar digits) (λ m one. All-cons (λ (b : ℕ). b ≢ 95) (48 + m) [] (λ is. absurd (omega arith)) (All-nil (λ (b : ℕ). b ≢ 95)))
    (λ m digits ten none. All-push (λ (b : ℕ). b ≢ 95) digits (48 + m % 10) none (λ is. absurd (omega arith)))
    n small

-- nor is a letter of `all`
pub partition_no_bar : (p : Partition) → IsPartition p → HasNoBar (partition_text p)
partition_no_bar Whole fits =
    let P : ℕ → Type 0 = λ b. b ≢ 95 in
    All-cons P 97 (108 ∷ 108 ∷ []) (λ is. absurd (omega arith)) (All-cons P 108 (108 ∷ []) (λ is. absurd (omega arith)) (All-cons P 108 [] (λ is. absurd (omega arith)) (All-nil P)))
partition_no_bar (Number n) fits = decimal_no_bar n (omega arith)

-- no number begins as `all` does
pub all_no_number : (n : ℕ) → n < 2 ^ 64 → get_or (decimal n) 0 0 ≡ 97 → ⊥
all_no_number n small is = let digit = digit_at (decimal n) 0 (decimal_is_IsNumeral n small).0.1 (decimal_is_IsNumeral n small).0.0 in omega (arith, digit)

-- a text that begins as `all` does spells the whole, if it spells a partition
pub whole_only : (text : List ℕ) → get_or text 0 0 ≡ 97 → (p : Partition) → IsPartition p → partition_text p ≡ text → Whole ≡ p
whole_only text first Whole fits is = refl
whole_only text first (Number n) fits is = absurd (all_no_number n (omega arith) (ap (λ (t : List ℕ). get_or t 0 0) is ∙ first))

-- a level without a mutation has no underscore
pub last_alone : (text : List ℕ) → HasNoBar text → (n : ℕ) (mutation : Option ℕ) → last_text n mutation ≡ text → (mutation ≡ None) × (decimal n ≡ text)
last_alone text none n None is = (refl, is)
last_alone text none n (Some m) is = absurd (no_bar_in (decimal n) (decimal m) text none is)

-- a level with a mutation has one
pub last_both : (front rest text : List ℕ) → HasNoBar front → joined front rest ≡ text → (n : ℕ) (mutation : Option ℕ) → n < 2 ^ 64 → IsMutation mutation → last_text n mutation ≡ text
    → (m : ℕ) × (mutation ≡ Some m) × IsBlock m × (decimal n ≡ front) × (decimal m ≡ rest)
last_both front rest text none parts n None small fits is = absurd (no_bar_in front rest text (subst HasNoBar is (decimal_no_bar n small)) parts)
last_both front rest text none parts n (Some m) small fits is =
    let pieces = same_pieces (decimal n) front (decimal m) rest (decimal_no_bar n small) none (is ∙ sym parts) in
    (m, refl, fits, pieces.0, pieces.1)

-- ---- what a read says of what was spelled

-- a text that is read as nothing spells nothing
pub none_read : {X Y : Type 0} (x : X) → None ≡ Some x → Y
none_read x e = absurd cc

pub same_read : {X : Type 0} (x y : X) → Some x ≡ Some y → x ≡ y
same_read x y e = cc

pub alone_read : (level n : ℕ) (mutation : Option ℕ) → Some level ≡ Some n → mutation ≡ None → ◌≡◌ {A = Option (ℕ × Option ℕ)} (Some (level, None)) (Some (n, mutation))
alone_read level n mutation e none = cc

pub both_read : (level found n m : ℕ) (mutation : Option ℕ) → Some level ≡ Some n → Some found ≡ Some m → mutation ≡ Some m → ◌≡◌ {A = Option (ℕ × Option ℕ)} (Some (level, Some found)) (Some (n, mutation))
both_read level found n m mutation e f some = cc
