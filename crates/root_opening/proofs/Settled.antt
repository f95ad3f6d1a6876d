-- Where there are no names, and what the mark is once names are settled.
use Rattle.std.proofs.Common.{◌≡◌, ◌⊎◌, ◌∙◌, ℕ, ◌+◌, Bool, true, false, List, [], ◌∷◌, Option, Some, length, map, refl, sym, ap, inl, inr, arith}
use Rattle.std.specs.Bool.{◌==◌}
use Rattle.std.proofs.lemmas.Bool.Decides.{nat_tests}
use Rattle.std.proofs.lemmas.List.{nil_from_length}
use Rattle.mt_outside.specs.Disk.{Told, names_of}
use Rattle.mt_outside.specs.Files.{Files}
use Rattle.root_opening.specs.Opened.{HasSettled, mark_settled}

is_zero : (n : ℕ) → (n == 0) ≡ true → n ≡ 0
is_zero n is = grind (arith, nat_tests)

zero_is : (n : ℕ) → n ≡ 0 → (n == 0) ≡ true
zero_is n is = grind (arith, nat_tests)

-- a list that is tested to be empty has no item
no_items : {X : Type 0} (xs : List X) (test : Bool) → test ≡ (length xs == 0) → test ≡ true → xs ≡ []
no_items xs test is empty =
    let zero : length xs ≡ 0 = is_zero (length xs) (sym is ∙ empty) in
    nil_from_length xs (omega arith)

-- where there is no name the mark stays, and else it is raised
pub none_settled : {X : Type 0} (xs : List X) (test : Bool) (mark : ℕ) → test ≡ (length xs == 0) → test ≡ true → mark ≡ mark_settled xs mark
none_settled xs test mark is empty = sym (ap (λ ys. mark_settled ys mark) (no_items xs test is empty))

pub some_settled : {X : Type 0} (xs : List X) (test : Bool) (mark : ℕ) → test ≡ (length xs == 0) → test ≡ false → mark + 1 ≡ mark_settled xs mark
some_settled [] test mark is some = let yes = is ∙ zero_is 0 refl in absurd cc
some_settled (x ∷ xs) test mark is some = refl

-- the mark is raised where there is a name
pub raised : {X : Type 0} (xs : List X) (mark : ℕ) → (xs ≡ [] → ⊥) → mark_settled xs mark ≡ mark + 1
raised [] mark some = absurd (some refl)
raised (x ∷ xs) mark some = refl

upto : {X : Type 0} (xs : List X) (mark now : ℕ) → now ≡ mark_settled xs mark → (now ≡ mark) ⊎ (now ≡ mark + 1)
upto [] mark now is = inl is
upto (x ∷ xs) mark now is = inr is

settled_alike : {X Y : Type 0} (f : X → Y) (xs : List X) (mark : ℕ) → mark_settled (map f xs) mark ≡ mark_settled xs mark
settled_alike f [] mark = refl
settled_alike f (x ∷ xs) mark = refl

-- the texts that were settled are those of the names that are told
pub has_settled : (disk : Option Told) (texts : List (List ℕ)) (before now at : ℕ) → now ≡ mark_settled texts at → at ≡ before → ((told : Told) → disk ≡ Some told → texts ≡ map (λ (n : List ℕ × Files). n.0) (names_of told)) → HasSettled disk before now
has_settled disk texts before now at is same are =
    let mark : now ≡ mark_settled texts before = is ∙ ap (mark_settled texts) same in
    record {
      told = λ told known. mark ∙ (ap (λ ts. mark_settled ts before) (are told known) ∙ settled_alike (λ (n : List ℕ × Files). n.0) (names_of told) before);
      upto = upto texts before now mark;
    }
