-- Lists of blocks and of their parts, from which one is taken at the end and to which one is added there.
use Rattle.std.proofs.Common.{◌≡◌, List, [], ◌∷◌, ◌++◌, map, sym, ap, ◌∙◌, subst, append_assoc}
use Rattle.std.specs.List.{All}
use Rattle.std.proofs.lemmas.List.{map-append, reverse-append}
use Rattle.std.proofs.lemmas.List.Elements.{All-cons, All-head, All-nil, All-tail}
use Rattle.mt_values.specs.Grid.{Grid}
use Rattle.block_split.specs.declared.blocks.PartitionBlock.{PartitionBlock}
use Rattle.session.specs.declared.sealing.SealedBlock.{SealedBlock}
use Rattle.session.specs.Turns.{in_turn}

-- what all have the first ones have, and the later ones
module _ {X : Type 0} (P : X → Type 0) where
  pub all_before : (xs ys : List X) → All P (xs ++ ys) → All P xs
  all_before [] ys all = All-nil P
  all_before (x ∷ xs) ys all = All-cons P x xs (All-head P x (xs ++ ys) all) (all_before xs ys (All-tail P x (xs ++ ys) all))

  pub all_after : (xs ys : List X) → All P (xs ++ ys) → All P ys
  all_after [] ys all = all
  all_after (x ∷ xs) ys all = all_after xs ys (All-tail P x (xs ++ ys) all)

  pub others_have : (all xs : List X) (x : X) → all ≡ xs ++ x ∷ [] → All P all → All P xs
  others_have all xs x is are = all_before xs (x ∷ []) (subst (All P) is are)

module _ {S : Type 0} where
  -- the last of a list has the first turn
  pub first_turn : (parts rest : List (SealedBlock S)) (s : SealedBlock S) → parts ≡ rest ++ s ∷ [] → in_turn parts ≡ s ∷ in_turn rest
  first_turn parts rest s is = ap (λ (ps : List (SealedBlock S)). in_turn ps) is ∙ reverse-append rest (s ∷ [])

  module _ (P : SealedBlock S → Type 0) (parts rest : List (SealedBlock S)) (s : SealedBlock S) (is : parts ≡ rest ++ s ∷ []) where
    pub turn_has : All P (in_turn parts) → P s
    turn_has are = All-head P s (in_turn rest) (subst (All P) (first_turn parts rest s is) are)

    pub later_have : All P (in_turn parts) → All P (in_turn rest)
    later_have are = All-tail P s (in_turn rest) (subst (All P) (first_turn parts rest s is) are)

    pub all_have : P s → All P (in_turn rest) → All P (in_turn parts)
    all_have here others = subst (All P) (sym (first_turn parts rest s is)) (All-cons P s (in_turn rest) here others)

  abbrev pub blocks_in : List (SealedBlock S) → List Grid
  blocks_in parts = map (λ (s : SealedBlock S). s.block) (in_turn parts)

  -- the last block is sealed, as the part of the first turn so far
  pub one_sealed : (blocks left : List PartitionBlock) (b : PartitionBlock) (sealed more : List (SealedBlock S)) (s : SealedBlock S) (all : List Grid) → blocks ≡ left ++ b ∷ [] → more ≡ sealed ++ s ∷ [] → s.block ≡ b.block
      → map (λ (x : PartitionBlock). x.block) blocks ++ blocks_in sealed ≡ all → map (λ (x : PartitionBlock). x.block) left ++ blocks_in more ≡ all
  one_sealed blocks left b sealed more s all taken added same is =
      let block = λ (x : PartitionBlock). x.block in
      ap (λ (ps : List (SealedBlock S)). map block left ++ map (λ (x : SealedBlock S). x.block) ps) (first_turn more sealed s added)
      ∙ (ap (λ (g : Grid). map block left ++ g ∷ blocks_in sealed) same
      ∙ (sym (append_assoc (map block left) (b.block ∷ []) (blocks_in sealed))
      ∙ (ap (λ (gs : List Grid). gs ++ blocks_in sealed) (sym (map-append block left (b ∷ []))) ∙ (ap (λ (bs : List PartitionBlock). map block bs ++ blocks_in sealed) (sym taken) ∙ is))))
