-- the conjuncts gone over are sieves, and the positions that are left are of the others
use Rattle.std.proofs.Common.{◌≡◌, ◌≢◌, ℕ, List, Some, drop, flat_map, length, map, slice_get, take}
use Rattle.std.specs.List.{AllPairs, AllZip}
use Rattle.final_fold.specs.declared.asking.Conjunct.{Conjunct}
use Rattle.final_fold.specs.Asked.{IsSieveOf, tested}
use Rattle.final_fold.proofs.asking.make_sieves.Given as goal

abbrev pub invariant-loop-conjunct : goal.invariant-loop-conjunct
invariant-loop-conjunct l = record {
  many : length l.rest ≡ length (flat_map (λ (x : Conjunct). tested x.condition.now) (drop l.conjunct-index l.conjuncts));
  left : (read : List ℕ) → map (slice_get read) l.positions ≡ map Some (flat_map (λ (x : Conjunct). tested x.condition.now) l.conjuncts)
      → map (slice_get read) l.rest ≡ map Some (flat_map (λ (x : Conjunct). tested x.condition.now) (drop l.conjunct-index l.conjuncts));
  made : (read : List ℕ) → AllPairs (λ a b. a ≢ b) read → map (slice_get read) l.positions ≡ map Some (flat_map (λ (x : Conjunct). tested x.condition.now) l.conjuncts)
      → AllZip (λ (x : Conjunct). IsSieveOf read (x.condition.now, x.granules.now)) (take l.conjunct-index l.conjuncts) l.sieves.items;
}
