-- Marks that are taken from all parts, once no work is out.
use Rattle.std.proofs.Common.{◌≡◌, ◌==◌, ℕ, zero, suc, Bool, true, false, cond, List, [], ◌∷◌, map, refl, sym, ap, ◌∙◌, subst, arith}
use Rattle.std.proofs.lemmas.Bool.Decides.{nat_tests}
use Rattle.std.proofs.lemmas.List.Elements.{All-from_recursion}
use Rattle.std.specs.List.{All, AllByRecursion}
use Rattle.root_commits.specs.part_reader.declared.reading.Part.{Part}
use Rattle.root_commits.specs.part_set.declared.kept.Kept.{Kept}
use Rattle.root_commits.specs.part_set.Runs.{with_mark}
use Rattle.root_commits.specs.part_set.Sets.{parts_of}
use Rattle.root_commits.specs.root_store.declared.store.CoreStore.{CoreStore}
use Rattle.root_commits.specs.root_store.Shown.{HasNoMark}
use Rattle.shared_store.specs.Engines.{Opened}
use Rattle.shared_store.specs.Works.{Frees}
use Rattle.shared_store.proofs.Marked.{with_set}
use Rattle.shared_store.proofs.Marking.{AreAlike, StoresAlike, alike_itself}

not_zero : (n : ℕ) → (n ≡ 0 → ⊥) → (n == 0) ≡ false
not_zero zero some = absurd (some refl)
not_zero (suc n) some = grind (arith, nat_tests)

module _ {F : Type 0} where
  alike_all_freed : (ks : List (Kept (Part F))) → AreAlike ks (map (with_mark false) ks)
  alike_all_freed [] = tt
  alike_all_freed (k ∷ ks) = (refl, refl, alike_all_freed ks)

  idle_all_freed : (ks : List (Kept (Part F))) → AllByRecursion (λ (k : Kept (Part F)). k.busy ≡ false) (map (with_mark false) ks)
  idle_all_freed [] = tt
  idle_all_freed (k ∷ ks) = (refl, idle_all_freed ks)

  module _ (out : ℕ) (was now : Opened F) (f : Frees out was now) where
    pub freed_alike : StoresAlike was.store now.store
    freed_alike = record {
      parts = λ u. subst (AreAlike (parts_of was.store.set u)) (sym (f.parts u)) (by (out == 0) (parts_of was.store.set u));
      tables = f.tables;
      mutations_are = f.mutations_are;
      length_is = f.length_is;
      opened_is = f.opened_is;
    }
      where
        by : (b : Bool) (ks : List (Kept (Part F))) → AreAlike ks (cond b (map (with_mark false) ks) ks)
        by true ks = alike_all_freed ks
        by false ks = alike_itself ks

    pub freed_idle : out ≡ 0 → HasNoMark now.store
    freed_idle none = λ u.
        let test : (out == 0) ≡ true = grind (arith, nat_tests, none) in
        let all : parts_of now.store.set u ≡ map (with_mark false) (parts_of was.store.set u) = f.parts u ∙ ap (λ (b : Bool). cond b (map (with_mark false) (parts_of was.store.set u)) (parts_of was.store.set u)) test in
        subst (All (λ (k : Kept (Part F)). k.busy ≡ false)) (sym all) (All-from_recursion (λ (k : Kept (Part F)). k.busy ≡ false) (map (with_mark false) (parts_of was.store.set u)) (idle_all_freed (parts_of was.store.set u)))

  -- a root whose set has no mark any more
  pub frees_set : (out : ℕ) → out ≡ 0 → (was now : Opened F) → ((u : List ℕ) → parts_of now.store.set u ≡ map (with_mark false) (parts_of was.store.set u)) → now.store ≡ with_set was.store now.store.set → now.storage ≡ was.storage → Frees out was now
  frees_set out none was now freed store_is storage_is = record {
    parts = λ u. (let test : (out == 0) ≡ true = grind (arith, nat_tests, none) in freed u ∙ ap (λ (b : Bool). cond b (map (with_mark false) (parts_of was.store.set u)) (parts_of was.store.set u)) (sym test));
    tables = ap (λ (s : CoreStore F). s.tables.entries) store_is;
    mutations_are = ap (λ (s : CoreStore F). s.mutations) store_is;
    length_is = ap (λ (s : CoreStore F). s.length) store_is;
    opened_is = ap (λ (s : CoreStore F). s.opened) store_is;
    storage_is = storage_is;
  }

  -- works are out still
  pub frees_none : (out : ℕ) → (out ≡ 0 → ⊥) → (was : Opened F) → Frees out was was
  frees_none out some was = record {
    parts = λ u. ap (λ (b : Bool). cond b (map (with_mark false) (parts_of was.store.set u)) (parts_of was.store.set u)) (sym (not_zero out some));
    tables = refl;
    mutations_are = refl;
    length_is = refl;
    opened_is = refl;
    storage_is = refl;
  }
