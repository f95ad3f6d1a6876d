-- Parts that are looked at one by one.
use Rattle.std.proofs.Common.{◌≡◌, ℕ, ◌+◌, ◌<◌, ◌≤◌, inl, List, length, take, get_or, Option, refl, sym, subst, arith}
use Rattle.std.specs.List.{All}
use Rattle.std.proofs.lemmas.List.{take_all}
use Rattle.std.proofs.lemmas.List.Elements.{All-more, All-same, All-weaker}
use Rattle.mt_values.specs.declared.schema.Schema.{Schema}
use Rattle.mt_outside.specs.Files.{Files}
use Rattle.part_reader.specs.declared.reading.Part.{Part}
use Rattle.part_set.specs.declared.kept.Kept.{Kept}
use Rattle.row_merge.specs.MergedParts.{ExplainsPart, HasShape, other_table}

-- one more of a list
pub one_more : {X : Type 0} (P : X → Type 0) (xs : List X) (i : ℕ) (x : X) → i < length xs → x ≡ get_or xs i x → All P (take i xs) → P x → All P (take (i + 1) xs)
one_more P xs i x below is all own = All-more P xs i x below all (subst P is own)

-- all of a list
pub all_of : {X : Type 0} (P : X → Type 0) (xs : List X) (i : ℕ) → length xs ≤ i → All P (take i xs) → All P xs
all_of P xs i end all = All-same P xs (take i xs) (sym (take_all i xs end)) all

-- the greatest number so far
pub one_more_most : {F : Type 0} (parts : List (Kept (Part F))) (i most greater : ℕ) (k : Kept (Part F)) → i < length parts → k ≡ get_or parts i k → All (λ (q : Kept (Part F)). q.part.loaded.manifest.rows ≤ most) (take i parts)
    → most ≤ greater → k.part.loaded.manifest.rows ≤ greater → All (λ (q : Kept (Part F)). q.part.loaded.manifest.rows ≤ greater) (take (i + 1) parts)
one_more_most {F} parts i most greater k below is all up own =
    one_more (λ (q : Kept (Part F)). q.part.loaded.manifest.rows ≤ greater) parts i k below is
    (All-weaker (λ (q : Kept (Part F)). q.part.loaded.manifest.rows ≤ most) (λ (q : Kept (Part F)). q.part.loaded.manifest.rows ≤ greater) (λ q few. omega (arith, few, up)) (take i parts) all) own

-- another table's columns are kept of a part
pub others_explained : {F : Type 0} (files_of : F → Option Files) (schema : Schema) (part : Part F) → (HasShape schema part.loaded.schema → ⊥) → ExplainsPart files_of schema part other_table
others_explained files_of schema part other = inl (record { other = other; fault_is = refl })
