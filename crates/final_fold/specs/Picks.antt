-- Which columns a SELECT reads, and where the selected ones are among them (docs/architecture.md, "The way of a SELECT").
use Rattle.std.specs.Prelude.{◌≡◌, ◌≢◌, ℕ, List, map, slice_get, All, Option, Some}
use Rattle.std.specs.List.{AllPairs, Contains as HasItem}
use Rattle.final_fold.specs.declared.picked.Picked.{Picked}

-- each column that is read is a selected one, none is read twice, and those at the positions that are shown are the selected ones, in order
pub record IsPickOf (places : List ℕ) (picked : Picked) : Type 0 where
  pub shown : map (slice_get picked.read.items) picked.shown.items ≡ map Some places
  pub once : AllPairs (λ a b. a ≢ b) picked.read.items
  pub selected : All (HasItem places) picked.read.items

-- a table by place has the position of each column that is read, and of no other one
pub record AreFound (found : List (Option ℕ)) (read : List ℕ) : Type 0 where
  pub read_there : (place at : ℕ) → slice_get found place ≡ Some (Some at) → slice_get read at ≡ Some place
  pub found_there : (place at : ℕ) → slice_get read at ≡ Some place → slice_get found place ≡ Some (Some at)
