-- Parts of one table that are looked up by their names.
use Rattle.std.proofs.Common.{◌≡◌, ℕ, ◌+◌, ◌-◌, ◌<◌, ◌≤◌, Bool, true, false, not, List, [], ◌∷◌, length, get_or, drop, refl, sym, ap, ◌∙◌, subst, inl, inr, arith}
use Rattle.std.proofs.lemmas.Bool.{cases_lt}
use Rattle.std.proofs.lemmas.List.{get_or-drop, get_or-map, get_or_default, get_or_read, length-drop, length-map}
use Rattle.std.specs.List.{AllWithin}
use Rattle.std.specs.List.Sorted.{IsPartitionedBy}
use Rattle.part_name.specs.declared.part.PartName.{PartName}
use Rattle.part_set.specs.declared.kept.Kept.{Kept}
use Rattle.part_set.specs.Parts.{HasName, IsInBlockOrder, in_order}
use Rattle.part_set.proofs.Items.{item_none}
use Rattle.part_set.proofs.Orders.{order_passed, order_tested}

-- a part that has a name, and its place
pub record IsNamedAt {P : Type 0} (parts : List (Kept P)) (name : PartName) : Type 0 where
  pub kept : Kept P
  pub place : ℕ
  pub within : place < length parts
  pub here : (d : Kept P) → get_or parts place d ≡ kept
  pub named : kept.name ≡ name

pub named_at : {P : Type 0} (parts : List (Kept P)) (name : PartName) → HasName parts name → IsNamedAt parts name
named_at [] name has = absurd (item_none name has)
named_at {P} (k ∷ ks) name has =
    let within : has.0 < length (k ∷ ks) = omega (arith, has.1, length-map (k ∷ ks) (λ (x : Kept P). x.name)) in
    record {
      kept = get_or (k ∷ ks) has.0 k;
      place = has.0;
      within = within;
      here = λ d. get_or_default (k ∷ ks) has.0 d k within;
      named = sym (get_or-map (λ (x : Kept P). x.name) (k ∷ ks) has.0 k name within) ∙ has.2;
    }

in_front_of_itself : (a b : PartName) → a ≡ b → in_order a b ≡ true
in_front_of_itself a b same = subst (λ (x : PartName). in_order a x ≡ true) same (order_tested a a (omega arith) (λ _. omega arith))

pub not_true : (b : Bool) → not b ≡ true → b ≡ false
not_true true is = cc
not_true false is = refl

-- the parts that begin before a part come first
pub before_first : {P : Type 0} (parts : List (Kept P)) (name : PartName) → IsInBlockOrder parts → IsPartitionedBy (λ kept. not (in_order name kept.name)) parts
before_first {P} parts name ordered = λ i j d below inside is.
    elim (cases_lt i j) [
      | inl less ↦ by i j d inside (in_order name (get_or parts i d).name) refl less is
      | inr not_less ↦ (let same : j ≡ i = omega arith in subst (λ (k : ℕ). not (in_order name (get_or parts k d).name) ≡ true) same is)
    ]
  where
    by : (i j : ℕ) (d : Kept P) → j < length parts → (b : Bool) → in_order name (get_or parts i d).name ≡ b → i < j → not (in_order name (get_or parts j d).name) ≡ true → not (in_order name (get_or parts i d).name) ≡ true
    by i j d inside false other less is = ap not other
    by i j d inside true also_in less is = let also = order_passed name (get_or parts i d).name (get_or parts j d).name also_in (ordered i j d less inside).order in cc

-- the rest of the parts, from a place on, which those come before that begin before the name
module _ {P : Type 0} (parts rest : List (Kept P)) (name : PartName) (start : ℕ) (rest_is : rest ≡ drop start parts) where
  rest_long : length rest ≡ length parts - start
  rest_long = ap length rest_is ∙ length-drop start parts

  rest_at : (i : ℕ) (d : Kept P) → get_or rest i d ≡ get_or parts (start + i) d
  rest_at i d = ap (λ (xs : List (Kept P)). get_or xs i d) rest_is ∙ get_or-drop start parts i d

  -- one of the rest has the name
  pub name_behind : (k : Kept P) (i : ℕ) → i < length rest → k ≡ get_or rest i k → k.name ≡ name → HasName parts name
  name_behind k i inside is named =
      let low : start + i < length parts = omega (arith, rest_long) in
      (start + i, omega (arith, length-map parts (λ (x : Kept P). x.name)), get_or-map (λ (x : Kept P). x.name) parts (start + i) k name low ∙ (ap (λ (x : Kept P). x.name) (sym (is ∙ rest_at i k)) ∙ named))

  module _ (front : AllWithin (λ (kept : Kept P). in_order name kept.name ≡ false) parts 0 start) where
    -- none has it, where none of the rest does
    name_nowhere : ((i : ℕ) (d : Kept P) → i < length rest → (get_or rest i d).name ≡ name → ⊥) → HasName parts name → ⊥
    name_nowhere none has =
        let at = named_at parts name has in
        let it = get_or parts at.place at.kept in
        let named : it.name ≡ name = ap (λ (x : Kept P). x.name) (at.here at.kept) ∙ at.named in
        elim (cases_lt at.place start) [
          | inl less ↦ (
              let before = front at.place at.kept (omega arith) less in
              let itself = in_front_of_itself name it.name (sym named) in
              absurd cc
              )
          | inr more ↦ (
              let next : start + (at.place - start) ≡ at.place = omega (arith, more) in
              none (at.place - start) at.kept (omega (arith, rest_long, at.within, more))
              (ap (λ (x : Kept P). x.name) (rest_at (at.place - start) at.kept ∙ ap (λ (k : ℕ). get_or parts k at.kept) next) ∙ named)
              )
        ]

    -- the rest was gone over
    pub gone_over : (i : ℕ) → length rest ≤ i → AllWithin (λ (kept : Kept P). kept.name ≡ name → ⊥) rest 0 i → HasName parts name → ⊥
    gone_over i end none = name_nowhere (λ k d inside. none k d (omega arith) (omega (arith, inside, end)))

    -- or one of it begins after the name
    pub begins_behind : (i : ℕ) (kept : Kept P) → i < length rest → kept ≡ get_or rest i kept → AllWithin (λ (kept : Kept P). kept.name ≡ name → ⊥) rest 0 i
        → in_order kept.name name ≡ false → IsInBlockOrder parts → HasName parts name → ⊥
    begins_behind i kept inside is none behind ordered = name_nowhere (λ k d within_rest named.
        elim (cases_lt k i) [
          | inl less ↦ none k d (omega arith) less named
          | inr not_less ↦ (
              let at = get_or_read rest i kept inside is d ∙ rest_at i d in
              let low : start + k < length parts = omega (arith, rest_long, within_rest) in
              let follows : in_order (get_or parts (start + i) d).name (get_or parts (start + k) d).name ≡ true =
              elim (cases_lt i k) [
                | inl more ↦ (ordered (start + i) (start + k) d (omega (arith, more)) low).order
                | inr not_more ↦ (let same : i ≡ k = omega (arith, not_less, not_more) in in_front_of_itself (get_or parts (start + i) d).name (get_or parts (start + k) d).name (ap (λ (j : ℕ). (get_or parts (start + j) d).name) same))
              ] in
              let there : (get_or parts (start + k) d).name ≡ name = ap (λ (x : Kept P). x.name) (sym (rest_at k d)) ∙ named in
              let here : (get_or parts (start + i) d).name ≡ kept.name = ap (λ (x : Kept P). x.name) (sym at) in
              let is_in : in_order kept.name name ≡ true = subst (λ (x : PartName). in_order x name ≡ true) here (subst (λ (x : PartName). in_order (get_or parts (start + i) d).name x ≡ true) there follows) in
              absurd cc
              )
        ])
