-- What assignments make of one row: which columns stay, and what they read.
use Rattle.std.proofs.Common.{◌≡◌, ℕ, zero, suc, Bool, true, false, List, [], ◌∷◌, length, Option, None, Some, slice_get, set, fold, refl, sym, ap, ◌∙◌, arith}
use Rattle.std.specs.List.{All}
use Rattle.std.specs.Option.{option_map}
use Rattle.std.proofs.lemmas.List.Elements.{All-head, All-tail, All-weaker}
use Rattle.mt_values.specs.declared.change.Assigned.{Assigned}
use Rattle.mt_values.specs.declared.change.Assigned.TheVariants as assigned
use Rattle.mt_values.specs.declared.change.Assignment.{Assignment}
use Rattle.mt_values.specs.declared.value.Value.{Value}
use Rattle.mt_values.specs.Changes.{updated, value_for, with_value}
use Rattle.mt_values.specs.Sums.{less, plus}
use Rattle.mt_values.specs.Values.{Row}
use Rattle.mt_values.proofs.SetItems.{put_apart, put_length}
use Rattle.mt_model.specs.Mutations.{reads_of}
use Rattle.rule_law.proofs.Letting.{IsFree}

-- ---- a value that is set

set_alike : (xs ys : Row) (i j : ℕ) (v : Value) → length xs ≡ length ys → slice_get xs j ≡ slice_get ys j → slice_get (set xs i v) j ≡ slice_get (set ys i v) j
set_alike [] [] i j v even same = refl
set_alike [] (y ∷ ys) i j v even same = absurd (omega (arith, even))
set_alike (x ∷ xs) [] i j v even same = absurd (omega (arith, even))
set_alike (x ∷ xs) (y ∷ ys) zero zero v even same = refl
set_alike (x ∷ xs) (y ∷ ys) zero (suc j) v even same = same
set_alike (x ∷ xs) (y ∷ ys) (suc i) zero v even same = same
set_alike (x ∷ xs) (y ∷ ys) (suc i) (suc j) v even same = set_alike xs ys i j v (omega (arith, even)) same

put_alike : (a b : Row) (i j : ℕ) (o : Option Value) → length a ≡ length b → slice_get a j ≡ slice_get b j → slice_get (with_value a i o) j ≡ slice_get (with_value b i o) j
put_alike a b i j None even same = same
put_alike a b i j (Some v) even same = set_alike a b i j v even same

-- ---- assignments, one after another

abbrev pub assigned_to : Row → Row → List Assignment → Row
assigned_to row new puts = fold (λ (now : Row) (a : Assignment). with_value now a.column (value_for row a.value)) new puts

length_to : (row new : Row) (puts : List Assignment) → length (assigned_to row new puts) ≡ length new
length_to row new [] = refl
length_to row new (a ∷ puts) = length_to row (with_value new a.column (value_for row a.value)) puts ∙ put_length new a.column (value_for row a.value)

pub updated_length : (puts : List Assignment) (row : Row) → length (updated puts row) ≡ length row
updated_length puts row = length_to row row puts

module _ (protected : ℕ → Bool) where
  -- no assignment assigns a column that is protected
  abbrev pub AssignFree : List Assignment → Type 0
  AssignFree puts = All (λ (a : Assignment). protected a.column ≡ false) puts

  pub assign_free : (puts : List Assignment) → All (IsFree protected) puts → AssignFree puts
  assign_free puts free = All-weaker (IsFree protected) (λ (a : Assignment). protected a.column ≡ false) (λ a f. f.free) puts free

  apart_from : (i j : ℕ) → protected i ≡ false → protected j ≡ true → i ≡ j → ⊥
  apart_from i j free held same = clash (sym free ∙ (ap protected same ∙ held))
    where
      clash : false ≡ true → ⊥
      clash e = cc

  kept_to : (row new : Row) (puts : List Assignment) (place : ℕ) → AssignFree puts → protected place ≡ true → slice_get (assigned_to row new puts) place ≡ slice_get new place
  kept_to row new [] place free held = refl
  kept_to row new (a ∷ puts) place free held =
      kept_to row (with_value new a.column (value_for row a.value)) puts place (All-tail (λ (x : Assignment). protected x.column ≡ false) a puts free) held
      ∙ put_apart new a.column place (value_for row a.value) (apart_from a.column place (All-head (λ (x : Assignment). protected x.column ≡ false) a puts free) held)

  -- a protected column is as it was
  pub updated_kept : (puts : List Assignment) (row : Row) (place : ℕ) → AssignFree puts → protected place ≡ true → slice_get (updated puts row) place ≡ slice_get row place
  updated_kept puts row place free held = kept_to row row puts place free held

  -- two rows agree in the columns that are not protected
  abbrev pub Agree : Row → Row → Type 0
  Agree a b = (place : ℕ) → protected place ≡ false → slice_get a place ≡ slice_get b place

  -- what is read of both is one
  pub reads_same : (a b : Row) (x : Assigned) → Agree a b → All (λ place. protected place ≡ false) (reads_of x) → value_for a x ≡ value_for b x
  reads_same a b (assigned.Literal v) same reads = refl
  reads_same a b (assigned.Column place) same reads = same place (All-head (λ p. protected p ≡ false) place [] reads)
  reads_same a b (assigned.Plus place number) same reads = ap (option_map (λ v. plus v number)) (same place (All-head (λ p. protected p ≡ false) place [] reads))
  reads_same a b (assigned.Minus place number) same reads = ap (option_map (λ v. less v number)) (same place (All-head (λ p. protected p ≡ false) place [] reads))

  agree_to : (a b new now : Row) (puts : List Assignment) → Agree a b → Agree new now → length new ≡ length now → All (IsFree protected) puts → Agree (assigned_to a new puts) (assigned_to b now puts)
  agree_to a b new now [] reads same even free = same
  agree_to a b new now (x ∷ puts) reads same even free =
      let own = All-head (IsFree protected) x puts free in
      let one = reads_same a b x.value reads own.reads in
      agree_to a b (with_value new x.column (value_for a x.value)) (with_value now x.column (value_for b x.value)) puts reads
      (λ place loose. ap (λ o. slice_get (with_value new x.column o) place) one ∙ put_alike new now x.column place (value_for b x.value) even (same place loose))
      (put_length new x.column (value_for a x.value) ∙ (even ∙ sym (put_length now x.column (value_for b x.value))))
      (All-tail (IsFree protected) x puts free)

  -- rows that agree in these columns do so after assignments that assign and read no other
  pub updated_agree : (puts : List Assignment) (a b : Row) → All (IsFree protected) puts → length a ≡ length b → Agree a b → Agree (updated puts a) (updated puts b)
  updated_agree puts a b free even same = agree_to a b a b puts same same even free
