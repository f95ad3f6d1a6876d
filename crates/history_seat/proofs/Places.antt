-- Views by their places, when one is changed or one more comes; and which sessions sit where.
use Rattle.std.proofs.Common.{◌≡◌, ◌≢◌, ◌⊎◌, ◌<◌, ◌∷◌, ◌++◌, [], ℕ, zero, suc, List, length, set, refl, sym, ap, ◌∙◌, subst, ⊎_elim, inl, inr, arith}
use mathlib.Core.Option.{some-injective, some-ne-none}
use mathlib.Core.Logic.{dite}
use native.Mathlib.Decide.{ℕ_discrete}
use Rattle.atomic_table.proofs.Lists.{at_longer, at_set, set_else, set_here}
use Rattle.history_seat.specs.declared.view.Kind.TheVariants as kind
use Rattle.history_seat.specs.declared.view.View.{View}
use Rattle.history_seat.specs.Rule.{Has, SitsAt}

pub has_place : (views : List View) (i : ℕ) (v : View) → Has views i v → i < length views
has_place [] i v e = absurd (some-ne-none v (sym e))
has_place (x ∷ xs) zero v e = omega arith
has_place (x ∷ xs) (suc i) v e = let h = has_place xs i v e in omega arith

pub has_one : (views : List View) (i : ℕ) (v w : View) → Has views i v → Has views i w → v ≡ w
has_one views i v w p q = some-injective v w (sym p ∙ q)

-- a view of a list of one
pub only_view : (x v : View) (i : ℕ) → Has (x ∷ []) i v → (i ≡ 0) × (v ≡ x)
only_view x v zero e = (refl, sym (some-injective x v e))
only_view x v (suc i) e = absurd (some-ne-none v (sym e))

-- at_snoc, with its place
at_end : (views : List View) (r u : View) (j : ℕ) → Has (views ++ r ∷ []) j u → Has views j u ⊎ ((j ≡ length views) × (r ≡ u))
at_end [] r u zero e = inr (refl, some-injective r u e)
at_end [] r u (suc j) e = absurd (some-ne-none u (sym e))
at_end (x ∷ xs) r u zero e = inl e
at_end (x ∷ xs) r u (suc j) e = ⊎_elim (λ t. inl t) (λ t. inr (ap suc t.0, t.1)) (at_end xs r u j e)

module _ (P : ℕ → View → Type 0) where
  -- what holds of the changed view and of all others holds of each
  pub each_set : (views : List View) (by : ℕ) (w : View) → ((j : ℕ) (u : View) → j ≢ by → Has views j u → P j u) → P by w → (j : ℕ) (u : View) → Has (set views by w) j u → P j u
  each_set views by w others here j u at =
      ⊎_elim
      (λ (x : (j ≡ by) × (w ≡ u)). subst (λ (y : ℕ × View). P y.0 y.1) (λ i. (sym x.0 i, x.1 i)) here)
      (λ (x : (j ≢ by) × Has views j u). others j u x.0 x.1)
      (at_set views by j w u at)

  -- the same of one view more
  pub each_more : (views : List View) (r : View) → ((j : ℕ) (u : View) → Has views j u → P j u) → P (length views) r → (j : ℕ) (u : View) → Has (views ++ r ∷ []) j u → P j u
  each_more views r others here j u at =
      ⊎_elim
      (λ (x : Has views j u). others j u x)
      (λ (x : (j ≡ length views) × (r ≡ u)). subst (λ (y : ℕ × View). P y.0 y.1) (λ i. (sym x.0 i, x.1 i)) here)
      (at_end views r u j at)

-- the session at a place of old views
pub record SessionOf (old : List View) (j : ℕ) (u : View) : Type 0 where
  pub view : View
  pub sits : SitsAt old j view
  pub number : u.number ≡ view.number
  pub made : u.made ≡ view.made

-- the sessions of new views are those of old ones, at their places, and none of the new is unopened
pub record Stays (old new : List View) : Type 0 where
  pub from : (j : ℕ) (u : View) → SitsAt new j u → SessionOf old j u
  pub to : (j : ℕ) (u : View) → SitsAt old j u → (x : View) × SitsAt new j x × (x.number ≡ u.number)
  pub opened : (j : ℕ) (u : View) → Has new j u → u.kind ≡ kind.Unopened → ⊥

pub stays_itself : (views : List View) → ((j : ℕ) (u : View) → Has views j u → u.kind ≡ kind.Unopened → ⊥) → Stays views views
stays_itself views opened = record {
  from = λ j u at. record { view = u; sits = at; number = refl; made = refl };
  to = λ j u at. (u, at, refl);
  opened = opened;
}

pub stays_set : (views : List View) (by : ℕ) (v w : View) → Has views by v → w.kind ≡ v.kind → w.number ≡ v.number → w.made ≡ v.made
    → ((j : ℕ) (u : View) → Has views j u → u.kind ≡ kind.Unopened → ⊥) → Stays views (set views by w)
stays_set views by v w at same number made opened = record {
  from = λ j u sits. each_set (λ i x. x.kind ≡ kind.Session → SessionOf views i x) views by w
      (λ i x _ has is. record { view = x; sits = (has, is); number = refl; made = refl })
      (λ is. record { view = v; sits = (at, sym same ∙ is); number = number; made = made })
      j u sits.0 sits.1;
  to = λ j u sits. dite (ℕ_discrete j by)
      (λ (here : j ≡ by).
      let is = has_one views by u v (subst (λ i. Has views i u) here sits.0) at in
      (w, (subst (λ i. Has (set views by w) i w) (sym here) (set_here views by w (has_place views by v at)), same ∙ ap (λ x. x.kind) (sym is) ∙ sits.1), number ∙ ap (λ x. x.number) (sym is)))
      (λ (else : j ≢ by). (u, (set_else views by j w else ∙ sits.0, sits.1), refl));
  opened = each_set (λ i x. x.kind ≡ kind.Unopened → ⊥) views by w (λ i x _ has. opened i x has) (λ is. opened by v at (sym same ∙ is));
}

-- a note more
pub stays_noted : (old new : List View) (r : View) → Stays old new → r.kind ≡ kind.Note → Stays old (new ++ r ∷ [])
stays_noted old new r stays note = record {
  from = λ j u sits. each_more (λ i x. x.kind ≡ kind.Session → SessionOf old i x) new r (λ i x has is. stays.from i x (has, is)) (λ is. absurd (cc)) j u sits.0 sits.1;
  to = λ j u sits. let t = stays.to j u sits in (t.0, (at_longer new (r ∷ []) j t.0 t.1.0, t.1.1), t.2);
  opened = each_more (λ i x. x.kind ≡ kind.Unopened → ⊥) new r stays.opened (λ is. absurd (cc));
}

-- a note that becomes another one
pub stays_spent : (old new : List View) (place : ℕ) (w r : View) → Stays old new → Has new place w → w.kind ≡ kind.Note → r.kind ≡ kind.Note → Stays old (set new place r)
stays_spent old new place w r stays at note spent = record {
  from = λ j u sits. each_set (λ i x. x.kind ≡ kind.Session → SessionOf old i x) new place r (λ i x _ has is. stays.from i x (has, is)) (λ is. absurd (cc)) j u sits.0 sits.1;
  to = λ j u sits.
      let t = stays.to j u sits in
      let else : j ≢ place = λ here. absurd (let is = has_one new place t.0 w (subst (λ i. Has new i t.0) here t.1.0) at in let k = ap (λ x. x.kind) is in let s = t.1.1 in cc) in
      (t.0, (set_else new place j r else ∙ t.1.0, t.1.1), t.2);
  opened = each_set (λ i x. x.kind ≡ kind.Unopened → ⊥) new place r (λ i x _ has. stays.opened i x has) (λ is. absurd (cc));
}
