-- Entries of a history at their places, as it grows.
use Rattle.std.proofs.Common.{◌≡◌, [], ◌∷◌, ◌++◌, sym, ap, ap₂, ◌∙◌, subst, append_assoc, inl, inr, ◌⊎◌}
use Rattle.std.proofs.lemmas.List.Elements.{Contains-append_right}
use Rattle.std.specs.List.{Contains as HasItem}
use Rattle.mt_values.specs.declared.command.Entry.{Entry}
use Rattle.table_core.specs.mt_model.History.{History}
use Rattle.table_core.proofs.PartSetItems.{item_first}
use Rattle.root_store.specs.Roots.{PlacedEntry}

-- it is among the entries
pub placed_has : (h : History) (p : PlacedEntry h) → HasItem h p.entry
placed_has h p = subst (λ (es : History). HasItem es p.entry) (sym p.is) (Contains-append_right p.before (p.entry ∷ p.after) p.entry (item_first p.entry p.after))

-- it stays where it is when others come after the history
abbrev pub placed_on : (h more : History) → PlacedEntry h → PlacedEntry (h ++ more)
placed_on h more p = record {
  before = p.before;
  entry = p.entry;
  after = p.after ++ more;
  is = ap (λ (es : History). es ++ more) p.is ∙ append_assoc p.before (p.entry ∷ p.after) more;
}

-- none is in a history without entries
pub none_placed : (before : History) (e : Entry) (after : History) → [] ≡ before ++ e ∷ after → ⊥
none_placed [] e after is = cc
none_placed (b ∷ before) e after is = cc

-- where one entry came after a history, an entry was in that before, or it is the new one
pub placed_push : (h : History) (x : Entry) (before : History) (e : Entry) (after : History) → h ++ x ∷ [] ≡ before ++ e ∷ after → ((rest : History) × (h ≡ before ++ e ∷ rest)) ⊎ (x ≡ e)
placed_push [] x [] e after is = inr cc
placed_push [] x (b ∷ before) e after is = let tail : [] ≡ before ++ e ∷ after = cc in absurd (none_placed before e after tail)
placed_push (y ∷ h) x [] e after is = let same : y ≡ e = cc in inl (h, ap (λ (z : Entry). z ∷ h) same)
placed_push (y ∷ h) x (b ∷ before) e after is =
    let same : y ≡ b = cc in
    let tail : h ++ x ∷ [] ≡ before ++ e ∷ after = cc in
    by same (placed_push h x before e after tail)
  where
    by : y ≡ b → ((rest : History) × (h ≡ before ++ e ∷ rest)) ⊎ (x ≡ e) → ((rest : History) × (y ∷ h ≡ b ∷ (before ++ e ∷ rest))) ⊎ (x ≡ e)
    by same (inl found) = inl (found.0, ap₂ (λ (z : Entry) (es : History). z ∷ es) same found.1)
    by same (inr new) = inr new
