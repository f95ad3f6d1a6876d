-- What a crash may leave of names that are published and settled.
use Rattle.std.proofs.Common.{◌≡◌, ◌⊎◌, inl, inr, ℕ, ◌+◌, ◌<◌, Bool, true, false, cond, List, [], ◌∷◌, ◌++◌, refl, sym, ap, ◌∙◌, subst, arith, append_assoc, append-nil, nat_lt, ◌==◌}
use Rattle.std.specs.BTreeMap.{insert_entry}
use Rattle.std.specs.Cmp.Lexicographic.{slice_cmp}
use Rattle.std.specs.Ordering.{match_ordering, nat_cmp}
use Rattle.std.specs.declared.cmp.Ordering.{Ordering}
use Rattle.std.specs.declared.cmp.Ordering.TheVariants.{Less, Equal, Greater}
use Rattle.std.proofs.lemmas.Bool.{eqb-true, ltb-true}
use Rattle.mt_outside.specs.declared.disk.Change.{Change}
use Rattle.mt_outside.specs.declared.disk.Change.TheVariants.{Publish}
use Rattle.mt_outside.specs.Files.{Files}
use Rattle.mt_outside.specs.Disk.{AllBy, Image, IsStamped, MayLead, Names, Survive, Told, WithPublished, at_clock, before_clock, changed, names_after, names_of, with_change}
use Rattle.mt_outside.proofs.Changes.{at_clock-none, at_clock-with_change, before_clock-all, before_clock-with_change}

-- ---- marks

pub all_by-append : (xs ys : Told) (clock : ℕ) → AllBy clock xs → AllBy clock ys → AllBy clock (xs ++ ys)
all_by-append [] ys clock by more = more
all_by-append (x ∷ xs) ys clock by more = (by.0, all_by-append xs ys clock by.1 more)

settled_by : (clock : ℕ) (told : Told) → AllBy clock (before_clock clock told)
settled_by clock [] = tt
settled_by clock (s ∷ ss) = by (settled_by clock ss) (nat_lt s.clock clock) refl
  where
    by : AllBy clock (before_clock clock ss) → (b : Bool) → nat_lt s.clock clock ≡ b → AllBy clock (cond b (s ∷ before_clock clock ss) (before_clock clock ss))
    by rest true is = (let less : s.clock < clock = ltb-true s.clock clock is in omega (arith, less), rest)
    by rest false is = rest

unsettled_by : (clock : ℕ) (told : Told) → AllBy clock (at_clock clock told)
unsettled_by clock [] = tt
unsettled_by clock (s ∷ ss) = by (unsettled_by clock ss) (s.clock == clock) refl
  where
    by : AllBy clock (at_clock clock ss) → (b : Bool) → (s.clock == clock) ≡ b → AllBy clock (cond b (s ∷ at_clock clock ss) (at_clock clock ss))
    by rest true is = (let same : s.clock ≡ clock = eqb-true s.clock clock is in omega (arith, same), rest)
    by rest false is = rest

-- no change is stamped with a mark that is still to come
pub stamped_by : (told : Told) (clock : ℕ) → IsStamped clock told → AllBy clock told
stamped_by told clock stamped = subst (AllBy clock) (sym stamped) (all_by-append (before_clock clock told) (at_clock clock told) clock (settled_by clock told) (unsettled_by clock told))

-- nor is one more change
pub stamped_change : (told : Told) (clock : ℕ) (change : Change Files) → IsStamped clock told → IsStamped clock (with_change clock change told)
stamped_change told clock change stamped =
    let last : Told = record { clock = clock; change = change } ∷ [] in
    rw (before_clock-with_change told clock clock change (omega arith), at_clock-with_change told clock change)
    (ap (λ (ss : Told). ss ++ last) stamped ∙ append_assoc (before_clock clock told) (at_clock clock told) last)

-- nor are they, once the mark was raised
pub stamped_sync : (told : Told) (clock : ℕ) → IsStamped clock told → IsStamped (clock + 1) told
stamped_sync told clock stamped =
    let by = stamped_by told clock stamped in
    rw (before_clock-all told clock by, at_clock-none told clock by) (sym (append-nil told))

-- ---- names as they read

pub names_after-append : (names : Names) (xs ys : Told) → names_after names (xs ++ ys) ≡ names_after (names_after names xs) ys
names_after-append names [] ys = refl
names_after-append names (x ∷ xs) ys = names_after-append (changed names x.change) xs ys

lead_all : (from to : Names) (ss : Told) → Survive (names_after from ss) to → MayLead from ss to
lead_all from to [] kept = kept
lead_all from to (s ∷ ss) kept = inr (lead_all (changed from s.change) to ss kept)

-- the names as they read are what a crash now may leave
pub image_as_read : (told : Told) (clock : ℕ) (names : Names) → IsStamped clock told → Survive (names_of told) names → Image told clock names
image_as_read told clock names stamped kept =
    lead_all (names_after [] (before_clock clock told)) names (at_clock clock told)
    (subst (λ (ns : Names). Survive ns names) (ap (names_after []) stamped ∙ names_after-append [] (before_clock clock told) (at_clock clock told)) kept)

-- what a crash may leave after a sync, it might have left before it
pub image_synced : (told : Told) (clock : ℕ) (names : Names) → IsStamped clock told → Image told (clock + 1) names → Image told clock names
image_synced told clock names stamped image =
    let by = stamped_by told clock stamped in
    image_as_read told clock names stamped (rw (before_clock-all told clock by, at_clock-none told clock by) at image)

-- ---- a name that is published

-- a crash leaves the others as they may become without it
pub survive_inserted : (old to : Names) (name : List ℕ) (files : Files) → Survive (insert_entry (slice_cmp nat_cmp) old name files) to → WithPublished (Survive old) name files to
survive_inserted [] [] name files kept = absurd kept
survive_inserted [] (n ∷ []) name files kept =
    record { old = []; left = n.1; before = tt; become = kept.1; is = ap (λ (k : List ℕ). (k, n.1) ∷ []) (sym kept.0) }
survive_inserted [] (n ∷ m ∷ to) name files kept = absurd kept.2
survive_inserted (o ∷ old) to name files kept = by (survive_inserted old) (slice_cmp nat_cmp name o.0) refl to kept
  where
    by : ((to : Names) (name : List ℕ) (files : Files) → Survive (insert_entry (slice_cmp nat_cmp) old name files) to → WithPublished (Survive old) name files to) → (c : Ordering) → slice_cmp nat_cmp name o.0 ≡ c → (to : Names)
        → Survive (match_ordering c ((name, files) ∷ o ∷ old) ((o.0, files) ∷ old) (o ∷ insert_entry (slice_cmp nat_cmp) old name files)) to → WithPublished (Survive (o ∷ old)) name files to
    by more Less is [] kept = absurd kept
    by more Less is (n ∷ []) kept = absurd kept.2
    by more Less is (n ∷ m ∷ to) kept = record {
      old = m ∷ to;
      left = n.1;
      before = kept.2;
      become = kept.1;
      is =
          let lower : slice_cmp nat_cmp name m.0 ≡ Less = ap (slice_cmp nat_cmp name) (sym kept.2.0) ∙ is in
          rw lower (ap (λ (k : List ℕ). (k, n.1) ∷ m ∷ to) (sym kept.0));
    }
    by more Equal is [] kept = absurd kept
    by more Equal is (n ∷ to) kept = record {
      old = o ∷ to;
      left = n.1;
      before = (refl, record { kept = λ file synced. refl }, kept.2);
      become = kept.1;
      is = rw is (ap (λ (k : List ℕ). (k, n.1) ∷ to) (sym kept.0));
    }
    by more Greater is [] kept = absurd kept
    by more Greater is (n ∷ to) kept =
        let rest = more to name files kept.2 in
        record {
          old = n ∷ rest.old;
          left = rest.left;
          before = (kept.0, kept.1, rest.before);
          become = rest.become;
          is =
              let above : slice_cmp nat_cmp name n.0 ≡ Greater = ap (slice_cmp nat_cmp name) (sym kept.0) ∙ is in
              rw above (ap (λ (ns : Names). n ∷ ns) rest.is);
        }

-- it has happened or not
lead_published : (from to : Names) (ss : Told) (clock : ℕ) (name : List ℕ) (files : Files) → MayLead from (ss ++ record { clock = clock; change = Publish name files } ∷ []) to
    → MayLead from ss to ⊎ WithPublished (MayLead from ss) name files to
lead_published from to [] clock name files (inl kept) = inl kept
lead_published from to [] clock name files (inr kept) = inr (survive_inserted from to name files kept)
lead_published from to (s ∷ ss) clock name files (inl leads) = elim (lead_published from to ss clock name files leads) [
  | inl old ↦ inl (inl old)
  | inr new ↦ inr (record { old = new.old; left = new.left; before = inl new.before; become = new.become; is = new.is })
]
lead_published from to (s ∷ ss) clock name files (inr leads) = elim (lead_published (changed from s.change) to ss clock name files leads) [
  | inl old ↦ inl (inr old)
  | inr new ↦ inr (record { old = new.old; left = new.left; before = inr new.before; become = new.become; is = new.is })
]

-- what a crash may leave after a publish is what it might have left before it, or that with the name
pub image_published : (told : Told) (clock : ℕ) (name : List ℕ) (files : Files) (names : Names) → Image (with_change clock (Publish name files) told) clock names
    → Image told clock names ⊎ WithPublished (Image told clock) name files names
image_published told clock name files names image =
    lead_published (names_after [] (before_clock clock told)) names (at_clock clock told) clock name files
    (rw (before_clock-with_change told clock clock (Publish name files) (omega arith), at_clock-with_change told clock (Publish name files)) at image)
