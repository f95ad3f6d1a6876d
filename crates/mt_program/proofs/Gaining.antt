-- What annals gained by statements.
use Rattle.std.proofs.Common.{◌≡◌, inl, inr, ◌≤◌, ◌++◌, ◌∷◌, ℕ, List, [], length, Option, Some, Ok, Err, ap, sym, refl, subst, ◌∙◌, append-nil, append_assoc, arith}
use Rattle.std.proofs.lemmas.List.Elements.{All-nil}
use Rattle.mt_values.specs.declared.annals.Noted.{Noted}
use Rattle.mt_values.specs.Annals.{Told}
use Rattle.session.specs.mt_model.History.{History}
use Rattle.session.specs.mt_model.Session.{SessionGives, Unanswered}
use Rattle.session.proofs.MtModelGrowing.{stays}
use Rattle.session.specs.replies.Foreseen.{history}
use Rattle.session.proofs.RepliesEnds.{length_history}
use Rattle.mt_program.specs.Crashes.{IsGainedBy, MayBeBegunBy}
use Rattle.mt_program.specs.Courses.{Item}

-- ---- statements that did not run

idle : (h : History) (s : Item) (to : ℕ) → to ≤ length h → Unanswered h 0 s to to
idle h (Ok said) to le = inl (stays h 0 to le)
idle h (Err why) to le = stays h 0 to le

gives_idle : (h : History) (rest : List Item) (to : ℕ) → to ≤ length h → SessionGives h 0 rest to to
gives_idle h [] to le = refl
gives_idle h (s ∷ rest) to le = (to, idle h s to le, gives_idle h rest to le)

gives_join : (h : History) (ran rest : List Item) (from mid to : ℕ) → SessionGives h 0 ran from mid → SessionGives h 0 rest mid to → SessionGives h 0 (ran ++ rest) from to
gives_join h [] rest from mid to first later = subst (λ (p : ℕ). SessionGives h 0 rest p to) (sym first) later
gives_join h (s ∷ ran) rest from mid to first later = (first.0, first.1, gives_join h ran rest first.0 mid to first.2 later)

-- ---- what may be begun

-- statements after those that ran began nothing
may_begin_more : (first now : Told) (ran rest : List Item) → MayBeBegunBy first now ran → MayBeBegunBy first now (ran ++ rest)
may_begin_more first now ran rest (inl same) = inl same
may_begin_more first now ran rest (inr (inl none)) = inr (inl none)
may_begin_more first now ran rest (inr (inr (c, is, of))) = inr (inr (
  c,
  is,
  record { before = of.before; said = of.said; after = of.after ++ rest; split = ap (λ (xs : List Item). xs ++ rest) of.split ∙ append_assoc of.before (of.said ∷ of.after) rest; place = of.place; gives = of.gives; next = of.next },
))

-- ---- what annals gained

-- nothing was gained
pub gained_nothing : (annals : Option Told) (kept : Told) → annals ≡ Some kept → IsGainedBy [] annals kept
gained_nothing annals kept is = record { now = kept; annals_is = is; more = []; more_is = sym (append-nil kept.list); sessions = All-nil (λ (n : Noted). n.entry.session ≡ 0); gives = refl; begun = inl (refl, refl) }

-- what statements gained is gained by these and more
pub gained_more : (first : Told) (ran rest : List Item) (annals : Option Told) → IsGainedBy ran annals first → IsGainedBy (ran ++ rest) annals first
gained_more first ran rest annals was = record {
  now = was.now;
  annals_is = was.annals_is;
  more = was.more;
  more_is = was.more_is;
  sessions = was.sessions;
  gives = gives_join (history was.now) ran rest (length first.list) (length was.now.list) (length was.now.list) was.gives (gives_idle (history was.now) rest (length was.now.list) (omega (arith, length_history was.now)));
  begun = may_begin_more first was.now ran rest was.begun;
}
