-- Where a text may have come to by the replies of statements.
use Rattle.std.proofs.Common.{◌≡◌, ◌⊎◌, ◌↔◌, ℕ, ◌+◌, ◌-◌, ◌<◌, ◌≤◌, Bool, true, IfOk, List, [], ◌∷◌, ◌++◌, All, Some, None, Result, Ok, Err, drop, get_or, length, take, refl, sym, ap, ◌∙◌, subst, inl, inr, arith, length-append, length-drop}
use Rattle.std.specs.List.{Contains}
use Rattle.std.proofs.Math.Seq.{take-add}
use Rattle.std.proofs.lemmas.List.{at_drop_more, drop-drop, length-take-le, take_all, take_more}
use Rattle.std.proofs.lemmas.List.Elements.{All-drop, All-get_or}
use Rattle.mt_base.specs.declared.memory.NoMemory.{NoMemory}
use Rattle.mt_values.specs.declared.command.Entry.{Entry}
use Rattle.mt_values.specs.declared.statement.Cause.{Cause}
use Rattle.mt_values.specs.declared.statement.Statement.{Statement}
use Rattle.part_history.specs.mt_model.History.{History, FewInserts}
use Rattle.part_history.specs.mt_model.Script.{HasNoExplain, IsNoExplain, OwnEntries, ScriptRun}
use Rattle.part_history.specs.mt_model.Session.{AddsNothing, SessionRun, Takes}
use Rattle.part_history.proofs.MtModelOneWay.{stays_there}
use Rattle.part_history.proofs.MtModelPlaces.{takes_places}
use Rattle.mt_plain.specs.Outcomes.{AddsExactly, AreExactly, IsExactly}
use Rattle.mt_plain.specs.Plain.{Grows, IsRepliedIn, OneStandsFrom, StandsFrom, calm}
use Rattle.mt_plain.proofs.Exactly.{contains_cases, contains_first, contains_none}
use Rattle.mt_plain.proofs.Merging.{adds_then, drop_front, more_cases, more_here, more_left, take_front}
use Rattle.mt_plain.proofs.Steps.{own_more, ran_all, ran_more}

-- ---- a reply in a text

size_of : (text : List ℕ) (at : ℕ) (reply : List ℕ) (to : ℕ) → at ≤ length text → StandsFrom text at reply to → to ≡ at + length reply
size_of text at reply to low s =
    let within : to ≤ length text = s.within in
    let long : length (take to text) ≡ length (take at text ++ reply) = ap length s.read in
    omega (arith, length-take-le to text within, length-take-le at text low, long, length-append (take at text) reply)

-- the text from a place on begins with the reply
stands_there : (text : List ℕ) (at : ℕ) (reply rest : List ℕ) → at ≤ length text → drop at text ≡ reply ++ rest → StandsFrom text at reply (at + length reply)
stands_there text at reply rest low is = record {
  read = take-add at (length reply) text ∙ ap (λ (zs : List ℕ). take at text ++ zs) (ap (take (length reply)) is ∙ take_front reply rest);
  within = let long : length (drop at text) ≡ length (reply ++ rest) = ap length is in omega (arith, low, length-drop at text, length-append reply rest, long);
}

-- it does not, where less is left, or what is left begins otherwise
pub too_short : (text : List ℕ) (at : ℕ) (reply : List ℕ) → at ≤ length text → length text - at < length reply → IsExactly None (StandsFrom text at reply)
too_short text at reply low short to = (λ e. cc, λ s. absurd (never s))
  where
    never : StandsFrom text at reply to → ⊥
    never s = let within : to ≤ length text = s.within in omega (arith, size_of text at reply to low s)

module _ (text : List ℕ) (at end : ℕ) (part reply : List ℕ) (low : at ≤ length text) (end_is : end ≡ at + length reply) (fits : end ≤ length text) (part_is : part ≡ take (end - at) (drop at text)) where
  part_read : take end text ≡ take at text ++ part
  part_read =
      let sum : at + (end - at) ≡ end = omega (arith, end_is) in
      ap (λ (n : ℕ). take n text) (sym sum) ∙ (take-add at (end - at) text ∙ ap (λ (zs : List ℕ). take at text ++ zs) (sym part_is))

  pub ends_here : part ≡ reply → IsExactly (Some end) (StandsFrom text at reply)
  ends_here same to = (λ e. into e, λ s. ap Some (end_is ∙ sym (size_of text at reply to low s)))
    where
      into : Some end ≡ Some to → StandsFrom text at reply to
      into e = let is : end ≡ to = cc in subst (StandsFrom text at reply) is (record { read = part_read ∙ ap (λ (zs : List ℕ). take at text ++ zs) same; within = fits })

  pub ends_nowhere : (part ≡ reply → ⊥) → IsExactly None (StandsFrom text at reply)
  ends_nowhere other to = (λ e. cc, λ s. absurd (other (same s)))
    where
      same : StandsFrom text at reply to → part ≡ reply
      same s =
          let to_is : to ≡ end = size_of text at reply to low s ∙ sym end_is in
          let read : take at text ++ part ≡ take at text ++ reply = sym part_read ∙ (ap (λ (n : ℕ). take n text) (sym to_is) ∙ s.read) in
          sym (drop_front (take at text) part) ∙ (ap (drop (length (take at text))) read ∙ drop_front (take at text) reply)

-- ---- the places that are added

pub adds_at_end : (old new : List ℕ) (end : ℕ) (P : ℕ → Type 0) → IsExactly (Some end) P → AddsExactly old new (λ x. end ≡ x) → AddsExactly old new P
adds_at_end old new end P exact adds x = (λ h. into ((adds x).0 h), λ h. (adds x).1 (back h))
  where
    into : Contains old x ⊎ (end ≡ x) → Contains old x ⊎ P x
    into (inl h) = inl h
    into (inr e) = inr ((exact x).0 (ap Some e))

    back : Contains old x ⊎ P x → Contains old x ⊎ (end ≡ x)
    back (inl h) = inl h
    back (inr p) = let is : Some end ≡ Some x = (exact x).1 p in let same : end ≡ x = cc in inr same

pub adds_nowhere : (xs : List ℕ) (P : ℕ → Type 0) → IsExactly None P → AddsExactly xs xs P
adds_nowhere xs P exact x = (λ h. inl h, λ h. by h)
  where
    by : Contains xs x ⊎ P x → Contains xs x
    by (inl h) = h
    by (inr p) = let is : None ≡ Some x = (exact x).1 p in cc

-- one reply more, from one place
pub no_reply_yet : (xs : List ℕ) (text : List ℕ) (at : ℕ) (replies : List (List ℕ)) → AddsExactly xs xs (OneStandsFrom text (at ∷ []) (take 0 replies))
no_reply_yet xs text at replies x = (λ h. inl h, λ h. by h)
  where
    by : Contains xs x ⊎ OneStandsFrom text (at ∷ []) [] x → Contains xs x
    by (inl h) = h
    by (inr s) = absurd (contains_none s.reply s.one)

pub reply_more : (old now new : List ℕ) (text : List ℕ) (at : ℕ) (replies : List (List ℕ)) (i : ℕ) (d reply : List ℕ) → i < length replies → reply ≡ get_or replies i d → AddsExactly old now (OneStandsFrom text (at ∷ []) (take i replies))
    → AddsExactly now new (StandsFrom text at reply) → AddsExactly old new (OneStandsFrom text (at ∷ []) (take (i + 1) replies))
reply_more old now new text at replies i d reply below is before adds =
    adds_then old now new (OneStandsFrom text (at ∷ []) (take i replies)) (StandsFrom text at reply) (OneStandsFrom text (at ∷ []) (take (i + 1) replies)) before adds
    (λ to s. record { at = s.at; reply = s.reply; begun = s.begun; one = more_left replies i d s.reply below s.one; stands = s.stands })
    (λ to s. record { at = at; reply = reply; begun = contains_first at []; one = more_here replies i d reply below (sym is); stands = s }) either
  where
    place : (from : ℕ) → Contains (at ∷ []) from → at ≡ from
    place from h = one (contains_cases at [] from h)
      where
        one : (at ≡ from) ⊎ Contains [] from → at ≡ from
        one (inl e) = e
        one (inr h) = absurd (contains_none from h)

    either : (to : ℕ) → OneStandsFrom text (at ∷ []) (take (i + 1) replies) to → OneStandsFrom text (at ∷ []) (take i replies) to ⊎ StandsFrom text at reply to
    either to s = by (more_cases replies i d s.reply below s.one)
      where
        by : Contains (take i replies) s.reply ⊎ (get_or replies i d ≡ s.reply) → OneStandsFrom text (at ∷ []) (take i replies) to ⊎ StandsFrom text at reply to
        by (inl h) = inl (record { at = s.at; reply = s.reply; begun = s.begun; one = h; stands = s.stands })
        by (inr e) =
            inr (subst (λ (n : ℕ). StandsFrom text n reply to) (sym (place s.at s.begun)) (subst (λ (r : List ℕ). StandsFrom text s.at r to) (sym (is ∙ e)) s.stands))

-- one place more
pub no_place_yet : (xs : List ℕ) (text : List ℕ) (places : List ℕ) (replies : List (List ℕ)) → AddsExactly xs xs (OneStandsFrom text (take 0 places) replies)
no_place_yet xs text places replies x = (λ h. inl h, λ h. by h)
  where
    by : Contains xs x ⊎ OneStandsFrom text [] replies x → Contains xs x
    by (inl h) = h
    by (inr s) = absurd (contains_none s.at s.begun)

pub place_more : (old now new : List ℕ) (text places : List ℕ) (replies : List (List ℕ)) (i d at : ℕ) → i < length places → at ≡ get_or places i d → AddsExactly old now (OneStandsFrom text (take i places) replies) → AddsExactly now new (OneStandsFrom text (at ∷ []) replies)
    → AddsExactly old new (OneStandsFrom text (take (i + 1) places) replies)
place_more old now new text places replies i d at below is before adds =
    adds_then old now new (OneStandsFrom text (take i places) replies) (OneStandsFrom text (at ∷ []) replies) (OneStandsFrom text (take (i + 1) places) replies) before adds
    (λ to s. record { at = s.at; reply = s.reply; begun = more_left places i d s.at below s.begun; one = s.one; stands = s.stands })
    (λ to s. record { at = s.at; reply = s.reply; begun = more_here places i d s.at below (sym is ∙ place s.at s.begun); one = s.one; stands = s.stands }) either
  where
    place : (from : ℕ) → Contains (at ∷ []) from → at ≡ from
    place from h = one (contains_cases at [] from h)
      where
        one : (at ≡ from) ⊎ Contains [] from → at ≡ from
        one (inl e) = e
        one (inr h) = absurd (contains_none from h)

    either : (to : ℕ) → OneStandsFrom text (take (i + 1) places) replies to → OneStandsFrom text (take i places) replies to ⊎ OneStandsFrom text (at ∷ []) replies to
    either to s = by (more_cases places i d s.at below s.begun)
      where
        by : Contains (take i places) s.at ⊎ (get_or places i d ≡ s.at) → OneStandsFrom text (take i places) replies to ⊎ OneStandsFrom text (at ∷ []) replies to
        by (inl h) = inl (record { at = s.at; reply = s.reply; begun = h; one = s.one; stands = s.stands })
        by (inr e) = inr (record { at = s.at; reply = s.reply; begun = subst (Contains (at ∷ [])) (is ∙ e) (contains_first at []); one = s.one; stands = s.stands })

pub places_whole : (found : List ℕ) (text places : List ℕ) (replies : List (List ℕ)) → AddsExactly [] found (OneStandsFrom text places replies) → AreExactly found (OneStandsFrom text places replies)
places_whole found text places replies adds x = (λ h. by ((adds x).0 h), λ s. (adds x).1 (inr s))
  where
    by : Contains [] x ⊎ OneStandsFrom text places replies x → OneStandsFrom text places replies x
    by (inl h) = absurd (contains_none x h)
    by (inr s) = s

-- ---- statements so far

-- the statements so far ran to each of these places of the text
pub record RanTo (h : History) (ss : List (Result Statement Cause)) (text places : List ℕ) : Type 0 where
  pub own : All (λ (e : Entry). e.session ≡ 0) h
  pub ran : (place : ℕ) → Contains places place → SessionRun calm h 0 ss 0 (length h) (take place text)
  pub within : (place : ℕ) → Contains places place → place ≤ length text

-- a history that goes on from there, of which the other statements run from one of these places on
pub record GoesOn (g h : History) (ss : List (Result Statement Cause)) (text places : List ℕ) : Type 0 where
  pub last : ℕ
  pub at : ℕ
  pub begun : Contains places at
  pub front : take (length h) g ≡ h
  pub run : SessionRun calm g 0 ss (length h) last (drop at text)
  pub nothing_else : AddsNothing g 0 last (length g)

pub none_ran : (h : History) (text places : List ℕ) → h ≡ [] → places ≡ 0 ∷ [] → RanTo h [] text places
none_ran h text places none only = record {
  own = subst (All (λ (e : Entry). e.session ≡ 0)) (sym none) (λ k d below. absurd (omega arith));
  ran = λ place own. (sym (ap length none), ap (λ (n : ℕ). take n text) (first place own));
  within = λ place own. let is : place ≡ 0 = first place own in omega arith;
}
  where
    first : (place : ℕ) → Contains places place → place ≡ 0
    first place own = one (contains_cases 0 [] place (subst (λ (zs : List ℕ). Contains zs place) only own))
      where
        one : (0 ≡ place) ⊎ Contains [] place → place ≡ 0
        one (inl e) = sym e
        one (inr h) = absurd (contains_none place h)

pub all_goes : (g h : History) (ss : List (Result Statement Cause)) (text places : List ℕ) → h ≡ [] → places ≡ 0 ∷ [] → ScriptRun calm ss g 0 text → GoesOn g h ss text places
all_goes g h ss text places none only run =
    subst (λ (x : History). GoesOn g x ss text places) (sym none)
    (record { last = run.last; at = 0; begun = subst (λ (zs : List ℕ). Contains zs 0) (sym only) (contains_first 0 []); front = refl; run = run.run; nothing_else = run.nothing_else })

-- one statement more
module _ (old new : History) (ss : List (Result Statement Cause)) (i : ℕ) (d s : Result Statement Cause) (below : i < length ss) (s_is : s ≡ get_or ss i d) (text places found : List ℕ) (replies : List (List ℕ))
    (each : (reply : List ℕ) → Contains replies reply → Takes calm new 0 s (length old) (length new) reply) (grows : Grows old new) (are : AreExactly found (OneStandsFrom text places replies)) (so_far : RanTo old (take i ss) text places) where
  pub ran_on : RanTo new (take (i + 1) ss) text found
  ran_on = record { own = own_more old new grows so_far.own; ran = λ to h. at_place to ((are to).0 h); within = λ to h. ((are to).0 h).stands.within }
    where
      more : take i ss ++ s ∷ [] ≡ take (i + 1) ss
      more = ap (λ (z : Result Statement Cause). take i ss ++ z ∷ []) s_is ∙ sym (take_more ss i d below)

      at_place : (to : ℕ) → OneStandsFrom text places replies to → SessionRun calm new 0 (take (i + 1) ss) 0 (length new) (take to text)
      at_place to p =
          let ran = ran_more old new (take i ss) s (take p.at text) p.reply grows (so_far.ran p.at p.begun) (each p.reply p.one) in
          subst (λ (o : List ℕ). SessionRun calm new 0 (take (i + 1) ss) 0 (length new) o) (sym p.stands.read) (subst (λ (xs : List (Result Statement Cause)). SessionRun calm new 0 xs 0 (length new) (take p.at text ++ p.reply)) more ran)

  pub goes_further : (all : IsNoExplain s → (g : History) (to : ℕ) (reply : List ℕ) → IsRepliedIn g old s to reply → Contains replies reply × (take to g ≡ new)) (g : History) → FewInserts g → HasNoExplain ss → OwnEntries g 0 → GoesOn g old (drop i ss) text places
      → GoesOn g new (drop (i + 1) ss) text found
  goes_further all g few others own goes = by (subst (λ (xs : List (Result Statement Cause)). SessionRun calm g 0 xs (length old) goes.last (drop goes.at text)) next goes.run)
    where
      next : drop i ss ≡ s ∷ drop (i + 1) ss
      next = at_drop_more (λ (xs : List (Result Statement Cause)). xs) ss i d below ∙ ap (λ (z : Result Statement Cause). z ∷ drop (i + 1) ss) (sym s_is)

      past : OwnEntries g (length old)
      past = All-drop (λ (e : Entry). e.session ≡ 0) (length old) g own

      by : SessionRun calm g 0 (s ∷ drop (i + 1) ss) (length old) goes.last (drop goes.at text) → GoesOn g new (drop (i + 1) ss) text found
      by r =
          let place = r.0 in
          let reply = r.1 in
          let no_explain : IsNoExplain s = subst IsNoExplain (sym s_is) (All-get_or IsNoExplain ss i d below others) in
          let replied : IsRepliedIn g old s place reply = record { few = few; goes_on = goes.front; own = past; takes = r.3 } in
          let found_it = all no_explain g place reply replied in
          let there = takes_places calm g 0 s (length old) place reply r.3 in
          let long : place ≡ length new = sym (length-take-le place g there.1) ∙ ap length found_it.1 in
          let low : goes.at ≤ length text = so_far.within goes.at goes.begun in
          let stands = stands_there text goes.at reply r.2 low r.5 in
          let left : drop (goes.at + length reply) text ≡ r.2 = sym (drop-drop (length reply) goes.at text) ∙ (ap (drop (length reply)) r.5 ∙ drop_front reply r.2) in
          record {
            last = goes.last;
            at = goes.at + length reply;
            begun = (are (goes.at + length reply)).1 (record { at = goes.at; reply = reply; begun = goes.begun; one = found_it.0; stands = stands });
            front = ap (λ (n : ℕ). take n g) (sym long) ∙ found_it.1;
            run = subst (λ (n : ℕ). SessionRun calm g 0 (drop (i + 1) ss) n goes.last (drop (goes.at + length reply) text)) long
                (subst (λ (o : List ℕ). SessionRun calm g 0 (drop (i + 1) ss) place goes.last o) (sym left) r.4);
            nothing_else = goes.nothing_else;
          }

-- ---- all statements

pub script_ran : (h : History) (ss : List (Result Statement Cause)) (text places : List ℕ) → RanTo h ss text places → Contains places (length text) → ScriptRun calm ss h 0 text
script_ran h ss text places ran here = ran_all h ss text (subst (λ (o : List ℕ). SessionRun calm h 0 ss 0 (length h) o) (take_all (length text) text (omega arith)) (ran.ran (length text) here)) ran.own

-- the history and the text ended there
pub ended : (g h : History) (text places : List ℕ) → OwnEntries g 0 → ((place : ℕ) → Contains places place → place ≤ length text) → GoesOn g h [] text places → (h ≡ g) × Contains places (length text)
ended g h text places own within goes =
    let last : length h ≡ goes.last = goes.run.0 in
    let none : drop goes.at text ≡ [] = goes.run.1 in
    let low : goes.at ≤ length text = within goes.at goes.begun in
    let at_is : goes.at ≡ length text = omega (arith, ap length none, length-drop goes.at text, low) in
    let all : length g ≡ goes.last = stays_there g 0 goes.last (length g) own (omega arith) goes.nothing_else in
    (sym goes.front ∙ take_all (length h) g (omega arith), subst (Contains places) at_is goes.begun)

pub allowed_so : (ss : List (Result Statement Cause)) (h g : History) (text : List ℕ) (r : Result Bool NoMemory) → ScriptRun calm ss h 0 text → IfOk r (λ same. (same ≡ true) ↔ (h ≡ g)) → IfOk r (λ b. b ≡ true → ScriptRun calm ss g 0 text)
allowed_so ss h g text (Ok b) run same = λ is. subst (λ (x : History). ScriptRun calm ss x 0 text) (same.0 is) run
allowed_so ss h g text (Err e) run same = tt

pub exact_so : (h g : History) (r : Result Bool NoMemory) → h ≡ g → IfOk r (λ same. (same ≡ true) ↔ (h ≡ g)) → IfOk r (λ b. b ≡ true)
exact_so h g (Ok b) is same = same.1 is
exact_so h g (Err e) is same = tt
