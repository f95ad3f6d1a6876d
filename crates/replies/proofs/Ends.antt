-- The end of a history, and of what annals list.
use Rattle.std.proofs.Common.{◌≡◌, ℕ, length, take, arith}
use Rattle.std.proofs.lemmas.List.{length-map, take_all}
use Rattle.mt_values.specs.declared.annals.Noted.{Noted}
use Rattle.mt_values.specs.Annals.{Told}
use Rattle.mt_model.specs.History.{History}
use Rattle.mt_model.specs.Session.{AddsNothing}
use Rattle.mt_model.proofs.Growing.{stays}
use Rattle.replies.specs.Foreseen.{history}

-- all of a history stands before its end
pub all_front : (h : History) → take (length h) h ≡ h
all_front h = take_all (length h) h (omega arith)

-- no session adds anything at its end
pub adds_nothing : (h : History) (session : ℕ) → AddsNothing h session (length h) (length h)
adds_nothing h session = stays h session (length h) (omega arith)

-- the history has as many entries as the list of the annals
pub length_history : (t : Told) → length (history t) ≡ length t.list
length_history t = length-map t.list (λ (n : Noted). n.entry)

-- all of it stands before its end
pub whole_front : (t : Told) → take (length t.list) (history t) ≡ history t
whole_front t = take_all (length t.list) (history t) (omega (arith, length_history t))

-- nothing was added at the end
pub added_nothing : (t : Told) → AddsNothing (history t) 0 (length t.list) (length t.list)
added_nothing t = stays (history t) 0 (length t.list) (omega (arith, length_history t))
