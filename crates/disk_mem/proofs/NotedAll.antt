-- Entries and their marks as one list.
use Rattle.std.proofs.Common.{◌≡◌, ℕ, List, [], ◌∷◌, ◌++◌, map, length, refl, ap, arith, Option, Some, None}
use Rattle.mt_values.specs.declared.command.Entry.{Entry}
use Rattle.mt_values.specs.declared.annals.Noted.{Noted}
use Rattle.mt_values.specs.Annals.{Told, noted_entry}
use Rattle.disk_mem.specs.Annals.{noted_all}

pub noted_all-entries : (es : List Entry) (ms : List ℕ) → length es ≡ length ms → map (λ (n : Noted). n.entry) (noted_all es ms) ≡ es
noted_all-entries [] ms same = refl
noted_all-entries (e ∷ es) [] same = cc
noted_all-entries (e ∷ es) (m ∷ ms) same = ap (λ (rest : List Entry). e ∷ rest) (noted_all-entries es ms (omega arith))

pub noted_all-marks : (es : List Entry) (ms : List ℕ) → length es ≡ length ms → map (λ (n : Noted). n.mark) (noted_all es ms) ≡ ms
noted_all-marks [] [] same = refl
noted_all-marks [] (m ∷ ms) same = cc
noted_all-marks (e ∷ es) [] same = cc
noted_all-marks (e ∷ es) (m ∷ ms) same = ap (λ (rest : List ℕ). m ∷ rest) (noted_all-marks es ms (omega arith))

-- one more entry with its mark
pub noted_all-push : (es : List Entry) (ms : List ℕ) (e : Entry) (m : ℕ) → length es ≡ length ms
    → noted_all (es ++ e ∷ []) (ms ++ m ∷ []) ≡ noted_all es ms ++ record { entry = e; mark = m } ∷ []
noted_all-push [] [] e m same = refl
noted_all-push [] (x ∷ ms) e m same = cc
noted_all-push (x ∷ es) [] e m same = cc
noted_all-push (x ∷ es) (y ∷ ms) e m same = ap (λ (rest : List Noted). record { entry = x; mark = y } ∷ rest) (noted_all-push es ms e m (omega arith))

-- what is told after a note
pub told-note : (es more : List Entry) (ms marks : List ℕ) (e : Entry) (m : ℕ) (begun none : Option Entry) → length es ≡ length ms
    → more ≡ es ++ e ∷ [] → marks ≡ ms ++ m ∷ [] → begun ≡ Some e → none ≡ None
    → Some (let t : Told = record { list = noted_all more marks; begun = none } in t) ≡ Some (noted_entry begun m (record { list = noted_all es ms; begun = begun }))
told-note es more ms marks e m begun none same more_is marks_is begun_is none_is =
    rw (more_is, marks_is, begun_is, none_is, noted_all-push es ms e m same) refl
