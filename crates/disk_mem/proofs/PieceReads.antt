-- What reads of pieces leave.
use Rattle.std.proofs.Common.{◌≡◌, ℕ, ◌+◌, ◌<◌, ◌≤◌, min, List, [], ◌∷◌, ◌++◌, map, length, take, drop, get_or, refl, ap, sym, ◌∙◌, arith, suc, Vec, append_assoc, add-one, length-drop}
use Rattle.std.specs.declared.alloc.Global.{Global}
use Rattle.std.specs.List.{concat}
use Rattle.std.proofs.lemmas.List.{take-append-drop, take_all, drop_all, drop-drop}
use Rattle.std.proofs.Math.Seq.{drop-cons}
use Rattle.disk_mem.specs.Pieces.{ready, first, drop_first, left_pieces}

pub drop_first-zero : (ps : List (List ℕ)) → drop_first 0 ps ≡ ps
drop_first-zero [] = refl
drop_first-zero (p ∷ ps) = refl

-- the bytes are those of the pieces from the first on that isn't empty
pub concat-ready : (ps : List (List ℕ)) → concat (ready ps) ≡ concat ps
concat-ready [] = refl
concat-ready ([] ∷ ps) = concat-ready ps
concat-ready ((b ∷ bs) ∷ ps) = refl

-- no byte is ready only at the end
pub ready_none : (ps : List (List ℕ)) → length (first (ready ps)) ≡ 0 → ready ps ≡ []
ready_none [] none = refl
ready_none ([] ∷ ps) none = ready_none ps none
ready_none ((b ∷ bs) ∷ ps) none = cc

-- the front of the first piece, and what is left
pub concat-drop_first : (n : ℕ) (ps : List (List ℕ)) → take n (first ps) ++ concat (drop_first n ps) ≡ concat ps
concat-drop_first n [] = ap (λ (front : List ℕ). front ++ []) (take_all n [] (omega arith))
concat-drop_first n (p ∷ ps) = sym (append_assoc (take n p) (drop n p) (concat ps)) ∙ ap (λ (front : List ℕ). front ++ concat ps) (take-append-drop n p)

-- the pieces from one of them on
left_pieces_at : (pieces : List (Vec ℕ Global)) (piece place : ℕ) (p : Vec ℕ Global) → piece < length pieces → p ≡ get_or pieces piece p
    → left_pieces pieces piece place ≡ drop place p.items ∷ map (λ (v : Vec ℕ Global). v.items) (drop (suc piece) pieces)
left_pieces_at pieces piece place p within at =
    ap (λ (ps : List (Vec ℕ Global)). drop_first place (map (λ (v : Vec ℕ Global). v.items) ps)) (drop-cons pieces piece p within)
    ∙ ap (λ (v : Vec ℕ Global). drop place v.items ∷ map (λ (w : Vec ℕ Global). w.items) (drop (suc piece) pieces)) (sym at)

-- a piece that ends at the place is left out
pub skip_piece : (pieces : List (Vec ℕ Global)) (piece place : ℕ) (p : Vec ℕ Global) → piece < length pieces → p ≡ get_or pieces piece p → length p.items ≤ place
    → ready (left_pieces pieces (piece + 1) 0) ≡ ready (left_pieces pieces piece place)
skip_piece pieces piece place p within at ended =
    let rest : List (List ℕ) = map (λ (v : Vec ℕ Global). v.items) (drop (suc piece) pieces) in
    ap (λ (n : ℕ). ready (left_pieces pieces n 0)) (add-one piece)
    ∙ (ap ready (drop_first-zero rest)
    ∙ (ap (λ (front : List ℕ). ready (front ∷ rest)) (sym (drop_all place p.items ended)) ∙ ap ready (sym (left_pieces_at pieces piece place p within at))))

-- where the first piece has bytes, it is the first that has
ready_there : (p : List ℕ) (ps : List (List ℕ)) → 0 < length p → ready (p ∷ ps) ≡ p ∷ ps
ready_there [] ps there = absurd (omega arith)
ready_there (b ∷ bs) ps there = refl

-- a piece that doesn't end at the place is ready
pub at_piece : (pieces : List (Vec ℕ Global)) (piece place : ℕ) (p : Vec ℕ Global) → piece < length pieces → p ≡ get_or pieces piece p → place < length p.items
    → left_pieces pieces piece place ≡ ready (left_pieces pieces piece place)
at_piece pieces piece place p within at inside =
    let rest : List (List ℕ) = map (λ (v : Vec ℕ Global). v.items) (drop (suc piece) pieces) in
    left_pieces_at pieces piece place p within at
    ∙ (sym (ready_there (drop place p.items) rest (simp length-drop (omega arith))) ∙ ap ready (sym (left_pieces_at pieces piece place p within at)))

-- past the last piece nothing is left
left_pieces_end : (pieces : List (Vec ℕ Global)) (piece place : ℕ) → length pieces ≤ piece → left_pieces pieces piece place ≡ []
left_pieces_end pieces piece place past = ap (λ (ps : List (Vec ℕ Global)). drop_first place (map (λ (v : Vec ℕ Global). v.items) ps)) (drop_all piece pieces past)

drop_first-add : (m n : ℕ) (ps : List (List ℕ)) → drop_first (m + n) ps ≡ drop_first n (drop_first m ps)
drop_first-add m n [] = refl
drop_first-add m n (p ∷ ps) = ap (λ (front : List ℕ). front ∷ ps) (sym (drop-drop n m p))

-- what is read at the end
pub reads_none : (old : List (List ℕ)) (pieces : List (Vec ℕ Global)) (piece place : ℕ) → left_pieces pieces piece place ≡ ready old → length pieces ≤ piece
    → (concat old ≡ concat (left_pieces pieces piece place)) × (concat (left_pieces pieces piece place) ≡ [])
reads_none old pieces piece place at past =
    (sym (concat-ready old) ∙ ap concat (sym at), ap concat (left_pieces_end pieces piece place past))

-- what a read of the first bytes that are ready takes, and leaves
pub reads_front : (old : List (List ℕ)) (pieces : List (Vec ℕ Global)) (piece place n : ℕ) (p : Vec ℕ Global) (buf : List ℕ)
    → left_pieces pieces piece place ≡ ready old → piece < length pieces → p ≡ get_or pieces piece p
    → n ≡ min (length buf) (length (drop place p.items)) → take n buf ≡ take n (drop place p.items)
    → (concat old ≡ take n buf ++ concat (left_pieces pieces piece (place + n))) × (n ≡ 0 → 0 < length buf → concat (left_pieces pieces piece (place + n)) ≡ [])
reads_front old pieces piece place n p buf ready_is within at count copied =
    let rest : List (List ℕ) = map (λ (v : Vec ℕ Global). v.items) (drop (suc piece) pieces) in
    let front : ready old ≡ drop place p.items ∷ rest = sym ready_is ∙ left_pieces_at pieces piece place p within at in
    let after : left_pieces pieces piece (place + n) ≡ drop_first n (ready old) =
    drop_first-add place n (map (λ (v : Vec ℕ Global). v.items) (drop piece pieces)) ∙ ap (drop_first n) ready_is in
    let first_is : first (ready old) ≡ drop place p.items = ap first front in (
      sym (concat-ready old) ∙ (sym (concat-drop_first n (ready old))
          ∙ (ap (λ (bytes : List ℕ). take n bytes ++ concat (drop_first n (ready old))) first_is
          ∙ (ap (λ (bytes : List ℕ). bytes ++ concat (drop_first n (ready old))) (sym copied) ∙ ap (λ (ps : List (List ℕ)). take n buf ++ concat ps) (sym after)))),
      (λ none room. ap concat after ∙ ap (λ (ps : List (List ℕ)). concat (drop_first n ps)) (ready_none old (omega (arith, ap length first_is)))),
    )

-- what a read at the end gives
pub given_none : (old : List (List ℕ)) (pieces : List (Vec ℕ Global)) (piece place : ℕ) (buf : List ℕ) → left_pieces pieces piece place ≡ ready old → length pieces ≤ piece
    → (0 ≡ min (length buf) (length (first (ready old)))) × (left_pieces pieces piece place ≡ drop_first 0 (ready old))
given_none old pieces piece place buf at past =
    let none : ready old ≡ [] = sym at ∙ left_pieces_end pieces piece place past in
    let zero : length (first (ready old)) ≡ 0 = ap (λ (ps : List (List ℕ)). length (first ps)) none in
    (omega (arith, zero), at ∙ sym (drop_first-zero (ready old)))

-- how many bytes a read gives, and which pieces are left
pub given_front : (old : List (List ℕ)) (pieces : List (Vec ℕ Global)) (piece place n : ℕ) (p : Vec ℕ Global) (buf : List ℕ)
    → left_pieces pieces piece place ≡ ready old → piece < length pieces → p ≡ get_or pieces piece p → n ≡ min (length buf) (length (drop place p.items))
    → (n ≡ min (length buf) (length (first (ready old)))) × (left_pieces pieces piece (place + n) ≡ drop_first n (ready old))
given_front old pieces piece place n p buf ready_is within at count =
    let first_is : first (ready old) ≡ drop place p.items = ap first (sym ready_is ∙ left_pieces_at pieces piece place p within at) in (
      count ∙ ap (λ (bytes : List ℕ). min (length buf) (length bytes)) (sym first_is),
      drop_first-add place n (map (λ (v : Vec ℕ Global). v.items) (drop piece pieces)) ∙ ap (drop_first n) ready_is,
    )
