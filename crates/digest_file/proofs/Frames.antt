-- Frames: the pieces of one are told apart, and where bytes stop being the beginning of one.
use Rattle.std.proofs.Common.{◌≡◌, ℕ, ◌+◌, ◌-◌, ◌*◌, ◌^◌, ◌<◌, ◌≤◌, List, [], ◌++◌, refl, sym, ap, ap₂, ◌∙◌, subst, length, length-append, length-take, length-drop, take, drop, replicate, slice_get, append_assoc, append-nil, take-append-drop, arith}
use Rattle.std.proofs.Math.Seq.{take-append-add}
use Rattle.std.proofs.lemmas.List.{append_cancel_left, length-take-le, length-replicate, take_all, take_at, take-take, drop-drop}
use Rattle.std.proofs.lemmas.List.Elements.{All-append, All-drop, All-replicate, All-take}
use Rattle.std.proofs.lemmas.Nat.{from_le_bytes-to_le_bytes_4}
use Rattle.std.specs.Int.{w32, to_le_bytes, from_le_bytes}
use Rattle.sha2.specs.Sha256.{sha256}
use Rattle.sha2.proofs.Facts256.{length-sha256}
use Rattle.byte_numbers.specs.declared.faults.FormatFault.{FormatFault}
use Rattle.byte_numbers.specs.declared.faults.FormatFault.TheVariants.{NoMemory, Malformed}
use Rattle.digest_file.specs.Faults.{AreBytes, BeginsSome, IsFirstFault, Locates}
use Rattle.digest_file.specs.Frames.{Fit, IsFrame, IsFrameOf, MissesDigest, Opens, PartAt, framed}
use Rattle.digest_file.proofs.FirstFaults.{begins_front, fault_at}
use Rattle.byte_numbers.proofs.Numbers.{number_of_4}
use Rattle.digest_file.proofs.Pieces.{bytes_right, fronts_apart, item_in_front, item_behind, longer_has, sha256_bytes}

regroup : (a b c d : List ℕ) → a ++ b ++ c ++ d ≡ a ++ (b ++ (c ++ d))
regroup a b c d = simp append_assoc

-- ---- pieces

module _ (first : List ℕ) where
  pub length_framed : (middle : List ℕ) (count : ℕ) (items : List ℕ) → length (framed first middle count items) ≡ length first + length middle + 4 + length items
  length_framed middle count items =
      let number : length (to_le_bytes w32 count) ≡ 4 = refl in
      omega (arith, number, length-append (first ++ middle ++ to_le_bytes w32 count) items, length-append (first ++ middle) (to_le_bytes w32 count), length-append first middle)

  -- bytes that begin with the first ones have one number of items
  heads_apart : (m m' : List ℕ) (n n' : ℕ) (a b : List ℕ) → length m ≡ length m' → n < 2 ^ 32 → n' < 2 ^ 32 → framed first m n a ≡ framed first m' n' b → (m ≡ m') × (n ≡ n') × (a ≡ b)
  heads_apart m m' n n' a b same p q e =
      let behind = append_cancel_left first (m ++ (to_le_bytes w32 n ++ a)) (m' ++ (to_le_bytes w32 n' ++ b))
      (sym (regroup first m (to_le_bytes w32 n) a) ∙ e ∙ regroup first m' (to_le_bytes w32 n') b) in
      let middles = fronts_apart m m' (to_le_bytes w32 n ++ a) (to_le_bytes w32 n' ++ b) same behind in
      let numbers = fronts_apart (to_le_bytes w32 n) (to_le_bytes w32 n') a b refl middles.1 in
      (middles.0, sym (from_le_bytes-to_le_bytes_4 n p) ∙ ap (from_le_bytes w32) numbers.0 ∙ from_le_bytes-to_le_bytes_4 n' q, numbers.1)

-- bytes after the first ones are a number after some others
head_of : (first bs : List ℕ) (gap : ℕ) → length bs ≡ gap + 4 → AreBytes bs → (n : ℕ) × (n < 2 ^ 32) × (first ++ bs ≡ framed first (take gap bs) n [])
head_of first bs gap size are =
    let number = number_of_4 (drop gap bs) (omega (arith, length-drop gap bs)) (All-drop (λ b. b < 256) gap bs are) in
    let parted : bs ≡ take gap bs ++ to_le_bytes w32 number.0 = sym (take-append-drop gap bs) ∙ ap (λ l. take gap bs ++ l) (sym number.2) in
    (number.0, number.1, ap (λ l. first ++ l) parted ∙ sym (append_assoc first (take gap bs) (to_le_bytes w32 number.0)) ∙ sym (append-nil (first ++ take gap bs ++ to_le_bytes w32 number.0)))

module _ (first : List ℕ) (gap unit : ℕ) where
  -- what comes after the pieces
  behind : (m : List ℕ) (n : ℕ) (i t : List ℕ) → framed first m n i ++ t ≡ framed first m n (i ++ t)
  behind m n i t = append_assoc (first ++ m ++ to_le_bytes w32 n) i t

  -- bytes begin with at most one frame's pieces, and one text follows these
  pub bodies_apart : (m m' : List ℕ) (n n' : ℕ) (i i' t t' : List ℕ) → Fit gap unit m n i → Fit gap unit m' n' i' → framed first m n i ++ t ≡ framed first m' n' i' ++ t' → (m ≡ m') × (n ≡ n') × (i ≡ i') × (t ≡ t')
  bodies_apart m m' n n' i i' t t' f g e =
      let heads = heads_apart first m m' n n' (i ++ t) (i' ++ t') (f.middle_fits ∙ sym g.middle_fits) f.count_fits g.count_fits (sym (behind m n i t) ∙ e ∙ behind m' n' i' t') in
      let rest = fronts_apart i i' t t' (f.items_fit ∙ ap (λ k. unit * k) heads.1 ∙ sym g.items_fit) heads.2 in
      (heads.0, heads.1, rest.0, rest.1)

  -- bytes are one frame
  pub one_frame : (bytes m m' : List ℕ) (n n' : ℕ) (i i' : List ℕ) → IsFrameOf first gap unit bytes m n i → IsFrameOf first gap unit bytes m' n' i' → (m ≡ m') × (n ≡ n') × (i ≡ i')
  one_frame bytes m m' n n' i i' f g =
      let same = bodies_apart m m' n n' i i' (sha256 (framed first m n i)) (sha256 (framed first m' n' i')) f.fit g.fit (sym f.spelled ∙ g.spelled) in
      (same.0, same.1, same.2)

  -- and are so long
  length_frame : (s : List ℕ) → (f : IsFrame first gap unit s) → length s ≡ length first + gap + 4 + unit * f.count + 32
  length_frame s f =
      let body : List ℕ = framed first f.middle f.count f.items in
      omega (arith, ap length f.frame.spelled, length-append body (sha256 body), length-sha256 body, length_framed first f.middle f.count f.items, f.frame.fit.middle_fits, f.frame.fit.items_fit)

  -- ---- frames that begin with given bytes

  -- items that are missing may be zeros
  complete : (m : List ℕ) (n : ℕ) (i : List ℕ) → length m ≡ gap → n < 2 ^ 32 → length i ≤ unit * n → AreBytes (framed first m n i) → BeginsSome (IsFrame first gap unit) (framed first m n i)
  complete m n i gaps few fewer are =
      let z : List ℕ = replicate (unit * n - length i) 0 in
      let zeros : AreBytes z = All-replicate (λ b. b < 256) (unit * n - length i) 0 (omega arith) in
      let body : List ℕ = framed first m n (i ++ z) in
      let whole : framed first m n i ++ (z ++ sha256 body) ≡ body ++ sha256 body =
      sym (append_assoc (framed first m n i) z (sha256 body)) ∙ ap (λ l. l ++ sha256 body) (behind m n i z) in (
        z ++ sha256 body,
        record {
          bytes_are = All-append (λ b. b < 256) (framed first m n i) (z ++ sha256 body) are (All-append (λ b. b < 256) z (sha256 body) zeros (sha256_bytes body));
          middle = m;
          count = n;
          items = i ++ z;
          frame = record {
            fit = record {
              middle_fits = gaps;
              count_fits = few;
              items_fit = omega (arith, length-append i z, length-replicate {A = ℕ} (unit * n - length i) 0);
            };
            spelled = whole;
          };
        },
      )

  -- and so may what is missing before them
  complete_head : (r : List ℕ) → length r ≤ gap + 4 → AreBytes (first ++ r) → BeginsSome (IsFrame first gap unit) (first ++ r)
  complete_head r fewer are =
      begins_front (IsFrame first gap unit) (first ++ r) zeros
      (subst (BeginsSome (IsFrame first gap unit)) (sym (append_assoc first r zeros))
      (subst (BeginsSome (IsFrame first gap unit)) (sym head.2)
      (complete (take gap filled) head.0 [] (length-take-le gap filled (omega (arith, size))) head.1 (omega arith) (subst AreBytes head.2 all))))
    where
      zeros : List ℕ
      zeros = replicate (gap + 4 - length r) 0

      filled : List ℕ
      filled = r ++ zeros

      size : length filled ≡ gap + 4
      size = omega (arith, length-append r zeros, length-replicate {A = ℕ} (gap + 4 - length r) 0)

      all : AreBytes (first ++ filled)
      all = subst AreBytes (append_assoc first r zeros) (All-append (λ b. b < 256) (first ++ r) zeros are (All-replicate (λ b. b < 256) (gap + 4 - length r) 0 (omega arith)))

      head : (n : ℕ) × (n < 2 ^ 32) × (first ++ filled ≡ framed first (take gap filled) n [])
      head = head_of first filled gap size (bytes_right first filled all)

  -- ---- faults

  -- a first byte that is another
  pub wrong_first : (bytes : List ℕ) (place : ℕ) → AreBytes first → place < length first → PartAt bytes first place → IsFirstFault (IsFrame first gap unit) bytes place
  wrong_first bytes place are within d = fault_at (IsFrame first gap unit) bytes place reach begins none
    where
      reach : place ≤ length bytes
      reach = omega (arith, length-take place bytes, length-take-le place first (omega arith), ap length d.alike)

      begins : BeginsSome (IsFrame first gap unit) (take place bytes)
      begins =
          let whole : first ++ [] ≡ take place first ++ drop place first = append-nil first ∙ sym (take-append-drop place first) in
          let all = complete_head [] (omega arith) (subst AreBytes (sym (append-nil first)) are) in
          subst (BeginsSome (IsFrame first gap unit)) (sym d.alike) (begins_front (IsFrame first gap unit) (take place first) (drop place first) (subst (BeginsSome (IsFrame first gap unit)) whole all))

      none : (s : List ℕ) → IsFrame first gap unit s → take place s ≡ take place bytes → slice_get s place ≡ slice_get bytes place → ⊥
      none s f same e =
          let number : List ℕ = to_le_bytes w32 f.count in
          let body : List ℕ = framed first f.middle f.count f.items in
          let rest : List ℕ = f.middle ++ (number ++ f.items) ++ sha256 body in
          let starts : s ≡ first ++ rest = f.frame.spelled ∙ ap (λ l. l ++ sha256 body) (regroup first f.middle number f.items) ∙ append_assoc first (f.middle ++ (number ++ f.items)) (sha256 body) in
          d.apart (sym e ∙ ap (λ l. slice_get l place) starts ∙ item_in_front first rest place within)

  -- bytes that end before the items
  pub cut_head : (bytes r : List ℕ) → AreBytes bytes → bytes ≡ first ++ r → length bytes < length first + gap + 4 → IsFirstFault (IsFrame first gap unit) bytes (length bytes)
  cut_head bytes r are parted short =
      fault_at (IsFrame first gap unit) bytes (length bytes) (omega arith)
      (subst (BeginsSome (IsFrame first gap unit)) (sym parted ∙ sym (take_all (length bytes) bytes (omega arith)))
      (complete_head r (omega (arith, ap length parted, length-append first r)) (subst AreBytes parted are)))
      (λ s f same e. longer_has bytes s (omega (arith, length_frame s f)) e)

  -- bytes that end in the midst of the items
  pub cut_items : (bytes m : List ℕ) (n : ℕ) (i : List ℕ) → AreBytes bytes → bytes ≡ framed first m n i → length m ≡ gap → n < 2 ^ 32 → length i < unit * n → IsFirstFault (IsFrame first gap unit) bytes (length bytes)
  cut_items bytes m n i are parted gaps few short = fault_at (IsFrame first gap unit) bytes (length bytes) (omega arith) begins none
    where
      begins : BeginsSome (IsFrame first gap unit) (take (length bytes) bytes)
      begins = subst (BeginsSome (IsFrame first gap unit)) (sym parted ∙ sym (take_all (length bytes) bytes (omega arith)))
          (complete m n i gaps few (omega arith) (subst AreBytes parted are))

      none : (s : List ℕ) → IsFrame first gap unit s → take (length bytes) s ≡ take (length bytes) bytes → slice_get s (length bytes) ≡ slice_get bytes (length bytes) → ⊥
      none s f same e =
          let t : List ℕ = drop (length bytes) s in
          let body : List ℕ = framed first f.middle f.count f.items in
          let starts : s ≡ bytes ++ t = sym (take-append-drop (length bytes) s) ∙ ap (λ l. l ++ t) (same ∙ take_all (length bytes) bytes (omega arith)) in
          let heads = heads_apart first m f.middle n f.count (i ++ t) (f.items ++ sha256 body) (gaps ∙ sym f.frame.fit.middle_fits) few f.frame.fit.count_fits
          (sym (behind m n i t) ∙ ap (λ l. l ++ t) (sym parted) ∙ sym starts ∙ f.frame.spelled ∙ behind f.middle f.count f.items (sha256 body)) in
          longer_has bytes s (omega (arith, length_frame s f, ap (λ k. unit * k) heads.1, ap length parted, length_framed first m n i)) e

  -- bytes after the pieces that are not their digest
  pub wrong_digest : (bytes m : List ℕ) (n : ℕ) (i t : List ℕ) (k place : ℕ) → AreBytes bytes → bytes ≡ framed first m n i ++ t → Fit gap unit m n i → place ≡ length (framed first m n i) + k → k ≤ 32 → PartAt t (sha256 (framed first m n i)) k → IsFirstFault (IsFrame first gap unit) bytes place
  wrong_digest bytes m n i t k place are parted fit at within d = fault_at (IsFrame first gap unit) bytes place reach begins none
    where
      body : List ℕ
      body = framed first m n i

      fronts : take place bytes ≡ body ++ take k (sha256 body)
      fronts = ap₂ take at parted ∙ take-append-add body t k ∙ ap (λ l. body ++ l) d.alike

      reach : place ≤ length bytes
      reach = omega (arith, length-take k t, length-take-le k (sha256 body) (omega (arith, length-sha256 body)), ap length d.alike, ap length parted, length-append body t)

      begins : BeginsSome (IsFrame first gap unit) (take place bytes)
      begins =
          let whole : take place bytes ++ drop k (sha256 body) ≡ body ++ sha256 body =
          ap (λ l. l ++ drop k (sha256 body)) fronts ∙ append_assoc body (take k (sha256 body)) (drop k (sha256 body)) ∙ ap (λ l. body ++ l) (take-append-drop k (sha256 body)) in (
            drop k (sha256 body),
            record {
              bytes_are = All-append (λ b. b < 256) (take place bytes) (drop k (sha256 body)) (All-take (λ b. b < 256) place bytes are) (All-drop (λ b. b < 256) k (sha256 body) (sha256_bytes body));
              middle = m;
              count = n;
              items = i;
              frame = record { fit = fit; spelled = whole };
            },
          )

      none : (s : List ℕ) → IsFrame first gap unit s → take place s ≡ take place bytes → slice_get s place ≡ slice_get bytes place → ⊥
      none s f same e =
          let other : List ℕ = framed first f.middle f.count f.items in
          let rest : List ℕ = drop (length body) s in
          let front : take (length body) s ≡ body =
          sym (take-take (length body) place s (omega arith)) ∙ ap (take (length body)) (same ∙ fronts) ∙ take_at body (take k (sha256 body)) (length body) refl in
          let starts : s ≡ body ++ rest = sym (take-append-drop (length body) s) ∙ ap (λ l. l ++ rest) front in
          let pieces = bodies_apart m f.middle n f.count i f.items rest (sha256 other) fit f.frame.fit (sym starts ∙ f.frame.spelled) in
          let digests : rest ≡ sha256 body = pieces.3 ∙ ap sha256 (sym (ap₂ (λ a b. framed first a b i) pieces.0 pieces.1 ∙ ap (framed first f.middle f.count) pieces.2)) in
          let here : slice_get s place ≡ slice_get (sha256 body) k = ap (λ l. slice_get l place) starts ∙ item_behind body rest k place at ∙ ap (λ l. slice_get l k) digests in
          let there : slice_get bytes place ≡ slice_get t k = ap (λ l. slice_get l place) parted ∙ item_behind body t k place at in
          d.apart (sym there ∙ sym e ∙ here)

-- ---- bytes whose number of items is read

-- the number after the first bytes and some more
pub opened : (first bytes : List ℕ) (gap n : ℕ) → bytes ≡ first ++ drop (length first) bytes → length first + gap + 4 ≤ length bytes → n < 2 ^ 32 → to_le_bytes w32 n ≡ take 4 (drop (length first + gap) bytes) → Opens first gap bytes n
opened first bytes gap n begins within few number =
    let at : ℕ = length first + gap in
    let middle : List ℕ = take gap (drop (length first) bytes) in
    let behind_number : drop (length first + gap) bytes ≡ to_le_bytes w32 n ++ drop (length first + gap + 4) bytes =
    sym (take-append-drop 4 (drop at bytes)) ∙ ap₂ (λ (l r : List ℕ). l ++ r) (sym number) (drop-drop 4 at bytes) in
    let behind_first : drop (length first) bytes ≡ middle ++ (to_le_bytes w32 n ++ drop (length first + gap + 4) bytes) =
    sym (take-append-drop gap (drop (length first) bytes)) ∙ ap (λ l. middle ++ l) (drop-drop gap (length first) bytes ∙ behind_number) in
    record {
      within = within;
      count_fits = few;
      parted = begins ∙ ap (λ l. first ++ l) behind_first ∙ sym (regroup first middle (to_le_bytes w32 n) (drop (length first + gap + 4) bytes));
    }

module _ (first bytes : List ℕ) (gap unit n : ℕ) where
  length_middle : Opens first gap bytes n → length (take gap (drop (length first) bytes)) ≡ gap
  length_middle o = length-take-le gap (drop (length first) bytes) (omega (arith, o.within, length-drop (length first) bytes))

  pub opened_cut : AreBytes bytes → Opens first gap bytes n → length bytes - (length first + gap + 4) < unit * n → IsFirstFault (IsFrame first gap unit) bytes (length bytes)
  opened_cut are o short =
      cut_items first gap unit bytes (take gap (drop (length first) bytes)) n (drop (length first + gap + 4) bytes) are o.parted (length_middle o) o.count_fits
      (omega (arith, length-drop (length first + gap + 4) bytes))

  pub opened_missed : AreBytes bytes → Opens first gap bytes n → unit * n ≤ length bytes - (length first + gap + 4) → (fault : FormatFault) → MissesDigest bytes (length first + gap + 4 + unit * n) fault → Locates (IsFrame first gap unit) bytes fault
  opened_missed are o enough NoMemory missed = absurd missed
  opened_missed are o enough (Malformed place) missed =
      wrong_digest first gap unit bytes middle n items rest missed.0 place are parted fit (omega (arith, missed.1, size)) missed.2
      (subst (λ l. PartAt rest (sha256 l) missed.0) front missed.3)
    where
      head : ℕ
      head = length first + gap + 4

      middle : List ℕ
      middle = take gap (drop (length first) bytes)

      items : List ℕ
      items = take (unit * n) (drop head bytes)

      rest : List ℕ
      rest = drop (head + unit * n) bytes

      fit : Fit gap unit middle n items
      fit = record {
        middle_fits = length_middle o;
        count_fits = o.count_fits;
        items_fit = length-take-le (unit * n) (drop head bytes) (omega (arith, length-drop head bytes));
      }

      parted : bytes ≡ framed first middle n items ++ rest
      parted = o.parted
          ∙ ap (framed first middle n) (sym (take-append-drop (unit * n) (drop head bytes)) ∙ ap (λ l. items ++ l) (drop-drop (unit * n) head bytes))
          ∙ sym (behind first gap unit middle n items rest)

      size : length (framed first middle n items) ≡ head + unit * n
      size = omega (arith, length_framed first middle n items, fit.middle_fits, fit.items_fit)

      front : take (head + unit * n) bytes ≡ framed first middle n items
      front = ap (take (head + unit * n)) parted ∙ take_at (framed first middle n items) rest (head + unit * n) size
