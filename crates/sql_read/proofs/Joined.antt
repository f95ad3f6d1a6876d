-- Parts joined from the left, one at a time. Each takes at least one token, so the bound of the definition cuts none off.
use Rattle.std.proofs.Common.{◌≡◌, ℕ, zero, suc, ◌<◌, ◌≤◌, Bool, true, false, List, [], ◌∷◌, length, Result, Ok, Err, refl, arith, ◌∙◌, sym}
use Rattle.std.specs.Result.{IsErrAnd}
use Rattle.mt_base.specs.declared.stop.Stop.{Stop}
use Rattle.mt_values.specs.declared.statement.Slip.{Slip}
use Rattle.mt_values.specs.declared.statement.Statement.{Statement}
use Rattle.mt_values.specs.declared.token.Placed.{Placed}
use Rattle.mt_values.specs.declared.token.Token.{Token}
use Rattle.mt_values.specs.Grammar.{is_word, joined_by, joined_from, joined_within, keyword}
use Rattle.mt_values.specs.Readers.{Reader, Part, expect, either, choose}
use Rattle.mt_values.specs.Tokens.{is_keyword}
use Rattle.sql_read.specs.Reads.{Reads, Skips}
use Rattle.sql_read.proofs.Chains.{reads_stop}
use Rattle.sql_read.proofs.Listed.{TakesToken, choose_same, expect_takes}

either_both : {S : Type 0} (c : Bool) (this that other another : Reader S) (ts : List Placed) → this ts ≡ that ts → other ts ≡ another ts → either c this other ts ≡ either c that another ts
either_both true this that other another ts same alike = same
either_both false this that other another ts same alike = alike

-- ways that agree on some tokens
pub choose_both : {S : Type 0} (test : Token → Bool) (this that other another : Reader S) (ts : List Placed) → this ts ≡ that ts → other ts ≡ another ts → choose test this other ts ≡ choose test that another ts
choose_both test this that other another [] same alike = alike
choose_both test this that other another (p ∷ ps) same alike = either_both (test p.token) this that other another (p ∷ ps) same alike

module _ {S X : Type 0} (k : List ℕ) (join : X → X → X) (item : Part S X) where
  -- one more part after those that came, where the keyword comes
  abbrev pub one_more : (X → Part S X) → X → (X → Reader S) → Reader S
  one_more others front next = expect (keyword k) (λ u. item (λ x. others (join front x) next))

  -- what follows the parts that came
  abbrev pub joined_behind : (X → Part S X) → X → (X → Reader S) → Reader S
  joined_behind others front next = choose (is_word (is_keyword k)) (one_more others front next) (next front)

  behind_same : TakesToken item → (this that : X → Part S X) (front : X) (next : X → Reader S) (ts : List Placed) →
      ((x : X) (us : List Placed) → length us < length ts → this x next us ≡ that x next us) → joined_behind this front next ts ≡ joined_behind that front next ts
  behind_same takes this that front next ts same =
      choose_same (is_word (is_keyword k)) (one_more this front next) (one_more that front next) (next front) ts
      (expect_takes (keyword k) (λ u. item (λ x. this (join front x) next)) (λ u. item (λ x. that (join front x) next)) ts
      (λ u us less. takes (λ x. this (join front x) next) (λ x. that (join front x) next) us (λ x vs fewer. same (join front x) vs (omega arith))))

  within_same : TakesToken item → (n m : ℕ) (front : X) (next : X → Reader S) (ts : List Placed) → length ts ≤ n → length ts ≤ m → joined_within n k join item front next ts ≡ joined_within m k join item front next ts
  within_same takes zero zero front next ts low high = refl
  within_same takes zero (suc m) front next [] low high = refl
  within_same takes zero (suc m) front next (p ∷ ps) low high = absurd (omega arith)
  within_same takes (suc n) zero front next [] low high = refl
  within_same takes (suc n) zero front next (p ∷ ps) low high = absurd (omega arith)
  within_same takes (suc n) (suc m) front next ts low high =
      behind_same takes (joined_within n k join item) (joined_within m k join item) front next ts
      (λ x us less. within_same takes n m x next us (omega arith) (omega arith))

  -- after the parts that came the keyword and one more part come, or what follows them all
  pub joined_step : TakesToken item → (front : X) (next : X → Reader S) (ts : List Placed) → joined_from k join item front next ts ≡ joined_behind (joined_from k join item) front next ts
  joined_step takes front next [] = refl
  joined_step takes front next (p ∷ ps) =
      behind_same takes (joined_within (length ps) k join item) (joined_from k join item) front next (p ∷ ps)
      (λ x us less. within_same takes (length ps) (length us) x next us (omega arith) (omega arith))

  follows_same : TakesToken item → (next other : X → Reader S) (n : ℕ) (front : X) (ts : List Placed) → ((x : X) (us : List Placed) → length us ≤ length ts → next x us ≡ other x us) →
      joined_within n k join item front next ts ≡ joined_within n k join item front other ts
  follows_same takes next other zero front ts same = same front ts (omega arith)
  follows_same takes next other (suc n) front ts same =
      choose_both (is_word (is_keyword k)) (one_more (joined_within n k join item) front next) (one_more (joined_within n k join item) front other) (next front) (other front) ts
      (expect_takes (keyword k) (λ u. item (λ x. joined_within n k join item (join front x) next)) (λ u. item (λ x. joined_within n k join item (join front x) other)) ts
      (λ u us less. takes (λ x. joined_within n k join item (join front x) next) (λ x. joined_within n k join item (join front x) other) us
      (λ x vs fewer. follows_same takes next other n (join front x) vs (λ y ws most. same y ws (omega arith)))))
      (same front ts (omega arith))

  -- parts that are joined take at least one token
  pub joined_takes : TakesToken item → TakesToken (joined_by k join item)
  joined_takes takes next other ts same =
      takes (λ x. joined_from k join item x next) (λ x. joined_from k join item x other) ts
      (λ x us less. follows_same takes next other (length us) x us (λ y vs most. same y vs (omega arith)))

-- ---- by the code

module _ {X : Type 0} (k : List ℕ) (join : X → X → X) (item : Part Statement X) (takes : TakesToken item) (front : X) (start from : List Placed)
    (so_far : (next : X → Reader Statement) → joined_from k join item front next from ≡ joined_by k join item next start) (to : List Placed) where
  along : (more : Bool) → Skips (is_word (is_keyword k)) from more to → (next : X → Reader Statement) → joined_by k join item next start ≡ either more (item (λ x. joined_from k join item (join front x) next)) (next front) to
  along more skips next =
      sym (so_far next)
      ∙ (joined_step k join item takes front next from ∙ skips (λ u. item (λ x. joined_from k join item (join front x) next)) (next front))

  -- no more of them follow
  pub joined_over : Skips (is_word (is_keyword k)) from false to → (next : X → Reader Statement) → joined_by k join item next start ≡ next front to
  joined_over skips next = along false skips next

  module _ (skips : Skips (is_word (is_keyword k)) from true to) (behind : List Placed) where
    -- the next one is refused
    pub joined_stops : (e : Stop Slip) → Reads item to (Err e) behind → (r : Result X (Stop Slip)) → IsErrAnd r (λ y. y ≡ e) → Reads (joined_by k join item) start r behind
    joined_stops e read r is = reads_stop (joined_by k join item) item (λ next x. joined_from k join item (join front x) next) start to (along true skips) e behind read r is

    -- one more was read
    pub joined_more : (x : X) → Reads item to (Ok x) behind → (next : X → Reader Statement) → joined_from k join item (join front x) next behind ≡ joined_by k join item next start
    joined_more x read next = sym (along true skips next ∙ read (λ x. joined_from k join item (join front x) next))
