-- The commands of a history, counted table by table.
use Rattle.std.proofs.Common.{◌≡◌, ℕ, ◌+◌, ◌≤◌, Bool, true, false, cond, ◌&&◌, ◌||◌, List, [], ◌∷◌, ◌++◌, Option, Some, None, length, filter, is_some, refl, sym, ap, ap₂, ◌∙◌, subst, append_assoc, append-nil, length-append, zero-add, arith}
use Rattle.std.proofs.lemmas.Bool.{false≢true}
use Rattle.std.proofs.lemmas.List.Elements.{filter-append}
use Rattle.mt_values.specs.declared.command.Command.{Command}
use Rattle.mt_values.specs.declared.command.Command.TheVariants as command
use Rattle.mt_values.specs.declared.command.Entry.{Entry}
use Rattle.mt_values.specs.declared.schema.Schema.{Schema}
use Rattle.mt_values.specs.Grammar.{same_bytes}
use Rattle.table_core.specs.mt_model.History.{History, IsAllowed, IsLegal, IsLegalAfter, creates, first_of, is_create, schema_by, schema_of}
use Rattle.table_core.proofs.MtModelTables.{itself_same, same_is}
use Rattle.table_core.specs.mt_model.Numbers.{draws, numbered}
use Rattle.table_core.proofs.MtModelHistories.{schema_kept, schema_more}

-- the table of a command
abbrev pub table_by : Command → List ℕ
table_by (command.Create c) = c.table
table_by (command.Insert i) = i.table
table_by (command.Alter a) = a.table

abbrev pub one_if : Bool → ℕ
one_if b = cond b 1 0

-- how many commands of a kind are of a table
abbrev pub hits : (Command → Bool) → List ℕ → History → ℕ
hits P table [] = 0
hits P table (e ∷ h) = one_if (P e.command && same_bytes (table_by e.command) table) + hits P table h

-- how many are of the kind
abbrev pub total : (Command → Bool) → History → ℕ
total P [] = 0
total P (e ∷ h) = one_if (P e.command) + total P h

-- the commands of each of these tables
abbrev pub all_hits : (Command → Bool) → List (List ℕ) → History → ℕ
all_hits P [] h = 0
all_hits P (k ∷ ks) h = hits P k h + all_hits P ks h

-- whether a table is among these
abbrev pub is_among : List (List ℕ) → List ℕ → Bool
is_among [] t = false
is_among (k ∷ ks) t = same_bytes t k || is_among ks t

-- no table stands twice among these
abbrev pub Apart : List (List ℕ) → Type 0
Apart [] = Unit {0}
Apart (k ∷ ks) = (is_among ks k ≡ false) × Apart ks

-- each command of the kind is of one of these tables
abbrev pub Among : (Command → Bool) → List (List ℕ) → History → Type 0
Among P ks [] = Unit {0}
Among P ks (e ∷ h) = (P e.command ≡ true → is_among ks (table_by e.command) ≡ true) × Among P ks h

-- ---- one command

abbrev extra : Bool → List ℕ → List (List ℕ) → ℕ
extra b t [] = 0
extra b t (k ∷ ks) = one_if (b && same_bytes t k) + extra b t ks

extra_off : (t : List ℕ) (ks : List (List ℕ)) → extra false t ks ≡ 0
extra_off t [] = refl
extra_off t (k ∷ ks) = let more = extra_off t ks in omega (arith, more)

extra_none : (t : List ℕ) (ks : List (List ℕ)) → is_among ks t ≡ false → extra true t ks ≡ 0
extra_none t [] none = refl
extra_none t (k ∷ ks) none = by (same_bytes t k) none (extra_none t ks)
  where
    by : (b : Bool) → (b || is_among ks t) ≡ false → (is_among ks t ≡ false → extra true t ks ≡ 0) → one_if b + extra true t ks ≡ 0
    by true off rest = cc
    by false off rest = let none = rest off in omega (arith, none)

extra_one : (t : List ℕ) (ks : List (List ℕ)) → Apart ks → is_among ks t ≡ true → extra true t ks ≡ 1
extra_one t [] apart here = cc
extra_one t (k ∷ ks) apart here = by (same_bytes t k) refl here (extra_one t ks apart.1)
  where
    by : (b : Bool) → same_bytes t k ≡ b → (b || is_among ks t) ≡ true → (is_among ks t ≡ true → extra true t ks ≡ 1) → one_if b + extra true t ks ≡ 1
    by true same on rest =
        let none = extra_none t ks (ap (is_among ks) (same_is t k same) ∙ apart.0) in
        omega (arith, none)
    by false same on rest = let one = rest on in omega (arith, one)

all_step : (P : Command → Bool) (ks : List (List ℕ)) (e : Entry) (h : History) → all_hits P ks (e ∷ h) ≡ extra (P e.command) (table_by e.command) ks + all_hits P ks h
all_step P [] e h = refl
all_step P (k ∷ ks) e h = let more = all_step P ks e h in omega (arith, more)

-- the commands of the kind, table by table, are all of them
pub counted : (P : Command → Bool) (ks : List (List ℕ)) (h : History) → Apart ks → Among P ks h → all_hits P ks h ≡ total P h
counted P ks [] apart among = none ks
  where
    none : (ks : List (List ℕ)) → all_hits P ks [] ≡ 0
    none [] = refl
    none (k ∷ ks) = let rest = none ks in omega (arith, rest)
counted P ks (e ∷ h) apart among = all_step P ks e h ∙ ap₂ (λ (m n : ℕ). m + n) (by (P e.command) among.0) (counted P ks h apart among.1)
  where
    by : (b : Bool) → (b ≡ true → is_among ks (table_by e.command) ≡ true) → extra b (table_by e.command) ks ≡ one_if b
    by true here = extra_one (table_by e.command) ks apart (here refl)
    by false here = extra_off (table_by e.command) ks

-- ---- all commands, and the CREATEs

abbrev pub every : Command → Bool
every c = true

pub total_any : (h : History) → total every h ≡ length h
total_any [] = refl
total_any (e ∷ h) = let more = total_any h in omega (arith, more)

pub total_creates : (h : History) → total is_create h ≡ creates h
total_creates [] = refl
total_creates (e ∷ h) = by (is_create e.command) (total_creates h)
  where
    by : (b : Bool) → total is_create h ≡ creates h → one_if b + total is_create h ≡ length (cond b (e ∷ filter (λ (x : Entry). is_create x.command) h) (filter (λ (x : Entry). is_create x.command) h))
    by true more = omega (arith, more)
    by false more = omega (arith, more)

-- ---- legal histories

creates_after : (before h : History) → IsLegalAfter before h → creates before ≤ 65536 → creates (before ++ h) ≤ 65536
creates_after before [] legal few = subst (λ (x : History). creates x ≤ 65536) (sym (append-nil before)) few
creates_after before (e ∷ h) legal few =
    subst (λ (x : History). creates x ≤ 65536) (append_assoc before (e ∷ []) h) (creates_after (before ++ e ∷ []) h legal.1 (by e.command legal.0 refl))
  where
    more : creates (before ++ e ∷ []) ≡ creates before + length (cond (is_create e.command) (e ∷ []) [])
    more = ap length (filter-append (λ (x : Entry). is_create x.command) before (e ∷ [])) ∙ length-append (filter (λ (x : Entry). is_create x.command) before) (cond (is_create e.command) (e ∷ []) [])

    by : (c : Command) → IsAllowed before c → e.command ≡ c → creates (before ++ e ∷ []) ≤ 65536
    by (command.Create c) allowed is =
        let one : length (cond (is_create e.command) (e ∷ []) []) ≡ 1 = ap (λ (x : Command). length (cond (is_create x) (e ∷ []) [])) is in
        omega (arith, more, one, allowed.1)
    by (command.Insert i) allowed is =
        let one : length (cond (is_create e.command) (e ∷ []) []) ≡ 0 = ap (λ (x : Command). length (cond (is_create x) (e ∷ []) [])) is in
        omega (arith, more, one, few)
    by (command.Alter a) allowed is =
        let one : length (cond (is_create e.command) (e ∷ []) []) ≡ 0 = ap (λ (x : Command). length (cond (is_create x) (e ∷ []) [])) is in
        omega (arith, more, one, few)

-- a legal history has few tables
pub creates_few : (h : History) → IsLegal h → creates h ≤ 65536
creates_few h legal = creates_after [] h legal (omega arith)

-- the schema of a table after one command more
schema_push : (t : List ℕ) (before : History) (e : Entry) → schema_of t (before ++ e ∷ []) ≡ first_of (schema_of t before) (schema_of t (e ∷ []))
schema_push t before e = schema_more t before (e ∷ [])

-- the table of a command that may come is there after it
there_after : (before : History) (e : Entry) → IsAllowed before e.command → is_some (schema_of (table_by e.command) (before ++ e ∷ [])) ≡ true
there_after before e allowed = by e.command allowed refl
  where
    by : (c : Command) → IsAllowed before c → e.command ≡ c → is_some (schema_of (table_by e.command) (before ++ e ∷ [])) ≡ true
    by (command.Create c) allowed is =
        let table : table_by e.command ≡ c.table = ap table_by is in
        let last : schema_of c.table (e ∷ []) ≡ Some c.schema =
        ap (λ (x : Command). first_of (schema_by c.table x) None) is ∙ ap (λ (b : Bool). first_of (cond b (Some c.schema) None) None) (itself_same c.table) in
        ap (λ (t : List ℕ). is_some (schema_of t (before ++ e ∷ []))) table
        ∙ ap is_some (schema_push c.table before e ∙ ap₂ (λ (o p : Option Schema). first_of o p) allowed.0 last)
    by (command.Insert i) allowed is =
        let table : table_by e.command ≡ i.table = ap table_by is in
        ap (λ (t : List ℕ). is_some (schema_of t (before ++ e ∷ []))) table ∙ ap is_some (schema_kept i.table before (e ∷ []) allowed.0 allowed.1)
    by (command.Alter a) allowed is =
        let table : table_by e.command ≡ a.table = ap table_by is in
        ap (λ (t : List ℕ). is_some (schema_of t (before ++ e ∷ []))) table ∙ ap is_some (schema_kept a.table before (e ∷ []) allowed.0 allowed.1)

some_kept : (t : List ℕ) (h more : History) → is_some (schema_of t h) ≡ true → is_some (schema_of t (h ++ more)) ≡ true
some_kept t h more some = by (schema_of t h) refl some
  where
    by : (o : Option Schema) → schema_of t h ≡ o → is_some o ≡ true → is_some (schema_of t (h ++ more)) ≡ true
    by None is none = absurd (false≢true none)
    by (Some schema) is one = ap is_some (schema_kept t h more schema is)

among_after : (P : Command → Bool) (ks : List (List ℕ)) (before h : History) → IsLegalAfter before h → ((t : List ℕ) → is_some (schema_of t (before ++ h)) ≡ true → is_among ks t ≡ true) → Among P ks h
among_after P ks before [] legal all = tt
among_after P ks before (e ∷ h) legal all =
    let joined = append_assoc before (e ∷ []) h in (
      λ passes. all (table_by e.command) (subst (λ (x : History). is_some (schema_of (table_by e.command) x) ≡ true) joined (some_kept (table_by e.command) (before ++ e ∷ []) h (there_after before e legal.0))),
      among_after P ks (before ++ e ∷ []) h legal.1 (λ t some. all t (subst (λ (x : History). is_some (schema_of t x) ≡ true) joined some)),
    )

-- each command is of a table of the history
pub among_tables : (P : Command → Bool) (ks : List (List ℕ)) (h : History) → IsLegal h → ((t : List ℕ) → is_some (schema_of t h) ≡ true → is_among ks t ≡ true) → Among P ks h
among_tables P ks h legal all = among_after P ks [] h legal all

-- a table has one CREATE
once_after : (k : List ℕ) (before h : History) → IsLegalAfter before h → hits is_create k h ≡ cond (is_some (schema_of k before)) 0 (one_if (is_some (schema_of k h)))
once_after k before [] legal = by (is_some (schema_of k before))
  where
    by : (b : Bool) → ◌≡◌ {A = ℕ} 0 (cond b 0 0)
    by true = refl
    by false = refl
once_after k before (e ∷ h) legal = by e.command legal.0 refl (once_after k (before ++ e ∷ []) h legal.1)
  where
    -- a command that makes no table of this name
    same : (last : schema_by k e.command ≡ None) → is_create e.command && same_bytes (table_by e.command) k ≡ false
        → hits is_create k h ≡ cond (is_some (schema_of k (before ++ e ∷ []))) 0 (one_if (is_some (schema_of k h)))
        → hits is_create k (e ∷ h) ≡ cond (is_some (schema_of k before)) 0 (one_if (is_some (schema_of k (e ∷ h))))
    same last off more =
        let none : schema_of k (e ∷ []) ≡ None = ap (λ (o : Option Schema). first_of o None) last in
        let kept : schema_of k (before ++ e ∷ []) ≡ schema_of k before = schema_push k before e ∙ (ap (first_of (schema_of k before)) none ∙ behind_none (schema_of k before)) in
        let behind : schema_of k (e ∷ h) ≡ schema_of k h = ap (λ (o : Option Schema). first_of o (schema_of k h)) last in
        ap (λ (b : Bool). one_if b + hits is_create k h) off
        ∙ (zero-add (hits is_create k h) ∙ (more ∙ (ap (λ (o : Option Schema). cond (is_some o) 0 (one_if (is_some (schema_of k h)))) kept
        ∙ ap (λ (o : Option Schema). cond (is_some (schema_of k before)) 0 (one_if (is_some o))) (sym behind))))
      where
        behind_none : (o : Option Schema) → first_of o None ≡ o
        behind_none None = refl
        behind_none (Some x) = refl

    by : (c : Command) → IsAllowed before c → e.command ≡ c → hits is_create k h ≡ cond (is_some (schema_of k (before ++ e ∷ []))) 0 (one_if (is_some (schema_of k h)))
        → hits is_create k (e ∷ h) ≡ cond (is_some (schema_of k before)) 0 (one_if (is_some (schema_of k (e ∷ h))))
    by (command.Insert i) allowed is more = same (ap (schema_by k) is) (ap (λ (c : Command). is_create c && same_bytes (table_by c) k) is) more
    by (command.Alter a) allowed is more = same (ap (schema_by k) is) (ap (λ (c : Command). is_create c && same_bytes (table_by c) k) is) more
    by (command.Create c) allowed is more = named (same_bytes c.table k) refl
      where
        named : (b : Bool) → same_bytes c.table k ≡ b → hits is_create k (e ∷ h) ≡ cond (is_some (schema_of k before)) 0 (one_if (is_some (schema_of k (e ∷ h))))
        named false other =
            same (ap (schema_by k) is ∙ ap (λ (b : Bool). cond b (Some c.schema) None) other) (ap (λ (x : Command). is_create x && same_bytes (table_by x) k) is ∙ other) more
        named true here =
            let table : c.table ≡ k = same_is c.table k here in
            let free : schema_of k before ≡ None = ap (λ (t : List ℕ). schema_of t before) (sym table) ∙ allowed.0 in
            let made : schema_by k e.command ≡ Some c.schema = ap (schema_by k) is ∙ ap (λ (b : Bool). cond b (Some c.schema) None) here in
            let on : is_create e.command && same_bytes (table_by e.command) k ≡ true = ap (λ (x : Command). is_create x && same_bytes (table_by x) k) is ∙ here in
            let there : is_some (schema_of k (before ++ e ∷ [])) ≡ true =
            ap is_some (schema_push k before e ∙ ap₂ (λ (o p : Option Schema). first_of o p) free (ap (λ (o : Option Schema). first_of o None) made)) in
            let none : hits is_create k h ≡ 0 = more ∙ ap (λ (b : Bool). cond b 0 (one_if (is_some (schema_of k h)))) there in
            ap₂ (λ (b : Bool) (n : ℕ). one_if b + n) on none
            ∙ sym (ap₂ (λ (o p : Option Schema). cond (is_some o) 0 (one_if (is_some p))) free (ap (λ (o : Option Schema). first_of o (schema_of k h)) made))

pub made_once : (k : List ℕ) (h : History) → IsLegal h → is_some (schema_of k h) ≡ true → hits is_create k h ≡ 1
made_once k h legal some = once_after k [] h legal ∙ ap one_if some

-- the commands of a table are its CREATEs and those that draw a number
pub of_table : (k : List ℕ) (h : History) → hits every k h ≡ hits is_create k h + length (numbered k h)
of_table k [] = refl
of_table k (e ∷ h) = by e.command (of_table k h)
  where
    by : (c : Command) → hits every k h ≡ hits is_create k h + length (numbered k h)
        → one_if (same_bytes (table_by c) k) + hits every k h ≡ one_if (is_create c && same_bytes (table_by c) k) + hits is_create k h + length (cond (draws k c) (c ∷ numbered k h) (numbered k h))
    by (command.Create c) more = let n = one_if (same_bytes c.table k) in omega (arith, more)
    by (command.Insert i) more = on (same_bytes i.table k)
      where
        on : (b : Bool) → one_if b + hits every k h ≡ 0 + hits is_create k h + length (cond b (command.Insert i ∷ numbered k h) (numbered k h))
        on true = omega (arith, more)
        on false = omega (arith, more)
    by (command.Alter a) more = on (same_bytes a.table k)
      where
        on : (b : Bool) → one_if b + hits every k h ≡ 0 + hits is_create k h + length (cond b (command.Alter a ∷ numbered k h) (numbered k h))
        on true = omega (arith, more)
        on false = omega (arith, more)

-- ---- as many tables as CREATEs

-- each of these is a table of the history
abbrev pub AreThere : History → List (List ℕ) → Type 0
AreThere h [] = Unit {0}
AreThere h (k ∷ ks) = (is_some (schema_of k h) ≡ true) × AreThere h ks

-- of each of these tables its CREATE, and the numbers that it drew
abbrev pub sizes : History → List (List ℕ) → ℕ
sizes h [] = 0
sizes h (k ∷ ks) = 1 + length (numbered k h) + sizes h ks

ones : (h : History) → IsLegal h → (ks : List (List ℕ)) → AreThere h ks → all_hits is_create ks h ≡ length ks
ones h legal [] there = refl
ones h legal (k ∷ ks) there =
    let once = made_once k h legal there.0 in
    let more = ones h legal ks there.1 in
    omega (arith, once, more)

drawn : (h : History) → IsLegal h → (ks : List (List ℕ)) → AreThere h ks → all_hits every ks h ≡ sizes h ks
drawn h legal [] there = refl
drawn h legal (k ∷ ks) there = ap₂ (λ (m n : ℕ). m + n) (of_table k h ∙ ap (λ (n : ℕ). n + length (numbered k h)) (made_once k h legal there.0)) (drawn h legal ks there.1)

-- these are the tables of the history, each once
pub record AreTables (h : History) (ks : List (List ℕ)) : Type 0 where
  pub apart : Apart ks
  pub there : AreThere h ks
  pub all : (t : List ℕ) → is_some (schema_of t h) ≡ true → is_among ks t ≡ true

pub as_many : (h : History) (ks : List (List ℕ)) → IsLegal h → AreTables h ks → length ks ≡ creates h
as_many h ks legal are = sym (ones h legal ks are.there) ∙ (counted is_create ks h are.apart (among_tables is_create ks h legal are.all) ∙ total_creates h)

pub as_long : (h : History) (ks : List (List ℕ)) → IsLegal h → AreTables h ks → sizes h ks ≡ length h
as_long h ks legal are = sym (drawn h legal ks are.there) ∙ (counted every ks h are.apart (among_tables every ks h legal are.all) ∙ total_any h)
