-- Each byte of a string and each part of a list takes something of its text, so the counts that bound their readers cut nothing off.
use Rattle.std.proofs.Common.{◌≡◌, ℕ, ◌<◌, ◌≤◌, Bool, true, false, cond, ◌==◌, List, [], ◌∷◌, ◌++◌, length, drop, refl, ap, arith, zero, suc, Option, Some, None, Result, Ok, Err, codes, length-drop}
use Rattle.std.specs.Option.{option_and_then}
use Rattle.mt_values.specs.declared.engine.Aggregate.{Aggregate}
use Rattle.mt_values.specs.declared.statement.Element.{Element}
use Rattle.mt_values.specs.declared.statement.Element.TheVariants as element
use Rattle.mt_values.specs.declared.statement.KindText.{KindText}
use Rattle.mt_values.specs.declared.statement.KindText.TheVariants as kind_text
use Rattle.mt_values.specs.declared.statement.Slip.{Slip}
use Rattle.mt_values.specs.declared.statement.Statement.{Statement}
use Rattle.mt_values.specs.declared.token.Placed.{Placed}
use Rattle.mt_values.specs.declared.token.Symbol.TheVariants as symbol
use Rattle.mt_values.specs.declared.token.Token.{Token}
use Rattle.mt_values.specs.declared.value.ColType.{ColType}
use Rattle.mt_values.specs.Escapes.{escape_of}
use Rattle.mt_values.specs.Lists.{in_front}
use Rattle.mt_values.specs.Tokens.{is_keyword, begins_with, byte_onto, escape_onto, quote_behind, string_within}
use Rattle.mt_values.specs.Readers.{Reader, Test, Part, taken, expect, either, choose, listed_within}
use Rattle.mt_values.specs.Grammar.{aggregated_type, column, column_type, exactly, function, index, index_kind, is_word, keyword, name, number, one_name, plain, plain_type, same_bytes, set_kind, table_element, the}
use Rattle.mt_values.specs.Rows.{unescaped_behind, unescaped_within}
use Rattle.mt_values.proofs.Bounds.{ShorterThan}
use Rattle.mt_values.proofs.TokenBounds.{escape_shorter}

-- ---- strings of statements

escape_same : (f g : List ℕ → Option (List ℕ × List ℕ)) (k : ℕ) (o : Option (ℕ × List ℕ)) → ShorterThan k o → ((rest : List ℕ) → length rest < k → f rest ≡ g rest) → option_and_then (escape_onto f) o ≡ option_and_then (escape_onto g) o
escape_same f g k None less same = refl
escape_same f g k (Some found) less same = ap (byte_onto found.0) (same found.1 less)

quote_same : (f g : List ℕ → Option (List ℕ × List ℕ)) (bs : List ℕ) → ((rest : List ℕ) → length rest ≤ length bs → f rest ≡ g rest) → quote_behind f bs ≡ quote_behind g bs
quote_same f g bs same = ap (λ (o : Option (List ℕ × List ℕ)). cond (begins_with 39 bs) (byte_onto 39 o) (Some ([], bs))) (same (drop 1 bs) (omega (arith, length-drop 1 bs)))

three : {A : Type 0} (b c : Bool) (x y z u v w : A) → x ≡ u → y ≡ v → z ≡ w → cond b x (cond c y z) ≡ cond b u (cond c v w)
three true c x y z u v w p q r = p
three false true x y z u v w p q r = q
three false false x y z u v w p q r = r

pub strings_same : (n m : ℕ) (text : List ℕ) → length text < n → length text < m → string_within n text ≡ string_within m text
strings_same zero m text low high = absurd (omega arith)
strings_same (suc n) zero text low high = absurd (omega arith)
strings_same (suc n) (suc m) [] low high = refl
strings_same (suc n) (suc m) (b ∷ bs) low high =
    three (b == 39) (b == 92) (quote_behind (string_within n) bs) (option_and_then (escape_onto (string_within n)) (escape_of bs)) (byte_onto b (string_within n bs)) (quote_behind (string_within m) bs)
    (option_and_then (escape_onto (string_within m)) (escape_of bs)) (byte_onto b (string_within m bs))
    (quote_same (string_within n) (string_within m) bs (λ rest less. strings_same n m rest (omega arith) (omega arith)))
    (escape_same (string_within n) (string_within m) (length bs) (escape_of bs) (escape_shorter bs) (λ rest less. strings_same n m rest (omega arith) (omega arith)))
    (ap (byte_onto b) (strings_same n m bs (omega arith) (omega arith)))

-- ---- texts of fields

behind_same : (f g : List ℕ → Option (List ℕ)) (k : ℕ) (o : Option (ℕ × List ℕ)) → ShorterThan k o → ((rest : List ℕ) → length rest < k → f rest ≡ g rest) → option_and_then (unescaped_behind f) o ≡ option_and_then (unescaped_behind g) o
behind_same f g k None less same = refl
behind_same f g k (Some found) less same = ap (λ (o : Option (List ℕ)). in_front o found.0) (same found.1 less)

two : {A : Type 0} (b : Bool) (x y u v : A) → x ≡ u → y ≡ v → cond b x y ≡ cond b u v
two true x y u v p q = p
two false x y u v p q = q

pub texts_same : (n m : ℕ) (text : List ℕ) → length text < n → length text < m → unescaped_within n text ≡ unescaped_within m text
texts_same zero m text low high = absurd (omega arith)
texts_same (suc n) zero text low high = absurd (omega arith)
texts_same (suc n) (suc m) [] low high = refl
texts_same (suc n) (suc m) (b ∷ bs) low high =
    two (b == 92) (option_and_then (unescaped_behind (unescaped_within n)) (escape_of bs)) (in_front (unescaped_within n bs) b) (option_and_then (unescaped_behind (unescaped_within m)) (escape_of bs)) (in_front (unescaped_within m bs) b)
    (behind_same (unescaped_within n) (unescaped_within m) (length bs) (escape_of bs) (escape_shorter bs) (λ rest less. texts_same n m rest (omega arith) (omega arith)))
    (ap (λ (o : Option (List ℕ)). in_front o b) (texts_same n m bs (omega arith) (omega arith)))

-- ---- lists of names and of elements

-- two readers read alike what is no longer than this
abbrev pub Alike : ℕ → Reader Statement → Reader Statement → Type 0
Alike k f g = (ts : List Placed) → length ts ≤ k → f ts ≡ g ts

taken_same : {X : Type 0} (r : Result X Slip) (f g : X → Reader Statement) (p : Placed) (ps : List Placed) → ((x : X) → Alike (length ps) (f x) (g x)) → taken r f p ps ≡ taken r g p ps
taken_same (Ok x) f g p ps same = same x ps (omega arith)
taken_same (Err s) f g p ps same = refl

pub expect_same : {X : Type 0} (test : Test X) (f g : X → Reader Statement) (ts : List Placed) → ((x : X) (rest : List Placed) → length rest < length ts → f x rest ≡ g x rest) → expect test f ts ≡ expect test g ts
expect_same test f g [] same = refl
expect_same test f g (p ∷ ps) same = taken_same (test p.token) f g p ps (λ x rest less. same x rest (omega arith))

either_same : (b : Bool) (f g h k : Reader Statement) (ts : List Placed) → f ts ≡ g ts → h ts ≡ k ts → either b f h ts ≡ either b g k ts
either_same true f g h k ts first second = first
either_same false f g h k ts first second = second

pub choose_same : (test : Token → Bool) (f g h k : Reader Statement) (ts : List Placed) → f ts ≡ g ts → h ts ≡ k ts → choose test f h ts ≡ choose test g k ts
choose_same test f g h k [] first second = second
choose_same test f g h k (p ∷ ps) first second = either_same (test p.token) f g h k (p ∷ ps) first second

-- a part reads on after itself
abbrev pub ReadsOn : {X : Type 0} → Part Statement X → Type 0
ReadsOn {X} part = (f g : X → Reader Statement) (ts : List Placed) → ((x : X) → Alike (length ts) (f x) (g x)) → part f ts ≡ part g ts

pub listed_same : {X Y : Type 0} (n m : ℕ) (more : Token → Bool) (between : Test Y) (item : Part Statement X) (front : List X) (next : List X → Reader Statement) (ts : List Placed)
    → ReadsOn item → length ts < n → length ts < m → listed_within n more between item front next ts ≡ listed_within m more between item front next ts
listed_same zero m more between item front next ts on low high = absurd (omega arith)
listed_same (suc n) zero more between item front next ts on low high = absurd (omega arith)
listed_same (suc n) (suc m) more between item front next ts on low high =
    on (λ x. choose more (expect between (λ y. listed_within n more between item (front ++ x ∷ []) next)) (next (front ++ x ∷ [])))
    (λ x. choose more (expect between (λ y. listed_within m more between item (front ++ x ∷ []) next)) (next (front ++ x ∷ []))) ts
    (λ x rest less.
    choose_same more (expect between (λ y. listed_within n more between item (front ++ x ∷ []) next)) (expect between (λ y. listed_within m more between item (front ++ x ∷ []) next))
    (next (front ++ x ∷ [])) (next (front ++ x ∷ [])) rest
    (expect_same between (λ y. listed_within n more between item (front ++ x ∷ []) next) (λ y. listed_within m more between item (front ++ x ∷ []) next) rest
    (λ y last lesser. listed_same n m more between item (front ++ x ∷ []) next last on (omega arith) (omega arith))) refl)

abbrev column_said : List ℕ → ColType × Option Aggregate → Element
column_said n t = element.Column (record { name = n; col_type = t.0; function = t.1 })

abbrev index_said : List ℕ → List ℕ → KindText → List ℕ → Element
index_said n c k digits = element.Index (record { name = n; column = c; kind = k; granularity = digits })

abbrev minmax_kind : Part Statement KindText
minmax_kind next = expect (exactly (codes "minmax")) (λ _. next kind_text.MinMax)

name_on : ReadsOn one_name
name_on f g ts same = expect_same name f g ts (λ x rest less. same x rest (omega arith))

plain_type_on : ReadsOn plain_type
plain_type_on f g ts same = expect_same plain (λ t. f (t, None)) (λ t. g (t, None)) ts (λ t rest less. same (t, None) rest (omega arith))

-- what follows the parenthesis of a function's type
abbrev function_then : (ColType × Option Aggregate → Reader Statement) → Reader Statement
function_then f = expect function (λ k. expect (the symbol.Comma) (λ u. expect plain (λ t. expect (the symbol.Close) (λ v. f (t, Some k)))))

function_on : ReadsOn function_then
function_on f g ts same =
    let closed = λ (h : ColType × Option Aggregate → Reader Statement) (k : Aggregate) (t : ColType). expect (the symbol.Close) (λ v. h (t, Some k)) in
    let typed = λ (h : ColType × Option Aggregate → Reader Statement) (k : Aggregate). expect (the symbol.Comma) (λ u. expect plain (closed h k)) in
    expect_same function (typed f) (typed g) ts
    (λ k us less.
    expect_same (the symbol.Comma) (λ u. expect plain (closed f k)) (λ u. expect plain (closed g k)) us
    (λ u vs fewer.
    expect_same plain (closed f k) (closed g k) vs
    (λ t ws least.
    expect_same (the symbol.Close) (λ v. f (t, Some k)) (λ v. g (t, Some k)) ws
    (λ v xs last. same (t, Some k) xs (omega arith)))))

aggregated_on : ReadsOn aggregated_type
aggregated_on f g ts same =
    expect_same (exactly (codes "SimpleAggregateFunction")) (λ u. expect (the symbol.Open) (λ v. function_then f)) (λ u. expect (the symbol.Open) (λ v. function_then g)) ts
    (λ u us less.
    expect_same (the symbol.Open) (λ v. function_then f) (λ v. function_then g) us
    (λ v vs fewer. function_on f g vs (λ t ws most. same t ws (omega arith))))

type_on : ReadsOn column_type
type_on f g ts same =
    choose_same (is_word (same_bytes (codes "SimpleAggregateFunction"))) (aggregated_type f) (aggregated_type g) (plain_type f) (plain_type g) ts
    (aggregated_on f g ts same) (plain_type_on f g ts same)

column_on : ReadsOn column
column_on f g ts same =
    expect_same name (λ n. column_type (λ t. f (column_said n t))) (λ n. column_type (λ t. g (column_said n t))) ts
    (λ n rest less. type_on (λ t. f (column_said n t)) (λ t. g (column_said n t)) rest (λ t last most. same (column_said n t) last (omega arith)))

minmax_on : ReadsOn minmax_kind
minmax_on f g ts same = expect_same (exactly (codes "minmax")) (λ u. f kind_text.MinMax) (λ u. g kind_text.MinMax) ts (λ u rest less. same kind_text.MinMax rest (omega arith))

set_on : ReadsOn set_kind
set_on f g ts same =
    let closed = λ (h : KindText → Reader Statement) (digits : List ℕ). expect (the symbol.Close) (λ u. h (kind_text.Set digits)) in
    expect_same (exactly (codes "set")) (λ u. expect (the symbol.Open) (λ v. expect number (closed f))) (λ u. expect (the symbol.Open) (λ v. expect number (closed g))) ts
    (λ u us less.
    expect_same (the symbol.Open) (λ v. expect number (closed f)) (λ v. expect number (closed g)) us
    (λ v vs fewer.
    expect_same number (closed f) (closed g) vs
    (λ digits ws least.
    expect_same (the symbol.Close) (λ u. f (kind_text.Set digits)) (λ u. g (kind_text.Set digits)) ws
    (λ u xs last. same (kind_text.Set digits) xs (omega arith)))))

kind_on : ReadsOn index_kind
kind_on f g ts same =
    choose_same (is_word (same_bytes (codes "minmax"))) (minmax_kind f) (minmax_kind g) (set_kind f) (set_kind g) ts (minmax_on f g ts same) (set_on f g ts same)

-- what follows the names of an index
abbrev kind_then : List ℕ → List ℕ → (Element → Reader Statement) → Reader Statement
kind_then n c f = expect (keyword (codes "TYPE")) (λ u. index_kind (λ k. expect (keyword (codes "GRANULARITY")) (λ v. expect number (λ digits. f (index_said n c k digits)))))

then_on : (n c : List ℕ) → ReadsOn (kind_then n c)
then_on n c f g ts same =
    let sized = λ (h : Element → Reader Statement) (k : KindText). expect (keyword (codes "GRANULARITY")) (λ v. expect number (λ digits. h (index_said n c k digits))) in
    expect_same (keyword (codes "TYPE")) (λ u. index_kind (sized f)) (λ u. index_kind (sized g)) ts
    (λ u us less.
    kind_on (sized f) (sized g) us
    (λ k vs most.
    expect_same (keyword (codes "GRANULARITY")) (λ v. expect number (λ digits. f (index_said n c k digits))) (λ v. expect number (λ digits. g (index_said n c k digits))) vs
    (λ v ws fewer.
    expect_same number (λ digits. f (index_said n c k digits)) (λ digits. g (index_said n c k digits)) ws
    (λ digits xs last. same (index_said n c k digits) xs (omega arith)))))

index_on : ReadsOn index
index_on f g ts same =
    expect_same (keyword (codes "INDEX")) (λ u. expect name (λ n. expect name (λ c. kind_then n c f))) (λ u. expect name (λ n. expect name (λ c. kind_then n c g))) ts
    (λ u us less.
    expect_same name (λ n. expect name (λ c. kind_then n c f)) (λ n. expect name (λ c. kind_then n c g)) us
    (λ n vs fewer.
    expect_same name (λ c. kind_then n c f) (λ c. kind_then n c g) vs
    (λ c ws least. then_on n c f g ws (λ e xs last. same e xs (omega arith)))))

element_on : ReadsOn table_element
element_on f g ts same = choose_same (is_word (is_keyword (codes "INDEX"))) (index f) (index g) (column f) (column g) ts (index_on f g ts same) (column_on f g ts same)

pub names_same : {Y : Type 0} (n m : ℕ) (more : Token → Bool) (between : Test Y) (next : List (List ℕ) → Reader Statement) (ts : List Placed) → length ts < n → length ts < m
    → listed_within n more between one_name [] next ts ≡ listed_within m more between one_name [] next ts
names_same n m more between next ts low high = listed_same n m more between one_name [] next ts name_on low high

pub elements_same : {Y : Type 0} (n m : ℕ) (more : Token → Bool) (between : Test Y) (next : List Element → Reader Statement) (ts : List Placed) → length ts < n → length ts < m
    → listed_within n more between table_element [] next ts ≡ listed_within m more between table_element [] next ts
elements_same n m more between next ts low high = listed_same n m more between table_element [] next ts element_on low high
