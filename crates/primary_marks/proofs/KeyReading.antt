-- Keys read from bytes, value by value and key by key.
use Rattle.std.proofs.Common.{◌≡◌, ℕ, suc, ◌+◌, ◌<◌, ◌≤◌, List, [], ◌∷◌, ◌++◌, Option, Some, None, IfSome, refl, sym, ap, ap₂, ◌∙◌, subst, length, length-append, take, drop, set, slice_get, get_or, All, arith, append_assoc, append-nil, option_map}
use Rattle.std.proofs.lemmas.List.{drop-drop, drop_all, length-map, length-set, take_all, take_more}
use Rattle.std.proofs.lemmas.List.Elements.{All-nil, All-push}
use Rattle.std.proofs.lemmas.Option.{get_or_from_slice_get, slice_get-get_or, slice_get-map, slice_get_within}
use Rattle.column_file.specs.byte_numbers.declared.faults.FormatFault.{FormatFault}
use Rattle.column_file.specs.byte_numbers.declared.faults.FormatFault.TheVariants.{NoMemory, Malformed}
use Rattle.column_file.specs.byte_numbers.Fronts.{Begins}
use Rattle.mt_values.specs.declared.value.Value.{Value}
use Rattle.mt_values.specs.ColumnBytes.{column_bytes, value_bytes}
use Rattle.mt_values.specs.Grid.{Cells, row_at}
use Rattle.mt_values.specs.Values.{FitsType, Row, type_of, types_of}
use Rattle.column_file.specs.Spellings.{with_values}
use Rattle.primary_marks.specs.Columns.{ExplainsValue, GainKey, GainsValue, HaveWanted, IsWantedIn, key_types, wanted_key, with_key}
use Rattle.primary_marks.specs.KeyFaults.{ExplainsKey}
use Rattle.column_file.proofs.Fronts.{spelled_last}
use Rattle.primary_marks.proofs.KeyRows.{length-row_at, slice_get-row_at}

-- ---- value by value

-- the values of a key so far, which the bytes begin with, and the columns that got them
pub record AreGoneOver (olds : List Cells) (wanted : Option ℕ) (bytes : List ℕ) (size : ℕ) (now : List Cells) : Type 0 where
  pub begun : Row
  pub few : length begun ≤ length olds
  pub wide : length now ≡ length olds
  pub typed : types_of begun ≡ take (length begun) (key_types olds)
  pub fit : All FitsType begun
  pub same : IfSome wanted (λ k. begun ≡ take (length begun) (row_at olds k))
  pub begins : Begins (column_bytes begun) size bytes
  pub gained : now ≡ with_key (take (length begun) olds) begun ++ drop (length begun) olds

none_same : (olds : List Cells) (wanted : Option ℕ) → IfSome wanted (λ k. [] ≡ take 0 (row_at olds k))
none_same olds None = tt
none_same olds (Some k) = refl

pub gone_none : (olds : List Cells) (wanted : Option ℕ) (bytes : List ℕ) → (g : AreGoneOver olds wanted bytes 0 olds) × (length g.begun ≡ 0)
gone_none olds wanted bytes = (
  record {
    begun = [];
    few = omega arith;
    wide = refl;
    typed = refl;
    fit = All-nil FitsType;
    same = none_same olds wanted;
    begins = record { size_is = refl; parted = refl };
    gained = refl;
  },
  refl,
)

pub gone_within : {olds : List Cells} {wanted : Option ℕ} {bytes : List ℕ} {size : ℕ} {now : List Cells} → AreGoneOver olds wanted bytes size now → size ≤ length bytes
gone_within {olds} {wanted} {bytes} {size} g = omega (arith, g.begins.size_is, ap length g.begins.parted, length-append (column_bytes g.begun) (drop size bytes))

with_key_more : (olds : List Cells) (begun : Row) (c new : Cells) (v : Value) → length begun < length olds → c ≡ get_or olds (length begun) c → new ≡ with_values c (v ∷ []) → set (with_key (take (length begun) olds) begun ++ drop (length begun) olds) (length begun) new ≡ with_key (take (length begun + 1) olds) (begun ++ v ∷ []) ++ drop (length begun + 1) olds
with_key_more [] begun c new v below here e = absurd (omega arith)
with_key_more (o ∷ os) [] c new v below here e = ap (λ (x : Cells). x ∷ os) (e ∙ ap (λ (x : Cells). with_values x (v ∷ [])) here)
with_key_more (o ∷ os) (b ∷ bs) c new v below here e =
    let up : suc (length bs) + 1 ≡ suc (length bs + 1) = omega arith in
    ap (λ (cs : List Cells). with_values o (b ∷ []) ∷ cs) (with_key_more os bs c new v (omega arith) here e)
    ∙ ap (λ n. with_key (take n (o ∷ os)) (b ∷ (bs ++ v ∷ [])) ++ drop n (o ∷ os)) (sym up)

-- the column at the place is still as it was
column_there : (olds : List Cells) (begun : Row) (c : Cells) → length begun < length olds → c ≡ get_or (with_key (take (length begun) olds) begun ++ drop (length begun) olds) (length begun) c → c ≡ get_or olds (length begun) c
column_there [] begun c below here = absurd (omega arith)
column_there (o ∷ os) [] c below here = here
column_there (o ∷ os) (b ∷ bs) c below here = column_there os bs c (omega arith) here

module _ {olds : List Cells} {wanted : Option ℕ} {bytes : List ℕ} {size : ℕ} {now : List Cells} (g : AreGoneOver olds wanted bytes size now) (c : Cells) (below : length g.begun < length olds) (here : c ≡ get_or now (length g.begun) c) where
  there : c ≡ get_or olds (length g.begun) c
  there = column_there olds g.begun c below (here ∙ ap (λ (cs : List Cells). get_or cs (length g.begun) c) g.gained)

  column_is : slice_get olds (length g.begun) ≡ Some c
  column_is = slice_get-get_or olds (length g.begun) c below ∙ ap Some (sym there)

  type_is : slice_get (key_types olds) (length g.begun) ≡ Some c.col_type
  type_is = slice_get-map (λ (x : Cells). x.col_type) olds (length g.begun) ∙ ap (option_map (λ (x : Cells). x.col_type)) column_is

  -- what is wanted in the column is wanted of the key
  wanted_more : (w : Option ℕ) (v : Value) → HaveWanted w olds → IfSome w (λ k. g.begun ≡ take (length g.begun) (row_at olds k)) → IsWantedIn c w v → IfSome w (λ k. g.begun ++ v ∷ [] ≡ take (length (g.begun ++ v ∷ [])) (row_at olds k))
  wanted_more None v have so_far this = tt
  wanted_more (Some k) v have so_far this =
      let value : slice_get (row_at olds k) (length g.begun) ≡ Some v = slice_get-row_at olds k (length g.begun) c have column_is ∙ this in
      let within = slice_get_within (row_at olds k) (length g.begun) v value in
      ap (λ (r : Row). r ++ v ∷ []) so_far
      ∙ ap (λ x. take (length g.begun) (row_at olds k) ++ x ∷ []) (sym (get_or_from_slice_get (row_at olds k) (length g.begun) v v value))
      ∙ sym (take_more (row_at olds k) (length g.begun) v within)
      ∙ ap (λ n. take n (row_at olds k)) (sym (length-append g.begun (v ∷ [])))

  -- and what is wanted of the key is wanted in the column
  wanted_in : (w : Option ℕ) (v : Value) → HaveWanted w olds → IfSome (wanted_key olds w) (λ key. slice_get key (length g.begun) ≡ Some v) → IsWantedIn c w v
  wanted_in None v have this = tt
  wanted_in (Some k) v have this = sym (slice_get-row_at olds k (length g.begun) c have column_is) ∙ this

  -- one value more
  pub gone_more : (n : ℕ) (new : Cells) → HaveWanted wanted olds → GainsValue wanted (drop size bytes) n c new → (h : AreGoneOver olds wanted bytes (size + n) (set now (length g.begun) new)) × (length h.begun ≡ length g.begun + 1)
  gone_more n new have v =
      let begun = g.begun ++ v.value ∷ [] in
      let len : length begun ≡ length g.begun + 1 = length-append g.begun (v.value ∷ []) in
      let all = spelled_last value_bytes g.begun v.value in
      let left : drop n (drop size bytes) ≡ drop (size + n) bytes = drop-drop n size bytes in (
        record {
          begun = begun;
          few = omega (arith, len);
          wide = length-set now (length g.begun) new ∙ g.wide;
          typed =
              types_push g.begun v.value ∙ ap₂ (λ ts t. ts ++ t ∷ []) g.typed (v.typed.0 ∙ sym (get_or_from_slice_get (key_types olds) (length g.begun) c.col_type c.col_type type_is))
              ∙ sym (take_more (key_types olds) (length g.begun) c.col_type (slice_get_within (key_types olds) (length g.begun) c.col_type type_is))
              ∙ ap (λ k. take k (key_types olds)) (sym len);
          fit = All-push FitsType g.begun v.value g.fit v.typed.1;
          same = wanted_more wanted v.value have g.same v.same;
          begins = record {
            size_is = omega (arith, g.begins.size_is, v.begins.size_is, ap length all, length-append (column_bytes g.begun) (value_bytes v.value));
            parted = g.begins.parted ∙ ap (λ l. column_bytes g.begun ++ l) (v.begins.parted ∙ ap (λ l. value_bytes v.value ++ l) left)
                ∙ sym (append_assoc (column_bytes g.begun) (value_bytes v.value) (drop (size + n) bytes)) ∙ ap (λ l. l ++ drop (size + n) bytes) (sym all);
          };
          gained = ap (λ (cs : List Cells). set cs (length g.begun) new) g.gained ∙ with_key_more olds g.begun c new v.value below there v.gained
              ∙ ap (λ k. with_key (take k olds) begun ++ drop k olds) (sym len);
        },
        len,
      )
    where
      types_push : (xs : Row) (x : Value) → types_of (xs ++ x ∷ []) ≡ types_of xs ++ type_of x ∷ []
      types_push [] x = refl
      types_push (y ∷ ys) x = ap (λ ts. type_of y ∷ ts) (types_push ys x)

  wanted_begun : (w : Option ℕ) → IfSome w (λ k. g.begun ≡ take (length g.begun) (row_at olds k)) → IfSome (wanted_key olds w) (λ key. g.begun ≡ take (length g.begun) key)
  wanted_begun None same = tt
  wanted_begun (Some k) same = same

  -- no further value is there
  pub gone_stuck : (at : ℕ) (e : FormatFault) → HaveWanted wanted olds → ExplainsValue wanted c (at + size) (drop size bytes) e → ExplainsKey (key_types olds) (wanted_key olds wanted) at bytes e
  gone_stuck at NoMemory have explains = tt
  gone_stuck at (Malformed place) have explains = record {
    begun = g.begun;
    rest = drop size bytes;
    few = slice_get_within (key_types olds) (length g.begun) c.col_type type_is;
    begins = record { typed = g.typed; fit = g.fit; same = wanted_begun wanted g.same };
    parted = g.begins.parted;
    place_is = explains.0 ∙ ap (λ k. at + k) g.begins.size_is;
    stuck = λ v left typed fits same e.
        let t : type_of v ≡ c.col_type = let s = sym typed ∙ type_is in cc in
        explains.1 v left (t, fits) (wanted_in wanted v have same) e;
  }

-- all values are there
pub gone_all : {olds : List Cells} {wanted : Option ℕ} {bytes : List ℕ} {size : ℕ} {now : List Cells} (g : AreGoneOver olds wanted bytes size now) → HaveWanted wanted olds → length olds ≤ length g.begun → GainKey wanted bytes size olds now
gone_all {olds} {wanted} {bytes} {size} {now} g have past =
    let whole : take (length g.begun) olds ≡ olds = take_all (length g.begun) olds past in
    record {
      key = g.begun;
      is_key = record { typed = g.typed ∙ take_all (length g.begun) (key_types olds) (omega (arith, length-map olds (λ (c : Cells). c.col_type))); fit = g.fit };
      same = whole_same wanted have g.same;
      begins = g.begins;
      gained = g.gained ∙ ap₂ (λ (a b : List Cells). with_key a g.begun ++ b) whole (drop_all (length g.begun) olds past) ∙ append-nil (with_key olds g.begun);
    }
  where
    whole_same : (w : Option ℕ) → HaveWanted w olds → IfSome w (λ k. g.begun ≡ take (length g.begun) (row_at olds k)) → IfSome (wanted_key olds w) (λ key. g.begun ≡ key)
    whole_same None have same = tt
    whole_same (Some k) have same = same ∙ take_all (length g.begun) (row_at olds k) (omega (arith, length-row_at olds k have))

module _ {olds : List Cells} {wanted : Option ℕ} {bytes : List ℕ} {size : ℕ} {now : List Cells} (i : ℕ) (g : AreGoneOver olds wanted bytes size now) (at_is : length g.begun ≡ i) (c : Cells) (below : i < length olds) (here : c ≡ get_or now i c) (have : HaveWanted wanted olds) where
  inside : length g.begun < length olds
  inside = omega (arith, at_is)

  item : c ≡ get_or now (length g.begun) c
  item = here ∙ ap (λ k. get_or now k c) (sym at_is)

  pub gone_next : (n : ℕ) (new : Cells) → GainsValue wanted (drop size bytes) n c new → (h : AreGoneOver olds wanted bytes (size + n) (set now i new)) × (length h.begun ≡ i + 1)
  gone_next n new v =
      subst (λ k. (h : AreGoneOver olds wanted bytes (size + n) (set now k new)) × (length h.begun ≡ k + 1)) at_is
      (gone_more g c inside item n new have v)

  pub gone_wrong : (at : ℕ) (e : FormatFault) → ExplainsValue wanted c (at + size) (drop size bytes) e → ExplainsKey (key_types olds) (wanted_key olds wanted) at bytes e
  gone_wrong at e explains = gone_stuck g c inside item at e have explains

  wanted_there : (w : Option ℕ) → HaveWanted w olds → IfSome w (λ place. place < length c.values)
  wanted_there None h = tt
  wanted_there (Some place) h =
      let same : get_or olds (length g.begun) c ≡ c = sym (there g c inside item) in
      subst (λ (x : Cells). place < length x.values) same (h (length g.begun) c inside)

  pub gone_has : IfSome wanted (λ place. place < length c.values)
  gone_has = wanted_there wanted have
