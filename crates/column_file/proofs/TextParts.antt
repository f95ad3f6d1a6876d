-- The text that bytes begin with.
use Rattle.std.proofs.Common.{◌≡◌, ℕ, ◌+◌, ◌-◌, ◌<◌, ◌≤◌, List, ◌++◌, sym, ap, ◌∙◌, length, length-append, length-drop, take, drop, append_assoc, arith, take-append-drop, length-take-le}
use Rattle.std.proofs.lemmas.List.{drop-drop}
use Rattle.mt_values.specs.declared.value.ColType.TheVariants as type
use Rattle.mt_values.specs.declared.value.Value.{Value}
use Rattle.mt_values.specs.declared.value.Value.TheVariants.{Text}
use Rattle.mt_values.specs.ColumnBytes.{value_bytes, leb128}
use Rattle.column_file.specs.Faults.{NoneBegins}
use Rattle.byte_numbers.specs.Fronts.{Begins}
use Rattle.column_file.specs.Spellings.{IsOfType}
use Rattle.byte_numbers.proofs.Groups.{groups_apart}

-- a text at the front has its length there
text_parted : (bytes x rest : List ℕ) → bytes ≡ value_bytes (Text x) ++ rest → bytes ≡ leb128 (length x) ++ (x ++ rest)
text_parted bytes x rest e = e ∙ append_assoc (leb128 (length x)) x rest

-- a length past the bytes after it is no text's
pub too_long : (count head : ℕ) (bytes : List ℕ) → Begins (leb128 count) head bytes → length bytes - head < count → NoneBegins type.Text bytes
too_long count head bytes b h = by
  where
    by : (v : Value) (rest : List ℕ) → IsOfType type.Text v → bytes ≡ value_bytes v ++ rest → ⊥
    by (Text x) rest typed e =
        let same = groups_apart 9 (length x) count (x ++ rest) (drop head bytes) (sym (text_parted bytes x rest e) ∙ b.parted) in
        omega (arith, same.0, length-drop head bytes, simp length-append at (ap length same.1))
    by v rest typed e = absurd cc

-- so many bytes after a length are its text
pub text_begins : (count head : ℕ) (bytes behind : List ℕ) → Begins (leb128 count) head bytes → behind ≡ drop head bytes → count ≤ length behind → Begins (value_bytes (Text (take count behind))) (head + count) bytes
text_begins count head bytes behind b is within =
    let size : length (take count behind) ≡ count = length-take-le count behind within in
    let same : leb128 (length (take count behind)) ≡ leb128 count = ap leb128 size in
    record {
      size_is = omega (arith, b.size_is, size, ap length same, length-append (leb128 (length (take count behind))) (take count behind));
      parted = b.parted ∙ ap (λ l. leb128 count ++ l) (sym is ∙ sym (take-append-drop count behind)) ∙ sym (append_assoc (leb128 count) (take count behind) (drop count behind))
          ∙ ap (λ l. l ++ drop count behind) (ap (λ l. l ++ take count behind) (sym same))
          ∙ ap (λ l. value_bytes (Text (take count behind)) ++ l) (ap (drop count) is ∙ drop-drop count head bytes);
    }
