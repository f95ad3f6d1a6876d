use Rattle.std.proofs.Common.{◌≡◌, ℕ, List, Result, Ok, Err, IfOk, IfErr, MatchResult, Vec, Global, sym, subst}
use Rattle.mt_values.specs.declared.value.ColType.{ColType}
use Rattle.mt_values.specs.declared.value.Value.{Value}
use Rattle.column_file.specs.Faults.{Explains}
use Rattle.column_file.specs.Spellings.{IsSpelling}
use Rattle.byte_numbers.specs.declared.faults.FormatFault.{FormatFault}
use Rattle.byte_numbers.specs.declared.faults.FormatFault.TheVariants.{NoMemory}
use Rattle.column_file.proofs.decoding.decode_granule.Goals as goal

-- the values of a column, each by itself, or out of memory
module _ (t : ColType) (count : ℕ) (bytes : List ℕ) (values : List Value) where
  told : (r : Result (Vec Value Global) FormatFault) → MatchResult r (λ v. v.items ≡ values) (λ e. e ≡ NoMemory) → IsSpelling t count bytes values → IfOk r (λ v. IsSpelling t count bytes v.items)
  told (Ok v) is spelling = subst (IsSpelling t count bytes) (sym is) spelling
  told (Err e) is spelling = tt

  explained : (r : Result (Vec Value Global) FormatFault) → MatchResult r (λ v. v.items ≡ values) (λ e. e ≡ NoMemory) → IfErr r (Explains t count bytes)
  explained (Ok v) is = tt
  explained (Err e) is = rw is tt

pub returns-clause-read : goal.returns-clause-read
returns-clause-read c = told c.args.col_type c.args.count c.args.bytes.now _ c.values_of.result c.values_of.ensures c.in_ok-column.ensures.read

pub returns-clause-fault : goal.returns-clause-fault
returns-clause-fault c = explained c.args.col_type c.args.count c.args.bytes.now _ c.values_of.result c.values_of.ensures
