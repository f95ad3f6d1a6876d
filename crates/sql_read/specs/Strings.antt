-- What the code that reads strings found, without where it lies in memory.
use Rattle.std.specs.Prelude.{ℕ, ◌==◌, List, [], ◌∷◌, Option, Some, None, if◌then◌else◌}
use Rattle.std.specs.Option.{option_map, option_and_then}
use denote.Ref.{Bor}
use Rattle.mt_values.specs.Escapes.{escape_of}
use Rattle.mt_values.specs.Tokens.{byte_onto, escape_onto, quote_behind}
use Rattle.sql_read.specs.declared.escapes.Piece.{Piece}
use Rattle.sql_read.specs.declared.escapes.Piece.TheVariants.{Byte, End, Faulty}

-- a byte and what follows it
abbrev pub byte_shown : Option (ℕ × Bor (List ℕ)) → Option (ℕ × List ℕ)
byte_shown found = option_map (λ (p : ℕ × Bor (List ℕ)). (p.0, p.1.now)) found

-- what a string says and what follows it
abbrev pub string_shown : Option (List ℕ × Bor (List ℕ)) → Option (List ℕ × List ℕ)
string_shown found = option_map (λ (p : List ℕ × Bor (List ℕ)). (p.0, p.1.now)) found

-- what a string says that begins with this piece, by what is said after it
abbrev pub said_by : (List ℕ → Option (List ℕ × List ℕ)) → Piece → Option (List ℕ × List ℕ)
said_by more (Byte b rest) = byte_onto b (more rest.now)
said_by more (End rest) = Some ([], rest.now)
said_by more Faulty = None

-- what a string says of which this is left, by what is said after its first piece
abbrev pub string_from : (List ℕ → Option (List ℕ × List ℕ)) → List ℕ → Option (List ℕ × List ℕ)
string_from more [] = None
string_from more (b ∷ bs) =
    if b == 39 then quote_behind more bs
    else if b == 92 then option_and_then (escape_onto more) (escape_of bs)
    else byte_onto b (more bs)
