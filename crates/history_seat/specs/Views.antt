-- What seats and notes know, and what each step makes of it (docs/history.md, "Seats and notes").
use Rattle.std.specs.Prelude.{◌≡◌, ◌+◌, ◌≤◌, ◌==◌, ◌∷◌, ◌++◌, [], ℕ, Bool, true, false, List, Option, None, Some, IfSome, cond, filter, length, nat_lt}
use Rattle.atomic_table.specs.Seated.{TableId}
use Rattle.mt_base.specs.declared.partition.Partition.TheVariants as partition
use Rattle.mt_values.specs.declared.command.Command.TheVariants as command
use Rattle.mt_values.specs.declared.command.Entry.{Entry}
use Rattle.history_seat.specs.declared.view.Kind.{Kind}
use Rattle.history_seat.specs.declared.view.Kind.TheVariants as kind
use Rattle.history_seat.specs.declared.view.View.{View}

-- a list begins with another one (docs/history.md, "Seats and notes")
abbrev pub Begins : List Entry → List Entry → Type 0
Begins front list = (rest : List Entry) × (front ++ rest ≡ list)

-- the entries of one session, in their order (docs/history.md, "Seats and notes")
abbrev pub own : ℕ → List Entry → List Entry
own number list = filter (λ e. e.session == number) list

-- What a session knows of what is begun: where it has the session's number, it is what the session tried last; and session 0 made whoever tried it (docs/history.md, "What is begun")
abbrev pub KnowsBegun : View → Option Entry → Type 0
KnowsBegun v begun = IfSome begun (λ e. (e.session ≡ v.number → v.tried ≡ Some e) × (v.number ≡ 0 → e.session ≤ v.made))

-- the view is that of a seat: of the lock's, or of a session's (docs/history.md, "Seats and notes")
abbrev pub is_seat : Kind → Bool
is_seat kind.Unopened = false
is_seat kind.Lock = true
is_seat kind.Session = true
is_seat kind.Note = false

-- the one view of a history that was not opened yet: it has the pen (docs/history.md, "The opening")
abbrev pub unopened_view : View
unopened_view = record { kind = kind.Unopened; list = []; olds = []; mine = []; tried = None; begun = None; number = 0; made = 0; pen = true }

-- the lock's seat as it is made: it has the pen (docs/history.md, "The opening")
abbrev pub lock_view : View
lock_view = record { kind = kind.Lock; list = []; olds = []; mine = []; tried = None; begun = None; number = 0; made = 0; pen = true }

-- a session that has added and tried nothing and made no other one, and knows this list (docs/history.md, "Seats and notes")
abbrev pub session_view : ℕ → List Entry → View
session_view number list = record { kind = kind.Session; list = list; olds = []; mine = []; tried = None; begun = None; number = number; made = 0; pen = false }

-- a note of this list and of what is begun, with the pen or without it (docs/history.md, "Seats and notes")
abbrev pub note_view : List Entry → Option Entry → Bool → View
note_view list begun pen = record { kind = kind.Note; list = list; olds = []; mine = []; tried = None; begun = begun; number = 0; made = 0; pen = pen }

-- what is left of a note that was taken in (docs/history.md, "Seats and notes")
abbrev pub spent_view : View
spent_view = note_view [] None false

-- what a seat knows, once its pen went with a note (docs/history.md, "The steps")
abbrev pub without_pen : View → View
without_pen v = record { kind = v.kind; list = v.list; olds = v.olds; mine = v.mine; tried = v.tried; begun = v.begun; number = v.number; made = v.made; pen = false }

-- a note of what a seat knows, with the pen where the seat has it (docs/history.md, "The steps")
abbrev pub note_of : View → View
note_of v = note_view v.list v.begun v.pen

-- a note of what a seat knows, without the pen (docs/history.md, "The steps")
abbrev pub plain_note_of : View → View
plain_note_of v = note_view v.list v.begun false

-- the longer of two lists, the first where they are of one length
abbrev pub longer : List Entry → List Entry → List Entry
longer xs ys = cond (nat_lt (length xs) (length ys)) ys xs

-- the list of the one of the two that has the pen, or else the longer one (docs/history.md, "The steps")
abbrev pub leading : Bool → Bool → List Entry → List Entry → List Entry
leading pen other xs ys = cond pen xs (cond other ys (longer xs ys))

-- what is begun, by the one of the two that has the pen, or else by the first (docs/history.md, "The steps")
abbrev pub begun_of : Bool → Bool → Option Entry → Option Entry → Option Entry
begun_of pen other x y = cond pen x (cond other y x)

-- what a seat knows, once it took a note in (docs/history.md, "The steps")
abbrev pub met : View → View → View
met v w = record {
  kind = v.kind;
  list = leading v.pen w.pen v.list w.list;
  olds = v.list ∷ w.list ∷ v.olds;
  mine = v.mine;
  tried = v.tried;
  begun = begun_of v.pen w.pen v.begun w.begun;
  number = v.number;
  made = v.made;
  pen = cond v.pen true w.pen;
}

-- what a session knows, once it added an entry: none is begun (docs/history.md, "The steps")
abbrev pub grown : View → Entry → View
grown v e = record { kind = v.kind; list = v.list ++ e ∷ []; olds = v.olds; mine = v.mine ++ e ∷ []; tried = None; begun = None; number = v.number; made = v.made; pen = v.pen }

-- what a session knows, once it tried an entry, which is begun (docs/history.md, "The steps")
abbrev pub with_try : View → Entry → View
with_try v e = record { kind = v.kind; list = v.list; olds = v.olds; mine = v.mine; tried = Some e; begun = Some e; number = v.number; made = v.made; pen = v.pen }

-- what session 0 knows, once it made one session more (docs/history.md, "The steps")
abbrev pub counted : View → View
counted v = record { kind = v.kind; list = v.list; olds = v.olds; mine = v.mine; tried = v.tried; begun = v.begun; number = v.number; made = v.made + 1; pen = v.pen }

-- the session that session 0 makes (docs/history.md, "The steps")
abbrev pub newcomer : View → View
newcomer v = session_view (v.made + 1) v.list

-- which word counts a history, and at what it began (docs/history.md, "The opening")
pub record Name : Type 0 where
  pub table : TableId
  pub base : ℕ

-- the name of a history by its parts
abbrev pub name : TableId → ℕ → Name
name table base = record { table = table; base = base }

-- the name of no table
abbrev pub no_table : TableId
no_table = record { words = 0; slots = 0; views_name = 0; atom = 0; block = 0; offset = 0; slot_names = [] }

-- some entry, of which nothing is said
abbrev pub no_entry : Entry
no_entry = record { session = 0; command = command.Insert (record { table = []; partition = partition.Whole; block = record { types = []; rows = [] } }) }
