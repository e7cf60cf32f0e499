-- Rows, as contracts see them: with their texts as bytes.
use Rattle.std.specs.Prelude.{ℕ, Option}
use Rattle.std.specs.Option.{option_copied, option_map}
use Rattle.aud_node.specs.Stream.{Text}
use Rattle.aud_rows.specs.declared.row.Row.{Row}
use Rattle.aud_rows.specs.declared.row.Role.{Role}
use Rattle.aud_rows.specs.declared.row.Says.{Says}
use Rattle.aud_rows.specs.declared.row.Says.TheVariants as row

-- what a record says
pub data SaysSeen : Type 0 where
  Entry : ℕ → Text → SaysSeen
  Start : ℕ → SaysSeen
  Take : ℕ → Text → SaysSeen
  Takes : ℕ → Text → SaysSeen
  Open : Text → Text → ℕ → SaysSeen
  Join : Text → SaysSeen
  Leave : Text → SaysSeen
  Break : ℕ → ℕ → SaysSeen
  Back : ℕ → ℕ → SaysSeen
  Gone : SaysSeen
  Asks : ℕ → Text → Option Text → SaysSeen
  Reply : ℕ → Text → Option Text → SaysSeen
  Got : ℕ → ℕ → Text → SaysSeen
  Lost : ℕ → SaysSeen
  Lacks : ℕ → ℕ → SaysSeen
  NoPacket : ℕ → SaysSeen

-- a row: the line that its record stands on, the name of its tap, the session that it speaks of, what it says, and what
-- it is shown for
pub record RowSeen : Type 0 where
  pub line : ℕ
  pub tap : Text
  pub session : Option Text
  pub says : SaysSeen
  pub role : Role

-- what a row's record says
abbrev pub says_seen : Says → SaysSeen
says_seen (row.Entry position off) = Entry position off.now
says_seen (row.Start cursor) = Start cursor
says_seen (row.Take position off) = Take position off.now
says_seen (row.Takes position off) = Takes position off.now
says_seen (row.Open sid nsp cursor) = Open sid.now nsp.now cursor
says_seen (row.Join room) = Join room.now
says_seen (row.Leave room) = Leave room.now
says_seen (row.Break turn cursor) = Break turn cursor
says_seen (row.Back turn cursor) = Back turn cursor
says_seen row.Gone = Gone
says_seen (row.Asks conn pid off) = Asks conn pid.now (option_map (λ text. text.now) off)
says_seen (row.Reply conn sid pid) = Reply conn sid.now (option_map (λ text. text.now) pid)
says_seen (row.Got conn position off) = Got conn position off.now
says_seen (row.Lost conn) = Lost conn
says_seen (row.Lacks conn missing) = Lacks conn missing
says_seen (row.NoPacket conn) = NoPacket conn

abbrev pub row_seen : Row → RowSeen
row_seen r = record { line = r.line; tap = r.tap.now; session = option_copied r.session; says = says_seen r.says; role = r.role }
