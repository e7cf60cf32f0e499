-- Faults by their words.
use Rattle.std.specs.Prelude.{ℕ, List, codes, Bool, false, ◌||◌}
use Rattle.std.specs.Str.{bytes_eq}
use Rattle.aud_cert.specs.declared.fault.Fault.{Fault}
use Rattle.aud_cert.specs.declared.fault.Fault.TheVariants.{NoLog, Chain, Order, Client, Names, Frame, Orphan, Content, Extra, Doubled, Swapped, Lost, Window, Tail}
use Rattle.aud_cli.specs.declared.faults.Faults.{Faults}
use Rattle.aud_cli.specs.Names.{has_name}

-- this is the word of a fault: of the class recording, packets or delivery
abbrev pub is_fault : List ℕ → Bool
is_fault name =
    bytes_eq name (codes "NOLOG") || bytes_eq name (codes "CHAIN") || bytes_eq name (codes "ORDER")
    || bytes_eq name (codes "CLIENT") || bytes_eq name (codes "NAMES")
    || bytes_eq name (codes "FRAME") || bytes_eq name (codes "ORPHAN")
    || bytes_eq name (codes "CONTENT") || bytes_eq name (codes "EXTRA") || bytes_eq name (codes "DOUBLED")
    || bytes_eq name (codes "SWAPPED") || bytes_eq name (codes "LOST") || bytes_eq name (codes "WINDOW") || bytes_eq name (codes "TAIL")

-- the faults whose words are among these
abbrev pub faults_in : List (List ℕ) → Faults
faults_in names = record {
  no_log = has_name names (codes "NOLOG");
  chain = has_name names (codes "CHAIN");
  order = has_name names (codes "ORDER");
  client = has_name names (codes "CLIENT");
  names = has_name names (codes "NAMES");
  frame = has_name names (codes "FRAME");
  orphan = has_name names (codes "ORPHAN");
  content = has_name names (codes "CONTENT");
  extra = has_name names (codes "EXTRA");
  doubled = has_name names (codes "DOUBLED");
  swapped = has_name names (codes "SWAPPED");
  lost = has_name names (codes "LOST");
  window = has_name names (codes "WINDOW");
  tail = has_name names (codes "TAIL");
}

-- none of them
abbrev pub no_faults : Faults
no_faults = record {
  no_log = false;
  chain = false;
  order = false;
  client = false;
  names = false;
  frame = false;
  orphan = false;
  content = false;
  extra = false;
  doubled = false;
  swapped = false;
  lost = false;
  window = false;
  tail = false;
}

-- this fault is one of them
abbrev pub has_fault : Faults → Fault → Bool
has_fault faults NoLog = faults.no_log
has_fault faults Chain = faults.chain
has_fault faults Order = faults.order
has_fault faults Client = faults.client
has_fault faults Names = faults.names
has_fault faults Frame = faults.frame
has_fault faults Orphan = faults.orphan
has_fault faults (Content off) = faults.content
has_fault faults (Extra off) = faults.extra
has_fault faults (Doubled off) = faults.doubled
has_fault faults (Swapped off) = faults.swapped
has_fault faults (Lost off) = faults.lost
has_fault faults (Window conn) = faults.window
has_fault faults (Tail count) = faults.tail
