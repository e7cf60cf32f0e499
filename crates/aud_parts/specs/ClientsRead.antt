-- What is told of the clients' taps: of each by the records of its own lines.
use Rattle.std.specs.Prelude.{◌≡◌, ℕ, Bool, true, false, not, List, ◌∷◌, filter, map, Option, Some, slice_get}
use Rattle.aud_base.specs.OneForEach.{OneForEach}
use Rattle.aud_tap.specs.declared.records.ClientRec.{ClientRec}
use Rattle.aud_tap.specs.declared.records.Rec.{Rec}
use Rattle.aud_tap.specs.declared.records.Rec.TheVariants as rec
use Rattle.aud_tap.specs.declared.records.StreamRec.{StreamRec}
use Rattle.aud_tap.specs.declared.records.TapKind.TheVariants.{Client}
use Rattle.aud_tap.specs.declared.records.Version.{Version}
use Rattle.aud_reader.specs.declared.line.Line.{Line}
use Rattle.aud_reader.specs.OwnLines.{records_for}
use Rattle.aud_parts.specs.declared.clients.measured.MeasuredClient.{MeasuredClient}
use Rattle.aud_parts.specs.ServersRead.{is_server, kind_told}
use Rattle.aud_parts.specs.TapRuns.{TapRuns, runs_lines}
use Rattle.aud_parts.specs.Together.{IsToldBy}

-- the record is the header of a client's tap
abbrev pub is_clients : Option Rec → Bool
is_clients (Some (rec.Header Client version)) = true
is_clients _ = false

-- those of the lines that name the tap begin with the header of a client's
abbrev pub is_client : List ℕ → List Line → Bool
is_client name lines = is_clients (slice_get (records_for name lines) 0)

-- this is told of the client's tap of this name that has these lines: by the records of those of them that name it
pub record IsToldOf (stream : List StreamRec) (name : List ℕ) (lines : List Line) (client : MeasuredClient) : Type 0 where
  pub version : Version
  pub recs : List ClientRec
  pub records : records_for name lines ≡ rec.Header Client version ∷ map rec.Client recs
  pub told : IsToldBy stream recs client

-- the same of the tap of these runs
abbrev pub IsToldOfTap : List (List ℕ) → List StreamRec → TapRuns → MeasuredClient → Type 0
IsToldOfTap files stream tap client = IsToldOf stream tap.name (runs_lines files tap.runs) client

-- those of the taps that are clients'
abbrev pub clients_among : List (List ℕ) → List TapRuns → List TapRuns
clients_among files taps = filter (λ tap. is_client tap.name (runs_lines files tap.runs)) taps

-- those that aren't the stream's nor a node's
abbrev pub others_among : List (List ℕ) → List TapRuns → List TapRuns
others_among files taps = filter (λ tap. not (is_server (kind_told files tap))) taps

-- this is told of the clients' taps among these, in their order
abbrev pub AreToldOf : List (List ℕ) → List StreamRec → List TapRuns → List MeasuredClient → Type 0
AreToldOf files stream taps clients = OneForEach (IsToldOfTap files stream) (clients_among files taps) clients
