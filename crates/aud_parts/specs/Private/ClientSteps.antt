-- What is told of one client's tap, and added to what was told before.
use Rattle.std.specs.Prelude.{◌≡◌, ℕ, false, List, [], ◌∷◌, ◌++◌, map, Option, None, Some, Result, Ok, Err}
use Rattle.std.specs.List.{All}
use Rattle.aud_base.specs.OneForEach.{OneForEach}
use Rattle.aud_tap.specs.declared.records.StreamRec.{StreamRec}
use Rattle.aud_reader.specs.declared.line.Line.{Line}
use Rattle.aud_parts.specs.declared.clients.ClientsReading.{ClientsReading}
use Rattle.aud_parts.specs.declared.clients.HeldTap.{HeldTap}
use Rattle.aud_parts.specs.declared.clients.measured.MeasuredClient.{MeasuredClient}
use Rattle.aud_parts.specs.declared.tap_index.first_refusal.RefusedLine.{RefusedLine}
use Rattle.aud_parts.specs.ClientsRead.{AreToldOf, IsToldOf, is_client}
use Rattle.aud_parts.specs.FirstRefusal.{first_refused}
use Rattle.aud_parts.specs.TapRuns.{TapRuns, runs_lines}
use Rattle.aud_parts.specs.Private.TapsRead.{HoldsLines}

-- what is told of the tap of this name that has these lines; nothing, where it isn't a client's
abbrev pub IsMeasured : List StreamRec → List ℕ → List Line → Option MeasuredClient → Type 0
IsMeasured stream name lines None = is_client name lines ≡ false
IsMeasured stream name lines (Some client) = IsToldOf stream name lines client

-- the same, where no line of it is refused
abbrev pub IsTold : List StreamRec → List ℕ → List Line → Result (Option MeasuredClient) RefusedLine → Type 0
IsTold stream name lines (Ok client) = IsMeasured stream name lines client
IsTold stream name lines (Err line) = Unit {0}

-- so of each of these taps
abbrev pub AreTold : List (List ℕ) → List StreamRec → List TapRuns → List (Result (Option MeasuredClient) RefusedLine) → Type 0
AreTold files stream taps tolds = OneForEach (λ (tap : TapRuns) told. IsTold stream tap.name (runs_lines files tap.runs) told) taps tolds

-- the client that it adds
abbrev pub clients_told : Result (Option MeasuredClient) RefusedLine → List MeasuredClient
clients_told (Ok (Some client)) = client ∷ []
clients_told _ = []

-- the first refused line with it
abbrev pub refused_told : Result (Option MeasuredClient) RefusedLine → Option RefusedLine → Option RefusedLine
refused_told (Ok client) refusal = refusal
refused_told (Err line) refusal = first_refused refusal line

-- the bytes that are held are those of the tap's lines
abbrev pub Holds : List (List ℕ) → HeldTap → Type 0
Holds files held = HoldsLines (runs_lines files held.tap.now.runs) held.runs.items

-- of these taps some are held, and what the others tell was added
pub record AreSoFar (files : List (List ℕ)) (taps : List TapRuns) (reading : ClientsReading) : Type 0 where
  pub read : List TapRuns
  pub whole : taps ≡ read ++ map (λ (held : HeldTap). held.tap.now) reading.held.items
  pub holding : All (Holds files) reading.held.items
  pub told : reading.refusal ≡ None → AreToldOf files reading.stream.now read reading.clients.items

-- of these taps some were added to those that were read, and what the others tell is to come
pub record AreAdded (files : List (List ℕ)) (stream : List StreamRec) (read taps : List TapRuns) (left : List (Result (Option MeasuredClient) RefusedLine)) (refusal : Option RefusedLine) (clients : List MeasuredClient) : Type 0 where
  pub done : List TapRuns
  pub rest : List TapRuns
  pub whole : done ++ rest ≡ taps
  pub each : AreTold files stream rest left
  pub told : refusal ≡ None → AreToldOf files stream (read ++ done) clients
