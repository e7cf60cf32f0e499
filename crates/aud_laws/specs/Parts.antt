-- The parts of a recording, the reports on them, and what is merged of these.
use Rattle.std.specs.Prelude.{◌≡◌, ◌≤◌, ℕ, Bool, true, List, map, IsPermutation}
use Rattle.std.specs.List.{All, list_all}
use Rattle.std.specs.Set.{distinct_count}
use Rattle.aud_tap.specs.declared.records.TapKind.TheVariants as kind
use Rattle.aud_tap.specs.declared.taps.Tap.{Tap}
use Rattle.aud_tap.specs.Forms.{is_text}
use Rattle.aud_tap.specs.TapName.{is_tap_name}
use Rattle.aud_reader.specs.Bundle.{max_pids, max_node_taps, max_client_taps, taps_on, pids_of}
use Rattle.aud_reader.specs.TapLaws.{AreDifferent, HasOneStreamAtMost}
use Rattle.aud_writer.specs.OfABundle.{AreRecords}
use Rattle.aud_node.specs.Stream.{Text}
use Rattle.aud_node.specs.Cluster.{Cluster, cluster_of}
use Rattle.aud_maker.specs.Sessions.{sessions_of}
use Rattle.aud_verdict.specs.declared.verdict.SessionVerdict.{SessionVerdict}
use Rattle.aud_verdict.specs.Report.{report_text}
use Rattle.aud_base.specs.OneForEach.{OneForEach}
use Rattle.aud_verdict.specs.YesOf.{is_yes}
use Rattle.aud_verdict.specs.Verdict.{IsVerdict}
use Rattle.aud_verdict.specs.Verdicts.{AreVerdicts}
use Rattle.aud_parts.specs.declared.listing.ListedSession.{ListedSession}
use Rattle.aud_parts.specs.declared.listing.Listing.{Listing}
use Rattle.aud_parts.specs.declared.plan.Plan.{Plan}
use Rattle.aud_parts.specs.declared.merging.MergeAnswer.{MergeAnswer}
use Rattle.aud_parts.specs.declared.merging.MergeAnswer.TheVariants.{Whole}
use Rattle.aud_parts.specs.Listing.{is_listing, pids_by_part}
use Rattle.aud_parts.specs.MergeLaws.{pids_listed}
use Rattle.aud_parts.specs.Part.{part_for, KeepsClients, KeepsFirsts}

-- ---- the reports on parts

-- the sessions may make a part
abbrev pub MayBePart : List Tap → List Text → Type 0
MayBePart taps pids = KeepsClients pids taps × KeepsFirsts pids taps

-- the listing has the sessions of the recording in their order, and those of each part may make one
pub record IsListingOf (taps : List Tap) (listing : Listing) : Type 0 where
  pub is_one : is_listing listing ≡ true
  pub sessions : pids_listed listing ≡ sessions_of (cluster_of taps)
  pub parts : All (MayBePart taps) (pids_by_part listing)

-- the listing has the sessions of the plan in their order, each in its part
pub record IsListed (plan : Plan) (listing : Listing) : Type 0 where
  pub is_one : is_listing listing ≡ true
  pub pids : pids_listed listing ≡ plan.sessions
  pub parts : map (λ (s : ListedSession). s.part) listing.sessions ≡ plan.parts.items

-- the text is the report on the part of these sessions, with or without `--whole`
abbrev pub IsReportOn : List Tap → Bool → List Text → List ℕ → Type 0
IsReportOn taps whole pids text = (its : List SessionVerdict) × AreVerdicts (cluster_of (part_for pids taps)) whole (sessions_of (cluster_of (part_for pids taps))) its × (text ≡ report_text its)

-- these are the reports on the parts, one on each, in whatever order
pub record AreReportsOn (taps : List Tap) (whole : Bool) (listing : Listing) (reports : List (List ℕ)) : Type 0 where
  pub own : List (List ℕ)
  pub are : OneForEach (IsReportOn taps whole) (pids_by_part listing) own
  pub order : IsPermutation own reports

-- ---- the report on the whole

-- the verdict on the session, with or without `--whole`, under its name
abbrev pub IsAnswer : Cluster → Bool → Text → SessionVerdict → Type 0
IsAnswer c whole pid entry = (entry.pid ≡ pid) × IsVerdict c whole pid entry.verdict

-- the report with these answers, and whether all of them are yes
abbrev pub whole_of : List SessionVerdict → MergeAnswer
whole_of entries = Whole (record { text = report_text entries; are_all_yes = list_all is_yes entries })

-- it is the report of the verdicts on the sessions of the recording, with or without `--whole`
abbrev pub IsReportOfWhole : List Tap → Bool → MergeAnswer → Type 0
IsReportOfWhole taps whole answer =
    (entries : List SessionVerdict) × OneForEach (IsAnswer (cluster_of taps) whole) (sessions_of (cluster_of taps)) entries × (answer ≡ whole_of entries)

-- ---- a part as a bundle

-- the taps keep to what a bundle's taps keep to, but for how many there are, and how many pids
pub record AreFormed (taps : List Tap) : Type 0 where
  pub named : All (λ (tap : Tap). is_tap_name tap.name ≡ true) taps
  pub names : AreDifferent (map (λ (tap : Tap). tap.name) taps)
  pub stream : HasOneStreamAtMost taps
  pub records : All (λ (tap : Tap). AreRecords tap.version tap.records) taps

-- there are not more taps of nodes and of clients, and not more pids, than in a bundle
pub record AreFew (taps : List Tap) : Type 0 where
  pub nodes : taps_on kind.Node taps ≤ max_node_taps
  pub clients : taps_on kind.Client taps ≤ max_client_taps
  pub pids : distinct_count is_text (pids_of taps) ≤ max_pids
