-- The reports on parts are the report on the whole.
use Rattle.std.proofs.Common.{◌≡◌, Bool, true, cond, List, [], ◌∷◌, filter, refl, sym, ap, subst, ◌∙◌, bytes_eq}
use Rattle.std.specs.List.{list_any}
use Rattle.std.proofs.lemmas.List.Elements.{filter_passes}
use Rattle.aud_tap.specs.declared.taps.Tap.{Tap}
use Rattle.aud_base.specs.OneForEach.{OneForEach}
use Rattle.aud_node.specs.Cluster.{Cluster, cluster_of}
use Rattle.aud_node.specs.Stream.{Text}
use Rattle.aud_maker.specs.Sessions.{mentions, sessions_of}
use Rattle.aud_verdict.specs.declared.verdict.SessionVerdict.{SessionVerdict}
use Rattle.aud_verdict.specs.Verdicts.{IsSessionVerdict, AreVerdicts}
use Rattle.aud_verdict.proofs.Sessions.{one_verdict}
use Rattle.aud_upgrade.specs.Kept.{UpgradesKeepVerdicts}
use Rattle.aud_parts.specs.Part.{is_among, part_for, KeepsClients, KeepsFirsts}
use Rattle.aud_laws.specs.Parts.{IsAnswer}
use Rattle.aud_laws.proofs.InParts.FirstTexts.{stands-once}
use Rattle.aud_laws.proofs.InParts.Each.{filter-swap, each-filter, each-turned}
use Rattle.aud_laws.proofs.InParts.Alike.{alike}
use Rattle.aud_laws.proofs.InParts.Mentions.{own-sessions}

-- ---- sessions have one list of answers

same-answer : (c : Cluster) (whole : Bool) (pid : Text) (one other : SessionVerdict) → IsAnswer c whole pid one → IsAnswer c whole pid other → one ≡ other
same-answer c whole pid one other is too =
    let names : one.pid ≡ other.pid = is.0 ∙ sym too.0 in
    let verdicts : one.verdict ≡ other.verdict = one_verdict c whole pid one.verdict other.verdict is.1 too.1 in
    λ i. record { pid = names i; verdict = verdicts i }

pub same-answers : (c : Cluster) (whole : Bool) (pids : List Text) (ones others : List SessionVerdict) → OneForEach (IsAnswer c whole) pids ones → OneForEach (IsAnswer c whole) pids others → ones ≡ others
same-answers c whole [] [] [] are too = refl
same-answers c whole [] [] (other ∷ others) are too = absurd too
same-answers c whole [] (one ∷ ones) others are too = absurd are
same-answers c whole (pid ∷ pids) [] others are too = absurd are
same-answers c whole (pid ∷ pids) (one ∷ ones) [] are too = absurd too
same-answers c whole (pid ∷ pids) (one ∷ ones) (other ∷ others) are too =
    let heads : one ≡ other = same-answer c whole pid one other are.0 too.0 in
    let tails : ones ≡ others = same-answers c whole pids ones others are.1 too.1 in
    λ i. heads i ∷ tails i

-- verdicts are answers
pub answers : (c : Cluster) (whole : Bool) (pids : List Text) (entries : List SessionVerdict) → AreVerdicts c whole pids entries → OneForEach (IsAnswer c whole) pids entries
answers c whole [] [] are = tt
answers c whole [] (entry ∷ entries) are = absurd are
answers c whole (pid ∷ pids) [] are = absurd are
answers c whole (pid ∷ pids) (entry ∷ entries) are = ((are.0.0, are.0.1.0), answers c whole pids entries are.1)

module _ (kept : UpgradesKeepVerdicts) (taps : List Tap) (whole : Bool) where
  abbrev sessions : List Text
  sessions = sessions_of (cluster_of taps)

  abbrev IsRight : Text → SessionVerdict → Type 0
  IsRight = IsAnswer (cluster_of taps) whole

  -- ---- the report on a part

  -- its answers are those on its sessions over the whole recording
  part-answers : (pids : List Text) (its : List SessionVerdict) → KeepsClients pids taps → KeepsFirsts pids taps
      → AreVerdicts (cluster_of (part_for pids taps)) whole (sessions_of (cluster_of (part_for pids taps))) its → OneForEach IsRight (filter (is_among pids) sessions) its
  part-answers pids its clients firsts verdicts =
      let part = cluster_of (part_for pids taps) in
      each-turned (IsSessionVerdict part whole) IsRight (λ pid. is_among pids pid ≡ true)
      (λ pid entry among is. (is.0, (alike pids taps kept pid among firsts whole entry.verdict).1 is.1.0))
      (filter (is_among pids) sessions) its (filter_passes (is_among pids) sessions)
      (subst (λ ps. AreVerdicts part whole ps its) (own-sessions pids taps kept clients) verdicts)

  -- they are the answers on its sessions in the report on the whole
  pub part-report : (pids : List Text) (entries its : List SessionVerdict) → KeepsClients pids taps → KeepsFirsts pids taps → OneForEach IsRight sessions entries
      → AreVerdicts (cluster_of (part_for pids taps)) whole (sessions_of (cluster_of (part_for pids taps))) its → its ≡ filter (λ (entry : SessionVerdict). is_among pids entry.pid) entries
  part-report pids entries its clients firsts right verdicts =
      same-answers (cluster_of taps) whole (filter (is_among pids) sessions) its (filter (λ (entry : SessionVerdict). is_among pids entry.pid) entries)
      (part-answers pids its clients firsts verdicts)
      (each-filter IsRight (is_among pids) (λ (entry : SessionVerdict). is_among pids entry.pid) (λ pid entry is. ap (is_among pids) is.0) sessions entries right)

  -- of one of its sessions it has the one answer, and of another none
  pub one-said : (pid : Text) → filter (λ p. bytes_eq p pid) sessions ≡ pid ∷ [] → (pids : List Text) (its : List SessionVerdict) → KeepsClients pids taps → KeepsFirsts pids taps
      → AreVerdicts (cluster_of (part_for pids taps)) whole (sessions_of (cluster_of (part_for pids taps))) its
      → OneForEach IsRight (cond (is_among pids pid) (pid ∷ []) []) (filter (λ (entry : SessionVerdict). bytes_eq entry.pid pid) its)
  one-said pid once pids its clients firsts verdicts =
      subst (λ ps. OneForEach IsRight ps (filter (λ (entry : SessionVerdict). bytes_eq entry.pid pid) its))
      (filter-swap (λ p. bytes_eq p pid) (is_among pids) sessions ∙ ap (filter (is_among pids)) once)
      (each-filter IsRight (λ p. bytes_eq p pid) (λ (entry : SessionVerdict). bytes_eq entry.pid pid) (λ p entry right. ap (λ t. bytes_eq t pid) right.0) (filter (is_among pids) sessions) its
      (part-answers pids its clients firsts verdicts))

  -- a session stands once
  pub session-once : (pid : Text) → list_any (λ p. bytes_eq p pid) sessions ≡ true → filter (λ p. bytes_eq p pid) sessions ≡ pid ∷ []
  session-once pid there = stands-once pid (mentions (cluster_of taps)) there
