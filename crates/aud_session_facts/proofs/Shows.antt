-- The rows of a difference, of an altered event and of a bad window show it.
use Rattle.std.proofs.Common.{◌≡◌, ℕ, List, map, sym, ap, subst, ◌∙◌, unwrap_or, slice_get}
use Rattle.aud_node.specs.Cluster.{Cluster}
use Rattle.aud_node.specs.Names.{AreNamedOnce}
use Rattle.aud_node.specs.Stream.{Text}
use Rattle.aud_rooms.specs.Turns.{Turn}
use Rattle.aud_client.specs.StaySeen.{StaySeen}
use Rattle.aud_cert.specs.Certificate.{CertificateSeen, turn_at}
use Rattle.aud_check.specs.Frames.{frames_in}
use Rattle.aud_maker.specs.Made.{IsMade}
use Rattle.aud_maker.proofs.BegunLemmas.{one_chain}
use Rattle.aud_maker.proofs.Over.{turns-there}
use Rattle.aud_input.specs.TapLines.{TapLines}
use Rattle.aud_check.specs.declared.content.Altered.{Altered}
use Rattle.aud_check.specs.declared.difference.Difference.{Difference}
use Rattle.aud_check.specs.declared.window.BadWindow.{BadWindow}
use Rattle.aud_check.specs.Content.{IsAltered}
use Rattle.aud_check.specs.Window.{IsBadWindow}
use Rattle.aud_session_facts.specs.Account.{IsAccount, IsDifferenceOf}
use Rattle.aud_verdict.specs.Session.{SessionLogs, IsSession}
use Rattle.aud_session_facts.specs.SessionRows.{Session}
use Rattle.aud_session_facts.specs.ContentRows.{altered_rows}
use Rattle.aud_session_facts.specs.DifferenceRows.{difference_rows}
use Rattle.aud_session_facts.specs.ShowsAltered.{ShowsAltered}
use Rattle.aud_session_facts.specs.ShowsDifference.{AreNumbersOf, ShowsDifference}
use Rattle.aud_session_facts.specs.ShowsWindow.{ShowsWindow}
use Rattle.aud_session_facts.specs.WindowRows.{window_rows}

module _ (c : Cluster) (lines : List TapLines) (pid : Text) (cert : CertificateSeen) (client : ℕ) (stays : List StaySeen) (due : List ℕ)
    (once : AreNamedOnce c.taps) (made : IsMade c pid cert) (account : IsAccount c pid client stays due) (numbers : List ℕ) (are : AreNumbersOf c pid client numbers) where
  -- the client is that of any session of the pid
  client_is : (s : SessionLogs) → IsSession c pid s → client ≡ s.client
  client_is s is = account.client_is ∙ ap (λ ps. unwrap_or (slice_get ps 0) 0) (sym account.is_session.only ∙ is.only)

  -- and so are the turns
  turns_are : (s : SessionLogs) → IsSession c pid s → map (turn_at c) cert.turns ≡ s.turns
  turns_are s is = turns-there c pid cert once made ∙ sym (one_chain c made.who s.who made.turns s.turns (is.names ∙ sym made.names) made.chain is.chain)

  -- the session over these turns, the client and the stays
  abbrev over : List Turn → ℕ → Session
  over turns place = record { c = c; lines = lines; turns = turns; client = place; numbers = numbers }

  same : (s : SessionLogs) → IsSession c pid s → over (map (turn_at c) cert.turns) client ≡ over s.turns s.client
  same s is = (λ i. over (turns_are s is i) (client_is s is i))

  pub shows : (difference : Difference) → IsDifferenceOf c pid difference → ShowsDifference c lines pid (difference_rows (over (map (turn_at c) cert.turns) client) difference)
  shows difference of =
      record {
        session = of.session;
        is_session = of.is_session;
        difference = difference;
        is_difference = of.shown;
        numbers = numbers;
        are_its_stays = subst (λ place. AreNumbersOf c pid place numbers) (client_is of.session of.is_session) are;
        are_its_rows = ap (λ s. difference_rows s difference) (same of.session of.is_session);
      }

  pub shows-altered : (altered : Altered) → IsAltered c.stream (frames_in stays) altered → ShowsAltered c lines pid (altered_rows (over (map (turn_at c) cert.turns) client) altered)
  shows-altered altered is =
      let s = account.session in
      record {
        session = s;
        is_session = account.is_session;
        altered = altered;
        is_altered = subst (λ own. IsAltered c.stream (frames_in own) altered) account.stays_are is;
        numbers = numbers;
        are_its_stays = subst (λ place. AreNumbersOf c pid place numbers) (client_is s account.is_session) are;
        are_its_rows = ap (λ s. altered_rows s altered) (same s account.is_session);
      }

  pub shows-window : (window : BadWindow) → IsBadWindow c.stream stays window → ShowsWindow c lines pid (window_rows (over (map (turn_at c) cert.turns) client) window)
  shows-window window is =
      let s = account.session in
      record {
        session = s;
        is_session = account.is_session;
        window = window;
        is_window = subst (λ own. IsBadWindow c.stream own window) account.stays_are is;
        numbers = numbers;
        are_its_stays = subst (λ place. AreNumbersOf c pid place numbers) (client_is s account.is_session) are;
        are_its_rows = ap (λ s. window_rows s window) (same s account.is_session);
      }
