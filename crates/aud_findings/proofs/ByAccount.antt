-- What is told of a session by its account: other entries with its fault, and its tail.
use Rattle.std.proofs.Common.{◌≡◌, ◌<◌, ℕ, List, map, length, slice_get, Option, Some, None, refl, sym, ap, subst, ◌∙◌, inl, inr}
use Rattle.std.proofs.lemmas.Option.{none-some, same_Some, slice_get_within}
use Rattle.aud_node.specs.Cluster.{Cluster}
use Rattle.aud_node.specs.Stream.{Text}
use Rattle.aud_client.specs.StaySeen.{FrameSeen, StaySeen}
use Rattle.aud_cert.specs.Certificate.{turn_at}
use Rattle.aud_maker.proofs.BegunLemmas.{one_chain}
use Rattle.aud_maker.proofs.Over.{turns-there}
use Rattle.aud_session_facts.specs.declared.account.Account.{Account}
use Rattle.aud_session_facts.specs.declared.shown.session.ShownSession.{ShownSession}
use Rattle.aud_session_facts.specs.Account.{IsAccount, IsAccountOf, IsFound, difference_found, stays_of}
use Rattle.aud_check.specs.declared.difference.Difference.{Difference}
use Rattle.aud_check.specs.declared.difference.Difference.TheVariants as parted
use Rattle.aud_check.specs.declared.finding.Finding.{Finding}
use Rattle.aud_check.specs.declared.finding.Finding.TheVariants as finding
use Rattle.aud_check.specs.Difference.{IsDifference}
use Rattle.aud_check.specs.Frames.{frames_in}
use Rattle.aud_check.specs.Window.{positions_received}
use Rattle.aud_input.specs.TapLines.{TapLines}
use Rattle.aud_rows.specs.Seen.{RowSeen}
use Rattle.aud_session_facts.specs.ShowsDifference.{AreNumbersOf}
use Rattle.aud_verdict.specs.Session.{own_stays, due_to}
use Rattle.aud_cert.specs.declared.fault.Fault.{Fault}
use Rattle.aud_findings.specs.declared.also.LinesOf.{LinesOf}
use Rattle.aud_findings.specs.Also.{AreAlso, AreOthers, HasNoOthers, OthersSeen, lines_of, no_others, told_of}
use Rattle.aud_findings.specs.Received.{frame_of, tail_positions}
use Rattle.aud_findings.specs.Tail.{ShowsTail, tail_rows}
use Rattle.aud_findings.specs.Private.Known.{IsShownBy, IsWithin}

-- what was found of the account is what is found of its session
pub own_found : (c : Cluster) (pid : Text) (a : Account) (of : IsAccountOf c pid a) → IsFound c of.is.session.client (own_stays c of.is.session) (due_to c of.is.session) a.found
own_found c pid a of = subst (λ found_by. found_by) (λ i. IsFound c (of.is.client_is i) (of.is.stays_are i) (of.is.due_is i) a.found) of.found

-- the difference that was found is one
pub is_found_so : (c : Cluster) (client : ℕ) (stays : List StaySeen) (due : List ℕ) (found : Option Finding) → IsFound c client stays due found
    → (d : Difference) → difference_found found ≡ Some d → IsDifference (positions_received stays) due d
is_found_so c client stays due (Some (finding.Delivery other)) first d e = subst (IsDifference (positions_received stays) due) (same_Some other d e) first.shown
is_found_so c client stays due (Some finding.Frame) first d e = absurd (none-some d e)
is_found_so c client stays due (Some finding.Orphan) first d e = absurd (none-some d e)
is_found_so c client stays due (Some (finding.Content altered)) first d e = absurd (none-some d e)
is_found_so c client stays due (Some (finding.Window window)) first d e = absurd (none-some d e)
is_found_so c client stays due None first d e = absurd (none-some d e)

-- it shows at a frame that was received
shows_within : (received due : List ℕ) (d : Difference) → IsDifference received due d → frame_of d < length received
shows_within received due (parted.Extra frame p) is = slice_get_within received frame p is.is_there
shows_within received due (parted.Doubled first again p) is = slice_get_within received again p is.again_is
shows_within received due (parted.Swapped frame p later) is = slice_get_within received frame is.other is.other_is
shows_within received due (parted.Lost frame p) is = slice_get_within received frame is.other is.other_is

pub found_within : (c : Cluster) (pid : Text) (a : Account) → IsAccountOf c pid a → IsWithin (length (positions_received (stays_of a))) (difference_found a.found)
found_within c pid a of = go (difference_found a.found) refl
  where
    go : (o : Option Difference) → difference_found a.found ≡ o → IsWithin (length (positions_received (stays_of a))) o
    go None e = tt
    go (Some d) e = shows_within (positions_received (stays_of a)) a.due.items d (is_found_so c a.client (stays_of a) a.due.items a.found of.found d e)

-- what is told of others with the fault of such an account is told of its session
pub told_of_session : (c : Cluster) (lines : List TapLines) (pid : Text) (client : ℕ) (stays : List StaySeen) (due : List ℕ) → IsAccount c pid client stays due
    → (fault : Fault) (by : LinesOf) (others : List ℕ) → AreOthers c.stream stays due fault by others
    → (place : ℕ) (numbers : List ℕ) (frames : List FrameSeen) → place ≡ client → AreNumbersOf c pid client numbers → frames ≡ frames_in stays
    → (also : OthersSeen) → also ≡ told_of (lines_of by c lines place numbers frames) others → AreAlso c lines pid fault also
told_of_session c lines pid client stays due account fault by others those place numbers frames at are frames_are also told =
    let s = account.session in
    let there : place ≡ s.client = at ∙ account.client_is in
    let came : frames ≡ frames_in (own_stays c s) = frames_are ∙ ap frames_in account.stays_are in
    record {
      session = s;
      is_session = account.is_session;
      are = inl (record {
        numbers = numbers;
        are_its_stays = subst (λ p. AreNumbersOf c pid p numbers) account.client_is are;
        by = by;
        others = others;
        are_others = subst (λ all. all) (λ i. AreOthers c.stream (account.stays_are i) (account.due_is i) fault by others) those;
        are = told ∙ (λ i. told_of (lines_of by c lines (there i) numbers (came i)) others);
      });
    }

-- and that none are told of
pub none_told : (c : Cluster) (lines : List TapLines) (pid : Text) (client : ℕ) (stays : List StaySeen) (due : List ℕ) → IsAccount c pid client stays due
    → (fault : Fault) → HasNoOthers c client stays due fault → (also : OthersSeen) → also ≡ no_others → AreAlso c lines pid fault also
none_told c lines pid client stays due account fault none also is =
    record {
      session = account.session;
      is_session = account.is_session;
      are = inr (subst (λ all. all) (λ i. HasNoOthers c (account.client_is i) (account.stays_are i) (account.due_is i) fault) none, is);
    }

-- the rows of the tail, by the session's certificate
pub tail_told : (pid : Text) (a : Account) (s : ShownSession) → IsShownBy s.sheet.recording.now pid a s
    → (received : List ℕ) (first : Option ℕ) → received ≡ positions_received (stays_of a) → first ≡ slice_get (tail_positions received a.due.items) 0
    → (rows : List RowSeen)
    → rows ≡ tail_rows s.sheet.recording.now s.sheet.lines.now (map (turn_at s.sheet.recording.now) s.turns.now) s.tap.now.place s.numbers.now (length received) first
    → ShowsTail s.sheet.recording.now s.sheet.lines.now pid rows
tail_told pid a s known received first received_is first_is rows rows_are =
    let c = s.sheet.recording.now in
    let is = known.own.is in
    let made = known.own.made in
    let there : s.tap.now.place ≡ is.session.client = known.client ∙ is.client_is in
    let came : received ≡ positions_received (own_stays c is.session) = received_is ∙ ap positions_received is.stays_are in
    let over : map (turn_at c) s.turns.now ≡ is.session.turns =
    ap (map (turn_at c)) known.turns ∙ turns-there c pid a.cert known.once made
    ∙ sym (one_chain c made.who is.session.who made.turns is.session.turns (is.is_session.names ∙ sym made.names) made.chain is.is_session.chain) in
    let begin : first ≡ slice_get (tail_positions (positions_received (own_stays c is.session)) (due_to c is.session)) 0 =
    first_is ∙ (λ i. slice_get (tail_positions (came i) (is.due_is i)) 0) in
    record {
      session = is.session;
      is_session = is.is_session;
      numbers = s.numbers.now;
      are_its_stays = subst (λ p. AreNumbersOf c pid p s.numbers.now) is.client_is known.numbers;
      are_its_rows = rows_are ∙ (λ i. tail_rows c s.sheet.lines.now (over i) (there i) s.numbers.now (length (came i)) (begin i));
    }
