-- Where the nodes' logs stand once taps are left out, and what is left of them.
use Rattle.std.proofs.Common.{◌≡◌, ℕ, zero, suc, subst, Bool, true, false, List, [], ◌∷◌, map, filter, Option, Some, None, option_map, slice_get, refl, sym, ap, ◌∙◌, arith, bytes_eq}
use Rattle.std.specs.List.{All, list_any}
use Rattle.std.proofs.lemmas.Bool.{false≢true}
use Rattle.std.proofs.lemmas.List.Elements.{All-head, All-tail}
use Rattle.std.proofs.lemmas.Option.{none-some, same_Some, slice_get-map}
use Rattle.aud_tap.specs.declared.records.StreamRec.{StreamRec}
use Rattle.aud_tap.specs.declared.records.NodeRec.{NodeRec}
use Rattle.aud_tap.specs.declared.taps.Records.{Records}
use Rattle.aud_tap.specs.declared.taps.Records.TheVariants.{Stream, Node, Client}
use Rattle.aud_tap.specs.declared.taps.Tap.{Tap}
use Rattle.aud_base.proofs.SameText.{itself_text}
use Rattle.aud_node.specs.Cluster.{Cluster, node_recs, node_log}
use Rattle.aud_node.specs.OwnRecords.{is_pid, record_names}
use Rattle.aud_node.specs.Stream.{Text}
use Rattle.aud_node.specs.TurnRecords.{pid_of}
use Rattle.aud_parts.specs.LeftOut.{keeps_first, records_left, tap_left, tell_of}
use Rattle.aud_laws.proofs.LeftOut.Places.{moved, stood, at-moved, at-stood, kept-there, stood-moved, moved-stood}
use Rattle.aud_laws.proofs.LeftOut.Records.{LeavesOthers}

-- the taps, over this stream
abbrev pub over : List StreamRec → List Tap → Cluster
over stream taps = record { stream = stream; taps = taps }

-- the taps that are left, with the records that are
abbrev pub left_of : (NodeRec → Bool) → (Tap → Bool) → List Tap → List Tap
left_of keep keeps taps = map (tap_left keep) (filter keeps taps)

-- what is asked of the two tests
pub record Leaves (stream : List StreamRec) (taps : List Tap) (keep : NodeRec → Bool) (keeps : Tap → Bool) (pid : Text) : Type 0 where
  pub others : LeavesOthers keep pid
  pub first : All (λ (tap : Tap). tell_of pid tap.records ≡ true → keeps_first keep (node_recs (Some tap.records)) ≡ true) taps
  pub telling : All (λ (tap : Tap). tell_of pid tap.records ≡ true → keeps tap ≡ true) taps

-- what holds of each element holds of the one at a place
pub all-there : {X : Type 0} (P : X → Type 0) (xs : List X) (i : ℕ) (x : X) → All P xs → slice_get xs i ≡ Some x → P x
all-there P [] i x all at = absurd (none-some x at)
all-there P (y ∷ ys) zero x all at = subst P (same_Some y x at) (All-head P y ys all)
all-there P (y ∷ ys) (suc i) x all at = all-there P ys i x (All-tail P y ys all) at

-- where an element passes, some does
pub any-there : {X : Type 0} (test : X → Bool) (xs : List X) (i : ℕ) (x : X) → slice_get xs i ≡ Some x → test x ≡ true → list_any test xs ≡ true
any-there test [] i x at e = absurd (none-some x at)
any-there test (y ∷ ys) zero x at e = let here : test y ≡ true = ap test (same_Some y x at) ∙ e in grind (arith, here)
any-there test (y ∷ ys) (suc i) x at e = let later = any-there test ys i x at e in grind (arith, later)

-- a record that names the session is kept
pub own-kept : (keep : NodeRec → Bool) (pid : Text) → LeavesOthers keep pid → (rec : NodeRec) → pid_of rec ≡ Some pid → keep rec ≡ true
own-kept keep pid leaves rec names = go (keep rec) refl
  where
    go : (b : Bool) → keep rec ≡ b → b ≡ true
    go true is = refl
    go false out =
        let is = leaves rec out in
        let same : is.other ≡ pid = same_Some is.other pid (sym is.names ∙ names) in
        absurd (false≢true (sym is.differs ∙ ap (λ t. bytes_eq t pid) same ∙ itself_text pid))

-- a node's records that are left
recs-left : (keep : NodeRec → Bool) (records : Records) → node_recs (Some (records_left keep records)) ≡ filter keep (node_recs (Some records))
recs-left keep (Stream recs) = refl
recs-left keep (Node recs) = refl
recs-left keep (Client recs) = refl

-- a tap one of whose records names the session tells of it
named-tells : (pid : Text) (records : Records) (i : ℕ) (rec : NodeRec) → slice_get (node_recs (Some records)) i ≡ Some rec → pid_of rec ≡ Some pid → tell_of pid records ≡ true
named-tells pid (Stream recs) i rec at names = absurd (none-some rec at)
named-tells pid (Node recs) i rec at names = any-there (λ r. record_names (Some r) pid) recs i rec at (ap (λ o. is_pid o pid) names ∙ itself_text pid)
named-tells pid (Client recs) i rec at names = absurd (none-some rec at)

-- where there is a record there is a tap
pub tap-there : (taps : List Tap) (node i : ℕ) (rec : NodeRec) → slice_get (node_recs (option_map (λ (tap : Tap). tap.records) (slice_get taps node))) i ≡ Some rec → (tap : Tap) × (slice_get taps node ≡ Some tap)
tap-there taps node i rec at = go (slice_get taps node) refl at
  where
    go : (o : Option Tap) → slice_get taps node ≡ o → slice_get (node_recs (option_map (λ (tap : Tap). tap.records) o)) i ≡ Some rec → (tap : Tap) × (slice_get taps node ≡ Some tap)
    go None none h = absurd (none-some rec h)
    go (Some tap) is h = (tap, is)

module _ (stream : List StreamRec) where
  -- the log of the tap at a place
  pub log-at : (taps : List Tap) (node : ℕ) (tap : Tap) → slice_get taps node ≡ Some tap → node_log (over stream taps) node ≡ node_recs (Some tap.records)
  log-at taps node tap at = ap (λ o. node_recs (option_map (λ (t : Tap). t.records) o)) at

  module _ (taps : List Tap) (keep : NodeRec → Bool) (keeps : Tap → Bool) where
    -- the tap of the one place stands at the other among those that are left, with what is left of its log
    pub record IsPlaced (node node' : ℕ) : Type 0 where
      pub there : moved keeps taps node ≡ node'
      pub back : stood keeps taps node' ≡ node
      pub log : node_log (over stream (left_of keep keeps taps)) node' ≡ filter keep (node_log (over stream taps) node)

    -- a tap that is kept
    pub placed : (node : ℕ) (tap : Tap) → slice_get taps node ≡ Some tap → keeps tap ≡ true → IsPlaced node (moved keeps taps node)
    placed node tap at kept =
        record {
          there = refl;
          back = stood-moved keeps taps node tap at kept;
          log =
              log-at (left_of keep keeps taps) (moved keeps taps node) (tap_left keep tap)
              (slice_get-map (tap_left keep) (filter keeps taps) (moved keeps taps node) ∙ ap (option_map (tap_left keep)) (at-moved keeps taps node tap at kept))
              ∙ recs-left keep tap.records
              ∙ ap (filter keep) (sym (log-at taps node tap at));
        }

    -- a tap that is left
    pub placed-left : (node' i : ℕ) (rec : NodeRec) → slice_get (node_log (over stream (left_of keep keeps taps)) node') i ≡ Some rec → IsPlaced (stood keeps taps node') node'
    placed-left node' i rec at = go (slice_get (filter keeps taps) node') refl
      where
        go : (o : Option Tap) → slice_get (filter keeps taps) node' ≡ o → IsPlaced (stood keeps taps node') node'
        go None none =
            absurd (none-some rec (sym (ap (λ o. slice_get (node_recs (option_map (λ (tap : Tap). tap.records) o)) i) (slice_get-map (tap_left keep) (filter keeps taps) node' ∙ ap (option_map (tap_left keep)) none)) ∙ at))
        go (Some tap) is =
            subst (IsPlaced (stood keeps taps node')) (moved-stood keeps taps node' tap is)
            (placed (stood keeps taps node') tap (at-stood keeps taps node' tap is) (kept-there keeps taps node' tap is))

    -- the first record of its log
    pub first-own : (pid : Text) → Leaves stream taps keep keeps pid → (node i : ℕ) (rec : NodeRec) → slice_get (node_log (over stream taps) node) i ≡ Some rec → pid_of rec ≡ Some pid
        → keeps_first keep (node_log (over stream taps) node) ≡ true
    first-own pid leaves node i rec at names =
        let (tap, there) = tap-there taps node i rec at in
        let tells = named-tells pid tap.records i rec (sym (ap (λ log. slice_get log i) (log-at taps node tap there)) ∙ at) names in
        ap (keeps_first keep) (log-at taps node tap there)
        ∙ all-there (λ (t : Tap). tell_of pid t.records ≡ true → keeps_first keep (node_recs (Some t.records)) ≡ true) taps node tap leaves.first there tells

    -- the tap of a record that names the session
    pub placed-own : (pid : Text) → Leaves stream taps keep keeps pid → (node i : ℕ) (rec : NodeRec) → slice_get (node_log (over stream taps) node) i ≡ Some rec → pid_of rec ≡ Some pid
        → IsPlaced node (moved keeps taps node)
    placed-own pid leaves node i rec at names =
        let (tap, there) = tap-there taps node i rec at in
        let tells = named-tells pid tap.records i rec (sym (ap (λ log. slice_get log i) (log-at taps node tap there)) ∙ at) names in
        placed node tap there (all-there (λ (t : Tap). tell_of pid t.records ≡ true → keeps t ≡ true) taps node tap leaves.telling there tells)
