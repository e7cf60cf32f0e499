-- The sessions of a part are those of the whole recording that it is made for, in their order.
use Rattle.std.proofs.Common.{◌≡◌, ◌||◌, ℕ, Bool, true, false, cond, List, [], ◌∷◌, ◌++◌, map, filter, flat_map, filter_map, get_or, Option, Some, None, refl, sym, ap, ◌∙◌}
use Rattle.std.specs.List.{All, list_any, cons_option}
use Rattle.std.specs.Option.{option_and_then}
use Rattle.std.proofs.lemmas.Option.{none-some}
use Rattle.std.proofs.lemmas.List.Elements.{All-weaker, filter-append, filter_map-append}
use Rattle.std.proofs.lemmas.List.Folds.{flat_map-map}
use Rattle.aud_tap.specs.declared.records.NodeRec.{NodeRec}
use Rattle.aud_tap.specs.declared.records.StreamRec.{StreamRec}
use Rattle.aud_tap.specs.declared.records.ClientRec.{ClientRec}
use Rattle.aud_tap.specs.declared.taps.Records.{Records}
use Rattle.aud_tap.specs.declared.taps.Records.TheVariants.{Stream, Node, Client}
use Rattle.aud_tap.specs.declared.taps.Tap.{Tap}
use Rattle.aud_tap.specs.RecordFields.{pid_of}
use Rattle.aud_base.specs.FirstTexts.{first_texts}
use Rattle.aud_base.proofs.SameText.{itself_text}
use Rattle.aud_node.specs.Cluster.{is_stream, stream_of, cluster_of, node_recs}
use Rattle.aud_node.specs.NodeTaps.{client_records, client_recs}
use Rattle.aud_node.specs.OwnRecords.{is_pid, record_names}
use Rattle.aud_node.specs.Stream.{Text}
use Rattle.aud_client.specs.TapPackets.{TapPacket, Connection, tap_packets}
use Rattle.aud_client.specs.Replies.{ReplySeen, is_this, reply_names, is_naming}
use Rattle.aud_client.specs.Stays.{stays}
use Rattle.aud_client.specs.StaySeen.{StaySeen, stay_of}
use Rattle.aud_client.specs.Received.{connection_packets, stays_of, stay_names_pid, transcript_of}
use Rattle.aud_client.proofs.Named.{named_by_replies}
use Rattle.aud_maker.specs.Sessions.{node_pids, stay_pid, reply_pids, mentions, sessions_of}
use Rattle.aud_upgrade.specs.declared.joins.Joins.TheVariants.{TakeAndTakes}
use Rattle.aud_upgrade.specs.Kept.{UpgradesKeepVerdicts}
use Rattle.aud_parts.specs.LeftOut.{keeps_pid, keeps_record, records_left, tap_left, tell_of}
use Rattle.aud_parts.specs.MadeOther.{entry_left, entries_left, tap_with_others}
use Rattle.aud_parts.specs.Part.{is_among, is_kept_tap, left_for, is_kept_entry, part_for, KeepsClients}
use Rattle.aud_laws.proofs.LeftOut.Logs.{left_of}
use Rattle.aud_laws.proofs.InParts.Lists.{either, filter-each, filter_map-filter, flat_map-filter, given-pass}
use Rattle.aud_laws.proofs.InParts.FirstTexts.{first-kept}
use Rattle.aud_laws.proofs.InParts.Among.{one-among, none-own}
use Rattle.aud_laws.proofs.InParts.Alike.{cut_to, cut-is}

-- ---- the replies of a client's tap

module _ (stream other : List StreamRec) where
  -- whom a stay's reply names, the stream doesn't tell
  stays-pids : (c : ℕ) (ss : List (List TapPacket)) → filter_map stay_pid (map (stay_of other c) ss) ≡ filter_map stay_pid (map (stay_of stream c) ss)
  stays-pids c [] = refl
  stays-pids c (s ∷ ss) = ap (cons_option (stay_pid (stay_of stream c s))) (stays-pids c ss)

  connections-pids : (cs : List Connection) → filter_map stay_pid (flat_map (stays_of other) cs) ≡ filter_map stay_pid (flat_map (stays_of stream) cs)
  connections-pids [] = refl
  connections-pids (c ∷ cs) =
      filter_map-append stay_pid (stays_of other c) (flat_map (stays_of other) cs)
      ∙ ap (λ ps. ps ++ filter_map stay_pid (flat_map (stays_of other) cs)) (stays-pids c.c (stays (connection_packets c)))
      ∙ ap (λ ps. filter_map stay_pid (stays_of stream c) ++ ps) (connections-pids cs)
      ∙ sym (filter_map-append stay_pid (stays_of stream c) (flat_map (stays_of stream) cs))

  replies-same : (recs : List ClientRec) → reply_pids other (Some recs) ≡ reply_pids stream (Some recs)
  replies-same recs = connections-pids (tap_packets recs).connections

-- ---- what a tap names it tells of

node-tells : (recs : List NodeRec) → All (λ pid. tell_of pid (Node recs) ≡ true) (filter_map pid_of recs)
node-tells = given-pass pid_of (λ pid rec. record_names (Some rec) pid) (λ rec pid names. ap (λ o. is_pid o pid) names ∙ itself_text pid)

stay-names : (pid : Text) (stay : StaySeen) → stay_pid stay ≡ Some pid → stay_names_pid pid stay ≡ true
stay-names pid stay is = go stay.reply is
  where
    go : (o : Option ReplySeen) → option_and_then (λ (reply : ReplySeen). reply.pid) o ≡ Some pid → reply_names pid o ≡ true
    go None h = absurd (none-some pid h)
    go (Some reply) h = ap (is_this pid) h ∙ itself_text pid

client-tells : (stream : List StreamRec) (recs : List ClientRec) → All (λ pid. tell_of pid (Client recs) ≡ true) (reply_pids stream (Some recs))
client-tells stream recs =
    let ss = (transcript_of stream recs).stays in
    All-weaker (λ pid. list_any (stay_names_pid pid) ss ≡ true) (λ pid. tell_of pid (Client recs) ≡ true) (λ pid is. sym (named_by_replies stream recs pid) ∙ is) (filter_map stay_pid ss)
    (given-pass stay_pid stay_names_pid (λ stay pid. stay-names pid stay) ss)

-- ---- what is left of a tap names those of the part that it named

module _ (pids : List Text) (ke : StreamRec → Bool) where
  abbrev own : Text → Bool
  own = is_among pids

  -- a tap as it is left
  abbrev cut_tap : Tap → Tap
  cut_tap tap = tap_with_others ke (tap_left (keeps_record own) tap)

  -- one of the sessions is told of
  abbrev told : Records → Bool
  told records = list_any (λ pid. tell_of pid records) pids

  node-left : (tap : Tap) → cond (is_kept_tap pids tap) (node_pids (cut_tap tap)) [] ≡ filter own (node_pids tap)
  node-left tap = go tap.records
    where
      go : (records : Records) → cond (is_stream records || told records) (filter_map pid_of (node_recs (Some (entries_left ke (records_left (keeps_record own) records))))) []
          ≡ filter own (filter_map pid_of (node_recs (Some records)))
      go (Stream recs) = refl
      go (Client recs) = either (told (Client recs)) []
      go (Node recs) = further (told (Node recs)) refl
        where
          further : (b : Bool) → told (Node recs) ≡ b → cond b (filter_map pid_of (filter (keeps_record own) recs)) [] ≡ filter own (filter_map pid_of recs)
          further true is = filter_map-filter pid_of (keeps_record own) own (λ rec pid names. ap (keeps_pid own) names) recs
          further false untold = sym (none-own pids (Node recs) untold (filter_map pid_of recs) (node-tells recs))

  module _ (stream other : List StreamRec) where
    -- a client's tap names sessions of the part alone, or none of them
    abbrev IsClosed : Option (List ClientRec) → Type 0
    IsClosed recs = (one another : Text) → own one ≡ true → is_naming one recs ≡ true → is_naming another recs ≡ true → own another ≡ true

    client-left : (tap : Tap) → IsClosed (client_recs tap) → cond (is_kept_tap pids tap) (reply_pids other (client_recs (cut_tap tap))) [] ≡ filter own (reply_pids stream (client_recs tap))
    client-left tap = go tap.records
      where
        go : (records : Records) → IsClosed (client_records records)
            → cond (is_stream records || told records) (reply_pids other (client_records (entries_left ke (records_left (keeps_record own) records)))) [] ≡ filter own (reply_pids stream (client_records records))
        go (Stream recs) closed = refl
        go (Node recs) closed = either (told (Node recs)) []
        go (Client recs) closed = further (told (Client recs)) refl
          where
            further : (b : Bool) → told (Client recs) ≡ b → cond b (reply_pids other (Some recs)) [] ≡ filter own (reply_pids stream (Some recs))
            further true is =
                let (one, among, names) = one-among pids (λ pid. tell_of pid (Client recs)) is in
                replies-same stream other recs
                ∙ sym (filter-each own (reply_pids stream (Some recs))
                (All-weaker (λ pid. tell_of pid (Client recs) ≡ true) (λ pid. own pid ≡ true) (λ pid tells. closed one pid among names tells) (reply_pids stream (Some recs)) (client-tells stream recs)))
            further false untold = sym (none-own pids (Client recs) untold (reply_pids stream (Some recs)) (client-tells stream recs))

-- ---- all mentions, and the sessions

module _ (pids : List Text) (taps : List Tap) where
  abbrev ke : StreamRec → Bool
  ke = is_kept_entry (left_for pids taps).taps

  abbrev kept_taps : List Tap
  kept_taps = filter (is_kept_tap pids) taps

  abbrev stream : List StreamRec
  stream = stream_of taps

  abbrev cut_stream : List StreamRec
  cut_stream = map (entry_left ke) stream

  -- what all taps that are left give
  taps-left : (of : Tap → List Text) → flat_map of (cut_to pids taps).taps ≡ flat_map (λ tap. of (cut_tap pids ke tap)) kept_taps
  taps-left of =
      flat_map-map of (tap_with_others ke) (left_of (keeps_record (is_among pids)) (is_kept_tap pids) taps)
      ∙ flat_map-map (λ tap. of (tap_with_others ke tap)) (tap_left (keeps_record (is_among pids))) kept_taps

  nodes-left : flat_map node_pids (cut_to pids taps).taps ≡ filter (is_among pids) (flat_map node_pids taps)
  nodes-left =
      taps-left node_pids
      ∙ flat_map-filter node_pids (λ tap. node_pids (cut_tap pids ke tap)) (is_kept_tap pids) (is_among pids) taps (λ k d lt. node-left pids ke (get_or taps k d))

  clients-left : KeepsClients pids taps → flat_map (λ tap. reply_pids cut_stream (client_recs tap)) (cut_to pids taps).taps ≡ filter (is_among pids) (flat_map (λ tap. reply_pids stream (client_recs tap)) taps)
  clients-left closed =
      taps-left (λ tap. reply_pids cut_stream (client_recs tap))
      ∙ flat_map-filter (λ tap. reply_pids stream (client_recs tap)) (λ tap. reply_pids cut_stream (client_recs (cut_tap pids ke tap))) (is_kept_tap pids) (is_among pids) taps
      (λ k d lt. client-left pids ke stream cut_stream (get_or taps k d) (closed k d lt))

  mentioned : KeepsClients pids taps → mentions (cut_to pids taps) ≡ filter (is_among pids) (mentions (cluster_of taps))
  mentioned closed =
      ap (λ ps. ps ++ flat_map (λ tap. reply_pids cut_stream (client_recs tap)) (cut_to pids taps).taps) nodes-left
      ∙ ap (λ ps. filter (is_among pids) (flat_map node_pids taps) ++ ps) (clients-left closed)
      ∙ sym (filter-append (is_among pids) (flat_map node_pids taps) (flat_map (λ tap. reply_pids stream (client_recs tap)) taps))

  -- the sessions of the part
  pub own-sessions : UpgradesKeepVerdicts → KeepsClients pids taps → sessions_of (cluster_of (part_for pids taps)) ≡ filter (is_among pids) (sessions_of (cluster_of taps))
  own-sessions kept closed =
      (kept TakeAndTakes (cut_to pids taps).taps).sessions
      ∙ ap sessions_of (sym (cut-is pids taps))
      ∙ ap first_texts (mentioned closed)
      ∙ first-kept (is_among pids) (mentions (cluster_of taps))
