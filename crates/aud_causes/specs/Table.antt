-- All that is said of a cause: one table, with a row for each, in the order of the causes.
use Rattle.std.specs.Prelude.{true, false, List, [], ◌∷◌, codes, Some, None}
use Rattle.aud_node.specs.Stream.{Text}
use Rattle.aud_check.specs.declared.content.Part.{Part}
use Rattle.aud_check.specs.declared.content.Part.TheVariants as part
use Rattle.aud_causes.specs.declared.why.Figure.{Figure}
use Rattle.aud_causes.specs.declared.why.Figure.TheVariants.{Name, Number, Nth}
use Rattle.aud_causes.specs.declared.lines.RecordAt.{RecordAt}
use Rattle.aud_causes.specs.declared.lines.RecordAt.TheVariants.{Node, Got, Ask, Reply, First, Bad}
use Rattle.aud_causes.specs.NoPacket.{advice, no_packet_figures, no_packet_words}
use Rattle.aud_causes.specs.declared.cause.Cause.{Cause}
use Rattle.aud_causes.specs.declared.cause.Cause.TheVariants.{NodeBehindBreak, SentAgainAfterReplay, ReplayIncludesOffset, DoubledInReplay, StaleOffset, BodyCameTwice, OffsetOfAnotherSession, FrameNotRecorded, UnknownOffset, NoOffset, RoomsAtBreak, SkippedInWindow, LostLive, DoubledLive, SwappedLive, SwappedInReplay, AnotherEncoder, AttachmentsReordered, AnotherEvent, Altered, LogEndedEarly, SentAfterEnd, LateLeave, BeforeBirth, ExtraLive, JoinMissing, LeaveMissing, RecoveryNotRecorded, MissingBreak, MissingBack, ClearedAfterBreak, TurnNotStored, RecoveredTwice, OpenedTwice, OpenNotRecorded, NodeNotTapped, NoStart, RestartedInOldLog, EntriesSkippedByNode, EntryTakenAgain, NotInStream, TwoTaps, NoClientTap, ReplyMissing, ClientTapHasNoPackets, SidDiffers, NamespaceDiffers, NotAPacket, TapBeganLate, CutBeforeReply, ReplyWithoutPid, OutAfterAnswer, SecondConnect, AfterDisconnect, SessionOver, NodeEndedInTurn, NeverBroken, AskedTooEarly}

-- what is said of a cause: its name, for scripts; the records that show it; what happened, in words, where in the place of
-- each `#` stands the next of the figures; and what to do
pub record CauseRow : Type 0 where
  pub id : Text
  pub records : List RecordAt
  pub why : Text
  pub figures : List Figure
  pub todo : Text

-- the row of these
abbrev pub row : Text → List RecordAt → Text → List Figure → Text → CauseRow
row id records why figures todo = record { id = id; records = records; why = why; figures = figures; todo = todo }

-- which part of an event isn't its entry's
abbrev pub part_words : Part → Text
part_words part.NoEvent = codes "The event is not the entry as the stream's tap has it."
part_words (part.Text at) = codes "The event's text parts from its entry's at byte #."
part_words part.Count = codes "The event has another number of attachments than its entry."
part_words (part.Attachment number at) = codes "Attachment # of the event parts from its entry's at byte #."

-- its figures; bytes and attachments count from 1
abbrev pub part_figures : Part → List Figure
part_figures (part.Text at) = Nth at ∷ []
part_figures (part.Attachment number at) = Nth number ∷ Nth at ∷ []
part_figures _ = []

-- the row of a cause
abbrev pub row_of : Cause → CauseRow
row_of (NodeBehindBreak broke back high low) = row (codes "node-behind-break") (Node broke ∷ Node back ∷ [])
    (codes "# took the session back with its cursor at #; the break was at #.") (Name back.node ∷ Number low ∷ Number high ∷ [])
    (codes "let the restore wait until the cursor is at the break's, or drop what the client has.")
row_of (SentAgainAfterReplay first again low) = row (codes "sent-again-after-replay") (Got first ∷ Got again ∷ [])
    (codes "The replay ran past the node's cursor at #, and the node sent again what it took then.") (Number low ∷ [])
    (codes "let the replay end at the node's cursor, or drop what it sent from what the node takes.")
row_of (ReplayIncludesOffset stay again after) = row (codes "replay-includes-offset") (Ask stay ∷ Got again ∷ [])
    (codes "The client asked to go on after entry #, and that entry came first.") (Number after ∷ [])
    (codes "let the replay begin after the offset: in Redis `XRANGE` from `(OFFSET`, or skip the first.")
row_of (DoubledInReplay first again) = row (codes "doubled-in-replay") (Got first ∷ Got again ∷ [])
    (codes "The entry is one of those to be sent again, and came twice in one recovery.") []
    (codes "look at how the node reads the stream for the replay: no entry may stand in two of its pages.")
row_of (StaleOffset stay after) = row (codes "stale-offset") (Ask stay ∷ [])
    (codes "The client asked to go on after entry #, and its tap has later ones.") (Number after ∷ [])
    (codes "store the offset with each event, before the event is worked on, and put the client's tap there.")
row_of (BodyCameTwice first again false) = row (codes "body-came-twice") (Got first ∷ Got again ∷ [])
    (codes "From this entry on, all that came before the recovery had come in one body of polling.") []
    (codes "see whether the client refused that body, for its packets are too many or too long.")
row_of (BodyCameTwice first again true) = row (codes "body-came-twice") (Got first ∷ Got again ∷ [])
    (codes "The two bodies of polling in which the entry came are the same, byte for byte.") []
    (codes "see whether the client's tap wrote one body twice; else whether the server sent it twice.")
row_of (OffsetOfAnotherSession stay after) = row (codes "offset-of-another-session") (Ask stay ∷ [])
    (codes "The client asked to go on after entry #, which was not due to this session.") (Number after ∷ [])
    (codes "drop the offset when a new session opens.")
row_of (FrameNotRecorded stay after) = row (codes "frame-not-recorded") (Ask stay ∷ [])
    (codes "The client asked to go on after entry #, of which its tap has no frame: it may have had it.") (Number after ∷ [])
    (codes "see whether the client's tap lost records; else look at where the client has the offset from.")
row_of (UnknownOffset stay) = row (codes "unknown-offset") (Ask stay ∷ [])
    (codes "The client asked to go on after an offset that no entry of the stream has.") []
    (codes "take as offset only what a server that recovers put at the end of an event.")
row_of (NoOffset stay) = row (codes "no-offset") (Ask stay ∷ [])
    (codes "The client asked for the session and gave no offset.") []
    (codes "store the offset of each event, and ask with the last one.")
row_of (RoomsAtBreak stay after low) = row (codes "rooms-at-break") (Ask stay ∷ Reply stay ∷ [])
    (codes "Of the entries after # up to #, exactly those came that are for the rooms held at the break.") (Number after ∷ Number low ∷ [])
    (codes "join again after a recovery, or accept it: public adapters replay by the rooms at the break.")
row_of (SkippedInWindow stay after low) = row (codes "skipped-in-window") (Ask stay ∷ Reply stay ∷ [])
    (codes "The entry is one of those to be sent again, after # up to #, and no frame of it came.") (Number after ∷ Number low ∷ [])
    (codes "look at how the node reads the stream for the replay, and at what stands between it and the client.")
row_of (LostLive frame) = row (codes "lost-live") (Got frame ∷ [])
    (codes "The node took the entry while the client was connected, and no frame of it came.") []
    (codes "look at what stands between the node and the client, and at what the node sent.")
row_of (DoubledLive first again) = row (codes "doubled-live") (Got first ∷ Got again ∷ [])
    (codes "No recovery stands between the two frames: the entry came twice while the client was connected.") []
    (codes "look at what stands between the node and the client, and at what the node sent.")
row_of (SwappedLive frame later) = row (codes "swapped-live") (Got frame ∷ Got later ∷ [])
    (codes "No recovery stands between the two frames: they changed places while the client was connected.") []
    (codes "look at what stands between the node and the client, and at what the node sent.")
row_of (SwappedInReplay frame later) = row (codes "swapped-in-replay") (Got frame ∷ Got later ∷ [])
    (codes "The entry is one of those to be sent again, and came late in its recovery.") []
    (codes "send what is read for the replay in the stream's order, and before what the node takes.")
row_of (AnotherEncoder frame part) = row (codes "another-encoder") (Got frame ∷ [])
    (codes "The event's text parts from its entry's at byte #, and is the same JSON.") (part_figures part)
    (codes "let the stream's tap write each event as the nodes do, byte for byte.")
row_of (AttachmentsReordered frame) = row (codes "attachments-reordered") (Got frame ∷ [])
    (codes "The event has its entry's attachments, in another order.") []
    (codes "look at what stands between the node and the client: it has to keep the order of messages.")
row_of (AnotherEvent frame) = row (codes "another-event") (Got frame ∷ [])
    (codes "The event has another name, namespace or number of arguments than its entry.") []
    (codes "let no event but those of the stream end in a text that is an offset.")
row_of (Altered frame part) = row (codes "altered") (Got frame ∷ [])
    (part_words part) (part_figures part)
    (codes "look at what stands between the node and the client.")
row_of (LogEndedEarly last high) = row (codes "log-ended-early") (Node last ∷ [])
    (codes "The log of # ends in the session's last turn; the turns reach entry #.") (Name last.node ∷ Number high ∷ [])
    (codes "write a node's log unbuffered, and stop the nodes after the clients.")
row_of (SentAfterEnd end high) = row (codes "sent-after-end") (Node end ∷ [])
    (codes "By its log # had ended the turn in which the event came, with its cursor at #.") (Name end.node ∷ Number high ∷ [])
    (codes "write `break` once nothing more is sent to the client; see whether the node sent on.")
row_of (LateLeave leave) = row (codes "late-leave") (Node leave ∷ [])
    (codes "The session had left a room of the entry before it reached the entry.") []
    (codes "send an entry by the rooms that the session holds when the node takes it.")
row_of (BeforeBirth begin low) = row (codes "before-birth") (Node begin ∷ [])
    (codes "By its log # had taken the entry when it opened the session, with its cursor at #.") (Name begin.node ∷ Number low ∷ [])
    (codes "send a session nothing that the node took before its `open`; see whether that, and `start`, are written in time.")
row_of (ExtraLive frame) = row (codes "extra-live") (Got frame ∷ [])
    (codes "The node sent the session an entry that was not addressed to it.") []
    (codes "look at how the node picks the sessions of a room.")
row_of (JoinMissing frame) = row (codes "join-missing") (Got frame ∷ [])
    (codes "What came would fit if the session had joined a room of the entry before: a `join` may be missing.") []
    (codes "write a `join` at once, unbuffered; look at whether the session was in that room.")
row_of (LeaveMissing frame) = row (codes "leave-missing") (Got frame ∷ [])
    (codes "What came would fit if the session had left a room before: a `leave` may be missing.") []
    (codes "write a `leave` at once, unbuffered; look at whether the session was in that room.")
row_of (RecoveryNotRecorded stay recoveries turns) = row (codes "recovery-not-recorded") (Ask stay ∷ Reply stay ∷ [])
    (codes "The client was taken back more often (#) than the logs have turns after the first (#): a turn is missing.") (Number recoveries ∷ Number turns ∷ [])
    (codes "tap each node, from its start, and write its log unbuffered.")
row_of (MissingBreak turn begin back (Some stay)) = row (codes "missing-break") (Node begin ∷ Node back ∷ Ask stay ∷ Reply stay ∷ [])
    (codes "The client recovered the session after turn #, so that turn broke; no log has its break.") (Number turn ∷ [])
    (codes "write a node's log unbuffered; see whether it ended there, or the node was restarted; look at the disk and at how logs are rotated.")
row_of (MissingBreak turn begin back None) = row (codes "missing-break") (Node begin ∷ Node back ∷ [])
    (codes "The next turn begins, so turn # broke; no log has its break.") (Number turn ∷ [])
    (codes "write a node's log unbuffered; see whether it ended there, or the node was restarted; look at the disk and at how logs are rotated.")
row_of (MissingBack turn next) = row (codes "missing-back") (Node next ∷ [])
    (codes "The session had turn #, by its `break` or a later turn; no log has its `back`.") (Number turn ∷ [])
    (codes "write a node's log from its start, unbuffered; look at whether one ended early, or lost lines.")
row_of (ClearedAfterBreak broke cleared) = row (codes "cleared-after-break") (Node broke ∷ Node cleared ∷ [])
    (codes "The log of # clears the session up after its break, by a `leave` or its `gone`.") (Name cleared.node ∷ [])
    (codes "write no `leave` and no `gone` for what is cleared up after a break.")
row_of (TurnNotStored turn first again) = row (codes "turn-not-stored") (Node first ∷ Node again ∷ [])
    (codes "Two records take the session back as turn #; a log ends that turn, or the client has a recovery for each.") (Number turn ∷ [])
    (codes "store the turn with the session, and write the next one into its `back`.")
row_of (RecoveredTwice turn first again) = row (codes "recovered-twice") (Node first ∷ Node again ∷ [])
    (codes "Two nodes took the session back as turn #.") (Number turn ∷ [])
    (codes "take a stored session out of the store in one step, so that one node alone gets it.")
row_of (OpenedTwice first again) = row (codes "opened-twice") (Node first ∷ Node again ∷ [])
    (codes "The log of # has an `open` of the session, and that of # has another.") (Name first.node ∷ Name again.node ∷ [])
    (codes "give each session a pid of its own; see whether two taps have one node's log.")
row_of (OpenNotRecorded (Some first)) = row (codes "open-not-recorded") (Node first ∷ [])
    (codes "The log of # has records of the session, and no log has its `open`.") (Name first.node ∷ [])
    (codes "write an `open` when the session opens, unbuffered; look at how logs are rotated.")
row_of (OpenNotRecorded None) = row (codes "open-not-recorded") []
    (codes "No log has a record of the session, though a node is tapped: its `open` may be missing.") []
    (codes "write an `open` when the session opens, unbuffered; look at how logs are rotated.")
row_of (NodeNotTapped turn) = row (codes "node-not-tapped") []
    (codes "No node's log has the begin of turn #.") (Number turn ∷ [])
    (codes "tap each node, from its start.")
row_of (NoStart first) = row (codes "no-start") (Node first ∷ [])
    (codes "The log of # does not begin with a `start`.") (Name first.node ∷ [])
    (codes "begin a node's log with a `start`, when the node starts.")
row_of (RestartedInOldLog start) = row (codes "restarted-in-old-log") (Node start ∷ [])
    (codes "# started again in its old log.") (Name start.node ∷ [])
    (codes "begin a new log, of another name, each time that a node starts.")
row_of (EntriesSkippedByNode taken cursor position) = row (codes "entries-skipped-by-node") (Node taken ∷ [])
    (codes "# took entry # with its cursor at #.") (Name taken.node ∷ Number position ∷ Number cursor ∷ [])
    (codes "write a `take` for each entry before it is sent, unbuffered.")
row_of (EntryTakenAgain taken cursor position) = row (codes "entry-taken-again") (Node taken ∷ [])
    (codes "# took entry # again, with its cursor at #.") (Name taken.node ∷ Number position ∷ Number cursor ∷ [])
    (codes "let a node take each entry once, in the order of the stream.")
row_of (NotInStream taken) = row (codes "not-in-stream") (Node taken ∷ [])
    (codes "# names an entry that the stream's tap doesn't have.") (Name taken.node ∷ [])
    (codes "tap the stream before the nodes, and stop its tap after them.")
row_of (TwoTaps taps) = row (codes "two-taps") []
    (codes "# taps of clients name the session.") (Number taps ∷ [])
    (codes "keep one name of a tap for a client's whole life.")
row_of NoClientTap = row (codes "no-client-tap") []
    (codes "No tap of a client names the session.") []
    (codes "tap the client before its first connection.")
row_of (ReplyMissing client) = row (codes "reply-missing") []
    (codes "The tap of # has a CONNECT or events, and no reply that names their session.") (Name client ∷ [])
    (codes "begin a client's tap before its first packet, and record each answer to a CONNECT.")
row_of (ClientTapHasNoPackets client) = row (codes "client-tap-has-no-packets") []
    (codes "The first connection in the tap of # has no packet: it may be the session's.") (Name client ∷ [])
    (codes "begin to record a connection's packets before its first one; see why it ended.")
row_of (SidDiffers stay) = row (codes "sid-differs") (Reply stay ∷ [])
    (codes "The reply has another sid than the session was opened with.") []
    (codes "write the session's sid into the node's log, not that of the transport.")
row_of (NamespaceDiffers stay) = row (codes "namespace-differs") (Reply stay ∷ [])
    (codes "The reply is of another namespace than the session was opened in.") []
    (codes "write the namespace in which the session was opened.")
row_of (NotAPacket why) = row (codes "not-a-packet") (Bad ∷ [])
    (no_packet_words why) (no_packet_figures why)
    (advice why)
row_of (TapBeganLate stay) = row (codes "tap-began-late") (First stay ∷ [])
    (codes "Events came in a stay without a reply, and no session was asked for in it.") []
    (codes "begin a client's tap before its first packet.")
row_of (CutBeforeReply stay) = row (codes "cut-before-reply") (First stay ∷ [])
    (codes "The client asked for a session, and events came, but no reply did.") []
    (codes "nothing, where the client came back; else look at why the connection was cut.")
row_of (ReplyWithoutPid stay) = row (codes "reply-without-pid") (First stay ∷ [])
    (codes "The reply names no session: the server recovers none there.") []
    (codes "let the server recover sessions in this namespace.")
row_of (OutAfterAnswer answered stay) = row (codes "out-after-answer") (First answered ∷ First stay ∷ [])
    (codes "The namespace was answered before on this connection; the CONNECT may be recorded after its answer.") []
    (codes "record what the client sends before it is sent.")
row_of (SecondConnect answered stay) = row (codes "second-connect") (First answered ∷ First stay ∷ [])
    (codes "The namespace was answered before on this connection; the client may have sent a second CONNECT.") []
    (codes "connect to a namespace once, and not again while its session goes on.")
row_of (AfterDisconnect before stay) = row (codes "after-disconnect") (First before ∷ First stay ∷ [])
    (codes "Events came after a DISCONNECT from the namespace on this connection.") []
    (codes "record what a client takes in: nothing of a namespace after its DISCONNECT.")
row_of (SessionOver gone) = row (codes "session-over") (Node gone ∷ [])
    (codes "The log of # ends the session.") (Name gone.node ∷ [])
    (codes "keep a session that a client may come back to, for as long as it may.")
row_of (NodeEndedInTurn last) = row (codes "node-ended-in-turn") (Node last ∷ [])
    (codes "The log of # ends in the session's last turn.") (Name last.node ∷ [])
    (codes "see whether the node was killed: then it stored no session, and waiting can't help.")
row_of (NeverBroken begin) = row (codes "never-broken") (Node begin ∷ [])
    (codes "No log has a break of the session's last turn.") []
    (codes "let the client wait longer before it comes back, or the server notice a break sooner.")
row_of (AskedTooEarly broke begin high low) = row (codes "asked-too-early") (Node broke ∷ Node begin ∷ [])
    (codes "The session broke with its node's cursor at #; another was opened instead with the cursor at #.") (Number high ∷ Number low ∷ [])
    (codes "let the client wait longer before it comes back, or the server notice a break sooner.")

-- ---- the name of the cause

-- the name of the cause, for scripts
abbrev pub id_text : Cause → Text
id_text cause = (row_of cause).id
