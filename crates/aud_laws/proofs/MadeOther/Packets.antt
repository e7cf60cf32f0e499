-- The packets of stays are the connection's, and what such packets tell over two streams that are alike for them.
use Rattle.std.proofs.Common.{◌≡◌, cond, ℕ, Bool, not, ◌||◌, List, [], ◌∷◌, ◌++◌, map, flat_map, Option, Some, None, refl, ap, ◌∙◌, bytes_eq}
use Rattle.std.specs.List.{All, cons_option}
use Rattle.std.proofs.lemmas.Bool.{cond_both}
use Rattle.std.proofs.lemmas.List.Elements.{All-head, All-tail, All-nil, All-cons, All-append}
use Rattle.aud_tap.specs.declared.records.StreamRec.{StreamRec}
use Rattle.aud_tap.specs.declared.records.ClientRec.{ClientRec}
use Rattle.aud_node.specs.Stream.{Text, entry}
use Rattle.aud_client.specs.TapPackets.{TapPacket, Connection, tap_packets}
use Rattle.aud_client.specs.Replies.{reply_names}
use Rattle.aud_client.specs.Stays.{namespace, in_namespace, goes_on, whole_stay, last_stay, stay_after, stay_at, begins_stay, stays_from, stays}
use Rattle.aud_client.specs.Entries.{has_altered, is_of}
use Rattle.aud_client.specs.StaySeen.{FrameSeen, StaySeen, frame_of, frames_of, stay_of, namespace_of, reply_of, asked_of}
use Rattle.aud_client.specs.Received.{connection_packets, stays_of, tap_stays, frames_at, received_from, received_list}

-- ---- each packet of a stay is one of the connection's

module _ (P : TapPacket → Type 0) where
  whole-all : (s l : List TapPacket) → All P s → All P l → All P (whole_stay s l)
  whole-all s [] hs hl = hs
  whole-all s (q ∷ l) hs hl =
      cond_both (goes_on s q) (whole_stay (s ++ q ∷ []) l) s (All P)
      (λ on. whole-all (s ++ q ∷ []) l (All-append P s (q ∷ []) hs (All-cons P q [] (All-head P q l hl) (All-nil P))) (All-tail P q l hl)) (λ off. hs)

  last-all : (s l : List TapPacket) → All P s → All P l → All P (last_stay s l)
  last-all s [] hs hl = hs
  last-all s (q ∷ l) hs hl =
      let one = All-cons P q [] (All-head P q l hl) (All-nil P) in
      last-all (cond (goes_on s q) (s ++ q ∷ []) (q ∷ [])) l
      (cond_both (goes_on s q) (s ++ q ∷ []) (q ∷ []) (All P) (λ on. All-append P s (q ∷ []) hs one) (λ off. one)) (All-tail P q l hl)

  in-all : (n : Text) (l : List TapPacket) → All P l → All P (in_namespace n l)
  in-all n [] h = All-nil P
  in-all n (q ∷ l) h =
      let rest = in-all n l (All-tail P q l h) in
      cond_both (bytes_eq (namespace q) n) (q ∷ in_namespace n l) (in_namespace n l) (All P) (λ is. All-cons P q (in_namespace n l) (All-head P q l h) rest) (λ other. rest)

  at-all : (before : List TapPacket) (q : TapPacket) (after : List TapPacket) → All P (before ++ q ∷ []) → All P after → All P (stay_at before q after)
  at-all before q after hb ha =
      let n = namespace q in
      whole-all (stay_after n (before ++ q ∷ [])) (in_namespace n after) (last-all [] (in_namespace n (before ++ q ∷ [])) (All-nil P) (in-all n (before ++ q ∷ []) hb)) (in-all n after ha)

  from-all : (before after : List TapPacket) → All P before → All P after → All (All P) (stays_from before after)
  from-all before [] hb ha = All-nil (All P)
  from-all before (q ∷ after) hb ha =
      let more = All-append P before (q ∷ []) hb (All-cons P q [] (All-head P q after ha) (All-nil P)) in
      let tail = All-tail P q after ha in
      let rest = from-all (before ++ q ∷ []) after more tail in
      cond_both (begins_stay before q) (stay_at before q after ∷ stays_from (before ++ q ∷ []) after) (stays_from (before ++ q ∷ []) after) (All (All P))
      (λ begins. All-cons (All P) (stay_at before q after) (stays_from (before ++ q ∷ []) after) (at-all before q after more tail) rest) (λ goes. rest)

-- ---- what they tell

module _ (stream other : List StreamRec) where
  -- the frame that the packet is stays, and the entry at its position
  pub record IsSeenAlike (packet : TapPacket) : Type 0 where
    pub frame_is : frame_of other packet ≡ frame_of stream packet
    pub entry_is : (frame : FrameSeen) → frame_of stream packet ≡ Some frame → entry other frame.position ≡ entry stream frame.position

  -- the entry at the frame's position stays
  abbrev pub HasSameEntry : FrameSeen → Type 0
  HasSameEntry frame = entry other frame.position ≡ entry stream frame.position

  -- what the tap tells of a session stays, and the entries at the positions of its frames
  pub record TellsAlike (recs : List ClientRec) : Type 0 where
    pub stays_are : tap_stays other recs ≡ tap_stays stream recs
    pub frames_are : (pid : Text) → received_list other recs pid ≡ received_list stream recs pid
    pub entries_are : (pid : Text) → All HasSameEntry (received_list stream recs pid)

  frames-same : (packets : List TapPacket) → All IsSeenAlike packets → frames_of other packets ≡ frames_of stream packets
  frames-same [] all = refl
  frames-same (p ∷ ps) all =
      ap (λ f. cons_option f (frames_of other ps)) (All-head IsSeenAlike p ps all).frame_is
      ∙ ap (cons_option (frame_of stream p)) (frames-same ps (All-tail IsSeenAlike p ps all))

  -- whether one of the frames isn't its entry stays, with a frame more
  altered-one : (o : Option FrameSeen) (fs : List FrameSeen) → ((frame : FrameSeen) → o ≡ Some frame → HasSameEntry frame)
      → has_altered other fs ≡ has_altered stream fs → has_altered other (cons_option o fs) ≡ has_altered stream (cons_option o fs)
  altered-one None fs same rest = rest
  altered-one (Some frame) fs same rest =
      ap (λ e. not (is_of frame e) || has_altered other fs) (same frame refl)
      ∙ ap (λ b. not (is_of frame (entry stream frame.position)) || b) rest

  altered-same : (packets : List TapPacket) → All IsSeenAlike packets → has_altered other (frames_of stream packets) ≡ has_altered stream (frames_of stream packets)
  altered-same [] all = refl
  altered-same (p ∷ ps) all =
      altered-one (frame_of stream p) (frames_of stream ps) (All-head IsSeenAlike p ps all).entry_is (altered-same ps (All-tail IsSeenAlike p ps all))

  abbrev told : ℕ → List TapPacket → List FrameSeen → Bool → StaySeen
  told c stay frames altered =
      record { c = c; nsp = namespace_of stay; reply = reply_of stay; asked = asked_of stay; frames = frames; altered = altered }

  stay-same : (c : ℕ) (stay : List TapPacket) → All IsSeenAlike stay → stay_of other c stay ≡ stay_of stream c stay
  stay-same c stay all =
      ap (λ fs. told c stay fs (has_altered other fs)) (frames-same stay all)
      ∙ ap (told c stay (frames_of stream stay)) (altered-same stay all)

  each-same : (c : ℕ) (ss : List (List TapPacket)) → All (All IsSeenAlike) ss → map (stay_of other c) ss ≡ map (stay_of stream c) ss
  each-same c [] all = refl
  each-same c (s ∷ ss) all =
      ap (λ x. x ∷ map (stay_of other c) ss) (stay-same c s (All-head (All IsSeenAlike) s ss all))
      ∙ ap (λ xs. stay_of stream c s ∷ xs) (each-same c ss (All-tail (All IsSeenAlike) s ss all))

  -- what is received where a packet is a frame
  one-entries : (p : TapPacket) → IsSeenAlike p → All HasSameEntry (frames_of stream (p ∷ []))
  one-entries p alike = go (frame_of stream p) alike.entry_is
    where
      go : (o : Option FrameSeen) → ((frame : FrameSeen) → o ≡ Some frame → HasSameEntry frame) → All HasSameEntry (cons_option o [])
      go None same = All-nil HasSameEntry
      go (Some frame) same = All-cons HasSameEntry frame [] (same frame refl) (All-nil HasSameEntry)

  module _ (pid : Text) where
    from-same : (before after : List TapPacket) → All IsSeenAlike after → received_from other pid before after ≡ received_from stream pid before after
    from-same before [] all = refl
    from-same before (p ∷ after) all =
        ap (λ f. cond (reply_names pid (reply_of (stay_at before p after))) (cons_option f []) [] ++ received_from other pid (before ++ p ∷ []) after) (All-head IsSeenAlike p after all).frame_is
        ∙ ap (λ fs. frames_at stream pid before p after ++ fs) (from-same (before ++ p ∷ []) after (All-tail IsSeenAlike p after all))

    from-entries : (before after : List TapPacket) → All IsSeenAlike after → All HasSameEntry (received_from stream pid before after)
    from-entries before [] all = All-nil HasSameEntry
    from-entries before (p ∷ after) all =
        All-append HasSameEntry (frames_at stream pid before p after) (received_from stream pid (before ++ p ∷ []) after)
        (cond_both (reply_names pid (reply_of (stay_at before p after))) (frames_of stream (p ∷ [])) [] (All HasSameEntry) (λ names. one-entries p (All-head IsSeenAlike p after all)) (λ no. All-nil HasSameEntry))
        (from-entries (before ++ p ∷ []) after (All-tail IsSeenAlike p after all))

  -- connection after connection
  abbrev pub ConnectionAlike : Connection → Type 0
  ConnectionAlike connection = All IsSeenAlike (connection_packets connection)

  stays-same : (cs : List Connection) → All ConnectionAlike cs → flat_map (stays_of other) cs ≡ flat_map (stays_of stream) cs
  stays-same [] all = refl
  stays-same (c ∷ cs) all =
      ap (λ xs. xs ++ flat_map (stays_of other) cs) (each-same c.c (stays (connection_packets c)) (from-all IsSeenAlike [] (connection_packets c) (All-nil IsSeenAlike) (All-head ConnectionAlike c cs all)))
      ∙ ap (λ xs. stays_of stream c ++ xs) (stays-same cs (All-tail ConnectionAlike c cs all))

  received-same : (pid : Text) (cs : List Connection) → All ConnectionAlike cs
      → flat_map (λ (c : Connection). received_from other pid [] (connection_packets c)) cs ≡ flat_map (λ (c : Connection). received_from stream pid [] (connection_packets c)) cs
  received-same pid [] all = refl
  received-same pid (c ∷ cs) all =
      ap (λ fs. fs ++ flat_map (λ (x : Connection). received_from other pid [] (connection_packets x)) cs) (from-same pid [] (connection_packets c) (All-head ConnectionAlike c cs all))
      ∙ ap (λ fs. received_from stream pid [] (connection_packets c) ++ fs) (received-same pid cs (All-tail ConnectionAlike c cs all))

  received-entries : (pid : Text) (cs : List Connection) → All ConnectionAlike cs → All HasSameEntry (flat_map (λ (c : Connection). received_from stream pid [] (connection_packets c)) cs)
  received-entries pid [] all = All-nil HasSameEntry
  received-entries pid (c ∷ cs) all =
      All-append HasSameEntry (received_from stream pid [] (connection_packets c)) (flat_map (λ (x : Connection). received_from stream pid [] (connection_packets x)) cs)
      (from-entries pid [] (connection_packets c) (All-head ConnectionAlike c cs all)) (received-entries pid cs (All-tail ConnectionAlike c cs all))

  -- a tap whose packets are seen alike
  pub tells_alike : (recs : List ClientRec) → All ConnectionAlike (tap_packets recs).connections → TellsAlike recs
  tells_alike recs all =
      let cs = (tap_packets recs).connections in
      record { stays_are = stays-same cs all; frames_are = λ pid. received-same pid cs all; entries_are = λ pid. received-entries pid cs all }
