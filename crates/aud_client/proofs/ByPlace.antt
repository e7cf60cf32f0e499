-- The received list by place, and the frames of the naming stays, stay after stay.
use Rattle.std.proofs.Common.{◌≡◌, ℕ, Bool, true, false, cond, List, [], ◌∷◌, ◌++◌, map, flat_map, refl, sym, ap, ◌∙◌, arith, inl, inr}
use Rattle.std.specs.List.{list_all}
use Rattle.std.specs.Str.{bytes_eq}
use Rattle.std.proofs.lemmas.Bool.{false≢true, cases_Bool, not-false, and_parts}
use Rattle.std.proofs.lemmas.List.{append_assoc, append-nil}
use Rattle.std.proofs.lemmas.List.Elements.{filter-append, filter_map-append}
use Rattle.std.proofs.lemmas.List.Folds.{list_all-append}
use Rattle.std.proofs.lemmas.List.Concat.{flat_map-append}
use Rattle.aud_tap.specs.declared.records.StreamRec.{StreamRec}
use Rattle.aud_tap.specs.declared.records.ClientRec.{ClientRec}
use Rattle.aud_node.specs.Stream.{Text}
use Rattle.aud_client.specs.TapPackets.{TapPacket, Connection, tap_packets}
use Rattle.aud_client.specs.Stays.{namespace, in_namespace, goes_on, whole_stay, stay_after, stay_at, begins_stay, stays_from, stays}
use Rattle.aud_client.specs.Open.{of_namespace}
use Rattle.aud_client.specs.StaySeen.{FrameSeen, StaySeen, stay_of, frame_of, frames_of}
use Rattle.aud_client.specs.Received.{connection_packets, stays_of, stay_names_pid, stays_naming, frames_by_stay, received_from, received_list, transcript_of, are_in_namespace}
use Rattle.aud_base.proofs.SameText.{same_text, itself_text}
use Rattle.aud_client.proofs.Places.{stay_after-same, stay_after-other, begins-in, of_stay_at}
use Rattle.aud_client.proofs.OnePass.{whole_stay-nil}
use Rattle.aud_client.proofs.Named.{stay_names}

-- what follows of the stay among the packets after, all of one namespace
abbrev pub rest_of : List TapPacket → List TapPacket → List TapPacket
rest_of stay [] = []
rest_of stay (q ∷ after) = cond (goes_on stay q) (q ∷ rest_of (stay ++ q ∷ []) after) []

-- a stay is its front and what follows of it
front_and_rest : (stay after : List TapPacket) → whole_stay stay after ≡ stay ++ rest_of stay after
front_and_rest stay [] = sym (append-nil stay)
front_and_rest stay (q ∷ after) = grind (arith, front_and_rest (stay ++ q ∷ []) after, append_assoc stay (q ∷ []) (rest_of (stay ++ q ∷ []) after), append-nil stay)

module _ (stream : List StreamRec) (pid n : Text) where
  -- the frames, if they are of a stay that names the session
  abbrev pub if_named : Bool → List TapPacket → List FrameSeen
  if_named b packets = cond b (frames_of stream packets) []

  -- the frames of a stay that names the session
  abbrev pub of_stay : List TapPacket → List FrameSeen
  of_stay stay = if_named (stay_names pid stay) stay

  -- the stay doesn't name the session, unless it is in the namespace
  abbrev pub fits : List TapPacket → Bool
  fits stay = cond (stay_names pid stay) (of_namespace n stay) true

  -- those packets after that are in the stay that stands open in the namespace, and the stays that begin after
  abbrev pub Goes : List TapPacket → List TapPacket → Type 0
  Goes before after =
      received_from stream pid before after
      ≡ if_named (stay_names pid (whole_stay (stay_after n before) (in_namespace n after))) (rest_of (stay_after n before) (in_namespace n after))
      ++ flat_map of_stay (stays_from before after)

  -- no stay that stands open in another namespace names the session
  abbrev pub OthersDont : List TapPacket → List TapPacket → Type 0
  OthersDont before after = (m : Text) → bytes_eq m n ≡ false → stay_names pid (whole_stay (stay_after m before) (in_namespace m after)) ≡ false

  -- no packets, no frames
  nothing : (b : Bool) → if_named b [] ≡ []
  nothing true = refl
  nothing false = refl

  -- the frames of a packet and of those that follow are the frames of all
  one_and_rest : (b : Bool) (q : TapPacket) (r : List TapPacket) (more : List FrameSeen)
      → if_named b (q ∷ []) ++ (if_named b r ++ more) ≡ if_named b (q ∷ r) ++ more
  one_and_rest true q r more =
      sym (append_assoc (frames_of stream (q ∷ [])) (frames_of stream r) more)
      ∙ ap (λ l. l ++ more) (sym (filter_map-append (frame_of stream) (q ∷ []) r))
  one_and_rest false q r more = refl

  -- ---- one packet

  -- a packet of the namespace, and one of another
  here : (m : Text) (q : TapPacket) (r : List TapPacket) → bytes_eq (namespace q) m ≡ true → in_namespace m (q ∷ r) ≡ q ∷ in_namespace m r
  here m q r is = ap (λ b. cond b (q ∷ in_namespace m r) (in_namespace m r)) is

  elsewhere : (m : Text) (q : TapPacket) (r : List TapPacket) → bytes_eq (namespace q) m ≡ false → in_namespace m (q ∷ r) ≡ in_namespace m r
  elsewhere m q r is = ap (λ b. cond b (q ∷ in_namespace m r) (in_namespace m r)) is

  -- the stays that begin at the packet or after it
  abbrev begin_at : (b : Bool) → List TapPacket → TapPacket → List TapPacket → List (List TapPacket)
  begin_at b before q r = cond b (stay_at before q r ∷ stays_from (before ++ q ∷ []) r) (stays_from (before ++ q ∷ []) r)

  -- the packet's stay stands open before it, where the packet goes on with it
  stands_open : (before : List TapPacket) (q : TapPacket) (r : List TapPacket) → begins_stay before q ≡ false
      → whole_stay (stay_after (namespace q) before) (in_namespace (namespace q) (q ∷ r)) ≡ stay_at before q r
  stands_open before q r goes =
      let m = namespace q in
      let on : goes_on (stay_after m before) q ≡ true = not-false _ goes in
      ap (whole_stay (stay_after m before)) (here m q r (itself_text m))
      ∙ ap (λ b. cond b (whole_stay (stay_after m before ++ q ∷ []) (in_namespace m r)) (stay_after m before)) on
      ∙ ap (λ s. whole_stay s (in_namespace m r))
      (sym (stay_after-same m before q (itself_text m) ∙ ap (λ b. cond b (stay_after m before ++ q ∷ []) (q ∷ [])) on))

  -- a stay that fits and is in another namespace names nobody
  unfit : (b : Bool) → cond b false true ≡ true → b ≡ false
  unfit true e = absurd (false≢true e)
  unfit false e = refl

  -- a packet of another namespace is in no stay that names the session
  other_dont : (before : List TapPacket) (q : TapPacket) (r : List TapPacket) → list_all fits (stays_from before (q ∷ r)) ≡ true → OthersDont before (q ∷ r)
      → bytes_eq (namespace q) n ≡ false → stay_names pid (stay_at before q r) ≡ false
  other_dont before q r fit others other = elim (cases_Bool (begins_stay before q)) [
    | inl starts ↦
        unfit _ (sym (ap (λ b. cond (stay_names pid (stay_at before q r)) b true) (of_stay_at n before q r starts ∙ other))
        ∙ (and_parts _ _ (sym (ap (λ b. list_all fits (begin_at b before q r)) starts) ∙ fit)).0)
    | inr goes ↦ ap (stay_names pid) (sym (stands_open before q r goes)) ∙ others (namespace q) other
  ]

  -- the stays that begin later fit too
  fit_after : (before : List TapPacket) (q : TapPacket) (r : List TapPacket) → list_all fits (stays_from before (q ∷ r)) ≡ true
      → list_all fits (stays_from (before ++ q ∷ []) r) ≡ true
  fit_after before q r fit =
      elim (begins_stay before q) as (λ b. list_all fits (begin_at b before q r) ≡ true → list_all fits (stays_from (before ++ q ∷ []) r) ≡ true) [ true ↦ λ e. (and_parts _ _ e).1 | false ↦ λ e. e ] fit

  -- after the packet, too, no stay open in another namespace names the session
  others_after : (before : List TapPacket) (q : TapPacket) (r : List TapPacket) → list_all fits (stays_from before (q ∷ r)) ≡ true → OthersDont before (q ∷ r)
      → OthersDont (before ++ q ∷ []) r
  others_after before q r fit others m other =
      grind (arith, other_dont before q r fit others, same_text (namespace q) m, stay_after-other m before q, elsewhere m q r, others m other)

  -- ---- the packet in front of those after

  -- a packet of another namespace gives nothing
  goes-other : (before : List TapPacket) (q : TapPacket) (r : List TapPacket) → bytes_eq (namespace q) n ≡ false
      → stay_names pid (stay_at before q r) ≡ false → Goes (before ++ q ∷ []) r → Goes before (q ∷ r)
  goes-other before q r other names_not ih = grind (arith, stay_after-other n before q, elsewhere n q r)

  -- a packet that goes on with the open stay gives its frame there
  goes-on : (before : List TapPacket) (q : TapPacket) (r : List TapPacket) → bytes_eq (namespace q) n ≡ true → goes_on (stay_after n before) q ≡ true
      → Goes (before ++ q ∷ []) r → Goes before (q ∷ r)
  goes-on before q r same on ih =
      grind (
        arith,
        stay_after-same n before q,
        same_text (namespace q) n,
        here n q r,
        begins-in n before q same,
        one_and_rest (stay_names pid (whole_stay (stay_after n before ++ q ∷ []) (in_namespace n r))) q (rest_of (stay_after n before ++ q ∷ []) (in_namespace n r)) (flat_map of_stay (stays_from (before ++ q ∷ []) r)),
      )

  -- a packet that begins a stay gives its frame in that stay
  goes-begins : (before : List TapPacket) (q : TapPacket) (r : List TapPacket) → bytes_eq (namespace q) n ≡ true → goes_on (stay_after n before) q ≡ false
      → Goes (before ++ q ∷ []) r → Goes before (q ∷ r)
  goes-begins before q r same starts ih =
      grind (
        arith,
        stay_after-same n before q,
        same_text (namespace q) n,
        here n q r,
        begins-in n before q same,
        front_and_rest (q ∷ []) (in_namespace n r),
        one_and_rest (stay_names pid (whole_stay (q ∷ []) (in_namespace n r))) q (rest_of (q ∷ []) (in_namespace n r)) (flat_map of_stay (stays_from (before ++ q ∷ []) r)),
      )

  -- packet after packet
  goes : (before after : List TapPacket) → list_all fits (stays_from before after) ≡ true → OthersDont before after → Goes before after
  goes before [] fit others = sym (ap (λ l. l ++ []) (nothing (stay_names pid (stay_after n before))))
  goes before (q ∷ r) fit others = elim (cases_Bool (bytes_eq (namespace q) n)) [
    | inr other ↦
        goes-other before q r other (other_dont before q r fit others other)
        (goes (before ++ q ∷ []) r (fit_after before q r fit) (others_after before q r fit others))
    | inl same ↦ elim (cases_Bool (goes_on (stay_after n before) q)) [
      | inl on ↦ goes-on before q r same on (goes (before ++ q ∷ []) r (fit_after before q r fit) (others_after before q r fit others))
      | inr starts ↦ goes-begins before q r same starts (goes (before ++ q ∷ []) r (fit_after before q r fit) (others_after before q r fit others))
    ]
  ]

  -- ---- a connection

  rest-nil : (m : List TapPacket) → rest_of [] m ≡ []
  rest-nil [] = refl
  rest-nil (q ∷ m) = refl

  -- all packets of a connection
  by_place : (l : List TapPacket) → list_all fits (stays l) ≡ true → received_from stream pid [] l ≡ flat_map of_stay (stays l)
  by_place l fit =
      goes [] l fit (λ m other. ap (stay_names pid) (whole_stay-nil (in_namespace m l)))
      ∙ ap (λ x. if_named (stay_names pid (whole_stay [] (in_namespace n l))) x ++ flat_map of_stay (stays l)) (rest-nil (in_namespace n l))
      ∙ ap (λ x. x ++ flat_map of_stay (stays l)) (nothing (stay_names pid (whole_stay [] (in_namespace n l))))

  -- the frames by stay, over what the stays tell
  by_stay : (c : ℕ) (ss : List (List TapPacket)) → flat_map of_stay ss ≡ frames_by_stay pid (map (stay_of stream c) ss)
  by_stay c [] = refl
  by_stay c (s ∷ ss) = grind (arith, by_stay c ss)

  -- where the naming stays are in the namespace, all stays fit
  fit : (c : ℕ) (ss : List (List TapPacket)) → are_in_namespace n (stays_naming pid (map (stay_of stream c) ss)) ≡ true → list_all fits ss ≡ true
  fit c [] e = refl
  fit c (s ∷ ss) e = grind (arith, fit c ss)

  -- ---- a tap

  -- the frames by stay, of two lists of stays
  joined_frames : (ss us : List StaySeen) → frames_by_stay pid (ss ++ us) ≡ frames_by_stay pid ss ++ frames_by_stay pid us
  joined_frames ss us = ap (flat_map (λ (stay : StaySeen). stay.frames)) (filter-append (stay_names_pid pid) ss us) ∙ flat_map-append (λ (stay : StaySeen). stay.frames) (stays_naming pid ss) (stays_naming pid us)

  -- connection after connection
  of_connections : (connections : List Connection) → are_in_namespace n (stays_naming pid (flat_map (stays_of stream) connections)) ≡ true
      → flat_map (λ (connection : Connection). received_from stream pid [] (connection_packets connection)) connections ≡ frames_by_stay pid (flat_map (stays_of stream) connections)
  of_connections [] e = refl
  of_connections (connection ∷ connections) e =
      let after = flat_map (stays_of stream) connections in
      let parts =
      and_parts (are_in_namespace n (stays_naming pid (stays_of stream connection))) (are_in_namespace n (stays_naming pid after))
      (sym (ap (are_in_namespace n) (filter-append (stay_names_pid pid) (stays_of stream connection) after)
      ∙ list_all-append (λ (stay : StaySeen). bytes_eq stay.nsp n) (stays_naming pid (stays_of stream connection)) (stays_naming pid after))
      ∙ e) in
      ap (λ l. l ++ flat_map (λ (c : Connection). received_from stream pid [] (connection_packets c)) connections)
      (by_place (connection_packets connection) (fit connection.c (stays (connection_packets connection)) parts.0) ∙ by_stay connection.c (stays (connection_packets connection)))
      ∙ ap (λ l. frames_by_stay pid (stays_of stream connection) ++ l) (of_connections connections parts.1)
      ∙ sym (joined_frames (stays_of stream connection) after)

-- the law
pub received_by_stays : (stream : List StreamRec) (recs : List ClientRec) (pid nsp : Text) → are_in_namespace nsp (stays_naming pid (transcript_of stream recs).stays) ≡ true
    → received_list stream recs pid ≡ frames_by_stay pid (transcript_of stream recs).stays
received_by_stays stream recs pid nsp e = of_connections stream pid nsp (tap_packets recs).connections e
