-- Which events came to a client: by the frames of its stays, and by its packets.
use Rattle.std.proofs.Common.{◌≡◌, ℕ, suc, Bool, true, false, cond, ◌||◌, List, [], ◌∷◌, ◌++◌, map, Option, Some, None, nat_eq, bytes_eq, refl, sym, ap, subst, ◌∙◌, arith, append_assoc, append-nil}
use Rattle.std.specs.List.{list_any, cons_option}
use Rattle.std.specs.Option.{option_map, option_and_then}
use Rattle.std.proofs.lemmas.Bool.{false≢true, eq-eqb, ne_eqb}
use Rattle.std.proofs.lemmas.Option.{none-some, same_Some}
use Rattle.std.proofs.lemmas.List.Folds.{list_any-append}
use Rattle.aud_tap.specs.Forms.{passing}
use Rattle.aud_tap.specs.declared.records.StreamRec.{StreamRec}
use Rattle.aud_tap.specs.declared.records.ClientRec.{ClientRec}
use Rattle.aud_tap.specs.declared.taps.Records.TheVariants.{Client}
use Rattle.aud_base.proofs.Lists.{any-map}
use Rattle.aud_base.proofs.SameText.{same_text, itself_text}
use Rattle.aud_base.proofs.Truth.{or_none}
use Rattle.aud_node.specs.Stream.{Text, offset_of, position}
use Rattle.aud_node.specs.AtPosition.{is_recoverable_at}
use Rattle.aud_client.specs.TapPackets.{TapPacket, FromServer, FromClient, Connection, tap_packets}
use Rattle.aud_client.specs.Replies.{is_this}
use Rattle.aud_client.specs.Stays.{namespace, begins_stay, stays}
use Rattle.aud_client.specs.Open.{has_stay}
use Rattle.aud_client.specs.StaySeen.{FrameSeen, frame_of, frame_at, frames_of, offset_in, recoverable_position, stay_of}
use Rattle.aud_client.specs.Received.{connection_packets, stays_of}
use Rattle.aud_client.proofs.OnePass.{grow, last_in, last_in-none, last_in-stays, stays-begins, stays-goes_on}
use Rattle.aud_parts.specs.MadeOther.{is_event_of, has_event_of, tell_event}
use Rattle.aud_parts.specs.ClientFacts.{is_one_of, has_frame_at, has_come_at}
use Rattle.aud_parts.proofs.ListSteps.{any-flat_map}

-- ---- packets, and the stays that they form

-- any of the stays, where the last one of the namespace grows
any-grow : (test : List TapPacket → Bool) (b : Bool) (n : Text) (p : TapPacket) (ss : List (List TapPacket)) → has_stay n ss ≡ true
    → test (last_in n ss ++ p ∷ []) ≡ (test (last_in n ss) || b) → list_any test (grow n p ss) ≡ (list_any test ss || b)
any-grow test b n p [] some e = absurd (false≢true some)
any-grow test b n p (s ∷ ss) some e = grind (arith, any-grow test b n p ss)

-- where a packet goes on with a stay, there is one
has-goes_on : (l : List TapPacket) (p : TapPacket) → begins_stay l p ≡ false → has_stay (namespace p) (stays l) ≡ true
has-goes_on l p e = grind (arith, last_in-stays (namespace p) l, last_in-none (namespace p) (stays l))

module _ (test : TapPacket → Bool) where
  -- the packets of the stays pass where the packets do
  abbrev AnyAlike : List TapPacket → Type 0
  AnyAlike l = list_any (list_any test) (stays l) ≡ list_any test l

  -- with one packet more
  any-push : (l : List TapPacket) (p : TapPacket) → list_any test (l ++ p ∷ []) ≡ (list_any test l || test p)
  any-push l p = list_any-append test l (p ∷ []) ∙ ap (λ b. list_any test l || b) (or_none (test p))

  one_more : (l : List TapPacket) (p : TapPacket) → AnyAlike l → AnyAlike (l ++ p ∷ [])
  one_more l p ih = go (begins_stay l p) refl
    where
      go : (b : Bool) → begins_stay l p ≡ b → AnyAlike (l ++ p ∷ [])
      go true e =
          ap (list_any (list_any test)) (stays-begins [] l p e)
          ∙ list_any-append (list_any test) (stays l) ((p ∷ []) ∷ [])
          ∙ ap (λ b. b || ((test p || false) || false)) ih
          ∙ ap (λ b. list_any test l || b) (or_none (test p || false) ∙ or_none (test p)) ∙ sym (any-push l p)
      go false e =
          ap (list_any (list_any test)) (stays-goes_on [] l p e)
          ∙ any-grow (list_any test) (test p) (namespace p) p (stays l) (has-goes_on l p e) (any-push (last_in (namespace p) (stays l)) p)
          ∙ ap (λ b. b || test p) ih ∙ sym (any-push l p)

  all_more : (done after : List TapPacket) → AnyAlike done → AnyAlike (done ++ after)
  all_more done [] ih = subst AnyAlike (sym (append-nil done)) ih
  all_more done (p ∷ after) ih = subst AnyAlike (append_assoc done (p ∷ []) after) (all_more (done ++ p ∷ []) after (one_more done p ih))

  -- all packets of a connection
  any_alike : (l : List TapPacket) → AnyAlike l
  any_alike l = all_more [] l refl

-- ---- frames

-- there is a frame, and it has the position
abbrev is_frame_at : ℕ → Option FrameSeen → Bool
is_frame_at place None = false
is_frame_at place (Some frame) = nat_eq place frame.position

-- the frames of packets
frames-any : (stream : List StreamRec) (place : ℕ) (packets : List TapPacket)
    → is_one_of (map (λ (frame : FrameSeen). frame.position) (frames_of stream packets)) place ≡ list_any (λ packet. is_frame_at place (frame_of stream packet)) packets
frames-any stream place [] = refl
frames-any stream place (packet ∷ packets) = go (frame_of stream packet) (frames-any stream place packets)
  where
    go : (o : Option FrameSeen) → is_one_of (map (λ (frame : FrameSeen). frame.position) (frames_of stream packets)) place ≡ list_any (λ packet. is_frame_at place (frame_of stream packet)) packets
        → is_one_of (map (λ (frame : FrameSeen). frame.position) (cons_option o (frames_of stream packets))) place
        ≡ (is_frame_at place o || list_any (λ packet. is_frame_at place (frame_of stream packet)) packets)
    go None rest = rest
    go (Some frame) rest = ap (λ b. nat_eq place frame.position || b) rest

-- positions count from 1
never_zero : (stream : List StreamRec) (off : Text) → position stream off ≡ Some 0 → ⊥
never_zero [] off e = none-some 0 e
never_zero (entry ∷ stream) off e = go (bytes_eq (offset_of entry) off) (position stream off) e
  where
    go : (b : Bool) (o : Option ℕ) → cond b (Some 1) (option_map suc o) ≡ Some 0 → ⊥
    go true o e = (let no : 1 ≡ 0 = same_Some 1 0 e in omega (arith, no))
    go false None e = none-some 0 e
    go false (Some n) e = (let no : suc n ≡ 0 = same_Some (suc n) 0 e in omega (arith, no))

-- what is found at one position has one offset
one_offset : (stream : List StreamRec) (off other : Text) (place : ℕ) → position stream off ≡ Some place → position stream other ≡ Some place → off ≡ other
one_offset [] off other place here there = absurd (none-some place here)
one_offset (entry ∷ stream) off other place here there =
    go (bytes_eq (offset_of entry) off) refl (bytes_eq (offset_of entry) other) refl (position stream off) refl (position stream other) refl here there (one_offset stream off other)
  where
    go : (b : Bool) → bytes_eq (offset_of entry) off ≡ b → (v : Bool) → bytes_eq (offset_of entry) other ≡ v → (o : Option ℕ) → position stream off ≡ o → (q : Option ℕ) → position stream other ≡ q
        → cond b (Some 1) (option_map suc o) ≡ Some place → cond v (Some 1) (option_map suc q) ≡ Some place
        → ((place : ℕ) → position stream off ≡ Some place → position stream other ≡ Some place → off ≡ other) → off ≡ other
    go true e true f o at q et here there ih = sym (same_text (offset_of entry) off e) ∙ same_text (offset_of entry) other f
    go true e false f o at None et here there ih = absurd (none-some place there)
    go true e false f o at (Some n) et here there ih =
        absurd (let zero : n ≡ 0 = (let a = same_Some 1 place here in let b = same_Some (suc n) place there in omega (arith, a, b)) in never_zero stream other (et ∙ ap Some zero))
    go false e true f None at q et here there ih = absurd (none-some place here)
    go false e true f (Some n) at q et here there ih =
        absurd (let zero : n ≡ 0 = (let a = same_Some (suc n) place here in let b = same_Some 1 place there in omega (arith, a, b)) in never_zero stream off (at ∙ ap Some zero))
    go false e false f None at q et here there ih = absurd (none-some place here)
    go false e false f (Some n) at None et here there ih = absurd (none-some place there)
    go false e false f (Some n) at (Some m) et here there ih =
        let same : m ≡ n = (let a = same_Some (suc n) place here in let b = same_Some (suc m) place there in omega (arith, a, b)) in
        ih n at (et ∙ ap Some same)

module _ (stream : List StreamRec) (off : Text) (place : ℕ) (found : position stream off ≡ Some place) (kept : is_recoverable_at stream place ≡ true) where
  -- a packet is a frame of the entry where it is an event that ends in its offset
  frame-event : (packet : TapPacket) → is_frame_at place (frame_of stream packet) ≡ is_event_of off packet
  frame-event (FromClient packet) = refl
  frame-event (FromServer whole) = go (offset_in whole.packet)
    where
      at_place : (other : Text) (b : Bool) → bytes_eq other off ≡ b → is_frame_at place (option_map (frame_at whole) (recoverable_position stream other)) ≡ b
      at_place other true e =
          ap (λ o. is_frame_at place (option_map (frame_at whole) (option_and_then (passing (is_recoverable_at stream)) o))) (ap (position stream) (same_text other off e) ∙ found)
          ∙ ap (λ b. is_frame_at place (option_map (frame_at whole) (cond b (Some place) None))) kept
          ∙ eq-eqb place place refl
      at_place other false e = look (position stream other) refl
        where
          look : (o : Option ℕ) → position stream other ≡ o → is_frame_at place (option_map (frame_at whole) (option_and_then (passing (is_recoverable_at stream)) o)) ≡ false
          look None at = refl
          look (Some q) at = pass (is_recoverable_at stream q)
            where
              unlike : place ≡ q → ⊥
              unlike same = false≢true (sym e ∙ ap (λ t. bytes_eq t off) (one_offset stream other off q at (found ∙ ap Some same)) ∙ itself_text off)

              pass : (b : Bool) → is_frame_at place (option_map (frame_at whole) (cond b (Some q) None)) ≡ false
              pass true = ne_eqb place q unlike
              pass false = refl

      go : (o : Option Text) → is_frame_at place (option_map (frame_at whole) (option_and_then (recoverable_position stream) o)) ≡ is_this off o
      go None = refl
      go (Some other) = at_place other (bytes_eq other off) refl

  -- ---- a connection, and a tap

  -- a stay has a frame of the entry where a packet of it is such an event
  stay-event : (c : ℕ) (stay : List TapPacket) → has_frame_at place (stay_of stream c stay) ≡ list_any (is_event_of off) stay
  stay-event c stay = frames-any stream place stay ∙ ap (λ test. list_any test stay) (λ i packet. frame-event packet i)

  connection-event : (connection : Connection) → list_any (has_frame_at place) (stays_of stream connection) ≡ has_event_of off connection
  connection-event connection =
      any-map (has_frame_at place) (stay_of stream connection.c) (stays (connection_packets connection))
      ∙ ap (λ test. list_any test (stays (connection_packets connection))) (λ i stay. stay-event connection.c stay i)
      ∙ any_alike (is_event_of off) (connection_packets connection)
      ∙ any-map (is_event_of off) (λ (placed : ℕ × TapPacket). placed.1) connection.packets

  -- so has a tap
  pub came_by_packets : (recs : List ClientRec) → has_come_at stream recs place ≡ tell_event off (Client recs)
  came_by_packets recs =
      any-flat_map (has_frame_at place) (stays_of stream) (tap_packets recs).connections
      ∙ ap (λ test. list_any test (tap_packets recs).connections) (λ i connection. connection-event connection i)
