-- What is known of a stay with one packet more.
use Rattle.std.proofs.Common.{◌≡◌, ℕ, Bool, true, false, not, ◌||◌, List, [], ◌∷◌, ◌++◌, refl, sym, ap, ◌∙◌, arith, Option, Some, None, is_some}
use Rattle.std.specs.List.{list_any, filter_map, cons_option}
use Rattle.std.specs.Option.{option_or}
use Rattle.std.proofs.lemmas.Bool.{false≢true}
use Rattle.std.proofs.lemmas.List.{append-nil}
use Rattle.std.proofs.lemmas.List.Elements.{filter_map-append}
use Rattle.std.proofs.lemmas.List.Folds.{list_any-append}
use Rattle.aud_base.proofs.Options.{or_none}
use Rattle.aud_tap.specs.declared.records.StreamRec.{StreamRec}
use Rattle.aud_node.specs.Stream.{Text}
use Rattle.aud_client.specs.TapPackets.{TapPacket, FromServer, FromClient}
use Rattle.aud_client.specs.Replies.{ReplySeen}
use Rattle.aud_client.specs.Stays.{namespace, is_connect, is_reply, goes_on}
use Rattle.aud_client.specs.StaySeen.{AskedSeen, FrameSeen, StaySeen, stay_of, reply_at, reply_of, before_reply, ask_of, last_of, asked_of, frame_of, frames_of}
use Rattle.aud_client.specs.Entries.{has_altered, is_entry}
use Rattle.aud_client.specs.Private.Kept.{empty_stay, grown}

-- ---- one packet

-- a packet that is no reply tells none
pub no_reply_at : (p : TapPacket) → is_reply p ≡ false → reply_at p ≡ None
no_reply_at (FromClient packet) e = refl
no_reply_at (FromServer whole) e = grind arith

-- a reply tells one
pub reply_at-some : (p : TapPacket) → is_reply p ≡ true → is_some (reply_at p) ≡ true
reply_at-some (FromClient packet) e = grind arith
reply_at-some (FromServer whole) e = grind arith

-- a reply asks for nothing, nor does what is no CONNECT
pub no_ask-reply : (p : TapPacket) → is_reply p ≡ true → ask_of p ≡ None
no_ask-reply (FromServer whole) e = refl
no_ask-reply (FromClient packet) e = grind arith

no_ask : (p : TapPacket) → is_connect p ≡ false → ask_of p ≡ None
no_ask (FromServer whole) e = refl
no_ask (FromClient packet) e = grind arith

-- ---- a stay, and one packet more

-- stays that tell the same
same_stays : (c : ℕ) (n : Text) (r u : Option ReplySeen) (a b : Option AskedSeen) (f g : List FrameSeen) (d e : Bool) → r ≡ u → a ≡ b → f ≡ g → d ≡ e
    → ◌≡◌ {A = StaySeen} (record { c = c; nsp = n; reply = r; asked = a; frames = f; altered = d }) (record { c = c; nsp = n; reply = u; asked = b; frames = g; altered = e })
same_stays c n r u a b f g d e q v w x = λ i. record { c = c; nsp = n; reply = q i; asked = v i; frames = w i; altered = x i }

-- the frames, and whether one of them is altered, with one packet more
frames-more : (stream : List StreamRec) (s : List TapPacket) (p : TapPacket) → frames_of stream (s ++ p ∷ []) ≡ frames_of stream s ++ cons_option (frame_of stream p) []
frames-more stream s p = filter_map-append (frame_of stream) s (p ∷ [])

altered-more : (stream : List StreamRec) (s : List TapPacket) (p : TapPacket)
    → has_altered stream (frames_of stream (s ++ p ∷ [])) ≡ (has_altered stream (frames_of stream s) || has_altered stream (cons_option (frame_of stream p) []))
altered-more stream s p =
    ap (has_altered stream) (frames-more stream s p) ∙ list_any-append (λ frame. not (is_entry stream frame)) (frames_of stream s) (cons_option (frame_of stream p) [])

-- the last, with one more
last_of-more : (xs : List AskedSeen) (y : AskedSeen) → last_of (xs ++ y ∷ []) ≡ Some y
last_of-more [] y = refl
last_of-more (x ∷ []) y = refl
last_of-more (x ∷ z ∷ zs) y = last_of-more (z ∷ zs) y

-- of one packet alone
pub reply_of-one : (p : TapPacket) → reply_of (p ∷ []) ≡ reply_at p
reply_of-one p = grind (arith, no_reply_at p)

-- a stay has a reply where a packet is one
pub has_reply : (s : List TapPacket) → is_some (reply_of s) ≡ list_any is_reply s
has_reply [] = refl
has_reply (x ∷ xs) = grind (arith, has_reply xs, reply_at-some x)

-- after the reply, packets change neither it nor what is in front of it
pub replied : (s x : List TapPacket) → list_any is_reply s ≡ true → (reply_of (s ++ x) ≡ reply_of s) × (before_reply (s ++ x) ≡ before_reply s)
replied [] x e = absurd (false≢true e)
replied (y ∷ ys) x e = grind (arith, replied ys x)

-- without a reply so far, those of the packets that follow count
pub unreplied : (s x : List TapPacket) → list_any is_reply s ≡ false → (reply_of (s ++ x) ≡ reply_of x) × (before_reply (s ++ x) ≡ s ++ before_reply x)
unreplied [] x e = (refl, refl)
unreplied (y ∷ ys) x e = grind (arith, unreplied ys x)

pub none_yet : (s : List TapPacket) → list_any is_reply s ≡ false → reply_of s ≡ None
none_yet s none = sym (ap reply_of (append-nil s)) ∙ (unreplied s [] none).0

asked-more : (s : List TapPacket) (p : TapPacket) (o : Option AskedSeen) → ask_of p ≡ o → last_of (filter_map ask_of (s ++ p ∷ [])) ≡ option_or o (last_of (filter_map ask_of s))
asked-more s p None e = ap last_of (filter_map-append ask_of s (p ∷ []) ∙ ap (λ o. filter_map ask_of s ++ cons_option o []) e ∙ append-nil _)
asked-more s p (Some x) e = ap last_of (filter_map-append ask_of s (p ∷ []) ∙ ap (λ o. filter_map ask_of s ++ cons_option o []) e) ∙ last_of-more (filter_map ask_of s) x

-- a packet after packets without a reply, itself in front of the reply or the reply
asked-after : (s : List TapPacket) (p : TapPacket) → last_of (filter_map ask_of (s ++ before_reply (p ∷ []))) ≡ option_or (ask_of p) (last_of (filter_map ask_of s))
asked-after s p = grind (arith, asked-more s p (ask_of p) refl, no_ask-reply p, append-nil s)

-- a stay of one packet
pub stay_of-first : (stream : List StreamRec) (c : ℕ) (p : TapPacket) → stay_of stream c (p ∷ []) ≡ grown stream (empty_stay c (namespace p)) p
stay_of-first stream c p =
    same_stays c (namespace p) _ _ _ _ _ _ _ _ (reply_of-one p ∙ sym (or_none (reply_at p))) (asked-after [] p) (frames-more stream [] p) (altered-more stream [] p)

-- after a reply no CONNECT goes on
pub no_connect : (s : List TapPacket) (p : TapPacket) → goes_on s p ≡ true → list_any is_reply s ≡ true → is_connect p ≡ false
no_connect [] p e some = absurd (false≢true e)
no_connect (x ∷ xs) p e some = grind arith

-- the reply and what was asked, with one packet more
reply-more : (s : List TapPacket) (p : TapPacket) → goes_on s p ≡ true → reply_of (s ++ p ∷ []) ≡ option_or (reply_at p) (reply_of s)
reply-more s p e =
    grind (arith, replied s (p ∷ []), unreplied s (p ∷ []), none_yet s, reply_of-one p, no_reply_at p, no_connect s p e, or_none (reply_at p))

asked-next : (s : List TapPacket) (p : TapPacket) → goes_on s p ≡ true → asked_of (s ++ p ∷ []) ≡ option_or (ask_of p) (asked_of s)
asked-next s p e = grind (arith, replied s (p ∷ []), unreplied s (p ∷ []), unreplied s [], append-nil s, no_ask p, no_connect s p e, asked-after s p)

-- a stay with one packet more
pub stay_of-more : (stream : List StreamRec) (c : ℕ) (s : List TapPacket) (p : TapPacket) → goes_on s p ≡ true
    → stay_of stream c (s ++ p ∷ []) ≡ grown stream (stay_of stream c s) p
stay_of-more stream c [] p e = absurd (false≢true e)
stay_of-more stream c (x ∷ xs) p e =
    same_stays c (namespace x) _ _ _ _ _ _ _ _ (reply-more (x ∷ xs) p e) (asked-next (x ∷ xs) p e) (frames-more stream (x ∷ xs) p) (altered-more stream (x ∷ xs) p)
