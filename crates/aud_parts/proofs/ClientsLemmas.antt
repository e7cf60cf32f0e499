-- What the clients' taps tell, each by the records of its own lines.
use Rattle.std.proofs.Common.{◌≡◌, ◌+◌, ◌<◌, ℕ, suc, true, false, List, [], ◌∷◌, ◌++◌, length, map, take, Option, Some, None, option_map, Result, Ok, Err, slice_get, refl, sym, ap, ◌∙◌, subst, arith, append_assoc, append-nil}
use Rattle.std.specs.List.{All, AllZip}
use Rattle.std.specs.Option.{option_flatten, option_map_or}
use Rattle.std.proofs.lemmas.Grind.{common_steps}
use Rattle.std.proofs.lemmas.List.{map-append, take_more}
use Rattle.std.proofs.lemmas.Option.{get_or_from_slice_get, slice_get-map}
use Rattle.std.proofs.lemmas.List.Elements.{All-nil, All-push}
use Rattle.aud_tap.specs.declared.records.ClientRec.{ClientRec}
use Rattle.aud_tap.specs.declared.records.Rec.TheVariants as rec
use Rattle.aud_tap.specs.declared.records.StreamRec.{StreamRec}
use Rattle.aud_tap.specs.declared.records.TapKind.{TapKind}
use Rattle.aud_tap.specs.declared.taps.Records.{Records}
use Rattle.aud_tap.specs.declared.taps.Records.TheVariants as records
use Rattle.aud_tap.specs.declared.taps.Tap.{Tap}
use Rattle.aud_reader.specs.declared.line.Line.{Line}
use Rattle.aud_reader.specs.Bundle.{kind_of_tap, tap_named}
use Rattle.aud_reader.specs.OwnLines.{HaveTheirOwnLines, recs_in, recs_of}
use Rattle.aud_parts.specs.declared.clients.ClientsReading.{ClientsReading}
use Rattle.aud_parts.specs.declared.clients.HeldTap.{HeldTap}
use Rattle.aud_parts.specs.declared.clients.measured.MeasuredClient.{MeasuredClient}
use Rattle.aud_parts.specs.declared.tap_index.first_refusal.RefusedLine.{RefusedLine}
use Rattle.aud_parts.specs.ClientsRead.{AreToldOf, IsToldOf, IsToldOfTap, clients_among, is_client, is_clients, others_among}
use Rattle.aud_parts.specs.PartLines.{is_server_at}
use Rattle.aud_parts.specs.ServersRead.{is_server, kind_told}
use Rattle.aud_parts.specs.TapRuns.{TapRuns, runs_lines}
use Rattle.aud_parts.specs.Together.{IsToldBy}
use Rattle.aud_parts.specs.Private.ClientSteps.{AreAdded, AreSoFar, AreTold, Holds, IsTold, clients_told, refused_told}
use Rattle.aud_parts.specs.Private.TapsRead.{HoldsLines}
use Rattle.aud_parts.proofs.ListSteps.{each-push}
use Rattle.aud_parts.proofs.ServersLemmas.{never-none}

-- ---- one tap

-- there is none of the name
pub none-told : (name : List ℕ) (lines : List Line) (taps : List Tap) → HaveTheirOwnLines lines taps → tap_named name taps ≡ None → is_client name lines ≡ false
none-told name lines taps own named = ap (λ rs. is_clients (slice_get rs 0)) (own name ∙ ap (λ o. option_map_or recs_of o []) named)

-- it is no client's
pub other-told : (name : List ℕ) (lines : List Line) (taps : List Tap) → HaveTheirOwnLines lines taps → (t : Tap) → tap_named name taps ≡ Some t
    → ((recs : List ClientRec) → t.records ≡ records.Client recs → ⊥) → is_client name lines ≡ false
other-told name lines taps own t named other =
    ap (λ rs. is_clients (slice_get rs 0)) (own name ∙ ap (λ o. option_map_or recs_of o []) named) ∙ go t.records other
  where
    go : (rs : Records) → ((recs : List ClientRec) → rs ≡ records.Client recs → ⊥) → is_clients (slice_get (rec.Header (kind_of_tap rs) t.version ∷ recs_in rs) 0) ≡ false
    go (records.Stream entries) other = refl
    go (records.Node recs) other = refl
    go (records.Client recs) other = absurd (other recs refl)

-- it is a client's
pub client-told : (name : List ℕ) (lines : List Line) (taps : List Tap) → HaveTheirOwnLines lines taps → (t : Tap) → tap_named name taps ≡ Some t → (stream : List StreamRec) (recs : List ClientRec)
    (client : MeasuredClient) → t.records ≡ records.Client recs → IsToldBy stream recs client → IsToldOf stream name lines client
client-told name lines taps own t named stream recs client is told = record {
  version = t.version;
  recs = recs;
  records =
      own name ∙ ap (λ o. option_map_or recs_of o []) named
      ∙ ap (λ (rs : Records). rec.Header (kind_of_tap rs) t.version ∷ recs_in rs) is;
  told = told;
}

-- ---- one tap after another

-- what is told of one more
pub told-more : (files : List (List ℕ)) (stream : List StreamRec) (read : List TapRuns) (tap : TapRuns) (clients more : List MeasuredClient) (refusal new : Option RefusedLine)
    (told : Result (Option MeasuredClient) RefusedLine) → (refusal ≡ None → AreToldOf files stream read clients) → IsTold stream tap.name (runs_lines files tap.runs) told
    → more ≡ clients ++ clients_told told → new ≡ refused_told told refusal → new ≡ None → AreToldOf files stream (read ++ tap ∷ []) more
told-more files stream read tap clients more refusal new (Err line) before is pushed refused none = absurd (never-none refusal line (sym refused ∙ none))
told-more files stream read tap clients more refusal new (Ok None) before is pushed refused none =
    let among : clients_among files (read ++ tap ∷ []) ≡ clients_among files read = grind (arith, common_steps, is) in
    rw (among, pushed ∙ append-nil clients) (before (sym refused ∙ none))
told-more files stream read tap clients more refusal new (Ok (Some client)) before is pushed refused none =
    let own : is_client tap.name (runs_lines files tap.runs) ≡ true = ap (λ rs. is_clients (slice_get rs 0)) is.records in
    let among : clients_among files (read ++ tap ∷ []) ≡ clients_among files read ++ tap ∷ [] = grind (arith, common_steps, own) in
    rw (among, pushed) (each-push (IsToldOfTap files stream) (clients_among files read) clients tap client (before (sym refused ∙ none)) is)

-- one more
pub added-more : (files : List (List ℕ)) (stream : List StreamRec) (read taps : List TapRuns) (told : Result (Option MeasuredClient) RefusedLine) (all left : List (Result (Option MeasuredClient) RefusedLine))
    (refusal new : Option RefusedLine) (clients more : List MeasuredClient) → AreAdded files stream read taps all refusal clients → all ≡ told ∷ left
    → more ≡ clients ++ clients_told told → new ≡ refused_told told refusal → AreAdded files stream read taps left new more
added-more files stream read taps told all left refusal new clients more a next pushed refused = go a.rest a.whole (subst (AreTold files stream a.rest) next a.each)
  where
    go : (rest : List TapRuns) → a.done ++ rest ≡ taps → AreTold files stream rest (told ∷ left) → AreAdded files stream read taps left new more
    go [] whole each = absurd each
    go (tap ∷ rest) whole each = record {
      done = a.done ++ tap ∷ [];
      rest = rest;
      whole = append_assoc a.done (tap ∷ []) rest ∙ whole;
      each = each.1;
      told = λ none.
          subst (λ taps. AreToldOf files stream taps more) (append_assoc read a.done (tap ∷ []))
          (told-more files stream (read ++ a.done) tap clients more refusal new told a.told each.0 pushed refused none);
    }

-- all
pub added-all : (files : List (List ℕ)) (stream : List StreamRec) (read taps : List TapRuns) (left : List (Result (Option MeasuredClient) RefusedLine)) (refusal : Option RefusedLine) (clients : List MeasuredClient)
    → AreAdded files stream read taps left refusal clients → left ≡ [] → refusal ≡ None → AreToldOf files stream (read ++ taps) clients
added-all files stream read taps left refusal clients a none told = go a.rest a.whole (subst (AreTold files stream a.rest) none a.each)
  where
    go : (rest : List TapRuns) → a.done ++ rest ≡ taps → AreTold files stream rest [] → AreToldOf files stream (read ++ taps) clients
    go [] whole each = subst (λ taps. AreToldOf files stream (read ++ taps) clients) (sym (append-nil a.done) ∙ whole) (a.told told)
    go (tap ∷ rest) whole each = absurd each

-- ---- taps that are held

-- what is told of each by the bytes that are held is told of its lines
pub held-told : (files : List (List ℕ)) (stream : List StreamRec) (R : HeldTap → Result (Option MeasuredClient) RefusedLine → Type 0)
    → ((held : HeldTap) (told : Result (Option MeasuredClient) RefusedLine) → R held told → (lines : List Line) → HoldsLines lines held.runs.items → IsTold stream held.tap.now.name lines told)
    → (helds : List HeldTap) (tolds : List (Result (Option MeasuredClient) RefusedLine)) → AllZip R helds tolds → All (Holds files) helds
    → AreTold files stream (map (λ (held : HeldTap). held.tap.now) helds) tolds
held-told files stream R says [] [] zip holding = tt
held-told files stream R says [] (told ∷ tolds) zip holding = absurd zip
held-told files stream R says (held ∷ helds) [] zip holding = absurd zip
held-told files stream R says (held ∷ helds) (told ∷ tolds) zip holding = (
  says held told zip.0 (runs_lines files held.tap.now.runs) (holding 0 held (omega arith)),
  held-told files stream R says helds tolds zip.1 (λ k d within. holding (suc k) d (omega (arith, within))),
)

-- a tap more was read, where none is held
pub so-far-told : (files : List (List ℕ)) (taps : List TapRuns) (tap : TapRuns) (old new : ClientsReading) (told : Result (Option MeasuredClient) RefusedLine) → AreSoFar files taps old → old.held.items ≡ []
    → IsTold old.stream.now tap.name (runs_lines files tap.runs) told → new.clients.items ≡ old.clients.items ++ clients_told told → new.refusal ≡ refused_told told old.refusal
    → new.held ≡ old.held → new.stream ≡ old.stream → AreSoFar files (taps ++ tap ∷ []) new
so-far-told files taps tap old new told so none is clients refusal held stream =
    let empty : new.held.items ≡ [] = rw held none in
    let whole : taps ≡ so.read = so.whole ∙ ap (λ helds. so.read ++ map (λ (held : HeldTap). held.tap.now) helds) none ∙ append-nil so.read in
    record {
      read = so.read ++ tap ∷ [];
      whole =
          ap (λ ts. ts ++ tap ∷ []) whole
          ∙ sym (append-nil (so.read ++ tap ∷ []))
          ∙ ap (λ helds. (so.read ++ tap ∷ []) ++ map (λ (held : HeldTap). held.tap.now) helds) (sym empty);
      holding = rw empty (All-nil (Holds files));
      told = λ unrefused. rw stream (told-more files old.stream.now so.read tap old.clients.items new.clients.items old.refusal new.refusal told so.told is clients refusal unrefused);
    }

-- a tap more is held
pub so-far-held : (files : List (List ℕ)) (taps : List TapRuns) (old new : ClientsReading) (held : HeldTap) → AreSoFar files taps old → new.held.items ≡ old.held.items ++ held ∷ []
    → Holds files held → new.clients.items ≡ old.clients.items → new.refusal ≡ old.refusal → new.stream ≡ old.stream → AreSoFar files (taps ++ held.tap.now ∷ []) new
so-far-held files taps old new held so pushed holds clients refusal stream = record {
  read = so.read;
  whole =
      ap (λ ts. ts ++ held.tap.now ∷ []) so.whole
      ∙ append_assoc so.read (map (λ (held : HeldTap). held.tap.now) old.held.items) (held.tap.now ∷ [])
      ∙ ap (λ ts. so.read ++ ts) (sym (map-append (λ (held : HeldTap). held.tap.now) old.held.items (held ∷ [])) ∙ ap (map (λ (held : HeldTap). held.tap.now)) (sym pushed));
  holding = rw pushed (All-push (Holds files) old.held.items held so.holding holds);
  told = λ unrefused. rw (stream, clients) (so.told (sym refusal ∙ unrefused));
}

-- ---- of all taps those that aren't the stream's nor a node's

module _ (files : List (List ℕ)) (taps : List TapRuns) (kinds : List (Option TapKind)) (are : kinds ≡ map (kind_told files) taps) (i : ℕ) (tap : TapRuns) (at : slice_get taps i ≡ Some tap) where
  -- what is known of the place is known of the tap
  at-place : is_server_at kinds i ≡ is_server (kind_told files tap)
  at-place = ap (λ ks. is_server (option_flatten (slice_get ks i))) are ∙ ap (λ o. is_server (option_flatten o)) (slice_get-map (kind_told files) taps i ∙ ap (option_map (kind_told files)) at)

  next-taps : i < length taps → take (i + 1) taps ≡ take i taps ++ tap ∷ []
  next-taps within = take_more taps i tap within ∙ ap (λ t. take i taps ++ t ∷ []) (get_or_from_slice_get taps i tap tap at)

  -- a server's is passed over
  pub others-server : i < length taps → is_server_at kinds i ≡ true → others_among files (take (i + 1) taps) ≡ others_among files (take i taps)
  others-server within server =
      let own : is_server (kind_told files tap) ≡ true = sym at-place ∙ server in
      ap (others_among files) (next-taps within) ∙ grind (arith, common_steps, own)

  -- another is one more
  pub others-client : i < length taps → is_server_at kinds i ≡ false → others_among files (take (i + 1) taps) ≡ others_among files (take i taps) ++ tap ∷ []
  others-client within client =
      let own : is_server (kind_told files tap) ≡ false = sym at-place ∙ client in
      ap (others_among files) (next-taps within) ∙ grind (arith, common_steps, own)
