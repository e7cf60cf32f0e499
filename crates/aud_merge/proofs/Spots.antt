-- What is left of the turns, and how a record, and a move, leaves it.
use Rattle.std.proofs.lemmas.Bool.Decides.{nat_tests}
use Rattle.std.proofs.Common.{◌≡◌, ◌<◌, ◌≤◌, ℕ, suc, true, false, cond, List, ◌∷◌, Option, Some, refl, sym, ap, ◌∙◌, nat_le, arith, ◌-◌, Bool, map, None, ◌⊎◌, option_map}
use Rattle.std.proofs.lemmas.Bool.{false≢true, leb-true, le-leb}
use Rattle.aud_tap.specs.declared.records.StreamRec.{StreamRec}
use Rattle.aud_tap.specs.declared.records.NodeRec.{NodeRec}
use Rattle.aud_base.proofs.Lists.{between-more, between-none}
use Rattle.aud_node.specs.Cluster.{Cluster, node_log}
use Rattle.aud_node.specs.Cursors.{later_cursor, cursor_at}
use Rattle.aud_node.specs.Lists.{between}
use Rattle.aud_node.specs.Stream.{Text}
use Rattle.aud_node.proofs.RecordLemmas.{cursor_at-rises}
use Rattle.aud_rooms.specs.Rooms.{Rooms, rooms_after}
use Rattle.aud_rooms.specs.Turns.{Who, Turn, Slice, beginning, Last, End, part_of, slice_of, ByBreak, HasNoTurn}
use Rattle.aud_rooms.specs.TurnsDue.{rooms_for}
use Rattle.aud_merge.specs.Machine.{State}
use Rattle.aud_merge.specs.ByTurns.{first_reaching, reaching_step}
use Rattle.aud_merge.specs.Due.{node_cursor, is_at_least, is_reached}
use Rattle.aud_merge.specs.declared.step.Step.{Step}
use Rattle.aud_merge.proofs.Steps.{Synced}
use Rattle.aud_merge.proofs.Records.{last-rooms, waiting}
use Rattle.aud_merge.proofs.Phases.{Spot, Waiting, Within, Over, Beyond, Holds, OnSlice, Moves, begins, elsewhere, goes, breaks, leaves, reached-in}

-- the part of a slice from the record with this number on
abbrev pub part_from : Cluster → Turn → ℕ → Slice
part_from c t i =
    record {
      low = cursor_at c.stream (node_log c t.node) i;
      high = cursor_at c.stream (node_log c t.node) t.to;
      recs = between (node_log c t.node) i t.to;
    }

-- the record by which the cursor comes to reach a position moves no room
taken-rooms : (stream : List StreamRec) (pid : Text) (p cursor : ℕ) (held : Rooms) (rec : NodeRec) → nat_le p cursor ≡ false → nat_le p (later_cursor stream rec cursor) ≡ true → rooms_after pid held rec ≡ held
taken-rooms stream pid p cursor held rec before e = grind (arith, false≢true)

-- what is left of a slice gives the rooms that the slice gives, as long as the position isn't reached
pub rooms_for-step : (stream : List StreamRec) (pid : Text) (held : Rooms) (low next high : ℕ) (rec : NodeRec) (recs : List NodeRec) (later : List Slice) (p : ℕ)
    → nat_le p low ≡ false → next ≡ later_cursor stream rec low
    → rooms_for stream pid held (record { low = low; high = high; recs = rec ∷ recs } ∷ later) p
    ≡ rooms_for stream pid (rooms_after pid held rec) (record { low = next; high = high; recs = recs } ∷ later) p
rooms_for-step stream pid held low next high rec recs later p before moves = grind (arith, moves, taken-rooms stream pid p low held rec before)

-- a slice whose low reaches the position gives its first rooms
pub rooms_for-at_low : (stream : List StreamRec) (pid : Text) (held : Rooms) (slice : Slice) (later : List Slice) (p : ℕ)
    → nat_le p slice.low ≡ true → slice.low ≤ slice.high → rooms_for stream pid held (slice ∷ later) p ≡ Some held
rooms_for-at_low stream pid held slice later p e h = grind (arith, le-leb p slice.high, leb-true p slice.low e)

-- a record that ends a turn takes no entry
pub last-stays : (stream : List StreamRec) (pid : Text) (k cursor : ℕ) (rec : NodeRec) (e : End) → part_of pid k rec ≡ Last e → later_cursor stream rec cursor ≡ cursor
last-stays stream pid k cursor rec e part = grind arith

-- the record that begins a turn takes nothing and moves no room
pub rooms_for-beginning : (stream : List StreamRec) (who : Who) (k : ℕ) (held : Rooms) (low high : ℕ) (recs : List NodeRec) (later : List Slice) (p : ℕ)
    → rooms_for stream who.pid held (record { low = low; high = high; recs = beginning who k ∷ recs } ∷ later) p
    ≡ rooms_for stream who.pid held (record { low = low; high = high; recs = recs } ∷ later) p
rooms_for-beginning stream who k held low high recs later p = grind arith

-- the rooms by which what is left of the turns judges a position
abbrev pub rooms_left : Cluster → Who → Spot → ℕ → Option Rooms
rooms_left c who (Waiting k held rest) p = rooms_for c.stream who.pid held (map (slice_of c) rest) p
rooms_left c who (Within k t at held later) p = rooms_for c.stream who.pid held (part_from c t at ∷ map (slice_of c) later) p
rooms_left c who Over p = None
rooms_left c who Beyond p = None

-- the position is reached there
abbrev pub spot_reached : Cluster → Spot → ℕ → Bool
spot_reached c (Waiting k held rest) p = false
spot_reached c (Within k t at held later) p = nat_le p (cursor_at c.stream (node_log c t.node) at)
spot_reached c Over p = false
spot_reached c Beyond p = false

-- a session that waits for a turn is on no node, and reaches nothing
waiting-unreached : (who : Who) (st : State) (k : ℕ) (held : Rooms) (p : ℕ) → is_at_least (node_cursor st (waiting who k held)) p ≡ false
waiting-unreached who st k held p = grind arith

-- either the turns tell the rooms, or they are all the turns that the logs have
abbrev pub Settled : Cluster → Who → ℕ → Option Rooms → Type 0
Settled c who last rooms = ((held : Rooms) × (rooms ≡ Some held)) ⊎ HasNoTurn c who.pid last

-- the session reaches a position in a state where its place among its turns says so
pub reached-spot : (c : Cluster) (who : Who) (last : ℕ) (p : ℕ) (st : State) (spot : Spot) → Holds c who last st spot → Synced c st → Settled c who last (rooms_left c who spot p)
    → is_reached who.pid p st ≡ spot_reached c spot p
reached-spot c who last p st spot holds synced settled = grind (arith, waiting-unreached who st, reached-in c who st)

module _ (c : Cluster) (who : Who) (k : ℕ) (t : Turn) (l i at : ℕ) (held : Rooms) (later : List Turn) (rec : NodeRec) (on : OnSlice c t l i at rec) (p : ℕ) (before : nat_le p (cursor_at c.stream (node_log c t.node) at) ≡ false) where
  -- what the record of the node leaves of the slice
  rooms-goes : rooms_for c.stream who.pid held (part_from c t at ∷ map (slice_of c) later) p ≡ rooms_for c.stream who.pid (rooms_after who.pid held rec) (part_from c t (suc at) ∷ map (slice_of c) later) p
  rooms-goes =
      ap (λ recs. rooms_for c.stream who.pid held (record { low = cursor_at c.stream (node_log c t.node) at; high = cursor_at c.stream (node_log c t.node) t.to; recs = recs } ∷ map (slice_of c) later) p) (between-more (node_log c t.node) at t.to rec on.some on.stands)
      ∙ rooms_for-step c.stream who.pid held _ _ _ rec (between (node_log c t.node) (suc at) t.to) (map (slice_of c) later) p before on.moves

  -- after a record that ends the turn, the position isn't reached in it
  past-high : (e : End) → part_of who.pid k rec ≡ Last e → suc at ≡ t.to → nat_le p (cursor_at c.stream (node_log c t.node) t.to) ≡ false
  past-high e part is_end = ap (λ n. nat_le p (cursor_at c.stream (node_log c t.node) n)) (sym is_end) ∙ ap (nat_le p) (on.moves ∙ last-stays c.stream who.pid k (cursor_at c.stream (node_log c t.node) at) rec e part) ∙ before

  -- after a record that ends the turn, the later turns give the rooms
  rooms-ends : (e : End) → part_of who.pid k rec ≡ Last e → suc at ≡ t.to → rooms_for c.stream who.pid held (part_from c t at ∷ map (slice_of c) later) p ≡ rooms_for c.stream who.pid held (map (slice_of c) later) p
  rooms-ends e part is_end = grind (arith, rooms-goes, last-rooms who.pid k held rec e part, between-none (node_log c t.node) (suc at) t.to, past-high e part is_end)

-- a move leaves the rooms of each position that isn't reached
pub Moves-rooms : (c : Cluster) (who : Who) (l i : ℕ) (a b : Spot) → Moves c who l i a b → (p : ℕ) → spot_reached c a p ≡ false → rooms_left c who a p ≡ rooms_left c who b p
Moves-rooms c who l i a b (begins k held t later same_log same_index turn) p before =
    ap (λ recs. rooms_for c.stream who.pid held (record { low = cursor_at c.stream (node_log c t.node) (suc t.from); high = cursor_at c.stream (node_log c t.node) t.to; recs = recs } ∷ map (slice_of c) later) p) (between-more (node_log c t.node) t.from t.to (beginning who k) turn.some turn.begins)
    ∙ rooms_for-beginning c.stream who k held _ _ (between (node_log c t.node) (suc t.from) t.to) (map (slice_of c) later) p
Moves-rooms c who l i a b (goes k t at held later rec on part) p before = rooms-goes c who k t l i at held later rec on p before
Moves-rooms c who l i a b (breaks k t at held later rec on part is_end) p before = rooms-ends c who k t l i at held later rec on p before ByBreak part is_end
Moves-rooms c who l i a b (leaves k t at held later rec e on part is_end none is) p before =
    rooms-ends c who k t l i at held later rec on p before e part is_end ∙ ap (λ ts. rooms_for c.stream who.pid held (map (slice_of c) ts) p) none
Moves-rooms c who l i a b _ p before = refl

-- the record by which what is left of the turns first reaches a position
abbrev pub left_of : Cluster → Turn → ℕ → List Turn → ℕ → Option Step
left_of c t at later p =
    cond (nat_le p (cursor_at c.stream (node_log c t.node) t.to))
    (option_map (λ number. record { log = t.node; index = number }) (first_reaching c.stream (node_log c t.node) p at (t.to - at)))
    (reaching_step c later p)

-- the record by which what is left of the turns first reaches a position, wherever the session is
abbrev pub step_left : Cluster → Spot → ℕ → Option Step
step_left c (Waiting k held rest) p = reaching_step c rest p
step_left c (Within k t at held later) p = left_of c t at later p
step_left c Over p = None
step_left c Beyond p = None

-- that record is the next one where the cursor after it reaches the position, and else a later one
left_of-more : (c : Cluster) (t : Turn) (at : ℕ) (later : List Turn) (p : ℕ) → at < t.to
    → left_of c t at later p ≡ cond (nat_le p (cursor_at c.stream (node_log c t.node) (suc at))) (Some (record { log = t.node; index = at })) (left_of c t (suc at) later p)
left_of-more c t at later p h =
    let more : t.to - at ≡ suc (t.to - suc at) = omega arith in
    grind (arith, more, nat_tests, cursor_at-rises c.stream (node_log c t.node) (suc at) t.to)

-- a move on a record by which the position is reached, or not
abbrev pub MovesStep : Cluster → ℕ → ℕ → Spot → Spot → ℕ → Type 0
MovesStep c l i a b p =
    (spot_reached c b p ≡ true → step_left c a p ≡ Some (record { log = l; index = i })) × (spot_reached c b p ≡ false → step_left c a p ≡ step_left c b p)

-- so a record of the turn either is the one that reaches the position, or leaves that one as it was
by_more : (c : Cluster) (t : Turn) (l i at : ℕ) (later : List Turn) (p : ℕ) → at < t.to → t.node ≡ l → i ≡ at
    → ((nat_le p (cursor_at c.stream (node_log c t.node) (suc at)) ≡ true → left_of c t at later p ≡ Some (record { log = l; index = i }))
    × (nat_le p (cursor_at c.stream (node_log c t.node) (suc at)) ≡ false → left_of c t at later p ≡ left_of c t (suc at) later p))
by_more c t l i at later p h log index = grind (arith, left_of-more c t at later p h)

-- the step that reaches the position is the one that the turns tell; any other leaves that one told
pub Moves-step : (c : Cluster) (who : Who) (l i : ℕ) (a b : Spot) → Moves c who l i a b → (p : ℕ) → spot_reached c a p ≡ false → MovesStep c l i a b p
Moves-step c who l i a b (begins k held t later same_log same_index turn) p before = by_more c t l i t.from later p turn.some (sym same_log) same_index
Moves-step c who l i a b (elsewhere k t at held later) p before = (λ e. absurd (false≢true (sym before ∙ e)), λ _. refl)
Moves-step c who l i a b (goes k t at held later rec on part) p before = by_more c t l i at later p on.some on.log on.index
Moves-step c who l i a b (breaks k t at held later rec on part is_end) p before = grind (arith, false≢true, past-high c who k t l i at held later rec on p before ByBreak part is_end)
Moves-step c who l i a b (leaves k t at held later rec e on part is_end none is) p before = (
  λ e. absurd (false≢true e),
  λ _. ap (λ b. cond b (option_map (λ number. record { log = t.node; index = number }) (first_reaching c.stream (node_log c t.node) p at (t.to - at))) (reaching_step c later p)) (past-high c who k t l i at held later rec on p before e part is_end) ∙ ap (λ ts. reaching_step c ts p) none,
)
Moves-step c who l i a b _ p before = (λ e. absurd (false≢true e), λ _. refl)
