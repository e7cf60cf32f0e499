-- The states as plain codes, which a type seen as a state owes.
use Rattle.std.specs.Prelude.{◌≡◌, ℕ, List, refl, Option, Some, None}
use Rattle.std.specs.Coded.{Coded, code_by, coded×, coded_ℕ, coded_list, coded_option}
use Rattle.std.specs.Ordering.{nat_cmp}
use Rattle.std.specs.Cmp.Lexicographic.{slice_cmp}
use Rattle.std.specs.FinMap as fin
use Rattle.aud_node.specs.Stream.{Text}
use Rattle.aud_rooms.specs.Rooms.{Rooms}
use Rattle.aud_rooms.specs.Assigned.{rooms_code}
use Rattle.aud_merge.specs.Sessions.{SessionState, Absent, Here, Away, Ended}
use Rattle.aud_merge.specs.declared.progress.Progress.{Progress}
use Rattle.aud_merge.specs.Machine.{State}

-- a text as its bytes
abbrev pub text_code : Coded Text
text_code = coded_list coded_ℕ

-- a session as numbers, texts and rooms: is it on a node, and which, and what it keeps
abbrev pub Flat : Type 0
Flat = Option (Option ((Option ℕ) × ℕ × Text × Text × Rooms))

-- a session as such a value
abbrev pub to_flat : SessionState → Flat
to_flat Absent = None
to_flat Ended = Some None
to_flat (Here node turn sid nsp rooms) = Some (Some (Some node, turn, sid, nsp, rooms))
to_flat (Away turn sid nsp rooms) = Some (Some (None, turn, sid, nsp, rooms))

-- a session by where it is and what it keeps
abbrev pub placed : Option ℕ → ℕ → Text → Text → Rooms → SessionState
placed None turn sid nsp rooms = Away turn sid nsp rooms
placed (Some node) turn sid nsp rooms = Here node turn sid nsp rooms

-- the session of such a value
abbrev pub from_flat : Flat → SessionState
from_flat None = Absent
from_flat (Some None) = Ended
from_flat (Some (Some x)) = placed x.0 x.1 x.2 x.3 x.4

-- it comes back
pub flat-back : (s : SessionState) → from_flat (to_flat s) ≡ s
flat-back Absent = refl
flat-back Ended = refl
flat-back (Here node turn sid nsp rooms) = refl
flat-back (Away turn sid nsp rooms) = refl

-- what a session keeps, as nested pairs
abbrev pub kept_code : Coded ((Option ℕ) × ℕ × Text × Text × Rooms)
kept_code =
    code_by ((Option ℕ) × (ℕ × (Text × (Text × Rooms))))
    (coded× (coded_option coded_ℕ) (coded× coded_ℕ (coded× text_code (coded× text_code rooms_code))))
    (λ x. (x.0, (x.1, (x.2, (x.3, x.4))))) (λ y. (y.0, y.1.0, y.1.1.0, y.1.1.1.0, y.1.1.1.1)) (λ _. refl)

-- a session by that value
abbrev pub session_code : Coded SessionState
session_code = code_by Flat (coded_option (coded_option kept_code)) to_flat from_flat flat-back

-- how far a log has come, as a pair
abbrev pub progress_code : Coded Progress
progress_code = code_by (ℕ × ℕ) (coded× coded_ℕ coded_ℕ) (λ x. (x.taken, x.cursor)) (λ y. record { taken = y.0; cursor = y.1 }) (λ _. refl)

-- the sessions by pid
abbrev pub sessions_code : Coded (fin.FinMap (slice_cmp nat_cmp) SessionState)
sessions_code = fin.code text_code session_code

-- a state as how far each log has come, and the sessions
abbrev pub state_code : Coded State
state_code =
    code_by (List Progress × fin.FinMap (slice_cmp nat_cmp) SessionState) (coded× (coded_list progress_code) sessions_code)
    (λ x. (x.logs, x.sessions)) (λ y. record { logs = y.0; sessions = y.1 }) (λ _. refl)
