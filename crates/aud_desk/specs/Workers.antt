-- What a worker hands back.
use Rattle.std.specs.Prelude.{ℕ, List, All, Contains, map}
use Rattle.aud_desk.specs.declared.entry.Entry.{Entry}
use Rattle.aud_desk.specs.declared.tickets.Tickets.{Tickets}
use Rattle.aud_desk.specs.declared.worker.Worker.{Worker}
use Rattle.aud_verdict.specs.declared.verdict.Verdict.{Verdict}
use Rattle.aud_desk.specs.Views.{IsSeatOf}

-- each entry has what is so of its index
abbrev pub HaveVerdicts : (ℕ → Verdict → Type 0) → List Entry → Type 0
HaveVerdicts Is entries = All (λ e. Is e.index e.verdict) entries

-- a worker of these tickets, each of whose entries has what is so of its index
abbrev pub IsWorkOf : Tickets → (ℕ → Verdict → Type 0) → Worker → Type 0
IsWorkOf t Is w = IsSeatOf t w.seat × HaveVerdicts Is w.entries.items

-- the entry of this index with this verdict
abbrev pub entry_of : ℕ → Verdict → Entry
entry_of index verdict = record { index = index; verdict = verdict }

-- one of the workers has the entry of this index with this verdict
abbrev pub HasEntry : List Worker → ℕ → Verdict → Type 0
HasEntry ws index verdict = (w : Worker) × Contains ws w × Contains w.entries.items (entry_of index verdict)

-- the indices of the entries
abbrev pub indices : List Entry → List ℕ
indices entries = map (λ e. e.index) entries
