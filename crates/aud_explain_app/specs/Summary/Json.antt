-- The JSON of a summary: members in the byte order of their names.
use Rattle.std.specs.Prelude.{ℕ, List, codes, fold, Some, None}
use Rattle.serde_json.specs.Data.{Data, Members, number, object, unsigned, no_members, member, put}
use Rattle.serde_json.specs.Written.{compact_text}
use Rattle.std.specs.Borrow.{Bor}
use Rattle.aud_node.specs.Stream.{Text}
use Rattle.aud_explain_app.specs.declared.summary.causes.CausesTold.{CausesTold}
use Rattle.aud_explain_app.specs.declared.summary.counts.Classes.{Classes}
use Rattle.aud_explain_app.specs.declared.summary.counts.Entries.{Entries}
use Rattle.aud_explain_app.specs.declared.summary.Recoveries.{Recoveries}
use Rattle.aud_explain_app.specs.declared.summary.Summary.{Summary}
use Rattle.aud_explain_app.specs.declared.summary.counts.Tails.{Tails}
use Rattle.aud_explain_app.specs.Summary.Causes.{cause_names, count_with}

-- a member that is a whole number, in front of others
abbrev pub figure : List ℕ → ℕ → Members → Members
figure name n others = member name (number (unsigned n)) others

-- figures whose names are borrowed, put among others
abbrev pub with_figures : List (Bor Text × ℕ) → Members → Members
with_figures figures others = fold (λ ms (f : Bor Text × ℕ). put f.0.now (number (unsigned f.1)) ms) others figures

-- a cause among others, with how many sessions have it
abbrev pub with_cause : List CausesTold → Members → Text → Members
with_cause told others id = put id (number (unsigned (count_with told (Some id)))) others

-- all causes, also those that no session has
abbrev pub causes_data : List CausesTold → Data
causes_data told = object (fold (with_cause told) no_members cause_names)

abbrev pub classes_data : Classes → Data
classes_data c = object (figure (codes "delivery") c.delivery (figure (codes "packets") c.packets (figure (codes "recording") c.recording no_members)))

abbrev pub entries_data : Entries → Data
entries_data e = object (figure (codes "all") e.all (figure (codes "recoverable") e.recoverable no_members))

-- all faults, also those that no session has
abbrev pub faults_data : List (Bor Text × ℕ) → Data
faults_data faults = object (with_figures faults no_members)

abbrev pub recoveries_data : Recoveries → Data
recoveries_data r = object (figure (codes "asked") r.asked (figure (codes "granted") r.granted (figure (codes "refused") r.refused no_members)))

abbrev pub tails_data : Tails → Data
tails_data t = object (figure (codes "events") t.events (figure (codes "sessions") t.sessions no_members))

-- all figures
abbrev pub figures_data : Summary → List CausesTold → Data
figures_data s told =
    object (figure (codes "bytes") s.input.bytes
    (member (codes "causes") (causes_data told)
    (member (codes "class") (classes_data s.classes)
    (member (codes "entries") (entries_data s.entries)
    (member (codes "fault") (faults_data s.faults)
    (figure (codes "lines") s.input.lines
    (figure (codes "no") s.no
    (figure (codes "no_known_cause") (count_with told None)
    (member (codes "recoveries") (recoveries_data s.recoveries)
    (figure (codes "seconds") s.input.seconds
    (figure (codes "sessions") s.sessions
    (member (codes "tail") (tails_data s.tails)
    (figure (codes "unobserved") s.unobserved
    (figure (codes "yes") s.yes no_members))))))))))))))

-- `{"summary":{..},"v":1}`
abbrev pub summary_data : Summary → List CausesTold → Data
summary_data s told = object (member (codes "summary") (figures_data s told) (figure (codes "v") 1 no_members))

-- its text
abbrev pub summary_json : Summary → List CausesTold → List ℕ
summary_json s told = compact_text (summary_data s told)
