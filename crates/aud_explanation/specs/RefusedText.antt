-- The recoveries that were refused.
use Rattle.std.specs.Prelude.{ℕ, Bool, true, false, List, [], ◌++◌, codes, decimal, length, Option, Some, None}
use Rattle.std.specs.Option.{option_copied}
use Rattle.aud_verdict.specs.declared.verdict.Verdict.{Verdict}
use Rattle.aud_rows.specs.declared.row.Row.{Row}
use Rattle.aud_input.specs.declared.input_file.InputFile.{InputFile}
use Rattle.aud_explanation.specs.declared.refused.Missed.{Missed}
use Rattle.aud_explanation.specs.declared.refused.RefusedRecovery.{RefusedRecovery}
use Rattle.aud_explanation.specs.Long.{long_text}
use Rattle.aud_explanation.specs.declared.name.Names.TheVariants.{Short}
use Rattle.aud_explanation.specs.Named.{name_words, named_words}
use Rattle.aud_explanation.specs.Page.{laid_line}
use Rattle.aud_explanation.specs.Evidence.{row_text}

-- how many entries it missed
abbrev pub count_words : Option (List Missed) → List ℕ
count_words (Some entries) = codes ", missed " ++ decimal (length entries)
count_words None = codes ", missed: not known"

-- the line of a refused recovery, with the session that the client got instead
abbrev pub head_line : RefusedRecovery → List ℕ
head_line r = codes "refused recovery: " ++ named_words Short (codes "got session ") (option_copied r.instead) (codes "got no session") ++ count_words (option_copied r.missed)

-- the same, laid out
unfoldable pub head_text : RefusedRecovery → List ℕ
head_text r = laid_line (head_line r)

-- the row of the reply, where there is one
abbrev pub reply_text : List InputFile → List ℕ → Verdict → ℕ → Option Row → List ℕ
reply_text files pid verdict width (Some reply) = row_text files pid verdict width reply
reply_text files pid verdict width None = []

-- an entry that was missed
abbrev pub missed_line : Missed → List ℕ
missed_line m = codes "    missed entry " ++ decimal m.position ++ codes " " ++ name_words Short m.off.now

-- its line
abbrev pub missed_text : Missed → List ℕ
missed_text m = laid_line (missed_line m)

-- the entries that it missed, where they are known
abbrev pub entries_missed : Option (List Missed) → List Missed
entries_missed (Some entries) = entries
entries_missed None = []

-- a line says so where no known cause of it holds
abbrev pub unexplained_text : Bool → List ℕ
unexplained_text true = []
unexplained_text false = codes "no known cause of the refusal holds\n"

-- what the client got instead, the ask and the reply, what it missed, and whether a cause is known: of the session with
-- this pid
abbrev pub refused_text : List InputFile → List ℕ → Verdict → RefusedRecovery → List ℕ
refused_text files pid verdict r = head_text r ++ row_text files pid verdict (length r.ask.tap.now) r.ask ++ reply_text files pid verdict (length r.ask.tap.now) r.reply ++ long_text missed_text (entries_missed (option_copied r.missed)) ++ unexplained_text r.has_cause
