-- The lines on certificates.
use Rattle.std.specs.Prelude.{ℕ, ◌-◌, List, ◌++◌, codes, decimal, flat_map, length, count_by, Bool, true, false}
use Rattle.std.specs.List.{list_all}
use Rattle.aud_verdict.specs.Output.{OutputSeen, status_of}
use Rattle.aud_cert.specs.TextFault.{cert_fault_text}
use Rattle.aud_check.specs.Words.{refusal_text, accepted_text}
use Rattle.aud_app.specs.declared.answer.Answer.{Answer}
use Rattle.aud_app.specs.declared.answer.Answer.TheVariants.{Accepted, Unread, Refused}
use Rattle.aud_app.specs.declared.answer.Answered.{Answered}

-- the line on a certificate that stands on the line of this number
abbrev pub line_on : ℕ → Answer → List ℕ
line_on n (Accepted pid counts) = codes "ok " ++ decimal n ++ codes " " ++ pid ++ codes " " ++ accepted_text counts ++ codes "\n"
line_on n (Unread fault) = codes "bad " ++ decimal n ++ codes " " ++ cert_fault_text fault ++ codes "\n"
line_on n (Refused refusal) = codes "bad " ++ decimal n ++ codes " " ++ refusal_text refusal ++ codes "\n"

-- the line on a certificate
abbrev pub answer_line : Answered → List ℕ
answer_line a = line_on a.line a.answer

-- whether an answer is ok
abbrev pub answers_ok : Answer → Bool
answers_ok (Accepted pid counts) = true
answers_ok _ = false

-- whether a certificate is accepted
abbrev pub is_ok : Answered → Bool
is_ok a = answers_ok a.answer

-- the last line: how many certificates there are, and how many of them are ok and bad
abbrev pub counts_line : List Answered → List ℕ
counts_line all = codes "certs=" ++ decimal (length all) ++ codes " ok=" ++ decimal (count_by is_ok all) ++ codes " bad=" ++ decimal (length all - count_by is_ok all) ++ codes "\n"

-- what is written on certificates: a line for each, and the counts
abbrev pub verify_text : List Answered → List ℕ
verify_text all = flat_map answer_line all ++ counts_line all

-- the output on certificates with these answers
abbrev pub verification_of : List Answered → OutputSeen
verification_of answers = record { status = status_of (list_all is_ok answers); text = verify_text answers }
