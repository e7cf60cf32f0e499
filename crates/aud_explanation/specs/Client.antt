-- The line of the client.
use Rattle.std.specs.Prelude.{ℕ, List, ◌++◌, codes, decimal, Option, Some, None}
use Rattle.aud_verdict.specs.declared.verdict.Verdict.{Verdict}
use Rattle.aud_explanation.specs.declared.client.Client.{Client}
use Rattle.aud_explanation.specs.declared.client.Account.{Account}
use Rattle.aud_explanation.specs.declared.name.Names.TheVariants.{Short}
use Rattle.aud_explanation.specs.Named.{name_words}
use Rattle.aud_explanation.specs.Page.{laid_line}
use Rattle.aud_explanation.specs.ShownTail.{shown_tail}
use Rattle.aud_explanation.specs.Span.{known_words}

-- its tap, the namespace, and the connection, where there is one
abbrev pub names_words : Client → List ℕ
names_words client = codes "client " ++ client.tap.now ++ codes ", namespace " ++ name_words Short client.nsp.now ++ known_words (codes ", connection ") client.conn

-- the client
abbrev pub client_words : Option Client → List ℕ
client_words (Some client) = names_words client
client_words None = codes "no one client"

-- what was received of what was due; the tail where it is shown, and the frame at which what was received parts from what
-- was due, where it does
abbrev pub counts_words : Verdict → Account → List ℕ
counts_words verdict a = codes ", got " ++ decimal a.got ++ codes ", due " ++ decimal a.due ++ known_words (codes ", tail ") (shown_tail verdict a.tail) ++ known_words (codes ", differs at frame ") a.at_frame

-- the same, where the delivery was judged
abbrev pub account_words : Verdict → Option Account → List ℕ
account_words verdict (Some a) = counts_words verdict a
account_words verdict None = codes ", delivery not judged"

-- the line of the client
abbrev pub client_text : Verdict → Option Client → ℕ → Option Account → List ℕ
client_text verdict client turns account = laid_line (client_words client ++ codes ", turns " ++ decimal turns ++ account_words verdict account)
