use Rattle.std.proofs.Common.{◌≡◌, IfOk, Ok, string_bytes, subst, sym}
use Rattle.aud_reader.specs.Record.{line_record}
use Rattle.aud_parts.proofs.ServersLemmas.{no-header}
use Rattle.aud_parts.proofs.servers.header_in.Goals as goal

pub returns-in_default : goal.returns-in_default
returns-in_default c =
    sym (no-header c.args.name.now (string_bytes c.in-Ok.own) c.args.line.now c.in-Ok.rec
    (subst (λ read. IfOk read (λ p. line_record c.args.line.now.bytes ≡ Ok (string_bytes p.0, p.1))) c.in-Ok.is c.parse_line.ensures.read)
    c.in_default.not-Header)
