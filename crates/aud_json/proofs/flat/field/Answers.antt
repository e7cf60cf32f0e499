use Rattle.std.proofs.Common.{refl}
use Rattle.aud_json.specs.declared.field.Field.TheVariants as variant
use Rattle.aud_json.proofs.Ordinary.{list_read, token_read}
use Rattle.aud_json.proofs.Strings.{lex_open_list}
use Rattle.aud_json.proofs.flat.field.Goals as goal

pub returns-in_default-clause-read : goal.returns-in_default-clause-read
returns-in_default-clause-read c =
    let found = c.in-Some-single in
    let read = found.ensures.read in
    token_read c.args.text.now found.rest.now read.0 found.field read.1 read.2

pub returns-clause-read : goal.returns-clause-read
returns-clause-read c =
    let found = c.in-Some-2 in
    let items = rw found.is at c.in_ok-items.ensures.read in
    let inner = c.in-Some.inner.now in
    list_read c.args.text.now inner found.rest.now found.items.items (variant.List found.items) refl (lex_open_list c.args.text.now inner c.in-Some.ensures) items
