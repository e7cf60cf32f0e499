use Rattle.std.proofs.Common.{◌≡◌, ◌∷◌, [], ◌++◌, IfSome, None, Some, ap, option_map, sym, subst, ◌∙◌}
use Rattle.aud_parts.specs.ServersRead.{is_server, kind_told}
use Rattle.aud_parts.specs.Private.ServerSteps.{IsHeaderOf}
use Rattle.aud_parts.proofs.ServersLemmas.{other-more, server-more}
use Rattle.aud_parts.proofs.servers.Reading.read_tap.Goals as goal

pub returns-in-Ok-clause-read : goal.returns-in-Ok-clause-read
returns-in-Ok-clause-read g c = λ files done known may all none.
    let tap = c.args.tap.now in
    let kind : None ≡ kind_told files tap = ap (option_map (λ h. h.of)) (sym c.in_default.is) ∙ c.in_ok-header.ensures.kind files known may in
    other-more files done tap c.args.self.now.kinds.items _ c.args.self.now.taps.items c.args.self.now.lines.items all
    (c.in-Ok.ensures.items ∙ ap (λ kind. c.args.self.now.kinds.items ++ kind ∷ []) kind)
    (ap is_server (sym kind))

pub returns-in-Stream-2-clause-read : goal.returns-in-Stream-2-clause-read
returns-in-Stream-2-clause-read g c = λ files done known may all none.
    let tap = c.args.tap.now in
    let kind = ap (option_map (λ h. h.of)) (sym c.in-Some.is) ∙ c.in_ok-header.ensures.kind files known may in
    let header = subst (λ o. IfSome o (IsHeaderOf files tap)) c.in-Some.is (c.in_ok-header.ensures.header files known may) in
    let adds = c.in_ok-read_stream-in-Stream-2.ensures.read files (c.in_ok-header.ensures.source ∙ known) may header c.in-Stream-2.is none in
    server-more files done tap c.args.self.now.kinds.items _ c.args.self.now.taps.items c.args.self.now.lines.items adds.tap _ _ all
    (adds.kinds ∙ c.in-Ok-push.ensures.items ∙ ap (λ kind. c.args.self.now.kinds.items ++ kind ∷ []) kind)
    (ap is_server (sym kind ∙ ap Some c.in-Stream-2.is)) adds.own adds.taps adds.lines

pub returns-in-Node-clause-read : goal.returns-in-Node-clause-read
returns-in-Node-clause-read g c = λ files done known may all none.
    let tap = c.args.tap.now in
    let kind = ap (option_map (λ h. h.of)) (sym c.in-Some.is) ∙ c.in_ok-header.ensures.kind files known may in
    let header = subst (λ o. IfSome o (IsHeaderOf files tap)) c.in-Some.is (c.in_ok-header.ensures.header files known may) in
    let adds = c.in_ok-read_node-in-Node.ensures.read files (c.in_ok-header.ensures.source ∙ known) may header c.in-Node.is none in
    server-more files done tap c.args.self.now.kinds.items _ c.args.self.now.taps.items c.args.self.now.lines.items adds.tap _ _ all
    (adds.kinds ∙ c.in-Ok-push.ensures.items ∙ ap (λ kind. c.args.self.now.kinds.items ++ kind ∷ []) kind)
    (ap is_server (sym kind ∙ ap Some c.in-Node.is)) adds.own adds.taps adds.lines

pub returns-clause-read : goal.returns-clause-read
returns-clause-read g c = λ files done known may all none.
    let tap = c.args.tap.now in
    let kind = ap (option_map (λ h. h.of)) (sym c.in-Some.is) ∙ c.in_ok-header.ensures.kind files known may in
    other-more files done tap c.args.self.now.kinds.items _ c.args.self.now.taps.items c.args.self.now.lines.items all
    (c.in-Ok-push.ensures.items ∙ ap (λ kind. c.args.self.now.kinds.items ++ kind ∷ []) kind)
    (ap is_server (sym kind ∙ ap Some c.in-Client.is))
