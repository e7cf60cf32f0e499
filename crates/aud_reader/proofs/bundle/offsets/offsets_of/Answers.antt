use Rattle.std.proofs.Common.{◌≡◌, ◌+◌, ◌∷◌, ◌++◌, [], ℕ, List, map, take, sym, ap, ◌∙◌, subst, arith}
use Rattle.std.proofs.lemmas.List.{map-append, take_more}
use Rattle.aud_tap.specs.RecordFields.{offset_of}
use Rattle.aud_reader.specs.Private.Texts.{HasTexts}
use Rattle.aud_reader.proofs.TextsLemmas.{texts-put}
use Rattle.aud_reader.proofs.bundle.offsets.offsets_of.Goals as goal

pub loop-i-preserved : goal.loop-i-preserved
loop-i-preserved c =
    let all = c.args.entries.now in
    let i = c.loop-i.i in
    let entry = c.index.result.now in
    let off = offset_of entry in
    let more : take (i + 1) all ≡ take i all ++ entry ∷ [] =
    take_more all i entry (omega (arith, c.len-i-end.ensures, c.loop-i-test.true)) ∙ ap (λ e. take i all ++ e ∷ []) (sym c.index.ensures) in
    subst (λ (texts : List (List ℕ)). HasTexts c.insert.new.self texts) (sym (ap (map offset_of) more ∙ map-append offset_of (take i all) (entry ∷ [])))
    (texts-put c.loop-i.set c.insert.new.self (map offset_of (take i all)) off (rw (← c.offset.ensures, ← c.in_ok-share.ensures) c.in_ok-insert.ensures.updates) c.loop-i.invariant)
