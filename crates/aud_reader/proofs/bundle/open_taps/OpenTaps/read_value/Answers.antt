use Rattle.std.proofs.Common.{◌∙◌, sym}
use Rattle.aud_json.specs.View.{view}
use Rattle.aud_reader.specs.SoFar.{taps_so_far}
use Rattle.aud_reader.proofs.KeptLemmas.{place-bound, named-first}
use Rattle.aud_reader.proofs.bundle.open_taps.OpenTaps.read_value.Goals as goal

pub go_on-requires-clause-place : goal.go_on-requires-clause-place
go_on-requires-clause-place c = place-bound c.args.name.now (taps_so_far c.args.self.now) c.in-Some.place (sym c.place.ensures ∙ c.in-Some.is)

pub returns-in-Some-clause-taps : goal.returns-in-Some-clause-taps
returns-in-Some-clause-taps c = rw c.in_ok-kind.ensures (c.go_on.ensures.taps c.args.name.now (sym c.place.ensures ∙ c.in-Some.is))

pub returns-in-None-clause-taps : goal.returns-in-None-clause-taps
returns-in-None-clause-taps c =
    rw (
      c.in_ok-kind.ensures,
      named-first (taps_so_far c.args.self.now) c.args.name.now c.in_ok-kind.kind.now (view c.args.d.now) (sym c.place.ensures ∙ c.in-None.is),
    )
    c.begin.ensures.taps
