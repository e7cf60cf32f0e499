use Rattle.std.proofs.Common.{None, Some, ap, refl, slice_get, sym, subst, ◌∙◌}
use Rattle.std.specs.List.{AllByRecursion}
use Rattle.aud_parts.specs.ServersRead.{header_for}
use Rattle.aud_parts.specs.TapRuns.{BeginsWithBytes, IsReadable, runs_lines}
use Rattle.aud_parts.proofs.ServersLemmas.{header-told, kind-told}
use Rattle.aud_parts.proofs.servers.first_header.Goals as goal

pub returns-in-Some-2-clause-kind : goal.returns-in-Some-2-clause-kind
returns-in-Some-2-clause-kind g c = λ files known may.
    let runs = c.runs.ensures in
    let at =
    sym c.in-Some.is
    ∙ c.in_ok-line.ensures.line files known (subst (AllByRecursion (IsReadable files)) (sym runs) may.readable) (subst (AllByRecursion (BeginsWithBytes files)) (sym runs) may.begun)
    ∙ ap (λ runs. slice_get (runs_lines files runs) 0) runs in
    kind-told files c.args.tap.now (Some c.in-Some.line) (Some record { line = c.in-Some.line; of = c.in-Some-2.of; version = c.in-Some-2.version }) at
    (sym c.in-Some-2.is ∙ c.in_ok-of-in-Some.ensures ∙ ap (λ name. header_for name c.in-Some.line) c.name.ensures.value)

pub returns-in-Some-2-clause-header : goal.returns-in-Some-2-clause-header
returns-in-Some-2-clause-header g c = λ files known may.
    let runs = c.runs.ensures in
    let at =
    sym c.in-Some.is
    ∙ c.in_ok-line.ensures.line files known (subst (AllByRecursion (IsReadable files)) (sym runs) may.readable) (subst (AllByRecursion (BeginsWithBytes files)) (sym runs) may.begun)
    ∙ ap (λ runs. slice_get (runs_lines files runs) 0) runs in
    header-told files c.args.tap.now (Some c.in-Some.line) (Some record { line = c.in-Some.line; of = c.in-Some-2.of; version = c.in-Some-2.version }) at
    (sym c.in-Some-2.is ∙ c.in_ok-of-in-Some.ensures ∙ ap (λ name. header_for name c.in-Some.line) c.name.ensures.value) refl

pub returns-in-None-2-clause-kind : goal.returns-in-None-2-clause-kind
returns-in-None-2-clause-kind g c = λ files known may.
    let runs = c.runs.ensures in
    let at =
    sym c.in-Some.is
    ∙ c.in_ok-line.ensures.line files known (subst (AllByRecursion (IsReadable files)) (sym runs) may.readable) (subst (AllByRecursion (BeginsWithBytes files)) (sym runs) may.begun)
    ∙ ap (λ runs. slice_get (runs_lines files runs) 0) runs in
    kind-told files c.args.tap.now (Some c.in-Some.line) None at
    (sym c.in-None-2.is ∙ c.in_ok-of-in-Some.ensures ∙ ap (λ name. header_for name c.in-Some.line) c.name.ensures.value)

pub returns-in-None-clause-kind : goal.returns-in-None-clause-kind
returns-in-None-clause-kind g c = λ files known may.
    let runs = c.runs.ensures in
    let at =
    sym c.in-None.is
    ∙ c.in_ok-line.ensures.line files known (subst (AllByRecursion (IsReadable files)) (sym runs) may.readable) (subst (AllByRecursion (BeginsWithBytes files)) (sym runs) may.begun)
    ∙ ap (λ runs. slice_get (runs_lines files runs) 0) runs in
    kind-told files c.args.tap.now None None at refl
