use Rattle.std.proofs.Common.{◌≡◌, ◌<◌, ◌||◌, ◌∙◌, [], Bool, Some, ap, arith, length, sym, take}
use Rattle.std.specs.List.{list_any}
use Rattle.std.proofs.Math.Bool.{or-false}
use Rattle.std.proofs.lemmas.List.{take_all}
use Rattle.aud_tap.specs.declared.records.NodeRec.{NodeRec}
use Rattle.aud_tap.specs.declared.taps.Records.{Records}
use Rattle.aud_tap.specs.declared.taps.Tap.{Tap}
use Rattle.aud_node.specs.Cluster.{node_recs}
use Rattle.aud_parts.specs.Part.{opens_nsp, grants}
use Rattle.aud_parts.specs.Private.OwnRecords.{has, passes_own}
use Rattle.aud_parts.proofs.ListSteps.{any-item, any-more}
use Rattle.aud_parts.proofs.LeftLemmas.{no-node}
use Rattle.aud_parts.proofs.part.audience.Audience.build.Goals as goal

pub loop-number-preserved : goal.loop-number-preserved
loop-number-preserved c =
    let recs = c.in-Node.recs in
    let n = c.loop-number.number in
    let rec = c.index.result.now in
    let within : n < length recs = omega (arith, c.loop-number-test.true, c.len-number-end.ensures) in
    record {
      namespaces = λ q.
          any-more (passes_own (has c.args.own.now) (opens_nsp q)) recs n rec within c.index.ensures (has c.loop-tap.audience.namespaces q) (has c.loop-number.audience.namespaces q)
          (has c.note_own.new.self.namespaces q) (c.loop-number.invariant.namespaces q) (c.in_ok-note_own.ensures.namespaces q);
      rooms = λ q.
          any-more (passes_own (has c.args.own.now) (grants q)) recs n rec within c.index.ensures (has c.loop-tap.audience.rooms q) (has c.loop-number.audience.rooms q)
          (has c.note_own.new.self.rooms q) (c.loop-number.invariant.rooms q) (c.in_ok-note_own.ensures.rooms q);
    }

pub loop-tap-preserved-in_default : goal.loop-tap-preserved-in_default
loop-tap-preserved-in_default c =
    let tap = c.tap-item.result in
    let none : node_recs (Some tap.records) ≡ [] = no-node tap.records c.in_default.not-Node in
    let same : (test : NodeRec → Bool) (b : Bool) → b ≡ (b || list_any test (node_recs (Some tap.records))) =
    λ test b. sym (or-false b) ∙ ap (λ recs. b || list_any test recs) (sym none) in
    record {
      namespaces = λ q.
          any-item (λ (tap : Tap). list_any (passes_own (has c.args.own.now) (opens_nsp q)) (node_recs (Some tap.records))) c.args.taps.now c.loop-tap.tap-index tap
          c.loop-tap-test.true c.tap-item.is (has c.loop-tap.audience.namespaces q) (has c.loop-tap.audience.namespaces q) (c.loop-tap.invariant.namespaces q)
          (same (passes_own (has c.args.own.now) (opens_nsp q)) (has c.loop-tap.audience.namespaces q));
      rooms = λ q.
          any-item (λ (tap : Tap). list_any (passes_own (has c.args.own.now) (grants q)) (node_recs (Some tap.records))) c.args.taps.now c.loop-tap.tap-index tap
          c.loop-tap-test.true c.tap-item.is (has c.loop-tap.audience.rooms q) (has c.loop-tap.audience.rooms q) (c.loop-tap.invariant.rooms q)
          (same (passes_own (has c.args.own.now) (grants q)) (has c.loop-tap.audience.rooms q));
    }

pub loop-tap-preserved : goal.loop-tap-preserved
loop-tap-preserved c =
    let tap = c.tap-item.result in
    let recs = c.in-Node.recs in
    let all : (test : NodeRec → Bool) (b : Bool) → (b || list_any test (take c.loop-number.number recs)) ≡ (b || list_any test (node_recs (Some tap.records))) =
    λ test b.
    ap (λ rs. b || list_any test rs) (take_all c.loop-number.number recs (omega (arith, c.loop-number-test.false)) ∙ ap (λ (rs : Records). node_recs (Some rs)) (sym c.in-Node.is)) in
    record {
      namespaces = λ q.
          any-item (λ (tap : Tap). list_any (passes_own (has c.args.own.now) (opens_nsp q)) (node_recs (Some tap.records))) c.args.taps.now c.loop-tap.tap-index tap
          c.loop-tap-test.true c.tap-item.is (has c.loop-tap.audience.namespaces q) (has c.loop-number.audience.namespaces q) (c.loop-tap.invariant.namespaces q)
          (c.loop-number.invariant.namespaces q ∙ all (passes_own (has c.args.own.now) (opens_nsp q)) (has c.loop-tap.audience.namespaces q));
      rooms = λ q.
          any-item (λ (tap : Tap). list_any (passes_own (has c.args.own.now) (grants q)) (node_recs (Some tap.records))) c.args.taps.now c.loop-tap.tap-index tap
          c.loop-tap-test.true c.tap-item.is (has c.loop-tap.audience.rooms q) (has c.loop-number.audience.rooms q) (c.loop-tap.invariant.rooms q)
          (c.loop-number.invariant.rooms q ∙ all (passes_own (has c.args.own.now) (grants q)) (has c.loop-tap.audience.rooms q));
    }
