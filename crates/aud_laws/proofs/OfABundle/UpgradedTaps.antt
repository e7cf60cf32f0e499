-- Upgraded taps are those of a bundle, where the taps are that they were made from.
use Rattle.std.proofs.Common.{◌≡◌, ℕ, ◌+◌, true, cond, List, [], ◌∷◌, ◌++◌, map, refl, sym, ap, ◌∙◌, arith}
use Rattle.std.proofs.lemmas.List.Elements.{All-map, All-weaker}
use Rattle.std.proofs.lemmas.List.Sums.{sum_by-cons}
use Rattle.aud_tap.specs.declared.records.Version.{Version}
use Rattle.aud_tap.specs.declared.records.Version.TheVariants.{Two}
use Rattle.aud_tap.specs.declared.records.TapKind.{TapKind}
use Rattle.aud_tap.specs.declared.records.TapKind.TheVariants as kind
use Rattle.aud_tap.specs.declared.records.StreamRec.{StreamRec}
use Rattle.aud_tap.specs.declared.taps.Tap.{Tap}
use Rattle.aud_tap.specs.declared.taps.Records.{Records}
use Rattle.aud_tap.specs.declared.taps.Records.TheVariants.{Stream, Node, Client}
use Rattle.aud_tap.specs.TapName.{is_tap_name}
use Rattle.aud_reader.specs.Bundle.{kind_of_tap, same_kind, taps_on, pids_in, pids_of}
use Rattle.aud_node.specs.Cluster.{stream_of}
use Rattle.aud_writer.specs.OfABundle.{AreRecords, AreOfABundle}
use Rattle.aud_upgrade.specs.declared.joins.Joins.{Joins}
use Rattle.aud_upgrade.specs.Upgraded.{upgraded_records, upgraded_tap, upgraded_by}
use Rattle.aud_laws.proofs.OfABundle.UpgradedLogs.{upgraded-few, upgraded-formed, upgraded-pids}

module _ (joins : Joins) (stream : List StreamRec) where
  -- ---- one tap

  kind-kept : (records : Records) → kind_of_tap (upgraded_records joins stream records) ≡ kind_of_tap records
  kind-kept (Stream entries) = refl
  kind-kept (Node records) = refl
  kind-kept (Client records) = refl

  pids-kept : (records : Records) → pids_in (upgraded_records joins stream records) ≡ pids_in records
  pids-kept (Stream entries) = refl
  pids-kept (Node records) = upgraded-pids joins stream records
  pids-kept (Client records) = refl

  -- the records of a tap of any version become those of a tap of version 2
  records-kept : (version : Version) (records : Records) → AreRecords version records → AreRecords Two (upgraded_records joins stream records)
  records-kept version (Stream entries) are = are
  records-kept version (Client records) are = are
  records-kept version (Node records) are =
      record {
        few = let fewer = upgraded-few joins stream records in let few = are.few in omega (arith, fewer, few);
        kinds = λ i rec within. refl;
        formed = upgraded-formed joins stream records are.formed;
      }

  -- ---- all taps

  names-kept : (taps : List Tap) → map (λ tap. tap.name) (map (upgraded_tap joins stream) taps) ≡ map (λ tap. tap.name) taps
  names-kept [] = refl
  names-kept (tap ∷ taps) = ap (λ names. tap.name ∷ names) (names-kept taps)

  pub on-kept : (of : TapKind) (taps : List Tap) → taps_on of (map (upgraded_tap joins stream) taps) ≡ taps_on of taps
  on-kept of [] = refl
  on-kept of (tap ∷ taps) =
      let counts : Tap → ℕ = λ t. cond (same_kind of (kind_of_tap t.records)) 1 0 in
      sum_by-cons counts (upgraded_tap joins stream tap) (map (upgraded_tap joins stream) taps)
      ∙ ap (λ k. cond (same_kind of k) 1 0 + taps_on of (map (upgraded_tap joins stream) taps)) (kind-kept tap.records)
      ∙ ap (λ n. counts tap + n) (on-kept of taps)
      ∙ sym (sum_by-cons counts tap taps)

  pub all-pids-kept : (taps : List Tap) → pids_of (map (upgraded_tap joins stream) taps) ≡ pids_of taps
  all-pids-kept [] = refl
  all-pids-kept (tap ∷ taps) = ap (λ pids. pids ++ pids_of (map (upgraded_tap joins stream) taps)) (pids-kept tap.records) ∙ ap (λ pids. pids_in tap.records ++ pids) (all-pids-kept taps)

-- upgraded taps keep to what the taps keep to
pub upgraded-taps : (joins : Joins) (taps : List Tap) → AreOfABundle taps → AreOfABundle (upgraded_by joins taps)
upgraded-taps joins taps are =
    let stream = stream_of taps in
    record {
      named = All-map (λ (tap : Tap). is_tap_name tap.name ≡ true) (upgraded_tap joins stream) taps are.named;
      names = rw (names-kept joins stream taps) are.names;
      stream = rw (on-kept joins stream kind.Stream taps) are.stream;
      nodes = rw (on-kept joins stream kind.Node taps) are.nodes;
      clients = rw (on-kept joins stream kind.Client taps) are.clients;
      pids = rw (all-pids-kept joins stream taps) are.pids;
      records = All-map (λ (tap : Tap). AreRecords tap.version tap.records) (upgraded_tap joins stream) taps
          (All-weaker (λ (tap : Tap). AreRecords tap.version tap.records) (λ (tap : Tap). AreRecords Two (upgraded_records joins stream tap.records)) (λ tap. records-kept joins stream tap.version tap.records) taps are.records);
    }
