-- The pids that nodes' records name, by the logs that are kept.
use Rattle.std.proofs.Common.{◌≡◌, ◌||◌, List, [], ◌∷◌, ◌++◌, length, map, refl, ap, ◌∙◌, Option, Some, None, option_map, slice_get, bytes_eq}
use Rattle.std.specs.List.{cons_option, filter, filter_map, flat_map, list_any}
use Rattle.std.proofs.lemmas.List.{length-map}
use Rattle.std.proofs.lemmas.List.Elements.{filter_agree}
use Rattle.std.proofs.lemmas.Option.{slice_get-map}
use Rattle.std.specs.Option.{option_flatten}
use Rattle.aud_base.specs.FirstTexts.{with_texts}
use Rattle.aud_base.specs.Lists.{numbers_from}
use Rattle.aud_base.proofs.FirstTexts.{any-once, first-texts}
use Rattle.aud_tap.specs.declared.records.NodeRec.{NodeRec}
use Rattle.aud_tap.specs.declared.records.StreamRec.{StreamRec}
use Rattle.aud_tap.specs.declared.taps.Records.{Records}
use Rattle.aud_tap.specs.declared.taps.Records.TheVariants.{Stream, Node, Client}
use Rattle.aud_tap.specs.declared.taps.Tap.{Tap}
use Rattle.aud_node.specs.Cluster.{cluster_of, node_recs}
use Rattle.aud_node.specs.NamedPids.{node_pids, named_pids}
use Rattle.aud_node.specs.NodeTap.{NodeTap}
use Rattle.aud_node.specs.NodeTaps.{node_of_records, node_tap}
use Rattle.aud_node.specs.OwnPlaces.{has_own, own_places}
use Rattle.aud_node.specs.OwnRecords.{is_pid, record_names}
use Rattle.aud_node.specs.Stream.{Text}
use Rattle.aud_node.specs.TurnRecords.{pid_of}
use Rattle.aud_node.specs.Private.NodePids.{log_names, log_pids, places_naming}

-- a record that may name a pid, before others
one-more : (q : Text) (o : Option Text) (later : List Text) → list_any (λ t. bytes_eq t q) (cons_option o later) ≡ is_pid o q || list_any (λ t. bytes_eq t q) later
one-more q None later = refl
one-more q (Some t) later = refl

-- the pid stands among those that the records name where a record names it
any-named : (q : Text) (recs : List NodeRec) → list_any (λ t. bytes_eq t q) (filter_map pid_of recs) ≡ list_any (λ rec. record_names (Some rec) q) recs
any-named q [] = refl
any-named q (rec ∷ recs) = one-more q (pid_of rec) (filter_map pid_of recs) ∙ ap (λ b. is_pid (pid_of rec) q || b) (any-named q recs)

-- the same where each pid is given once
pub any-named-once : (q : Text) (recs : List NodeRec) → list_any (λ t. bytes_eq t q) (with_texts [] (filter_map pid_of recs)) ≡ list_any (λ rec. record_names (Some rec) q) recs
any-named-once q recs = any-once q (filter_map pid_of recs) ∙ any-named q recs

-- ---- the logs of all taps

log_pids-records : (stream : List StreamRec) (records : Records) → log_pids (node_of_records stream records) ≡ filter_map pid_of (node_recs (Some records))
log_pids-records stream (Stream recs) = refl
log_pids-records stream (Node recs) = refl
log_pids-records stream (Client recs) = refl

all-pids : (stream : List StreamRec) (taps : List Tap) → flat_map log_pids (map (node_tap stream) taps) ≡ flat_map node_pids taps
all-pids stream [] = refl
all-pids stream (tap ∷ taps) =
    ap (λ pids. pids ++ flat_map log_pids (map (node_tap stream) taps)) (log_pids-records stream tap.records) ∙ ap (λ pids. node_pids tap ++ pids) (all-pids stream taps)

-- the pids that went in one after another are the named ones
pub named-kept : (stream : List StreamRec) (taps : List Tap) (logs : List (Option NodeTap)) → logs ≡ map (node_tap stream) taps → with_texts [] (flat_map log_pids logs) ≡ named_pids taps
named-kept stream taps logs kept = ap (λ ls. with_texts [] (flat_map log_pids ls)) kept ∙ ap (with_texts []) (all-pids stream taps) ∙ first-texts (flat_map node_pids taps)

log_names-records : (q : Text) (stream : List StreamRec) (records : Records) → log_names q (node_of_records stream records) ≡ list_any (λ rec. record_names (Some rec) q) (node_recs (Some records))
log_names-records q stream (Stream recs) = refl
log_names-records q stream (Node recs) = refl
log_names-records q stream (Client recs) = refl

log_names-tap : (q : Text) (stream : List StreamRec) (o : Option Tap)
    → log_names q (option_flatten (option_map (node_tap stream) o)) ≡ list_any (λ rec. record_names (Some rec) q) (node_recs (option_map (λ (tap : Tap). tap.records) o))
log_names-tap q stream None = refl
log_names-tap q stream (Some tap) = log_names-records q stream tap.records

-- the places of the logs that name a pid are those of the nodes with records of it
pub naming-kept : (stream : List StreamRec) (taps : List Tap) (logs : List (Option NodeTap)) (q : Text) → logs ≡ map (node_tap stream) taps → places_naming logs q ≡ own_places (cluster_of taps) q
naming-kept stream taps logs q kept =
    filter_agree (λ place. log_names q (option_flatten (slice_get logs place))) (has_own (cluster_of taps) q)
    (λ place. ap (λ o. log_names q (option_flatten o)) (ap (λ ls. slice_get ls place) kept ∙ slice_get-map (node_tap stream) taps place) ∙ log_names-tap q stream (slice_get taps place))
    (numbers_from 0 (length logs))
    ∙ ap (λ n. filter (has_own (cluster_of taps) q) (numbers_from 0 n)) (ap length kept ∙ length-map taps (node_tap stream))
