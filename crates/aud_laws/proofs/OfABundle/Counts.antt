-- How many different pids there are, and how many taps of each kind.
use Rattle.std.proofs.Common.{◌≡◌, ℕ, ◌+◌, ◌<◌, ◌≤◌, List, [], ◌∷◌, ◌++◌, Option, Some, None, option_to_list, Ok, cond, length, get_or, set, refl, sym, ap, ◌∙◌, arith, append-nil}
use Rattle.std.specs.List.{filter_map, cons_option}
use Rattle.std.specs.Set.{distinct_count}
use Rattle.std.proofs.lemmas.Bool.{ltb-true}
use Rattle.std.proofs.lemmas.Grind.{flat_map-append}
use Rattle.std.proofs.lemmas.List.Elements.{filter_map-append}
use Rattle.std.proofs.lemmas.List.Sums.{sum_by_push}
use Rattle.aud_tap.specs.declared.records.Version.{Version}
use Rattle.aud_tap.specs.declared.records.TapKind.{TapKind}
use Rattle.aud_tap.specs.declared.records.TapKind.TheVariants as kind
use Rattle.aud_tap.specs.declared.records.NodeRec.{NodeRec}
use Rattle.aud_tap.specs.declared.taps.Tap.{Tap}
use Rattle.aud_tap.specs.Forms.{is_text}
use Rattle.aud_tap.specs.RecordFields.{pid_of}
use Rattle.aud_reader.specs.declared.fault.InputCode.TheVariants.{Limit}
use Rattle.aud_reader.specs.Bundle.{max_node_taps, max_client_taps, kind_of_tap, same_kind, taps_on, pids_in, pids_of, no_records, another_tap}
use Rattle.aud_reader.proofs.KeptLemmas.{around, pids-empty}
use Rattle.aud_reader.proofs.LineSteps.{guarded}
use Rattle.aud_reader.proofs.TextsLemmas.{count-moved}

-- ---- pids

-- the pids of a node's records with one more
pub pids-last : (records : List NodeRec) (rec : NodeRec) → filter_map pid_of (records ++ rec ∷ []) ≡ filter_map pid_of records ++ option_to_list (pid_of rec)
pids-last records rec = filter_map-append pid_of records (rec ∷ []) ∙ ap (λ ps. filter_map pid_of records ++ ps) (alone (pid_of rec))
  where
    alone : (o : Option (List ℕ)) → cons_option o [] ≡ option_to_list o
    alone None = refl
    alone (Some pid) = refl

-- another tap in the place of one, which has more pids than that one
pub count-set : (ts : List Tap) (i : ℕ) (t t' : Tap) (more : List (List ℕ)) → i < length ts → get_or ts i t ≡ t → pids_in t'.records ≡ pids_in t.records ++ more
    → distinct_count is_text (pids_of (set ts i t')) ≡ distinct_count is_text (pids_of ts ++ more)
count-set ts i t t' more short at is =
    let here = around ts i t short at in
    ap (distinct_count is_text) (here.put t' ∙ ap (λ ps. here.before ++ ps ++ here.after) is)
    ∙ count-moved here.before (pids_in t.records) here.after more
    ∙ ap (λ ps. distinct_count is_text (ps ++ more)) (sym here.is)

-- a new tap, which has no records, has no pids
pub pids-begun : (ts : List Tap) (name : List ℕ) (of : TapKind) (version : Version) → pids_of (ts ++ record { name = name; version = version; records = no_records of } ∷ []) ≡ pids_of ts
pids-begun ts name of version =
    rw (flat_map-append (λ (t : Tap). pids_in t.records) ts (record { name = name; version = version; records = no_records of } ∷ []), pids-empty of, append-nil) refl

-- ---- taps

module _ (ts : List Tap) (name : List ℕ) (version : Version) where
  abbrev begun : TapKind → Tap
  begun of = record { name = name; version = version; records = no_records of }

  -- with a new tap there is one more of its kind
  on-begun : (k of : TapKind) → taps_on k (ts ++ begun of ∷ []) ≡ taps_on k ts + cond (same_kind k (kind_of_tap (no_records of))) 1 0
  on-begun k of = sum_by_push (λ (t : Tap). cond (same_kind k (kind_of_tap t.records)) 1 0) ts (begun of)

  -- and not more taps of nodes than may be
  pub nodes-begun : (of : TapKind) → taps_on kind.Node ts ≤ max_node_taps → another_tap of ts ≡ Ok tt → taps_on kind.Node (ts ++ begun of ∷ []) ≤ max_node_taps
  nodes-begun kind.Stream few room = let is = on-begun kind.Node kind.Stream in omega (arith, is)
  nodes-begun kind.Node few room =
      let is = on-begun kind.Node kind.Node in
      let less : taps_on kind.Node ts < max_node_taps = ltb-true _ _ (guarded Limit _ room) in
      omega (arith, is, less)
  nodes-begun kind.Client few room = let is = on-begun kind.Node kind.Client in omega (arith, is)

  -- nor of clients
  pub clients-begun : (of : TapKind) → taps_on kind.Client ts ≤ max_client_taps → another_tap of ts ≡ Ok tt → taps_on kind.Client (ts ++ begun of ∷ []) ≤ max_client_taps
  clients-begun kind.Stream few room = let is = on-begun kind.Client kind.Stream in omega (arith, is)
  clients-begun kind.Node few room = let is = on-begun kind.Client kind.Node in omega (arith, is)
  clients-begun kind.Client few room =
      let is = on-begun kind.Client kind.Client in
      let less : taps_on kind.Client ts < max_client_taps = ltb-true _ _ (guarded Limit _ room) in
      omega (arith, is, less)
