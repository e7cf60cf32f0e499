use Rattle.std.proofs.Common.{◌≡◌, take, map}
use Rattle.serde_json.specs.View.{items_view}
use Rattle.aud_writer.specs.Written.{encoded, text_items}
use Rattle.aud_writer.specs.BytesBack.{DecodeBack}
use Rattle.aud_writer.proofs.fields.blobs.Given as goal

abbrev pub invariant-loop-bytes : goal.invariant-loop-bytes
invariant-loop-bytes l = record {
  list : items_view l.list.items ≡ text_items (map encoded (take l.bytes-index l.blobs));
  back : DecodeBack (take l.bytes-index l.blobs);
}
