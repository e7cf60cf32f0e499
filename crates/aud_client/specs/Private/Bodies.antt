-- What a frame holds of what came.
use Rattle.std.specs.Prelude.{ℕ, List, [], map}
use Rattle.aud_sio.specs.Message.{blob_bytes}
use Rattle.aud_sio.specs.Assembly.{blob_view}
use Rattle.aud_node.specs.Stream.{Text}
use Rattle.aud_client.specs.declared.frame.Body.{Body}
use Rattle.aud_client.specs.declared.frame.Body.TheVariants.{Entry, Own}

abbrev pub text_in : Body → Text
text_in (Entry event) = event.now.text
text_in (Own came) = came.value.text.now

-- the attachments; a known event has none
abbrev pub bin_in : Body → List (List ℕ)
bin_in (Entry event) = []
bin_in (Own came) = map blob_bytes (map blob_view came.value.bin.items)
