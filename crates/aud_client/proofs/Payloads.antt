-- What a payload tells, by its fields.
use Rattle.std.proofs.Common.{◌≡◌, ℕ, List, Option, Some, None, option_map, option_and_then, codes, refl, ap, ◌∙◌}
use Rattle.serde_json.specs.Data.{Data}
use Rattle.serde_json.specs.Find.{as_str}
use Rattle.aud_json.specs.Shown.{shown}
use Rattle.aud_json.proofs.Shown.{at-shown, as_str-shown_field}
use Rattle.aud_tap.specs.Json.{text_at}
use Rattle.aud_client.specs.Replies.{reply_in_value}
use Rattle.aud_client.specs.StaySeen.{asked_by}

-- a text is found in what is shown as in the value
text_at-shown : (key : List ℕ) (d : Data) → text_at key (shown d) ≡ text_at key d
text_at-shown key d = at-shown as_str as_str-shown_field key d

reply-shown : (o : Option Data) → reply_in_value (option_map shown o) ≡ reply_in_value o
reply-shown None = refl
reply-shown (Some d) = rw (text_at-shown (codes "pid") d, text_at-shown (codes "sid") d) refl

asked-shown : (o : Option Data) → option_and_then asked_by (option_map shown o) ≡ option_and_then asked_by o
asked-shown None = refl
asked-shown (Some d) = rw (text_at-shown (codes "pid") d, text_at-shown (codes "offset") d) refl

module _ (f : Data) (o : Option Data) (e : Some f ≡ option_map shown o) where
  -- a reply
  pub reply_by_fields : reply_in_value (Some f) ≡ reply_in_value o
  reply_by_fields = ap reply_in_value e ∙ reply-shown o

  -- what is asked for
  pub asked_by_fields : asked_by f ≡ option_and_then asked_by o
  asked_by_fields = ap (option_and_then asked_by) e ∙ asked-shown o
