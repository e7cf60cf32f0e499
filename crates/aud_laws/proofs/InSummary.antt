-- Each cause has a name of the table by which a summary counts them.
use Rattle.std.proofs.Common.{◌≡◌, true, false, Some, None, refl}
use Rattle.std.specs.List.{list_any}
use Rattle.std.specs.Str.{bytes_eq}
use Rattle.aud_causes.specs.declared.cause.Cause.{Cause}
use Rattle.aud_causes.specs.declared.cause.Cause.TheVariants.{BodyCameTwice, MissingBreak, NodeBehindBreak, OpenNotRecorded}
use Rattle.aud_causes.specs.Table.{id_text}
use Rattle.aud_explain_app.specs.Summary.Causes.{cause_names}

-- of each alike
pub named_in_summary : (cause : Cause) → list_any (bytes_eq (id_text cause)) cause_names ≡ true
unfolding cause_names
named_in_summary (NodeBehindBreak broke back high low) = refl
named_in_summary (BodyCameTwice first again true) = refl
named_in_summary (BodyCameTwice first again false) = refl
named_in_summary (MissingBreak turn begin back (Some stay)) = refl
named_in_summary (MissingBreak turn begin back None) = refl
named_in_summary (OpenNotRecorded (Some first)) = refl
named_in_summary (OpenNotRecorded None) = refl
named_in_summary _ = refl
