use Rattle.std.proofs.Common.{ap, ◌∙◌, map}
use Rattle.serde_json.specs.Data.{object}
use Rattle.serde_json.proofs.Views.{view-Object}
use Rattle.aud_writer.specs.Written.{encoded}
use Rattle.aud_writer.proofs.WrittenBack.{event-put}
use Rattle.aud_writer.proofs.stream.event_value.Goals as goal

pub returns-clause-data : goal.returns-clause-data
returns-clause-data c =
    let e = c.args.event.now in
    view-Object c.in_ok-members-7.members ∙
    rw (
      c.in_ok-members-7.ensures,
      c.in_ok-members-6.ensures,
      c.in_ok-members-5.ensures,
      c.in_ok-members-4.ensures,
      c.in_ok-members-3.ensures,
      c.in_ok-members-2.ensures,
      c.in_ok-members.ensures,
      c.new-members.ensures.empty,
      c.in_ok-bin.ensures.list,
      c.in_ok-except.ensures,
      c.in_ok-rooms.ensures,
      c.as_slice.ensures,
      c.as_slice-2.ensures,
      c.as_slice-3.ensures,
      c.as_str.ensures,
      c.as_str-2.ensures,
      c.as_str-3.ensures,
    )
    (ap object (event-put (map encoded e.bin) e.except e.nsp e.off e.rooms e.text))
