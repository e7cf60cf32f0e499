use Rattle.std.proofs.Common.{◌≡◌, ◌∙◌, length, take, refl, rules, arith}
use Rattle.std.proofs.lemmas.List.{take_at}
use Rattle.aud_input.proofs.Takes.{more_read, none_read}
use Rattle.aud_input.proofs.reading.read_file.Goals as goal

pub pieces-init : goal.pieces-init
pieces-init g c = record {
  within = c.requires.within;
  room = c.requires.room;
  failed = refl;
  calls = λ same. same;
  read = none_read _ c.args.feeding.now;
}

pub pieces-preserved : goal.pieces-preserved
pieces-preserved g c =
    let size : length c.read.new.buf ≡ c.pieces.buffer.len = omega (arith, c.read.auto.buf, c.deref_mut.ensures.len) in
    let piece : c.deref.result.now ≡ c.read.new.buf = c.deref.ensures.value ∙ take_at c.read.new.buf _ _ size in
    record {
      within = c.in_ok-feed-in-Ok.ensures.within;
      room = c.make_room.ensures;
      failed = search rules;
      calls = λ same. omega (arith, c.pieces.invariant.calls same, c.in-Ok.ensures.calls, c.pieces-test.true, c.in_ok-feed-in-Ok.ensures.pieces);
      read = more_read _ _ _ c.args.feeding.now c.pieces.feeding c.feed.new.self (take c.in-Ok.n c.deref.result.now) c.pieces.invariant.read (rw piece c.in-Ok.ensures.bytes.0) c.in_ok-feed-in-Ok.ensures.taken;
    }
