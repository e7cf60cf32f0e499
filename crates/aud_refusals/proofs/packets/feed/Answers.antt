use Rattle.std.proofs.Common.{◌∷◌, [], refl, subst, Option, Ok}
use Rattle.aud_eio.specs.Packet.{engine_view}
use Rattle.aud_sio.specs.Message.{messages_of}
use Rattle.aud_sio.specs.Assembly.{Continues, answer_of, whole_view}
use Rattle.aud_sio.specs.declared.whole.Whole.{Whole}
use Rattle.aud_refusals.proofs.Feeding.{OnFed-refused}
use Rattle.aud_refusals.proofs.packets.feed.Goals as goal

pub returns-in-Ok-Some : goal.returns-in-Ok-Some
returns-in-Ok-Some c =
    record {
      answers = Ok (whole_view c.in-Ok-Some._whole) ∷ [];
      continues = subst (λ (o : Option Whole). Continues c.args.assembler.now (messages_of (engine_view c.args.packet)) (answer_of o) c.feed.new.self) c.in-Ok-Some.field-0-is c.in-Ok-Some.ensures.answers;
      fault_is = refl;
      waits = λ _. c.in-Ok-Some.ensures.waits;
    }

pub returns-in-Ok-None : goal.returns-in-Ok-None
returns-in-Ok-None c =
    record {
      answers = [];
      continues = subst (λ (o : Option Whole). Continues c.args.assembler.now (messages_of (engine_view c.args.packet)) (answer_of o) c.feed.new.self) c.in-Ok-None.field-0-is c.in-Ok-None.ensures.answers;
      fault_is = refl;
      waits = λ _. c.in-Ok-None.ensures.waits;
    }

pub returns-in-Err : goal.returns-in-Err
returns-in-Err c =
    OnFed-refused c.unless_memory.result c.args.assembler.now (messages_of (engine_view c.args.packet)) c.feed.new.self c.in-Err.fault
    c.unless_memory.ensures.memory c.unless_memory.ensures.fault c.in-Err.ensures.answers c.in-Err.ensures.waits
