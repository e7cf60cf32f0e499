use Rattle.std.proofs.Common.{refl}
use Rattle.aud_explain_app.proofs.program.explained.Goals as goal

pub returns-clause-explanation : goal.returns-clause-explanation
returns-clause-explanation g c =
    record {
      told = c.in_ok-output.field-0;
      is_told = c.in_ok-output.ensures.told;
      is_in = c.in_ok-output-2.ensures.text;
      status_is = c.in_ok-output-2.ensures.status;
      left_out_are = refl;
    }
