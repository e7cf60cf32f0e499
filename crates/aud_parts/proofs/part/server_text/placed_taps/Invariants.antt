use Rattle.std.proofs.Common.{◌≡◌, ◌≤◌, drop, length, map, take}
use Rattle.aud_writer.specs.WrittenBundle.{ended, line_texts, recs_of_taps}
use Rattle.aud_parts.specs.ServerTexts.{AreNamed, tap_text}
use Rattle.aud_parts.specs.Private.PlacedTexts.{placed_text}
use Rattle.aud_parts.proofs.part.server_text.placed_taps.Given as goal

-- the taps so far, and the text of those that are left
abbrev pub invariant-loop-tap : goal.invariant-loop-tap
invariant-loop-tap l = record {
  placed : AreNamed l.taps → l.text ≡ ended (line_texts (recs_of_taps l.taps)) → map (placed_text l.text) l.placed.items ≡ map tap_text (take l.tap-index l.taps);
  rest : AreNamed l.taps → l.text ≡ ended (line_texts (recs_of_taps l.taps)) → drop l.from l.text ≡ ended (line_texts (recs_of_taps (drop l.tap-index l.taps)));
  within : l.from ≤ length l.text;
}
