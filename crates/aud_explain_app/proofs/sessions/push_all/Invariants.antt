use Rattle.std.proofs.Common.{◌≡◌, ◌++◌, flat_map, map, string_bytes}
use Rattle.aud_explain_app.specs.Texts.{causes_in, text_in}
use Rattle.aud_explain_app.proofs.sessions.push_all.Given as goal

-- with what is left all is there
abbrev pub invariant-loop-one : goal.invariant-loop-one
invariant-loop-one l = record {
  text : string_bytes l.out ++ flat_map text_in l.one-iterator.rest.items ≡ string_bytes l.fn.out ++ flat_map text_in l.fn.told.items;
  causes : l.causes.items ++ map causes_in l.one-iterator.rest.items ≡ l.fn.causes.items ++ map causes_in l.fn.told.items;
}
