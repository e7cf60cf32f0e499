-- What a reader refuses, and what help names.
use Rattle.std.specs.Prelude.{◌≡◌, ◌↔◌, ℕ, List, codes, Option, Some, None, IsSome, Err}
use Rattle.serde_json.specs.Data.{Data}
use Rattle.aud_tap.specs.Json.{text_at}
use Rattle.aud_reader.specs.declared.fault.InputCode.TheVariants.{Field, Limit}
use Rattle.aud_reader.specs.Record.{value_record}
use Rattle.aud_refusals.specs.declared.member.Member.{Member}
use Rattle.aud_refusals.specs.declared.member.Member.TheVariants as member
use Rattle.aud_refusals.specs.declared.excess.Excess.{Excess}
use Rattle.aud_refusals.specs.Members.{members_of, first_unformed}
use Rattle.aud_refusals.specs.Excess.{first_excess}

-- the member that help names as missing or of another type or form, by the kind that the value says
abbrev pub unformed_of : Data → Option (List ℕ) → Option Member
unformed_of d None = Some member.Kind
unformed_of d (Some kind) = first_unformed (members_of kind) d

-- the member that help names as outside its limits
abbrev pub excess_by : Data → Option (List ℕ) → Option Excess
excess_by d None = None
excess_by d (Some kind) = first_excess (members_of kind) d

-- a value is refused for a field, whatever stands in other lines, exactly where help names one
abbrev pub FieldIsNamed : Type 0
FieldIsNamed = (d : Data) → (value_record d ≡ Err Field) ↔ IsSome (unformed_of d (text_at (codes "k") d))

-- and for a limit exactly where help names a field that is outside its own, and no other
abbrev pub LimitIsNamed : Type 0
LimitIsNamed = (d : Data) → (value_record d ≡ Err Limit) ↔ ((unformed_of d (text_at (codes "k") d) ≡ None) × IsSome (excess_by d (text_at (codes "k") d)))
