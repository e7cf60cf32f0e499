-- Each kind of line is refused for a field or a limit as help tells.
use Rattle.std.proofs.Common.{◌≡◌, ◌↔◌, ◌⊎◌, ℕ, List, [], ◌∷◌, codes, true, false, not, cond, Option, Some, None, IsSome, is_some, Result, Ok, Err, refl, sym, ap, ◌∙◌, inl, inr}
use Rattle.std.proofs.lemmas.Bool.{cases_Bool}
use Rattle.serde_json.specs.Data.{Data}
use Rattle.aud_base.specs.Steps.{◌>>=◌, need}
use Rattle.aud_tap.specs.declared.records.TapKind.{TapKind}
use Rattle.aud_tap.specs.declared.records.Version.{Version}
use Rattle.aud_tap.specs.declared.records.TapKind.TheVariants as tap
use Rattle.aud_tap.specs.declared.records.Rec.{Rec}
use Rattle.aud_tap.specs.declared.records.Rec.TheVariants.{Header, Stream, Node, Client}
use Rattle.aud_tap.specs.declared.records.StreamRec.TheVariants.{Other}
use Rattle.aud_tap.specs.declared.records.NodeRec.TheVariants.{Take, Takes, Join, Leave, Broke, Back, Gone}
use Rattle.aud_tap.specs.declared.records.ClientRec.TheVariants.{Conn, TextIn, BytesIn, Poll, TextOut, Lost}
use Rattle.aud_tap.specs.Forms.{is_text}
use Rattle.aud_tap.specs.Json.{text_at}
use Rattle.aud_tap.specs.Limits.{max_id, max_offset}
use Rattle.aud_reader.specs.declared.fault.InputCode.{InputCode}
use Rattle.aud_reader.specs.declared.fault.InputCode.TheVariants as code
use Rattle.aud_reader.specs.Fields.{number_at, bytes_at}
use Rattle.aud_reader.specs.Header.{header_of, tap_kind, version_numbered}
use Rattle.aud_reader.specs.StreamRecord.{event_of, other_of, stream_record_of}
use Rattle.aud_reader.specs.NodeRecord.{start_of, take_of, takes_of, open_of, member_of, join_of, leave_of, pid_and_turn, break_of, back_of, gone_of, node_record_of}
use Rattle.aud_reader.specs.ClientRecord.{connection_of, message_of, binary_of, client_record_of}
use Rattle.aud_reader.specs.Record.{record_in, record_of, tap_of_kind, value_record}
use Rattle.aud_refusals.specs.declared.member.Member.{Member}
use Rattle.aud_refusals.specs.declared.member.Member.TheVariants as member
use Rattle.aud_refusals.specs.declared.excess.Excess.{Excess}
use Rattle.aud_refusals.specs.Members.{members_of, first_unformed}
use Rattle.aud_refusals.specs.Excess.{first_excess}
use Rattle.aud_refusals.specs.Laws.{FieldIsNamed, LimitIsNamed, unformed_of, excess_by}
use Rattle.aud_refusals.proofs.LawLemmas.{code_of, told, code-map, one-told, id-told, start-told, open-told, member-told, turn-told, event-told}

-- refused for another reason, where help tells of no field and no limit of one
record IsOther (c : Option InputCode) (u : Option Member) (e : Option Excess) : Type 0 where
  other : (c ≡ Some code.UnknownKind) ⊎ (c ≡ Some code.Version)
  unformed : u ≡ None
  excess : e ≡ None

-- refused as help tells, or for another reason
abbrev Agrees : Option InputCode → Option Member → Option Excess → Type 0
Agrees c u e = (c ≡ told u e) ⊎ IsOther c u e

-- a header by its two fields
abbrev header_by : Option ℕ → Option (List ℕ) → Result (TapKind × Version) InputCode
header_by a b = need code.Field a >>= (λ v. need code.Field b >>= (λ of. need code.Version (version_numbered v) >>= (λ version. need code.UnknownKind (tap_kind of) >>= (λ kind. Ok (kind, version)))))

abbrev named_by : Option Version → Option TapKind → Result (TapKind × Version) InputCode
named_by v k = need code.Version v >>= (λ version. need code.UnknownKind k >>= (λ kind. Ok (kind, version)))

-- a header
header-agrees : (d : Data) → Agrees (code_of (header_of d >>= (λ h. Ok (Header h.0 h.1)))) (first_unformed (member.Version ∷ member.Of ∷ []) d) (first_excess (member.Version ∷ member.Of ∷ []) d)
unfolding header_of
header-agrees d = go (number_at (codes "v") d) (text_at (codes "of") d)
  where
    named : (v : Option Version) (k : Option TapKind)
        → Agrees (code_of (named_by v k >>= (λ h. Ok (Header h.0 h.1)))) None None
    named None k = inr (record { other = inr refl; unformed = refl; excess = refl })
    named (Some v) None = inr (record { other = inl refl; unformed = refl; excess = refl })
    named (Some v) (Some k) = inl refl

    go : (a : Option ℕ) (b : Option (List ℕ))
        → Agrees (code_of (header_by a b >>= (λ h. Ok (Header h.0 h.1))))
        (cond (not (is_some a)) (Some member.Version) (cond (not (is_some b)) (Some member.Of) None)) None
    go None b = inl refl
    go (Some v) None = inl refl
    go (Some v) (Some of) = named (version_numbered v) (tap_kind of)

-- a line whose kind is known
combined : (kind : List ℕ) (d : Data) (of : TapKind) (r : Result Rec InputCode) (ms : List Member) → is_text kind (codes "tap") ≡ false → tap_of_kind kind ≡ Some of → record_in of kind d ≡ r → members_of kind ≡ ms
    → code_of r ≡ told (first_unformed ms d) (first_excess ms d) → Agrees (code_of (record_of kind d)) (first_unformed (members_of kind) d) (first_excess (members_of kind) d)
unfolding record_of
combined kind d of r ms other is record-is members-is same =
    let body : record_of kind d ≡ r = rw (other, is) record-is in
    rw (body, members-is) (inl same)

-- a line whose kind is that of no record
unknown : (kind : List ℕ) (d : Data) → is_text kind (codes "tap") ≡ false → tap_of_kind kind ≡ None → members_of kind ≡ []
    → Agrees (code_of (record_of kind d)) (first_unformed (members_of kind) d) (first_excess (members_of kind) d)
unfolding record_of
unknown kind d other is members-is =
    let body : record_of kind d ≡ Err code.UnknownKind = rw (other, is) refl in
    rw (body, members-is) (inr (record { other = inl refl; unformed = refl; excess = refl }))

-- a header
header : (kind : List ℕ) (d : Data) → is_text kind (codes "tap") ≡ true → Agrees (code_of (record_of kind d)) (first_unformed (members_of kind) d) (first_excess (members_of kind) d)
unfolding record_of
header kind d is =
    let body : record_of kind d ≡ (header_of d >>= (λ h. Ok (Header h.0 h.1))) = rw is refl in
    let members-is : members_of kind ≡ member.Version ∷ member.Of ∷ [] = rw is refl in
    rw (body, members-is) (header-agrees d)

-- a line of any kind
record-agrees : (kind : List ℕ) (d : Data) → Agrees (code_of (record_of kind d)) (first_unformed (members_of kind) d) (first_excess (members_of kind) d)
unfolding record_in stream_record_of node_record_of client_record_of
record-agrees kind d =
    elim (cases_Bool (is_text kind (codes "tap"))) [
      | inl e0 ↦ header kind d e0
      | inr e0 ↦
          elim (cases_Bool (is_text kind (codes "ev"))) [
            | inl e1 ↦ combined kind d tap.Stream ((event_of d) >>= (λ r. Ok (Stream r))) (member.Off ∷ member.Nsp ∷ member.Text ∷ member.Rooms ∷ member.Except ∷ member.Bin ∷ []) e0 (rw (e1) refl) (rw (e1) refl) (rw (e0, e1) refl) (code-map (event_of d) Stream ∙ (event-told d))
            | inr e1 ↦
                elim (cases_Bool (is_text kind (codes "other"))) [
                  | inl e2 ↦ combined kind d tap.Stream ((other_of d) >>= (λ r. Ok (Stream r))) (member.Off ∷ []) e0 (rw (e1, e2) refl) (rw (e1, e2) refl) (rw (e0, e1, e2) refl) (code-map (other_of d) Stream ∙ (id-told member.Off max_offset (codes "off") d Other))
                  | inr e2 ↦
                      elim (cases_Bool (is_text kind (codes "start"))) [
                        | inl e3 ↦ combined kind d tap.Node ((start_of d) >>= (λ r. Ok (Node r))) (member.OffOrNull ∷ []) e0 (rw (e1, e2, e3) refl) (rw (e3) refl) (rw (e0, e1, e2, e3) refl) (code-map (start_of d) Node ∙ (start-told d))
                        | inr e3 ↦
                            elim (cases_Bool (is_text kind (codes "take"))) [
                              | inl e4 ↦ combined kind d tap.Node ((take_of d) >>= (λ r. Ok (Node r))) (member.Off ∷ []) e0 (rw (e1, e2, e3, e4) refl) (rw (e3, e4) refl) (rw (e0, e1, e2, e3, e4) refl) (code-map (take_of d) Node ∙ (id-told member.Off max_offset (codes "off") d Take))
                              | inr e4 ↦
                                  elim (cases_Bool (is_text kind (codes "takes"))) [
                                    | inl e5 ↦ combined kind d tap.Node ((takes_of d) >>= (λ r. Ok (Node r))) (member.Off ∷ []) e0 (rw (e1, e2, e3, e4, e5) refl) (rw (e3, e4, e5) refl) (rw (e0, e1, e2, e3, e4, e5) refl) (code-map (takes_of d) Node ∙ (id-told member.Off max_offset (codes "off") d Takes))
                                    | inr e5 ↦
                                        elim (cases_Bool (is_text kind (codes "open"))) [
                                          | inl e6 ↦ combined kind d tap.Node ((open_of d) >>= (λ r. Ok (Node r))) (member.Pid ∷ member.Sid ∷ member.Nsp ∷ []) e0 (rw (e1, e2, e3, e4, e5, e6) refl) (rw (e3, e4, e5, e6) refl) (rw (e0, e1, e2, e3, e4, e5, e6) refl) (code-map (open_of d) Node ∙ (open-told d))
                                          | inr e6 ↦
                                              elim (cases_Bool (is_text kind (codes "join"))) [
                                                | inl e7 ↦ combined kind d tap.Node ((join_of d) >>= (λ r. Ok (Node r))) (member.Pid ∷ member.Room ∷ []) e0 (rw (e1, e2, e3, e4, e5, e6, e7) refl) (rw (e3, e4, e5, e6, e7) refl) (rw (e0, e1, e2, e3, e4, e5, e6, e7) refl) (code-map (join_of d) Node ∙ (code-map (member_of d) (λ m. Join m.0 m.1) ∙ member-told d))
                                                | inr e7 ↦
                                                    elim (cases_Bool (is_text kind (codes "leave"))) [
                                                      | inl e8 ↦ combined kind d tap.Node ((leave_of d) >>= (λ r. Ok (Node r))) (member.Pid ∷ member.Room ∷ []) e0 (rw (e1, e2, e3, e4, e5, e6, e7, e8) refl) (rw (e3, e4, e5, e6, e7, e8) refl) (rw (e0, e1, e2, e3, e4, e5, e6, e7, e8) refl) (code-map (leave_of d) Node ∙ (code-map (member_of d) (λ m. Leave m.0 m.1) ∙ member-told d))
                                                      | inr e8 ↦
                                                          elim (cases_Bool (is_text kind (codes "break"))) [
                                                            | inl e9 ↦ combined kind d tap.Node ((break_of d) >>= (λ r. Ok (Node r))) (member.Pid ∷ member.Turn ∷ []) e0 (rw (e1, e2, e3, e4, e5, e6, e7, e8, e9) refl) (rw (e3, e4, e5, e6, e7, e8, e9) refl) (rw (e0, e1, e2, e3, e4, e5, e6, e7, e8, e9) refl) (code-map (break_of d) Node ∙ (code-map (pid_and_turn d) (λ t. Broke t.0 t.1) ∙ turn-told d))
                                                            | inr e9 ↦
                                                                elim (cases_Bool (is_text kind (codes "back"))) [
                                                                  | inl e10 ↦ combined kind d tap.Node ((back_of d) >>= (λ r. Ok (Node r))) (member.Pid ∷ member.Turn ∷ []) e0 (rw (e1, e2, e3, e4, e5, e6, e7, e8, e9, e10) refl) (rw (e3, e4, e5, e6, e7, e8, e9, e10) refl) (rw (e0, e1, e2, e3, e4, e5, e6, e7, e8, e9, e10) refl) (code-map (back_of d) Node ∙ (code-map (pid_and_turn d) (λ t. Back t.0 t.1) ∙ turn-told d))
                                                                  | inr e10 ↦
                                                                      elim (cases_Bool (is_text kind (codes "gone"))) [
                                                                        | inl e11 ↦ combined kind d tap.Node ((gone_of d) >>= (λ r. Ok (Node r))) (member.Pid ∷ []) e0 (rw (e1, e2, e3, e4, e5, e6, e7, e8, e9, e10, e11) refl) (rw (e3, e4, e5, e6, e7, e8, e9, e10, e11) refl) (rw (e0, e1, e2, e3, e4, e5, e6, e7, e8, e9, e10, e11) refl) (code-map (gone_of d) Node ∙ (id-told member.Pid max_id (codes "pid") d Gone))
                                                                        | inr e11 ↦
                                                                            elim (cases_Bool (is_text kind (codes "conn"))) [
                                                                              | inl e12 ↦ combined kind d tap.Client ((connection_of d >>= (λ c. Ok (Conn c))) >>= (λ r. Ok (Client r))) (member.Connection ∷ []) e0 (rw (e1, e2, e3, e4, e5, e6, e7, e8, e9, e10, e11, e12) refl) (rw (e12) refl) (rw (e0, e1, e2, e3, e4, e5, e6, e7, e8, e9, e10, e11, e12) refl) (code-map (connection_of d >>= (λ c. Ok (Conn c))) Client ∙ (one-told (number_at (codes "c") d) member.Connection Conn))
                                                                              | inr e12 ↦
                                                                                  elim (cases_Bool (is_text kind (codes "in"))) [
                                                                                    | inl e13 ↦ combined kind d tap.Client ((message_of d >>= (λ t. Ok (TextIn t))) >>= (λ r. Ok (Client r))) (member.Message ∷ []) e0 (rw (e1, e2, e3, e4, e5, e6, e7, e8, e9, e10, e11, e12, e13) refl) (rw (e12, e13) refl) (rw (e0, e1, e2, e3, e4, e5, e6, e7, e8, e9, e10, e11, e12, e13) refl) (code-map (message_of d >>= (λ t. Ok (TextIn t))) Client ∙ (one-told (text_at (codes "t") d) member.Message TextIn))
                                                                                    | inr e13 ↦
                                                                                        elim (cases_Bool (is_text kind (codes "inb"))) [
                                                                                          | inl e14 ↦ combined kind d tap.Client ((binary_of d >>= (λ b. Ok (BytesIn b))) >>= (λ r. Ok (Client r))) (member.Bytes ∷ []) e0 (rw (e1, e2, e3, e4, e5, e6, e7, e8, e9, e10, e11, e12, e13, e14) refl) (rw (e12, e13, e14) refl) (rw (e0, e1, e2, e3, e4, e5, e6, e7, e8, e9, e10, e11, e12, e13, e14) refl) (code-map (binary_of d >>= (λ b. Ok (BytesIn b))) Client ∙ (one-told (bytes_at (codes "b") d) member.Bytes BytesIn))
                                                                                          | inr e14 ↦
                                                                                              elim (cases_Bool (is_text kind (codes "poll"))) [
                                                                                                | inl e15 ↦ combined kind d tap.Client ((message_of d >>= (λ t. Ok (Poll t))) >>= (λ r. Ok (Client r))) (member.Message ∷ []) e0 (rw (e1, e2, e3, e4, e5, e6, e7, e8, e9, e10, e11, e12, e13, e14, e15) refl) (rw (e12, e13, e14, e15) refl) (rw (e0, e1, e2, e3, e4, e5, e6, e7, e8, e9, e10, e11, e12, e13, e14, e15) refl) (code-map (message_of d >>= (λ t. Ok (Poll t))) Client ∙ (one-told (text_at (codes "t") d) member.Message Poll))
                                                                                                | inr e15 ↦
                                                                                                    elim (cases_Bool (is_text kind (codes "out"))) [
                                                                                                      | inl e16 ↦ combined kind d tap.Client ((message_of d >>= (λ t. Ok (TextOut t))) >>= (λ r. Ok (Client r))) (member.Message ∷ []) e0 (rw (e1, e2, e3, e4, e5, e6, e7, e8, e9, e10, e11, e12, e13, e14, e15, e16) refl) (rw (e12, e13, e14, e15, e16) refl) (rw (e0, e1, e2, e3, e4, e5, e6, e7, e8, e9, e10, e11, e12, e13, e14, e15, e16) refl) (code-map (message_of d >>= (λ t. Ok (TextOut t))) Client ∙ (one-told (text_at (codes "t") d) member.Message TextOut))
                                                                                                      | inr e16 ↦
                                                                                                          elim (cases_Bool (is_text kind (codes "lost"))) [
                                                                                                            | inl e17 ↦ combined kind d tap.Client ((Ok Lost) >>= (λ r. Ok (Client r))) ([]) e0 (rw (e1, e2, e3, e4, e5, e6, e7, e8, e9, e10, e11, e12, e13, e14, e15, e16, e17) refl) (rw (e12, e13, e14, e15, e16, e17) refl) (rw (e0, e1, e2, e3, e4, e5, e6, e7, e8, e9, e10, e11, e12, e13, e14, e15, e16) refl) (code-map (Ok Lost) Client ∙ (refl))
                                                                                                            | inr e17 ↦
                                                                                                                unknown kind d e0 (rw (e1, e2, e3, e4, e5, e6, e7, e8, e9, e10, e11, e12, e13, e14, e15, e16, e17) refl) (rw (e0, e1, e2, e3, e4, e5, e6, e7, e8, e9, e10, e11, e12, e13, e14, e15, e16) refl)
                                                                                                          ]
                                                                                                    ]
                                                                                              ]
                                                                                        ]
                                                                                  ]
                                                                            ]
                                                                      ]
                                                                ]
                                                          ]
                                                    ]
                                              ]
                                        ]
                                  ]
                            ]
                      ]
                ]
          ]
    ]

-- a line, by what it says that it is
value-agrees : (d : Data) → Agrees (code_of (value_record d)) (unformed_of d (text_at (codes "k") d)) (excess_by d (text_at (codes "k") d))
unfolding value_record
value-agrees d = go (text_at (codes "k") d)
  where
    go : (o : Option (List ℕ)) → Agrees (code_of (need code.Field o >>= (λ kind. record_of kind d))) (unformed_of d o) (excess_by d o)
    go None = inl refl
    go (Some kind) = record-agrees kind d

-- what is refused for a reason, by the reason
refused-by : {A : Type 0} (r : Result A InputCode) (c : InputCode) → code_of r ≡ Some c → r ≡ Err c
refused-by (Ok x) c is = absurd (cc)
refused-by (Err e) c is = let same : e ≡ c = cc in ap Err same

told-field : (u : Option Member) (e : Option Excess) → told u e ≡ Some code.Field → IsSome u
told-field (Some m) e is = refl
told-field None (Some x) is = absurd (cc)
told-field None None is = absurd (cc)

told-limit : (u : Option Member) (e : Option Excess) → told u e ≡ Some code.Limit → (u ≡ None) × IsSome e
told-limit (Some m) e is = absurd (cc)
told-limit None (Some x) is = (refl, refl)
told-limit None None is = absurd (cc)

some-told : (u : Option Member) (e : Option Excess) → IsSome u → told u e ≡ Some code.Field
some-told (Some m) e is = refl
some-told None e is = absurd (cc)

limit-told : (u : Option Member) (e : Option Excess) → (u ≡ None) × IsSome e → told u e ≡ Some code.Limit
limit-told (Some m) e is = let none = is.0 in absurd (cc)
limit-told None (Some x) is = refl
limit-told None None is = let some = is.1 in absurd (cc)

no-field : (c : Option InputCode) (u : Option Member) (e : Option Excess) → IsOther c u e → c ≡ Some code.Field → ⊥
no-field c u e other is = elim other.other [ inl unknown ↦ cc | inr version ↦ cc ]

no-limit : (c : Option InputCode) (u : Option Member) (e : Option Excess) → IsOther c u e → c ≡ Some code.Limit → ⊥
no-limit c u e other is = elim other.other [ inl unknown ↦ cc | inr version ↦ cc ]

module _ {A : Type 0} (r : Result A InputCode) (u : Option Member) (e : Option Excess) where
  field-both : Agrees (code_of r) u e → (r ≡ Err code.Field) ↔ IsSome u
  field-both (inl same) = (λ is. told-field u e (sym same ∙ ap code_of is), λ some. refused-by r code.Field (same ∙ some-told u e some))
  field-both (inr other) = (λ is. absurd (no-field (code_of r) u e other (ap code_of is)), λ some. let none = other.unformed in absurd (cc))

  limit-both : Agrees (code_of r) u e → (r ≡ Err code.Limit) ↔ ((u ≡ None) × IsSome e)
  limit-both (inl same) = (λ is. told-limit u e (sym same ∙ ap code_of is), λ some. refused-by r code.Limit (same ∙ limit-told u e some))
  limit-both (inr other) = (λ is. absurd (no-limit (code_of r) u e other (ap code_of is)), λ some. let none = other.excess in let there = some.1 in absurd (cc))

pub field-named : FieldIsNamed
field-named d = field-both (value_record d) (unformed_of d (text_at (codes "k") d)) (excess_by d (text_at (codes "k") d)) (value-agrees d)

pub limit-named : LimitIsNamed
limit-named d = limit-both (value_record d) (unformed_of d (text_at (codes "k") d)) (excess_by d (text_at (codes "k") d)) (value-agrees d)
