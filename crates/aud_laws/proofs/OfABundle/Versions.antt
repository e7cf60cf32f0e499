-- A record is read only in a tap of a version that has it.
use Rattle.std.proofs.Common.{◌≡◌, ℕ, List, Bool, true, false, cond, not, Result, Ok, refl, codes, subst}
use Rattle.std.proofs.lemmas.Bool.{both_ways, not-true}
use Rattle.serde_json.specs.Data.{Data}
use Rattle.aud_base.specs.Steps.{◌>>=◌, need}
use Rattle.aud_base.proofs.StepLemmas.{same-ok, part-of, guard-ok}
use Rattle.aud_tap.specs.declared.records.Version.{Version}
use Rattle.aud_tap.specs.declared.records.Version.TheVariants.{One, Two}
use Rattle.aud_tap.specs.declared.records.NodeRec.{NodeRec}
use Rattle.aud_tap.specs.declared.records.NodeRec.TheVariants.{Start, Take, Opened, Join, Leave, Broke, Back, Gone}
use Rattle.aud_tap.specs.Limits.{fits, max_id, max_offset, max_namespace}
use Rattle.aud_tap.specs.Forms.{is_text}
use Rattle.aud_reader.specs.declared.fault.InputCode.{InputCode}
use Rattle.aud_reader.specs.declared.fault.InputCode.TheVariants.{Field, Limit}
use Rattle.aud_reader.specs.Fields.{id_at, bounded_id_at, namespace_at, id_or_null_at}
use Rattle.aud_reader.specs.NodeRecord.{fits_if_there, start_of, open_of, member_of, pid_and_turn, is_in_version, node_record_of}
use Rattle.aud_writer.specs.OfABundle.{is_of_version}

-- the record is of version 1 too
abbrev IsOld : NodeRec → Type 0
IsOld r = is_of_version One r ≡ true

-- a record is read in the one way, where the test holds, or in the other
either : {A P : Type 0} (b : Bool) (x y : Result A InputCode) (r : A) → cond b x y ≡ Ok r → (b ≡ true → x ≡ Ok r → P) → (y ≡ Ok r → P) → P
either true x y r e one other = one refl e
either false x y r e one other = other e

-- what is made of what was read before it
made-old : {A : Type 0} (read : Result A InputCode) (made : A → NodeRec) (r : NodeRec) → ((x : A) → IsOld (made x)) → (read >>= λ x. Ok (made x)) ≡ Ok r → IsOld r
made-old read made r old e =
    let x = part-of read _ r e in
    subst IsOld (same-ok (made x.0) r x.2) (old x.0)

start-old : (d : Data) (r : NodeRec) → start_of d ≡ Ok r → IsOld r
unfolding start_of
start-old d r e =
    let off = part-of (need Field (id_or_null_at (codes "off") d)) _ r e in
    let fit = guard-ok Limit (fits_if_there off.0) _ r off.2 in
    subst IsOld (same-ok (Start off.0) r fit.1) refl

open-old : (d : Data) (r : NodeRec) → open_of d ≡ Ok r → IsOld r
unfolding open_of
open-old d r e =
    let pid = part-of (need Field (id_at (codes "pid") d)) _ r e in
    let sid = part-of (need Field (id_at (codes "sid") d)) _ r pid.2 in
    let nsp = part-of (need Field (namespace_at (codes "nsp") d)) _ r sid.2 in
    let pid_fits = guard-ok Limit (fits max_id pid.0) _ r nsp.2 in
    let sid_fits = guard-ok Limit (fits max_id sid.0) _ r pid_fits.1 in
    let nsp_fits = guard-ok Limit (fits max_namespace nsp.0) _ r sid_fits.1 in
    subst IsOld (same-ok (Opened pid.0 sid.0 nsp.0) r nsp_fits.1) refl

-- a record whose word isn't `takes` is of version 1 too
read-old : (kind : List ℕ) (d : Data) (r : NodeRec) → not (is_text kind (codes "takes")) ≡ true → node_record_of kind d ≡ Ok r → IsOld r
unfolding node_record_of
read-old kind d r known e =
    either (is_text kind (codes "start")) _ _ r e (λ is. start-old d r) (λ e1.
    either (is_text kind (codes "take")) _ _ r e1 (λ is. made-old (bounded_id_at max_offset (codes "off") d) Take r (λ off. refl)) (λ e2.
    either (is_text kind (codes "takes")) _ _ r e2 (λ is e. absurd (both_ways (is_text kind (codes "takes")) (not-true (is_text kind (codes "takes")) known) is)) (λ e3.
    either (is_text kind (codes "open")) _ _ r e3 (λ is. open-old d r) (λ e4.
    either (is_text kind (codes "join")) _ _ r e4 (λ is. made-old (member_of d) (λ m. Join m.0 m.1) r (λ m. refl)) (λ e5.
    either (is_text kind (codes "leave")) _ _ r e5 (λ is. made-old (member_of d) (λ m. Leave m.0 m.1) r (λ m. refl)) (λ e6.
    either (is_text kind (codes "break")) _ _ r e6 (λ is. made-old (pid_and_turn d) (λ t. Broke t.0 t.1) r (λ t. refl)) (λ e7.
    either (is_text kind (codes "back")) _ _ r e7 (λ is. made-old (pid_and_turn d) (λ t. Back t.0 t.1) r (λ t. refl)) (λ e8.
    either (is_text kind (codes "gone")) _ _ r e8 (λ is. made-old (bounded_id_at max_id (codes "pid") d) Gone r (λ pid. refl)) (λ e9. cc)))))))))

-- a node's record that was read is of the version of its tap
pub read-version : (version : Version) (kind : List ℕ) (d : Data) (r : NodeRec) → is_in_version version kind ≡ true → node_record_of kind d ≡ Ok r → is_of_version version r ≡ true
read-version One kind d r known e = read-old kind d r known e
read-version Two kind d r known e = refl
