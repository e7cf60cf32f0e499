use Rattle.std.proofs.Common.{◌≡◌, ◌<◌, ◌∷◌, [], List, ℕ, map, take, set, length, false, subst, arith, refl}
use Rattle.std.specs.Io.KnownBytes.{Consumes}
use Rattle.aud_input.specs.Sources.{left_in, left_of}
use Rattle.aud_input.proofs.SourcesLemmas.{consumes-after, left-read, left-ended}
use Rattle.aud_input.proofs.sources.SourcesRead.read.Goals as goal

first-put : (b : ℕ) (xs : List ℕ) → 0 < length xs → take 1 (set xs 0 b) ≡ b ∷ []
first-put b [] h = absurd (omega arith)
first-put b (x ∷ xs) h = refl

pub returns-then-n-gt0-clause-bytes : goal.returns-then-n-gt0-clause-bytes
returns-then-n-gt0-clause-bytes g c =
    let files = c.files.self in
    let os = map g.R.Read.remaining files.waiting.items in
    let o = g.R.Read.remaining files.current in
    let p = g.R.Read.remaining c.read.new.self in
    let bs = take c.in_ok-n.n c.read.new.buf in
    let step = left-read files.begun o p os bs c.in_ok-n.ensures.bytes.0 in
    let is = c.is_begun-self.ensures files.begun in
    (consumes-after (left_in g.R.Read.remaining c.args.self.now) (left_of files.begun o os) (left_of c.is_begun-self.result p os) bs c.files.invariant.kept (rw is step), λ none. absurd (omega (arith, none, c.if-n-gt0.true)))

pub returns-then-self-clause-bytes : goal.returns-then-self-clause-bytes
returns-then-self-clause-bytes g c =
    let files = c.files.self in
    let rest = map g.R.Read.remaining c.pop_front.new.self.items in
    let o = g.R.Read.remaining files.current in
    let p = g.R.Read.remaining c.read.new.self in
    let next = g.R.Read.remaining c.in-Some.next in
    let none : c.in_ok-n.n ≡ 0 = omega (arith, c.if-n-gt0.false) in
    let room : 0 < length c.read.new.buf = omega (arith, c.files.invariant.room, c.read.auto.buf) in
    let read : Consumes o p [] = subst (λ n. Consumes o p (take n c.read.new.buf)) none c.in_ok-n.ensures.bytes.0 in
    let items : files.waiting.items ≡ c.in-Some.next ∷ c.pop_front.new.self.items = c.in-Some.ensures.items in
    let step : Consumes (left_of files.begun o (map g.R.Read.remaining files.waiting.items)) (left_of false next rest) (10 ∷ []) =
    rw (c.if-self.true, items) (left-ended o p next rest read (c.in_ok-n.ensures.bytes.1 none room)) in (
      rw (first-put 10 c.read.new.buf room) (consumes-after (left_in g.R.Read.remaining c.args.self.now) (left_of files.begun o (map g.R.Read.remaining files.waiting.items)) (left_of false next rest) (10 ∷ []) c.files.invariant.kept step),
      λ one. absurd (omega (arith, one)),
    )
