use Rattle.std.proofs.Common.{sym}
use Rattle.aud_client.specs.Seen.{placed_seen}
use Rattle.aud_client.proofs.KeptPlaces.{keeps-begin, keeps-go_on}
use Rattle.aud_client.proofs.stays.Stays.take.Goals as goal

pub returns-in-Some : goal.returns-in-Some
returns-in-Some c = λ done told packets keeps.
    keeps-go_on c.args.stream.now c.args.c c.go_on.result c.args.self.now c.go_on.new.self done told packets (placed_seen c.args.placed) c.in-Some.place (sym c.in-Some.ensures)
    c.go_on.ensures.stays c.go_on.ensures.places c.go_on.ensures.open keeps

pub returns-in-None : goal.returns-in-None
returns-in-None c = λ done told packets keeps.
    keeps-begin c.args.stream.now c.args.c c.begin.result c.args.self.now c.begin.new.self done told packets (placed_seen c.args.placed) (sym c.in-None.ensures)
    c.begin.ensures.stays c.begin.ensures.places c.begin.ensures.open keeps
