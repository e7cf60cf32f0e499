use Rattle.std.proofs.Common.{inl, inr}
use Rattle.aud_tap.specs.declared.records.ClientRec.TheVariants.{Conn, TextIn, BytesIn, Poll, TextOut, Lost}
use Rattle.aud_reader.proofs.ConnectionsLemmas.{connected-more}
use Rattle.aud_reader.proofs.bundle.client_log.ClientLog.connection_after.Goals as goal

pub returns-in-Conn : goal.returns-in-Conn
returns-in-Conn c = rw (← c.self.view_is, c.in-Conn.is) (connected-more c.self.inside.records (Conn c.in-Conn.c) c.self.inside.last c.self.inside.is_open c.self.invariant)

pub returns-in-Lost : goal.returns-in-Lost
returns-in-Lost c = rw (← c.self.view_is, c.in-Lost.is) (connected-more c.self.inside.records Lost c.self.inside.last c.self.inside.is_open c.self.invariant)

pub returns-in-TextIn : goal.returns-in-TextIn
returns-in-TextIn c =
    let old = c.self.invariant in
    elim c.in-TextIn.is [
      | inl is ↦ rw (← c.self.view_is, is.1) (connected-more c.self.inside.records (TextIn is.0) _ _ old)
      | inr rest ↦
          elim rest [
            | inl is ↦ rw (← c.self.view_is, is.1) (connected-more c.self.inside.records (BytesIn is.0) _ _ old)
            | inr rest ↦
                elim rest [
                  | inl is ↦ rw (← c.self.view_is, is.1) (connected-more c.self.inside.records (Poll is.0) _ _ old)
                  | inr is ↦ rw (← c.self.view_is, is.1) (connected-more c.self.inside.records (TextOut is.0) _ _ old)
                ]
          ]
    ]
