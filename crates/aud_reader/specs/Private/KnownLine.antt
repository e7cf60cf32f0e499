-- A line whose tap is there, so that nothing but what stands after the name has to be read.
use Rattle.std.specs.Prelude.{◌≡◌, ℕ, List, Some, Ok}
use Rattle.aud_tap.specs.declared.taps.Tap.{Tap}
use Rattle.aud_base.specs.Steps.{◌>>=◌}
use Rattle.aud_tap.specs.Names.{place_of}
use Rattle.aud_reader.specs.Record.{json_of, opened_line}

-- the line names the tap at this place, and opens with its name wherever the text after it is JSON
pub record IsOfTapAt (taps : List Tap) (line : List ℕ) (place : ℕ) (text : List ℕ) : Type 0 where
  pub name : List ℕ
  pub at : place_of taps name ≡ Some place
  pub opens : opened_line line ≡ json_of text >>= (λ d. Ok (name, d))
