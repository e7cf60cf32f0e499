-- The input of a mode: the taps of its bundle, and the certificates where it has some.
use Rattle.std.specs.Prelude.{◌≡◌, ℕ, ◌==◌, List, [], ◌∷◌, filter, Bool, false, not, Option, Some, None, IfSome, Result, Ok, Err}
use Rattle.aud_reader.specs.declared.line.Line.{Line}
use Rattle.aud_reader.specs.declared.fault.ReadFault.{ReadFault}
use Rattle.aud_tap.specs.declared.taps.Tap.{Tap}
use Rattle.aud_reader.specs.Lines.{lines_of}
use Rattle.aud_reader.specs.Bundle.{taps_of}
use Rattle.aud_input.specs.declared.input.Layout.{Layout}
use Rattle.aud_input.specs.declared.input.Layout.TheVariants.{Bundle, BundleAndCertificates}

-- what is read: the taps of the bundle, and the lines that are certificates
pub record InputSeen : Type 0 where
  pub taps : List Tap
  pub certificates : List Line

-- a text begins with `{`
abbrev pub opens_object : List ℕ → Bool
opens_object [] = false
opens_object (b ∷ bs) = b == 123

-- a line is a certificate where it begins with `{` and certificates are looked for
abbrev pub is_certificate : Layout → Line → Bool
is_certificate Bundle line = false
is_certificate BundleAndCertificates line = opens_object line.bytes

-- the lines that are certificates
abbrev pub certificates_in : Layout → List Line → List Line
certificates_in layout lines = filter (is_certificate layout) lines

-- the lines of the bundle: all the others
abbrev pub bundle_in : Layout → List Line → List Line
bundle_in layout lines = filter (λ line. not (is_certificate layout line)) lines

-- certificates beside the taps, unless a line is refused
abbrev pub with_certificates : List Line → Result (List Tap) ReadFault → Result InputSeen ReadFault
with_certificates lines (Ok taps) = Ok (record { taps = taps; certificates = lines })
with_certificates lines (Err fault) = Err fault

-- the taps and the certificates of these lines, or the first refused line
abbrev pub parts_of : Layout → List Line → Result InputSeen ReadFault
parts_of layout lines = with_certificates (certificates_in layout lines) (taps_of (bundle_in layout lines))

-- a line that is too long is refused, unless one before it is
abbrev pub unless_cut : Option ReadFault → Result InputSeen ReadFault → Result InputSeen ReadFault
unless_cut None parts = parts
unless_cut (Some fault) (Ok input) = Err fault
unless_cut (Some fault) (Err earlier) = Err earlier

-- the taps and the certificates of an input, or its first refused line
abbrev pub input_of : Layout → List ℕ → Result InputSeen ReadFault
input_of layout bytes = unless_cut (lines_of bytes).fault (parts_of layout (lines_of bytes).lines)

-- the taps and the certificates of the bytes that a reader had left, where the reader tells them, or the first refused
-- line
abbrev pub IsInputOf : Layout → Option (List ℕ) → Result InputSeen ReadFault → Type 0
IsInputOf layout left read = (bytes : List ℕ) × IfSome left (λ told. bytes ≡ told) × (input_of layout bytes ≡ read)
