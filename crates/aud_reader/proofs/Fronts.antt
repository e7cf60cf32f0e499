-- The front of a list of lines.
use Rattle.std.proofs.Common.{List, [], ◌++◌, sym, append_assoc, append-nil}
use Rattle.aud_reader.specs.declared.line.Line.{Line}
use Rattle.aud_reader.specs.Lines.{IsFront}

-- all lines are a front of themselves
pub front-same : (ls : List Line) → IsFront ls ls
front-same ls = record { rest = []; is = sym (append-nil ls) }

-- a front of a front is a front
pub front-of-front : (a b c : List Line) → IsFront a b → IsFront b c → IsFront a c
front-of-front a b c first second = record { rest = first.rest ++ second.rest; is = rw (second.is, first.is) (append_assoc a first.rest second.rest) }

-- lines given before both leave a front a front
pub front-after : (given front lines : List Line) → IsFront front lines → IsFront (given ++ front) (given ++ lines)
front-after given front lines first = record { rest = first.rest; is = rw first.is (sym (append_assoc given front first.rest)) }
