-- What it is to write on in a lent line. Nothing here is to be believed: the functions that are lent one say by `Puts` what stands there in the end.
use Rattle.std.specs.Prelude.{◌≡◌, List, ℕ, length}
use Rattle.lines.specs.declared.text.Line.{Line}
use Rattle.lines.specs.Puts.{Puts}

-- a text is written on in the line that was lent, which keeps its length
pub record Writes (line : Line) (text : List ℕ) (after : Line) : Type 0 where
  pub same : after.bytes.ghost_name ≡ line.bytes.ghost_name
  pub kept : length after.bytes.now ≡ length line.bytes.now
  pub puts : Puts line.bytes.now line.end text after.bytes.now after.end
