-- The next line of a reader.
use Rattle.std.specs.Prelude.{◌≡◌, ◌+◌, length}
use Rattle.lines.specs.Cuts.{Cut, Free}
use Rattle.lines.specs.Places.{LineAt}
use Rattle.lines.specs.declared.faults.LineFault.{LineFault}
use Rattle.lines.specs.declared.faults.LineFault.TheVariants.{Unfinished}
use Rattle.lines.specs.declared.located.Located.{Located}
use Rattle.lines.specs.declared.reader.Numbered.{Numbered}
use Rattle.lines.specs.declared.reader.Reader.{Reader}

-- the reader gave the line l: it is cut off what was left, and is the input's line of that number
pub record Next (before after : Reader) (l : Numbered) : Type 0 where
  pub cut : Cut 10 before.rest.now l.bytes.now after.rest.now
  pub number : l.number ≡ before.lines + 1
  pub counted : after.lines ≡ before.lines + 1
  pub input : after.input.now ≡ before.input.now
  pub line : LineAt before.input.now l.number l.bytes.now

-- no byte 10 was left: the next line is unfinished, and the reader stays as it was
pub record NoNext (before after : Reader) (e : Located LineFault) : Type 0 where
  pub free : Free 10 before.rest.now
  pub line : e.line ≡ before.lines + 1
  pub fault : e.fault ≡ Unfinished (length before.rest.now)
  pub kept : after ≡ before
