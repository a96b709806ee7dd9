-- What is shown of lines.
use Rattle.std.specs.Prelude.{List}
use Rattle.run_deeds.specs.declared.board.Board.{Board}
use Rattle.run_deeds.specs.declared.board.Standing.{Standing}

-- how they stand, in the site's order
abbrev pub lines_on : Board → List Standing
lines_on board = board.lines.items
