use Rattle.std.proofs.Common.{◌+◌, ◌*◌, length}
use Rattle.sheets.proofs.rows.+row_tail.Given as goal

abbrev pub decreases-row : goal.decreases-row
decreases-row l = 2 * length l.out.now

abbrev pub decreases-tail : goal.decreases-tail
decreases-tail l = 2 * length l.out.now + 1
