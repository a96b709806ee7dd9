use Rattle.std.proofs.Common.{◌≡◌, ◌≤◌, ◌+◌, ◌++◌, length, take, vec_len, vec_capacity}
use Rattle.office_core.proofs.growing.push_points.Given as goal

-- the rows so far were added, and there is room for the others
abbrev pub invariant-loop-row : goal.invariant-loop-row
invariant-loop-row l =
    (l.points.items ≡ l.fn.points.items ++ take l.row-index l.rows) × (vec_len l.fn.points + length l.rows ≤ vec_capacity l.points)
