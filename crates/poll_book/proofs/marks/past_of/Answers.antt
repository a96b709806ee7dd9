use Rattle.poll_book.proofs.Marked.{past_settled}
use Rattle.poll_book.proofs.marks.past_of.Goals as goal

pub returns-then-past-marks : goal.returns-then-past-marks
returns-then-past-marks c = λ points orders right. past_settled points c.args.device.now orders c.args.marks.now.settled right.1

pub returns-else-past-marks : goal.returns-else-past-marks
returns-else-past-marks c = λ points orders right. c.mark_of-past.ensures points orders right.0
