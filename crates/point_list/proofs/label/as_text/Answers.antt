use Rattle.point_list.proofs.Labels.{label_is_text}
use Rattle.point_list.proofs.label.as_text.Goals as goal

pub from_utf8_unchecked-requires : goal.from_utf8_unchecked-requires
from_utf8_unchecked-requires c = label_is_text c.args.label.now c.requires
